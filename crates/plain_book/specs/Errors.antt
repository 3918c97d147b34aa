-- the numbers of the refusals
use Rattle.std.specs.Prelude.{ℕ}
use Rattle.plain_book.specs.declared.errors.Refused.{Refused}
use Rattle.plain_book.specs.declared.errors.Refused.TheVariants.{EmptyTag, LongTag, BadByte, RowHolds, NoLiveRow, NoNodeRoom, NoByteRoom, NoSuchTicket, ShortBuffer, NoNextRoom, UnfitParts}

abbrev pub refused_number : Refused → ℕ
refused_number EmptyTag = 1
refused_number LongTag = 2
refused_number BadByte = 3
refused_number RowHolds = 4
refused_number NoLiveRow = 5
refused_number NoNodeRoom = 6
refused_number NoByteRoom = 7
refused_number NoSuchTicket = 8
refused_number ShortBuffer = 9
refused_number NoNextRoom = 10
refused_number UnfitParts = 13
