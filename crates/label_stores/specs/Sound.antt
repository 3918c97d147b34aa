-- what holds of the memory of a store
use Rattle.std.specs.Prelude.{◌≡◌, ℕ, ◌+◌, ◌*◌, ◌≤◌, List, length}
use Rattle.rules.specs.Tree.{bytes_in}
use Rattle.label_stores.specs.declared.fill.Fill.{Fill}
use Rattle.label_stores.specs.Spans.{plain_labels, Ordered}
use Rattle.label_stores.specs.Leads.{head_at, grouped_labels, GroupsAt, ShortLengths}

pub record PlainSound (bytes starts : List ℕ) (fill : Fill) : Type 0 where
  pub listed : fill.places ≤ length starts
  pub wide : fill.room ≤ length bytes
  pub sum : fill.total ≡ bytes_in (plain_labels bytes starts fill.count fill.total)
  pub ordered : Ordered starts fill.count fill.total

pub record GroupedSound (bytes starts : List ℕ) (fill : Fill) : Type 0 where
  pub listed : fill.places ≤ 16 * length starts
  pub wide : fill.room + fill.places ≤ length bytes
  pub used : head_at bytes fill.count ≡ fill.total + fill.count
  pub sum : fill.total ≡ bytes_in (grouped_labels bytes fill.count)
  pub groups : GroupsAt bytes starts fill.count
  pub short : ShortLengths bytes fill.count
