-- the step length of a tree, and the symbols of its edges
use Rattle.std.specs.Prelude.{ℕ, ◌+◌, ◌*◌, ◌%◌}
use Rattle.rules.specs.declared.step.Step.{Step}
use Rattle.rules.specs.declared.step.Step.TheVariants.{By32}

abbrev pub size : Step → ℕ
size By32 = 32

-- every symbol is below this
abbrev pub symbol_count : Step → ℕ
symbol_count step = 256 * size step

-- the symbol of a step child: that of the byte 255, which no tag has
abbrev pub step_symbol : Step → ℕ
step_symbol step = 255 * size step

-- the symbol of the child by the byte b at the place i of a label
abbrev pub branch_symbol : Step → ℕ → ℕ → ℕ
branch_symbol step b i = size step * b + i % size step
