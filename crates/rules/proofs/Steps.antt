-- the arithmetic of step lengths and symbols, by cases on the step length
use Rattle.std.proofs.Common.{◌≡◌, ℕ, suc, ◌+◌, ◌*◌, ◌/◌, ◌%◌, ◌<◌, ◌≤◌, arith}
use Rattle.rules.specs.declared.step.Step.{Step}
use Rattle.rules.specs.declared.step.Step.TheVariants.{By32}
use Rattle.rules.specs.Steps.{size, step_symbol, branch_symbol}

-- a child by a byte is no step child
pub branch_below : (step : Step) (b i : ℕ) → b < 255 → branch_symbol step b i < step_symbol step
branch_below By32 b i h = omega arith

-- the symbol gives the byte and the place back
pub branch_mod : (step : Step) (b i : ℕ) → branch_symbol step b i % size step ≡ i % size step
branch_mod By32 b i = omega arith

pub branch_div : (step : Step) (b i : ℕ) → branch_symbol step b i / size step ≡ b
branch_div By32 b i = omega arith

pub branch_same : (step : Step) (b c i j : ℕ) → branch_symbol step b i ≡ branch_symbol step c j → i / size step ≡ j / size step → (i ≡ j) × (b ≡ c)
branch_same By32 b c i j e q = (omega arith, omega arith)

pub whole : (step : Step) (i : ℕ) → size step * (i / size step) + i % size step ≡ i
whole By32 i = omega arith

pub div_le : (step : Step) (i : ℕ) → i / size step ≤ i
div_le By32 i = omega arith

pub one_more : (step : Step) (k : ℕ) → size step * suc k ≡ size step * k + size step
one_more By32 k = omega arith

pub none_yet : (step : Step) (i : ℕ) → size step * 0 + i ≡ i
none_yet By32 i = omega arith
