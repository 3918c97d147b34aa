use Rattle.std.proofs.Common.{◌≡◌, ℕ, ◌+◌, ◌^◌, ◌<◌, ◌≤◌, Ok, sym, refl, ap, ◌∙◌, arith}
use native.Mathlib.Nat.{pow-le-pow_right}
use Rattle.std.proofs.lemmas.Bool.{true≢false}
use Rattle.parts.proofs.Powers.{rooms_next, rooms_end}
use Rattle.parts.proofs.Answered.{double_last, double_more}
use Rattle.sibling_map.specs.declared.shape.SiblingMap.{SiblingMap}
use Rattle.sibling_map.specs.Meaning.{capacity, meaning_of}
use Rattle.sibling_map.proofs.map.SiblingMapNodeMap.double.Goals as goal

fits_larger : (n a b : ℕ) → n < 2 ^ a → a ≤ b → n < 2 ^ b
fits_larger n a b h l = let m : 2 ^ a ≤ 2 ^ b = pow-le-pow_right (omega arith) l in omega arith

pub returns-then-self : goal.returns-then-self
returns-then-self c =
    let s : SiblingMap = c.args.self.now in
    let d = double_last (meaning_of s) (rooms_end capacity s.log s.top (omega arith)) in
    record { answer = sym d.0; next = sym d.1; kept = λ e. refl; memory = refl; lender = refl }

pub invariant_of-self : goal.invariant_of-self
invariant_of-self c =
    let s : SiblingMap = c.args.self.now in
    let differs : s.log ≡ s.top → ⊥ = c.if-self.false in
    record {
      fits = fits_larger _ _ _ s.fits (omega arith);
      rooms = omega (arith, s.rooms);
      most = s.most;
      whole = s.whole;
      parents = s.parents;
      symbols = s.symbols;
      distinct = s.distinct;
      laid = s.laid;
    }

pub returns : goal.returns
returns c =
    let s : SiblingMap = c.args.self.now in
    let differs : s.log ≡ s.top → ⊥ = c.if-self.false in
    let less : s.log < s.top = omega (arith, s.rooms) in
    let d = double_more (meaning_of s) _ _ (rooms_next capacity s.log (s.log + 1) s.top (omega arith) less) in
    record { answer = ap Ok c.room_at.ensures ∙ sym d.0; next = sym d.1; kept = λ e. absurd (true≢false e); memory = refl; lender = refl }
