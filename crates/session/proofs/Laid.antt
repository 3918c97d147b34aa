-- texts laid over bytes, one behind another
use Rattle.std.proofs.Common.{◌≡◌, ℕ, zero, suc, ◌+◌, ◌-◌, ◌^◌, ◌<◌, ◌≤◌, min, List, [], ◌∷◌, ◌++◌, length, take, drop, sym, refl, ap, ◌∙◌, inl, inr, append-nil, arith, length-append, length-drop, length-take}
use borrow.Rule.Slice.PartMut.{put_mid}
use Rattle.std.proofs.lemmas.List.{take_all, drop_all}
use Rattle.std.proofs.lemmas.Bool.{cases_lt}
use Rattle.session.specs.declared.output.Output.{Output}
use Rattle.session.specs.Output.{over, Wrote}

-- nothing goes over no bytes
over_none : (text : List ℕ) → over text [] ≡ []
over_none [] = refl
over_none (b ∷ text) = refl

-- as much as there is of both
pub over_is : (text held : List ℕ) (n : ℕ) → n ≡ min (length text) (length held) → over text held ≡ take n text ++ drop n held
over_is [] held n e = let z : n ≡ 0 = omega arith in rw z refl
over_is (b ∷ text) [] n e = let z : n ≡ 0 = omega arith in rw z refl
over_is (b ∷ text) (h ∷ held) n e =
    let m : ℕ = min (length text) (length held) in
    let z : n ≡ suc m = omega arith in
    rw z (ap (λ (xs : List ℕ). b ∷ xs) (over_is text held m refl))

pub length_over : (text held : List ℕ) → length (over text held) ≡ length held
length_over [] held = refl
length_over (b ∷ text) [] = refl
length_over (b ∷ text) (h ∷ held) = ap suc (length_over text held)

-- over as many bytes
pub over_all : (text held : List ℕ) → length held ≡ length text → over text held ≡ text
over_all [] [] e = refl
over_all [] (h ∷ held) e = absurd (omega arith)
over_all (b ∷ text) [] e = absurd (omega arith)
over_all (b ∷ text) (h ∷ held) e = ap (λ (xs : List ℕ). b ∷ xs) (over_all text held (omega arith))

-- one text behind another
over_append : (text more held : List ℕ) → take (length text) (over text held) ++ over more (drop (length text) (over text held)) ≡ over (text ++ more) held
over_append [] more held = refl
over_append (b ∷ text) more [] = over_none more
over_append (b ∷ text) more (h ∷ held) = ap (λ (xs : List ℕ). b ∷ xs) (over_append text more held)

-- from a place on
abbrev laid : ℕ → List ℕ → List ℕ → List ℕ
laid at text out = take at out ++ over text (drop at out)

laid_append : (at : ℕ) (text more out : List ℕ) → laid (at + length text) more (laid at text out) ≡ laid at (text ++ more) out
laid_append zero text more out = let z : 0 + length text ≡ length text = omega arith in rw z (over_append text more out)
laid_append (suc at) text more [] =
    let e = over_none text in
    let f = over_none more in
    let g = over_none (text ++ more) in
    let z : suc at + length text ≡ suc (at + length text) = omega arith in
    rw (z, e, f, g) refl
laid_append (suc at) text more (h ∷ out) =
    let z : suc at + length text ≡ suc (at + length text) = omega arith in
    rw z (ap (λ (xs : List ℕ). h ∷ xs) (laid_append at text more out))

laid_beyond : (at : ℕ) (text out : List ℕ) → length out ≤ at → laid at text out ≡ out
laid_beyond at text out h =
    let e : take at out ≡ out = take_all at out h in
    let f : drop at out ≡ [] = drop_all at out h in
    rw (e, f, over_none) (append-nil out)

length_laid : (at : ℕ) (text out : List ℕ) → length (laid at text out) ≡ length out
length_laid at text out = length-append (take at out) (over text (drop at out)) ∙ omega (arith, length_over text (drop at out), length-take at out, length-drop at out)

-- two texts, one behind the other, are one
pub joined : {o o' o'' : Output} {text more : List ℕ} → Wrote o text o' → Wrote o' more o'' → Wrote o (text ++ more) o''
joined {o} {o'} {o''} {text} {more} first second =
    let at = o.at in
    let out = o.out.now in
    let long : length o'.out.now ≡ length out = ap length first.bytes ∙ length_laid at text out in
    let behind : laid o'.at more o'.out.now ≡ laid (at + length text) more o'.out.now = elim (cases_lt (at + length text) (2 ^ 64 - 1)) [
      | inl h ↦ (let z : o'.at ≡ at + length text = omega (arith, first.count) in ap (λ (n : ℕ). laid n more o'.out.now) z)
      | inr h ↦
          let z : length o'.out.now ≤ o'.at = omega (arith, first.count, o.short) in
          let y : length o'.out.now ≤ at + length text = omega (arith, o.short) in
          laid_beyond o'.at more o'.out.now z ∙ sym (laid_beyond (at + length text) more o'.out.now y)
    ] in
    record {
      same = second.same ∙ first.same;
      bytes = second.bytes ∙ behind ∙ ap (λ (xs : List ℕ). laid (at + length text) more xs) first.bytes ∙ laid_append at text more out;
      count = second.count ∙ omega (arith, first.count, length-append text more);
    }

-- a part of the bytes, written over
pub put_within : (out text part : List ℕ) (at n k : ℕ) → at < length out → n ≡ min (length text) (length out - at) → k ≡ n → part ≡ take n text
    → put_mid at k out part ≡ take at out ++ over text (drop at out)
put_within out text part at n k h e same is =
    let m : n ≡ min (length text) (length (drop at out)) = omega (arith, length-drop at out) in
    ap (λ (j : ℕ). put_mid at j out part) same
    ∙ ap (λ (xs : List ℕ). take at out ++ (xs ++ drop n (drop at out))) is
    ∙ ap (λ (xs : List ℕ). take at out ++ xs) (sym (over_is text (drop at out) n m))

-- nothing fits behind their end
pub put_beyond : (out text : List ℕ) (at : ℕ) → length out ≤ at → out ≡ take at out ++ over text (drop at out)
put_beyond out text at h = sym (laid_beyond at text out h)
