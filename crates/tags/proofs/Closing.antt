-- the closing byte, and what lies behind it
use Rattle.std.proofs.Common.{◌≡◌, ℕ, ◌+◌, ◌-◌, ◌<◌, ◌≤◌, List, [], ◌∷◌, ◌++◌, length, get_or, drop, set, replicate, sym, refl, ap, ◌∙◌, arith}
use Rattle.std.proofs.lemmas.List.{append_assoc, drop_more, drop-replicate, set_at}
use Rattle.tags.specs.Tags.{padded, spelled}

pub closed : (tag front old : List ℕ) → front ≡ tag → length tag < length old → set (front ++ drop (length tag) old) (length tag) 0 ≡ spelled tag ++ drop (length tag + 1) old
unfolding spelled
closed tag front old e h =
    rw (e, drop_more old (length tag) 0 h)
    (set_at tag (get_or old (length tag) 0) (drop (length tag + 1) old) 0 (length tag) refl ∙ sym (append_assoc tag (0 ∷ []) (drop (length tag + 1) old)))

pub zeros_behind : (tag : List ℕ) → length tag ≤ 200 → spelled tag ++ drop (length tag + 1) (replicate 201 0) ≡ padded tag
zeros_behind tag h =
    ap (λ (rest : List ℕ). spelled tag ++ rest)
    (drop-replicate {X = ℕ} (length tag + 1) 201 0 ∙ ap (λ (n : ℕ). replicate n 0) (let n : 201 - (length tag + 1) ≡ 200 - length tag = omega arith in n))
