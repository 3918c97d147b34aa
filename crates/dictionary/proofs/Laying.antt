-- bytes laid one after another
use Rattle.std.proofs.Common.{◌≡◌, ℕ, ◌+◌, ◌<◌, List, [], ◌∷◌, ◌++◌, length, get_or, take, drop, set, append_assoc, arith, length-take}
use Rattle.std.proofs.lemmas.List.{drop-set-add, drop_more, set_at, take_more}

-- one byte of the label more, laid from `at` on over the bytes w₀
pub laid_more : (label w w₀ : List ℕ) (at i b : ℕ) → i < length label → at + i < length w₀ → b ≡ get_or label i 0 → drop at w ≡ take i label ++ drop (at + i) w₀
    → drop at (set w (at + i) b) ≡ take (i + 1) label ++ drop (at + (i + 1)) w₀
laid_more label w w₀ at i b hl hw e so_far =
    let next : ℕ = at + i + 1 in
    let same : next ≡ at + (i + 1) = omega arith in
    let old : drop (at + i) w₀ ≡ get_or w₀ (at + i) 0 ∷ drop next w₀ = drop_more w₀ (at + i) 0 hw in
    let put : set (take i label ++ (get_or w₀ (at + i) 0 ∷ drop next w₀)) i b ≡ take i label ++ (b ∷ drop next w₀) =
    set_at (take i label) (get_or w₀ (at + i) 0) (drop next w₀) b i (omega (arith, length-take i label)) in
    let one : take (i + 1) label ≡ take i label ++ (get_or label i 0 ∷ []) = take_more label i 0 hl in
    let join : (take i label ++ (b ∷ [])) ++ drop next w₀ ≡ take i label ++ (b ∷ drop next w₀) = append_assoc (take i label) (b ∷ []) (drop next w₀) in
    let there : drop at (set w (at + i) b) ≡ set (drop at w) i b = drop-set-add at w i b in
    cc
