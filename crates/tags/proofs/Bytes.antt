-- a pass over the bytes of a tag
use Rattle.std.proofs.Common.{◌≡◌, ℕ, ◌+◌, ◌<◌, ◌≤◌, Bool, true, false, ◌||◌, List, length, get_or, drop, sym, ap, ◌∙◌}
use Rattle.std.proofs.lemmas.List.{at_drop_more, at_drop_all}
use Rattle.tags.specs.Tags.{is_bad, any_bad}

-- one byte more: `bad` is what the pass found before it, and `here` what it finds there
pub bad_more : (x : List ℕ) (i : ℕ) (bad here : Bool) → i < length x → here ≡ is_bad (get_or x i 0) → (bad || any_bad (drop i x)) ≡ any_bad x → ((bad || here) || any_bad (drop (i + 1) x)) ≡ any_bad x
bad_more x i true here h e inv = inv
bad_more x i false here h e inv = ap (λ (t : Bool). t || any_bad (drop (i + 1) x)) e ∙ sym (at_drop_more any_bad x i 0 h) ∙ inv

-- the pass is at its end
pub bad_all : (x : List ℕ) (i : ℕ) (bad : Bool) → length x ≤ i → (bad || any_bad (drop i x)) ≡ any_bad x → bad ≡ any_bad x
bad_all x i true h inv = inv
bad_all x i false h inv = sym (at_drop_all any_bad x i h) ∙ inv
