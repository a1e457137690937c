-- Bytes that are cut in two.
use Rattle.std.proofs.Common.{◌≡◌, ℕ, List, [], ◌∷◌, ◌++◌, refl, sym, ◌∙◌}

nothing_before : (xs ys : List ℕ) → xs ++ ys ≡ [] → xs ≡ []
nothing_before [] ys e = refl
nothing_before (x ∷ xs) ys e = absurd (cc)

nothing_behind : (xs ys : List ℕ) → xs ++ ys ≡ [] → ys ≡ []
nothing_behind [] ys e = e
nothing_behind (x ∷ xs) ys e = absurd (cc)

-- where there is none, there is none in either part
pub none_cut : (rest read left : List ℕ) → rest ≡ read ++ left → rest ≡ [] → (read ≡ []) × (left ≡ [])
none_cut rest read left whole end = (nothing_before read left (sym whole ∙ end), nothing_behind read left (sym whole ∙ end))
