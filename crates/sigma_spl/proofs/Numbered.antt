-- Lists of numbered items.
use Rattle.std.proofs.Common.{◌≡◌, ℕ, ◌+◌, List, [], ◌∷◌, ◌++◌, arith, refl, sym, ap, ◌∙◌}
use Rattle.std.specs.Prelude.{map}
use Rattle.std.specs.List.{range_with_len}
use Rattle.std.proofs.lemmas.List.FromFn.{map-range_with_len_more}
use Rattle.perm_algebra.specs.Affine.{constant}
use Rattle.perm_algebra.specs.Views.{plain_sum}
use Rattle.perm_algebra.specs.declared.Affine.{Affine}
use Rattle.perm_algebra.specs.declared.Affine.TheVariants.{Constant}

sums_end : (xs : List Affine) (y : Affine) → map plain_sum (xs ++ y ∷ []) ≡ map plain_sum xs ++ plain_sum y ∷ []
sums_end [] y = refl
sums_end (x ∷ xs) y = ap (λ rest. plain_sum x ∷ rest) (sums_end xs y)

-- one item more
pub one-more : (f : ℕ → ℕ) (before after : List Affine) (k : ℕ) → after ≡ before ++ Constant (f k) ∷ [] →
    map plain_sum before ≡ map (λ i. constant (f i)) (range_with_len 0 k) →
    map plain_sum after ≡ map (λ i. constant (f i)) (range_with_len 0 (k + 1))
one-more f before after k is h =
    ap (map plain_sum) is ∙ sums_end before (Constant (f k)) ∙ ap (λ xs. xs ++ constant (f k) ∷ []) h ∙ sym (map-range_with_len_more (λ i. constant (f i)) 0 k k (omega arith))
