-- The sums of a pass have the values of its places.
use Rattle.sigma_lower.proofs.Words.{◌≡◌, ℕ, refl, ap, ◌∙◌, List, [], ◌∷◌, ◌++◌, Mapping, at, Sum, value, simplified}
use Rattle.sigma_lower.proofs.Words.{through, place_sum, all_simplified, Path, place, AreFormed, sound-place_sum}
use Rattle.perm_algebra.specs.Affine.{IsSound, AreBelowCounts}
use Rattle.perm_algebra.proofs.Kept.{sound-simplified}
use Rattle.perm_algebra.proofs.Values.{simplified_keeps}
use Rattle.sigma_spl.proofs.Natural.{loop_values, value-place_sum}

-- one function after the other
pub record Follows (cs vs : ℕ → ℕ) (fs : List Mapping) (e : Sum) : Type 0 where
  pub value_is : value (all_simplified cs fs e) vs ≡ through fs (value e vs)
  pub sound : IsSound (all_simplified cs fs e)

pub follows : (cs vs : ℕ → ℕ) (fs : List Mapping) (e : Sum) → AreFormed fs → AreBelowCounts vs cs → IsSound e →
    Follows cs vs fs e
follows cs vs [] e h range sound = record { value_is = refl; sound = sound }
follows cs vs (f ∷ fs) e h range sound =
    let one = simplified_keeps cs vs f e h.0.formed h.0.no_list sound range in
    let rest = follows cs vs fs (simplified cs f e) h.1 range (sound-simplified cs f e h.0.formed h.0.no_list sound) in
    record { value_is = rest.value_is ∙ ap (through fs) one; sound = rest.sound }

pub value-at_place : (cs vs : ℕ → ℕ) (path : Path) (n : ℕ) (fs : List Mapping) (e : Sum) → AreFormed fs →
    AreBelowCounts vs cs → IsSound e →
    value (all_simplified cs fs (place_sum path n 0 e)) vs ≡ through fs
    (place path n (loop_values path 0 vs) (value e vs))
value-at_place cs vs path n fs e h range sound =
    (follows cs vs fs (place_sum path n 0 e) h range (sound-place_sum path n 0 e sound)).value_is
    ∙ ap (through fs) (value-place_sum path n 0 e vs)

pub through-end : (fs : List Mapping) (f : Mapping) (i : ℕ) → through (fs ++ f ∷ []) i ≡ at f (through fs i)
through-end [] f i = refl
through-end (g ∷ fs) f i = through-end fs f (at g i)
