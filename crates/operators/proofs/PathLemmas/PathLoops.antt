-- A loop of gather, body and scatter: its place equation, and that it is the matrix under its tensors.
use Rattle.std.proofs.Common.{◌≡◌, ◌≢◌, ℕ, zero, suc, ◌+◌, ◌*◌, ◌/◌, ◌%◌, ◌<◌, arith, refl, sym, ap, ap₂, ◌∙◌, List, []}
use Rattle.std.proofs.Common.{◌∷◌, mod-lt, div-lt_iff_lt-mul}
use Rattle.std.specs.Prelude.{slice_index}
use Rattle.std.proofs.Math.Nat.{div-add-mod'}
use Rattle.std.proofs.lemmas.Nat.{same_from_place}
use Rattle.operators.specs.Operator.{Operator}
use Rattle.operators.specs.Sum.{sum_below, list_below}
use Rattle.operators.proofs.Lists.{at-list_below, factor_positive}
use Rattle.operators.proofs.Sums.{sum_below-same}
use Rattle.operators.proofs.Scatters.{sum_below-only, hit, miss}
use Rattle.operators.specs.declared.paths.Tensor.TheVariants.{Blocks, Columns}
use Rattle.operators.specs.Paths.Tensors.{Path, count_of, size_under, under, place, AreInRange}
use Rattle.operators.specs.Paths.Loop.{nest_sum, loop_at, loop_on, IsOneToOne, LoopIsUnder}
use Rattle.operators.proofs.PathLemmas.PathPlaces.{place-below, at-under}

pub sum_below-zero : (n : ℕ) (f : ℕ → ℕ) → ((i : ℕ) → i < n → f i ≡ 0) → sum_below n f ≡ 0
sum_below-zero zero f h = refl
sum_below-zero (suc n) f h = omega (arith, sum_below-zero n f (λ i below. h i (omega arith)), h n (omega arith))

nest-zero : (path : Path) (f : List ℕ → ℕ) → ((vs : List ℕ) → AreInRange path vs → f vs ≡ 0) → nest_sum path f ≡ 0
nest-zero [] f h = h [] tt
nest-zero (t ∷ path) f h = sum_below-zero (count_of t) _ (λ v below. nest-zero path (λ vs. f (v ∷ vs)) (λ vs range. h (v ∷ vs) (below, range)))

nest-only : (path : Path) (f : List ℕ → ℕ) (vs : List ℕ) → AreInRange path vs →
    ((ws : List ℕ) → AreInRange path ws → ws ≢ vs → f ws ≡ 0) → nest_sum path f ≡ f vs
nest-only [] f [] range h = refl
nest-only [] f (v ∷ vs) range h = absurd range
nest-only (t ∷ path) f [] range h = absurd range
nest-only (t ∷ path) f (v ∷ vs) range h =
    sum_below-only (count_of t) v _ range.0 (λ u below other. nest-zero path (λ ws. f (u ∷ ws)) (λ ws in_range. h (u ∷ ws) (below, in_range) (λ e. other (cc))))
    ∙ nest-only path (λ ws. f (v ∷ ws)) vs range.1 (λ ws in_range other. h (v ∷ ws) (range.0, in_range) (λ e. other (cc)))

-- the place equation of a loop
pub loop_at-place : (path : Path) (n : ℕ) (to value : List ℕ → ℕ → ℕ) → IsOneToOne path n to → (vs : List ℕ) (k : ℕ) →
    AreInRange path vs → k < n → loop_at path n to value (to vs k) ≡ value vs k
loop_at-place path n to value one vs k range below =
    nest-only path _ vs range (λ ws in_range other. sum_below-zero n _ (λ j within. miss (to ws j) (to vs k) (value ws j) (λ e. other (one.values ws vs j k in_range range within below e))))
    ∙ sum_below-only n k _ below (λ j within other. miss (to vs j) (to vs k) (value vs j) (λ e. other (one.places vs j k range within below e)))
    ∙ hit (to vs k) (to vs k) (value vs k) refl

-- each place is the place of some k in some copy
pub record Reached (path : Path) (n w : ℕ) : Type 0 where
  pub values : List ℕ
  pub inner : ℕ
  pub in_range : AreInRange path values
  pub below : inner < n
  pub there : place path n values inner ≡ w

pub reach : (path : Path) (n w : ℕ) → w < size_under path n → Reached path n w
reach [] n w below = record { values = []; inner = w; in_range = tt; below = below; there = refl }
reach (Blocks c ∷ path) n w below =
    let size = size_under path n in
    let positive : 0 < size = factor_positive c size w below in
    let inner : Reached path n (w % size) = reach path n (w % size) (mod-lt w positive) in
    record {
      values = (w / size) ∷ inner.values;
      inner = inner.inner;
      in_range = ((div-lt_iff_lt-mul positive).1 below, inner.in_range);
      below = inner.below;
      there = ap (λ p. w / size * size + p) inner.there ∙ div-add-mod' w size;
    }
reach (Columns c ∷ path) n w below =
    let positive : 0 < c = factor_positive (size_under path n) c w below in
    let inner : Reached path n (w / c) = reach path n (w / c) ((div-lt_iff_lt-mul positive).1 below) in
    record {
      values = (w % c) ∷ inner.values;
      inner = inner.inner;
      in_range = (mod-lt w positive, inner.in_range);
      below = inner.below;
      there = ap (λ p. p * c + w % c) inner.there ∙ div-add-mod' w c;
    }

pub record SamePlace (vs ws : List ℕ) (k j : ℕ) : Type 0 where
  pub values : vs ≡ ws
  pub inner : k ≡ j

pub place-one : (path : Path) (n : ℕ) (vs ws : List ℕ) (k j : ℕ) → AreInRange path vs → AreInRange path ws → k < n →
    j < n → place path n vs k ≡ place path n ws j → SamePlace vs ws k j
place-one [] n [] [] k j a b below within e = record { values = refl; inner = e }
place-one [] n [] (w ∷ ws) k j a b below within e = absurd b
place-one [] n (v ∷ vs) ws k j a b below within e = absurd a
place-one (t ∷ path) n [] ws k j a b below within e = absurd a
place-one (t ∷ path) n (v ∷ vs) [] k j a b below within e = absurd b
place-one (Blocks c ∷ path) n (v ∷ vs) (w ∷ ws) k j a b below within e =
    let split = same_from_place v (place path n vs k) w (place path n ws j) (size_under path n) (place-below path n vs k a.1 below) (place-below path n ws j b.1 within) e in
    let inner = place-one path n vs ws k j a.1 b.1 below within split.1 in
    record { values = ap₂ (λ x y. x ∷ y) split.0 inner.values; inner = inner.inner }
place-one (Columns c ∷ path) n (v ∷ vs) (w ∷ ws) k j a b below within e =
    let split = same_from_place (place path n vs k) v (place path n ws j) w c a.0 b.0 e in
    let inner = place-one path n vs ws k j a.1 b.1 below within split.0 in
    record { values = ap₂ (λ x y. x ∷ y) split.1 inner.values; inner = inner.inner }

pub place-one_to_one : (path : Path) (n : ℕ) → IsOneToOne path n (place path n)
place-one_to_one path n =
    record {
      values = λ vs ws k j a b below within e. (place-one path n vs ws k j a b below within e).values;
      places = λ vs k j a below within e. (place-one path n vs vs k j a a below within e).inner;
    }

-- the place equation of a loop, where its scatters meet no place twice
pub loop_on-place : (n : ℕ) (path : Path) (d : ℕ) (from : List ℕ → ℕ → ℕ) (body : List ℕ → Operator)
    (to : List ℕ → ℕ → ℕ) (x : List ℕ) → IsOneToOne path d to →
    (vs : List ℕ) (k : ℕ) → AreInRange path vs → k < d → to vs k < n →
    slice_index (loop_on n path d from body to x) (to vs k) ≡ slice_index
    (body vs (list_below d (λ j. slice_index x (from vs j)))) k
loop_on-place n path d from body to x one vs k range below there =
    at-list_below n _ (to vs k) there ∙ loop_at-place path d to _ one vs k range below

pub loop_is_under : LoopIsUnder
loop_is_under path n a x reads w below =
    let found : Reached path n w = reach path n w below in
    let there : place path n found.values found.inner < size_under path n = place-below path n found.values found.inner found.in_range found.below in
    ap (slice_index (loop_on (size_under path n) path n (place path n) (λ vs. a) (place path n) x)) (sym found.there)
    ∙ loop_on-place (size_under path n) path n (place path n) (λ vs. a) (place path n) x (place-one_to_one path n) found.values found.inner found.in_range found.below there
    ∙ sym (at-under path n a x found.values found.inner reads found.in_range found.below)
    ∙ ap (slice_index (under path n a x)) found.there

pub nest_sum-same : (path : Path) (f g : List ℕ → ℕ) → ((vs : List ℕ) → AreInRange path vs → f vs ≡ g vs) →
    nest_sum path f ≡ nest_sum path g
nest_sum-same [] f g h = h [] tt
nest_sum-same (t ∷ path) f g h = sum_below-same (count_of t) _ _ (λ v below. nest_sum-same path (λ vs. f (v ∷ vs)) (λ vs. g (v ∷ vs)) (λ vs range. h (v ∷ vs) (below, range)))
