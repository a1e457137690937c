-- The laws of loops, gathers and scatters.
use Rattle.std.proofs.Common.{◌≡◌, ◌≢◌, ℕ, zero, suc, ◌+◌, ◌*◌, ◌%◌, ◌<◌, arith, refl, sym, ap, ap₂, ◌∙◌, List}
use Rattle.std.proofs.Common.{mul-zero, ◌⊎◌, inl, inr, Bool, true, false}
use Rattle.std.specs.Prelude.{◌==◌, if◌then◌else◌, slice_index}
use Rattle.std.proofs.Math.Nat.{zero-mod}
use Rattle.std.proofs.lemmas.Bool.{cases_lt, cases_eq}
use Rattle.std.proofs.lemmas.Bool.Decides.{nat_tests}
use Rattle.std.proofs.lemmas.Nat.{same_from_place}
use Rattle.operators.specs.Loop.{scatter, TensorsAsLoops, GatherOfGather, ScatterOfScatter, GatherOfScale}
use Rattle.operators.specs.Loop.{ScaleOfScatter, GatherAsScatter}
use Rattle.operators.specs.Operator.{gather, scale}
use Rattle.operators.specs.Sum.{sum_below}
use Rattle.operators.proofs.Lists.{at-list_below, list_below-same, list_below-same_rows, place_below, row-of, column-of}
use Rattle.operators.proofs.Sums.{sum_below-same, sum_below-swap, sum_below-zeros}

-- a sum of which one term alone is not 0
pub sum_below-only : (n t : ℕ) (f : ℕ → ℕ) → t < n → ((i : ℕ) → i < n → i ≢ t → f i ≡ 0) → sum_below n f ≡ f t
sum_below-only zero t f below others = absurd (omega arith)
sum_below-only (suc n) t f below others =
    elim (cases_lt t n) [
      | inl before ↦
          omega (arith, sum_below-only n t f before (λ i within apart. others i (omega arith) apart), others n (omega arith) (λ e. absurd (omega arith)))
      | inr from ↦
          let last : n ≡ t = omega arith in
          omega (arith, sum_below-same n f (λ _. 0) (λ i within. others i (omega arith) (λ e. absurd (omega arith))), sum_below-zeros n, ap f last)
    ]

pub hit : (a p x : ℕ) → a ≡ p → (if a == p then x else 0) ≡ x
hit a p x e = grind (arith, nat_tests)

pub miss : (a p x : ℕ) → a ≢ p → (if a == p then x else 0) ≡ 0
miss a p x h = grind (arith, nat_tests)

-- a scatter gives the item i at the place f i, where f takes no other item there
scatter_at : (n d : ℕ) (f : ℕ → ℕ) (x : List ℕ) (p i : ℕ) → p < n → i < d → f i ≡ p →
    ((j : ℕ) → j < d → j ≢ i → f j ≢ p) → slice_index (scatter n d f x) p ≡ slice_index x i
scatter_at n d f x p i place within here others =
    at-list_below n _ p place
    ∙ sum_below-only d i _ within (λ j inside apart. miss (f j) p (slice_index x j) (others j inside apart))
    ∙ hit (f i) p (slice_index x i) here

scatter_off : (n d : ℕ) (f : ℕ → ℕ) (x : List ℕ) (p : ℕ) → p < n → ((j : ℕ) → j < d → f j ≢ p) →
    slice_index (scatter n d f x) p ≡ 0
scatter_off n d f x p place others =
    at-list_below n _ p place ∙ sum_below-same d _ (λ _. 0) (λ j inside. miss (f j) p (slice_index x j) (others j inside)) ∙ sum_below-zeros d

pub gather_of_gather : GatherOfGather
gather_of_gather n d f g x inside = list_below-same d _ _ (λ i within. at-list_below n _ (f i) (inside i within))

pub gather_of_scale : GatherOfScale
gather_of_scale m n d f c x inside =
    list_below-same d _ _ (λ i within. at-list_below n _ (f i) (inside i within) ∙ sym (ap (λ y. (c (f i) * y) % m) (at-list_below d _ i within)))

choice-sum : (b : Bool) (n : ℕ) (h : ℕ → ℕ) → (if b then sum_below n h else 0) ≡ sum_below n (λ i. if b then h i else 0)
choice-sum true n h = refl
choice-sum false n h = sym (sum_below-zeros n)

choice-zero : (b : Bool) → ◌≡◌ {A = ℕ} (if b then 0 else 0) 0
choice-zero true = refl
choice-zero false = refl

pub scatter_of_scatter : ScatterOfScatter
scatter_of_scatter n k d f g x inside =
    list_below-same n _ _ (λ p place.
    sum_below-same k _ _ (λ q within.
    ap (λ y. if f q == p then y else 0) (at-list_below k _ q within) ∙ choice-sum (f q == p) d (λ i. if g i == q then slice_index x i else 0))
    ∙ sum_below-swap k d (λ q i. if f q == p then (if g i == q then slice_index x i else 0) else 0)
    ∙ sum_below-same d _ _ (λ i within.
    sum_below-only k (g i) _ (inside i within) (λ q _ apart.
    ap (λ y. if f q == p then y else 0) (miss (g i) q (slice_index x i) (λ e. apart (sym e))) ∙ choice-zero (f q == p))
    ∙ ap (λ y. if f (g i) == p then y else 0) (hit (g i) (g i) (slice_index x i) refl)))

pub tensors_as_loops : TensorsAsLoops
tensors_as_loops n k a x = (
  list_below-same_rows k n _ _ (λ i j row below.
      ap₂ (λ u v. slice_index (a (gather n (λ l. u * n + l) x)) v) (row-of i j n below) (column-of i j n below)
      ∙ sym (sum_below-only k i _ row (λ v within apart. scatter_off (k * n) n (λ l. v * n + l) _ (i * n + j) (place_below i j k n row below) (λ l inside e. apart (same_from_place v l i j n inside below e).0))
      ∙ scatter_at (k * n) n (λ l. i * n + l) _ (i * n + j) j (place_below i j k n row below) below refl (λ l inside apart e. apart (omega arith)))),
  list_below-same_rows n k _ _ (λ i j row below.
      ap₂ (λ u v. slice_index (a (gather n (λ l. l * k + v) x)) u) (row-of i j k below) (column-of i j k below)
      ∙ sym (sum_below-only k j _ below (λ v within apart. scatter_off (n * k) n (λ l. l * k + v) _ (i * k + j) (place_below i j n k row below) (λ l inside e. apart (same_from_place l v i j k within below e).1))
      ∙ scatter_at (n * k) n (λ l. l * k + j) _ (i * k + j) i (place_below i j n k row below) row refl (λ l inside apart e. apart (same_from_place l j i j k below below e).0))),
)

-- whether f takes one of the first d places to p
find_place : (d : ℕ) (f : ℕ → ℕ) (p : ℕ) → ((i : ℕ) × (i < d) × (f i ≡ p)) ⊎ ((i : ℕ) → i < d → f i ≢ p)
find_place zero f p = inr (λ i below. absurd (omega arith))
find_place (suc d) f p =
    elim (cases_eq (f d) p) [
      | inl here ↦ inl (d, omega arith, here)
      | inr apart ↦
          elim (find_place d f p) [
            | inl (i, below, e) ↦ inl (i, omega arith, e)
            | inr none ↦ inr (λ i below. elim (cases_eq i d) [ inl same ↦ (λ e. apart (ap f (sym same) ∙ e)) | inr other ↦ none i (omega arith) ])
          ]
    ]

pub scale_of_scatter : ScaleOfScatter
scale_of_scatter m n d f c x one_to_one =
    list_below-same n _ _ (λ p place.
    elim (find_place d f p) [
      | inl (i, below, here) ↦
          let others = λ (j : ℕ) (inside : j < d) (apart : j ≢ i) (e : f j ≡ p). apart (one_to_one j i inside below (e ∙ sym here)) in
          ap (λ y. (c p * y) % m) (scatter_at n d f x p i place below here others)
          ∙ ap (λ q. (c q * slice_index x i) % m) (sym here)
          ∙ sym (at-list_below d _ i below)
          ∙ sym (scatter_at n d f (scale m d (λ i. c (f i)) x) p i place below here others)
          ∙ at-list_below n _ p place
      | inr none ↦
          ap (λ y. (c p * y) % m) (scatter_off n d f x p place none)
          ∙ ap (λ y. y % m) (mul-zero (c p))
          ∙ zero-mod m
          ∙ sym (scatter_off n d f (scale m d (λ i. c (f i)) x) p place none)
          ∙ at-list_below n _ p place
    ])

pub gather_as_scatter : GatherAsScatter
gather_as_scatter n there back x h =
    list_below-same n _ _ (λ p place.
    sym (scatter_at n n back x p (there p) place (h.there_below p place) (h.back-there p place)
    (λ j inside apart e. apart (sym (h.there-back j inside) ∙ ap there e)))
    ∙ at-list_below n _ p place)
