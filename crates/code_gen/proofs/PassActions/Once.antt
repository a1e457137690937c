-- Where each word of an array is stored once, there stands what one copy and one item give.
use Rattle.std.proofs.Common.{◌≡◌, ◌≢◌, ℕ, zero, suc, ◌+◌, ◌<◌, ◌≤◌, arith, refl, sym, ap, ap₂, ◌∙◌, List, [], ◌∷◌, inl}
use Rattle.std.proofs.Common.{inr, Contains, slice_index, map, ◌==◌, if◌then◌else◌}
use Rattle.std.proofs.lemmas.Bool.{cases_eq}
use Rattle.std.proofs.lemmas.Bool.Decides.{nat_tests}
use Rattle.operators.specs.Sum.{sum_below}
use Rattle.operators.proofs.Scatters.{sum_below-only, hit}
use Rattle.operators.proofs.PathLemmas.PathLoops.{sum_below-zero}
use Rattle.sigma_spl.specs.Copies.{loops_of, taken, stored, all_stored, hits}
use Rattle.sigma_spl.specs.Nest.{PlainNest, copies_of}
use Rattle.sigma_spl.proofs.CopiesMerge.{nest-none}
use Rattle.sigma_spl.proofs.Places.{nest-least}
use Rattle.operators.specs.Paths.Loop.{nest_sum, loop_at}
use Rattle.operators.specs.Paths.Tensors.{Path, count_of, AreInRange}

-- ---- sums of at most one

term_le : (n : ℕ) (h : ℕ → ℕ) (i : ℕ) → i < n → h i ≤ sum_below n h
term_le zero h i below = absurd (omega arith)
term_le (suc n) h i below =
    elim (cases_eq i n) [
      | inl last ↦ let same : h i ≡ h n = ap h last in omega arith
      | inr other ↦ let rest = term_le n h i (omega arith) in omega arith
    ]

-- two terms
terms_le : (n : ℕ) (h : ℕ → ℕ) (i j : ℕ) → i < n → j < n → i ≢ j → h i + h j ≤ sum_below n h
terms_le zero h i j below under differ = absurd (omega arith)
terms_le (suc n) h i j below under differ =
    elim (cases_eq i n) [
      | inl last ↦ let same : h i ≡ h n = ap h last in let rest = term_le n h j (let other : j ≢ n = λ e. differ (last ∙ sym e) in omega arith) in omega arith
      | inr other ↦
          elim (cases_eq j n) [
            | inl end ↦ let same : h j ≡ h n = ap h end in let rest = term_le n h i (omega arith) in omega arith
            | inr more ↦ let rest = terms_le n h i j (omega arith) (omega arith) differ in omega arith
          ]
    ]

sum-one : (n : ℕ) (h g : ℕ → ℕ) (j : ℕ) → j < n → sum_below n h ≤ 1 → 1 ≤ h j → ((i : ℕ) → i < n → h i ≡ 0 → g i ≡ 0) →
    sum_below n g ≡ g j
sum-one n h g j below most some none =
    sum_below-only n j g below (λ i inside other. none i inside (let two = terms_le n h i j inside below other in omega arith))

nest-zero : (path : Path) (h g : List ℕ → ℕ) → ((us : List ℕ) → AreInRange path us → h us ≡ 0 → g us ≡ 0) →
    nest_sum path h ≡ 0 → nest_sum path g ≡ 0
nest-zero path h g none zero_is = nest-none path g (λ us range. none us range (let le = nest-least path h us range in omega arith))

nest-one : (path : Path) (h g : List ℕ → ℕ) (vs : List ℕ) → AreInRange path vs → nest_sum path h ≤ 1 → 1 ≤ h vs →
    ((us : List ℕ) → AreInRange path us → h us ≡ 0 → g us ≡ 0) → nest_sum path g ≡ g vs
nest-one [] h g [] range most some none = refl
nest-one (t ∷ path) h g (v ∷ vs) range most some none =
    let each : ℕ → ℕ = λ u. nest_sum path (λ us. h (u ∷ us)) in
    let inner = nest-least path (λ us. h (v ∷ us)) vs range.1 in
    let outer = term_le (count_of t) each v range.0 in
    sum-one (count_of t) each (λ u. nest_sum path (λ us. g (u ∷ us))) v range.0 most (omega arith)
    (λ u below is. nest-zero path (λ us. h (u ∷ us)) (λ us. g (u ∷ us)) (λ us inside. none (u ∷ us) (below, inside)) is)
    ∙ nest-one path (λ us. h (v ∷ us)) (λ us. g (v ∷ us)) vs range.1 (omega arith) some (λ us inside. none (v ∷ us) (range.0, inside))
nest-one _ h g _ range most some none = absurd range

-- ---- loops

test-none : (a w x : ℕ) → ◌≡◌ {A = ℕ} (if a == w then 1 else 0) 0 → (if a == w then x else 0) ≡ 0
test-none a w x h = grind (arith, nat_tests)

module _ (path : Path) (d : ℕ) (to : List ℕ → ℕ → ℕ) (value : List ℕ → ℕ → ℕ) (w : ℕ) where
  abbrev met : List ℕ → ℕ → ℕ
  met vs k = if to vs k == w then 1 else 0

  abbrev put : List ℕ → ℕ → ℕ
  put vs k = if to vs k == w then value vs k else 0

  row-zero : (vs : List ℕ) → sum_below d (met vs) ≡ 0 → sum_below d (put vs) ≡ 0
  row-zero vs zero_is = sum_below-zero d (put vs) (λ k below. test-none (to vs k) w (value vs k) (let le = term_le d (met vs) k below in omega arith))

  loop-zero : loop_at path d to (λ vs k. 1) w ≡ 0 → loop_at path d to value w ≡ 0
  loop-zero = nest-zero path (λ vs. sum_below d (met vs)) (λ vs. sum_below d (put vs)) (λ vs range. row-zero vs)

  module _ (vs : List ℕ) (k : ℕ) (range : AreInRange path vs) (below : k < d) (there : to vs k ≡ w) where
    met-some : 1 ≤ sum_below d (met vs)
    met-some = let one : met vs k ≡ 1 = hit (to vs k) w 1 there in let le = term_le d (met vs) k below in omega arith

    loop-some : 1 ≤ loop_at path d to (λ us i. 1) w
    loop-some = let le = nest-least path (λ us. sum_below d (met us)) vs range in let some = met-some in omega arith

    loop-one : loop_at path d to (λ us i. 1) w ≤ 1 → loop_at path d to value w ≡ value vs k
    loop-one most =
        let le = nest-least path (λ us. sum_below d (met us)) vs range in
        nest-one path (λ us. sum_below d (met us)) (λ us. sum_below d (put us)) vs range most met-some (λ us inside. row-zero us)
        ∙ sum-one d (met vs) (put vs) k below (omega arith) (let one : met vs k ≡ 1 = hit (to vs k) w 1 there in omega arith) (λ i inside is. test-none (to vs i) w (value vs i) is)
        ∙ hit (to vs k) w (value vs k) there

-- ---- passes

abbrev pub does_to : ℕ → PlainNest → List ℕ → List ℕ → ℕ → ℕ
does_to m z x vs k = slice_index ((copies_of m z).does vs (taken (copies_of m z) vs x)) k

module _ (m : ℕ) (x : List ℕ) (w : ℕ) where
  abbrev hits_of : PlainNest → ℕ
  hits_of z = loop_at (loops_of z.counts) (copies_of m z).size (copies_of m z).to (λ vs k. 1) w

  all-zero : (zs : List PlainNest) → hits (map (copies_of m) zs) w ≡ 0 → all_stored (map (copies_of m) zs) x w ≡ 0
  all-zero [] zero_is = refl
  all-zero (z ∷ zs) zero_is =
      let mine : hits_of z ≡ 0 = omega arith in
      let rest : hits (map (copies_of m) zs) w ≡ 0 = omega arith in
      ap₂ (λ a b. a + b) (loop-zero (loops_of z.counts) (copies_of m z).size (copies_of m z).to (does_to m z x) w mine) (all-zero zs rest)

  module _ (z : PlainNest) (vs : List ℕ) (k : ℕ) (range : AreInRange (loops_of z.counts) vs)
      (below : k < (copies_of m z).size) (there : (copies_of m z).to vs k ≡ w) where
    mine-some : 1 ≤ hits_of z
    mine-some = loop-some (loops_of z.counts) (copies_of m z).size (copies_of m z).to (λ us i. 1) w vs k range below there

    some-hit : (zs : List PlainNest) → Contains zs z → 1 ≤ hits (map (copies_of m) zs) w
    some-hit [] one = absurd (omega (arith, one.1))
    some-hit (y ∷ ys) (zero, low, e) = let same : hits_of y ≡ hits_of z = ap hits_of e in let some = mine-some in omega arith
    some-hit (y ∷ ys) (suc i, low, e) = let rest = some-hit ys (i, omega arith, e) in omega arith

    pub stored-once : (zs : List PlainNest) → Contains zs z → hits (map (copies_of m) zs) w ≤ 1 →
        all_stored (map (copies_of m) zs) x w ≡ does_to m z x vs k
    stored-once [] one most = absurd (omega (arith, one.1))
    stored-once (y ∷ ys) (zero, low, e) most =
        let same : hits_of y ≡ hits_of z = ap hits_of e in
        let some = mine-some in
        let rest : hits (map (copies_of m) ys) w ≡ 0 = omega arith in
        let none : does_to m z x vs k + 0 ≡ does_to m z x vs k = omega arith in
        ap₂ (λ a b. a + b) (ap (λ (u : PlainNest). stored (copies_of m u) x w) e ∙ loop-one (loops_of z.counts) (copies_of m z).size (copies_of m z).to (does_to m z x) w vs k range below there (omega arith)) (all-zero ys rest) ∙ none
    stored-once (y ∷ ys) (suc i, low, e) most =
        let one : Contains ys z = (i, omega arith, e) in
        let some = some-hit ys one in
        let mine : hits_of y ≡ 0 = omega arith in
        let none : 0 + does_to m z x vs k ≡ does_to m z x vs k = omega arith in
        ap₂ (λ a b. a + b) (loop-zero (loops_of y.counts) (copies_of m y).size (copies_of m y).to (does_to m y x) w mine) (stored-once ys one (omega arith)) ∙ none
