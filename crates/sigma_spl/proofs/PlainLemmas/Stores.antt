-- One item more of a scatter.
use Rattle.std.proofs.Common.{◌≡◌, ◌≢◌, ℕ, suc, ◌+◌, ◌%◌, ◌<◌, List, length, set, get_or, arith, sym, ap, ◌∙◌, inl, inr}
use Rattle.std.proofs.Common.{add-one}
use Rattle.std.specs.Prelude.{slice_index, ◌==◌, if◌then◌else◌}
use Rattle.std.proofs.lemmas.Bool.{cases_eq}
use Rattle.std.proofs.lemmas.Bool.Decides.{nat_tests}
use Rattle.std.proofs.lemmas.List.{get_or-set_same, get_or-set_other, length-set}
use Rattle.std.proofs.lemmas.List.FromFn.{fill_by_all}
use Rattle.std.proofs.lemmas.Nat.{mod_below}
use Rattle.std.proofs.Math.Nat.{zero-mod, mod-add-mod}
use Rattle.index_fn.specs.Mapping.{Mapping, at}
use Rattle.operators.specs.Sum.{sum_below, list_below}
use Rattle.operators.proofs.Lists.{length-list_below, at-list_below, list_below-same}
use Rattle.operators.proofs.Sums.{sum_below-same}
use Rattle.sigma_spl.specs.Term.{scat, term_on}
use Rattle.sigma_spl.specs.Plain.Copies.{scatter_mod}

pub none_stored : (m n : ℕ) (f : ℕ → ℕ) (x s : List ℕ) → s ≡ list_below n (λ p. 0) → s ≡ scatter_mod m n 0 f x
none_stored m n f x s h = h ∙ list_below-same n _ _ (λ p below. sym (zero-mod m))

abbrev stored_at : ℕ → ℕ → (ℕ → ℕ) → List ℕ → ℕ → ℕ
stored_at m d f x p = sum_below d (λ i. if f i == p then slice_index x i else 0) % m

there : (m i p : ℕ) (f : ℕ → ℕ) (x : List ℕ) → f i ≡ p → (stored_at m i f x p + slice_index x i) % m
    ≡ stored_at m (suc i) f x p
there m i p f x e =
    let so_far = sum_below i (λ j. if f j == p then slice_index x j else 0) in
    let here : (if f i == p then slice_index x i else 0) ≡ slice_index x i = grind (arith, nat_tests) in
    mod-add-mod so_far m (slice_index x i) ∙ ap (λ y. (so_far + y) % m) (sym here)

elsewhere : (m i p : ℕ) (f : ℕ → ℕ) (x : List ℕ) → f i ≢ p → stored_at m i f x p ≡ stored_at m (suc i) f x p
elsewhere m i p f x other =
    let so_far = sum_below i (λ j. if f j == p then slice_index x j else 0) in
    let here : (if f i == p then slice_index x i else 0) ≡ 0 = grind (arith, nat_tests) in
    ap (λ y. y % m) (omega (arith, here))

pub one_stored : (m n i p y : ℕ) (f : ℕ → ℕ) (x s : List ℕ) → s ≡ scatter_mod m n i f x → p ≡ f i → p < n →
    y ≡ (slice_index s p + slice_index x i) % m →
    set s p y ≡ scatter_mod m n (i + 1) f x
one_stored m n i p y f x s so_far place below value =
    let long : length s ≡ n = ap length so_far ∙ length-list_below n _ in
    let step : set s p y ≡ scatter_mod m n (suc i) f x =
    fill_by_all _ (set s p y) n 0 (length-set s p y ∙ long)
    (λ k inside. elim (cases_eq k p) [
      | inl same ↦
          ap (λ q. get_or (set s p y) q 0) same
          ∙ get_or-set_same s p y 0 (omega (arith, long))
          ∙ value
          ∙ ap (λ z. (z + slice_index x i) % m) (ap (λ z. slice_index z p) so_far ∙ at-list_below n _ p below)
          ∙ there m i p f x (sym place)
          ∙ ap (stored_at m (suc i) f x) (sym same)
      | inr other ↦
          get_or-set_other s p k y 0 other
          ∙ ap (λ z. slice_index z k) so_far
          ∙ at-list_below n _ k inside
          ∙ elsewhere m i k f x (λ e. other (sym e ∙ sym place))
    ]) in
    step ∙ ap (λ d. scatter_mod m n d f x) (sym (add-one i))

pub stored_below : (m n i p : ℕ) (f : ℕ → ℕ) (x s : List ℕ) → 0 < m → s ≡ scatter_mod m n i f x → p < n →
    slice_index s p < m
stored_below m n i p f x s positive so_far below =
    let value : slice_index s p ≡ stored_at m i f x p = ap (λ z. slice_index z p) so_far ∙ at-list_below n _ p below in
    omega (arith, value, mod_below (sum_below i (λ j. if f j == p then slice_index x j else 0)) m positive)

pub stored_long : (m n i : ℕ) (f : ℕ → ℕ) (x s : List ℕ) → s ≡ scatter_mod m n i f x → length s ≡ n
stored_long m n i f x s so_far = ap length so_far ∙ length-list_below n _

-- and of all items
pub all_stored : (m n : ℕ) (f : Mapping) (x : List ℕ) → scatter_mod m n n (at f) x ≡ term_on m n (scat f) x
all_stored m n f x =
    list_below-same n _ _ (λ p below.
    ap (λ s. s % m)
    (sum_below-same n _ _ (λ k within. ap (λ z. if at f k == p then z else 0) (sym (at-list_below n (slice_index x) k within))) ∙ sym (omega arith)))
