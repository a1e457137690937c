-- Lists of certificates, member by member.
use Rattle.std.proofs.Common.{◌≡◌, ◌≢◌, ℕ, ◌+◌, ◌*◌, ◌^◌, ◌<◌, ◌≤◌, ◌==◌, false, List, [], ◌∷◌, length, refl, sym, ap}
use Rattle.std.proofs.Common.{ap₂, ◌∙◌, subst, arith}
use Rattle.std.proofs.Math.Nat.{mul-le-mul, mul-le-mul_left}
use Rattle.matrix_meaning.specs.declared.Dimensions.TheVariants.{One}
use Rattle.matrix_meaning.specs.declared.Request.{Request}
use Rattle.matrix_meaning.specs.Parts.{first_of, parts_of, rest_of}
use Rattle.matrix_meaning.specs.Valid.{IsInRange}
use Rattle.matrix_meaning.proofs.Parts.{first_at_least_two, parts_by_first, parts_size, rest_at_least_two}
use Rattle.serde_json.specs.Data.{Items, no_items, item}
use Rattle.serde_json.specs.View.{items_view, view}
use Rattle.serde_json.specs.declared.value.Value.{Value}
use Rattle.tree_model.specs.Chosen.{CanDivideWhole, IsWholeLeast}
use Rattle.tree_model.proofs.ChosenParts.{least_of_parts}
use Rattle.tree_model.proofs.CostBounds.{sum_le_product}
use Rattle.plan_cert.specs.declared.verdict.Verdict.{Verdict}
use Rattle.plan_cert.specs.declared.verdict.Verdict.TheVariants.{Least, Unread, Wrong}
use Rattle.plan_cert.specs.Certificate.{IsSmall}
use Rattle.plan_cert.specs.Verdict.{combined, IsItemsVerdict, IsValueVerdict}
use Rattle.plan_cert.proofs.ByParts.{size_of_rest}

-- ---- verdicts

-- where there are no requests, there are to be no members
pub too_many : (vs : List Value) → false ≡ (length vs == 0) → IsItemsVerdict [] (items_view vs) Unread
too_many [] e = absurd (cc)
too_many (v ∷ vs) e = refl

pub combined_sizes : (p q r s : Request) (a b whole : Verdict) → r ≡ p → s ≡ q → whole ≡ combined r.size s.size a b
    → whole ≡ combined p.size q.size a b
combined_sizes p q r s a b whole r_is s_is e =
    e ∙ ap₂ (λ (x y : Request). combined x.size y.size a b) r_is s_is

module _ (c p q : Request) (some : c.dimensions ≢ One) (p_is : p ≡ first_of c) (q_is : q ≡ rest_of c) where
  pub verdict_of_both : (vs : List Value) (v : Value) (rest : List Value) (a b whole : Verdict) → vs ≡ v ∷ rest
      → IsValueVerdict p (view v) a → IsItemsVerdict (parts_of q) (items_view rest) b
      → whole ≡ combined p.size q.size a b
      → IsItemsVerdict (parts_of c) (items_view vs) whole
  verdict_of_both vs v rest a b whole e first others is =
      let here : IsValueVerdict (first_of c) (view v) a =
      subst (λ (r : Request). IsValueVerdict r (view v) a) p_is first in
      let there : IsItemsVerdict (parts_of (rest_of c)) (items_view rest) b =
      subst (λ (r : Request). IsItemsVerdict (parts_of r) (items_view rest) b) q_is others in
      let sizes =
      ap₂ (λ n s. combined n s a b) (ap (λ (r : Request). r.size) p_is)
      (ap (λ (r : Request). r.size) q_is ∙ sym (size_of_rest c some)) in
      subst (λ (ps : List Request). IsItemsVerdict ps (items_view vs) whole) (sym (parts_by_first c some))
      (subst (λ (ws : List Value). IsItemsVerdict (first_of c ∷ parts_of (rest_of c)) (items_view ws) whole) (sym e)
      (a, b, here, there, is ∙ sizes))

-- ---- least costs

-- the verdict on the whole is a least cost where both are
both_least : (n s : ℕ) (a b : Verdict) (k : ℕ) → combined n s a b ≡ Least k
    → (x y : ℕ) × (a ≡ Least x) × (b ≡ Least y) × (k ≡ s * x + n * y)
both_least n s Unread b k e = absurd (cc)
both_least n s (Least x) Unread k e = absurd (cc)
both_least n s (Least x) (Wrong p q t) k e = absurd (cc)
both_least n s (Least x) (Least y) k e = (x, y, refl, refl, cc)
both_least n s (Wrong p q t) Unread k e = absurd (cc)
both_least n s (Wrong p q t) (Wrong p' q' t') k e = absurd (cc)
both_least n s (Wrong p q t) (Least y) k e = absurd (cc)

-- no member costs nothing
nothing_least : (xs : Items) (v : Verdict) (y : ℕ) → IsItemsVerdict [] xs v → v ≡ Least y → y ≡ 0
nothing_least no_items v y h e = let same : Least 0 ≡ Least y = sym h ∙ e in cc
nothing_least (item x xs) v y h e = let same : Unread ≡ Least y = sym h ∙ e in absurd (cc)

-- the cost of the last dimension is that of the list of its one certificate
pub last_cost : (n : ℕ) (xs : Items) (a b whole : Verdict) (k : ℕ) → IsItemsVerdict [] xs b → whole ≡ combined n 1 a b
    → whole ≡ Least k → a ≡ Least k
last_cost n xs a b whole k others is e =
    let both = both_least n 1 a b k (sym is ∙ e) in
    let none : both.1 ≡ 0 = nothing_least xs b both.1 others both.3 in
    let nothing = ap (λ z. n * z) none in
    let same : both.0 ≡ k = omega (arith, both.4, nothing) in
    both.2 ∙ ap Least same

-- the cost of both is small
both_small : (r s x y : ℕ) → 2 ≤ r → 2 ≤ s → IsSmall r x → IsSmall s y → IsSmall (r * s) (s * x + r * y)
both_small r s x y two more first others =
    let left : s * x ≤ s * (2001 * (r * r)) = mul-le-mul_left s first in
    let right : r * y ≤ r * (2001 * (s * s)) = mul-le-mul_left r others in
    let both : r * s * (r + s) ≤ r * s * (r * s) = mul-le-mul_left (r * s) (sum_le_product r s two more) in
    omega (arith, left, right, both)

-- a small cost is a `u64`
pub small_fits : (n x : ℕ) → n ≤ 1048576 → IsSmall n x → x < 2 ^ 64
small_fits n x low small =
    let square : n * n ≤ 1048576 * 1048576 = mul-le-mul {n₁ = n} {m₁ = n} {n₂ = 1048576} {m₂ = 1048576} low low in
    omega (arith, small, square)

module _ (c p q : Request) (range : IsInRange c) (some : c.dimensions ≢ One) (p_is : p ≡ first_of c)
    (q_is : q ≡ rest_of c) where
  p_size : p.size ≡ (first_of c).size
  p_size = ap (λ (r : Request). r.size) p_is

  q_size : q.size ≡ (rest_of c).size
  q_size = ap (λ (r : Request). r.size) q_is

  whole_size : c.size ≡ p.size * q.size
  whole_size = parts_size c range some ∙ sym (ap₂ (λ n s. n * s) p_size q_size)

  whole_small : (x y : ℕ) → IsSmall p.size x → IsSmall q.size y → IsSmall c.size (q.size * x + p.size * y)
  whole_small x y first others =
      let two : 2 ≤ p.size = subst (λ n. 2 ≤ n) (sym p_size) (first_at_least_two c range some) in
      let more : 2 ≤ q.size = subst (λ n. 2 ≤ n) (sym q_size) (rest_at_least_two c range some) in
      subst (λ n. IsSmall n (q.size * x + p.size * y)) (sym whole_size)
      (both_small p.size q.size x y two more first others)

  module _ (a b : Verdict) (first_small : (x : ℕ) → a ≡ Least x → IsSmall p.size x)
      (others_small : (y : ℕ) → b ≡ Least y → IsSmall q.size y) where
    pub both_fit : (x y : ℕ) → a ≡ Least x → b ≡ Least y → q.size * x + p.size * y < 2 ^ 64
    both_fit x y is_a is_b =
        small_fits c.size (q.size * x + p.size * y) range.size.1
        (whole_small x y (first_small x is_a) (others_small y is_b))

    pub small_of_both : (whole : Verdict) (k : ℕ) → whole ≡ combined p.size q.size a b → whole ≡ Least k
        → IsSmall c.size k
    small_of_both whole k is e =
        let both = both_least p.size q.size a b k (sym is ∙ e) in
        subst (IsSmall c.size) (sym both.4)
        (whole_small both.0 both.1 (first_small both.0 both.2) (others_small both.1 both.3))

  module _ (divides : CanDivideWhole c) where
    pub least_of_both : (a b whole : Verdict) → ((x : ℕ) → a ≡ Least x → IsWholeLeast p x)
        → ((y : ℕ) → b ≡ Least y → IsWholeLeast q y)
        → (k : ℕ) → whole ≡ combined p.size q.size a b → whole ≡ Least k → IsWholeLeast c k
    least_of_both a b whole first others k is e =
        let both = both_least p.size q.size a b k (sym is ∙ e) in
        let here : IsWholeLeast (first_of c) both.0 =
        subst (λ (r : Request). IsWholeLeast r both.0) p_is (first both.0 both.2) in
        let there : IsWholeLeast (rest_of c) both.1 =
        subst (λ (r : Request). IsWholeLeast r both.1) q_is (others both.1 both.3) in
        let sum : k ≡ (rest_of c).size * both.0 + (first_of c).size * both.1 =
        both.4 ∙ ap₂ (λ s n. s * both.0 + n * both.1) q_size p_size in
        (least_of_parts c k range some divides).1 (both.0, both.1, here, there, sum)
