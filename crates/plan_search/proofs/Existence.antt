-- Where the request divides, there is a tree.
use Rattle.std.proofs.Common.{◌≡◌, ◌≢◌, ℕ, zero, suc, ◌+◌, ◌*◌, ◌^◌, ◌<◌, ◌≤◌, Bool, true, false}
use Rattle.std.proofs.Common.{refl, sym, ap, ◌∙◌, subst, inl, inr, arith, mul-zero}
use Rattle.std.proofs.Math.Nat.{mul_comm, pow-succ', zero-mul, mul-le-mul_left}
use Rattle.std.proofs.lemmas.Nat.{pow_pos}
use Rattle.matrix_meaning.specs.declared.Kind.{Kind}
use Rattle.matrix_meaning.specs.declared.Kind.TheVariants.{Dft, Wht, Idft}
use Rattle.matrix_meaning.specs.declared.Request.{Request}
use Rattle.matrix_meaning.specs.Valid.{HasShape}
use Rattle.tree_model.proofs.PowerOfTwo.{even_or_odd, power_of_two, is_power_of_power}
use Rattle.tree_model.specs.declared.tree.Rule.{Rule}
use Rattle.tree_model.specs.declared.tree.Rule.TheVariants.{Ct, Split}
use Rattle.tree_model.specs.Breakdown.{Breakdown, leaf, node, size_of, AllowsRule, IsWellFormed}
use Rattle.tree_model.specs.Admissible.{Fits, RuleFits, AllowsNodeAt, CanDivide, IsCandidate}
use Rattle.tree_model.proofs.Splits.{below_product, other_below}
use Rattle.plan_search.proofs.Parts.{candidate_of}

-- a tree for the Walsh-Hadamard transform of size 2 ^ k
walsh_tree : ℕ → Breakdown
walsh_tree zero = leaf 1
walsh_tree (suc zero) = leaf 2
walsh_tree (suc (suc k)) = node Split (leaf 2) (walsh_tree (suc k))

size_of-walsh_tree : (k : ℕ) → size_of (walsh_tree k) ≡ 2 ^ k
unfolding walsh_tree
size_of-walsh_tree zero = refl
size_of-walsh_tree (suc zero) = refl
size_of-walsh_tree (suc (suc k)) = ap (λ n. 2 * n) (size_of-walsh_tree (suc k)) ∙ sym (pow-succ' 2 (suc k))

two_le_power : (k : ℕ) → 2 ≤ 2 ^ suc k
two_le_power k = let low : 0 < 2 ^ k = pow_pos k in let twice : 2 ^ suc k ≡ 2 * 2 ^ k = pow-succ' 2 k in omega arith

walsh_well_formed : (k : ℕ) → IsWellFormed Wht (walsh_tree k)
unfolding walsh_tree
walsh_well_formed zero = (omega arith, omega arith)
walsh_well_formed (suc zero) = (omega arith, omega arith)
walsh_well_formed (suc (suc k)) =
    let size : size_of (walsh_tree (suc k)) ≡ 2 ^ suc k = size_of-walsh_tree (suc k) in
    let low : 2 ≤ 2 ^ suc k = two_le_power k in
    (record { left = omega arith; right = omega arith; allowed = tt }, (omega arith, omega arith), walsh_well_formed (suc k))

-- a tree of each size that has the kind's shape; an inverse kind has none
pub tree_of_shape : (kind : Kind) (n : ℕ) → kind ≢ Idft → 1 ≤ n → HasShape kind n →
    (t : Breakdown) × IsWellFormed kind t × (size_of t ≡ n)
tree_of_shape Dft n proper low shape = (leaf n, low, refl)
tree_of_shape Wht n proper low shape =
    let power = power_of_two n shape in (walsh_tree power.0, walsh_well_formed power.0, size_of-walsh_tree power.0 ∙ sym power.1)
tree_of_shape Idft n proper low shape = absurd (proper refl)

half_left : (r s q p : ℕ) → r ≡ 2 * q → r * s ≡ 2 * p → q * s ≡ p
half_left r s q p e h = let whole : 2 * q * s ≡ 2 * p = ap (λ n. n * s) (sym e) ∙ h in omega arith

half_right : (r s q p : ℕ) → s ≡ 2 * q → r * s ≡ 2 * p → r * q ≡ p
half_right r s q p e h = let whole : r * (2 * q) ≡ 2 * p = ap (λ n. r * n) (sym e) ∙ h in omega arith

odd_product : (r s q t p : ℕ) → r ≡ 2 * q + 1 → s ≡ 2 * t + 1 → r * s ≡ 2 * p → ⊥
odd_product r s q t p e f h =
    let whole : (2 * q + 1) * (2 * t + 1) ≡ 2 * p = ap (λ n. n * (2 * t + 1)) (sym e) ∙ ap (λ n. r * n) (sym f) ∙ h in omega arith

one_of_product : (r s : ℕ) → r * s ≡ 1 → r ≡ 1
one_of_product zero s e = absurd (let none : 0 * s ≡ 0 = zero-mul s in omega arith)
one_of_product (suc zero) s e = refl
one_of_product (suc (suc r)) zero e = absurd (let none : suc (suc r) * 0 ≡ 0 = mul-zero (suc (suc r)) in omega arith)
one_of_product (suc (suc r)) (suc s) e =
    absurd (let more : suc (suc r) * 1 ≤ suc (suc r) * suc s = mul-le-mul_left (suc (suc r)) (omega arith) in omega arith)

-- a factor of a power of two is one
power_of_factor : (k r s : ℕ) → r * s ≡ 2 ^ k → (i : ℕ) × (r ≡ 2 ^ i)
power_of_factor zero r s e = (0, one_of_product r s e)
power_of_factor (suc k) r s e =
    let half : r * s ≡ 2 * 2 ^ k = e ∙ pow-succ' 2 k in
    elim (even_or_odd r) [
      | inl even ↦
          let inner = power_of_factor k even.0 s (half_left r s even.0 (2 ^ k) even.1 half) in
          (suc inner.0, even.1 ∙ ap (λ n. 2 * n) inner.1 ∙ sym (pow-succ' 2 inner.0))
      | inr odd ↦ elim (even_or_odd s) [
        | inl even ↦ power_of_factor k r even.0 (half_right r s even.0 (2 ^ k) even.1 half)
        | inr both ↦ absurd (odd_product r s odd.0 both.0 (2 ^ k) odd.1 both.1 half)
      ]
    ]

shape_of_left : (kind : Kind) (n r s : ℕ) → r * s ≡ n → HasShape kind n → HasShape kind r
shape_of_left Dft n r s e shape = tt
shape_of_left Idft n r s e shape = tt
shape_of_left Wht n r s e shape =
    let power = power_of_two n shape in
    let left = power_of_factor power.0 r s (e ∙ power.1) in
    is_power_of_power r left.0 left.1

shape_of_right : (kind : Kind) (n r s : ℕ) → r * s ≡ n → HasShape kind n → HasShape kind s
shape_of_right kind n r s e shape = shape_of_left kind n s r (mul_comm s r ∙ e) shape

-- the rule for a root that fits
root_rule : Kind → Rule
root_rule Dft = Ct
root_rule Wht = Split
root_rule Idft = Ct

root_allowed : (kind : Kind) (r s : ℕ) → kind ≢ Idft → AllowsRule kind (root_rule kind) r s
unfolding root_rule
root_allowed Dft r s proper = tt
root_allowed Wht r s proper = tt
root_allowed Idft r s proper = absurd (proper refl)

root_fits : (c : Request) (kind : Kind) (r s : ℕ) → Fits c r s → RuleFits c (root_rule kind) r s
unfolding root_rule
root_fits c Dft r s h = h
root_fits c Wht r s h = h
root_fits c Idft r s h = h

inner_candidate : (c : Request) (d : ℕ) (t : Breakdown) → IsWellFormed c.kind t → size_of t ≡ d → d < c.size →
    IsCandidate c d t
inner_candidate c d t h e less = record { well_formed = h; size = e; root = λ full spread. absurd (omega arith) }

clash : {b : Bool} → b ≡ true → b ≡ false → ⊥
clash e f = let both : true ≡ false = sym e ∙ f in grind arith

pub some_tree : (c : Request) → c.kind ≢ Idft → 1 ≤ c.size → HasShape c.kind c.size → CanDivide c →
    (t : Breakdown) × IsCandidate c c.size t
some_tree c proper low shape (inl plain) =
    let whole = tree_of_shape c.kind c.size proper low shape in
    (whole.0, record { well_formed = whole.1; size = whole.2; root = λ full spread. absurd (clash plain spread) })
some_tree c proper low shape (inr (r, s, fits)) =
    let left_shape = shape_of_left c.kind c.size r s fits.product shape in
    let right_shape = shape_of_right c.kind c.size r s fits.product shape in
    let a = tree_of_shape c.kind r proper (omega (arith, fits.left)) left_shape in
    let b = tree_of_shape c.kind s proper (omega (arith, fits.right)) right_shape in
    let allowed : AllowsNodeAt c (root_rule c.kind) r s = record {
      split = record { left = fits.left; right = fits.right; allowed = root_allowed c.kind r s proper };
      root = λ full spread. root_fits c c.kind r s fits;
    } in
    let left : IsCandidate c r a.0 = inner_candidate c r a.0 a.1 a.2 (below_product c.size r s fits.right fits.product (omega (arith, fits.left))) in
    let right : IsCandidate c s b.0 = inner_candidate c s b.0 b.1 b.2 (other_below c.size r s fits.left fits.product (omega (arith, fits.right))) in
    (node (root_rule c.kind) a.0 b.0, subst (λ (n : ℕ). IsCandidate c n (node (root_rule c.kind) a.0 b.0)) fits.product (candidate_of c r s (root_rule c.kind) a.0 b.0 allowed left right))

-- a tree for each smaller divisor of the size
pub inner_tree : (c : Request) (d s : ℕ) → c.kind ≢ Idft → 1 ≤ d → d * s ≡ c.size → d < c.size →
    HasShape c.kind c.size → (t : Breakdown) × IsCandidate c d t
inner_tree c d s proper low product less shape =
    let whole = tree_of_shape c.kind d proper low (shape_of_left c.kind c.size d s product shape) in
    (whole.0, inner_candidate c d whole.0 whole.1 whole.2 less)
