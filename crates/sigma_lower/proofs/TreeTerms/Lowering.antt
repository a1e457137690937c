-- Each term does what its step does.
use Rattle.sigma_lower.proofs.Words.{◌≡◌, ℕ, zero, suc, ◌*◌, ◌%◌, ◌<◌, ◌≤◌, ◌+◌, ◌/◌, arith, refl, sym, ap, ap₂, ◌∙◌}
use Rattle.sigma_lower.proofs.Words.{List, [], ◌∷◌, ◌++◌, mod-lt, subst, mul_comm, div-lt_iff_lt-mul, mul-le-mul_left}
use Rattle.sigma_lower.proofs.Words.{map, div-add-mod', fill_by_all, mul-lt, Strided, ThomasIn, ThomasOut, ThomasBack}
use Rattle.sigma_lower.proofs.Words.{at, IsPermutationBelow, gather, scale, stride, at-list_below, place_below, row-of}
use Rattle.sigma_lower.proofs.Words.{column-of, factor_positive, PlainWork, kernel, rows, tile, work_size, work_on}
use Rattle.sigma_lower.proofs.Words.{trees_of, trees_size, Layout, work, by, layout_size, IsGoodWork, IsGoodLayout}
use Rattle.sigma_lower.proofs.Words.{Target, core_size, step_on, PlainCore, piece, turns, twiddles, thomas_in}
use Rattle.sigma_lower.proofs.Words.{thomas_out, PlainStep, rule_steps, steps_of, Blocks, Columns, Path, size_under}
use Rattle.sigma_lower.proofs.Words.{under, place, size_under-push, Rule, Gt, Ct, PlainFactor, move_after, factor_step}
use Rattle.sigma_lower.proofs.Words.{nest, lowered_core, factor_term, wrapped, unit_of, stride_below, AreInverses}
use Rattle.sigma_lower.proofs.Words.{inverse_of_s, inverse_of_r, inverses_of, PlainTrees, single, tensor, core_on}
use Rattle.sigma_lower.proofs.Words.{all_on, under-size, after_core}
use Rattle.std.proofs.Common.{mul-le-mul_right}
use Rattle.std.proofs.Math.Nat.{zero-mod, mod-eq_of_lt}
use Rattle.std.proofs.lemmas.Nat.{mul-mod_second}
use Rattle.index_fn.specs.Mapping.{IsUnit}
use Rattle.index_fn.proofs.Thomas.{thomas_out_undoes, unit_from}
use Rattle.operators.specs.Loop.{scatter}
use Rattle.operators.proofs.Scatters.{gather_as_scatter}
use Rattle.tree_model.specs.KernelCosts.{CanMake}
use Rattle.tree_model.specs.Trees.{AreWords}
use Rattle.smp_rewrite.specs.Layout.Tree.{IsGoodRule}
use Rattle.smp_rewrite.proofs.Cores.{core-reads, core-gives}
use Rattle.tree_model.proofs.Sizes.{word_sizes, one_le_size_of}
use Rattle.operators.specs.Paths.Loop.{loop_on}
use Rattle.operators.proofs.PathLemmas.PathLoops.{loop_is_under}
use Rattle.tree_model.specs.Breakdown.{size_of}
use Rattle.vec_rewrite.specs.Vectors.{tiles}
use Rattle.kernel_gen.proofs.KernelSizes.{trees-positive}
use Rattle.sigma_lower.specs.TreeTerms.Term.{term_on, terms_on, diagonal_at}
use Rattle.sigma_lower.proofs.TreeTerms.Permuted.{StaysBelow, gather-under, scale-under, wrapped-permutes}
use Rattle.sigma_lower.proofs.TreeTerms.Sizes.{within_whole}
-- ---- the steps of a layout are good: of the size of the whole, and with the factors that their permutations need

pub use Rattle.sigma_lower.specs.TreeTerms.Good.{AreCoprime, IsGoodPiece, IsGoodCore, IsGood, AreGood}
pub use Rattle.sigma_lower.proofs.TreeTerms.Sizes.{part-le}

pub good-append : (n : ℕ) (ss ts : List PlainStep) → AreGood n ss → AreGood n ts → AreGood n (ss ++ ts)
good-append n [] ts h k = k
good-append n (s ∷ ss) ts h k = (h.0, good-append n ss ts h.1 k)

good_rule : (n : ℕ) (rule : Rule) (path : Path) (r s w : ℕ) (left right : List PlainStep) →
    size_under path (r * s) ≡ n → IsGoodRule rule r s →
    AreGood n left → AreGood n right → AreGood n (rule_steps rule path r s w left right)
good_rule n Gt path r s w left right e good on_left on_right =
    let h : 2 ≤ r = good.left in
    let g : 2 ≤ s = good.right in
    let both : AreCoprime r s = record { left = omega (arith, h); right = omega (arith, g); gcd = good.parts; small = good.small } in
    (record { size = e; core = both }, good-append n right _ on_right (good-append n left _ on_left (record { size = e; core = both }, tt)))
good_rule n Ct path r s w left right e good on_left on_right =
    let h : 2 ≤ r = good.left in
    let g : 2 ≤ s = good.right in
    (record { size = e; core = (omega (arith, h), omega (arith, g)) }, good-append n right _ on_right (record { size = e; core = tt }, on_left))
good_rule n _ path r s w left right e good on_left on_right = good-append n right left on_right on_left

-- trees that can be made, of few items, have words for sizes
trees-words : (m : ℕ) (trees : PlainTrees) → CanMake m trees → trees_size trees ≤ 1048576 → AreWords trees
trees-words m (single kind root t) h small = word_sizes kind t h.0 (omega (arith, small))
trees-words m (tensor kind root t others) h small =
    let left : 1 ≤ size_of t = one_le_size_of kind t h.0.0 in
    let right : 1 ≤ trees_size others = trees-positive m others h.1 in
    let one : size_of t * 1 ≤ size_of t * trees_size others = mul-le-mul_left (size_of t) right in
    let two : 1 * trees_size others ≤ size_of t * trees_size others = mul-le-mul_right (trees_size others) left in
    (word_sizes kind t h.0.0 (omega (arith, small, one)), trees-words m others h.1 (omega (arith, small, two)), omega (arith, small))

work-words : (m : ℕ) (w : PlainWork) → IsGoodWork m w → work_size w ≤ 1048576 → IsGoodPiece w
work-words m (kernel k) h small = trees-words m (trees_of k) h.trees small
work-words m (rows root size) h small = tt
work-words m _ h small = absurd h

pub good_steps : (m n : ℕ) (path : Path) (l : Layout) → 1 ≤ n → n ≤ 1048576 → IsGoodLayout m l →
    size_under path (layout_size l) ≡ n → AreGood n (steps_of path l)
good_steps m n path (work w) some high h e = (record { size = e; core = work-words m w h.1 (omega (arith, high, within_whole path (work_size w) n some e)) }, tt)
good_steps m n path (by rule root a b) some high h e =
    let r = layout_size a in
    let s = layout_size b in
    good_rule n rule path r s root _ _ e h.0
    (good_steps m n (path ++ Columns s ∷ []) a some high h.1 (size_under-push path (Columns s) r ∙ e))
    (good_steps m n (path ++ Blocks r ∷ []) b some high h.2 (size_under-push path (Blocks r) s ∙ e))

-- ---- the numbers of the inverse of a Good-Thomas step

pub units_of : (r s u : ℕ) → 0 < r → 0 < s → (s * u) % r ≡ 1 % r → IsUnit r s (unit_of r s)
units_of r s u h g e = unit_from r s r (u % r) (omega arith) (omega arith) (mod-lt u h) (mul-mod_second s u r ∙ e)

pub both_units : (r s : ℕ) → AreCoprime r s → IsUnit r s (unit_of r s) × IsUnit s r (unit_of s r)
both_units r s h = from_inverses (inverses_of r s h.left h.gcd)
  where
    from_inverses : (u : ℕ) × (v : ℕ) × AreInverses r s u v → IsUnit r s (unit_of r s) × IsUnit s r (unit_of s r)
    from_inverses (u, v, both) = (units_of r s u h.left h.right (inverse_of_s r s u v both), units_of s r v h.right h.left (inverse_of_r r s u v both))

pub thomas_permutes : (r s : ℕ) → AreCoprime r s → IsPermutationBelow (r * s) (at (ThomasOut r s))
    (at (ThomasBack r s (unit_of r s) (unit_of s r)))
thomas_permutes r s h =
    let units = both_units r s h in
    let undoes = thomas_out_undoes r s (unit_of r s) (unit_of s r) (omega (arith, h.left)) (omega (arith, h.right)) (omega (arith, h.small)) units.0 units.1 in
    record {
      there_below = λ i below. place_below (i % r) (i % s) r s (mod-lt i h.left) (mod-lt i h.right);
      back_below = undoes.permutes.below;
      back-there = undoes.undoes;
      there-back = undoes.undone;
    }

-- a unit of a size that is at least 2 is not 0
one-positive : (r e : ℕ) → 2 ≤ r → e % r ≡ 1 % r → 0 < e
one-positive r zero h e =
    let none : 0 % r ≡ 0 = zero-mod r in
    let one : 1 % r ≡ 1 = mod-eq_of_lt (omega arith) in absurd (omega arith)
one-positive r (suc e) h _ = omega arith

pub unit_positive : (r s : ℕ) → AreCoprime r s → 2 ≤ r → 2 ≤ s → (0 < unit_of r s) × (0 < unit_of s r)
unit_positive r s h two_r two_s =
    let units = both_units r s h in
    (one-positive r (unit_of r s) two_r units.0.one, one-positive s (unit_of s r) two_s units.1.one)

pub unit_small : (r s : ℕ) → AreCoprime r s → (unit_of r s < r * s) × (unit_of s r < r * s)
unit_small r s h =
    let units = both_units r s h in
    (units.0.below, subst (λ n. unit_of s r < n) (mul_comm s r) units.1.below)

-- ---- each term

-- the loops over the copies
pub nest_on : (h : Target) (path : Path) (w : PlainWork) (x : List ℕ) → size_under path (work_size w) ≡ h.size →
    term_on h (nest path w) x ≡ under path (work_size w) (work_on h.modulus w) x
nest_on h path w x e =
    let d = work_size w in
    let a = work_on h.modulus w in
    ap (λ n. loop_on n path d (place path d) (λ vs. a) (place path d) x) (sym e)
    ∙ sym (fill_by_all _ (under path d a x) (size_under path d) 0 (under-size path d a (core-gives h.modulus (piece w)) x)
    (λ k below. sym (loop_is_under path d a x (core-reads h.modulus (piece w)) k below) ∙ at-list_below (size_under path d) _ k below))

pub turns_below : (r s : ℕ) → StaysBelow (r * s) (at (Strided r s))
turns_below r s i below = (stride_below r s i below).1

-- a stride permutation is undone by that of the other numbers
turn-undone : (r s i : ℕ) → i < r * s → stride r s (stride s r i) ≡ i
turn-undone r s i below =
    let positive : 0 < r = factor_positive s r i (omega (arith, mul_comm r s)) in
    let row : i / r < s = (div-lt_iff_lt-mul positive).1 (omega (arith, mul_comm r s)) in
    ap₂ (λ a b. a * r + b) (column-of (i % r) (i / r) s row) (row-of (i % r) (i / r) s row) ∙ div-add-mod' i r

pub turns-permute : (r s : ℕ) → IsPermutationBelow (r * s) (at (Strided r s)) (at (Strided s r))
turns-permute r s =
    let turned : s * r ≡ r * s = mul_comm s r in
    record {
      there_below = turns_below r s;
      back_below = λ i below. omega (arith, turned, turns_below s r i (omega (arith, turned)));
      back-there = λ i below. turn-undone s r i (omega (arith, turned));
      there-back = turn-undone r s;
    }

pub lowered_core_on : (h : Target) (path : Path) (k : PlainCore) (x : List ℕ) → size_under path (core_size k) ≡ h.size →
    IsGoodCore k →
    term_on h (lowered_core path k) x ≡ under path (core_size k) (core_on h.modulus k) x
lowered_core_on h path (piece w) x e g = nest_on h path w x e
lowered_core_on h path (turns r s) x e g =
    ap (λ n. gather n (at (wrapped path (r * s) (Strided r s))) x) (sym e)
    ∙ sym (gather-under path (r * s) (Strided r s) x (turns_below r s))
lowered_core_on h path (twiddles r s w) x e g =
    ap (λ n. scale h.modulus n (diagonal_at h.modulus path r s w) x) (sym e) ∙ sym (scale-under path h.modulus (r * s) _ x)
lowered_core_on h path (thomas_in r s) x e g =
    let positive : 0 < r * s = mul-lt 0 0 r s g.left g.right in
    ap (λ n. gather n (at (wrapped path (r * s) (ThomasIn r s))) x) (sym e)
    ∙ sym (gather-under path (r * s) (ThomasIn r s) x (λ i below. mod-lt _ positive))
lowered_core_on h path (thomas_out r s) x e g =
    let both = thomas_permutes r s g in
    ap (λ n. scatter n n (at (wrapped path (r * s) (ThomasBack r s (unit_of r s) (unit_of s r)))) x) (sym e)
    ∙ sym (gather_as_scatter (size_under path (r * s)) _ _ x (wrapped-permutes path (r * s) (ThomasOut r s) (ThomasBack r s (unit_of r s) (unit_of s r)) both))
    ∙ sym (gather-under path (r * s) (ThomasOut r s) x both.there_below)

after_core_on : (h : Target) (path : Path) (k : PlainCore) (x : List ℕ) → size_under path (core_size k) ≡ h.size →
    IsGoodCore k →
    term_on h (after_core path k) x ≡ under path (core_size k) (core_on h.modulus k) x
after_core_on h path (turns r s) x e g =
    ap (λ n. scatter n n (at (wrapped path (r * s) (Strided s r))) x) (sym e)
    ∙ sym (gather_as_scatter (size_under path (r * s)) _ _ x (wrapped-permutes path (r * s) (Strided r s) (Strided s r) (turns-permute r s)))
    ∙ sym (gather-under path (r * s) (Strided r s) x (turns_below r s))
after_core_on h path k x e g = lowered_core_on h path k x e g

-- the term of a factor does what its step does
pub factor_on : (h : Target) (p v : ℕ) (f : PlainFactor) (x : List ℕ) → IsGood h.size (factor_step p v f) →
    term_on h (factor_term p v f) x ≡ step_on h.modulus (factor_step p v f) x
factor_on h p v (move_after s) x g = after_core_on h (factor_step p v (move_after s)).path s.core x g.size g.core
factor_on h p v (tiles path) x g = nest_on h (factor_step p v (tiles path)).path (tile v) x g.size
factor_on h p v f x g = lowered_core_on h (factor_step p v f).path (factor_step p v f).core x g.size g.core

pub factors_on : (h : Target) (p v : ℕ) (fs : List PlainFactor) (x : List ℕ) →
    AreGood h.size (map (factor_step p v) fs) → terms_on h (map (factor_term p v) fs) x
    ≡ all_on h.modulus (map (factor_step p v) fs) x
factors_on h p v [] x g = refl
factors_on h p v (f ∷ fs) x g =
    ap (terms_on h (map (factor_term p v) fs)) (factor_on h p v f x g.0) ∙ factors_on h p v fs (step_on h.modulus (factor_step p v f) x) g.1
