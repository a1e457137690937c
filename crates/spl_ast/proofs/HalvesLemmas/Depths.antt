-- Halves of halves are no deeper than a logarithm.
use Rattle.std.proofs.Common.{◌≡◌, ℕ, zero, suc, ◌+◌, ◌-◌, ◌*◌, ◌/◌, ◌^◌, ◌<◌, ◌≤◌, ◌∙◌, refl, sym, subst, arith, ap}
use Rattle.std.proofs.Common.{length, length-append, max, ⊎_elim, pow-suc, add-one, Box, Global}
use Rattle.std.proofs.lemmas.Bool.{cases_lt}
use Rattle.spl_ast.specs.Formula.{Formula, Identity, Fourier, Hadamard, Twiddles, Diagonal, Stride, Permutation}
use Rattle.spl_ast.specs.Formula.{GoodThomasIn, GoodThomasOut, Product, TensorLeft, TensorRight, DirectSum, Pending}
use Rattle.spl_ast.specs.Views.{formula_of}
use Rattle.spl_ast.specs.declared.Node.{Node}
use Rattle.spl_ast.specs.declared.Node.TheVariants as node
use Rattle.spl_ast.specs.declared.Spl.{Spl}
use Rattle.spl_ast.specs.Halves.Depth.{sum_depth, IsSummand, IsSumOf}
use Rattle.spl_ast.specs.Halves.Summands.{summands}

one-summand : (f : Formula) → sum_depth f ≡ 0 → length (summands f) ≡ 1
one-summand (Identity n) h = refl
one-summand (Fourier n w) h = refl
one-summand (Hadamard n) h = refl
one-summand (Twiddles n s w) h = refl
one-summand (Diagonal c) h = refl
one-summand (Stride n r) h = refl
one-summand (Permutation k) h = refl
one-summand (GoodThomasIn r s) h = refl
one-summand (GoodThomasOut r s) h = refl
one-summand (Product a b) h = refl
one-summand (TensorLeft a k) h = refl
one-summand (TensorRight k a) h = refl
one-summand (DirectSum a b) h = absurd (omega (arith, h))
one-summand (Pending a) h = refl

pub single_sum : (f : Formula) → IsSummand f → IsSumOf 1 f
single_sum f h = record {
  balanced = h.balanced;
  shallow = subst (λ n. 2 ^ n < 2 * 1) (sym h.alone) (omega arith);
  counted = one-summand f h.alone;
}

-- one more level for twice as many
level-more : (d half count : ℕ) → 2 ≤ count → 2 * half ≤ count + 1 → 2 ^ d < 2 * half → 2 ^ (d + 1) < 2 * count
level-more zero half count some twice below = omega arith
level-more (suc d) half count some twice below =
    let once : 2 ^ (suc d) ≡ 2 ^ d * 2 = pow-suc 2 d in
    let again : 2 ^ (suc d + 1) ≡ 2 ^ (suc d) * 2 = ap (λ n. 2 ^ n) (add-one (suc d)) ∙ pow-suc 2 (suc d) in
    omega (arith, once, again, below)

max-level : (d e count : ℕ) → 2 ^ (d + 1) < 2 * count → 2 ^ (e + 1) < 2 * count → 2 ^ (max d e + 1) < 2 * count
max-level d e count first second =
    ⊎_elim
    (λ l. let is : max d e ≡ e = omega (arith, l) in subst (λ n. 2 ^ (n + 1) < 2 * count) (sym is) second)
    (λ l. let is : max d e ≡ d = omega (arith, l) in subst (λ n. 2 ^ (n + 1) < 2 * count) (sym is) first)
    (cases_lt d e)

pub sum_of_halves : (count half : ℕ) (a b : Formula) → 2 ≤ count → half ≡ count / 2 → IsSumOf half a →
    IsSumOf (count - half) b → IsSumOf count (DirectSum a b)
sum_of_halves count half a b some is first second =
    let counted : length (summands (DirectSum a b)) ≡ count = length-append (summands a) (summands b) ∙ omega (arith, first.counted, second.counted, is) in
    let shallow : 2 ^ sum_depth (DirectSum a b) < 2 * count =
    max-level (sum_depth a) (sum_depth b) count
    (level-more (sum_depth a) half count some (omega (arith, is)) first.shallow)
    (level-more (sum_depth b) (count - half) count some (omega (arith, is)) second.shallow) in
    record {
      balanced = (subst (λ n. 2 ^ sum_depth (DirectSum a b) < 2 * n) (sym counted) shallow, first.balanced, second.balanced);
      shallow = shallow;
      counted = counted;
    }

-- a node without parts is no sum
pub leaf_summand : (n : Node) → ((a b : Box Spl Global) → n ≡ node.Compose a b → ⊥) →
    ((a : Box Spl Global) (k : ℕ) → n ≡ node.TensorLeft a k → ⊥) →
    ((k : ℕ) (a : Box Spl Global) → n ≡ node.TensorRight k a → ⊥) →
    ((a b : Box Spl Global) → n ≡ node.DirectSum a b → ⊥) → ((a : Box Spl Global) → n ≡ node.Todo a → ⊥) →
    IsSummand (formula_of n)
leaf_summand (node.I n) p l r s t = record { balanced = tt; alone = refl }
leaf_summand (node.Dft n w) p l r s t = record { balanced = tt; alone = refl }
leaf_summand (node.Wht n) p l r s t = record { balanced = tt; alone = refl }
leaf_summand (node.Twiddle n q w) p l r s t = record { balanced = tt; alone = refl }
leaf_summand (node.Diag c) p l r s t = record { balanced = tt; alone = refl }
leaf_summand (node.L n q) p l r s t = record { balanced = tt; alone = refl }
leaf_summand (node.Perm k) p l r s t = record { balanced = tt; alone = refl }
leaf_summand (node.GtIn q c) p l r s t = record { balanced = tt; alone = refl }
leaf_summand (node.GtOut q c) p l r s t = record { balanced = tt; alone = refl }
leaf_summand (node.Compose a b) p l r s t = absurd (p a b refl)
leaf_summand (node.TensorLeft a k) p l r s t = absurd (l a k refl)
leaf_summand (node.TensorRight k a) p l r s t = absurd (r k a refl)
leaf_summand (node.DirectSum a b) p l r s t = absurd (s a b refl)
leaf_summand (node.Todo a) p l r s t = absurd (t a refl)
