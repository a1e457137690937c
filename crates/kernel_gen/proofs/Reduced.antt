-- The code of a tree hangs on the residue of its root alone.
use Rattle.std.proofs.Common.{◌≡◌, ℕ, ◌-◌, ◌*◌, ◌%◌, refl, ap, ap₂, ◌∙◌}
use Rattle.std.proofs.lemmas.Nat.{pow-mod}
use Rattle.kernel_gen.specs.Kernel.{columns_make, kernel_of, node_make, tree_make}
use Rattle.kernel_gen.specs.Making.{Maker, pick_make, then_make, rows_make, diagonal_make, matrix_make}
use Rattle.matrix_meaning.specs.Kind.{entry_of}
use Rattle.matrix_meaning.specs.declared.Kind.{Kind}
use Rattle.matrix_meaning.specs.declared.Kind.TheVariants.{Dft, Wht, Idft}
use Rattle.operators.specs.Identities.{turn}
use Rattle.operators.specs.Sum.{list_below}
use Rattle.ring_mod.specs.Inverse.{inverse_mod}
use Rattle.ring_mod.specs.Residue.{power_mod, product_mod}
use Rattle.tree_model.specs.Breakdown.{Breakdown, leaf, node, size_of}
use Rattle.tree_model.specs.declared.tree.Rule.{Rule}
use Rattle.tree_model.specs.declared.tree.Rule.TheVariants.{Gt, Ct, Split, Dim}

pub power_mod-reduced : (m w e : ℕ) → power_mod m (w % m) e ≡ power_mod m w e
unfolding power_mod
power_mod-reduced m w e = pow-mod w e m

powers-reduced : (m w : ℕ) → power_mod m (w % m) ≡ power_mod m w
powers-reduced m w = λ i e. power_mod-reduced m w e i

entries-reduced : (kind : Kind) (m n w : ℕ) → entry_of kind m n (w % m) ≡ entry_of kind m n w
entries-reduced Dft m n w = λ i k l. power_mod-reduced m w (k * l) i
entries-reduced Wht m n w = refl
entries-reduced Idft m n w =
    λ i k l. product_mod m (inverse_mod m n) (power_mod m (power_mod-reduced m w (n - 1) i) (k * l))

rule-reduced : (m : ℕ) (rule : Rule) (r s w : ℕ) (a b : Maker) →
    node_make m rule r s (w % m) a b ≡ node_make m rule r s w a b
rule-reduced m Gt r s w a b = refl
rule-reduced m Ct r s w a b =
    ap (λ (power : ℕ → ℕ). then_make (pick_make (turn r s)) (then_make (rows_make r s (λ i. then_make b (diagonal_make m s (λ k. power (i * k))))) (columns_make r s a))) (powers-reduced m w)
rule-reduced m Split r s w a b = refl
rule-reduced m Dim r s w a b = refl

pub tree-reduced : (m : ℕ) (kind : Kind) (t : Breakdown) (w : ℕ) → tree_make m kind t (w % m) ≡ tree_make m kind t w
tree-reduced m kind (leaf d) w = ap (λ (e : ℕ → ℕ → ℕ). matrix_make m e d) (entries-reduced kind m d w)
tree-reduced m kind (node rule a b) w =
    ap₂ (λ x y. node_make m rule (size_of a) (size_of b) (w % m) (tree_make m kind a x) (tree_make m kind b y)) (power_mod-reduced m w (size_of b)) (power_mod-reduced m w (size_of a))
    ∙ rule-reduced m rule (size_of a) (size_of b) w (tree_make m kind a (power_mod m w (size_of b))) (tree_make m kind b (power_mod m w (size_of a)))

pub kernel-reduced : (m : ℕ) (kind : Kind) (t : Breakdown) (w : ℕ) → kernel_of m kind t (w % m) ≡ kernel_of m kind t w
kernel-reduced m kind t w = ap (λ (make : Maker). make (list_below (size_of t) (λ k. k)) (size_of t)) (tree-reduced m kind t w)
