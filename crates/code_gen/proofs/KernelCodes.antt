-- The codes of kernels: of a node by its request, and of a short leaf by its matrix.
use Rattle.std.proofs.Common.{◌≡◌, ◌≢◌, ℕ, zero, suc, ◌-◌, ◌<◌, ◌≤◌, [], ◌∷◌, if◌then◌else◌, arith, refl, ap, ap₂, ◌∙◌}
use Rattle.std.proofs.Common.{◌==◌, mod-eq_of_lt}
use lib.Count.{ones}
use Rattle.kernel_gen.specs.Kernel.{kernel_of, node_kernel}
use Rattle.kernel_gen.specs.Making.{matrix_make}
use Rattle.matrix_meaning.specs.Kind.{entry_of}
use Rattle.matrix_meaning.specs.Parts.{forward_of}
use Rattle.matrix_meaning.specs.declared.Kind.TheVariants.{Dft, Wht, Idft}
use Rattle.matrix_meaning.specs.declared.Request.{Request}
use Rattle.ring_mod.specs.Residue.{power_mod}
use Rattle.ring_mod.proofs.Powers.{power_mod-zero}
use Rattle.code_gen.proofs.Powers.{power_mod-one}
use Rattle.tree_model.specs.Breakdown.{Breakdown, leaf, AllowsLeaf}
use Rattle.tree_model.proofs.WholeTrees.{forward_itself}

-- ---- a short leaf

-- the first column takes no product, so two entries are left of two rows
rows-same : (m : ℕ) (e f : ℕ → ℕ → ℕ) → e 0 1 ≡ f 0 1 → e 1 1 ≡ f 1 1 →
    matrix_make m e 2 (0 ∷ 1 ∷ []) 2 ≡ matrix_make m f 2 (0 ∷ 1 ∷ []) 2
rows-same m e f p q = ap₂ (λ a b. matrix_make m (λ i l. if i == 0 then a else b) 2 (0 ∷ 1 ∷ []) 2) p q

power-of_one : (m w : ℕ) → w < m → power_mod m w 1 ≡ w
power-of_one m w below = power_mod-one m w ∙ mod-eq_of_lt below

entry-first : (m w : ℕ) → 2 ≤ m → entry_of Dft m 2 (m - 1) 0 1 ≡ entry_of Wht m 2 w 0 1
unfolding ones
entry-first m w modulus = power_mod-zero m (m - 1) ∙ mod-eq_of_lt (omega arith)

entry-second : (m w : ℕ) → 2 ≤ m → entry_of Dft m 2 (m - 1) 1 1 ≡ entry_of Wht m 2 w 1 1
unfolding ones
entry-second m w modulus = power-of_one m (m - 1) (omega arith)

pub hadamard_code : (m w d : ℕ) → 2 ≤ m → AllowsLeaf Wht d →
    kernel_of m Dft (leaf d) (m - 1) ≡ kernel_of m Wht (leaf d) w
hadamard_code m w zero modulus h = absurd (omega (arith, h.0))
hadamard_code m w (suc zero) modulus h = refl
hadamard_code m w (suc (suc zero)) modulus h =
    rows-same m (entry_of Dft m 2 (m - 1)) (entry_of Wht m 2 w) (entry-first m w modulus) (entry-second m w modulus)
hadamard_code m w (suc (suc (suc d))) modulus h = absurd (omega (arith, h.1))

-- ---- a node

pub node_code_is : (p : Request) (t : Breakdown) → p.kind ≢ Idft → node_kernel (forward_of p) t ≡ node_kernel p t
node_code_is p t other = ap (λ (q : Request). node_kernel q t) (forward_itself p other)
