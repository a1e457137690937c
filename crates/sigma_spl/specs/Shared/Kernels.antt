-- Kernels whose code does what they stand for.
use Rattle.std.specs.Prelude.{◌≡◌, ◌≢◌, ℕ, ◌≤◌}
use Rattle.matrix_meaning.specs.declared.Kind.TheVariants.{Idft}
use Rattle.sigma_spl.specs.Work.{PlainKernel, node_of, short, trees_of}
use Rattle.tree_model.specs.Chosen.{StandsIn}
use Rattle.tree_model.specs.KernelCosts.{CanMake}

-- a tree that stands in a request modulo m, or a leaf of at most eight items
abbrev pub HasSource : ℕ → PlainKernel → Type 0
HasSource m (node_of p t) = (p.modulus ≡ m) × (p.kind ≢ Idft) × StandsIn p t
HasSource m (short kind root size) = size ≤ 8

pub record IsMadeKernel (m : ℕ) (k : PlainKernel) : Type 0 where
  pub trees : CanMake m (trees_of k)
  pub source : HasSource m k
