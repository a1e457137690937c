-- Index functions under the tensors of a path.
use Rattle.std.specs.Prelude.{ℕ, [], ◌∷◌}
use Rattle.index_fn.specs.Mapping.{Mapping, Same, Paired}
pub use Rattle.sigma_spl.specs.Merge.{unit_below}
pub use Rattle.sigma_spl.specs.Nest.{inner_of}
use Rattle.operators.specs.declared.paths.Tensor.TheVariants.{Blocks, Columns}
use Rattle.operators.specs.Paths.Tensors.{Path, size_under}

-- the index function of a permutation of size n under the tensors of the path
abbrev pub wrapped : Path → ℕ → Mapping → Mapping
wrapped [] n f = f
wrapped (Blocks c ∷ path) n f = Paired Same (size_under path n) (wrapped path n f) (size_under path n)
wrapped (Columns c ∷ path) n f = Paired (wrapped path n f) c Same c

-- the greatest multiple s * k that leaves 1 by r, for a k below r
abbrev pub unit_of : ℕ → ℕ → ℕ
unit_of r s = unit_below r s r
