-- Sizes under the tensors of a path that are words, and the item of a copy at a place.
use Rattle.std.proofs.Common.{◌≡◌, ℕ, ◌*◌, ◌/◌, ◌%◌, ◌<◌, arith, sym, ap, ◌∙◌, mod-eq_of_lt, ◌∷◌}
use Rattle.index_fn.specs.Mapping.{at}
use Rattle.sigma_spl.specs.Nest.{PlainFactors, factor_count, inner_of}
use Rattle.sigma_spl.specs.Room.{HasCount, HasRoom}
use Rattle.sigma_spl.proofs.Fitting as fitting
use Rattle.matrix_meaning.specs.Laws.{twiddle}
use Rattle.spl_ast.specs.Shape.{IsSize}
use Rattle.spl_ast.proofs.Residues.{power_of_reduced}
use Rattle.operators.specs.declared.paths.Tensor.TheVariants.{Blocks, Columns}
use Rattle.operators.specs.Paths.Tensors.{Path, size_under}

pub part_room : (path : Path) (n : ℕ) → IsSize (size_under path n) → HasRoom path n
part_room path n h = fitting.part_room path n (omega (arith, h.0)) (omega (arith, h.1))

pub has_count : (path : Path) (factors : PlainFactors) → IsSize (size_under path (factor_count factors)) →
    HasCount factors
has_count path factors h = fitting.has_count path factors (omega (arith, h.0)) (omega (arith, h.1))

pub inner_of_blocks : (c : ℕ) (path : Path) (n w : ℕ) → at (inner_of path n) (w % size_under path n)
    ≡ at (inner_of (Blocks c ∷ path) n) w
inner_of_blocks c path n w = omega arith

pub inner_of_columns : (c : ℕ) (path : Path) (n w : ℕ) → at (inner_of path n) (w / c)
    ≡ at (inner_of (Columns c ∷ path) n) w
inner_of_columns c path n w = omega arith

-- a root counts modulo m
pub twiddle_residue : (m cols root w p y : ℕ) → w ≡ root % m → y ≡ twiddle m cols w p → y < m →
    y ≡ twiddle m cols root p % m
twiddle_residue m cols root w p y is value below =
    sym (mod-eq_of_lt below) ∙ ap (λ z. z % m) (value ∙ ap (λ z. twiddle m cols z p) is ∙ power_of_reduced m root ((p / cols) * (p % cols)))
