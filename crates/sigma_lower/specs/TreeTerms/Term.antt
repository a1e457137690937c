-- Terms that gather, scatter, multiply by a diagonal, or loop over copies of a matrix.
use Rattle.std.specs.Prelude.{ℕ, ◌*◌, ◌==◌, if◌then◌else◌, List, [], ◌∷◌, ◌++◌, map}
use Rattle.index_fn.specs.Mapping.{Mapping, Strided, ThomasIn, ThomasBack, at}
use Rattle.matrix_meaning.specs.Laws.{twiddle}
use Rattle.operators.specs.Loop.{scatter}
use Rattle.operators.specs.Operator.{Operator, gather, scale}
use Rattle.smp_rewrite.specs.Cut.{layout_smp}
use Rattle.smp_rewrite.specs.Smp.{within}
use Rattle.smp_rewrite.specs.Layout.Tree.{Layout}
use Rattle.operators.specs.declared.target.Target.{Target}
use Rattle.smp_rewrite.specs.Layout.Step.{PlainStep, PlainCore, piece, turns, twiddles, thomas_in, thomas_out}
use Rattle.operators.specs.declared.paths.Tensor.TheVariants.{Blocks}
use Rattle.operators.specs.Paths.Loop.{loop_on}
use Rattle.operators.specs.Paths.Tensors.{Path, place}
use Rattle.vec_rewrite.specs.Turning.{vec_of}
use Rattle.vec_rewrite.specs.Vectors.{PlainFactor, lanes, diagonals, move_before, move_after, tiles, PlainVec}
use Rattle.vec_rewrite.specs.Vectors.{factor_step}
use Rattle.sigma_spl.specs.Work.{PlainWork, tile, work_size, work_on}
use Rattle.sigma_lower.specs.TreeTerms.Wrapped.{wrapped, inner_of, unit_of}

pub data PlainTerm : Type 0 where
  gath : (f : Mapping) → PlainTerm
  scat : (f : Mapping) → PlainTerm
  diag : (path : Path) (rows cols root : ℕ) → PlainTerm
  nest : (path : Path) (work : PlainWork) → PlainTerm

-- the factors of the diagonal of a ct under the tensors of a path, by their places in the whole
abbrev pub diagonal_at : ℕ → Path → ℕ → ℕ → ℕ → ℕ → ℕ
diagonal_at m path r s w i = twiddle m s w (at (inner_of path (r * s)) i)

-- what a term does to a list of the machine's size
abbrev pub term_on : Target → PlainTerm → Operator
term_on h (gath f) = gather h.size (at f)
term_on h (scat f) = scatter h.size h.size (at f)
term_on h (diag path r s w) = scale h.modulus h.size (diagonal_at h.modulus path r s w)
term_on h (nest path w) =
    loop_on h.size path (work_size w) (place path (work_size w)) (λ vs. work_on h.modulus w) (place path (work_size w))

-- all terms, one after the other
abbrev pub terms_on : Target → List PlainTerm → Operator
terms_on h [] x = x
terms_on h (t ∷ ts) x = terms_on h ts (term_on h t x)

-- the term of a step
abbrev pub lowered_core : Path → PlainCore → PlainTerm
lowered_core path (piece w) = nest path w
lowered_core path (turns r s) = gath (wrapped path (r * s) (Strided r s))
lowered_core path (twiddles r s w) = diag path r s w
lowered_core path (thomas_in r s) = gath (wrapped path (r * s) (ThomasIn r s))
lowered_core path (thomas_out r s) = scat (wrapped path (r * s) (ThomasBack r s (unit_of r s) (unit_of s r)))

abbrev pub lowered : PlainStep → PlainTerm
lowered s = lowered_core s.path s.core

-- the same step, where a stride permutation goes into what comes before it: its inverse says where each word is stored
abbrev pub after_core : Path → PlainCore → PlainTerm
after_core path (turns r s) = scat (wrapped path (r * s) (Strided s r))
after_core path core = lowered_core path core

abbrev pub lowered_after : PlainStep → PlainTerm
lowered_after s = after_core s.path s.core

-- the term of a factor, for p processors and v lanes
abbrev pub factor_term : ℕ → ℕ → PlainFactor → PlainTerm
factor_term p v (lanes s) = lowered (factor_step p v (lanes s))
factor_term p v (diagonals s) = lowered s
factor_term p v (move_before s) = lowered (factor_step p v (move_before s))
factor_term p v (move_after s) = lowered_after (factor_step p v (move_after s))
factor_term p v (tiles path) = nest (within (Blocks p) path) (tile v)

-- the factors between barriers: one processor has none, several have one after the root's right part
abbrev pub phases_of : PlainVec → List (List PlainFactor)
phases_of g = if g.target.procs == 1 then (g.first ++ g.second) ∷ [] else g.first ∷ g.second ∷ []

-- the terms of each phase
abbrev pub terms_in : PlainVec → List (List PlainTerm)
terms_in g = map (map (factor_term g.target.procs g.target.lanes)) (phases_of g)

abbrev pub lowered_of : Target → Layout → List (List PlainTerm)
lowered_of h l = terms_in (vec_of (layout_smp h l))

-- the terms of all phases, one after the other
abbrev pub phases_on : Target → List (List PlainTerm) → Operator
phases_on h [] x = x
phases_on h (ts ∷ more) x = phases_on h more (terms_on h ts x)
