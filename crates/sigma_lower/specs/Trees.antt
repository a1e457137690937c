-- The terms of the steps of trees.
use Rattle.std.specs.Prelude.{◌*◌, List, [], ◌∷◌}
use Rattle.index_fn.specs.Mapping.{Strided, ThomasIn, ThomasBack}
use Rattle.sigma_spl.specs.Merge.{unit_below}
use Rattle.sigma_spl.specs.Nest.{twiddles}
use Rattle.sigma_spl.specs.Nest as nests
use Rattle.sigma_spl.specs.Term.{PlainTerm, same, gath, scat, diag, nest, product}
use Rattle.sigma_lower.specs.TreeTerms.Wrapped.{wrapped}
use Rattle.smp_rewrite.specs.Layout.Step.{PlainCore, piece, turns, thomas_in, thomas_out}
use Rattle.smp_rewrite.specs.Layout.Step as steps
use Rattle.operators.specs.Paths.Tensors.{Path}

abbrev pub core_term : Path → PlainCore → PlainTerm
core_term path (piece w) = nest path w
core_term path (turns r s) = gath (wrapped path (r * s) (Strided r s))
core_term path (steps.twiddles r s w) = diag path (nests.twiddles r s w)
core_term path (thomas_in r s) = gath (wrapped path (r * s) (ThomasIn r s))
core_term path (thomas_out r s) = scat (wrapped path (r * s) (ThomasBack r s (unit_below r s r) (unit_below s r s)))

-- one after the other
abbrev pub in_turn : List PlainTerm → PlainTerm
in_turn [] = same
in_turn (t ∷ ts) = product t (in_turn ts)
