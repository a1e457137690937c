-- What the formula of a chosen tree asks for.
use Rattle.std.proofs.Common.{◌≡◌, ◌%◌, Ok, subst}
use Rattle.std.proofs.Math.Nat.{mod_self}
use Rattle.generate.specs.Planned.{IsPlanned}
use Rattle.matrix_meaning.specs.declared.Request.{Request}
use Rattle.tree_model.specs.Breakdown.{Breakdown, size_of}
use Rattle.tree_model.specs.Chosen.{IsWholeTree, StandsIn}

whole_stands : (r : Request) (t : Breakdown) → IsWholeTree r t → StandsIn r t
whole_stands r t h = (h.tree, subst (λ n. n % size_of t ≡ 0) h.size (mod_self (size_of t)))

-- the chosen tree stands in its request
pub planned_stands : (r : Request) (t : Breakdown) → IsPlanned r (Ok t) → StandsIn r t
planned_stands r t p = whole_stands r t p.1.tree
