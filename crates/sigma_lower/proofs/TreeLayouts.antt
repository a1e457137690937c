-- The whole of a tree that a request admits meets what the laws of wholes ask for.
use Rattle.sigma_lower.proofs.Words.{IsMachine, IsValid, Request, target_of}
use Rattle.sigma_lower.specs.Merged.{TreesCanLower}
use Rattle.smp_rewrite.proofs.TreeLaws.{layouts_fit}
use Rattle.smp_rewrite.proofs.LayoutLemmas.Wholes.{wholes_are_good}

-- the machine of a valid request
pub machine_of : (c : Request) → IsValid c → IsMachine (target_of c)
machine_of c valid = record { size = valid.in_range.size; modulus = valid.in_range.modulus; procs = valid.in_range.procs }

pub trees_can_lower : TreesCanLower
trees_can_lower c t valid tree =
    record { machine = machine_of c valid; shares = layouts_fit c t valid tree; good = wholes_are_good c t valid tree }
