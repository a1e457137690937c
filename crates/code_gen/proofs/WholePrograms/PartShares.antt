-- The parts of a pass together count what the pass does.
use Rattle.std.proofs.Common.{◌≡◌, ℕ, ◌*◌, ◌<◌, arith, ap, ◌∙◌, List}
use Rattle.icode.specs.Machine.{counts_of, weighted}
use Rattle.icode.specs.declared.action.Action.{Action}
use Rattle.operators.specs.declared.target.Target.{Target}
use Rattle.sigma_spl.specs.Nest.{PlainNest}
use Rattle.sigma_spl.specs.Shared.Costs.{pass_cost, pass_loads}
use Rattle.sigma_spl.specs.Shared.Names.{HasShares, Share}
use Rattle.code_gen.specs.PassCode.Contract.{IsPart}

-- as many such lists as there are processors
pub record CountsPass (h : Target) (zs : List PlainNest) (actions : List Action) : Type 0 where
  pub operations : (weight : ℕ) → 0 < weight →
      h.procs * weighted weight (counts_of h.lanes actions) ≡ pass_cost weight h.modulus zs
  pub loads : h.procs * (counts_of h.lanes actions).loads ≡ pass_loads zs
  pub stores : h.procs * (counts_of h.lanes actions).stores ≡ h.size

pub parts_share : (h : Target) (zs : List PlainNest) (source target : ℕ) (actions : List Action) →
    ((weight : ℕ) → HasShares h weight zs) → IsPart h zs source target actions → CountsPass h zs actions
parts_share h zs source target actions shares part =
    record {
      operations = λ weight some.
          ap (λ (s : Share). h.procs * s.operations) (part.counts weight some) ∙ (shares weight).operations;
      loads = ap (λ (s : Share). h.procs * s.loads) (part.counts 1 (omega arith)) ∙ (shares 1).loads;
      stores = ap (λ (s : Share). h.procs * s.stores) (part.counts 1 (omega arith)) ∙ (shares 1).stores;
    }
