-- A request has one chosen tree, or one first cause to be refused.
use Rattle.std.proofs.Common.{◌≡◌, ◌≤◌, Ok, Err, sym, ap, ap₂, ◌∙◌, refl, arith}
use Rattle.matrix_meaning.specs.declared.Request.{Request}
use Rattle.generate_faults.specs.declared.generate_fault.GenerateFault.{GenerateFault}
use Rattle.generate_faults.specs.declared.generate_fault.GenerateFault.TheVariants as generate
use Rattle.plan_search.proofs.OneTree.{whole_once}
use Rattle.plan_search.proofs.WholeChosen.{whole_divides, whole_least_once}
use Rattle.commands.specs.Planned.{IsAdmitted, IsBarred, IsPlanned}
use Rattle.tree_model.specs.Breakdown.{Breakdown}
use Rattle.tree_model.specs.Chosen.{whole_cost}
use Rattle.commands.proofs.ConvolutionLemmas.OneConvolution.{power_clash, power_once}

-- ---- tree

pub planned_once : (r : Request) (t u : Breakdown) → IsPlanned r (Ok t) → IsPlanned r (Ok u) → t ≡ u
planned_once r t u p q = whole_once r t u p.1 q.1

pub plan_clash : (r : Request) (t : Breakdown) (fault : GenerateFault) → IsPlanned r (Ok t)
    → IsPlanned r (Err fault) → ⊥
plan_clash r t (generate.Root power) p q = power_clash _ power p.0 q
plan_clash r t generate.NoDivide p q = q.1 (whole_divides r t p.1.tree)
plan_clash r t (generate.OverBudget cost budget) p q =
    let least : cost ≤ whole_cost r t = q.1.bound t p.1.tree in
    absurd (omega (arith, least, p.2, q.2, q.3))
plan_clash r t generate.NoMemory p q = q

pub refusal_once : (r : Request) (f g : GenerateFault) → IsPlanned r (Err f) → IsPlanned r (Err g) → f ≡ g
refusal_once r generate.NoMemory g p q = absurd p
refusal_once r f generate.NoMemory p q = absurd q
refusal_once r (generate.Root power) (generate.Root other) p q = ap generate.Root (power_once _ power other p q)
refusal_once r (generate.Root power) g p q = absurd (power_clash _ power q.0 p)
refusal_once r f (generate.Root power) p q = absurd (power_clash _ power p.0 q)
refusal_once r generate.NoDivide generate.NoDivide p q = refl
refusal_once r generate.NoDivide (generate.OverBudget cost budget) p q =
    absurd (p.1 (whole_divides r q.1.reached.0 q.1.reached.1))
refusal_once r (generate.OverBudget cost budget) generate.NoDivide p q =
    absurd (q.1 (whole_divides r p.1.reached.0 p.1.reached.1))
refusal_once r (generate.OverBudget cost budget) (generate.OverBudget other limit) p q =
    ap₂ generate.OverBudget (whole_least_once r cost other p.1 q.1) (p.2 ∙ sym q.2)

-- ---- whatever the budget

pub bar_clash : (r : Request) (fault : GenerateFault) → IsAdmitted r → IsBarred r fault → ⊥
bar_clash r (generate.Root power) p q = power_clash _ power p.0 q
bar_clash r generate.NoDivide p q = q.1 p.1
bar_clash r (generate.OverBudget cost budget) p q = q
bar_clash r generate.NoMemory p q = q

pub bar_once : (r : Request) (f g : GenerateFault) → IsBarred r f → IsBarred r g → f ≡ g
bar_once r generate.NoMemory g p q = absurd p
bar_once r (generate.OverBudget cost budget) g p q = absurd p
bar_once r f generate.NoMemory p q = absurd q
bar_once r f (generate.OverBudget cost budget) p q = absurd q
bar_once r (generate.Root power) (generate.Root other) p q = ap generate.Root (power_once _ power other p q)
bar_once r (generate.Root power) generate.NoDivide p q = absurd (power_clash _ power q.0 p)
bar_once r generate.NoDivide (generate.Root power) p q = absurd (power_clash _ power p.0 q)
bar_once r generate.NoDivide generate.NoDivide p q = refl
