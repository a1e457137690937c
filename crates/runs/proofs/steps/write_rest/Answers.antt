use Rattle.std.proofs.Common.{◌≡◌, ◌∙◌, ◌+◌, ◌<◌, List, [], ◌∷◌, ap, subst, sym, arith, refl, length}
use Rattle.std.specs.Prelude.{IfSome, IfNone}
use Rattle.std.proofs.lemmas.Result.{err_from_is_err_and}
use Rattle.icode.specs.declared.event.Event.{Event}
use Rattle.icode.specs.Buffers.{proc_of}
use Rattle.icode.specs.Machine.{Code}
use Rattle.runs.specs.Standing.{Standing, completion_at, stepped}
use Rattle.runs.specs.Faults.{FaultMet}
use Rattle.runs.proofs.Acts.{one_more_acts}
use Rattle.runs.proofs.FaultLemmas.{met_passes, met_prefix}
use Rattle.runs.proofs.Goes.{Goes, goes_first, goes_met, goes_on}
use Rattle.runs.proofs.steps.write_rest.Given.{Over}
use Rattle.runs.proofs.steps.write_rest.Goals as goal

pub loop-next-init : goal.loop-next-init
loop-next-init g c =
    record {
      act = λ all. all;
      goes = goes_first;
      code = refl;
      faults = refl;
      few = omega (arith, c.requires.first, c.next_step-next.ensures.few);
      found = c.next_step-next.ensures.found;
      none = c.next_step-next.ensures.none;
    }

pub loop-next-preserved : goal.loop-next-preserved
loop-next-preserved g c =
    let taken = g.O.Sink.taken in
    let own = g.E.Engine.code c.args.machine.now in
    let state = g.E.Engine.stands c.args.machine.now in
    let before = c.loop-next.invariant in
    let now = g.E.Engine.stands c.loop-next.machine in
    let next = g.E.Engine.stands c.write_step.new.machine in
    let event = c.in-Some.event in
    let found = rw c.in-Some.is at before.found in
    let step = c.in_ok-write_step.ensures in
    let same = step.code ∙ before.code in
    let moved : next ≡ stepped own now event = step.stands ∙ ap (λ (k : Code). stepped k now event) before.code in
    let r = c.next_step-next-in-Some.result in
    record {
      act = λ all. before.act (one_more_acts own now next event found.1 moved all);
      goes = subst (λ (events : List Event). Goes own (taken c.args.output.now) (taken c.write_step.new.output) state
          c.args.first (completion_at own state) next (c.loop-next.number + 1) events)
          (ap (completion_at own) (sym moved))
          (goes_on before.goes before.code found.1 step.stands (taken c.write_step.new.output) step.bytes);
      code = same;
      faults = step.cause.ok ∙ before.faults;
      few = omega (arith, before.few, ap length found.1, ap (λ (b : Standing). length (completion_at own b)) moved);
      found = subst (λ (k : Code). IfSome r (λ e. (proc_of e < k.procs)
          × (completion_at k next ≡ e ∷ completion_at k (stepped k next e)))) same
          c.next_step-next-in-Some.ensures.found;
      none = subst (λ (k : Code). IfNone r (completion_at k next ≡ [])) same c.next_step-next-in-Some.ensures.none;
    }

-- the fault met the line of this event
met : (g : Over) (c : goal.After-from_residual g) → FaultMet (g.E.Engine.code c.args.machine.now)
    (g.E.Engine.stands c.args.machine.now) c.args.first
    (completion_at (g.E.Engine.code c.args.machine.now) (g.E.Engine.stands c.args.machine.now))
    (g.E.Engine.stands c.write_step.new.machine) (g.O.Sink.taken c.args.output.now)
    (g.O.Sink.taken c.write_step.new.output)
met g c =
    let before = c.loop-next.invariant in
    let found = rw c.in-Some.is at before.found in
    let step = c.in_err-write_step.ensures in
    goes_met before.goes before.code found.1 step.stands (g.O.Sink.taken c.write_step.new.output) step.bytes

pub returns-in_err-write_step-clause-bytes : goal.returns-in_err-write_step-clause-bytes
returns-in_err-write_step-clause-bytes g c =
    let p = err_from_is_err_and c.from_residual.result c.from_residual.ensures.1 in
    rw p.1 (met_prefix (met g c))

pub returns-in_err-write_step-clause-way : goal.returns-in_err-write_step-clause-way
returns-in_err-write_step-clause-way g c = met_passes (met g c)

pub returns-in_err-write_step-clause-met : goal.returns-in_err-write_step-clause-met
returns-in_err-write_step-clause-met g c =
    let p = err_from_is_err_and c.from_residual.result c.from_residual.ensures.1 in
    rw p.1 (met g c)
