use Rattle.std.proofs.Common.{◌≡◌, ◌+◌, ◌<◌, ◌^◌, [], ◌∷◌, length}
use Rattle.std.specs.Prelude.{IfSome, IfNone}
use Rattle.icode.specs.Buffers.{proc_of}
use Rattle.runs.specs.Course.{CompletionActs}
use Rattle.runs.specs.Standing.{completion_at, stepped}
use Rattle.runs.proofs.Goes.{Goes}
use Rattle.runs.proofs.steps.write_rest.Given as goal

abbrev pub invariant-loop-next : goal.invariant-loop-next
invariant-loop-next g l =
    let taken = g.O.Sink.taken in
    let own = g.E.Engine.code l.fn.machine in
    let state = g.E.Engine.stands l.fn.machine in
    record {
      act : CompletionActs own (g.E.Engine.stands l.machine) → CompletionActs own state;
      goes : Goes own (taken l.fn.output) (taken l.output) state l.first (completion_at own state)
          (g.E.Engine.stands l.machine) l.number (completion_at own (g.E.Engine.stands l.machine));
      code : g.E.Engine.code l.machine ≡ own;
      faults : g.O.Sink.faults l.output ≡ g.O.Sink.faults l.fn.output;
      few : l.number + length (completion_at own (g.E.Engine.stands l.machine)) < 2 ^ 64;
      found : IfSome l.next (λ e. (proc_of e < own.procs) × (completion_at own (g.E.Engine.stands l.machine) ≡ e
          ∷ completion_at own (stepped own (g.E.Engine.stands l.machine) e)));
      none : IfNone l.next (completion_at own (g.E.Engine.stands l.machine) ≡ []);
    }

abbrev pub decreases-loop-next : goal.decreases-loop-next
decreases-loop-next g l = length (completion_at (g.E.Engine.code l.machine) (g.E.Engine.stands l.machine))
