use Rattle.std.proofs.Common.{◌≡◌, drop}
use Rattle.runs.specs.Standing.{direct}
use Rattle.runs.specs.Walks.{walked}
use Rattle.runs.proofs.direct.pass_mix.Given as goal

-- the events from this place on are still to come
abbrev pub invariant-loop-place : goal.invariant-loop-place
invariant-loop-place l =
    let code = l.fn.machine.code in
    record {
      left : walked code (direct l.machine.state) (drop l.place l.mix) ≡ walked code (direct l.fn.machine.state) l.mix;
      code : l.machine.code ≡ code;
    }
