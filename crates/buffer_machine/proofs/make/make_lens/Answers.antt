use Rattle.std.proofs.Common.{arith}
use Rattle.buffer_machine.proofs.Lens.{lens_more, lens_all}
use Rattle.buffer_machine.proofs.make.make_lens.Goals as goal

pub loop-phase-preserved : goal.loop-phase-preserved
loop-phase-preserved c =
    lens_more c.args.program.now c.loop-phase.lens.items c.push.new.self.items c.loop-phase.phase c.len-len.result c.loop-phase.invariant c.len-len.ensures c.in_ok-push.ensures.items

pub returns : goal.returns
returns c =
    let p = c.args.program.now in
    lens_all p c.loop-phase.lens.items c.loop-phase.phase (omega (arith, c.len-phase-end.ensures, p.phases.ok.0)) (omega (arith, c.len-phase-end.ensures, p.phases.ok.0)) c.loop-phase.invariant
