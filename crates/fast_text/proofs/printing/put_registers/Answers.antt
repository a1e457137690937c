use Rattle.fast_text.specs.WordText.{declared_text}
use Rattle.fast_text.proofs.Pieces.{one_more}
use Rattle.fast_text.proofs.printing.put_registers.Goals as goal

pub loop-register-preserved : goal.loop-register-preserved
loop-register-preserved c =
    one_more declared_text c.loop-register.out.items c.put_register.new.out.items _ c.args.count c.loop-register.register c.loop-register-test.true c.loop-register.invariant c.in_ok-put_register.ensures
