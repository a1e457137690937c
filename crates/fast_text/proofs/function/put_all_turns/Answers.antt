use Rattle.fast_text.specs.FunctionText.{turns_text}
use Rattle.fast_text.proofs.Pieces.{one_more}
use Rattle.fast_text.proofs.function.put_all_turns.Goals as goal

pub loop-number-preserved : goal.loop-number-preserved
loop-number-preserved c =
    one_more (turns_text c.args.name.now c.args.words c.args.procs) c.loop-number.out.items c.put_turns.new.out.items _ c.args.phases c.loop-number.number c.loop-number-test.true c.loop-number.invariant c.in_ok-put_turns.ensures
