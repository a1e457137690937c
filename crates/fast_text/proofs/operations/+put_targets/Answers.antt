use Rattle.std.proofs.lemmas.Result.{IfOk-equal}
use Rattle.fast_text.proofs.Pieces.{targets_on}
use Rattle.fast_text.proofs.operations.+put_targets.Goals as goal

pub returns : goal.returns
returns t c =
    IfOk-equal c.put_targets.result _ _ _ c.put_targets.ensures
    (targets_on c.args.out.now.items c.put_becomes.new.out.items c.put_numbered.new.out.items c.args.count c.args.register c.args.k c.if-count-eq0.false c.in_ok-put_becomes.ensures c.in_ok-put_numbered.ensures)
