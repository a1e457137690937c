use Rattle.std.proofs.lemmas.Result.{IfOk-equal}
use Rattle.fast_text.proofs.Pieces.{sources_on}
use Rattle.fast_text.proofs.operations.+put_sources.Goals as goal

pub returns : goal.returns
returns t c =
    IfOk-equal c.put_sources.result _ _ _ c.put_sources.ensures
    (sources_on c.args.out.now.items c.put_numbered.new.out.items c.args.count c.args.register c.if-count-eq0.false c.in_ok-put_numbered.ensures)
