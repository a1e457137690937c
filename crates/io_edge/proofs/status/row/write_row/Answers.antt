use Rattle.std.proofs.lemmas.Result.{err_from_is_err_and}
use Rattle.io_edge.proofs.TakenLemmas.{prefix_of_texts}
use Rattle.io_edge.proofs.status.row.write_row.Goals as goal

pub returns-in_err-write_part-clause-bytes : goal.returns-in_err-write_part-clause-bytes
returns-in_err-write_part-clause-bytes g c =
    let taken = g.E.Sink.taken in
    let p = err_from_is_err_and c.from_residual.result c.from_residual.ensures.1 in
    rw p.1 (prefix_of_texts (taken c.args.note.now) (taken c.loop-part.note) (taken c.write_part.new.note) _ c.args.parts.now c.loop-part.part-index _ c.loop-part-test.true c.loop-part.invariant.took c.in_err-write_part.ensures.bytes)
