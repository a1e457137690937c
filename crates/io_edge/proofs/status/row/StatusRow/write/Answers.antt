use Rattle.std.proofs.Common.{◌++◌, ◌∙◌, sym, codes}
use Rattle.std.specs.List.{flat_map}
use Rattle.std.proofs.lemmas.Result.{err_from_is_err_and}
use Rattle.io_edge.proofs.TakenLemmas.{prefix_after, prefix_more, writes_after}
use Rattle.io_edge.proofs.StatusLemmas.Lines.{text_of, line_of-some}
use Rattle.io_edge.proofs.status.row.StatusRow.write.Goals as goal

pub returns-in_err-write_all-clause-bytes : goal.returns-in_err-write_all-clause-bytes
returns-in_err-write_all-clause-bytes g c =
    let taken = g.E.Sink.taken in
    let parts = c.as_slice-parts.result.now in
    let some = sym c.is_empty.ensures ∙ c.if-is_empty.false in
    let p = err_from_is_err_and c.from_residual.result c.from_residual.ensures.1 in
    rw (p.1, sym c.as_slice-parts.ensures.value, sym (line_of-some c.args.front.now parts some))
    (prefix_more (taken c.args.note.now) (taken c.write_all.new.sink) c.args.front.now (flat_map text_of parts ++ codes "\n") c.in_err-write_all.ensures.bytes)

pub returns-in_err-write_row-clause-bytes : goal.returns-in_err-write_row-clause-bytes
returns-in_err-write_row-clause-bytes g c =
    let taken = g.E.Sink.taken in
    let parts = c.as_slice-parts.result.now in
    let some = sym c.is_empty.ensures ∙ c.if-is_empty.false in
    let p = err_from_is_err_and c.from_residual-in_err-write_row.result c.from_residual-in_err-write_row.ensures.1 in
    rw (p.1, sym c.as_slice-parts.ensures.value, sym (line_of-some c.args.front.now parts some))
    (prefix_after (taken c.args.note.now) (taken c.write_all.new.sink) (taken c.write_row.new.note) c.args.front.now (flat_map text_of parts ++ codes "\n") c.in_ok-write_all.ensures.bytes
    (prefix_more (taken c.write_all.new.sink) (taken c.write_row.new.note) (flat_map text_of parts) (codes "\n") c.in_err-write_row.ensures.bytes))

pub returns-clause-bytes : goal.returns-clause-bytes
returns-clause-bytes g c =
    let taken = g.E.Sink.taken in
    let parts = c.as_slice-parts.result.now in
    let some = sym c.is_empty.ensures ∙ c.if-is_empty.false in
    rw (sym c.as_slice-parts.ensures.value, sym (line_of-some c.args.front.now parts some))
    (writes_after (taken c.args.note.now) (taken c.write_all.new.sink) (taken c.write_all-2.new.sink) c.args.front.now (flat_map text_of parts ++ codes "\n") _ c.in_ok-write_all.ensures.bytes
    (writes_after (taken c.write_all.new.sink) (taken c.write_row.new.note) (taken c.write_all-2.new.sink) (flat_map text_of parts) (codes "\n") _ c.in_ok-write_row.ensures.bytes c.write_all-2.ensures.bytes))
