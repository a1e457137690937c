use Rattle.std.proofs.Common.{Some, refl, ap, sym, subst, ◌∙◌}
use Rattle.listing_text.specs.Lines.{later}
use Rattle.listing_text.specs.Progress.{plain_progress, progress_or_none, step, finish}
use Rattle.listing_text.specs.Reads.{Reads}
use Rattle.listing_text.proofs.LineReaders.{read_rest}
use Rattle.listing_text.proofs.LineCalls.{line_fails, line_taken, line_counted}
use Rattle.listing_text.proofs.reader.read.Goals as goal

pub returns-in-Err-Line : goal.returns-in-Err-Line
returns-in-Err-Line g c = (
  c.loop-cut.lines,
  refl,
  line_fails (step g.L.Language.wording g.L.Language.grammar) finish (progress_or_none c.loop-cut.progress) c.loop-cut.rest.now c.in-Some.cut.0.now c.in-Some.cut.1.now c.loop-cut.lines _ c.in-Some.ensures.0 c.in-Some.ensures.1 (rw c.in-Err-Line.field-0-is at c.in-Err-Line.ensures) c.loop-cut.invariant.so_far,
)

pub loop-cut-preserved : goal.loop-cut-preserved
loop-cut-preserved g c = record {
  so_far = line_taken (step g.L.Language.wording g.L.Language.grammar) finish (progress_or_none c.loop-cut.progress) (Some (plain_progress c.in-Ok.next)) c.loop-cut.rest.now c.in-Some.cut.0.now c.in-Some.cut.1.now c.loop-cut.lines _ c.in-Some.ensures.0 c.in-Some.ensures.1 c.in-Ok.ensures c.loop-cut.invariant.so_far;
  within = line_counted c.loop-cut.rest.now c.in-Some.cut.0.now c.in-Some.cut.1.now c.loop-cut.lines _ c.in-Some.ensures.0 c.in-Some.ensures.1 c.loop-cut.invariant.within;
}

pub returns : goal.returns
returns g c =
    let rest_is = read_rest (step g.L.Language.wording g.L.Language.grammar) finish (progress_or_none c.loop-cut.progress) c.loop-cut.rest.now c.in_default.ensures in
    subst (Reads c.finished.result) (ap (later c.loop-cut.lines) (sym rest_is) ∙ c.loop-cut.invariant.so_far) c.finished.ensures
