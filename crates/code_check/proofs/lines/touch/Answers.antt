use Rattle.std.proofs.Common.{◌+◌, ◌-◌, ◌/◌, ◌<◌, ◌∙◌, length, arith, refl}
use Rattle.code_check.proofs.Touching.{line_inside, touched_more, touched_end}
use Rattle.code_check.proofs.lines.touch.Goals as goal

pub bounds-lines-line : goal.bounds-lines-line
bounds-lines-line c =
    let p = c.args.program.now in
    let here = line_inside ((p.size + (p.line - 1)) / p.line) p.line c.args.address p.lanes c.loop-lane.lane p.header.of_line.0 c.requires.address c.loop-lane-test.true in
    omega (arith, here, c.loop-lane.auto.lines, c.requires.lines)

pub slice_copy_out-before : goal.slice_copy_out-before
slice_copy_out-before c =
    let p = c.args.program.now in
    let here = line_inside ((p.size + (p.line - 1)) / p.line) p.line c.args.address p.lanes c.loop-lane.lane p.header.of_line.0 c.requires.address c.loop-lane-test.true in
    omega (arith, here, c.loop-lane.auto.lines, c.requires.lines)

pub loop-lane-preserved : goal.loop-lane-preserved
loop-lane-preserved c =
    let p = c.args.program.now in
    let here = line_inside ((p.size + (p.line - 1)) / p.line) p.line c.args.address p.lanes c.loop-lane.lane p.header.of_line.0 c.requires.address c.loop-lane-test.true in
    let inside : (c.args.address + c.loop-lane.lane) / p.line < length c.loop-lane.lines = omega (arith, here, c.loop-lane.auto.lines, c.requires.lines) in
    touched_more c.args.proc c.args.writes p.line c.args.address p.lanes c.loop-lane.lane _ _ _ c.loop-lane.lines c.loop-lane-test.true refl inside c.touched.ensures
    ∙ c.loop-lane.invariant

pub returns : goal.returns
returns c = touched_end c.args.proc c.args.writes c.args.program.now.line c.args.address c.args.program.now.lanes c.loop-lane.lane c.loop-lane.lines c.loop-lane-test.false ∙ c.loop-lane.invariant
