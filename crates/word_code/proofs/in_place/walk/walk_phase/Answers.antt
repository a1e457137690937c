use Rattle.std.proofs.Common.{◌<◌, [], length, sym, refl, arith}
use Rattle.icode.specs.declared.program.Array.TheVariants.{X}
use Rattle.icode.specs.Program.{plain_program}
use Rattle.word_code.specs.InPlace.Views.{homes_of}
use Rattle.word_code.proofs.InPlace.Walking.{phase_ends, routed_goes_on, routed_stops, first_fits}
use Rattle.word_code.proofs.in_place.walk.walk_phase.Goals as goal

pub walk_stmt-requires-clause-fits : goal.walk_stmt-requires-clause-fits
walk_stmt-requires-clause-fits c =
    let p = plain_program c.args.program.now in
    let i = c.loop-index.index in
    let inside : i < length c.args.body.now = omega (arith, c.loop-index-test.true, c.min-index-end.ensures) in
    first_fits p c.args.body.now i c.index-body-index.result [] inside c.index-body-index.is
    c.loop-index.invariant.walk.fits

pub returns-then-not-walk_stmt-clause-right : goal.returns-then-not-walk_stmt-clause-right
returns-then-not-walk_stmt-clause-right c =
    routed_stops (plain_program c.args.program.now) c.args.routes.now c.args.body.now c.loop-index.index c.index-body-index.result (record { source = X; target = X }) _ _
    (omega (arith, c.loop-index-test.true, c.min-index-end.ensures)) (omega (arith, c.loop-index-test.true, c.min-index-end.ensures)) c.index-body-index.is c.loop-index.invariant.walk c.if-not-walk_stmt.ensures.right

pub loop-index-preserved : goal.loop-index-preserved
loop-index-preserved c = record {
  table = c.if-not-walk_stmt.ensures.table;
  walk = routed_goes_on (plain_program c.args.program.now) c.args.routes.now c.args.body.now c.loop-index.index
      c.index-body-index.result (record { source = X; target = X }) _ _
      (omega (arith, c.loop-index-test.true, c.min-index-end.ensures)) (omega (arith, c.loop-index-test.true, c.min-index-end.ensures)) c.index-body-index.is c.loop-index.invariant.walk
      (homes_of c.walk_stmt.new.table) c.if-not-walk_stmt.ensures.right (c.if-not-walk_stmt.ensures.after refl);
}

pub returns-clause-right : goal.returns-clause-right
returns-clause-right c =
    sym (phase_ends (plain_program c.args.program.now) c.args.routes.now c.args.body.now c.loop-index.index _ _ (omega (arith, c.loop-index-test.false, c.min-index-end.ensures)) c.loop-index.invariant.walk).right

pub returns-clause-after : goal.returns-clause-after
returns-clause-after c =
    λ _. sym (phase_ends (plain_program c.args.program.now) c.args.routes.now c.args.body.now c.loop-index.index _ _ (omega (arith, c.loop-index-test.false, c.min-index-end.ensures)) c.loop-index.invariant.walk).after
