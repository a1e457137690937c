use Rattle.std.proofs.Common.{◌<◌, ◌∙◌, sym, arith, rules}
use Rattle.par_machine.proofs.Playings.{inside_here, counts_have_room, not_again, operation_fits, operation_within}
use Rattle.par_machine.proofs.Playings.{depth_there, depth_is, played_rest, can_play_on}
use Rattle.par_machine.proofs.processor.Processor.play.Goals as goal

pub offset_bounds-code-at : goal.offset_bounds-code-at
offset_bounds-code-at c =
    let inside = inside_here (omega (arith, c.loop-left-test.true)) c.loop-left.invariant.can_play in
    search rules

pub bounds-code-at : goal.bounds-code-at
bounds-code-at c = inside_here (omega (arith, c.loop-left-test.true)) c.loop-left.invariant.can_play

pub slice_bounds-perform-end : goal.slice_bounds-perform-end
slice_bounds-perform-end c =
    depth_there (omega (arith, c.loop-left-test.true)) c.loop-left.invariant.can_play c.index-code-at.is c.in-Act.is
    c.loop-left.invariant.long

pub slice_bounds-perform-end-in-Act : goal.slice_bounds-perform-end-in-Act
slice_bounds-perform-end-in-Act c =
    sym (depth_is (omega (arith, c.loop-left-test.true)) c.loop-left.invariant.can_play c.index-code-at.is c.in-Act.is
    c.loop-left.invariant.long)

pub perform-requires-clause-within : goal.perform-requires-clause-within
perform-requires-clause-within c =
    operation_within (omega (arith, c.loop-left-test.true)) c.loop-left.invariant.can_play c.index-code-at.is c.in-Act.is
    c.loop-left.invariant.long

pub perform-requires-clause-fits : goal.perform-requires-clause-fits
perform-requires-clause-fits c =
    operation_fits (omega (arith, c.loop-left-test.true)) c.loop-left.invariant.can_play c.index-code-at.is c.in-Act.is

pub counted-counts-requires : goal.counted-counts-requires
counted-counts-requires c = counts_have_room (omega (arith, c.loop-left-test.true)) c.loop-left.invariant.can_play

pub unreachable-requires : goal.unreachable-requires
unreachable-requires c =
    not_again (omega (arith, c.loop-left-test.true)) c.loop-left.invariant.can_play c.index-code-at.is c.in-Again.is

pub overflow_add-at : goal.overflow_add-at
overflow_add-at c =
    omega (arith, inside_here (omega (arith, c.loop-left-test.true)) c.loop-left.invariant.can_play)

pub rest-at-requires-clause-from : goal.rest-at-requires-clause-from
rest-at-requires-clause-from c =
    omega (arith, inside_here (omega (arith, c.loop-left-test.true)) c.loop-left.invariant.can_play)

pub loop-left-preserved : goal.loop-left-preserved
loop-left-preserved c =
    let some : 0 < c.loop-left.left = omega (arith, c.loop-left-test.true) in
    let inv = c.loop-left.invariant in
    let done = c.perform.ensures in
    let place = c.rest-at.ensures in
    record {
      so_far = played_rest some inv.can_play c.index-code-at.is c.in-Act.is done.memory done.registers place.at
          place.values c.counted-counts.ensures ∙ inv.so_far;
      can_play = can_play_on some inv.can_play c.index-code-at.is c.in-Act.is done.memory done.registers place.at
          place.values c.counted-counts.ensures;
      long = c.rest-at.auto.values ∙ inv.long;
    }
