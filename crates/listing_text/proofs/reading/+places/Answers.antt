use Rattle.std.proofs.Common.{subst, sym, ap, map, Ok, Global}
use Rattle.std.specs.Prelude.{Vec}
use Rattle.icode.specs.declared.program.Part.{Part}
use Rattle.std.specs.Option.{option_map}
use Rattle.icode.specs.Plain.{plain_part, plain_expr}
use Rattle.grammar.specs.Cursor.{Tells}
use Rattle.listing_text.specs.Reading.{part_at, inner_at}
use Rattle.listing_text.proofs.ReadParts.{part_pushed, no_part, part_error, parts_end, inner_none, inner_some}
use Rattle.listing_text.proofs.reading.+places.Goals as goal
use Rattle.icode.proofs.Views.{plain_expr_is}

pub inner_of-returns-then-depth-eq0 : goal.inner_of-returns-then-depth-eq0
inner_of-returns-then-depth-eq0 t c = rw c.left.ensures (inner_none c.args.depth c.args.cursor.now c.if-depth-eq0.true)

pub inner_of-returns : goal.inner_of-returns
inner_of-returns t c = subst (λ r. Tells plain_expr c.read_place.result c.read_place.new.cursor r) (sym (inner_some c.args.depth c.args.cursor.now c.if-depth-eq0.false)) c.read_place.ensures

pub parts_of-returns-in-Err : goal.parts_of-returns-in-Err
parts_of-returns-in-Err t c =
    part_error {Y = Vec Part Global} (λ part. option_map plain_part part) (λ parts. map plain_part parts.items) (part_at (inner_at c.args.depth)) c.loop.counter c.loop.cursor c.part_of.new.cursor c.part_of.new.cursor (map plain_part c.loop.parts.items) c.in-Err.error _ c.loop-test.true c.in-Err.ensures c.loop.invariant

pub parts_of-returns-in-Ok-None : goal.parts_of-returns-in-Ok-None
parts_of-returns-in-Ok-None t c =
    no_part (part_at (inner_at c.args.depth)) c.loop.counter c.loop.cursor c.part_of.new.cursor (map plain_part c.loop.parts.items) _ c.loop-test.true (rw c.in-Ok-None.field-0-is at c.in-Ok-None.ensures) c.loop.invariant

pub parts_of-returns : goal.parts_of-returns
parts_of-returns t c = parts_end (part_at (inner_at c.args.depth)) c.loop.counter c.loop.cursor (map plain_part c.loop.parts.items) _ c.loop-test.false c.loop.invariant

pub read_place-returns : goal.read_place-returns
read_place-returns t c = rw (c.in_ok-constant.ensures, c.in_ok-parts.ensures) (ap (λ e. Ok (e, c.parts_of.new.cursor)) (sym (plain_expr_is _)))

pub parts_of-loop-preserved : goal.parts_of-loop-preserved
parts_of-loop-preserved t c =
    part_pushed plain_part (part_at (inner_at c.args.depth)) c.loop.counter c.loop.cursor c.part_of.new.cursor c.loop.parts.items c.push.new.self.items c.in-Ok-Some.part _ c.loop-test.true c.in_ok-push-in-Ok-Some.ensures.items
    (rw c.in-Ok-Some.field-0-is at c.in-Ok-Some.ensures) c.loop.invariant
