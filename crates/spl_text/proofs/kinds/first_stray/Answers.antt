use Rattle.std.proofs.Common.{◌≡◌, ◌∙◌, sym, refl, true, false, get_or, length, arith, ◌<◌}
use Rattle.std.proofs.lemmas.List.{length-set, get_or_default}
use Rattle.spl_text.proofs.Strays.{stray_large, stray_twice, stray_later, stray_none, seen_later, unmarked_known}
use Rattle.spl_text.proofs.Strays.{unmarked_long}
use Rattle.spl_text.proofs.kinds.first_stray.Goals as goal

pub loop-i-init : goal.loop-i-init
loop-i-init c = record {
  long = unmarked_long (length c.args.places.now) c.in_ok-seen.seen.items c.in_ok-seen.ensures;
  known = λ v h. unmarked_known (length c.args.places.now) v c.in_ok-seen.seen.items h c.in_ok-seen.ensures;
  same = refl;
}

pub returns-then-place-places : goal.returns-then-place-places
returns-then-place-places c = stray_large (length c.args.places.now) c.loop-i.i c.args.places.now _ c.loop-i-test.true c.if-place-places.true c.loop-i.invariant.same

pub returns-then-index : goal.returns-then-index
returns-then-index c =
    let k = get_or c.args.places.now c.loop-i.i 0 in
    let inside : k < length c.loop-i.seen.items = omega (arith, c.loop-i.invariant.long, c.if-place-places.false) in
    let marked : get_or c.loop-i.seen.items k false ≡ true = get_or_default c.loop-i.seen.items k false _ inside ∙ sym c.index.ensures ∙ c.if-index.true in
    stray_twice (length c.args.places.now) c.loop-i.i c.args.places.now _ c.loop-i-test.true (sym (c.loop-i.invariant.known k c.if-place-places.false) ∙ marked) c.loop-i.invariant.same

pub loop-i-preserved : goal.loop-i-preserved
loop-i-preserved c =
    let k = get_or c.args.places.now c.loop-i.i 0 in
    let n = length c.args.places.now in
    let free : get_or c.loop-i.seen.items k false ≡ false = cc in record {
      long = length-set c.loop-i.seen.items k true ∙ c.loop-i.invariant.long;
      known = seen_later n c.loop-i.i c.args.places.now c.loop-i.seen.items c.loop-i-test.true c.loop-i.invariant.long c.if-place-places.false c.loop-i.invariant.known;
      same = stray_later n c.loop-i.i c.args.places.now _ c.loop-i-test.true c.if-place-places.false (sym (c.loop-i.invariant.known k c.if-place-places.false) ∙ free) c.loop-i.invariant.same;
    }

pub returns : goal.returns
returns c = stray_none (length c.args.places.now) c.loop-i.i c.args.places.now _ c.loop-i-test.false c.loop-i.invariant.same
