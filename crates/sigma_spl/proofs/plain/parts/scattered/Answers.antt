use Rattle.std.proofs.Common.{◌≡◌, ◌<◌, ap, ◌∙◌, ◌+◌, ◌%◌, arith, length}
use Rattle.std.specs.Prelude.{slice_index}
use Rattle.std.proofs.lemmas.List.{get_or_read}
use Rattle.index_fn.specs.Index.{mapping_of}
use Rattle.index_fn.specs.Mapping.{at}
use Rattle.sigma_spl.specs.Plain.Copies.{scatter_mod}
use Rattle.sigma_spl.proofs.PlainLemmas.Stores.{none_stored, one_stored, stored_below, stored_long, all_stored}
use Rattle.spl_ast.proofs.Vectors.{residue_at}
use Rattle.sigma_spl.proofs.plain.parts.scattered.Goals as goal

pub loop-i-init : goal.loop-i-init
loop-i-init c = none_stored c.args.m.now c.args.n (at (mapping_of c.args.f.now)) c.args.x.now _ c.in_ok-stored.ensures

pub index-requires : goal.index-requires
index-requires c =
    let long = stored_long c.args.m.now c.args.n c.loop-i.i _ c.args.x.now c.loop-i.stored.items c.loop-i.invariant in
    omega (arith, long, c.place_of-p.ensures.inside, c.loop-i.stored.ok.0)

pub add-requires-clause-a_in : goal.add-requires-clause-a_in
add-requires-clause-a_in c =
    let m = c.args.m.now in
    let long = stored_long m c.args.n c.loop-i.i _ c.args.x.now c.loop-i.stored.items c.loop-i.invariant in
    let inside : c.place_of-p.result < length c.loop-i.stored.items = omega (arith, long, c.place_of-p.ensures.inside) in
    let read : c.index.result.now ≡ slice_index c.loop-i.stored.items c.place_of-p.result = get_or_read c.loop-i.stored.items _ _ inside c.index.ensures 0 in
    let some : 0 < m = omega (arith, residue_at m c.args.n c.args.x.now c.loop-i.i c.requires.vector c.loop-i-test.true) in
    let below = stored_below m c.args.n c.loop-i.i c.place_of-p.result _ c.args.x.now c.loop-i.stored.items some c.loop-i.invariant c.place_of-p.ensures.inside in
    omega (arith, read, below)

pub index_mut-requires : goal.index_mut-requires
index_mut-requires c =
    let long = stored_long c.args.m.now c.args.n c.loop-i.i _ c.args.x.now c.loop-i.stored.items c.loop-i.invariant in
    omega (arith, long, c.place_of-p.ensures.inside, c.loop-i.stored.ok.0)

pub loop-i-preserved : goal.loop-i-preserved
loop-i-preserved c =
    let m = c.args.m.now in
    let long = stored_long m c.args.n c.loop-i.i _ c.args.x.now c.loop-i.stored.items c.loop-i.invariant in
    let inside : c.place_of-p.result < length c.loop-i.stored.items = omega (arith, long, c.place_of-p.ensures.inside) in
    let read : c.index.result.now ≡ slice_index c.loop-i.stored.items c.place_of-p.result = get_or_read c.loop-i.stored.items _ _ inside c.index.ensures 0 in
    one_stored m c.args.n c.loop-i.i c.place_of-p.result c.add.result (at (mapping_of c.args.f.now)) c.args.x.now c.loop-i.stored.items
    c.loop-i.invariant c.place_of-p.ensures.value c.place_of-p.ensures.inside (c.add.ensures.value ∙ ap (λ y. (y + slice_index c.args.x.now c.loop-i.i) % m) read)

pub returns : goal.returns
returns c =
    let all : c.loop-i.i ≡ c.args.n = omega arith in
    c.loop-i.invariant
    ∙ ap (λ d. scatter_mod c.args.m.now c.args.n d (at (mapping_of c.args.f.now)) c.args.x.now) all
    ∙ all_stored c.args.m.now c.args.n (mapping_of c.args.f.now) c.args.x.now
