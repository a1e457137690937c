use Rattle.std.proofs.Common.{◌≡◌, ◌*◌, ◌/◌, ◌∙◌, ap, ap₂, length, refl, subst, arith, rules}
use Rattle.std.proofs.Math.Nat.{mul_comm}
use Rattle.operators.specs.Operator.{on_blocks}
use Rattle.operators.proofs.Lists.{length-list_below}
use Rattle.sigma_spl.proofs.Moved.{at-below}
use Rattle.sigma_spl.specs.Views.{plain_term, plain_work}
use Rattle.sigma_spl.specs.Plain.Copies.{copy_on, copy_size, part_on, part_size}
use Rattle.sigma_spl.specs.Plain.Shape.{FitsCopy}
use Rattle.sigma_spl.proofs.PlainLemmas.Copies.{copy_sized, nest_times, move_times, parts_joined}
use Rattle.sigma_spl.proofs.PlainLemmas.Steps.{block_part, column_part, one_block, turned_size}
use Rattle.spl_ast.specs.Meaning.{IsVector}
use Rattle.spl_ast.proofs.Blocks.{columns_from_turns, turned_vector}
use Rattle.operators.proofs.PathLemmas.Under.{under-size}
use Rattle.sigma_spl.proofs.plain.terms.+terms.Goals as goal

pub in_blocks-loop-i-preserved : goal.in_blocks-loop-i-preserved
in_blocks-loop-i-preserved t c =
    let m = c.args.m.now in
    let term = plain_term c.args.t.now in
    let d = part_size c.args.path.now term in
    one_block c.args.count d c.loop-i.i (length c.args.x.now / c.args.count) _ _ (part_on m c.args.path.now term) c.args.x.now _ _ _
    (under-size c.args.path.now (copy_size term) (copy_on m term) (copy_sized m term)) (block_part c.args.count d c.args.x.now c.requires.vector.size (omega (arith, c.requires.size.0))) refl refl
    c.loop-i-test.true c.requires.vector.size c.loop-i.invariant (c.deref.ensures.value ∙ c.in_ok-part.ensures) c.in_ok-extend_from_slice.ensures.items

pub in_blocks-returns : goal.in_blocks-returns
in_blocks-returns t c =
    let term = plain_term c.args.t.now in
    let d = part_size c.args.path.now term in
    let all : c.loop-i.i ≡ c.args.count = omega arith in
    c.loop-i.invariant
    ∙ ap₂ (λ i s. on_blocks i s (part_on c.args.m.now c.args.path.now term) c.args.x.now) all (block_part c.args.count d c.args.x.now c.requires.vector.size (omega (arith, c.requires.size.0)))

pub in_columns-in_blocks-requires : goal.in_columns-in_blocks-requires
in_columns-in_blocks-requires t c =
    let d = part_size c.args.path.now (plain_term c.args.t.now) in
    let part : length c.args.x.now / c.args.count ≡ d = column_part d c.args.count c.args.x.now c.requires.vector.size (omega (arith, c.requires.size.0)) in
    (search rules, (turned_size d c.args.count c.requires.size, (c.requires.fits, turned_vector c.args.m.now d c.args.count c.args.x.now c.deref.result.now c.requires.vector (c.deref.ensures.value ∙ (rw part at c.in_ok-columns.ensures)))))

pub in_columns-turned-requires-2-clause-long : goal.in_columns-turned-requires-2-clause-long
in_columns-turned-requires-2-clause-long t c =
    let d = part_size c.args.path.now (plain_term c.args.t.now) in
    let part : length c.args.x.now / c.args.count ≡ d = column_part d c.args.count c.args.x.now c.requires.vector.size (omega (arith, c.requires.size.0)) in
    rw (c.deref-2.ensures.value, c.in_ok-parts.ensures, part) (length-list_below (c.args.count * d) _ ∙ mul_comm c.args.count d)

pub in_columns-returns : goal.in_columns-returns
in_columns-returns t c =
    let term = plain_term c.args.t.now in
    let d = part_size c.args.path.now term in
    let part : length c.args.x.now / c.args.count ≡ d = column_part d c.args.count c.args.x.now c.requires.vector.size (omega (arith, c.requires.size.0)) in
    columns_from_turns d c.args.count (part_on c.args.m.now c.args.path.now term) c.args.x.now c.deref.result.now c.deref-2.result.now _
    (c.deref.ensures.value ∙ (rw part at c.in_ok-columns.ensures))
    (c.deref-2.ensures.value ∙ c.in_ok-parts.ensures)
    (rw part at c.in_ok-y.ensures)

pub times-returns-in_ok-y-in-Sum : goal.times-returns-in_ok-y-in-Sum
times-returns-in_ok-y-in-Sum t c =
    nest_times c.args.m.now c.args.n (plain_term c.args.t.now) c.in-Sum.path.items c.deref-in-Sum.result.now (plain_work c.in-Sum.work) c.args.x.now c.in_ok-y-in-Sum.y.items
    (ap plain_term c.in-Sum.is) c.deref-in-Sum.ensures.value c.requires.fits c.requires.vector c.in_ok-y-in-Sum.ensures

pub times-returns-in_ok-y-in-Move : goal.times-returns-in_ok-y-in-Move
times-returns-in_ok-y-in-Move t c =
    move_times c.args.m.now c.args.n (plain_term c.args.t.now) c.in-Move.path.items c.deref-in-Move.result.now c.in-Move.places.items c.args.x.now c.in_ok-y-in-Move.y.items
    (ap plain_term c.in-Move.is) c.deref-in-Move.ensures.value c.requires.fits c.requires.vector c.in_ok-y-in-Move.ensures

pub copy_times-returns-in_ok-extend_from_slice-in-Beside : goal.copy_times-returns-in_ok-extend_from_slice-in-Beside
copy_times-returns-in_ok-extend_from_slice-in-Beside t c =
    let m = c.args.m.now in
    let a = plain_term c.in-Beside.first.value in
    let b = plain_term c.in-Beside.second.value in
    let is = ap plain_term c.in-Beside.is in
    let fits = subst FitsCopy is c.requires.fits in
    rw c.in-Beside.is
    (parts_joined m c.in-Beside.first_size c.in-Beside.second_size a b c.args.x.now c.split_at.result.0.now c.split_at.result.1.now c.in_ok-y-in-Beside.y.items c.deref-in-Beside-3.result.now _
    (subst (λ s. IsVector m (copy_size s) c.args.x.now) is c.requires.vector) fits.2 fits.3 c.split_at.ensures.front c.split_at.ensures.back
    (rw c.deref-in-Beside.ensures at c.in_ok-y-in-Beside.ensures)
    (c.deref-in-Beside-3.ensures.value ∙ (rw c.deref-in-Beside-2.ensures at c.in_ok-rest-in-Beside.ensures))
    c.in_ok-extend_from_slice-in-Beside.ensures.items)

pub copy_times-by_places-requires-clause-below : goal.copy_times-by_places-requires-clause-below
copy_times-by_places-requires-clause-below t c =
    let ks = c.in-Move.places.items in
    let below = subst FitsCopy (ap plain_term c.in-Move.is) c.requires.fits in
    rw c.deref.ensures.value (λ i low. at-below (length ks) ks i below low)
