use Rattle.std.proofs.Common.{arith, Vec, Global, length, get_or, ap, sym, ◌∙◌}
use Rattle.std.specs.Vec.{with_items}
use Rattle.std.proofs.lemmas.List.{with_items_is}
use Rattle.word_code.specs.declared.program.WordStmt.{WordStmt}
use Rattle.word_code.specs.Views.{plain_word_body}
use Rattle.nests.proofs.Items.{changed-more, changed-all}
use Rattle.word_code.specs.InPlace.Routes.{rerouted_phase}
use Rattle.word_code.proofs.in_place.reroute.reroute_phases.Goals as goal

pub loop-body-preserved : goal.loop-body-preserved
loop-body-preserved c =
    let old = get_or c.loop-body.phases c.loop-body.body-index c.body-item.result in
    changed-more (λ (body : Vec WordStmt Global). plain_word_body body.items) (rerouted_phase c.args.routes.now) c.loop-body.body-index c.args.phases.now c.loop-body.phases c.body-item.result
    (with_items old c.reroute_phase.new.body) (omega arith) c.body-item.is
    (ap plain_word_body (with_items_is old c.reroute_phase.new.body (c.reroute_phase.auto.body ∙ (ap length c.deref_mut.ensures.value ∙ sym old.ok.0)))
    ∙ (c.reroute_phase.ensures ∙ ap (λ items. rerouted_phase c.args.routes.now (plain_word_body items)) c.deref_mut.ensures.value))
    c.loop-body.invariant

pub returns : goal.returns
returns c =
    changed-all (λ (body : Vec WordStmt Global). plain_word_body body.items) (rerouted_phase c.args.routes.now) c.loop-body.body-index c.args.phases.now c.loop-body.phases (omega (arith, c.loop-body.auto.phases)) c.loop-body.invariant
