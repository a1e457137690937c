use Rattle.std.proofs.Common.{◌+◌, ◌∙◌, ap, sym, subst, length, drop, List, ℕ}
use Rattle.std.proofs.lemmas.List.{with_items_is}
use Rattle.par_machine.specs.Position.{resting}
use Rattle.std.specs.Prelude.{slice_get}
use Rattle.par_machine.specs.Context.{Context}
use Rattle.par_machine.specs.Processors.{IsAct, passed_over}
use Rattle.par_machine.proofs.Playings.{place_same}
use Rattle.par_machine.proofs.Skips.{counted_there, context_same}
use Rattle.par_machine.proofs.processor.Processor.skip.Goals as goal

pub returns : goal.returns
returns c =
    let a = c.self.inside in
    let code = c.args.code.now in
    let before = c.deref_mut.ensures.value in
    let values = with_items_is a.values c.rest-self-inside.new.values (c.rest-self-inside.auto.values ∙ (ap length before ∙ sym a.values.ok.0)) in
    let place = place_same _ _ _ _
    (c.rest-self-inside.ensures.at ∙ ap (λ (vs : List ℕ). (resting (drop (a.at + 1) code) (a.at + 1) vs).at) before)
    (values ∙ (c.rest-self-inside.ensures.values ∙ ap (λ (vs : List ℕ). (resting (drop (a.at + 1) code) (a.at + 1) vs).values) before)) in
    let act = subst (λ (p : Context). IsAct (slice_get code p.place.at)) (sym c.self.view_is) c.requires.act in
    let counts = c.counted-self-inside.ensures ∙ counted_there c.args.lanes code a.at c.index-code-self.result c.in-Act.op c.in-Act.depth a.counts act c.index-code-self.is c.in-Act.is in
    context_same _ _ a.registers.items _ _ place counts ∙ ap (passed_over c.args.lanes code) c.self.view_is
