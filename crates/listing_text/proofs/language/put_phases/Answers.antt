use Rattle.std.proofs.Common.{◌≡◌, ◌++◌, refl}
use Rattle.std.specs.List.{list_all}
use Rattle.icode.specs.Plain.{plain_body, plain_phases}
use Rattle.listing_text.specs.Nests.{are_nests_within}
use Rattle.listing_text.specs.Wording.{Close, body_lines, phases_text}
use Rattle.listing_text.proofs.PrintLoops.{printed_more, tested_more, three_put}
use Rattle.listing_text.proofs.language.put_phases.Goals as goal

pub loop-number-preserved : goal.loop-number-preserved
loop-number-preserved g c =
    let w = g.L.Language.wording in
    let number = c.loop-number.number in
    let lines = body_lines w.line 0 (plain_body c.index-phases-number.result.items) in
    let put : c.put_end.new.out.items ≡ c.loop-number.out.items ++ (w.phase c.args.regs number ++ lines ++ w.line Close) =
    rw (c.in_ok-put_end.ensures, c.in_ok-put_body.ensures, c.in_ok-put_phase.ensures, c.deref.ensures.value) (three_put c.loop-number.out.items (w.phase c.args.regs number) lines (w.line Close)) in
    record {
      text = printed_more (λ i phases. phases_text w c.args.regs i (plain_phases phases)) (λ phase. w.phase c.args.regs number ++ body_lines w.line 0 (plain_body phase.items) ++ w.line Close) c.args.phases.now number c.index-phases-number.result _ _ _ c.loop-number-test.true c.index-phases-number.is refl put c.loop-number.invariant.text;
      nests = (tested_more (λ phases. list_all (λ body. are_nests_within body 0) (plain_phases phases)) (λ phase. are_nests_within (plain_body phase.items) 0) c.args.phases.now number c.index-phases-number.result c.loop-number-test.true c.index-phases-number.is refl c.loop-number.invariant.nests).1;
    }
