use Rattle.std.proofs.Common.{ne_eqb, ap, sym, ◌∙◌}
use Rattle.std.specs.Prelude.{if◌then◌else◌}
use Rattle.std.proofs.lemmas.Bool.{eq-eqb}
use Rattle.icode.specs.Program.{plain_program}
use Rattle.interchange.specs.Interchanged.{interchanged}
use Rattle.renumbered_registers.specs.Renumbered.{renumbered}
use Rattle.fast_main.specs.Translation.{on_several}
use Rattle.fast_main.proofs.prepare.put_on_lanes.Goals as goal

pub returns-then-lanes-eq1 : goal.returns-then-lanes-eq1
returns-then-lanes-eq1 c =
    let q = interchanged (renumbered (plain_program c.args.program)) in
    c.interchange-program.ensures ∙ ap interchanged c.in_ok-numbered.ensures
    ∙ ap (λ b. if b then q else on_several c.args.lanes q) (sym (eq-eqb c.args.lanes 1 c.if-lanes-eq1.true))

pub returns : goal.returns
returns c =
    let q = interchanged (renumbered (plain_program c.args.program)) in
    c.in_ok-made.ensures
    ∙ ap (on_several c.args.lanes) (c.interchange-program.ensures ∙ ap interchanged c.in_ok-numbered.ensures)
    ∙ ap (λ b. if b then q else on_several c.args.lanes q) (sym (ne_eqb c.args.lanes 1 c.if-lanes-eq1.false))
