use Rattle.std.proofs.Common.{◌≡◌, ◌∙◌, subst, sym, rules}
use Rattle.icode.specs.Limits.{IsWithinLimits}
use Rattle.icode.specs.Program.{plain_program}
use Rattle.matrix_meaning.specs.declared.Request.{Request}
use Rattle.tree_model.specs.Breakdown.{breakdown_of}
use Rattle.tree_model.specs.Chosen.{whole_cost}
use Rattle.generate.specs.Good.{IsGood}
use Rattle.generate.specs.Lean.{IsLean}
use Rattle.generate.specs.Letters.{program_for}
use Rattle.generate.proofs.Emission.Programs.{programs_are_emissions}
use Rattle.generate.proofs.GoodPrograms.{programs_are_good}
use Rattle.generate.proofs.generate.Goals as goal

-- statement by statement the program is the one of the rules of emission, which is good and lean
pub returns : goal.returns
returns c =
    let r = c.args.request.now in
    let t = breakdown_of c.in_ok-plan.plan.tree in
    let made = c.in_ok-plan.ensures in
    let letters = subst (λ (r : Request). plain_program c.in_ok-program.program ≡ program_for r t) c.new-context.ensures
    c.in_ok-program.ensures.letters
    ∙ programs_are_emissions r t made.valid made.planned.1.tree in
    let good = programs_are_good r t c.requires made.planned in
    record {
      planned = made.planned;
      cost = made.cost;
      good = subst (IsGood r (whole_cost r t)) (sym letters) good.0;
      lean = subst (IsLean r t) (sym letters) good.1;
      limits = subst IsWithinLimits (sym letters) good.2;
      letters = letters;
      refused = search rules;
    }
