use Rattle.icode.specs.Program.{plain_program}
use Rattle.sigma_spl.specs.Views.{plain_merged}
use Rattle.std.proofs.Common.{subst, sym}
use Rattle.generate.specs.FormulaCode.Code.{IsCodeOf}
use Rattle.generate.proofs.FormulaCode.Programs.{can_emit, has_letters, as-it-stands}
use Rattle.generate.proofs.formula_code.code_of_formula.Goals as goal

pub emit_formula-requires : goal.emit_formula-requires
emit_formula-requires c =
    can_emit c.args.modulus.now c.args.formula.now (plain_merged c.in_ok-merged.merged)
    c.get-modulus.ensures.at_least_two c.get-modulus.ensures.below_limit c.rows-rows.ensures.shaped c.requires.few
    c.in_ok-merged.ensures

pub returns-clause-letters : goal.returns-clause-letters
returns-clause-letters c =
    has_letters c.args.modulus.now c.args.formula.now (plain_merged c.in_ok-merged.merged)
    (plain_program c.in_ok-program.program) c.in_ok-merged.ensures c.in_ok-program.ensures.code

pub returns-clause-code : goal.returns-clause-code
returns-clause-code c =
    subst (IsCodeOf c.args.modulus.now c.args.formula.now) (sym (returns-clause-letters c))
    (as-it-stands c.args.modulus.now c.args.formula.now c.get-modulus.ensures.at_least_two
    c.get-modulus.ensures.below_limit c.rows-rows.ensures.shaped c.requires.few)
