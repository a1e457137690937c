use Rattle.std.proofs.Common.{ap, ◌∙◌}
use Rattle.icode.specs.Program.{plain_program}
use Rattle.generate.specs.FormulaCode.Letters.{program_as_it_stands}
use Rattle.generate.proofs.FormulaCode.Regrouped.{same_code}
use Rattle.generate.proofs.formula_code.formula_program.Goals as goal

pub returns : goal.returns
returns c =
    record {
      code = same_code c.args.modulus.now c.args.formula c.in_ok-balanced.balanced (plain_program c.in_ok-program.program)
          c.in_ok-balanced.ensures.summands (c.in_ok-balanced.ensures.same c.args.modulus.now) c.in_ok-program.ensures.code;
      letters = c.in_ok-program.ensures.letters ∙ ap (program_as_it_stands c.args.modulus.now) c.in_ok-balanced.ensures.halves;
    }
