-- The commands that print a program answer by the programs of the generator.
use Rattle.std.proofs.Common.{◌≡◌, ℕ, true, List, codes, inr, refl}
use Rattle.c_print.specs.CText.{c_text_of}
use Rattle.commands.specs.Emission.Whole.{conv_emission, emission}
use Rattle.commands.specs.Equations.Commands.{outcomes_of}
use Rattle.commands.specs.Equations.Front.{Answer}
use Rattle.commands.specs.Formulas.Letters.{program_for}
use Rattle.listing_text.specs.Listing.{listing_of}
use Rattle.spiral_main.specs.OneText.{Answers, CompilesOne, ConvolvesByOne, PrintsOne, TracesOne}
use Rattle.spiral_main.proofs.Calls.{outcome_of}
use Rattle.spiral_words.specs.Asked.{IsAsked, Means}
use Rattle.spiral_words.specs.CommandLine.{Options}
use Rattle.spiral_words.specs.declared.Command.{Command}
use Rattle.spiral_words.specs.declared.Command.TheVariants as command
use Rattle.spiral_words.specs.declared.Document.TheVariants as document
use Rattle.spiral_words.specs.declared.FormulaCommand.TheVariants as formula_command
use Rattle.spiral_words.specs.declared.RequestCommand.TheVariants as request

-- words of a command have the outcomes that are answers of its equation
answers_of : (name : List ℕ) (wanted : Command) (Asks : Options → Type 0)
    → ((options : Options) → Asks options → Means name options wanted)
    → Answers name Asks (outcomes_of wanted).answer
answers_of name wanted Asks means words options bytes status text found asked =
    let wants : IsAsked words wanted = (name, options, found, means options asked) in (
      λ p. outcome_of words bytes wanted status text wants p,
      λ p. inr (wanted, wants, p),
    )

pub code_prints_one : PrintsOne (codes "code") listing_of
code_prints_one = record {
  program = emission;
  answers = answers_of (codes "code") (command.ByRequest (request.Writes document.Code)) (λ options. Unit {0}) (λ options asked. refl);
}

pub c_prints_one : PrintsOne (codes "c") c_text_of
c_prints_one = record {
  program = emission;
  answers = answers_of (codes "c") (command.ByRequest (request.Writes document.C)) (λ options. Unit {0}) (λ options asked. refl);
}

pub traces_one : TracesOne
traces_one = record {
  program = emission;
  answers = λ order. answers_of (codes "trace") (command.ByRequest (request.Traces order)) _ (λ options asked. (refl, asked));
}

pub compiles_one : CompilesOne
compiles_one = record {
  program = program_for;
  answers = λ m. answers_of (codes "compile") (command.ByFormula m formula_command.Compile) _ (λ options asked. (refl, asked));
}

pub convolves_by_one : ConvolvesByOne
convolves_by_one = record {
  program = conv_emission;
  answers = λ schedule. answers_of (codes "convolve") (command.ByList schedule true) _
      (λ options asked. (refl, asked.0, asked.1));
}
