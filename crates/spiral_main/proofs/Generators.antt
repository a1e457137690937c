-- The generator of the program, and that its programs are what the commands write.
use Rattle.std.proofs.Common.{ℕ, ◌≤◌, true, false, List, arith, inl, inr}
use Rattle.commands.specs.Emission.Whole.{conv_emission, emission}
use Rattle.commands.specs.Equations.Apply.{apply_outcomes}
use Rattle.commands.specs.Equations.C.{c_outcomes}
use Rattle.commands.specs.Equations.Cert.{cert_outcomes}
use Rattle.commands.specs.Equations.Check.{check_outcomes}
use Rattle.commands.specs.Equations.Code.{code_outcomes}
use Rattle.commands.specs.Equations.Commands.{outcomes_of}
use Rattle.commands.specs.Equations.Compile.{compile_outcomes}
use Rattle.commands.specs.Equations.Convolve.{convolve_outcomes, convolver_outcomes}
use Rattle.commands.specs.Equations.Exec.{exec_outcomes}
use Rattle.commands.specs.Equations.Formula.{formula_outcomes}
use Rattle.commands.specs.Equations.Plan.{plan_outcomes}
use Rattle.commands.specs.Equations.Run.{run_outcomes}
use Rattle.commands.specs.Equations.Sample.{sample_outcomes}
use Rattle.commands.specs.Equations.Trace.{trace_outcomes}
use Rattle.commands.specs.Formulas.Letters.{program_for}
use Rattle.commands.specs.Input.Outcomes.{Outcomes}
use Rattle.commands.proofs.Inputs.OutcomeLemmas.{all_few}
use Rattle.commands.proofs.Inputs.Within.{Within}
use Rattle.io_edge.specs.Feed.{limit}
use Rattle.spiral_words.specs.declared.Command.{Command}
use Rattle.spiral_words.specs.declared.Command.TheVariants.{ByRequest, ByFormula, ByListing, ByList}
use Rattle.spiral_words.specs.declared.Document.TheVariants as document
use Rattle.spiral_words.specs.declared.FormulaCommand.TheVariants.{Compile, Apply}
use Rattle.spiral_words.specs.declared.RequestCommand.TheVariants.{Writes, Runs, Traces, Judges}
use Rattle.spiral_main.specs.Generator.{Generator, OneGenerator, outcomes_by}
use Rattle.spiral_main.specs.Outcome.{outcomes_for}
use Rattle.spiral_main.proofs.Accounts.{call_within}
use Rattle.spiral_main.proofs.Calls.{outcome_of}
use Rattle.spiral_main.proofs.FormulaTheorem.{right_code, right_convolver}
use Rattle.spiral_main.proofs.Theorem.{right_program}

the_generator : Generator
the_generator = record {
  code = emission;
  right = right_program;
  convolver = conv_emission;
  convolves = right_convolver;
  formula = program_for;
  computes = right_code;
}

-- the same is right for both
record AreSame (a b : Outcomes) : Type 1 where
  there : Within a b
  back : Within b a

within_itself : (a : Outcomes) → Within a a
within_itself a =
    record {
      most = omega arith;
      answer = λ bytes s t p. p;
      broken = λ read ended t p. p;
      cut = λ read left t taken p. p;
    }

itself : (a : Outcomes) → AreSame a a
itself a = record { there = within_itself a; back = within_itself a }

-- command by command
by_command : (wanted : Command) → AreSame (outcomes_of wanted) (outcomes_by the_generator wanted)
unfolding the_generator
by_command (ByRequest (Writes document.Plan)) = itself plan_outcomes
by_command (ByRequest (Writes document.Formula)) = itself formula_outcomes
by_command (ByRequest (Writes document.Code)) = itself code_outcomes
by_command (ByRequest (Writes document.C)) = itself c_outcomes
by_command (ByRequest (Writes document.Cert)) = itself cert_outcomes
by_command (ByRequest (Writes (document.Sample seed schedule))) = itself (sample_outcomes seed schedule)
by_command (ByRequest (Runs order)) = itself (run_outcomes order)
by_command (ByRequest (Traces order)) = itself (trace_outcomes order)
by_command (ByRequest Judges) = itself check_outcomes
by_command (ByFormula m Compile) = itself (compile_outcomes m)
by_command (ByFormula m (Apply schedule)) = itself (apply_outcomes m schedule)
by_command (ByListing schedule) = itself (exec_outcomes schedule)
by_command (ByList schedule false) = itself (convolve_outcomes schedule)
by_command (ByList schedule true) = itself (convolver_outcomes schedule)

-- and so for a call
by_call : (v w : Command → Outcomes) (words : List (List ℕ)) → ((wanted : Command) → Within (v wanted) (w wanted)) →
    Within (outcomes_for v words) (outcomes_for w words)
by_call v w words each = record {
  most = all_few limit;
  answer = λ bytes s t p. elim p [
    | inl refused ↦ inl refused
    | inr right ↦ inr (right.0, right.1, (each right.0).answer bytes s t right.2)
  ];
  broken = λ read ended t p. (p.0, p.1, (each p.0).broken read ended t p.2);
  cut = λ read left t taken p. (p.0, p.1, (each p.0).cut read left t taken p.2);
}

pub one_generator : OneGenerator
one_generator = (
  the_generator,
  record {
    answers = λ words wanted bytes status text asked. (
      λ p. (by_command wanted).there.answer bytes status text (outcome_of words bytes wanted status text asked p),
      λ p. inr (wanted, asked, (by_command wanted).back.answer bytes status text p),
    );
    told = λ words input input' before after status. (
      call_within (outcomes_for outcomes_of words) (outcomes_for (outcomes_by the_generator) words) input input' before
          after status (by_call outcomes_of (outcomes_by the_generator) words (λ wanted. (by_command wanted).there)),
      call_within (outcomes_for (outcomes_by the_generator) words) (outcomes_for outcomes_of words) input input' before
          after status (by_call (outcomes_by the_generator) outcomes_of words (λ wanted. (by_command wanted).back)),
    );
  },
)
