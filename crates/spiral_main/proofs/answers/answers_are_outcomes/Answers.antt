use Rattle.std.proofs.Common.{inr}
use Rattle.spiral_main.proofs.answers.answers_are_outcomes.Goals as goal

pub returns : goal.returns
returns c = λ words bytes wanted status text asked p. inr (wanted, asked, p)
