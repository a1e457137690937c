-- What is right for `apply`.
use Rattle.std.specs.Prelude.{◌≡◌, ℕ, List}
use Rattle.schedules.specs.Schedule.{Plan as Turns}
use Rattle.schedules.specs.Turns.{named}
use Rattle.spl_ast.specs.Formula.{Formula, size_of}
use Rattle.spl_ast.specs.Meaning as formulas
use Rattle.runs.specs.Stream.{lines}
use Rattle.commands.specs.Input.Outcomes.{Outcomes}
use Rattle.commands.specs.Equations.Formulas.{formed}
use Rattle.commands.specs.Equations.Front.{Answer, Work, line, answered, by_front}
use Rattle.commands.specs.Equations.Works.{all, mapped, mapping}

-- a line for each vector, of the formula's matrix times it
abbrev pub IsApplyText : ℕ → Formula → List (List ℕ) → List ℕ → Type 0
IsApplyText m formula vectors text = text ≡ lines (formulas.apply m formula) vectors

abbrev pub apply_answer : ℕ → Turns → Answer
apply_answer m schedule = answered (line 65536) (formed (named schedule))
    (λ (formula : Formula). mapped (size_of formula) m (IsApplyText m formula))

abbrev pub apply_work : ℕ → Formula → Work
apply_work m formula = mapping all (size_of formula) m (IsApplyText m formula)

abbrev pub apply_outcomes : ℕ → Turns → Outcomes
apply_outcomes m schedule = by_front (line 65536) (formed (named schedule)) (apply_work m)
