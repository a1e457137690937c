-- What is right for `compile`.
use Rattle.std.specs.Prelude.{◌≡◌, ℕ, List}
use Rattle.generate.specs.FormulaCode.Letters.{program_for}
use Rattle.listing_text.specs.Listing.{listing_of}
use Rattle.spl_ast.specs.Formula.{Formula}
use Rattle.commands.specs.Input.Outcomes.{Outcomes}
use Rattle.commands.specs.Equations.Formulas.{written}
use Rattle.commands.specs.Equations.Front.{Answer, Work, line, answered, by_front}
use Rattle.commands.specs.Equations.Works.{printed, writing}

-- the listing of the formula's program
abbrev pub IsCompileText : ℕ → Formula → List ℕ → Type 0
IsCompileText m formula text = text ≡ listing_of (program_for m formula)

abbrev pub compile_answer : ℕ → Answer
compile_answer m = answered (line 65536) written (λ (formula : Formula). printed (IsCompileText m formula))

abbrev pub compile_work : ℕ → Formula → Work
compile_work m formula = writing (IsCompileText m formula)

abbrev pub compile_outcomes : ℕ → Outcomes
compile_outcomes m = by_front (line 65536) written (compile_work m)
