-- What a program on words leaves.
use Rattle.std.specs.Prelude.{◌≡◌, ℕ, ◌<◌, List, [], All}
use Rattle.icode.specs.declared.program.Program.{Program}
use Rattle.icode.specs.Machine.{IsApart, results}
use Rattle.icode.specs.Program.{code_of, Fits}
use Rattle.word_code.specs.declared.program.WordProgram.{WordProgram}
use Rattle.word_code.specs.Bare.{WordsFit}
use Rattle.word_code.specs.WordMachine.{word_results}
use Rattle.word_code.specs.WordProgram.{word_code}
use Rattle.word_code.specs.Views.{plain_word_program}

-- whatever the vector of residues and the order of turns, it is what the program leaves
abbrev pub LeavesTheSame : WordProgram → Program → Type 0
LeavesTheSame words p =
    Fits p → (x turns : List ℕ) → All (λ v. v < p.modulus) x →
    word_results (word_code (plain_word_program words)) x turns ≡ results (code_of p) x turns

-- and where no processor touches a line that another writes in the phase, the order of turns is free
abbrev pub OrderIsFreeOf : WordProgram → Program → Type 0
OrderIsFreeOf words p =
    Fits p → ((phase : ℕ) → IsApart (code_of p) phase) → (x turns : List ℕ) → All (λ v. v < p.modulus) x →
    word_results (word_code (plain_word_program words)) x turns
    ≡ word_results (word_code (plain_word_program words)) x []

-- where the program fits, so do the words
abbrev pub FitsAs : WordProgram → Program → Type 0
FitsAs words p = Fits p → WordsFit (plain_word_program words)
