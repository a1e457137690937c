-- The statement of the law of passes in place.
use Rattle.std.specs.Prelude.{◌≡◌, ℕ, ◌≤◌, List, length}
use Rattle.icode.specs.Actions.{PlainFits}
use Rattle.icode.specs.Plain.{PlainProgram}
use Rattle.word_code.specs.Quicken.{PlainLaziness, quickened}
use Rattle.word_code.specs.WordMachine.{word_results}
use Rattle.word_code.specs.WordProgram.{PlainWordProgram, word_code}
use Rattle.word_code.specs.InPlace.Sharing.{in_place}

-- for every vector and every order of turns, two programs on words leave the same
abbrev pub LeavesAlike : PlainWordProgram → PlainWordProgram → Type 0
LeavesAlike one other =
    (x turns : List ℕ) → one.frame.size ≤ length x →
    word_results (word_code one) x turns ≡ word_results (word_code other) x turns

-- The words of a program that fits, whose lines have a word or more, leave the same in place
abbrev pub InPlaceLeavesTheSame : Type 0
InPlaceLeavesTheSame =
    (z : PlainLaziness) (p : PlainProgram) → PlainFits p → 1 ≤ p.line →
    LeavesAlike (in_place p (quickened z p)) (quickened z p)
