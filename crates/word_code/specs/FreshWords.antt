-- Runs of words where others have run before.
use Rattle.std.specs.Prelude.{◌≡◌, ℕ, List, [], ◌∷◌, length}
use Rattle.icode.specs.Fresh.{IsFresh}
use Rattle.icode.specs.Leftovers.{AreLeftovers, Leftovers, start_among, with_files}
use Rattle.icode.specs.Machine.{State, completion, padded, words_at}
use Rattle.word_code.specs.WordMachine.{WordCode, under, word_results, word_turn}
use Rattle.word_code.specs.WordProgram.{PlainWordProgram, word_code}

-- the state after a turn of processor q, where each phase begins with registers that are left over
abbrev pub word_turn_among : WordCode → Leftovers → State → ℕ → State
word_turn_among code left s q = with_files left s.phase (word_turn code s q)

abbrev pub word_run_among : WordCode → Leftovers → State → List ℕ → State
word_run_among code left s [] = s
word_run_among code left s (q ∷ turns) = word_run_among code left (word_turn_among code left s q) turns

-- what a run leaves in the second array: the turns, and their completion, from the input and what is left over
abbrev pub word_results_among : WordCode → Leftovers → List ℕ → List ℕ → List ℕ
word_results_among code left x turns =
    let s = word_run_among code left (start_among (under code) left x) turns in
    let t = word_run_among code left s (completion (under code) s) in
    words_at code.size t.memory (padded (under code))

-- Where the words are fresh, a run among any leftovers leaves what a run from the start leaves
abbrev pub FreshWordsIgnoreLeftovers : Type 0
FreshWordsIgnoreLeftovers =
    (words : PlainWordProgram) (left : Leftovers) → IsFresh (under (word_code words)) →
    AreLeftovers (under (word_code words)) left → (x turns : List ℕ) → length x ≡ words.frame.size →
    word_results_among (word_code words) left x turns ≡ word_results (word_code words) x turns
