-- Status and output that are right for a call.
use Rattle.std.proofs.Common.{◌≡◌, ◌≢◌, ◌≤◌, ◌+◌, Bool, true, ℕ, List, [], ◌++◌, arith, length, refl}
use Rattle.std.proofs.KnownBytes.{Appends-nil}
use Rattle.io_edge.proofs.ToldLemmas.{Consumes-nil}
use Rattle.std.specs.declared.option.Option.{Option}
use Rattle.std.specs.Io.KnownBytes.{Appends}
use Rattle.io_edge.specs.Told.{Coming, Consumes}
use Rattle.io_edge.specs.Taken.{AppendsPrefix}
use Rattle.spiral_words.specs.Statuses.Status.{IsDefined}
use Rattle.spiral_words.specs.declared.statuses.status.Status.{Status}
use Rattle.spiral_words.specs.declared.statuses.status.Status.TheVariants.{ReadFault, WriteFault, NoMemory}
use Rattle.commands.specs.Input.Outcomes.{Outcomes, Meets, SourceMeets}

-- as many bytes as there is room for, and one more; and none
pub all_few : (room : ℕ) → room + 1 ≤ room + 1
all_few room = omega arith

pub none_few : (room : ℕ) → 0 ≤ room + 1
none_few room = omega arith

-- of a call that no fault of the outside ends
pub answered_meets : (outcomes : Outcomes) (bytes left : List ℕ) (ended : Bool) (out out' : Option (List ℕ))
    (status : Status)
    → (IsDefined status → (text : List ℕ) × outcomes.answer bytes status text × Appends out out' text)
    → status ≢ ReadFault → status ≢ WriteFault → Meets outcomes bytes left ended out out' status
answered_meets outcomes bytes left ended out out' status right read write =
    record { answer = right; read_fault = λ e. absurd (read e); write_fault = λ e. absurd (write e) }

-- of one that ends before its output
pub meets_nothing : (outcomes : Outcomes) (bytes left : List ℕ) (ended : Bool) (out : Option (List ℕ)) (status : Status)
    → (IsDefined status → outcomes.answer bytes status []) → status ≢ ReadFault → status ≢ WriteFault →
    Meets outcomes bytes left ended out out status
meets_nothing outcomes bytes left ended out status right read write =
    answered_meets outcomes bytes left ended out out status (λ d. ([], right d, Appends-nil out)) read write

-- of one whose read failed
pub broken_meets : (outcomes : Outcomes) (bytes left : List ℕ) (ended : Bool) (out out' : Option (List ℕ))
    → (read text : List ℕ) × (bytes ≡ read ++ left) × outcomes.broken read (ended ≡ true) text × Appends out out' text
    → Meets outcomes bytes left ended out out' ReadFault
broken_meets outcomes bytes left ended out out' found =
    record { answer = λ d. absurd (d.read refl); read_fault = λ _. found; write_fault = λ e. absurd (cc) }

-- of one whose write failed, after all that is not left was used
pub cut_meets : (outcomes : Outcomes) (read left : List ℕ) (ended : Bool) (text : List ℕ) (out out' : Option (List ℕ))
    → (wrote : AppendsPrefix out out' text) → outcomes.cut read left text wrote.front
    → Meets outcomes (read ++ left) left ended out out' WriteFault
cut_meets outcomes read left ended text out out' wrote right = record {
  answer = λ d. absurd (d.write refl);
  read_fault = λ e. absurd (cc);
  write_fault = λ _. (read, text, refl, wrote, right);
}

-- nothing was read
pub unread_meets : (outcomes : Outcomes) (before : Coming) (out out' : Option (List ℕ)) (status : Status)
    → ((bytes : List ℕ) → Meets outcomes bytes bytes before.told.ended out out' status)
    → SourceMeets outcomes before before out out' status
unread_meets outcomes before out out' status p =
    record { read = []; consumed = Consumes-nil before; few = omega arith; meets = λ left tells. p left }

-- want of memory
pub told_nothing : (outcomes : Outcomes) (before after : Coming) (out : Option (List ℕ)) (read : List ℕ)
    → Consumes before after read → length read ≤ outcomes.most
    → SourceMeets outcomes before after out out NoMemory
told_nothing outcomes before after out read consumed few = record {
  read = read;
  consumed = consumed;
  few = few;
  meets = λ left tells. meets_nothing outcomes (read ++ left) left after.told.ended out NoMemory
      (λ d. absurd (d.memory refl)) (λ e. cc) (λ e. cc);
}

pub unread_nothing : (outcomes : Outcomes) (before : Coming) (out : Option (List ℕ))
    → SourceMeets outcomes before before out out NoMemory
unread_nothing outcomes before out = told_nothing outcomes before before out [] (Consumes-nil before) (omega arith)
