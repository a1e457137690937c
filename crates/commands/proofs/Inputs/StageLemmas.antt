-- What a call comes to by a stage after a front.
use Rattle.std.proofs.Common.{Bool, ℕ, ◌≤◌, ◌+◌, List, ◌++◌, Ok, Err, arith, length, refl, inl, inr}
use Rattle.std.specs.declared.option.Option.{Option}
use Rattle.io_edge.specs.Told.{Coming}
use Rattle.spiral_words.specs.Statuses.Status.{IsDefined}
use Rattle.spiral_words.specs.declared.statuses.status.Status.{Status}
use Rattle.commands.specs.Input.Outcomes.{Meets, SourceMeets}
use Rattle.commands.specs.Input.Refusals.{IsRefusal}
use Rattle.commands.specs.Input.Stage.{Stage}
use Rattle.commands.specs.Equations.Front.{Work, staged}
use Rattle.commands.proofs.Inputs.OutcomeLemmas.{meets_nothing, unread_meets}

-- the stage refuses
pub stage_meets_nothing : {A : Type 0} (stage : Stage A) (work : A → Work) (room : ℕ) (bytes left : List ℕ)
    (ended : Bool)
    (out : Option (List ℕ)) (status : Status)
    → (IsDefined status → stage (Err status)) → IsRefusal status →
    Meets (staged stage work room) bytes left ended out out status
stage_meets_nothing stage work room bytes left ended out status refused r =
    meets_nothing (staged stage work room) bytes left ended out status (λ d. inl (refused d, refl)) r.read r.write

pub stage_refused : {A : Type 0} (stage : Stage A) (work : A → Work) (room : ℕ) (before : Coming)
    (out : Option (List ℕ))
    (status : Status)
    → (IsDefined status → stage (Err status)) → IsRefusal status
    → SourceMeets (staged stage work room) before before out out status
stage_refused stage work room before out status refused r =
    unread_meets (staged stage work room) before out out status
    (λ bytes. stage_meets_nothing stage work room bytes bytes before.told.ended out status refused r)

-- it gives a value, and the work for this comes to that
pub stage_meets : {A : Type 0} (stage : Stage A) (work : A → Work) (room : ℕ) (value : A) (bytes left : List ℕ)
    (ended : Bool)
    (out out' : Option (List ℕ)) (status : Status)
    → stage (Ok value) → Meets (work value room) bytes left ended out out' status →
    Meets (staged stage work room) bytes left ended out out' status
stage_meets stage work room value bytes left ended out out' status gives p = record {
  answer = λ d. let found = p.answer d in (found.0, inr (value, gives, found.1), found.2);
  read_fault = λ e. let found = p.read_fault e in (found.0, found.1, found.2, (value, gives, found.3), found.4);
  write_fault = λ e. let found = p.write_fault e in (found.0, found.1, found.2, found.3, (value, gives, found.4));
}

pub stage_told : {A : Type 0} (stage : Stage A) (work : A → Work) (room : ℕ) (value : A)
    (before left : Coming) (out out' : Option (List ℕ)) (status : Status)
    → stage (Ok value) → (work value room).most ≤ room + 1 → SourceMeets (work value room) before left out out' status
    → SourceMeets (staged stage work room) before left out out' status
stage_told stage work room value before left out out' status gives most p = record {
  read = p.read;
  consumed = p.consumed;
  few = let few : length p.read ≤ room + 1 = omega (arith, p.few, most) in few;
  meets = λ rest tells. stage_meets stage work room value (p.read ++ rest) rest left.told.ended out out' status gives
      (p.meets rest tells);
}
