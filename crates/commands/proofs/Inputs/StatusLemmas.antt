-- The faults of parts as statuses.
use Rattle.std.proofs.Common.{◌≡◌, ◌≢◌, ◌≤◌, ℕ, List, [], Err, Result, refl, sym, ap, arith}
use Rattle.std.proofs.KnownBytes.{Appends-nil}
use Rattle.std.specs.declared.option.Option.{Option}
use Rattle.io_edge.specs.Faults.{Reports, Rose}
use Rattle.data_stream.specs.declared.parts.RestFault.{RestFault}
use Rattle.data_stream.specs.declared.parts.RestFault.TheVariants as rest_fault
use Rattle.spiral_words.specs.declared.statuses.status.Status.{Status}
use Rattle.spiral_words.specs.declared.statuses.status.Status.TheVariants.{Success, Usage, ReadFault, WriteFault}
use Rattle.spiral_words.specs.declared.statuses.status.Status.TheVariants.{NoMemory}
use Rattle.runs.specs.declared.stream.StreamFault.{StreamFault}
use Rattle.runs.specs.declared.stream.StreamFault.TheVariants as stream
use Rattle.spiral_words.specs.Statuses.Fault.{status_of_rest, status_of_fault}
use Rattle.commands.specs.Input.Ends.{EndsCleanly}
use Rattle.commands.specs.Input.Refusals.{IsRefusal}

-- the faults of a run over the data, as statuses
from_read : (fault : StreamFault) → status_of_fault fault ≡ ReadFault → fault ≡ stream.ReadFault
from_read stream.ReadFault e = refl
from_read fault e = absurd (cc)

from_write : (fault : StreamFault) → status_of_fault fault ≡ WriteFault → fault ≡ stream.WriteFault
from_write stream.WriteFault e = refl
from_write fault e = absurd (cc)

-- and no other ends
fault_is_other : (fault : StreamFault) → (status_of_fault fault ≢ Success) × (status_of_fault fault ≢ Usage)
    × (status_of_fault fault ≢ NoMemory)
fault_is_other stream.TooLong = (λ e. cc, λ e. cc, λ e. cc)
fault_is_other fault = (λ e. cc, λ e. cc, λ e. cc)

pub fault_success : (fault : StreamFault) → status_of_fault fault ≢ Success
fault_success fault = (fault_is_other fault).0

abbrev pub failed : StreamFault → Result (Unit {0}) StreamFault
failed fault = Err fault

failed_same : (a b : StreamFault) → failed a ≡ failed b → a ≡ b
failed_same a b e = cc

-- a fault that alone has its status is reported as that
reports_as : (before now : ℕ) (fault one : StreamFault)
    → (status_of_fault fault ≡ status_of_fault one → fault ≡ one) → Reports before now (failed fault ≡ failed one)
    → Reports before now (status_of_fault fault ≡ status_of_fault one)
reports_as before now fault one alone r = record {
  later = r.later;
  cause = λ e. r.cause (ap failed (alone e));
  told = λ h. ap status_of_fault (failed_same fault one (r.told h));
}

-- where a count stays, no fault is reported
unreported : (answered : Type 0) (now : ℕ) → (answered → ⊥) → Reports now now answered
unreported answered now none = record { later = omega arith; cause = λ e. absurd (none e); told = λ h. absurd (omega (arith, h)) }

pub rest_usage : (fault : RestFault) → status_of_rest fault ≢ Usage
rest_usage rest_fault.TooLong = λ e. cc
rest_usage fault = λ e. cc

-- How commands end

-- by a status that is no fault of the outside, where no read failed and nothing was written
pub quiet_ends : (status : Status) (held : List ℕ) (before now writes : ℕ) (out : Option (List ℕ))
    → now ≡ before → status ≢ Usage → status ≢ ReadFault → status ≢ WriteFault →
    EndsCleanly status held before now writes writes out out
quiet_ends status held before now writes out same usage read write = record {
  empty = λ e. absurd (read e);
  usage = usage;
  read = rw same (unreported (status ≡ ReadFault) before read);
  write = unreported (status ≡ WriteFault) writes write;
  memory = λ e. Appends-nil out;
}

-- by a refusal
pub refusal_ends : (status : Status) (held : List ℕ) (before now writes : ℕ) (out : Option (List ℕ))
    → now ≡ before → IsRefusal status → EndsCleanly status held before now writes writes out out
refusal_ends status held before now writes out same refusal = quiet_ends status held before now writes out same refusal.usage refusal.read refusal.write

-- by a failed write, where no read failed
pub write_ends : (held : List ℕ) (before now write_before write_now : ℕ) (out out' : Option (List ℕ))
    → now ≡ before → write_before ≤ write_now → Rose write_before write_now →
    EndsCleanly WriteFault held before now write_before write_now out out'
write_ends held before now write_before write_now out out' same later rose = record {
  empty = λ e. absurd (cc);
  usage = λ e. cc;
  read = rw same (unreported (WriteFault ≡ ReadFault) before (λ e. cc));
  write = record { later = later; cause = λ e. rose; told = λ h. refl };
  memory = λ e. absurd (cc);
}

-- by a fault of a run over the data, before which no read and no write failed
pub run_ends : (fault : StreamFault) (held : List ℕ) (read_before read_mid read_now write_before write_mid write_now
    : ℕ) (out out' : Option (List ℕ))
    → read_mid ≡ read_before → write_mid ≡ write_before → (failed fault ≡ failed stream.ReadFault → held ≡ [])
    → Reports read_mid read_now (failed fault ≡ failed stream.ReadFault) →
    Reports write_mid write_now (failed fault ≡ failed stream.WriteFault)
    → EndsCleanly (status_of_fault fault) held read_before read_now write_before write_now out out'
run_ends fault held read_before read_mid read_now write_before write_mid write_now out out' no_read no_write empty read write = record {
  empty = λ e. empty (ap failed (from_read fault e));
  usage = (fault_is_other fault).1;
  read = rw (sym no_read) (reports_as read_mid read_now fault stream.ReadFault (from_read fault) read);
  write = rw (sym no_write) (reports_as write_mid write_now fault stream.WriteFault (from_write fault) write);
  memory = λ e. absurd ((fault_is_other fault).2 e);
}
