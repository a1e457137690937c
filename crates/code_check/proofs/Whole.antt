-- The check of a whole program, phase by phase.
use Rattle.std.proofs.Common.{◌≡◌, ◌≢◌, ℕ, ◌+◌, ◌<◌, ◌≤◌, [], Option, Some, None, All, Contains}
use Rattle.std.proofs.Common.{length, flat_map, sym, ap, subst, arith, ⊎_elim}
use Rattle.std.specs.Prelude.{MatchOption}
use Rattle.std.proofs.lemmas.Bool.{cases_eq, cases_lt}
use Rattle.std.proofs.lemmas.List.{get_or_past}
use Rattle.std.proofs.lemmas.List.Elements.{All-nil}
use Rattle.icode.specs.Actions.{StepFits, PlainFits, steps_of_body, steps_of_phase, plain_code}
use Rattle.icode.specs.Limits.{IsWithinLimits}
use Rattle.icode.specs.Machine.{IsApart}
use Rattle.icode.specs.Plain.{PlainProgram, NoStmts}
use Rattle.icode.proofs.Lines.{Contains-nil}
use Rattle.code_check.specs.declared.fault.CheckFault.{CheckFault}
use Rattle.code_check.specs.declared.fault.CheckFault.TheVariants.{OverSteps, Address, Register, LineShared, NoMemory}
use Rattle.code_check.specs.declared.lines.Sharing.{Sharing}
use Rattle.code_check.specs.Phases.{IsPhaseSound, IsPhaseFault}
use Rattle.code_check.specs.Refusals.{IsSound, AreSound, Share, IsLeastShared, IsFirstShared, PassesCheck, IsCause}
use Rattle.code_check.specs.Refusals.{action_count, action_limit}
use Rattle.code_check.specs.Uses.{sooner}
use Rattle.code_check.proofs.Regular.{factors_fit}
use Rattle.code_check.proofs.Tables.{lines_touched, no_list_past_phases}

-- the first n phases are checked: their actions are sound; they are apart, or this is the first line that is shared
pub record IsCheckedTo (p : PlainProgram) (n : ℕ) (shared : Option Sharing) : Type 0 where
  pub sound : (f r : ℕ) → f < n → r < p.procs → All (IsSound p) (steps_of_phase p f r)
  pub sharing : MatchOption shared ((f : ℕ) → f < n → IsApart (plain_code p) f)
      (λ (s : Sharing). IsFirstShared (plain_code p) s.phase s.line s.a s.b)

pub checked_none : (p : PlainProgram) → IsCheckedTo p 0 None
checked_none p = record { sound = λ f r lt small. absurd (omega arith); sharing = λ f lt. absurd (omega arith) }

apart_has_none : (p : PlainProgram) (f l x y : ℕ) → IsApart (plain_code p) f → Share (plain_code p) f l x y → ⊥
apart_has_none p f l x y apart s = apart.alone x y l s.other s.writes s.touches

sharing_more : (p : PlainProgram) (n : ℕ) (known found : Option Sharing) →
    MatchOption known ((f : ℕ) → f < n → IsApart (plain_code p) f)
    (λ (s : Sharing). IsFirstShared (plain_code p) s.phase s.line s.a s.b) →
    MatchOption found (IsApart (plain_code p) n) (λ (s : Sharing). (s.phase ≡ n)
    × IsLeastShared (plain_code p) n s.line s.a s.b) → MatchOption (sooner known found)
    ((f : ℕ) → f < n + 1 → IsApart (plain_code p) f) (λ (s : Sharing). IsFirstShared (plain_code p) s.phase s.line s.a
    s.b)
sharing_more p n (Some s) found before here = before
sharing_more p n None None before here = λ f lt. ⊎_elim
    (λ (same : f ≡ n). subst (λ k. IsApart (plain_code p) k) (sym same) here)
    (λ (ne : f ≢ n). before f (omega arith))
    (cases_eq f n)
sharing_more p n None (Some s) before here =
    subst (λ k. IsFirstShared (plain_code p) k s.line s.a s.b) (sym here.0)
    (record {
      in_phase = here.1;
      phases = λ f l x y sh. ⊎_elim (λ (lt : f < n). absurd (apart_has_none p f l x y (before f lt) sh)) (λ (ge : n ≤ f). ge) (cases_lt f n);
    })

pub checked_more : (p : PlainProgram) (n : ℕ) (known found : Option Sharing) → IsCheckedTo p n known →
    IsPhaseSound p n found → IsCheckedTo p (n + 1) (sooner known found)
checked_more p n known found before here =
    record {
      sound = λ f r lt small. ⊎_elim
          (λ (same : f ≡ n). subst (λ k. All (IsSound p) (steps_of_phase p k r)) (sym same) (here.sound r small))
          (λ (ne : f ≢ n). before.sound f r (omega arith) small)
          (cases_eq f n);
      sharing = sharing_more p n known found before.sharing here.sharing;
    }

pub checked_fault : (limit : ℕ) (p : PlainProgram) (n : ℕ) (known : Option Sharing) (fault : CheckFault) →
    action_count p ≤ limit → IsCheckedTo p n known → IsPhaseFault p n fault → IsCause limit p fault
checked_fault limit p n known (OverSteps k) few before h = absurd h
checked_fault limit p n known (Address f q i) few before h =
    subst (λ k. IsCause limit p (Address k q i)) (sym h.0) (record {
      few = few;
      step = h.1.step;
      first = record { in_phase = h.1.first; phases = before.sound };
      missing = h.1.missing;
    })
checked_fault limit p n known (Register f q i) few before h =
    subst (λ k. IsCause limit p (Register k q i)) (sym h.0) (record {
      few = few;
      step = h.1.step;
      first = record { in_phase = h.1.first; phases = before.sound };
      there = h.1.there;
    })
checked_fault limit p n known (LineShared f line a b) few before h = absurd h
checked_fault limit p n known NoMemory few before h = tt

all_sound : (p : PlainProgram) (n : ℕ) (known : Option Sharing) → length p.phases ≤ n → IsCheckedTo p n known →
    AreSound p
all_sound p n known past h phase q small =
    ⊎_elim
    (λ (lt : phase < n). h.sound phase q lt small)
    (λ (ge : n ≤ phase). subst (λ body. All (IsSound p) (steps_of_body p body [] q)) (sym (get_or_past p.phases phase NoStmts (omega arith))) (All-nil (IsSound p)))
    (cases_lt phase n)

apart_past : (p : PlainProgram) (phase : ℕ) → length p.phases ≤ phase → IsApart (plain_code p) phase
apart_past p phase past = record {
  alone = λ q other line ne w t. Contains-nil line (subst (λ xs. Contains xs line) (ap (flat_map (lines_touched p)) (no_list_past_phases p phase other past)) t);
}

pub checked_passes : (limit : ℕ) (p : PlainProgram) (n : ℕ) → action_count p ≤ limit → length p.phases ≤ n →
    IsCheckedTo p n None → PassesCheck limit p
checked_passes limit p n few past h =
    record {
      few = few;
      sound = all_sound p n None past h;
      apart = λ phase. ⊎_elim (λ (lt : phase < n). h.sharing phase lt) (λ (ge : n ≤ phase). apart_past p phase (omega arith)) (cases_lt phase n);
    }

pub checked_shared : (limit : ℕ) (p : PlainProgram) (n : ℕ) (s : Sharing) → action_count p ≤ limit →
    length p.phases ≤ n → IsCheckedTo p n (Some s) → IsCause limit p (LineShared s.phase s.line s.a s.b)
checked_shared limit p n s few past h = record { few = few; sound = all_sound p n (Some s) past h; first = h.sharing }

-- what is short and sound fits
pub sound_fits : (p : PlainProgram) → IsWithinLimits p → action_count p ≤ action_limit → AreSound p → PlainFits p
sound_fits p limits few all = record { few = omega (arith, few); each = λ phase q small k d lt. fits phase q small k d lt }
  where
    fits : (phase q : ℕ) → q < p.procs → All (StepFits p) (steps_of_phase p phase q)
    fits phase q small k d lt =
        let sound = all phase q small k d lt in
        let factors = factors_fit p limits phase q k d lt in
        record { numbers = sound.place.numbers; place = sound.place.inside; registers = sound.registers; factors = factors }

-- what passes fits
pub passed_fits : (p : PlainProgram) → IsWithinLimits p → PassesCheck action_limit p → PlainFits p
passed_fits p limits h = sound_fits p limits h.few h.sound
