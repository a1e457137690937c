-- What is known of the bytes that an input gave, by what a command for a request answers.
use Rattle.std.proofs.Common.{◌≡◌, ◌<◌, ◌+◌, ◌⊎◌, ◌||◌, Bool, true, false, ℕ, zero, suc, List, [], ◌∷◌, ◌++◌, None, Some}
use Rattle.std.proofs.Common.{Err, Ok, length, refl, sym, ap, subst, ◌∙◌, arith, append_assoc, append-nil, inl, inr}
use Rattle.std.proofs.Common.{length-append}
use Rattle.std.proofs.lemmas.Bool.{cases_Bool}
use Rattle.std.proofs.lemmas.List.{append_cancel_left, append_cancel_right}
use Rattle.std.proofs.lemmas.List.Folds.{list_any-append}
use Rattle.std.specs.List.{list_any}
use Rattle.std.specs.Io.KnownBytes.{Appends}
use Rattle.std.specs.declared.option.Option.{Option}
use Rattle.commands.specs.Equations.Commands.{outcomes_of}
use Rattle.commands.specs.Equations.Front.{Front, HasEnded, is_line_end, line, ordered}
use Rattle.commands.specs.Input.Stage.{HasGiven, Stage}
use Rattle.commands.proofs.Inputs.FrontLemmas.{front_long}
use Rattle.commands.proofs.Inputs.LineLemmas.{line_longer}
use Rattle.commands.proofs.Inputs.Stages.{done_ended}
use Rattle.io_edge.specs.Told.{Tells, Told, rest_of}
use Rattle.spiral_main.specs.Outcome.{AccountsFor}
use Rattle.spiral_main.proofs.Calls.{outcome_of}
use Rattle.spiral_words.proofs.OneCommand.{asked_once}
use Rattle.spiral_words.specs.Asked.{IsAsked}
use Rattle.spiral_words.specs.Statuses.Status.{IsDefined}
use Rattle.spiral_words.specs.declared.Command.{Command}
use Rattle.spiral_words.specs.declared.Command.TheVariants.{ByRequest}
use Rattle.spiral_words.specs.declared.Document.TheVariants as document
use Rattle.spiral_words.specs.declared.RequestCommand.{RequestCommand}
use Rattle.spiral_words.specs.declared.RequestCommand.TheVariants.{Writes, Runs, Traces, Judges}
use Rattle.spiral_words.specs.declared.statuses.status.Status.{Status}
use Rattle.spiral_words.specs.declared.statuses.status.Status.TheVariants.{Success, ReadFault, TooLong}

-- so many bytes without a line end
open_bytes : ℕ → List ℕ
open_bytes zero = []
open_bytes (suc n) = 0 ∷ open_bytes n

length_open : (n : ℕ) → length (open_bytes n) ≡ n
unfolding open_bytes
length_open zero = refl
length_open (suc n) = ap suc (length_open n)

open_is : (n : ℕ) → list_any is_line_end (open_bytes n) ≡ false
unfolding open_bytes
open_is zero = refl
open_is (suc n) = open_is n

-- ---- a line that is too long has no answer but that

too_long : {A : Type 0} (front : Front) (orders : List ℕ → Stage A) (Refuses : Type 0) (Settles : A → Type 0)
    (bytes : List ℕ) → front.most < length (front.first bytes)
    → (ordered front orders bytes (Err Success) × Refuses)
    ⊎ ((value : A) × ordered front orders bytes (Ok value) × Settles value) → ⊥
too_long front orders Refuses Settles bytes long (inl (inl is, refuses)) =
    let wrong = is ∙ front_long front bytes long in absurd (cc)
too_long front orders Refuses Settles bytes long (inl (inr on, refuses)) =
    done_ended on.value (TooLong front.most) (on.before ∙ front_long front bytes long)
too_long front orders Refuses Settles bytes long (inr (value, on, right)) =
    done_ended on.value (TooLong front.most) (on.before ∙ front_long front bytes long)

-- of every command for a request
no_answer : (command : RequestCommand) (bytes text : List ℕ) → 256 < length ((line 256).first bytes)
    → (outcomes_of (ByRequest command)).answer bytes Success text → ⊥
no_answer (Writes document.Plan) bytes text long p = too_long (line 256) _ _ _ bytes long p
no_answer (Writes document.Formula) bytes text long p = too_long (line 256) _ _ _ bytes long p
no_answer (Writes document.Code) bytes text long p = too_long (line 256) _ _ _ bytes long p
no_answer (Writes document.C) bytes text long p = too_long (line 256) _ _ _ bytes long p
no_answer (Writes document.Cert) bytes text long p = too_long (line 256) _ _ _ bytes long p
no_answer (Writes (document.Sample seed schedule)) bytes text long p = too_long (line 256) _ _ _ bytes long p
no_answer (Runs order) bytes text long p = too_long (line 256) _ _ _ bytes long p
no_answer (Traces order) bytes text long p = too_long (line 256) _ _ _ bytes long p
no_answer Judges bytes text long p = too_long (line 256) _ _ _ bytes long p

success_is_defined : IsDefined Success
success_is_defined = record { read = λ e. cc; write = λ e. cc; memory = λ e. cc }

any_left : (rest : Option (List ℕ)) (left : List ℕ) → rest ≡ None → Tells rest left
any_left rest left none = subst (λ (r : Option (List ℕ)). Tells r left) (sym none) tt

-- the bytes that were given are those that were used and held
same_given : (words : List (List ℕ)) (input input' : Told) (before after : Option (List ℕ)) (status : Status)
    (bytes : List ℕ) (p : AccountsFor words input input' before after status)
    → input'.given ≡ input.given ++ bytes → p.used ++ p.held ≡ bytes
same_given words input input' before after status bytes p is =
    append_cancel_left input.given (p.used ++ p.held) bytes (sym p.gave.given ∙ is)

pub lines_have_come : (words : List (List ℕ)) (command : RequestCommand) (input input' : Told)
    (before after : Option (List ℕ)) (bytes : List ℕ) → IsAsked words (ByRequest command) → rest_of input' ≡ None
    → AccountsFor words input input' before after Success → input'.given ≡ input.given ++ bytes
    → list_any is_line_end bytes ≡ true
lines_have_come words command input input' before after bytes asked silent p is =
    elim (cases_Bool (list_any is_line_end bytes)) [
      | inl there ↦ there
      | inr none ↦
          let pad : List ℕ = open_bytes 257 in
          let own = same_given words input input' before after Success bytes p is in
          let whole : p.used ++ (p.held ++ pad) ≡ bytes ++ pad =
          sym (append_assoc p.used p.held pad) ∙ ap (λ l. l ++ pad) own in
          let m = p.meets pad (any_left (rest_of input') pad silent) in
          let found = m.answer success_is_defined in
          let answer = outcome_of words (p.used ++ (p.held ++ pad)) (ByRequest command) Success found.0 asked found.1 in
          let still : list_any is_line_end (bytes ++ pad) ≡ false =
          list_any-append is_line_end bytes pad ∙ ap (λ b. b || list_any is_line_end pad) none ∙ open_is 257 in
          let long = line_longer (bytes ++ pad) [] still in
          let count = length-append bytes pad in
          let most = length_open 257 in
          let over : 256 < length ((line 256).first (bytes ++ pad)) =
          subst (λ (l : List ℕ). 256 < length ((line 256).first l)) (append-nil (bytes ++ pad)) (omega (arith, long, count, most)) in
          absurd (no_answer command (bytes ++ pad) found.0 over
          (subst (λ (l : List ℕ). (outcomes_of (ByRequest command)).answer l Success found.0) whole answer))
    ]

-- ---- a line that may go on has no text

open_front : {A : Type 0} (read : List ℕ) (ended Goes : Type 0) (stage : Stage A) (BreaksOff : A → Type 0)
    (text : List ℕ) → list_any is_line_end read ≡ false → (ended → ⊥)
    → (Goes × (text ≡ [])) ⊎ ((value : A) × HasGiven (HasEnded (line 256) read ended) stage value × BreaksOff value)
    → text ≡ []
open_front read ended Goes stage BreaksOff text none never (inl (goes, is)) = is
open_front read ended Goes stage BreaksOff text none never (inr (value, has, right)) = absurd (by_end has.front)
  where
    by_end : HasEnded (line 256) read ended → ⊥
    by_end (inl there) = let wrong = sym none ∙ there in cc
    by_end (inr e) = never e

-- of every command for a request
no_text : (command : RequestCommand) (read text : List ℕ) (ended : Type 0) → list_any is_line_end read ≡ false
    → (ended → ⊥) → (outcomes_of (ByRequest command)).broken read ended text → text ≡ []
no_text (Writes document.Plan) read text ended none never p = open_front read ended _ _ _ text none never p
no_text (Writes document.Formula) read text ended none never p = open_front read ended _ _ _ text none never p
no_text (Writes document.Code) read text ended none never p = open_front read ended _ _ _ text none never p
no_text (Writes document.C) read text ended none never p = open_front read ended _ _ _ text none never p
no_text (Writes document.Cert) read text ended none never p = open_front read ended _ _ _ text none never p
no_text (Writes (document.Sample seed schedule)) read text ended none never p = open_front read ended _ _ _ text none never p
no_text (Runs order) read text ended none never p = open_front read ended _ _ _ text none never p
no_text (Traces order) read text ended none never p = open_front read ended _ _ _ text none never p
no_text Judges read text ended none never p = open_front read ended _ _ _ text none never p

-- something may be left
some_left : (rest : Option (List ℕ)) → (left : List ℕ) × Tells rest left
some_left None = ([], tt)
some_left (Some left) = (left, refl)

not_ended : (ended : Bool) → ended ≡ false → ended ≡ true → ⊥
not_ended ended fresh ends = let wrong = sym fresh ∙ ends in cc

pub open_lines_leave_nothing : (words : List (List ℕ)) (command : RequestCommand) (input input' : Told)
    (before after : Option (List ℕ)) (bytes : List ℕ) → IsAsked words (ByRequest command)
    → AccountsFor words input input' before after ReadFault → input'.given ≡ input.given ++ bytes
    → list_any is_line_end bytes ≡ false → input'.ended ≡ false → Appends before after []
open_lines_leave_nothing words command input input' before after bytes asked p is none fresh =
    let left = some_left (rest_of input') in
    let found = (p.meets left.0 left.1).read_fault refl in
    let own = same_given words input input' before after ReadFault bytes p is in
    let used : found.0 ≡ p.used =
    append_cancel_right found.0 p.used (p.held ++ left.0) (sym found.2) in
    let all : p.used ≡ bytes = sym (append-nil p.used) ∙ ap (λ l. p.used ++ l) (sym (p.none refl)) ∙ own in
    let broken = found.3.2 in
    let same = asked_once words found.3.0 (ByRequest command) found.3.1 asked in
    let mine = subst (λ (c : Command). (outcomes_of c).broken found.0 (input'.ended ≡ true) found.1) same broken in
    let nothing = no_text command found.0 found.1 (input'.ended ≡ true)
    (subst (λ (l : List ℕ). list_any is_line_end l ≡ false) (sym (used ∙ all)) none) (not_ended input'.ended fresh) mine in
    subst (λ (t : List ℕ). Appends before after t) nothing found.4
