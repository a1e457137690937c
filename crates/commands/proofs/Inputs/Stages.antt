-- Stages that have one right answer.
use Rattle.std.proofs.Common.{◌≡◌, ℕ, List, None, Some, Ok, Err, Result, refl, sym, ap, subst, ◌∙◌, inl, inr}
use Rattle.std.specs.declared.option.Option.{Option}
use Rattle.spiral_words.specs.declared.statuses.status.Status.{Status}
use Rattle.spiral_words.specs.declared.statuses.status.Status.TheVariants.{Turn}
use Rattle.commands.specs.Input.Commands.{admitted}
use Rattle.commands.specs.Input.Stage.{Stage, given, GoesOn, ◌>>=◌, IsAnswerBy}

-- at most one answer is right
abbrev pub IsDecided : {A : Type 0} → Stage A → Type 0
IsDecided {A} stage = (x y : Result A Status) → stage x → stage y → x ≡ y

abbrev pub done : {A : Type 0} → A → Result A Status
done value = Ok value

abbrev pub ended : {A : Type 0} → Status → Result A Status
ended status = Err status

pub done_same : {A : Type 0} (a b : A) → done a ≡ done b → a ≡ b
done_same a b e = cc

pub ended_same : {A : Type 0} (s t : Status) → ended {A = A} s ≡ ended t → s ≡ t
ended_same s t e = cc

pub done_ended : {A : Type 0} (a : A) (s : Status) → done a ≡ ended s → ⊥
done_ended a s e = absurd (cc)

-- what goes on is what was admitted, and no stranger was named
pub admitted_same : {A : Type 0} (stranger : Option ℕ) (procs : ℕ) (a b : A) → done b ≡ admitted stranger procs a
    → (a ≡ b) × (stranger ≡ None)
admitted_same None procs a b is = (done_same a b (sym is), refl)
admitted_same (Some q) procs a b is = absurd (done_ended b (Turn q procs) is)

pub given_decided : {A : Type 0} (answer : Result A Status) → IsDecided (given answer)
given_decided answer x y p q = p ∙ sym q

behind_same : {A B : Type 0} (first : Stage A) (next : A → Stage B) → IsDecided first → ((a : A) → IsDecided (next a)) →
    (x y : Result B Status)
    → GoesOn first next x → GoesOn first next y → x ≡ y
behind_same {A} {B} first next d n x y p q =
    let same : p.value ≡ q.value = done_same p.value q.value (d (Ok p.value) (Ok q.value) p.before q.before) in
    n q.value x y (subst (λ (a : A). next a x) same p.behind) q.behind

stage_clash : {A B : Type 0} (first : Stage A) (next : A → Stage B) (s : Status) (y : Result B Status) →
    IsDecided first → first (Err s) → GoesOn first next y → ⊥
stage_clash first next s y d p q = done_ended q.value s (d (Ok q.value) (Err s) q.before p)

pub bind_decided : {A B : Type 0} (first : Stage A) (next : A → Stage B) → IsDecided first →
    ((a : A) → IsDecided (next a)) → IsDecided (first >>= next)
bind_decided first next d n (Ok a) (Ok b) p q = behind_same first next d n (Ok a) (Ok b) p q
bind_decided first next d n (Ok a) (Err t) p (inl q) = absurd (stage_clash first next t (Ok a) d q p)
bind_decided first next d n (Ok a) (Err t) p (inr q) = behind_same first next d n (Ok a) (Err t) p q
bind_decided first next d n (Err s) (Ok b) (inl p) q = absurd (stage_clash first next s (Ok b) d p q)
bind_decided first next d n (Err s) (Ok b) (inr p) q = behind_same first next d n (Err s) (Ok b) p q
bind_decided first next d n (Err s) (Err t) (inl p) (inl q) = ap ended (ended_same s t (d (Err s) (Err t) p q))
bind_decided first next d n (Err s) (Err t) (inl p) (inr q) = absurd (stage_clash first next s (Err t) d p q)
bind_decided first next d n (Err s) (Err t) (inr p) (inl q) = absurd (stage_clash first next t (Err s) d q p)
bind_decided first next d n (Err s) (Err t) (inr p) (inr q) = behind_same first next d n (Err s) (Err t) p q

-- What a call answers by such a stage

-- where the stage gives a value, the answer is right for it
pub answer_for : {A : Type 0} (stage : Stage A) (Settles : A → Status → List ℕ → Type 0) (value : A) (status : Status)
    (text : List ℕ)
    → IsDecided stage → stage (Ok value) → IsAnswerBy stage Settles status text → Settles value status text
answer_for stage Settles value status text decided gives (inl p) = absurd (done_ended value status (decided (Ok value) (Err status) gives p.0))
answer_for {A} stage Settles value status text decided gives (inr p) =
    subst (λ (v : A). Settles v status text) (done_same p.0 value (decided (Ok p.0) (Ok value) p.1 gives)) p.2

-- what is so of two answers without a value, and of two that are right for one value, is so of any two
pub of_answers : {A : Type 0} (Holds : Type 0) (stage : Stage A) (Settles : A → Status → List ℕ → Type 0) (a b : Status)
    (s t : List ℕ) → IsDecided stage
    → (a ≡ b → s ≡ t → Holds) → ((value : A) → stage (Ok value) → Settles value a s → Settles value b t → Holds)
    → IsAnswerBy stage Settles a s → IsAnswerBy stage Settles b t → Holds
of_answers Holds stage Settles a b s t decided without by (inl p) (inl q) = without (ended_same a b (decided (Err a) (Err b) p.0 q.0)) (p.1 ∙ sym q.1)
of_answers Holds stage Settles a b s t decided without by (inl p) (inr q) = absurd (done_ended q.0 a (decided (Ok q.0) (Err a) q.1 p.0))
of_answers Holds stage Settles a b s t decided without by (inr p) q = by p.0 p.1 p.2 (answer_for stage Settles p.0 b t decided p.1 q)

-- ---- stages that have an answer

abbrev pub HasAnswer : {A : Type 0} → Stage A → Type 0
HasAnswer {A} stage = (result : Result A Status) × stage result

pub given_has : {A : Type 0} (answer : Result A Status) → HasAnswer (given answer)
given_has answer = (answer, refl)

behind_has : {A B : Type 0} (first : Stage A) (next : A → Stage B) (value : A) → first (Ok value) →
    HasAnswer (next value) → HasAnswer (first >>= next)
behind_has first next value before (Ok later, behind) = (Ok later, record { value = value; before = before; behind = behind })
behind_has first next value before (Err status, behind) = (Err status, inr (record { value = value; before = before; behind = behind }))

pub both_have : {A B : Type 0} (first : Stage A) (next : A → Stage B) → HasAnswer first →
    ((value : A) → first (Ok value) → HasAnswer (next value)) → HasAnswer (first >>= next)
both_have first next (Ok value, before) later = behind_has first next value before (later value before)
both_have first next (Err status, before) later = (Err status, inl before)
