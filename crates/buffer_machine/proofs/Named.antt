-- The events of a word are those of processors that are there.
use Rattle.std.proofs.Common.{◌≡◌, ℕ, zero, suc, ◌+◌, ◌<◌, List, [], ◌∷◌, Bool, true, false, cond, length, map, drop}
use Rattle.std.proofs.Common.{Some, None, refl, ap, subst, ◌∙◌, arith, nat_le}
use Rattle.std.specs.Prelude.{slice_get, slice_index}
use Rattle.std.specs.List.{find}
use Rattle.std.proofs.lemmas.Bool.{leb-false}
use Rattle.icode.specs.Buffers.{proc_of}
use Rattle.icode.specs.declared.event.Event.{Event}
use Rattle.icode.specs.declared.event.Event.TheVariants.{Turn}
use Rattle.schedules.specs.Turns.{turns_of}
use Rattle.par_machine.proofs.Schedules.{turns_there}
use Rattle.buffer_machine.specs.declared.events.Events.{Events}
use Rattle.buffer_machine.specs.declared.events.Events.TheVariants.{Turns, Mixed}
use Rattle.buffer_machine.specs.Listed.{HasNoStranger, events_of}

some_none : (x : ℕ) → Some x ≡ None → ⊥
some_none x e = cc

AreThere : ℕ → List Event → Type 0
AreThere p events = (i : ℕ) (e : Event) → slice_get events i ≡ Some e → proc_of e < p

first_there : (p : ℕ) (x : Event) (events : List Event) (b : Bool) → nat_le p (proc_of x) ≡ b →
    cond b (Some (proc_of x)) (find (λ q. nat_le p q) (map proc_of events)) ≡ None
    → (find (λ q. nat_le p q) (map proc_of events) ≡ None → AreThere p events) → AreThere p (x ∷ events)
unfolding AreThere
first_there p x events true t none rest i e is = absurd (some_none (proc_of x) none)
first_there p x events false t none rest zero e is = let same : x ≡ e = cc in subst (λ (y : Event). proc_of y < p) same (leb-false p (proc_of x) t)
first_there p x events false t none rest (suc i) e is = rest none i e is

mixed_there : (p : ℕ) (events : List Event) → find (λ q. nat_le p q) (map proc_of events) ≡ None → AreThere p events
unfolding AreThere
mixed_there p [] none = λ i e is. cc
mixed_there p (x ∷ events) none = first_there p x events (nat_le p (proc_of x)) refl none (mixed_there p events)

turn_of : (turns : List ℕ) (i : ℕ) (e : Event) → slice_get (map Turn turns) i ≡ Some e →
    (i < length turns) × (proc_of e ≡ slice_index turns i)
turn_of [] i e is = cc
turn_of (q ∷ turns) zero e is = let same : Turn q ≡ e = cc in (omega arith, subst (λ (y : Event). proc_of y ≡ q) same refl)
turn_of (q ∷ turns) (suc i) e is = let rest = turn_of turns i e is in (omega (arith, rest.0), rest.1)

pub event_there : (events : Events) (p : ℕ) → 0 < p → HasNoStranger events p → (i : ℕ) (e : Event) →
    slice_get (events_of events p) i ≡ Some e → proc_of e < p
unfolding AreThere
event_there (Turns schedule) p pos none i e is =
    let turn = turn_of (turns_of schedule.now p) i e is in
    omega (arith, turn.1, turns_there schedule.now p pos none i turn.0)
event_there (Mixed mix) p pos none i e is = mixed_there p mix.now none i e is

-- what is left of a list from a place on
pub next_of : (events : List Event) (place : ℕ) (e : Event) → slice_get events place ≡ Some e →
    drop place events ≡ e ∷ drop (place + 1) events
next_of [] place e is = cc
next_of (x ∷ events) zero e is = cc
next_of (x ∷ events) (suc place) e is =
    let same : suc (place + 1) ≡ suc place + 1 = omega arith in
    next_of events place e is ∙ ap (λ n. e ∷ drop {A = Event} n (x ∷ events)) same
