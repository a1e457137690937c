-- Steps of loops over queues, counts and phases.
use Rattle.std.proofs.Common.{◌≡◌, ℕ, zero, suc, ◌+◌, ◌-◌, ◌<◌, List, [], ◌∷◌, ◌++◌, false, cond}
use Rattle.std.proofs.Common.{length, take, drop, map, get_or, nat_lt, sym, ap, ◌∙◌, arith, add-one, lt-ltb}
use Rattle.std.specs.Prelude.{slice_index, slice_set}
use Rattle.std.proofs.lemmas.Bool.{le-ltb}
use Rattle.buffer_machine.specs.Stand.{first_busy}

map_step_ : {X : Type 0} (f : X → X) (old : List X) (i : ℕ) (x : X) → i < length old →
    x ≡ get_or (map f (take i old) ++ drop i old) i x → slice_set (map f (take i old) ++ drop i old) i (f x)
    ≡ map f (take (suc i) old) ++ drop (suc i) old
map_step_ f [] i x lt e = absurd (omega arith)
map_step_ f (y ∷ old) zero x lt e = ap (λ z. f z ∷ old) e
map_step_ f (y ∷ old) (suc i) x lt e = ap (λ ys. f y ∷ ys) (map_step_ f old i x (omega arith) e)

-- one more item is mapped
pub map_step : {X : Type 0} (f : X → X) (old now : List X) (i : ℕ) (x new : X) → i < length old →
    now ≡ map f (take i old) ++ drop i old → x ≡ get_or now i x → new ≡ f x →
    slice_set now i new ≡ map f (take (i + 1) old) ++ drop (i + 1) old
map_step f old now i x new lt same e en =
    ap (λ y. slice_set now i y) en
    ∙ (ap (λ ys. slice_set ys i (f x)) same
    ∙ (map_step_ f old i x lt (e ∙ ap (λ ys. get_or ys i x) same)
    ∙ ap (λ k. map f (take k old) ++ drop k old) (sym (add-one i))))

-- The first phase with actions

pub busy_skip : (lens : List ℕ) (phase : ℕ) → phase < length lens → slice_index lens phase ≡ 0 →
    first_busy lens (length lens - phase) phase ≡ first_busy lens (length lens - (phase + 1)) (phase + 1)
busy_skip lens phase lt z =
    let more : length lens - phase ≡ suc (length lens - (phase + 1)) = omega arith in
    let none : nat_lt 0 (slice_index lens phase) ≡ false = le-ltb _ _ (omega arith) in
    ap (λ n. first_busy lens n phase) more ∙ ap (λ b. cond b phase (first_busy lens (length lens - (phase + 1)) (phase + 1))) none

pub busy_stop : (lens : List ℕ) (phase : ℕ) → phase < length lens → 0 < slice_index lens phase →
    first_busy lens (length lens - phase) phase ≡ phase
busy_stop lens phase lt some =
    let more : length lens - phase ≡ suc (length lens - (phase + 1)) = omega arith in
    ap (λ n. first_busy lens n phase) more ∙ ap (λ b. cond b phase (first_busy lens (length lens - (phase + 1)) (phase + 1))) (lt-ltb _ _ some)
