-- The turns of a schedule are those of processors that are there.
use Rattle.std.proofs.Common.{◌≡◌, ℕ, zero, suc, ◌+◌, ◌/◌, ◌^◌, ◌<◌, ◌≤◌, List, [], ◌∷◌, ◌++◌, Bool, true, false, cond}
use Rattle.std.proofs.Common.{length, Some, None, refl, arith, mod-lt, nat_le}
use Rattle.std.specs.Prelude.{slice_index}
use Rattle.std.specs.List.{find}
use Rattle.std.proofs.lemmas.Bool.{leb-false}
use Rattle.schedules.specs.Schedule.{Plan, Sequential, Rounds, Named, Seeded}
use Rattle.schedules.specs.Turns.{from_on, rounds, seeded, next_state, turns_of, named}

abbrev AreThere : ℕ → List ℕ → Type 0
AreThere p xs = (i : ℕ) → i < length xs → slice_index xs i < p

there_append : (p : ℕ) (xs ys : List ℕ) → AreThere p xs → AreThere p ys → AreThere p (xs ++ ys)
there_append p [] ys hx hy i lt = hy i lt
there_append p (x ∷ xs) ys hx hy zero lt = hx 0 (omega arith)
there_append p (x ∷ xs) ys hx hy (suc i) lt = there_append p xs ys (λ k l. hx (suc k) (omega arith)) hy i (omega arith)

from_there : (p n count : ℕ) → n + count ≤ p → AreThere p (from_on n count)
from_there p n zero le i lt = absurd (omega arith)
from_there p n (suc count) le zero lt = omega arith
from_there p n (suc count) le (suc i) lt = from_there p (n + 1) count (omega arith) i (omega arith)

rounds_there : (p count : ℕ) → AreThere p (rounds count p)
rounds_there p zero i lt = absurd (omega arith)
rounds_there p (suc count) i lt = there_append p (from_on 0 p) (rounds count p) (from_there p 0 p (omega arith)) (rounds_there p count) i lt

seeded_there : (p count v : ℕ) → 0 < p → AreThere p (seeded count v p)
seeded_there p zero v pos i lt = absurd (omega arith)
seeded_there p (suc count) v pos zero lt = mod-lt (next_state v / 2 ^ 33) pos
seeded_there p (suc count) v pos (suc i) lt = seeded_there p count (next_state v) pos i (omega arith)

some_none : (x : ℕ) → Some x ≡ None → ⊥
some_none x e = cc

named_at : (p x : ℕ) (xs : List ℕ) (b : Bool) → nat_le p x ≡ b → cond b (Some x) (find (λ q. nat_le p q) xs) ≡ None →
    (find (λ q. nat_le p q) xs ≡ None → AreThere p xs) → AreThere p (x ∷ xs)
named_at p x xs true t e rest i lt = absurd (some_none x e)
named_at p x xs false t e rest zero lt = leb-false p x t
named_at p x xs false t e rest (suc i) lt = rest e i (omega arith)

named_there : (p : ℕ) (xs : List ℕ) → find (λ q. nat_le p q) xs ≡ None → AreThere p xs
named_there p [] e i lt = absurd (omega arith)
named_there p (x ∷ xs) e i lt = named_at p x xs (nat_le p x) refl e (named_there p xs) i lt

pub turns_there : (plan : Plan) (p : ℕ) → 0 < p → find (λ q. nat_le p q) (named plan) ≡ None → (i : ℕ) →
    i < length (turns_of plan p) → slice_index (turns_of plan p) i < p
turns_there Sequential p pos e i lt = absurd (omega arith)
turns_there (Rounds count) p pos e i lt = rounds_there p count i lt
turns_there (Named turns) p pos e i lt = named_there p turns e i lt
turns_there (Seeded seed count) p pos e i lt = seeded_there p count seed pos i lt
