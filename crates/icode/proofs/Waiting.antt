-- Stores that wait.
use Rattle.std.proofs.Common.{◌≡◌, ℕ, zero, suc, ◌+◌, ◌/◌, ◌<◌, ◌≤◌, List, [], ◌∷◌, ◌++◌, true, false, length, refl}
use Rattle.std.proofs.Common.{◌∙◌, arith, Contains, Some, ◌*◌}
use Rattle.std.specs.Prelude.{slice_get}
use Rattle.std.proofs.lemmas.List.{get_or_past}
use Rattle.icode.specs.declared.action.Action.{Action}
use Rattle.icode.specs.declared.action.Action.TheVariants.{Store}
use Rattle.icode.specs.Machine.{Code, acts, memory_after, written_lines}
use Rattle.icode.specs.Buffers.{Waiting, overlaid, stored, some_wait, queue_of}
use Rattle.icode.proofs.Lines.{Contains-range, writes}
use Rattle.icode.proofs.Words.{length-words_at, with_words-agree}

pub overlaid-append : (xs ys : List Waiting) (memory : List ℕ) →
    overlaid memory (xs ++ ys) ≡ overlaid (overlaid memory xs) ys
overlaid-append [] ys memory = refl
overlaid-append (w ∷ xs) ys memory = overlaid-append xs ys _

-- words that agree still do under the same waiting stores
pub overlaid-agree : (queue : List Waiting) (m n : List ℕ) (k : ℕ) → slice_get m k ≡ slice_get n k →
    slice_get (overlaid m queue) k ≡ slice_get (overlaid n queue) k
overlaid-agree [] m n k e = e
overlaid-agree (w ∷ queue) m n k e = overlaid-agree queue _ _ k (with_words-agree w.words m n w.address k e)

-- an action's store in the queue is its store in memory
pub overlaid-stored : (lanes : ℕ) (a : Action) (memory registers : List ℕ) → overlaid memory (stored lanes a registers) ≡ memory_after lanes a (record { memory = memory; registers = registers })
overlaid-stored lanes (Store address r) memory registers = refl
overlaid-stored lanes _ memory registers = refl

-- what the processor sees after the action is what the action leaves of what it saw
pub overlaid-after : (lanes : ℕ) (a : Action) (queue : List Waiting) (memory registers : List ℕ) → overlaid memory (queue ++ stored lanes a registers) ≡ memory_after lanes a (record { memory = overlaid memory queue; registers = registers })
overlaid-after lanes a queue memory registers =
    overlaid-append queue (stored lanes a registers) memory ∙ overlaid-stored lanes a (overlaid memory queue) registers

-- Whose stores wait

-- each word that the stores are for is in a line that processor q writes in the phase
abbrev pub AreOwn : Code → ℕ → ℕ → List Waiting → Type 0
AreOwn code phase q [] = Unit {0}
AreOwn code phase q (w ∷ queue) = ((k : ℕ) → w.address ≤ k → k < w.address + length w.words → Contains (written_lines code phase q) (k / code.line)) × AreOwn code phase q queue

pub AreOwn-append : (code : Code) (phase q : ℕ) (xs ys : List Waiting) → AreOwn code phase q xs →
    AreOwn code phase q ys → AreOwn code phase q (xs ++ ys)
AreOwn-append code phase q [] ys h g = g
AreOwn-append code phase q (w ∷ xs) ys h g = (h.0, AreOwn-append code phase q xs ys h.1 g)

pub stored_own : (code : Code) (phase q n : ℕ) (a : Action) (registers : List ℕ) →
    slice_get (acts code phase q) n ≡ Some a → AreOwn code phase q (stored code.lanes a registers)
stored_own code phase q n (Store address r) registers e =
    (λ k low high. writes code phase q n k (Store address r) e (Contains-range code.lanes address k low (omega (arith, high, length-words_at code.lanes registers (r * code.lanes)))), tt)
stored_own code phase q n _ registers e = tt

-- No store waits

pub none_waits : (queues : List (List Waiting)) → some_wait queues ≡ false → (q : ℕ) → queue_of queues q ≡ []
none_waits [] e q = get_or_past [] q [] (omega arith)
none_waits ([] ∷ queues) e zero = refl
none_waits ((w ∷ queue) ∷ queues) e q = cc
none_waits ([] ∷ queues) e (suc q) = none_waits queues e q

pub one_waits : (queues : List (List Waiting)) (q : ℕ) (w : Waiting) (queue : List Waiting) →
    queue_of queues q ≡ w ∷ queue → some_wait queues ≡ true
one_waits [] q w queue e = let none : queue_of [] q ≡ [] = get_or_past [] q [] (omega arith) in cc
one_waits ([] ∷ queues) zero w queue e = cc
one_waits ([] ∷ queues) (suc q) w queue e = one_waits queues q w queue e
one_waits ((x ∷ rest) ∷ queues) q w queue e = refl

-- where none waits for any processor, none waits
pub all_empty : (queues : List (List Waiting)) → ((q : ℕ) → q < length queues → queue_of queues q ≡ []) →
    some_wait queues ≡ false
all_empty [] h = refl
all_empty ([] ∷ queues) h = all_empty queues (λ q lt. h (suc q) (omega arith))
all_empty ((w ∷ queue) ∷ queues) h = let e = h 0 (omega arith) in cc

-- a processor with a store that waits is one that has a queue
pub queue_inside : (queues : List (List Waiting)) (q : ℕ) (w : Waiting) (queue : List Waiting) →
    queue_of queues q ≡ w ∷ queue → q < length queues
queue_inside [] q w queue e = let none : queue_of [] q ≡ [] = get_or_past [] q [] (omega arith) in cc
queue_inside (x ∷ queues) zero w queue e = omega arith
queue_inside (x ∷ queues) (suc q) w queue e = omega (arith, queue_inside queues q w queue e)
