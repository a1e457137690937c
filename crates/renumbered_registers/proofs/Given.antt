-- The numbers that a run has given: they are below the next one, and the registers that are put have the next ones.
use Rattle.std.proofs.Common.{◌≡◌, ◌⊎◌, ℕ, zero, suc, ◌+◌, ◌<◌, ◌≤◌, true, Option, Some, None, inl, inr, refl}
use Rattle.std.proofs.Common.{ap, ◌∙◌, arith, eqb-true, ⊎_elim}
use Rattle.std.specs.Prelude.{is_some}
use Rattle.std.specs.Option.{unwrap_or}
use Rattle.icode.proofs.Bools.{both_true}
use Rattle.nests.proofs.Linear.{wrong, chosen, passed, by_equal}
use Rattle.icode.specs.Plain.{PlainOp, Load, Store, Zero, Add, Sub, Neg, MulConst, MulTable, Tile}
use Rattle.nests.specs.Rounds.{put_after}
use Rattle.renumbered_registers.specs.Renumbered.{Numbering, no_numbers, put, put_all, is_number, are_consecutive}
use Rattle.renumbered_registers.specs.Renumbered.{after_op}

-- ---- options

pub none-is : {X : Type 0} {P : Type 0} (x : X) → ◌≡◌ {A = Option X} None (Some x) → P
none-is x e = wrong (ap is_some e)

pub some-is : {X : Type 0} (x y : X) → Some x ≡ Some y → x ≡ y
some-is x y e = ap (λ o. unwrap_or o x) e

-- ---- numbers are below the next one

abbrev pub AreGiven : Numbering → Type 0
AreGiven z = (r n : ℕ) → z.numbers r ≡ Some n → n < z.next

pub given-none : AreGiven no_numbers
given-none r n e = none-is n e

given-put : (r : ℕ) (z : Numbering) → AreGiven z → AreGiven (put r z)
given-put r z given k n =
    by_equal (λ (o : Option ℕ). o ≡ Some n → n < z.next + 1) k r (Some z.next) (z.numbers k)
    (λ same e. let is = some-is z.next n e in omega (arith, is))
    (λ other e. let lt = given k n e in omega (arith, lt))

pub given-all : (count r : ℕ) (z : Numbering) → AreGiven z → AreGiven (put_all count r z)
given-all zero r z given = given
given-all (suc count) r z given = given-all count (r + 1) (put r z) (given-put r z given)

pub next-all : (count r : ℕ) (z : Numbering) → (put_all count r z).next ≡ z.next + count
next-all zero r z = omega arith
next-all (suc count) r z = next-all count (r + 1) (put r z) ∙ omega arith

-- what comes next after an operation
pub next-after : (lanes : ℕ) (z : Numbering) (op : PlainOp) → (after_op lanes z op).next ≡ put_after lanes z.next op
next-after lanes z (Load r array place) = refl
next-after lanes z (Store array place r) = refl
next-after lanes z (Zero r) = refl
next-after lanes z (Add r x y) = refl
next-after lanes z (Sub r x y) = refl
next-after lanes z (Neg r x) = refl
next-after lanes z (MulConst r x factor) = refl
next-after lanes z (MulTable r x table place step) = refl
next-after lanes z (Tile r x) = next-all lanes r z

pub given-after : (lanes : ℕ) (z : Numbering) (op : PlainOp) → AreGiven z → AreGiven (after_op lanes z op)
given-after lanes z (Load r array place) given = given-put r z given
given-after lanes z (Store array place r) given = given
given-after lanes z (Zero r) given = given-put r z given
given-after lanes z (Add r x y) given = given-put r z given
given-after lanes z (Sub r x y) given = given-put r z given
given-after lanes z (Neg r x) given = given-put r z given
given-after lanes z (MulConst r x factor) given = given-put r z given
given-after lanes z (MulTable r x table place step) given = given-put r z given
given-after lanes z (Tile r x) given = given-all lanes r z given

-- ---- the numbers after some registers are put

pub numbers-other : (count r k : ℕ) (z : Numbering) → (k < r) ⊎ (r + count ≤ k) →
    (put_all count r z).numbers k ≡ z.numbers k
numbers-other zero r k z outside = refl
numbers-other (suc count) r k z outside =
    numbers-other count (r + 1) k (put r z)
    (⊎_elim (λ low. inl (omega (arith, low))) (λ high. inr (omega (arith, high))) outside)
    ∙ passed k r (Some z.next) (z.numbers k)
    (λ e. ⊎_elim (λ low. omega (arith, low, e)) (λ high. omega (arith, high, e)) outside)

pub numbers-there : (count r l : ℕ) (z : Numbering) → l < count →
    (put_all count r z).numbers (r + l) ≡ Some (z.next + l)
numbers-there zero r l z lt = absurd (omega (arith, lt))
numbers-there (suc count) r zero z lt =
    let here : r + 0 ≡ r = omega arith in
    let first : z.next ≡ z.next + 0 = omega arith in
    numbers-other count (r + 1) (r + 0) (put r z) (inl (omega arith))
    ∙ chosen (r + 0) r (Some z.next) (z.numbers (r + 0)) here
    ∙ ap Some first
numbers-there (suc count) r (suc l) z lt =
    let there : r + suc l ≡ r + 1 + l = omega arith in
    let number : z.next + 1 + l ≡ z.next + suc l = omega arith in
    ap (put_all count (r + 1) (put r z)).numbers there
    ∙ numbers-there count (r + 1) l (put r z) (omega (arith, lt))
    ∙ ap Some number

-- ---- consecutive numbers

is-number : (n : ℕ) (o : Option ℕ) → is_number n o ≡ true → o ≡ Some n
is-number n None h = wrong h
is-number n (Some k) h = ap Some (eqb-true k n h)

pub consecutive-at : (count r n l : ℕ) (z : Numbering) → are_consecutive count r n z ≡ true → l < count →
    z.numbers (r + l) ≡ Some (n + l)
consecutive-at zero r n l z h lt = absurd (omega (arith, lt))
consecutive-at (suc count) r n zero z h lt =
    let here : r + 0 ≡ r = omega arith in
    let number : n ≡ n + 0 = omega arith in
    ap z.numbers here ∙ is-number n (z.numbers r) (both_true (is_number n (z.numbers r)) _ h).0 ∙ ap Some number
consecutive-at (suc count) r n (suc l) z h lt =
    let there : r + suc l ≡ r + 1 + l = omega arith in
    let number : n + 1 + l ≡ n + suc l = omega arith in
    ap z.numbers there
    ∙ consecutive-at count (r + 1) (n + 1) l z (both_true (is_number n (z.numbers r)) _ h).1 (omega (arith, lt))
    ∙ ap Some number
