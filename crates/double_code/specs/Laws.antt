-- The statements of the laws of programs on doubles.
use Rattle.std.specs.Prelude.{◌≡◌, ℕ, ◌^◌, ◌<◌, ◌≤◌, List, [], All, map, pos}
use Rattle.icode.specs.Actions.{PlainFits, plain_code}
use Rattle.icode.specs.Machine.{IsApart, results}
use Rattle.icode.specs.Plain.{PlainProgram}
use Rattle.double_code.specs.DoubleMachine.{double_results, under}
use Rattle.double_code.specs.DoubleProgram.{double_code}
use Rattle.double_code.specs.Doubled.{doubled}

-- Whatever the order of turns, the program on doubles leaves the residues that the program leaves
abbrev pub DoubledIsSame : Type 0
DoubledIsSame =
    (p : PlainProgram) → PlainFits p → 1 ≤ p.modulus → p.modulus < 2 ^ 50 → 1 ≤ p.line → (x turns : List ℕ) →
    All (λ v. v < p.modulus) x →
    double_results (double_code (doubled p)) x turns ≡ map pos (results (plain_code p) x turns)

-- Where no processor touches a line that another writes, the order of turns is free
abbrev pub DoubledOrderIsFree : Type 0
DoubledOrderIsFree =
    (p : PlainProgram) → PlainFits p → 1 ≤ p.modulus → p.modulus < 2 ^ 50 → 1 ≤ p.line →
    ((phase : ℕ) → IsApart (plain_code p) phase) → (x turns : List ℕ) → All (λ v. v < p.modulus) x →
    double_results (double_code (doubled p)) x turns ≡ double_results (double_code (doubled p)) x []

-- The program on doubles does the actions of the program, at the same places
abbrev pub DoubledActsTheSame : Type 0
DoubledActsTheSame = (p : PlainProgram) → under (double_code (doubled p)) ≡ plain_code p
