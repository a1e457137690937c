-- What is read of numbers is within their limits.
use Rattle.std.proofs.Common.{◌≡◌, ℕ, ◌^◌, Result, Ok, subst, arith, List, [], ◌∷◌, ◌++◌, All, codes}
use Rattle.std.proofs.lemmas.Grind.{common_steps}
use Rattle.grammar.specs.Grammar.{number, positive, named_number}
use Rattle.grammar.specs.Reading.{Place, number_at, positive_at, named_number_at}
use Rattle.grammar.proofs.Numbers.{NoDigit}
use Rattle.grammar.proofs.Parts.{number_reader, named_number_reader}
use Rattle.grammar.proofs.Places.{Answers, IsReader}
use Rattle.grammar.proofs.Positive.{positive_reader}
use Rattle.spl_ast.specs.Shape.{IsSize, IsRingValue}

-- what a reader answers is spelt by some text
pub read_spells : {A : Type 0} (C : List ℕ → Type 0) (L : List ℕ → A → Type 0)
    (read : Place ℕ → Result (A × Place ℕ) ℕ) → IsReader C L read → (place : Place ℕ) (x : A × Place ℕ) →
    read place ≡ Ok x → (text : List ℕ) × L text x.0
read_spells C L read reader place x e =
    let took = subst (λ r. Answers C L place r) e (reader.each place) in (took.text, took.spelt)

pub factor_bound : (place next : Place ℕ) (n : ℕ) → positive_at 1048577 place ≡ Ok (n, next) → IsSize n
factor_bound place next n e =
    let found = read_spells NoDigit (positive 1048577) (positive_at 1048577) (positive_reader 1048577 (omega arith) (omega arith)) place (n, next) e in
    (found.1.0, omega (arith, found.1.1))

pub value_bound : (place next : Place ℕ) (v : ℕ) → number_at (2 ^ 62) place ≡ Ok (v, next) → IsRingValue v
value_bound place next v e =
    let found = read_spells NoDigit (number (2 ^ 62)) (number_at (2 ^ 62)) (number_reader (2 ^ 62) (omega arith) (omega arith)) place (v, next) e in
    found.1.0

pub named_value_bound : (place next : Place ℕ) (v : ℕ) → named_number_at (codes ",") (2 ^ 62) place ≡ Ok (v, next) →
    IsRingValue v
named_value_bound place next v e =
    let found = read_spells NoDigit (named_number (codes ",") (2 ^ 62)) (named_number_at (codes ",") (2 ^ 62)) (named_number_reader (codes ",") (2 ^ 62) (omega arith) (omega arith)) place (v, next) e in
    found.1.ends.0

pub all_push : (xs : List ℕ) (v : ℕ) → All IsRingValue xs → IsRingValue v → All IsRingValue (xs ++ v ∷ [])
all_push xs v h k = grind (arith, common_steps)

-- ---- the first of the values, and those after it
