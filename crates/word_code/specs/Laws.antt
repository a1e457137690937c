-- The statement of the law of quickened programs.
use Rattle.std.specs.Prelude.{◌≡◌, ℕ, ◌*◌, ◌<◌, ◌≤◌, List, All}
use Rattle.icode.specs.Actions.{PlainFits, plain_code}
use Rattle.icode.specs.Machine.{results}
use Rattle.icode.specs.Plain.{PlainProgram}
use Rattle.word_code.specs.Words.{base_of, sums_of, product_bound}
use Rattle.word_code.specs.WordMachine.{word_results}
use Rattle.word_code.specs.WordProgram.{word_code}
use Rattle.word_code.specs.Quicken.{PlainLaziness, quickened}

-- the bounds fit words: this number of times the modulus is below the
-- base, sums do not wrap before it, and products may be so large
pub record IsLazyWithin (z : PlainLaziness) (modulus : ℕ) : Type 0 where
  pub half : 0 < z.width.half
  pub room : z.limit * modulus < base_of z.width
  pub sums : base_of z.width ≤ sums_of z.width
  pub product : product_bound z.width ≤ z.limit
  pub of_a : (1 ≤ z.kept.of_a) × (z.kept.of_a ≤ z.limit)
  pub of_b : (1 ≤ z.kept.of_b) × (z.kept.of_b ≤ z.limit)

-- Whatever the order of turns, the program on words leaves the residues that the program leaves
abbrev pub QuickenedIsSame : Type 0
QuickenedIsSame =
    (z : PlainLaziness) (p : PlainProgram) → PlainFits p → IsLazyWithin z p.modulus → 0 < p.modulus → 1 ≤ p.line →
    (x turns : List ℕ) → All (λ v. v < p.modulus) x →
    word_results (word_code (quickened z p)) x turns ≡ results (plain_code p) x turns
