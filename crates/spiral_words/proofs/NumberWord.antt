-- The reader of numbers reads by its grammar.
use Rattle.std.proofs.Common.{◌≡◌, ℕ, ◌^◌, ◌≤◌, List, Result, Ok, refl, sym, subst, arith}
use Rattle.grammar.specs.Grammar.{Judges, number}
use Rattle.grammar.specs.Reading.{number_at, whole}
use Rattle.grammar.proofs.Numbers.{NoDigit}
use Rattle.grammar.proofs.Parts.{number_reader}
use Rattle.grammar.proofs.Whole.{whole_judges}
use Rattle.spiral_words.specs.Asked.{modulus_word, seed_word}
use Rattle.spiral_words.specs.Refused.{IsNoModulus}

pub seed_judges : (word : List ℕ) (r : Result ℕ ℕ) → whole (number_at (2 ^ 64)) word ≡ r → Judges seed_word word r
seed_judges word r e = subst (Judges seed_word word) e (whole_judges NoDigit seed_word (number_at (2 ^ 64)) (number_reader (2 ^ 64) (omega arith) (omega arith)) refl word)

pub small_judges : (word : List ℕ) (r : Result ℕ ℕ) → whole (number_at (2 ^ 62)) word ≡ r →
    Judges (number (2 ^ 62)) word r
small_judges word r e = subst (Judges (number (2 ^ 62)) word) e (whole_judges NoDigit (number (2 ^ 62)) (number_at (2 ^ 62)) (number_reader (2 ^ 62) (omega arith) (omega arith)) refl word)

-- the number of a word that is a modulus, and of one that is too small for it
pub modulus_read : (word : List ℕ) (n m : ℕ) → Judges (number (2 ^ 62)) word (Ok n) → m ≡ n → 2 ≤ n →
    modulus_word word m
modulus_read word n m judged same enough = (subst (λ k. number (2 ^ 62) word k) (sym same) judged.0, omega (arith, same, enough))

pub modulus_small : (word : List ℕ) (n : ℕ) → Judges (number (2 ^ 62)) word (Ok n) → (2 ≤ n → ⊥) → IsNoModulus word
modulus_small word n judged few m spelt =
    let same : m ≡ n = judged.1 m spelt.0 in
    few (omega (arith, same, spelt.1))
