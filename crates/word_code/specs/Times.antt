-- The product of two residues on words, neither of which is known before: what is above the base, and what is below it,
-- is a word each, and a product by a known factor makes a residue of it.
use Rattle.std.specs.Prelude.{◌≡◌, ℕ, ◌*◌, ◌%◌, ◌<◌, if◌then◌else◌}
use Rattle.word_code.specs.Words.{Width, base_of, sums_of, high, lazy_product, quotient_of, reduced, wrapped_product}
use Rattle.word_code.specs.Words.{wrapped_sum}
use Rattle.word_code.specs.Laws.{IsLazyWithin}
use Rattle.word_code.specs.Quicken.{PlainLaziness}

-- the residue of a word that is below what products by known factors are below
abbrev pub residue_of : Width → ℕ → ℕ → ℕ
residue_of w m a =
    let base = sums_of w in if w.rough then reduced base m (reduced base (2 * m) a) else reduced base m a

-- that of a word times a factor
abbrev pub residue_by : Width → ℕ → ℕ → ℕ → ℕ
residue_by w m a c = residue_of w m (lazy_product w m a c (quotient_of (base_of w) m c))

-- a * b is a multiple of the base, and a word
abbrev pub times : Width → ℕ → ℕ → ℕ → ℕ
times w m a b =
    let base = base_of w in
    reduced (sums_of w) m
    (wrapped_sum (sums_of w) (residue_by w m (high base a b) (base % m))
    (residue_by w m (wrapped_product base a b) 1))

-- On words that take the modulus it is the product of the residues
abbrev pub TimesIsProduct : Type 0
TimesIsProduct =
    (z : PlainLaziness) (m a b : ℕ) → IsLazyWithin z m → a < m → b < m → times z.width m a b ≡ a * b % m
