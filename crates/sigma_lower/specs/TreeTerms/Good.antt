-- Steps of one size, with the factors that their permutations need.
use Rattle.std.specs.Prelude.{◌≡◌, ℕ, ◌*◌, ◌<◌, ◌≤◌, List, [], ◌∷◌}
use Rattle.std.specs.Int.{IsGcd}
use Rattle.operators.specs.Sizes.{max_size}
use Rattle.sigma_spl.specs.Work.{PlainWork, tile, copy, HasWords}
use Rattle.smp_rewrite.specs.Layout.Meaning.{core_size}
use Rattle.smp_rewrite.specs.Layout.Step.{PlainCore, piece, turns, twiddles, thomas_in, thomas_out, PlainStep}
use Rattle.operators.specs.Paths.Tensors.{size_under}

pub record AreCoprime (r s : ℕ) : Type 0 where
  pub left : 0 < r
  pub right : 0 < s
  pub gcd : IsGcd r s 1
  pub small : r * s ≤ max_size

-- a work that does a transform, with words for its numbers
abbrev pub IsGoodPiece : PlainWork → Type 0
IsGoodPiece (tile lanes) = ⊥
IsGoodPiece (copy size) = ⊥
IsGoodPiece w = HasWords w

abbrev pub IsGoodCore : PlainCore → Type 0
IsGoodCore (piece w) = IsGoodPiece w
IsGoodCore (turns r s) = (0 < r) × (0 < s)
IsGoodCore (twiddles r s w) = Unit {0}
IsGoodCore (thomas_in r s) = AreCoprime r s
IsGoodCore (thomas_out r s) = AreCoprime r s

pub record IsGood (n : ℕ) (s : PlainStep) : Type 0 where
  pub size : size_under s.path (core_size s.core) ≡ n
  pub core : IsGoodCore s.core

abbrev pub AreGood : ℕ → List PlainStep → Type 0
AreGood n [] = Unit {0}
AreGood n (s ∷ ss) = IsGood n s × AreGood n ss
