-- Terms whose numbers are words, also while they are merged.
use Rattle.std.specs.Prelude.{ℕ, ◌<◌}
use Rattle.index_fn.specs.Back.{HasBack, back_of}
use Rattle.index_fn.specs.Mapping.{Mapping, IsDefinedAt}
use Rattle.sigma_spl.specs.Term.{PlainTerm, gath, scat, nest, product, beside}
use Rattle.sigma_spl.specs.Work.{HasWords}

-- ---- functions

abbrev pub IsDefinedBelow : ℕ → Mapping → Type 0
IsDefinedBelow n f = (i : ℕ) → i < n → IsDefinedAt f i

-- a function of words, and back
pub record HasNumbers (n : ℕ) (f : Mapping) : Type 0 where
  pub undone : HasBack f
  pub there : IsDefinedBelow n f
  pub back : IsDefinedBelow n (back_of f)

-- ---- terms

-- each number of a term's functions and works is a word
abbrev pub AreWords : ℕ → PlainTerm → Type 0
AreWords n (gath f) = HasNumbers n f
AreWords n (scat f) = HasNumbers n f × HasNumbers n (back_of f)
AreWords n (nest path w) = HasWords w
AreWords n (product a b) = AreWords n a × AreWords n b
AreWords n (beside path k a l b) = AreWords k a × AreWords l b
AreWords n t = Unit {0}
