-- Functions of an index, as terms with no boxes: what clauses say of an `Index`.
use Rattle.std.specs.Prelude.{◌≡◌, ℕ, ◌+◌, ◌*◌, ◌/◌, ◌%◌, ◌^◌, ◌<◌, ◌≤◌, List, length, slice_index, Option, Some, None}
use Rattle.std.specs.Option.{option_map}
use Rattle.operators.specs.Operator.{stride, good_thomas_in, good_thomas_out}

-- a multiple of s that leaves 1 by r
pub record IsUnit (r s e : ℕ) : Type 0 where
  pub below : e < r * s
  pub one : e % r ≡ 1 % r
  pub multiple : e % s ≡ 0

abbrev pub HasUnit : ℕ → ℕ → Type 0
HasUnit r s = (e : ℕ) × IsUnit r s e

pub data Mapping : Type 0 where
  Same : Mapping
  Always : (value : ℕ) → Mapping
  Line : (base step : ℕ) → Mapping
  Strided : (r s : ℕ) → Mapping
  ThomasIn : (r s : ℕ) → Mapping
  ThomasOut : (r s : ℕ) → Mapping
  ThomasBack : (r s e g : ℕ) → Mapping
  Listed : (places : List ℕ) → Mapping
  Paired : (f : Mapping) (c : ℕ) (g : Mapping) (d : ℕ) → Mapping
  After : (f g : Mapping) → Mapping

-- the value at i
abbrev pub at : Mapping → ℕ → ℕ
at Same i = i
at (Always value) i = value
at (Line base step) i = base + step * i
at (Strided r s) i = stride r s i
at (ThomasIn r s) i = good_thomas_in r s i
at (ThomasOut r s) i = good_thomas_out r s i
at (ThomasBack r s e g) i = ((i / s) * e + (i % s) * g) % (r * s)
at (Listed places) i = slice_index places i
at (Paired f c g d) i = at f (i / d) * c + at g (i % d)
at (After f g) i = at f (at g i)

-- the size of a function that has one: its domain is the numbers below it
abbrev pub size_of : Mapping → Option ℕ
size_of Same = None
size_of (Always value) = None
size_of (Line base step) = None
size_of (Strided r s) = Some (r * s)
size_of (ThomasIn r s) = Some (r * s)
size_of (ThomasOut r s) = Some (r * s)
size_of (ThomasBack r s e g) = Some (r * s)
size_of (Listed places) = Some (length places)
size_of (Paired f c g d) = option_map (λ n. n * d) (size_of f)
size_of (After f g) = size_of g

-- the factors and divisors are as they must be
abbrev pub IsWellFormed : Mapping → Type 0
IsWellFormed Same = Unit {0}
IsWellFormed (Always value) = Unit {0}
IsWellFormed (Line base step) = Unit {0}
IsWellFormed (Strided r s) = (1 ≤ r) × (1 ≤ s) × (r * s < 2 ^ 64)
IsWellFormed (ThomasIn r s) = (1 ≤ r) × (1 ≤ s) × (r * s < 2 ^ 64)
IsWellFormed (ThomasOut r s) = (1 ≤ r) × (1 ≤ s) × (r * s < 2 ^ 64)
IsWellFormed (ThomasBack r s e g) = (1 ≤ r) × (1 ≤ s) × (r * s < 2 ^ 64) × IsUnit r s e × IsUnit s r g
IsWellFormed (Listed places) = Unit {0}
IsWellFormed (Paired f c g d) = (1 ≤ d) × IsWellFormed f × IsWellFormed g
IsWellFormed (After f g) = IsWellFormed f × IsWellFormed g

-- i is in the domain, and each product and sum on the way to the value at i fits 64 bits
abbrev pub IsDefinedAt : Mapping → ℕ → Type 0
IsDefinedAt Same i = Unit {0}
IsDefinedAt (Always value) i = Unit {0}
IsDefinedAt (Line base step) i = base + step * i < 2 ^ 64
IsDefinedAt (Strided r s) i = i < r * s
IsDefinedAt (ThomasIn r s) i = (i < r * s) × (s * (i / s) + r * (i % s) < 2 ^ 64)
IsDefinedAt (ThomasOut r s) i = i < r * s
IsDefinedAt (ThomasBack r s e g) i = (i < r * s) × ((i / s) * e + (i % s) * g < 2 ^ 64)
IsDefinedAt (Listed places) i = i < length places
IsDefinedAt (Paired f c g d) i = IsDefinedAt f (i / d) × IsDefinedAt g (i % d) × (at f (i / d) * c + at g (i % d) < 2 ^ 64)
IsDefinedAt (After f g) i = IsDefinedAt g i × IsDefinedAt f (at g i)
