-- Sums of a constant and of multiples of variables, remainders and quotients.
use Rattle.std.specs.Prelude.{◌≡◌, ℕ, ◌+◌, ◌-◌, ◌*◌, ◌/◌, ◌%◌, ◌<◌, ◌≤◌, ◌==◌, nat_lt, if◌then◌else◌, max}
use Rattle.index_fn.specs.Mapping.{Mapping, Same, Always, Line, Strided, ThomasIn, ThomasOut, ThomasBack, Listed}
use Rattle.index_fn.specs.Mapping.{Paired, After, at, IsWellFormed}

pub data Sum : Type 0 where
  constant : (c : ℕ) → Sum
  variable : (f d : ℕ) (rest : Sum) → Sum
  remainder : (f : ℕ) (of : Sum) (divisor : ℕ) (rest : Sum) → Sum
  quotient : (f : ℕ) (of : Sum) (divisor : ℕ) (rest : Sum) → Sum

-- its value, where the variable d has the value vs d
abbrev pub value : Sum → (ℕ → ℕ) → ℕ
value (constant c) vs = c
value (variable f d rest) vs = f * vs d + value rest vs
value (remainder f of m rest) vs = f * (value of vs % m) + value rest vs
value (quotient f of m rest) vs = f * (value of vs / m) + value rest vs

-- a bound on its values, where the variable d runs below counts d
abbrev pub top : Sum → (ℕ → ℕ) → ℕ
top (constant c) counts = c
top (variable f d rest) counts = f * (counts d - 1) + top rest counts
top (remainder f of m rest) counts = f * (m - 1) + top rest counts
top (quotient f of m rest) counts = f * (top of counts / m) + top rest counts

-- each divisor is at least 1
abbrev pub IsSound : Sum → Type 0
IsSound (constant c) = Unit {0}
IsSound (variable f d rest) = IsSound rest
IsSound (remainder f of m rest) = (0 < m) × IsSound of × IsSound rest
IsSound (quotient f of m rest) = (0 < m) × IsSound of × IsSound rest

-- how deep remainders and quotients stand in one another, and how many parts but the constants there are at all levels
abbrev pub levels : Sum → ℕ
levels (constant c) = 0
levels (variable f d rest) = levels rest
levels (remainder f of m rest) = max (1 + levels of) (levels rest)
levels (quotient f of m rest) = max (1 + levels of) (levels rest)

abbrev pub parts : Sum → ℕ
parts (constant c) = 0
parts (variable f d rest) = 1 + parts rest
parts (remainder f of m rest) = 1 + parts of + parts rest
parts (quotient f of m rest) = 1 + parts of + parts rest

abbrev pub HasNoQuotient : Sum → Type 0
HasNoQuotient (constant c) = Unit {0}
HasNoQuotient (variable f d rest) = HasNoQuotient rest
HasNoQuotient (remainder f of m rest) = HasNoQuotient of × HasNoQuotient rest
HasNoQuotient (quotient f of m rest) = ⊥

abbrev pub scaled : ℕ → Sum → Sum
scaled k (constant c) = constant (k * c)
scaled k (variable f d rest) = variable (k * f) d (scaled k rest)
scaled k (remainder f of m rest) = remainder (k * f) of m (scaled k rest)
scaled k (quotient f of m rest) = quotient (k * f) of m (scaled k rest)

abbrev pub added : Sum → Sum → Sum
added (constant c) (constant d) = constant (c + d)
added (constant c) (variable f d rest) = variable f d (added (constant c) rest)
added (constant c) (remainder f of m rest) = remainder f of m (added (constant c) rest)
added (constant c) (quotient f of m rest) = quotient f of m (added (constant c) rest)
added (variable f d rest) e = variable f d (added rest e)
added (remainder f of m rest) e = remainder f of m (added rest e)
added (quotient f of m rest) e = quotient f of m (added rest e)

-- the parts whose factors s divides, divided by it, and the other parts
abbrev pub head : ℕ → Sum → Sum
head s (constant c) = constant (c / s)
head s (variable f d rest) = if f % s == 0 then variable (f / s) d (head s rest) else head s rest
head s (remainder f of m rest) = if f % s == 0 then remainder (f / s) of m (head s rest) else head s rest
head s (quotient f of m rest) = if f % s == 0 then quotient (f / s) of m (head s rest) else head s rest

abbrev pub rest_of : ℕ → Sum → Sum
rest_of s (constant c) = constant (c % s)
rest_of s (variable f d rest) = if f % s == 0 then rest_of s rest else variable f d (rest_of s rest)
rest_of s (remainder f of m rest) = if f % s == 0 then rest_of s rest else remainder f of m (rest_of s rest)
rest_of s (quotient f of m rest) = if f % s == 0 then rest_of s rest else quotient f of m (rest_of s rest)

-- the quotient and the remainder by s: read off where the parts show them, else written out
pub record Divided : Type 0 where
  pub quot : Sum
  pub rem : Sum

abbrev pub divided : (ℕ → ℕ) → ℕ → Sum → Divided
divided counts s e =
    if nat_lt (top (rest_of s e) counts) s then record { quot = head s e; rem = rest_of s e }
    else record { quot = quotient 1 e s (constant 0); rem = remainder 1 e s (constant 0) }

-- the index of L(r * s, r) at e
abbrev pub turned : (ℕ → ℕ) → ℕ → ℕ → Sum → Sum
turned counts r s e = added (scaled r (divided counts s e).rem) (divided counts s e).quot

-- the greatest constant or factor at the outer level
abbrev pub peak : Sum → ℕ
peak (constant c) = c
peak (variable f d rest) = max f (peak rest)
peak (remainder f of m rest) = max f (peak rest)
peak (quotient f of m rest) = max f (peak rest)

-- constant and factors modulo n, and no part whose factor is then 0
abbrev pub mods : ℕ → Sum → Sum
mods n (constant c) = constant (c % n)
mods n (variable f d rest) = if f % n == 0 then mods n rest else variable (f % n) d (mods n rest)
mods n (remainder f of m rest) = if f % n == 0 then mods n rest else remainder (f % n) of m (mods n rest)
mods n (quotient f of m rest) = if f % n == 0 then mods n rest else quotient (f % n) of m (mods n rest)

-- e modulo n: a remainder only where the ranges do not show it away
abbrev pub reduced : (ℕ → ℕ) → ℕ → Sum → Sum
reduced cs n e = if nat_lt (top (mods n e) cs) n then mods n e else remainder 1 (mods n e) n (constant 0)

-- the constant and the factors are below n
abbrev pub AreBelow : ℕ → Sum → Type 0
AreBelow n (constant c) = c < n
AreBelow n (variable f d rest) = (f < n) × AreBelow n rest
AreBelow n (remainder f of m rest) = (f < n) × AreBelow n rest
AreBelow n (quotient f of m rest) = (f < n) × AreBelow n rest

-- no part is always 0, and there is no quotient
abbrev pub IsProper : Sum → (ℕ → ℕ) → Type 0
IsProper (constant c) cs = Unit {0}
IsProper (variable f d rest) cs = (0 < f) × (2 ≤ cs d) × IsProper rest cs
IsProper (remainder f of m rest) cs = (0 < f) × (2 ≤ m) × IsProper rest cs
IsProper (quotient f of m rest) cs = ⊥

-- a sum that stays below the size, whose parts count, and with no quotient
pub record Fits (size : ℕ) (e : Sum) (cs : ℕ → ℕ) : Type 0 where
  pub proper : IsProper e cs
  pub small : top e cs < size
  pub plain : HasNoQuotient e

-- ---- index functions at sums

abbrev pub simplified : (ℕ → ℕ) → Mapping → Sum → Sum
simplified cs Same e = e
simplified cs (Always v) e = constant v
simplified cs (Line base by) e = added (constant base) (scaled by e)
simplified cs (Strided r s) e = turned cs r s e
simplified cs (ThomasIn r s) e =
    reduced cs (r * s) (added (scaled s (divided cs s e).quot) (scaled r (divided cs s e).rem))
simplified cs (ThomasOut r s) e = added (scaled s (divided cs r e).rem) (divided cs s e).rem
simplified cs (ThomasBack r s u v) e =
    reduced cs (r * s) (added (scaled u (divided cs s e).quot) (scaled v (divided cs s e).rem))
simplified cs (Listed ks) e = constant 0
simplified cs (Paired f c g d) e =
    added (scaled c (simplified cs f (divided cs d e).quot)) (simplified cs g (divided cs d e).rem)
simplified cs (After f g) e = simplified cs f (simplified cs g e)

-- a function with no explicit list
abbrev pub HasNoList : Mapping → Type 0
HasNoList (Listed ks) = ⊥
HasNoList (Paired f c g d) = HasNoList f × HasNoList g
HasNoList (After f g) = HasNoList f × HasNoList g
HasNoList f = Unit {0}

-- each variable's value is below its count
abbrev pub AreBelowCounts : (ℕ → ℕ) → (ℕ → ℕ) → Type 0
AreBelowCounts vs cs = (d : ℕ) → vs d ≤ cs d - 1

-- the simplified sum has the function's value, wherever the variables are below their counts
abbrev pub SimplifiedKeeps : Type 0
SimplifiedKeeps =
    (cs vs : ℕ → ℕ) (f : Mapping) (e : Sum) → IsWellFormed f → HasNoList f → IsSound e → AreBelowCounts vs cs →
    value (simplified cs f e) vs ≡ at f (value e vs)
