-- Actions on doubles that do on numbers what their actions do on residues, within bounds.
use Rattle.std.proofs.Common.{◌≡◌, ℕ, ◌+◌, ◌*◌, ◌^◌, ◌<◌, ◌≤◌, List, [], ◌∷◌, ◌++◌, arith, ℤ, pos}
use Rattle.icode.specs.Machine.{Local, effect}
use Rattle.double_code.specs.DoubleMachine.{DoubleAction, DoubleLocal, double_effect}
use Rattle.double_code.specs.Products.{residue}
use Rattle.double_code.specs.Reductions.{limit_of}
use Rattle.double_code.proofs.Bounds.{Bounds, Within, AreRegistersWithin, weaker}
use Rattle.double_code.proofs.Numbers.{number, residues}

-- the modulus, the lanes and the length of an array
pub record Scale : Type 0 where
  pub modulus : ℕ
  pub lanes : ℕ
  pub padded : ℕ

pub record IsSound (s : Scale) : Type 0 where
  pub some : 0 < s.modulus
  pub below : s.modulus < 2 ^ 50

-- what A and B are kept within
abbrev pub kept : Scale → ℕ
kept s = s.modulus + 1

-- a number that is its residue
abbrev pub IsWhole : ℕ → ℤ → Type 0
IsWhole m z = z ≡ pos (residue m z)

-- in X and in Y are residues
pub record IsMemoryHeld (s : Scale) (memory : List ℤ) : Type 0 where
  pub outer : (k : ℕ) → k < 2 * s.padded → IsWhole s.modulus (number memory k)
  pub inner : (k : ℕ) → 2 * s.padded ≤ k → Within (kept s) (number memory k)

abbrev pub residue_local : ℕ → DoubleLocal → Local
residue_local m t = record { memory = residues m t.memory; registers = residues m t.registers }

pub record IsExact (s : Scale) (b : Bounds) (f : DoubleAction) (c : Bounds) : Type 0 where
  pub sane : (r : ℕ) → c r ≤ limit_of s.modulus
  pub same : (t : DoubleLocal) → IsMemoryHeld s t.memory → AreRegistersWithin s.lanes b t.registers →
      effect s.modulus s.lanes f.action (residue_local s.modulus t)
      ≡ residue_local s.modulus (double_effect s.modulus s.lanes f t)
  pub memory : (t : DoubleLocal) → IsMemoryHeld s t.memory → AreRegistersWithin s.lanes b t.registers →
      IsMemoryHeld s (double_effect s.modulus s.lanes f t).memory
  pub registers : (t : DoubleLocal) → IsMemoryHeld s t.memory → AreRegistersWithin s.lanes b t.registers →
      AreRegistersWithin s.lanes c (double_effect s.modulus s.lanes f t).registers

-- a list of them, which leads from the bounds b to the bounds c
abbrev pub AreExact : Scale → Bounds → List DoubleAction → Bounds → Type 0
AreExact s b [] c = (r : ℕ) → b r ≤ c r
AreExact s b (f ∷ fs) c = (d : Bounds) × IsExact s b f d × AreExact s d fs c

pub from_weaker : (s : Scale) (a b : Bounds) (fs : List DoubleAction) (c : Bounds) → ((r : ℕ) → a r ≤ b r) →
    AreExact s b fs c → AreExact s a fs c
from_weaker s a b [] c le are = λ r. let x = le r in let y = are r in omega (arith, x, y)
from_weaker s a b (f ∷ fs) c le are = (
  are.0,
  record {
    sane = are.1.sane;
    same = λ t held low. are.1.same t held (weaker s.lanes a b t.registers le low);
    memory = λ t held low. are.1.memory t held (weaker s.lanes a b t.registers le low);
    registers = λ t held low. are.1.registers t held (weaker s.lanes a b t.registers le low);
  },
  are.2,
)

pub exact-append : (s : Scale) (b c d : Bounds) (fs gs : List DoubleAction) → AreExact s b fs c → AreExact s c gs d →
    AreExact s b (fs ++ gs) d
exact-append s b c d [] gs le are = from_weaker s b c gs d le are
exact-append s b c d (f ∷ fs) gs first second = (first.0, first.1, exact-append s first.0 c d fs gs first.2 second)
