-- Actions on words that do on words what their actions do on residues, within bounds.
use Rattle.std.proofs.Common.{◌≡◌, ℕ, ◌*◌, ◌<◌, ◌≤◌, Bool, true, false, cond, nat_lt, List, [], ◌∷◌, ◌++◌, ap}
use Rattle.std.proofs.Common.{◌∙◌, subst, arith}
use Rattle.std.proofs.lemmas.Bool.{lt-ltb, le-ltb}
use Rattle.std.specs.Prelude.{slice_index}
use Rattle.icode.specs.Machine.{Local, effect}
use Rattle.word_code.specs.Quicken.{Kept}
use Rattle.word_code.specs.Words.{Width}
use Rattle.word_code.specs.WordMachine.{WordAction, word_effect}
use Rattle.word_code.proofs.Residues.{residues}
use Rattle.word_code.proofs.Bounds.{Bounds, AreRegistersBelow, weaker}

-- what code on words keeps: in the first two of the arrays of n words are residues, in A and in B words below what `kept`
-- says, times the modulus, and in each register words below its bound, which is at most `limit`, times the modulus
pub record Scale : Type 0 where
  pub width : Width
  pub modulus : ℕ
  pub lanes : ℕ
  pub padded : ℕ
  pub kept : Kept
  pub limit : ℕ

unfoldable pub address_bound : Scale → ℕ → ℕ
address_bound s k = cond (nat_lt k (2 * s.padded)) 1 (cond (nat_lt k (3 * s.padded)) s.kept.of_a s.kept.of_b)

module _ (s : Scale) (k : ℕ) where
  pub bound_outer : k < 2 * s.padded → address_bound s k ≡ 1
  unfolding address_bound
  bound_outer lt =
      ap (λ b. cond b 1 (cond (nat_lt k (3 * s.padded)) s.kept.of_a s.kept.of_b)) (lt-ltb k (2 * s.padded) lt)

  past_outer : 2 * s.padded ≤ k → address_bound s k ≡ cond (nat_lt k (3 * s.padded)) s.kept.of_a s.kept.of_b
  unfolding address_bound
  past_outer ge =
      ap (λ b. cond b 1 (cond (nat_lt k (3 * s.padded)) s.kept.of_a s.kept.of_b)) (le-ltb k (2 * s.padded) ge)

  pub bound_of_a : 2 * s.padded ≤ k → k < 3 * s.padded → address_bound s k ≡ s.kept.of_a
  bound_of_a ge lt = past_outer ge ∙ ap (λ b. cond b s.kept.of_a s.kept.of_b) (lt-ltb k (3 * s.padded) lt)

  pub bound_of_b : 3 * s.padded ≤ k → address_bound s k ≡ s.kept.of_b
  bound_of_b ge = past_outer (omega arith) ∙ ap (λ b. cond b s.kept.of_a s.kept.of_b) (le-ltb k (3 * s.padded) ge)

-- what holds of residues and of the words of A and of B, holds at each address
pub at_each : (s : Scale) (other : Kept) (P : ℕ → ℕ → Type 0) → P 1 1 → P s.kept.of_a other.of_a →
    P s.kept.of_b other.of_b → (k : ℕ) → P (address_bound s k) (address_bound (record s { kept = other }) k)
unfolding address_bound
at_each s other P outer of_a of_b k = either (nat_lt k (2 * s.padded)) (nat_lt k (3 * s.padded))
  where
    either : (b c : Bool) → P (cond b 1 (cond c s.kept.of_a s.kept.of_b)) (cond b 1 (cond c other.of_a other.of_b))
    either true c = outer
    either false true = of_a
    either false false = of_b

pub record IsMemoryBelow (s : Scale) (memory : List ℕ) : Type 0 where
  pub each : (k : ℕ) → slice_index memory k < address_bound s k * s.modulus

pub outer_below : (s : Scale) (memory : List ℕ) (k : ℕ) → IsMemoryBelow s memory → k < 2 * s.padded →
    slice_index memory k < s.modulus
outer_below s memory k below lt =
    let here = subst (λ b. slice_index memory k < b * s.modulus) (bound_outer s k lt) (below.each k) in omega arith

abbrev pub residue_local : ℕ → Local → Local
residue_local m t = record { memory = residues m t.memory; registers = residues m t.registers }

pub record IsQuick (s : Scale) (b : Bounds) (f : WordAction) (c : Bounds) : Type 0 where
  pub sane : (r : ℕ) → c r ≤ s.limit
  pub same : (t : Local) → IsMemoryBelow s t.memory → AreRegistersBelow s.modulus s.lanes b t.registers →
      effect s.modulus s.lanes f.action (residue_local s.modulus t)
      ≡ residue_local s.modulus (word_effect s.width s.modulus s.lanes f t)
  pub memory : (t : Local) → IsMemoryBelow s t.memory → AreRegistersBelow s.modulus s.lanes b t.registers →
      IsMemoryBelow s (word_effect s.width s.modulus s.lanes f t).memory
  pub registers : (t : Local) → IsMemoryBelow s t.memory → AreRegistersBelow s.modulus s.lanes b t.registers →
      AreRegistersBelow s.modulus s.lanes c (word_effect s.width s.modulus s.lanes f t).registers

-- a list of them, which leads from the bounds b to the bounds c
abbrev pub AreQuick : Scale → Bounds → List WordAction → Bounds → Type 0
AreQuick s b [] c = (r : ℕ) → b r ≤ c r
AreQuick s b (f ∷ fs) c = (d : Bounds) × IsQuick s b f d × AreQuick s d fs c

pub from_weaker : (s : Scale) (a b : Bounds) (fs : List WordAction) (c : Bounds) → ((r : ℕ) → a r ≤ b r) →
    AreQuick s b fs c → AreQuick s a fs c
from_weaker s a b [] c le are = λ r. let x = le r in let y = are r in omega (arith, x, y)
from_weaker s a b (f ∷ fs) c le are = (
  are.0,
  record {
    sane = are.1.sane;
    same = λ t kept low. are.1.same t kept (weaker s.modulus s.lanes a b t.registers le low);
    memory = λ t kept low. are.1.memory t kept (weaker s.modulus s.lanes a b t.registers le low);
    registers = λ t kept low. are.1.registers t kept (weaker s.modulus s.lanes a b t.registers le low);
  },
  are.2,
)

pub quick-append : (s : Scale) (b c d : Bounds) (fs gs : List WordAction) → AreQuick s b fs c → AreQuick s c gs d →
    AreQuick s b (fs ++ gs) d
quick-append s b c d [] gs le are = from_weaker s b c gs d le are
quick-append s b c d (f ∷ fs) gs first second = (first.0, first.1, quick-append s first.0 c d fs gs first.2 second)
