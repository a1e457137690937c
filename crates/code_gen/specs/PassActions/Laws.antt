-- What the actions of a pass do. Each law is about one pass; none asks where it came from.
use Rattle.std.specs.Prelude.{◌≡◌, ◌≢◌, ℕ, ◌+◌, ◌*◌, ◌<◌, ◌≤◌, ◌⊎◌, List, length, slice_index, All}
use Rattle.icode.specs.Actions.{RegistersFit, FactorsFit}
use Rattle.icode.specs.declared.action.Action.{Action}
use Rattle.icode.specs.Machine.{Local, effects, counts_of, weighted}
use Rattle.code_gen.specs.PassActions.Acts.{pass_acts, pass_registers}
use Rattle.operators.specs.declared.target.Target.{Target}
use Rattle.sigma_spl.specs.Shared.Costs.{pass_cost, pass_loads}
use Rattle.sigma_spl.specs.Shared.Names.{Share, share_of}
use Rattle.sigma_spl.specs.Nest.{PlainNest, nests_on}
use Rattle.sigma_spl.specs.Shared.Running.{CanRun, IsLoadedBy, IsStoredBy}

-- ---- what its actions do

-- two arrays of n words
abbrev pub AreApart : ℕ → ℕ → ℕ → Type 0
AreApart n source target = (source + n ≤ target) ⊎ (target + n ≤ source)

-- a state in which a processor may begin its part of a pass:
-- the words of the first array that it loads are these residues
pub record CanBegin (h : Target) (zs : List PlainNest) (source target q : ℕ) (x : List ℕ) (s : Local) : Type 0 where
  pub registers : pass_registers h.modulus zs * h.lanes ≤ length s.registers
  pub sources : source + h.size ≤ length s.memory
  pub targets : target + h.size ≤ length s.memory
  pub held : (w : ℕ) → IsLoadedBy h zs q w → slice_index s.memory (source + w) ≡ slice_index x w
  pub residues : (i : ℕ) → i < h.size → slice_index x i < h.modulus

-- what a list of actions leaves
abbrev pub left_by : Target → List Action → Local → List ℕ
left_by h actions s = (effects h.modulus h.lanes actions s).memory

-- the second array has what the pass makes of the first, where the processor stores, and no other word is changed
pub record Leaves (h : Target) (zs : List PlainNest) (source target q : ℕ) (x : List ℕ) (s : Local) : Type 0 where
  pub stored : (w : ℕ) → IsStoredBy h zs q w →
      slice_index (left_by h (pass_acts h zs source target q) s) (target + w)
      ≡ slice_index (nests_on h.modulus h.size zs x) w
  pub kept : (a : ℕ) → ((w : ℕ) → IsStoredBy h zs q w → a ≢ target + w) →
      slice_index (left_by h (pass_acts h zs source target q) s) a ≡ slice_index s.memory a

-- the action names registers below a bound, and its factors are residues
pub record IsFit (regs lanes modulus : ℕ) (action : Action) : Type 0 where
  pub registers : RegistersFit regs lanes action
  pub factors : FactorsFit modulus action

-- what a list of actions counts, where a product counts as several
abbrev pub counted : ℕ → ℕ → List Action → Share
counted weight lanes actions =
    let counts = counts_of lanes actions in
    record { operations = weighted weight counts; loads = counts.loads; stores = counts.stores }

-- A processor's actions leave what the pass makes of its array, at the counts of its share, whatever a product counts
pub record Runs (h : Target) (zs : List PlainNest) : Type 0 where
  pub leaves : (source target q : ℕ) (x : List ℕ) (s : Local) → q < h.procs → AreApart h.size source target →
      CanBegin h zs source target q x s → Leaves h zs source target q x s
  pub counts : (weight source target q : ℕ) → 0 < weight → q < h.procs →
      counted weight h.lanes (pass_acts h zs source target q) ≡ share_of h weight zs
  pub fit : (source target q : ℕ) → q < h.procs →
      All (IsFit (pass_registers h.modulus zs) h.lanes h.modulus) (pass_acts h zs source target q)
  pub short : (source target q : ℕ) → q < h.procs →
      h.procs * length (pass_acts h zs source target q) ≤ pass_cost 1 h.modulus zs + pass_loads zs + 2 * h.size

-- every pass that can be run does
abbrev pub PassesRun : Type 0
PassesRun = (h : Target) (zs : List PlainNest) → CanRun h zs → Runs h zs
