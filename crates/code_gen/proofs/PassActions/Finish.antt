-- The end of an item: it is multiplied, if there is a diagonal, and stored.
use Rattle.std.proofs.Common.{◌≡◌, ℕ, ◌+◌, ◌-◌, ◌*◌, ◌<◌, ◌≤◌, arith, ap, ◌∙◌, List, [], ◌∷◌, length, subst, replicate}
use Rattle.std.proofs.Common.{length-append, slice_index, refl, sym, ap₂, Option, Some, None}
use Rattle.std.proofs.lemmas.List.{get_or_append_left}
use Rattle.icode.specs.declared.action.Action.{Action}
use Rattle.icode.specs.declared.action.Action.TheVariants.{Store, Mul}
use Rattle.icode.specs.Machine.{Local, effect, effects}
use Rattle.icode.specs.Sequences.Lanes.{lane_of, Registers}
use Rattle.icode.proofs.SequenceLemmas.Fills.{word, Fills, fills-after}
use Rattle.icode.proofs.SequenceLemmas.Stores.{other_word, length-memory, length-registers, Stored, store_fills}
use Rattle.icode.specs.Actions.{lane_factors}
use Rattle.operators.specs.Sum.{list_below}
use Rattle.operators.proofs.Lists.{length-list_below, at-list_below}
use Rattle.icode.proofs.SequenceLemmas.ByLane.{effect_by_lane, this_register}
use Rattle.operators.specs.declared.target.Target.{Target}
use Rattle.sigma_spl.specs.Shared.Machine.{item_of, values_of}
use Rattle.ring_mod.specs.Residue.{product_mod}
use Rattle.sigma_spl.specs.Nest.{PlainMultiplier, PlainNest, factor_at, store_place}
use Rattle.code_gen.specs.PassActions.Acts.{store_at, finish_acts, with_multiplier}

-- ---- what a pass reads and writes

-- a register, in one of the lanes
abbrev pub register : ℕ → Local → ℕ → ℕ → ℕ
register lanes s lane r = lane_of lanes s.registers lane r

-- what a pass reads, what it may write, and what is to stand there
pub record Task : Type 1 where
  -- how many words there are
  pub space : ℕ
  pub IsInput : ℕ → Type 0
  pub input : ℕ → ℕ
  pub IsOutput : ℕ → Type 0
  pub output : ℕ → ℕ
  pub apart : (a : ℕ) → IsInput a → IsOutput a → ⊥
  pub fits : (a : ℕ) → IsOutput a → a < space

-- there are enough registers and words, and the inputs stand in their words
pub record IsReady (lanes regs : ℕ) (t : Task) (s : Local) : Type 0 where
  pub wide : regs * lanes ≤ length s.registers
  pub room : t.space ≤ length s.memory
  pub held : (a : ℕ) → t.IsInput a → word s a ≡ t.input a

module _ (m lanes regs : ℕ) (t : Task) where
  -- each word of a vector
  abbrev pub AreInputs : ℕ → Type 0
  AreInputs address = (lane : ℕ) → lane < lanes → t.IsInput (address + lane)

  abbrev pub AreOutputs : ℕ → Type 0
  AreOutputs address = (lane : ℕ) → lane < lanes → t.IsOutput (address + lane)

  -- a store of outputs leaves what a pass reads
  pub ready-after_store : (address r : ℕ) → AreOutputs address → (s : Local) → IsReady lanes regs t s →
      IsReady lanes regs t (effect m lanes (Store address r) s)
  ready-after_store address r outputs s h =
      record {
        wide = let e = length-registers m lanes (Store address r ∷ []) s in let w = h.wide in omega arith;
        room = let e = length-memory m lanes (Store address r ∷ []) s in let w = h.room in omega arith;
        held = λ a is.
            other_word m lanes r address s a (λ from to.
            let place : address + (a - address) ≡ a = omega arith in
            t.apart a is (subst t.IsOutput place (outputs (a - address) (omega arith))))
            ∙ h.held a is;
      }

  -- so does what leaves the memory
  pub ready-kept : (actions : List Action) (s : Local) → (effects m lanes actions s).memory ≡ s.memory →
      IsReady lanes regs t s → IsReady lanes regs t (effects m lanes actions s)
  ready-kept actions s same h =
      record {
        wide = let e = length-registers m lanes actions s in let w = h.wide in omega arith;
        room = let e = length-memory m lanes actions s in let w = h.room in omega arith;
        held = λ a is. ap (λ (words : List ℕ). slice_index words a) same ∙ h.held a is;
      }

-- ---- the factors of lanes

-- the factor of a lane
pub factor_of : (lanes : ℕ) (x : ℕ → ℕ) (lane : ℕ) → lane < lanes → slice_index (lane_factors lanes x) lane ≡ x lane
factor_of lanes x lane below =
    get_or_append_left (list_below lanes x) (replicate (16 - lanes) 0) 0 lane (let size = length-list_below lanes x in omega arith)
    ∙ at-list_below lanes x lane below

pub factor_each : (lanes : ℕ) (x : ℕ → ℕ) → lanes ≤ length (lane_factors lanes x)
factor_each lanes x =
    let all = length-append (list_below lanes x) (replicate (16 - lanes) 0) in
    let first = length-list_below lanes x in
    omega arith

-- ---- the end of an item: it is multiplied, if there is a diagonal, and stored

-- what an item of a copy becomes
abbrev pub finished : Target → PlainNest → Option PlainMultiplier → List ℕ → ℕ → ℕ → ℕ
finished c p None vs k v = v
finished c p (Some d) vs k v = product_mod c.modulus v (factor_at c.modulus d.factors (store_place p.work d.places vs k))

-- what the lanes of the register number k become
abbrev pub finished_lane : Target → PlainNest → Option PlainMultiplier → ℕ → List ℕ → ℕ → ℕ → ℕ → ℕ
finished_lane c p o q vs k lane v = finished c p o (values_of c p.work q lane vs) (item_of p.work k lane) v

module _ (m lanes regs : ℕ) (t : Task) (Ready : Local → Type 0) (ready : (s : Local) → Ready s → IsReady lanes regs t s)
    (after_store : (address r : ℕ) → AreOutputs m lanes regs t address → (s : Local) → Ready s → Ready (effect m lanes (Store address r) s)) where
  -- a register that holds these values, lane by lane
  abbrev Has : ℕ → (ℕ → ℕ) → (Local → Type 0) → Type 0
  Has r v Known = (s : Local) → Known s → (lane : ℕ) → lane < lanes → register lanes s lane r ≡ v lane

  store-fills : (to from : ℕ) (v : ℕ → ℕ) → 0 < lanes → AreOutputs m lanes regs t to →
      ((lane : ℕ) → lane < lanes → t.output (to + lane) ≡ v lane) → Has from v Ready →
      Fills m lanes Ready t.IsOutput t.output (Stored lanes to) (Store to from ∷ [])
  store-fills to from v some are meant holds =
      store_fills m lanes Ready t.IsOutput t.output to from
      (λ s h.
      let room = (ready s h).room in
      let last = t.fits (to + (lanes - 1)) (are (lanes - 1) (omega arith)) in
      omega arith)
      are
      (λ s h lane low. holds s h lane low ∙ sym (meant lane low))
      (λ s h. after_store to from are s h)

module _ (m lanes regs : ℕ) (t : Task) (Ready : Local → Type 0) (ready : (s : Local) → Ready s → IsReady lanes regs t s)
    (after_store : (address r : ℕ) → AreOutputs m lanes regs t address → (s : Local) → Ready s → Ready (effect m lanes (Store address r) s))
    (from free : ℕ) (v : ℕ → ℕ) (some : 0 < lanes) (holds : Has m lanes regs t Ready ready after_store from v Ready)
    (after_product : (factors : List ℕ) → free < regs → lanes ≤ length factors → (s : Local) → Ready s → Ready (effect m lanes (Mul free from factors) s)) where
  -- the product is in its register too
  abbrev Known : (ℕ → ℕ) → Local → Type 0
  Known x s = Ready s × ((lane : ℕ) → lane < lanes → register lanes s lane free ≡ x lane)

  abbrev product : (ℕ → ℕ) → ℕ → ℕ
  product x lane = product_mod m (v lane) (x lane)

  product-known : (x : ℕ → ℕ) → from < regs → free < regs → (s : Local) → Ready s →
      Known (product x) (effect m lanes (Mul free from (lane_factors lanes x)) s)
  product-known x low high s h =
      let factors = lane_factors lanes x in
      let enough = factor_each lanes x in (
        after_product factors high enough s h,
        λ lane there.
            ap (λ (g : Registers). g free) (effect_by_lane m lanes regs (Mul free from factors) s lane (high, low, enough) (ready s h).wide there)
            ∙ this_register (lane_of lanes s.registers lane) free _
            ∙ ap₂ (product_mod m) (holds s h lane there) (factor_of lanes x lane there),
      )

  product-fills : (x : ℕ → ℕ) (to : ℕ) → from < regs → free < regs → AreOutputs m lanes regs t to →
      ((lane : ℕ) → lane < lanes → t.output (to + lane) ≡ product x lane) →
      Fills m lanes Ready t.IsOutput t.output (Stored lanes to)
      (Mul free from (lane_factors lanes x) ∷ Store to free ∷ [])
  product-fills x to low high are meant =
      fills-after m lanes Ready (Known (product x)) t.IsOutput t.output (Stored lanes to) (Mul free from (lane_factors lanes x) ∷ []) (Store to free ∷ [])
      (λ s h. product-known x low high s h)
      (λ s h. refl)
      (λ s h. h.0)
      (store-fills m lanes regs t (Known (product x)) (λ s h. ready s h.0) (λ address r there s h. (after_store address r there s h.0, h.1)) to free (product x) some are meant (λ s h. h.1))

pub finish-fills : (c : Target) (p : PlainNest) (o : Option PlainMultiplier) (q : ℕ) (vs : List ℕ)
    (k target from free used more : ℕ) (v : ℕ → ℕ) (regs : ℕ) (t : Task) (Ready : Local → Type 0) → 0 < c.lanes →
    ((s : Local) → Ready s → IsReady c.lanes regs t s) →
    ((address r : ℕ) → AreOutputs c.modulus c.lanes regs t address → (s : Local) → Ready s →
    Ready (effect c.modulus c.lanes (Store address r) s)) →
    ((s : Local) → Ready s → (lane : ℕ) → lane < c.lanes → register c.lanes s lane from ≡ v lane) →
    ((factors : List ℕ) → free < regs → c.lanes ≤ length factors → (s : Local) → Ready s →
    Ready (effect c.modulus c.lanes (Mul free from factors) s)) →
    from < used → free < used + more → with_multiplier o used more ≤ regs →
    AreOutputs c.modulus c.lanes regs t (target + store_at c p q vs k) →
    ((lane : ℕ) → lane < c.lanes → t.output (target + store_at c p q vs k + lane)
    ≡ finished_lane c p o q vs k lane (v lane)) →
    Fills c.modulus c.lanes Ready t.IsOutput t.output (Stored c.lanes (target + store_at c p q vs k))
    (finish_acts c p o target q vs k from free)
finish-fills c p None q vs k target from free used more v regs t Ready some ready after_store holds after_product low high few are meant =
    store-fills c.modulus c.lanes regs t Ready ready after_store (target + store_at c p q vs k) from v some are meant holds
finish-fills c p (Some d) q vs k target from free used more v regs t Ready some ready after_store holds after_product low high few are meant =
    product-fills c.modulus c.lanes regs t Ready ready after_store from free v some holds after_product (λ lane. factor_at c.modulus d.factors (store_place p.work d.places (values_of c p.work q lane vs) (item_of p.work k lane))) (target + store_at c p q vs k)
    (omega arith) (omega arith) are meant
