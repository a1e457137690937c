-- Copies fill their places: straight code, items one by one, kernels and tiles, and work by rows.
use Rattle.std.proofs.Common.{◌≡◌, ℕ, ◌+◌, ◌<◌, ◌≤◌, arith, refl, sym, ap, ◌∙◌, List, [], ◌∷◌, ◌++◌, length, subst}
use Rattle.std.proofs.Common.{append_assoc, Option, Some, None, ◌*◌, map, slice_index, mul-le-mul_right, zero, suc, ◌%◌}
use Rattle.std.proofs.Common.{ap₂}
use Rattle.std.proofs.Math.Nat.{zero-mod, mod-mod}
use Rattle.icode.specs.declared.action.Action.{Action}
use Rattle.icode.specs.declared.action.Action.TheVariants.{Mul, Tile, Load, Zero, Add}
use Rattle.icode.specs.Machine.{Local, effect, effects}
use Rattle.icode.specs.Sequences.Lanes.{Registers, lane_of, AreArithmetic, lane_effect, with_register}
use Rattle.icode.specs.Sequences.Nests.{bodies, loads}
use Rattle.icode.proofs.SequenceLemmas.ByLane.{effect_by_lane, other_register, lists_follow, arithmetic_is_by_lane}
use Rattle.icode.proofs.SequenceLemmas.Fills.{Fills, fills-loop, fills-after}
use Rattle.icode.proofs.SequenceLemmas.Stores.{Stored, loads-memory, loads-registers, load_by_lane, length-registers}
use Rattle.operators.specs.declared.target.Target.{Target}
use Rattle.sigma_spl.specs.Nest.{PlainMultiplier, PlainNest}
use Rattle.code_gen.specs.PassActions.Acts.{store_at, finish_acts, with_multiplier, items_acts, load_at, rows_acts}
use Rattle.icode.proofs.SequenceLemmas.Placing.{slice_index-map}
use Rattle.kernel_gen.specs.KernelOps.{actions_by, code_effect}
use Rattle.kernel_gen.specs.Making.{Made}
use Rattle.kernel_gen.proofs.Below.{AllBelow, AllBelow-at, at-AllBelow}
use Rattle.kernel_gen.proofs.KernelOps.{actions-arithmetic, actions-effect}
use Rattle.kernel_gen.proofs.KernelLemmas.{firsts, map-firsts}
use Rattle.kernel_gen.proofs.Pieces.{DoesAt}
use Rattle.operators.specs.Operator.{Operator}
use Rattle.operators.specs.Sum.{list_below, sum_below}
use Rattle.operators.proofs.Lists.{length-list_below, at-list_below, list_below-same}
use Rattle.icode.proofs.SequenceLemmas.Tiles.{tile_by_lane}
use Rattle.icode.specs.Actions.{lane_factors}
use Rattle.ring_mod.proofs.Congruence.{same-add}
use Rattle.code_gen.proofs.PassActions.Finish.{register, Task, IsReady, AreInputs, AreOutputs, ready-after_store}
use Rattle.code_gen.proofs.PassActions.Finish.{ready-kept, finished_lane, finish-fills, factor_of, factor_each}

-- what is in use before the ends of the items is there
pub finish-few : (o : Option PlainMultiplier) (used more regs : ℕ) → with_multiplier o used more ≤ regs → used ≤ regs
finish-few None used more regs few = few
finish-few (Some d) used more regs few = omega arith

module _ (m lanes regs : ℕ) (t : Task) where
  -- the registers of n outputs hold these values, lane by lane
  pub record Holds (out : ℕ → ℕ) (n : ℕ) (value : ℕ → ℕ → ℕ) (s : Local) : Type 0 where
    pub ready : IsReady lanes regs t s
    pub values : (k lane : ℕ) → k < n → lane < lanes → register lanes s lane (out k) ≡ value k lane

  -- the first n registers hold the inputs
  abbrev pub IsLoaded : ℕ → (ℕ → ℕ) → Local → Type 0
  IsLoaded n from s = Holds (λ k. k) n (λ k lane. t.input (from k + lane)) s

  pub loads-load : (n : ℕ) (from : ℕ → ℕ) → n ≤ regs → ((k : ℕ) → k < n → AreInputs m lanes regs t (from k)) →
      (s : Local) → IsReady lanes regs t s → IsLoaded n from (effects m lanes (loads n from) s)
  loads-load n from few inputs s h =
      record {
        ready = ready-kept m lanes regs t (loads n from) s (loads-memory m lanes n from s) h;
        values = λ k lane under there. loads-registers m lanes regs n from s lane k few h.wide there under ∙ h.held (from k + lane) (inputs k under lane there);
      }

  -- a product into a free register leaves the outputs
  pub holds-after_product : (out : ℕ → ℕ) (n used : ℕ) (value : ℕ → ℕ → ℕ) → ((k : ℕ) → k < n → out k < used) →
      (k free : ℕ) → k < n → used ≤ free →
      (factors : List ℕ) → free < regs → lanes ≤ length factors → (s : Local) → Holds out n value s →
      Holds out n value (effect m lanes (Mul free (out k) factors) s)
  holds-after_product out n used value below k free under beyond factors high enough s h =
      let source = below k under in
      record {
        ready = ready-kept m lanes regs t (Mul free (out k) factors ∷ []) s refl h.ready;
        values = λ j lane in_n there.
            let other = below j in_n in
            ap (λ (g : Registers). g (out j)) (effect_by_lane m lanes regs (Mul free (out k) factors) s lane (high, omega arith, enough) h.ready.wide there)
            ∙ other_register (lane_of lanes s.registers lane) (out j) free _ (omega arith)
            ∙ h.values j lane in_n there;
      }

-- the ends of n outputs, with free registers from `used` on
abbrev pub ends_of : Target → PlainNest → Option PlainMultiplier → (ℕ → ℕ) → ℕ → ℕ → ℕ → List ℕ → ℕ → List Action
ends_of c p o out used target q vs k = finish_acts c p o target q vs k (out k) (used + k)

-- the actions of a copy, from its places
abbrev pub copy_body : Target → PlainNest → Option PlainMultiplier → List Action → (ℕ → ℕ) → ℕ → ℕ → (ℕ → ℕ) → ℕ → ℕ →
    List ℕ → List Action
copy_body c p o middle out used n from target q vs = loads n from ++ (middle ++ bodies n (ends_of c p o out used target q vs))

-- the words that a copy fills, on all lanes
abbrev pub CopyWords : Target → PlainNest → ℕ → ℕ → ℕ → List ℕ → ℕ → Type 0
CopyWords c p n target q vs a = (k : ℕ) × (k < n) × Stored c.lanes (target + store_at c p q vs k) a

-- code between the loads and the ends: from the inputs it makes these values of the outputs, in registers below a bound
pub record Computes (c : Target) (regs : ℕ) (t : Task) (n : ℕ) (from : ℕ → ℕ) (middle : List Action) (out : ℕ → ℕ) (used : ℕ) (value : ℕ → ℕ → ℕ) : Type 0 where
  pub enough : n ≤ used
  pub below : (k : ℕ) → k < n → out k < used
  pub memory : (s : Local) → IsReady c.lanes regs t s → (effects c.modulus c.lanes middle s).memory ≡ s.memory
  pub holds : (s : Local) → IsLoaded c.modulus c.lanes regs t n from s →
      Holds c.modulus c.lanes regs t out n value (effects c.modulus c.lanes middle s)

pub body-fills : (c : Target) (p : PlainNest) (o : Option PlainMultiplier) (regs target q : ℕ) (t : Task) (n : ℕ)
    (from : ℕ → ℕ) (middle : List Action) (out : ℕ → ℕ) (used : ℕ) (value : ℕ → ℕ → ℕ) (vs : List ℕ) →
    0 < c.lanes → with_multiplier o used n ≤ regs → Computes c regs t n from middle out used value →
    ((k : ℕ) → k < n → AreInputs c.modulus c.lanes regs t (from k)) →
    ((k : ℕ) → k < n → AreOutputs c.modulus c.lanes regs t (target + store_at c p q vs k)) →
    ((k lane : ℕ) → k < n → lane < c.lanes → t.output (target + store_at c p q vs k + lane)
    ≡ finished_lane c p o q vs k lane (value k lane)) →
    Fills c.modulus c.lanes (IsReady c.lanes regs t) t.IsOutput t.output (CopyWords c p n target q vs)
    (copy_body c p o middle out used n from target q vs)
body-fills c p o regs target q t n from middle out used value vs some few does inputs outputs meant =
    let m = c.modulus in
    let lanes = c.lanes in
    let room : used ≤ regs = finish-few o used n regs few in
    let ends : ℕ → List Action = ends_of c p o out used target q vs in
    let enough = does.enough in
    subst (Fills m lanes (IsReady lanes regs t) t.IsOutput t.output (CopyWords c p n target q vs)) (append_assoc (loads n from) middle (bodies n ends))
    (fills-after m lanes (IsReady lanes regs t) (Holds m lanes regs t out n value) t.IsOutput t.output _ (loads n from ++ middle) (bodies n ends)
    (λ s h. subst (Holds m lanes regs t out n value) (sym (lists_follow m lanes (loads n from) middle s)) (does.holds (effects m lanes (loads n from) s) (loads-load m lanes regs t n from (omega arith) inputs s h)))
    (λ s h. ap (λ (z : Local). z.memory) (lists_follow m lanes (loads n from) middle s)
    ∙ does.memory (effects m lanes (loads n from) s) (ready-kept m lanes regs t (loads n from) s (loads-memory m lanes n from s) h)
    ∙ loads-memory m lanes n from s)
    (λ s h. h.ready)
    (fills-loop m lanes (Holds m lanes regs t out n value) t.IsOutput t.output n (λ k a. Stored lanes (target + store_at c p q vs k) a) ends
    (λ k under.
    finish-fills c p o q vs k target (out k) (used + k) used n (value k) regs t (Holds m lanes regs t out n value) some
    (λ s h. h.ready)
    (λ address r there s h. record { ready = ready-after_store m lanes regs t address r there s h.ready; values = h.values })
    (λ s h lane there. h.values k lane under there)
    (holds-after_product m lanes regs t out n used value does.below k (used + k) under (omega arith))
    (does.below k under)
    (omega arith) few (outputs k under) (λ lane there. meant k lane under there))))

-- ---- items that are copied one by one fill their places

module _ (c : Target) (p : PlainNest) (n regs source target q : ℕ) (t : Task) (vs : List ℕ) (some : 0 < c.lanes) (few : with_multiplier p.multiplier 1 1 ≤ regs)
    (inputs : (k : ℕ) → k < n → AreInputs c.modulus c.lanes regs t (source + load_at c p q vs k)) (outputs : (k : ℕ) → k < n → AreOutputs c.modulus c.lanes regs t (target + store_at c p q vs k))
    (meant : (k lane : ℕ) → k < n → lane < c.lanes → t.output (target + store_at c p q vs k + lane) ≡ finished_lane c p p.multiplier q vs k lane (t.input (source + load_at c p q vs k + lane))) where
  item-fills : (k : ℕ) → k < n → Fills c.modulus c.lanes (IsReady c.lanes regs t) t.IsOutput t.output
      (Stored c.lanes (target + store_at c p q vs k)) (loads 1 (λ _. source + load_at c p q vs k)
      ++ finish_acts c p p.multiplier target q vs k 0 1)
  item-fills k under =
      let m = c.modulus in
      let lanes = c.lanes in
      let room : 1 ≤ regs = finish-few p.multiplier 1 1 regs few in
      let from : ℕ → ℕ = λ _. source + load_at c p q vs k in
      let Known : Local → Type 0 = IsLoaded m lanes regs t 1 from in
      fills-after m lanes (IsReady lanes regs t) Known t.IsOutput t.output (Stored lanes (target + store_at c p q vs k)) (loads 1 from) (finish_acts c p p.multiplier target q vs k 0 1)
      (λ s h. loads-load m lanes regs t 1 from room (λ j below. inputs k under) s h)
      (λ s h. loads-memory m lanes 1 from s)
      (λ s h. h.ready)
      (finish-fills c p p.multiplier q vs k target 0 1 1 1 (λ lane. t.input (source + load_at c p q vs k + lane)) regs t Known some
      (λ s h. h.ready)
      (λ address r there s h. record { ready = ready-after_store m lanes regs t address r there s h.ready; values = h.values })
      (λ s h lane there. h.values 0 lane (omega arith) there)
      (holds-after_product m lanes regs t (λ j. j) 1 1 (λ j lane. t.input (source + load_at c p q vs k + lane)) (λ j below. below) 0 1 (omega arith) (omega arith))
      (omega arith) (omega arith) few (outputs k under) (λ lane there. meant k lane under there))

  pub items-fill : Fills c.modulus c.lanes (IsReady c.lanes regs t) t.IsOutput t.output (CopyWords c p n target q vs)
      (items_acts c p n source target q vs)
  items-fill =
      fills-loop c.modulus c.lanes (IsReady c.lanes regs t) t.IsOutput t.output n (λ k a. Stored c.lanes (target + store_at c p q vs k) a) (λ k. loads 1 (λ _. source + load_at c p q vs k) ++ finish_acts c p p.multiplier target q vs k 0 1) item-fills

-- ---- what the code of a kernel computes on each lane

-- the output number k on a lane, where the code does f
abbrev pub value_of : Task → ℕ → (ℕ → ℕ) → Operator → ℕ → ℕ → ℕ
value_of t n from f k lane = slice_index (f (list_below n (λ j. t.input (from j + lane)))) k

module _ (c : Target) (regs : ℕ) (t : Task) (weight n price : ℕ) (from : ℕ → ℕ) (made : Made) (f : Operator)
    (room : made.next ≤ regs) (done : DoesAt c.modulus weight n price (firsts n) n made f) where
  abbrev acts : List Action
  acts = actions_by c.lanes made.code

  code-wide : (s : Local) → IsReady c.lanes regs t s → made.next * c.lanes ≤ length s.registers
  code-wide s h = let wide = h.wide in let used : made.next * c.lanes ≤ regs * c.lanes = mul-le-mul_right c.lanes room in omega (arith, wide, used)

  code-arithmetic : AreArithmetic c.lanes made.next acts
  code-arithmetic = actions-arithmetic c.modulus made.next c.lanes made.code done.within

  code-memory : (s : Local) → IsReady c.lanes regs t s → (effects c.modulus c.lanes acts s).memory ≡ s.memory
  code-memory s h = (arithmetic_is_by_lane c.modulus c.lanes made.next acts s code-arithmetic (code-wide s h)).0

  code-registers : (s : Local) → IsReady c.lanes regs t s → (lane : ℕ) → lane < c.lanes →
      lane_of c.lanes (effects c.modulus c.lanes acts s).registers lane
      ≡ code_effect c.modulus made.code (lane_of c.lanes s.registers lane)
  code-registers s h lane there =
      (arithmetic_is_by_lane c.modulus c.lanes made.next acts s code-arithmetic (code-wide s h)).1 lane there
      ∙ actions-effect c.modulus c.lanes lane made.code (lane_of c.lanes s.registers lane) there

  code-holds : ((k lane : ℕ) → k < n → lane < c.lanes → t.input (from k + lane) < c.modulus) → (s : Local) →
      IsLoaded c.modulus c.lanes regs t n from s →
      Holds c.modulus c.lanes regs t (slice_index made.outs) n (value_of t n from f) (effects c.modulus c.lanes acts s)
  code-holds small s h =
      record {
        ready = ready-kept c.modulus c.lanes regs t acts s (code-memory s h.ready) h.ready;
        values = λ k lane under there.
            ap (λ (z : Registers). z (slice_index made.outs k)) (code-registers s h.ready lane there)
            ∙ sym (slice_index-map (code_effect c.modulus made.code (g lane)) made.outs k (let size = done.sized in omega arith))
            ∙ ap (λ (ys : List ℕ). slice_index ys k) (done.values (g lane) (residues lane there) ∙ ap f (gathered lane there));
      }
    where
      g : ℕ → Registers
      g lane = lane_of c.lanes s.registers lane

      gathered : (lane : ℕ) → lane < c.lanes → map (g lane) (firsts n) ≡ list_below n (λ j. t.input (from j + lane))
      gathered lane there = map-firsts (g lane) n ∙ list_below-same n (g lane) (λ j. t.input (from j + lane)) (λ j in_n. h.values j lane in_n there)

      residues : (lane : ℕ) → lane < c.lanes → AllBelow c.modulus (map (g lane) (firsts n))
      residues lane there =
          rw (gathered lane there) (AllBelow-at c.modulus (list_below n (λ j. t.input (from j + lane))) (λ i within.
          let inside : i < n = rw (length-list_below n (λ j. t.input (from j + lane))) at within in
          rw (at-list_below n (λ j. t.input (from j + lane)) i inside) (small i lane inside there)))

  pub kernel-computes : ((k lane : ℕ) → k < n → lane < c.lanes → t.input (from k + lane) < c.modulus) →
      Computes c regs t n from acts (slice_index made.outs) made.next (value_of t n from f)
  kernel-computes small =
      record {
        enough = let next = done.next_is in omega (arith, next);
        below = λ k under. at-AllBelow made.next made.outs k done.below (let size = done.sized in omega arith);
        memory = code-memory;
        holds = code-holds small;
      }

-- ---- what a tile computes

module _ (c : Target) (regs : ℕ) (t : Task) (from : ℕ → ℕ) (some : 0 < c.lanes) (room : c.lanes + c.lanes ≤ regs) where
  -- lane l of output k is lane k of input l
  abbrev pub turned : ℕ → ℕ → ℕ
  turned k lane = t.input (from lane + k)

  pub tile-computes : Computes c regs t c.lanes from (Tile c.lanes 0 ∷ []) (λ k. c.lanes + k) (c.lanes + c.lanes) turned
  tile-computes =
      record {
        enough = omega arith;
        below = λ k under. omega arith;
        memory = λ s h. refl;
        holds = λ s h.
            record {
              ready = ready-kept c.modulus c.lanes regs t (Tile c.lanes 0 ∷ []) s refl h.ready;
              values = λ k lane under there.
                  let same : 0 + lane ≡ lane = omega arith in
                  tile_by_lane c.modulus c.lanes regs c.lanes 0 s k lane room h.ready.wide under there
                  ∙ ap (register c.lanes s k) same
                  ∙ h.values lane k there under;
            };
      }

-- ---- work by rows fills its places: register 0 becomes a row's sum, turn by turn

-- an item, times an entry on each lane, is added to register 0
abbrev pub entry_acts : ℕ → (ℕ → ℕ) → (ℕ → ℕ) → ℕ → List Action
entry_acts lanes from entry l = Load 1 (from l) ∷ Mul 2 1 (lane_factors lanes (λ _. entry l)) ∷ Add 0 0 2 ∷ []

-- register 0, times a factor, plus an item
abbrev pub scaled_acts : ℕ → (ℕ → ℕ) → ℕ → ℕ → List Action
scaled_acts lanes from factor l = Mul 1 0 (lane_factors lanes (λ _. factor)) ∷ Load 2 (from l) ∷ Add 0 1 2 ∷ []

-- what a row sums up on a lane
abbrev pub row_sum : Task → (ℕ → ℕ) → (ℕ → ℕ) → ℕ → ℕ → ℕ
row_sum t from entry n lane = sum_below n (λ l. t.input (from l + lane) * entry l)

-- Horner's rule after n items, modulo m
abbrev pub scaled_sum : ℕ → ℕ → (ℕ → ℕ) → ℕ → ℕ
scaled_sum m factor item zero = 0
scaled_sum m factor item (suc n) = ((scaled_sum m factor item n * factor) % m + item n) % m

module _ (m lanes regs : ℕ) (t : Task) (enough_registers : 3 ≤ regs) where
  -- register 0 holds these sums, lane by lane
  pub record Summed (total : ℕ → ℕ) (s : Local) : Type 0 where
    pub ready : IsReady lanes regs t s
    pub sum : (lane : ℕ) → lane < lanes → register lanes s lane 0 ≡ total lane

  -- turns that lead from the sums of n items to those of one more
  pub record AreTurns (n : ℕ) (turn : ℕ → List Action) (total : ℕ → ℕ → ℕ) : Type 0 where
    pub none : (lane : ℕ) → total 0 lane ≡ 0
    pub more : (l : ℕ) → l < n → (s : Local) → Summed (total l) s → Summed (total (suc l)) (effects m lanes (turn l) s)
    pub memory : (l : ℕ) (s : Local) → (effects m lanes (turn l) s).memory ≡ s.memory

  turns-add : (n : ℕ) (turn : ℕ → List Action) (total : ℕ → ℕ → ℕ) → AreTurns n turn total → (s : Local) →
      Summed (total 0) s → Summed (total n) (effects m lanes (bodies n turn) s)
  turns-add zero turn total h s known = known
  turns-add (suc n) turn total h s known =
      let fewer : AreTurns n turn total = record { none = h.none; more = λ l under. h.more l (omega arith); memory = h.memory } in
      subst (Summed (total (suc n))) (sym (lists_follow m lanes (bodies n turn) (turn n) s)) (h.more n (omega arith) (effects m lanes (bodies n turn) s) (turns-add n turn total fewer s known))

  turns-memory : (n : ℕ) (turn : ℕ → List Action) → ((l : ℕ) (s : Local) →
      (effects m lanes (turn l) s).memory ≡ s.memory) → (s : Local) →
      (effects m lanes (bodies n turn) s).memory ≡ s.memory
  turns-memory zero turn h s = refl
  turns-memory (suc n) turn h s =
      ap (λ (z : Local). z.memory) (lists_follow m lanes (bodies n turn) (turn n) s) ∙ h n (effects m lanes (bodies n turn) s) ∙ turns-memory n turn h s

  zero-sums : (total : ℕ → ℕ) → ((lane : ℕ) → total lane ≡ 0) → (s : Local) → IsReady lanes regs t s →
      Summed total (effect m lanes (Zero 0) s)
  zero-sums total none s h =
      record {
        ready = ready-kept m lanes regs t (Zero 0 ∷ []) s refl h;
        sum = λ lane there. ap (λ (z : Registers). z 0) (effect_by_lane m lanes regs (Zero 0) s lane (omega arith) h.wide there) ∙ sym (none lane);
      }

  summed-after_product : (total : ℕ → ℕ) (factors : List ℕ) → 3 < regs → lanes ≤ length factors → (s : Local) →
      Summed total s → Summed total (effect m lanes (Mul 3 0 factors) s)
  summed-after_product total factors high enough s h =
      record {
        ready = ready-kept m lanes regs t (Mul 3 0 factors ∷ []) s refl h.ready;
        sum = λ lane there.
            ap (λ (g : Registers). g 0) (effect_by_lane m lanes regs (Mul 3 0 factors) s lane (high, omega arith, enough) h.ready.wide there)
            ∙ h.sum lane there;
      }

  -- ---- turns that add a product

  module _ (from entry : ℕ → ℕ) where
    -- the sums with one more product
    abbrev more_sum : (ℕ → ℕ) → ℕ → ℕ → ℕ
    more_sum total l lane = (total lane + (t.input (from l + lane) * entry l) % m) % m

    term-adds : (l : ℕ) (total : ℕ → ℕ) (s : Local) → AreInputs m lanes regs t (from l) → Summed total s →
        Summed (more_sum total l) (effects m lanes (entry_acts lanes from entry l) s)
    term-adds l total s inputs h =
        record {
          ready = ready-kept m lanes regs t (entry_acts lanes from entry l) s refl h.ready;
          sum = λ lane there.
              let g : Registers = lane_of lanes s.registers lane in
              let factors = lane_factors lanes (λ _. entry l) in
              let loaded = effect m lanes (Load 1 (from l)) s in
              let multiplied = effect m lanes (Mul 2 1 factors) loaded in
              let wide = h.ready.wide in
              let wide_1 = length-registers m lanes (Load 1 (from l) ∷ []) s in
              let wide_2 = length-registers m lanes (Load 1 (from l) ∷ Mul 2 1 factors ∷ []) s in
              ap (λ (z : Registers). z 0) (effect_by_lane m lanes regs (Add 0 0 2) multiplied lane (omega arith, omega arith, omega arith) (omega arith) there
              ∙ ap (lane_effect m lane (Add 0 0 2)) (effect_by_lane m lanes regs (Mul 2 1 factors) loaded lane (omega arith, omega arith, factor_each lanes (λ _. entry l)) (omega arith) there
              ∙ ap (lane_effect m lane (Mul 2 1 factors)) (load_by_lane m lanes regs 1 (from l) s lane (omega arith) wide there)))
              ∙ ap₂ (λ a v. (a + (v * slice_index factors lane) % m) % m) (h.sum lane there) (h.ready.held (from l + lane) (inputs lane there))
              ∙ ap (λ e. (total lane + (t.input (from l + lane) * e) % m) % m) (factor_of lanes (λ _. entry l) lane there);
        }

    -- the sums of a number of products
    abbrev pub sums : ℕ → ℕ → ℕ
    sums n lane = row_sum t from entry n lane % m

    pub terms-turn : (n : ℕ) → ((l : ℕ) → l < n → AreInputs m lanes regs t (from l)) →
        AreTurns n (entry_acts lanes from entry) sums
    terms-turn n inputs =
        record {
          none = λ lane. zero-mod m;
          more = λ l under s h.
              let more = term-adds l (sums l) s (inputs l under) h in
              record {
                ready = more.ready;
                sum = λ lane there.
                    let v : ℕ = t.input (from l + lane) * entry l in
                    more.sum lane there ∙ same-add m (sums l lane) (row_sum t from entry l lane) (v % m) v (mod-mod (row_sum t from entry l lane) m) (mod-mod v m);
              };
          memory = λ l s. refl;
        }

  -- ---- turns of Horner's rule

  module _ (from : ℕ → ℕ) (factor : ℕ) where
    abbrev pub scaled : ℕ → ℕ → ℕ
    scaled n lane = scaled_sum m factor (λ l. t.input (from l + lane)) n

    scaled-adds : (l : ℕ) (s : Local) → AreInputs m lanes regs t (from l) → Summed (scaled l) s →
        Summed (scaled (suc l)) (effects m lanes (scaled_acts lanes from factor l) s)
    scaled-adds l s inputs h =
        record {
          ready = ready-kept m lanes regs t (scaled_acts lanes from factor l) s refl h.ready;
          sum = λ lane there.
              let factors = lane_factors lanes (λ _. factor) in
              let multiplied = effect m lanes (Mul 1 0 factors) s in
              let loaded = effect m lanes (Load 2 (from l)) multiplied in
              let wide = h.ready.wide in
              let wide_1 = length-registers m lanes (Mul 1 0 factors ∷ []) s in
              let wide_2 = length-registers m lanes (Mul 1 0 factors ∷ Load 2 (from l) ∷ []) s in
              ap (λ (z : Registers). z 0) (effect_by_lane m lanes regs (Add 0 1 2) loaded lane (omega arith, omega arith, omega arith) (omega arith) there
              ∙ ap (lane_effect m lane (Add 0 1 2)) (load_by_lane m lanes regs 2 (from l) multiplied lane (omega arith) (omega arith) there
              ∙ ap (λ (y : Registers). with_register y 2 (slice_index s.memory (from l + lane))) (effect_by_lane m lanes regs (Mul 1 0 factors) s lane (omega arith, omega arith, factor_each lanes (λ _. factor)) wide there)))
              ∙ ap₂ (λ a v. ((a * slice_index factors lane) % m + v) % m) (h.sum lane there) (h.ready.held (from l + lane) (inputs lane there))
              ∙ ap (λ e. ((scaled l lane * e) % m + t.input (from l + lane)) % m) (factor_of lanes (λ _. factor) lane there);
        }

    pub scaled-turn : (n : ℕ) → ((l : ℕ) → l < n → AreInputs m lanes regs t (from l)) →
        AreTurns n (scaled_acts lanes from factor) scaled
    scaled-turn n inputs = record { none = λ lane. refl; more = λ l under s h. scaled-adds l s (inputs l under) h; memory = λ l s. refl }

-- ---- rows

-- a row, which ends in its item
abbrev pub row_acts : Target → PlainNest → ℕ → (ℕ → List Action) → ℕ → ℕ → List ℕ → ℕ → List Action
row_acts c p n turn target q vs k = Zero 0 ∷ (bodies n turn ++ finish_acts c p p.multiplier target q vs k 0 3)

pub row-fills : (c : Target) (p : PlainNest) (n regs target q : ℕ) (t : Task) (turn : ℕ → List Action)
    (total : ℕ → ℕ → ℕ) (vs : List ℕ) (k : ℕ) → 0 < c.lanes → (room : 3 ≤ regs) →
    with_multiplier p.multiplier 3 1 ≤ regs →
    AreTurns c.modulus c.lanes regs t room n turn total → AreOutputs c.modulus c.lanes regs t
    (target + store_at c p q vs k) →
    ((lane : ℕ) → lane < c.lanes → t.output (target + store_at c p q vs k + lane)
    ≡ finished_lane c p p.multiplier q vs k lane (total n lane)) →
    Fills c.modulus c.lanes (IsReady c.lanes regs t) t.IsOutput t.output (Stored c.lanes (target + store_at c p q vs k))
    (row_acts c p n turn target q vs k)
row-fills c p n regs target q t turn total vs k some room few turns are meant =
    let m = c.modulus in
    let lanes = c.lanes in
    let Known : Local → Type 0 = Summed m lanes regs t room (total n) in
    fills-after m lanes (IsReady lanes regs t) Known t.IsOutput t.output (Stored lanes (target + store_at c p q vs k)) (Zero 0 ∷ bodies n turn) (finish_acts c p p.multiplier target q vs k 0 3)
    (λ s h. turns-add m lanes regs t room n turn total turns (effect m lanes (Zero 0) s) (zero-sums m lanes regs t room (total 0) turns.none s h))
    (λ s h. turns-memory m lanes regs t room n turn turns.memory (effect m lanes (Zero 0) s))
    (λ s h. h.ready)
    (finish-fills c p p.multiplier q vs k target 0 3 3 1 (total n) regs t Known some
    (λ s h. h.ready)
    (λ address r there s h. record { ready = ready-after_store m lanes regs t address r there s h.ready; sum = h.sum })
    (λ s h. h.sum)
    (summed-after_product m lanes regs t room (total n))
    (omega arith) (omega arith) few are meant)

-- all rows
pub rows-fill : (c : Target) (p : PlainNest) (n regs target q : ℕ) (t : Task) (turn : ℕ → ℕ → List Action)
    (total : ℕ → ℕ → ℕ → ℕ) (vs : List ℕ) → 0 < c.lanes → (room : 3 ≤ regs) → with_multiplier p.multiplier 3 1 ≤ regs →
    ((k : ℕ) → k < n → AreTurns c.modulus c.lanes regs t room n (turn k) (total k)) →
    ((k : ℕ) → k < n → AreOutputs c.modulus c.lanes regs t (target + store_at c p q vs k)) →
    ((k lane : ℕ) → k < n → lane < c.lanes → t.output (target + store_at c p q vs k + lane)
    ≡ finished_lane c p p.multiplier q vs k lane (total k n lane)) →
    Fills c.modulus c.lanes (IsReady c.lanes regs t) t.IsOutput t.output (CopyWords c p n target q vs)
    (rows_acts c p n turn target q vs)
rows-fill c p n regs target q t turn total vs some room few turns outputs meant =
    fills-loop c.modulus c.lanes (IsReady c.lanes regs t) t.IsOutput t.output n (λ k a. Stored c.lanes (target + store_at c p q vs k) a) (λ k. row_acts c p n (turn k) target q vs k)
    (λ k row. row-fills c p n regs target q t (turn k) (total k) vs k some room few (turns k row) (outputs k row) (λ lane there. meant k lane row there))
