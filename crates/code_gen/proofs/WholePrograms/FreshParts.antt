-- A processor's parts of the passes of a phase: they load words that they may know, and store each of their own.
use Rattle.std.proofs.Common.{◌≡◌, ◌≢◌, ℕ, suc, ◌+◌, ◌-◌, ◌*◌, ◌<◌, ◌≤◌, ◌⊎◌, List, [], ◌∷◌, ◌++◌, length, flat_map}
use Rattle.std.proofs.Common.{inl, inr, ⊎_elim, refl, sym, subst, ◌∙◌, arith, All, Contains, replicate, slice_index}
use Rattle.std.proofs.Common.{get_or-set_same, get_or-set_other, length-set}
use Rattle.std.specs.Prelude.{slice_set}
use Rattle.std.proofs.lemmas.Bool.{cases_lt}
use Rattle.std.proofs.lemmas.List.{length-replicate}
use Rattle.std.proofs.lemmas.List.Elements.{All-contains, Contains-append_left, Contains-append_right}
use Rattle.std.proofs.lemmas.Grind.{flat_map-append}
use Rattle.icode.specs.Actions.{array_start}
use Rattle.icode.specs.Fresh.{HaveStored, loaded_words, read_registers, put_registers}
use Rattle.icode.specs.Machine.{Local, effect, effects, memory_after, stored_words, register_of, with_words}
use Rattle.icode.specs.declared.action.Action.{Action}
use Rattle.icode.specs.declared.action.Action.TheVariants.{Load, Store}
use Rattle.icode.specs.declared.program.Array.{Array}
use Rattle.icode.proofs.End.{slice_index-zeros}
use Rattle.icode.proofs.FreshActions.{range_item}
use Rattle.icode.proofs.Lines.{Contains_or_not, Contains-nil, Contains-range}
use Rattle.icode.proofs.Words.{length-words_at, slice_index-agree, with_words-other}
use Rattle.code_gen.specs.PassActions.Acts.{pass_acts, pass_registers}
use Rattle.code_gen.specs.PassActions.Laws.{CanBegin}
use Rattle.code_gen.specs.PassCode.Conditions.{CanWritePass}
use Rattle.code_gen.specs.PassCode.Program.{written_array, array_after}
use Rattle.operators.specs.declared.target.Target.{Target}
use Rattle.sigma_spl.specs.Nest.{nests_on}
use Rattle.sigma_spl.specs.Shared.Running.{IsLoadedBy, IsStoredBy}
use Rattle.code_gen.proofs.PassActions.Copies.{loaded-below, stored-below, modulus-some}
use Rattle.code_gen.proofs.PassActions.Every.{StaysInRegisters, every}
use Rattle.code_gen.proofs.PassActions.FreshCopies.{Reads as ReadsPut, pass_reads}
use Rattle.icode.proofs.FreshLists as lists
use Rattle.icode.proofs.FreshLists.{Nothing}
use Rattle.code_gen.proofs.WholePrograms.Processor.{IsOther, Pass, AllKnown, passes_acts, runs-of, target-other, apart}
use Rattle.code_gen.proofs.WholePrograms.Processor.{inside-memory, MayRead, next-other, Owned, read-own, stored-own}

-- ---- what no action stores stays

stays_after : (lanes : ℕ) (a : Action) (s : Local) (k : ℕ) → (Contains (stored_words lanes a) k → ⊥) →
    slice_index (memory_after lanes a s) k ≡ slice_index s.memory k
stays_after lanes (Store address r) s k none =
    slice_index-agree (with_words s.memory address (register_of lanes s.registers r)) s.memory k
    (with_words-other (register_of lanes s.registers r) s.memory address k
    (λ low high. none (Contains-range lanes address k low (omega (arith, high, length-words_at lanes s.registers (r * lanes))))))
stays_after lanes _ s k none = refl

stays : (m lanes : ℕ) (actions : List Action) (s : Local) (k : ℕ) → (HaveStored lanes actions k → ⊥) →
    slice_index (effects m lanes actions s).memory k ≡ slice_index s.memory k
stays m lanes [] s k none = refl
stays m lanes (a ∷ actions) s k none =
    stays m lanes actions (effect m lanes a s) k
    (λ later. none (Contains-append_right (stored_words lanes a) (flat_map (stored_words lanes) actions) k later))
    ∙ stays_after lanes a s k
    (λ now. none (Contains-append_left (stored_words lanes a) (flat_map (stored_words lanes) actions) k now))

module _ (c : Target) (words : ℕ) (enough : c.size ≤ words) where
  -- ---- a pass stores each word that a processor stores: else that word would not be what the pass makes

  module _ (p : Pass) (known : CanWritePass c p) (source target : Array) (other : IsOther source target) (q : ℕ)
      (low : q < c.procs) where
    abbrev from : ℕ
    from = array_start words source

    abbrev to : ℕ
    to = array_start words target

    abbrev actions : List Action
    actions = pass_acts c p from to q

    abbrev zeros : List ℕ
    zeros = replicate c.size 0

    module _ (w : ℕ) (is : IsStoredBy c p q w) where
      below : w < c.size
      below = stored-below c p known.runs q w is

      abbrev value : ℕ
      value = slice_index (nests_on c.modulus c.size p zeros) w

      abbrev memory : List ℕ
      memory = slice_set (replicate (4 * words) 0) (to + w) (suc value)

      abbrev state : Local
      state = record { memory = memory; registers = replicate (pass_registers c.modulus p * c.lanes) 0 }

      inside : to + w < 4 * words
      inside = let room = inside-memory words target in let in_size = below in let le = enough in omega (arith, room, in_size, le)

      apart_from : (i : ℕ) → i < c.size → from + i ≢ to + w
      apart_from i low =
          let in_size = below in
          ⊎_elim
          (λ (before : from + c.size ≤ to). omega (arith, before, low))
          (λ (behind : to + c.size ≤ from). omega (arith, behind, in_size))
          (apart words c.size enough source target other)

      begins : CanBegin c p from to q zeros state
      begins =
          record {
            registers = let e = length-replicate {A = ℕ} (pass_registers c.modulus p * c.lanes) 0 in omega (arith, e);
            sources =
                let long = length-set (replicate (4 * words) 0) (to + w) (suc value) in
                let all = length-replicate {A = ℕ} (4 * words) 0 in
                let room = inside-memory words source in
                let le = enough in
                omega (arith, long, all, room, le);
            targets =
                let long = length-set (replicate (4 * words) 0) (to + w) (suc value) in
                let all = length-replicate {A = ℕ} (4 * words) 0 in
                let room = inside-memory words target in
                let le = enough in
                omega (arith, long, all, room, le);
            held = λ i loaded.
                get_or-set_other (replicate (4 * words) 0) (to + w) (from + i) (suc value) 0 (apart_from i (loaded-below c p known.runs q i loaded))
                ∙ slice_index-zeros (4 * words) (from + i)
                ∙ sym (slice_index-zeros c.size i);
            residues = λ i _. let zero_is = slice_index-zeros c.size i in let some = modulus-some c p known.runs in omega (arith, zero_is, some);
          }

      stored_there : HaveStored c.lanes actions (to + w)
      stored_there =
          ⊎_elim
          (λ (h : HaveStored c.lanes actions (to + w)). h)
          (λ (none : HaveStored c.lanes actions (to + w) → ⊥).
          let made : slice_index (effects c.modulus c.lanes actions state).memory (to + w) ≡ value =
          ((runs-of c p known).leaves from to q zeros state low (apart words c.size enough source target other) begins).stored w is in
          let same : slice_index (effects c.modulus c.lanes actions state).memory (to + w) ≡ slice_index memory (to + w) =
          stays c.modulus c.lanes actions state (to + w) none in
          let there : slice_index memory (to + w) ≡ suc value =
          get_or-set_same (replicate (4 * words) 0) (to + w) (suc value) 0 (let all = length-replicate {A = ℕ} (4 * words) 0 in let room = inside in omega (arith, all, room)) in
          absurd (omega (arith, made, same, there)))
          (Contains_or_not (flat_map (stored_words c.lanes) actions) (to + w))

  -- ---- what it loads

  abbrev LoadKnown : (ℕ → Type 0) → List Action → Type 0
  LoadKnown K actions = lists.ReadKnown (loaded_words c.lanes) (stored_words c.lanes) K actions

  -- the words that the action loads are these
  abbrev LoadsFrom : (ℕ → Type 0) → Action → Type 0
  LoadsFrom K (Load r a) = (lane : ℕ) → lane < c.lanes → K (a + lane)
  LoadsFrom K _ = Unit {0}

  loads-still : (K : ℕ → Type 0) (a : Action) → StaysInRegisters a → LoadsFrom K a
  loads-still K (Load r a) still = absurd still
  loads-still K (Store a r) still = absurd still
  loads-still K _ still = tt

  loads_from : (K : ℕ → Type 0) (a : Action) → LoadsFrom K a → (k : ℕ) → Contains (loaded_words c.lanes a) k → K k
  loads_from K (Load r a) from k has =
      let item = range_item a c.lanes k has in
      let there : a + (k - a) ≡ k = omega (arith, item.0) in
      subst K there (from (k - a) (omega (arith, item.0, item.1)))
  loads_from K _ from k has = absurd (Contains-nil k has)

  -- a pass loads what its processor may read
  pass_loads : (K : ℕ → Type 0) (p : Pass) → CanWritePass c p → (source target : Array) (q : ℕ) → q < c.procs →
      ((w : ℕ) → w < c.size → IsLoadedBy c p q w → K (array_start words source + w)) →
      LoadKnown K (pass_acts c p (array_start words source) (array_start words target) q)
  pass_loads K p known source target q low has =
      let actions : List Action = pass_acts c p (array_start words source) (array_start words target) q in
      let each : All (LoadsFrom K) actions =
      every c p known.runs (LoadsFrom K) (λ a still fit. loads-still K a still) (array_start words source) (array_start words target) q low
      (λ a r loaded few lane on.
      let w = loaded lane on in
      subst K (sym w.2) (has w.0 (loaded-below c p known.runs q w.0 w.1) w.1))
      (λ a r stored few. tt) in
      lists.known-all (loaded_words c.lanes) (stored_words c.lanes) K actions
      (λ a there k read. loads_from K a (All-contains (LoadsFrom K) actions a each there) k read)

  -- ---- the parts of a processor

  module _ (owner : ℕ → ℕ) (after : ℕ) where
    -- what is own of the last array is stored
    stored_append : (xs ys : List Action) (k : ℕ) → HaveStored c.lanes xs k ⊎ HaveStored c.lanes ys k → HaveStored c.lanes (xs ++ ys) k
    stored_append xs ys k h =
        subst (λ ks. Contains ks k) (sym (flat_map-append (stored_words c.lanes) xs ys))
        (⊎_elim
        (λ (first : HaveStored c.lanes xs k). Contains-append_left (flat_map (stored_words c.lanes) xs) (flat_map (stored_words c.lanes) ys) k first)
        (λ (second : HaveStored c.lanes ys k). Contains-append_right (flat_map (stored_words c.lanes) xs) (flat_map (stored_words c.lanes) ys) k second)
        h)

    pub record ArePartsFresh (K : ℕ → Type 0) (ps : List Pass) (t : ℕ) (source : Array) (q : ℕ) : Type 0 where
      pub loads : lists.ReadKnown (loaded_words c.lanes) (stored_words c.lanes) K (passes_acts c words after ps t source q)
      pub reads : ReadsPut c.lanes Nothing (passes_acts c words after ps t source q)
      pub stores : 0 < length ps → (i : ℕ) → i < c.size → owner i ≡ q →
          HaveStored c.lanes (passes_acts c words after ps t source q) (array_start words (array_after after ps t source) + i)

    no-parts : (ps : List Pass) (t : ℕ) (source : Array) → length ps ≡ 0 → array_after after ps t source ≡ source
    no-parts [] t source e = refl
    no-parts (p ∷ ps) t source e = absurd (omega (arith, e))

    next_differs : (ps : List Pass) (t : ℕ) → 0 < length ps →
        IsOther (written_array t (after + length ps)) (written_array (suc t) (after + length ps - 1))
    next_differs ps t some =
        let more : after + length ps ≡ suc (after + length ps - 1) = omega (arith, some) in
        subst (λ (n : ℕ). IsOther (written_array t n) (written_array (suc t) (after + length ps - 1))) (sym more)
        (next-other t (after + length ps - 1) (after + length ps - 1))

    pub parts_fresh : (K : ℕ → Type 0) (ps : List Pass) (t : ℕ) (source : Array) (q : ℕ) → q < c.procs → AllKnown c ps →
        Owned c words enough owner after ps t source →
        (0 < length ps → IsOther source (written_array t (after + length ps - 1))) →
        ((i : ℕ) → i < c.size → MayRead c words enough owner after source q i → K (array_start words source + i)) →
        ArePartsFresh K ps t source q
    parts_fresh K [] t source q low known owned other has =
        record { loads = tt; reads = tt; stores = λ some. absurd (omega (arith, some)) }
    parts_fresh K (p ∷ ps) t source q low known owned other has =
        let target : Array = written_array t (after + length ps) in
        let first : List Action = pass_acts c p (array_start words source) (array_start words target) q in
        let rest : List Action = passes_acts c words after ps (suc t) target q in
        let differs : IsOther source target =
        (let e : after + suc (length ps) - 1 ≡ after + length ps = omega arith in
        subst (λ (n : ℕ). IsOther source (written_array t n)) e (other (omega arith))) in
        let mine : (i : ℕ) → i < c.size → owner i ≡ q → HaveStored c.lanes first (array_start words target + i) =
        λ i below own. stored_there p known.0 source target differs q low i (stored-own c p known.0.runs owner owned.1 q i low below own) in
        let L : ℕ → Type 0 = λ k. K k ⊎ HaveStored c.lanes first k in
        let later : ArePartsFresh L ps (suc t) target q =
        parts_fresh L ps (suc t) target q low known.1 owned.2 (λ some. next_differs ps t some)
        (λ i below may. inr (mine i below (read-own c words enough owner after target q i (target-other t (after + length ps)) may))) in
        let last : Array = array_after after ps (suc t) target in
        record {
          loads = lists.known-append (loaded_words c.lanes) (stored_words c.lanes) K first rest
              (pass_loads K p known.0 source target q low (λ w below is. has w below (owned.0 q w low is))) later.loads;
          reads = lists.known-both (read_registers c.lanes) (put_registers c.lanes) Nothing first rest
              (pass_reads c p known.0.runs (array_start words source) (array_start words target) q) later.reads;
          stores = λ some i below own. stored_append first rest (array_start words last + i)
              (⊎_elim
              (λ (none : length ps < 1).
              inl (subst (λ a. HaveStored c.lanes first (array_start words a + i)) (sym (no-parts ps (suc t) target (omega (arith, none)))) (mine i below own)))
              (λ (more : 1 ≤ length ps). inr (later.stores (omega (arith, more)) i below own))
              (cases_lt (length ps) 1));
        }
