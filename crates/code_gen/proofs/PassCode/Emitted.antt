-- The statements of a nest's copies are their actions, at places that are inside.
use Rattle.std.proofs.Common.{◌≡◌, ℕ, ◌+◌, ◌*◌, ◌-◌, ◌/◌, ◌^◌, ◌<◌, ◌≤◌, List, [], ◌∷◌, ◌++◌, length, replicate, ap}
use Rattle.std.proofs.Common.{ap₂, ◌∙◌, arith, slice_index, slice_index_or, ◌%◌, flat_map, refl, sym, mod-lt, subst}
use Rattle.std.proofs.Common.{Option, Some, None}
use Rattle.std.proofs.Math.Nat.{lt-div-mul-add}
use Rattle.std.specs.List.{range_with_len}
use Rattle.icode.specs.declared.program.Array.{Array}
use Rattle.icode.specs.Actions.{array_start, lane_factors, step_of, steps_of_body, Step, plain}
use Rattle.icode.specs.Expression.{sum_numbers}
use Rattle.icode.specs.Machine.{whole_lines}
use Rattle.icode.specs.Plain.{PlainExpr, PlainProgram, PlainBody, AndStmts, Do, Loop}
use Rattle.code_gen.specs.PassCode.Statements.{do_only, place_at, diagonal_of, one_factor, powers_of, product_op}
use Rattle.code_gen.specs.PassCode.Statements.{in_a_row, followed_by, finish_body, straight_body, loads_body, rows_body}
use Rattle.code_gen.specs.PassCode.Statements.{items_body, loop_value, product_place, term_body, horner_body}
use Rattle.operators.specs.declared.target.Target.{Target}
use Rattle.sigma_spl.specs.Shared.Machine.{PlainFrame, frame_of, item_of, values_of, loop_counts}
use Rattle.operators.proofs.Lists.{list_below-same, length-list_below, at-list_below}
use Rattle.perm_algebra.specs.Affine.{Sum}
use Rattle.icode.specs.declared.action.Action.{Action}
use Rattle.icode.specs.declared.action.Action.TheVariants.{Load, Store, Zero, Add, Mul}
use Rattle.icode.specs.Sequences.Nests.{bodies, loads}
use Rattle.kernel_gen.specs.KernelOps.{action_by, actions_by, op_of}
use Rattle.kernel_gen.specs.declared.straight.KernelOp.{KernelOp}
use Rattle.kernel_gen.proofs.KernelOps.{step-is}
use Rattle.code_gen.specs.PassActions.Acts.{load_at, store_at, factors_at, finish_acts, rows_acts, items_acts}
use Rattle.code_gen.specs.PassActions.Acts.{term_acts, horner_acts}
use Rattle.code_gen.specs.PassCode.Conditions.{IsInside}
use Rattle.sigma_spl.specs.Nest.{PlainMultiplier, PlainNest, factor_at, factor_count, store_place}
use Rattle.ring_mod.specs.Residue.{power_mod}
use Rattle.ring_mod.proofs.Powers.{power_mod-exponent}
use Rattle.code_gen.proofs.PassCode.Emits.{Emits, emits-one, emits-none, emits-append, emits-followed, emits-in_a_row}
use Rattle.code_gen.proofs.PassCode.Emits.{emits-looped, emits-loop, emits-then}
use Rattle.code_gen.proofs.PassCode.Coded.{IsCoded}
use Rattle.code_gen.proofs.PassCode.OneFactor.{one-factor}
use Rattle.code_gen.proofs.PassCode.PlaceNumbers.{loop-value, loop-peak, product-value, product-peak}
use Rattle.code_gen.proofs.PassActions.StraightCopies.{row_acts, copy_body, ends_of}
use Rattle.icode.specs.declared.action.Action.TheVariants as actions
use Rattle.icode.specs.Plain as statements

-- ---- the operations of a pass with their places

-- whole lines hold the words
pub whole-enough : (n line : ℕ) → 0 < line → n ≤ whole_lines n line
whole-enough n line some = let h : n + (line - 1) < (n + (line - 1)) / line * line + line = lt-div-mul-add some in omega arith

-- the program is for the machine
pub record IsFor (c : Target) (p : PlainProgram) : Type 0 where
  pub size : p.size ≡ c.size
  pub line : p.line ≡ c.line
  pub lanes : p.lanes ≡ c.lanes
  pub some : 0 < c.line

-- where an array of the machine's size begins
abbrev pub start_of : Target → Array → ℕ
start_of c array = array_start (whole_lines c.size c.line) array

-- factors that agree on the lanes
pub factors-same : (lanes : ℕ) (f g : ℕ → ℕ) → ((lane : ℕ) → lane < lanes → f lane ≡ g lane) →
    lane_factors lanes f ≡ lane_factors lanes g
factors-same lanes f g h = ap (λ (xs : List ℕ). xs ++ replicate (16 - lanes) 0) (list_below-same lanes f g h)

module _ (c : Target) (p : PlainProgram) (here : IsFor c p) (q : ℕ) where
  words-are : whole_lines p.size p.line ≡ whole_lines c.size c.line
  words-are = ap₂ (λ (n line : ℕ). whole_lines n line) here.size here.line

  start-is : (array : Array) (place value : ℕ) → value ≡ place →
      array_start (whole_lines p.size p.line) array + value ≡ start_of c array + place
  start-is array place value is = ap₂ (λ (n v : ℕ). array_start n array + v) words-are is

  -- the words of all lanes are there
  words-inside : (place value : ℕ) → value ≡ place → place + c.lanes ≤ c.size →
      value + p.lanes ≤ whole_lines p.size p.line
  words-inside place value is inside =
      let enough = whole-enough c.size c.line here.some in
      let words = words-are in
      let lanes = here.lanes in
      omega arith

  module _ (f : PlainFrame) (open_loops : ℕ) (array : Array) (sums : List Sum) (i r : ℕ) (vs : List ℕ) (place : ℕ)
      (coded : IsCoded f open_loops sums i vs q place) (inside : place + c.lanes ≤ c.size) where
    pub emits-load : Emits (steps_of_body p (do_only (statements.Load r array (place_at f open_loops sums i))) vs q)
        (actions.Load r (start_of c array + place) ∷ [])
    emits-load =
        emits-one (step_of p (statements.Load r array (place_at f open_loops sums i)) vs q) (actions.Load r (start_of c array + place))
        (ap (actions.Load r) (start-is array place _ coded.value_is))
        (record { numbers = coded.peak_fits; place = words-inside place _ coded.value_is inside })

    pub emits-store : Emits (steps_of_body p (do_only (statements.Store array (place_at f open_loops sums i) r)) vs q)
        (actions.Store (start_of c array + place) r ∷ [])
    emits-store =
        emits-one (step_of p (statements.Store array (place_at f open_loops sums i) r) vs q) (actions.Store (start_of c array + place) r)
        (ap (λ (a : ℕ). actions.Store a r) (start-is array place _ coded.value_is))
        (record { numbers = coded.peak_fits; place = words-inside place _ coded.value_is inside })

  entries-are : (entries : List ℕ) (value place step : ℕ) (factor : ℕ → ℕ) → value ≡ place →
      ((lane : ℕ) → lane < c.lanes → slice_index entries (place + step * lane) ≡ factor lane) →
      lane_factors p.lanes (λ lane. slice_index entries (value + step * lane)) ≡ lane_factors c.lanes factor
  entries-are entries value place step factor is h =
      ap₂ (λ (n v : ℕ). lane_factors n (λ lane. slice_index entries (v + step * lane))) here.lanes is
      ∙ factors-same c.lanes (λ lane. slice_index entries (place + step * lane)) factor h

  -- a product by entries of a table, one for each lane
  pub emits-product : (r x table step : ℕ) (e : PlainExpr) (entries vs : List ℕ) (place : ℕ) (factor : ℕ → ℕ) →
      (sum_numbers e vs q).value ≡ place → (sum_numbers e vs q).peak < 2 ^ 64 →
      slice_index_or p.tables table [] ≡ entries → place + step * (c.lanes - 1) + 1 ≤ length entries →
      ((lane : ℕ) → lane < c.lanes → slice_index entries (place + step * lane) ≡ factor lane) →
      Emits (steps_of_body p (do_only (statements.MulTable r x table e step)) vs q)
      (actions.Mul r x (lane_factors c.lanes factor) ∷ [])
  emits-product r x table step e entries vs place factor is peak there inside h =
      let size = ap (λ (us : List ℕ). length us) there in
      let lanes : step * (p.lanes - 1) ≡ step * (c.lanes - 1) = ap (λ (n : ℕ). step * (n - 1)) here.lanes in
      emits-one (step_of p (statements.MulTable r x table e step) vs q) (actions.Mul r x (lane_factors c.lanes factor))
      (ap (λ (us : List ℕ). actions.Mul r x (lane_factors p.lanes (λ lane. slice_index us ((sum_numbers e vs q).value + step * lane)))) there
      ∙ ap (actions.Mul r x) (entries-are entries _ place step factor is h))
      (record { numbers = peak; place = omega (arith, size, lanes) })

-- ---- the statements of a nest's copies are their actions, at places that are inside

inside-plain : (a : Action) → IsInside (plain a)
inside-plain a = record { numbers = omega arith; place = omega arith }

module _ (c : Target) (pass : PlainNest) (q : ℕ) where
  -- where the factors of a register's lanes stand in the diagonal
  abbrev pub entry_place : PlainMultiplier → List ℕ → ℕ → ℕ → ℕ
  entry_place d vs k lane = store_place pass.work d.places (values_of c pass.work q lane vs) (item_of pass.work k lane)

  -- the sum number i of `open_loops` open loops, at the values us, is where a register is loaded from
  pub record IsLoadedAt (open_loops i : ℕ) (us vs : List ℕ) (k : ℕ) : Type 0 where
    pub coded : IsCoded (frame_of c pass.work) open_loops pass.gathers i us q (load_at c pass q vs k)
    pub inside : load_at c pass q vs k + c.lanes ≤ c.size

  -- the diagonal's entries for a register: on lanes they stand so far apart
  pub record IsMultipliedAt (d : PlainMultiplier) (step open_loops i : ℕ) (us vs : List ℕ) (k : ℕ) : Type 0 where
    pub coded : IsCoded (frame_of c pass.work) open_loops d.places i us q (entry_place d vs k 0)
    pub apart : (lane : ℕ) → lane < c.lanes → entry_place d vs k lane ≡ entry_place d vs k 0 + step * lane
    pub below : (lane : ℕ) → lane < c.lanes → entry_place d vs k lane < factor_count d.factors

  -- where it is stored, and what it is multiplied by
  pub record IsStoredAt (step open_loops i : ℕ) (us vs : List ℕ) (k : ℕ) : Type 0 where
    pub coded : IsCoded (frame_of c pass.work) open_loops pass.scatters i us q (store_at c pass q vs k)
    pub inside : store_at c pass q vs k + c.lanes ≤ c.size
    pub multiplied : (d : PlainMultiplier) → pass.multiplier ≡ Some d → IsMultipliedAt d step open_loops i us vs k

module _ (c : Target) (pass : PlainNest) (p : PlainProgram) (here : IsFor c p) (some : 1 ≤ c.lanes) (q : ℕ)
    (source target : Array) where
  -- the diagonal's table, where it has one
  abbrev pub HasDiagonal : ℕ → Type 0
  HasDiagonal table = (d : PlainMultiplier) → pass.multiplier ≡ Some d → one_factor d.factors ≡ None → slice_index_or p.tables table [] ≡ diagonal_of c.modulus d.factors

  emits-multiplied : (d : PlainMultiplier) (step open_loops table i from free : ℕ) (us vs : List ℕ) (k : ℕ) →
      IsMultipliedAt c pass q d step open_loops i us vs k → slice_index_or p.tables table []
      ≡ diagonal_of c.modulus d.factors →
      Emits (steps_of_body p
      (do_only (statements.MulTable free from table (place_at (frame_of c pass.work) open_loops d.places i) step)) us q)
      (Mul free from (factors_at c pass d q vs k) ∷ [])
  emits-multiplied d step open_loops table i from free us vs k m there =
      let size = factor_count d.factors in
      let entry : ℕ → ℕ = factor_at c.modulus d.factors in
      let first : ℕ = entry_place c pass q d vs k 0 in
      let place : PlainExpr = place_at (frame_of c pass.work) open_loops d.places i in
      let long : length (diagonal_of c.modulus d.factors) ≡ size = length-list_below size entry in
      let apart = m.apart (c.lanes - 1) (omega arith) in
      let below = m.below (c.lanes - 1) (omega arith) in
      emits-product c p here q free from table step place (diagonal_of c.modulus d.factors) us first (λ lane. factor_at c.modulus d.factors (entry_place c pass q d vs k lane)) m.coded.value_is m.coded.peak_fits there
      (omega arith)
      (λ lane on.
      ap (slice_index (diagonal_of c.modulus d.factors)) (sym (m.apart lane on))
      ∙ at-list_below size entry (entry_place c pass q d vs k lane) (m.below lane on))

  -- by one factor, or by entries of the table
  emits-factor : (o : Option ℕ) (d : PlainMultiplier) (step open_loops table i from free : ℕ) (us vs : List ℕ) (k : ℕ) →
      one_factor d.factors ≡ o → IsMultipliedAt c pass q d step open_loops i us vs k →
      (one_factor d.factors ≡ None → slice_index_or p.tables table [] ≡ diagonal_of c.modulus d.factors) →
      Emits (steps_of_body p
      (do_only (product_op o free from table (place_at (frame_of c pass.work) open_loops d.places i) step)) us q)
      (Mul free from (factors_at c pass d q vs k) ∷ [])
  emits-factor None d step open_loops table i from free us vs k is m there = emits-multiplied d step open_loops table i from free us vs k m (there is)
  emits-factor (Some value) d step open_loops table i from free us vs k is m there =
      emits-one (step_of p (statements.MulConst free from value) us q) (Mul free from (factors_at c pass d q vs k))
      (ap (λ (n : ℕ). Mul free from (lane_factors n (λ _. value))) here.lanes
      ∙ ap (λ (g : ℕ → ℕ). Mul free from (lane_factors c.lanes g)) (λ e lane. sym (one-factor c.modulus d.factors value is (entry_place c pass q d vs k lane)) e))
      (record { numbers = omega arith; place = omega arith })

  emits-finish : (o : Option PlainMultiplier) (step open_loops table i from free : ℕ) (us vs : List ℕ) (k : ℕ) →
      IsCoded (frame_of c pass.work) open_loops pass.scatters i us q (store_at c pass q vs k) →
      store_at c pass q vs k + c.lanes ≤ c.size →
      ((d : PlainMultiplier) → o ≡ Some d → IsMultipliedAt c pass q d step open_loops i us vs k) →
      ((d : PlainMultiplier) → o ≡ Some d → one_factor d.factors ≡ None →
      slice_index_or p.tables table [] ≡ diagonal_of c.modulus d.factors) →
      Emits (steps_of_body p (finish_body (frame_of c pass.work) step o pass.scatters open_loops table target i from
      free) us q) (finish_acts c pass o (start_of c target) q vs k from free)
  emits-finish None step open_loops table i from free us vs k coded inside multiplied there =
      emits-store c p here q (frame_of c pass.work) open_loops target pass.scatters i from us (store_at c pass q vs k) coded inside
  emits-finish (Some d) step open_loops table i from free us vs k coded inside multiplied there =
      let f = frame_of c pass.work in
      let place : PlainExpr = place_at f open_loops d.places i in
      emits-then p q (product_op (one_factor d.factors) free from table place step) (do_only (statements.Store target (place_at f open_loops pass.scatters i) free)) us (Mul free from (factors_at c pass d q vs k))
      (Store (start_of c target + store_at c pass q vs k) free ∷ [])
      (emits-factor (one_factor d.factors) d step open_loops table i from free us vs k refl (multiplied d refl) (there d refl))
      (emits-store c p here q f open_loops target pass.scatters i free us (store_at c pass q vs k) coded inside)

  emits-stored : (step open_loops table i from free : ℕ) (us vs : List ℕ) (k : ℕ) →
      IsStoredAt c pass q step open_loops i us vs k → HasDiagonal table →
      Emits (steps_of_body p (finish_body (frame_of c pass.work) step pass.multiplier pass.scatters open_loops table
      target i from free) us q) (finish_acts c pass pass.multiplier (start_of c target) q vs k from free)
  emits-stored step open_loops table i from free us vs k h there = emits-finish pass.multiplier step open_loops table i from free us vs k h.coded h.inside h.multiplied there

  -- ---- straight code

  pub emits-plain : (a : Action) → Emits (plain a ∷ []) (a ∷ [])
  emits-plain a = emits-one (plain a) a refl (inside-plain a)

  emits-instruction : (i : KernelOp) (vs : List ℕ) → Emits (step_of p (op_of i) vs q ∷ []) (action_by c.lanes i ∷ [])
  emits-instruction i vs =
      let is : step_of p (op_of i) vs q ≡ plain (action_by c.lanes i) = step-is p i vs q ∙ ap (λ (n : ℕ). plain (action_by n i)) here.lanes in
      emits-one (step_of p (op_of i) vs q) (action_by c.lanes i) (ap (λ (s : Step). s.action) is) (subst IsInside (sym is) (inside-plain (action_by c.lanes i)))

  pub emits-straight : (code : List KernelOp) (vs : List ℕ) →
      Emits (steps_of_body p (straight_body code) vs q) (actions_by c.lanes code)
  emits-straight [] vs = emits-none
  emits-straight (i ∷ code) vs = emits-then p q (op_of i) (straight_body code) vs (action_by c.lanes i) (actions_by c.lanes code) (emits-instruction i vs) (emits-straight code vs)

  module _ (table : ℕ) (vs : List ℕ) (there : HasDiagonal table) where
    -- the loads of the first n registers
    emits-loads : (n : ℕ) → ((k : ℕ) → k < n → IsLoadedAt c pass q (length (loop_counts c pass)) k vs vs k) →
        Emits (steps_of_body p (loads_body (frame_of c pass.work) pass (length (loop_counts c pass)) n source) vs q)
        (loads n (λ k. start_of c source + load_at c pass q vs k))
    emits-loads n places =
        let open_loops = length (loop_counts c pass) in
        emits-in_a_row p q n (λ k. do_only (statements.Load k source (place_at (frame_of c pass.work) open_loops pass.gathers k))) vs (λ k. Load k (start_of c source + load_at c pass q vs k) ∷ [])
        (λ k below. let at = places k below in emits-load c p here q (frame_of c pass.work) open_loops source pass.gathers k k vs (load_at c pass q vs k) at.coded at.inside)

    -- registers that are loaded, what is done with them, and outputs that are stored
    pub emits-body : (n step : ℕ) (middle : PlainBody) (acts : List Action) (out : ℕ → ℕ) (used : ℕ) →
        Emits (steps_of_body p middle vs q) acts →
        ((k : ℕ) → k < n → IsLoadedAt c pass q (length (loop_counts c pass)) k vs vs k) →
        ((k : ℕ) → k < n → IsStoredAt c pass q step (length (loop_counts c pass)) k vs vs k) →
        Emits (steps_of_body p (followed_by (loads_body (frame_of c pass.work) pass (length (loop_counts c pass)) n source)
        (followed_by middle (in_a_row n (λ k. finish_body (frame_of c pass.work) step pass.multiplier pass.scatters
        (length (loop_counts c pass)) table target k (out k) (used + k))))) vs q)
        (copy_body c pass pass.multiplier acts out used n (λ k. start_of c source + load_at c pass q vs k)
        (start_of c target) q vs)
    emits-body n step middle acts out used code inputs stores =
        let open_loops = length (loop_counts c pass) in
        let outputs : ℕ → PlainBody =
        λ k. finish_body (frame_of c pass.work) step pass.multiplier pass.scatters open_loops table target k (out k) (used + k) in
        let finishes : ℕ → List Action = ends_of c pass pass.multiplier out used (start_of c target) q vs in
        emits-followed p q (loads_body (frame_of c pass.work) pass open_loops n source)
        (followed_by middle (in_a_row n outputs)) vs (loads n (λ k. start_of c source + load_at c pass q vs k))
        (acts ++ bodies n finishes)
        (emits-loads n inputs)
        (emits-followed p q middle (in_a_row n outputs) vs acts (bodies n finishes) code
        (emits-in_a_row p q n outputs vs finishes (λ k below.
        emits-stored step open_loops table k (out k) (used + k) vs vs k (stores k below) there)))

    -- ---- work by rows

    module _ (n powers : ℕ) (small : n < 2 ^ 32) (deep : length vs ≡ length (loop_counts c pass)) (root : ℕ)
        (powers_there : slice_index_or p.tables powers [] ≡ powers_of c.modulus root n) where
      -- a product by a power that stands in the table, for all lanes
      emits-power : (r x : ℕ) (e : PlainExpr) (us : List ℕ) (at exponent : ℕ) → at < n →
          power_mod c.modulus root at ≡ power_mod c.modulus root exponent → (sum_numbers e us q).value ≡ at →
          (sum_numbers e us q).peak < 2 ^ 64 →
          Emits (steps_of_body p (do_only (statements.MulTable r x powers e 0)) us q)
          (Mul r x (lane_factors c.lanes (λ _. power_mod c.modulus root exponent)) ∷ [])
      emits-power r x e us at exponent inside same value peak =
          let g : ℕ → ℕ = power_mod c.modulus root in
          emits-product c p here q r x powers 0 e (powers_of c.modulus root n) us at (λ _. g exponent) value peak powers_there (let long = length-list_below n g in omega arith)
          (λ lane on.
          let there : at + 0 * lane ≡ at = omega arith in
          ap (slice_index (powers_of c.modulus root n)) there ∙ at-list_below n g at inside ∙ same)

      pub emits-term : (k l : ℕ) → power_mod c.modulus root n ≡ 1 % c.modulus → k < n → l < n →
          IsLoadedAt c pass q (length (loop_counts c pass) + 2) 0 ((vs ++ k ∷ []) ++ l ∷ []) vs l →
          Emits (steps_of_body p (term_body (place_at (frame_of c pass.work)
          (length (loop_counts c pass) + 2) pass.gathers 0) (length (loop_counts c pass)) source powers n)
          ((vs ++ k ∷ []) ++ l ∷ []) q)
          (term_acts c pass root (start_of c source) q vs k l)
      emits-term k l whole row column loaded =
          let open_loops = length (loop_counts c pass) in
          let us : List ℕ = (vs ++ k ∷ []) ++ l ∷ [] in
          let factors : List ℕ = lane_factors c.lanes (λ _. power_mod c.modulus root (k * l)) in
          let entry : PlainExpr = product_place open_loops n in
          let add : PlainBody = do_only (statements.Add 0 0 2) in
          emits-then p q (statements.Load 1 source (place_at (frame_of c pass.work) (open_loops + 2) pass.gathers 0)) (AndStmts (Do (statements.MulTable 2 1 powers entry 0)) add) us (Load 1 (start_of c source + load_at c pass q vs l)) (Mul 2 1 factors ∷ Add 0 0 2 ∷ [])
          (emits-load c p here q (frame_of c pass.work) (open_loops + 2) source pass.gathers 0 1 us (load_at c pass q vs l) loaded.coded loaded.inside)
          (emits-then p q (statements.MulTable 2 1 powers entry 0) add us (Mul 2 1 factors) (Add 0 0 2 ∷ [])
          (emits-power 2 1 entry us ((k * l) % n) (k * l) (mod-lt (k * l) (omega arith)) (sym (power_mod-exponent c.modulus root n (k * l) whole)) (product-value n open_loops k l q vs deep) (product-peak n open_loops k l q vs deep row column small))
          (emits-plain (Add 0 0 2)))

      pub emits-horner : (k t : ℕ) → k < n → t < n → IsLoadedAt c pass q (length (loop_counts c pass) + 2) 0
          ((vs ++ k ∷ []) ++ t ∷ []) vs (n - 1 - t) →
          Emits (steps_of_body p (horner_body (place_at (frame_of c pass.work)
          (length (loop_counts c pass) + 2) pass.gathers 0) (length (loop_counts c pass)) source powers)
          ((vs ++ k ∷ []) ++ t ∷ []) q)
          (horner_acts c pass root n (start_of c source) q vs k t)
      emits-horner k t row column loaded =
          let open_loops = length (loop_counts c pass) in
          let us : List ℕ = (vs ++ k ∷ []) ++ t ∷ [] in
          let factors : List ℕ = lane_factors c.lanes (λ _. power_mod c.modulus root k) in
          let from : ℕ = load_at c pass q vs (n - 1 - t) in
          let load : PlainBody = do_only (statements.Load 2 source (place_at (frame_of c pass.work) (open_loops + 2) pass.gathers 0)) in
          let add : PlainBody = do_only (statements.Add 0 1 2) in
          emits-then p q (statements.MulTable 1 0 powers (loop_value open_loops) 0) (AndStmts (Do (statements.Load 2 source (place_at (frame_of c pass.work) (open_loops + 2) pass.gathers 0))) add) us (Mul 1 0 factors) (Load 2 (start_of c source + from) ∷ Add 0 1 2 ∷ [])
          (emits-power 1 0 (loop_value open_loops) us k k row refl (loop-value open_loops k t q vs deep) (loop-peak open_loops k t q vs deep (omega arith)))
          (emits-then p q (statements.Load 2 source (place_at (frame_of c pass.work) (open_loops + 2) pass.gathers 0)) add us (Load 2 (start_of c source + from)) (Add 0 1 2 ∷ [])
          (emits-load c p here q (frame_of c pass.work) (open_loops + 2) source pass.gathers 0 2 us from loaded.coded loaded.inside)
          (emits-plain (Add 0 1 2)))

    -- rows, where each turn is its actions
    pub emits-rows : (n : ℕ) (turn : PlainBody) (acts : ℕ → ℕ → List Action) →
        ((k l : ℕ) → k < n → l < n → Emits (steps_of_body p turn ((vs ++ k ∷ []) ++ l ∷ []) q) (acts k l)) →
        ((k : ℕ) → k < n → IsStoredAt c pass q 0 (length (loop_counts c pass) + 1) 0 (vs ++ k ∷ []) vs k) →
        Emits (steps_of_body p (rows_body (frame_of c pass.work) pass (length (loop_counts c pass)) n turn table target)
        vs q) (rows_acts c pass n acts (start_of c target) q vs)
    emits-rows n turn acts turns stores =
        let f = frame_of c pass.work in
        let open_loops = length (loop_counts c pass) in
        let finish : PlainBody = finish_body f 0 pass.multiplier pass.scatters (open_loops + 1) table target 0 0 3 in
        emits-looped p q n (AndStmts (Do (statements.Zero 0)) (AndStmts (Loop n turn) finish)) vs (λ k. row_acts c pass n (acts k) (start_of c target) q vs k)
        (λ k row.
        let us : List ℕ = vs ++ k ∷ [] in
        emits-then p q (statements.Zero 0) (AndStmts (Loop n turn) finish) us (Zero 0) (bodies n (acts k) ++ finish_acts c pass pass.multiplier (start_of c target) q vs k 0 3)
        (emits-plain (Zero 0))
        (emits-append (flat_map (λ j. steps_of_body p turn (us ++ j ∷ []) q) (range_with_len 0 n)) (steps_of_body p finish us q) (bodies n (acts k)) (finish_acts c pass pass.multiplier (start_of c target) q vs k 0 3)
        (emits-loop n (λ j. steps_of_body p turn (us ++ j ∷ []) q) (acts k) (λ j column. turns k j row column))
        (emits-stored 0 (open_loops + 1) table 0 0 3 us vs k (stores k row) there)))

    -- items one by one
    pub emits-items : (n : ℕ) → ((k : ℕ) → k < n → IsLoadedAt c pass q (length (loop_counts c pass)) k vs vs k) →
        ((k : ℕ) → k < n → IsStoredAt c pass q 0 (length (loop_counts c pass)) k vs vs k) →
        Emits (steps_of_body p (items_body (frame_of c pass.work) pass (length (loop_counts c pass)) n table source
        target) vs q) (items_acts c pass n (start_of c source) (start_of c target) q vs)
    emits-items n inputs stores =
        let f = frame_of c pass.work in
        let open_loops = length (loop_counts c pass) in
        emits-in_a_row p q n (λ k. AndStmts (Do (statements.Load 0 source (place_at f open_loops pass.gathers k))) (finish_body f 0 pass.multiplier pass.scatters open_loops table target k 0 1)) vs
        (λ k. Load 0 (start_of c source + load_at c pass q vs k) ∷ finish_acts c pass pass.multiplier (start_of c target) q vs k 0 1)
        (λ k below.
        let at = inputs k below in
        emits-then p q (statements.Load 0 source (place_at f open_loops pass.gathers k)) (finish_body f 0 pass.multiplier pass.scatters open_loops table target k 0 1) vs (Load 0 (start_of c source + load_at c pass q vs k)) (finish_acts c pass pass.multiplier (start_of c target) q vs k 0 1)
        (emits-load c p here q f open_loops source pass.gathers k 0 vs (load_at c pass q vs k) at.coded at.inside)
        (emits-stored 0 open_loops table k 0 1 vs vs k (stores k below) there))
