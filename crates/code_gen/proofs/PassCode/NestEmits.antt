-- The places of a nest are coded, and its statements are its actions.
use Rattle.std.proofs.Common.{◌≡◌, ℕ, ◌+◌, ◌-◌, ◌*◌, ◌/◌, ◌%◌, ◌<◌, ◌≤◌, List, [], ◌∷◌, ◌++◌, length, refl, sym, ap}
use Rattle.std.proofs.Common.{ap₂, ◌∙◌, arith, subst, length-append, append_assoc, append-nil, inl, inr, ◌⊎◌, ◌^◌, true}
use Rattle.std.proofs.Common.{Contains, slice_index, slice_index_or, Option, Some, None}
use Rattle.std.proofs.lemmas.List.Elements.{All-contains}
use Rattle.icode.specs.declared.program.Array.{Array}
use Rattle.icode.specs.Actions.{steps_of_body}
use Rattle.icode.specs.Plain.{PlainProgram}
use Rattle.icode.specs.Sequences.Nests.{AreInRange}
use Rattle.kernel_gen.specs.KernelOps.{actions_by}
use Rattle.kernel_gen.specs.Kernel.{trees_kernel}
use Rattle.operators.proofs.Lists.{row-of, column-of}
use Rattle.perm_algebra.specs.Affine.{Sum, constant, value}
use Rattle.code_gen.specs.PassActions.Acts.{load_at, store_at, copy_acts, nest_acts, term_acts, horner_acts}
use Rattle.code_gen.specs.PassActions.Acts.{nest_registers, pass_acts}
use Rattle.code_gen.specs.PassCode.Conditions.{AreWithin, CanWriteNest, HasTables, PassesAreEmitted}
use Rattle.sigma_spl.specs.Shared.Running.{CanRunNest}
use Rattle.operators.specs.declared.target.Target.{Target}
use Rattle.sigma_spl.specs.Shared.Machine.{frame_of, item_of, values_of, loop_counts, lane_step}
use Rattle.code_gen.specs.PassCode.Statements.{diagonal_of, diagonal_number, one_factor, powers_of, multiplier_number}
use Rattle.code_gen.specs.PassCode.Statements.{do_only, nest_body, nested, straight_body, place_at, powers_number}
use Rattle.code_gen.specs.PassCode.Statements.{table_number, tables_of_multiplier, tables_of_nest, tables_of_work}
use Rattle.code_gen.specs.PassCode.Statements.{term_body, horner_body, with_diagonal, with_table, work_body, pass_body}
use Rattle.code_gen.specs.PassCode.Statements.{tables_after}
use Rattle.sigma_spl.proofs.Frames.{loops-are}
use Rattle.sigma_spl.proofs.Nests.{one_below, two_below, with_more}
use Rattle.sigma_spl.specs.Copies.{loops_of}
use Rattle.sigma_spl.specs.Good.{AreSound}
use Rattle.sigma_spl.specs.Merge.{limits_of}
use Rattle.sigma_spl.specs.Nest.{PlainMultiplier, PlainNest, store_place, sum_value}
use Rattle.sigma_spl.specs.Work.{PlainWork, kernel, rows, horner, tile, copy, work_size, vectors_of, trees_of}
use Rattle.tree_model.specs.Trees.{trees_size}
use Rattle.icode.proofs.Lines.{Contains-head, Contains-tail}
use Rattle.icode.specs.Limits.{is_body_within}
use Rattle.code_gen.proofs.PassCode.Coded.{IsCoded, coded, length-range, values-append}
use Rattle.code_gen.proofs.PassCode.Emits.{Emits, emits-nested, emits-followed, emits-none}
use Rattle.code_gen.proofs.PassCode.Emitted.{IsLoadedAt, IsStoredAt, emits-body, emits-plain, emits-rows, emits-items}
use Rattle.code_gen.proofs.PassCode.Emitted.{emits-term, emits-horner, emits-straight, IsFor, start_of}
use Rattle.code_gen.proofs.PassActions.Fillings.{working, registers-le}
use Rattle.code_gen.proofs.PassActions.Copies.{copy-framed, item-below, load-below, of_code, store-below, nest-can}
use Rattle.code_gen.proofs.PassCode.SharedTables.{multiplier-extends, number-stays, number-there, Extends}
use Rattle.code_gen.proofs.PassCode.SharedTables.{extends-longer, extends-more, extends-same, nest-extends}
use Rattle.code_gen.proofs.PassCode.Limits.{within-followed, nest-within}
use Rattle.icode.specs.declared.action.Action.TheVariants as actions
use Rattle.icode.specs.Plain as statements
use Rattle.operators.specs.Paths.Tensors as paths

-- ---- tables

pub multiplier-there : (m : ℕ) (o : Option PlainMultiplier) (d : PlainMultiplier) (ts more : List (List ℕ)) →
    o ≡ Some d → one_factor d.factors ≡ None →
    slice_index_or (tables_of_multiplier m o ts ++ more) (multiplier_number m o ts) [] ≡ diagonal_of m d.factors
multiplier-there m o d ts more is none =
    let entries = diagonal_of m d.factors in
    subst (λ (z : Option PlainMultiplier). slice_index_or (tables_of_multiplier m z ts ++ more) (multiplier_number m z ts) [] ≡ entries) (sym is)
    (subst (λ (o : Option ℕ). slice_index_or (with_diagonal o ts entries ++ more) (diagonal_number o ts entries) [] ≡ entries) (sym none) (number-there ts entries more))

-- ---- places

tile-first : (sums : List Sum) (vs : List ℕ) (k v : ℕ) → 0 < v →
    sum_value sums ((k * v + 0) / v) vs + (k * v + 0) % v ≡ sum_value sums k vs
tile-first sums vs k v some =
    let none : sum_value sums k vs + 0 ≡ sum_value sums k vs = omega arith in
    ap₂ (λ i l. sum_value sums i vs + l) (row-of k 0 v some) (column-of k 0 v some) ∙ none

place-is : (c : Target) (n i : ℕ) (z : PlainNest) (sums : List Sum) (us : List ℕ) (q a b : ℕ) → a ≡ b →
    IsCoded (frame_of c z.work) n sums i us q a → IsCoded (frame_of c z.work) n sums i us q b
place-is c n i z sums us q a b is h = subst (λ (p : ℕ). IsCoded (frame_of c z.work) n sums i us q p) is h

module _ (c : Target) (lanes : 0 < c.lanes) (z : PlainNest) (can : CanRunNest c z) (writes : CanWriteNest c z) (q : ℕ)
    (part : q < c.procs) (vs : List ℕ) (range : AreInRange can.framed.loops vs) where
  -- the values of all variables on a lane
  abbrev on : ℕ → List ℕ
  on lane = values_of c z.work q lane vs

  on-range : (lane : ℕ) → lane < c.lanes → paths.AreInRange (loops_of z.counts) (on lane)
  on-range lane there = (copy-framed c z can.framed q lane vs part there range).in_range

  abbrev deep : ℕ
  deep = length (loop_counts c z)

  pub depth-is : length vs ≡ deep
  depth-is = length-range can.framed.loops vs range ∙ ap (λ (ns : List ℕ). length ns) (sym (loops-are c z can.framed))

  -- ---- expressions

  -- what comes after the values of the loops is below the work's size
  abbrev IsLow : List ℕ → Type 0
  IsLow more = (d : ℕ) → slice_index more d ≤ slice_index (work_size z.work ∷ work_size z.work ∷ []) d - 1

  sum-coded : (sums : List Sum) (n i : ℕ) (more : List ℕ) → AreWithin (limits_of z) (frame_of c z.work) n sums →
      AreSound sums → length (vs ++ more) ≡ n → IsLow more →
      IsCoded (frame_of c z.work) n sums i (vs ++ more) q (sum_value sums i (on 0 ++ more))
  sum-coded sums n i more within sound size low =
      let same = values-append c z.work q vs more in
      place-is c n i z sums (vs ++ more) q _ _ (ap (sum_value sums i) (sym same))
      (coded c z.work (limits_of z) n sums i q (vs ++ more) within.words sound size
      (subst (λ (us : List ℕ). ((d : ℕ) → slice_index us d ≤ limits_of z d - 1)) same
      (with_more z.counts (work_size z.work) (on 0) more (on-range 0 lanes) low)))

  -- straight code's
  alone-coded : (sums : List Sum) (i : ℕ) → AreWithin (limits_of z) (frame_of c z.work) (deep + 0) sums →
      AreSound sums → IsCoded (frame_of c z.work) deep sums i vs q (sum_value sums i (on 0))
  alone-coded sums i within sound =
      let none : deep + 0 ≡ deep = omega arith in
      let here : IsCoded (frame_of c z.work) (deep + 0) sums i (vs ++ []) q (sum_value sums i (on 0 ++ [])) =
      sum-coded sums (deep + 0) i [] within sound (ap length (append-nil vs) ∙ depth-is ∙ sym none) (λ d. omega arith) in
      subst (λ (n : ℕ). IsCoded (frame_of c z.work) n sums i vs q (sum_value sums i (on 0))) none
      (subst (λ (us : List ℕ). IsCoded (frame_of c z.work) (deep + 0) sums i us q (sum_value sums i (on 0))) (append-nil vs)
      (subst (λ (us : List ℕ). IsCoded (frame_of c z.work) (deep + 0) sums i (vs ++ []) q (sum_value sums i us)) (append-nil (on 0)) here))

  length-one : (k : ℕ) → length (vs ++ k ∷ []) ≡ deep + 1
  length-one k = let all = length-append vs (k ∷ []) in let d = depth-is in omega arith

  length-two : (k l : ℕ) → length (vs ++ k ∷ l ∷ []) ≡ deep + 2
  length-two k l = let all = length-append vs (k ∷ l ∷ []) in let d = depth-is in omega arith

  -- the sum of a row
  row-coded : (sums : List Sum) (k : ℕ) → k < work_size z.work →
      AreWithin (limits_of z) (frame_of c z.work) (deep + 1) sums → AreSound sums →
      IsCoded (frame_of c z.work) (deep + 1) sums 0 (vs ++ k ∷ []) q (sum_value sums 0 (on 0 ++ k ∷ []))
  row-coded sums k below within sound = sum-coded sums (deep + 1) 0 (k ∷ []) within sound (length-one k) (one_below (work_size z.work) k below)

  -- the sum of a turn in a row, which does not hang on the row
  turn-coded : (k l : ℕ) → k < work_size z.work → l < work_size z.work →
      AreWithin (limits_of z) (frame_of c z.work) (deep + 2) z.gathers → AreSound z.gathers →
      ((us : List ℕ) (row j : ℕ) → paths.AreInRange (loops_of z.counts) us → row < work_size z.work →
      j < work_size z.work → value (slice_index_or z.gathers 0 (constant 0)) (slice_index (us ++ row ∷ j ∷ []))
      ≡ value (slice_index_or z.gathers 0 (constant 0)) (slice_index (us ++ 0 ∷ j ∷ []))) →
      IsCoded (frame_of c z.work) (deep + 2) z.gathers 0 ((vs ++ k ∷ []) ++ l ∷ []) q
      (sum_value z.gathers 0 (on 0 ++ 0 ∷ l ∷ []))
  turn-coded k l below under within sound alike =
      subst (λ (us : List ℕ). IsCoded (frame_of c z.work) (deep + 2) z.gathers 0 us q (sum_value z.gathers 0 (on 0 ++ 0 ∷ l ∷ []))) (sym (append_assoc vs (k ∷ []) (l ∷ [])))
      (place-is c (deep + 2) 0 z z.gathers (vs ++ k ∷ l ∷ []) q _ _ (alike (on 0) k l (on-range 0 lanes) below under)
      (sum-coded z.gathers (deep + 2) 0 (k ∷ l ∷ []) within sound (length-two k l)
      (two_below (work_size z.work) k l below under)))

  -- ---- all lanes are inside

  module _ (k : ℕ) (under : k < vectors_of z.work) where
    last : c.lanes - 1 < c.lanes
    last = omega arith

    pub is-loaded : (n i : ℕ) (us : List ℕ) → IsCoded (frame_of c z.work) n z.gathers i us q (load_at c z q vs k) →
        IsLoadedAt c z q n i us vs k
    is-loaded n i us codes =
        let low = load-below c z can q part vs range k (c.lanes - 1) under last in
        record { coded = codes; inside = omega arith }

    pub is-stored : (step n i : ℕ) (us : List ℕ) → lane_step z.work ≡ step →
        IsCoded (frame_of c z.work) n z.scatters i us q (store_at c z q vs k) →
        ((d : PlainMultiplier) → z.multiplier ≡ Some d → IsCoded (frame_of c z.work) n d.places i us q
        (store_place z.work d.places (on 0) (item_of z.work k 0))) → IsStoredAt c z q step n i us vs k
    is-stored step n i us same codes multiplied =
        let low = store-below c z can q part vs range k (c.lanes - 1) under last in
        record {
          coded = codes;
          inside = omega arith;
          multiplied = λ d is.
              record {
                coded = multiplied d is;
                apart = λ lane there. (can.vectors q vs lane k (on-range lane there) there under).factors d is ∙ ap (λ s. store_place z.work d.places (on 0) (item_of z.work k 0) + s * lane) same;
                below = λ lane there. can.factors d is (on lane) (item_of z.work k lane) (on-range lane there) (item-below c z.work k lane can.work under there);
              };
        }

-- ---- copies

module _ (c : Target) (lanes : 0 < c.lanes) (program : PlainProgram) (here : IsFor c program) (q : ℕ)
    (part : q < c.procs) (source target : Array) (powers table : ℕ) where
  -- the tables of a nest
  pub record HasNestTables (z : PlainNest) : Type 0 where
    pub diagonal : (d : PlainMultiplier) → z.multiplier ≡ Some d → one_factor d.factors ≡ None →
        slice_index_or program.tables table [] ≡ diagonal_of c.modulus d.factors
    pub powers_there : (root n : ℕ) → (z.work ≡ rows root n) ⊎ (z.work ≡ horner root n) →
        slice_index_or program.tables powers [] ≡ powers_of c.modulus root n

  emits-copy : (p : PlainNest) (w : PlainWork) (can : CanRunNest c (working p w)) → CanWriteNest c (working p w) →
      HasNestTables (working p w) → (vs : List ℕ) → AreInRange can.framed.loops vs →
      Emits (steps_of_body program (work_body c (working p w) w (length (loop_counts c (working p w))) powers table
      source target) vs q) (copy_acts c (working p w) w (start_of c source) (start_of c target) q vs)
  emits-copy p (kernel k) can writes has vs range =
      let z : PlainNest = working p (kernel k) in
      let deep = length (loop_counts c z) in
      let made = trees_kernel c.modulus (trees_of k) in
      emits-body c z program here lanes q source target table vs has.diagonal (trees_size (trees_of k)) 0
      (straight_body made.code) (actions_by c.lanes made.code) (slice_index made.outs) made.next
      (emits-straight c z program here lanes q source target made.code vs)
      (λ k below. is-loaded c lanes z can writes q part vs range k below deep k vs (alone-coded c lanes z can writes q part vs range z.gathers k writes.gathers.1 writes.gathers.0.sound))
      (λ k below.
      is-stored c lanes z can writes q part vs range k below 0 deep k vs refl (alone-coded c lanes z can writes q part vs range z.scatters k writes.scatters.1 writes.scatters.0.sound)
      (λ d is. alone-coded c lanes z can writes q part vs range d.places k (writes.multiplier d is).1 (writes.multiplier d is).0.sound))
  emits-copy p (copy n) can writes has vs range =
      let z : PlainNest = working p (copy n) in
      let deep = length (loop_counts c z) in
      emits-items c z program here lanes q source target table vs has.diagonal n
      (λ k below. is-loaded c lanes z can writes q part vs range k below deep k vs (alone-coded c lanes z can writes q part vs range z.gathers k writes.gathers.1 writes.gathers.0.sound))
      (λ k below.
      is-stored c lanes z can writes q part vs range k below 0 deep k vs refl (alone-coded c lanes z can writes q part vs range z.scatters k writes.scatters.1 writes.scatters.0.sound)
      (λ d is. alone-coded c lanes z can writes q part vs range d.places k (writes.multiplier d is).1 (writes.multiplier d is).0.sound))
  emits-copy p (tile v) can writes has vs range =
      let z : PlainNest = working p (tile v) in
      let deep = length (loop_counts c z) in
      let values = values_of c z.work q 0 vs in
      let some : 0 < v = let same = can.work in omega arith in
      emits-body c z program here lanes q source target table vs has.diagonal v 1 (do_only (statements.Tile v 0))
      (actions.Tile v 0 ∷ []) (λ k. v + k) (v + v)
      (emits-plain c z program here lanes q source target (actions.Tile v 0))
      (λ k below.
      is-loaded c lanes z can writes q part vs range k below deep k vs
      (place-is c deep k z z.gathers vs q _ _ (sym (tile-first z.gathers values k v some)) (alone-coded c lanes z can writes q part vs range z.gathers k writes.gathers.1 writes.gathers.0.sound)))
      (λ k below.
      is-stored c lanes z can writes q part vs range k below 1 deep k vs refl
      (place-is c deep k z z.scatters vs q _ _ (sym (tile-first z.scatters values k v some)) (alone-coded c lanes z can writes q part vs range z.scatters k writes.scatters.1 writes.scatters.0.sound))
      (λ d is.
      place-is c deep k z d.places vs q _ _ (sym (tile-first d.places values k v some)) (alone-coded c lanes z can writes q part vs range d.places k (writes.multiplier d is).1 (writes.multiplier d is).0.sound)))
  emits-copy p (rows root n) can writes has vs range =
      let z : PlainNest = working p (rows root n) in
      let deep = length (loop_counts c z) in
      emits-rows c z program here lanes q source target table vs has.diagonal n (term_body (place_at (frame_of c z.work) (deep + 2) z.gathers 0) deep source powers n) (term_acts c z root (start_of c source) q vs)
      (λ k l row column.
      emits-term c z program here lanes q source target table vs has.diagonal n powers writes.items (depth-is c lanes z can writes q part vs range) root (has.powers_there root n (inl refl)) k l can.work.1 row column
      (is-loaded c lanes z can writes q part vs range l column (deep + 2) 0 ((vs ++ k ∷ []) ++ l ∷ []) (turn-coded c lanes z can writes q part vs range k l row column writes.gathers.1 writes.gathers.0.sound writes.alike)))
      (λ k row.
      is-stored c lanes z can writes q part vs range k row 0 (deep + 1) 0 (vs ++ k ∷ []) refl (row-coded c lanes z can writes q part vs range z.scatters k row writes.scatters.1 writes.scatters.0.sound)
      (λ d is. row-coded c lanes z can writes q part vs range d.places k row (writes.multiplier d is).1 (writes.multiplier d is).0.sound))
  emits-copy p (horner root n) can writes has vs range =
      let z : PlainNest = working p (horner root n) in
      let deep = length (loop_counts c z) in
      let values = values_of c z.work q 0 vs in
      emits-rows c z program here lanes q source target table vs has.diagonal n (horner_body (place_at (frame_of c z.work) (deep + 2) z.gathers 0) deep source powers) (horner_acts c z root n (start_of c source) q vs)
      (λ k t row column.
      let back : t ≡ n - 1 - (n - 1 - t) = omega arith in
      emits-horner c z program here lanes q source target table vs has.diagonal n powers writes.items (depth-is c lanes z can writes q part vs range) root (has.powers_there root n (inr refl)) k t row column
      (is-loaded c lanes z can writes q part vs range (n - 1 - t) (omega arith) (deep + 2) 0 ((vs ++ k ∷ []) ++ t ∷ [])
      (place-is c (deep + 2) 0 z z.gathers ((vs ++ k ∷ []) ++ t ∷ []) q _ _ (ap (λ j. sum_value z.gathers 0 (values ++ 0 ∷ j ∷ [])) back)
      (turn-coded c lanes z can writes q part vs range k t row column writes.gathers.1 writes.gathers.0.sound writes.alike))))
      (λ k row.
      is-stored c lanes z can writes q part vs range k row 0 (deep + 1) 0 (vs ++ k ∷ []) refl (row-coded c lanes z can writes q part vs range z.scatters k row writes.scatters.1 writes.scatters.0.sound)
      (λ d is. row-coded c lanes z can writes q part vs range d.places k row (writes.multiplier d is).1 (writes.multiplier d is).0.sound))

  pub emits-loops : (z : PlainNest) (can : CanRunNest c z) → CanWriteNest c z → HasNestTables z →
      Emits (steps_of_body program (nested (loop_counts c z)
      (work_body c z z.work (length (loop_counts c z)) powers table source target)) [] q)
      (nest_acts c z (start_of c source) (start_of c target) q)
  emits-loops z can writes has =
      emits-nested program q (loop_counts c z) (work_body c z z.work (length (loop_counts c z)) powers table source target) (copy_acts c z z.work (start_of c source) (start_of c target) q) []
      (λ vs range. emits-copy z z.work can writes has vs (of_code c z can.framed vs range))

-- ---- a nest, after these tables

powers-there : (m : ℕ) (o : Option PlainMultiplier) (entries : List ℕ) (ts more : List (List ℕ)) →
    slice_index_or (tables_of_multiplier m o (with_table ts entries) ++ more) (table_number ts entries) [] ≡ entries
powers-there m o entries ts more = number-stays ts entries (tables_of_multiplier m o (with_table ts entries)) more (multiplier-extends m o (with_table ts entries))

module _ (c : Target) (lanes : 0 < c.lanes) (program : PlainProgram) (here : IsFor c program) (q : ℕ)
    (part : q < c.procs) (source target : Array) (tables more : List (List ℕ)) where
  abbrev PowersStand : Option PlainMultiplier → ℕ → ℕ → PlainWork → Type 0
  PowersStand o root n w =
      slice_index_or (tables_of_multiplier c.modulus o (tables_of_work c.modulus w tables) ++ more)
      (powers_number c.modulus w tables) [] ≡ powers_of c.modulus root n

  powers-stand : (w : PlainWork) (o : Option PlainMultiplier) (root n : ℕ) → (w ≡ rows root n) ⊎ (w ≡ horner root n) →
      PowersStand o root n w
  powers-stand w o root n (inl is) =
      subst (PowersStand o root n) (sym is) (powers-there c.modulus o (powers_of c.modulus root n) tables more)
  powers-stand w o root n (inr is) =
      subst (PowersStand o root n) (sym is) (powers-there c.modulus o (powers_of c.modulus root n) tables more)

  pub emits-nest : (z : PlainNest) → CanRunNest c z → CanWriteNest c z →
      program.tables ≡ tables_of_nest c.modulus z tables ++ more →
      Emits (steps_of_body program (nest_body c z tables source target) [] q)
      (nest_acts c z (start_of c source) (start_of c target) q)
  emits-nest z can writes has =
      let powers = powers_number c.modulus z.work tables in
      let table = multiplier_number c.modulus z.multiplier (tables_of_work c.modulus z.work tables) in
      emits-loops c lanes program here q part source target powers table z can writes
      (record {
        diagonal = λ d is none. ap (λ (ts : List (List ℕ)). slice_index_or ts table []) has ∙ multiplier-there c.modulus z.multiplier d (tables_of_work c.modulus z.work tables) more is none;
        powers_there = λ root n is.
            ap (λ (ts : List (List ℕ)). slice_index_or ts powers []) has ∙ powers-stand z.work z.multiplier root n is;
      })

-- ---- the statements of passes are their actions

pub pass-extends : (m : ℕ) (zs : List PlainNest) (ts : List (List ℕ)) → Extends (tables_after m zs ts) ts
pass-extends m [] ts = extends-same ts
pass-extends m (z ∷ zs) ts = extends-more (pass-extends m zs (tables_of_nest m z ts)) (nest-extends m z ts)

-- nests that can be run and written
abbrev CanDo : Target → List PlainNest → Type 0
CanDo c zs = (z : PlainNest) → Contains zs z → CanRunNest c z × CanWriteNest c z × (nest_registers c.modulus z z.work < 2 ^ 20)

module _ (c : Target) (lanes : 0 < c.lanes) (modulus : 2 ≤ c.modulus) (source target : Array) where
  module _ (program : PlainProgram) (here : IsFor c program) (q : ℕ) (part : q < c.procs) where
    emits-nests : (zs : List PlainNest) → CanDo c zs → (tables more : List (List ℕ)) →
        program.tables ≡ tables_after c.modulus zs tables ++ more →
        Emits (steps_of_body program (pass_body c zs tables source target) [] q)
        (pass_acts c zs (start_of c source) (start_of c target) q)
    emits-nests [] can tables more has = emits-none
    emits-nests (z ∷ zs) can tables more has =
        let first = can z (Contains-head z zs) in
        let so_far = tables_of_nest c.modulus z tables in
        let later = pass-extends c.modulus zs so_far in
        emits-followed program q (nest_body c z tables source target) (pass_body c zs so_far source target) [] (nest_acts c z (start_of c source) (start_of c target) q) (pass_acts c zs (start_of c source) (start_of c target) q)
        (emits-nest c lanes program here q part source target tables (later.last ++ more) z first.0 first.1 (has ∙ ap (λ (ts : List (List ℕ)). ts ++ more) later.is ∙ append_assoc so_far later.last more))
        (emits-nests zs (λ p one. can p (Contains-tail z zs p one)) so_far more has)

  nests-within : (zs : List PlainNest) → CanDo c zs → (tables : List (List ℕ)) →
      length (tables_after c.modulus zs tables) < 2 ^ 32 → is_body_within c.modulus
      (pass_body c zs tables source target) 0 ≡ true
  nests-within [] can tables some = refl
  nests-within (z ∷ zs) can tables some =
      let first = can z (Contains-head z zs) in
      let so_far = tables_of_nest c.modulus z tables in
      let longer = extends-longer (pass-extends c.modulus zs so_far) in
      within-followed c.modulus (nest_body c z tables source target) (pass_body c zs so_far source target) 0
      (nest-within c z tables source target modulus first.0 first.1 first.2 (omega arith))
      (nests-within zs (λ p one. can p (Contains-tail z zs p one)) so_far some)

pub passes_are_emitted : PassesAreEmitted
passes_are_emitted c zs tables source target can some =
    let lanes = can.runs.lanes in
    let modulus = can.runs.modulus in
    let each : CanDo c zs =
    λ z one. (nest-can c zs can.runs z one, All-contains (CanWriteNest c) zs z can.nests one, let few = can.few in let least = registers-le c zs z one in omega arith) in
    let emits : (program : PlainProgram) (q : ℕ) → q < c.procs → HasTables c (tables_after c.modulus zs tables) program → Emits (steps_of_body program (pass_body c zs tables source target) [] q) (pass_acts c zs (start_of c source) (start_of c target) q) =
    λ program q part has. emits-nests c lanes modulus source target program (record { size = has.size; line = has.line; lanes = has.lanes; some = can.line }) q part zs each tables has.more has.tables_are in
    record {
      acts = λ program q part has. (emits program q part has).acts;
      inside = λ program q part has. (emits program q part has).inside;
      within = nests-within c lanes modulus source target zs each tables some;
    }
