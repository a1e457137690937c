-- Loads by tiles: after them each lane holds the row of its round, and what follows leaves what v rounds write.
use Rattle.std.proofs.Common.{◌≡◌, ℕ, zero, suc, ◌+◌, ◌-◌, ◌*◌, ◌/◌, ◌%◌, ◌<◌, ◌≤◌, true, List, [], ◌∷◌, ◌++◌, map}
use Rattle.std.proofs.Common.{length, flat_map, refl, sym, ap, ◌∙◌, arith, inl, ⊎_elim, mul_comm, All, drop, subst}
use Rattle.std.proofs.Common.{Bool, not}
use Rattle.std.specs.Prelude.{slice_index}
use Rattle.std.specs.List.{range_with_len, list_all}
use Rattle.std.proofs.Math.Nat.{eq-or-lt_of_le}
use Rattle.std.proofs.lemmas.Bool.{cases_lt}
use Rattle.icode.specs.declared.action.Action.{Action}
use Rattle.icode.specs.declared.action.Action.TheVariants.{Load, Tile}
use Rattle.icode.specs.Actions.{array_start, StepFits, step_of}
use Rattle.icode.specs.Expression.{sum_numbers}
use Rattle.icode.specs.Machine.{Local, effect, effects, whole_lines}
use Rattle.icode.specs.Plain.{PlainOp, PlainProgram, Sum, Load}
use Rattle.icode.specs.Sequences.Lanes.{Registers, lane_of, with_register}
use Rattle.icode.proofs.SequenceLemmas.ByLane.{this_register, other_register, length-registers_after}
use Rattle.icode.proofs.SequenceLemmas.Stores.{length-registers, load_by_lane}
use Rattle.icode.proofs.SequenceLemmas.Tiles.{tile_by_lane, tile_elsewhere}
use Rattle.nests.specs.Places.{are_linear}
use Rattle.loop_lanes.specs.Loads.{Loaded, load_at, load_tile, load_tiles, are_loaded_rows, in_loaded_rows, behind}
use Rattle.loop_lanes.specs.Loads.{are_loaded, in_tiles, in_loaded}
use Rattle.loop_lanes.proofs.Orders.{row_word, row, row_values, acts_in, acts-append, values_follow, row_stays}
use Rattle.loop_lanes.proofs.Orders.{group_fits, some_lanes}
use Rattle.loop_lanes.proofs.Tiled.{wide_acts, wide_follow, word-at, AreLinearBy}
use Rattle.loop_lanes.proofs.Wide.{moved}
use Rattle.std.proofs.lemmas.List.FromFn.{get_or-map-range_with_len, length-map-range_with_len}
use Rattle.loop_lanes.specs.Layers.{values_put, IsGroup, LeaveWrites, memory_by, steps_at, written}
use Rattle.loop_lanes.proofs.FrontHeld.{AreHeld, values_in, HoldsBy, in_lanes, front_from}
use Rattle.std.proofs.Math.Path.{fun_ext}
use Rattle.std.proofs.lemmas.List.{drop-map, append_assoc}
use Rattle.std.proofs.lemmas.List.Elements.{All-drop}
use Rattle.nests.specs.Rounds.{Stored}
use Rattle.loop_lanes.specs.Rows.{others, in_row, is_store}
use Rattle.loop_lanes.proofs.ColumnsAre.{short-others, AreColumns, IsBefore, AreStored, columns_told, columns_from}
use Rattle.loop_lanes.proofs.ColumnsAre.{tiles_of, numbers_low, numbers_apart, plain_before, plain_stored}
use Rattle.loop_lanes.proofs.ColumnsAre.{factored_before, factored_stored, factored_linear}
use Rattle.loop_lanes.proofs.LoadsTold.{AreLoadedRows, of_loaded_rows, lanes_few, rest_fresh, IsLoaded, of_loaded}
use Rattle.loop_lanes.proofs.LoadsTold.{front_many}
use Rattle.loop_lanes.proofs.RowsAre.{lane_writes, no_writes, rows_from, rows_in_lanes, rows_after, held_same}
use Rattle.std.proofs.lemmas.List.Sums.{AllPass-from_list_all, list_all-from_AllPass}
use Rattle.loop_lanes.specs.Columns.{Columns, renumbered, plain_columns, factored_columns, are_by}

module _ (v : ℕ) (p : PlainProgram) (from : Loaded) (vs : List ℕ) (b q : ℕ)
    (linear : are_linear 0 from.parts ≡ true) where
  -- where word c of round l stands
  abbrev pub word_of : ℕ → ℕ → ℕ
  word_of l c = row_word p (vs ++ (v * b + l) ∷ []) q from c

  abbrev acts : List PlainOp → List Action
  acts = wide_acts v p from vs b q

  -- the first of the words that are loaded of round l, from the word k on
  abbrev first_of : ℕ → ℕ → ℕ
  first_of k l =
      array_start (whole_lines p.size p.line) from.array
      + (sum_numbers (moved v (length vs) k from.parts l) (vs ++ b ∷ []) q).value

  -- ---- loads

  -- of the rounds from j on, n of them, into the registers from x + j on
  record AreLoaded (x k j n : ℕ) (s after : Local) : Type 0 where
    memory : after.memory ≡ s.memory
    kept : (r i : ℕ) → r < x + j → i < v → lane_of v after.registers i r ≡ lane_of v s.registers i r
    put : (l i : ℕ) → j ≤ l → l < j + n → i < v →
        lane_of v after.registers i (x + l) ≡ slice_index s.memory (word_of l (k + i))

  abbrev loads : ℕ → ℕ → ℕ → ℕ → List PlainOp
  loads x k j n = map (load_at v (length vs) x from k) (range_with_len j n)

  loads-held : (x k n j : ℕ) (s : Local) → x + (j + n) ≤ 3 * p.regs → 3 * p.regs * v ≤ length s.registers →
      AreLoaded x k j n s (effects p.modulus v (acts (loads x k j n)) s)
  loads-held x k zero j s low room =
      record {
        memory = refl;
        kept = λ r i below there. refl;
        put = λ l i least most there. absurd (omega (arith, least, most));
      }
  loads-held x k (suc n) j s low room =
      let load : Action = Load (x + j) (first_of k j) in
      let next : Local = effect p.modulus v load s in
      let one : (i : ℕ) → i < v → lane_of v next.registers i
      ≡ with_register (lane_of v s.registers i) (x + j) (slice_index s.memory (first_of k j + i)) =
      λ i there. load_by_lane p.modulus v (3 * p.regs) (x + j) (first_of k j) s i (omega (arith, low)) room there in
      let rest =
      loads-held x k n (j + 1) next (omega (arith, low))
      (omega (arith, room, length-registers_after p.modulus v load s)) in
      record {
        memory = rest.memory;
        kept = λ r i below there.
            rest.kept r i (omega (arith, below)) there
            ∙ ap (λ (g : Registers). g r) (one i there)
            ∙ other_register (lane_of v s.registers i) r (x + j) (slice_index s.memory (first_of k j + i))
            (λ e. omega (arith, e, below));
        put = λ l i least most there.
            ⊎_elim
            (λ (here : j ≡ l).
            rest.kept (x + l) i (omega (arith, here)) there
            ∙ ap (λ d. lane_of v next.registers i (x + d)) (sym here)
            ∙ ap (λ (g : Registers). g (x + j)) (one i there)
            ∙ this_register (lane_of v s.registers i) (x + j) (slice_index s.memory (first_of k j + i))
            ∙ ap (slice_index s.memory) (word-at v p from vs b q linear k j i)
            ∙ ap (λ d. slice_index s.memory (word_of d (k + i))) here)
            (λ (later : j < l). rest.put l i (omega (arith, later)) (omega (arith, most)) there)
            (eq-or-lt_of_le least);
      }

  -- ---- a tile

  -- lanes hold the words from the column c on, n of them, in the registers of these numbers. Those below stay
  record AreTurned (c n : ℕ) (s after : Local) : Type 0 where
    memory : after.memory ≡ s.memory
    kept : (r l : ℕ) → r < c → l < v → lane_of v after.registers l r ≡ lane_of v s.registers l r
    put : (l i : ℕ) → c ≤ i → i < c + n → l < v → lane_of v after.registers l i ≡ slice_index s.memory (word_of l i)

  tile-held : (x k : ℕ) (s : Local) → k + v ≤ x → x + v ≤ 3 * p.regs → 3 * p.regs * v ≤ length s.registers →
      AreTurned k v s (effects p.modulus v (acts (load_tile v (length vs) x from k)) s)
  tile-held x k s before low room =
      let front : List PlainOp = loads x k 0 v in
      let mid : Local = effects p.modulus v (acts front) s in
      let held = loads-held x k v 0 s (omega (arith, low)) room in
      let split : effects p.modulus v (acts (load_tile v (length vs) x from k)) s ≡ effect p.modulus v (Tile k x) mid =
      wide_follow v p from vs b q front (PlainOp.Tile k x ∷ []) s in
      let long = length-registers p.modulus v (acts front) s in
      record {
        memory = ap (λ (z : Local). z.memory) split ∙ held.memory;
        kept = λ r l below there.
            ap (λ (z : Local). lane_of v z.registers l r) split
            ∙ tile_elsewhere p.modulus v k x mid r l (inl below) there
            ∙ held.kept r l (omega (arith, below, before)) there;
        put = λ l i least most there.
            let d : ℕ = i - k in
            let inside : d < v = omega (arith, least, most) in
            let is : k + d ≡ i = omega (arith, least) in
            ap (λ (z : Local). lane_of v z.registers l i) split
            ∙ ap (λ j. lane_of v (effect p.modulus v (Tile k x) mid).registers l j) (sym is)
            ∙ tile_by_lane p.modulus v (3 * p.regs) k x mid d l (omega (arith, before, low))
            (omega (arith, room, long)) inside there
            ∙ held.put l d (omega arith) (omega (arith, there)) inside
            ∙ ap (λ j. slice_index s.memory (word_of l j)) is;
      }

  -- ---- all tiles

  tiles-held : (x n g : ℕ) (s : Local) → (g + n) * v ≤ x → x + v ≤ 3 * p.regs → 3 * p.regs * v ≤ length s.registers →
      AreTurned (g * v) (n * v) s
      (effects p.modulus v (acts (flat_map (λ g. load_tile v (length vs) x from (g * v)) (range_with_len g n))) s)
  tiles-held x zero g s before low room =
      record {
        memory = refl;
        kept = λ r l below there. refl;
        put = λ l i least most there. absurd (omega (arith, least, most));
      }
  tiles-held x (suc n) g s before low room =
      let tile : List PlainOp = load_tile v (length vs) x from (g * v) in
      let more : List PlainOp =
      flat_map (λ g. load_tile v (length vs) x from (g * v)) (range_with_len (g + 1) n) in
      let mid : Local = effects p.modulus v (acts tile) s in
      let all : (g + suc n) * v ≡ g * v + v + n * v = omega arith in
      let next : (g + 1) * v ≡ g * v + v = omega arith in
      let out : suc n * v ≡ v + n * v = omega arith in
      let rest_all : (g + 1 + n) * v ≡ g * v + v + n * v = omega arith in
      let one = tile-held x (g * v) s (omega (arith, before, all)) low room in
      let rest =
      tiles-held x n (g + 1) mid (omega (arith, before, all, rest_all)) low
      (omega (arith, room, length-registers p.modulus v (acts tile) s)) in
      let after : Local = effects p.modulus v (acts more) mid in
      let split : effects p.modulus v (acts (tile ++ more)) s ≡ after = wide_follow v p from vs b q tile more s in
      record {
        memory = ap (λ (z : Local). z.memory) split ∙ rest.memory ∙ one.memory;
        kept = λ r l below there.
            ap (λ (z : Local). lane_of v z.registers l r) split
            ∙ rest.kept r l (omega (arith, below, next)) there
            ∙ one.kept r l below there;
        put = λ l i least most there.
            ap (λ (z : Local). lane_of v z.registers l i) split
            ∙ ⊎_elim
            (λ (lower : i < (g + 1) * v).
            rest.kept i l lower there ∙ one.put l i least (omega (arith, lower, next)) there)
            (λ (higher : (g + 1) * v ≤ i).
            rest.put l i higher (omega (arith, most, next, out)) there
            ∙ ap (λ ws. slice_index ws (word_of l i)) one.memory)
            (cases_lt i ((g + 1) * v));
      }

  -- after the loads of a row of whole tiles, by way of registers after it
  pub record AreRows (m : ℕ) (s after : Local) : Type 0 where
    pub memory : after.memory ≡ s.memory
    pub put : (l i : ℕ) → i < m → l < v → lane_of v after.registers l i ≡ slice_index s.memory (word_of l i)

  pub rows_held : (x m : ℕ) (s : Local) → 0 < v → m % v ≡ 0 → m ≤ x → x + v ≤ 3 * p.regs →
      3 * p.regs * v ≤ length s.registers →
      AreRows m s (effects p.modulus v (acts (load_tiles v x (length vs) from m)) s)
  rows_held x m s some whole before low room =
      let turn : m / v * v ≡ v * (m / v) = mul_comm (m / v) v in
      let all : m / v * v ≡ m = omega (arith, some, whole, turn) in
      let from_none : (0 + m / v) * v ≡ m / v * v = omega arith in
      let none : 0 * v ≡ 0 = omega arith in
      let held = tiles-held x (m / v) 0 s (omega (arith, before, all, from_none)) low room in
      record {
        memory = held.memory;
        put = λ l i below there. held.put l i (omega (arith, none)) (omega (arith, below, all, none)) there;
      }

-- ---- what is held after the loads of a row

module _ (v : ℕ) (p : PlainProgram) (from : Loaded) (vs : List ℕ) (b q m : ℕ) where
  abbrev round_at : ℕ → List ℕ
  round_at l = vs ++ (v * b + l) ∷ []

  -- what round l puts by the row
  abbrev pub row_in : List ℕ → ℕ → List ℕ
  row_in memory l = values_put p.modulus memory [] (acts_in p (round_at l) q (row from 0 m))

  row-is : (memory : List ℕ) (l : ℕ) →
      row_in memory l ≡ map (λ i. slice_index memory (row_word p (round_at l) q from i)) (range_with_len 0 m)
  row-is memory l = row_values p (round_at l) q from memory [] 0 m

  -- and by what comes after it
  pub values_first : (memory : List ℕ) (l : ℕ) (front rest : List PlainOp) → front ≡ row from 0 m ++ rest →
      values_in v p memory front vs b q l
      ≡ values_put p.modulus memory (row_in memory l) (acts_in p (round_at l) q rest)
  values_first memory l front rest is =
      ap (λ xs. values_put p.modulus memory [] (acts_in p (round_at l) q xs)) is
      ∙ ap (values_put p.modulus memory []) (acts-append p (round_at l) q (row from 0 m) rest)
      ∙ values_follow p.modulus memory [] (acts_in p (round_at l) q (row from 0 m)) (acts_in p (round_at l) q rest)

  -- each lane holds the row of its round
  pub row_held : (linear : are_linear 0 from.parts ≡ true) (f : ℕ → ℕ) → ((r : ℕ) → r < m → f r ≡ r) →
      (s after : Local) → AreRows v p from vs b q linear m s after → AreHeld v f after.registers (row_in s.memory) m
  row_held linear f stays s after rows =
      record {
        long = λ l below.
            ap length (row-is s.memory l)
            ∙ length-map-range_with_len (λ i. slice_index s.memory (row_word p (round_at l) q from i)) 0 m;
        held = λ r l low below.
            ap (lane_of v after.registers l) (stays r low)
            ∙ rows.put l r low below
            ∙ sym (ap (λ xs. slice_index xs r) (row-is s.memory l)
            ∙ get_or-map-range_with_len (λ i. slice_index s.memory (row_word p (round_at l) q from i)) 0 m r r 0 low
            (omega arith));
      }

-- ---- rows after the loads of a row leave what v rounds write

-- ---- what comes after a row

row_others : (from : Loaded) (k n : ℕ) (row_rest : List PlainOp) → n ≤ length (others (row from k n ++ row_rest))
row_others from k zero row_rest = omega arith
row_others from k (suc n) row_rest = let more = row_others from (k + 1) n row_rest in omega (arith, more)

-- loads write nothing
row-silent : (v : ℕ) (p : PlainProgram) (f : ℕ → ℕ) (vs : List ℕ) (b q : ℕ) (values : ℕ → List ℕ) (from : Loaded)
    (k n : ℕ) (row_rest : List PlainOp) →
    lane_writes v p f vs b q values (row from k n ++ row_rest) ≡ lane_writes v p f vs b q values row_rest
row-silent v p f vs b q values from k zero row_rest = refl
row-silent v p f vs b q values from k (suc n) row_rest =
    ap (λ ws. ws ++ lane_writes v p f vs b q values (row from (k + 1) n ++ row_rest))
    (no_writes v p f vs b q values (Load k from.array (Sum k from.parts)) refl)
    ∙ row-silent v p f vs b q values from (k + 1) n row_rest

-- ---- the law

module _ (v : ℕ) (p : PlainProgram) (to : Stored) (ops : List PlainOp) (vs : List ℕ) (b q : ℕ)
    (group : IsGroup v p to ops vs b q) (from : Loaded) (m : ℕ)
    (known : AreLoadedRows v (length vs) to ops from m) where
  abbrev keep : ℕ → ℕ
  keep r = r

  abbrev row_rest : List PlainOp
  row_rest = drop m ops

  abbrev row_loads : List PlainOp
  row_loads = load_tiles v (2 * p.regs) (length vs) from m

  abbrev wide : List PlainOp
  wide = map (in_row v (length vs)) row_rest

  row_some : 0 < v
  row_some = some_lanes v group.lanes

  -- the registers of the row are the program's
  pub row_few : m ≤ p.regs
  row_few =
      let room = short-others v p to ops vs b q group in
      let all : m ≤ length (others ops) =
      subst (λ xs. m ≤ length (others xs)) (sym known.first.row) (row_others from 0 m row_rest) in
      omega (arith, room, all)

  fits : (l : ℕ) → l < v → All (StepFits p) (steps_at p row_rest (vs ++ (v * b + l) ∷ []) q)
  fits l below =
      let ws : List ℕ = vs ++ (v * b + l) ∷ [] in
      subst (All (StepFits p)) (drop-map (λ op. step_of p op ws q) m ops)
      (All-drop (StepFits p) m (steps_at p ops ws q) (group_fits v p ops vs b q l below group.fits))

  -- what round l puts by the row and then by the others
  abbrev values_behind : List ℕ → ℕ → List ℕ
  values_behind memory l =
      values_put p.modulus memory (row_in v p from vs b q m memory l) (acts_in p (vs ++ (v * b + l) ∷ []) q row_rest)

  -- the memory after loads and rows
  left : (memory r : List ℕ) → 3 * p.regs * v ≤ length r →
      memory_by p.modulus v (wide_acts v p to vs b q (row_loads ++ wide)) r memory
      ≡ written memory (lane_writes v p keep vs b q (values_in v p memory ops vs b q) ops)
  left memory r room =
      let begun : Local = record { memory = memory; registers = r } in
      let first : Local = effects p.modulus v (wide_acts v p to vs b q row_loads) begun in
      let finals : ℕ → List ℕ = values_in v p memory ops vs b q in
      let rows =
      rows_held v p from vs b q known.first.linear (2 * p.regs) m begun row_some known.first.whole
      (omega (arith, row_few))
      (omega (arith, row_few, lanes_few v (length vs) to ops from m known.first row_some)) room in
      let is =
      rows_from v p keep vs b q to group.linear known.unit group.alone row_some
      (λ r below. omega (arith, below)) (λ r k below under e. e) memory first (row_in v p from vs b q m memory) m
      row_rest
      (rest_fresh v (length vs) to ops from m known.first group.fresh) known.by_lane fits
      (record {
        room = omega (arith, room, length-registers p.modulus v (wide_acts v p to vs b q row_loads) begun);
        alike = λ k outside. ap (λ ws. slice_index ws k) rows.memory;
        held = row_held v p from vs b q m known.first.linear keep (λ r low. refl) begun first rows;
      }) in
      ap (λ (z : Local). z.memory) (wide_follow v p to vs b q row_loads wide begun)
      ∙ ap (λ new. (effects p.modulus v (wide_acts v p to vs b q new) first).memory)
      (rows_in_lanes v (length vs) row_rest)
      ∙ is
      ∙ ap (λ words. written words (lane_writes v p keep vs b q (values_behind memory) row_rest)) rows.memory
      ∙ ap (λ values. written memory (lane_writes v p keep vs b q values row_rest))
      (fun_ext (λ l. sym (values_first v p from vs b q m memory l ops row_rest known.first.row)))
      ∙ sym (ap (written memory)
      (ap (lane_writes v p keep vs b q finals) known.first.row ∙ row-silent v p keep vs b q finals from 0 m row_rest))

pub loaded_rows_write : (v : ℕ) (p : PlainProgram) (to : Stored) (ops : List PlainOp) (vs : List ℕ) (b q : ℕ) →
    IsGroup v p to ops vs b q → are_loaded_rows v (length vs) to ops ≡ true →
    LeaveWrites v p (in_loaded_rows v p.regs (length vs) ops) ops vs b q
loaded_rows_write v p to ops vs b q group h =
    of_loaded_rows (λ new. LeaveWrites v p new ops vs b q) v p.regs (length vs) to ops h
    (λ from m known r memory room.
    rows_after v p ops vs b q memory _ (left v p to ops vs b q group from m known memory r room))

-- ---- columns after the loads of a row leave what v rounds write

module _ (v : ℕ) (p : PlainProgram) (to : Stored) (ops : List PlainOp) (vs : List ℕ) (b q : ℕ)
    (group : IsGroup v p to ops vs b q) (c : Columns) (from : Loaded) (m : ℕ)
    (known : IsLoaded v (length vs) to ops c from m) (before : IsBefore p c) where
  abbrev front_at : ℕ → List ℕ
  front_at l = vs ++ (v * b + l) ∷ []

  abbrev f : ℕ → ℕ
  f = renumbered p.regs c.turned

  abbrev rest : List PlainOp
  rest = drop m c.front

  abbrev front_loads : List PlainOp
  front_loads = load_tiles v (2 * p.regs) (length vs) from m

  abbrev front_rest : List PlainOp
  front_rest = in_lanes v (length vs) f rest

  some : 0 < v
  some = some_lanes v group.lanes

  many : length c.front ≡ m + length rest
  many = front_many v (length vs) to c.front from m known.first

  told : AreColumns v (length vs) to ops (behind m c)
  told = columns_told v (length vs) to ops (behind m c) known.columns

  few : length c.turned ≤ length c.front
  few = let few = told.few in omega (arith, few, many)

  puts : list_all (λ op. not (is_store op)) rest ≡ true
  puts =
      let test : PlainOp → Bool = λ op. not (is_store op) in
      list_all-from_AllPass test rest
      (All-drop (λ op. test op ≡ true) m c.front (AllPass-from_list_all test c.front before.puts))

  holds : (s : Local) → 3 * p.regs * v ≤ length s.registers → HoldsBy v p f (front_loads ++ front_rest) c.front vs b q s
  holds s room =
      let short = before.short in
      let first : Local = effects p.modulus v (wide_acts v p to vs b q front_loads) s in
      let last : Local = effects p.modulus v (wide_acts v p to vs b q front_rest) first in
      let rows =
      rows_held v p from vs b q known.first.linear (2 * p.regs) m s some known.first.whole (omega (arith, many, short))
      (omega (arith, many, short, lanes_few v (length vs) to c.front from m known.first some)) room in
      let all =
      front_from v p f vs b q to (length c.front) group.alone
      (numbers_low v p to ops vs b q c few before)
      (numbers_apart v p to ops vs b q c before) s.memory first (row_in v p from vs b q m s.memory) m rest
      (rest_fresh v (length vs) to c.front from m known.first before.fresh) told.front_by_lane puts
      (omega (arith, many)) (omega (arith, room, length-registers p.modulus v (wide_acts v p to vs b q front_loads) s))
      rows.memory
      (row_held v p from vs b q m known.first.linear f (λ r low. row_stays p.regs m c.turned r known.high low)
      s first rows) in
      let split : effects p.modulus v (wide_acts v p to vs b q (front_loads ++ front_rest)) s ≡ last =
      wide_follow v p to vs b q front_loads front_rest s in
      let held : AreHeld v f last.registers (values_in v p s.memory c.front vs b q) (m + length rest) =
      held_same v f last.registers
      (λ l. values_put p.modulus s.memory (row_in v p from vs b q m s.memory l) (acts_in p (front_at l) q rest))
      (values_in v p s.memory c.front vs b q) (m + length rest)
      (λ l. values_first v p from vs b q m s.memory l c.front rest known.first.row) all.1 in
      record {
        memory = ap (λ (z : Local). z.memory) split ∙ all.0;
        registers =
            subst (λ (z : Local). AreHeld v f z.registers (values_in v p s.memory c.front vs b q) (length c.front))
            (sym split)
            (subst (AreHeld v f last.registers (values_in v p s.memory c.front vs b q)) (sym many) held);
      }

  pub tiles_write : AreLinearBy v p to vs b q c.by → AreStored v p to ops vs b q c →
      LeaveWrites v p (in_tiles v p.regs (length vs) to c from m) ops vs b q
  tiles_write linear_by stored =
      subst (λ new. LeaveWrites v p new ops vs b q)
      (append_assoc front_loads front_rest (tiles_of v p to ops vs b q group c))
      (columns_from v p to ops vs b q c (front_loads ++ front_rest) group told.turned few before holds linear_by stored)

-- ---- the laws

module _ (v : ℕ) (p : PlainProgram) (to : Stored) (ops : List PlainOp) (vs : List ℕ) (b q : ℕ)
    (group : IsGroup v p to ops vs b q) where
  pub loaded_write : are_loaded v (length vs) to ops (plain_columns ops) ≡ true →
      LeaveWrites v p (in_loaded v p.regs (length vs) to (plain_columns ops)) ops vs b q
  loaded_write h =
      of_loaded (λ new. LeaveWrites v p new ops vs b q) v p.regs (length vs) to ops (plain_columns ops) h
      (λ from m known.
      tiles_write v p to ops vs b q group (plain_columns ops) from m known (plain_before v p to ops vs b q group) tt
      (plain_stored v p to ops vs b q group))

  pub loaded_factored_write : are_by v (length vs) ops (factored_columns ops).by ≡ true →
      are_loaded v (length vs) to ops (factored_columns ops) ≡ true →
      LeaveWrites v p (in_loaded v p.regs (length vs) to (factored_columns ops)) ops vs b q
  loaded_factored_write by h =
      let c : Columns = factored_columns ops in
      of_loaded (λ new. LeaveWrites v p new ops vs b q) v p.regs (length vs) to ops c h
      (λ from m known.
      tiles_write v p to ops vs b q group c from m known (factored_before v p to ops vs b q group by)
      (factored_linear v p to ops vs b q group by)
      (factored_stored v p to ops vs b q group by
      (columns_told v (length vs) to ops (behind m c) known.columns).turned.many))
