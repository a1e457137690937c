-- Columns on v lanes, turned by tiles, leave what v rounds write.
use Rattle.std.proofs.Common.{◌≡◌, ◌≢◌, ◌⊎◌, ℕ, zero, suc, ◌+◌, ◌<◌, ◌≤◌, true, not, List, [], ◌∷◌, length, refl, sym}
use Rattle.std.proofs.Common.{◌∙◌, arith, inl, inr, eq-eqb, ◌*◌, ◌/◌, ◌%◌, ◌^◌, Bool, ◌++◌, Contains, Option, Some}
use Rattle.std.proofs.Common.{None, map, flat_map, take, ap, ap₂, subst, eqb-true, leb-true, mul_comm}
use Rattle.std.proofs.Common.{take-append-drop}
use Rattle.std.specs.Prelude.{◌==◌, slice_index, ◌&&◌, nat_le}
use Rattle.std.specs.List.{list_all, range_with_len}
use Rattle.std.proofs.lemmas.Bool.{cases_eq, not-true, true≢false}
use Rattle.icode.proofs.Bools.{both_true}
use Rattle.nests.proofs.Linear.{chosen, passed, wrong}
use Rattle.loop_lanes.specs.Columns.{renumbered, are_distinct, Columns, Factors, are_products, factored_registers}
use Rattle.loop_lanes.specs.Columns.{front_length, last_products, plain_columns, factored_columns, are_tiles}
use Rattle.loop_lanes.specs.Columns.{are_columns, are_by, are_plain_columns, are_factored_columns, in_columns}
use Rattle.std.proofs.lemmas.List.{length-take-le}
use Rattle.icode.specs.Limits.{is_small}
use Rattle.icode.specs.Machine.{Local, effects}
use Rattle.icode.specs.Plain.{PlainOp, PlainProgram}
use Rattle.icode.specs.Sequences.Lanes.{lane_of}
use Rattle.icode.proofs.SequenceLemmas.Stores.{length-registers}
use Rattle.nests.specs.Places.{are_linear, stride}
use Rattle.nests.specs.Rounds.{Stored, are_fresh, straight}
use Rattle.nests.proofs.Swaps.{loops_same}
use Rattle.loop_lanes.specs.Layers.{Write, IsAfter, IsGroup, LeaveWrites, memory_by, written, values_put, round_writes}
use Rattle.loop_lanes.specs.Layers.{group_writes}
use Rattle.loop_lanes.specs.Rows.{is_store, is_by_lane, stores, others, stored_registers, stored_constants, are_from}
use Rattle.loop_lanes.proofs.FrontHeld.{IsFront, HoldsBy, in_lanes, values_in, front_held}
use Rattle.loop_lanes.proofs.Orders.{some_lanes, group_fits, all_taken, from_at, others_put, others_fresh, taken_fresh}
use Rattle.loop_lanes.proofs.Orders.{length-stored_registers, stored_low, puts_low, acts_in, acts-append}
use Rattle.loop_lanes.proofs.Orders.{others_values, values_follow, products_low, products_put, writes_in_order}
use Rattle.loop_lanes.proofs.Tiled.{Leave, AreLinearBy, stored_in, write_in, wide_acts, wide_follow, tile_ops}
use Rattle.loop_lanes.proofs.Tiled.{in_tiles}
use Rattle.loop_lanes.proofs.Turned.{by_rounds, by_tiles, turned_after}

-- a number stays, or is one of as many as are turned
pub renumbered_is : (at : ℕ) (xs : List ℕ) (r : ℕ) →
    (renumbered at xs r ≡ r) ⊎ ((at ≤ renumbered at xs r) × (renumbered at xs r < at + length xs))
renumbered_is at [] r = inl refl
renumbered_is at (x ∷ xs) r =
    elim (cases_eq r x) [
      | inl same ↦ let e = chosen r x at (renumbered (at + 1) xs r) same in inr (omega (arith, e), omega (arith, e))
      | inr other ↦ behind (passed r x at (renumbered (at + 1) xs r) other) (renumbered_is (at + 1) xs r)
    ]
  where
    behind : renumbered at (x ∷ xs) r ≡ renumbered (at + 1) xs r →
        (renumbered (at + 1) xs r ≡ r) ⊎
        ((at + 1 ≤ renumbered (at + 1) xs r) × (renumbered (at + 1) xs r < at + 1 + length xs)) →
        (renumbered at (x ∷ xs) r ≡ r) ⊎
        ((at ≤ renumbered at (x ∷ xs) r) × (renumbered at (x ∷ xs) r < at + length (x ∷ xs)))
    behind e (inl stays) = inl (e ∙ stays)
    behind e (inr two) = inr (omega (arith, e, two.0), omega (arith, e, two.1))

-- no two numbers from below become one
pub renumbered_apart : (at : ℕ) (xs : List ℕ) (r k : ℕ) → r < at → k < at → renumbered at xs r ≡ renumbered at xs k →
    r ≡ k
renumbered_apart at [] r k low lower e = e
renumbered_apart at (x ∷ xs) r k low lower e =
    elim (cases_eq r x) [
      | inl one ↦
          elim (cases_eq k x) [
            | inl two ↦ one ∙ sym two
            | inr other ↦ absurd (differ k lower (sym (first r one) ∙ e ∙ later k other))
          ]
      | inr other ↦
          elim (cases_eq k x) [
            | inl two ↦ absurd (differ r low (sym (first k two) ∙ sym e ∙ later r other))
            | inr more ↦
                renumbered_apart (at + 1) xs r k (omega (arith, low)) (omega (arith, lower))
                (sym (later r other) ∙ e ∙ later k more)
          ]
    ]
  where
    first : (i : ℕ) → i ≡ x → renumbered at (x ∷ xs) i ≡ at
    first i e = chosen i x at (renumbered (at + 1) xs i) e

    later : (i : ℕ) → i ≢ x → renumbered at (x ∷ xs) i ≡ renumbered (at + 1) xs i
    later i ne = passed i x at (renumbered (at + 1) xs i) ne

    differ : (i : ℕ) → i < at → at ≡ renumbered (at + 1) xs i → ⊥
    differ i below e =
        elim (renumbered_is (at + 1) xs i) [
          | inl stays ↦ omega (arith, below, e, stays)
          | inr two ↦ omega (arith, e, two.0)
        ]

differs : (x : ℕ) (xs : List ℕ) (c : ℕ) → list_all (λ y. not (x == y)) xs ≡ true → c < length xs →
    slice_index xs c ≢ x
differs x [] c h below = absurd (omega arith)
differs x (y ∷ xs) zero h below = λ e.
    true≢false (sym (eq-eqb x y (sym e)) ∙ not-true (x == y) (both_true (not (x == y)) _ h).0)
differs x (y ∷ xs) (suc c) h below = differs x xs c (both_true (not (x == y)) _ h).1 (omega arith)

-- the number of a register that is turned
pub renumbered_at : (at : ℕ) (xs : List ℕ) (c : ℕ) → are_distinct xs ≡ true → c < length xs →
    renumbered at xs (slice_index xs c) ≡ at + c
renumbered_at at [] c h below = absurd (omega arith)
renumbered_at at (x ∷ xs) zero h below = chosen x x at (renumbered (at + 1) xs x) refl ∙ omega arith
renumbered_at at (x ∷ xs) (suc c) h below =
    let two = both_true (list_all (λ y. not (x == y)) xs) (are_distinct xs) h in
    let more = renumbered_at (at + 1) xs c two.1 (omega arith) in
    passed (slice_index xs c) x at (renumbered (at + 1) xs (slice_index xs c)) (differs x xs c two.0 (omega arith))
    ∙ omega (arith, more)

-- ---- columns on v lanes, turned by tiles, leave what v rounds write

-- ---- what the tests tell

-- columns of these registers, whatever stands before the tiles
pub record AreTurned (v loop : ℕ) (to : Stored) (ops : List PlainOp) (turned : List ℕ) : Type 0 where
  pub many : length (stores ops) ≡ length turned
  pub whole : length turned % v ≡ 0
  pub from : are_from 0 (stored_constants ops) ≡ true
  pub apart : length turned ≤ stride loop to.parts
  pub small : is_small (2 ^ 20 + v * stride loop to.parts) ≡ true
  pub stores_by_lane : list_all (is_by_lane loop to) (stores ops) ≡ true
  pub distinct : are_distinct turned ≡ true

pub record AreColumns (v loop : ℕ) (to : Stored) (ops : List PlainOp) (c : Columns) : Type 0 where
  pub turned : AreTurned v loop to ops c.turned
  pub few : length c.turned ≤ length c.front
  pub front_by_lane : list_all (is_by_lane loop to) c.front ≡ true

pub columns_told : (v loop : ℕ) (to : Stored) (ops : List PlainOp) (c : Columns) → are_columns v loop to ops c ≡ true →
    AreColumns v loop to ops c
columns_told v loop to ops c h =
    let m : ℕ = length c.turned in
    let s : ℕ = stride loop to.parts in
    let tiles = both_true (are_tiles v loop to ops c) _ h in
    let counts = both_true ((length (stores ops) == m) && ((m % v == 0) && nat_le m (length c.front))) _ tiles.0 in
    let many = both_true (length (stores ops) == m) _ counts.0 in
    let whole = both_true (m % v == 0) (nat_le m (length c.front)) many.1 in
    let from = both_true (are_from 0 (stored_constants ops)) _ counts.1 in
    let room = both_true (nat_le m s) (is_small (2 ^ 20 + v * s)) from.1 in
    let lanes = both_true (list_all (is_by_lane loop to) (stores ops)) _ tiles.1 in
    let front = both_true (list_all (is_by_lane loop to) c.front) (are_distinct c.turned) lanes.1 in
    record {
      turned =
          record {
            many = eqb-true (length (stores ops)) m many.0;
            whole = eqb-true (m % v) 0 whole.0;
            from = from.0;
            apart = leb-true m s room.0;
            small = room.1;
            stores_by_lane = lanes.0;
            distinct = front.1;
          };
      few = leb-true m (length c.front) whole.1;
      front_by_lane = front.0;
    }

-- what the test tells of products
pub record AreBy (v loop : ℕ) (ops : List PlainOp) (by : Factors) : Type 0 where
  pub linear : are_linear 0 by.parts ≡ true
  pub small : is_small (by.constant + (length (stores ops) + v * stride loop by.parts)) ≡ true
  pub products : are_products by (front_length ops) 0 (last_products ops) ≡ true
  pub from : are_from (front_length ops) (stored_registers ops) ≡ true

pub by_told : (v loop : ℕ) (ops : List PlainOp) (by : Factors) → are_by v loop ops (Some by) ≡ true →
    AreBy v loop ops by
by_told v loop ops by h =
    let small : Bool = is_small (by.constant + (length (stores ops) + v * stride loop by.parts)) in
    let both = both_true (are_linear 0 by.parts && small) _ h in
    let place = both_true (are_linear 0 by.parts) small both.0 in
    let two = both_true _ (are_from (front_length ops) (stored_registers ops)) both.1 in
    record { linear = place.0; small = place.1; products = two.0; from = two.1 }

-- ---- any columns

-- the operations before the tiles put registers of the program, and those that are turned are among these
pub record IsBefore (p : PlainProgram) (c : Columns) : Type 0 where
  pub fresh : are_fresh 1 0 (straight c.front) ≡ true
  pub puts : list_all (λ op. not (is_store op)) c.front ≡ true
  pub short : length c.front ≤ p.regs
  pub low : (j : ℕ) → j < length c.turned → slice_index c.turned j < length c.front

module _ (v : ℕ) (p : PlainProgram) (to : Stored) (ops : List PlainOp) (vs : List ℕ) (b q : ℕ) where
  -- in round l, of the operations before the tiles, what is turned of column j
  abbrev pub held_in : Columns → List ℕ → ℕ → ℕ → ℕ
  held_in c memory l j = slice_index (values_in v p memory c.front vs b q l) (slice_index c.turned j)

  -- the round stores what becomes of it
  abbrev pub AreStored : Columns → Type 0
  AreStored c =
      (memory : List ℕ) (l j : ℕ) → l < v → j < length c.turned → length (values_in v p memory c.front vs b q l)
      ≡ length c.front →
      slice_index (values_in v p memory ops vs b q l) (slice_index (stored_registers ops) j)
      ≡ stored_in v p to vs b q c.by l j (held_in c memory l j)

  -- what the group writes
  group-by_rounds : (c : Columns) (memory : List ℕ) → AreTurned v (length vs) to ops c.turned →
      ((l : ℕ) → l < v → length (values_in v p memory c.front vs b q l) ≡ length c.front) → AreStored c →
      group_writes v p memory ops vs b q
      ≡ by_rounds v (length c.turned) (write_in v p to vs b q c.by (held_in c memory))
  group-by_rounds c memory are long stored =
      loops_same (λ l. round_writes p memory ops (vs ++ (v * b + l) ∷ []) q) _ 0 v (λ l from to_there.
      let below : l < v = omega (arith, to_there) in
      writes_in_order p (vs ++ (v * b + l) ∷ []) q (length vs) to ops (values_in v p memory ops vs b q l)
      (λ j. stored_in v p to vs b q c.by l j (held_in c memory l j)) 0 are.stores_by_lane are.from
      (λ j low.
      let first : j ≡ 0 + j = omega arith in
      stored memory l j below (omega (arith, low, are.many)) (long l below)
      ∙ ap (λ j. stored_in v p to vs b q c.by l j (held_in c memory l j)) first)
      ∙ ap (λ n. map (write_in v p to vs b q c.by (held_in c memory) l) (range_with_len 0 n)) are.many)

  -- other numbers are those of registers of the wider program, and of none twice
  pub numbers_low : (c : Columns) → length c.turned ≤ length c.front → IsBefore p c → (r : ℕ) → r < length c.front →
      renumbered p.regs c.turned r < 3 * p.regs
  numbers_low c few before r below =
      let small : r < p.regs = omega (arith, below, before.short) in
      elim (renumbered_is p.regs c.turned r) [
        | inl stays ↦ omega (arith, stays, small)
        | inr two ↦ omega (arith, two.1, few, before.short)
      ]

  pub numbers_apart : (c : Columns) → IsBefore p c → (r k : ℕ) → r < length c.front → k < length c.front →
      renumbered p.regs c.turned r ≡ renumbered p.regs c.turned k → r ≡ k
  numbers_apart c before r k below under e =
      renumbered_apart p.regs c.turned r k (omega (arith, below, before.short)) (omega (arith, under, before.short)) e

  -- the registers of the front are registers of the wider program
  front-is : (c : Columns) → p.lanes ≡ 1 → AreColumns v (length vs) to ops c → IsBefore p c →
      IsFront p (length vs) to (renumbered p.regs c.turned) c.front
  front-is c alone are before =
      record {
        alone = alone;
        fresh = before.fresh;
        by_lane = are.front_by_lane;
        puts = before.puts;
        low = λ r below. numbers_low c are.few before r below;
        apart = λ r k below under e. numbers_apart c before r k below under e;
      }

  -- the tiles that are stored
  abbrev pub tiles_of : IsGroup v p to ops vs b q → Columns → List PlainOp
  tiles_of group c =
      flat_map (tile_ops v p to vs b q group.linear c.by (length c.turned)) (range_with_len 0 (length c.turned / v))

  -- after operations on the lanes that hold what the rounds put
  pub columns_from : (c : Columns) (front : List PlainOp) (group : IsGroup v p to ops vs b q) →
      AreTurned v (length vs) to ops c.turned → length c.turned ≤ length c.front → IsBefore p c →
      ((s : Local) → 3 * p.regs * v ≤ length s.registers →
      HoldsBy v p (renumbered p.regs c.turned) front c.front vs b q s) →
      AreLinearBy v p to vs b q c.by → AreStored c → LeaveWrites v p (front ++ tiles_of group c) ops vs b q
  columns_from c front group are few before holds linear_by stored r memory room =
      record {
        done = turned.done;
        is = leaves ∙ turned.is;
        within = λ w has. subst (λ ws. Contains ws w) (sym same) (turned.within w has);
        whole = λ w has. turned.whole w (subst (λ ws. Contains ws w) same has);
      }
    where
      m : ℕ
      m = length c.turned

      f : ℕ → ℕ
      f = renumbered p.regs c.turned

      begun : Local
      begun = record { memory = memory; registers = r }

      after : Local
      after = effects p.modulus v (wide_acts v p to vs b q front) begun

      w : ℕ → ℕ → Write
      w = write_in v p to vs b q c.by (held_in c memory)

      done : List Write
      done = by_tiles v m w

      tiles : List PlainOp
      tiles = tiles_of group c

      held : HoldsBy v p f front c.front vs b q begun
      held = holds begun room

      some : 0 < v
      some = some_lanes v group.lanes

      whole : m / v * v ≤ m
      whole = let turn : m / v * v ≡ v * (m / v) = mul_comm (m / v) v in omega (arith, some, turn)

      left : Leave p.modulus v (wide_acts v p to vs b q tiles) (λ i. i < p.regs + m) after done
      left =
          in_tiles v p to vs b q group.linear c.by m (m / v) after (held_in c memory) linear_by
          (omega (arith, few, before.short)) whole
          (omega (arith, room, length-registers p.modulus v (wide_acts v p to vs b q front) begun))
          (λ l j low below.
          ap (lane_of v after.registers l) (sym (renumbered_at p.regs c.turned j are.distinct below))
          ∙ held.registers.held (slice_index c.turned j) l (before.low j below) low)

      leaves : memory_by p.modulus v (wide_acts v p to vs b q (front ++ tiles)) r memory ≡ written memory done
      leaves =
          ap (λ (z : Local). z.memory) (wide_follow v p to vs b q front tiles begun)
          ∙ left.memory
          ∙ ap (λ words. written words done) held.memory

      turned : IsAfter memory (written memory done) (by_rounds v m w)
      turned = turned_after v m w memory some are.whole

      same : group_writes v p memory ops vs b q ≡ by_rounds v m w
      same = group-by_rounds c memory are held.registers.long stored

  columns-write : (c : Columns) → IsGroup v p to ops vs b q → AreColumns v (length vs) to ops c → IsBefore p c →
      AreLinearBy v p to vs b q c.by → AreStored c →
      LeaveWrites v p (in_columns v p.regs (length vs) to c) ops vs b q
  columns-write c group are before linear_by stored =
      let f : ℕ → ℕ = renumbered p.regs c.turned in
      columns_from c (in_lanes v (length vs) f c.front) group are.turned are.few before
      (λ s room. front_held v p to f c.front vs b q s (front-is c group.alone are before) room) linear_by stored

module _ (v : ℕ) (p : PlainProgram) (to : Stored) (ops : List PlainOp) (vs : List ℕ) (b q : ℕ)
    (group : IsGroup v p to ops vs b q) where
  -- ---- plain columns

  -- the first round fits, so the registers that are put are the program's
  pub short-others : length (others ops) ≤ p.regs
  short-others =
      omega (
        arith,
        puts_low p (vs ++ (v * b + 0) ∷ []) q ops 0 group.alone group.fresh
            (group_fits v p ops vs b q 0 (some_lanes v group.lanes) group.fits) (omega arith),
      )

  pub plain_before : IsBefore p (plain_columns ops)
  plain_before =
      record {
        fresh = others_fresh ops 0 group.fresh;
        puts = others_put ops;
        short = short-others;
        low = λ j below. omega (arith, stored_low ops 0 j group.fresh below);
      }

  pub plain_stored : AreStored v p to ops vs b q (plain_columns ops)
  plain_stored memory l j low below long =
      ap (λ xs. slice_index xs (slice_index (stored_registers ops) j))
      (others_values p (vs ++ (v * b + l) ∷ []) q memory [] ops)

  pub columns_write : are_plain_columns v (length vs) to ops ≡ true →
      LeaveWrites v p (in_columns v p.regs (length vs) to (plain_columns ops)) ops vs b q
  columns_write h =
      let c : Columns = plain_columns ops in
      columns-write v p to ops vs b q c group (columns_told v (length vs) to ops c h) plain_before tt plain_stored

  -- ---- factored columns

  -- what is stored is a product, of what was put before the products
  factored-stored : (by : Option Factors) → are_by v (length vs) ops by ≡ true →
      length (stores ops) ≡ length (factored_columns ops).turned →
      (memory : List ℕ) (l j : ℕ) → j < length (factored_columns ops).turned →
      length (values_in v p memory (factored_columns ops).front vs b q l) ≡ length (factored_columns ops).front →
      slice_index (values_in v p memory ops vs b q l) (slice_index (stored_registers ops) j)
      ≡ stored_in v p to vs b q by l j (held_in v p to ops vs b q (factored_columns ops) memory l j)
  factored-stored None h many memory l j below long = wrong h
  factored-stored (Some by) h many memory l j below long =
      let us : List ℕ = vs ++ (v * b + l) ∷ [] in
      let n : ℕ = front_length ops in
      let front : List PlainOp = take n (others ops) in
      let products : List PlainOp = last_products ops in
      let xs : List ℕ = values_in v p memory front vs b q l in
      let told = by_told v (length vs) ops by h in
      let size : length xs ≡ n = long ∙ length-take-le n (others ops) (omega arith) in
      let last : slice_index (stored_registers ops) j ≡ length xs + j =
      from_at n (stored_registers ops) j told.from (omega (arith, below, many, length-stored_registers ops))
      ∙ ap (λ k. k + j) (sym size) in
      let parted : values_in v p memory ops vs b q l ≡ values_put p.modulus memory xs (acts_in p us q products) =
      others_values p us q memory [] ops
      ∙ ap (λ zs. values_put p.modulus memory [] (acts_in p us q zs)) (sym (take-append-drop n (others ops)))
      ∙ ap (values_put p.modulus memory []) (acts-append p us q front products)
      ∙ values_follow p.modulus memory [] (acts_in p us q front) (acts_in p us q products) in
      let first : 0 + j ≡ j = omega arith in
      let x : ℕ = slice_index xs (slice_index (factored_registers products) j) in
      ap₂ (λ zs k. slice_index zs k) parted last
      ∙ products_put p us q by n 0 products memory xs j group.alone told.products (omega (arith, size)) below
      ∙ ap (λ k. stored_in v p to vs b q (Some by) l k x) first

  -- registers that are multiplied were put before the products
  factored-low : (by : Option Factors) → are_by v (length vs) ops by ≡ true →
      (j : ℕ) → j < length (factored_registers (last_products ops)) →
      slice_index (factored_registers (last_products ops)) j < front_length ops
  factored-low None h j below = wrong h
  factored-low (Some by) h j below =
      products_low by (front_length ops) 0 (last_products ops) j (by_told v (length vs) ops by h).products below

  -- factors are by linear places
  factored-linear : (by : Option Factors) → are_by v (length vs) ops by ≡ true → AreLinearBy v p to vs b q by
  factored-linear None h = wrong h
  factored-linear (Some by) h = (by_told v (length vs) ops by h).linear

  module _ (by : are_by v (length vs) ops (factored_columns ops).by ≡ true) where
    pub factored_before : IsBefore p (factored_columns ops)
    factored_before =
        let n : ℕ = front_length ops in
        let size : length (take n (others ops)) ≡ n = length-take-le n (others ops) (omega arith) in
        record {
          fresh = taken_fresh (others ops) 0 n (others_fresh ops 0 group.fresh);
          puts = all_taken (λ op. not (is_store op)) (others ops) n (others_put ops);
          short = omega (arith, size, short-others);
          low = λ j below. omega (arith, size, factored-low (factored_columns ops).by by j below);
        }

    pub factored_linear : AreLinearBy v p to vs b q (factored_columns ops).by
    factored_linear = factored-linear (factored_columns ops).by by

    pub factored_stored : length (stores ops) ≡ length (factored_columns ops).turned →
        AreStored v p to ops vs b q (factored_columns ops)
    factored_stored many memory l j low below long =
        factored-stored (factored_columns ops).by by many memory l j below long

  pub factored_columns_write : are_factored_columns v (length vs) to ops ≡ true →
      LeaveWrites v p (in_columns v p.regs (length vs) to (factored_columns ops)) ops vs b q
  factored_columns_write h =
      let c : Columns = factored_columns ops in
      let two = both_true (are_by v (length vs) ops c.by) (are_columns v (length vs) to ops c) h in
      let are = columns_told v (length vs) to ops c two.1 in
      columns-write v p to ops vs b q c group are (factored_before two.0) (factored_linear two.0)
      (factored_stored two.0 are.turned.many)
