-- Tiles of registers: what stands in their lanes is turned, is multiplied where there are factors, and is stored.
use Rattle.std.proofs.Common.{◌≡◌, ◌≢◌, ℕ, zero, suc, ◌+◌, ◌*◌, ◌<◌, ◌≤◌, true, List, [], ◌∷◌, ◌++◌, map, length}
use Rattle.std.proofs.Common.{flat_map, Option, Some, None, refl, sym, ap, ap₂, ◌∙◌, arith, inl, subst}
use Rattle.std.proofs.Common.{mul-le-mul_left}
use Rattle.std.specs.Prelude.{slice_index, slice_index_or}
use Rattle.std.specs.List.{range_with_len}
use Rattle.std.proofs.lemmas.List.Concat.{flat_map_single}
use Rattle.ring_mod.specs.Residue.{product_mod}
use Rattle.icode.specs.declared.action.Action.{Action}
use Rattle.icode.specs.declared.action.Action.TheVariants.{Store, Mul, Tile}
use Rattle.icode.specs.Actions.{array_start, lane_factors}
use Rattle.icode.specs.Expression.{sum_numbers}
use Rattle.icode.specs.Machine.{Local, effect, effects, whole_lines}
use Rattle.icode.specs.Plain.{PlainOp, PlainProgram, Sum}
use Rattle.icode.specs.Sequences.Lanes.{Registers, lane_of, with_register}
use Rattle.icode.proofs.SequenceLemmas.ByLane.{effect_by_lane, this_register, other_register, length-registers_after}
use Rattle.icode.proofs.SequenceLemmas.ByLane.{lists_follow}
use Rattle.icode.proofs.SequenceLemmas.Stores.{length-registers}
use Rattle.icode.proofs.SequenceLemmas.Tiles.{tile_by_lane, tile_elsewhere}
use Rattle.nests.specs.Places.{are_linear}
use Rattle.nests.specs.Rounds.{Stored}
use Rattle.loop_lanes.specs.Columns.{Factors, row_at, tile_at}
use Rattle.loop_lanes.specs.Layers.{Write, written, on_lanes}
use Rattle.loop_lanes.proofs.Orders.{acts_in, acts-append, entry_at}
use Rattle.loop_lanes.proofs.RowsAre.{words_written}
use Rattle.loop_lanes.proofs.Wide.{moved, moved_value}
use Rattle.loop_lanes.proofs.Writes.{written-append}
use Rattle.nests.proofs.Rows.{factor_at, factors_each}

-- ---- actions that write, and leave registers as they are

pub record Leave (m v : ℕ) (acts : List Action) (IsKept : ℕ → Type 0) (s : Local) (ws : List Write) : Type 0 where
  pub memory : (effects m v acts s).memory ≡ written s.memory ws
  pub kept : (r l : ℕ) → IsKept r → l < v → lane_of v (effects m v acts s).registers l r ≡ lane_of v s.registers l r

-- none
pub leave_nothing : (m v : ℕ) (IsKept : ℕ → Type 0) (s : Local) → Leave m v [] IsKept s []
leave_nothing m v IsKept s = record { memory = refl; kept = λ r l h below. refl }

-- one list after the other
pub leave_both : (m v : ℕ) (acts more : List Action) (IsKept : ℕ → Type 0) (s : Local) (ws zs : List Write) →
    Leave m v acts IsKept s ws → Leave m v more IsKept (effects m v acts s) zs →
    Leave m v (acts ++ more) IsKept s (ws ++ zs)
leave_both m v acts more IsKept s ws zs first second =
    let split = lists_follow m v acts more s in
    record {
      memory =
          ap (λ (z : Local). z.memory) split ∙ second.memory ∙ ap (λ memory. written memory zs) first.memory
          ∙ sym (written-append s.memory ws zs);
      kept =
          λ r l h below. ap (λ (z : Local). lane_of v z.registers l r) split ∙ second.kept r l h below
          ∙ first.kept r l h below;
    }

-- fewer registers are asked for
pub leave_fewer : (m v : ℕ) (acts : List Action) (IsKept IsLeft : ℕ → Type 0) (s : Local) (ws : List Write) →
    ((r : ℕ) → IsLeft r → IsKept r) → Leave m v acts IsKept s ws → Leave m v acts IsLeft s ws
leave_fewer m v acts IsKept IsLeft s ws h one =
    record { memory = one.memory; kept = λ r l left below. one.kept r l (h r left) below }

-- a store of what stands in the lanes of a register
pub store_leaves : (m v address r : ℕ) (IsKept : ℕ → Type 0) (s : Local) (w : ℕ → Write) →
    ((i : ℕ) → i < v → (address + i ≡ (w i).word) × (lane_of v s.registers i r ≡ (w i).value)) →
    Leave m v (Store address r ∷ []) IsKept s (map w (range_with_len 0 v))
store_leaves m v address r IsKept s w h =
    record {
      memory =
          words_written v 0 (λ i. w i ∷ []) s.memory s.registers address (r * v)
          (λ i below.
          let first : 0 + i ≡ i = omega arith in
          ap (λ k. w k ∷ []) first
          ∙ ap₂ (λ a x. record { word = a; value = x } ∷ []) (sym (h i below).0) (sym (h i below).1))
          ∙ ap (written s.memory) (flat_map_single w (range_with_len 0 v));
      kept = λ q l kept below. refl;
    }

-- ---- what is to be stored

module _ (v : ℕ) (p : PlainProgram) (to : Stored) (vs : List ℕ) (b q : ℕ) where
  -- of round l, the word of column c
  abbrev pub word_in : ℕ → ℕ → ℕ
  word_in l c =
      array_start (whole_lines p.size p.line) to.array +
      (sum_numbers (Sum c to.parts) (vs ++ (v * b + l) ∷ []) q).value

  -- of round l, the entry of column c
  abbrev pub entry_in : Factors → ℕ → ℕ → ℕ
  entry_in by l c = entry_at p (vs ++ (v * b + l) ∷ []) q by c

  -- and what is stored there
  abbrev pub stored_in : Option Factors → ℕ → ℕ → ℕ → ℕ
  stored_in None l c x = x
  stored_in (Some by) l c x = product_mod p.modulus x (entry_in by l c)

  abbrev pub write_in : Option Factors → (ℕ → ℕ → ℕ) → ℕ → ℕ → Write
  write_in by x l c = record { word = word_in l c; value = stored_in by l c (x l c) }

  -- the columns from k on, as many as there are lanes, of a round, and of the rounds from this one on
  abbrev pub row_writes : Option Factors → (ℕ → ℕ → ℕ) → ℕ → ℕ → List Write
  row_writes by x k l = map (λ i. write_in by x l (k + i)) (range_with_len 0 v)

  abbrev pub tile_writes : Option Factors → (ℕ → ℕ → ℕ) → ℕ → ℕ → ℕ → List Write
  tile_writes by x k j n = flat_map (row_writes by x k) (range_with_len j n)

  abbrev pub AreLinearBy : Option Factors → Type 0
  AreLinearBy None = Unit {0}
  AreLinearBy (Some by) = are_linear 0 by.parts ≡ true

  -- the actions of operations on the lanes
  abbrev pub wide_acts : List PlainOp → List Action
  wide_acts ops = acts_in (on_lanes v p) (vs ++ b ∷ []) q ops

  -- operations after others
  pub wide_follow : (ops more : List PlainOp) (s : Local) →
      effects p.modulus v (wide_acts (ops ++ more)) s
      ≡ effects p.modulus v (wide_acts more) (effects p.modulus v (wide_acts ops) s)
  wide_follow ops more s =
      ap (λ acts. effects p.modulus v acts s) (acts-append (on_lanes v p) (vs ++ b ∷ []) q ops more)
      ∙ lists_follow p.modulus v (wide_acts ops) (wide_acts more) s

  wide-loop : (f : ℕ → List PlainOp) (g : ℕ → List Action) → ((n : ℕ) → wide_acts (f n) ≡ g n) → (ns : List ℕ) →
      wide_acts (flat_map f ns) ≡ flat_map g ns
  wide-loop f g h [] = refl
  wide-loop f g h (n ∷ ns) =
      acts-append (on_lanes v p) (vs ++ b ∷ []) q (f n) (flat_map f ns)
      ∙ ap₂ (λ acts more. acts ++ more) (h n) (wide-loop f g h ns)

  module _ (linear : are_linear 0 to.parts ≡ true) where
    -- the word of a lane of the row
    pub word-at : (k l i : ℕ) →
        array_start (whole_lines p.size p.line) to.array
        + (sum_numbers (moved v (length vs) k to.parts l) (vs ++ b ∷ []) q).value
        + i
        ≡ word_in l (k + i)
    word-at k l i =
        let is = moved_value v (length vs) k to.parts vs b l q linear refl in
        omega (arith, is)

    -- ---- a row

    row_leaves : (by : Option Factors) (r k l : ℕ) (s : Local) (x : ℕ → ℕ → ℕ) → AreLinearBy by →
        r + l < 3 * p.regs →
        3 * p.regs * v ≤ length s.registers → ((i : ℕ) → i < v → lane_of v s.registers i (r + l) ≡ x l (k + i)) →
        Leave p.modulus v (wide_acts (row_at v (length vs) to by r k l)) (λ n. n ≢ r + l) s (row_writes by x k l)
    row_leaves None r k l s x linear_by low room h =
        store_leaves p.modulus v _ (r + l) (λ n. n ≢ r + l) s (λ i. write_in None x l (k + i))
        (λ i below. (word-at k l i, h i below))
    row_leaves (Some by) r k l s x linear_by low room h =
        let first : ℕ =
        (sum_numbers (moved v (length vs) (by.constant + k) by.parts l) (vs ++ b ∷ []) q).value in
        let entries : List ℕ = slice_index_or p.tables by.table [] in
        let factors : List ℕ = lane_factors v (λ lane. slice_index entries (first + 1 * lane)) in
        let product : Action = Mul (r + l) (r + l) factors in
        let after : Local = effect p.modulus v product s in
        let at = moved_value v (length vs) (by.constant + k) by.parts vs b l q linear_by refl in
        let each : (i : ℕ) → i < v → lane_of v after.registers i
        ≡ with_register (lane_of v s.registers i) (r + l)
        (product_mod p.modulus (lane_of v s.registers i (r + l)) (slice_index factors i)) =
        λ i below. effect_by_lane p.modulus v (3 * p.regs) product s i
        (low, low, factors_each v (λ lane. slice_index entries (first + 1 * lane))) room below in
        let value : (i : ℕ) → i < v → lane_of v after.registers i (r + l)
        ≡ stored_in (Some by) l (k + i) (x l (k + i)) =
        λ i below.
        ap (λ (g : Registers). g (r + l)) (each i below)
        ∙ this_register (lane_of v s.registers i) (r + l)
        (product_mod p.modulus (lane_of v s.registers i (r + l)) (slice_index factors i))
        ∙ ap₂ (product_mod p.modulus) (h i below)
        (factor_at v (λ lane. slice_index entries (first + 1 * lane)) i below
        ∙ ap (slice_index entries) (omega (arith, at))) in
        let last =
        store_leaves p.modulus v _ (r + l) (λ n. n ≢ r + l) after (λ i. write_in (Some by) x l (k + i))
        (λ i below. (word-at k l i, value i below)) in
        record {
          memory = last.memory;
          kept = λ n i other below.
              last.kept n i other below
              ∙ ap (λ (g : Registers). g n) (each i below)
              ∙ other_register (lane_of v s.registers i) n (r + l)
              (product_mod p.modulus (lane_of v s.registers i (r + l)) (slice_index factors i)) other;
        }

    -- rows of a tile, from this one on
    rows_leave : (by : Option Factors) (n j r k : ℕ) (s : Local) (x : ℕ → ℕ → ℕ) → AreLinearBy by →
        r + (j + n) ≤ 3 * p.regs →
        3 * p.regs * v ≤ length s.registers →
        ((l i : ℕ) → j ≤ l → l < j + n → i < v → lane_of v s.registers i (r + l) ≡ x l (k + i)) →
        Leave p.modulus v (flat_map (λ l. wide_acts (row_at v (length vs) to by r k l)) (range_with_len j n))
        (λ i. i < r) s (tile_writes by x k j n)
    rows_leave by zero j r k s x linear_by low room h = leave_nothing p.modulus v (λ i. i < r) s
    rows_leave by (suc n) j r k s x linear_by low room h =
        let row : List Action = wide_acts (row_at v (length vs) to by r k j) in
        let after : Local = effects p.modulus v row s in
        let one =
        row_leaves by r k j s x linear_by (omega (arith, low)) room
        (λ i below. h j i (omega arith) (omega arith) below) in
        let rest =
        rows_leave by n (j + 1) r k after x linear_by (omega (arith, low))
        (omega (arith, room, length-registers p.modulus v row s))
        (λ l i from to below.
        one.kept (r + l) i (λ e. omega (arith, e, from)) below
        ∙ h l i (omega (arith, from)) (omega (arith, to)) below) in
        leave_both p.modulus v row _ (λ i. i < r) s (row_writes by x k j) _
        (leave_fewer p.modulus v row (λ i. i ≢ r + j) (λ i. i < r) s (row_writes by x k j)
        (λ i less e. omega (arith, less, e)) one) rest

    -- ---- tiles

    -- a tile, where the registers from y on hold the columns from k on of all rounds
    tile_leaves : (by : Option Factors) (r y k : ℕ) (s : Local) (x : ℕ → ℕ → ℕ) → AreLinearBy by →
        r + v ≤ 3 * p.regs →
        3 * p.regs * v ≤ length s.registers →
        ((l i : ℕ) → l < v → i < v → lane_of v s.registers l (y + i) ≡ x l (k + i)) →
        Leave p.modulus v
        (Tile r y ∷ flat_map (λ l. wide_acts (row_at v (length vs) to by r k l)) (range_with_len 0 v)) (λ i. i < r) s
        (tile_writes by x k 0 v)
    tile_leaves by r y k s x linear_by low room h =
        let turned : Local = effect p.modulus v (Tile r y) s in
        let rows =
        rows_leave by v 0 r k turned x linear_by (omega (arith, low))
        (omega (arith, room, length-registers_after p.modulus v (Tile r y) s))
        (λ l i from to below.
        let inside : l < v = omega (arith, to) in
        tile_by_lane p.modulus v (3 * p.regs) r y s l i low room inside below ∙ h l i inside below) in
        record {
          memory = rows.memory;
          kept = λ i l less below. rows.kept i l less below ∙ tile_elsewhere p.modulus v r y s i l (inl less) below;
        }

    -- the tile from column g * v on
    abbrev tile_acts : Option Factors → ℕ → ℕ → List Action
    tile_acts by m g =
        Tile (p.regs + m + g * v) (p.regs + g * v)
        ∷ flat_map (λ l. wide_acts (row_at v (length vs) to by (p.regs + m + g * v) (g * v) l)) (range_with_len 0 v)

    -- tiles from this one on, of m columns in all
    tiles_leave : (by : Option Factors) (m n g : ℕ) (s : Local) (x : ℕ → ℕ → ℕ) → AreLinearBy by → m ≤ p.regs →
        (g + n) * v ≤ m →
        3 * p.regs * v ≤ length s.registers →
        ((l c : ℕ) → l < v → c < m → lane_of v s.registers l (p.regs + c) ≡ x l c) →
        Leave p.modulus v (flat_map (tile_acts by m) (range_with_len g n)) (λ i. i < p.regs + m) s
        (flat_map (λ g. tile_writes by x (g * v) 0 v) (range_with_len g n))
    tiles_leave by m zero g s x linear_by few whole room h = leave_nothing p.modulus v (λ i. i < p.regs + m) s
    tiles_leave by m (suc n) g s x linear_by few whole room h =
        let r : ℕ = p.regs + m + g * v in
        let tile : List Action = tile_acts by m g in
        let after : Local = effects p.modulus v tile s in
        let inside : g * v + v ≤ m = within g n v m whole in
        let one =
        tile_leaves by r (p.regs + g * v) (g * v) s x linear_by (omega (arith, few, inside)) room
        (λ l i low below.
        ap (lane_of v s.registers l) (behind p.regs (g * v) i)
        ∙ h l (g * v + i) low (omega (arith, inside, below))) in
        let more : (g + 1 + n) * v ≤ m = ap_le (sym (next g n)) whole in
        let rest =
        tiles_leave by m n (g + 1) after x linear_by few more
        (omega (arith, room, length-registers p.modulus v tile s))
        (λ l c low below. one.kept (p.regs + c) l (omega (arith, below)) low ∙ h l c low below) in
        leave_both p.modulus v tile _ (λ i. i < p.regs + m) s (tile_writes by x (g * v) 0 v) _
        (leave_fewer p.modulus v tile (λ i. i < r) (λ i. i < p.regs + m) s (tile_writes by x (g * v) 0 v)
        (λ i less. omega (arith, less)) one) rest
      where
        within : (g n v m : ℕ) → (g + suc n) * v ≤ m → g * v + v ≤ m
        within g n v m h =
            let low : g + 1 ≤ g + suc n = omega arith in
            let less : v * (g + 1) ≤ v * (g + suc n) = mul-le-mul_left v low in
            let out : v * (g + 1) ≡ g * v + v = omega arith in
            omega (arith, h, less, out)

        behind : (a c i : ℕ) → a + c + i ≡ a + (c + i)
        behind a c i = omega arith

        next : (g n : ℕ) → g + suc n ≡ g + 1 + n
        next g n = omega arith

        ap_le : {a c : ℕ} → a ≡ c → c * v ≤ m → a * v ≤ m
        ap_le {a} {c} e le = subst (λ i. i * v ≤ m) (sym e) le

    -- the tile as operations, and all tiles
    abbrev pub tile_ops : Option Factors → ℕ → ℕ → List PlainOp
    tile_ops by m g = tile_at v (length vs) to by (p.regs + m + g * v) (p.regs + g * v) (g * v)

    tile-ops : (by : Option Factors) (m g : ℕ) → wide_acts (tile_ops by m g) ≡ tile_acts by m g
    tile-ops by m g =
        ap (λ acts. Tile (p.regs + m + g * v) (p.regs + g * v) ∷ acts)
        (wide-loop (row_at v (length vs) to by (p.regs + m + g * v) (g * v)) _ (λ l. refl) (range_with_len 0 v))

    pub in_tiles : (by : Option Factors) (m n : ℕ) (s : Local) (x : ℕ → ℕ → ℕ) → AreLinearBy by → m ≤ p.regs →
        n * v ≤ m → 3 * p.regs * v ≤ length s.registers →
        ((l c : ℕ) → l < v → c < m → lane_of v s.registers l (p.regs + c) ≡ x l c) →
        Leave p.modulus v (wide_acts (flat_map (tile_ops by m) (range_with_len 0 n))) (λ i. i < p.regs + m) s
        (flat_map (λ g. tile_writes by x (g * v) 0 v) (range_with_len 0 n))
    in_tiles by m n s x linear_by few whole room h =
        let writes : List Write = flat_map (λ g. tile_writes by x (g * v) 0 v) (range_with_len 0 n) in
        subst (λ acts. Leave p.modulus v acts (λ i. i < p.regs + m) s writes)
        (sym (wide-loop (tile_ops by m) (tile_acts by m) (tile-ops by m) (range_with_len 0 n)))
        (tiles_leave by m n 0 s x linear_by few (omega (arith, whole)) room h)
