-- A round of v lanes stands for a group of v rounds, from the laws on what they write.
use Rattle.std.proofs.Common.{◌≡◌, ℕ, ◌+◌, ◌*◌, ◌/◌, ◌<◌, true, List, [], ◌∷◌, All, Contains, map, flat_map, length}
use Rattle.std.proofs.Common.{sym, subst, arith, zero, suc, ◌-◌, ◌≤◌, not, ◌++◌, Option, Some, None, drop, refl, ap}
use Rattle.std.proofs.Common.{◌∙◌, inl, inr, length-append, mul-le-mul_left, ⊎_elim}
use Rattle.std.specs.List.{list_all, range_with_len}
use Rattle.std.proofs.lemmas.List.Concat.{flat_map_single}
use Rattle.std.proofs.lemmas.List.Elements.{All-nil, All-cons, All-append, All-map, All-contains, All-drop}
use Rattle.std.proofs.lemmas.List.Sums.{AllPass-from_list_all}
use Rattle.icode.specs.Plain.{PlainOp, Store, Tile, PlainProgram}
use Rattle.nests.specs.Rounds.{Stored}
use Rattle.nests.proofs.Rows.{of-loop}
use Rattle.nests.proofs.Members.{all_of_members}
use Rattle.loop_lanes.specs.Rows.{is_by_lane, in_row, is_store, stores, others}
use Rattle.loop_lanes.specs.Columns.{Columns, renumbered, renumbered_op, product_at, row_at, tile_at, in_columns}
use Rattle.loop_lanes.specs.Columns.{Factors}
use Rattle.loop_lanes.specs.Loads.{Loaded, load_at, load_tile, load_tiles, behind, in_tiles}
use Rattle.loop_lanes.proofs.RowsAre.{rows_in_lanes}
use Rattle.loop_lanes.proofs.Wide.{moved}
use Rattle.std.proofs.Math.Nat.{div-mul-le_self}
use Rattle.std.proofs.lemmas.List.{length-map}
use Rattle.std.proofs.lemmas.List.FromFn.{length-map-range_with_len}
use Rattle.std.proofs.lemmas.List.Filters.{length-filter_both}
use Rattle.icode.specs.Actions.{Step, step_of}
use Rattle.nests.specs.Places.{stride}
use Rattle.nests.proofs.Linear.{wrong}
use Rattle.loop_lanes.specs.Lanes.{can_lane, laned_ops}
use Rattle.loop_lanes.specs.Layers.{IsGroup, GroupsWrite, GroupsAreSure, LanesWrite, RoundsAreLanes, group_writes}
use Rattle.loop_lanes.specs.Layers.{steps_at, group_at, on_lanes}
use Rattle.loop_lanes.proofs.ColumnsAre.{short-others, renumbered_is}
use Rattle.loop_lanes.proofs.Covered.{IsOpCovered, lanes_from}
use Rattle.loop_lanes.proofs.FrontCovered.{AreLow, front_covered, IsStored, tile_covered, row_covered, product_covered}
use Rattle.loop_lanes.proofs.FrontCovered.{load_covered}
use Rattle.loop_lanes.proofs.LoadsHeld.{row_few}
use Rattle.loop_lanes.proofs.LoadsTold.{IsRow, AreLoadedRows, of_good_kinds, loads_each, front_many, IsOther}
use Rattle.loop_lanes.proofs.LoadsTold.{stored_each, AreGood, AreMultiplied}
use Rattle.loop_lanes.proofs.Made.{tile_within}
use Rattle.loop_lanes.proofs.Orders.{are_some, some_lanes}
use Rattle.loop_lanes.proofs.Writes.{order_is_free}

module _ (P : PlainOp → Type 0) where
  one : (op : PlainOp) → P op → All P (op ∷ [])
  one op h = All-cons P op [] h (All-nil P)

  -- ---- loops

  all-rounds : (f : ℕ → List PlainOp) (n : ℕ) → ((i : ℕ) → i < n → All P (f i)) →
      All P (flat_map f (range_with_len 0 n))
  all-rounds f n each =
      all_of_members P (flat_map f (range_with_len 0 n)) (λ op has.
      let at = of-loop f 0 n op has in
      let high = at.high in
      All-contains P (f at.round) op (each at.round (omega (arith, high))) at.inside)

  all-items : (f : ℕ → PlainOp) (n : ℕ) → ((i : ℕ) → i < n → P (f i)) → All P (map f (range_with_len 0 n))
  all-items f n each =
      subst (All P) (flat_map_single f (range_with_len 0 n))
      (all-rounds (λ i. f i ∷ []) n (λ i low. one (f i) (each i low)))

  -- ---- operations that are done in lanes

  -- with other registers
  pub all_lanes : (v loop : ℕ) (to : Stored) (f : ℕ → ℕ) (front : List PlainOp) →
      list_all (is_by_lane loop to) front ≡ true →
      ((op : PlainOp) → Contains front op → is_by_lane loop to op ≡ true → P (renumbered_op f (in_row v loop op))) →
      All P (map (λ op. renumbered_op f (in_row v loop op)) front)
  all_lanes v loop to f front by_lane each =
      let lanes = AllPass-from_list_all (is_by_lane loop to) front by_lane in
      All-map P (λ op. renumbered_op f (in_row v loop op)) front
      (all_of_members (λ op. P (renumbered_op f (in_row v loop op))) front (λ op has.
      each op has (All-contains (λ op. is_by_lane loop to op ≡ true) front op lanes has)))

  -- with the same registers
  pub all_rows : (v loop : ℕ) (to : Stored) (rows : List PlainOp) → list_all (is_by_lane loop to) rows ≡ true →
      ((op : PlainOp) → Contains rows op → is_by_lane loop to op ≡ true →
      P (renumbered_op (λ r. r) (in_row v loop op))) →
      All P (map (in_row v loop) rows)
  all_rows v loop to rows by_lane each =
      subst (All P) (sym (rows_in_lanes v loop rows)) (all_lanes v loop to (λ r. r) rows by_lane each)

  -- ---- tiles

  pub all_loads : (v x loop : ℕ) (from : Loaded) (m : ℕ) →
      ((g l : ℕ) → g < m / v → l < v → P (load_at v loop x from (g * v) l)) →
      ((g : ℕ) → g < m / v → P (Tile (g * v) x)) → All P (load_tiles v x loop from m)
  all_loads v x loop from m loads tiles =
      all-rounds (λ g. load_tile v loop x from (g * v)) (m / v) (λ g there.
      All-append P (map (load_at v loop x from (g * v)) (range_with_len 0 v)) (Tile (g * v) x ∷ [])
      (all-items (load_at v loop x from (g * v)) v (λ l low. loads g l there low))
      (one (Tile (g * v) x) (tiles g there)))

  pub all_columns : (v n loop : ℕ) (to : Stored) (c : Columns) →
      All P (map (λ op. renumbered_op (renumbered n c.turned) (in_row v loop op)) c.front) →
      ((g : ℕ) → g < length c.turned / v → P (Tile (n + length c.turned + g * v) (n + g * v))) →
      ((g l : ℕ) → g < length c.turned / v → l < v →
      All P (product_at v loop c.by (n + length c.turned + g * v + l) (g * v) l)) →
      ((g l : ℕ) → g < length c.turned / v → l < v →
      P (Store to.array (moved v loop (g * v) to.parts l) (n + length c.turned + g * v + l))) →
      All P (in_columns v n loop to c)
  all_columns v n loop to c front tiles products stores =
      let m : ℕ = length c.turned in
      All-append P (map (λ op. renumbered_op (renumbered n c.turned) (in_row v loop op)) c.front) _ front
      (all-rounds (λ g. tile_at v loop to c.by (n + m + g * v) (n + g * v) (g * v)) (m / v) (λ g there.
      All-cons P (Tile (n + m + g * v) (n + g * v)) _ (tiles g there)
      (all-rounds (row_at v loop to c.by (n + m + g * v) (g * v)) v (λ l low.
      All-append P (product_at v loop c.by (n + m + g * v + l) (g * v) l) _ (products g l there low)
      (one (Store to.array (moved v loop (g * v) to.parts l) (n + m + g * v + l)) (stores g l there low))))))

-- ---- a round of v lanes stands for a group of v rounds, from the laws on what they write

-- ---- how many steps there are

length-rounds : {X : Type 0} (f : ℕ → List X) (n : ℕ) → ((i : ℕ) → length (f i) ≡ n) → (count first : ℕ) →
    length (flat_map f (range_with_len first count)) ≡ count * n
length-rounds f n each zero first = omega arith
length-rounds f n each (suc count) first =
    let rest = length-rounds f n each count (first + 1) in
    let all = length-append (f first) (flat_map f (range_with_len (first + 1) count)) in
    let out : suc count * n ≡ n + count * n = omega arith in
    omega (arith, rest, all, each first, out)

abbrev width : Option Factors → ℕ
width None = 1
width (Some by) = 2

row_length : (v loop : ℕ) (to : Stored) (by : Option Factors) (r k l : ℕ) →
    length (row_at v loop to by r k l) ≡ width by
row_length v loop to None r k l = refl
row_length v loop to (Some by) r k l = refl

tile_length : (v loop : ℕ) (to : Stored) (by : Option Factors) (r x k : ℕ) →
    length (tile_at v loop to by r x k) ≡ 1 + v * width by
tile_length v loop to by r x k =
    let rows = length-rounds (row_at v loop to by r k) (width by) (row_length v loop to by r k) v 0 in
    omega (arith, rows)

columns_length : (v n loop : ℕ) (to : Stored) (c : Columns) →
    length (in_columns v n loop to c) ≡ length c.front + length c.turned / v * (1 + v * width c.by)
columns_length v n loop to c =
    let m = length c.turned in
    let tile : ℕ → List PlainOp = λ g. tile_at v loop to c.by (n + m + g * v) (n + g * v) (g * v) in
    let tiles =
    length-rounds tile (1 + v * width c.by) (λ g. tile_length v loop to c.by (n + m + g * v) (n + g * v) (g * v))
    (m / v) 0 in
    length-append (map (λ op. renumbered_op (renumbered n c.turned) (in_row v loop op)) c.front)
    (flat_map tile (range_with_len 0 (m / v)))
    ∙ ap (λ k. k + length (flat_map tile (range_with_len 0 (m / v))))
    (length-map c.front (λ op. renumbered_op (renumbered n c.turned) (in_row v loop op)))
    ∙ ap (λ k. length c.front + k) tiles

width_small : (by : Option Factors) → width by ≤ 2
width_small None = omega arith
width_small (Some by) = omega arith

columns_few : (v f m w o s : ℕ) → 2 ≤ v → w ≤ 2 → m ≤ f → f ≤ o → s ≡ m → f + m / v * (1 + v * w) ≤ v * (o + s)
columns_few v f m w o s two narrow few less many =
    let tiles : ℕ = m / v in
    let whole : tiles * v ≤ m = div-mul-le_self m v in
    let at_least : tiles * 2 ≤ tiles * v = mul-le-mul_left tiles two in
    let out : tiles * (1 + v * w) ≡ tiles + tiles * v * w = spread tiles v w in
    let rows : tiles * v * w ≤ tiles * v * 2 = mul-le-mul_left (tiles * v) narrow in
    let first : o * 2 ≤ o * v = mul-le-mul_left o two in
    let last : s * 2 ≤ s * v = mul-le-mul_left s two in
    let all : v * (o + s) ≡ o * v + s * v = omega arith in
    omega (arith, whole, at_least, out, rows, first, last, all, few, less, many)
  where
    spread : (t v w : ℕ) → t * (1 + v * w) ≡ t + t * v * w
    spread t v w = omega arith

load_tile_length : (v loop x : ℕ) (from : Loaded) (k : ℕ) → length (load_tile v loop x from k) ≡ v + 1
load_tile_length v loop x from k =
    let loads : List PlainOp = map (load_at v loop x from k) (range_with_len 0 v) in
    length-append loads (Tile k x ∷ [])
    ∙ ap (λ n. n + 1) (length-map-range_with_len (load_at v loop x from k) 0 v)

loads_length : (v loop x : ℕ) (from : Loaded) (m : ℕ) → length (load_tiles v x loop from m) ≡ m / v * (v + 1)
loads_length v loop x from m =
    length-rounds (λ g. load_tile v loop x from (g * v)) (v + 1) (λ g. load_tile_length v loop x from (g * v)) (m / v) 0

-- tiles of m loads, and as many operations more as there may be for the others
loaded_few : (v t m d s r : ℕ) → 2 ≤ v → t * v ≤ m → r ≤ v * (d + s) → t * (v + 1) + r ≤ v * (m + d + s)
loaded_few v t m d s r two whole few =
    let out : t * (v + 1) ≡ t * v + t = omega arith in
    let less : t * 1 ≤ t * v = mul-le-mul_left t (omega (arith, two)) in
    let double : m * 2 ≤ m * v = mul-le-mul_left m two in
    let all : v * (m + d + s) ≡ m * v + v * (d + s) = omega arith in
    omega (arith, whole, few, out, less, double, all)

module _ (v : ℕ) (p : PlainProgram) (to : Stored) (ops : List PlainOp) (vs : List ℕ) (b q : ℕ)
    (known : IsGroup v p to ops vs b q) where
  abbrev loop : ℕ
  loop = length vs

  abbrev group : List Step
  group = group_at v p ops vs b q

  -- operations of which each is covered by the group, and there are no more than it has steps
  abbrev IsDone : PlainOp → Type 0
  IsDone = IsOpCovered v p group (vs ++ b ∷ []) q

  abbrev Cover : List PlainOp → Type 0
  Cover = All IsDone

  abbrev AreFew : List PlainOp → Type 0
  AreFew new = length new ≤ v * length ops

  two : 2 ≤ v
  two = (are_some v known.lanes).some

  some : 0 < v
  some = some_lanes v known.lanes

  low : length (others ops) ≤ p.regs
  low = short-others v p to ops vs b q known

  -- an operation stores, or is another
  ops_many : length (stores ops) + length (others ops) ≡ length ops
  ops_many = length-filter_both is_store (λ op. not (is_store op)) (λ op. refl) ops

  -- ---- rows

  rows_covered : (rows : List PlainOp) → stride loop to.parts ≡ 1 → list_all (is_by_lane loop to) rows ≡ true →
      ((op : PlainOp) → Contains rows op → Contains ops op) → Cover (map (in_row v loop) rows)
  rows_covered rows unit by_lane among =
      all_rows IsDone v loop to rows by_lane (λ op has lane.
      front_covered v p ops vs b q some known.alone known.fits (λ r. r) (λ r lt. omega (arith, lt)) to op known.linear
      (λ _. unit) lane (among op has))

  rows_few : AreFew (map (in_row v loop) ops)
  rows_few =
      let one : length ops * 1 ≤ length ops * v = mul-le-mul_left (length ops) some in
      omega (arith, length-map ops (in_row v loop), one)

  -- ---- columns

  module _ (c : Columns) (tests : AreGood v loop to ops c) where
    abbrev m : ℕ
    m = length c.turned

    turned_low : m ≤ p.regs
    turned_low = let few = tests.columns.few in let short = tests.short in omega (arith, few, short, low)

    low_numbers : AreLow v p ops vs b q some known.alone known.fits (renumbered p.regs c.turned)
    low_numbers r lt =
        ⊎_elim (λ (same : renumbered p.regs c.turned r ≡ r). omega (arith, same, lt))
        (λ two. omega (arith, two.1, turned_low, lt)) (renumbered_is p.regs c.turned r)

    front_ops : Cover (map (λ op. renumbered_op (renumbered p.regs c.turned) (in_row v loop op)) c.front)
    front_ops =
        all_lanes IsDone v loop to (renumbered p.regs c.turned) c.front tests.columns.front_by_lane (λ op has lane.
        let other = All-contains (IsOther ops) c.front op tests.front has in
        front_covered v p ops vs b q some known.alone known.fits (renumbered p.regs c.turned) low_numbers to op
        known.linear (λ e. wrong (sym other.1 ∙ e)) lane other.0)

    stored_at : (g i : ℕ) → g < m / v → i < v → IsStored to ops (g * v + i)
    stored_at g i there lt =
        let many = tests.columns.turned.many in
        let within = tile_within g v m there in
        stored_each loop to ops tests.columns.turned.from tests.columns.turned.stores_by_lane (g * v + i)
        (omega (arith, many, within, lt))

    product_ops : (by : Option Factors) → AreMultiplied v loop ops by m → (g l r : ℕ) → g < m / v → l < v →
        r < 3 * p.regs → Cover (product_at v loop by r (g * v) l)
    product_ops None factors g l r there lt small = All-nil IsDone
    product_ops (Some by) factors g l r there lt small =
        let within = tile_within g v m there in
        All-cons IsDone _ []
        (product_covered v p ops vs b q some known.alone known.fits by factors.linear (g * v)
        (λ i less. factors.each (g * v + i) (omega (arith, within, less))) l lt r small)
        (All-nil IsDone)

    -- the registers of a tile are there
    tile_room : (g : ℕ) → g < m / v → p.regs + m + g * v + v ≤ 3 * p.regs
    tile_room g there = let within = tile_within g v m there in omega (arith, within, turned_low)

    columns_covered : Cover (in_columns v p.regs loop to c)
    columns_covered =
        all_columns IsDone v p.regs loop to c front_ops
        (λ g there.
        let within = tile_within g v m there in
        let room = tile_room g there in
        tile_covered v p ops vs b q some known.alone known.fits (p.regs + m + g * v) (p.regs + g * v)
        room (omega (arith, room)) (inr (omega (arith, within))))
        (λ g l there lt.
        let room = tile_room g there in
        product_ops c.by tests.factors g l (p.regs + m + g * v + l) there lt (omega (arith, lt, room)))
        (λ g l there lt.
        let room = tile_room g there in
        row_covered v p ops vs b q some known.alone known.fits to known.linear (g * v)
        (λ i less. stored_at g i there less) l lt (p.regs + m + g * v + l) (omega (arith, lt, room)))

    columns_are_few : AreFew (in_columns v p.regs loop to c)
    columns_are_few =
        let long = columns_length v p.regs loop to c in
        let few =
        columns_few v (length c.front) m (width c.by) (length (others ops)) (length (stores ops)) two
        (width_small c.by) tests.columns.few tests.short tests.columns.turned.many in
        let whole : v * (length (others ops) + length (stores ops)) ≡ v * length ops =
        ap (λ n. v * n) (omega (arith, ops_many)) in
        omega (arith, long, few, whole)

  -- ---- rows that are loaded

  -- the row's operations are among these
  loads_covered : (ahead : List PlainOp) (from : Loaded) (m : ℕ) → IsRow v loop to ahead from m →
      ((op : PlainOp) → Contains ahead op → Contains ops op) → m ≤ p.regs →
      Cover (load_tiles v (2 * p.regs) loop from m)
  loads_covered ahead from m first among room =
      all_loads IsDone v (2 * p.regs) loop from m
      (λ g l there lt.
      let within = tile_within g v m there in
      load_covered v p ops vs b q some known.alone known.fits from first.linear (g * v)
      (λ i less. loads_each v loop to ahead from m first ops among (g * v + i) (omega (arith, less, within)))
      l lt (2 * p.regs + l) (omega (arith, lt, within, room)))
      (λ g there.
      let within = tile_within g v m there in
      tile_covered v p ops vs b q some known.alone known.fits (g * v) (2 * p.regs)
      (omega (arith, within, room)) (omega (arith, within, room)) (inl (omega (arith, within, room))))

  -- rows after it
  module _ (from : Loaded) (m : ℕ) (loaded : AreLoadedRows v loop to ops from m) where
    abbrev behind_row : List PlainOp
    behind_row = load_tiles v (2 * p.regs) loop from m ++ map (in_row v loop) (drop m ops)

    row_covered_behind : Cover behind_row
    row_covered_behind =
        let among = All-drop (Contains ops) m ops (all_of_members (Contains ops) ops (λ op has. has)) in
        All-append IsDone (load_tiles v (2 * p.regs) loop from m) _
        (loads_covered ops from m loaded.first (λ op has. has) (row_few v p to ops vs b q known from m loaded))
        (rows_covered (drop m ops) loaded.unit loaded.by_lane
        (λ op has. All-contains (Contains ops) (drop m ops) op among has))

    row_few_behind : AreFew behind_row
    row_few_behind =
        let d : ℕ = length (drop m ops) in
        let new = length-append (load_tiles v (2 * p.regs) loop from m) (map (in_row v loop) (drop m ops)) in
        let loads = loads_length v loop (2 * p.regs) from m in
        let rest = length-map (drop m ops) (in_row v loop) in
        let one : d * 1 ≤ d * v = mul-le-mul_left d some in
        let out : v * (d + 0) ≡ d * v = omega arith in
        let all = loaded_few v (m / v) m d 0 d two (div-mul-le_self m v) (omega (arith, one, out)) in
        let whole : m + d + 0 ≡ length ops = omega (arith, front_many v loop to ops from m loaded.first) in
        let whole_times : v * (m + d + 0) ≡ v * length ops = ap (λ k. v * k) whole in
        omega (arith, new, loads, rest, all, whole_times)

  -- columns after it
  module _ (c : Columns) (from : Loaded) (m : ℕ) (first : IsRow v loop to c.front from m)
      (front : All (IsOther ops) c.front) (short : length c.front ≤ length (others ops))
      (tests : AreGood v loop to ops (behind m c)) where
    rest_many : length c.front ≡ m + length (drop m c.front)
    rest_many = front_many v loop to c.front from m first

    loaded_covered : Cover (in_tiles v p.regs loop to c from m)
    loaded_covered =
        All-append IsDone (load_tiles v (2 * p.regs) loop from m) _
        (loads_covered c.front from m first (λ op has. (All-contains (IsOther ops) c.front op front has).0)
        (omega (arith, rest_many, short, low)))
        (columns_covered (behind m c) tests)

    loaded_are_few : AreFew (in_tiles v p.regs loop to c from m)
    loaded_are_few =
        let n : ℕ = length c.turned in
        let d : ℕ = length (others ops) - m in
        let columns : List PlainOp = in_columns v p.regs loop to (behind m c) in
        let new = length-append (load_tiles v (2 * p.regs) loop from m) columns in
        let loads = loads_length v loop (2 * p.regs) from m in
        let few : length columns ≤ v * (d + length (stores ops)) =
        ap_le (columns_length v p.regs loop to (behind m c))
        (columns_few v (length (drop m c.front)) n (width c.by) d (length (stores ops)) two (width_small c.by)
        tests.columns.few (omega (arith, rest_many, short)) tests.columns.turned.many) in
        let all =
        loaded_few v (m / v) m d (length (stores ops)) (length columns) two (div-mul-le_self m v) few in
        let whole : m + d + length (stores ops) ≡ length ops = omega (arith, rest_many, short, ops_many) in
        let whole_times : v * (m + d + length (stores ops)) ≡ v * length ops = ap (λ k. v * k) whole in
        omega (arith, new, loads, all, whole_times)
      where
        ap_le : {a e k : ℕ} → a ≡ e → e ≤ k → a ≤ k
        ap_le same le = omega (arith, same, le)

  -- ---- whatever the rounds become

  are_covered : can_lane v loop (Some to) ops ≡ true →
      Cover (laned_ops v p.regs loop (Some to) ops) × AreFew (laned_ops v p.regs loop (Some to) ops)
  are_covered can =
      of_good_kinds (λ new. Cover new × AreFew new) v p.regs loop to ops can
      (λ unit by_lane clear. (rows_covered ops unit by_lane (λ op has. has), rows_few))
      (λ c tests. (columns_covered c tests, columns_are_few c tests))
      (λ from m loaded. (row_covered_behind from m loaded, row_few_behind from m loaded))
      (λ c from m first front short tests.
      (loaded_covered c from m first front short tests, loaded_are_few c from m first front short tests))

-- the law, from what groups and rounds of lanes write
pub rounds_are_lanes : GroupsWrite → GroupsAreSure → LanesWrite → RoundsAreLanes
rounds_are_lanes groups_write groups_are_sure lanes_write v p to ops vs b q known can =
    let new : List PlainOp = laned_ops v p.regs (length vs) (Some to) ops in
    let are = are_covered v p to ops vs b q known can in
    let long = length-map new (λ op. step_of (on_lanes v p) op (vs ++ b ∷ []) q) in
    let group =
    length-rounds (λ l. steps_at p ops (vs ++ (v * b + l) ∷ []) q) (length ops)
    (λ l. length-map ops (λ op. step_of p op (vs ++ (v * b + l) ∷ []) q)) v 0 in
    lanes_from v p (group_at v p ops vs b q) (vs ++ b ∷ []) q new are.0 (omega (arith, are.1, long, group))
    (λ r s memory long enough.
    order_is_free memory _ (group_writes v p memory ops vs b q) (groups_are_sure v p to ops vs b q known can memory)
    (lanes_write v p to ops vs b q known can r memory long)
    ∙ sym (groups_write v p to ops vs b q known can s memory enough))
