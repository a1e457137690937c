-- The sites of a shared root's parts are those of merging, and the passes of its left part are those of the part alone,
-- in all copies.
use Rattle.std.proofs.Common.{◌≡◌, ℕ, ◌+◌, ◌*◌, ◌==◌, Bool, true, false, if◌then◌else◌, arith, refl, sym, ap, ap₂, ◌∙◌}
use Rattle.std.proofs.Common.{List, [], ◌∷◌, ◌++◌, length, length-append, append-nil, append_assoc, map, ◌/◌, ◌<◌}
use Rattle.std.proofs.Common.{subst, mul_comm, Option, None, Some, option_map}
use Rattle.std.proofs.Math.Nat.{mul-div_cancel_left}
use Rattle.std.proofs.lemmas.List.{map-append}
use Rattle.perm_algebra.specs.Affine.{Sum, scaled, added, simplified}
use Rattle.sigma_lower.specs.TreeLoops.Placed.{place_sum, Fits, AreCounts, all_simplified}
use Rattle.sigma_lower.proofs.TreeLoops.InCopies.{placed, AreCopies}
use Rattle.sigma_lower.proofs.TreeLoops.Moved.{added-assoc, placed-columns, scaled-added, scaled-scaled}
use Rattle.sigma_lower.proofs.TreeLoops.WithinPlaces.{copies_from, natural-placed, natural-copies}
use Rattle.smp_rewrite.proofs.Tensors.{within_all}
use Rattle.operators.specs.declared.paths.Tensor.{Tensor}
use Rattle.operators.specs.declared.paths.Tensor.TheVariants.{Columns, Blocks}
use Rattle.operators.specs.Paths.Tensors.{Path, count_of, size_under}
use Rattle.generate.specs.Emission.Places.{inside, turn_of, same}
use Rattle.matrix_meaning.specs.declared.Request.{Request}
use Rattle.sigma_lower.proofs.TreeLoops.LineMoves.{AreThree, turned-leads}
use Rattle.sigma_lower.proofs.TreeLoops.RootPasses.{turned_waiting, if_dealt, left_diagonal, left_pass, on_all}
use Rattle.sigma_lower.proofs.TreeLoops.RootShares.{AreShares, lines_small, vectors_small, tiles_fill}
use Rattle.sigma_lower.specs.TreeTerms.Root.{left_path, right_path}
use Rattle.tree_model.specs.declared.tree.Rule.{Rule}
use Rattle.tree_model.specs.declared.tree.Rule.TheVariants.{Ct}
use Rattle.generate.specs.Emission.Passes.{Factors, Pass}
use Rattle.generate.specs.Emission.Root.{lane_loops, left_root, packed, processor_loops, right_root, root_in, shared}
use Rattle.generate.specs.Emission.Root.{strided, turns}
use Rattle.index_fn.specs.Mapping.{Mapping}
use Rattle.sigma_lower.specs.TreeLoops.Merge.{PlainDiagonal, PlainPass}
use Rattle.sigma_lower.specs.TreeLoops.Nests.{loop_of}
use Rattle.sigma_lower.specs.TreeTerms.Wrapped.{inner_of}
use Rattle.sigma_lower.proofs.TreeLoops.LeftPlaces.{Spread, spread-by, item-whole, counts-append, left_fills, left_wide}
use Rattle.sigma_lower.proofs.TreeLoops.LeftPlaces.{part-leads, size_under-append}
use Rattle.sigma_lower.proofs.TreeLoops.PlaceLimits.{IsPlacedPass}
use Rattle.sigma_lower.proofs.TreeLoops.Shaped.{IsShaped, IsShapedWork}
use Rattle.sigma_lower.proofs.TreeLoops.Staying.{StaysIn}
use Rattle.sigma_spl.specs.Loops.{nest_of}
use Rattle.sigma_spl.specs.Work.{work_size}
use Rattle.sigma_spl.proofs.Several.{several-append}
use Rattle.generate.proofs.Emission.Matches.{IsAround, HasDiagonal, IsSame, IsLooped, IsNodeWork, same-nest}
use Rattle.generate.proofs.Emission.Nested.{emitted_nest}

-- ---- the places of a shared root, as sums: those of emission are those that merging makes

-- ---- loops of emission, one inside of the other

abbrev pub insides : List ℕ → Path → List ℕ
insides counts [] = counts
insides counts (t ∷ ts) = insides (inside counts (count_of t)) ts

abbrev pub path-turns : List ℕ → Path → List Sum
path-turns counts [] = []
path-turns counts (t ∷ ts) = turn_of counts (count_of t) ∷ path-turns (inside counts (count_of t)) ts

insides-pick : (b : Bool) (counts : List ℕ) (t : Tensor) (path : Path) →
    (if b then counts else counts ++ count_of t ∷ []) ++ map count_of path
    ≡ counts ++ map count_of (if b then path else t ∷ path)
insides-pick true counts t path = refl
insides-pick false counts t path = append_assoc counts (count_of t ∷ []) (map count_of path)

pub insides-are : (counts : List ℕ) (ts : Path) → insides counts ts ≡ counts ++ map count_of (within_all ts [])
insides-are counts [] = sym (append-nil counts)
insides-are counts (t ∷ ts) = insides-are (inside counts (count_of t)) ts
    ∙ insides-pick (count_of t == 1) counts t (within_all ts [])

length-pick : (b : Bool) (counts : List ℕ) (n : ℕ) →
    length (if b then counts else counts ++ n ∷ []) ≡ (if b then length counts else length counts + 1)
length-pick true counts n = refl
length-pick false counts n = length-append counts (n ∷ [])

pub turns-are : (counts : List ℕ) (ts : Path) → path-turns counts ts ≡ copies_from ts (length counts)
turns-are counts [] = refl
turns-are counts (t ∷ ts) =
    ap (λ us. turn_of counts (count_of t) ∷ us)
    (turns-are (inside counts (count_of t)) ts
    ∙ ap (copies_from ts) (length-pick (count_of t == 1) counts (count_of t)))

-- the natural place by the turns of emission
pub natural-turns : (ts : Path) (n : ℕ) (e : Sum) →
    place_sum (within_all ts []) n 0 e ≡ placed ts n (path-turns [] ts) e
natural-turns ts n e = natural-placed ts n 0 e ∙ ap (λ us. placed ts n us e) (sym (turns-are [] ts))

-- ---- sums in another form

-- a factor over two parts and a rest
pub spread-out : (c n : ℕ) (a b e : Sum) →
    scaled c (added (added (scaled n a) b) e) ≡ added (scaled (c * n) a) (added (scaled c b) (scaled c e))
spread-out c n a b e =
    scaled-added c (added (scaled n a) b) e
    ∙ ap (λ z. added z (scaled c e))
    (scaled-added c (scaled n a) b ∙ ap (λ z. added z (scaled c b)) (scaled-scaled c n a))
    ∙ added-assoc (scaled (c * n) a) (scaled c b) (scaled c e)

-- (i*s + k)*v + l, where i is q*n + j
pub packed-is : (v s n : ℕ) (q j e l : Sum) →
    added (scaled (n * s * v) q) (added (scaled v (added (scaled s j) e)) l)
    ≡ added (scaled v (added (scaled s (added (scaled n q) j)) e)) l
packed-is v s n q j e l =
    sym
    (ap (λ z. added (scaled v (added z e)) l)
    (scaled-added s (scaled n q) j ∙ ap (λ z. added z (scaled s j)) (scaled-scaled s n q))
    ∙ ap (λ z. added z l) (spread-out v (s * n) q (scaled s j) e)
    ∙ added-assoc (scaled (v * (s * n)) q) (added (scaled v (scaled s j)) (scaled v e)) l
    ∙ ap₂ (λ c z. added (scaled c q) (added z l)) (omega arith) (sym (scaled-added v (scaled s j) e)))

-- r*e + (i*v + l), where i is q*n + j
pub strided-is : (p v n : ℕ) (q j e l : Sum) →
    placed (Columns v ∷ Columns n ∷ Columns p ∷ []) 0 (l ∷ j ∷ q ∷ []) e
    ≡ added (scaled (p * (v * n)) e) (added (scaled v (added (scaled n q) j)) l)
strided-is p v n q j e l =
    placed-columns v n (Columns p ∷ []) 0 l j (q ∷ []) e
    ∙ placed-columns (v * n) p [] 0 (added (scaled v j) l) q [] e
    ∙ ap₂ (λ c z. added (scaled c e) z) (omega arith)
    (sym (added-assoc (scaled (v * n) q) (scaled v j) l)
    ∙ ap (λ z. added z l)
    (sym (scaled-added v (scaled n q) j ∙ ap (λ z. added z (scaled v j)) (scaled-scaled v n q))))

-- the turns of a processor and a lane
pub turns-each : (p v k : ℕ) → 0 < v → 0 < p → (n : ℕ) → n ≡ p * (v * k) → n / v / p ≡ k
turns-each p v k some many n is =
    let e : n ≡ v * (p * k) = is ∙ omega arith in
    ap (λ m. m / v / p) e
    ∙ ap (λ m. m / p) (mul-div_cancel_left (p * k) some)
    ∙ mul-div_cancel_left k many

module _ (c : Request) (r s : ℕ) (h : AreShares c.size c.procs c.lanes r s) where
  abbrev p : ℕ
  p = c.procs

  abbrev v : ℕ
  v = c.lanes

  abbrev rows : ℕ
  rows = r / p / v

  pub rows-each : r / v / p ≡ rows
  rows-each = turns-each p v rows h.lanes h.procs r h.rows

  abbrev q : Sum
  q = turn_of [] p

  abbrev l : Sum
  l = turn_of (processor_loops c) c.lanes

  abbrev three : Path
  three = Blocks p ∷ Columns v ∷ Blocks rows ∷ []

  abbrev j : Sum
  j = turn_of (lane_loops c) rows

  -- ---- the right part

  right-counts : turns c r (lane_loops c) ≡ map count_of (right_path p v r)
  right-counts = ap (inside (lane_loops c)) rows-each ∙ insides-are [] three

  shared-is : shared c r (lane_loops c) ≡ added (scaled rows q) j
  shared-is = ap (λ n. added (scaled n q) (turn_of (lane_loops c) n)) rows-each

  pub packed-natural : (cs : ℕ → ℕ) (e : Sum) → packed c r s cs e ≡ place_sum (right_path p v r) s 0 e
  packed-natural cs e =
      ap (λ i. added (scaled v (added (scaled s i) e)) l) shared-is
      ∙ sym (packed-is v s rows q j e l)
      ∙ sym (natural-turns three s e)

  right_whole : size_under three s ≡ c.size
  right_whole = let rows' : r * s ≡ p * (v * rows) * s = ap (λ k. k * s) h.rows in omega (arith, h.product, rows')

  right-turned : (cs : ℕ → ℕ) (e : Sum) → AreCounts (right_path p v r) s 0 cs → Fits s e cs →
      root_in Ct c r s cs e ≡ all_simplified cs (turned_waiting p v r s) (place_sum (right_path p v r) s 0 e)
  right-turned cs e counts fits =
      let named = subst (λ us. AreCopies three us cs) (sym (turns-are [] three)) (natural-copies three s 0 cs counts) in
      let copies : AreThree cs p v rows q l j = record { processor = named.0; lane = named.1.0; other = named.1.1.0 } in
      let lead = turned-leads p v rows s c.size q l j e cs copies fits right_whole h.whole.high
      (lines_small c.size p v r s h) (vectors_small c.size p v r s h) in
      ap (λ i. added (scaled r e) (added (scaled v i) l)) shared-is
      ∙ ap (λ n. added (scaled n e) (added (scaled v (added (scaled rows q) j)) l)) h.rows
      ∙ sym (strided-is p v rows q j e l)
      ∙ sym lead.is
      ∙ ap (all_simplified cs (turned_waiting p v r s)) (sym (natural-turns three s e))

  -- the site of a ct's right part
  pub turned_around : (root : ℕ) →
      IsAround [] 0 same (right_path p v r) (turned_waiting p v r s) s (right_root Ct c r s root)
  turned_around root = record { counts = right-counts; load = right-turned; keep = packed-natural }

  -- and of a split's
  pub packed_around : (rule : Rule) (root : ℕ) →
      ((cs : ℕ → ℕ) (e : Sum) → root_in rule c r s cs e ≡ packed c r s cs e) →
      IsAround [] 0 same (right_path p v r) [] s (right_root rule c r s root)
  packed_around rule root is =
      record { counts = right-counts; load = λ cs e counts fits. is cs e ∙ packed-natural cs e; keep = packed-natural }

  -- ---- the left part: its own places, in each turn of the processors, the lanes and the loop

  abbrev columns : ℕ
  columns = s / p / v

  pub columns-each : s / v / p ≡ columns
  columns-each = turns-each p v columns h.lanes h.procs s h.columns

  left-counts : turns c s (lane_loops c) ≡ map count_of (left_path p v s)
  left-counts = ap (inside (lane_loops c)) columns-each ∙ insides-are [] (Blocks p ∷ Columns v ∷ Columns columns ∷ [])

  pub left_around : (factors : Factors) →
      IsAround (map count_of (left_path p v s)) (0 + length (left_path p v s)) (strided c s) [] [] r
      (left_root c s factors)
  left_around factors =
      record {
        counts = left-counts ∙ sym (append-nil (map count_of (left_path p v s)));
        load = λ cs e counts fits. refl;
        keep = λ cs e. refl;
      }

  -- ---- the left part's passes

  abbrev size : ℕ
  size = c.size

  abbrev left-turn : Sum
  left-turn = turn_of (lane_loops c) columns

  abbrev column : Sum
  column = added (scaled columns q) left-turn

  abbrev left-three : Path
  left-three = Blocks p ∷ Columns v ∷ Columns columns ∷ []

  abbrev whole : Path
  whole = Columns v ∷ Columns (s / v) ∷ []

  abbrev us : List Sum
  us = l ∷ column ∷ []

  abbrev outer : List ℕ
  outer = map count_of (left_path p v s)

  abbrev d : ℕ
  d = 0 + length (left_path p v s)

  -- where emission's turns stand
  strided-placed : (cs : ℕ → ℕ) (y : Sum) → strided c s cs y ≡ placed whole r us y
  strided-placed cs y =
      ap (λ n. added (scaled s y) (added (scaled v (added (scaled n q) (turn_of (lane_loops c) n))) l))
      columns-each
      ∙ ap (λ n. added (scaled n y) (added (scaled v column) l)) (sym (tiles_fill size p v r s h))
      ∙ sym (placed-columns v (s / v) [] r l column [] y)

  -- the sums of the lane, and of the processor and the loop together
  abbrev spread : (cs : ℕ → ℕ) → AreCounts (left_path p v s) r 0 cs → Spread size p v r s h cs 0
  spread cs counts =
      spread-by size p v r s h cs 0 q l left-turn
      (subst (λ ts. AreCopies left-three ts cs) (sym (turns-are [] left-three))
      (natural-copies left-three r 0 cs counts))
      (natural-turns left-three r)

  -- a pass of the part alone, within its limits
  pub record IsPart (m : ℕ) (z : PlainPass) : Type 0 where
    pub placed : IsPlacedPass r [] r z
    pub shape : IsShaped (IsShapedWork m) r z
    pub node : IsNodeWork z.work

  module _ (m : ℕ) (z : PlainPass) (part : IsPart m z) where
    abbrev n : ℕ
    n = work_size z.work

    -- what is known where the pass is in all copies
    record IsSpread (cs : ℕ → ℕ) (e : Sum) : Type 0 where
      inner : AreCounts z.path n d cs
      sums : Spread size p v r s h cs 0
      same_lane : sums.lane ≡ l
      same_column : sums.column ≡ column

    spread-pass : (cs : ℕ → ℕ) (e : Sum) → AreCounts (left_path p v s ++ z.path) n 0 cs → IsSpread cs e
    spread-pass cs e counts =
        let split = counts-append (left_path p v s) z.path n 0 cs counts in
        record {
          inner = split.1;
          sums = spread cs (subst (λ i. AreCounts (left_path p v s) i 0 cs) part.shape.fills split.0);
          same_lane = refl;
          same_column = refl;
        }

    -- where functions of the part alone lead in all copies
    led : (cs : ℕ → ℕ) (e : Sum) (fs : List Mapping) (i : ℕ) → AreCounts (left_path p v s ++ z.path) n 0 cs →
        i ≡ p * r → StaysIn cs r fs (place_sum z.path n d e) →
        all_simplified cs (if_dealt i p v r s ++ map (on_all v r s) fs) (place_sum (left_path p v s ++ z.path) n 0 e)
        ≡ placed whole r us (all_simplified cs fs (place_sum z.path n d e))
    led cs e fs i counts is stays =
        let there = spread-pass cs e counts in
        (part-leads size p v r s h cs z.path fs n i e there.sums part.shape.fills is stays).is
        ∙ ap₂ (λ a b. placed whole r (a ∷ b ∷ []) (all_simplified cs fs (place_sum z.path n d e))) there.same_lane
        there.same_column

    fits-of : (cs : ℕ → ℕ) (e : Sum) → AreCounts (left_path p v s ++ z.path) n 0 cs →
        Fits v l cs × Fits (s / v) column cs
    fits-of cs e counts =
        let there = spread-pass cs e counts in
        let copies = there.sums.copies in
        (subst (λ a. Fits v a cs) there.same_lane copies.0, subst (λ a. Fits (s / v) a cs) there.same_column copies.1.0)

    diagonals : (q' : Pass) (x : Option PlainDiagonal) → z.diagonal ≡ x → HasDiagonal outer d (strided c s) z q' x →
        HasDiagonal [] 0 same (left_pass p v r s z) q' (option_map (left_diagonal p v r s) x)
    diagonals q' None is has = has
    diagonals q' (Some x) is has = (
      has.0,
      has.1,
      λ cs e counts fits.
          let there = spread-pass cs e counts in
          let multiplied = (part.placed.multiplies x is).0 cs d e there.inner fits in
          let low = fits-of cs e counts in
          has.2 cs e there.inner fits
          ∙ sym (item-whole size p v r s h cs l column x.path (x.rows * x.cols)
          (all_simplified cs x.places (place_sum z.path n d e)) low.0 low.1)
          ∙ ap (simplified cs (inner_of (Columns s ∷ x.path) (x.rows * x.cols)))
          (sym (led cs e x.places (r * p) counts (mul_comm r p) multiplied.stays)),
    )

    pub left_same : (q' : Pass) → IsSame outer d (strided c s) z q' → IsSame [] 0 same (left_pass p v r s z) q'
    left_same q' is = record {
      begun = record {
        counts = is.begun.counts ∙ sym (map-append count_of (left_path p v s) z.path);
        work = is.begun.work;
        load = λ cs e counts fits.
            let there = spread-pass cs e counts in
            is.begun.load cs e there.inner fits
            ∙ strided-placed cs _
            ∙ sym (led cs e z.befores (p * r) counts refl (part.placed.gathers cs d e there.inner fits));
      };
      store = λ cs e counts fits.
          let there = spread-pass cs e counts in
          is.store cs e there.inner fits
          ∙ strided-placed cs _
          ∙ sym (led cs e z.afters (r * p) counts (mul_comm r p) (part.placed.scatters.stays cs d e there.inner fits));
      factors = diagonals q' z.diagonal refl is.factors;
    }

    left_looped : IsLooped m size (left_pass p v r s z)
    left_looped = record {
      wide = several-append (left_path p v s) z.path (left_wide size p v r s h) part.shape.wide;
      fills = size_under-append (left_path p v s) z.path n ∙ ap (size_under (left_path p v s)) part.shape.fills
          ∙ left_fills size p v r s h;
      work = part.shape.work;
      node = part.node;
    }

    pub left_nest : (q' : Pass) → IsSame outer d (strided c s) z q' →
        nest_of (loop_of (left_pass p v r s z)) ≡ emitted_nest q'
    left_nest q' is = same-nest m size (left_pass p v r s z) q'
        (let low = h.whole.low in omega (arith, low)) left_looped (left_same q' is)
