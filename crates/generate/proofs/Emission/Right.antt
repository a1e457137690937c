-- The passes of a shared root's right part, with the tiles beside them.
use Rattle.std.proofs.Common.{◌≡◌, ℕ, zero, suc, ◌+◌, ◌*◌, ◌/◌, ◌%◌, ◌<◌, arith, refl, sym, ap, ap₂, ◌∙◌, List, [], ◌∷◌}
use Rattle.std.proofs.Common.{◌++◌, subst, mul_comm, Option, None, Some, map, ◌==◌, Bool, true, false, if◌then◌else◌}
use Rattle.std.proofs.Common.{append-nil}
use Rattle.std.specs.List.{range_with_len}
use Rattle.std.proofs.Math.Nat.{mul-div_cancel_left, mul-mod_left}
use Rattle.std.proofs.lemmas.List.{map-append}
use Rattle.index_fn.specs.Mapping.{Mapping, Same}
use Rattle.matrix_meaning.specs.declared.Request.{Request}
use Rattle.operators.proofs.Lists.{place_below}
use Rattle.perm_algebra.specs.Affine.{Sum, constant, scaled, added}
use Rattle.perm_algebra.proofs.Sizes.{added-end, positive-product}
use Rattle.sigma_lower.specs.TreeLoops.Merge.{PlainDiagonal, PlainPass, at_last, multiplied}
use Rattle.sigma_lower.specs.TreeLoops.Nests.{loop_of}
use Rattle.sigma_lower.specs.TreeLoops.Placed.{place_sum, AreCounts, all_simplified}
use Rattle.sigma_lower.specs.TreeTerms.Root.{tile_path, vectors_grouped, right_path}
use Rattle.sigma_lower.proofs.TreeLoops.InCopies.{AreCopies}
use Rattle.sigma_lower.proofs.TreeLoops.LineMoves.{grouped-leads}
use Rattle.sigma_lower.proofs.TreeLoops.LoopItems.{counts-from}
use Rattle.sigma_lower.proofs.TreeLoops.Moved.{added-assoc, scaled-added, scaled-scaled}
use Rattle.sigma_lower.proofs.TreeLoops.PlaceSums.{all_simplified-append}
use Rattle.sigma_lower.proofs.TreeLoops.RootShares.{AreShares, tiles_fill, tiles_product, tiles_small}
use Rattle.sigma_lower.proofs.TreeLoops.TilePlaces.{tile_wide}
use Rattle.sigma_lower.proofs.TreeLoops.WithinPlaces.{natural-copies}
use Rattle.sigma_spl.specs.Loops.{nest_of, one_nest}
use Rattle.operators.specs.declared.paths.Tensor.TheVariants.{Blocks}
use Rattle.operators.specs.Paths.Tensors.{Path, count_of, size_under}
use Rattle.generate.specs.Emission.Passes.{Factors, Pass, entries, none, site_by, tile, twiddles, Site}
use Rattle.generate.specs.Emission.Places.{PlaceFunction, inside, turn_of, same}
use Rattle.generate.specs.Emission.Root.{across, along, processor_loops, tile_column, tile_row, turns, packed}
use Rattle.generate.specs.Emission.Root.{right_root, root_in, tiles, tiles_after, tiles_before}
use Rattle.sigma_lower.proofs.TreeLoops.RightPlaces.{right_fills, right_wide}
use Rattle.sigma_lower.proofs.TreeLoops.RootPasses.{tile_after, tile_before, turned_waiting}
use Rattle.sigma_lower.proofs.TreeLoops.Shaped.{HasWorks, IsShapedWork, shaped_passes, shaped_works}
use Rattle.sigma_lower.proofs.TreeLoops.TreePasses.{at_last-append, layout_passes}
use Rattle.smp_rewrite.specs.Layout.Tree.{IsGoodLayout, Layout, layout_size}
use Rattle.tree_model.specs.declared.tree.Rule.{Rule}
use Rattle.tree_model.specs.declared.tree.Rule.TheVariants.{Ct}
use Rattle.generate.proofs.Emission.Nested.{bounds, emitted_nest, nest_at, nest_with, emitted}
use Rattle.generate.proofs.Emission.Root.{rows-each, packed-natural, packed_around, turned_around}
use Rattle.generate.proofs.Emission.Root.{insides-are, natural-turns, spread-out, turns-are}
use Rattle.generate.proofs.Emission.Layouts.{layout_emitted}
use Rattle.generate.proofs.Emission.Closed.{AllPasses, looped-all, same-passes}
use Rattle.generate.proofs.Emission.Matches.{ArePasses, IsAround, IsSame, all-free, last-same, last-twiddled}
use Rattle.generate.proofs.Emission.Matches.{IsLooped, IsNodeWork, nests, same-nest}
use Rattle.generate.proofs.Emission.Trees.{layouts_match}
use Rattle.sigma_spl.specs.Nest as nests
use Rattle.sigma_spl.specs.Work as works

pub nests-append : (ps qs : List PlainPass) → nests (ps ++ qs) ≡ nests ps ++ nests qs
nests-append ps qs = map-append (λ p. one_nest (loop_of p)) ps qs

pub emitted-append : (ps qs : List Pass) → emitted (ps ++ qs) ≡ emitted ps ++ emitted qs
emitted-append ps qs = map-append (λ q. emitted_nest q ∷ []) ps qs

looped-last : (m size : ℕ) (f : PlainPass → PlainPass) →
    ((p : PlainPass) → IsLooped m size p → IsLooped m size (f p)) → (ps : List PlainPass) →
    AllPasses (IsLooped m size) ps → AllPasses (IsLooped m size) (at_last f ps)
looped-last m size f step [] h = tt
looped-last m size f step (p ∷ []) h = (step p h.0, tt)
looped-last m size f step (p ∷ q ∷ ps) h = (h.0, looped-last m size f step (q ∷ ps) h.1)

looped-multiplied : (m size r s root : ℕ) (p : PlainPass) → IsLooped m size p →
    IsLooped m size (multiplied [] r s root p)
looped-multiplied m size r s root p h = record { wide = h.wide; fills = h.fills; work = h.work; node = h.node }

pub none-either : (b : Bool) → (if b then none else none) ≡ none
none-either true = refl
none-either false = refl

-- ---- sums

along-is : (v t n k : ℕ) (q g i : Sum) →
    added (scaled (n * (t * (v * v))) q)
    (added (scaled (t * (v * v)) g) (added (scaled (v * v) i) (constant (k * v))))
    ≡ scaled v (added (scaled (v * t) (added (scaled n q) g)) (added (scaled v i) (constant k)))
along-is v t n k q g i =
    let s = v * t in
    sym
    (ap (λ z. scaled v (added z (added (scaled v i) (constant k))))
    (scaled-added s (scaled n q) g ∙ ap (λ z. added z (scaled s g)) (scaled-scaled s n q))
    ∙ spread-out v (s * n) q (scaled s g) (added (scaled v i) (constant k))
    ∙ ap₂ (λ a z. added (scaled a q) z) (many v t n)
    (ap₂ added (scaled-scaled v s g ∙ ap (λ a. scaled a g) (some v t))
    (scaled-added v (scaled v i) (constant k)
    ∙ ap₂ (λ x a. added x (constant a)) (scaled-scaled v v i) (mul_comm v k))))
  where
    many : (v t n : ℕ) → v * (v * t * n) ≡ n * (t * (v * v))
    many v t n = omega arith

    some : (v t : ℕ) → v * (v * t) ≡ t * (v * v)
    some v t = omega arith

across-is : (v t n k : ℕ) (q g i : Sum) →
    added (scaled v (added (scaled (n * (t * v)) q) (added (scaled (t * v) g) (added (scaled t (constant k)) i))))
    (constant 0)
    ≡ added (scaled (v * t) (added (scaled v (added (scaled n q) g)) (constant k))) (scaled v i)
across-is v t n k q g i =
    let s = v * t in
    added-end _
    ∙ scaled-added v (scaled (n * (t * v)) q) (added (scaled (t * v) g) (added (constant (t * k)) i))
    ∙ ap₂ added (scaled-scaled v (n * (t * v)) q ∙ ap (λ a. scaled a q) (many v t n))
    (scaled-added v (scaled (t * v) g) (added (constant (t * k)) i)
    ∙ ap₂ added (scaled-scaled v (t * v) g ∙ ap (λ a. scaled a g) (some v t))
    (scaled-added v (constant (t * k)) i ∙ ap (λ a. added (constant a) (scaled v i)) (few v t k)))
    ∙ sym
    (ap (λ z. added (scaled s (added z (constant k))) (scaled v i))
    (scaled-added v (scaled n q) g ∙ ap (λ z. added z (scaled v g)) (scaled-scaled v n q))
    ∙ ap (λ z. added z (scaled v i)) (spread-out s (v * n) q (scaled v g) (constant k))
    ∙ added-assoc (scaled (s * (v * n)) q) (added (scaled s (scaled v g)) (constant (s * k))) (scaled v i)
    ∙ ap (added (scaled (s * (v * n)) q))
    (added-assoc (scaled s (scaled v g)) (constant (s * k)) (scaled v i)
    ∙ ap (λ z. added z (added (constant (s * k)) (scaled v i))) (scaled-scaled s v g)))
  where
    many : (v t n : ℕ) → v * (n * (t * v)) ≡ v * t * (v * n)
    many v t n = omega arith

    some : (v t : ℕ) → v * (t * v) ≡ v * t * v
    some v t = omega arith

    few : (v t k : ℕ) → v * (t * k) ≡ v * t * k
    few v t k = omega arith

-- ---- numbers of vectors

numbered : (f g : Sum → Sum) (v a n : ℕ) (h : Sum → Sum) →
    ((k : ℕ) → k < a + n → f (g (constant (k * v))) ≡ h (constant k)) →
    map f (map g (map (λ k. constant (k * v)) (range_with_len a n))) ≡ map h (map constant (range_with_len a n))
numbered f g v a zero h step = refl
numbered f g v a (suc n) h step =
    ap₂ (λ x xs. x ∷ xs) (step a (omega arith)) (numbered f g v (a + 1) n h (λ k low. step k (omega (arith, low))))

vector-row : (v k : ℕ) → 0 < v → k * v / v ≡ k
vector-row v k some = ap (λ n. n / v) (mul_comm k v) ∙ mul-div_cancel_left k some

vector-column : (v k : ℕ) → k * v % v ≡ 0
vector-column v k = mul-mod_left k v

module _ (c : Request) (r s : ℕ) (h : AreShares c.size c.procs c.lanes r s) where
  abbrev p : ℕ
  p = c.procs

  abbrev v : ℕ
  v = c.lanes

  abbrev rows : ℕ
  rows = r / p / v

  abbrev t : ℕ
  t = s / v

  abbrev three : Path
  three = Blocks p ∷ Blocks rows ∷ Blocks t ∷ []

  abbrev q : Sum
  q = turn_of [] p

  abbrev g : Sum
  g = turn_of (processor_loops c) rows

  abbrev i : Sum
  i = turn_of (inside (processor_loops c) rows) t

  each-row : r / v / p ≡ rows
  each-row = rows-each c r s h

  wide : v * t ≡ s
  wide = tiles_fill c.size p v r s h

  -- where emission's rows and columns stand
  at-row : (f : ℕ → Sum → Sum → Sum) →
      f s (tile_row c r) (tile_column c r s) ≡ f (v * t) (added (scaled rows q) g) i
  at-row f =
      ap (λ n. f s (added (scaled n q) (turn_of (processor_loops c) n)) (turn_of (inside (processor_loops c) n) t))
      each-row
      ∙ ap (λ n. f n (added (scaled rows q) g) i) (sym wide)

  natural-along : (cs : ℕ → ℕ) (k : ℕ) →
      place_sum (tile_path p v r s) (v * v) 0 (constant (k * v)) ≡ along c r s cs (constant k)
  natural-along cs k =
      natural-turns three (v * v) (constant (k * v))
      ∙ along-is v t rows k q g i
      ∙ sym (at-row (λ n x j. scaled v (added (scaled n x) (added (scaled v j) (constant k)))))

  grouped-across : (cs : ℕ → ℕ) (k n : ℕ) → n ≡ t * v → k < v → AreCounts (tile_path p v r s) (v * v) 0 cs →
      all_simplified cs (vectors_grouped n p v r s ∷ []) (place_sum (tile_path p v r s) (v * v) 0 (constant (k * v)))
      ≡ across c r s cs (constant k)
  grouped-across cs k n is low counts =
      let named = subst (λ us. AreCopies three us cs) (sym (turns-are [] three))
      (natural-copies three (v * v) 0 cs counts) in
      let below = place_below k 0 v v low (omega (arith, low)) in
      let lead = grouped-leads p v rows t c.size n q g i (k * v) cs named.0 named.1.0 named.1.1.0
      (omega (arith, below)) is tile_whole h.whole.high (tiles_small c.size p v r s h) in
      ap (all_simplified cs (vectors_grouped n p v r s ∷ [])) (natural-turns three (v * v) (constant (k * v)))
      ∙ lead.is
      ∙ ap₂ (λ row column. added
      (scaled v (added (scaled (rows * (t * v)) q) (added (scaled (t * v) g) (added (scaled t (constant row)) i))))
      (constant column)) (vector-row v k h.lanes) (vector-column v k)
      ∙ across-is v t rows k q g i
      ∙ sym (at-row (λ n x j. added (scaled n (added (scaled v x) (constant k))) (scaled v j)))
    where
      tile_whole : size_under three (v * v) ≡ c.size
      tile_whole = let all = tiles_product c.size p v r s h in omega (arith, all)

  tile-counts : inside (turns c r (processor_loops c)) t ≡ map count_of (tile_path p v r s)
  tile-counts = ap (λ n. inside (inside (processor_loops c) n) t) each-row ∙ insides-are [] three

  -- ---- nests

  abbrev pub tile-pass : List Mapping → Option PlainDiagonal → List Mapping → PlainPass
  tile-pass befores diagonal afters =
      record { path = tile_path p v r s; work = works.tile v; befores = befores; diagonal = diagonal; afters = afters }

  abbrev pub emitted-tile : PlaceFunction → Factors → PlaceFunction → Pass
  emitted-tile load factors store =
      record { site = site_by (inside (turns c r (processor_loops c)) t) load factors store; work = tile v }

  -- functions lead to these places, vector by vector
  abbrev pub LeadTo : List Mapping → PlaceFunction → Type 0
  LeadTo fs f = (cs : ℕ → ℕ) (k : ℕ) → k < v → AreCounts (tile_path p v r s) (v * v) 0 cs →
      all_simplified cs fs (place_sum (tile_path p v r s) (v * v) 0 (constant (k * v))) ≡ f cs (constant k)

  pub lead-along : LeadTo [] (along c r s)
  lead-along cs k low counts = natural-along cs k

  pub lead-across : (n : ℕ) → n ≡ t * v → LeadTo (vectors_grouped n p v r s ∷ []) (across c r s)
  lead-across n is cs k low counts = grouped-across cs k n is low counts

  -- the diagonal of the root after it, or none
  abbrev pub AreTileFactors : Option PlainDiagonal → Factors → List Mapping → PlaceFunction → Type 0
  AreTileFactors None factors afters store = factors ≡ none
  AreTileFactors (Some x) factors afters store =
      (root : ℕ) × (x ≡ record { path = []; rows = r; cols = s; root = root; places = afters }) ×
      (factors ≡ entries (twiddles r s root) store)

  module _ (befores afters : List Mapping) (load store : PlaceFunction) (into : LeadTo befores load)
      (out : LeadTo afters store) where
    abbrev loops : List ℕ
    loops = map count_of (tile_path p v r s)

    abbrev cs : ℕ → ℕ
    cs = bounds loops (works.tile v)

    counts : AreCounts (tile_path p v r s) (v * v) 0 cs
    counts = counts-from (tile_path p v r s) (v * v) 0 cs (v * v ∷ v * v ∷ []) (tile_wide c.size p v r s h)
        (positive-product v v h.lanes h.lanes) (λ n. ap cs (omega arith))

    placed-by : (fs : List Mapping) (f : PlaceFunction) → LeadTo fs f →
        map (all_simplified cs fs)
        (map (place_sum (tile_path p v r s) (v * v) 0) (map (λ k. constant (k * v)) (range_with_len 0 v)))
        ≡ map (f cs) (map constant (range_with_len 0 v))
    placed-by fs f lead =
        numbered (all_simplified cs fs) (place_sum (tile_path p v r s) (v * v) 0) v 0 v (f cs)
        (λ k low. lead cs k (omega (arith, low)) counts)

    ending : (fs : List Mapping) (f : PlaceFunction) → LeadTo fs f → LeadTo (fs ++ Same ∷ []) f
    ending fs f lead cs k low counts = all_simplified-append cs fs Same _ ∙ lead cs k low counts

    pub tile-nest : (x : Option PlainDiagonal) (factors : Factors) → AreTileFactors x factors afters store →
        nest_of (loop_of (tile-pass befores x afters)) ≡ emitted_nest (emitted-tile load factors store)
    tile-nest x factors is = by x is
        ∙ ap (λ ls. nest_at ls (works.tile v) load factors store) (sym tile-counts)
      where
        by : (x : Option PlainDiagonal) → AreTileFactors x factors afters store →
            nest_of (loop_of (tile-pass befores x afters))
            ≡ nest_at loops (works.tile v) load factors store
        by None is =
            ap₂ (λ gs ss. nest_with loops (works.tile v) gs None ss)
            (placed-by befores load into) (placed-by afters store out)
            ∙ ap (λ f. nest_at loops (works.tile v) load f store) (sym is)
        by (Some x) is =
            ap (λ d. nest_of (loop_of (tile-pass befores (Some d) afters))) is.1
            ∙ ap₂ (λ gs ss. nest_with loops (works.tile v) gs
            (Some (record {
              factors = nests.twiddles r s is.0;
              places = map (all_simplified cs (afters ++ Same ∷ []))
                  (map (place_sum (tile_path p v r s) (v * v) 0) (map (λ k. constant (k * v)) (range_with_len 0 v)));
            })) ss)
            (placed-by befores load into) (placed-by afters store out)
            ∙ ap (λ ps. nest_with loops (works.tile v) (map (load cs) (map constant (range_with_len 0 v)))
            (Some (record { factors = nests.twiddles r s is.0; places = ps }))
            (map (store cs) (map constant (range_with_len 0 v))))
            (placed-by (afters ++ Same ∷ []) store (ending afters store out))
            ∙ ap (λ f. nest_at loops (works.tile v) load f store) (sym is.2)

  -- ---- the right part

  module _ (root : ℕ) (b : Layout) (good : IsGoodLayout c.modulus b) (works : HasWorks IsNodeWork b)
      (is : layout_size b ≡ s) where
    abbrev m : ℕ
    m = c.modulus

    low : 0 < c.size
    low = let some = h.whole.low in omega (arith, some)

    module _ (rule : Rule) (waiting : List Mapping)
        (around : IsAround [] 0 same (right_path p v r) waiting s (right_root rule c r s root)) where
      abbrev pub ps : List PlainPass
      ps = layout_passes (right_path p v r) waiting b

      abbrev o : Site
      o = right_root rule c r s root

      abbrev pub qs : List Pass
      qs = layout_emitted o b

      fills : size_under (right_path p v r) (layout_size b) ≡ c.size
      fills = ap (size_under (right_path p v r)) is ∙ right_fills c.size p v r s h

      matches : ArePasses [] 0 same (right_path p v r) s o ps qs
      matches =
          subst (λ n. ArePasses [] 0 same (right_path p v r) n o ps qs) is
          (layouts_match [] 0 same refl m c.size (right_path p v r) waiting o b h.whole good works fills
          (subst (λ n. IsAround [] 0 same (right_path p v r) waiting n o) (sym is) around))

      all : AllPasses (IsLooped m c.size) ps
      all =
          looped-all m c.size ps
          (shaped_passes (IsShapedWork m) m c.size (right_path p v r) waiting b (right_wide c.size p v r s h) good
          (shaped_works m b good) fills)
          (shaped_passes IsNodeWork m c.size (right_path p v r) waiting b (right_wide c.size p v r s h) good
          works fills)

      nest : (z : PlainPass) (q : Pass) → IsLooped m c.size z → IsSame [] 0 same z q →
          nest_of (loop_of z) ≡ emitted_nest q
      nest z q looped equal = same-nest m c.size z q low looped equal

      -- without the root's diagonal, and with it
      pub free-nests : o.factors ≡ none → nests ps ≡ emitted qs
      free-nests free =
          same-passes [] 0 same (λ z. z) (IsLooped m c.size) nest ps qs all
          (all-free [] 0 same (right_path p v r) s o (packed-natural c r s h) free ps qs matches)

      pub twiddled-nests : o.factors ≡ entries (twiddles r s root) (packed c r s) →
          nests (at_last (multiplied [] r s root) ps) ≡ emitted qs
      twiddled-nests has =
          same-passes [] 0 same (λ z. z) (IsLooped m c.size) nest (at_last (multiplied [] r s root) ps) qs
          (looped-last m c.size (multiplied [] r s root) (looped-multiplied m c.size r s root) ps all)
          (last-same [] 0 same (right_path p v r) s o (multiplied [] r s root) (λ z q last.
          last-twiddled [] 0 same (right_path p v r) s o (packed-natural c r s h) [] r s root (packed c r s) has z q
          last (λ cs e counts fits. packed-natural c r s h cs (last.own cs e) ∙ sym (last.place cs e counts fits))) ps qs
          matches)

    -- ---- tiles

    before : nest_of (loop_of (tile_before p v r s))
        ≡ emitted_nest (emitted-tile (across c r s) none (along c r s))
    before =
        tile-nest (vectors_grouped (s / v * v) p v r s ∷ []) [] (across c r s) (along c r s)
        (lead-across (s / v * v) refl) (lead-along) None none refl

    behind : nest_of (loop_of (tile_after p v r s))
        ≡ emitted_nest (emitted-tile (along c r s) none (across c r s))
    behind =
        tile-nest [] (vectors_grouped (v * (s / v)) p v r s ∷ []) (along c r s) (across c r s)
        (lead-along) (lead-across (v * (s / v)) (mul_comm v (s / v))) None none refl

    twiddled-behind : nest_of (loop_of (multiplied [] r s root (tile_after p v r s)))
        ≡ emitted_nest (emitted-tile (along c r s) (entries (twiddles r s root) (across c r s))
        (across c r s))
    twiddled-behind =
        tile-nest [] (vectors_grouped (v * (s / v)) p v r s ∷ []) (along c r s) (across c r s)
        (lead-along) (lead-across (v * (s / v)) (mul_comm v (s / v)))
        (Some (record {
          path = [];
          rows = r;
          cols = s;
          root = root;
          places = vectors_grouped (v * (s / v)) p v r s ∷ [];
        })) (entries (twiddles r s root) (across c r s))
        (root, refl, refl)

    -- ---- a ct

    abbrev turned : List PlainPass
    turned = layout_passes (right_path p v r) (turned_waiting p v r s) b

    abbrev cts : List Pass
    cts = layout_emitted (right_root Ct c r s root) b

    abbrev twiddled-tile : Pass
    twiddled-tile = emitted-tile (along c r s) (entries (twiddles r s root) (across c r s)) (across c r s)

    ct-either : (one : Bool) → v == 1 ≡ one →
        nests (at_last (multiplied [] r s root) (turned ++ (if one then [] else tile_after p v r s ∷ [])))
        ≡ emitted (cts ++ (if one then [] else twiddled-tile ∷ []))
    ct-either true e =
        ap (λ zs. nests (at_last (multiplied [] r s root) zs)) (append-nil turned)
        ∙ twiddled-nests Ct (turned_waiting p v r s) (turned_around c r s h root)
        (ap (λ x. if x then entries (twiddles r s root) (packed c r s) else none) e)
        ∙ ap emitted (sym (append-nil cts))
    ct-either false e =
        ap nests (at_last-append (multiplied [] r s root) turned (tile_after p v r s ∷ []) tt)
        ∙ nests-append turned (multiplied [] r s root (tile_after p v r s) ∷ [])
        ∙ ap₂ (λ xs x. xs ++ (x ∷ []) ∷ [])
        (free-nests Ct (turned_waiting p v r s) (turned_around c r s h root)
        (ap (λ x. if x then entries (twiddles r s root) (packed c r s) else none) e)) twiddled-behind
        ∙ sym (emitted-append cts (twiddled-tile ∷ []))

    pub ct_right : nests (at_last (multiplied [] r s root) (turned ++ (if v == 1 then [] else tile_after p v r s ∷ [])))
        ≡ emitted (tiles_before Ct c r s ++ (cts ++ tiles_after Ct c r s root))
    ct_right = ct-either (v == 1) refl

    -- ---- a split, or a dim

    module _ (rule : Rule) (into : (cs : ℕ → ℕ) (e : Sum) → root_in rule c r s cs e ≡ packed c r s cs e)
        (free : (right_root rule c r s root).factors ≡ none) where
      abbrev splits : List Pass
      splits = layout_emitted (right_root rule c r s root) b

      abbrev natural : List PlainPass
      natural = layout_passes (right_path p v r) [] b

      abbrev first-tile : Pass
      first-tile = emitted-tile (across c r s) none (along c r s)

      abbrev last-tile : Pass
      last-tile = emitted-tile (along c r s) none (across c r s)

      middle : nests natural ≡ emitted splits
      middle = free-nests rule [] (packed_around c r s h rule root into) free

      split-either : (one : Bool) →
          nests ((if one then [] else tile_before p v r s ∷ []) ++
          (natural ++ (if one then [] else tile_after p v r s ∷ [])))
          ≡ emitted ((if one then [] else first-tile ∷ []) ++ (splits ++ (if one then [] else last-tile ∷ [])))
      split-either true = ap nests (append-nil natural) ∙ middle ∙ ap emitted (sym (append-nil splits))
      split-either false =
          ap₂ (λ x xs. (x ∷ []) ∷ xs) before
          (nests-append natural (tile_after p v r s ∷ []) ∙ ap₂ (λ xs x. xs ++ (x ∷ []) ∷ []) middle behind
          ∙ sym (emitted-append splits (last-tile ∷ [])))

      pub split_right : nests
          ((if v == 1 then [] else tile_before p v r s ∷ []) ++
          (natural ++ (if v == 1 then [] else tile_after p v r s ∷ [])))
          ≡ emitted (tiles c r s (across c r s) none
          (along c r s) ++ (splits ++ tiles c r s (along c r s) none (across c r s)))
      split_right = split-either (v == 1)
