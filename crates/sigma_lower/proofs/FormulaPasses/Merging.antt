-- What is known of new nests is known of all nests that merging makes.
use Rattle.std.proofs.Common.{◌≡◌, ℕ, ◌+◌, ◌-◌, ◌*◌, ◌%◌, ◌<◌, ◌≤◌, List, [], ◌∷◌, ◌++◌, length, refl, sym, ap, ◌∙◌}
use Rattle.std.proofs.Common.{arith, Option, Some, None, map, slice_index, zero, suc, subst, ◌&&◌}
use Rattle.index_fn.specs.Mapping.{Mapping, at}
use Rattle.sigma_spl.specs.Copies.{loops_of}
use Rattle.sigma_spl.specs.Good.{AreSound, NamesItems, IsFormed, IsGoodTerm, IsGoodPass}
use Rattle.sigma_spl.specs.Limits.{AreSeveral, HasSeveral}
use Rattle.sigma_spl.specs.Loops.{AreFormed}
use Rattle.sigma_spl.specs.Merge.{place_sum, items_in, limits_of, renumbered, renumbered_places, gathered, scattered}
use Rattle.sigma_spl.specs.Merge.{multiplied, lifted, side, Room, less, Merging, Taking, nothing, new_nest, one_loop}
use Rattle.sigma_spl.specs.Merge.{copying, can_gather, can_scatter, can_take, suits, take_gathers, copy_by}
use Rattle.sigma_spl.specs.Merge.{copies_before, settled, with_pass, factor_places, with_copy, with_diagonal}
use Rattle.sigma_spl.specs.Merge.{with_scatter, back_of, from_end, ended, sides, with_passes, merged, if_any}
use Rattle.sigma_spl.specs.Merge.{passes_within}
use Rattle.sigma_spl.specs.Nest.{PlainFactors, factor_count, factor_at, PlainMultiplier, PlainNest, sum_value, spread}
use Rattle.sigma_spl.specs.Work.{PlainWork, kernel, rows, horner, tile, copy, node_of, short, work_size}
use Rattle.sigma_spl.proofs.Natural.{ranged, at-second, place-with, natural-good, copying-good}
use Rattle.sigma_spl.proofs.Nests.{length-map, names-simplified, sum-simplified, with_more, two_below}
use Rattle.sigma_spl.proofs.Sides.{rest_of, rest-range, sound-renumbered, up, lift-more, names-up}
use Rattle.perm_algebra.specs.Affine.{Sum, constant, variable, remainder, value, simplified}
use Rattle.operators.specs.Paths.Tensors.{Path, AreInRange, count_of, place, size_under}
use Rattle.tree_model.specs.Breakdown.{AllowsLeaf}
use Rattle.sigma_lower.proofs.TreeSigmas.Ready.{names-all}
use Rattle.operators.specs.Sum.{list_below}
use Rattle.operators.proofs.Lists.{length-list_below}
use Rattle.sigma_spl.proofs.Several.{loop_several}
use Rattle.sigma_spl.specs.Term.{PlainTerm, scat, diag, nest, move, product, beside}
use Rattle.sigma_spl.proofs.Keeps.{merged-reaches, nothing-stands, inner_positive, inner-formed}
use Rattle.sigma_spl.proofs.Moved.{moved-good, table-good}
use Rattle.sigma_spl.proofs.Walk.{chosen, AreMoves, moves-end, places-formed, Stands}
use Rattle.operators.specs.declared.paths.Tensor.TheVariants.{Blocks, Columns}

-- ---- what is known of a nest of a formula's passes, which all that a pass takes keeps

-- ---- nests

-- a short transform, a longer one row by row, or copies
abbrev pub IsFormulaWork : PlainWork → Type 0
IsFormulaWork (kernel (short kind root d)) = AllowsLeaf kind d × (d ≤ 8)
IsFormulaWork (kernel (node_of p t)) = ⊥
IsFormulaWork (rows root size) = ⊥
IsFormulaWork (horner root size) = 0 < size
IsFormulaWork (tile lanes) = ⊥
IsFormulaWork (copy size) = 0 < size

-- what a copy loads does not hang on the row
abbrev pub HasEachRow : List ℕ → ℕ → List Sum → Type 0
HasEachRow counts d sums = (vs : List ℕ) (row k : ℕ) → AreInRange (loops_of counts) vs → row < d → k < d → sum_value sums 0 (vs ++ row ∷ k ∷ []) ≡ sum_value sums 0 (vs ++ 0 ∷ k ∷ [])

abbrev pub IsAlike : List ℕ → PlainWork → List Sum → Type 0
IsAlike counts (horner root d) sums = HasEachRow counts d sums
IsAlike counts w sums = Unit {0}

-- the factors of a diagonal are residues
abbrev pub AreResidues : ℕ → PlainFactors → Type 0
AreResidues m factors = (i : ℕ) → factor_at m factors i < m

pub record IsDiagonal (m : ℕ) (factors : PlainFactors) : Type 0 where
  pub residues : AreResidues m factors
  pub some : 0 < factor_count factors
  pub few : factor_count factors ≤ 1048576

abbrev pub HasDiagonal : ℕ → PlainWork → Option PlainMultiplier → Type 0
HasDiagonal m w None = Unit {0}
HasDiagonal m w (Some d) = NamesItems w d.places × IsDiagonal m d.factors

abbrev pub AreMany : List ℕ → Type 0
AreMany [] = Unit {0}
AreMany (c ∷ counts) = (2 ≤ c) × AreMany counts

pub record IsMade (m : ℕ) (z : PlainNest) : Type 0 where
  pub work : IsFormulaWork z.work
  pub counts : AreMany z.counts
  pub gathers : NamesItems z.work z.gathers
  pub scatters : NamesItems z.work z.scatters
  pub diagonal : HasDiagonal m z.work z.multiplier
  pub alike : IsAlike z.counts z.work z.gathers

abbrev pub AreMade : ℕ → List PlainNest → Type 0
AreMade m [] = Unit {0}
AreMade m (z ∷ zs) = IsMade m z × AreMade m zs

abbrev pub AllMade : ℕ → List (List PlainNest) → Type 0
AllMade m [] = Unit {0}
AllMade m (zs ∷ ps) = AreMade m zs × AllMade m ps

pub made-append : (m : ℕ) (zs ys : List PlainNest) → AreMade m zs → AreMade m ys → AreMade m (zs ++ ys)
made-append m [] ys h g = g
made-append m (z ∷ zs) ys h g = (h.0, made-append m zs ys h.1 g)

pub all-append : (m : ℕ) (ps qs : List (List PlainNest)) → AllMade m ps → AllMade m qs → AllMade m (ps ++ qs)
all-append m [] qs h g = g
all-append m (zs ∷ ps) qs h g = (h.0, all-append m ps qs h.1 g)

-- what keeps this of a nest keeps it of all
made-map : (m : ℕ) (g : PlainNest → PlainNest) → ((z : PlainNest) → IsMade m z → IsMade m (g z)) →
    (zs : List PlainNest) → AreMade m zs → AreMade m (map g zs)
made-map m g keeps [] h = tt
made-map m g keeps (z ∷ zs) h = (keeps z h.0, made-map m g keeps zs h.1)

-- ---- permutations

alike-simplified : (counts : List ℕ) (w : PlainWork) (f : Mapping) (sums : List Sum) → IsFormed f → NamesItems w sums →
    IsAlike counts w sums →
    IsAlike counts w (map (simplified (slice_index (counts ++ work_size w ∷ work_size w ∷ [])) f) sums)
alike-simplified counts (horner root d) f sums form names h = λ vs row k range below under.
    sum-simplified _ f sums 0 (vs ++ row ∷ k ∷ []) form names.sound (omega (arith, names.enough)) (with_more counts d vs (row ∷ k ∷ []) range (two_below d row k below under))
    ∙ ap (at f) (h vs row k range below under)
    ∙ sym (sum-simplified _ f sums 0 (vs ++ 0 ∷ k ∷ []) form names.sound (omega (arith, names.enough)) (with_more counts d vs (0 ∷ k ∷ []) range (two_below d 0 k (omega (arith, below)) under)))
alike-simplified counts _ f sums form names h = tt

pub made-gathered : (m : ℕ) (f : Mapping) (zs : List PlainNest) → IsFormed f → AreMade m zs → AreMade m (gathered f zs)
made-gathered m f zs form h = made-map m _ (λ z made. record {
  work = made.work;
  counts = made.counts;
  gathers = names-simplified z.work (limits_of z) f z.gathers form made.gathers;
  scatters = made.scatters;
  diagonal = made.diagonal;
  alike = alike-simplified z.counts z.work f z.gathers form made.gathers made.alike;
}) zs h

pub made-scattered : (m : ℕ) (f : Mapping) (zs : List PlainNest) → IsFormed f → AreMade m zs →
    AreMade m (scattered f zs)
made-scattered m f zs form h = made-map m _ (λ z made. record {
  work = made.work;
  counts = made.counts;
  gathers = made.gathers;
  scatters = names-simplified z.work (limits_of z) f z.scatters form made.scatters;
  diagonal = made.diagonal;
  alike = made.alike;
}) zs h

-- ---- diagonals

pub made-multiplied : (m : ℕ) (factors : PlainFactors) (fs : List Mapping) (zs : List PlainNest) →
    IsDiagonal m factors → AreFormed fs → AreMade m zs → AreMade m (multiplied factors fs zs)
made-multiplied m factors fs zs diagonal form h = made-map m _ (λ z made. record {
  work = made.work;
  counts = made.counts;
  gathers = made.gathers;
  scatters = made.scatters;
  diagonal = (names-all z.work (limits_of z) fs z.scatters form made.scatters, diagonal);
  alike = made.alike;
}) zs h

-- ---- side by side

alike-up : (path : Path) (n before : ℕ) (counts : List ℕ) (w : PlainWork) (sums : List Sum) → NamesItems w sums →
    IsAlike counts w sums → IsAlike (map count_of path ++ counts) w (map (up path n before) sums)
alike-up path n before counts (horner root d) sums names h = λ vs row k range below under.
    lift-more path n before sums counts vs (row ∷ k ∷ []) (omega (arith, names.enough)) range
    ∙ ap (λ v. place path n vs (before + v)) (h (rest_of path vs) row k (rest-range path counts vs range) below under)
    ∙ sym (lift-more path n before sums counts vs (0 ∷ k ∷ []) (omega (arith, names.enough)) range)
alike-up path n before counts _ sums names h = tt

many-under : (path : Path) (counts : List ℕ) → AreSeveral path → AreMany counts → AreMany (map count_of path ++ counts)
many-under [] counts several h = h
many-under (t ∷ path) counts several h = (several.0, many-under path counts several.1 h)

pub many-path : (path : Path) → AreSeveral path → AreMany (map count_of path)
many-path [] several = tt
many-path (t ∷ path) several = (several.0, many-path path several.1)

sound-all : (k : ℕ) (sums : List Sum) → AreSound sums → AreSound (map (renumbered k) sums)
sound-all k [] h = tt
sound-all k (e ∷ es) h = (sound-renumbered k e h.0, sound-all k es h.1)

diagonal-up : (m k : ℕ) (w : PlainWork) (o : Option PlainMultiplier) → HasDiagonal m w o →
    HasDiagonal m w (renumbered_places k o)
diagonal-up m k w None h = tt
diagonal-up m k w (Some d) h = (record { enough = let same = length-map (renumbered k) d.places in omega (arith, h.0.enough, same); sound = sound-all k d.places h.0.sound }, h.1)

made-lifted : (m : ℕ) (path : Path) (n before : ℕ) (zs : List PlainNest) → AreSeveral path → AreMade m zs →
    AreMade m (map (lifted path n before) zs)
made-lifted m path n before zs several h = made-map m (lifted path n before) (λ z made. record {
  work = made.work;
  counts = many-under path z.counts several made.counts;
  gathers = names-up path n before z.work z.gathers made.gathers;
  scatters = names-up path n before z.work z.scatters made.scatters;
  diagonal = diagonal-up m (length path) z.work z.multiplier made.diagonal;
  alike = alike-up path n before z.counts z.work z.gathers made.gathers made.alike;
}) zs h

pub made-side : (m : ℕ) (path : Path) (k l : ℕ) (zs ys : List PlainNest) → AreSeveral path → AreMade m zs →
    AreMade m ys → AreMade m (side path k l zs ys)
made-side m path k l zs ys several h g = made-append m (map (lifted path (k + l) 0) zs) _ (made-lifted m path (k + l) 0 zs several h) (made-lifted m path (k + l) k ys several g)

-- ---- new nests

turn-alike : (path : Path) (d : ℕ) (e : Sum) → ((vs : List ℕ) (row k : ℕ) → AreInRange path vs →
    value e (slice_index (vs ++ row ∷ k ∷ [])) ≡ value e (slice_index (vs ++ 0 ∷ k ∷ []))) →
    HasEachRow (map count_of path) d (place_sum path d 0 e ∷ [])
turn-alike path d e same vs row k range below under =
    let there = ranged path vs range in place-with path d e vs (row ∷ k ∷ []) _ there (same vs row k there) ∙ sym (place-with path d e vs (0 ∷ k ∷ []) _ there refl)

last-value : (path : Path) (vs : List ℕ) (row k : ℕ) → AreInRange path vs →
    slice_index (vs ++ row ∷ k ∷ []) (length path + 1) ≡ k
last-value path vs row k range = ap (slice_index (vs ++ row ∷ k ∷ [])) (omega arith) ∙ at-second path vs row k range

pub new-alike : (path : Path) (w : PlainWork) → IsAlike (map count_of path) w
    (map (place_sum path (work_size w) 0) (items_in w (length path)))
new-alike path (kernel trees) = tt
new-alike path (horner root d) =
    turn-alike path d (remainder 1 (variable (d - 1) (length path + 1) (constant (d - 1))) d (constant 0))
    (λ vs row k range. ap (λ v. 1 * (((d - 1) * v + (d - 1)) % d) + 0) (last-value path vs row k range ∙ sym (last-value path vs 0 k range)))
new-alike path _ = tt

-- ---- what is known of new nests is known of all nests that merging makes

-- ---- terms

-- a term of short and long transforms, whose diagonals have residues
abbrev pub IsFormulaTerm : ℕ → PlainTerm → Type 0
IsFormulaTerm m (diag path factors) = AreResidues m factors
IsFormulaTerm m (nest path w) = IsFormulaWork w
IsFormulaTerm m (product a b) = IsFormulaTerm m a × IsFormulaTerm m b
IsFormulaTerm m (beside path k a l b) = IsFormulaTerm m a × IsFormulaTerm m b
IsFormulaTerm m t = Unit {0}

-- ---- sizes

at-least : (c n : ℕ) → 0 < c * n → n ≤ c * n
at-least zero n h = let none : 0 * n ≡ 0 = omega arith in absurd (omega (arith, h, none))
at-least (suc c) n h = let cut : suc c * n ≡ n + c * n = omega arith in omega (arith, cut)

pub inner-least : (path : Path) (n : ℕ) → 0 < size_under path n → n ≤ size_under path n
inner-least [] n h = omega arith
inner-least (Blocks c ∷ path) n h =
    let least = at-least c (size_under path n) h in
    let rest = inner-least path n (inner_positive (Blocks c ∷ []) (size_under path n) h) in omega (arith, least, rest)
inner-least (Columns c ∷ path) n h =
    let turned : size_under path n * c ≡ c * size_under path n = omega arith in
    let least = at-least c (size_under path n) (omega (arith, turned, h)) in
    let rest = inner-least path n (inner_positive (Columns c ∷ []) (size_under path n) h) in omega (arith, least, rest, turned)

-- ---- new passes

pub new-made : (m n : ℕ) (path : Path) (w : PlainWork) → IsFormulaWork w → AreSeveral path →
    IsGoodPass 0 m n (new_nest path w (items_in w (length path)) ∷ []) →
    AreMade m (new_nest path w (items_in w (length path)) ∷ [])
new-made m n path w work several good =
    (record { work = work; counts = many-path path several; gathers = good.nests.0.gathers; scatters = good.nests.0.scatters; diagonal = tt; alike = new-alike path w }, tt)

pub moved-made : (m n : ℕ) (path : Path) (ks : List ℕ) → 0 < length ks → AreSeveral path →
    IsGoodPass 0 m n (new_nest path (copy (length ks)) (map constant ks) ∷ []) →
    AreMade m (new_nest path (copy (length ks)) (map constant ks) ∷ [])
moved-made m n path ks some several good =
    (record { work = some; counts = many-path path several; gathers = good.nests.0.gathers; scatters = good.nests.0.scatters; diagonal = tt; alike = tt }, tt)

module _ (m n : ℕ) (some : 0 < n) (high : n ≤ 1048576) where
  copying-made : AreMade m (copying n)
  copying-made = new-made m n (one_loop n) (copy 1) (omega arith) (loop_several n some) (copying-good 0 m n)

  table-made : (f : Mapping) → ((i : ℕ) → i < n → at f i < n) →
      AreMade m (new_nest [] (copy (length (list_below n (at f)))) (map constant (list_below n (at f))) ∷ [])
  table-made f stay = let size = length-list_below n (at f) in moved-made m n [] (list_below n (at f)) (omega (arith, size, some)) tt (table-good 0 m n f stay)

  -- ---- gathers

  made-take : (room : Room) (zs : List PlainNest) (fs : List Mapping) → AreMoves 0 n fs → AreMade m zs →
      AreMade m (take_gathers room n zs fs).pass
  made-take room zs [] moves h = h
  made-take room zs (f ∷ fs) moves h = chosen (λ (t : Taking). AreMade m t.pass) (can_gather room n f zs) _ _ (λ _. made-take room (gathered f zs) fs moves.1 (made-gathered m f zs moves.0.there h)) h

  left-moves : (room : Room) (zs : List PlainNest) (fs : List Mapping) → AreMoves 0 n fs →
      AreMoves 0 n (take_gathers room n zs fs).left
  left-moves room zs [] moves = tt
  left-moves room zs (f ∷ fs) moves = chosen (λ (t : Taking). AreMoves 0 n t.left) (can_gather room n f zs) _ _ (λ _. left-moves room (gathered f zs) fs moves.1) moves

  made-by : (room : Room) (f : Mapping) → AreMoves 0 n (f ∷ []) → AreMade m (copy_by room n f)
  made-by room f moves = chosen (AreMade m) (can_gather room n f (copying n)) _ _ (λ _. made-gathered m f (copying n) moves.0.there copying-made) (table-made f moves.0.permutes.there_below)

  made-copies : (room : Room) (zs : List PlainNest) (fs : List Mapping) → AreMoves 0 n fs → AreMade m zs →
      AllMade m (copies_before room n zs fs)
  made-copies room zs [] moves h = (h, tt)
  made-copies room zs (f ∷ fs) moves h =
      chosen (AllMade m) (can_gather room n f zs) _ _
      (λ _. made-copies room (gathered f zs) fs moves.1 (made-gathered m f zs moves.0.there h))
      (h, made-copies room (copy_by room n f) fs moves.1 (made-by room f (moves.0, tt)))

  made-settled : (room : Room) (fs : List Mapping) → AreMoves 0 n fs → AllMade m (settled room n fs)
  made-settled room [] moves = tt
  made-settled room (f ∷ fs) moves = made-copies room (copy_by room n f) fs moves.1 (made-by room f (moves.0, tt))

  made-pass : (room : Room) (st : Merging) (zs : List PlainNest) → AreMoves 0 n st.waiting → AllMade m st.passes →
      AreMade m zs → AllMade m (with_pass room n st zs).passes
  made-pass room st zs moves before h =
      (made-take room zs st.waiting moves h, all-append m (settled room n (take_gathers room n zs st.waiting).left) st.passes (made-settled room _ (left-moves room zs st.waiting moves)) before)

  -- ---- diagonals

  diagonal-of : (path : Path) (factors : PlainFactors) → AreResidues m factors →
      size_under path (factor_count factors) ≡ n → IsDiagonal m factors
  diagonal-of path factors residues count =
      let positive : 0 < size_under path (factor_count factors) = omega (arith, count, some) in
      let least = inner-least path (factor_count factors) positive in
      record { residues = residues; some = inner_positive path (factor_count factors) positive; few = omega (arith, least, count, high) }

  spread-of : (path : Path) (factors : PlainFactors) → AreResidues m factors →
      size_under path (factor_count factors) ≡ n → IsDiagonal m (spread path factors)
  spread-of path factors residues count = record { residues = λ i. residues _; some = omega (arith, count, some); few = omega (arith, count, high) }

  places-of : (waiting : List Mapping) (path : Path) (factors : PlainFactors) → AreMoves 0 n waiting →
      size_under path (factor_count factors) ≡ n → AreFormed (factor_places waiting path factors)
  places-of waiting path factors moves count = places-formed 0 n waiting path factors moves (inner-formed path (factor_count factors) (omega (arith, count, some)))

  made-copy : (room : Room) (st : Merging) (path : Path) (factors : PlainFactors) → AreResidues m factors →
      size_under path (factor_count factors) ≡ n → AreMoves 0 n st.waiting → AllMade m st.passes →
      AllMade m (with_copy room n st path factors).passes
  made-copy room st path factors residues count moves before =
      chosen (λ (next : Merging). AllMade m next.passes) (can_take room n factors (factor_places st.waiting path factors) (copying n)) _ _
      (λ _. (made-multiplied m factors (factor_places st.waiting path factors) (copying n) (diagonal-of path factors residues count) (places-of st.waiting path factors moves count) copying-made, before))
      (made-multiplied m (spread path factors) [] (copying n) (spread-of path factors residues count) tt copying-made, all-append m (settled room n st.waiting) st.passes (made-settled room st.waiting moves) before)

  made-diagonal : (room : Room) (waiting : List Mapping) (passes : List (List PlainNest)) (path : Path)
      (factors : PlainFactors) → AreResidues m factors → size_under path (factor_count factors) ≡ n →
      AreMoves 0 n waiting → AllMade m passes →
      AllMade m (with_diagonal room n waiting passes path factors).passes
  made-diagonal room waiting [] path factors residues count moves before = made-copy room (record { waiting = waiting; passes = [] }) path factors residues count moves before
  made-diagonal room waiting (zs ∷ ps) path factors residues count moves before =
      chosen (λ (next : Merging). AllMade m next.passes) (suits path zs && can_take room n factors (factor_places waiting path factors) zs) _ _
      (λ _. (made-multiplied m factors (factor_places waiting path factors) zs (diagonal-of path factors residues count) (places-of waiting path factors moves count) before.0, before.1))
      (made-copy room (record { waiting = waiting; passes = zs ∷ ps }) path factors residues count moves before)

  -- ---- scatters

  made-scatter : (room : Room) (waiting : List Mapping) (passes : List (List PlainNest)) (f : Mapping) → IsFormed f →
      AllMade m passes → AllMade m (with_scatter room n waiting passes f).passes
  made-scatter room [] (zs ∷ ps) f form before = chosen (λ (next : Merging). AllMade m next.passes) (can_scatter room n f zs) _ _ (λ _. (made-scattered m f zs form before.0, before.1)) before
  made-scatter room _ _ f form before = before

  made-ended : (room : Room) (fs : List Mapping) (passes : List (List PlainNest)) → AreMoves 0 n fs → AllMade m passes →
      AllMade m (ended room n fs passes)
  made-ended room [] passes moves before = before
  made-ended room (f ∷ fs) [] moves before = made-settled room (from_end (f ∷ fs)) (moves-end 0 n (f ∷ fs) moves)
  made-ended room (f ∷ fs) (zs ∷ ps) moves before =
      chosen (AllMade m) (can_scatter room n (back_of f) zs) _ _
      (λ _. made-ended room fs (scattered (back_of f) zs ∷ ps) moves.1 (made-scattered m (back_of f) zs moves.0.back before.0, before.1))
      (all-append m (settled room n (from_end (f ∷ fs))) (zs ∷ ps) (made-settled room (from_end (f ∷ fs)) (moves-end 0 n (f ∷ fs) moves)) before)

  -- ---- several passes more

  made-passes : (room : Room) (st : Merging) (ps : List (List PlainNest)) → AreMoves 0 n st.waiting →
      AllMade m st.passes → AllMade m ps → AllMade m (with_passes room n st ps).passes
  made-passes room st [] moves before h = before
  made-passes room st (zs ∷ []) moves before h = made-pass room st zs moves before h.0
  made-passes room st (zs ∷ ys ∷ ps) moves before h = (h.0, made-passes room st (ys ∷ ps) moves before h.1)

made-sides : (m k l : ℕ) (path : Path) (ps qs : List (List PlainNest)) → 0 < k → k ≤ 1048576 → 0 < l → l ≤ 1048576 →
    AreSeveral path → AllMade m ps → AllMade m qs → AllMade m (sides path k l ps qs)
made-sides m k l path [] [] some small more low several h g = tt
made-sides m k l path (zs ∷ ps) [] some small more low several h g = (made-side m path k l zs (copying l) several h.0 (copying-made m l more low), made-sides m k l path ps [] some small more low several h.1 tt)
made-sides m k l path [] (ys ∷ qs) some small more low several h g = (made-side m path k l (copying k) ys several (copying-made m k some small) g.0, made-sides m k l path [] qs some small more low several tt g.1)
made-sides m k l path (zs ∷ ps) (ys ∷ qs) some small more low several h g = (made-side m path k l zs ys several h.0 g.0, made-sides m k l path ps qs some small more low several h.1 g.1)

-- ---- terms

-- what is asked for of a term
pub record IsCodable (m n : ℕ) (t : PlainTerm) : Type 0 where
  pub good : IsGoodTerm 0 n t
  pub several : HasSeveral t
  pub formula : IsFormulaTerm m t

made-merged : (m n : ℕ) (room : Room) (st : Merging) (t : PlainTerm) → 0 < m → 0 < n → n ≤ 1048576 → IsGoodTerm 0 n t →
    HasSeveral t → IsFormulaTerm m t → Stands 0 m n st → AllMade m st.passes → AllMade m (merged room n st t).passes
made-merged m n room st (scat f) positive some high good several form stands before = made-scatter m n some high room st.waiting st.passes f good.0.there before
made-merged m n room st (diag path factors) positive some high good several form stands before = made-diagonal m n some high room st.waiting st.passes path factors form good stands.moves before
made-merged m n room st (nest path w) positive some high good several form stands before =
    made-pass m n some high room st _ stands.moves before
    (new-made m n path w form several.0 (natural-good 0 m n path w good.0 (inner_positive path (work_size w) (subst (λ z. 0 < z) (sym good.1) some)) good.1))
made-merged m n room st (move path ks) positive some high good several form stands before =
    made-pass m n some high room st _ stands.moves before
    (moved-made m n path ks (inner_positive path (length ks) (subst (λ z. 0 < z) (sym good.1) some)) several (moved-good 0 m n path ks good.0 good.1))
made-merged m n room st (product a b) positive some high good several form stands before =
    let first = merged-reaches 0 m n room st a positive some good.0 stands in
    made-merged m n room (merged room n st a) b positive some high good.1 several.1 form.1 first.stands (made-merged m n room st a positive some high good.0 several.0 form.0 stands before)
made-merged m n room st (beside path k a l b) positive some high good several form stands before =
    let inner = less room (length path) in
    let least = inner-least path (k + l) (let size = good.2 in omega (arith, size, some)) in
    let size = good.2 in
    let left : k ≤ 1048576 = omega (arith, least, size, high) in
    let right : l ≤ 1048576 = omega (arith, least, size, high) in
    let one = merged-reaches 0 m k inner nothing a positive good.0 good.3 (nothing-stands 0 m k) in
    let two = merged-reaches 0 m l inner nothing b positive good.1 good.4 (nothing-stands 0 m l) in
    let first = merged inner k nothing a in
    let second = merged inner l nothing b in
    let ps = made-ended m k good.0 left inner (from_end first.waiting) first.passes (moves-end 0 k first.waiting one.stands.moves) (made-merged m k inner nothing a positive good.0 left good.3 several.1 form.0 (nothing-stands 0 m k) tt) in
    let qs = made-ended m l good.1 right inner (from_end second.waiting) second.passes (moves-end 0 l second.waiting two.stands.moves) (made-merged m l inner nothing b positive good.1 right good.4 several.2 form.1 (nothing-stands 0 m l) tt) in
    made-passes m n some high room st _ stands.moves before (made-sides m k l path _ _ good.0 left good.1 right several.0 ps qs)
made-merged m n room st _ positive some high good several form stands before = before

made-any : (m n : ℕ) (ps : List (List PlainNest)) → 0 < n → n ≤ 1048576 → AllMade m ps → AllMade m (if_any n ps)
made-any m n [] some high h = (copying-made m n some high, tt)
made-any m n (zs ∷ ps) some high h = h

-- all nests of its passes
pub passes-made : (m n : ℕ) (room : Room) (t : PlainTerm) → 0 < m → 0 < n → n ≤ 1048576 → IsCodable m n t →
    AllMade m (passes_within room n t)
passes-made m n room t positive some high h =
    let all = merged room n nothing t in
    let reached = merged-reaches 0 m n room nothing t positive some h.good (nothing-stands 0 m n) in
    made-any m n _ some high
    (made-ended m n some high room (from_end all.waiting) all.passes (moves-end 0 n all.waiting reached.stands.moves) (made-merged m n room nothing t positive some high h.good h.several h.formula (nothing-stands 0 m n) tt))
