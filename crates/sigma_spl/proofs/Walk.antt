-- Merging keeps what terms do, whatever the passes take.
use Rattle.std.proofs.Common.{◌≡◌, ℕ, ◌*◌, ◌%◌, ◌<◌, Bool, true, false, refl, sym, ap, ◌∙◌, List, [], ◌∷◌, ◌++◌}
use Rattle.std.proofs.Common.{Option, Some, None, mod-lt, subst}
use Rattle.std.specs.Prelude.{slice_index, not, ◌&&◌, if◌then◌else◌}
use Rattle.std.specs.List.{list_all}
use Rattle.index_fn.specs.Mapping.{Mapping, at}
use Rattle.operators.specs.Loop.{IsPermutationBelow}
use Rattle.operators.specs.Sum.{list_below}
use Rattle.operators.specs.Operator.{Operator, gather, scale}
use Rattle.operators.proofs.Lists.{at-list_below, length-list_below, list_below-same}
use Rattle.sigma_spl.specs.Good.{MovesVectors, HasLanes, AreGoodNests, IsGoodPass, AreGoodPasses, IsFormed, IsMove}
use Rattle.spl_ast.specs.Meaning.{IsVector}
pub use Rattle.spl_ast.proofs.Vectors.{list_vector, residue_at}
use Rattle.sigma_spl.specs.Merge.{Room, most, unbounded, Merging, Taking, can_gather, can_scatter, gathered, scattered}
use Rattle.sigma_spl.specs.Merge.{multiplied, copying, take_gathers, copy_by, copies_before, settled, with_pass}
use Rattle.sigma_spl.specs.Merge.{backs_of, back_of, factor_places, is_free, can_take, is_tile, suits, with_copy}
use Rattle.sigma_spl.specs.Merge.{with_diagonal, with_scatter, from_end, ended}
use Rattle.sigma_spl.specs.Nest.{PlainFactors, spread, factor_at, factor_count, PlainMultiplier, PlainNest, nests_on}
use Rattle.sigma_spl.specs.Nest.{passes_on}
use Rattle.sigma_spl.specs.Term.{inner_of}
use Rattle.sigma_spl.specs.Work.{PlainWork, kernel, rows, horner, tile, copy}
use Rattle.sigma_spl.proofs.Nests.{through, AreFormed, AreFree, Suits, AllSuit, AreSuited, suiting, nests-gathered}
use Rattle.sigma_spl.proofs.Nests.{nests-scattered, nests-multiplied, gathered-good, scattered-good, multiplied-good}
use Rattle.sigma_spl.proofs.Moved.{table-good, table-on}
use Rattle.sigma_spl.proofs.Natural.{copying-same, copying-good}
use Rattle.operators.specs.Paths.Tensors.{Path}

-- ---- choices

pub chosen : {A : Type 0} (P : A → Type 0) (b : Bool) (x y : A) → (b ≡ true → P x) → P y → P (if b then x else y)
chosen P true x y h k = h refl
chosen P false x y h k = k

pub and-left : (a b : Bool) → (a && b) ≡ true → a ≡ true
and-left true b h = refl
and-left false b h = h

pub and-right : (a b : Bool) → (a && b) ≡ true → b ≡ true
and-right true b h = h
and-right false b h = absurd (no h) where
  no : false ≡ true → ⊥
  no e = absurd (cc)

-- ---- vectors

pub nests-vector : (m n : ℕ) (zs : List PlainNest) (x : List ℕ) → 0 < m → IsVector m n (nests_on m n zs x)
nests-vector m n zs x positive = list_vector m n _ (λ i below. mod-lt _ positive)

pub passes-vector : (m n : ℕ) (ps : List (List PlainNest)) (x : List ℕ) → 0 < m → IsVector m n x →
    IsVector m n (passes_on m n ps x)
passes-vector m n [] x positive v = v
passes-vector m n (zs ∷ ps) x positive v = nests-vector m n zs (passes_on m n ps x) positive

pub gather-vector : (m n : ℕ) (f : ℕ → ℕ) (x : List ℕ) → ((i : ℕ) → i < n → f i < n) → IsVector m n x →
    IsVector m n (gather n f x)
gather-vector m n f x stay v = list_vector m n _ (λ i below. residue_at m n x (f i) v (stay i below))

-- ---- gathers that wait

-- the latest first
abbrev pub waiting_on : ℕ → List Mapping → Operator
waiting_on n [] x = x
waiting_on n (f ∷ fs) x = gather n (at f) (waiting_on n fs x)

-- the earliest first
abbrev pub gathers_on : ℕ → List Mapping → Operator
gathers_on n [] x = x
gathers_on n (f ∷ fs) x = gathers_on n fs (gather n (at f) x)

abbrev pub AreMoves : (lanes : ℕ) → ℕ → List Mapping → Type 0
AreMoves lanes n [] = Unit {0}
AreMoves lanes n (f ∷ fs) = IsMove lanes n f × AreMoves lanes n fs

waiting-vector : (lanes : ℕ) → (m n : ℕ) (fs : List Mapping) (x : List ℕ) → AreMoves lanes n fs → IsVector m n x →
    IsVector m n (waiting_on n fs x)
waiting-vector lanes m n [] x h v = v
waiting-vector lanes m n (f ∷ fs) x h v = gather-vector m n (at f) (waiting_on n fs x) h.0.permutes.there_below (waiting-vector lanes m n fs x h.1 v)

gathers-append : (n : ℕ) (fs gs : List Mapping) (x : List ℕ) →
    gathers_on n (fs ++ gs) x ≡ gathers_on n gs (gathers_on n fs x)
gathers-append n [] gs x = refl
gathers-append n (f ∷ fs) gs x = gathers-append n fs gs (gather n (at f) x)

waiting-append : (n : ℕ) (fs gs : List Mapping) (x : List ℕ) →
    waiting_on n (fs ++ gs) x ≡ waiting_on n fs (waiting_on n gs x)
waiting-append n [] gs x = refl
waiting-append n (f ∷ fs) gs x = ap (gather n (at f)) (waiting-append n fs gs x)

pub gathers-end : (n : ℕ) (fs : List Mapping) (x : List ℕ) → gathers_on n (from_end fs) x ≡ waiting_on n fs x
gathers-end n [] x = refl
gathers-end n (f ∷ fs) x = gathers-append n (from_end fs) (f ∷ []) x ∙ ap (gather n (at f)) (gathers-end n fs x)

waiting-end : (n : ℕ) (fs : List Mapping) (x : List ℕ) → waiting_on n (from_end fs) x ≡ gathers_on n fs x
waiting-end n [] x = refl
waiting-end n (f ∷ fs) x = waiting-append n (from_end fs) (f ∷ []) x ∙ waiting-end n fs (gather n (at f) x)

moves-append : (lanes : ℕ) → (n : ℕ) (fs gs : List Mapping) → AreMoves lanes n fs → AreMoves lanes n gs →
    AreMoves lanes n (fs ++ gs)
moves-append lanes n [] gs h k = k
moves-append lanes n (f ∷ fs) gs h k = (h.0, moves-append lanes n fs gs h.1 k)

pub moves-end : (lanes : ℕ) → (n : ℕ) (fs : List Mapping) → AreMoves lanes n fs → AreMoves lanes n (from_end fs)
moves-end lanes n [] h = tt
moves-end lanes n (f ∷ fs) h = moves-append lanes n (from_end fs) (f ∷ []) (moves-end lanes n fs h.1) (h.0, tt)

-- ---- what stands

pub record Stands (lanes : ℕ) (m n : ℕ) (st : Merging) : Type 0 where
  pub moves : AreMoves lanes n st.waiting
  pub good : AreGoodPasses lanes m n st.passes

abbrev pub merging_on : ℕ → ℕ → Merging → Operator
merging_on m n st x = waiting_on n st.waiting (passes_on m n st.passes x)

-- a state stands, and does what an operator does after another
pub record Reaches (lanes : ℕ) (m n : ℕ) (next st : Merging) (a : Operator) : Type 0 where
  pub stands : Stands lanes m n next
  pub on : (x : List ℕ) → IsVector m n x → merging_on m n next x ≡ a (merging_on m n st x)

pub merging-vector : (lanes : ℕ) → (m n : ℕ) (st : Merging) (x : List ℕ) → 0 < m → Stands lanes m n st →
    IsVector m n x → IsVector m n (merging_on m n st x)
merging-vector lanes m n st x positive h v = waiting-vector lanes m n st.waiting (passes_on m n st.passes x) h.moves (passes-vector m n st.passes x positive v)

pub passes-append : (m n : ℕ) (ps qs : List (List PlainNest)) (x : List ℕ) →
    passes_on m n (ps ++ qs) x ≡ passes_on m n ps (passes_on m n qs x)
passes-append m n [] qs x = refl
passes-append m n (zs ∷ ps) qs x = ap (nests_on m n zs) (passes-append m n ps qs x)

pub good-append : (lanes : ℕ) → (m n : ℕ) (ps qs : List (List PlainNest)) → AreGoodPasses lanes m n ps →
    AreGoodPasses lanes m n qs → AreGoodPasses lanes m n (ps ++ qs)
good-append lanes m n [] qs h k = k
good-append lanes m n (zs ∷ ps) qs h k = (h.0, good-append lanes m n ps qs h.1 k)

-- ---- a pass takes gathers

pub record Takes (lanes : ℕ) (m n : ℕ) (taking : Taking) (zs : List PlainNest) (fs : List Mapping) : Type 0 where
  pub good : IsGoodPass lanes m n taking.pass
  pub moves : AreMoves lanes n taking.left
  pub on : (x : List ℕ) → nests_on m n taking.pass (waiting_on n taking.left x) ≡ nests_on m n zs (waiting_on n fs x)

takes : (lanes : ℕ) → (m n : ℕ) (room : Room) (zs : List PlainNest) (fs : List Mapping) → IsGoodPass lanes m n zs →
    AreMoves lanes n fs → Takes lanes m n (take_gathers room n zs fs) zs fs
takes lanes m n room zs [] h moves = record { good = h; moves = tt; on = λ x. refl }
takes lanes m n room zs (f ∷ fs) h moves =
    chosen (λ t. Takes lanes m n t zs (f ∷ fs)) (can_gather room n f zs) _ _
    (λ _.
    let rest = takes lanes m n room (gathered f zs) fs (gathered-good lanes m n f zs moves.0.there moves.0.vectors moves.0.permutes.there_below h) moves.1 in
    record { good = rest.good; moves = rest.moves; on = λ x. rest.on x ∙ nests-gathered lanes m n f zs (waiting_on n fs x) moves.0.there moves.0.vectors h.nests })
    (record { good = h; moves = moves; on = λ x. refl })

-- ---- copies of gathers

pub record Copied (lanes : ℕ) (m n : ℕ) (zs : List PlainNest) (f : Mapping) : Type 0 where
  pub good : IsGoodPass lanes m n zs
  pub on : (x : List ℕ) → IsVector m n x → nests_on m n zs x ≡ gather n (at f) x

copied : (lanes : ℕ) → (m n : ℕ) (room : Room) (f : Mapping) → IsMove lanes n f → Copied lanes m n (copy_by room n f) f
copied lanes m n room f move =
    let stay = move.permutes.there_below in
    chosen (λ zs. Copied lanes m n zs f) (can_gather room n f (copying n)) _ _
    (λ _.
    record {
      good = gathered-good lanes m n f (copying n) move.there move.vectors stay (copying-good lanes m n);
      on = λ x v. nests-gathered lanes m n f (copying n) x move.there move.vectors (copying-good lanes m n).nests ∙ copying-same m n (gather n (at f) x) (gather-vector m n (at f) x stay v);
    })
    (record { good = table-good lanes m n f stay; on = λ x v. table-on m n f x stay v })

pub record Copy (lanes : ℕ) (m n : ℕ) (ps : List (List PlainNest)) (a : Operator) : Type 0 where
  pub good : AreGoodPasses lanes m n ps
  pub on : (x : List ℕ) → IsVector m n x → passes_on m n ps x ≡ a x

copies : (lanes : ℕ) → (m n : ℕ) (room : Room) (zs : List PlainNest) (fs : List Mapping) → IsGoodPass lanes m n zs →
    AreMoves lanes n fs → Copy lanes m n (copies_before room n zs fs) (λ x. nests_on m n zs (waiting_on n fs x))
copies lanes m n room zs [] h moves = record { good = (h, tt); on = λ x v. refl }
copies lanes m n room zs (f ∷ fs) h moves =
    let stay = moves.0.permutes.there_below in
    chosen (λ ps. Copy lanes m n ps (λ x. nests_on m n zs (waiting_on n (f ∷ fs) x))) (can_gather room n f zs) _ _
    (λ _.
    let rest = copies lanes m n room (gathered f zs) fs (gathered-good lanes m n f zs moves.0.there moves.0.vectors stay h) moves.1 in
    record { good = rest.good; on = λ x v. rest.on x v ∙ nests-gathered lanes m n f zs (waiting_on n fs x) moves.0.there moves.0.vectors h.nests })
    (let rest = copies lanes m n room (copy_by room n f) fs (copied lanes m n room f moves.0).good moves.1 in
    record {
      good = (h, rest.good);
      on = λ x v.
          ap (nests_on m n zs)
          (rest.on x v ∙ (copied lanes m n room f moves.0).on (waiting_on n fs x) (waiting-vector lanes m n fs x moves.1 v));
    })

pub settled-are : (lanes : ℕ) → (m n : ℕ) (room : Room) (fs : List Mapping) → AreMoves lanes n fs →
    Copy lanes m n (settled room n fs) (waiting_on n fs)
settled-are lanes m n room [] moves = record { good = tt; on = λ x v. refl }
settled-are lanes m n room (f ∷ fs) moves =
    let stay = moves.0.permutes.there_below in
    let rest = copies lanes m n room (copy_by room n f) fs (copied lanes m n room f moves.0).good moves.1 in
    record {
      good = rest.good;
      on = λ x v. rest.on x v ∙ (copied lanes m n room f moves.0).on (waiting_on n fs x) (waiting-vector lanes m n fs x moves.1 v);
    }

-- ---- a pass more

pub pass-reaches : (lanes : ℕ) → (m n : ℕ) (room : Room) (st : Merging) (zs : List PlainNest) → 0 < m →
    IsGoodPass lanes m n zs → Stands lanes m n st → Reaches lanes m n (with_pass room n st zs) st (nests_on m n zs)
pass-reaches lanes m n room st zs positive h stands =
    let taken = takes lanes m n room zs st.waiting h stands.moves in
    let left = (take_gathers room n zs st.waiting).left in
    let copy = settled-are lanes m n room left taken.moves in
    record {
      stands = record { moves = tt; good = (taken.good, good-append lanes m n (settled room n left) st.passes copy.good stands.good) };
      on = λ x v.
          ap (nests_on m n (take_gathers room n zs st.waiting).pass) (passes-append m n (settled room n left) st.passes x ∙ copy.on (passes_on m n st.passes x) (passes-vector m n st.passes x positive v))
          ∙ taken.on (passes_on m n st.passes x);
    }

-- ---- a diagonal

through-append : (fs gs : List Mapping) (i : ℕ) → through (fs ++ gs) i ≡ through gs (through fs i)
through-append [] gs i = refl
through-append (f ∷ fs) gs i = through-append fs gs (at f i)

pub formed-append : (fs gs : List Mapping) → AreFormed fs → AreFormed gs → AreFormed (fs ++ gs)
formed-append [] gs h k = k
formed-append (f ∷ fs) gs h k = (h.0, formed-append fs gs h.1 k)

backs-formed : (lanes : ℕ) → (n : ℕ) (fs : List Mapping) → AreMoves lanes n fs → AreFormed (backs_of fs)
backs-formed lanes n [] h = tt
backs-formed lanes n (f ∷ fs) h = formed-append (backs_of fs) (back_of f ∷ []) (backs-formed lanes n fs h.1) (h.0.back, tt)

-- a diagonal after a gather is one before it
scale-gather : (m n : ℕ) (there back c : ℕ → ℕ) (x : List ℕ) → IsPermutationBelow n there back →
    scale m n c (gather n there x) ≡ gather n there (scale m n (λ i. c (back i)) x)
scale-gather m n there back c x p =
    list_below-same n _ _ (λ i below.
    ap (λ v. (c i * v) % m) (at-list_below n _ i below)
    ∙ ap (λ j. (c j * slice_index x (there i)) % m) (sym (p.back-there i below))
    ∙ sym (at-list_below n _ (there i) (p.there_below i below)))

scale-waiting : (lanes : ℕ) → (m n : ℕ) (fs : List Mapping) (c : ℕ → ℕ) (x : List ℕ) → AreMoves lanes n fs →
    scale m n c (waiting_on n fs x) ≡ waiting_on n fs (scale m n (λ i. c (through (backs_of fs) i)) x)
scale-waiting lanes m n [] c x h = refl
scale-waiting lanes m n (f ∷ fs) c x h =
    scale-gather m n (at f) (at (back_of f)) c (waiting_on n fs x) h.0.permutes
    ∙ ap (gather n (at f)) (scale-waiting lanes m n fs (λ i. c (at (back_of f) i)) x h.1)
    ∙ ap (λ (g : ℕ → ℕ). gather n (at f) (waiting_on n fs (scale m n g x))) (λ t i. c (sym (through-append (backs_of fs) (back_of f ∷ []) i) t))

factor-through : (m : ℕ) (waiting : List Mapping) (path : Path) (factors : PlainFactors) (i : ℕ) →
    factor_at m factors (through (factor_places waiting path factors) i)
    ≡ factor_at m factors (at (inner_of path (factor_count factors)) (through (backs_of waiting) i))
factor-through m waiting path factors i = ap (factor_at m factors) (through-append (backs_of waiting) (inner_of path (factor_count factors) ∷ []) i)

-- what a diagonal does to a list of n items
abbrev pub diagonal_on : ℕ → ℕ → Path → PlainFactors → Operator
diagonal_on m n path factors x = scale m n (λ w. factor_at m factors (at (inner_of path (factor_count factors)) w)) x

pub places-formed : (lanes : ℕ) → (n : ℕ) (waiting : List Mapping) (path : Path) (factors : PlainFactors) →
    AreMoves lanes n waiting → IsFormed (inner_of path (factor_count factors)) →
    AreFormed (factor_places waiting path factors)
places-formed lanes n waiting path factors h inner = formed-append (backs_of waiting) _ (backs-formed lanes n waiting h) (inner, tt)

-- a pass multiplied past the gathers that wait
multiplied-past : (lanes : ℕ) → (m n : ℕ) (waiting : List Mapping) (path : Path) (factors : PlainFactors)
    (zs : List PlainNest) (x : List ℕ) → 0 < m → AreMoves lanes n waiting →
    IsFormed (inner_of path (factor_count factors)) → AreSuited (factor_places waiting path factors) zs →
    AreGoodNests lanes m n zs → AreFree zs →
    waiting_on n waiting (nests_on m n (multiplied factors (factor_places waiting path factors) zs) x)
    ≡ diagonal_on m n path factors (waiting_on n waiting (nests_on m n zs x))
multiplied-past lanes m n waiting path factors zs x positive h inner suit good free =
    ap (waiting_on n waiting)
    (nests-multiplied lanes m n factors (factor_places waiting path factors) zs x positive (places-formed lanes n waiting path factors h inner) suit good free
    ∙ ap (λ (g : ℕ → ℕ). scale m n g (nests_on m n zs x)) (λ t i. factor-through m waiting path factors i t))
    ∙ sym (scale-waiting lanes m n waiting (λ w. factor_at m factors (at (inner_of path (factor_count factors)) w)) (nests_on m n zs x) h)

pub free-none : (o : Option PlainMultiplier) → is_free o ≡ true → o ≡ None
free-none None h = refl
free-none (Some d) h = absurd (cc)

pub free-all : (g : PlainNest → Bool) (zs : List PlainNest) →
    list_all (λ (z : PlainNest). is_free z.multiplier && g z) zs ≡ true → AreFree zs
free-all g [] h = tt
free-all g (z ∷ zs) h =
    (free-none z.multiplier (and-left (is_free z.multiplier) (g z) (and-left (is_free z.multiplier && g z) _ h)), free-all g zs (and-right (is_free z.multiplier && g z) _ h))

pub copying-free : (n : ℕ) → AreFree (copying n)
copying-free n = (refl, tt)

-- what can take a diagonal has none
pub taken-free : (room : Room) (n : ℕ) (factors : PlainFactors) (fs : List Mapping) (zs : List PlainNest) →
    can_take room n factors fs zs ≡ true → AreFree zs
taken-free (most room) n factors fs zs can = free-all _ zs can
taken-free unbounded n factors fs zs can = free-all (λ z. true) zs can

copies-suit : (fs : List Mapping) → AllSuit (copy 1) fs
copies-suit [] = tt
copies-suit (f ∷ fs) = (tt, copies-suit fs)

copying-suited : (n : ℕ) (fs : List Mapping) → AreSuited fs (copying n)
copying-suited n fs = (copies-suit fs, tt)

pub suit-append : (w : PlainWork) (fs gs : List Mapping) → AllSuit w fs → AllSuit w gs → AllSuit w (fs ++ gs)
suit-append w [] gs h k = k
suit-append w (f ∷ fs) gs h k = (h.0, suit-append w fs gs h.1 k)

backs-suit : (lanes n : ℕ) (w : PlainWork) (fs : List Mapping) → HasLanes lanes w → AreMoves lanes n fs →
    AllSuit w (backs_of fs)
backs-suit lanes n w [] tiles h = tt
backs-suit lanes n w (f ∷ fs) tiles h = suit-append w (backs_of fs) (back_of f ∷ []) (backs-suit lanes n w fs tiles h.1) (suiting lanes w (at (back_of f)) tiles h.0.back_vectors, tt)

pub none-moves : (lanes : ℕ) → MovesVectors lanes (λ i. i)
none-moves lanes = record { together = λ i j whole below. refl; begins = λ i whole some. whole }

pub loose-suits : (w : PlainWork) (f : Mapping) → not (is_tile w) ≡ true → Suits w (at f)
loose-suits (kernel trees) f h = tt
loose-suits (rows root d) f h = tt
loose-suits (horner root d) f h = tt
loose-suits (tile v) f h = absurd (cc)
loose-suits (copy d) f h = tt

-- the functions that lead to factors keep the words of tiles together
suited : (lanes : ℕ) (m n : ℕ) (waiting : List Mapping) (path : Path) (factors : PlainFactors) (zs : List PlainNest) →
    AreMoves lanes n waiting → AreGoodNests lanes m n zs → suits path zs ≡ true →
    AreSuited (factor_places waiting path factors) zs
suited lanes m n waiting path factors [] moves h can = tt
suited lanes m n waiting [] factors (z ∷ zs) moves h can = (
  suit-append z.work (backs_of waiting) _ (backs-suit lanes n z.work waiting h.0.tiles moves) (suiting lanes z.work (λ i. i) h.0.tiles (none-moves lanes), tt),
  suited lanes m n waiting [] factors zs moves h.1 refl,
)
suited lanes m n waiting (t ∷ path) factors (z ∷ zs) moves h can = (
  suit-append z.work (backs_of waiting) _ (backs-suit lanes n z.work waiting h.0.tiles moves) (loose-suits z.work (inner_of (t ∷ path) (factor_count factors)) (and-left (not (is_tile z.work)) _ can), tt),
  suited lanes m n waiting (t ∷ path) factors zs moves h.1 (and-right (not (is_tile z.work)) _ can),
)

copy-reaches : (lanes : ℕ) → (m n : ℕ) (room : Room) (st : Merging) (path : Path) (factors : PlainFactors) → 0 < m →
    IsFormed (inner_of path (factor_count factors)) → Stands lanes m n st →
    Reaches lanes m n (with_copy room n st path factors) st (diagonal_on m n path factors)
copy-reaches lanes m n room st path factors positive inner stands =
    let vector = λ (x : List ℕ) (v : IsVector m n x). passes-vector m n st.passes x positive v in
    let copy = settled-are lanes m n room st.waiting stands.moves in
    chosen (λ (next : Merging). Reaches lanes m n next st (diagonal_on m n path factors)) (can_take room n factors (factor_places st.waiting path factors) (copying n)) _ _
    (λ _.
    record {
      stands = record { moves = stands.moves; good = (multiplied-good lanes m n factors (factor_places st.waiting path factors) (copying n) (copying-good lanes m n), stands.good) };
      on = λ x v.
          multiplied-past lanes m n st.waiting path factors (copying n) (passes_on m n st.passes x) positive stands.moves inner (copying-suited n (factor_places st.waiting path factors)) (copying-good lanes m n).nests (copying-free n)
          ∙ ap (λ y. diagonal_on m n path factors (waiting_on n st.waiting y)) (copying-same m n (passes_on m n st.passes x) (vector x v));
    })
    (record {
      stands = record {
        moves = tt;
        good = (multiplied-good lanes m n (spread path factors) [] (copying n) (copying-good lanes m n), good-append lanes m n (settled room n st.waiting) st.passes copy.good stands.good);
      };
      on = λ x v.
          nests-multiplied lanes m n (spread path factors) [] (copying n) (passes_on m n (settled room n st.waiting ++ st.passes) x) positive tt (copying-suited n []) (copying-good lanes m n).nests (copying-free n)
          ∙ ap (diagonal_on m n path factors)
          (ap (nests_on m n (copying n)) (passes-append m n (settled room n st.waiting) st.passes x ∙ copy.on (passes_on m n st.passes x) (vector x v))
          ∙ copying-same m n (waiting_on n st.waiting (passes_on m n st.passes x)) (waiting-vector lanes m n st.waiting (passes_on m n st.passes x) stands.moves (vector x v)));
    })

pub diagonal-reaches : (lanes : ℕ) → (m n : ℕ) (room : Room) (waiting : List Mapping) (passes : List (List PlainNest))
    (path : Path) (factors : PlainFactors) → 0 < m → IsFormed (inner_of path (factor_count factors)) →
    AreMoves lanes n waiting → AreGoodPasses lanes m n passes →
    Reaches lanes m n (with_diagonal room n waiting passes path factors) (record { waiting = waiting; passes = passes }) (diagonal_on m n path factors)
diagonal-reaches lanes m n room waiting [] path factors positive inner moves good = copy-reaches lanes m n room (record { waiting = waiting; passes = [] }) path factors positive inner (record { moves = moves; good = tt })
diagonal-reaches lanes m n room waiting (zs ∷ ps) path factors positive inner moves good =
    let st : Merging = record { waiting = waiting; passes = zs ∷ ps } in
    chosen (λ (next : Merging). Reaches lanes m n next st (diagonal_on m n path factors)) (suits path zs && can_take room n factors (factor_places waiting path factors) zs) _ _
    (λ can.
    record {
      stands = record { moves = moves; good = (multiplied-good lanes m n factors (factor_places waiting path factors) zs good.0, good.1) };
      on = λ x v. multiplied-past lanes m n waiting path factors zs (passes_on m n ps x) positive moves inner (suited lanes m n waiting path factors zs moves good.0.nests (and-left (suits path zs) _ can)) good.0.nests (taken-free room n factors (factor_places waiting path factors) zs (and-right (suits path zs) _ can));
    })
    (copy-reaches lanes m n room st path factors positive inner (record { moves = moves; good = good }))

-- ---- a scatter

pub scatter-reaches : (lanes : ℕ) → (m n : ℕ) (room : Room) (waiting : List Mapping) (passes : List (List PlainNest))
    (f : Mapping) → IsFormed f → MovesVectors lanes (at f) → IsMove lanes n (back_of f) →
    IsPermutationBelow n (at (back_of f)) (at f) → AreMoves lanes n waiting → AreGoodPasses lanes m n passes →
    Reaches lanes m n (with_scatter room n waiting passes f) (record { waiting = waiting; passes = passes }) (gather n (at (back_of f)))
scatter-reaches lanes m n room [] [] f form whole back p moves good = record { stands = record { moves = (back, tt); good = tt }; on = λ x v. refl }
scatter-reaches lanes m n room [] (zs ∷ ps) f form whole back p moves good =
    chosen (λ (next : Merging). Reaches lanes m n next (record { waiting = []; passes = zs ∷ ps }) (gather n (at (back_of f)))) (can_scatter room n f zs) _ _
    (λ _.
    record {
      stands = record { moves = tt; good = (scattered-good lanes m n f (at (back_of f)) zs form whole p good.0, good.1) };
      on = λ x v. nests-scattered lanes m n f (at (back_of f)) zs (passes_on m n ps x) form whole p good.0.nests;
    })
    (record { stands = record { moves = (back, tt); good = good }; on = λ x v. refl })
scatter-reaches lanes m n room (g ∷ gs) passes f form whole back p moves good = record { stands = record { moves = (back, moves); good = good }; on = λ x v. refl }

-- ---- the end

pub ended-are : (lanes : ℕ) → (m n : ℕ) (room : Room) (fs : List Mapping) (passes : List (List PlainNest)) → 0 < m →
    AreMoves lanes n fs → AreGoodPasses lanes m n passes → Copy lanes m n (ended room n fs passes)
    (λ x. gathers_on n fs (passes_on m n passes x))
ended-are lanes m n room [] passes positive moves good = record { good = good; on = λ x v. refl }
ended-are lanes m n room (f ∷ fs) [] positive moves good =
    let copy = settled-are lanes m n room (from_end (f ∷ fs)) (moves-end lanes n (f ∷ fs) moves) in record { good = copy.good; on = λ x v. copy.on x v ∙ waiting-end n (f ∷ fs) x }
ended-are lanes m n room (f ∷ fs) (zs ∷ ps) positive moves good =
    let copy = settled-are lanes m n room (from_end (f ∷ fs)) (moves-end lanes n (f ∷ fs) moves) in
    let p = moves.0.permutes in
    chosen (λ qs. Copy lanes m n qs (λ x. gathers_on n (f ∷ fs) (passes_on m n (zs ∷ ps) x))) (can_scatter room n (back_of f) zs) _ _
    (λ _.
    let rest = ended-are lanes m n room fs (scattered (back_of f) zs ∷ ps) positive moves.1 (scattered-good lanes m n (back_of f) (at f) zs moves.0.back moves.0.back_vectors p good.0, good.1) in
    record { good = rest.good; on = λ x v. rest.on x v ∙ ap (gathers_on n fs) (nests-scattered lanes m n (back_of f) (at f) zs (passes_on m n ps x) moves.0.back moves.0.back_vectors p good.0.nests) })
    (record {
      good = good-append lanes m n (settled room n (from_end (f ∷ fs))) (zs ∷ ps) copy.good good;
      on = λ x v.
          passes-append m n (settled room n (from_end (f ∷ fs))) (zs ∷ ps) x
          ∙ copy.on (passes_on m n (zs ∷ ps) x) (passes-vector m n (zs ∷ ps) x positive v)
          ∙ waiting-end n (f ∷ fs) (passes_on m n (zs ∷ ps) x);
    })
