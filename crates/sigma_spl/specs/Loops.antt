-- Loops by the functions that make their places: what merging makes of terms in order, where no place is over a limit.
use Rattle.std.specs.Prelude.{◌≡◌, ℕ, ◌<◌, true, List, [], ◌∷◌, ◌++◌, length, map, slice_index, Option, Some, None}
use Rattle.std.specs.List.{list_all}
use Rattle.index_fn.specs.Mapping.{Mapping, at}
use Rattle.sigma_spl.specs.Copies.{loops_of}
use Rattle.sigma_spl.specs.Good.{MovesVectors, CanNest, IsFormed, IsGoodTerm}
use Rattle.sigma_spl.specs.Merge.{place_sum, items_in, items_out, all_simplified, carries_sum, suits, Room, most}
use Rattle.sigma_spl.specs.Merge.{unbounded, passes_within}
use Rattle.sigma_spl.specs.Nest.{PlainFactors, factor_count, PlainMultiplier, PlainNest, load_place, store_place}
use Rattle.sigma_spl.specs.Term.{PlainTerm, same, gath, scat, diag, nest, move, product, beside, inner_of}
use Rattle.sigma_spl.specs.Work.{PlainWork, tile, work_size}
use Rattle.perm_algebra.specs.Affine.{Sum}
use Rattle.operators.specs.Paths.Tensors.{Path, count_of, place, AreInRange}

-- the factors of a diagonal, at what these functions make of the natural place of an item
pub record PlainTaken : Type 0 where
  pub factors : PlainFactors
  pub places : List Mapping

-- copies of some work under the tensors of a path, with the functions that lead from natural places to those of loads
-- and stores, the first of which is applied first
pub record PlainLoop : Type 0 where
  pub path : Path
  pub work : PlainWork
  pub befores : List Mapping
  pub taken : Option PlainTaken
  pub afters : List Mapping

-- one function after the other
abbrev pub through : List Mapping → ℕ → ℕ
through [] i = i
through (f ∷ fs) i = through fs (at f i)

-- ---- as a nest

abbrev pub limits_in : PlainLoop → ℕ → ℕ
limits_in p = slice_index (map count_of p.path ++ work_size p.work ∷ work_size p.work ∷ [])

-- what the functions make of the natural places of items
abbrev pub places_by : PlainLoop → List Mapping → List Sum → List Sum
places_by p fs items = map (all_simplified (limits_in p) fs) (map (place_sum p.path (work_size p.work) 0) items)

abbrev pub multiplier_of : PlainLoop → Option PlainTaken → Option PlainMultiplier
multiplier_of p None = None
multiplier_of p (Some d) =
    Some (record { factors = d.factors; places = places_by p d.places (items_out p.work (length p.path)) })

abbrev pub nest_of : PlainLoop → PlainNest
nest_of p =
    record {
      counts = map count_of p.path;
      work = p.work;
      gathers = places_by p p.befores (items_in p.work (length p.path));
      multiplier = multiplier_of p p.taken;
      scatters = places_by p p.afters (items_out p.work (length p.path));
    }

-- ---- merging

-- the gathers that wait and the loops so far, the latest first
pub record Looping : Type 0 where
  pub waiting : List Mapping
  pub loops : List PlainLoop

abbrev pub begun : Looping
begun = record { waiting = []; loops = [] }

abbrev pub stored_last : Mapping → List PlainLoop → List PlainLoop
stored_last f [] = []
stored_last f (p ∷ ps) = record {
  path = p.path;
  work = p.work;
  befores = p.befores;
  taken = p.taken;
  afters = p.afters ++ f ∷ [];
} ∷ ps

abbrev pub scaled_last : Path → PlainFactors → List PlainLoop → List PlainLoop
scaled_last path factors [] = []
scaled_last path factors (p ∷ ps) =
    record {
      path = p.path;
      work = p.work;
      befores = p.befores;
      taken = Some (record { factors = factors; places = p.afters ++ inner_of path (factor_count factors) ∷ [] });
      afters = p.afters;
    } ∷ ps

-- a gather waits for the next loop, and a scatter or a diagonal goes into the last one
abbrev pub looped : Looping → PlainTerm → Looping
looped st same = st
looped st (gath f) = record { waiting = f ∷ st.waiting; loops = st.loops }
looped st (scat f) = record { waiting = st.waiting; loops = stored_last f st.loops }
looped st (diag path factors) = record { waiting = st.waiting; loops = scaled_last path factors st.loops }
looped st (nest path w) = record {
  waiting = [];
  loops = record { path = path; work = w; befores = st.waiting; taken = None; afters = [] } ∷ st.loops;
}
looped st (move path ks) = st
looped st (product a b) = looped (looped st a) b
looped st (beside path k a l b) = st

-- the loops of a term, the latest first
abbrev pub loops_in : PlainTerm → List PlainLoop
loops_in t = (looped begun t).loops

-- ---- terms in order

abbrev pub HasLoop : List PlainLoop → Type 0
HasLoop [] = ⊥
HasLoop (p ∷ ps) = Unit {0}

-- the last loop has no diagonal, and can take this one
abbrev pub CanScale : Path → List PlainLoop → Type 0
CanScale path [] = ⊥
CanScale path (p ∷ ps) = (p.taken ≡ None) × (suits path (nest_of p ∷ []) ≡ true)

-- a scatter or a diagonal comes after a loop, and between them no gather
abbrev pub InOrder : Looping → PlainTerm → Type 0
InOrder st same = Unit {0}
InOrder st (gath f) = Unit {0}
InOrder st (scat f) = (st.waiting ≡ []) × HasLoop st.loops
InOrder st (diag path factors) = (st.waiting ≡ []) × CanScale path st.loops
InOrder st (nest path w) = Unit {0}
InOrder st (move path ks) = ⊥
InOrder st (product a b) = InOrder st a × InOrder (looped st a) b
InOrder st (beside path k a l b) = ⊥

-- it ends with a loop, or what goes into one
pub record IsOrdered (t : PlainTerm) : Type 0 where
  pub in_order : InOrder begun t
  pub none_waits : (looped begun t).waiting ≡ []
  pub some : HasLoop (loops_in t)

abbrev pub one_nest : PlainLoop → List PlainNest
one_nest p = nest_of p ∷ []

-- what functions make of the natural places of items, one after the
-- other, stays within the limits, and so does every number in between
abbrev pub AreCarried : (room n count : ℕ) → PlainLoop → List Mapping → List Sum → Type 0
AreCarried room n count p fs items =
    list_all (carries_sum room n count (limits_in p) fs) (map (place_sum p.path (work_size p.work) 0) items) ≡ true

pub record IsLimitedLoop (room n : ℕ) (p : PlainLoop) : Type 0 where
  pub loads : AreCarried room n n p p.befores (items_in p.work (length p.path))
  pub stores : AreCarried room n n p p.afters (items_out p.work (length p.path))
  pub factors : (d : PlainTaken) → p.taken ≡ Some d →
      AreCarried room n (factor_count d.factors) p d.places (items_out p.work (length p.path))

-- no place on the way to those of the loops is over a limit
abbrev pub AreLimitedLoops : Room → ℕ → List PlainLoop → Type 0
AreLimitedLoops unbounded n ps = Unit {0}
AreLimitedLoops (most room) n [] = Unit {0}
AreLimitedLoops (most room) n (p ∷ ps) = IsLimitedLoop room n p × AreLimitedLoops (most room) n ps

-- The passes of a term in order are its loops, one by one: none is copies alone
abbrev pub MergeListed : Type 0
MergeListed =
    (room : Room) (n : ℕ) (t : PlainTerm) → IsOrdered t → AreLimitedLoops room n (loops_in t) →
    passes_within room n t ≡ map one_nest (loops_in t)

-- ---- places

abbrev pub AreFormed : List Mapping → Type 0
AreFormed [] = Unit {0}
AreFormed (f ∷ fs) = IsFormed f × AreFormed fs

-- f moves the words that a work's sums stand for together
abbrev pub Suits : PlainWork → (ℕ → ℕ) → Type 0
Suits (tile v) f = MovesVectors v f
Suits w f = Unit {0}

abbrev pub AllSuit : PlainWork → List Mapping → Type 0
AllSuit w [] = Unit {0}
AllSuit w (f ∷ fs) = Suits w (at f) × AllSuit w fs

pub record CanLead (p : PlainLoop) (fs : List Mapping) : Type 0 where
  pub formed : AreFormed fs
  pub suit : AllSuit p.work fs

pub record IsGoodLoop (lanes : ℕ) (p : PlainLoop) : Type 0 where
  pub nested : CanNest lanes p.path p.work
  pub some : 0 < work_size p.work
  pub befores : CanLead p p.befores
  pub afters : CanLead p p.afters
  pub taken : (d : PlainTaken) → p.taken ≡ Some d → CanLead p d.places

-- the sums of a loop's nest have the values of its places
pub record HasPlaces (p : PlainLoop) (vs : List ℕ) (k : ℕ) : Type 0 where
  pub loads : load_place p.work (nest_of p).gathers vs k ≡ through p.befores (place p.path (work_size p.work) vs k)
  pub stores : store_place p.work (nest_of p).scatters vs k ≡ through p.afters (place p.path (work_size p.work) vs k)
  pub factors : (d : PlainTaken) → p.taken ≡ Some d →
      store_place p.work (places_by p d.places (items_out p.work (length p.path))) vs k
      ≡ through d.places (place p.path (work_size p.work) vs k)

abbrev pub LoopsHavePlaces : Type 0
LoopsHavePlaces =
    (lanes : ℕ) (p : PlainLoop) (vs : List ℕ) (k : ℕ) → IsGoodLoop lanes p →
    AreInRange (loops_of (map count_of p.path)) vs → k < work_size p.work → HasPlaces p vs k

abbrev pub AreGoodLoops : ℕ → List PlainLoop → Type 0
AreGoodLoops lanes [] = Unit {0}
AreGoodLoops lanes (p ∷ ps) = IsGoodLoop lanes p × AreGoodLoops lanes ps

-- so have those of a good term in order
abbrev pub LoopsAreGood : Type 0
LoopsAreGood =
    (lanes n : ℕ) (t : PlainTerm) → 0 < n → IsGoodTerm lanes n t → InOrder begun t → AreGoodLoops lanes (loops_in t)
