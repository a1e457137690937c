-- Merging: each permutation goes into the loads of the pass after it, or the stores of the one before it, each
-- diagonal into the pass before it; a copy pass takes what no pass can take within the limits.
use Rattle.std.specs.Prelude.{ℕ, ◌+◌, ◌-◌, ◌*◌, ◌^◌, ◌==◌, nat_lt, nat_le, Bool, true, false, not, ◌&&◌}
use Rattle.std.specs.Prelude.{if◌then◌else◌, List, [], ◌∷◌, ◌++◌, map, length, slice_index, Option, Some, None}
use Rattle.std.specs.List.{range_with_len, list_all}
use Rattle.index_fn.specs.Mapping.{Mapping, at}
pub use Rattle.index_fn.specs.Back.{back_of, inverse_below, unit_below}
use Rattle.perm_algebra.specs.Affine.{Sum, constant, variable, remainder, quotient, top, peak, levels, parts, scaled}
use Rattle.perm_algebra.specs.Affine.{added, simplified}
use Rattle.perm_algebra.specs.Room.{has_room}
use Rattle.operators.specs.Sum.{list_below}
use Rattle.sigma_spl.specs.Nest.{PlainFactors, spread, factor_count, PlainMultiplier, PlainNest}
use Rattle.sigma_spl.specs.Term.{PlainTerm, same, gath, scat, diag, nest, move, product, beside, inner_of}
use Rattle.sigma_spl.specs.Work.{PlainWork, rows, horner, tile, copy, work_size}
use Rattle.operators.specs.declared.paths.Tensor.TheVariants.{Blocks, Columns}
use Rattle.operators.specs.Paths.Tensors.{Path, count_of, size_under}

-- ---- places as sums

-- the place of e in the copy that the variables from d on name
abbrev pub place_sum : Path → ℕ → ℕ → Sum → Sum
place_sum [] n d e = e
place_sum (Blocks c ∷ path) n d e =
    added (scaled (size_under path n) (variable 1 d (constant 0))) (place_sum path n (d + 1) e)
place_sum (Columns c ∷ path) n d e = added (scaled c (place_sum path n (d + 1) e)) (variable 1 d (constant 0))

-- the items that are loaded, and those that are stored, given the number of the loops' variables
abbrev pub items_in : PlainWork → ℕ → List Sum
items_in (rows root size) depth = variable 1 (depth + 1) (constant 0) ∷ []
items_in (horner root size) depth =
    remainder 1 (variable (size - 1) (depth + 1) (constant (size - 1))) size (constant 0) ∷ []
items_in (tile lanes) depth = map (λ k. constant (k * lanes)) (range_with_len 0 lanes)
items_in work depth = map constant (range_with_len 0 (work_size work))

abbrev pub items_out : PlainWork → ℕ → List Sum
items_out (rows root size) depth = variable 1 depth (constant 0) ∷ []
items_out (horner root size) depth = variable 1 depth (constant 0) ∷ []
items_out (tile lanes) depth = map (λ k. constant (k * lanes)) (range_with_len 0 lanes)
items_out work depth = map constant (range_with_len 0 (work_size work))

abbrev pub new_nest : Path → PlainWork → List Sum → PlainNest
new_nest path w items =
    record {
      counts = map count_of path;
      work = w;
      gathers = map (place_sum path (work_size w) 0) items;
      multiplier = None;
      scatters = map (place_sum path (work_size w) 0) (items_out w (length path));
    }

-- a loop over n words, which is none for one word
abbrev pub one_loop : ℕ → Path
one_loop n = if n == 1 then [] else Blocks n ∷ []

abbrev pub copying : ℕ → List PlainNest
copying n = new_nest (one_loop n) (copy 1) (items_in (copy 1) (length (one_loop n))) ∷ []

-- ---- what a pass takes

-- what the variables of a nest run below
abbrev pub limits_of : PlainNest → ℕ → ℕ
limits_of z = slice_index (z.counts ++ work_size z.work ∷ work_size z.work ∷ [])

abbrev pub gathered : Mapping → List PlainNest → List PlainNest
gathered f zs =
    map (λ (z : PlainNest). record {
      counts = z.counts;
      work = z.work;
      gathers = map (simplified (limits_of z) f) z.gathers;
      multiplier = z.multiplier;
      scatters = z.scatters;
    }) zs

abbrev pub scattered : Mapping → List PlainNest → List PlainNest
scattered f zs =
    map (λ (z : PlainNest). record {
      counts = z.counts;
      work = z.work;
      gathers = z.gathers;
      multiplier = z.multiplier;
      scatters = map (simplified (limits_of z) f) z.scatters;
    }) zs

-- one function after the other, at a sum
abbrev pub all_simplified : (ℕ → ℕ) → List Mapping → Sum → Sum
all_simplified cs [] e = e
all_simplified cs (f ∷ fs) e = all_simplified cs fs (simplified cs f e)

-- each item is multiplied by the factor that the functions find at its place
abbrev pub multiplied : PlainFactors → List Mapping → List PlainNest → List PlainNest
multiplied factors fs zs =
    map
    (λ (z : PlainNest).
    record {
      counts = z.counts;
      work = z.work;
      gathers = z.gathers;
      multiplier = Some (record { factors = factors; places = map (all_simplified (limits_of z) fs) z.scatters });
      scatters = z.scatters;
    })
    zs

-- ---- limits

-- the constant and the factors, all together
abbrev pub total : Sum → ℕ
total (constant c) = c
total (variable f d rest) = f + total rest
total (remainder f of m rest) = f + total rest
total (quotient f of m rest) = f + total rest

-- a part that divides: its factor and its divisor are small numbers
-- and not 0, and so is all that is divided, whose values fit a word
abbrev pub is_divided : (ℕ → ℕ) → ℕ → Sum → ℕ → Bool
is_divided cs f of m =
    (nat_lt 0 f && nat_lt f (2 ^ 32))
    && ((nat_lt 0 m && nat_lt m (2 ^ 32)) && (nat_lt (total of) (2 ^ 32) && nat_lt (top of cs) (2 ^ 64)))

-- numbers at all levels are small
abbrev pub are_small : (ℕ → ℕ) → Sum → Bool
are_small cs (constant c) = nat_lt c (2 ^ 32)
are_small cs (variable f d rest) = nat_lt f (2 ^ 32) && are_small cs rest
are_small cs (remainder f of m rest) = is_divided cs f of m && (are_small cs of && are_small cs rest)
are_small cs (quotient f of m rest) = is_divided cs f of m && (are_small cs of && are_small cs rest)

-- a place in an array of n words, in a number of parts at most, whose factors are
-- below n: so they stay small where the array becomes part of a larger one
abbrev pub is_limited : ℕ → ℕ → (ℕ → ℕ) → Sum → Bool
is_limited room n cs e =
    (nat_le (parts e) room && nat_le (levels e) 64) && ((nat_lt (top e cs) n && nat_lt (peak e) n) && are_small cs e)

abbrev pub is_multiplier_within : ℕ → (ℕ → ℕ) → Option PlainMultiplier → Bool
is_multiplier_within room cs None = true
is_multiplier_within room cs (Some d) = list_all (is_limited room (factor_count d.factors) cs) d.places

abbrev pub is_within : ℕ → ℕ → List PlainNest → Bool
is_within room n zs =
    list_all (λ (z : PlainNest). (list_all (is_limited room n (limits_of z)) z.gathers
    && list_all (is_limited room n (limits_of z)) z.scatters)
    && is_multiplier_within room (limits_of z) z.multiplier) zs

-- each sum on the way to the factors' places is within the limits, and so is every number in between
abbrev pub carries_sum : ℕ → ℕ → ℕ → (ℕ → ℕ) → List Mapping → Sum → Bool
carries_sum room n count cs [] e = is_limited room count cs e
carries_sum room n count cs (f ∷ fs) e =
    is_limited room n cs e && (has_room cs f e && carries_sum room n count cs fs (simplified cs f e))

abbrev pub is_free : Option PlainMultiplier → Bool
is_free None = true
is_free (Some d) = false

-- a pass that has no diagonal, and can take this one
abbrev pub can_multiply : ℕ → ℕ → PlainFactors → List Mapping → List PlainNest → Bool
can_multiply room n factors fs zs =
    list_all (λ (z : PlainNest). is_free z.multiplier
    && list_all (carries_sum room n (factor_count factors) (limits_of z) fs) z.scatters) zs

-- how many parts a place may have: a number, or any number, where every place is known to stay within the limits
pub data Room : Type 0 where
  most : (parts : ℕ) → Room
  unbounded : Room

-- every number on the way from a place to the function's fits 64 bits
abbrev pub loads_have_room : Mapping → List PlainNest → Bool
loads_have_room f zs = list_all (λ (z : PlainNest). list_all (has_room (limits_of z) f) z.gathers) zs

abbrev pub stores_have_room : Mapping → List PlainNest → Bool
stores_have_room f zs = list_all (λ (z : PlainNest). list_all (has_room (limits_of z) f) z.scatters) zs

-- a pass that can take a gather into its loads, and a scatter into its stores
abbrev pub can_gather : Room → ℕ → Mapping → List PlainNest → Bool
can_gather (most room) n f zs = loads_have_room f zs && is_within room n (gathered f zs)
can_gather unbounded n f zs = true

abbrev pub can_scatter : Room → ℕ → Mapping → List PlainNest → Bool
can_scatter (most room) n f zs = stores_have_room f zs && is_within room n (scattered f zs)
can_scatter unbounded n f zs = true

abbrev pub can_take : Room → ℕ → PlainFactors → List Mapping → List PlainNest → Bool
can_take (most room) n factors fs zs = can_multiply room n factors fs zs
can_take unbounded n factors fs zs = list_all (λ (z : PlainNest). is_free z.multiplier && true) zs

-- the room under a number of tensors
abbrev pub less : Room → ℕ → Room
less (most room) d = most (room - d)
less unbounded d = unbounded

-- ---- merging

-- the gathers that wait and the passes so far, the latest first
pub record Merging : Type 0 where
  pub waiting : List Mapping
  pub passes : List (List PlainNest)

abbrev pub nothing : Merging
nothing = record { waiting = []; passes = [] }

-- a pass with what it took of the gathers that wait, and those that are left
pub record Taking : Type 0 where
  pub pass : List PlainNest
  pub left : List Mapping

-- the latest are taken first
abbrev pub take_gathers : Room → ℕ → List PlainNest → List Mapping → Taking
take_gathers room n zs [] = record { pass = zs; left = [] }
take_gathers room n zs (f ∷ fs) =
    if can_gather room n f zs then take_gathers room n (gathered f zs) fs else record { pass = zs; left = f ∷ fs }

-- one gather as a copy pass: in a loop over all words, or word by word where its place there is over the limits
abbrev pub copy_by : Room → ℕ → Mapping → List PlainNest
copy_by room n f =
    if can_gather room n f (copying n) then gathered f (copying n)
    else new_nest [] (copy (length (list_below n (at f)))) (map constant (list_below n (at f))) ∷ []

-- copy passes for gathers, the latest first: the last of them, and those before it
abbrev pub copies_before : Room → ℕ → List PlainNest → List Mapping → List (List PlainNest)
copies_before room n zs [] = zs ∷ []
copies_before room n zs (f ∷ fs) =
    if can_gather room n f zs then copies_before room n (gathered f zs) fs
    else zs ∷ copies_before room n (copy_by room n f) fs

abbrev pub settled : Room → ℕ → List Mapping → List (List PlainNest)
settled room n [] = []
settled room n (f ∷ fs) = copies_before room n (copy_by room n f) fs

-- a pass more
abbrev pub with_pass : Room → ℕ → Merging → List PlainNest → Merging
with_pass room n st zs =
    let taking = take_gathers room n zs st.waiting in
    record { waiting = []; passes = taking.pass ∷ (settled room n taking.left ++ st.passes) }

-- back past the gathers that wait, the earliest first
abbrev pub backs_of : List Mapping → List Mapping
backs_of [] = []
backs_of (f ∷ fs) = backs_of fs ++ back_of f ∷ []

-- the functions that lead from a place of the last pass, past the gathers that wait, to its factor
abbrev pub factor_places : List Mapping → Path → PlainFactors → List Mapping
factor_places waiting path factors = backs_of waiting ++ inner_of path (factor_count factors) ∷ []

-- a diagonal goes into a copy pass there, or into one after the gathers, which then wait no more
abbrev pub with_copy : Room → ℕ → Merging → Path → PlainFactors → Merging
with_copy room n st path factors =
    let places = factor_places st.waiting path factors in
    if can_take room n factors places (copying n) then record {
      waiting = st.waiting;
      passes = multiplied factors places (copying n) ∷ st.passes;
    }
    else record {
      waiting = [];
      passes = multiplied (spread path factors) [] (copying n) ∷ (settled room n st.waiting ++ st.passes);
    }

-- work that has a sum for each vector
abbrev pub is_tile : PlainWork → Bool
is_tile (tile lanes) = true
is_tile w = false

-- the factors of a vector stand side by side: a tile takes a diagonal only where that stands under no tensors
abbrev pub suits : Path → List PlainNest → Bool
suits [] zs = true
suits (t ∷ path) zs = list_all (λ (z : PlainNest). not (is_tile z.work)) zs

-- a diagonal goes into the last pass where that can take it
abbrev pub with_diagonal : Room → ℕ → List Mapping → List (List PlainNest) → Path → PlainFactors → Merging
with_diagonal room n waiting [] path factors = with_copy room n (record { waiting = waiting; passes = [] }) path factors
with_diagonal room n waiting (zs ∷ passes) path factors =
    let places = factor_places waiting path factors in
    if suits path zs && can_take room n factors places zs then record {
      waiting = waiting;
      passes = multiplied factors places zs ∷ passes;
    }
    else with_copy room n (record { waiting = waiting; passes = zs ∷ passes }) path factors

-- a scatter goes into the last pass where no gather waits, and else waits as a gather
abbrev pub with_scatter : Room → ℕ → List Mapping → List (List PlainNest) → Mapping → Merging
with_scatter room n [] (zs ∷ passes) f =
    if can_scatter room n f zs then record { waiting = []; passes = scattered f zs ∷ passes }
    else record { waiting = back_of f ∷ []; passes = zs ∷ passes }
with_scatter room n waiting passes f = record { waiting = back_of f ∷ waiting; passes = passes }

-- a list from its end
abbrev pub from_end : List Mapping → List Mapping
from_end [] = []
from_end (f ∷ fs) = from_end fs ++ f ∷ []

-- at the end the gathers that wait, the earliest first, go into
-- the stores of the last pass, and the others into copy passes
abbrev pub ended : Room → ℕ → List Mapping → List (List PlainNest) → List (List PlainNest)
ended room n [] passes = passes
ended room n (f ∷ fs) [] = settled room n (from_end (f ∷ fs))
ended room n (f ∷ fs) (zs ∷ passes) =
    if can_scatter room n (back_of f) zs then ended room n fs (scattered (back_of f) zs ∷ passes)
    else settled room n (from_end (f ∷ fs)) ++ zs ∷ passes

-- ---- passes side by side

-- the variables have higher numbers
abbrev pub renumbered : ℕ → Sum → Sum
renumbered k (constant c) = constant c
renumbered k (variable f d rest) = variable f (d + k) (renumbered k rest)
renumbered k (remainder f of m rest) = remainder f (renumbered k of) m (renumbered k rest)
renumbered k (quotient f of m rest) = quotient f (renumbered k of) m (renumbered k rest)

abbrev pub renumbered_places : ℕ → Option PlainMultiplier → Option PlainMultiplier
renumbered_places k None = None
renumbered_places k (Some d) = Some (record { factors = d.factors; places = map (renumbered k) d.places })

-- a part that begins a number of words later, under the tensors of a path round n words
abbrev pub lifted : Path → ℕ → ℕ → PlainNest → PlainNest
lifted path n before z =
    let up : Sum → Sum = λ e. place_sum path n 0 (added (constant before) (renumbered (length path) e)) in
    record {
      counts = map count_of path ++ z.counts;
      work = z.work;
      gathers = map up z.gathers;
      multiplier = renumbered_places (length path) z.multiplier;
      scatters = map up z.scatters;
    }

abbrev pub side : Path → ℕ → ℕ → List PlainNest → List PlainNest → List PlainNest
side path n k zs ys = map (lifted path (n + k) 0) zs ++ map (lifted path (n + k) n) ys

-- the passes of two parts, the latest first: the shorter begins with copies
abbrev pub sides : Path → ℕ → ℕ → List (List PlainNest) → List (List PlainNest) → List (List PlainNest)
sides path n k [] [] = []
sides path n k (zs ∷ ps) [] = side path n k zs (copying k) ∷ sides path n k ps []
sides path n k [] (ys ∷ qs) = side path n k (copying n) ys ∷ sides path n k [] qs
sides path n k (zs ∷ ps) (ys ∷ qs) = side path n k zs ys ∷ sides path n k ps qs

-- passes, the latest first, of which the first takes the gathers that wait
abbrev pub with_passes : Room → ℕ → Merging → List (List PlainNest) → Merging
with_passes room n st [] = st
with_passes room n st (zs ∷ []) = with_pass room n st zs
with_passes room n st (zs ∷ ys ∷ ps) =
    let before = with_passes room n st (ys ∷ ps) in record { waiting = []; passes = zs ∷ before.passes }

-- ---- terms

abbrev pub merged : Room → ℕ → Merging → PlainTerm → Merging
merged room n st same = st
merged room n st (gath f) = record { waiting = f ∷ st.waiting; passes = st.passes }
merged room n st (scat f) = with_scatter room n st.waiting st.passes f
merged room n st (diag path factors) = with_diagonal room n st.waiting st.passes path factors
merged room n st (nest path w) = with_pass room n st (new_nest path w (items_in w (length path)) ∷ [])
merged room n st (move path ks) = with_pass room n st (new_nest path (copy (length ks)) (map constant ks) ∷ [])
merged room n st (product a b) = merged room n (merged room n st a) b
merged room n st (beside path k a l b) =
    let first = merged (less room (length path)) k nothing a in
    let second = merged (less room (length path)) l nothing b in
    with_passes room n st
    (sides path k l (ended (less room (length path)) k (from_end first.waiting) first.passes)
    (ended (less room (length path)) l (from_end second.waiting) second.passes))

-- the passes of a term, the latest first; an identity is a copy
abbrev pub if_any : ℕ → List (List PlainNest) → List (List PlainNest)
if_any n [] = copying n ∷ []
if_any n (zs ∷ passes) = zs ∷ passes

abbrev pub passes_within : Room → ℕ → PlainTerm → List (List PlainNest)
passes_within room n t = let all = merged room n nothing t in if_any n (ended room n (from_end all.waiting) all.passes)

-- within the limits of programs
abbrev pub passes_of : ℕ → PlainTerm → List (List PlainNest)
passes_of n t = passes_within (most 64) n t
