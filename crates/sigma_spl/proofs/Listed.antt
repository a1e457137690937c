-- Terms in order are merged into their loops, one by one, and the sums of these have the values of their places.
use Rattle.std.proofs.Common.{◌≡◌, ℕ, Bool, true, false, refl, ap, ap₂, ◌∙◌, List, [], ◌∷◌, ◌++◌, length, Option, Some}
use Rattle.std.proofs.Common.{None}
use Rattle.std.proofs.lemmas.Bool.{and_from}
use Rattle.std.specs.Prelude.{map, ◌&&◌, if◌then◌else◌}
use Rattle.std.specs.List.{list_all}
use Rattle.index_fn.specs.Mapping.{Mapping}
use Rattle.sigma_spl.specs.Loops.{PlainTaken, PlainLoop, through, limits_in, places_by, multiplier_of, Looping, begun}
use Rattle.sigma_spl.specs.Loops.{stored_last, scaled_last, looped, HasLoop, CanScale, InOrder, one_nest}
use Rattle.sigma_spl.specs.Loops.{AreLimitedLoops, MergeListed, LoopsHavePlaces}
use Rattle.sigma_spl.specs.Merge.{Room, most, unbounded, Merging, Taking, place_sum, items_in, items_out, new_nest}
use Rattle.sigma_spl.specs.Merge.{all_simplified, limits_of, carries_sum, can_gather, can_scatter, take_gathers}
use Rattle.sigma_spl.specs.Merge.{settled, with_scatter, with_diagonal, suits, can_take, is_free, factor_places, ended}
use Rattle.sigma_spl.specs.Merge.{from_end, merged, if_any}
use Rattle.sigma_spl.specs.Nest.{PlainFactors, factor_count, PlainNest}
use Rattle.sigma_spl.specs.Term.{PlainTerm, same, gath, scat, diag, nest, move, product, beside, inner_of}
use Rattle.sigma_spl.specs.Work.{PlainWork, work_size}
use Rattle.perm_algebra.specs.Affine.{Sum, simplified}
use Rattle.sigma_spl.proofs.Carried.{all-mapped, all-same, taken-true, carried-room, carried-next, carried-from}
use Rattle.sigma_spl.proofs.Carried.{carried-front, carried-here, IsWithinElse, multiplier-within}
use Rattle.sigma_spl.proofs.Natural.{load-natural, store-natural, names-in, names-out, whole-in, whole-out, ranged}
use Rattle.sigma_spl.proofs.Nests.{load-through, store-through}
use Rattle.sigma_spl.proofs.Within.{carries-all}
use Rattle.operators.specs.Paths.Tensors.{Path, count_of}

-- ---- lists of sums

map-id : (es : List Sum) → es ≡ map (λ e. e) es
map-id [] = refl
map-id (e ∷ es) = ap (λ z. e ∷ z) (map-id es)

-- a function more at the front, and at the end
first-simplified : (cs : ℕ → ℕ) (f : Mapping) (fs : List Mapping) (es : List Sum) →
    map (all_simplified cs fs) (map (simplified cs f) es) ≡ map (all_simplified cs (f ∷ fs)) es
first-simplified cs f fs [] = refl
first-simplified cs f fs (e ∷ es) = ap (λ z. all_simplified cs fs (simplified cs f e) ∷ z) (first-simplified cs f fs es)

last-one : (cs : ℕ → ℕ) (fs : List Mapping) (f : Mapping) (e : Sum) →
    simplified cs f (all_simplified cs fs e) ≡ all_simplified cs (fs ++ f ∷ []) e
last-one cs [] f e = refl
last-one cs (g ∷ fs) f e = last-one cs fs f (simplified cs g e)

last-simplified : (cs : ℕ → ℕ) (fs : List Mapping) (f : Mapping) (es : List Sum) →
    map (simplified cs f) (map (all_simplified cs fs) es) ≡ map (all_simplified cs (fs ++ f ∷ [])) es
last-simplified cs fs f [] = refl
last-simplified cs fs f (e ∷ es) = ap₂ (λ y z. y ∷ z) (last-one cs fs f e) (last-simplified cs fs f es)

-- ---- each term

abbrev state_of : Looping → Merging
state_of st = record { waiting = st.waiting; passes = map one_nest st.loops }

abbrev with_gathers : PlainNest → List Sum → PlainNest
with_gathers z es = record { counts = z.counts; work = z.work; gathers = es; multiplier = z.multiplier; scatters = z.scatters }

picked : {A : Type 0} (b : Bool) (x y : A) → b ≡ true → (if b then x else y) ≡ x
picked true x y h = refl
picked false x y h = absurd (cc)

-- nothing is over the limits while a nest with these loads takes gathers
abbrev TakesAll : Room → ℕ → PlainNest → List Sum → List Mapping → Type 0
TakesAll unbounded n z es fs = Unit {0}
TakesAll (most k) n z es fs = (list_all (carries_sum k n n (limits_of z) fs) es ≡ true) × IsWithinElse k n z

takes-more : (room : Room) (n : ℕ) (z : PlainNest) (es : List Sum) (f : Mapping) (fs : List Mapping) →
    TakesAll room n z es (f ∷ fs) → TakesAll room n z (map (simplified (limits_of z) f) es) fs
takes-more unbounded n z es f fs h = tt
takes-more (most k) n z es f fs h = (all-mapped _ _ (simplified (limits_of z) f) (λ e. carried-next k n n (limits_of z) f fs e) es h.0, h.1)

takes-one : (room : Room) (n : ℕ) (z : PlainNest) (es : List Sum) (f : Mapping) (fs : List Mapping) →
    TakesAll room n z es (f ∷ fs) → can_gather room n f (with_gathers z es ∷ []) ≡ true
takes-one unbounded n z es f fs h = refl
takes-one (most k) n z es f fs h =
    let cs = limits_of z in
    taken-true _ _ _ _
    (all-same _ _ (λ e. carried-room k n n cs f fs e) es h.0)
    (all-mapped _ _ (simplified cs f) (λ e t. carried-here k n cs fs (simplified cs f e) (carried-next k n n cs f fs e t)) es h.0)
    h.1.scatters
    h.1.multiplier

take-all : (room : Room) (n : ℕ) (z : PlainNest) (es : List Sum) (fs : List Mapping) → TakesAll room n z es fs → take_gathers room n (with_gathers z es ∷ []) fs ≡ record { pass = with_gathers z (map (all_simplified (limits_of z) fs) es) ∷ []; left = [] }
take-all room n z es [] h = ap (λ (ds : List Sum). let t : Taking = record { pass = with_gathers z ds ∷ []; left = [] } in t) (map-id es)
take-all room n z es (f ∷ fs) h =
    picked (can_gather room n f (with_gathers z es ∷ [])) _ _ (takes-one room n z es f fs h)
    ∙ take-all room n z (map (simplified (limits_of z) f) es) fs (takes-more room n z es f fs h)
    ∙ ap (λ (ds : List Sum). let t : Taking = record { pass = with_gathers z ds ∷ []; left = [] } in t) (first-simplified (limits_of z) f fs es)

new-takes : (room : Room) (n : ℕ) (waiting : List Mapping) (path : Path) (w : PlainWork) (ps : List PlainLoop) →
    AreLimitedLoops room n (record { path = path; work = w; befores = waiting; taken = None; afters = [] } ∷ ps) →
    TakesAll room n (new_nest path w (items_in w (length path))) (map (place_sum path (work_size w) 0) (items_in w (length path))) waiting
new-takes unbounded n waiting path w ps h = tt
new-takes (most k) n waiting path w ps h = (h.0.loads, record { scatters = h.0.stores; multiplier = refl })

nest-listed : (room : Room) (n : ℕ) (st : Looping) (path : Path) (w : PlainWork) →
    AreLimitedLoops room n (looped st (nest path w)).loops →
    merged room n (state_of st) (nest path w) ≡ state_of (looped st (nest path w))
nest-listed room n st path w limited =
    let new : PlainNest = new_nest path w (items_in w (length path)) in
    ap (λ (t : Taking). let s : Merging = record { waiting = []; passes = t.pass ∷ (settled room n t.left ++ map one_nest st.loops) } in s) (take-all room n new new.gathers st.waiting (new-takes room n st.waiting path w st.loops limited))
    ∙ ap
    (λ (ds : List Sum).
    let z : PlainNest = record { counts = map count_of path; work = w; gathers = map (all_simplified (limits_of new) st.waiting) new.gathers; multiplier = None; scatters = ds } in
    let s : Merging = record { waiting = []; passes = (z ∷ []) ∷ map one_nest st.loops } in s)
    (map-id new.scatters)

scatter-taken : (room : Room) (n : ℕ) (f : Mapping) (p : PlainLoop) (ps : List PlainLoop) →
    AreLimitedLoops room n (stored_last f (p ∷ ps)) → can_scatter room n f (one_nest p) ≡ true
scatter-taken unbounded n f p ps h = refl
scatter-taken (most k) n f p ps h =
    let cs = limits_in p in
    let outs = map (place_sum p.path (work_size p.work) 0) (items_out p.work (length p.path)) in
    let ended : (e : Sum) → carries_sum k n n cs (p.afters ++ f ∷ []) e ≡ true → carries_sum k n n cs (f ∷ []) (all_simplified cs p.afters e) ≡ true = carried-from k n n cs p.afters (f ∷ []) in
    taken-true _ _ _ _
    (all-mapped _ _ (all_simplified cs p.afters) (λ e t. carried-room k n n cs f [] (all_simplified cs p.afters e) (ended e t)) outs h.0.stores)
    (carries-all k n n cs p.befores (map (place_sum p.path (work_size p.work) 0) (items_in p.work (length p.path))) h.0.loads)
    (all-mapped _ _ (simplified cs f) (λ e t. t) (map (all_simplified cs p.afters) outs) (all-mapped _ _ (all_simplified cs p.afters) (λ e t. carried-next k n n cs f [] (all_simplified cs p.afters e) (ended e t)) outs h.0.stores))
    (multiplier-within k n p p.taken h.0.factors)

scat-listed : (room : Room) (n : ℕ) (f : Mapping) (waiting : List Mapping) (ps : List PlainLoop) → waiting ≡ [] →
    HasLoop ps → AreLimitedLoops room n (stored_last f ps) →
    with_scatter room n waiting (map one_nest ps) f ≡ state_of (record { waiting = waiting; loops = stored_last f ps })
scat-listed room n f [] [] none some limited = absurd some
scat-listed room n f [] (p ∷ ps) none some limited =
    picked (can_scatter room n f (one_nest p)) _ _ (scatter-taken room n f p ps limited)
    ∙ ap
    (λ (ds : List Sum).
    let z : PlainNest = record { counts = map count_of p.path; work = p.work; gathers = places_by p p.befores (items_in p.work (length p.path)); multiplier = multiplier_of p p.taken; scatters = ds } in
    let s : Merging = record { waiting = []; passes = (z ∷ []) ∷ map one_nest ps } in s)
    (last-simplified (limits_in p) p.afters f (map (place_sum p.path (work_size p.work) 0) (items_out p.work (length p.path))))
scat-listed room n f (g ∷ gs) ps none some limited = absurd (cc)

free-of : (p : PlainLoop) (o : Option PlainTaken) → o ≡ None → is_free (multiplier_of p o) ≡ true
free-of p None h = refl
free-of p (Some d) h = absurd (cc)

diagonal-taken : (room : Room) (n : ℕ) (path : Path) (factors : PlainFactors) (p : PlainLoop) (ps : List PlainLoop) →
    CanScale path (p ∷ ps) → AreLimitedLoops room n (scaled_last path factors (p ∷ ps)) →
    can_take room n factors (factor_places [] path factors) (one_nest p) ≡ true
diagonal-taken unbounded n path factors p ps can h = and_from _ _ (and_from _ _ (free-of p p.taken can.0) refl) refl
diagonal-taken (most k) n path factors p ps can h =
    let cs = limits_in p in
    let count = factor_count factors in
    let last = inner_of path count ∷ [] in
    and_from _ _
    (and_from _ _ (free-of p p.taken can.0)
    (all-mapped _ _ (all_simplified cs p.afters) (carried-from k n count cs p.afters last) (map (place_sum p.path (work_size p.work) 0) (items_out p.work (length p.path))) (h.0.factors (record { factors = factors; places = p.afters ++ last }) refl)))
    refl

diag-listed : (room : Room) (n : ℕ) (path : Path) (factors : PlainFactors) (waiting : List Mapping)
    (ps : List PlainLoop) → waiting ≡ [] → CanScale path ps → AreLimitedLoops room n (scaled_last path factors ps) →
    with_diagonal room n waiting (map one_nest ps) path factors ≡ state_of (record { waiting = waiting; loops = scaled_last path factors ps })
diag-listed room n path factors [] [] none can limited = absurd can
diag-listed room n path factors [] (p ∷ ps) none can limited =
    picked (suits path (one_nest p) && can_take room n factors (factor_places [] path factors) (one_nest p)) _ _ (and_from _ _ can.1 (diagonal-taken room n path factors p ps can limited))
    ∙ ap
    (λ (ds : List Sum).
    let z : PlainNest =
    record { counts = map count_of p.path; work = p.work; gathers = places_by p p.befores (items_in p.work (length p.path)); multiplier = Some (record { factors = factors; places = ds }); scatters = places_by p p.afters (items_out p.work (length p.path)) } in
    let s : Merging = record { waiting = []; passes = (z ∷ []) ∷ map one_nest ps } in s)
    (last-simplified (limits_in p) p.afters (inner_of path (factor_count factors)) (map (place_sum p.path (work_size p.work) 0) (items_out p.work (length p.path))))
diag-listed room n path factors (g ∷ gs) ps none can limited = absurd (cc)

-- what holds of the last loops holds of those before, which only grow at their ends
before-scatter : (k n : ℕ) (f : Mapping) (ps : List PlainLoop) → AreLimitedLoops (most k) n (stored_last f ps) →
    AreLimitedLoops (most k) n ps
before-scatter k n f [] h = h
before-scatter k n f (p ∷ ps) h =
    (record { loads = h.0.loads; stores = all-same _ _ (carried-front k n n (limits_in p) p.afters f) (map (place_sum p.path (work_size p.work) 0) (items_out p.work (length p.path))) h.0.stores; factors = h.0.factors }, h.1)

none-taken : (o : Option PlainTaken) (d : PlainTaken) → o ≡ None → o ≡ Some d → ⊥
none-taken None d h is = absurd (cc)
none-taken (Some e) d h is = absurd (cc)

before-diagonal : (k n : ℕ) (path : Path) (factors : PlainFactors) (ps : List PlainLoop) → CanScale path ps →
    AreLimitedLoops (most k) n (scaled_last path factors ps) → AreLimitedLoops (most k) n ps
before-diagonal k n path factors [] can h = h
before-diagonal k n path factors (p ∷ ps) can h = (record { loads = h.0.loads; stores = h.0.stores; factors = λ d is. absurd (none-taken p.taken d can.0 is) }, h.1)

earlier : (room : Room) (n : ℕ) (st : Looping) (t : PlainTerm) → InOrder st t →
    AreLimitedLoops room n (looped st t).loops → AreLimitedLoops room n st.loops
earlier unbounded n st t h limited = tt
earlier (most k) n st same h limited = limited
earlier (most k) n st (gath f) h limited = limited
earlier (most k) n st (scat f) h limited = before-scatter k n f st.loops limited
earlier (most k) n st (diag path factors) h limited = before-diagonal k n path factors st.loops h.1 limited
earlier (most k) n st (nest path w) h limited = limited.1
earlier (most k) n st (move path ks) h limited = absurd h
earlier (most k) n st (product a b) h limited = earlier (most k) n st a h.0 (earlier (most k) n (looped st a) b h.1 limited)
earlier (most k) n st (beside path i a j b) h limited = absurd h

listed : (room : Room) (n : ℕ) (st : Looping) (t : PlainTerm) → InOrder st t →
    AreLimitedLoops room n (looped st t).loops → merged room n (state_of st) t ≡ state_of (looped st t)
listed room n st same h limited = refl
listed room n st (gath f) h limited = refl
listed room n st (scat f) h limited = scat-listed room n f st.waiting st.loops h.0 h.1 limited
listed room n st (diag path factors) h limited = diag-listed room n path factors st.waiting st.loops h.0 h.1 limited
listed room n st (nest path w) h limited = nest-listed room n st path w limited
listed room n st (move path ks) h limited = absurd h
listed room n st (product a b) h limited = ap (λ s. merged room n s b) (listed room n st a h.0 (earlier room n (looped st a) b h.1 limited)) ∙ listed room n (looped st a) b h.1 limited
listed room n st (beside path i a j b) h limited = absurd h

ended-listed : (room : Room) (n : ℕ) (waiting : List Mapping) (ps : List PlainLoop) → waiting ≡ [] → HasLoop ps →
    if_any n (ended room n (from_end waiting) (map one_nest ps)) ≡ map one_nest ps
ended-listed room n [] [] none some = absurd some
ended-listed room n [] (p ∷ ps) none some = refl
ended-listed room n (g ∷ gs) ps none some = absurd (cc)

pub merge_listed : MergeListed
merge_listed room n t h limited =
    let st = looped begun t in
    ap (λ (s : Merging). if_any n (ended room n (from_end s.waiting) s.passes)) (listed room n begun t h.in_order limited) ∙ ended-listed room n st.waiting st.loops h.none_waits h.some

-- ---- places

pub loops_have_places : LoopsHavePlaces
loops_have_places lanes p vs k h range below =
    let d = work_size p.work in
    let counts = map count_of p.path in
    let inside = ranged p.path vs range in
    let ins = map (place_sum p.path d 0) (items_in p.work (length p.path)) in
    let outs = map (place_sum p.path d 0) (items_out p.work (length p.path)) in
    let named = names-out lanes p.path p.work h.nested in
    let whole = whole-out lanes p.path p.work h.nested in
    let stored = store-natural lanes p.path p.work vs k h.nested inside below in
    record {
      loads =
          load-through counts p.work p.befores ins vs k h.befores.suit h.befores.formed (names-in lanes p.path p.work h.nested h.some) (whole-in lanes p.path p.work h.nested) range below
          ∙ ap (through p.befores) (load-natural lanes p.path p.work vs k h.nested inside below);
      stores = store-through counts p.work p.afters outs vs k h.afters.suit h.afters.formed named whole range below ∙ ap (through p.afters) stored;
      factors = λ e is. let lead = h.taken e is in store-through counts p.work e.places outs vs k lead.suit lead.formed named whole range below ∙ ap (through e.places) stored;
    }
