-- Passes that take a function: their tests, and what is known of them.
use Rattle.std.proofs.Common.{◌≡◌, ℕ, zero, suc, ◌+◌, ◌<◌, Bool, true, false, arith, refl, sym, ap, ap₂, ◌∙◌, List, []}
use Rattle.std.proofs.Common.{◌∷◌, length, subst, length-append}
use Rattle.std.specs.Prelude.{map, get_or, ◌&&◌}
use Rattle.std.specs.List.{list_all}
use Rattle.index_fn.specs.Mapping.{Mapping}
use Rattle.perm_algebra.specs.Affine.{Sum, simplified}
use Rattle.perm_algebra.specs.Room.{has_room}
use Rattle.perm_algebra.proofs.Kept.{ready-simplified}
use Rattle.sigma_spl.specs.Good.{IsFormed}
use Rattle.sigma_spl.specs.Merge.{most, limits_of, is_limited, is_multiplier_within, is_within, can_gather, can_scatter}
use Rattle.sigma_spl.specs.Merge.{gathered, scattered}
use Rattle.sigma_spl.specs.Nest.{PlainFactors, PlainNest}
use Rattle.sigma_spl.specs.Work.{work_size}
use Rattle.sigma_spl.proofs.Walk.{and-left, and-right}
use Rattle.loop_nests.specs.Ready.{AreReady, IsReadyNest, IsReadyPass}
use Rattle.loop_nests.specs.Places.Known.{IsKnownPass}
use Rattle.loop_nests.specs.Places.Multiplied.{nest_multiplied}
use Rattle.loop_nests.specs.Places.Sides.{IsSideWithin, can_change, changed, nest_can_take, places_by}
use Rattle.loop_nests.specs.Places.Sides.{places_have_room, places_of, with_places}
use Rattle.loop_nests.specs.Places.Sums.{all_limits, are_limited, carried_by}
use Rattle.loop_nests.specs.Places.Views.{multiplied_by}
use Rattle.loop_nests.specs.declared.places.access.Access.{Access}
use Rattle.loop_nests.specs.declared.places.access.Access.TheVariants.{Loads, Stores}
use Rattle.loop_nests.proofs.PlaceLemmas.Sums.{all-at}

-- ---- one nest

-- its places are within the limits
abbrev nest_is_within : ℕ → ℕ → PlainNest → Bool
nest_is_within room n z =
    (list_all (is_limited room n (limits_of z)) z.gathers && list_all (is_limited room n (limits_of z)) z.scatters) && is_multiplier_within room (limits_of z) z.multiplier

both-kept : (a : Bool) → ((a && true) && true) ≡ a
both-kept true = refl
both-kept false = refl

last-kept : (a : Bool) → (a && true) ≡ a
last-kept true = refl
last-kept false = refl

module _ (room n : ℕ) where
  side-within : (access : Access) (z : PlainNest) → nest_is_within room n z ≡ true → IsSideWithin access room n z
  side-within Loads z h =
      let loads = list_all (is_limited room n (limits_of z)) z.gathers in
      and-left loads _ (and-left (loads && list_all (is_limited room n (limits_of z)) z.scatters) _ h)
  side-within Stores z h =
      let loads = list_all (is_limited room n (limits_of z)) z.gathers in
      and-right loads _ (and-left (loads && list_all (is_limited room n (limits_of z)) z.scatters) _ h)

  multiplier-within : (z : PlainNest) → nest_is_within room n z ≡ true →
      is_multiplier_within room (limits_of z) z.multiplier ≡ true
  multiplier-within z h = and-right (list_all (is_limited room n (limits_of z)) z.gathers && list_all (is_limited room n (limits_of z)) z.scatters) _ h

  -- with other places on one side
  within-places : (access : Access) (es : List Sum) (z : PlainNest) → nest_is_within room n z ≡ true →
      nest_is_within room n (with_places access es z) ≡ list_all (is_limited room n (limits_of z)) es
  within-places Loads es z h =
      let limited = list_all (is_limited room n (limits_of z)) es in
      ap₂ (λ a b. (limited && a) && b) (side-within Stores z h) (multiplier-within z h) ∙ both-kept limited
  within-places Stores es z h =
      let limited = list_all (is_limited room n (limits_of z)) es in
      ap₂ (λ a b. (a && limited) && b) (side-within Loads z h) (multiplier-within z h) ∙ last-kept limited

-- its places have counts
pub ready-places : (access : Access) (z : PlainNest) → IsReadyNest z →
    AreReady (length z.counts + 2) (places_of access z)
ready-places Loads z h = h.gathers
ready-places Stores z h = h.scatters

ready-with : (access : Access) (es : List Sum) (z : PlainNest) → AreReady (length z.counts + 2) es → IsReadyNest z →
    IsReadyNest (with_places access es z)
ready-with Loads es z ready h = record { words = h.words; gathers = ready; scatters = h.scatters; multiplier = h.multiplier }
ready-with Stores es z ready h = record { words = h.words; gathers = h.gathers; scatters = ready; multiplier = h.multiplier }

-- ---- tests

swap : (a b c d : Bool) → ((a && b) && (c && d)) ≡ ((a && c) && (b && d))
swap true true c d = refl
swap true false true d = refl
swap true false false d = refl
swap false b c d = refl

-- a test of two facts over a list
both-all : (A B : Type 0) (g : A → Bool) (h : B → Bool) (s : A → B) (xs : List A) →
    list_all (λ e. g e && h (s e)) xs ≡ (list_all g xs && list_all h (map s xs))
both-all A B g h s [] = refl
both-all A B g h s (x ∷ xs) = ap (λ b. (g x && h (s x)) && b) (both-all A B g h s xs) ∙ swap (g x) (h (s x)) (list_all g xs) (list_all h (map s xs))

-- a pass takes a function on one side where each of its nests does
pub change-tests : (access : Access) (room n : ℕ) (f : Mapping) (zs : List PlainNest) → is_within room n zs ≡ true →
    list_all (nest_can_take access room n f) zs ≡ can_change access room n f zs
change-tests access room n f [] h = refl
change-tests access room n f (z ∷ zs) h =
    let cs = limits_of z in
    let es = places_of access z in
    let roomy = list_all (has_room cs f) es in
    let limited = list_all (is_limited room n cs) (places_by access f z) in
    ap₂ (λ a b. a && b) (both-all Sum Sum (has_room cs f) (is_limited room n cs) (simplified cs f) es) (change-tests access room n f zs (and-right (nest_is_within room n z) _ h))
    ∙ swap roomy limited (places_have_room access f zs) (is_within room n (changed access f zs))
    ∙ ap (λ a. (roomy && places_have_room access f zs) && (a && is_within room n (changed access f zs)))
    (sym (within-places room n access (places_by access f z) z (and-left (nest_is_within room n z) _ h)))

-- ---- what is known of a nest of a pass

pub ready-nest-at : (A : Type 0) (view : A → PlainNest) (xs : List A) (i : ℕ) (x : A) → IsReadyPass (map view xs) →
    i < length xs → x ≡ get_or xs i x → IsReadyNest (view x)
ready-nest-at A view [] i x h below is = absurd (omega (arith, below))
ready-nest-at A view (y ∷ ys) zero x h below is = subst (λ z. IsReadyNest (view z)) (sym is) h.0
ready-nest-at A view (y ∷ ys) (suc i) x h below is = ready-nest-at A view ys i x h.1 (omega (arith, below)) is

pub side-within-at : (access : Access) (room n : ℕ) (A : Type 0) (view : A → PlainNest) (xs : List A) (i : ℕ) (x : A) →
    is_within room n (map view xs) ≡ true → i < length xs → x ≡ get_or xs i x → IsSideWithin access room n (view x)
side-within-at access room n A view xs i x h below is = side-within room n access (view x) (all-at A PlainNest (nest_is_within room n) view xs i x h below is)

-- of the places and the counts that code has of a nest
pub ready-of : (access : Access) (z : PlainNest) (counts : List ℕ) (es : List Sum) → IsReadyNest z →
    counts ≡ all_limits z → es ≡ places_of access z → AreReady (length counts) es
ready-of access z counts es h is there =
    let deep = length-append z.counts (work_size z.work ∷ work_size z.work ∷ []) in
    subst (λ l. AreReady (length l) es) (sym is) (subst (AreReady (length (all_limits z))) (sym there) (subst (λ d. AreReady d (places_of access z)) (sym deep) (ready-places access z h)))

pub limited-of : (access : Access) (room n : ℕ) (z : PlainNest) (counts : List ℕ) (es : List Sum) →
    IsSideWithin access room n z → counts ≡ all_limits z → es ≡ places_of access z → are_limited room n counts es ≡ true
limited-of access room n z counts es h is there = ap₂ (are_limited room n) is there ∙ h

-- ---- what is known of a pass with a function more

ready-sums : (k : ℕ) (cs : ℕ → ℕ) (f : Mapping) (es : List Sum) → IsFormed f → AreReady k es →
    AreReady k (map (simplified cs f) es)
ready-sums k cs f [] formed h = tt
ready-sums k cs f (e ∷ es) formed h = (ready-simplified cs k f e formed.formed formed.no_list h.0, ready-sums k cs f es formed h.1)

ready-changed : (access : Access) (f : Mapping) (zs : List PlainNest) → IsFormed f → IsReadyPass zs →
    IsReadyPass (changed access f zs)
ready-changed access f [] formed h = tt
ready-changed access f (z ∷ zs) formed h =
    (ready-with access (places_by access f z) z (ready-sums (length z.counts + 2) (limits_of z) f (places_of access z) formed (ready-places access z h.0)) h.0, ready-changed access f zs formed h.1)

known-changed : (access : Access) (room n : ℕ) (f : Mapping) (zs : List PlainNest) → IsFormed f →
    can_change access room n f zs ≡ true → IsKnownPass room n zs → IsKnownPass room n (changed access f zs)
known-changed access room n f zs formed can h = record { within = and-right (places_have_room access f zs) _ can; ready = ready-changed access f zs formed h.ready }

pub known-gathered : (room n : ℕ) (f : Mapping) (zs : List PlainNest) → IsFormed f →
    can_gather (most room) n f zs ≡ true → IsKnownPass room n zs → IsKnownPass room n (gathered f zs)
known-gathered room n f zs formed can h = known-changed Loads room n f zs formed can h

pub known-scattered : (room n : ℕ) (f : Mapping) (zs : List PlainNest) → IsFormed f →
    can_scatter (most room) n f zs ≡ true → IsKnownPass room n zs → IsKnownPass room n (scattered f zs)
known-scattered room n f zs formed can h = known-changed Stores room n f zs formed can h

-- ---- diagonals

pub multiplied-from : (y z : PlainNest) (d : PlainFactors) (fs : List Mapping) (places : List Sum) →
    y ≡ multiplied_by z d places → places ≡ carried_by (all_limits z) fs z.scatters → y ≡ nest_multiplied d fs z
multiplied-from y z d fs places a b = a ∙ ap (multiplied_by z d) b
