-- What merging takes is within the limits.
use Rattle.std.proofs.Common.{◌≡◌, ℕ, ◌^◌, ◌<◌, ◌≤◌, Bool, true, arith, refl, List, [], ◌∷◌, ◌++◌, length}
use Rattle.std.specs.Prelude.{map, nat_lt, nat_le, ◌&&◌}
use Rattle.std.specs.List.{list_all}
use Rattle.std.proofs.lemmas.Bool.Decides.{nat_tests}
use Rattle.std.proofs.lemmas.Bool.{and_from}
use Rattle.index_fn.specs.Mapping.{Mapping, at}
use Rattle.operators.specs.Sum.{list_below}
use Rattle.perm_algebra.specs.Affine.{Sum, constant, top, peak, levels, parts, simplified}
use Rattle.perm_algebra.specs.Room.{has_room}
use Rattle.sigma_spl.specs.Limits.{AreWithin}
use Rattle.sigma_spl.specs.Merge.{most, Merging, Taking, limits_of, is_limited, are_small, is_multiplier_within}
use Rattle.sigma_spl.specs.Merge.{is_within, loads_have_room, stores_have_room, can_gather, can_scatter, carries_sum}
use Rattle.sigma_spl.specs.Merge.{is_free, can_multiply, gathered, scattered, all_simplified, multiplied, copying}
use Rattle.sigma_spl.specs.Merge.{copy_by, take_gathers, copies_before, settled, with_pass, with_scatter, back_of}
use Rattle.sigma_spl.specs.Merge.{from_end, ended, new_nest}
use Rattle.sigma_spl.specs.Nest.{PlainFactors, factor_count, PlainNest}
use Rattle.sigma_spl.specs.Work.{copy}
use Rattle.sigma_spl.proofs.Walk.{chosen, and-left, and-right}

pub within-append : (room n : ℕ) (ps qs : List (List PlainNest)) → AreWithin room n ps → AreWithin room n qs →
    AreWithin room n (ps ++ qs)
within-append room n [] qs h k = k
within-append room n (zs ∷ ps) qs h k = (h.0, within-append room n ps qs h.1 k)

-- ---- gathers

within-take : (room n : ℕ) (zs : List PlainNest) (fs : List Mapping) → is_within room n zs ≡ true →
    is_within room n (take_gathers (most room) n zs fs).pass ≡ true
within-take room n zs [] h = h
within-take room n zs (f ∷ fs) h = chosen (λ (t : Taking). is_within room n t.pass ≡ true) (can_gather (most room) n f zs) _ _ (λ yes. within-take room n (gathered f zs) fs (and-right (loads_have_room f zs) _ yes)) h

-- a pass that copies word by word
abbrev pub TablesFit : ℕ → ℕ → Type 0
TablesFit room n = (f : Mapping) → ((i : ℕ) → i < n → at f i < n) → is_within room n (new_nest [] (copy (length (list_below n (at f)))) (map constant (list_below n (at f))) ∷ []) ≡ true

module _ (room n : ℕ) (fit : TablesFit room n) where
  abbrev pub AreInside' : List Mapping → Type 0
  AreInside' [] = Unit {0}
  AreInside' (f ∷ fs) = ((i : ℕ) → i < n → at f i < n) × AreInside' fs

  pub within-by : (f : Mapping) → ((i : ℕ) → i < n → at f i < n) → is_within room n (copy_by (most room) n f) ≡ true
  within-by f stay = chosen (λ zs. is_within room n zs ≡ true) (can_gather (most room) n f (copying n)) _ _ (λ yes. and-right (loads_have_room f (copying n)) _ yes) (fit f stay)

  within-copies : (zs : List PlainNest) (fs : List Mapping) → is_within room n zs ≡ true → AreInside' fs →
      AreWithin room n (copies_before (most room) n zs fs)
  within-copies zs [] h stay = (h, tt)
  within-copies zs (f ∷ fs) h stay =
      chosen (λ ps. AreWithin room n ps) (can_gather (most room) n f zs) _ _ (λ yes. within-copies (gathered f zs) fs (and-right (loads_have_room f zs) _ yes) stay.1) (h, within-copies (copy_by (most room) n f) fs (within-by f stay.0) stay.1)

  pub within-settled : (fs : List Mapping) → AreInside' fs → AreWithin room n (settled (most room) n fs)
  within-settled [] stay = tt
  within-settled (f ∷ fs) stay = within-copies (copy_by (most room) n f) fs (within-by f stay.0) stay.1

  left-inside : (zs : List PlainNest) (fs : List Mapping) → AreInside' fs →
      AreInside' (take_gathers (most room) n zs fs).left
  left-inside zs [] stay = tt
  left-inside zs (f ∷ fs) stay = chosen (λ (t : Taking). AreInside' t.left) (can_gather (most room) n f zs) _ _ (λ yes. left-inside (gathered f zs) fs stay.1) stay

  pub within-pass : (st : Merging) (zs : List PlainNest) → is_within room n zs ≡ true → AreInside' st.waiting →
      AreWithin room n st.passes → AreWithin room n (with_pass (most room) n st zs).passes
  within-pass st zs h stay before =
      (within-take room n zs st.waiting h, within-append room n (settled (most room) n (take_gathers (most room) n zs st.waiting).left) st.passes (within-settled _ (left-inside zs st.waiting stay)) before)

  pub within-scatter : (waiting : List Mapping) (passes : List (List PlainNest)) (f : Mapping) →
      AreWithin room n passes → AreWithin room n (with_scatter (most room) n waiting passes f).passes
  within-scatter [] [] f h = h
  within-scatter [] (zs ∷ ps) f h = chosen (λ (t : Merging). AreWithin room n t.passes) (can_scatter (most room) n f zs) _ _ (λ yes. (and-right (stores_have_room f zs) _ yes, h.1)) h
  within-scatter (g ∷ gs) passes f h = h

  inside-append : (fs gs : List Mapping) → AreInside' fs → AreInside' gs → AreInside' (fs ++ gs)
  inside-append [] gs h k = k
  inside-append (f ∷ fs) gs h k = (h.0, inside-append fs gs h.1 k)

  pub inside-end : (fs : List Mapping) → AreInside' fs → AreInside' (from_end fs)
  inside-end [] h = tt
  inside-end (f ∷ fs) h = inside-append (from_end fs) (f ∷ []) (inside-end fs h.1) (h.0, tt)

  pub within-ended : (fs : List Mapping) (passes : List (List PlainNest)) → AreInside' fs → AreWithin room n passes →
      AreWithin room n (ended (most room) n fs passes)
  within-ended [] passes stay h = h
  within-ended (f ∷ fs) [] stay h = within-settled (from_end (f ∷ fs)) (inside-end (f ∷ fs) stay)
  within-ended (f ∷ fs) (zs ∷ ps) stay h =
      chosen (λ qs. AreWithin room n qs) (can_scatter (most room) n (back_of f) zs) _ _
      (λ yes. within-ended fs (scattered (back_of f) zs ∷ ps) stay.1 (and-right (stores_have_room (back_of f) zs) _ yes, h.1))
      (within-append room n (settled (most room) n (from_end (f ∷ fs))) (zs ∷ ps) (within-settled (from_end (f ∷ fs)) (inside-end (f ∷ fs) stay)) h)

-- ---- diagonals

carries-last : (room n count : ℕ) (cs : ℕ → ℕ) (fs : List Mapping) (e : Sum) → carries_sum room n count cs fs e ≡ true →
    is_limited room count cs (all_simplified cs fs e) ≡ true
carries-last room n count cs [] e h = h
carries-last room n count cs (f ∷ fs) e h = carries-last room n count cs fs (simplified cs f e) (and-right (has_room cs f e) _ (and-right (is_limited room n cs e) _ h))

pub carries-all : (room n count : ℕ) (cs : ℕ → ℕ) (fs : List Mapping) (es : List Sum) →
    list_all (carries_sum room n count cs fs) es ≡ true → list_all (is_limited room count cs)
    (map (all_simplified cs fs) es) ≡ true
carries-all room n count cs fs [] h = refl
carries-all room n count cs fs (e ∷ es) h =
    and_from _ _ (carries-last room n count cs fs e (and-left (carries_sum room n count cs fs e) _ h)) (carries-all room n count cs fs es (and-right (carries_sum room n count cs fs e) _ h))

-- a pass that can take a diagonal is within the limits with it
pub within-multiplied : (room n : ℕ) (factors : PlainFactors) (fs : List Mapping) (zs : List PlainNest) →
    is_within room n zs ≡ true → can_multiply room n factors fs zs ≡ true →
    is_within room n (multiplied factors fs zs) ≡ true
within-multiplied room n factors fs [] h can = refl
within-multiplied room n factors fs (z ∷ zs) h can =
    let cs = limits_of z in
    let places = list_all (is_limited room n cs) z.gathers && list_all (is_limited room n cs) z.scatters in
    let here = and-left (places && is_multiplier_within room cs z.multiplier) _ h in
    let carried = and-left (is_free z.multiplier && list_all (carries_sum room n (factor_count factors) cs fs) z.scatters) _ can in
    and_from _ _
    (and_from _ _ (and-left places _ here) (carries-all room n (factor_count factors) cs fs z.scatters (and-right (is_free z.multiplier) _ carried)))
    (within-multiplied room n factors fs zs (and-right (places && is_multiplier_within room cs z.multiplier) _ h) (and-right (is_free z.multiplier && list_all (carries_sum room n (factor_count factors) cs fs) z.scatters) _ can))

-- ---- sums within the limits

pub record IsSmall (room n : ℕ) (cs : ℕ → ℕ) (e : Sum) : Type 0 where
  pub parts : parts e ≤ room
  pub levels : levels e ≤ 64
  pub top : top e cs < n
  pub peak : peak e < n
  pub small : are_small cs e ≡ true

all-true : (p r l t k n : ℕ) (s : Bool) → p ≤ r → l ≤ 64 → t < n → k < n → s ≡ true →
    ((nat_le p r && nat_le l 64) && ((nat_lt t n && nat_lt k n) && s)) ≡ true
all-true p r l t k n s a b c d e = grind (arith, nat_tests)

pub limited : (room n : ℕ) (cs : ℕ → ℕ) (e : Sum) → IsSmall room n cs e → is_limited room n cs e ≡ true
limited room n cs e h = all-true (parts e) room (levels e) (top e cs) (peak e) n (are_small cs e) h.parts h.levels h.top h.peak h.small

pub small-true : (c : ℕ) → c < 2 ^ 32 → nat_lt c (2 ^ 32) ≡ true
small-true c h = grind (arith, nat_tests)

pub constant-small : (room n : ℕ) (cs : ℕ → ℕ) (c : ℕ) → c < n → n ≤ 2 ^ 20 → IsSmall room n cs (constant c)
constant-small room n cs c below high = record { parts = omega arith; levels = omega arith; top = below; peak = below; small = small-true c (omega arith) }
