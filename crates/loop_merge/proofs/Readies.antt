-- Copy passes, and passes that take a function, are of words.
use Rattle.std.proofs.Common.{◌≡◌, ℕ, ◌-◌, ◌^◌, ◌<◌, ◌≤◌, true, false, arith, sym, ap, List, [], ◌∷◌, ◌++◌, subst}
use Rattle.std.specs.Prelude.{if◌then◌else◌}
use Rattle.index_fn.specs.Mapping.{Mapping, at}
use Rattle.sigma_spl.specs.Good.{IsFormed}
use Rattle.sigma_spl.specs.Merge.{Room, most, can_gather, can_scatter, gathered, scattered, copying, copy_by, from_end}
use Rattle.sigma_spl.specs.Nest.{PlainNest}
use Rattle.sigma_spl.proofs.Limited.{few-round, round-word, table-within, copying-within}
use Rattle.sigma_spl.proofs.Walk.{chosen}
use Rattle.loop_nests.specs.NewNests.{copied_by_word}
use Rattle.loop_nests.proofs.Readies.{ready-copying, ready-words}
use Rattle.loop_nests.specs.Places.Known.{IsKnownPass, IsStep, AreSteps}
use Rattle.loop_nests.proofs.PlaceLemmas.Passes.{known-gathered, known-scattered}
use Rattle.loop_merge.specs.Known.{HasRoom}

-- ---- the room that is left

pub deep : (room n : ℕ) → HasRoom room n → 44 ≤ room
deep room n h = let few = few-round (64 - room) n h.some h.round in omega (arith, few, h.most)

pub low : (room n : ℕ) → HasRoom room n → n ≤ 2 ^ 20
low room n h = round-word (64 - room) n h.round

-- ---- copies

pub copy-words : (room : Room) (n : ℕ) (f : Mapping) → can_gather room n f (copying n) ≡ false →
    copied_by_word n f ≡ copy_by room n f
copy-words room n f can = sym (ap (λ b. if b then gathered f (copying n) else copied_by_word n f) can)

module _ (room n : ℕ) (h : HasRoom room n) where
  pub known-copying : IsKnownPass room n (copying n)
  known-copying = record { within = copying-within room n h.some (low room n h) (omega (arith, deep room n h)); ready = ready-copying n }

  known-words : (f : Mapping) → ((i : ℕ) → i < n → at f i < n) → IsKnownPass room n (copied_by_word n f)
  known-words f stay = record { within = table-within room n h.some (low room n h) (omega (arith, deep room n h)) f stay; ready = ready-words n f }

  pub known-by : (f : Mapping) → IsStep n f → IsKnownPass room n (copy_by (most room) n f)
  known-by f step =
      chosen (λ zs. IsKnownPass room n zs) (can_gather (most room) n f (copying n)) _ _
      (λ can. known-gathered room n f (copying n) step.moves.there can known-copying) (known-words f step.moves.permutes.there_below)

  -- what is left to merge, where a pass takes a gather
  pub known-more : (f : Mapping) (zs qs : List PlainNest) → IsStep n f → can_gather (most room) n f zs ≡ true →
      qs ≡ gathered f zs → IsKnownPass room n zs → IsKnownPass room n qs
  known-more f zs qs step can is known = subst (IsKnownPass room n) (sym is) (known-gathered room n f zs step.moves.there can known)

  pub known-stores : (f : Mapping) (zs qs : List PlainNest) → IsFormed f → can_scatter (most room) n f zs ≡ true →
      qs ≡ scattered f zs → IsKnownPass room n zs → IsKnownPass room n qs
  known-stores f zs qs formed can is known = subst (IsKnownPass room n) (sym is) (known-scattered room n f zs formed can known)

-- ---- gathers from their end

steps-append : (n : ℕ) (fs gs : List Mapping) → AreSteps n fs → AreSteps n gs → AreSteps n (fs ++ gs)
steps-append n [] gs h k = k
steps-append n (f ∷ fs) gs h k = (h.0, steps-append n fs gs h.1 k)

pub steps-end : (n : ℕ) (fs : List Mapping) → AreSteps n fs → AreSteps n (from_end fs)
steps-end n [] h = tt
steps-end n (f ∷ fs) h = steps-append n (from_end fs) (f ∷ []) (steps-end n fs h.1) (h.0, tt)
