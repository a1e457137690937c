-- A term leaves a state of merging whose numbers are words.
use Rattle.std.proofs.Common.{◌≡◌, ℕ, ◌+◌, ◌-◌, ◌^◌, ◌<◌, ◌≤◌, arith, sym, subst, List, [], ◌∷◌, length}
use Rattle.std.proofs.Math.Nat.{mul-le-mul_right}
use Rattle.index_fn.specs.Mapping.{Mapping}
use Rattle.sigma_spl.specs.Limits.{AreSeveral, AreWithin, HasSeveral}
use Rattle.sigma_spl.specs.Merge.{most, Merging, nothing, can_scatter, scattered, back_of, from_end, settled, ended}
use Rattle.sigma_spl.specs.Merge.{with_passes, sides, merged}
use Rattle.sigma_spl.specs.Nest.{PlainNest}
use Rattle.sigma_spl.specs.Term.{PlainTerm, same, gath, scat, diag, nest, move, product, beside}
use Rattle.sigma_spl.proofs.Limited.{IsRound, few-round, round-inner, sides-within}
use Rattle.sigma_spl.proofs.Walk.{chosen}
use Rattle.operators.specs.Paths.Tensors.{Path, size_under}
use Rattle.loop_merge.specs.Known.{IsGood, AreKnownPasses, HasRoom, IsKnown}
use Rattle.loop_nests.specs.Ready.{AreReadyPasses}
use Rattle.loop_nests.specs.Places.Known.{AreSteps}
use Rattle.sigma_spl.specs.Words.{AreWords}
use Rattle.loop_nests.proofs.PlaceLemmas.Passes.{known-scattered}
use Rattle.loop_merge.proofs.Readies.{low, steps-end}
use Rattle.loop_nests.proofs.Sided.{ready-sides}
use Rattle.loop_merge.proofs.States.{known-nest, known-move, known-append, known-settled, known-pass, known-scatter}
use Rattle.loop_merge.proofs.States.{steps-scatter, known-diagonal, steps-diagonal}

pub nothing-known : (room n : ℕ) → IsKnown room n nothing
nothing-known room n = record { waiting = tt; passes = tt }

-- ---- direct sums

pub within-of : (room n : ℕ) (ps : List (List PlainNest)) → AreKnownPasses room n ps → AreWithin room n ps
within-of room n [] h = tt
within-of room n (zs ∷ ps) h = (h.0.within, within-of room n ps h.1)

pub ready-of : (room n : ℕ) (ps : List (List PlainNest)) → AreKnownPasses room n ps → AreReadyPasses ps
ready-of room n [] h = tt
ready-of room n (zs ∷ ps) h = (h.0.ready, ready-of room n ps h.1)

known-of : (room n : ℕ) (ps : List (List PlainNest)) → AreWithin room n ps → AreReadyPasses ps →
    AreKnownPasses room n ps
known-of room n [] h g = tt
known-of room n (zs ∷ ps) h g = (record { within = h.0; ready = g.0 }, known-of room n ps h.1 g.1)

pub known-ended : (room n : ℕ) → HasRoom room n → (fs : List Mapping) (passes : List (List PlainNest)) → AreSteps n fs →
    AreKnownPasses room n passes → AreKnownPasses room n (ended (most room) n fs passes)
known-ended room n h [] passes steps k = k
known-ended room n h (f ∷ fs) [] steps k = known-settled room n h (from_end (f ∷ fs)) (steps-end n (f ∷ fs) steps)
known-ended room n h (f ∷ fs) (zs ∷ ps) steps k =
    chosen (λ qs. AreKnownPasses room n qs) (can_scatter (most room) n (back_of f) zs) _ _
    (λ can. known-ended room n h fs (scattered (back_of f) zs ∷ ps) steps.1 (known-scattered room n (back_of f) zs steps.0.moves.back can k.0, k.1))
    (known-append room n h (settled (most room) n (from_end (f ∷ fs))) (zs ∷ ps) (known-settled room n h (from_end (f ∷ fs)) (steps-end n (f ∷ fs) steps)) k)

known-passes : (room n : ℕ) → HasRoom room n → (st : Merging) (ps : List (List PlainNest)) → AreKnownPasses room n ps →
    AreSteps n st.waiting → AreKnownPasses room n st.passes →
    AreKnownPasses room n (with_passes (most room) n st ps).passes
known-passes room n h st [] k steps before = before
known-passes room n h st (zs ∷ []) k steps before = known-pass room n h st zs k.0 steps before
known-passes room n h st (zs ∷ ys ∷ ps) k steps before = (k.0, known-passes room n h st (ys ∷ ps) k.1 steps before)

pub steps-passes : (room n : ℕ) (st : Merging) (ps : List (List PlainNest)) → AreSteps n st.waiting →
    AreSteps n (with_passes (most room) n st ps).waiting
steps-passes room n st [] steps = steps
steps-passes room n st (zs ∷ []) steps = tt
steps-passes room n st (zs ∷ ys ∷ ps) steps = tt

-- the room inside of tensors
pub record HasInner (room : ℕ) (path : Path) (k l : ℕ) : Type 0 where
  pub short : length path + 3 ≤ room
  pub left : HasRoom (room - length path) k
  pub right : HasRoom (room - length path) l

pub inner-room : (room n : ℕ) (path : Path) (k l : ℕ) → HasRoom room n → AreSeveral path → 0 < k → 0 < l →
    size_under path (k + l) ≡ n → HasInner room path k l
inner-room room n path k l h several left right size =
    let u = 64 - room in
    let whole = round-inner path u (k + l) several (subst (IsRound u) (sym size) h.round) in
    let few = few-round (u + length path) (k + l) (omega (arith, left)) whole in
    let deep : u + length path ≡ 64 - (room - length path) = omega (arith, few, h.most) in
    let one = mul-le-mul_right (2 ^ (u + length path)) (let p : k ≤ k + l = omega arith in p) in
    let two = mul-le-mul_right (2 ^ (u + length path)) (let p : l ≤ k + l = omega arith in p) in
    let first : IsRound (u + length path) k = omega (arith, one, whole) in
    let second : IsRound (u + length path) l = omega (arith, two, whole) in
    record {
      short = omega (arith, few, h.most);
      left = record { some = left; most = omega (arith, h.most); round = subst (λ v. IsRound v k) deep first };
      right = record { some = right; most = omega (arith, h.most); round = subst (λ v. IsRound v l) deep second };
    }

pub known-sides : (room n : ℕ) (path : Path) (k l : ℕ) (ps qs : List (List PlainNest)) → HasRoom room n →
    AreSeveral path → HasInner room path k l → size_under path (k + l) ≡ n →
    AreKnownPasses (room - length path) k ps → AreKnownPasses (room - length path) l qs →
    AreKnownPasses room n (sides path k l ps qs)
known-sides room n path k l ps qs h several inner size p q =
    let both = sides-within room k l path several inner.left.some inner.right.some (omega (arith, size, low room n h)) inner.short ps qs (within-of (room - length path) k ps p) (within-of (room - length path) l qs q) in
    known-of room n (sides path k l ps qs) (subst (λ z. AreWithin room z (sides path k l ps qs)) size both) (ready-sides path k l ps qs (ready-of (room - length path) k ps p) (ready-of (room - length path) l qs q))

-- ---- terms

pub merged-known : (room n : ℕ) (st : Merging) (t : PlainTerm) → HasRoom room n → IsGood n t → HasSeveral t →
    AreWords n t → IsKnown room n st → IsKnown room n (merged (most room) n st t)
merged-known room n st same h good several words k = k
merged-known room n st (gath f) h good several words k = record { waiting = (record { lanes = good.lanes; moves = good.term; numbers = words }, k.waiting); passes = k.passes }
merged-known room n st (scat f) h good several words k =
    record {
      waiting = steps-scatter room n h st.waiting st.passes f (record { lanes = good.lanes; moves = good.term.1; numbers = words.1 }) k.waiting;
      passes = known-scatter room n h st.waiting st.passes f good.term.0.there k.passes;
    }
merged-known room n st (diag path factors) h good several words k =
    record { waiting = steps-diagonal room n h st.waiting st.passes path factors k.waiting; passes = known-diagonal room n h st.waiting st.passes path factors good.term k.waiting k.passes }
merged-known room n st (nest path w) h good several words k = record { waiting = tt; passes = known-pass room n h st _ (known-nest room n h path w good several words) k.waiting k.passes }
merged-known room n st (move path ks) h good several words k = record { waiting = tt; passes = known-pass room n h st _ (known-move room n h path ks good several) k.waiting k.passes }
merged-known room n st (product a b) h good several words k =
    merged-known room n (merged (most room) n st a) b h (record { lanes = good.lanes; term = good.term.1 }) several.1 words.1
    (merged-known room n st a h (record { lanes = good.lanes; term = good.term.0 }) several.0 words.0 k)
merged-known room n st (beside path k a l b) h good several words is =
    let inner = inner-room room n path k l h several.0 good.term.0 good.term.1 good.term.2 in
    let r = room - length path in
    let first = merged-known r k nothing a inner.left (record { lanes = 0; term = good.term.3 }) several.1 words.0 (nothing-known r k) in
    let second = merged-known r l nothing b inner.right (record { lanes = 0; term = good.term.4 }) several.2 words.1 (nothing-known r l) in
    let ps = ended (most r) k (from_end (merged (most r) k nothing a).waiting) (merged (most r) k nothing a).passes in
    let qs = ended (most r) l (from_end (merged (most r) l nothing b).waiting) (merged (most r) l nothing b).passes in
    let both = known-sides room n path k l ps qs h several.0 inner good.term.2
    (known-ended r k inner.left _ _ (steps-end k _ first.waiting) first.passes) (known-ended r l inner.right _ _ (steps-end l _ second.waiting) second.passes) in
    record { waiting = steps-passes room n st (sides path k l ps qs) is.waiting; passes = known-passes room n h st (sides path k l ps qs) both is.waiting is.passes }

pub whole-room : (n : ℕ) → 0 < n → n ≤ 2 ^ 20 → HasRoom 64 n
whole-room n some high = let round : IsRound 0 n = omega (arith, high) in record { some = some; most = omega arith; round = round }
