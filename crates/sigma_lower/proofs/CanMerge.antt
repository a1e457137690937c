-- The terms of a whole can be merged.
use Rattle.sigma_lower.proofs.Words.{ℕ, ◌*◌, ◌^◌, ◌≤◌, ◌==◌, arith, refl, sym, List, [], ◌∷◌, ◌++◌, subst, map, Mapping}
use Rattle.sigma_lower.proofs.Words.{Strided, ThomasIn, ThomasOut, ThomasBack, IsMachine, chosen, AreSeveral, back_of}
use Rattle.sigma_lower.proofs.Words.{unit_below, HasNumbers, PlainWork, kernel, rows, horner, tile, copy, embed}
use Rattle.sigma_lower.proofs.Words.{phase_term, core_term, PlainPass, Merging, new_pass, scattered, multiplied}
use Rattle.sigma_lower.proofs.Words.{merge_term, merged, passes_of_terms, in_order, merged_of, IsGoodPiece, IsVecOf}
use Rattle.sigma_lower.proofs.Words.{IsGoodCore, IsGood, AreGood, factor_term, lowered_of, wrapped, layout_smp, within}
use Rattle.sigma_lower.proofs.Words.{core_size, PlainCore, piece, turns, thomas_in, thomas_out, PlainStep, step}
use Rattle.sigma_lower.proofs.Words.{CanShareLayout, Layout, IsGoodLayout, only, Target, Columns, Path, size_under}
use Rattle.sigma_lower.proofs.Words.{vec_of, PlainFactor, move_after, factor_step, lt-ltb, HasSeveral, AllCanMerge}
use Rattle.sigma_lower.proofs.Words.{AreWords, IsGoodWhole}
use Rattle.sigma_spl.specs.Limits.{HasRows}
use Rattle.sigma_spl.specs.Term.{scat}
use Rattle.sigma_spl.specs.Work.{HasWords}
use Rattle.sigma_lower.specs.Merged.{TreesCanMerge}
use Rattle.sigma_lower.proofs.Closing.{closed-can}
use Rattle.sigma_lower.proofs.Embedded.{embed-core, sizes-of}
use Rattle.sigma_lower.proofs.Moves.{back-wrapped}
use Rattle.sigma_lower.proofs.Numbers.{numbers-wrapped, strided-closed, in-closed, out-closed}
use Rattle.sigma_lower.proofs.SharedTrees.{AllEmbed, trees_embed}
use Rattle.sigma_lower.proofs.TreeLoops.PassLists.{AllPasses, all-map, all-split, last-back}
use Rattle.sigma_lower.proofs.TreeLoops.Shaped.{IsShapedWork}
use Rattle.sigma_lower.proofs.TreeLoops.RootPlaces.{IsGoodPlace}
use Rattle.sigma_lower.proofs.TreeLoops.TreePlaces.{tree_good_places}
use Rattle.sigma_lower.specs.TreeTerms.Term.{lowered_after}
use Rattle.sigma_lower.proofs.TreeTerms.Goods.{vec_good, phases_good}
use Rattle.vec_rewrite.specs.Vectors.{tiles}
use Rattle.sigma_lower.specs.TreeTerms.Term as lowered
use Rattle.smp_rewrite.specs.Layout.Step as steps

-- ---- numbers

piece-words : (w : PlainWork) → IsGoodPiece w → HasWords w
piece-words (kernel trees) h = h
piece-words (tile v) h = absurd h
piece-words (copy size) h = absurd h
piece-words _ h = tt

-- a scatter by a permutation under tensors
scat-words : (path : Path) (n : ℕ) (f : Mapping) → HasNumbers (size_under path n) (wrapped path n f) →
    HasNumbers (size_under path n) (wrapped path n (back_of f)) → AreWords (size_under path n) (scat (wrapped path n f))
scat-words path n f h k = (h, subst (HasNumbers (size_under path n)) (sym (back-wrapped path n f)) k)

core-words : (path : Path) (k : PlainCore) → IsGoodCore k → core_size k ≤ 1048576 →
    size_under path (core_size k) ≤ 1048576 → AreWords (size_under path (core_size k)) (core_term path k)
core-words path (piece w) h low high = piece-words w h
core-words path (turns r s) h low high =
    let closed = strided-closed r s (omega (arith, h.0)) (omega (arith, h.1)) low in numbers-wrapped path (r * s) (Strided r s) high refl closed.0 closed.1
core-words path (steps.twiddles r s w) h low high = tt
core-words path (thomas_in r s) h low high =
    let closed = in-closed r s h in numbers-wrapped path (r * s) (ThomasIn r s) high (lt-ltb (r * s) (2 ^ 32) (omega (arith, low))) closed.0 closed.1
core-words path (thomas_out r s) h low high =
    let closed = out-closed r s h in
    let back : Mapping = ThomasBack r s (unit_below r s r) (unit_below s r s) in
    scat-words path (r * s) back (numbers-wrapped path (r * s) back high refl closed.1 closed.0) (numbers-wrapped path (r * s) (ThomasOut r s) high (lt-ltb (r * s) (2 ^ 32) (omega (arith, low))) closed.0 closed.1)

step-words : (c : Target) (s : PlainStep) → IsMachine c → IsGood c.size s → AreWords c.size (embed (lowered.lowered s))
step-words c s valid h =
    let sizes = sizes-of c s valid h in
    subst (AreWords c.size) (sym (embed-core s.path s.core)) (subst (λ n. AreWords n (core_term s.path s.core)) h.size (core-words s.path s.core h.core sizes.low sizes.high))

after-words : (c : Target) (path : Path) (k : PlainCore) → IsMachine c → IsGood c.size (step path k) →
    AreWords c.size (embed (lowered_after (step path k)))
after-words c path (turns r s) valid h =
    let n = r * s in
    let sizes = sizes-of c (step path (turns r s)) valid h in
    let closed = strided-closed r s (omega (arith, h.core.0)) (omega (arith, h.core.1)) sizes.low in
    subst (λ m. AreWords m (scat (wrapped path n (Strided s r)))) h.size
    (scat-words path n (Strided s r) (numbers-wrapped path n (Strided s r) sizes.high refl closed.1 closed.0) (numbers-wrapped path n (Strided r s) sizes.high refl closed.0 closed.1))
after-words c path k valid h = step-words c (step path k) valid h

factor-words : (c : Target) (p v : ℕ) (f : PlainFactor) → IsMachine c → IsGood c.size (factor_step p v f) →
    AreWords c.size (embed (factor_term p v f))
factor-words c p v (move_after s) valid h = after-words c (within (Columns v) s.path) s.core valid h
factor-words c p v (tiles path) valid h = let sizes = sizes-of c (factor_step p v (tiles path)) valid h in omega (arith, sizes.low)
factor-words c p v f valid h = step-words c (factor_step p v f) valid h

abbrev AreWordPhases : Target → List (List lowered.PlainTerm) → Type 0
AreWordPhases c [] = Unit {0}
AreWordPhases c (ts ∷ more) = AreWords c.size (phase_term ts) × AreWordPhases c more

phase-words : (c : Target) (p v : ℕ) (fs : List PlainFactor) → IsMachine c → AreGood c.size (map (factor_step p v) fs) →
    AreWords c.size (phase_term (map (factor_term p v) fs))
phase-words c p v [] valid h = tt
phase-words c p v (f ∷ fs) valid h = (factor-words c p v f valid h.0, phase-words c p v fs valid h.1)

tree-words : (c : Target) (l : Layout) → IsMachine c → CanShareLayout c l → IsGoodLayout c.modulus l →
    AreWordPhases c (lowered_of c l)
tree-words c l valid shares good =
    let g = vec_of (layout_smp c l) in
    let whole : IsGoodWhole c.modulus (only l) = record { layout = good; factor = tt } in
    let is : IsVecOf c g = record { whole = only l; shares = shares; good = whole; form = refl } in
    let each = phases_good c g is in
    let words = phase-words c c.procs c.lanes in
    chosen (λ phases. AreWordPhases c (map (map (factor_term c.procs c.lanes)) phases)) (c.procs == 1)
    ((g.first ++ g.second) ∷ []) (g.first ∷ g.second ∷ [])
    (λ one. (words (g.first ++ g.second) valid (vec_good c g is), tt))
    (words g.first valid each.0, (words g.second valid each.1, tt))

-- ---- several copies

-- a pass over several copies by each tensor, and several rows
abbrev IsSeveral : PlainPass → Type 0
IsSeveral p = AreSeveral p.path × HasRows p.work

-- each nest of terms is a pass in the end
nests-several : (ts : List lowered.PlainTerm) (st : Merging) → AllPasses IsSeveral (merged st ts).passes →
    HasSeveral (phase_term ts) × AllPasses IsSeveral st.passes
nests-several [] st h = (tt, h)
nests-several (lowered.gath f ∷ ts) st h =
    let rest = nests-several ts (merge_term st (lowered.gath f)) h in ((tt, rest.0), rest.1)
nests-several (lowered.scat f ∷ ts) st h =
    let rest = nests-several ts (merge_term st (lowered.scat f)) h in
    ((tt, rest.0), last-back IsSeveral (scattered f) (λ p k. k) st.passes rest.1)
nests-several (lowered.diag path r s w ∷ ts) st h =
    let rest = nests-several ts (merge_term st (lowered.diag path r s w)) h in
    ((tt, rest.0), last-back IsSeveral (multiplied path r s w) (λ p k. k) st.passes rest.1)
nests-several (lowered.nest path w ∷ ts) st h =
    let rest = nests-several ts (merge_term st (lowered.nest path w)) h in
    let passes = all-split IsSeveral st.passes (new_pass path w st.waiting ∷ []) rest.1 in
    ((passes.1.0, rest.0), passes.0)

shaped-rows : (m : ℕ) (w : PlainWork) → IsShapedWork m w → HasRows w
shaped-rows m (rows root size) h = h.0
shaped-rows m (horner root size) h = absurd h
shaped-rows m (copy size) h = absurd h
shaped-rows m _ h = tt

-- ---- phases

all-can : (c : Target) (phases : List (List lowered.PlainTerm)) → IsMachine c → AllEmbed c c.lanes phases →
    AllPasses IsSeveral (in_order (map passes_of_terms phases)) → AreWordPhases c phases →
    AllCanMerge c.lanes c.size (map phase_term phases)
all-can c [] valid embeds several words = tt
all-can c (ts ∷ more) valid embeds several words =
    let each = all-split IsSeveral (passes_of_terms ts) (in_order (map passes_of_terms more)) several in (
      record {
        good = embeds.0.good;
        several = (nests-several ts (record { waiting = []; passes = [] }) each.0).0;
        words = words.0;
      },
      all-can c more valid embeds.1 each.1 words.1,
    )

pub trees_can_merge : TreesCanMerge
trees_can_merge c w can =
    let l = w.layout in
    let valid = can.machine in
    let shares = can.shares in
    let good = can.good.layout in
    let embeds = trees_embed c l valid shares good in
    let several = all-map (IsGoodPlace c (IsShapedWork c.modulus)) IsSeveral
    (λ p h. (h.shaped.wide, shaped-rows c.modulus p.work h.shaped.work)) (merged_of c l) (tree_good_places c l shares good) in
    let phases = all-can c (lowered_of c l) valid embeds several (tree-words c l valid shares good) in
    record {
      some = valid.size.0;
      most = omega (arith, valid.size.1);
      phases = closed-can c.lanes c.size w.factor (map phase_term (lowered_of c l)) phases;
    }
