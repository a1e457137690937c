-- Each phase of a layout has a loop, since it has a pass.
use Rattle.sigma_lower.proofs.Words.{◌≡◌, ℕ, ◌==◌, Bool, true, false, List, [], ◌∷◌, ◌++◌, refl, sym, subst, map}
use Rattle.sigma_lower.proofs.Words.{reverse, reverse-append, Target, PlainLoop, HasLoop, is_alone, AllHaveLoops}
use Rattle.sigma_lower.proofs.Words.{PlainPass, passes_of_terms, merged_phases, loop_of, right_path, PlainTerm}
use Rattle.sigma_lower.proofs.Words.{lowered_of, chosen, RootHasParts, Layout, work, by, layout_size, Rule, Gt, Ct}
use Rattle.sigma_lower.proofs.Words.{Split}
use Rattle.sigma_lower.specs.Merged.{PhasesHaveLoops}
use Rattle.sigma_lower.proofs.TreeLoops.LoopNests.{loops_listed}
use Rattle.sigma_lower.proofs.TreeLoops.RootMerging.{root_merged}
use Rattle.sigma_lower.proofs.TreeLoops.RootPasses.{if_lanes, left_pass, left_passes, right_passes, root_passes}
use Rattle.sigma_lower.proofs.TreeLoops.RootPasses.{tile_after, tile_before, turned_waiting}
use Rattle.sigma_lower.proofs.TreeLoops.TreePasses.{IsFull, full-append, full-at_last, full-mapped, full_passes}
use Rattle.sigma_lower.proofs.TreeLoops.TreePasses.{layout_passes}
use Rattle.sigma_lower.proofs.TreeLoops.Wholes.{plain_phases}

-- ---- from passes to loops

loop-behind : (ls : List PlainLoop) (l : PlainLoop) → HasLoop (ls ++ l ∷ [])
loop-behind [] l = tt
loop-behind (k ∷ ls) l = tt

full-loops : (ps : List PlainPass) → IsFull ps → HasLoop (reverse (map loop_of ps))
full-loops [] h = absurd h
full-loops (p ∷ ps) h =
    subst HasLoop (sym (reverse-append (loop_of p ∷ []) (map loop_of ps)))
    (loop-behind (reverse (map loop_of ps)) (loop_of p))

abbrev AllFull : List (List PlainPass) → Type 0
AllFull [] = Unit {0}
AllFull (ps ∷ more) = IsFull ps × AllFull more

all-have : (c : Target) (phases : List (List PlainTerm)) → AllFull (map passes_of_terms phases) → AllHaveLoops c phases
all-have c [] full = tt
all-have c (ts ∷ more) full =
    (subst HasLoop (sym (loops_listed ts)) (full-loops (passes_of_terms ts) full.0), all-have c more full.1)

-- ---- the passes of a root

full-front : (ps qs : List PlainPass) → IsFull ps → IsFull (ps ++ qs)
full-front [] qs h = absurd h
full-front (p ∷ ps) qs h = tt

full-split : (p v : ℕ) (a b : Layout) → IsFull (right_passes p v Split 0 a b)
full-split p v a b =
    let passes = layout_passes (right_path p v (layout_size a)) [] b in
    full-append (if_lanes v (tile_before p v (layout_size a) (layout_size b))) _
    (full-front passes (if_lanes v (tile_after p v (layout_size a) (layout_size b)))
    (full_passes (right_path p v (layout_size a)) [] b))

full-right : (c : Target) (p v : ℕ) (rule : Rule) (w : ℕ) (a b : Layout) → RootHasParts c (by rule w a b) →
    IsFull (right_passes p v rule w a b)
full-right c p v Gt w a b fits = absurd fits
full-right c p v Ct w a b fits =
    let path = right_path p v (layout_size a) in
    let waiting = turned_waiting p v (layout_size a) (layout_size b) in
    full-at_last _ _ (full-front (layout_passes path waiting b) _ (full_passes path waiting b))
full-right c p v _ w a b fits = full-split p v a b

root-full : (c : Target) (l : Layout) → RootHasParts c l → AllFull (root_passes c l)
root-full c (work w) fits = absurd fits
root-full c (by rule root a b) fits =
    let right = right_passes c.procs c.lanes rule root a b in
    let left = left_passes c.procs c.lanes (layout_size b) a in
    let on_right = full-right c c.procs c.lanes rule root a b fits in
    let copied = left_pass c.procs c.lanes (layout_size a) (layout_size b) in
    let on_left = full-mapped copied (layout_passes [] [] a) (full_passes [] [] a) in
    chosen AllFull (c.procs == 1) ((right ++ left) ∷ []) (right ∷ left ∷ [])
    (λ one. (full-front right left on_right, tt)) (on_right, (on_left, tt))

pub phases_have_loops : PhasesHaveLoops
phases_have_loops c l valid shares good = all-have c (lowered_of c l) (pick (is_alone c) refl)
  where
    pick : (b : Bool) → is_alone c ≡ b → AllFull (merged_phases c l)
    pick true is = subst AllFull (sym (plain_phases c l is)) (full_passes [] [] l, tt)
    pick false is = subst AllFull (sym (root_merged c l shares good is)) (root-full c l (shares.root is))
