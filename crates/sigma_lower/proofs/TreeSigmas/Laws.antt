-- The terms of each tree that a valid request admits are a tree's.
use Rattle.sigma_lower.proofs.Words.{◌≡◌, ◌≢◌, ℕ, ◌*◌, ◌^◌, ◌<◌, ◌≤◌, ◌==◌, Bool, true, false, List, [], ◌∷◌, length}
use Rattle.sigma_lower.proofs.Words.{refl, sym, ap, ◌∙◌, arith, subst, Option, None, Some, if◌then◌else◌, All, map}
use Rattle.sigma_lower.proofs.Words.{length-map, All-nil, All-cons, Kind, Idft, Request, forward_of, IsValid, Target}
use Rattle.sigma_lower.proofs.Words.{LastIs, AreLimitedLoops, IsOrdered, PlainLoop, loops_in, multiplier_of, nest_of}
use Rattle.sigma_lower.proofs.Words.{one_nest, most, PlainMultiplier, PlainNest, pass_cost, pass_loads, ArePhasesShared}
use Rattle.sigma_lower.proofs.Words.{target_of, PlainSigma, IsReadyLoop, PlainWork, kernel, smp_of, Layout, layout_of}
use Rattle.sigma_lower.proofs.Words.{layout_size, Breakdown, IsWholeTree, vec_of, PlainFactor, CanLower, closed_phases}
use Rattle.sigma_lower.proofs.Words.{phase_term, PlainPass, in_order, merged_of, merged_phases, loop_of, PlainTerm}
use Rattle.sigma_lower.proofs.Words.{factor_term, lowered_of, terms_in, All-weaker, most_actions, factor_by, whole_of}
use Rattle.sigma_lower.proofs.Words.{whole_sigma, closing_term}
use Rattle.sigma_spl.specs.Shared.Owners.{all_passes}
use Rattle.sigma_spl.specs.Shared.Ready.{diagonal_tables, passes_tables, work_tables}
use Rattle.sigma_spl.specs.Trees.{CountsTree, IsFree, IsTreeSigma, loops_of_phases, phases_for}
use Rattle.sigma_lower.specs.TreeSigmas.{TreesAreSigmas}
use Rattle.sigma_lower.proofs.HaveLoops.{phases_have_loops}
use Rattle.sigma_lower.proofs.Closing.{close-is}
use Rattle.sigma_lower.proofs.Ordered.{trees_ordered}
use Rattle.sigma_lower.proofs.TreeLayouts.{trees_can_lower}
use Rattle.sigma_lower.proofs.TreeLoops.Counts.{merge_counts}
use Rattle.sigma_lower.proofs.TreeLoops.LoopLimits.{loops_are_limited}
use Rattle.sigma_lower.proofs.TreeLoops.SharedPasses.Phases.{phases_are_shared}
use Rattle.sigma_lower.proofs.TreeSigmas.Bounds.{IsBounded, actions-few, all-bounded}
use Rattle.sigma_lower.proofs.TreeSigmas.ClosedCounts.{closed_costs, closed_loads, more_by}
use Rattle.sigma_lower.proofs.TreeSigmas.ClosedLoops.{TakesClosing}
use Rattle.sigma_lower.proofs.TreeSigmas.ClosedPhases.{IsPhase, closing_loops, each-some, layout-takes, loops_by}
use Rattle.sigma_lower.proofs.TreeSigmas.ClosedPhases.{whole-loops, whole-phases}
use Rattle.sigma_lower.proofs.TreeSigmas.Closing.{takes-phases, whole-bounded, whole-costs, whole-length, whole-loads}
use Rattle.sigma_lower.proofs.TreeSigmas.Closing.{closing-are, whole-ready}
use Rattle.sigma_lower.proofs.TreeSigmas.PassCounts.{AreFewMerged, few_merged}
use Rattle.sigma_lower.proofs.TreeSigmas.Hosted.{IsHosted}
use Rattle.sigma_lower.proofs.TreeSigmas.Known.{AllKnown, IsKnown, layout-known}
use Rattle.sigma_lower.proofs.TreeSigmas.Lasts.{HasItem, length-last, order-map}
use Rattle.sigma_lower.proofs.TreeLoops.PassLists.{all-split}
use Rattle.sigma_lower.proofs.TreeSigmas.Owned.{phases-shared}
use Rattle.sigma_lower.proofs.TreeSigmas.Ready.{ready-loop}
use Rattle.sigma_lower.proofs.TreeSigmas.TreeCounts.{forward_costs, forward_loads}
use Rattle.sigma_lower.proofs.TreeSigmas.TreeHosted.{tree_hosted}
use Rattle.sigma_spl.specs.Term as terms

-- ---- loops that are ready

module _ (h : Target) (l : Layout) (is : IsHosted h l) where
  all-ready : (ps : List PlainPass) → AllKnown h ps → All (IsReadyLoop h) (map loop_of ps)
  all-ready [] known = All-nil (IsReadyLoop h)
  all-ready (p ∷ ps) known =
      All-cons (IsReadyLoop h) (loop_of p) (map loop_of ps) (ready-loop h p is.host known.0) (all-ready ps known.1)

  phases-ready : (phases : List (List PlainPass)) → AllKnown h (in_order phases) →
      All (All (IsReadyLoop h)) (map (map loop_of) phases)
  phases-ready [] known = All-nil (All (IsReadyLoop h))
  phases-ready (ps ∷ more) known =
      All-cons (All (IsReadyLoop h)) (map loop_of ps) (map (map loop_of) more)
      (all-ready ps (all-split (IsKnown h) ps (in_order more) known).0)
      (phases-ready more (all-split (IsKnown h) ps (in_order more) known).1)

-- ---- the passes of all phases

passes-flat : (phases : List (List PlainLoop)) →
    all_passes (map (map one_nest) phases) ≡ map one_nest (in_order phases)
passes-flat phases = order-map one_nest phases

work-one : (w : PlainWork) → work_tables w ≤ 1
work-one (kernel trees) = omega arith
work-one _ = omega arith

diagonal-one : (o : Option PlainMultiplier) → diagonal_tables o ≤ 1
diagonal-one None = omega arith
diagonal-one (Some d) = omega arith

-- a table for work by rows, and one for a diagonal
tables-few : (ps : List PlainLoop) → passes_tables (map one_nest ps) ≤ 2 * length ps
tables-few [] = omega arith
tables-few (p ∷ ps) =
    let first = work-one p.work in
    let second = diagonal-one (nest_of p).multiplier in
    let rest = tables-few ps in
    omega (arith, first, second, rest)

-- the last one multiplies by nothing, where it can take the factor
free-last : (n : ℕ) (ps : List PlainLoop) → LastIs (TakesClosing n) ps → LastIs IsFree (map one_nest ps)
free-last n [] takes = absurd takes
free-last n (p ∷ []) takes =
    All-cons (λ (z : PlainNest). z.multiplier ≡ None) (nest_of p) [] (ap (multiplier_of p) takes.free)
    (All-nil (λ (z : PlainNest). z.multiplier ≡ None))
free-last n (p ∷ q ∷ ps) takes = free-last n (q ∷ ps) takes

-- only an inverse has one
no-factor : (kind : Kind) (c : Request) → kind ≢ Idft → factor_by kind c ≡ None
no-factor Idft c other = absurd (other refl)
no-factor _ c other = refl

-- ---- one phase, or two

length-closed : (n : ℕ) (o : Option ℕ) (ts : List terms.PlainTerm) → length (closed_phases n o ts) ≡ length ts
length-closed n None ts = refl
length-closed n (Some v) ts =
    ap length (close-is n v ts) ∙ length-last (λ t. terms.product t (closing_term n v)) ts

module _ (c : Request) (t : Breakdown) where
  forward-count : length (map phase_term (terms_in (vec_of (smp_of (target_of c) (whole_of c t))))) ≡ phases_for c.procs
  forward-count = pick (c.procs == 1) _ _ _
    where
      pick : (b : Bool) (one first second : List PlainFactor) →
          length (map phase_term (map (map (factor_term c.procs c.lanes))
          (if b then one ∷ [] else first ∷ second ∷ [])))
          ≡ (if b then 1 else 2)
      pick true one first second = refl
      pick false one first second = refl

  phases-count : length (whole_sigma (target_of c) (whole_of c t)).phases ≡ phases_for c.procs
  phases-count =
      length-closed c.size (whole_of c t).factor
      (map phase_term (terms_in (vec_of (smp_of (target_of c) (whole_of c t)))))
      ∙ forward-count

-- ---- the tree

module _ (c : Request) (t : Breakdown) (valid : IsValid c) (whole : IsWholeTree c t) where
  abbrev h : Target
  h = target_of c

  abbrev l : Layout
  l = layout_of (forward_of c) t

  abbrev factor : Option ℕ
  factor = factor_by c.kind c

  abbrev terms_of : List (List PlainTerm)
  terms_of = lowered_of h l

  -- the loops of the layout, and those of the whole
  abbrev loops : List (List PlainLoop)
  loops = loops_by h terms_of

  abbrev closed : List (List PlainLoop)
  closed = closing_loops h factor loops

  abbrev sigma : PlainSigma
  sigma = whole_sigma h (whole_of c t)

  loops-are : loops_of_phases sigma ≡ closed
  loops-are = whole-loops h factor terms_of

  is : IsHosted h l
  is = tree_hosted c t valid whole

  can : CanLower h (whole_of c t)
  can = trees_can_lower c t valid whole

  known : AllKnown h (merged_of h l)
  known = layout-known h l is

  flat : in_order loops ≡ map loop_of (merged_of h l)
  flat = order-map loop_of (merged_phases h l)

  each : All HasItem loops
  each = each-some h terms_of (phases_have_loops h l is.machine is.shares is.good)

  takes : LastIs (TakesClosing c.size) (in_order loops)
  takes = subst (LastIs (TakesClosing c.size)) (sym flat) (layout-takes h l is.machine is.shares is.good)

  phases : All (IsPhase h) sigma.phases
  phases =
      whole-phases h factor terms_of
      (record {
        ordered = trees_ordered h l is.machine is.shares is.good;
        have = phases_have_loops h l is.machine is.shares is.good;
        limited = loops_are_limited h l is.machine is.shares is.good;
      })
      (takes-phases h loops each takes)

  ready : All (All (IsReadyLoop h)) closed
  ready = whole-ready h loops each takes factor can.good.factor (phases-ready h l is (merged_phases h l) known)

  owned : ArePhasesShared h (map (map one_nest) closed)
  owned =
      phases-shared h (merged_phases h l) closed (closing-are h factor (merged_phases h l)) known
      (phases_are_shared h l is.shares is.good)

  -- ---- they are few

  bounded : All (IsBounded h) (in_order loops)
  bounded = subst (All (IsBounded h)) (sym flat) (all-bounded h is.host (merged_of h l) known)

  number : length (in_order closed) ≤ 22
  number =
      let size = is.shares.size in
      let high = is.shares.small in
      let small : layout_size l ≤ 1048576 = omega (arith, size, high) in
      let merged : AreFewMerged (merged_of h l) =
      few_merged c.modulus c.lanes l (merged_of h l) is.good small (merge_counts h l is.shares is.good) in
      let few = merged.few in
      let same : length (in_order closed) ≡ length (merged_of h l) =
      whole-length h loops each takes factor ∙ ap length flat ∙ length-map (merged_of h l) loop_of in
      omega (arith, few, same)

  few : most_actions h (all_passes (map (map one_nest) closed)) < 2 ^ 50
  few =
      let acts = actions-few h is.host (in_order closed) (whole-bounded h loops each takes bounded factor) in
      let most = number in
      subst (λ ps. most_actions h ps < 2 ^ 50) (sym (passes-flat closed)) (omega (arith, acts, most))

  tables : passes_tables (all_passes (map (map one_nest) closed)) ≤ 64
  tables =
      let all = tables-few (in_order closed) in
      let most = number in
      subst (λ ps. passes_tables ps ≤ 64) (sym (passes-flat closed)) (omega (arith, all, most))

  free : c.kind ≢ Idft → LastIs IsFree (all_passes (map (map one_nest) closed))
  free other =
      subst (λ o. LastIs IsFree (all_passes (map (map one_nest) (closing_loops h o loops))))
      (sym (no-factor c.kind c other))
      (subst (LastIs IsFree) (sym (passes-flat loops)) (free-last c.size (in_order loops) takes))

  -- ---- they count as the tree

  counts : CountsTree c t (all_passes (map (map one_nest) closed))
  counts =
      record {
        costs =
            ap (map (pass_cost c.weight c.modulus)) (passes-flat closed)
            ∙ whole-costs h loops each takes bounded c.weight factor
            ∙ ap (more_by c.weight c.size factor)
            (ap (λ ps. map (pass_cost c.weight c.modulus) (map one_nest ps)) flat ∙ forward_costs c t valid whole)
            ∙ sym (closed_costs c t valid whole);
        loads =
            ap (map pass_loads) (passes-flat closed)
            ∙ whole-loads h loops each takes factor
            ∙ ap (λ ps. map pass_loads (map one_nest ps)) flat
            ∙ forward_loads c t valid whole
            ∙ sym (closed_loads c t valid whole);
      }

  tree-sigma : IsTreeSigma c t sigma
  tree-sigma =
      let same = sym loops-are in
      record {
        host = is.host;
        size = refl;
        procs = refl;
        lanes = refl;
        phases = phases-count c t;
        ordered = All-weaker (IsPhase h) IsOrdered (λ u good. good.ordered) sigma.phases phases;
        limited =
            All-weaker (IsPhase h) (λ u. AreLimitedLoops (most 64) c.size (loops_in u)) (λ u good. good.limited)
            sigma.phases phases;
        loops = subst (All (All (IsReadyLoop h))) same ready;
        owners = subst (λ ps. ArePhasesShared h (map (map one_nest) ps)) same owned;
        counts = subst (λ ps. CountsTree c t (all_passes (map (map one_nest) ps))) same counts;
        few = subst (λ ps. most_actions h (all_passes (map (map one_nest) ps)) < 2 ^ 50) same few;
        free = λ other. subst (λ ps. LastIs IsFree (all_passes (map (map one_nest) ps))) same (free other);
        tables = subst (λ ps. passes_tables (all_passes (map (map one_nest) ps)) ≤ 64) same tables;
      }

pub trees_are_sigmas : TreesAreSigmas
trees_are_sigmas c t valid whole = tree-sigma c t valid whole
