-- The terms of a tree merge into the passes that the cost model counts, of which a program can be made.
use Rattle.std.proofs.Common.{◌≡◌, ℕ, ◌==◌, ◌<◌, Bool, true, false, arith, refl, sym, ap, ap₂, ◌∙◌, subst, List, []}
use Rattle.std.proofs.Common.{◌∷◌, ◌++◌, All, length, length-append, if◌then◌else◌}
use Rattle.std.specs.Prelude.{map, reverse}
use Rattle.std.proofs.lemmas.List.{length-map, map-append, reverse-append}
use Rattle.std.proofs.lemmas.List.Elements.{All-append, All-cons, All-head, All-nil, All-tail, All-weaker}
use Rattle.sigma_spl.proofs.Shares.{runs_have_shares}
use Rattle.matrix_meaning.specs.declared.Request.{Request}
use Rattle.operators.specs.declared.target.Target.{Target}
use Rattle.sigma_spl.proofs.Listed.{merge_listed}
use Rattle.sigma_spl.proofs.Phases.{sigma_merges}
use Rattle.sigma_spl.specs.Loops.{AreLimitedLoops, HasLoop, IsOrdered, PlainLoop, loops_in, nest_of, one_nest}
use Rattle.sigma_spl.specs.Merge.{most}
use Rattle.sigma_spl.specs.Merged.{PlainMerged}
use Rattle.sigma_spl.specs.Nest.{PlainNest}
use Rattle.sigma_spl.specs.Shared.Names.{HasShares}
use Rattle.sigma_spl.specs.Shared.Owners.{IsHost, all_passes}
use Rattle.sigma_spl.specs.Shared.Ready.{IsReady, IsReadyNest, IsReadyPass}
use Rattle.sigma_spl.specs.Shared.Running.{CanRunNest}
use Rattle.sigma_spl.specs.Shared.Targets.{target_of}
use Rattle.sigma_spl.specs.Sigma.{ArePasses, ArePhases, IsGoodSigma, PlainSigma, merged_of, passes_in_order}
use Rattle.sigma_spl.specs.Term.{PlainTerm}
use Rattle.sigma_spl.specs.Trees.{IsMergedTree, IsOneLoop, IsReadyLoop, IsTreeSigma, phases_for}
use Rattle.tree_model.specs.Breakdown.{Breakdown}

-- ---- the passes are the loops

pub map-turned : (ps : List PlainLoop) → reverse (map one_nest ps) ≡ map one_nest (reverse ps)
map-turned [] = refl
map-turned (p ∷ ps) =
    reverse-append (one_nest p ∷ []) (map one_nest ps)
    ∙ ap (λ qs. qs ++ one_nest p ∷ []) (map-turned ps)
    ∙ sym (ap (map one_nest) (reverse-append (p ∷ []) ps) ∙ map-append one_nest (reverse ps) (p ∷ []))

abbrev in_turn : PlainTerm → List PlainLoop
in_turn t = reverse (loops_in t)

listed : (n : ℕ) (ts : List PlainTerm) → All IsOrdered ts → All (λ t. AreLimitedLoops (most 64) n (loops_in t)) ts →
    map (passes_in_order n) ts ≡ map (map one_nest) (map in_turn ts)
listed n [] ordered limited = refl
listed n (t ∷ ts) ordered limited =
    let here = merge_listed (most 64) n t (All-head IsOrdered t ts ordered)
    (All-head (λ t. AreLimitedLoops (most 64) n (loops_in t)) t ts limited) in
    ap₂ (λ ps more. ps ∷ more) (ap reverse here ∙ map-turned (loops_in t))
    (listed n ts (All-tail IsOrdered t ts ordered) (All-tail (λ t. AreLimitedLoops (most 64) n (loops_in t)) t ts limited))

-- ---- each phase has some

length-turned : (ps : List PlainLoop) → length (reverse ps) ≡ length ps
length-turned [] = refl
length-turned (p ∷ ps) =
    let turned = ap length (reverse-append (p ∷ []) ps) in
    let all = length-append (reverse ps) (p ∷ []) in
    let rest = length-turned ps in
    omega (arith, turned, all, rest)

some-loop : (ps : List PlainLoop) → HasLoop ps → 0 < length ps
some-loop [] h = absurd h
some-loop (p ∷ ps) h = omega arith

abbrev HasSome : List (List PlainNest) → Type 0
HasSome ps = 0 < length ps

each-some : (ts : List PlainTerm) → All IsOrdered ts → All HasSome (map (map one_nest) (map in_turn ts))
each-some [] ordered = All-nil HasSome
each-some (t ∷ ts) ordered =
    let some = some-loop (loops_in t) (All-head IsOrdered t ts ordered).some in
    let turned = length-turned (loops_in t) in
    let same = length-map (in_turn t) one_nest in
    All-cons HasSome (map one_nest (in_turn t)) (map (map one_nest) (map in_turn ts)) (omega (arith, some, turned, same))
    (each-some ts (All-tail IsOrdered t ts ordered))

some-passes : (pss : List (List (List PlainNest))) → All HasSome pss → 0 < length pss → 0 < length (all_passes pss)
some-passes [] each some = absurd (omega (arith, some))
some-passes (ps ∷ more) each some =
    let first = All-head HasSome ps more each in
    let all = length-append ps (all_passes more) in
    omega (arith, first, all)

some-phases : (b : Bool) (n : ℕ) → n ≡ (if b then 1 else 2) → 0 < n
some-phases true n is = omega (arith, is)
some-phases false n is = omega (arith, is)

-- ---- each pass is ready

module _ (h : Target) (host : IsHost h) (lanes : ℕ) where
  pass-ready : (p : PlainLoop) (ps : List (List PlainNest)) → IsReadyLoop h p →
      ArePasses lanes h.size (one_nest p ∷ ps) →
      IsReadyPass h (one_nest p)
  pass-ready p ps ready are =
      let large = host.modulus.0 in
      let some = host.lanes.0 in
      record {
        runs = record {
          lanes = omega (arith, some);
          modulus = large;
          nests = All-cons (CanRunNest h) (nest_of p) [] ready.runs (All-nil (CanRunNest h));
          once = (are.good h.modulus (omega (arith, large))).0.once;
        };
        within = are.within.0;
        nests = All-cons (IsReadyNest h) (nest_of p) [] ready.ready (All-nil (IsReadyNest h));
      }

  phase-ready : (ps : List PlainLoop) → All (IsReadyLoop h) ps → ArePasses lanes h.size (map one_nest ps) →
      All (IsReadyPass h) (map one_nest ps)
  phase-ready [] ready are = All-nil (IsReadyPass h)
  phase-ready (p ∷ ps) ready are =
      All-cons (IsReadyPass h) (one_nest p) (map one_nest ps)
      (pass-ready p (map one_nest ps) (All-head (IsReadyLoop h) p ps ready) are)
      (phase-ready ps (All-tail (IsReadyLoop h) p ps ready)
      (record { good = λ m some. (are.good m some).1; within = are.within.1 }))

  all-ready : (pss : List (List PlainLoop)) → All (All (IsReadyLoop h)) pss →
      ArePhases lanes h.size (map (map one_nest) pss) → All (IsReadyPass h) (all_passes (map (map one_nest) pss))
  all-ready [] ready are = All-nil (IsReadyPass h)
  all-ready (ps ∷ more) ready are =
      All-append (IsReadyPass h) (map one_nest ps) (all_passes (map (map one_nest) more))
      (phase-ready ps (All-head (All (IsReadyLoop h)) ps more ready) are.0)
      (all-ready more (All-tail (All (IsReadyLoop h)) ps more ready) are.1)

  phase-loops : (ps : List PlainLoop) → All (IsReadyLoop h) ps → All IsOneLoop (map one_nest ps)
  phase-loops [] ready = All-nil IsOneLoop
  phase-loops (p ∷ ps) ready =
      All-cons IsOneLoop (one_nest p) (map one_nest ps) (All-head (IsReadyLoop h) p ps ready).computes
      (phase-loops ps (All-tail (IsReadyLoop h) p ps ready))

  all-loops : (pss : List (List PlainLoop)) → All (All (IsReadyLoop h)) pss →
      All IsOneLoop (all_passes (map (map one_nest) pss))
  all-loops [] ready = All-nil IsOneLoop
  all-loops (ps ∷ more) ready =
      All-append IsOneLoop (map one_nest ps) (all_passes (map (map one_nest) more))
      (phase-loops ps (All-head (All (IsReadyLoop h)) ps more ready))
      (all-loops more (All-tail (All (IsReadyLoop h)) ps more ready))

-- ---- the whole

module _ (s : PlainSigma) (good : IsGoodSigma s) (c : Request) (t : Breakdown) (tree : IsTreeSigma c t s) where
  abbrev h : Target
  h = target_of c

  abbrev loops : List (List PlainLoop)
  loops = map in_turn s.phases

  abbrev nests : List (List (List PlainNest))
  nests = map (map one_nest) loops

  is : (merged_of s).phases ≡ nests
  is =
      ap (λ n. map (passes_in_order n) s.phases) tree.size
      ∙ listed c.size s.phases tree.ordered tree.limited

  stored : ArePhases s.lanes s.size (merged_of s).phases
  stored = (sigma_merges s good).phases

  stored-loops : ArePhases s.lanes c.size nests
  stored-loops =
      subst (λ n. ArePhases s.lanes n nests) tree.size (subst (ArePhases s.lanes s.size) is stored)

  ready : All (IsReadyPass h) (all_passes nests)
  ready = all-ready h tree.host s.lanes loops tree.loops stored-loops

  each : All HasSome nests
  each = each-some s.phases tree.ordered

  number : length nests ≡ phases_for c.procs
  number = length-map loops (map one_nest) ∙ length-map s.phases in_turn ∙ tree.phases

  abbrev from : List (List (List PlainNest)) → PlainMerged
  from phases = record { size = s.size; procs = s.procs; lanes = s.lanes; phases = phases }

  is-ready : IsReady h (from nests)
  is-ready =
      let few = tree.few in
      let tables = tree.tables in
      record {
        host = tree.host;
        size = tree.size;
        procs = tree.procs;
        lanes = tree.lanes;
        passes = ready;
        some = some-passes nests each (some-phases (c.procs == 1) (length nests) number);
        each_some = each;
        few = omega (arith, few);
        tables = omega (arith, tables);
        shared = tree.owners;
      }

  is-tree : IsMergedTree c t (from nests)
  is-tree =
      record {
        size = tree.size;
        procs = tree.procs;
        lanes = tree.lanes;
        phases = number;
        counts = tree.counts;
        parts = λ weight. All-weaker (IsReadyPass h) (HasShares h weight) (λ zs can. runs_have_shares h weight zs can.runs)
            (all_passes nests) ready;
        no_moves = all-loops h tree.host s.lanes loops tree.loops;
        stores = subst (ArePhases s.lanes s.size) is stored;
        owners = tree.owners;
        few = tree.few;
        tables = tree.tables;
        free = tree.free;
        ready = is-ready;
      }

  pub tree_merges : IsMergedTree c t (merged_of s)
  tree_merges = subst (λ phases. IsMergedTree c t (from phases)) (sym is) is-tree

-- the terms of a tree merge into its passes
pub sigmas_merge_to_trees : (s : PlainSigma) → IsGoodSigma s → (c : Request) (t : Breakdown) → IsTreeSigma c t s →
    IsMergedTree c t (merged_of s)
sigmas_merge_to_trees s good c t tree = tree_merges s good c t tree
