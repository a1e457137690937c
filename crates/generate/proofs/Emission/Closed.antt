-- The merged passes of a tree: those of its layout, the last of which multiplies by the factor of an inverse.
use Rattle.std.proofs.Common.{◌≡◌, ℕ, refl, sym, ap, ap₂, ◌∙◌, subst, List, [], ◌∷◌, Option, None, Some, All, length}
use Rattle.std.proofs.Common.{map, reverse}
use Rattle.std.proofs.lemmas.List.Elements.{All-head, All-tail}
use Rattle.std.proofs.lemmas.Simd.{map-map}
use Rattle.matrix_meaning.specs.declared.Kind.{Kind}
use Rattle.matrix_meaning.specs.declared.Kind.TheVariants.{Dft}
use Rattle.matrix_meaning.specs.declared.Request.{Request}
use Rattle.matrix_meaning.specs.Parts.{forward_by, forward_of}
use Rattle.matrix_meaning.specs.Valid.{IsValid}
use Rattle.operators.specs.declared.target.Target.{Target}
use Rattle.sigma_lower.specs.Merged.{closed_phases, tree_merged}
use Rattle.sigma_lower.specs.Shared.{phase_term}
use Rattle.sigma_lower.specs.TreeLoops.Merge.{PlainPass, in_order, merged_of, merged_phases}
use Rattle.sigma_lower.specs.TreeLoops.Nests.{loop_of}
use Rattle.sigma_lower.specs.TreeTerms.Term.{lowered_of}
use Rattle.sigma_lower.proofs.HaveLoops.{phases_have_loops}
use Rattle.sigma_lower.proofs.Ordered.{trees_ordered}
use Rattle.sigma_lower.proofs.TreeLayouts.{trees_can_lower}
use Rattle.sigma_lower.proofs.TreeLoops.LoopLimits.{loops_are_limited}
use Rattle.sigma_lower.proofs.TreeSigmas.ClosedLoops.{TakesClosing, closed-nest, closed_loop}
use Rattle.sigma_lower.proofs.TreeSigmas.ClosedPhases.{ArePhases, IsPhase, closing_loops, each-some, layout-takes}
use Rattle.sigma_lower.proofs.TreeSigmas.ClosedPhases.{loops_by, whole-loops, whole-phases}
use Rattle.sigma_lower.proofs.TreeSigmas.Closing.{takes-phases}
use Rattle.sigma_lower.proofs.TreeSigmas.Lasts.{order-map}
use Rattle.sigma_spl.specs.Lists.{LastIs, on_last}
use Rattle.sigma_spl.specs.Loops.{PlainLoop, loops_in, one_nest, nest_of}
use Rattle.sigma_spl.specs.Merge.{most}
use Rattle.sigma_spl.specs.Merged.{PlainMerged}
use Rattle.sigma_spl.specs.Nest.{PlainNest, repeated, PlainFactors}
use Rattle.sigma_spl.specs.Shared.Targets.{target_of}
use Rattle.sigma_spl.specs.Sigma.{passes_in_order}
use Rattle.sigma_spl.proofs.Listed.{merge_listed}
use Rattle.smp_rewrite.specs.Layout.Tree.{layout_of}
use Rattle.smp_rewrite.specs.Layout.Whole.{factor_by}
use Rattle.tree_model.specs.Breakdown.{Breakdown}
use Rattle.tree_model.specs.Chosen.{IsWholeTree}
use Rattle.tree_model.specs.Cost.{is_plain}
use Rattle.generate.specs.Emission.Passes.{Factors, none, number, Pass, Site, moved}
use Rattle.generate.specs.Emission.Whole.{closing_factors, emission, phases_of}
use Rattle.generate.specs.Letters.{program_for}
use Rattle.code_gen.specs.PassCode.Program.{program_of}
use Rattle.perm_algebra.specs.Affine.{Sum, constant}
use Rattle.loop_merge.proofs.TreeMerge.{map-turned}
use Rattle.sigma_lower.proofs.TreeLoops.Shaped.{AreShaped, IsShapedWork}
use Rattle.sigma_spl.specs.Work.{PlainWork}
use Rattle.generate.specs.Emission.Places.{PlaceFunction, after}
use Rattle.generate.proofs.Emission.Nested.{emitted, bounds, each, emitted_nest, multiplier_at, nest_at, plain_work}
use Rattle.generate.proofs.Emission.PassPrograms.{programs-by-passes}
use Rattle.generate.proofs.Emission.PlainPlaces.{plain-closing, plain-phases}
use Rattle.generate.proofs.Emission.Matches.{multiplying, nests, IsLooped, IsNodeWork, freed, looped-of, multiplied-nest}
use Rattle.generate.proofs.Emission.Matches.{ArePasses, AreSame, AreUpTo, HasDiagonal, IsLast, IsSame, stored-natural}
use Rattle.sigma_spl.specs.Term as terms

abbrev pub phases-in : Request → List (List (List PlainNest)) → PlainMerged
phases-in c phases = record { size = c.size; procs = c.procs; lanes = c.lanes; phases = phases }

-- an inverse is divided by its size
abbrev pub factors_by : Option ℕ → Factors
factors_by None = none
factors_by (Some v) = number v

closing-is : (kind : Kind) (c : Request) → closing_factors kind c ≡ factors_by (factor_by kind c)
closing-is Dft c = refl
closing-is _ c = refl

-- the request whose trees it has is as plain
pub plain-forward : (c : Request) (kind : Kind) → is_plain (forward_by kind c) ≡ is_plain c
plain-forward c Dft = refl
plain-forward c _ = refl

-- all items take one factor
abbrev pub firsts : List Sum → List Sum
firsts es = map (λ _. constant 0) es

abbrev pub closing : Option ℕ → List (List PlainNest) → List (List PlainNest)
closing None ps = ps
closing (Some v) ps = on_last (map (multiplying (repeated v 1) firsts)) ps

abbrev pub closed-phases : Option ℕ → List (List (List PlainNest)) → List (List (List PlainNest))
closed-phases None phases = phases
closed-phases (Some v) phases = on_last (closing (Some v)) phases

pub closed-one : (o : Option ℕ) (ps : List (List PlainNest)) → closed-phases o (ps ∷ []) ≡ closing o ps ∷ []
closed-one None ps = refl
closed-one (Some v) ps = refl

-- ---- merging makes a nest of each loop

module _ (h : Target) where
  merged-loops : (us : List terms.PlainTerm) → All (IsPhase h) us →
      map (passes_in_order h.size) us ≡ map (map one_nest) (map (λ t. reverse (loops_in t)) us)
  merged-loops [] are = refl
  merged-loops (t ∷ us) are =
      let is = All-head (IsPhase h) t us are in
      ap₂ (λ z zs. z ∷ zs) (ap reverse (merge_listed (most 64) h.size t is.ordered is.limited) ∙ map-turned (loops_in t))
      (merged-loops us (All-tail (IsPhase h) t us are))

-- ---- the last loop takes the factor

last-mapped : {A B : Type 0} (F : A → B) (f : A → A) (g : B → B) (Q : A → Type 0) →
    ((x : A) → Q x → F (f x) ≡ g (F x)) → (xs : List A) → LastIs Q xs → map F (on_last f xs) ≡ on_last g (map F xs)
last-mapped F f g Q step [] last = absurd last
last-mapped F f g Q step (x ∷ []) last = ap (λ z. z ∷ []) (step x last)
last-mapped F f g Q step (x ∷ y ∷ xs) last = ap (λ zs. F x ∷ zs) (last-mapped F f g Q step (y ∷ xs) last)

closed-loops : (h : Target) (o : Option ℕ) (phases : List (List PlainLoop)) →
    LastIs (LastIs (TakesClosing h.size)) phases →
    map (map one_nest) (closing_loops h o phases) ≡ closed-phases o (map (map one_nest) phases)
closed-loops h None phases last = refl
closed-loops h (Some v) phases last =
    last-mapped (map one_nest) (on_last (closed_loop h.size v)) (closing (Some v)) (LastIs (TakesClosing h.size))
    (λ ps takes. last-mapped one_nest (closed_loop h.size v) (map (multiplying (repeated v 1) firsts))
    (TakesClosing h.size) (λ p one. ap (λ z. z ∷ []) (closed-nest h.size v p one)) ps takes) phases last

all-nests : (phases : List (List PlainPass)) → map (map one_nest) (map (map loop_of) phases) ≡ map nests phases
all-nests [] = refl
all-nests (ps ∷ phases) = ap₂ (λ z zs. z ∷ zs) (map-map one_nest loop_of ps) (all-nests phases)

pub closed_tree : (c : Request) (t : Breakdown) → IsValid c → IsWholeTree c t →
    tree_merged c t ≡ phases-in c
    (closed-phases (factor_by c.kind c) (map nests (merged_phases (target_of c) (layout_of (forward_of c) t))))
closed_tree c t valid tree =
    let h = target_of c in
    let l = layout_of (forward_of c) t in
    let o = factor_by c.kind c in
    let ts = lowered_of h l in
    let can = trees_can_lower c t valid tree in
    let are : ArePhases h ts = record {
      ordered = trees_ordered h l can.machine can.shares can.good.layout;
      have = phases_have_loops h l can.machine can.shares can.good.layout;
      limited = loops_are_limited h l can.machine can.shares can.good.layout;
    } in
    let loops = loops_by h ts in
    let flat : in_order loops ≡ map loop_of (merged_of h l) = order-map loop_of (merged_phases h l) in
    let takes = takes-phases h loops (each-some h ts are.have)
    (subst (LastIs (TakesClosing c.size)) (sym flat) (layout-takes h l can.machine can.shares can.good.layout)) in
    ap (phases-in c)
    (merged-loops h (closed_phases h.size o (map phase_term ts)) (whole-phases h o ts are takes)
    ∙ ap (map (map one_nest)) (whole-loops h o ts)
    ∙ closed-loops h o loops takes
    ∙ ap (closed-phases o) (all-nests (merged_phases h l)))

-- ---- programs

-- merged passes that are those of emission give its program
pub emission-by : (c : Request) (t : Breakdown) → IsValid c → IsWholeTree c t →
    closed-phases (factor_by c.kind c) (map nests (merged_phases (target_of c) (layout_of (forward_of c) t)))
    ≡ map emitted (phases_of (forward_of c) (factors_by (factor_by c.kind c)) t) → program_for c t ≡ emission c t
emission-by c t valid tree same =
    ap (program_of (target_of c))
    (closed_tree c t valid tree
    ∙ ap (phases-in c)
    (same ∙ ap (λ f. map emitted (phases_of (forward_of c) f t)) (sym (closing-is c.kind c))))
    ∙ programs-by-passes c (phases_of (forward_of c) (closing_factors c.kind c) t)
    (plain-phases (forward_of c) (closing_factors c.kind c) t (plain-closing c.kind c))

-- ---- lists of passes that are the same are the same nests, with factors in the last of them or with none

-- P holds of each pass
abbrev pub AllPasses : (PlainPass → Type 0) → List PlainPass → Type 0
AllPasses P [] = Unit {0}
AllPasses P (p ∷ ps) = P p × AllPasses P ps

-- passes whose works are those of nodes are loops of them
pub looped-all : (m size : ℕ) (ps : List PlainPass) → AreShaped (IsShapedWork m) size ps →
    AreShaped IsNodeWork size ps → AllPasses (IsLooped m size) ps
looped-all m size [] shapes works = tt
looped-all m size (p ∷ ps) shapes works =
    (looped-of m size p shapes.0 works.0.work, looped-all m size ps shapes.1 works.1)

-- passes as they stand in the whole
abbrev pub nests_as : (PlainPass → PlainPass) → List PlainPass → List (List PlainNest)
nests_as g ps = map (λ p. one_nest (loop_of (g p))) ps

on_last-none : (ps : List (List PlainNest)) → on_last (λ zs. zs) ps ≡ ps
on_last-none (zs ∷ ys ∷ ps) = ap (λ rest. zs ∷ rest) (on_last-none (ys ∷ ps))
on_last-none _ = refl

module _ (outer : List ℕ) (d : ℕ) (whole : PlaceFunction) (g : PlainPass → PlainPass) (Good : PlainPass → Type 0)
    (nest : (p : PlainPass) (q : Pass) → Good p → IsSame outer d whole p q →
    nest_of (loop_of (g p)) ≡ emitted_nest q) where
  pub same-passes : (ps : List PlainPass) (qs : List Pass) → AllPasses Good ps → AreSame outer d whole ps qs →
      nests_as g ps ≡ emitted qs
  same-passes [] [] good h = refl
  same-passes (p ∷ ps) (q ∷ qs) good h =
      ap₂ (λ z zs. (z ∷ []) ∷ zs) (nest p q good.0 h.0) (same-passes ps qs good.1 h.1)
  same-passes _ _ good h = absurd h

  module _ (n : ℕ) (o : Site) (stores : (cs : ℕ → ℕ) (e : Sum) → o.store cs e ≡ whole cs e) where
    -- the last pass of a whole, without its factors
    whole-last : (p : PlainPass) (q : Pass) → IsLast outer d whole [] n o p q → IsSame outer d whole p (freed q)
    whole-last p q last = record {
      begun = record { counts = last.begun.counts; work = last.begun.work; load = last.begun.load };
      store = stored-natural outer d whole [] n o stores p q last;
      factors = subst (HasDiagonal outer d whole p (freed q)) (sym last.free) refl;
    }

    -- ---- what F makes of the last nest is what emission does

    module _ (F : List PlainNest → List PlainNest)
        (step : (p : PlainPass) (q : Pass) → Good p → IsLast outer d whole [] n o p q →
        F (one_nest (loop_of (g p))) ≡ emitted_nest q ∷ []) where
      last-rest : (p : PlainPass) (q : Pass) (ps : List PlainPass) (qs : List Pass) → Good p → AllPasses Good ps →
          AreUpTo outer d whole [] n o p q ps qs → on_last F (nests_as g (p ∷ ps)) ≡ emitted (q ∷ qs)
      last-rest p q [] [] good all h = ap (λ z. z ∷ []) (step p q good h)
      last-rest p q (x ∷ xs) (y ∷ ys) good all h =
          ap₂ (λ z zs. (z ∷ []) ∷ zs) (nest p q good h.0) (last-rest x y xs ys all.0 all.1 h.1)
      last-rest p q _ _ good all h = absurd h

      last-passes : (ps : List PlainPass) (qs : List Pass) → AllPasses Good ps →
          ArePasses outer d whole [] n o ps qs → on_last F (nests_as g ps) ≡ emitted qs
      last-passes (p ∷ ps) (q ∷ qs) good h = last-rest p q ps qs good.0 good.1 h
      last-passes _ _ good h = absurd h

    -- ---- with no factors

    free-nest : (p : PlainPass) (q : Pass) → o.factors ≡ none → Good p → IsLast outer d whole [] n o p q →
        nest_of (loop_of (g p)) ≡ emitted_nest q
    free-nest p q free good last =
        nest p (freed q) good (whole-last p q last)
        ∙ ap (λ f. nest_at q.site.counts (plain_work q.work) q.site.load f q.site.store)
        (sym (last.factors ∙ ap (λ f. moved f last.own) free))

    free-passes : (ps : List PlainPass) (qs : List Pass) → o.factors ≡ none → AllPasses Good ps →
        ArePasses outer d whole [] n o ps qs → nests_as g ps ≡ emitted qs
    free-passes ps qs free good h =
        sym (on_last-none (nests_as g ps))
        ∙ last-passes (λ z. z) (λ p q fine last. ap (λ z. z ∷ []) (free-nest p q free fine last)) ps qs good h

    -- ---- with factors in the last

    module _ (ds : PlainFactors) (place : PlaceFunction) (f : List Sum → List Sum)
        (is : (counts : List ℕ) (w : PlainWork) (own : PlaceFunction) →
        multiplier_at counts w (moved o.factors own)
        ≡ Some (record { factors = ds; places = map (after place own (bounds counts w)) (each w (length counts)) }))
        (at : (cs : ℕ → ℕ) (stored own : Sum → Sum) (es : List Sum) → ((e : Sum) → stored e ≡ o.store cs (own e)) →
        f (map stored es) ≡ map (λ e. place cs (own e)) es) where
      factors-nest : (p : PlainPass) (q : Pass) → Good p → IsLast outer d whole [] n o p q →
          multiplying ds f (nest_of (loop_of (g p))) ≡ emitted_nest q
      factors-nest p q good last =
          ap (multiplying ds f) (nest p (freed q) good (whole-last p q last))
          ∙ multiplied-nest ds (after place last.own) f q
          (ap (multiplier_at q.site.counts (plain_work q.work)) last.factors
          ∙ is q.site.counts (plain_work q.work) last.own)
          (λ cs es. at cs (q.site.store cs) (last.own cs) es (last.store cs))

      pub factors-passes : (ps : List PlainPass) (qs : List Pass) → AllPasses Good ps →
          ArePasses outer d whole [] n o ps qs → on_last (map (multiplying ds f)) (nests_as g ps) ≡ emitted qs
      factors-passes =
          last-passes (map (multiplying ds f)) (λ p q good last. ap (λ z. z ∷ []) (factors-nest p q good last))

    -- ---- with the factor of an inverse, or none

    pub closed-passes : (v : Option ℕ) → o.factors ≡ factors_by v → (ps : List PlainPass) (qs : List Pass) →
        AllPasses Good ps → ArePasses outer d whole [] n o ps qs → closing v (nests_as g ps) ≡ emitted qs
    closed-passes None is ps qs good h = free-passes ps qs is good h
    closed-passes (Some v) is ps qs good h =
        factors-passes (repeated v 1) (λ counts k. constant 0) firsts
        (λ counts w own. ap (λ f. multiplier_at counts w (moved f own)) is)
        (λ cs stored own es step. map-map (λ _. constant 0) stored es) ps qs good h
