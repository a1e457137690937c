-- The phases of a whole: those of its layout, the last loop of which takes the closing diagonal.
use Rattle.sigma_lower.proofs.Words.{◌≡◌, ℕ, List, [], ◌∷◌, ◌++◌, length, refl, sym, ap, ap₂, ◌∙◌, arith, subst, Option}
use Rattle.sigma_lower.proofs.Words.{None, Some, All, map, reverse, option_map, reverse-append, reverse-reverse}
use Rattle.sigma_lower.proofs.Words.{All-nil, All-cons, Target, Sum, LastIs, on_last, PlainLoop, limits_in, loops_in}
use Rattle.sigma_lower.proofs.Words.{scaled_last, AreLimitedLoops, HasLoop, IsLimitedLoop, IsOrdered, items_out, most}
use Rattle.sigma_lower.proofs.Words.{work_size, CanShareLayout, Layout, IsGoodLayout, IsMachine, AllHaveLoops}
use Rattle.sigma_lower.proofs.Words.{close_last, closed_phases, AllOrdered, phase_term, PlainPass, passes_of_terms}
use Rattle.sigma_lower.proofs.Words.{loop_of, taken_of, AreCounts, Fits, IsLimitedPass, PlainTerm, all_simplified}
use Rattle.sigma_lower.proofs.Words.{place_sum, repeated, closing_term, AreLimitedPhases}
use Rattle.sigma_lower.proofs.Closing.{close-is}
use Rattle.sigma_lower.proofs.TreeLoops.LoopItems.{AllName, names-of, pass-counts}
use Rattle.sigma_lower.proofs.TreeLoops.LoopLimits.{tree_loops}
use Rattle.sigma_lower.proofs.TreeLoops.LoopNests.{loops_listed}
use Rattle.sigma_lower.proofs.TreeLoops.Shaped.{IsShaped, IsShapedWork}
use Rattle.sigma_lower.proofs.TreeLoops.Staying.{carried-end}
use Rattle.sigma_lower.proofs.TreeLoops.RootPlaces.{HaveGoodPlaces}
use Rattle.sigma_lower.proofs.TreeLoops.TreePlaces.{tree_good_places}
use Rattle.sigma_lower.proofs.TreeSigmas.ClosedLoops.{HasClosing, TakesClosing, can-scale, closed_loop, has-loop}
use Rattle.sigma_lower.proofs.TreeSigmas.ClosedLoops.{limited-last, scaled-in-order}
use Rattle.sigma_lower.proofs.TreeSigmas.ClosedPlaces.{AllAlone, closing_path}
use Rattle.sigma_lower.proofs.TreeSigmas.Endings.{IsEnding, layout_ends}
use Rattle.sigma_lower.proofs.TreeSigmas.Lasts.{HasItem, all-last}
use Rattle.sigma_lower.proofs.TreeLoops.Moved.{fits-one}
use Rattle.sigma_spl.specs.Term as terms
use Rattle.sigma_lower.specs.TreeLoops.Merge as passes

-- ---- the place of the only word

module _ (h : Target) where
  abbrev size : ℕ
  size = h.size

  -- ---- a pass

  module _ (p : PlainPass) (machine : IsMachine h) (shape : IsShaped (IsShapedWork h.modulus) size p)
      (limited : IsLimitedPass h p) where
    abbrev n : ℕ
    n = work_size p.work

    abbrev cs : ℕ → ℕ
    cs = limits_in (loop_of p)

    counts : AreCounts p.path n 0 cs
    counts = pass-counts (IsShapedWork h.modulus) size p machine.size.0 shape

    alone-items : (es : List Sum) → AllName p.work cs n es →
        AllAlone size (map (all_simplified cs p.afters) (map (place_sum p.path n 0) es))
    alone-items [] named = tt
    alone-items (e ∷ es) named =
        let last = all_simplified cs p.afters (place_sum p.path n 0 e) in
        let stores = (limited cs e counts named.0.0 named.0.1).stores in
        let fits = carried-end cs size size p.afters (place_sum p.path n 0 e) stores in
        (λ one. fits-one last cs (subst (λ k. Fits k last cs) one fits), alone-items es named.1)

    takes-closing : IsEnding p → IsLimitedLoop 64 size (loop_of p) → TakesClosing size (loop_of p)
    takes-closing ends within =
        record {
          free = ap (option_map taken_of) ends.free;
          whole = ends.untiled;
          limited = within;
          alone =
              alone-items (items_out p.work (length p.path)) (names-of h.modulus p.path p.work shape.work).stores;
        }

  -- ---- the last pass

  takes-last : (ps : List PlainPass) → IsMachine h → LastIs IsEnding ps →
      HaveGoodPlaces h (IsShapedWork h.modulus) ps → AreLimitedLoops (most 64) size (map loop_of ps) →
      LastIs (TakesClosing size) (map loop_of ps)
  takes-last [] machine ends places within = absurd ends
  takes-last (p ∷ []) machine ends places within =
      takes-closing p machine places.0.shaped places.0.limited ends within.0
  takes-last (p ∷ q ∷ ps) machine ends places within = takes-last (q ∷ ps) machine ends places.1 within.1

  pub layout-takes : (l : Layout) → IsMachine h → CanShareLayout h l → IsGoodLayout h.modulus l →
      LastIs (TakesClosing size) (map loop_of (passes.merged_of h l))
  layout-takes l machine shares good =
      takes-last (passes.merged_of h l) machine (layout_ends h l shares good) (tree_good_places h l shares good)
      (tree_loops 64 h l (omega arith) machine shares good)

  -- ---- the loops of phases

  abbrev pub loops_by : List (List PlainTerm) → List (List PlainLoop)
  loops_by phases = map (map loop_of) (map passes_of_terms phases)

  pub each-some : (phases : List (List PlainTerm)) → AllHaveLoops h phases → All HasItem (loops_by phases)
  each-some [] have = All-nil HasItem
  each-some (ts ∷ more) have =
      All-cons HasItem (map loop_of (passes_of_terms ts)) (loops_by more)
      (any (map loop_of (passes_of_terms ts)) (subst HasLoop (loops_listed ts) have.0)) (each-some more have.1)
    where
      any : (ps : List PlainLoop) → HasLoop (reverse ps) → HasItem ps
      any [] has = absurd has
      any (p ∷ ps) has = omega arith

  open-phase : (ts : List PlainTerm) → reverse (loops_in (phase_term ts)) ≡ map loop_of (passes_of_terms ts)
  open-phase ts = ap reverse (loops_listed ts) ∙ reverse-reverse (map loop_of (passes_of_terms ts))

  abbrev loops_in_order : List terms.PlainTerm → List (List PlainLoop)
  loops_in_order us = map (λ t. reverse (loops_in t)) us

  open-loops : (phases : List (List PlainTerm)) → loops_in_order (map phase_term phases) ≡ loops_by phases
  open-loops [] = refl
  open-loops (ts ∷ more) = ap₂ (λ ps rest. ps ∷ rest) (open-phase ts) (open-loops more)

  module _ (v : ℕ) where
    closed-loops : (phases : List (List PlainTerm)) →
        loops_in_order (close_last size v (map phase_term phases)) ≡ on_last (on_last (closed_loop size v))
        (loops_by phases)
    closed-loops [] = refl
    closed-loops (ts ∷ []) =
        ap (λ ps. ps ∷ [])
        (ap (λ ps. reverse (scaled_last (closing_path size) (repeated v 1) ps)) (loops_listed ts)
        ∙ scaled-in-order size v (map loop_of (passes_of_terms ts)))
    closed-loops (ts ∷ us ∷ more) = ap₂ (λ ps rest. ps ∷ rest) (open-phase ts) (closed-loops (us ∷ more))

  -- those of a layout, where the last loop takes the factor if there is one
  abbrev pub closing_loops : Option ℕ → List (List PlainLoop) → List (List PlainLoop)
  closing_loops None phases = phases
  closing_loops (Some v) phases = on_last (on_last (closed_loop size v)) phases

  pub whole-loops : (o : Option ℕ) (phases : List (List PlainTerm)) →
      loops_in_order (closed_phases size o (map phase_term phases)) ≡ closing_loops o (loops_by phases)
  whole-loops None phases = open-loops phases
  whole-loops (Some v) phases = closed-loops v phases

  -- ---- they are in order, at places within the limits

  pub record IsPhase (t : terms.PlainTerm) : Type 0 where
    pub ordered : IsOrdered t
    pub limited : AreLimitedLoops (most 64) size (loops_in t)

  -- what is known of the phases of a layout
  pub record ArePhases (phases : List (List PlainTerm)) : Type 0 where
    pub ordered : AllOrdered h phases
    pub have : AllHaveLoops h phases
    pub limited : AreLimitedPhases h phases

  open-phases : (phases : List (List PlainTerm)) → AllOrdered h phases → AllHaveLoops h phases →
      AreLimitedPhases h phases → All IsPhase (map phase_term phases)
  open-phases [] ordered have limited = All-nil IsPhase
  open-phases (ts ∷ more) ordered have limited =
      let order : IsOrdered (phase_term ts) =
      record { in_order = ordered.0.in_order; none_waits = ordered.0.none_waits; some = have.0 } in
      All-cons IsPhase (phase_term ts) (map phase_term more) (record { ordered = order; limited = limited.0 })
      (open-phases more ordered.1 have.1 limited.1)

  front-closing : (ps qs : List PlainLoop) → HasClosing size ps → HasClosing size (ps ++ qs)
  front-closing [] qs takes = absurd takes
  front-closing (p ∷ ps) qs takes = takes

  last-closing : (ps : List PlainLoop) → LastIs (TakesClosing size) ps → HasClosing size (reverse ps)
  last-closing [] takes = absurd takes
  last-closing (p ∷ []) takes = takes
  last-closing (p ∷ q ∷ ps) takes =
      subst (HasClosing size) (sym (reverse-append (p ∷ []) (q ∷ ps)))
      (front-closing (reverse (q ∷ ps)) (p ∷ []) (last-closing (q ∷ ps) takes))

  module _ (v : ℕ) where
    closed-phase : (t : terms.PlainTerm) → IsPhase t → HasClosing size (loops_in t) →
        IsPhase (terms.product t (closing_term size v))
    closed-phase t is takes =
        record {
          ordered = record {
            in_order = (is.ordered.in_order, (is.ordered.none_waits, can-scale size v (loops_in t) takes));
            none_waits = is.ordered.none_waits;
            some = has-loop size v (loops_in t) takes;
          };
          limited = limited-last size v (loops_in t) takes is.limited;
        }

  last-takes : (phases : List (List PlainTerm)) → LastIs (LastIs (TakesClosing size)) (loops_by phases) →
      LastIs (λ t. HasClosing size (loops_in t)) (map phase_term phases)
  last-takes [] takes = absurd takes
  last-takes (ts ∷ []) takes =
      subst (HasClosing size) (sym (loops_listed ts)) (last-closing (map loop_of (passes_of_terms ts)) takes)
  last-takes (ts ∷ us ∷ more) takes = last-takes (us ∷ more) takes

  pub whole-phases : (o : Option ℕ) (phases : List (List PlainTerm)) → ArePhases phases →
      LastIs (LastIs (TakesClosing size)) (loops_by phases) →
      All IsPhase (closed_phases size o (map phase_term phases))
  whole-phases None phases are takes = open-phases phases are.ordered are.have are.limited
  whole-phases (Some v) phases are takes =
      let us = map phase_term phases in
      subst (All IsPhase) (sym (close-is size v us))
      (all-last IsPhase (λ t. HasClosing size (loops_in t)) (λ t. terms.product t (closing_term size v)) (closed-phase v) us
      (open-phases phases are.ordered are.have are.limited) (last-takes phases takes))
