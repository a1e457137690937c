-- What is known of a state of merging stays known, part by part of a term.
use Rattle.std.proofs.Common.{◌≡◌, ℕ, ◌+◌, ◌-◌, ◌^◌, ◌<◌, ◌≤◌, true, arith, sym, subst, List, [], ◌∷◌, ◌++◌, length}
use Rattle.std.specs.Prelude.{map, ◌&&◌}
use Rattle.index_fn.specs.Mapping.{Mapping}
use Rattle.perm_algebra.specs.Affine.{Sum, constant}
use Rattle.perm_algebra.specs.Room.{IsReady}
use Rattle.perm_algebra.proofs.Kept.{ready-simplified}
use Rattle.sigma_spl.specs.Good.{IsFormed}
use Rattle.sigma_spl.specs.Limits.{HasSeveral}
use Rattle.sigma_spl.specs.Merge.{most, Merging, Taking, limits_of, all_simplified, can_gather, can_scatter}
use Rattle.sigma_spl.specs.Merge.{can_multiply, gathered, multiplied, suits, copying, items_in, back_of, take_gathers}
use Rattle.sigma_spl.specs.Merge.{copy_by, copies_before, settled, with_pass, factor_places, with_copy, with_diagonal}
use Rattle.sigma_spl.specs.Merge.{with_scatter, is_within}
use Rattle.sigma_spl.specs.Nest.{PlainFactors, spread, factor_count, PlainNest}
use Rattle.sigma_spl.specs.Term.{nest, move}
use Rattle.sigma_spl.specs.Work.{PlainWork, copy, work_size, HasWords}
use Rattle.sigma_spl.proofs.Keeps.{inner_positive}
use Rattle.sigma_spl.proofs.Limited.{IsRound, few-round, round-inner, new-within, moved-within, spread-within}
use Rattle.sigma_spl.proofs.Walk.{chosen, and-right}
use Rattle.sigma_spl.proofs.Within.{within-multiplied}
use Rattle.loop_nests.specs.Limits.Leading.{CanCarry}
use Rattle.operators.specs.Paths.Tensors.{Path, size_under}
use Rattle.loop_merge.specs.Known.{IsGood, AreKnownPasses, HasRoom}
use Rattle.loop_nests.specs.NewNests.{moved_nest, natural_nest}
use Rattle.loop_nests.specs.Ready.{AreReady, IsReadyPass}
use Rattle.loop_nests.specs.Places.Known.{IsKnownPass, IsStep, AreSteps}
use Rattle.loop_nests.proofs.PlaceLemmas.Carries.{carry-places}
use Rattle.loop_nests.proofs.PlaceLemmas.Passes.{known-gathered, known-scattered}
use Rattle.loop_nests.proofs.Readies.{ready-new, ready-in, ready-constants}
use Rattle.loop_merge.proofs.Readies.{low, known-copying, known-by}

-- ---- new nests

module _ (room n : ℕ) (h : HasRoom room n) where
  short : (path : Path) (d : ℕ) → HasSeveral (nest path (copy d)) → 0 < d → size_under path d ≡ n →
      length path + 2 ≤ room
  short path d several item size =
      let inner = few-round (64 - room + length path) d item (round-inner path (64 - room) d several.0 (subst (IsRound (64 - room)) (sym size) h.round)) in omega (arith, inner, h.most)

  pub known-nest : (path : Path) (w : PlainWork) → IsGood n (nest path w) → HasSeveral (nest path w) → HasWords w →
      IsKnownPass room n (natural_nest path w ∷ [])
  known-nest path w good several words =
      let item = inner_positive path (work_size w) (subst (λ z. 0 < z) (sym good.term.1) h.some) in
      let high : size_under path (work_size w) ≤ 2 ^ 20 = omega (arith, good.term.1, low room n h) in
      record {
        within = subst (λ z. is_within room z (natural_nest path w ∷ []) ≡ true) good.term.1 (new-within room good.lanes path w good.term.0 several.1 several.0 item high (short path (work_size w) (several.0, tt) item good.term.1));
        ready = ready-new path w (items_in w (length path)) words (ready-in (length path) w item);
      }

  pub known-move : (path : Path) (ks : List ℕ) → IsGood n (move path ks) → HasSeveral (move path ks) →
      IsKnownPass room n (moved_nest path ks ∷ [])
  known-move path ks good several =
      let item = inner_positive path (length ks) (subst (λ z. 0 < z) (sym good.term.1) h.some) in
      let high : size_under path (length ks) ≤ 2 ^ 20 = omega (arith, good.term.1, low room n h) in
      record {
        within = subst (λ z. is_within room z (moved_nest path ks ∷ []) ≡ true) good.term.1 (moved-within room path ks several item high (short path (length ks) (several, tt) item good.term.1) good.term.0);
        ready = ready-new path (copy (length ks)) (map constant ks) tt (ready-constants (length path + 2) ks);
      }

  -- ---- passes and gathers

  pub known-append : (ps qs : List (List PlainNest)) → AreKnownPasses room n ps → AreKnownPasses room n qs →
      AreKnownPasses room n (ps ++ qs)
  known-append [] qs k l = l
  known-append (zs ∷ ps) qs k l = (k.0, known-append ps qs k.1 l)

  known-take : (zs : List PlainNest) (fs : List Mapping) → IsKnownPass room n zs → AreSteps n fs →
      IsKnownPass room n (take_gathers (most room) n zs fs).pass
  known-take zs [] k steps = k
  known-take zs (f ∷ fs) k steps =
      chosen (λ (t : Taking). IsKnownPass room n t.pass) (can_gather (most room) n f zs) _ _ (λ can. known-take (gathered f zs) fs (known-gathered room n f zs steps.0.moves.there can k) steps.1) k

  steps-left : (zs : List PlainNest) (fs : List Mapping) → AreSteps n fs →
      AreSteps n (take_gathers (most room) n zs fs).left
  steps-left zs [] steps = tt
  steps-left zs (f ∷ fs) steps = chosen (λ (t : Taking). AreSteps n t.left) (can_gather (most room) n f zs) _ _ (λ can. steps-left (gathered f zs) fs steps.1) steps

  known-copies : (zs : List PlainNest) (fs : List Mapping) → IsKnownPass room n zs → AreSteps n fs →
      AreKnownPasses room n (copies_before (most room) n zs fs)
  known-copies zs [] k steps = (k, tt)
  known-copies zs (f ∷ fs) k steps =
      chosen (λ ps. AreKnownPasses room n ps) (can_gather (most room) n f zs) _ _
      (λ can. known-copies (gathered f zs) fs (known-gathered room n f zs steps.0.moves.there can k) steps.1)
      (k, known-copies (copy_by (most room) n f) fs (known-by room n h f steps.0) steps.1)

  pub known-settled : (fs : List Mapping) → AreSteps n fs → AreKnownPasses room n (settled (most room) n fs)
  known-settled [] steps = tt
  known-settled (f ∷ fs) steps = known-copies (copy_by (most room) n f) fs (known-by room n h f steps.0) steps.1

  pub known-pass : (st : Merging) (zs : List PlainNest) → IsKnownPass room n zs → AreSteps n st.waiting →
      AreKnownPasses room n st.passes → AreKnownPasses room n (with_pass (most room) n st zs).passes
  known-pass st zs k steps before =
      (known-take zs st.waiting k steps, known-append (settled (most room) n (take_gathers (most room) n zs st.waiting).left) st.passes (known-settled _ (steps-left zs st.waiting steps)) before)

  -- ---- scatters

  pub known-scatter : (waiting : List Mapping) (passes : List (List PlainNest)) (f : Mapping) → IsFormed f →
      AreKnownPasses room n passes → AreKnownPasses room n (with_scatter (most room) n waiting passes f).passes
  known-scatter [] [] f formed k = k
  known-scatter [] (zs ∷ ps) f formed k =
      chosen (λ (t : Merging). AreKnownPasses room n t.passes) (can_scatter (most room) n f zs) _ _ (λ can. (known-scattered room n f zs formed can k.0, k.1)) k
  known-scatter (g ∷ gs) passes f formed k = k

  pub steps-scatter : (waiting : List Mapping) (passes : List (List PlainNest)) (f : Mapping) → IsStep n (back_of f) →
      AreSteps n waiting → AreSteps n (with_scatter (most room) n waiting passes f).waiting
  steps-scatter [] [] f step k = (step, tt)
  steps-scatter [] (zs ∷ ps) f step k = chosen (λ (t : Merging). AreSteps n t.waiting) (can_scatter (most room) n f zs) _ _ (λ can. tt) (step, tt)
  steps-scatter (g ∷ gs) passes f step k = (step, k)

  -- ---- diagonals

  ready-carried : (k : ℕ) (cs : ℕ → ℕ) (fs : List Mapping) (e : Sum) → CanCarry n fs → IsReady k e →
      IsReady k (all_simplified cs fs e)
  ready-carried k cs [] e can r = r
  ready-carried k cs (f ∷ fs) e can r = ready-carried k cs fs _ can.2 (ready-simplified cs k f e can.0.formed can.0.no_list r)

  ready-all : (k : ℕ) (cs : ℕ → ℕ) (fs : List Mapping) (es : List Sum) → CanCarry n fs → AreReady k es →
      AreReady k (map (all_simplified cs fs) es)
  ready-all k cs fs [] can r = tt
  ready-all k cs fs (e ∷ es) can r = (ready-carried k cs fs e can r.0, ready-all k cs fs es can r.1)

  ready-multiplied : (factors : PlainFactors) (fs : List Mapping) (zs : List PlainNest) → CanCarry n fs →
      IsReadyPass zs → IsReadyPass (multiplied factors fs zs)
  ready-multiplied factors fs [] can r = tt
  ready-multiplied factors fs (z ∷ zs) can r =
      (record { words = r.0.words; gathers = r.0.gathers; scatters = r.0.scatters; multiplier = ready-all (length z.counts + 2) (limits_of z) fs z.scatters can r.0.scatters }, ready-multiplied factors fs zs can r.1)

  known-multiplied : (factors : PlainFactors) (fs : List Mapping) (zs : List PlainNest) → CanCarry n fs →
      can_multiply room n factors fs zs ≡ true → IsKnownPass room n zs → IsKnownPass room n (multiplied factors fs zs)
  known-multiplied factors fs zs carries can k = record { within = within-multiplied room n factors fs zs k.within can; ready = ready-multiplied factors fs zs carries k.ready }

  known-spread : (factors : PlainFactors) → factor_count factors ≡ n →
      IsKnownPass room n (multiplied factors [] (copying n))
  known-spread factors count =
      let k = known-copying room n h in record { within = spread-within room n factors (copying n) count k.within; ready = ready-multiplied factors [] (copying n) tt k.ready }

  carried : (waiting : List Mapping) (path : Path) (factors : PlainFactors) →
      size_under path (factor_count factors) ≡ n → AreSteps n waiting → CanCarry n (factor_places waiting path factors)
  carried waiting path factors size steps = carry-places n waiting path factors h.some (low room n h) steps size

  known-copy : (st : Merging) (path : Path) (factors : PlainFactors) → size_under path (factor_count factors) ≡ n →
      AreSteps n st.waiting → AreKnownPasses room n st.passes →
      AreKnownPasses room n (with_copy (most room) n st path factors).passes
  known-copy st path factors size steps k =
      let places = factor_places st.waiting path factors in
      chosen (λ (t : Merging). AreKnownPasses room n t.passes) (can_multiply room n factors places (copying n)) _ _
      (λ can. (known-multiplied factors places (copying n) (carried st.waiting path factors size steps) can (known-copying room n h), k))
      (known-spread (spread path factors) size, known-append (settled (most room) n st.waiting) st.passes (known-settled st.waiting steps) k)

  pub known-diagonal : (waiting : List Mapping) (passes : List (List PlainNest)) (path : Path)
      (factors : PlainFactors) → size_under path (factor_count factors) ≡ n → AreSteps n waiting →
      AreKnownPasses room n passes →
      AreKnownPasses room n (with_diagonal (most room) n waiting passes path factors).passes
  known-diagonal waiting [] path factors size steps k = known-copy (record { waiting = waiting; passes = [] }) path factors size steps k
  known-diagonal waiting (zs ∷ ps) path factors size steps k =
      let places = factor_places waiting path factors in
      chosen (λ (t : Merging). AreKnownPasses room n t.passes) (suits path zs && can_multiply room n factors places zs) _ _
      (λ can. (known-multiplied factors places zs (carried waiting path factors size steps) (and-right (suits path zs) _ can) k.0, k.1))
      (known-copy (record { waiting = waiting; passes = zs ∷ ps }) path factors size steps k)

  steps-copy : (st : Merging) (path : Path) (factors : PlainFactors) → AreSteps n st.waiting →
      AreSteps n (with_copy (most room) n st path factors).waiting
  steps-copy st path factors steps =
      chosen (λ (t : Merging). AreSteps n t.waiting) (can_multiply room n factors (factor_places st.waiting path factors) (copying n)) _ _ (λ can. steps) tt

  pub steps-diagonal : (waiting : List Mapping) (passes : List (List PlainNest)) (path : Path)
      (factors : PlainFactors) → AreSteps n waiting → AreSteps n
      (with_diagonal (most room) n waiting passes path factors).waiting
  steps-diagonal waiting [] path factors steps = steps-copy (record { waiting = waiting; passes = [] }) path factors steps
  steps-diagonal waiting (zs ∷ ps) path factors steps =
      chosen (λ (t : Merging). AreSteps n t.waiting) (suits path zs && can_multiply room n factors (factor_places waiting path factors) zs) _ _
      (λ can. steps) (steps-copy (record { waiting = waiting; passes = zs ∷ ps }) path factors steps)
