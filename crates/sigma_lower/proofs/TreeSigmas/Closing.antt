-- Loops of which the last one takes the closing diagonal: who owns their lines, what they count, and that they are ready.
use Rattle.sigma_lower.proofs.Words.{◌≡◌, ℕ, ◌+◌, ◌*◌, List, [], ◌∷◌, refl, sym, ap, ◌∙◌, arith, subst, Option, None}
use Rattle.sigma_lower.proofs.Words.{Some, All, length, map, All-head, All-tail, Target, count_of, copies_in}
use Rattle.sigma_lower.proofs.Words.{multiplier_cost, LastIs, on_last, PlainLoop, PlainTaken, multiplier_of, one_nest}
use Rattle.sigma_lower.proofs.Words.{PlainNest, pass_cost, pass_loads, work_cost, IsReadyLoop, work_size, in_order}
use Rattle.sigma_lower.proofs.Words.{PlainPass, loop_of, option_map, taken_of}
use Rattle.smp_rewrite.specs.Layout.Whole.{IsGoodFactor}
use Rattle.sigma_lower.proofs.TreeSigmas.Bounds.{IsBounded}
use Rattle.sigma_lower.proofs.TreeSigmas.ClosedCounts.{more_by, more_last}
use Rattle.sigma_lower.proofs.TreeSigmas.ClosedLoops.{TakesClosing, closed_loop, ready-closed}
use Rattle.sigma_lower.proofs.TreeSigmas.ClosedPhases.{closing_loops}
use Rattle.sigma_lower.proofs.TreeSigmas.Lasts.{HasItem, all-last, last-order, length-last, order-last}
use Rattle.sigma_lower.proofs.TreeSigmas.Owned.{AllAreLoops, AreLoops}

same-loops : (ps : List PlainPass) → AreLoops ps (map loop_of ps)
same-loops [] = tt
same-loops (p ∷ ps) = ((option_map taken_of p.diagonal, refl), same-loops ps)

same-phases : (phases : List (List PlainPass)) → AllAreLoops phases (map (map loop_of) phases)
same-phases [] = tt
same-phases (ps ∷ more) = (same-loops ps, same-phases more)

module _ (h : Target) (v : ℕ) where
  abbrev closed : PlainLoop → PlainLoop
  closed p = closed_loop h.size v p

  abbrev nests : List PlainLoop → List (List PlainNest)
  nests ps = map one_nest ps

  -- ---- they are loops of the passes

  last-loops : (ps : List PlainPass) → AreLoops ps (on_last closed (map loop_of ps))
  last-loops [] = tt
  last-loops (p ∷ []) = ((Some _, refl), tt)
  last-loops (p ∷ q ∷ ps) = ((option_map taken_of p.diagonal, refl), last-loops (q ∷ ps))

  last-phases : (phases : List (List PlainPass)) →
      AllAreLoops phases (on_last (on_last closed) (map (map loop_of) phases))
  last-phases [] = tt
  last-phases (ps ∷ []) = (last-loops ps, tt)
  last-phases (ps ∷ qs ∷ more) = (same-loops ps, last-phases (qs ∷ more))

  -- ---- what they count

  bounded-closed : (p : PlainLoop) → IsBounded h p → IsBounded h (closed p)
  bounded-closed p is =
      record { fills = is.fills; items = is.items; operations = is.operations; loads = is.loads }

  more-cost : (copies n size weight x : ℕ) → copies * n ≡ size →
      copies * (x + weight * n) + 0 ≡ copies * (x + 0) + 0 + weight * size
  more-cost copies n size weight x whole =
      let turned : copies * (weight * n) ≡ weight * (copies * n) = omega arith in
      let same : weight * (copies * n) ≡ weight * size = ap (λ y. weight * y) whole in
      let cut : copies * (x + weight * n) ≡ copies * x + copies * (weight * n) = omega arith in
      omega (arith, turned, same, cut)

  closed-cost : (weight : ℕ) (p : PlainLoop) → IsBounded h p → TakesClosing h.size p →
      pass_cost weight h.modulus (one_nest (closed p)) ≡ pass_cost weight h.modulus (one_nest p) + weight * h.size
  closed-cost weight p is takes =
      let copies = copies_in (map count_of p.path) in
      let x = work_cost weight h.modulus p.work in
      more-cost copies (work_size p.work) h.size weight x is.fills
      ∙ ap
      (λ (o : Option PlainTaken).
      copies * (x + multiplier_cost weight (multiplier_of p o) p.work) + 0 + weight * h.size)
      (sym takes.free)

  costs-last : (weight : ℕ) (ps : List PlainLoop) → All (IsBounded h) ps → LastIs (TakesClosing h.size) ps →
      map (pass_cost weight h.modulus) (nests (on_last closed ps))
      ≡ more_last (weight * h.size) (map (pass_cost weight h.modulus) (nests ps))
  costs-last weight [] all takes = absurd takes
  costs-last weight (p ∷ []) all takes =
      ap (λ n. n ∷ []) (closed-cost weight p (All-head (IsBounded h) p [] all) takes)
  costs-last weight (p ∷ r ∷ ps) all takes =
      ap (λ ns. pass_cost weight h.modulus (one_nest p) ∷ ns)
      (costs-last weight (r ∷ ps) (All-tail (IsBounded h) p (r ∷ ps) all) takes)

  loads-last : (ps : List PlainLoop) → map pass_loads (nests (on_last closed ps)) ≡ map pass_loads (nests ps)
  loads-last (p ∷ r ∷ ps) = ap (λ ns. pass_loads (one_nest p) ∷ ns) (loads-last (r ∷ ps))
  loads-last _ = refl

-- ---- with the factor of a whole, if it has one

pub closing-are : (h : Target) (o : Option ℕ) (phases : List (List PlainPass)) →
    AllAreLoops phases (closing_loops h o (map (map loop_of) phases))
closing-are h None phases = same-phases phases
closing-are h (Some v) phases = last-phases h v phases

module _ (h : Target) (phases : List (List PlainLoop)) (each : All HasItem phases)
    (takes : LastIs (TakesClosing h.size) (in_order phases)) where
  -- the last of the last phase
  pub takes-phases : LastIs (LastIs (TakesClosing h.size)) phases
  takes-phases = last-order (TakesClosing h.size) phases each takes

  pub whole-ready : (o : Option ℕ) → IsGoodFactor h.modulus o → All (All (IsReadyLoop h)) phases →
      All (All (IsReadyLoop h)) (closing_loops h o phases)
  whole-ready None good ready = ready
  whole-ready (Some v) good ready =
      all-last (All (IsReadyLoop h)) (LastIs (TakesClosing h.size)) (on_last (closed_loop h.size v))
      (λ ps are last.
      all-last (IsReadyLoop h) (TakesClosing h.size) (closed_loop h.size v)
      (λ p is this. ready-closed h.size v h good p is this) ps are last)
      phases ready takes-phases

  module _ (bounded : All (IsBounded h) (in_order phases)) where
    pub whole-bounded : (o : Option ℕ) → All (IsBounded h) (in_order (closing_loops h o phases))
    whole-bounded None = bounded
    whole-bounded (Some v) =
        subst (All (IsBounded h)) (sym (order-last (closed_loop h.size v) phases each))
        (all-last (IsBounded h) (TakesClosing h.size) (closed_loop h.size v)
        (λ p is this. bounded-closed h v p is) (in_order phases) bounded takes)

    pub whole-costs : (weight : ℕ) (o : Option ℕ) →
        map (pass_cost weight h.modulus) (map one_nest (in_order (closing_loops h o phases)))
        ≡ more_by weight h.size o (map (pass_cost weight h.modulus) (map one_nest (in_order phases)))
    whole-costs weight None = refl
    whole-costs weight (Some v) =
        ap (λ ps. map (pass_cost weight h.modulus) (map one_nest ps)) (order-last (closed_loop h.size v) phases each)
        ∙ costs-last h v weight (in_order phases) bounded takes

  pub whole-loads : (o : Option ℕ) →
      map pass_loads (map one_nest (in_order (closing_loops h o phases)))
      ≡ map pass_loads (map one_nest (in_order phases))
  whole-loads None = refl
  whole-loads (Some v) =
      ap (λ ps. map pass_loads (map one_nest ps)) (order-last (closed_loop h.size v) phases each)
      ∙ loads-last h v (in_order phases)

  pub whole-length : (o : Option ℕ) → length (in_order (closing_loops h o phases)) ≡ length (in_order phases)
  whole-length None = refl
  whole-length (Some v) =
      ap length (order-last (closed_loop h.size v) phases each) ∙ length-last (closed_loop h.size v) (in_order phases)
