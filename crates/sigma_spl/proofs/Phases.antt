-- The passes of good terms in phases do what the terms do, in their operations.
use Rattle.std.proofs.Common.{◌≡◌, ℕ, ◌+◌, ◌^◌, ◌<◌, ◌≤◌, arith, refl, sym, ap, ap₂, ◌∙◌, subst, List, [], ◌∷◌, ◌++◌}
use Rattle.std.specs.Prelude.{map, reverse}
use Rattle.std.proofs.lemmas.List.{reverse-append}
use Rattle.sigma_spl.specs.Counts.{CopiesAreFree, pass_cost, passes_cost, term_cost}
use Rattle.sigma_spl.specs.Good.{AreGoodPasses}
use Rattle.spl_ast.specs.Meaning.{IsVector}
use Rattle.sigma_spl.specs.Limits.{AreWithin}
use Rattle.sigma_spl.specs.Merge.{most, passes_of}
use Rattle.sigma_spl.specs.Merged.{PlainMerged, phase_on, phases_on}
use Rattle.sigma_spl.specs.Nest.{PlainNest, nests_on, passes_on}
use Rattle.sigma_spl.specs.Sigma.{AllCanMerge, ArePhases, CanMerge, PlainSigma, SigmaMerges, in_all, merged_costs}
use Rattle.sigma_spl.specs.Sigma.{passes_in_order, sigma_cost, sigma_costs, terms_on}
use Rattle.sigma_spl.specs.Term.{PlainTerm}
use Rattle.sigma_spl.specs.Work.{PlainWork}
use Rattle.sigma_spl.proofs.Counting.{merge_counts}
use Rattle.sigma_spl.proofs.Keeps.{merge_keeps}
use Rattle.sigma_spl.proofs.Limited.{merge_limits}
use Rattle.sigma_spl.proofs.Walk.{good-append, passes-vector}
use Rattle.sigma_spl.proofs.Within.{within-append}

-- ---- passes the other way round

-- the first of a list is the last one then
turned-first : (zs : List PlainNest) (ps : List (List PlainNest)) → reverse (zs ∷ ps) ≡ reverse ps ++ zs ∷ []
turned-first zs ps = reverse-append (zs ∷ []) ps

pub phase-append : (m n : ℕ) (ps qs : List (List PlainNest)) (x : List ℕ) →
    phase_on m n (ps ++ qs) x ≡ phase_on m n qs (phase_on m n ps x)
phase-append m n [] qs x = refl
phase-append m n (zs ∷ ps) qs x = phase-append m n ps qs (nests_on m n zs x)

pub turned-on : (m n : ℕ) (ps : List (List PlainNest)) (x : List ℕ) → phase_on m n (reverse ps) x ≡ passes_on m n ps x
turned-on m n [] x = refl
turned-on m n (zs ∷ ps) x =
    ap (λ (qs : List (List PlainNest)). phase_on m n qs x) (turned-first zs ps) ∙ phase-append m n (reverse ps) (zs ∷ []) x ∙ ap (nests_on m n zs) (turned-on m n ps x)

turned-good : (lanes m n : ℕ) (ps : List (List PlainNest)) → AreGoodPasses lanes m n ps →
    AreGoodPasses lanes m n (reverse ps)
turned-good lanes m n [] h = tt
turned-good lanes m n (zs ∷ ps) h = subst (AreGoodPasses lanes m n) (sym (turned-first zs ps)) (good-append lanes m n (reverse ps) (zs ∷ []) (turned-good lanes m n ps h.1) (h.0, tt))

turned-within : (room n : ℕ) (ps : List (List PlainNest)) → AreWithin room n ps → AreWithin room n (reverse ps)
turned-within room n [] h = tt
turned-within room n (zs ∷ ps) h = subst (AreWithin room n) (sym (turned-first zs ps)) (within-append room n (reverse ps) (zs ∷ []) (turned-within room n ps h.1) (h.0, tt))

module _ (weight : ℕ) (cost : PlainWork → ℕ) where
  cost-last : (ps : List (List PlainNest)) (zs : List PlainNest) →
      passes_cost weight cost (ps ++ zs ∷ []) ≡ pass_cost weight cost zs + passes_cost weight cost ps
  cost-last [] zs = refl
  cost-last (ys ∷ ps) zs = let rest = cost-last ps zs in omega (arith, rest)

  turned-cost : (ps : List (List PlainNest)) → passes_cost weight cost (reverse ps) ≡ passes_cost weight cost ps
  turned-cost [] = refl
  turned-cost (zs ∷ ps) = ap (passes_cost weight cost) (turned-first zs ps) ∙ cost-last (reverse ps) zs ∙ ap (λ k. pass_cost weight cost zs + k) (turned-cost ps)

-- ---- phases

module _ (lanes n : ℕ) (some : 0 < n) (high : n ≤ 2 ^ 20) where
  phases : (ts : List PlainTerm) → AllCanMerge lanes n ts → ArePhases lanes n (map (passes_in_order n) ts)
  phases [] can = tt
  phases (t ∷ ts) can =
      let one : CanMerge lanes n t = can.0 in (
        record {
          good = λ m positive. turned-good lanes m n (passes_of n t) (merge_keeps lanes m n (most 64) t positive some one.good).good;
          within = turned-within 64 n (passes_of n t) (merge_limits lanes n t some high one.good one.several);
        },
        phases ts can.1,
      )

  meaning : (m : ℕ) (ts : List PlainTerm) (x : List ℕ) → 0 < m → AllCanMerge lanes n ts → IsVector m n x →
      phases_on m n (map (passes_in_order n) ts) x ≡ terms_on m n ts x
  meaning m [] x positive can v = refl
  meaning m (t ∷ ts) x positive can v =
      let one : CanMerge lanes n t = can.0 in
      let merged = merge_keeps lanes m n (most 64) t positive some one.good in
      let after = passes_on m n (passes_of n t) x in
      ap (phases_on m n (map (passes_in_order n) ts)) (turned-on m n (passes_of n t) x)
      ∙ meaning m ts after positive can.1 (passes-vector m n (passes_of n t) x positive v)
      ∙ ap (terms_on m n ts) (merged.on x v)

  operations : (weight : ℕ) (cost : PlainWork → ℕ) (ts : List PlainTerm) → CopiesAreFree cost → AllCanMerge lanes n ts →
      map (passes_cost weight cost) (map (passes_in_order n) ts) ≡ map (term_cost weight cost n) ts
  operations weight cost [] free can = refl
  operations weight cost (t ∷ ts) free can =
      let one : CanMerge lanes n t = can.0 in
      let first = turned-cost weight cost (passes_of n t)
      ∙ merge_counts lanes 1 n (most 64) t weight cost (omega arith) some free one.good in
      ap₂ (λ (k : ℕ) (ks : List ℕ). k ∷ ks) first (operations weight cost ts free can.1)

pub sigma_merges : SigmaMerges
sigma_merges s good =
    record {
      phases = phases s.lanes s.size good.some good.most s.phases good.phases;
      meaning = λ m x positive v. meaning s.lanes s.size good.some good.most m s.phases x positive good.phases v;
      operations = λ weight cost free. operations s.lanes s.size good.some good.most weight cost s.phases free good.phases;
    }
