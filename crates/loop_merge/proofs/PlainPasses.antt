-- Passes for one processor and one lane are ready.
use Rattle.std.proofs.Common.{◌≡◌, ℕ, ◌+◌, ◌*◌, ◌^◌, ◌<◌, ◌≤◌, true, Bool, refl, sym, ap, ap₂, ◌∙◌, arith, List, []}
use Rattle.std.proofs.Common.{◌∷◌, ◌++◌, length, length-append, append-nil, map, reverse, subst, All}
use Rattle.std.specs.Prelude.{◌&&◌}
use Rattle.std.specs.List.{list_all}
use Rattle.std.proofs.lemmas.List.{reverse-append}
use Rattle.std.proofs.lemmas.List.Elements.{All-cons, All-head, All-nil, All-tail, All-weaker}
use Rattle.loop_merge.proofs.AloneOwns.{shared-first}
use Rattle.sigma_spl.specs.PlainPasses.{ArePlainPasses, IsPlainNest, IsPlainPass, in_order, plain_phase}
use Rattle.sigma_spl.proofs.Walk.{and-left}
use Rattle.sigma_spl.proofs.Phases.{phase-append}
use Rattle.sigma_spl.specs.Formula.{Formula, size_of}
use Rattle.sigma_spl.specs.Formulas.{IsFormulaSigma}
use Rattle.sigma_spl.specs.Merge.{is_limited, is_multiplier_within, is_within, limits_of, passes_of}
use Rattle.sigma_spl.specs.Merged.{PlainMerged, merged_on, phase_on}
use Rattle.sigma_spl.specs.Nest.{PlainNest, nests_on, passes_on, store_place}
use Rattle.sigma_spl.specs.Shared.Machine.{plain_machine, if_several, framed_lanes, item_of, lane_step, values_of}
use Rattle.sigma_spl.specs.Shared.Owners.{all_passes, most_actions}
use Rattle.sigma_spl.specs.Shared.Ready.{IsReady, IsReadyNest, IsReadyPass, passes_tables}
use Rattle.sigma_spl.specs.Shared.Running.{CanRunNest, MovesVectors}
use Rattle.sigma_spl.specs.Sigma.{PlainSigma, merged_of, passes_in_order}
use Rattle.sigma_spl.specs.Term.{PlainTerm}
use Rattle.sigma_spl.specs.Work.{PlainWork, kernel, rows, horner, tile, copy}

-- ---- the same passes in their order

ordered-on : (m n : ℕ) (ps : List (List PlainNest)) (x : List ℕ) → phase_on m n (in_order ps) x ≡ passes_on m n ps x
ordered-on m n [] x = refl
ordered-on m n (p ∷ ps) x = phase-append m n (in_order ps) (p ∷ []) x ∙ ap (nests_on m n p) (ordered-on m n ps x)

length-order : (ps : List (List PlainNest)) → length (in_order ps) ≡ length ps
length-order [] = refl
length-order (p ∷ ps) = let all = length-append (in_order ps) (p ∷ []) in let rest = length-order ps in omega arith

pub in_order_reversed : (ps : List (List PlainNest)) → reverse ps ≡ in_order ps
in_order_reversed [] = refl
in_order_reversed (zs ∷ ps) = reverse-append (zs ∷ []) ps ∙ ap (λ qs. qs ++ zs ∷ []) (in_order_reversed ps)

-- what they do
pub plain_on : (n m : ℕ) (ps : List (List PlainNest)) (x : List ℕ) →
    merged_on m (plain_phase n ps) x ≡ passes_on m n ps x
plain_on n m ps x = ordered-on m n ps x

-- ---- one processor and one lane

plain-framed : (n m : ℕ) (z : PlainNest) (w : PlainWork) →
    z.counts ≡ if_several 1 1 ++ (framed_lanes (plain_machine n m) w ++ z.counts)
plain-framed n m z (kernel trees) = refl
plain-framed n m z (rows root size) = refl
plain-framed n m z (horner root size) = refl
plain-framed n m z (tile v) = refl
plain-framed n m z (copy size) = refl

none-more : (a : ℕ) → a ≡ a + 0
none-more a = omega arith

moves-none : (n m : ℕ) (z : PlainNest) (q : ℕ) (vs : List ℕ) (lane k : ℕ) → lane ≡ 0 →
    MovesVectors (plain_machine n m) z q vs lane k
moves-none n m z q vs lane k is =
    subst (λ l. MovesVectors (plain_machine n m) z q vs l k) (sym is)
    (record {
      loads = none-more _;
      stores = none-more _;
      factors = λ d some.
          let none : lane_step z.work * 0 ≡ 0 = omega arith in
          none-more _
          ∙ ap (λ s. store_place z.work d.places (values_of (plain_machine n m) z.work q 0 vs) (item_of z.work k 0) + s)
          (sym none);
    })

-- ---- passes

module _ (n m : ℕ) where
  nest-runs : (z : PlainNest) → IsPlainNest n m z → CanRunNest (plain_machine n m) z
  nest-runs z h =
      record {
        work = h.work;
        inside = h.inside;
        framed = record { loops = z.counts; counts = plain-framed n m z z.work };
        vectors = λ q vs lane k range there under. moves-none n m z q vs lane k (omega arith);
        factors = h.factors;
        residues = h.residues;
      }

  within-all : (zs : List PlainNest) → All (IsPlainNest n m) zs → is_within 64 n zs ≡ true
  within-all [] h = refl
  within-all (z ∷ zs) h =
      let cs = limits_of z in
      let loads = list_all (is_limited 64 n cs) z.gathers in
      let stores = list_all (is_limited 64 n cs) z.scatters in
      let one = (loads && stores) && is_multiplier_within 64 cs z.multiplier in
      ap₂ (λ (a b : Bool). a && b) (and-left one true (All-head (IsPlainNest n m) z zs h).within)
      (within-all zs (All-tail (IsPlainNest n m) z zs h))

  pass-ready : 2 ≤ m → (zs : List PlainNest) → IsPlainPass n m zs → IsReadyPass (plain_machine n m) zs
  pass-ready large zs h =
      record {
        runs = record {
          lanes = omega arith;
          modulus = large;
          nests = All-weaker (IsPlainNest n m) (CanRunNest (plain_machine n m)) nest-runs zs h.nests;
          once = h.once;
        };
        within = within-all zs h.nests;
        nests = All-weaker (IsPlainNest n m) (IsReadyNest (plain_machine n m)) (λ z k. k.ready) zs h.nests;
      }

  pub plain_are_ready : (ps : List (List PlainNest)) → ArePlainPasses n m ps →
      IsReady (plain_machine n m) (plain_phase n ps)
  plain_are_ready ps h =
      let one : all_passes (in_order ps ∷ []) ≡ in_order ps = append-nil (in_order ps) in
      let long = length-order ps in
      let some = h.some in
      record {
        host = record { size = h.size; modulus = h.modulus; procs = (omega arith, omega arith); line = (omega arith, omega arith); lanes = (omega arith, omega arith) };
        size = refl;
        procs = refl;
        lanes = refl;
        passes = subst (All (IsReadyPass (plain_machine n m))) (sym one)
            (All-weaker (IsPlainPass n m) (IsReadyPass (plain_machine n m)) (pass-ready h.modulus.0) (in_order ps) h.passes);
        some = subst (λ qs. 0 < length qs) (sym one) (omega (arith, long, some));
        each_some = All-cons (λ qs. 0 < length qs) (in_order ps) [] (omega (arith, long, some)) (All-nil (λ qs. 0 < length qs));
        few = subst (λ qs. most_actions (plain_machine n m) qs < 2 ^ 59) (sym one) h.few;
        tables = subst (λ qs. passes_tables qs < 2 ^ 32) (sym one) h.tables;
        shared = (shared-first (plain_machine n m) refl (in_order ps), tt);
      }

-- ---- the passes of a formula's Sigma

abbrev merged_terms : (n procs lanes : ℕ) → List PlainTerm → PlainMerged
merged_terms n procs lanes ts = record { size = n; procs = procs; lanes = lanes; phases = map (passes_in_order n) ts }

pub formula_merges : (m : ℕ) (f : Formula) (s : PlainSigma) → IsFormulaSigma m f s →
    IsReady (plain_machine (size_of f) m) (merged_of s)
formula_merges m f s h =
    let n = size_of f in
    let ps = passes_of n h.term in
    let is : merged_of s ≡ plain_phase n ps =
    ap (λ (k : ℕ). merged_terms k s.procs s.lanes s.phases) h.size
    ∙ ap (λ (k : ℕ). merged_terms n k s.lanes s.phases) h.procs
    ∙ ap (λ (k : ℕ). merged_terms n 1 k s.phases) h.lanes
    ∙ ap (λ (ts : List PlainTerm). merged_terms n 1 1 ts) h.phases
    ∙ ap (λ (qs : List (List PlainNest)). record { size = n; procs = 1; lanes = 1; phases = qs ∷ [] }) (in_order_reversed ps) in
    subst (IsReady (plain_machine n m)) (sym is) (plain_are_ready n m ps h.passes)
