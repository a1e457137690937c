-- Merging keeps the operations.
use Rattle.std.proofs.Common.{◌≡◌, ℕ, zero, suc, ◌+◌, ◌*◌, ◌<◌, arith, refl, sym, ap, ap₂, ◌∙◌, List, [], ◌∷◌, ◌++◌}
use Rattle.std.proofs.Common.{length, Option, Some, None}
use Rattle.std.specs.Prelude.{map, ◌&&◌, ◌==◌, if◌then◌else◌}
use Rattle.index_fn.specs.Mapping.{Mapping, at}
use Rattle.operators.specs.Sum.{sum_below, list_below}
use Rattle.operators.proofs.Sums.{sum_below-same, sum_below-swap, sum_below-add, sum_below-zeros}
use Rattle.operators.proofs.Scatters.{sum_below-only, miss}
use Rattle.operators.proofs.PathLemmas.PathLoops.{nest_sum-same}
use Rattle.sigma_spl.specs.Copies.{loops_of, Copies, hits, StoreOnce, IsInside, AreInside}
use Rattle.sigma_spl.specs.Counts.{copies_in, multiplier_cost, nest_cost, pass_cost, passes_cost, term_cost}
use Rattle.sigma_spl.specs.Counts.{CopiesAreFree, MergeCounts}
use Rattle.sigma_spl.specs.Good.{IsGoodPass, AreGoodPasses, IsGoodTerm}
use Rattle.sigma_spl.specs.Merge.{Room, less, Merging, Taking, nothing, one_loop, can_gather, can_scatter, gathered}
use Rattle.sigma_spl.specs.Merge.{scattered, multiplied, copying, take_gathers, copy_by, copies_before, settled}
use Rattle.sigma_spl.specs.Merge.{with_pass, with_passes, factor_places, can_take, suits, with_copy, with_diagonal}
use Rattle.sigma_spl.specs.Merge.{with_scatter, back_of, from_end, ended, merged, lifted, side, sides}
use Rattle.sigma_spl.specs.Merge.{renumbered_places, if_any, new_nest}
use Rattle.sigma_spl.specs.Nest.{PlainFactors, spread, PlainMultiplier, PlainNest, copies_of}
use Rattle.sigma_spl.specs.Term.{PlainTerm, same, gath, scat, diag, nest, move, product, beside}
use Rattle.sigma_spl.specs.Work.{PlainWork, copy, work_size}
use Rattle.sigma_spl.proofs.Keeps.{merged-reaches, nothing-stands}
use Rattle.sigma_spl.proofs.Nests.{AreFree, all-inside}
use Rattle.sigma_spl.proofs.Natural.{copying-good}
use Rattle.sigma_spl.proofs.Walk.{Stands, chosen, and-right, taken-free, copying-free}
use Rattle.operators.specs.Paths.Loop.{nest_sum, loop_at}
use Rattle.operators.specs.Paths.Tensors.{Path, count_of}
use Rattle.operators.specs.Paths.Tensors as paths
use Rattle.std.proofs.lemmas.Bool.Decides.{nat_tests}

-- ---- how many items a pass has

abbrev pub items_of : List Copies → ℕ
items_of [] = 0
items_of (c ∷ cs) = copies_in c.counts * c.size + items_of cs

constant-sum : (n a : ℕ) → sum_below n (λ v. a) ≡ n * a
constant-sum zero a = omega arith
constant-sum (suc n) a = omega (arith, constant-sum n a)

nest-constant : (counts : List ℕ) (a : ℕ) → nest_sum (loops_of counts) (λ vs. a) ≡ copies_in counts * a
nest-constant [] a = omega arith
nest-constant (c ∷ counts) a = sum_below-same c _ (λ v. copies_in counts * a) (λ v below. nest-constant counts a) ∙ constant-sum c (copies_in counts * a) ∙ omega arith

-- the order of a sum over places and one over loops is free
nest-swap : (n : ℕ) (path : Path) (f : ℕ → List ℕ → ℕ) → sum_below n (λ w. nest_sum path (f w))
    ≡ nest_sum path (λ vs. sum_below n (λ w. f w vs))
nest-swap n [] f = refl
nest-swap n (t ∷ path) f = sum_below-swap n (count_of t) (λ w v. nest_sum path (λ vs. f w (v ∷ vs))) ∙ sum_below-same (count_of t) _ _ (λ v below. nest-swap n path (λ w vs. f w (v ∷ vs)))

one-hit : (n p : ℕ) → p < n → sum_below n (λ w. if p == w then 1 else 0) ≡ 1
one-hit n p below = sum_below-only n p _ below (λ w within other. miss p w 1 (λ e. other (sym e))) ∙ self p where
  self : (p : ℕ) → ◌≡◌ {A = ℕ} (if p == p then 1 else 0) 1
  self p = grind (arith, nat_tests)

copies-hit : (n : ℕ) (c : Copies) → IsInside n c → sum_below n
    (λ w. loop_at (loops_of c.counts) c.size c.to (λ vs k. 1) w) ≡ copies_in c.counts * c.size
copies-hit n c h =
    nest-swap n (loops_of c.counts) (λ w vs. sum_below c.size (λ k. if c.to vs k == w then 1 else 0))
    ∙ nest_sum-same (loops_of c.counts) _ (λ vs. c.size) (λ vs range.
    sum_below-swap n c.size (λ w k. if c.to vs k == w then 1 else 0)
    ∙ sum_below-same c.size _ (λ k. 1) (λ k below. one-hit n (c.to vs k) (h.stores vs k range below))
    ∙ constant-sum c.size 1
    ∙ omega arith)
    ∙ nest-constant c.counts c.size

all-hit : (n : ℕ) (cs : List Copies) → AreInside n cs → sum_below n (hits cs) ≡ items_of cs
all-hit n [] h = sum_below-zeros n
all-hit n (c ∷ cs) h = sum_below-add n (λ w. loop_at (loops_of c.counts) c.size c.to (λ vs k. 1) w) (hits cs) ∙ ap₂ (λ a b. a + b) (copies-hit n c h.0) (all-hit n cs h.1)

-- a pass that writes each word of its array once has as many items as the array
pub items-once : (n : ℕ) (cs : List Copies) → AreInside n cs → StoreOnce n cs → items_of cs ≡ n
items-once n cs h once = sym (all-hit n cs h) ∙ sum_below-same n (hits cs) (λ w. 1) once ∙ constant-sum n 1 ∙ omega arith

-- ---- passes

module _ (weight : ℕ) (cost : PlainWork → ℕ) (free : CopiesAreFree cost) where
  cost-gathered : (f : Mapping) (zs : List PlainNest) → pass_cost weight cost (gathered f zs) ≡ pass_cost weight cost zs
  cost-gathered f [] = refl
  cost-gathered f (z ∷ zs) = ap (λ b. nest_cost weight cost z + b) (cost-gathered f zs)

  cost-scattered : (f : Mapping) (zs : List PlainNest) → pass_cost weight cost (scattered f zs)
      ≡ pass_cost weight cost zs
  cost-scattered f [] = refl
  cost-scattered f (z ∷ zs) = ap (λ b. nest_cost weight cost z + b) (cost-scattered f zs)

  more-cost : (c a s x y i : ℕ) → x ≡ y + weight * i → c * (a + weight * s) + x ≡ c * (a + 0) + y + weight * (c * s + i)
  more-cost c a s x y i e =
      let f : c * (a + weight * s) ≡ c * (a + 0) + c * (weight * s) = omega arith in
      let g : weight * (c * s + i) ≡ weight * (c * s) + weight * i = omega arith in
      let k : c * (weight * s) ≡ weight * (c * s) = omega arith in
      omega (arith, e, f, g, k)

  cost-multiplied : (m : ℕ) (factors : PlainFactors) (fs : List Mapping) (zs : List PlainNest) → AreFree zs →
      pass_cost weight cost (multiplied factors fs zs) ≡ pass_cost weight cost zs
      + weight * items_of (map (copies_of m) zs)
  cost-multiplied m factors fs [] h = omega arith
  cost-multiplied m factors fs (z ∷ zs) h =
      more-cost (copies_in z.counts) (cost z.work) (work_size z.work) _ _ _ (cost-multiplied m factors fs zs h.1)
      ∙ ap (λ (o : Option PlainMultiplier). copies_in z.counts * (cost z.work + multiplier_cost weight o z.work) + pass_cost weight cost zs + weight * (copies_in z.counts * work_size z.work + items_of (map (copies_of m) zs))) (sym h.0)

  multiplied-more : (lanes : ℕ) (m n : ℕ) (factors : PlainFactors) (fs : List Mapping) (zs : List PlainNest) →
      IsGoodPass lanes m n zs → AreFree zs → pass_cost weight cost (multiplied factors fs zs) ≡ pass_cost weight cost zs
      + weight * n
  multiplied-more lanes m n factors fs zs good h = cost-multiplied m factors fs zs h ∙ ap (λ i. pass_cost weight cost zs + weight * i) (items-once n (map (copies_of m) zs) (all-inside lanes m n zs good.nests) good.once)

  cost-copying : (n : ℕ) → pass_cost weight cost (copying n) ≡ 0
  cost-copying n = ap (λ a. copies_in (map count_of (one_loop n)) * (a + 0) + 0) (free 1) ∙ omega arith

  cost-append : (ps qs : List (List PlainNest)) → passes_cost weight cost (ps ++ qs) ≡ passes_cost weight cost ps
      + passes_cost weight cost qs
  cost-append [] qs = omega arith
  cost-append (zs ∷ ps) qs = omega (arith, cost-append ps qs)

  cost-take : (room : Room) (n : ℕ) (zs : List PlainNest) (fs : List Mapping) →
      pass_cost weight cost (take_gathers room n zs fs).pass ≡ pass_cost weight cost zs
  cost-take room n zs [] = refl
  cost-take room n zs (f ∷ fs) =
      chosen (λ (t : Taking). pass_cost weight cost t.pass ≡ pass_cost weight cost zs) (can_gather room n f zs) _ _ (λ _. cost-take room n (gathered f zs) fs ∙ cost-gathered f zs) refl

  cost-by : (room : Room) (n : ℕ) (f : Mapping) → pass_cost weight cost (copy_by room n f) ≡ 0
  cost-by room n f =
      chosen (λ zs. ◌≡◌ {A = ℕ} (pass_cost weight cost zs) 0) (can_gather room n f (copying n)) _ _
      (λ _. cost-gathered f (copying n) ∙ cost-copying n)
      (ap (λ a. 1 * (a + 0) + 0) (free (length (list_below n (at f)))) ∙ omega arith)

  cost-copies : (room : Room) (n : ℕ) (zs : List PlainNest) (fs : List Mapping) →
      passes_cost weight cost (copies_before room n zs fs) ≡ pass_cost weight cost zs
  cost-copies room n zs [] = omega arith
  cost-copies room n zs (f ∷ fs) =
      chosen (λ ps. passes_cost weight cost ps ≡ pass_cost weight cost zs) (can_gather room n f zs) _ _
      (λ _. cost-copies room n (gathered f zs) fs ∙ cost-gathered f zs)
      (omega (arith, cost-copies room n (copy_by room n f) fs, cost-by room n f))

  cost-settled : (room : Room) (n : ℕ) (fs : List Mapping) → passes_cost weight cost (settled room n fs) ≡ 0
  cost-settled room n [] = refl
  cost-settled room n (f ∷ fs) = cost-copies room n (copy_by room n f) fs ∙ cost-by room n f

  cost-pass : (room : Room) (n : ℕ) (st : Merging) (zs : List PlainNest) →
      passes_cost weight cost (with_pass room n st zs).passes ≡ pass_cost weight cost zs
      + passes_cost weight cost st.passes
  cost-pass room n st zs =
      let left = (take_gathers room n zs st.waiting).left in
      ap₂ (λ a b. a + b) (cost-take room n zs st.waiting) (cost-append (settled room n left) st.passes ∙ ap (λ a. a + passes_cost weight cost st.passes) (cost-settled room n left) ∙ omega arith)

  cost-copy : (lanes : ℕ) (m : ℕ) (room : Room) (n : ℕ) (st : Merging) (path : Path) (factors : PlainFactors) →
      passes_cost weight cost (with_copy room n st path factors).passes ≡ passes_cost weight cost st.passes + weight * n
  cost-copy lanes m room n st path factors =
      chosen (λ (next : Merging). passes_cost weight cost next.passes ≡ passes_cost weight cost st.passes + weight * n) (can_take room n factors (factor_places st.waiting path factors) (copying n)) _ _
      (λ _. omega (arith, multiplied-more lanes m n factors (factor_places st.waiting path factors) (copying n) (copying-good lanes m n) (copying-free n), cost-copying n))
      (omega (arith, multiplied-more lanes m n (spread path factors) [] (copying n) (copying-good lanes m n) (copying-free n), cost-copying n, cost-append (settled room n st.waiting) st.passes, cost-settled room n st.waiting))

  cost-diagonal : (lanes : ℕ) (m : ℕ) (room : Room) (n : ℕ) (waiting : List Mapping) (passes : List (List PlainNest))
      (path : Path) (factors : PlainFactors) → AreGoodPasses lanes m n passes →
      passes_cost weight cost (with_diagonal room n waiting passes path factors).passes ≡ passes_cost weight cost passes
      + weight * n
  cost-diagonal lanes m room n waiting [] path factors good = cost-copy lanes m room n (record { waiting = waiting; passes = [] }) path factors
  cost-diagonal lanes m room n waiting (zs ∷ ps) path factors good =
      chosen (λ (next : Merging). passes_cost weight cost next.passes ≡ passes_cost weight cost (zs ∷ ps) + weight * n) (suits path zs && can_take room n factors (factor_places waiting path factors) zs) _ _
      (λ can. omega (arith, multiplied-more lanes m n factors (factor_places waiting path factors) zs good.0 (taken-free room n factors (factor_places waiting path factors) zs (and-right (suits path zs) _ can))))
      (cost-copy lanes m room n (record { waiting = waiting; passes = zs ∷ ps }) path factors)

  cost-scatter : (room : Room) (n : ℕ) (waiting : List Mapping) (passes : List (List PlainNest)) (f : Mapping) →
      passes_cost weight cost (with_scatter room n waiting passes f).passes ≡ passes_cost weight cost passes
  cost-scatter room n [] [] f = refl
  cost-scatter room n [] (zs ∷ ps) f =
      chosen (λ (next : Merging). passes_cost weight cost next.passes ≡ passes_cost weight cost (zs ∷ ps)) (can_scatter room n f zs) _ _ (λ _. ap (λ a. a + passes_cost weight cost ps) (cost-scattered f zs)) refl
  cost-scatter room n (g ∷ gs) passes f = refl

  cost-ended : (room : Room) (n : ℕ) (fs : List Mapping) (passes : List (List PlainNest)) →
      passes_cost weight cost (ended room n fs passes) ≡ passes_cost weight cost passes
  cost-ended room n [] passes = refl
  cost-ended room n (f ∷ fs) [] = cost-settled room n (from_end (f ∷ fs))
  cost-ended room n (f ∷ fs) (zs ∷ ps) =
      chosen (λ qs. passes_cost weight cost qs ≡ passes_cost weight cost (zs ∷ ps)) (can_scatter room n (back_of f) zs) _ _
      (λ _. cost-ended room n fs (scattered (back_of f) zs ∷ ps) ∙ ap (λ a. a + passes_cost weight cost ps) (cost-scattered (back_of f) zs))
      (omega (arith, cost-append (settled room n (from_end (f ∷ fs))) (zs ∷ ps), cost-settled room n (from_end (f ∷ fs))))

  -- ---- side by side

  copies-append : (path : Path) (counts : List ℕ) → copies_in (map count_of path ++ counts)
      ≡ paths.copies_of path * copies_in counts
  copies-append [] counts = omega arith
  copies-append (t ∷ path) counts = ap (λ a. count_of t * a) (copies-append path counts) ∙ times (count_of t) (paths.copies_of path) (copies_in counts) where
    times : (a b c : ℕ) → a * (b * c) ≡ a * b * c
    times a b c = omega arith

  renumbered-cost : (k : ℕ) (o : Option PlainMultiplier) (w : PlainWork) →
      multiplier_cost weight (renumbered_places k o) w ≡ multiplier_cost weight o w
  renumbered-cost k None w = refl
  renumbered-cost k (Some d) w = refl

  cost-lifted : (path : Path) (n before : ℕ) (zs : List PlainNest) →
      pass_cost weight cost (map (lifted path n before) zs) ≡ paths.copies_of path * pass_cost weight cost zs
  cost-lifted path n before [] = omega arith
  cost-lifted path n before (z ∷ zs) =
      let one : nest_cost weight cost (lifted path n before z) ≡ paths.copies_of path * copies_in z.counts * (cost z.work + multiplier_cost weight z.multiplier z.work) =
      ap₂ (λ a b. a * (cost z.work + b)) (copies-append path z.counts) (renumbered-cost (length path) z.multiplier z.work) in
      ap₂ (λ a b. a + b) one (cost-lifted path n before zs) ∙ spread (paths.copies_of path) (copies_in z.counts) (cost z.work + multiplier_cost weight z.multiplier z.work) (pass_cost weight cost zs) where
        spread : (p c a b : ℕ) → p * c * a + p * b ≡ p * (c * a + b)
        spread p c a b = omega arith

  cost-both : (zs ys : List PlainNest) → pass_cost weight cost (zs ++ ys) ≡ pass_cost weight cost zs
      + pass_cost weight cost ys
  cost-both [] ys = omega arith
  cost-both (z ∷ zs) ys = omega (arith, cost-both zs ys)

  cost-side : (path : Path) (k l : ℕ) (zs ys : List PlainNest) →
      pass_cost weight cost (side path k l zs ys) ≡ paths.copies_of path
      * (pass_cost weight cost zs + pass_cost weight cost ys)
  cost-side path k l zs ys =
      cost-both (map (lifted path (k + l) 0) zs) (map (lifted path (k + l) k) ys) ∙ ap₂ (λ a b. a + b) (cost-lifted path (k + l) 0 zs) (cost-lifted path (k + l) k ys) ∙ together (paths.copies_of path) (pass_cost weight cost zs) (pass_cost weight cost ys) where
        together : (p a b : ℕ) → p * a + p * b ≡ p * (a + b)
        together p a b = omega arith

  sides-step : (p a b c d x y : ℕ) → x ≡ p * (a + b) → y ≡ p * (c + d) → x + y ≡ p * (a + c + (b + d))
  sides-step p a b c d x y e f = ap₂ (λ u v. u + v) e f ∙ omega arith

  cost-sides : (path : Path) (k l : ℕ) (ps qs : List (List PlainNest)) →
      passes_cost weight cost (sides path k l ps qs) ≡ paths.copies_of path
      * (passes_cost weight cost ps + passes_cost weight cost qs)
  cost-sides path k l [] [] = omega arith
  cost-sides path k l (zs ∷ ps) [] =
      sides-step (paths.copies_of path) (pass_cost weight cost zs) 0 (passes_cost weight cost ps) 0 _ _ (cost-side path k l zs (copying l) ∙ ap (λ c. paths.copies_of path * (pass_cost weight cost zs + c)) (cost-copying l)) (cost-sides path k l ps [])
  cost-sides path k l [] (ys ∷ qs) =
      sides-step (paths.copies_of path) 0 (pass_cost weight cost ys) 0 (passes_cost weight cost qs) _ _ (cost-side path k l (copying k) ys ∙ ap (λ c. paths.copies_of path * (c + pass_cost weight cost ys)) (cost-copying k)) (cost-sides path k l [] qs)
  cost-sides path k l (zs ∷ ps) (ys ∷ qs) = sides-step (paths.copies_of path) (pass_cost weight cost zs) (pass_cost weight cost ys) (passes_cost weight cost ps) (passes_cost weight cost qs) _ _ (cost-side path k l zs ys) (cost-sides path k l ps qs)

  cost-passes : (room : Room) (n : ℕ) (st : Merging) (ps : List (List PlainNest)) →
      passes_cost weight cost (with_passes room n st ps).passes ≡ passes_cost weight cost ps
      + passes_cost weight cost st.passes
  cost-passes room n st [] = omega arith
  cost-passes room n st (zs ∷ []) = omega (arith, cost-pass room n st zs)
  cost-passes room n st (zs ∷ ys ∷ ps) = omega (arith, cost-passes room n st (ys ∷ ps))

  -- ---- terms

  copies-counts : (path : Path) → copies_in (map count_of path) ≡ paths.copies_of path
  copies-counts [] = refl
  copies-counts (t ∷ path) = ap (λ a. count_of t * a) (copies-counts path)

  cost-merged : (lanes : ℕ) (m n : ℕ) (room : Room) (st : Merging) (t : PlainTerm) → 0 < m → 0 < n →
      IsGoodTerm lanes n t → Stands lanes m n st → passes_cost weight cost (merged room n st t).passes
      ≡ term_cost weight cost n t + passes_cost weight cost st.passes
  cost-merged lanes m n room st same positive some good stands = omega arith
  cost-merged lanes m n room st (gath f) positive some good stands = omega arith
  cost-merged lanes m n room st (scat f) positive some good stands = omega (arith, cost-scatter room n st.waiting st.passes f)
  cost-merged lanes m n room st (diag path factors) positive some good stands = omega (arith, cost-diagonal lanes m room n st.waiting st.passes path factors stands.good)
  cost-merged lanes m n room st (nest path w) positive some good stands =
      cost-pass room n st (new_nest path w _ ∷ []) ∙ ap₂ (λ a b. a * (cost w + 0) + 0 + b) (copies-counts path) refl ∙ ap (λ a. a + passes_cost weight cost st.passes) (plain (paths.copies_of path) (cost w)) where
        plain : (a b : ℕ) → a * (b + 0) + 0 ≡ a * b
        plain a b = let e : b + 0 ≡ b = omega arith in ap (λ z. a * z + 0) e ∙ omega arith
  cost-merged lanes m n room st (move path ks) positive some good stands =
      cost-pass room n st (new_nest path (copy (length ks)) _ ∷ []) ∙ ap (λ a. copies_in (map count_of path) * (a + 0) + 0 + passes_cost weight cost st.passes) (free (length ks)) ∙ omega arith
  cost-merged lanes m n room st (product a b) positive some good stands =
      let first = merged-reaches lanes m n room st a positive some good.0 stands in
      omega (arith, cost-merged lanes m n room st a positive some good.0 stands, cost-merged lanes m n room (merged room n st a) b positive some good.1 first.stands)
  cost-merged lanes m n room st (beside path k a l b) positive some good stands =
      let inner = less room (length path) in
      let first = merged inner k nothing a in
      let second = merged inner l nothing b in
      let ps = ended inner k (from_end first.waiting) first.passes in
      let qs = ended inner l (from_end second.waiting) second.passes in
      let x : passes_cost weight cost ps ≡ term_cost weight cost k a = cost-ended inner k (from_end first.waiting) first.passes ∙ cost-merged 0 m k inner nothing a positive good.0 good.3 (nothing-stands 0 m k) ∙ omega arith in
      let y : passes_cost weight cost qs ≡ term_cost weight cost l b = cost-ended inner l (from_end second.waiting) second.passes ∙ cost-merged 0 m l inner nothing b positive good.1 good.4 (nothing-stands 0 m l) ∙ omega arith in
      cost-passes room n st (sides path k l ps qs) ∙ ap (λ a. a + passes_cost weight cost st.passes) (cost-sides path k l ps qs ∙ ap₂ (λ u v. paths.copies_of path * (u + v)) x y)

  cost-any : (n : ℕ) (ps : List (List PlainNest)) → passes_cost weight cost (if_any n ps) ≡ passes_cost weight cost ps
  cost-any n [] = omega (arith, cost-copying n)
  cost-any n (zs ∷ ps) = refl

pub merge_counts : MergeCounts
merge_counts lanes m n room t weight cost positive some free good =
    let all = merged room n nothing t in
    cost-any weight cost free n (ended room n (from_end all.waiting) all.passes)
    ∙ cost-ended weight cost free room n (from_end all.waiting) all.passes
    ∙ cost-merged weight cost free lanes m n room nothing t positive some good (nothing-stands lanes m n)
    ∙ omega arith
