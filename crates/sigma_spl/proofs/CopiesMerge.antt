-- What is merged into a pass of several loops, and such passes side by side and under tensors.
use Rattle.std.proofs.Common.{◌≡◌, ◌≢◌, ℕ, ◌+◌, ◌*◌, ◌-◌, ◌/◌, ◌%◌, ◌<◌, ◌≤◌, arith, refl, sym, ap, ap₂, ◌∙◌, List, []}
use Rattle.std.proofs.Common.{◌∷◌, ◌++◌, inl, inr, mod-lt, div-lt_iff_lt-mul}
use Rattle.std.specs.Prelude.{slice_index, map, nat_lt, ◌==◌, if◌then◌else◌}
use Rattle.std.proofs.Math.Nat.{div-add-mod', mod-mod}
use Rattle.std.proofs.lemmas.Bool.{cases_eq, cases_lt}
use Rattle.std.proofs.lemmas.Bool.Decides.{nat_tests}
use Rattle.std.proofs.lemmas.Nat.{same_from_place, mul-mod_second}
use Rattle.ring_mod.proofs.Congruence.{same-add}
use Rattle.operators.specs.Loop.{IsPermutationBelow}
use Rattle.operators.specs.Operator.{gather}
use Rattle.operators.specs.Sum.{list_below}
use Rattle.operators.proofs.Lists.{at-list_below, list_below-same, factor_positive}
use Rattle.operators.proofs.Scatters.{sum_below-only, miss}
use Rattle.operators.proofs.Sums.{sum_below-same, mul-sum_below, same-sum_below}
use Rattle.sigma_spl.specs.Copies.{loops_of, Copies, taken, stored, all_stored, hits, StoreOnce, IsInside, AreInside}
use Rattle.sigma_spl.specs.Copies.{loaded_by, stored_by, multiplied_by, behind, placed, first_of, others_of, under_one}
use Rattle.sigma_spl.specs.CopiesLaws.{LoadsGather, StoresScatter, LoopsScale, StandSideBySide, StandUnder, KeepsOnce}
use Rattle.operators.specs.declared.paths.Tensor.{Tensor}
use Rattle.operators.specs.declared.paths.Tensor.TheVariants.{Blocks, Columns}
use Rattle.operators.specs.Paths.Loop.{nest_sum, loop_at}
use Rattle.operators.specs.Paths.Tensors.{Path, count_of, grown, AreInRange}
use Rattle.operators.proofs.PathLemmas.PathLoops.{nest_sum-same, sum_below-zero}

-- ---- tests

pub same-test : (a b c d x : ℕ) → (a ≡ b → c ≡ d) → (c ≡ d → a ≡ b) →
    (if a == b then x else 0) ≡ (if c == d then x else 0)
same-test a b c d x there back =
    elim (cases_eq a b) [
      | inl same ↦ let other : c ≡ d = there same in grind (arith, nat_tests)
      | inr differ ↦
          elim (cases_eq c d) [
            | inl same ↦ absurd (differ (back same))
            | inr other ↦ grind (arith, nat_tests)
          ]
    ]

pub low : (w n a b : ℕ) → w < n → (if nat_lt w n then a else b) ≡ a
low w n a b below = grind (arith, nat_tests)

pub high : (w n a b : ℕ) → n ≤ w → (if nat_lt w n then a else b) ≡ b
high w n a b above = grind (arith, nat_tests)

-- ---- what loops put at a place

pub nest-none : (path : Path) (f : List ℕ → ℕ) → ((vs : List ℕ) → AreInRange path vs → f vs ≡ 0) → nest_sum path f ≡ 0
nest-none [] f h = h [] tt
nest-none (t ∷ path) f h = sum_below-zero (count_of t) _ (λ v below. nest-none path (λ vs. f (v ∷ vs)) (λ vs range. h (v ∷ vs) (below, range)))

-- nothing, where no place is there
pub loop-none : (path : Path) (d : ℕ) (to value : List ℕ → ℕ → ℕ) (w : ℕ) →
    ((vs : List ℕ) (k : ℕ) → AreInRange path vs → k < d → to vs k ≢ w) → loop_at path d to value w ≡ 0
loop-none path d to value w h = nest-none path _ (λ vs range. sum_below-zero d _ (λ k below. miss (to vs k) w (value vs k) (h vs k range below)))

-- the same, where the same places hit and the values are the same
pub loop-same : (path : Path) (d : ℕ) (to other value worth : List ℕ → ℕ → ℕ) (w u : ℕ) →
    ((vs : List ℕ) (k : ℕ) → AreInRange path vs → k < d → (if to vs k == w then value vs k else 0)
    ≡ (if other vs k == u then worth vs k else 0)) →
    loop_at path d to value w ≡ loop_at path d other worth u
loop-same path d to other value worth w u h = nest_sum-same path _ _ (λ vs range. sum_below-same d _ _ (λ k below. h vs k range below))

loop-scatter : (n : ℕ) (path : Path) (d : ℕ) (to value : List ℕ → ℕ → ℕ) (there back : ℕ → ℕ) (w : ℕ) →
    IsPermutationBelow n there back →
    ((vs : List ℕ) (k : ℕ) → AreInRange path vs → k < d → to vs k < n) → w < n →
    loop_at path d to value (there w) ≡ loop_at path d (λ vs k. back (to vs k)) value w
loop-scatter n path d to value there back w p range below =
    loop-same path d to (λ vs k. back (to vs k)) value value (there w) w (λ vs k in_range within.
    same-test (to vs k) (there w) (back (to vs k)) w (value vs k)
    (λ e. ap back e ∙ p.back-there w below)
    (λ e. sym (p.there-back (to vs k) (range vs k in_range within)) ∙ ap there e))

loop-behind : (n : ℕ) (path : Path) (d : ℕ) (to value : List ℕ → ℕ → ℕ) (u : ℕ) →
    loop_at path d (λ vs k. n + to vs k) value (n + u) ≡ loop_at path d to value u
loop-behind n path d to value u =
    loop-same path d (λ vs k. n + to vs k) to value value (n + u) u (λ vs k in_range within. same-test (n + to vs k) (n + u) (to vs k) u (value vs k) (λ e. omega arith) (λ e. ap (λ z. n + z) e))

-- places under a tensor are those of one copy and one place in it
placed-one : (t : Tensor) (n v u w z : ℕ) → v < count_of t → u < n → w < count_of t → z < n →
    placed t n v u ≡ placed t n w z → (v ≡ w) × (u ≡ z)
placed-one (Blocks c) n v u w z a b d e same = same_from_place v u w z n b e same
placed-one (Columns c) n v u w z a b d e same = let h = same_from_place u v z w c a d same in (h.1, h.0)

loop-under : (t : Tensor) (n : ℕ) (path : Path) (d : ℕ) (to value : List ℕ → ℕ → ℕ) (v u : ℕ) → v < count_of t → u < n →
    ((vs : List ℕ) (k : ℕ) → AreInRange path vs → k < d → to vs k < n) →
    loop_at (Blocks (count_of t) ∷ path) d (λ vs k. placed t n (first_of vs) (to (others_of vs) k)) value
    (placed t n v u) ≡ loop_at path d to (λ vs k. value (v ∷ vs) k) u
loop-under t n path d to value v u copy below range =
    sum_below-only (count_of t) v _ copy
    (λ w within other. nest-none path _ (λ vs in_range. sum_below-zero d _ (λ k inside.
    miss (placed t n w (to vs k)) (placed t n v u) (value (w ∷ vs) k) (λ e. other (placed-one t n w (to vs k) v u within (range vs k in_range inside) copy below e).0))))
    ∙ loop-same path d (λ vs k. placed t n v (to vs k)) to (λ vs k. value (v ∷ vs) k) (λ vs k. value (v ∷ vs) k) (placed t n v u) u (λ vs k in_range inside.
    same-test (placed t n v (to vs k)) (placed t n v u) (to vs k) u (value (v ∷ vs) k)
    (λ e. (placed-one t n v (to vs k) v u copy (range vs k in_range inside) copy below e).1)
    (λ e. ap (placed t n v) e))

-- ---- several loops

pub stored-append : (cs ds : List Copies) (x : List ℕ) (w : ℕ) →
    all_stored (cs ++ ds) x w ≡ all_stored cs x w + all_stored ds x w
stored-append [] ds x w = omega arith
stored-append (c ∷ cs) ds x w = omega (arith, stored-append cs ds x w)

pub hits-append : (cs ds : List Copies) (w : ℕ) → hits (cs ++ ds) w ≡ hits cs w + hits ds w
hits-append [] ds w = omega arith
hits-append (c ∷ cs) ds w = omega (arith, hits-append cs ds w)

-- ---- a permutation before a pass

stored-gathered : (n : ℕ) (c : Copies) (f : ℕ → ℕ) (x : List ℕ) (w : ℕ) → IsInside n c →
    stored c (gather n f x) w ≡ stored (loaded_by f c) x w
stored-gathered n c f x w inside =
    loop-same (loops_of c.counts) c.size c.to c.to _ _ w w (λ vs k in_range within.
    ap (λ y. if c.to vs k == w then slice_index (c.does vs y) k else 0)
    (list_below-same c.size _ _ (λ j below. at-list_below n (λ i. slice_index x (f i)) (c.from vs j) (inside.loads vs j in_range below))))

pub all-gathered : (n : ℕ) (cs : List Copies) (f : ℕ → ℕ) (x : List ℕ) (w : ℕ) → AreInside n cs →
    all_stored cs (gather n f x) w ≡ all_stored (map (loaded_by f) cs) x w
all-gathered n [] f x w inside = refl
all-gathered n (c ∷ cs) f x w inside = ap₂ (λ a b. a + b) (stored-gathered n c f x w inside.0) (all-gathered n cs f x w inside.1)

pub loads_gather : LoadsGather
loads_gather m n cs f x inside = list_below-same n _ _ (λ w below. ap (λ s. s % m) (all-gathered n cs f x w inside))

-- ---- a permutation after a pass

all-scattered : (n : ℕ) (cs : List Copies) (there back : ℕ → ℕ) (x : List ℕ) (w : ℕ) → IsPermutationBelow n there back →
    AreInside n cs → w < n → all_stored cs x (there w) ≡ all_stored (map (stored_by back) cs) x w
all-scattered n [] there back x w p inside below = refl
all-scattered n (c ∷ cs) there back x w p inside below =
    ap₂ (λ a b. a + b) (loop-scatter n (loops_of c.counts) c.size c.to _ there back w p inside.0.stores below) (all-scattered n cs there back x w p inside.1 below)

pub stores_scatter : StoresScatter
stores_scatter m n cs there back x p inside =
    list_below-same n _ _ (λ w below. at-list_below n _ (there w) (p.there_below w below) ∙ ap (λ s. s % m) (all-scattered n cs there back x w p inside below))

hits-scattered : (n : ℕ) (cs : List Copies) (there back : ℕ → ℕ) (w : ℕ) → IsPermutationBelow n there back →
    AreInside n cs → w < n → hits cs (there w) ≡ hits (map (stored_by back) cs) w
hits-scattered n [] there back w p inside below = refl
hits-scattered n (c ∷ cs) there back w p inside below =
    ap₂ (λ a b. a + b) (loop-scatter n (loops_of c.counts) c.size c.to (λ _ _. 1) there back w p inside.0.stores below) (hits-scattered n cs there back w p inside.1 below)

-- ---- a diagonal after a pass

-- sums of terms that are c times others, modulo m
nest-scaled : (m c : ℕ) (path : Path) (f g : List ℕ → ℕ) → ((vs : List ℕ) → AreInRange path vs →
    f vs % m ≡ (c * g vs) % m) → nest_sum path f % m ≡ (c * nest_sum path g) % m
nest-scaled m c [] f g h = h [] tt
nest-scaled m c (t ∷ path) f g h =
    same-sum_below m (count_of t) _ (λ v. c * nest_sum path (λ vs. g (v ∷ vs))) (λ v below. nest-scaled m c path (λ vs. f (v ∷ vs)) (λ vs. g (v ∷ vs)) (λ vs range. h (v ∷ vs) (below, range)))
    ∙ ap (λ s. s % m) (sym (mul-sum_below (count_of t) c _))

term-scaled : (m p w c d v : ℕ) → (p ≡ w → d ≡ c) → (if p == w then (d * v) % m else 0) % m
    ≡ (c * (if p == w then v else 0)) % m
term-scaled m p w c d v same =
    elim (cases_eq p w) [
      | inl here ↦
          let e : (if p == w then (d * v) % m else 0) ≡ (d * v) % m = grind (arith, nat_tests) in
          let g : (if p == w then v else 0) ≡ v = grind (arith, nat_tests) in
          ap (λ s. s % m) e ∙ mod-mod (d * v) m ∙ ap (λ s. (s * v) % m) (same here) ∙ sym (ap (λ s. (c * s) % m) g)
      | inr other ↦
          let e : (if p == w then (d * v) % m else 0) ≡ 0 = miss p w ((d * v) % m) other in
          let g : (if p == w then v else 0) ≡ 0 = miss p w v other in
          let z : c * 0 ≡ 0 = omega arith in
          ap (λ s. s % m) e ∙ sym (ap (λ s. s % m) (ap (λ s. c * s) g ∙ z))
    ]

stored-scaled : (m : ℕ) (c : Copies) (factor : ℕ → ℕ) (x : List ℕ) (w : ℕ) →
    stored (multiplied_by m factor c) x w % m ≡ (factor w * stored c x w) % m
stored-scaled m c factor x w =
    nest-scaled m (factor w) (loops_of c.counts) _ _ (λ vs range.
    same-sum_below m c.size _ (λ k. factor w * (if c.to vs k == w then slice_index (c.does vs (taken c vs x)) k else 0)) (λ k below.
    ap (λ s. (if c.to vs k == w then s else 0) % m) (at-list_below c.size _ k below)
    ∙ term-scaled m (c.to vs k) w (factor w) (factor (c.to vs k)) (slice_index (c.does vs (taken c vs x)) k) (λ e. ap factor e))
    ∙ ap (λ s. s % m) (sym (mul-sum_below c.size (factor w) _)))

all-scaled : (m : ℕ) (cs : List Copies) (factor : ℕ → ℕ) (x : List ℕ) (w : ℕ) →
    all_stored (map (multiplied_by m factor) cs) x w % m ≡ (factor w * all_stored cs x w) % m
all-scaled m [] factor x w = let z : factor w * 0 ≡ 0 = omega arith in ap (λ s. s % m) (sym z)
all-scaled m (c ∷ cs) factor x w =
    let spread : factor w * (stored c x w + all_stored cs x w) ≡ factor w * stored c x w + factor w * all_stored cs x w = omega arith in
    same-add m (stored (multiplied_by m factor c) x w) (factor w * stored c x w) (all_stored (map (multiplied_by m factor) cs) x w) (factor w * all_stored cs x w) (stored-scaled m c factor x w) (all-scaled m cs factor x w)
    ∙ ap (λ s. s % m) (sym spread)

pub loops_scale : LoopsScale
loops_scale m n cs factor x positive =
    list_below-same n _ _ (λ w below.
    ap (λ s. (factor w * s) % m) (at-list_below n _ w below)
    ∙ mul-mod_second (factor w) (all_stored cs x w) m
    ∙ sym (all-scaled m cs factor x w))

-- ---- side by side

all-below : (n : ℕ) (cs : List Copies) (x : List ℕ) (w : ℕ) → AreInside n cs → n ≤ w → all_stored cs x w ≡ 0
all-below n [] x w inside above = refl
all-below n (c ∷ cs) x w inside above =
    ap₂ (λ a b. a + b) (loop-none (loops_of c.counts) c.size c.to _ w (λ vs k range below e. let h = inside.0.stores vs k range below in absurd (omega arith))) (all-below n cs x w inside.1 above)

hits-below : (n : ℕ) (cs : List Copies) (w : ℕ) → AreInside n cs → n ≤ w → hits cs w ≡ 0
hits-below n [] w inside above = refl
hits-below n (c ∷ cs) w inside above =
    ap₂ (λ a b. a + b) (loop-none (loops_of c.counts) c.size c.to (λ _ _. 1) w (λ vs k range below e. let h = inside.0.stores vs k range below in absurd (omega arith))) (hits-below n cs w inside.1 above)

all-before : (n : ℕ) (cs : List Copies) (x : List ℕ) (w : ℕ) → w < n → all_stored (map (behind n) cs) x w ≡ 0
all-before n [] x w below = refl
all-before n (c ∷ cs) x w below =
    ap₂ (λ a b. a + b) (loop-none (loops_of c.counts) c.size (λ vs k. n + c.to vs k) _ w (λ vs k range inside e. absurd (omega arith))) (all-before n cs x w below)

hits-before : (n : ℕ) (cs : List Copies) (w : ℕ) → w < n → hits (map (behind n) cs) w ≡ 0
hits-before n [] w below = refl
hits-before n (c ∷ cs) w below =
    ap₂ (λ a b. a + b) (loop-none (loops_of c.counts) c.size (λ vs k. n + c.to vs k) (λ _ _. 1) w (λ vs k range inside e. absurd (omega arith))) (hits-before n cs w below)

-- what the second part stores, which takes its items after n words
stored-behind : (n k : ℕ) (c : Copies) (x : List ℕ) (u : ℕ) → IsInside k c →
    stored (behind n c) x (n + u) ≡ stored c (list_below k (λ j. slice_index x (n + j))) u
stored-behind n k c x u inside =
    loop-behind n (loops_of c.counts) c.size c.to _ u
    ∙ loop-same (loops_of c.counts) c.size c.to c.to _ _ u u (λ vs i in_range within.
    ap (λ y. if c.to vs i == u then slice_index (c.does vs y) i else 0)
    (list_below-same c.size _ _ (λ j below. sym (at-list_below k (λ z. slice_index x (n + z)) (c.from vs j) (inside.loads vs j in_range below)))))

all-behind : (n k : ℕ) (cs : List Copies) (x : List ℕ) (u : ℕ) → AreInside k cs →
    all_stored (map (behind n) cs) x (n + u) ≡ all_stored cs (list_below k (λ j. slice_index x (n + j))) u
all-behind n k [] x u inside = refl
all-behind n k (c ∷ cs) x u inside = ap₂ (λ a b. a + b) (stored-behind n k c x u inside.0) (all-behind n k cs x u inside.1)

hits-behind : (n : ℕ) (cs : List Copies) (u : ℕ) → hits (map (behind n) cs) (n + u) ≡ hits cs u
hits-behind n [] u = refl
hits-behind n (c ∷ cs) u = ap₂ (λ a b. a + b) (loop-behind n (loops_of c.counts) c.size c.to (λ _ _. 1) u) (hits-behind n cs u)

map-same : (n : ℕ) (cs : List Copies) (x : List ℕ) (w : ℕ) → AreInside n cs →
    all_stored cs (list_below n (slice_index x)) w ≡ all_stored cs x w
map-same n [] x w inside = refl
map-same n (c ∷ cs) x w inside = ap₂ (λ a b. a + b) (stored-gathered n c (λ i. i) x w inside.0) (map-same n cs x w inside.1)

pub stand_side_by_side : StandSideBySide
stand_side_by_side m n k cs ds x inside within =
    list_below-same (n + k) _ _ (λ w below.
    elim (cases_lt w n) [
      | inl here ↦
          low w n _ _ here
          ∙ at-list_below n _ w here
          ∙ ap (λ s. s % m) (map-same n cs x w inside)
          ∙ ap (λ s. s % m) (let a = stored-append cs (map (behind n) ds) x w in let b = all-before n ds x w here in omega arith)
      | inr there ↦
          let e : n + (w - n) ≡ w = omega arith in
          let u_below : w - n < k = omega arith in
          high w n _ _ (omega arith)
          ∙ at-list_below k _ (w - n) u_below
          ∙ ap (λ s. s % m)
          (let a = stored-append cs (map (behind n) ds) x w in
          let b = all-below n cs x w inside (omega arith) in
          let d = all-behind n k ds x (w - n) within in
          let f = ap (all_stored (map (behind n) ds) x) e in omega arith)
    ])

hits-side : (n k : ℕ) (cs ds : List Copies) → AreInside n cs → AreInside k ds → StoreOnce n cs → StoreOnce k ds →
    StoreOnce (n + k) (cs ++ map (behind n) ds)
hits-side n k cs ds inside within once other w below =
    elim (cases_lt w n) [
      | inl here ↦
          let a = hits-append cs (map (behind n) ds) w in
          let b = hits-before n ds w here in
          let c = once w here in omega arith
      | inr there ↦
          let e : n + (w - n) ≡ w = omega arith in
          let a = hits-append cs (map (behind n) ds) w in
          let b = hits-below n cs w inside (omega arith) in
          let d = hits-behind n ds (w - n) in
          let f = ap (hits (map (behind n) ds)) e in
          let g = other (w - n) (omega arith) in omega arith
    ]

-- ---- under a tensor

stored-under : (t : Tensor) (n : ℕ) (c : Copies) (x : List ℕ) (v u : ℕ) → v < count_of t → u < n → IsInside n c →
    stored (under_one t n c) x (placed t n v u) ≡ stored c (list_below n (λ j. slice_index x (placed t n v j))) u
stored-under t n c x v u copy below inside =
    loop-under t n (loops_of c.counts) c.size c.to (λ vs k. slice_index (c.does (others_of vs) (taken (under_one t n c) vs x)) k) v u copy below inside.stores
    ∙ loop-same (loops_of c.counts) c.size c.to c.to _ _ u u (λ vs i in_range within.
    ap (λ y. if c.to vs i == u then slice_index (c.does vs y) i else 0)
    (list_below-same c.size _ _ (λ j at_j. sym (at-list_below n (λ z. slice_index x (placed t n v z)) (c.from vs j) (inside.loads vs j in_range at_j)))))

all-under : (t : Tensor) (n : ℕ) (cs : List Copies) (x : List ℕ) (v u : ℕ) → v < count_of t → u < n → AreInside n cs →
    all_stored (map (under_one t n) cs) x (placed t n v u) ≡ all_stored cs
    (list_below n (λ j. slice_index x (placed t n v j))) u
all-under t n [] x v u copy below inside = refl
all-under t n (c ∷ cs) x v u copy below inside = ap₂ (λ a b. a + b) (stored-under t n c x v u copy below inside.0) (all-under t n cs x v u copy below inside.1)

hits-under : (t : Tensor) (n : ℕ) (cs : List Copies) (v u : ℕ) → v < count_of t → u < n → AreInside n cs →
    hits (map (under_one t n) cs) (placed t n v u) ≡ hits cs u
hits-under t n [] v u copy below inside = refl
hits-under t n (c ∷ cs) v u copy below inside = ap₂ (λ a b. a + b) (loop-under t n (loops_of c.counts) c.size c.to (λ _ _. 1) v u copy below inside.0.stores) (hits-under t n cs v u copy below inside.1)

-- each place under a tensor is that of a copy and of a place in it
pub record Split (t : Tensor) (n w : ℕ) : Type 0 where
  pub copy : ℕ
  pub inner : ℕ
  pub is_copy : copy < count_of t
  pub is_inner : inner < n
  pub there : placed t n copy inner ≡ w

abbrev split : (t : Tensor) (n w : ℕ) → w < grown t n → Split t n w
split (Blocks c) n w below =
    let positive : 0 < n = factor_positive c n w below in
    record { copy = w / n; inner = w % n; is_copy = (div-lt_iff_lt-mul positive).1 below; is_inner = mod-lt w positive; there = div-add-mod' w n }
split (Columns c) n w below =
    let positive : 0 < c = factor_positive n c w below in
    record { copy = w % c; inner = w / c; is_copy = mod-lt w positive; is_inner = (div-lt_iff_lt-mul positive).1 below; there = div-add-mod' w c }

pub stand_under : StandUnder
stand_under m n (Blocks c) cs x inside =
    list_below-same (c * n) _ _ (λ w below.
    let s = split (Blocks c) n w below in
    at-list_below n _ (w % n) s.is_inner
    ∙ ap (λ z. z % m) (sym (all-under (Blocks c) n cs x (w / n) (w % n) s.is_copy s.is_inner inside) ∙ ap (all_stored (map (under_one (Blocks c) n) cs) x) s.there))
stand_under m n (Columns c) cs x inside =
    list_below-same (n * c) _ _ (λ w below.
    let s = split (Columns c) n w below in
    at-list_below n _ (w / c) s.is_inner
    ∙ ap (λ z. z % m) (sym (all-under (Columns c) n cs x (w % c) (w / c) s.is_copy s.is_inner inside) ∙ ap (all_stored (map (under_one (Columns c) n) cs) x) s.there))

once-under : (n : ℕ) (t : Tensor) (cs : List Copies) → AreInside n cs → StoreOnce n cs →
    StoreOnce (grown t n) (map (under_one t n) cs)
once-under n t cs inside once w below =
    let s = split t n w below in
    sym (ap (hits (map (under_one t n) cs)) s.there) ∙ hits-under t n cs s.copy s.inner s.is_copy s.is_inner inside ∙ once s.inner s.is_inner

pub keeps_once : KeepsOnce
keeps_once =
    record {
      scattered = λ n cs there back p inside once w below. sym (hits-scattered n cs there back w p inside below) ∙ once (there w) (p.there_below w below);
      side_by_side = hits-side;
      under = once-under;
    }
