-- How many passes, nests and tables merging makes of a term.
use Rattle.std.proofs.Common.{◌≡◌, ℕ, suc, ◌+◌, ◌*◌, ◌≤◌, List, [], ◌∷◌, ◌++◌, length, refl, ap, ap₂, arith, Option}
use Rattle.std.proofs.Common.{Some, None, map, ◌&&◌, max, mul-le-mul_left, mul-le-mul_right}
use Rattle.std.proofs.lemmas.List.{length-append, length-map}
use Rattle.index_fn.specs.Mapping.{Mapping}
use Rattle.sigma_spl.specs.Merge.{Room, less, Merging, Taking, nothing, new_nest, items_in, copying, can_gather}
use Rattle.sigma_spl.specs.Merge.{can_scatter, can_take, suits, gathered, scattered, multiplied, take_gathers, copy_by}
use Rattle.sigma_spl.specs.Merge.{copies_before, settled, with_pass, factor_places, with_copy, with_diagonal}
use Rattle.sigma_spl.specs.Merge.{with_scatter, back_of, from_end, ended, lifted, renumbered_places, side, sides}
use Rattle.sigma_spl.specs.Merge.{with_passes, merged, if_any, passes_within}
use Rattle.sigma_spl.specs.Nest.{PlainFactors, spread, PlainMultiplier, PlainNest}
use Rattle.sigma_spl.specs.Shared.Ready.{diagonal_tables, nests_tables, passes_tables, work_tables}
use Rattle.sigma_spl.specs.Term.{PlainTerm, same, gath, scat, diag, nest, move, product, beside}
use Rattle.sigma_spl.proofs.Walk.{chosen}
use Rattle.operators.specs.Paths.Tensors.{Path}
use Rattle.sigma_spl.proofs.Tables.{tables-append}

abbrev pub AreNarrow : ℕ → List (List PlainNest) → Type 0
AreNarrow b [] = Unit {0}
AreNarrow b (zs ∷ ps) = (length zs ≤ b) × AreNarrow b ps

-- ---- terms

-- direct sums
abbrev pub sums_in : PlainTerm → ℕ
sums_in (product a b) = sums_in a + sums_in b
sums_in (beside path k a l b) = sums_in a + sums_in b + 1
sums_in t = 0

-- terms that need a table, one after the other
abbrev pub makers_in : PlainTerm → ℕ
makers_in (diag path factors) = 1
makers_in (nest path w) = work_tables w
makers_in (product a b) = makers_in a + makers_in b
makers_in (beside path k a l b) = max (makers_in a) (makers_in b)
makers_in t = 0

-- terms that are not made of others
abbrev pub steps_in : PlainTerm → ℕ
steps_in (product a b) = steps_in a + steps_in b
steps_in (beside path k a l b) = steps_in a + steps_in b
steps_in t = 1

-- ---- passes

narrow-append : (b : ℕ) (ps qs : List (List PlainNest)) → AreNarrow b ps → AreNarrow b qs → AreNarrow b (ps ++ qs)
narrow-append b [] qs h g = g
narrow-append b (zs ∷ ps) qs h g = (h.0, narrow-append b ps qs h.1 g)

narrow-more : (a b : ℕ) (ps : List (List PlainNest)) → a ≤ b → AreNarrow a ps → AreNarrow b ps
narrow-more a b [] more h = tt
narrow-more a b (zs ∷ ps) more h = (omega (arith, more, h.0), narrow-more a b ps more h.1)

tables-both : (zs ys : List PlainNest) → nests_tables (zs ++ ys) ≡ nests_tables zs + nests_tables ys
tables-both [] ys = omega arith
tables-both (z ∷ zs) ys = let rest = tables-both zs ys in omega (arith, rest)

-- nests that are changed but not in their tables
tables-map : (g : PlainNest → PlainNest) → ((z : PlainNest) → work_tables (g z).work
    + diagonal_tables (g z).multiplier ≡ work_tables z.work + diagonal_tables z.multiplier) →
    (zs : List PlainNest) → nests_tables (map g zs) ≡ nests_tables zs
tables-map g kept [] = refl
tables-map g kept (z ∷ zs) = ap₂ (λ n k. n + k) (kept z) (tables-map g kept zs)

tables-lifted : (path : Path) (n before : ℕ) (z : PlainNest) → work_tables (lifted path n before z).work
    + diagonal_tables (lifted path n before z).multiplier ≡ work_tables z.work + diagonal_tables z.multiplier
tables-lifted path n before z = ap (λ n. work_tables z.work + n) (by z.multiplier)
  where
    by : (o : Option PlainMultiplier) → diagonal_tables (renumbered_places (length path) o) ≡ diagonal_tables o
    by None = refl
    by (Some d) = refl

-- at most one more for each nest
tables-multiplied : (factors : PlainFactors) (fs : List Mapping) (zs : List PlainNest) →
    nests_tables (multiplied factors fs zs) ≤ nests_tables zs + length zs
tables-multiplied factors fs [] = omega arith
tables-multiplied factors fs (z ∷ zs) = let rest = tables-multiplied factors fs zs in omega (arith, rest)

-- ---- one pass

-- b nests at most, and t tables
pub record IsFew (b t : ℕ) (zs : List PlainNest) : Type 0 where
  pub nests : length zs ≤ b
  pub tables : nests_tables zs ≤ t

few-map : (b t : ℕ) (g : PlainNest → PlainNest) → ((z : PlainNest) → work_tables (g z).work
    + diagonal_tables (g z).multiplier ≡ work_tables z.work + diagonal_tables z.multiplier) →
    (zs : List PlainNest) → IsFew b t zs → IsFew b t (map g zs)
few-map b t g kept zs h =
    let long = length-map zs g in
    let all = tables-map g kept zs in
    record { nests = omega (arith, h.nests, long); tables = omega (arith, h.tables, all) }

few-gathered : (b t : ℕ) (f : Mapping) (zs : List PlainNest) → IsFew b t zs → IsFew b t (gathered f zs)
few-gathered b t f zs h = few-map b t _ (λ z. refl) zs h

few-scattered : (b t : ℕ) (f : Mapping) (zs : List PlainNest) → IsFew b t zs → IsFew b t (scattered f zs)
few-scattered b t f zs h = few-map b t _ (λ z. refl) zs h

few-multiplied : (b t : ℕ) (factors : PlainFactors) (fs : List Mapping) (zs : List PlainNest) → IsFew b t zs →
    IsFew b (t + b) (multiplied factors fs zs)
few-multiplied b t factors fs zs h =
    let long : length (multiplied factors fs zs) ≡ length zs = length-map zs _ in
    let all = tables-multiplied factors fs zs in
    record { nests = omega (arith, h.nests, long); tables = omega (arith, h.nests, h.tables, all) }

few-copying : (b n : ℕ) → 1 ≤ b → IsFew b 0 (copying n)
few-copying b n some = record { nests = some; tables = omega arith }

few-take : (room : Room) (n b t : ℕ) (zs : List PlainNest) (fs : List Mapping) → IsFew b t zs →
    IsFew b t (take_gathers room n zs fs).pass
few-take room n b t zs [] h = h
few-take room n b t zs (f ∷ fs) h = chosen (λ (taking : Taking). IsFew b t taking.pass) (can_gather room n f zs) _ _ (λ _. few-take room n b t (gathered f zs) fs (few-gathered b t f zs h)) h

left-few : (room : Room) (n : ℕ) (zs : List PlainNest) (fs : List Mapping) →
    length (take_gathers room n zs fs).left ≤ length fs
left-few room n zs [] = omega arith
left-few room n zs (f ∷ fs) = chosen (λ (taking : Taking). length taking.left ≤ suc (length fs)) (can_gather room n f zs) _ _ (λ _. let rest = left-few room n (gathered f zs) fs in omega (arith, rest)) (omega arith)

few-by : (room : Room) (n b : ℕ) (f : Mapping) → 1 ≤ b → IsFew b 0 (copy_by room n f)
few-by room n b f some = chosen (IsFew b 0) (can_gather room n f (copying n)) _ _ (λ _. few-gathered b 0 f (copying n) (few-copying b n some)) (record { nests = some; tables = omega arith })

-- ---- passes

-- b nests a pass, l passes and t tables
pub record AreFew (b l t : ℕ) (ps : List (List PlainNest)) : Type 0 where
  pub narrow : AreNarrow b ps
  pub long : length ps ≤ l
  pub tables : passes_tables ps ≤ t

few-cons : (b l s t : ℕ) (zs : List PlainNest) (ps : List (List PlainNest)) → IsFew b s zs → AreFew b l t ps →
    AreFew b (suc l) (s + t) (zs ∷ ps)
few-cons b l s t zs ps h g = record { narrow = (h.nests, g.narrow); long = omega (arith, g.long); tables = omega (arith, h.tables, g.tables) }

few-append : (b k l s t : ℕ) (ps qs : List (List PlainNest)) → AreFew b k s ps → AreFew b l t qs →
    AreFew b (k + l) (s + t) (ps ++ qs)
few-append b k l s t ps qs h g =
    let both = length-append ps qs in
    let all = tables-append ps qs in record { narrow = narrow-append b ps qs h.narrow g.narrow; long = omega (arith, both, h.long, g.long); tables = omega (arith, all, h.tables, g.tables) }

few-more : (b c k l s t : ℕ) (ps : List (List PlainNest)) → b ≤ c → k ≤ l → s ≤ t → AreFew b k s ps → AreFew c l t ps
few-more b c k l s t ps wide long more h = record { narrow = narrow-more b c ps wide h.narrow; long = omega (arith, long, h.long); tables = omega (arith, more, h.tables) }

few-copies : (room : Room) (n b t : ℕ) (zs : List PlainNest) (fs : List Mapping) → 1 ≤ b → IsFew b t zs →
    AreFew b (suc (length fs)) t (copies_before room n zs fs)
few-copies room n b t zs [] some h = record { narrow = (h.nests, tt); long = omega arith; tables = omega (arith, h.tables) }
few-copies room n b t zs (f ∷ fs) some h =
    chosen (AreFew b (suc (suc (length fs))) t) (can_gather room n f zs) _ _
    (λ _. few-more b b (suc (length fs)) (suc (suc (length fs))) t t _ (omega arith) (omega arith) (omega arith) (few-copies room n b t (gathered f zs) fs some (few-gathered b t f zs h)))
    (few-more b b (suc (suc (length fs))) (suc (suc (length fs))) (t + 0) t _ (omega arith) (omega arith) (omega arith) (few-cons b (suc (length fs)) t 0 zs _ h (few-copies room n b 0 (copy_by room n f) fs some (few-by room n b f some))))

few-settled : (room : Room) (n b : ℕ) (fs : List Mapping) → 1 ≤ b → AreFew b (length fs) 0 (settled room n fs)
few-settled room n b [] some = record { narrow = tt; long = omega arith; tables = omega arith }
few-settled room n b (f ∷ fs) some = few-copies room n b 0 (copy_by room n f) fs some (few-by room n b f some)

-- ---- states

-- passes, and gathers that wait to become some
pub record StandsFew (b l t : ℕ) (st : Merging) : Type 0 where
  pub narrow : AreNarrow b st.passes
  pub long : length st.passes + length st.waiting ≤ l
  pub tables : passes_tables st.passes ≤ t

stood-few : (b l t : ℕ) (st : Merging) → StandsFew b l t st → AreFew b (length st.passes) t st.passes
stood-few b l t st h = record { narrow = h.narrow; long = omega arith; tables = h.tables }

stands-more : (b k l s t : ℕ) (st : Merging) → k ≤ l → s ≤ t → StandsFew b k s st → StandsFew b l t st
stands-more b k l s t st long more h = record { narrow = h.narrow; long = omega (arith, long, h.long); tables = omega (arith, more, h.tables) }

few-pass : (room : Room) (n b l s t : ℕ) (st : Merging) (zs : List PlainNest) → 1 ≤ b → IsFew b s zs →
    StandsFew b l t st → StandsFew b (l + 1) (t + s) (with_pass room n st zs)
few-pass room n b l s t st zs some h g =
    let left = (take_gathers room n zs st.waiting).left in
    let fewer = left-few room n zs st.waiting in
    let all = few-cons b (length left + length st.passes) s (0 + t) _ _ (few-take room n b s zs st.waiting h) (few-append b (length left) (length st.passes) 0 t (settled room n left) st.passes (few-settled room n b left some) (stood-few b l t st g)) in
    record { narrow = all.narrow; long = omega (arith, all.long, fewer, g.long); tables = omega (arith, all.tables) }

few-copy : (room : Room) (n b l t : ℕ) (st : Merging) (path : Path) (factors : PlainFactors) → 1 ≤ b →
    StandsFew b l t st → StandsFew b (l + 1) (t + b) (with_copy room n st path factors)
few-copy room n b l t st path factors some g =
    chosen (StandsFew b (l + 1) (t + b)) (can_take room n factors (factor_places st.waiting path factors) (copying n)) _ _
    (λ _.
    let here = few-multiplied b 0 factors (factor_places st.waiting path factors) (copying n) (few-copying b n some) in
    record { narrow = (here.nests, g.narrow); long = omega (arith, g.long); tables = omega (arith, here.tables, g.tables) })
    (let here = few-multiplied b 0 (spread path factors) [] (copying n) (few-copying b n some) in
    let rest = few-append b (length st.waiting) (length st.passes) 0 t (settled room n st.waiting) st.passes (few-settled room n b st.waiting some) (stood-few b l t st g) in
    record { narrow = (here.nests, rest.narrow); long = omega (arith, rest.long, g.long); tables = omega (arith, here.tables, rest.tables) })

few-diagonal : (room : Room) (n b l t : ℕ) (waiting : List Mapping) (passes : List (List PlainNest)) (path : Path) (factors : PlainFactors) → 1 ≤ b → StandsFew b l t (record { waiting = waiting; passes = passes }) →
    StandsFew b (l + 1) (t + b) (with_diagonal room n waiting passes path factors)
few-diagonal room n b l t waiting [] path factors some g = few-copy room n b l t (record { waiting = waiting; passes = [] }) path factors some g
few-diagonal room n b l t waiting (zs ∷ ps) path factors some g =
    chosen (StandsFew b (l + 1) (t + b)) (suits path zs && can_take room n factors (factor_places waiting path factors) zs) _ _
    (λ _.
    let here = few-multiplied b (nests_tables zs) factors (factor_places waiting path factors) zs (record { nests = g.narrow.0; tables = omega arith }) in
    record { narrow = (here.nests, g.narrow.1); long = omega (arith, g.long); tables = omega (arith, here.tables, g.tables) })
    (few-copy room n b l t (record { waiting = waiting; passes = zs ∷ ps }) path factors some g)

few-scatter : (room : Room) (n b l t : ℕ) (waiting : List Mapping) (passes : List (List PlainNest)) (f : Mapping) → StandsFew b l t (record { waiting = waiting; passes = passes }) → StandsFew b (l + 1) t (with_scatter room n waiting passes f)
few-scatter room n b l t [] [] f g = record { narrow = tt; long = omega (arith, g.long); tables = omega arith }
few-scatter room n b l t [] (zs ∷ ps) f g =
    chosen (StandsFew b (l + 1) t) (can_scatter room n f zs) _ _
    (λ _.
    let here = few-scattered b (nests_tables zs) f zs (record { nests = g.narrow.0; tables = omega arith }) in
    record { narrow = (here.nests, g.narrow.1); long = omega (arith, g.long); tables = omega (arith, here.tables, g.tables) })
    (record { narrow = g.narrow; long = omega (arith, g.long); tables = g.tables })
few-scatter room n b l t (h ∷ hs) passes f g = record { narrow = g.narrow; long = omega (arith, g.long); tables = g.tables }

length-end : (fs : List Mapping) → length (from_end fs) ≡ length fs
length-end [] = refl
length-end (f ∷ fs) = let both = length-append (from_end fs) (f ∷ []) in let rest = length-end fs in omega (arith, both, rest)

few-ended : (room : Room) (n b l t : ℕ) (fs : List Mapping) (passes : List (List PlainNest)) → 1 ≤ b → StandsFew b l t (record { waiting = fs; passes = passes }) → AreFew b l t (ended room n fs passes)
few-ended room n b l t [] passes some g = record { narrow = g.narrow; long = omega (arith, g.long); tables = g.tables }
few-ended room n b l t (f ∷ fs) [] some g =
    let all = few-settled room n b (from_end (f ∷ fs)) some in
    let same = length-end (f ∷ fs) in few-more b b _ l 0 t _ (omega arith) (omega (arith, same, g.long)) (omega arith) all
few-ended room n b l t (f ∷ fs) (zs ∷ ps) some g =
    let same = length-end (f ∷ fs) in
    chosen (AreFew b l t) (can_scatter room n (back_of f) zs) _ _
    (λ _.
    let here = few-scattered b (nests_tables zs) (back_of f) zs (record { nests = g.narrow.0; tables = omega arith }) in
    few-ended room n b l t fs (scattered (back_of f) zs ∷ ps) some (record { narrow = (here.nests, g.narrow.1); long = omega (arith, g.long); tables = omega (arith, here.tables, g.tables) }))
    (few-more b b _ l _ t _ (omega arith) (omega (arith, same, g.long)) (omega (arith, g.tables))
    (few-append b (length (from_end (f ∷ fs))) (length (zs ∷ ps)) 0 (passes_tables (zs ∷ ps)) (settled room n (from_end (f ∷ fs))) (zs ∷ ps) (few-settled room n b (from_end (f ∷ fs)) some)
    (record { narrow = g.narrow; long = omega arith; tables = omega arith })))

few-passes : (room : Room) (n b l k s t : ℕ) (st : Merging) (ps : List (List PlainNest)) → 1 ≤ b → AreFew b k s ps →
    StandsFew b l t st → StandsFew b (l + k) (t + s) (with_passes room n st ps)
few-passes room n b l k s t st [] some h g = stands-more b l (l + k) t (t + s) st (omega arith) (omega arith) g
few-passes room n b l k s t st (zs ∷ []) some h g =
    stands-more b (l + 1) (l + k) (t + nests_tables zs) (t + s) _ (omega (arith, h.long)) (omega (arith, h.tables)) (few-pass room n b l (nests_tables zs) t st zs some (record { nests = h.narrow.0; tables = omega arith }) g)
few-passes room n b l k s t st (zs ∷ ys ∷ ps) some h g =
    let rest = few-passes room n b l (length (ys ∷ ps)) (passes_tables (ys ∷ ps)) t st (ys ∷ ps) some (record { narrow = h.narrow.1; long = omega arith; tables = omega arith }) g in
    record { narrow = (h.narrow.0, rest.narrow); long = omega (arith, rest.long, h.long); tables = omega (arith, rest.tables, h.tables) }

-- ---- side by side

few-side : (a b s t k l : ℕ) (path : Path) (zs ys : List PlainNest) → IsFew a s zs → IsFew b t ys →
    IsFew (a + b) (s + t) (side path k l zs ys)
few-side a b s t k l path zs ys h g =
    let first = few-map a s (lifted path (k + l) 0) (tables-lifted path (k + l) 0) zs h in
    let second = few-map b t (lifted path (k + l) k) (tables-lifted path (k + l) k) ys g in
    let long = length-append (map (lifted path (k + l) 0) zs) (map (lifted path (k + l) k) ys) in
    let all = tables-both (map (lifted path (k + l) 0) zs) (map (lifted path (k + l) k) ys) in
    record {
      nests = omega (arith, first.nests, second.nests, long);
      tables = omega (arith, first.tables, second.tables, all);
    }

none-few : (b : ℕ) → AreFew b 0 0 []
none-few b = record { narrow = tt; long = omega arith; tables = omega arith }

few-sides : (a b k l : ℕ) (path : Path) (ps qs : List (List PlainNest)) → 1 ≤ a → 1 ≤ b → AreNarrow a ps →
    AreNarrow b qs → AreFew (a + b) (length ps + length qs) (passes_tables ps + passes_tables qs) (sides path k l ps qs)
few-sides a b k l path [] [] one two h g = none-few (a + b)
few-sides a b k l path (zs ∷ ps) [] one two h g =
    let here = few-side a b (nests_tables zs) 0 k l path zs (copying l) (record { nests = h.0; tables = omega arith }) (few-copying b l two) in
    let rest = few-sides a b k l path ps [] one two h.1 tt in
    record { narrow = (here.nests, rest.narrow); long = omega (arith, rest.long); tables = omega (arith, here.tables, rest.tables) }
few-sides a b k l path [] (ys ∷ qs) one two h g =
    let here = few-side a b 0 (nests_tables ys) k l path (copying k) ys (few-copying a k one) (record { nests = g.0; tables = omega arith }) in
    let rest = few-sides a b k l path [] qs one two tt g.1 in
    record { narrow = (here.nests, rest.narrow); long = omega (arith, rest.long); tables = omega (arith, here.tables, rest.tables) }
few-sides a b k l path (zs ∷ ps) (ys ∷ qs) one two h g =
    let here = few-side a b (nests_tables zs) (nests_tables ys) k l path zs ys (record { nests = h.0; tables = omega arith }) (record { nests = g.0; tables = omega arith }) in
    let rest = few-sides a b k l path ps qs one two h.1 g.1 in
    record { narrow = (here.nests, rest.narrow); long = omega (arith, rest.long); tables = omega (arith, here.tables, rest.tables) }

-- ---- terms

-- the tables of two parts, where each pass has at most as many nests as both have together
beside-tables : (a b x y s t : ℕ) → s ≤ a * x → t ≤ b * y → s + t ≤ (a + b) * max x y
beside-tables a b x y s t h g =
    let left : x ≤ max x y = omega arith in
    let right : y ≤ max x y = omega arith in
    let one : a * x ≤ a * max x y = mul-le-mul_left a left in
    let two : b * y ≤ b * max x y = mul-le-mul_left b right in
    let cut : (a + b) * max x y ≡ a * max x y + b * max x y = omega arith in
    omega (arith, one, two, cut, h, g)

-- the passes of a part
part-few : (room : Room) (n b l t : ℕ) (st : Merging) → 1 ≤ b → StandsFew b (0 + l) (0 + t) st →
    AreFew b l t (ended room n (from_end st.waiting) st.passes)
part-few room n b l t st some g =
    let same = length-end st.waiting in
    few-ended room n b l t (from_end st.waiting) st.passes some (record { narrow = g.narrow; long = omega (arith, g.long, same); tables = omega (arith, g.tables) })

none-stands : (b : ℕ) → StandsFew b 0 0 nothing
none-stands b = record { narrow = tt; long = omega arith; tables = omega arith }

few-merged : (room : Room) (n b l t : ℕ) (st : Merging) (term : PlainTerm) → sums_in term + 1 ≤ b → StandsFew b l t st →
    StandsFew b (l + steps_in term) (t + b * makers_in term) (merged room n st term)
few-merged room n b l t st same wide g = stands-more b l (l + 1) t (t + b * 0) st (omega arith) (omega arith) g
few-merged room n b l t st (gath f) wide g = record { narrow = g.narrow; long = omega (arith, g.long); tables = omega (arith, g.tables) }
few-merged room n b l t st (scat f) wide g = stands-more b (l + 1) (l + 1) t (t + b * 0) _ (omega arith) (omega arith) (few-scatter room n b l t st.waiting st.passes f g)
few-merged room n b l t st (diag path factors) wide g = stands-more b (l + 1) (l + 1) (t + b) (t + b * 1) _ (omega arith) (omega arith) (few-diagonal room n b l t st.waiting st.passes path factors (omega (arith, wide)) g)
few-merged room n b l t st (nest path w) wide g =
    let least : 1 * work_tables w ≤ b * work_tables w = mul-le-mul_right (work_tables w) (omega (arith, wide)) in
    let one : 1 * work_tables w ≡ work_tables w = omega arith in
    stands-more b (l + 1) (l + 1) (t + work_tables w) (t + b * work_tables w) _ (omega arith) (omega (arith, least, one))
    (few-pass room n b l (work_tables w) t st (new_nest path w (items_in w (length path)) ∷ []) (omega (arith, wide)) (record { nests = omega (arith, wide); tables = omega arith }) g)
few-merged room n b l t st (move path ks) wide g =
    stands-more b (l + 1) (l + 1) (t + 0) (t + b * 0) _ (omega arith) (omega arith) (few-pass room n b l 0 t st _ (omega (arith, wide)) (record { nests = omega (arith, wide); tables = omega arith }) g)
few-merged room n b l t st (product x y) wide g =
    let first = few-merged room n b l t st x (omega (arith, wide)) g in
    let both = few-merged room n b (l + steps_in x) (t + b * makers_in x) (merged room n st x) y (omega (arith, wide)) first in
    let cut : b * (makers_in x + makers_in y) ≡ b * makers_in x + b * makers_in y = omega arith in
    stands-more b _ _ _ _ _ (omega arith) (omega (arith, cut)) both
few-merged room n b l t st (beside path k x m y) wide g =
    let inner = less room (length path) in
    let a = sums_in x + 1 in
    let c = sums_in y + 1 in
    let most = max (makers_in x) (makers_in y) in
    let first = merged inner k nothing x in
    let second = merged inner m nothing y in
    let ps = ended inner k (from_end first.waiting) first.passes in
    let qs = ended inner m (from_end second.waiting) second.passes in
    let one = part-few inner k a (steps_in x) (a * makers_in x) first (omega arith) (few-merged inner k a 0 0 nothing x (omega arith) (none-stands a)) in
    let two = part-few inner m c (steps_in y) (c * makers_in y) second (omega arith) (few-merged inner m c 0 0 nothing y (omega arith) (none-stands c)) in
    let sized = few-sides a c k m path ps qs (omega arith) (omega arith) one.narrow two.narrow in
    let tables = beside-tables a c (makers_in x) (makers_in y) (passes_tables ps) (passes_tables qs) one.tables two.tables in
    let widened : (a + c) * most ≤ b * most = mul-le-mul_right most (omega (arith, wide)) in
    let whole = few-more (a + c) b _ (steps_in x + steps_in y) _ (b * most) _ (omega (arith, wide)) (omega (arith, one.long, two.long)) (omega (arith, tables, widened)) sized in
    few-passes room n b l (steps_in x + steps_in y) (b * most) t st (sides path k m ps qs) (omega (arith, wide)) whole g

any-few : (n b l t : ℕ) (ps : List (List PlainNest)) → 1 ≤ b → AreFew b l t ps → AreFew b (l + 1) t (if_any n ps)
any-few n b l t [] some h = record { narrow = (some, tt); long = omega arith; tables = omega arith }
any-few n b l t (zs ∷ ps) some h = record { narrow = h.narrow; long = omega (arith, h.long); tables = h.tables }

-- as many passes as the term has steps, and one, and as many tables as makers for each direct sum, and one
pub passes-few : (room : Room) (n : ℕ) (t : PlainTerm) → AreFew (sums_in t + 1) (steps_in t + 1)
    ((sums_in t + 1) * makers_in t) (passes_within room n t)
passes-few room n t =
    let b = sums_in t + 1 in
    any-few n b (steps_in t) (b * makers_in t) _ (omega arith) (part-few room n b (steps_in t) (b * makers_in t) (merged room n nothing t) (omega arith) (few-merged room n b 0 0 nothing t (omega arith) (none-stands b)))
