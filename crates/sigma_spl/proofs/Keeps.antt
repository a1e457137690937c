-- The passes of a term do what it does.
use Rattle.std.proofs.Common.{◌≡◌, ℕ, zero, suc, ◌+◌, ◌*◌, ◌-◌, ◌/◌, ◌%◌, ◌<◌, arith, refl, sym, ap, ap₂, ◌∙◌, List, []}
use Rattle.std.proofs.Common.{◌∷◌, length, inl, inr, subst, mod-lt, mod-eq_of_lt, div-lt_iff_lt-mul, eq-zero-or-pos}
use Rattle.std.proofs.Common.{zero-mul, mul-zero}
use Rattle.std.specs.Prelude.{slice_index, map, nat_lt, ◌==◌, if◌then◌else◌}
use Rattle.std.proofs.Math.Nat.{div-add-mod'}
use Rattle.std.proofs.lemmas.Bool.{cases_lt}
use Rattle.std.proofs.lemmas.Bool.Decides.{nat_tests}
use Rattle.std.proofs.lemmas.List.FromFn.{fill_by_all}
use Rattle.index_fn.specs.Mapping.{Mapping, at}
use Rattle.operators.specs.Loop.{IsPermutationBelow}
use Rattle.operators.specs.Operator.{Operator, gather, block, column}
use Rattle.operators.specs.Sum.{sum_below, list_below}
use Rattle.operators.proofs.Lists.{at-list_below, list_below-same, length-list_below, place_below, factor_positive}
use Rattle.operators.proofs.Scatters.{sum_below-only, miss}
use Rattle.perm_algebra.specs.Affine.{constant}
use Rattle.sigma_spl.specs.Copies.{both}
use Rattle.sigma_spl.specs.Good.{IsGoodPass, AreGoodPasses, IsFormed, IsGoodTerm, MergeKeeps}
use Rattle.spl_ast.specs.Meaning.{IsVector}
use Rattle.spl_ast.proofs.Vectors.{block_vector, column_vector, list_vector, residue_at}
use Rattle.sigma_spl.specs.Merge.{Room, less, Merging, nothing, new_nest, items_in, copying, side, sides, with_passes}
use Rattle.sigma_spl.specs.Merge.{back_of, from_end, ended, merged, if_any}
use Rattle.sigma_spl.specs.Nest.{factor_count, PlainNest, nests_on, passes_on}
use Rattle.sigma_spl.specs.Term.{PlainTerm, same, gath, scat, diag, nest, move, product, beside, inner_of, term_on}
use Rattle.sigma_spl.specs.Work.{copy, work_size}
use Rattle.sigma_spl.proofs.CopiesMerge.{low, high}
use Rattle.sigma_spl.proofs.Natural.{nest-natural, natural-good, copying-same, copying-good}
use Rattle.sigma_spl.proofs.Moved.{moved-on, moved-good}
use Rattle.sigma_spl.proofs.Sides.{side-on, side-good}
use Rattle.sigma_spl.proofs.Walk.{waiting_on, gathers-end, moves-end, Stands, merging_on, Reaches, merging-vector, Copy}
use Rattle.sigma_spl.proofs.Walk.{pass-reaches, diagonal-reaches, scatter-reaches, ended-are}
use Rattle.operators.specs.declared.paths.Tensor.TheVariants.{Blocks, Columns}
use Rattle.operators.specs.Paths.Tensors.{Path, size_under, under}
use Rattle.operators.proofs.PathLemmas.Under.{under-product}

-- ---- vectors under tensors and side by side

pub vector-fill : (m n : ℕ) (x : List ℕ) (f : ℕ → ℕ) → IsVector m n x → ((i : ℕ) → i < n → f i ≡ slice_index x i) →
    list_below n f ≡ x
vector-fill m n x f v h = list_below-same n f (slice_index x) h ∙ sym (fill_by_all (slice_index x) x n 0 v.size (λ k below. refl))

pub under-vector : (m : ℕ) (path : Path) (n : ℕ) (a b : Operator) (x : List ℕ) →
    ((y : List ℕ) → IsVector m n y → a y ≡ b y) → IsVector m (size_under path n) x → under path n a x ≡ under path n b x
under-vector m [] n a b x h v = h x v
under-vector m (Blocks c ∷ path) n a b x h v =
    list_below-same (c * size_under path n) _ _ (λ p below.
    let positive : 0 < size_under path n = factor_positive c (size_under path n) p below in
    ap (λ y. slice_index y (p % size_under path n))
    (under-vector m path n a b (block (size_under path n) (p / size_under path n) x) h (block_vector m c (size_under path n) (p / size_under path n) x ((div-lt_iff_lt-mul positive).1 below) v)))
under-vector m (Columns c ∷ path) n a b x h v =
    list_below-same (size_under path n * c) _ _ (λ p below.
    let positive : 0 < c = factor_positive (size_under path n) c p below in
    ap (λ y. slice_index y (p / c)) (under-vector m path n a b (column (size_under path n) c (p % c) x) h (column_vector m (size_under path n) c (p % c) x (mod-lt p positive) v)))

pub under-none : (m : ℕ) (path : Path) (n : ℕ) (x : List ℕ) → IsVector m (size_under path n) x →
    under path n (λ y. y) x ≡ x
under-none m [] n x v = refl
under-none m (Blocks c ∷ path) n x v =
    vector-fill m (c * size_under path n) x _ v (λ p below.
    let size = size_under path n in
    let positive : 0 < size = factor_positive c size p below in
    ap (λ y. slice_index y (p % size)) (under-none m path n (block size (p / size) x) (block_vector m c size (p / size) x ((div-lt_iff_lt-mul positive).1 below) v))
    ∙ at-list_below size _ (p % size) (mod-lt p positive)
    ∙ ap (slice_index x) (div-add-mod' p size))
under-none m (Columns c ∷ path) n x v =
    vector-fill m (size_under path n * c) x _ v (λ p below.
    let size = size_under path n in
    let positive : 0 < c = factor_positive size c p below in
    let row : p / c < size = (div-lt_iff_lt-mul positive).1 below in
    ap (λ y. slice_index y (p / c)) (under-none m path n (column size c (p % c) x) (column_vector m size c (p % c) x (mod-lt p positive) v))
    ∙ at-list_below size _ (p / c) row
    ∙ ap (slice_index x) (div-add-mod' p c))

-- the two parts of a list
abbrev pub front : ℕ → List ℕ → List ℕ
front k x = list_below k (slice_index x)

abbrev pub back : ℕ → ℕ → List ℕ → List ℕ
back k l x = list_below l (λ j. slice_index x (k + j))

pub front-vector : (m k l : ℕ) (x : List ℕ) → IsVector m (k + l) x → IsVector m k (front k x)
front-vector m k l x v = list_vector m k _ (λ i below. residue_at m (k + l) x i v (omega arith))

pub back-vector : (m k l : ℕ) (x : List ℕ) → IsVector m (k + l) x → IsVector m l (back k l x)
back-vector m k l x v = list_vector m l _ (λ i below. residue_at m (k + l) x (k + i) v (omega arith))

pub both-equal : (k l : ℕ) (a b c d : Operator) (x : List ℕ) → a (front k x) ≡ c (front k x) →
    b (back k l x) ≡ d (back k l x) → both k l a b x ≡ both k l c d x
both-equal k l a b c d x p q = ap₂ (λ u v. list_below (k + l) (λ w. if nat_lt w k then slice_index u w else slice_index v (w - k))) p q

both-front : (k l : ℕ) (a b : Operator) (x : List ℕ) → length (a (front k x)) ≡ k →
    front k (both k l a b x) ≡ a (front k x)
both-front k l a b x size =
    list_below-same k _ (slice_index (a (front k x))) (λ w below. at-list_below (k + l) _ w (omega arith) ∙ low w k _ _ below)
    ∙ sym (fill_by_all (slice_index (a (front k x))) (a (front k x)) k 0 size (λ i below. refl))

both-back : (k l : ℕ) (a b : Operator) (x : List ℕ) → length (b (back k l x)) ≡ l →
    back k l (both k l a b x) ≡ b (back k l x)
both-back k l a b x size =
    list_below-same l _ (slice_index (b (back k l x)))
    (λ w below. at-list_below (k + l) _ (k + w) (omega arith) ∙ high (k + w) k _ _ (omega arith) ∙ ap (slice_index (b (back k l x))) (omega arith))
    ∙ sym (fill_by_all (slice_index (b (back k l x))) (b (back k l x)) l 0 size (λ i below. refl))

both-product : (k l : ℕ) (a b c d : Operator) (x : List ℕ) → length (c (front k x)) ≡ k → length (d (back k l x)) ≡ l →
    both k l a b (both k l c d x) ≡ both k l (λ y. a (c y)) (λ y. b (d y)) x
both-product k l a b c d x p q =
    ap₂ (λ u v. list_below (k + l) (λ w. if nat_lt w k then slice_index (a u) w else slice_index (b v) (w - k))) (both-front k l c d x p) (both-back k l c d x q)

both-none : (m k l : ℕ) (x : List ℕ) → IsVector m (k + l) x → both k l (λ y. y) (λ y. y) x ≡ x
both-none m k l x v =
    vector-fill m (k + l) x _ v (λ w below.
    elim (cases_lt w k) [
      | inl here ↦ low w k _ _ here ∙ at-list_below k _ w here
      | inr there ↦ high w k _ _ (omega arith) ∙ at-list_below l _ (w - k) (omega arith) ∙ ap (slice_index x) (omega arith)
    ])

-- ---- passes side by side

pub record Beside (lanes : ℕ) (m k l : ℕ) (path : Path) (ps : List (List PlainNest)) (a b : Operator) : Type 0 where
  pub good : AreGoodPasses lanes m (size_under path (k + l)) ps
  pub on : (x : List ℕ) → IsVector m (size_under path (k + l)) x →
      passes_on m (size_under path (k + l)) ps x ≡ under path (k + l) (both k l a b) x
  pub first : (y : List ℕ) → IsVector m k y → length (a y) ≡ k
  pub second : (y : List ℕ) → IsVector m l y → length (b y) ≡ l

beside-none : (lanes : ℕ) → (m k l : ℕ) (path : Path) → Beside lanes m k l path [] (λ y. y) (λ y. y)
beside-none lanes m k l path =
    record {
      good = tt;
      on = λ x v. sym (under-vector m path (k + l) _ (λ y. y) x (λ y w. both-none m k l y w) v ∙ under-none m path (k + l) x v);
      first = λ y v. v.size;
      second = λ y v. v.size;
    }

beside-more : (lanes : ℕ) → (m k l : ℕ) (path : Path) (ps : List (List PlainNest)) (a b : Operator)
    (zs ys : List PlainNest) → Beside lanes m k l path ps a b → IsGoodPass 0 m k zs → IsGoodPass 0 m l ys →
    Beside lanes m k l path (side path k l zs ys ∷ ps) (λ y. nests_on m k zs (a y)) (λ y. nests_on m l ys (b y))
beside-more lanes m k l path ps a b zs ys h z y =
    record {
      good = (side-good lanes m k l path zs ys z y, h.good);
      on = λ x v.
          ap (nests_on m (size_under path (k + l)) (side path k l zs ys)) (h.on x v)
          ∙ side-on m k l path zs ys (under path (k + l) (both k l a b) x) z.nests y.nests
          ∙ sym (under-product path (k + l) (both k l (nests_on m k zs) (nests_on m l ys)) (both k l a b) x (λ u. length-list_below (k + l) _))
          ∙ under-vector m path (k + l) _ _ x (λ u w. both-product k l (nests_on m k zs) (nests_on m l ys) a b u (h.first (front k u) (front-vector m k l u w)) (h.second (back k l u) (back-vector m k l u w))) v;
      first = λ u w. length-list_below k _;
      second = λ u w. length-list_below l _;
    }

beside-as : (lanes : ℕ) → (m k l : ℕ) (path : Path) (ps : List (List PlainNest)) (a b c d : Operator) →
    ((y : List ℕ) → IsVector m k y → a y ≡ c y) → ((y : List ℕ) → IsVector m l y → b y ≡ d y) →
    Beside lanes m k l path ps a b → Beside lanes m k l path ps c d
beside-as lanes m k l path ps a b c d p q h =
    record {
      good = h.good;
      on = λ x v. h.on x v ∙ under-vector m path (k + l) _ _ x (λ u w. both-equal k l a b c d u (p (front k u) (front-vector m k l u w)) (q (back k l u) (back-vector m k l u w))) v;
      first = λ y v. ap length (sym (p y v)) ∙ h.first y v;
      second = λ y v. ap length (sym (q y v)) ∙ h.second y v;
    }

pub sides-are : (lanes : ℕ) → (m k l : ℕ) (path : Path) (ps qs : List (List PlainNest)) → 0 < m →
    AreGoodPasses 0 m k ps → AreGoodPasses 0 m l qs → Beside lanes m k l path (sides path k l ps qs) (passes_on m k ps)
    (passes_on m l qs)
sides-are lanes m k l path [] [] positive h g = beside-none lanes m k l path
sides-are lanes m k l path (zs ∷ ps) [] positive h g =
    beside-as lanes m k l path _ _ _ _ _ (λ y v. refl) (λ y v. copying-same m l y v) (beside-more lanes m k l path (sides path k l ps []) (passes_on m k ps) (λ y. y) zs (copying l) (sides-are lanes m k l path ps [] positive h.1 tt) h.0 (copying-good 0 m l))
sides-are lanes m k l path [] (ys ∷ qs) positive h g =
    beside-as lanes m k l path _ _ _ _ _ (λ y v. copying-same m k y v) (λ y v. refl) (beside-more lanes m k l path (sides path k l [] qs) (λ y. y) (passes_on m l qs) (copying k) ys (sides-are lanes m k l path [] qs positive tt g.1) (copying-good 0 m k) g.0)
sides-are lanes m k l path (zs ∷ ps) (ys ∷ qs) positive h g =
    beside-more lanes m k l path (sides path k l ps qs) (passes_on m k ps) (passes_on m l qs) zs ys (sides-are lanes m k l path ps qs positive h.1 g.1) h.0 g.0

-- ---- several passes more

none-waits : (room : Room) (n : ℕ) (st : Merging) (zs : List PlainNest) (ps : List (List PlainNest)) →
    (with_passes room n st (zs ∷ ps)).waiting ≡ []
none-waits room n st zs [] = refl
none-waits room n st zs (ys ∷ ps) = refl

pub passes-reach : (lanes : ℕ) → (m n : ℕ) (room : Room) (st : Merging) (ps : List (List PlainNest)) → 0 < m →
    AreGoodPasses lanes m n ps → Stands lanes m n st → Reaches lanes m n (with_passes room n st ps) st
    (passes_on m n ps)
passes-reach lanes m n room st [] positive h stands = record { stands = stands; on = λ x v. refl }
passes-reach lanes m n room st (zs ∷ []) positive h stands = pass-reaches lanes m n room st zs positive h.0 stands
passes-reach lanes m n room st (zs ∷ ys ∷ ps) positive h stands =
    let before = with_passes room n st (ys ∷ ps) in
    let rest = passes-reach lanes m n room st (ys ∷ ps) positive h.1 stands in
    record {
      stands = record { moves = tt; good = (h.0, rest.stands.good) };
      on = λ x v. ap (nests_on m n zs) (sym (ap (λ fs. waiting_on n fs (passes_on m n before.passes x)) (none-waits room n st ys ps)) ∙ rest.on x v);
    }

-- ---- terms

-- the same state, for an operator that is equal on vectors
pub reaches-as : (lanes : ℕ) → (m n : ℕ) (next st : Merging) (a b : Operator) → 0 < m → Stands lanes m n st →
    ((y : List ℕ) → IsVector m n y → a y ≡ b y) → Reaches lanes m n next st a → Reaches lanes m n next st b
reaches-as lanes m n next st a b positive stands equal h = record { stands = h.stands; on = λ x v. h.on x v ∙ equal (merging_on m n st x) (merging-vector lanes m n st x positive stands v) }

reaches-then : (lanes : ℕ) → (m n : ℕ) (last next st : Merging) (a b : Operator) → Reaches lanes m n last next b →
    Reaches lanes m n next st a → Reaches lanes m n last st (λ x. b (a x))
reaches-then lanes m n last next st a b h g = record { stands = h.stands; on = λ x v. h.on x v ∙ ap b (g.on x v) }

-- a scatter of a permutation is the gather of the one that undoes it
pub scatter-same : (m n : ℕ) (f : Mapping) (x : List ℕ) → IsPermutationBelow n (at (back_of f)) (at f) →
    IsVector m n x → gather n (at (back_of f)) x ≡ term_on m n (scat f) x
scatter-same m n f x p v =
    list_below-same n _ _ (λ w below.
    let k = at (back_of f) w in
    let within : k < n = p.there_below w below in
    let whole : sum_below n (λ j. if at f j == w then slice_index (list_below n (slice_index x)) j else 0) ≡ slice_index x k =
    sum_below-only n k _ within (λ j inside other. miss (at f j) w _ (λ e. other (sym (p.there-back j inside) ∙ ap (at (back_of f)) e)))
    ∙ taken (at f k) w _ (p.back-there w below) ∙ at-list_below n _ k within in
    sym (ap (λ s. (s + 0) % m) whole ∙ ap (λ s. s % m) (omega arith) ∙ mod-eq_of_lt (residue_at m n x k v within))) where
      taken : (a b x : ℕ) → a ≡ b → (if a == b then x else 0) ≡ x
      taken a b x e = grind (arith, nat_tests)

pub left_positive : (a b : ℕ) → 0 < a * b → 0 < a
left_positive zero b h = absurd (let none : 0 * b ≡ 0 = zero-mul b in omega arith)
left_positive (suc a) b h = omega arith

pub right_positive : (a b : ℕ) → 0 < a * b → 0 < b
right_positive a b h = elim (eq-zero-or-pos b) [ inl none ↦ absurd (let gone : a * b ≡ 0 = ap (λ x. a * x) none ∙ mul-zero a in omega arith) | inr positive ↦ positive ]

pub inner_positive : (path : Path) (n : ℕ) → 0 < size_under path n → 0 < n
inner_positive [] n h = h
inner_positive (Blocks c ∷ path) n h = inner_positive path n (right_positive c (size_under path n) h)
inner_positive (Columns c ∷ path) n h = inner_positive path n (left_positive (size_under path n) c h)

pub inner-formed : (path : Path) (n : ℕ) → 0 < size_under path n → IsFormed (inner_of path n)
inner-formed [] n positive = record { formed = tt; no_list = tt }
inner-formed (Blocks c ∷ path) n positive =
    let size : 0 < size_under path n = right_positive c (size_under path n) positive in
    let inner = inner-formed path n size in record { formed = (omega (arith, size), tt, inner.formed); no_list = (tt, inner.no_list) }
inner-formed (Columns c ∷ path) n positive =
    let count : 0 < c = right_positive (size_under path n) c positive in
    let inner = inner-formed path n (left_positive (size_under path n) c positive) in record { formed = (omega (arith, count), inner.formed, tt); no_list = (inner.no_list, tt) }

pub inner-below : (path : Path) (n i : ℕ) → i < size_under path n → at (inner_of path n) i < n
inner-below [] n i below = below
inner-below (Blocks c ∷ path) n i below =
    let positive : 0 < size_under path n = factor_positive c (size_under path n) i below in omega (arith, inner-below path n (i % size_under path n) (mod-lt i positive))
inner-below (Columns c ∷ path) n i below =
    let positive : 0 < c = factor_positive (size_under path n) c i below in omega (arith, inner-below path n (i / c) ((div-lt_iff_lt-mul positive).1 below))

-- ---- merging

pub nothing-stands : (lanes : ℕ) → (m n : ℕ) → Stands lanes m n nothing
nothing-stands lanes m n = record { moves = tt; good = tt }

-- the passes of a part
ended-term : (lanes : ℕ) → (m n : ℕ) (room : Room) (st : Merging) (a : Operator) → 0 < m →
    Reaches lanes m n st nothing a → Copy lanes m n (ended room n (from_end st.waiting) st.passes) a
ended-term lanes m n room st a positive h =
    let rest = ended-are lanes m n room (from_end st.waiting) st.passes positive (moves-end lanes n st.waiting h.stands.moves) h.stands.good in
    record { good = rest.good; on = λ x v. rest.on x v ∙ gathers-end n st.waiting (passes_on m n st.passes x) ∙ h.on x v }

pub merged-reaches : (lanes : ℕ) → (m n : ℕ) (room : Room) (st : Merging) (t : PlainTerm) → 0 < m → 0 < n →
    IsGoodTerm lanes n t → Stands lanes m n st → Reaches lanes m n (merged room n st t) st (term_on m n t)
merged-reaches lanes m n room st same positive some good stands = record { stands = stands; on = λ x v. refl }
merged-reaches lanes m n room st (gath f) positive some good stands = record { stands = record { moves = (good, stands.moves); good = stands.good }; on = λ x v. refl }
merged-reaches lanes m n room st (scat f) positive some good stands =
    reaches-as lanes m n _ st (gather n (at (back_of f))) (term_on m n (scat f)) positive stands (λ y v. scatter-same m n f y good.2 v) (scatter-reaches lanes m n room st.waiting st.passes f good.0.there good.0.vectors good.1 good.2 stands.moves stands.good)
merged-reaches lanes m n room st (diag path factors) positive some good stands =
    diagonal-reaches lanes m n room st.waiting st.passes path factors positive (inner-formed path (factor_count factors) (subst (λ z. 0 < z) (sym good) some)) stands.moves stands.good
merged-reaches lanes m n room st (nest path w) positive some good stands =
    reaches-as lanes m n _ st _ (term_on m n (nest path w)) positive stands (λ y v. nest-natural lanes m n path w y good.0)
    (pass-reaches lanes m n room st (new_nest path w (items_in w (length path)) ∷ []) positive (natural-good lanes m n path w good.0 (inner_positive path (work_size w) (subst (λ z. 0 < z) (sym good.1) some)) good.1) stands)
merged-reaches lanes m n room st (move path ks) positive some good stands =
    reaches-as lanes m n _ st _ (term_on m n (move path ks)) positive stands (λ y v. moved-on m n path ks y)
    (pass-reaches lanes m n room st (new_nest path (copy (length ks)) (map constant ks) ∷ []) positive (moved-good lanes m n path ks good.0 good.1) stands)
merged-reaches lanes m n room st (product a b) positive some good stands =
    let first = merged-reaches lanes m n room st a positive some good.0 stands in
    reaches-then lanes m n _ (merged room n st a) st (term_on m n a) (term_on m n b) (merged-reaches lanes m n room (merged room n st a) b positive some good.1 first.stands) first
merged-reaches lanes m n room st (beside path k a l b) positive some good stands =
    let inner = less room (length path) in
    let first = ended-term 0 m k inner (merged inner k nothing a) (term_on m k a) positive (merged-reaches 0 m k inner nothing a positive good.0 good.3 (nothing-stands 0 m k)) in
    let second = ended-term 0 m l inner (merged inner l nothing b) (term_on m l b) positive (merged-reaches 0 m l inner nothing b positive good.1 good.4 (nothing-stands 0 m l)) in
    let ps = ended inner k (from_end (merged inner k nothing a).waiting) (merged inner k nothing a).passes in
    let qs = ended inner l (from_end (merged inner l nothing b).waiting) (merged inner l nothing b).passes in
    let all = beside-as lanes m k l path (sides path k l ps qs) _ _ (term_on m k a) (term_on m l b) first.on second.on (sides-are lanes m k l path ps qs positive first.good second.good) in
    let size = good.2 in
    reaches-as lanes m n _ st (passes_on m n (sides path k l ps qs)) (term_on m n (beside path k a l b)) positive stands
    (λ y v. ap (λ z. passes_on m z (sides path k l ps qs) y) (sym size) ∙ all.on y (subst (λ z. IsVector m z y) (sym size) v))
    (passes-reach lanes m n room st (sides path k l ps qs) positive (subst (λ z. AreGoodPasses lanes m z (sides path k l ps qs)) size all.good) stands)

some-passes : (lanes : ℕ) → (m n : ℕ) (ps : List (List PlainNest)) (a : Operator) → Copy lanes m n ps a →
    Copy lanes m n (if_any n ps) a
some-passes lanes m n [] a h = record { good = (copying-good lanes m n, tt); on = λ x v. copying-same m n x v ∙ h.on x v }
some-passes lanes m n (zs ∷ ps) a h = h

pub merge_keeps : MergeKeeps
merge_keeps lanes m n room t positive some good =
    let h = merged-reaches lanes m n room nothing t positive some good (nothing-stands lanes m n) in
    let all = some-passes lanes m n _ (term_on m n t) (ended-term lanes m n room (merged room n nothing t) (term_on m n t) positive h) in
    record { good = all.good; on = all.on }
