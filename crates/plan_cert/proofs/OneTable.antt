-- A request has one table of chosen rows.
use Rattle.std.proofs.Common.{◌≡◌, ◌+◌, ◌<◌, ℕ, zero, suc, List, [], ◌∷◌, length, refl, sym, ap, ap₂, subst, ◌∙◌, arith}
use Rattle.std.proofs.Common.{◌⊎◌, inl, inr}
use Rattle.std.specs.Prelude.{Option, All, Any, AllPairs}
use Rattle.std.specs.List.{slice_index_or}
use Rattle.matrix_meaning.specs.declared.Request.{Request}
use Rattle.tree_model.specs.declared.tree.Rule.{Rule}
use Rattle.tree_model.specs.Admissible.{IsChosenFor}
use Rattle.tree_model.specs.Breakdown.{Breakdown, leaf, node}
use Rattle.tree_model.specs.Cost.{cost_of}
use Rattle.plan_cert.specs.declared.certificate.Row.{Row}
use Rattle.plan_cert.specs.Found.{closing_at}
use Rattle.plan_cert.specs.Table.{IsRootOf, IsChosenRow, IsTable}
use Rattle.plan_search.proofs.OneTree.{chosen_once}

roots_same : (t : Breakdown) (a b : Option Rule) (r s u v : ℕ) → IsRootOf t a r s → IsRootOf t b u v →
    (a ≡ b) × (r ≡ u) × (s ≡ v)
roots_same (leaf d) a b r s u v p q = (p.0 ∙ sym q.0, p.1 ∙ sym q.1, p.2 ∙ sym q.2)
roots_same (node rule x y) a b r s u v p q = (p.0 ∙ sym q.0, p.1 ∙ sym q.1, p.2 ∙ sym q.2)

abbrev row : ℕ → ℕ → Option Rule → ℕ → ℕ → Row
row size cost rule left right = record { size = size; cost = cost; rule = rule; left = left; right = right }

row_once : (c : Request) (closing : ℕ) (x y : Row) → x.size ≡ y.size → IsChosenRow c closing x
    → IsChosenRow c closing y → x ≡ y
row_once c closing x y same p q =
    let trees : p.0 ≡ q.0 = chosen_once c x.size p.0 q.0 p.1.chosen (subst (λ n. IsChosenFor c n q.0) (sym same) q.1.chosen) in
    let costs : x.cost ≡ y.cost =
    p.1.cost ∙ ap₂ (λ (t : Breakdown) d. cost_of c t + closing_at c closing d) trees same ∙ sym q.1.cost in
    let roots = roots_same q.0 x.rule y.rule x.left x.right y.left y.right (subst (λ (t : Breakdown). IsRootOf t x.rule x.left x.right) trees p.1.root) q.1.root in
    ap (λ n. row n x.cost x.rule x.left x.right) same
    ∙ ap (λ n. row y.size n x.rule x.left x.right) costs
    ∙ ap (λ (o : Option Rule). row y.size y.cost o x.left x.right) roots.0
    ∙ ap (λ n. row y.size y.cost y.rule n x.right) roots.1
    ∙ ap (λ n. row y.size y.cost y.rule y.left n) roots.2

abbrev IsRising : List Row → Type 0
IsRising rows = AllPairs (λ (x y : Row). x.size < y.size) rows

-- each size of the first rows is one of the others
abbrev IsCovered : List Row → List Row → Type 0
IsCovered xs ys = (k : ℕ) (d : Row) → k < length xs → Any (λ (y : Row). y.size ≡ (slice_index_or xs k d).size) ys

rising_tail : (x : Row) (xs : List Row) → IsRising (x ∷ xs) → IsRising xs
rising_tail x xs h = λ i j d l m. h (suc i) (suc j) d (omega (arith, l)) (omega (arith, m))

rising_head : (x : Row) (xs : List Row) → IsRising (x ∷ xs) → (k : ℕ) (d : Row) → k < length xs →
    x.size < (slice_index_or xs k d).size
rising_head x xs h k d l = h 0 (suc k) d (omega arith) (omega (arith, l))

any_split : (P : Row → Type 0) (x : Row) (xs : List Row) → Any P (x ∷ xs) → P x ⊎ Any P xs
any_split P x xs (zero, y, l, e, p) = inl (subst P (sym e) p)
any_split P x xs (suc k, y, l, e, p) = inr (k, y, omega (arith, l), e, p)

-- a size among the tail's rows is above the head's
above_head : (y : Row) (ys : List Row) (n : ℕ) → IsRising (y ∷ ys) → Any (λ (z : Row). z.size ≡ n) ys → y.size < n
above_head y ys n h found =
    let low = rising_head y ys h found.0 found.1 found.2 in
    let there : (slice_index_or ys found.0 found.1).size ≡ n = ap (λ (z : Row). z.size) found.3 ∙ found.4 in
    omega (arith, low, there)

heads_same : (x y : Row) (xs ys : List Row) → IsRising (x ∷ xs) → IsRising (y ∷ ys) →
    (y.size ≡ x.size) ⊎ Any (λ (z : Row). z.size ≡ x.size) ys
    → (x.size ≡ y.size) ⊎ Any (λ (z : Row). z.size ≡ y.size) xs → x.size ≡ y.size
heads_same x y xs ys hx hy (inl e) other = sym e
heads_same x y xs ys hx hy (inr found) (inl e) = e
heads_same x y xs ys hx hy (inr found) (inr back) =
    let one = above_head y ys x.size hy found in
    let two = above_head x xs y.size hx back in
    absurd (omega (arith, one, two))

tail_covered : (x y : Row) (xs ys : List Row) → x.size ≡ y.size → IsRising (x ∷ xs) → IsCovered (x ∷ xs) (y ∷ ys) →
    IsCovered xs ys
tail_covered x y xs ys same h covered k d l =
    cases (any_split (λ (z : Row). z.size ≡ (slice_index_or xs k d).size) y ys (covered (suc k) d (omega (arith, l))))
  where
    cases : (y.size ≡ (slice_index_or xs k d).size) ⊎ Any (λ (z : Row). z.size ≡ (slice_index_or xs k d).size) ys →
        Any (λ (z : Row). z.size ≡ (slice_index_or xs k d).size) ys
    cases (inl e) = let low = rising_head x xs h k d l in absurd (omega (arith, low, e, same))
    cases (inr found) = found

rows_once : (c : Request) (closing : ℕ) (xs ys : List Row) → IsRising xs → IsRising ys → IsCovered xs ys
    → IsCovered ys xs → All (IsChosenRow c closing) xs → All (IsChosenRow c closing) ys → xs ≡ ys
rows_once c closing [] [] hx hy cx cy px py = refl
rows_once c closing [] (y ∷ ys) hx hy cx cy px py = let found = cy 0 y (omega arith) in absurd (omega (arith, found.2))
rows_once c closing (x ∷ xs) [] hx hy cx cy px py = let found = cx 0 x (omega arith) in absurd (omega (arith, found.2))
rows_once c closing (x ∷ xs) (y ∷ ys) hx hy cx cy px py =
    let same : x.size ≡ y.size =
    heads_same x y xs ys hx hy (any_split (λ (z : Row). z.size ≡ x.size) y ys (cx 0 x (omega arith))) (any_split (λ (z : Row). z.size ≡ y.size) x xs (cy 0 y (omega arith))) in
    let first : x ≡ y = row_once c closing x y same (px 0 x (omega arith)) (py 0 y (omega arith)) in
    let rest : xs ≡ ys =
    rows_once c closing xs ys (rising_tail x xs hx) (rising_tail y ys hy) (tail_covered x y xs ys same hx cx)
    (tail_covered y x ys xs (sym same) hy cy)
    (λ k d l. px (suc k) d (omega (arith, l))) (λ k d l. py (suc k) d (omega (arith, l))) in
    ap₂ (λ (z : Row) (zs : List Row). z ∷ zs) first rest

pub table_once : (c : Request) (closing : ℕ) (xs ys : List Row) → IsTable c closing xs → IsTable c closing ys → xs ≡ ys
table_once c closing xs ys p q =
    rows_once c closing xs ys p.wanted.rising q.wanted.rising (λ k d l. q.wanted.whole _ (p.wanted.wanted k d l))
    (λ k d l. p.wanted.whole _ (q.wanted.wanted k d l)) p.chosen q.chosen
