-- The formula of a tree in a request.
use Rattle.std.proofs.Common.{◌≡◌, ◌≢◌, ℕ, ◌+◌, ◌*◌, ◌/◌, ◌%◌, List, [], ◌∷◌, refl, sym, ap, ap₂, ◌∙◌, subst, arith}
use Rattle.std.specs.Prelude.{slice_index, ◌==◌, Bool, true, false, if◌then◌else◌}
use Rattle.std.specs.Int.{IsGcd}
use Rattle.std.proofs.Math.Nat.{mul-one, div-one, mod-one}
use Rattle.std.proofs.lemmas.Bool.{eq-eqb, eqb-true}
use Rattle.ring_mod.specs.Inverse.{inverse_mod}
use Rattle.operators.specs.Sum.{list_below}
use Rattle.operators.specs.Operator.{block, on_blocks, scale}
use Rattle.operators.proofs.Lists.{at-list_below, list_below-same}
use Rattle.matrix_meaning.specs.declared.Kind.{Kind}
use Rattle.matrix_meaning.specs.declared.Kind.TheVariants.{Dft, Wht, Idft}
use Rattle.matrix_meaning.specs.declared.Request.{Request}
use Rattle.matrix_meaning.specs.Asked.{asked_of}
use Rattle.matrix_meaning.specs.Laws.{AskedByForward}
use Rattle.matrix_meaning.specs.Parts.{forward_by, forward_of, inverted}
use Rattle.matrix_meaning.specs.Valid.{HasUnit, IsValid}
use Rattle.tree_model.specs.Breakdown.{Breakdown, size_of}
use Rattle.tree_model.specs.Laws.{NodesDoWhatIsAsked}
use Rattle.tree_model.specs.Whole.{IsTreeOf}
use Rattle.spl_ast.specs.Formula.{Formula, size_of as rows_of}
use Rattle.breakdown.specs.Expansion.{closed_at, closed_formula, divided, expansion, formula_of}
use Rattle.breakdown.specs.Law.{ExpansionIsTransform, IsAskedFormula, IsNodeFormula}
use Rattle.breakdown.proofs.Sizes.{rows_of_expansion, whole_divides}
use Rattle.tree_model.proofs.WholeTrees.{forward_size}

-- ---- what the request for the transform has of the request

-- what divides the request's size
pub forward_divides : (c : Request) (d : ℕ) → c.size % d ≡ 0 → (forward_of c).size % d ≡ 0
forward_divides c d divides = ap (λ n. n % d) (forward_size c) ∙ divides

-- the size of an inverse has an inverse
inverse_unit : (c : Request) → c.kind ≡ Idft → IsValid c → IsGcd c.size c.modulus 1
inverse_unit c e valid = subst (λ kind. HasUnit kind c.modulus c.size) e valid.in_range.unit

pub closing_unit : (c same : Request) (n : ℕ) → IsValid c → same ≡ c → same.kind ≡ Idft → n ≡ same.size →
    IsGcd n same.modulus 1
closing_unit c same n valid is e size =
    subst (λ k. IsGcd k same.modulus 1) (sym size) (inverse_unit same e (subst IsValid (sym is) valid))

-- ---- formulas of the whole size and of others

if-true : (b : Bool) (f g : Formula) → b ≡ true → (if b then f else g) ≡ f
if-true true f g e = refl
if-true false f g e = absurd cc

if-false : (b : Bool) (f g : Formula) → (b ≡ true → ⊥) → (if b then f else g) ≡ g
if-false true f g other = absurd (other refl)
if-false false f g other = refl

pub closed_whole : (c : Request) (d : ℕ) (f : Formula) → d ≡ c.size →
    closed_at c d f ≡ closed_formula c.kind c.modulus c.size f
closed_whole c d f e = if-true (d == c.size) _ _ (eq-eqb d c.size e)

pub closed_other : (c : Request) (d : ℕ) (f : Formula) → d ≢ c.size → closed_at c d f ≡ f
closed_other c d f other = if-false (d == c.size) _ _ (λ e. other (eqb-true d c.size e))

rows-closed : (kind : Kind) (m n : ℕ) (f : Formula) → rows_of f ≡ n → rows_of (closed_formula kind m n f) ≡ n
rows-closed Dft m n f e = e
rows-closed Wht m n f e = e
rows-closed Idft m n f e = mul-one n

rows-either : (b : Bool) (d : ℕ) (f g : Formula) → (b ≡ true → rows_of f ≡ d) → rows_of g ≡ d →
    rows_of (if b then f else g) ≡ d
rows-either true d f g h k = h refl
rows-either false d f g h k = k

-- a tree's formula in a request has the tree's size
pub rows_of_formula : (c : Request) (t : Breakdown) → rows_of (formula_of c t) ≡ size_of t
rows_of_formula c t =
    let rows = rows_of_expansion (forward_of c) t in
    rows-either (size_of t == c.size) (size_of t) _ _
    (λ e. let same = eqb-true (size_of t) c.size e in rows-closed c.kind c.modulus c.size _ (rows ∙ same) ∙ sym same)
    rows

closed-forward : (kind : Kind) (m n : ℕ) (f : Formula) → kind ≢ Idft → closed_formula kind m n f ≡ f
closed-forward Dft m n f other = refl
closed-forward Wht m n f other = refl
closed-forward Idft m n f other = absurd (other refl)

either-same : (b : Bool) (f g : Formula) → (b ≡ true → f ≡ g) → (if b then f else g) ≡ g
either-same true f g h = h refl
either-same false f g h = refl

-- that of a node, or of a request for no inverse, is its expansion
pub formula_of_node : (c : Request) (t : Breakdown) → (size_of t ≡ c.size → c.kind ≢ Idft) →
    formula_of c t ≡ expansion (forward_of c) t
formula_of_node c t other =
    either-same (size_of t == c.size) _ _
    (λ e. closed-forward c.kind c.modulus c.size _ (other (eqb-true (size_of t) c.size e)))

-- what is made of the expansion in the request for the transform
pub made_formula : (c forward : Request) (t : Breakdown) (g f : Formula) → forward ≡ forward_of c →
    g ≡ expansion forward t → f ≡ closed_at c (rows_of g) g → f ≡ formula_of c t
made_formula c forward t g f is tree made =
    made
    ∙ ap (λ (h : Formula). closed_at c (rows_of h) h) (tree ∙ ap (λ (p : Request). expansion p t) is)
    ∙ ap (λ n. closed_at c n (expansion (forward_of c) t)) (rows_of_expansion (forward_of c) t)

-- ---- what they mean

-- one factor on each row of one item is that factor on each item
each_item : (m n v : ℕ) (x : List ℕ) → on_blocks n 1 (scale m 1 (slice_index (v ∷ []))) x ≡ scale m n (λ _. v) x
each_item m n v x =
    let one = scale m 1 (slice_index (v ∷ [])) in
    ap (λ k. list_below k (λ p. slice_index (one (block 1 (p / 1) x)) (p % 1))) (mul-one n)
    ∙ list_below-same n _ _ (λ p _.
    ap₂ (λ i j. slice_index (one (block 1 i x)) j) (div-one p) (mod-one p)
    ∙ at-list_below 1 (λ i. (slice_index (v ∷ []) i * slice_index (block 1 p x) i) % m) 0 (omega arith)
    ∙ ap (λ y. (v * y) % m)
    (at-list_below 1 (λ j. slice_index x (p * 1 + j)) 0 (omega arith) ∙ ap (slice_index x) (omega arith)))

module _ (expansions : ExpansionIsTransform) (nodes : NodesDoWhatIsAsked) (by_forward : AskedByForward) where
  -- the formula of a whole tree of a request for no inverse
  expansion_asked : (p : Request) (t : Breakdown) → IsValid p → p.kind ≢ Idft → IsTreeOf p t → size_of t ≡ p.size →
      IsAskedFormula p (expansion p t)
  expansion_asked p t valid other tree size x =
      expansions p t valid tree (whole_divides p.size (size_of t) size) x ∙ nodes p t x valid other tree size

  -- that for an inverse
  divided_asked : (c : Request) (t : Breakdown) → IsValid c → c.kind ≡ Idft → IsValid (inverted c) →
      IsTreeOf (inverted c) t → size_of t ≡ c.size →
      IsAskedFormula c (divided c.modulus c.size (expansion (inverted c) t))
  divided_asked c t valid e turned tree size x =
      let v = inverse_mod c.modulus c.size in
      each_item c.modulus c.size v _
      ∙ ap (scale c.modulus c.size (λ _. v))
      (expansion_asked (inverted c) t turned (λ clash. absurd cc) tree size x
      ∙ ap (λ kind. asked_of (forward_by kind c) x) (sym e))
      ∙ sym (by_forward c x valid.in_range e)

  closed_asked : (kind : Kind) (c : Request) (t : Breakdown) → c.kind ≡ kind → IsValid c →
      IsValid (forward_by kind c) → IsTreeOf (forward_by kind c) t →
      size_of t ≡ c.size → IsAskedFormula c (closed_formula kind c.modulus c.size (expansion (forward_by kind c) t))
  closed_asked Dft c t e valid forward tree size = expansion_asked c t valid (λ clash. absurd cc) tree size
  closed_asked Wht c t e valid forward tree size = expansion_asked c t valid (λ clash. absurd cc) tree size
  closed_asked Idft c t e valid forward tree size = divided_asked c t valid e forward tree size

  -- the formula of a whole tree is what the request asks for
  pub formula_asked : (c : Request) (t : Breakdown) → IsValid c → IsValid (forward_of c) → IsTreeOf (forward_of c) t →
      size_of t ≡ c.size → IsAskedFormula c (formula_of c t)
  formula_asked c t valid forward tree size =
      subst (IsAskedFormula c) (sym (closed_whole c (size_of t) (expansion (forward_of c) t) size))
      (closed_asked c.kind c t refl valid forward tree size)

-- f is the formula of the tree, and the tree stands for a node
pub formula_does_node : ExpansionIsTransform → (c : Request) (t : Breakdown) (f : Formula) → IsValid (forward_of c) →
    IsTreeOf (forward_of c) t → c.size % size_of t ≡ 0 → f ≡ formula_of c t →
    (size_of t ≡ c.size → c.kind ≢ Idft) → IsNodeFormula (forward_of c) t f
formula_does_node expansions c t f forward tree divides made other =
    subst (IsNodeFormula (forward_of c) t) (sym (made ∙ formula_of_node c t other))
    (expansions (forward_of c) t forward tree (forward_divides c (size_of t) divides))
