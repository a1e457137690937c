-- A formula that a line spells has fitting shapes, and no more parts than the line has bytes.
use Rattle.std.proofs.Common.{◌≡◌, ℕ, zero, suc, ◌*◌, ◌<◌, ◌≤◌, Bool, true, false, not, ◌&&◌, eqb, ltb}
use Rattle.std.proofs.Common.{List, [], ◌∷◌, All, length, Option, Some, None, Result, Ok, Err, refl, sym, ap, subst}
use Rattle.std.proofs.Common.{arith}
use Rattle.std.specs.Int.{is_power_of_two}
use Rattle.std.specs.Option.{option_map}
use Rattle.std.proofs.Math.Nat.{mul-le-mul}
use Rattle.std.proofs.lemmas.Bool.{eqb-true, ltb-true}
use Rattle.std.proofs.lemmas.Grind.{common_steps}
use Rattle.grammar.specs.Reading.{Place, start, ended, placed, pure_at, one_of_at, one_of_in, valued, word_in}
use Rattle.grammar.specs.Reading.{or_else as reading_else}
use Rattle.grammar.specs.Stops.{Stop, passed, spelling_only, tested_at}
use Rattle.tree_model.proofs.PowerOfTwo.{power_of_two}
use Rattle.spl_ast.specs.Formula.{Formula, Identity, Fourier, Hadamard, Twiddles, Diagonal, Stride, Permutation}
use Rattle.spl_ast.specs.Formula.{GoodThomasIn, GoodThomasOut, Product, TensorLeft, TensorRight, DirectSum}
use Rattle.spl_ast.specs.Formula.{parts_of, size_of}
use Rattle.spl_ast.specs.Shape.{IsShaped, IsSize, IsRingValue, AreGoodThomasFactors}
use Rattle.spl_ast.proofs.Vectors.{size_is_size}
use Rattle.spl_text.specs.Arguments.{factor_at, comma_at, close_at, one_size_at, two_sizes_at, size_value_at}
use Rattle.spl_text.specs.Arguments.{sizes_value_at, values_at}
use Rattle.spl_text.specs.Fault.{TextFault, Shape, are_coprime, first_stray, misfit, or_else, refusal, refused_if}
use Rattle.spl_text.specs.Fault.{shape_fault, share_factor}
use Rattle.spl_text.specs.Reading.{heads, plain, made_at, arguments_by, two_formulas_by, tensor_left_by}
use Rattle.spl_text.specs.Reading.{tensor_right_by, too_deep, formula_at, line_at, ended_formula, all_of}
use Rattle.spl_text.specs.Spelling.{spells, spells_line, AreSomeValues, AreValues, HasSpelling, IsFactor}
use Rattle.spl_text.proofs.Answering.{answer_is_read}
use Rattle.spl_text.proofs.Coprime.{gcd_from_shared, multiple}
use Rattle.spl_text.proofs.Lengths.{few_parts}
use Rattle.spl_text.proofs.Strays.{permutation_of}
use Rattle.spl_text.proofs.Nested.{go_ok}
use Rattle.commands.specs.Equations.Formulas.{written}
use Rattle.icode.proofs.Bools.{both_true}

-- What is not refused

or_none : (a b : Option (ℕ × ℕ)) → or_else a b ≡ None → (a ≡ None) × (b ≡ None)
or_none None b e = (refl, e)
or_none (Some x) b e = absurd (cc)

test_true : (b : Bool) (x y : ℕ) → refused_if (not b) x y ≡ None → b ≡ true
test_true true x y e = refl
test_true false x y e = absurd (cc)

small : (n : ℕ) → refused_if (ltb 1048576 n) n 1048576 ≡ None → n ≤ 1048576
small n e = at (ltb 1048576 n) refl e
  where
    at : (b : Bool) → ltb 1048576 n ≡ b → refused_if b n 1048576 ≡ None → n ≤ 1048576
    at true is e = absurd (cc)
    at false is e = grind (arith, common_steps)

fits : (f : Formula) → refusal f ≡ None → misfit f ≡ None
fits f e = (or_none (misfit f) (refused_if (ltb 1048576 (size_of f)) (size_of f) 1048576) e).0

size_small : (f : Formula) → refusal f ≡ None → size_of f ≤ 1048576
size_small f e = small (size_of f) (or_none (misfit f) (refused_if (ltb 1048576 (size_of f)) (size_of f) 1048576) e).1

no_stray : (k : List ℕ) (o : Option ℕ) → option_map {U = ℕ × ℕ} (λ stray. (length k, stray)) o ≡ None → o ≡ None
no_stray k None e = refl
no_stray k (Some stray) e = absurd (cc)

not_true : (b : Bool) → not b ≡ true → b ≡ false
not_true true e = absurd (cc)
not_true false e = refl

factors : (r s : ℕ) → are_coprime r s ≡ true → AreGoodThomasFactors r s
factors r s e =
    let first = both_true (ltb 1 r) (ltb 1 s && not (share_factor r r s)) e in
    let second = both_true (ltb 1 s) (not (share_factor r r s)) first.1 in
    let low : 1 < r = ltb-true 1 r first.0 in
    record {
      first = omega (arith, low);
      second = let other : 1 < s = ltb-true 1 s second.0 in omega (arith, other);
      coprime = gcd_from_shared r s (omega (arith, low)) (not_true (share_factor r r s) second.1);
    }

-- Numbers of texts

sized : (n : ℕ) → IsFactor n → IsSize n
sized n h = (omega (arith, h.0), omega (arith, h.1))

product_sized : (r s : ℕ) → 1 ≤ r → 1 ≤ s → r * s ≤ 1048576 → IsSize (r * s)
product_sized r s low other high = (let some : 1 * 1 ≤ r * s = mul-le-mul low other in omega (arith, some), high)

ring_values : (c : List ℕ) → AreValues c → All IsRingValue c
ring_values [] h i d lt = absurd (omega (arith, lt))
ring_values (v ∷ c) h zero d lt = h.0
ring_values (v ∷ c) h (suc i) d lt = ring_values c h.1 i d (omega (arith, lt))

some_values : (c : List ℕ) → AreSomeValues c → All IsRingValue c
some_values [] h = absurd h
some_values (v ∷ c) h = ring_values (v ∷ c) h

some_length : (c : List ℕ) → AreSomeValues c → 1 ≤ length c
some_length [] h = absurd h
some_length (v ∷ c) h = omega arith

-- Where its parts are shaped, a part that is not refused is

abbrev WillBe : Formula → Type 0
WillBe f = HasSpelling f → IsShaped f

abbrev IsReady : Formula → Type 0
IsReady f = HasSpelling f → refusal f ≡ None → IsShaped f

identity_ready : (n : ℕ) → IsReady (Identity n)
identity_ready n h e = sized n h

fourier_ready : (x : ℕ × ℕ) → IsReady (Fourier x.0 x.1)
fourier_ready x h e = (sized x.0 h.0, h.1)

hadamard_ready : (n : ℕ) → IsReady (Hadamard n)
hadamard_ready n h e = (sized n h, power_of_two n (test_true (is_power_of_two n) n 2 (fits (Hadamard n) e)))

twiddles_ready : (x : ℕ × ℕ × ℕ) → IsReady (Twiddles x.0 x.1 x.2)
twiddles_ready x h e = (
  sized x.0 h.0,
  sized x.1 h.1,
  multiple x.0 x.1 (eqb-true _ 0 (test_true _ x.0 x.1 (fits (Twiddles x.0 x.1 x.2) e))),
  h.2,
)

diagonal_ready : (c : List ℕ) → IsReady (Diagonal c)
diagonal_ready c h e = ((some_length c h, size_small (Diagonal c) e), some_values c h)

stride_ready : (x : ℕ × ℕ) → IsReady (Stride x.0 x.1)
stride_ready x h e = (sized x.0 h.0, sized x.1 h.1, multiple x.0 x.1 (eqb-true _ 0 (test_true _ x.0 x.1 (fits (Stride x.0 x.1) e))))

permutation_ready : (k : List ℕ) → IsReady (Permutation k)
permutation_ready k h e = (
  (some_length k h, size_small (Permutation k) e),
  permutation_of k (no_stray k (first_stray (length k) [] k) (fits (Permutation k) e)),
)

into_ready : (x : ℕ × ℕ) → IsReady (GoodThomasIn x.0 x.1)
into_ready x h e = (
  product_sized x.0 x.1 (sized x.0 h.0).0 (sized x.1 h.1).0 (size_small (GoodThomasIn x.0 x.1) e),
  factors x.0 x.1 (test_true (are_coprime x.0 x.1) x.0 x.1 (fits (GoodThomasIn x.0 x.1) e)),
)

out_ready : (x : ℕ × ℕ) → IsReady (GoodThomasOut x.0 x.1)
out_ready x h e = (
  product_sized x.0 x.1 (sized x.0 h.0).0 (sized x.1 h.1).0 (size_small (GoodThomasOut x.0 x.1) e),
  factors x.0 x.1 (test_true (are_coprime x.0 x.1) x.0 x.1 (fits (GoodThomasOut x.0 x.1) e)),
)

product_ready : (a b : Formula) → WillBe a → WillBe b → IsReady (Product a b)
product_ready a b p q h e = (p h.0, q h.1, eqb-true (size_of a) (size_of b) (test_true (eqb (size_of a) (size_of b)) (size_of a) (size_of b) (fits (Product a b) e)))

left_ready : (a : Formula) (k : ℕ) → WillBe a → IsReady (TensorLeft a k)
left_ready a k p h e = (
  p h.0,
  sized k h.1,
  product_sized (size_of a) k (size_is_size a (p h.0)).0 (sized k h.1).0 (size_small (TensorLeft a k) e),
)

right_ready : (k : ℕ) (a : Formula) → WillBe a → IsReady (TensorRight k a)
right_ready k a p h e = (
  sized k h.0,
  p h.1,
  product_sized k (size_of a) (sized k h.0).0 (size_is_size a (p h.1)).0 (size_small (TensorRight k a) e),
)

sum_ready : (a b : Formula) → WillBe a → WillBe b → IsReady (DirectSum a b)
sum_ready a b p q h e = (p h.0, q h.1, (let low = (size_is_size a (p h.0)).0 in omega (arith, low), size_small (DirectSum a b) e))

-- Reading

abbrev good : {A E : Type 0} → A → Result A E
good x = Ok x

-- what is read is one value
front_same : {A B E : Type 0} (x y : A × B) → good {E = E} x ≡ good y → x.0 ≡ y.0
front_same x y e = let both : x ≡ y = cc in ap (λ z. z.0) both

passed_ok : (o : Option (ℕ × ℕ)) (left : ℕ) (x y : Formula × Place ℕ) →
    passed (option_map (λ p. Shape left p.0 p.1) o) x ≡ good y → (x ≡ y) × (o ≡ None)
passed_ok None left x y e = (cc, refl)
passed_ok (Some p) left x y e = absurd (cc)

tested_ok : (left : ℕ) (r : Result (Formula × Place ℕ) (Stop TextFault)) (y : Formula × Place ℕ) →
    tested_at left shape_fault r ≡ Ok y → (r ≡ Ok y) × (refusal y.0 ≡ None)
tested_ok left (Ok x) y e =
    let found = passed_ok (refusal x.0) left x y e in
    (ap good found.0, subst (λ (z : Formula × Place ℕ). refusal z.0 ≡ None) found.0 found.1)
tested_ok left (Err s) y e = absurd (cc)

-- one of the words that may stand in a place
abbrev EachHead : {H : Type 0} → (H → Type 0) → List (List ℕ × H) → Type 0
EachHead P [] = Unit {0}
EachHead P (row ∷ rows) = P row.1 × EachHead P rows

module _ {H : Type 0} (P : H → Type 0) where
  in_list : (rows : List (List ℕ × H)) (text : List ℕ) (x : H × List ℕ) → EachHead P rows →
      one_of_in rows text ≡ good x → P x.0
  in_list [] text x each e = absurd (cc)
  in_list (row ∷ rows) text x each e = at (word_in row.0 text) (one_of_in rows text) e (in_list rows text x each.1)
    where
      at : (first : Result (Unit {0} × List ℕ) ℕ) (others : Result (H × List ℕ) ℕ) →
          reading_else (valued row.1 first) others ≡ good x
          → (others ≡ good x → P x.0) → P x.0
      at (Ok y) others e later = subst P (front_same (row.1, y.1) x e) each.0
      at (Err left) (Ok z) e later = later e
      at (Err left) (Err other) e later = absurd (cc)

  at_place : (rows : List (List ℕ × H)) (place : Place ℕ) (x : H × Place ℕ) → EachHead P rows →
      plain (one_of_at rows) place ≡ good x → P x.0
  at_place rows place x each e = at (one_of_in rows place.rest) e (λ y. in_list rows place.rest y each)
    where
      at : (r : Result (H × List ℕ) ℕ) → spelling_only (placed place.far r) ≡ good {E = Stop TextFault} x →
          ((y : H × List ℕ) → r ≡ good y → P y.0) → P x.0
      at (Ok y) e found = subst P (front_same (y.0, record { rest = y.1; far = place.far }) x e) (found y refl)
      at (Err left) e found = absurd (cc)

made_ready : {A : Type 0} (read : Place ℕ → Result (A × Place ℕ) ℕ) (make : A → Formula) → ((x : A) → IsReady (make x))
    → (place : Place ℕ) (y : Formula × Place ℕ) → made_at read make place ≡ Ok y → IsReady y.0
made_ready read make h place y e =
    let g = go_ok (plain read place) (λ x. plain (pure_at (make x))) y e in
    subst IsReady (front_same (make g.0.0, g.0.1) y g.2) (h g.0.0)

infixr 5 ◌&◌
abbrev ◌&◌ : {A B : Type 0} → A → B → A × B
a & b = (a, b)

module _ (read : Place ℕ → Result (Formula × Place ℕ) (Stop TextFault))
    (inner : (place : Place ℕ) (x : Formula × Place ℕ) → read place ≡ Ok x → WillBe x.0) where
  two_ready : (make : Formula → Formula → Formula) → ((a b : Formula) → WillBe a → WillBe b → IsReady (make a b))
      → (place : Place ℕ) (y : Formula × Place ℕ) → two_formulas_by read make place ≡ Ok y → IsReady y.0
  two_ready make h place y e =
      let g1 = go_ok (read place) _ y e in
      let g2 = go_ok (plain comma_at g1.0.1) _ y g1.2 in
      let g3 = go_ok (read g2.0.1) _ y g2.2 in
      let g4 = go_ok (plain close_at g3.0.1) _ y g3.2 in
      subst IsReady (front_same (make g1.0.0 g3.0.0, g4.0.1) y g4.2) (h g1.0.0 g3.0.0 (inner place g1.0 g1.1) (inner g2.0.1 g3.0 g3.1))

  left_read : (place : Place ℕ) (y : Formula × Place ℕ) → tensor_left_by read place ≡ Ok y → IsReady y.0
  left_read place y e =
      let g1 = go_ok (read place) _ y e in
      let g2 = go_ok (plain comma_at g1.0.1) _ y g1.2 in
      let g3 = go_ok (plain factor_at g2.0.1) _ y g2.2 in
      let g4 = go_ok (plain close_at g3.0.1) _ y g3.2 in
      subst IsReady (front_same (TensorLeft g1.0.0 g3.0.0, g4.0.1) y g4.2) (left_ready g1.0.0 g3.0.0 (inner place g1.0 g1.1))

  right_read : (place : Place ℕ) (y : Formula × Place ℕ) → tensor_right_by read place ≡ Ok y → IsReady y.0
  right_read place y e =
      let g1 = go_ok (plain factor_at place) _ y e in
      let g2 = go_ok (plain comma_at g1.0.1) _ y g1.2 in
      let g3 = go_ok (read g2.0.1) _ y g2.2 in
      let g4 = go_ok (plain close_at g3.0.1) _ y g3.2 in
      subst IsReady (front_same (TensorRight g1.0.0 g3.0.0, g4.0.1) y g4.2) (right_ready g1.0.0 g3.0.0 (inner g2.0.1 g3.0 g3.1))

  -- after each head of a part stands one that is ready
  heads_ready : EachHead (λ h. (place : Place ℕ) (y : Formula × Place ℕ) → arguments_by read h place ≡ Ok y →
      IsReady y.0) heads
  heads_ready =
      made_ready one_size_at Identity identity_ready
      & (made_ready size_value_at (λ x. Fourier x.0 x.1) fourier_ready
      & (made_ready one_size_at Hadamard hadamard_ready
      & (made_ready sizes_value_at (λ x. Twiddles x.0 x.1 x.2) twiddles_ready
      & (made_ready values_at Diagonal diagonal_ready
      & (made_ready two_sizes_at (λ x. Stride x.0 x.1) stride_ready
      & (made_ready values_at Permutation permutation_ready
      & (made_ready two_sizes_at (λ x. GoodThomasIn x.0 x.1) into_ready
      & (made_ready two_sizes_at (λ x. GoodThomasOut x.0 x.1) out_ready
      & (two_ready Product product_ready & (left_read & (right_read & (two_ready DirectSum sum_ready & tt))))))))))))

never_too_deep : (r : Result _ ℕ) (y : Formula × Place ℕ) → too_deep r ≡ Ok y → ⊥
never_too_deep (Ok x) y e = absurd (cc)
never_too_deep (Err left) y e = absurd (cc)

formula_shaped : (depth : ℕ) (place : Place ℕ) (y : Formula × Place ℕ) → formula_at depth place ≡ Ok y → WillBe y.0
unfolding formula_at
formula_shaped zero place y e = absurd (never_too_deep (one_of_at heads place) y e)
formula_shaped (suc depth) place y e = λ h.
    let tested = tested_ok _ _ y e in
    let g = go_ok (plain (one_of_at heads) place) (arguments_by (formula_at depth)) y tested.0 in
    at_place (λ w. (place : Place ℕ) (y : Formula × Place ℕ) → arguments_by (formula_at depth) w place ≡ Ok y → IsReady y.0) heads place g.0
    (heads_ready (formula_at depth) (formula_shaped depth)) g.1 g.0.1 y g.2 h tested.1

line_shaped : (place : Place ℕ) (y : Formula × Place ℕ) → line_at place ≡ Ok y → WillBe y.0
line_shaped place y e =
    let g1 = go_ok (formula_at 128 place) _ y e in
    let g2 = go_ok _ (λ _. plain (pure_at g1.0.0)) y g1.2 in
    subst WillBe (front_same (g1.0.0, g2.0.1) y g2.2) (formula_shaped 128 place g1.0 g1.1)

abbrev whole : Formula → Result Formula (Stop TextFault)
whole f = Ok f

ended_ok : (x f : Formula) (rest : List ℕ) (far : ℕ) → ended_formula (ended x rest far) ≡ whole f → x ≡ f
ended_ok x f [] far e = cc
ended_ok x f (y ∷ rest) far e = absurd (cc)

whole_shaped : (f : Formula) (r : Result (Formula × Place ℕ) (Stop TextFault)) →
    ((y : Formula × Place ℕ) → r ≡ Ok y → WillBe y.0) → all_of r ≡ whole f → WillBe f
whole_shaped f (Ok x) h e = subst WillBe (ended_ok x.0 f x.1.rest x.1.far e) (h x refl)
whole_shaped f (Err s) h e = absurd (cc)

spelt_of : (text : List ℕ) (f : Formula) → spells_line text f → HasSpelling f
unfolding spells
spelt_of text f l = subst HasSpelling (sym l.ends.ends.1) l.begins.0

pub written_shaped : (text : List ℕ) (f : Formula) → written text (Ok f) → IsShaped f
written_shaped text f p =
    whole_shaped f (line_at (start text)) (line_shaped (start text)) (answer_is_read text (Ok f) p)
    (spelt_of text f p.spelt)

pub written_few : (text : List ℕ) (f : Formula) → written text (Ok f) → parts_of f ≤ length text
written_few text f p = few_parts text f p.spelt
