-- The text of a phase's line is read back.
use Rattle.std.proofs.Common.{◌≡◌, ℕ, ◌<◌, ◌≤◌, true, false, eqb, ltb, leb, ◌&&◌, List, [], ◌∷◌, ◌++◌, codes, decimal}
use Rattle.std.proofs.Common.{Result, Ok, refl, sym, ap, ◌∙◌, append_assoc, arith, inl, inr}
use Rattle.std.proofs.lemmas.Bool.{ltb-true, leb-true, and_parts, ne_eqb}
use Rattle.icode.specs.declared.program.Array.{Array}
use Rattle.icode.specs.declared.program.Array.TheVariants as arrays
use Rattle.icode.specs.Plain.{PlainExpr, PlainOp, Load, Store, Zero, Add, Sub, Neg, MulConst, MulTable, Tile}
use Rattle.icode.specs.Limits.{is_small, is_sum_within, is_expr_within, is_op_within, sum_parts, sum_depth}
use Rattle.grammar.specs.Grammar.{one_of}
use Rattle.grammar.specs.Reading.{Place, start, whole, and_then, pure_at, begins, placed, word_at, number_at, named_number_at, one_of_in}
use Rattle.grammar.specs.Reading.{one_of_at}
use Rattle.grammar.proofs.Numbers.{NoDigit}
use Rattle.grammar.proofs.Parts.{Anything, one_of_reader}
use Rattle.grammar.proofs.Whole.{again}
use Rattle.listing_text.specs.declared.acts.Word.{Word}
use Rattle.listing_text.specs.declared.acts.Word.TheVariants as words
use Rattle.listing_text.specs.Listing.{sum_text, array_text, place_text, act_text, line_text}
use Rattle.listing_text.specs.Reading.{above_all, sum_at}
use Rattle.listing_text.specs.Wording.{PlainAct, Open, Close, Do}
use Rattle.listing_text.specs.Acts.{act_words, array_words, factor_words, factor_at, operands_at, act_at, act_line_at}
use Rattle.listing_text.proofs.ActsSpelt.{pair_at, triple_at}
use Rattle.listing_text.proofs.ReadBack.{Back, then_back, first_digit, word_back, number_back, named_back, small_fits}
use Rattle.listing_text.proofs.ReadBack.{goes_on, sum_back}

-- the act may stand inside this number of loops
abbrev pub IsActWithin : ℕ → ℕ → PlainAct → Type 0
IsActWithin m open_loops (Open depth count) = (depth < above_all) × (count < above_all)
IsActWithin m open_loops Close = Unit {0}
IsActWithin m open_loops (Do op) = is_op_within m op open_loops ≡ true

key_back : (w : List ℕ) (word : Word) (place : Place ℕ) (rest : List ℕ) → one_of act_words w word →
    place.rest ≡ w ++ rest → Back (one_of_at act_words) word place rest
key_back w word place rest l e =
    again Anything (one_of act_words) (one_of_at act_words)
    (one_of_reader Anything (codes "for v", words.For)
    ((codes "end", words.End) ∷ (codes "ld r", words.Load) ∷ (codes "st ", words.Store) ∷ (codes "zero r", words.Zero)
    ∷ (codes "add r", words.Add) ∷ (codes "sub r", words.Sub) ∷ (codes "neg r", words.Neg) ∷ (codes "mul r", words.Mul) ∷ (codes "tile r", words.Tile) ∷ []) refl)
    place w rest word l tt e

array_spells : (array : Array) → one_of array_words (array_text array ++ codes "[") array
array_spells arrays.X = inl (refl, refl)
array_spells arrays.Y = inr (inl (refl, refl))
array_spells arrays.A = inr (inr (inl (refl, refl)))
array_spells arrays.B = inr (inr (inr (inl (refl, refl))))

array_back : (array : Array) (place : Place ℕ) (rest : List ℕ) → place.rest ≡ array_text array ++ (codes "[" ++ rest) →
    Back (one_of_at array_words) array place rest
array_back array place rest e =
    again Anything (one_of array_words) (one_of_at array_words)
    (one_of_reader Anything (codes "X[", arrays.X) ((codes "Y[", arrays.Y) ∷ (codes "A[", arrays.A) ∷ (codes "B[", arrays.B) ∷ []) refl)
    place (array_text array ++ codes "[") rest array (array_spells array) tt (e ∙ sym (append_assoc (array_text array) (codes "[") rest))

-- a place, and what stands after it
pub expr_back : (e : PlainExpr) (open_loops : ℕ) → is_expr_within e open_loops ≡ true → open_loops ≤ 64 →
    (place : Place ℕ) (rest : List ℕ) → place.rest ≡ sum_text e ++ rest → begins goes_on rest ≡ false →
    Back (sum_at 64) e place rest
expr_back = sum_back [] (λ rest none. none)

-- a constant is no table
no_table : (n : ℕ) (rest : List ℕ) (far : ℕ) → n < above_all → placed far (one_of_in factor_words (codes " " ++ (decimal n ++ rest))) ≡ Ok (false, record { rest = decimal n ++ rest; far = far })
no_table n rest far fits =
    let first = first_digit n fits in
    let other : eqb 116 first.digit ≡ false = ne_eqb 116 first.digit (λ same. omega (arith, first.high, same)) in
    rw first.whole (rw other refl)

-- the same by another reader that answers so here
pub same_back : {A : Type 0} (read other : Place ℕ → Result (A × Place ℕ) ℕ) (x : A) (place : Place ℕ) (rest : List ℕ) →
    read place ≡ other place → Back other x place rest → Back read x place rest
same_back read other x place rest e h = (h.0, e ∙ h.1, h.2)

-- the last number of a line
named_last : (w : List ℕ) (n : ℕ) (act : ℕ → PlainAct) → n < above_all → (place : Place ℕ) (rest : List ℕ) →
    place.rest ≡ w ++ (decimal n ++ (10 ∷ rest))
    → Back (λ place. and_then (named_number_at w above_all place) (λ n. pure_at (act n))) (act n) place (10 ∷ rest)
named_last w n act fits place rest e = then_back (named_number_at w above_all) _ n _ place (10 ∷ rest) (10 ∷ rest) (named_back w n place (10 ∷ rest) fits refl e) (λ q e1. (q, refl, e1))

-- an act whose line begins with this word
act_back_by : (w : List ℕ) (word : Word) (tail : List ℕ) (act : PlainAct) (place : Place ℕ) (rest : List ℕ) →
    one_of act_words w word → place.rest ≡ w ++ tail
    → ((q : Place ℕ) → q.rest ≡ tail → Back (operands_at word) act q rest) → Back act_at act place rest
unfolding act_at
act_back_by w word tail act place rest l e k = then_back (one_of_at act_words) operands_at word act place tail rest (key_back w word place tail l e) k

for_back : (depth count : ℕ) → depth < above_all → count < above_all → (place : Place ℕ) (rest : List ℕ) →
    place.rest ≡ act_text (Open depth count) ++ (10 ∷ rest) → Back act_at (Open depth count) place (10 ∷ rest)
for_back depth count d k place rest e =
    let last : List ℕ = codes " " ++ (decimal count ++ (10 ∷ rest)) in
    act_back_by (codes "for v") words.For (decimal depth ++ last) (Open depth count) place (10 ∷ rest) (inl (refl, refl)) (e ∙ simp append_assoc) (λ q e1.
    then_back (number_at above_all) _ depth _ q last (10 ∷ rest) (number_back depth q last d refl e1) (λ q1 e2. named_last (codes " ") count (λ count. Open depth count) k q1 rest e2))

end_back : (place : Place ℕ) (rest : List ℕ) → place.rest ≡ act_text Close ++ (10 ∷ rest) →
    Back act_at Close place (10 ∷ rest)
end_back place rest e = act_back_by (codes "end") words.End (10 ∷ rest) Close place (10 ∷ rest) (inr (inl (refl, refl))) e (λ q e1. (q, refl, e1))

-- a place with its array, and what stands before and after it
place_right : (array : Array) (at : PlainExpr) (rest : List ℕ) →
    place_text array at ++ rest ≡ array_text array ++ (codes "[" ++ (sum_text at ++ (codes "]" ++ rest)))
place_right array at rest = simp append_assoc

load_right : (register : ℕ) (place rest : List ℕ) → (codes "ld r" ++ decimal register ++ codes " " ++ place) ++ rest
    ≡ codes "ld r" ++ (decimal register ++ (codes " " ++ (place ++ rest)))
load_right register place rest = simp append_assoc

load_back : (m open_loops register : ℕ) (array : Array) (at : PlainExpr) →
    is_op_within m (Load register array at) open_loops ≡ true → open_loops ≤ 64
    → (place : Place ℕ) (rest : List ℕ) → place.rest ≡ act_text (Do (Load register array at)) ++ (10 ∷ rest) →
    Back act_at (Do (Load register array at)) place (10 ∷ rest)
load_back m open_loops register array at w few_open place rest e =
    let limits = and_parts (is_small register) (is_expr_within at open_loops) w in
    let r3 : List ℕ = codes "]" ++ (10 ∷ rest) in
    let r2 : List ℕ = array_text array ++ (codes "[" ++ (sum_text at ++ r3)) in
    let is : place.rest ≡ codes "ld r" ++ (decimal register ++ (codes " " ++ r2)) =
    e ∙ load_right register (place_text array at) (10 ∷ rest) ∙ ap (λ y. codes "ld r" ++ (decimal register ++ (codes " " ++ y))) (place_right array at (10 ∷ rest)) in
    act_back_by (codes "ld r") words.Load (decimal register ++ (codes " " ++ r2)) _ place (10 ∷ rest) (inr (inr (inl (refl, refl)))) is (λ q1 e1.
    then_back (number_at above_all) _ register _ q1 (codes " " ++ r2) (10 ∷ rest) (number_back register q1 (codes " " ++ r2) (small_fits register limits.0) refl e1) (λ q2 e2.
    then_back (word_at (codes " ")) _ tt _ q2 r2 (10 ∷ rest) (word_back (codes " ") q2 r2 e2) (λ q3 e3.
    then_back (one_of_at array_words) _ array _ q3 (sum_text at ++ r3) (10 ∷ rest) (array_back array q3 (sum_text at ++ r3) e3) (λ q4 e4.
    then_back (sum_at 64) _ at _ q4 r3 (10 ∷ rest) (expr_back at open_loops limits.1 few_open q4 r3 e4 refl) (λ q5 e5.
    then_back (word_at (codes "]")) _ tt _ q5 (10 ∷ rest) (10 ∷ rest) (word_back (codes "]") q5 (10 ∷ rest) e5) (λ q6 e6. (q6, refl, e6)))))))

store_right : (place : List ℕ) (register : ℕ) (rest : List ℕ) →
    (codes "st " ++ place ++ codes " r" ++ decimal register) ++ rest ≡ codes "st "
    ++ (place ++ (codes " r" ++ (decimal register ++ rest)))
store_right place register rest = simp append_assoc

store_back : (m open_loops : ℕ) (array : Array) (at : PlainExpr) (register : ℕ) →
    is_op_within m (Store array at register) open_loops ≡ true → open_loops ≤ 64
    → (place : Place ℕ) (rest : List ℕ) → place.rest ≡ act_text (Do (Store array at register)) ++ (10 ∷ rest) →
    Back act_at (Do (Store array at register)) place (10 ∷ rest)
store_back m open_loops array at register w few_open place rest e =
    let limits = and_parts (is_small register) (is_expr_within at open_loops) w in
    let last : List ℕ = codes " r" ++ (decimal register ++ (10 ∷ rest)) in
    let r2 : List ℕ = array_text array ++ (codes "[" ++ (sum_text at ++ (codes "]" ++ last))) in
    let is : place.rest ≡ codes "st " ++ r2 = e ∙ store_right (place_text array at) register (10 ∷ rest) ∙ ap (λ y. codes "st " ++ y) (place_right array at last) in
    act_back_by (codes "st ") words.Store r2 _ place (10 ∷ rest) (inr (inr (inr (inl (refl, refl))))) is (λ q1 e1.
    then_back (one_of_at array_words) _ array _ q1 (sum_text at ++ (codes "]" ++ last)) (10 ∷ rest) (array_back array q1 (sum_text at ++ (codes "]" ++ last)) e1) (λ q2 e2.
    then_back (sum_at 64) _ at _ q2 (codes "]" ++ last) (10 ∷ rest) (expr_back at open_loops limits.1 few_open q2 (codes "]" ++ last) e2 refl) (λ q3 e3.
    named_last (codes "] r") register (λ register. Do (Store array at register)) (small_fits register limits.0) q3 rest e3)))

zero_back : (register : ℕ) → is_small register ≡ true → (place : Place ℕ) (rest : List ℕ) →
    place.rest ≡ act_text (Do (Zero register)) ++ (10 ∷ rest) → Back act_at (Do (Zero register)) place (10 ∷ rest)
zero_back register w place rest e =
    act_back_by (codes "zero r") words.Zero (decimal register ++ (10 ∷ rest)) _ place (10 ∷ rest) (inr (inr (inr (inr (inl (refl, refl)))))) (e ∙ append_assoc (codes "zero r") (decimal register) (10 ∷ rest)) (λ q e1.
    then_back (number_at above_all) _ register _ q (10 ∷ rest) (10 ∷ rest) (number_back register q (10 ∷ rest) (small_fits register w) refl e1) (λ q1 e2. (q1, refl, e2)))

-- an operation on one register, and on two
pair_back : (w : List ℕ) (word : Word) (op : ℕ → ℕ → PlainOp) → one_of act_words w word →
    ((q : Place ℕ) → operands_at word q ≡ pair_at op q)
    → (register source : ℕ) → (is_small register && is_small source) ≡ true → (place : Place ℕ) (rest : List ℕ) →
    place.rest ≡ (w ++ decimal register ++ codes " r" ++ decimal source) ++ (10 ∷ rest) →
    Back act_at (Do (op register source)) place (10 ∷ rest)
pair_back w word op l is register source within place rest e =
    let limits = and_parts (is_small register) (is_small source) within in
    let last : List ℕ = codes " r" ++ (decimal source ++ (10 ∷ rest)) in
    act_back_by w word (decimal register ++ last) _ place (10 ∷ rest) l (e ∙ simp append_assoc) (λ q e1. same_back (operands_at word) (pair_at op) _ q (10 ∷ rest) (is q)
    (then_back (number_at above_all) _ register _ q last (10 ∷ rest) (number_back register q last (small_fits register limits.0) refl e1) (λ q1 e2.
    named_last (codes " r") source (λ source. Do (op register source)) (small_fits source limits.1) q1 rest e2)))

triple_back : (w : List ℕ) (word : Word) (op : ℕ → ℕ → ℕ → PlainOp) → one_of act_words w word →
    ((q : Place ℕ) → operands_at word q ≡ triple_at op q)
    → (register left right : ℕ) → (is_small register && (is_small left && is_small right)) ≡ true
    → (place : Place ℕ) (rest : List ℕ) → place.rest ≡ (w ++ decimal register ++ codes " r" ++ decimal left
    ++ codes " r" ++ decimal right) ++ (10 ∷ rest) → Back act_at (Do (op register left right)) place (10 ∷ rest)
triple_back w word op l is register left right within place rest e =
    let limits = and_parts (is_small register) (is_small left && is_small right) within in
    let others = and_parts (is_small left) (is_small right) limits.1 in
    let last : List ℕ = codes " r" ++ (decimal right ++ (10 ∷ rest)) in
    let middle : List ℕ = codes " r" ++ (decimal left ++ last) in
    act_back_by w word (decimal register ++ middle) _ place (10 ∷ rest) l (e ∙ simp append_assoc) (λ q e1. same_back (operands_at word) (triple_at op) _ q (10 ∷ rest) (is q)
    (then_back (number_at above_all) _ register _ q middle (10 ∷ rest) (number_back register q middle (small_fits register limits.0) refl e1) (λ q1 e2.
    then_back (named_number_at (codes " r") above_all) _ left _ q1 last (10 ∷ rest) (named_back (codes " r") left q1 last (small_fits left others.0) refl e2) (λ q2 e3.
    named_last (codes " r") right (λ right. Do (op register left right)) (small_fits right others.1) q2 rest e3))))

-- a product, up to its factor
mul_back : (register source : ℕ) (tail : List ℕ) (act : PlainAct) (place : Place ℕ) (rest : List ℕ) →
    is_small register ≡ true → is_small source ≡ true → NoDigit tail →
    place.rest ≡ codes "mul r" ++ (decimal register ++ (codes " r" ++ (decimal source ++ tail)))
    → ((q : Place ℕ) → q.rest ≡ tail → Back (λ q. and_then (one_of_at factor_words q) (factor_at register source)) act q rest) →
    Back act_at act place rest
mul_back register source tail act place rest r s c e k =
    let last : List ℕ = codes " r" ++ (decimal source ++ tail) in
    act_back_by (codes "mul r") words.Mul (decimal register ++ last) act place rest (inr (inr (inr (inr (inr (inr (inr (inr (inl (refl, refl)))))))))) e (λ q e1.
    then_back (number_at above_all) _ register act q last rest (number_back register q last (small_fits register r) refl e1) (λ q1 e2.
    then_back (named_number_at (codes " r") above_all) _ source act q1 tail rest (named_back (codes " r") source q1 tail (small_fits source s) c e2) k))

constant_back : (m register source factor : ℕ) → m ≤ above_all →
    (is_small register && (is_small source && ltb factor m)) ≡ true
    → (place : Place ℕ) (rest : List ℕ) → place.rest ≡ act_text (Do (MulConst register source factor)) ++ (10 ∷ rest) →
    Back act_at (Do (MulConst register source factor)) place (10 ∷ rest)
constant_back m register source factor below w place rest e =
    let limits = and_parts (is_small register) (is_small source && ltb factor m) w in
    let others = and_parts (is_small source) (ltb factor m) limits.1 in
    let fits : factor < above_all = omega (arith, ltb-true factor m others.1, below) in
    let last : List ℕ = decimal factor ++ (10 ∷ rest) in
    mul_back register source (codes " " ++ last) _ place (10 ∷ rest) limits.0 others.0 refl (e ∙ simp append_assoc) (λ q e1.
    then_back (one_of_at factor_words) (factor_at register source) false _ q last (10 ∷ rest) (record { rest = last; far = q.far }, ap (λ r. placed q.far (one_of_in factor_words r)) e1 ∙ no_table factor (10 ∷ rest) q.far fits, refl) (λ q1 e2.
    then_back (number_at above_all) _ factor _ q1 (10 ∷ rest) (10 ∷ rest) (number_back factor q1 (10 ∷ rest) fits refl e2) (λ q2 e3. (q2, refl, e3))))

table_right : (register source table : ℕ) (place : List ℕ) (step : ℕ) (rest : List ℕ)
    → (codes "mul r" ++ decimal register ++ codes " r" ++ decimal source ++ codes " t" ++ decimal table ++ codes "["
    ++ place ++ codes "] step " ++ decimal step) ++ rest
    ≡ codes "mul r" ++ (decimal register
    ++ (codes " r" ++ (decimal source
    ++ (codes " t" ++ (decimal table
    ++ (codes "[" ++ (place ++ (codes "]" ++ (codes " step " ++ (decimal step ++ rest))))))))))
table_right register source table place step rest = simp append_assoc

table_back : (m open_loops register source table : ℕ) (at : PlainExpr) (step : ℕ) →
    is_op_within m (MulTable register source table at step) open_loops ≡ true → open_loops ≤ 64
    → (place : Place ℕ) (rest : List ℕ) → place.rest ≡ act_text (Do (MulTable register source table at step))
    ++ (10 ∷ rest) → Back act_at (Do (MulTable register source table at step)) place (10 ∷ rest)
table_back m open_loops register source table at step w few_open place rest e =
    let l1 = and_parts (is_small register) (is_small source && (is_small table && (ltb step 2 && is_expr_within at open_loops))) w in
    let l2 = and_parts (is_small source) (is_small table && (ltb step 2 && is_expr_within at open_loops)) l1.1 in
    let l3 = and_parts (is_small table) (ltb step 2 && is_expr_within at open_loops) l2.1 in
    let l4 = and_parts (ltb step 2) (is_expr_within at open_loops) l3.1 in
    let fits : step < above_all = omega (arith, ltb-true step 2 l4.0) in
    let last : List ℕ = codes " step " ++ (decimal step ++ (10 ∷ rest)) in
    let middle : List ℕ = decimal table ++ (codes "[" ++ (sum_text at ++ (codes "]" ++ last))) in
    mul_back register source (codes " t" ++ middle) _ place (10 ∷ rest) l1.0 l2.0 refl (e ∙ table_right register source table (sum_text at) step (10 ∷ rest)) (λ q3 e3.
    then_back (one_of_at factor_words) (factor_at register source) true _ q3 middle (10 ∷ rest) (record { rest = middle; far = q3.far }, ap (λ r. placed q3.far (one_of_in factor_words r)) e3, refl) (λ q4 e4.
    then_back (number_at above_all) _ table _ q4 (codes "[" ++ (sum_text at ++ (codes "]" ++ last))) (10 ∷ rest) (number_back table q4 (codes "[" ++ (sum_text at ++ (codes "]" ++ last))) (small_fits table l3.0) refl e4) (λ q5 e5.
    then_back (word_at (codes "[")) _ tt _ q5 (sum_text at ++ (codes "]" ++ last)) (10 ∷ rest) (word_back (codes "[") q5 (sum_text at ++ (codes "]" ++ last)) e5) (λ q6 e6.
    then_back (sum_at 64) _ at _ q6 (codes "]" ++ last) (10 ∷ rest) (expr_back at open_loops l4.1 few_open q6 (codes "]" ++ last) e6 refl) (λ q7 e7.
    named_last (codes "] step ") step (λ step. Do (MulTable register source table at step)) fits q7 rest e7)))))

op_back : (m open_loops : ℕ) (op : PlainOp) → m ≤ above_all → open_loops ≤ 64 → is_op_within m op open_loops ≡ true
    → (place : Place ℕ) (rest : List ℕ) → place.rest ≡ act_text (Do op) ++ (10 ∷ rest) →
    Back act_at (Do op) place (10 ∷ rest)
op_back m open_loops (Load register array at) below few_open w place rest e = load_back m open_loops register array at w few_open place rest e
op_back m open_loops (Store array at register) below few_open w place rest e = store_back m open_loops array at register w few_open place rest e
op_back m open_loops (Zero register) below few_open w place rest e = zero_back register w place rest e
op_back m open_loops (Add register left right) below few_open w place rest e = triple_back (codes "add r") words.Add Add (inr (inr (inr (inr (inr (inl (refl, refl))))))) (λ q. refl) register left right w place rest e
op_back m open_loops (Sub register left right) below few_open w place rest e = triple_back (codes "sub r") words.Sub Sub (inr (inr (inr (inr (inr (inr (inl (refl, refl)))))))) (λ q. refl) register left right w place rest e
op_back m open_loops (Neg register source) below few_open w place rest e = pair_back (codes "neg r") words.Neg Neg (inr (inr (inr (inr (inr (inr (inr (inl (refl, refl))))))))) (λ q. refl) register source w place rest e
op_back m open_loops (MulConst register source factor) below few_open w place rest e = constant_back m register source factor below w place rest e
op_back m open_loops (MulTable register source table at step) below few_open w place rest e = table_back m open_loops register source table at step w few_open place rest e
op_back m open_loops (Tile register source) below few_open w place rest e = pair_back (codes "tile r") words.Tile Tile (inr (inr (inr (inr (inr (inr (inr (inr (inr (inl (refl, refl))))))))))) (λ q. refl) register source w place rest e

act_back : (m open_loops : ℕ) (act : PlainAct) → m ≤ above_all → open_loops ≤ 64 → IsActWithin m open_loops act →
    (place : Place ℕ) (rest : List ℕ) → place.rest ≡ act_text act ++ (10 ∷ rest) → Back act_at act place (10 ∷ rest)
act_back m open_loops (Open depth count) below few_open w place rest e = for_back depth count w.0 w.1 place rest e
act_back m open_loops Close below few_open w place rest e = end_back place rest e
act_back m open_loops (Do op) below few_open w place rest e = op_back m open_loops op below few_open w place rest e

pub line_back : (m open_loops : ℕ) (act : PlainAct) → m ≤ above_all → open_loops ≤ 64 → IsActWithin m open_loops act →
    whole act_line_at (line_text act) ≡ Ok act
unfolding act_line_at
line_back m open_loops act below few_open w =
    let h = act_back m open_loops act below few_open w (start (line_text act)) [] refl in
    let z = word_back (codes "\n") h.0 [] h.2 in
    rw (h.1, z.1, z.2) refl
