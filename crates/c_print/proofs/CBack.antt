-- The text of a line in C is read back.
use Rattle.std.proofs.Common.{◌≡◌, ℕ, ◌<◌, ◌≤◌, true, false, eqb, ltb, ◌&&◌, List, [], ◌∷◌, ◌++◌, codes, decimal}
use Rattle.std.proofs.Common.{Option, Some, None, Ok, refl, sym, ap, ◌∙◌, append_assoc, arith, inl, inr}
use Rattle.std.proofs.lemmas.Bool.{ltb-true, and_parts, and_from, eq-eqb, ne_eqb}
use Rattle.icode.specs.declared.program.Array.{Array}
use Rattle.icode.specs.declared.program.Array.TheVariants as arrays
use Rattle.icode.specs.Plain.{PlainExpr, PlainOp, Load, Store, Zero, Add, Sub, Neg, MulConst, MulTable, Tile}
use Rattle.icode.specs.Limits.{is_small, is_expr_within, is_op_within}
use Rattle.grammar.specs.Grammar.{one_of}
use Rattle.grammar.specs.Reading.{Place, start, and_then, whole, placed, word_at, number_at, named_number_at, one_of_in}
use Rattle.grammar.specs.Reading.{one_of_at}
use Rattle.grammar.proofs.Parts.{Anything, one_of_reader}
use Rattle.grammar.proofs.Whole.{again}
use Rattle.listing_text.specs.Listing.{sum_text, array_text}
use Rattle.listing_text.specs.Reading.{above_all, sum_at}
use Rattle.listing_text.specs.Wording.{PlainAct, Open, Close, Do}
use Rattle.listing_text.proofs.ReadBack.{Back, then_back, first_digit, word_back, number_back, named_back, small_fits}
use Rattle.listing_text.proofs.ActsBack.{IsActWithin, expr_back, same_back}
use Rattle.c_print.specs.declared.lines.Word.{Word}
use Rattle.c_print.specs.declared.lines.Word.TheVariants as words
use Rattle.c_print.specs.declared.lines.Value.{Value}
use Rattle.c_print.specs.declared.lines.Value.TheVariants as values
use Rattle.c_print.specs.CText.{lane_loop, tile_loops, lane_text, becomes_text, c_op_text}
use Rattle.c_print.specs.CLines.{c_words, target_words, value_words, factor_words, value_at, target_at, c_operands_at}
use Rattle.c_print.specs.CLines.{c_act_at, c_line_at}
use Rattle.c_print.proofs.CSpelt.{call_at, c_act_text, ended_text, shape_loop, shape_becomes, shape_call, shape_one}
use Rattle.c_print.proofs.CSpelt.{shape_constant, shape_table, shape_load, shape_store, shape_tile}

word_key : (w : List ℕ) (word : Word) (place : Place ℕ) (rest : List ℕ) → one_of c_words w word →
    place.rest ≡ w ++ rest → Back (one_of_at c_words) word place rest
word_key w word place rest l e =
    again Anything (one_of c_words) (one_of_at c_words)
    (one_of_reader Anything (codes "for (uint64_t v", words.For) ((codes "for (int k = 0; k < V; k++) for (int l = 0; l < V; l++) r[", words.Tile) ∷ (codes "for (int l = 0; l < V; l++) ", words.Lanes) ∷ (codes "}", words.End) ∷ []) refl)
    place w rest word l tt e

target_key : (w : List ℕ) (target : Option Array) (place : Place ℕ) (rest : List ℕ) → one_of target_words w target →
    place.rest ≡ w ++ rest → Back (one_of_at target_words) target place rest
target_key w target place rest l e =
    again Anything (one_of target_words) (one_of_at target_words)
    (one_of_reader Anything (codes "r[", None) ((codes "X[", Some arrays.X) ∷ (codes "Y[", Some arrays.Y) ∷ (codes "A[", Some arrays.A) ∷ (codes "B[", Some arrays.B) ∷ []) refl)
    place w rest target l tt e

value_key : (w : List ℕ) (value : Value) (place : Place ℕ) (rest : List ℕ) → one_of value_words w value →
    place.rest ≡ w ++ rest → Back (one_of_at value_words) value place rest
value_key w value place rest l e =
    again Anything (one_of value_words) (one_of_at value_words)
    (one_of_reader Anything (codes "0;", values.Zero)
    ((codes "add(r[", values.Add) ∷ (codes "sub(0, r[", values.Neg) ∷ (codes "sub(r[", values.Sub) ∷ (codes "mul(r[", values.Mul)
    ∷ (codes "X[", values.Load arrays.X) ∷ (codes "Y[", values.Load arrays.Y) ∷ (codes "A[", values.Load arrays.A) ∷ (codes "B[", values.Load arrays.B) ∷ []) refl)
    place w rest value l tt e

no_table : (n : ℕ) (rest : List ℕ) (far : ℕ) → n < above_all → placed far (one_of_in factor_words (decimal n ++ rest)) ≡ Ok (false, record { rest = decimal n ++ rest; far = far })
no_table n rest far fits =
    let first = first_digit n fits in
    let other : eqb 116 first.digit ≡ false = ne_eqb 116 first.digit (λ same. omega (arith, first.high, same)) in
    rw first.whole (rw other refl)

loop_back : (depth count : ℕ) → depth < above_all → count < above_all → (place : Place ℕ) (rest : List ℕ) →
    place.rest ≡ c_act_text (Open depth count) ++ (10 ∷ rest) → Back c_act_at (Open depth count) place (10 ∷ rest)
unfolding c_act_at
loop_back depth count d k place rest e =
    let t5 : List ℕ = codes "++) {" ++ (10 ∷ rest) in
    let t4 : List ℕ = codes "; v" ++ (decimal depth ++ t5) in
    let t3 : List ℕ = codes " < " ++ (decimal count ++ t4) in
    let t2 : List ℕ = codes " = 0; v" ++ (decimal depth ++ t3) in
    let is : place.rest ≡ codes "for (uint64_t v" ++ (decimal depth ++ t2) =
    e ∙ sym (shape_loop (codes "for (uint64_t v") (decimal depth) (codes " = 0; v") (decimal depth) (codes " < ") (decimal count) (codes "; v") (decimal depth) (codes "++) {") (10 ∷ rest)) in
    let same : (eqb depth depth && eqb depth depth) ≡ true = and_from (eqb depth depth) (eqb depth depth) (eq-eqb depth depth refl) (eq-eqb depth depth refl) in
    then_back (one_of_at c_words) c_operands_at words.For _ place (decimal depth ++ t2) (10 ∷ rest) (word_key (codes "for (uint64_t v") words.For place (decimal depth ++ t2) (inl (refl, refl)) is) (λ q1 e1.
    then_back (number_at above_all) _ depth _ q1 t2 (10 ∷ rest) (number_back depth q1 t2 d refl e1) (λ q2 e2.
    then_back (named_number_at (codes " = 0; v") above_all) _ depth _ q2 t3 (10 ∷ rest) (named_back (codes " = 0; v") depth q2 t3 d refl e2) (λ q3 e3.
    then_back (named_number_at (codes " < ") above_all) _ count _ q3 t4 (10 ∷ rest) (named_back (codes " < ") count q3 t4 k refl e3) (λ q4 e4.
    then_back (named_number_at (codes "; v") above_all) _ depth _ q4 t5 (10 ∷ rest) (named_back (codes "; v") depth q4 t5 d refl e4) (λ q5 e5.
    then_back (word_at (codes "++) {")) _ tt _ q5 (10 ∷ rest) (10 ∷ rest) (word_back (codes "++) {") q5 (10 ∷ rest) e5) (λ q6 e6. (q6, rw same refl, e6)))))))

end_back : (place : Place ℕ) (rest : List ℕ) → place.rest ≡ c_act_text Close ++ (10 ∷ rest) →
    Back c_act_at Close place (10 ∷ rest)
unfolding c_act_at
end_back place rest e =
    then_back (one_of_at c_words) c_operands_at words.End _ place (10 ∷ rest) (10 ∷ rest) (word_key (codes "}") words.End place (10 ∷ rest) (inr (inr (inr (inl (refl, refl))))) e) (λ q1 e1. (q1, refl, e1))

tile_back : (register source : ℕ) → register < above_all → source < above_all → (place : Place ℕ) (rest : List ℕ) →
    place.rest ≡ c_act_text (Do (Tile register source)) ++ (10 ∷ rest) →
    Back c_act_at (Do (Tile register source)) place (10 ∷ rest)
unfolding c_act_at c_op_text tile_loops
tile_back register source a b place rest e =
    let t3 : List ℕ = codes " + l][k];" ++ (10 ∷ rest) in
    let t2 : List ℕ = codes " + k][l] = r[" ++ (decimal source ++ t3) in
    let is : place.rest ≡ codes "for (int k = 0; k < V; k++) for (int l = 0; l < V; l++) r[" ++ (decimal register ++ t2) =
    e ∙ sym (shape_tile tile_loops (codes "r[") (decimal register) (codes " + k][l] = r[") (decimal source) (codes " + l][k];") (10 ∷ rest)) in
    then_back (one_of_at c_words) c_operands_at words.Tile _ place (decimal register ++ t2) (10 ∷ rest) (word_key (codes "for (int k = 0; k < V; k++) for (int l = 0; l < V; l++) r[") words.Tile place (decimal register ++ t2) (inr (inl (refl, refl))) is) (λ q1 e1.
    then_back (number_at above_all) _ register _ q1 t2 (10 ∷ rest) (number_back register q1 t2 a refl e1) (λ q2 e2.
    then_back (named_number_at (codes " + k][l] = r[") above_all) _ source _ q2 t3 (10 ∷ rest) (named_back (codes " + k][l] = r[") source q2 t3 b refl e2) (λ q3 e3.
    then_back (word_at (codes " + l][k];")) _ tt _ q3 (10 ∷ rest) (10 ∷ rest) (word_back (codes " + l][k];") q3 (10 ∷ rest) e3) (λ q4 e4. (q4, refl, e4)))))

-- a line in which a register becomes something
becomes_back : (register : ℕ) → register < above_all → (tail : List ℕ) (act : PlainAct) (place : Place ℕ)
    (rest : List ℕ) → place.rest ≡ becomes_text register ++ tail
    → ((q : Place ℕ) → q.rest ≡ tail → Back (λ p. and_then (one_of_at value_words p) (value_at register)) act q rest) →
    Back c_act_at act place rest
unfolding c_act_at lane_loop
becomes_back register fits tail act place rest e k =
    let t3 : List ℕ = codes "][l] = " ++ tail in
    let t2 : List ℕ = codes "r[" ++ (decimal register ++ t3) in
    let is : place.rest ≡ codes "for (int l = 0; l < V; l++) " ++ t2 = e ∙ sym (shape_becomes lane_loop (codes "r[") (decimal register) (codes "][l]") (codes " = ") tail) in
    then_back (one_of_at c_words) c_operands_at words.Lanes act place t2 rest (word_key (codes "for (int l = 0; l < V; l++) ") words.Lanes place t2 (inr (inr (inl (refl, refl)))) is) (λ q1 e1.
    then_back (one_of_at target_words) target_at None act q1 (decimal register ++ t3) rest (target_key (codes "r[") None q1 (decimal register ++ t3) (inl (refl, refl)) e1) (λ q2 e2.
    then_back (number_at above_all) _ register act q2 t3 rest (number_back register q2 t3 fits refl e2) (λ q3 e3.
    then_back (word_at (codes "][l] = ")) _ tt act q3 tail rest (word_back (codes "][l] = ") q3 tail e3) k)))

-- ---- what a register becomes

zero_back : (register : ℕ) → register < above_all → (place : Place ℕ) (rest : List ℕ) →
    place.rest ≡ c_act_text (Do (Zero register)) ++ (10 ∷ rest) → Back c_act_at (Do (Zero register)) place (10 ∷ rest)
unfolding c_op_text
zero_back register r place rest e =
    becomes_back register r (codes "0;" ++ (10 ∷ rest)) (Do (Zero register)) place (10 ∷ rest) (e ∙ append_assoc (becomes_text register) (codes "0;") (10 ∷ rest)) (λ q e0.
    then_back (one_of_at value_words) (value_at register) values.Zero _ q (10 ∷ rest) (10 ∷ rest) (value_key (codes "0;") values.Zero q (10 ∷ rest) (inl (refl, refl)) e0) (λ q1 e1. (q1, refl, e1)))

-- a function of two registers
call_back : (name : List ℕ) (value : Value) (op : ℕ → ℕ → ℕ → PlainOp) (register left right : ℕ) →
    one_of value_words (name ++ codes "r[") value →
    ((q : Place ℕ) → value_at register value q ≡ call_at register op q)
    → register < above_all → left < above_all → right < above_all → (place : Place ℕ) (rest : List ℕ)
    → place.rest ≡ (becomes_text register ++ name ++ lane_text left ++ codes ", " ++ lane_text right ++ codes ");")
    ++ (10 ∷ rest) → Back c_act_at (Do (op register left right)) place (10 ∷ rest)
call_back name value op register left right l is r a b place rest e =
    let t3 : List ℕ = codes "][l]);" ++ (10 ∷ rest) in
    let t2 : List ℕ = codes "][l], r[" ++ (decimal right ++ t3) in
    let t1 : List ℕ = decimal left ++ t2 in
    becomes_back register r ((name ++ codes "r[") ++ t1) (Do (op register left right)) place (10 ∷ rest)
    (e ∙ sym (shape_call (becomes_text register) name (codes "r[") (decimal left) (codes "][l]") (codes ", ") (decimal right) (codes ");") (10 ∷ rest)) ∙ ap (λ y. becomes_text register ++ y) (sym (append_assoc name (codes "r[") t1))) (λ q e0.
    then_back (one_of_at value_words) (value_at register) value _ q t1 (10 ∷ rest) (value_key (name ++ codes "r[") value q t1 l e0) (λ q1 e1. same_back (value_at register value) (call_at register op) _ q1 (10 ∷ rest) (is q1)
    (then_back (number_at above_all) _ left _ q1 t2 (10 ∷ rest) (number_back left q1 t2 a refl e1) (λ q2 e2.
    then_back (named_number_at (codes "][l], r[") above_all) _ right _ q2 t3 (10 ∷ rest) (named_back (codes "][l], r[") right q2 t3 b refl e2) (λ q3 e3.
    then_back (word_at (codes "][l]);")) _ tt _ q3 (10 ∷ rest) (10 ∷ rest) (word_back (codes "][l]);") q3 (10 ∷ rest) e3) (λ q4 e4. (q4, refl, e4)))))))

neg_back : (register source : ℕ) → register < above_all → source < above_all → (place : Place ℕ) (rest : List ℕ) →
    place.rest ≡ c_act_text (Do (Neg register source)) ++ (10 ∷ rest) →
    Back c_act_at (Do (Neg register source)) place (10 ∷ rest)
unfolding c_op_text
neg_back register source r a place rest e =
    let t2 : List ℕ = codes "][l]);" ++ (10 ∷ rest) in
    let t1 : List ℕ = decimal source ++ t2 in
    becomes_back register r (codes "sub(0, r[" ++ t1) (Do (Neg register source)) place (10 ∷ rest)
    (e ∙ sym (shape_one (becomes_text register) (codes "sub(0, ") (codes "r[") (decimal source) (codes "][l]") (codes ");") (10 ∷ rest))) (λ q e0.
    then_back (one_of_at value_words) (value_at register) values.Neg _ q t1 (10 ∷ rest) (value_key (codes "sub(0, r[") values.Neg q t1 (inr (inr (inl (refl, refl)))) e0) (λ q1 e1.
    then_back (number_at above_all) _ source _ q1 t2 (10 ∷ rest) (number_back source q1 t2 a refl e1) (λ q2 e2.
    then_back (word_at (codes "][l]);")) _ tt _ q2 (10 ∷ rest) (10 ∷ rest) (word_back (codes "][l]);") q2 (10 ∷ rest) e2) (λ q3 e3. (q3, refl, e3)))))

constant_back : (register source factor : ℕ) → register < above_all → source < above_all → factor < above_all →
    (place : Place ℕ) (rest : List ℕ) → place.rest ≡ c_act_text (Do (MulConst register source factor)) ++ (10 ∷ rest) →
    Back c_act_at (Do (MulConst register source factor)) place (10 ∷ rest)
unfolding c_op_text
constant_back register source factor r a b place rest e =
    let t4 : List ℕ = codes ");" ++ (10 ∷ rest) in
    let t3 : List ℕ = decimal factor ++ t4 in
    let t2 : List ℕ = codes "][l], " ++ t3 in
    let t1 : List ℕ = decimal source ++ t2 in
    becomes_back register r (codes "mul(r[" ++ t1) (Do (MulConst register source factor)) place (10 ∷ rest)
    (e ∙ sym (shape_constant (becomes_text register) (codes "mul(") (codes "r[") (decimal source) (codes "][l]") (codes ", ") (decimal factor) (codes ");") (10 ∷ rest))) (λ q e0.
    then_back (one_of_at value_words) (value_at register) values.Mul _ q t1 (10 ∷ rest) (value_key (codes "mul(r[") values.Mul q t1 (inr (inr (inr (inr (inl (refl, refl)))))) e0) (λ q1 e1.
    then_back (number_at above_all) _ source _ q1 t2 (10 ∷ rest) (number_back source q1 t2 a refl e1) (λ q2 e2.
    then_back (word_at (codes "][l], ")) _ tt _ q2 t3 (10 ∷ rest) (word_back (codes "][l], ") q2 t3 e2) (λ q3 e3.
    then_back (one_of_at factor_words) _ false _ q3 t3 (10 ∷ rest) (record { rest = t3; far = q3.far }, ap (λ y. placed q3.far (one_of_in factor_words y)) e3 ∙ no_table factor t4 q3.far b, refl) (λ q4 e4.
    then_back (number_at above_all) _ factor _ q4 t4 (10 ∷ rest) (number_back factor q4 t4 b refl e4) (λ q5 e5.
    then_back (word_at (codes ");")) _ tt _ q5 (10 ∷ rest) (10 ∷ rest) (word_back (codes ");") q5 (10 ∷ rest) e5) (λ q6 e6. (q6, refl, e6))))))))

table_back : (register source table : ℕ) (at : PlainExpr) (step loops : ℕ) → register < above_all → source < above_all →
    table < above_all → step < above_all → is_expr_within at loops ≡ true → loops ≤ 64
    → (place : Place ℕ) (rest : List ℕ) → place.rest ≡ c_act_text (Do (MulTable register source table at step))
    ++ (10 ∷ rest) → Back c_act_at (Do (MulTable register source table at step)) place (10 ∷ rest)
unfolding c_op_text
table_back register source table at step loops r a b d h few place rest e =
    let t7 : List ℕ = codes " * l]);" ++ (10 ∷ rest) in
    let t6 : List ℕ = decimal step ++ t7 in
    let t5 : List ℕ = codes " + " ++ t6 in
    let t4 : List ℕ = sum_text at ++ t5 in
    let t3 : List ℕ = decimal table ++ (codes "[" ++ t4) in
    let t2 : List ℕ = codes "][l], " ++ (codes "t" ++ t3) in
    let t1 : List ℕ = decimal source ++ t2 in
    becomes_back register r (codes "mul(r[" ++ t1) (Do (MulTable register source table at step)) place (10 ∷ rest)
    (e ∙ sym (shape_table (becomes_text register) (codes "mul(") (codes "r[") (decimal source) (codes "][l]") (codes ", t") (decimal table) (codes "[") (sum_text at) (codes " + ") (decimal step) (codes " * l]);") (10 ∷ rest))) (λ q e0.
    then_back (one_of_at value_words) (value_at register) values.Mul _ q t1 (10 ∷ rest) (value_key (codes "mul(r[") values.Mul q t1 (inr (inr (inr (inr (inl (refl, refl)))))) e0) (λ q1 e1.
    then_back (number_at above_all) _ source _ q1 t2 (10 ∷ rest) (number_back source q1 t2 a refl e1) (λ q2 e2.
    then_back (word_at (codes "][l], ")) _ tt _ q2 (codes "t" ++ t3) (10 ∷ rest) (word_back (codes "][l], ") q2 (codes "t" ++ t3) e2) (λ q3 e3.
    then_back (one_of_at factor_words) _ true _ q3 t3 (10 ∷ rest) (record { rest = t3; far = q3.far }, ap (λ y. placed q3.far (one_of_in factor_words y)) e3, refl) (λ q4 e4.
    then_back (number_at above_all) _ table _ q4 (codes "[" ++ t4) (10 ∷ rest) (number_back table q4 (codes "[" ++ t4) b refl e4) (λ q5 e5.
    then_back (word_at (codes "[")) _ tt _ q5 t4 (10 ∷ rest) (word_back (codes "[") q5 t4 e5) (λ q6 e6.
    then_back (sum_at 64) _ at _ q6 t5 (10 ∷ rest) (expr_back at loops h few q6 t5 e6 refl) (λ q7 e7.
    then_back (named_number_at (codes " + ") above_all) _ step _ q7 t7 (10 ∷ rest) (named_back (codes " + ") step q7 t7 d refl e7) (λ q8 e8.
    then_back (word_at (codes " * l]);")) _ tt _ q8 (10 ∷ rest) (10 ∷ rest) (word_back (codes " * l]);") q8 (10 ∷ rest) e8) (λ q9 e9. (q9, refl, e9)))))))))))

-- ---- words of arrays

array_value : (array : Array) → one_of value_words (array_text array ++ codes "[") (values.Load array)
array_value arrays.X = inr (inr (inr (inr (inr (inl (refl, refl))))))
array_value arrays.Y = inr (inr (inr (inr (inr (inr (inl (refl, refl)))))))
array_value arrays.A = inr (inr (inr (inr (inr (inr (inr (inl (refl, refl))))))))
array_value arrays.B = inr (inr (inr (inr (inr (inr (inr (inr (inl (refl, refl)))))))))

array_target : (array : Array) → one_of target_words (array_text array ++ codes "[") (Some array)
array_target arrays.X = inr (inl (refl, refl))
array_target arrays.Y = inr (inr (inl (refl, refl)))
array_target arrays.A = inr (inr (inr (inl (refl, refl))))
array_target arrays.B = inr (inr (inr (inr (inl (refl, refl)))))

load_back : (register : ℕ) (array : Array) (at : PlainExpr) (loops : ℕ) → register < above_all →
    is_expr_within at loops ≡ true → loops ≤ 64
    → (place : Place ℕ) (rest : List ℕ) → place.rest ≡ c_act_text (Do (Load register array at)) ++ (10 ∷ rest) →
    Back c_act_at (Do (Load register array at)) place (10 ∷ rest)
unfolding c_op_text
load_back register array at loops r h few place rest e =
    let t2 : List ℕ = codes " + l];" ++ (10 ∷ rest) in
    let t1 : List ℕ = sum_text at ++ t2 in
    becomes_back register r ((array_text array ++ codes "[") ++ t1) (Do (Load register array at)) place (10 ∷ rest)
    (e ∙ sym (shape_load (becomes_text register) (array_text array) (codes "[") (sum_text at) (codes " + l];") (10 ∷ rest))) (λ q e0.
    then_back (one_of_at value_words) (value_at register) (values.Load array) _ q t1 (10 ∷ rest) (value_key (array_text array ++ codes "[") (values.Load array) q t1 (array_value array) e0) (λ q1 e1.
    then_back (sum_at 64) _ at _ q1 t2 (10 ∷ rest) (expr_back at loops h few q1 t2 e1 refl) (λ q2 e2.
    then_back (word_at (codes " + l];")) _ tt _ q2 (10 ∷ rest) (10 ∷ rest) (word_back (codes " + l];") q2 (10 ∷ rest) e2) (λ q3 e3. (q3, refl, e3)))))

store_back : (array : Array) (at : PlainExpr) (register loops : ℕ) → register < above_all →
    is_expr_within at loops ≡ true → loops ≤ 64
    → (place : Place ℕ) (rest : List ℕ) → place.rest ≡ c_act_text (Do (Store array at register)) ++ (10 ∷ rest) →
    Back c_act_at (Do (Store array at register)) place (10 ∷ rest)
unfolding c_act_at c_op_text lane_loop
store_back array at register loops r h few place rest e =
    let t4 : List ℕ = codes "][l];" ++ (10 ∷ rest) in
    let t3 : List ℕ = codes " + l] = r[" ++ (decimal register ++ t4) in
    let t2 : List ℕ = sum_text at ++ t3 in
    let t1 : List ℕ = (array_text array ++ codes "[") ++ t2 in
    let is : place.rest ≡ codes "for (int l = 0; l < V; l++) " ++ t1 =
    e ∙ sym (shape_store lane_loop (array_text array) (codes "[") (sum_text at) (codes " + l] = ") (codes "r[") (decimal register) (codes "][l]") (codes ";") (10 ∷ rest)) in
    then_back (one_of_at c_words) c_operands_at words.Lanes _ place t1 (10 ∷ rest) (word_key (codes "for (int l = 0; l < V; l++) ") words.Lanes place t1 (inr (inr (inl (refl, refl)))) is) (λ q1 e1.
    then_back (one_of_at target_words) target_at (Some array) _ q1 t2 (10 ∷ rest) (target_key (array_text array ++ codes "[") (Some array) q1 t2 (array_target array) e1) (λ q2 e2.
    then_back (sum_at 64) _ at _ q2 t3 (10 ∷ rest) (expr_back at loops h few q2 t3 e2 refl) (λ q3 e3.
    then_back (named_number_at (codes " + l] = r[") above_all) _ register _ q3 t4 (10 ∷ rest) (named_back (codes " + l] = r[") register q3 t4 r refl e3) (λ q4 e4.
    then_back (word_at (codes "][l];")) _ tt _ q4 (10 ∷ rest) (10 ∷ rest) (word_back (codes "][l];") q4 (10 ∷ rest) e4) (λ q5 e5. (q5, refl, e5))))))

-- ---- a line

op_back : (m loops : ℕ) (op : PlainOp) → m ≤ above_all → loops ≤ 64 → is_op_within m op loops ≡ true →
    (place : Place ℕ) (rest : List ℕ) → place.rest ≡ c_act_text (Do op) ++ (10 ∷ rest) →
    Back c_act_at (Do op) place (10 ∷ rest)
unfolding c_op_text
op_back m loops (Load register array at) below few w place rest e =
    let limits = and_parts (is_small register) (is_expr_within at loops) w in
    load_back register array at loops (small_fits register limits.0) limits.1 few place rest e
op_back m loops (Store array at register) below few w place rest e =
    let limits = and_parts (is_small register) (is_expr_within at loops) w in
    store_back array at register loops (small_fits register limits.0) limits.1 few place rest e
op_back m loops (Zero register) below few w place rest e = zero_back register (small_fits register w) place rest e
op_back m loops (Add register left right) below few w place rest e =
    let limits = and_parts (is_small register) (is_small left && is_small right) w in
    let others = and_parts (is_small left) (is_small right) limits.1 in
    call_back (codes "add(") values.Add Add register left right (inr (inl (refl, refl))) (λ q. refl) (small_fits register limits.0) (small_fits left others.0) (small_fits right others.1) place rest e
op_back m loops (Sub register left right) below few w place rest e =
    let limits = and_parts (is_small register) (is_small left && is_small right) w in
    let others = and_parts (is_small left) (is_small right) limits.1 in
    call_back (codes "sub(") values.Sub Sub register left right (inr (inr (inr (inl (refl, refl))))) (λ q. refl) (small_fits register limits.0) (small_fits left others.0) (small_fits right others.1) place rest e
op_back m loops (Neg register source) below few w place rest e =
    let limits = and_parts (is_small register) (is_small source) w in
    neg_back register source (small_fits register limits.0) (small_fits source limits.1) place rest e
op_back m loops (MulConst register source factor) below few w place rest e =
    let limits = and_parts (is_small register) (is_small source && ltb factor m) w in
    let others = and_parts (is_small source) (ltb factor m) limits.1 in
    constant_back register source factor (small_fits register limits.0) (small_fits source others.0) (omega (arith, ltb-true factor m others.1, below)) place rest e
op_back m loops (MulTable register source table at step) below few w place rest e =
    let l1 = and_parts (is_small register) (is_small source && (is_small table && (ltb step 2 && is_expr_within at loops))) w in
    let l2 = and_parts (is_small source) (is_small table && (ltb step 2 && is_expr_within at loops)) l1.1 in
    let l3 = and_parts (is_small table) (ltb step 2 && is_expr_within at loops) l2.1 in
    let l4 = and_parts (ltb step 2) (is_expr_within at loops) l3.1 in
    table_back register source table at step loops (small_fits register l1.0) (small_fits source l2.0) (small_fits table l3.0) (omega (arith, ltb-true step 2 l4.0)) l4.1 few place rest e
op_back m loops (Tile register source) below few w place rest e =
    let limits = and_parts (is_small register) (is_small source) w in
    tile_back register source (small_fits register limits.0) (small_fits source limits.1) place rest e

act_back : (m loops : ℕ) (act : PlainAct) → m ≤ above_all → loops ≤ 64 → IsActWithin m loops act →
    (place : Place ℕ) (rest : List ℕ) → place.rest ≡ c_act_text act ++ (10 ∷ rest) → Back c_act_at act place (10 ∷ rest)
act_back m loops (Open depth count) below few w place rest e = loop_back depth count w.0 w.1 place rest e
act_back m loops Close below few w place rest e = end_back place rest e
act_back m loops (Do op) below few w place rest e = op_back m loops op below few w place rest e

pub c_line_back : (m loops : ℕ) (act : PlainAct) → m ≤ above_all → loops ≤ 64 → IsActWithin m loops act →
    whole c_line_at (ended_text act) ≡ Ok act
unfolding c_line_at
c_line_back m loops act below few w =
    let h = act_back m loops act below few w (start (ended_text act)) [] refl in
    let z = word_back (codes "\n") h.0 [] h.2 in
    rw (h.1, z.1, z.2) refl
