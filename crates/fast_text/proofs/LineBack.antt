-- The text of a line of a phase is read back.
use Rattle.std.proofs.Common.{◌≡◌, ℕ, zero, suc, ◌+◌, ◌-◌, ◌<◌, ◌≤◌, Bool, true, false, eqb, ltb, ◌&&◌, List, ◌∷◌}
use Rattle.std.proofs.Common.{◌++◌}
use Rattle.std.proofs.Common.{length, codes, decimal, refl, sym, ap, subst, ◌∙◌, arith, inl}
use Rattle.std.proofs.Common.{inr}
use Rattle.std.proofs.lemmas.Bool.{ltb-true, and_parts, eqb-true}
use Rattle.icode.specs.declared.program.Array.{Array}
use Rattle.icode.specs.Plain.{PlainExpr, PlainOp, Load, Store, Zero, Add, Sub, Neg, MulConst, MulTable, Tile}
use Rattle.icode.specs.Limits.{is_small, is_expr_within, is_op_within}
use Rattle.grammar.specs.Grammar.{one_of}
use Rattle.grammar.specs.Reading.{Place, and_then, placed, word_at, number_at, named_number_at, one_of_in, one_of_at}
use Rattle.grammar.proofs.Numbers.{NoDigit}
use Rattle.listing_text.specs.Listing.{array_text}
use Rattle.listing_text.specs.Numbers.{numbered_text}
use Rattle.listing_text.specs.Reading.{above_all}
use Rattle.listing_text.proofs.ReadBack.{Back, then_back, word_back, number_back, named_back, small_fits}
use Rattle.word_code.specs.declared.program.Reduction.{Reduction}
use Rattle.word_code.specs.WordProgram.{Note}
use Rattle.fast_text.specs.WordReading.{index_at, WordAct, Opens, Closes, Reduces, Does, ForHead, EndHead}
use Rattle.fast_text.specs.WordReading.{RegisterHead, StoreHead, TileHead, line_heads, ValueHead, ZeroHead, LoadHead}
use Rattle.fast_text.specs.WordReading.{AddHead, SubHead, NegHead, MulHead, ReducedHead, value_heads, array_heads}
use Rattle.fast_text.specs.WordReading.{factor_heads, splat_heads, plainly, splat_at, factor_at, value_at, line_by}
use Rattle.fast_text.specs.WordReading.{line_at}
use Rattle.fast_text.specs.WordText.{index_text, becomes_text, reduction_text, load_text, store_text}
use Rattle.fast_text.specs.WordText.{addition_text, subtraction_text, negation_text, const_product_text, entries_text}
use Rattle.fast_text.specs.WordText.{table_product_text, sources_text, targets_text, tile_text, word_op_text}
use Rattle.fast_text.specs.WordText.{loop_text}
use Rattle.fast_text.specs.WordTexts.{is_word, is_note_of}
use Rattle.fast_text.proofs.LineParts.{index_back, line_key, value_key, array_back, factor_key, no_entry}
use Rattle.fast_text.proofs.LineParts.{shape_open, shape_zero, shape_reduced, shape_load, shape_store, shape_add}
use Rattle.fast_text.proofs.LineParts.{shape_sub}
use Rattle.fast_text.proofs.LineParts.{shape_neg, shape_constant, shape_entry, shape_row, shape_tile}

module _ (lanes depth : ℕ) where
  -- ---- loops

  pub open_back : (count : ℕ) → count < above_all → (place : Place ℕ) (rest : List ℕ) →
      place.rest ≡ loop_text depth count ++ rest → Back (line_at lanes depth) (Opens count) place rest
  unfolding line_at loop_text
  open_back count k place rest e =
      let d : List ℕ = decimal depth in
      let w1 : List ℕ = d ++ codes " = 0; v" ++ d in
      let w2 : List ℕ = codes "; v" ++ d ++ codes "++) {\n" in
      let t2 : List ℕ = codes " < " ++ (decimal count ++ (w2 ++ rest)) in
      let is : place.rest ≡ codes "for (uint64_t v" ++ (w1 ++ t2) =
      e ∙ shape_open (codes "for (uint64_t v") d (codes " = 0; v") (codes " < ") (decimal count) (codes "; v")
      (codes "++) {\n") rest in
      then_back (one_of_at line_heads) (line_by lanes depth) ForHead _ place (w1 ++ t2) rest
      (line_key (codes "for (uint64_t v") ForHead place (w1 ++ t2) (inl (refl, refl)) is) (λ q1 e1.
      then_back (word_at w1) _ tt _ q1 t2 rest (word_back w1 q1 t2 e1) (λ q2 e2.
      then_back (named_number_at (codes " < ") above_all) _ count _ q2 (w2 ++ rest) rest
      (named_back (codes " < ") count q2 (w2 ++ rest) k refl e2) (λ q3 e3.
      then_back (word_at w2) _ tt _ q3 rest rest (word_back w2 q3 rest e3) (λ q4 e4. (q4, refl, e4)))))

  pub close_back : (place : Place ℕ) (rest : List ℕ) → place.rest ≡ codes "}\n" ++ rest →
      Back (line_at lanes depth) Closes place rest
  unfolding line_at
  close_back place rest e =
      then_back (one_of_at line_heads) (line_by lanes depth) EndHead _ place rest rest
      (line_key (codes "}\n") EndHead place rest (inr (inl (refl, refl))) e) (λ q1 e1. (q1, refl, e1))

  -- ---- what a register becomes

  becomes_back : (register : ℕ) → register < above_all → (tail : List ℕ) (act : WordAct) (place : Place ℕ)
      (rest : List ℕ) → place.rest ≡ codes "r" ++ (decimal register ++ (codes " = " ++ tail))
      → ((q : Place ℕ) → q.rest ≡ tail → Back (λ p. and_then (one_of_at value_heads p) (value_at register)) act q
      rest) →
      Back (line_at lanes depth) act place rest
  unfolding line_at
  becomes_back register fits tail act place rest e k =
      let t2 : List ℕ = codes " = " ++ tail in
      let t1 : List ℕ = decimal register ++ t2 in
      then_back (one_of_at line_heads) (line_by lanes depth) RegisterHead act place t1 rest
      (line_key (codes "r") RegisterHead place t1 (inr (inr (inl (refl, refl)))) e) (λ q1 e1.
      then_back (number_at above_all) _ register act q1 t2 rest (number_back register q1 t2 fits refl e1) (λ q2 e2.
      then_back (word_at (codes " = ")) _ tt act q2 tail rest (word_back (codes " = ") q2 tail e2) k))

  -- a function's name, and what comes after it
  called_back : (register : ℕ) (name : List ℕ) (head : ValueHead) → register < above_all →
      one_of value_heads name head → (tail : List ℕ) (act : WordAct) (place : Place ℕ) (rest : List ℕ) →
      place.rest ≡ codes "r" ++ (decimal register ++ (codes " = " ++ (name ++ tail)))
      → ((q : Place ℕ) → q.rest ≡ tail → Back (value_at register head) act q rest) →
      Back (line_at lanes depth) act place rest
  called_back register name head r l tail act place rest e k =
      becomes_back register r (name ++ tail) act place rest e (λ q e0.
      then_back (one_of_at value_heads) (value_at register) head act q tail rest (value_key name head q tail l e0) k)

  pub reduce_back : (r : Reduction) → r.register < above_all → r.amount < above_all → (place : Place ℕ)
      (rest : List ℕ) → place.rest ≡ reduction_text r ++ rest → Back (line_at lanes depth) (Reduces r) place rest
  unfolding reduction_text
  reduce_back r fits a place rest e =
      let d : List ℕ = decimal r.register in
      let t2 : List ℕ = codes "ULL);\n" ++ rest in
      let t1 : List ℕ = codes ", " ++ (decimal r.amount ++ t2) in
      called_back r.register (codes "reduced(r") ReducedHead fits (inr (inr (inr (inr (inr (inr (inl (refl, refl))))))))
      (d ++ t1) _ place rest
      (e ∙ shape_reduced (codes "r") d (codes " = ") (codes "reduced(") (codes ", ") (decimal r.amount)
      (codes "ULL);\n") rest) (λ q e1.
      then_back (word_at d) _ tt _ q t1 rest (word_back d q t1 e1) (λ q2 e2.
      then_back (named_number_at (codes ", ") above_all) _ r.amount _ q2 t2 rest
      (named_back (codes ", ") r.amount q2 t2 a refl e2) (λ q3 e3.
      then_back (word_at (codes "ULL);\n")) _ tt _ q3 rest rest (word_back (codes "ULL);\n") q3 rest e3)
      (λ q4 e4. (q4, refl, e4)))))

  zero_back : (register : ℕ) → register < above_all → (place : Place ℕ) (rest : List ℕ) →
      place.rest ≡ (becomes_text register ++ codes "splat(0);\n") ++ rest →
      Back (line_at lanes depth) (plainly (Zero register)) place rest
  zero_back register r place rest e =
      called_back register (codes "splat(0);\n") ZeroHead r (inl (refl, refl)) rest _ place rest
      (e ∙ shape_zero (codes "r") (decimal register) (codes " = ") (codes "splat(0);\n") rest) (λ q1 e1. (q1, refl, e1))

  load_back : (register : ℕ) (array : Array) (at : PlainExpr) (loops : ℕ) → register < above_all →
      is_expr_within at loops ≡ true → loops ≤ 64 → (place : Place ℕ) (rest : List ℕ) →
      place.rest ≡ load_text register array at ++ rest →
      Back (line_at lanes depth) (plainly (Load register array at)) place rest
  load_back register array at loops r h few place rest e =
      let t2 : List ℕ = codes ");\n" ++ rest in
      let t1 : List ℕ = index_text at ++ t2 in
      called_back register (codes "load(") LoadHead r (inr (inl (refl, refl)))
      ((array_text array ++ codes " + ") ++ t1) _ place rest
      (e ∙ shape_load (codes "r") (decimal register) (codes " = ") (codes "load(") (array_text array) (codes " + ")
      (index_text at) (codes ");\n") rest) (λ q1 e1.
      then_back (one_of_at array_heads) _ array _ q1 t1 rest (array_back array q1 t1 e1) (λ q2 e2.
      then_back index_at _ at _ q2 t2 rest (index_back at loops h few q2 t2 e2 refl) (λ q3 e3.
      then_back (word_at (codes ");\n")) _ tt _ q3 rest rest (word_back (codes ");\n") q3 rest e3)
      (λ q4 e4. (q4, refl, e4)))))

  store_back : (array : Array) (at : PlainExpr) (register loops : ℕ) → register < above_all →
      is_expr_within at loops ≡ true → loops ≤ 64 → (place : Place ℕ) (rest : List ℕ) →
      place.rest ≡ store_text array at register ++ rest →
      Back (line_at lanes depth) (plainly (Store array at register)) place rest
  unfolding line_at
  store_back array at register loops r h few place rest e =
      let t3 : List ℕ = codes ");\n" ++ rest in
      let t2 : List ℕ = codes ", r" ++ (decimal register ++ t3) in
      let t1 : List ℕ = index_text at ++ t2 in
      let t0 : List ℕ = (array_text array ++ codes " + ") ++ t1 in
      then_back (one_of_at line_heads) (line_by lanes depth) StoreHead _ place t0 rest
      (line_key (codes "store(") StoreHead place t0 (inr (inr (inr (inl (refl, refl)))))
      (e ∙ shape_store (codes "store(") (array_text array) (codes " + ") (index_text at) (codes ", ") (codes "r")
      (decimal register) (codes ");\n") rest)) (λ q1 e1.
      then_back (one_of_at array_heads) _ array _ q1 t1 rest (array_back array q1 t1 e1) (λ q2 e2.
      then_back index_at _ at _ q2 t2 rest (index_back at loops h few q2 t2 e2 refl) (λ q3 e3.
      then_back (named_number_at (codes ", r") above_all) _ register _ q3 t3 rest
      (named_back (codes ", r") register q3 t3 r refl e3) (λ q4 e4.
      then_back (word_at (codes ");\n")) _ tt _ q4 rest rest (word_back (codes ");\n") q4 rest e4)
      (λ q5 e5. (q5, refl, e5))))))

  add_back : (register left right : ℕ) → register < above_all → left < above_all → right < above_all →
      (place : Place ℕ) (rest : List ℕ) → place.rest ≡ addition_text register left right ++ rest →
      Back (line_at lanes depth) (plainly (Add register left right)) place rest
  add_back register left right r a b place rest e =
      let t2 : List ℕ = codes ");\n" ++ rest in
      let t1 : List ℕ = codes ", r" ++ (decimal right ++ t2) in
      called_back register (codes "add(r") AddHead r (inr (inr (inl (refl, refl)))) (decimal left ++ t1) _ place rest
      (e ∙ shape_add (codes "r") (decimal register) (codes " = ") (codes "add(") (decimal left) (codes ", ")
      (decimal right) (codes ");\n") rest) (λ q e0.
      then_back (number_at above_all) _ left _ q t1 rest (number_back left q t1 a refl e0) (λ q1 e1.
      then_back (named_number_at (codes ", r") above_all) _ right _ q1 t2 rest
      (named_back (codes ", r") right q1 t2 b refl e1) (λ q2 e2.
      then_back (word_at (codes ");\n")) _ tt _ q2 rest rest (word_back (codes ");\n") q2 rest e2)
      (λ q3 e3. (q3, refl, e3)))))

  sub_back : (register left right bias : ℕ) → register < above_all → left < above_all → right < above_all →
      bias < above_all → (place : Place ℕ) (rest : List ℕ) →
      place.rest ≡ subtraction_text register left right bias ++ rest →
      Back (line_at lanes depth) (Does bias 0 (Sub register left right)) place rest
  sub_back register left right bias r a b k place rest e =
      let t3 : List ℕ = codes "ULL);\n" ++ rest in
      let t2 : List ℕ = codes ", " ++ (decimal bias ++ t3) in
      let t1 : List ℕ = codes ", r" ++ (decimal right ++ t2) in
      called_back register (codes "sub(r") SubHead r (inr (inr (inr (inl (refl, refl))))) (decimal left ++ t1) _
      place rest
      (e ∙ shape_sub (codes "r") (decimal register) (codes " = ") (codes "sub(") (decimal left) (codes ", ")
      (decimal right) (decimal bias) (codes "ULL);\n") rest) (λ q e0.
      then_back (number_at above_all) _ left _ q t1 rest (number_back left q t1 a refl e0) (λ q1 e1.
      then_back (named_number_at (codes ", r") above_all) _ right _ q1 t2 rest
      (named_back (codes ", r") right q1 t2 b refl e1) (λ q2 e2.
      then_back (named_number_at (codes ", ") above_all) _ bias _ q2 t3 rest
      (named_back (codes ", ") bias q2 t3 k refl e2) (λ q3 e3.
      then_back (word_at (codes "ULL);\n")) _ tt _ q3 rest rest (word_back (codes "ULL);\n") q3 rest e3)
      (λ q4 e4. (q4, refl, e4))))))

  neg_back : (register source bias : ℕ) → register < above_all → source < above_all → bias < above_all →
      (place : Place ℕ) (rest : List ℕ) → place.rest ≡ negation_text register source bias ++ rest →
      Back (line_at lanes depth) (Does bias 0 (Neg register source)) place rest
  neg_back register source bias r a k place rest e =
      let t2 : List ℕ = codes "ULL);\n" ++ rest in
      let t1 : List ℕ = codes ", " ++ (decimal bias ++ t2) in
      called_back register (codes "neg(r") NegHead r (inr (inr (inr (inr (inl (refl, refl))))))
      (decimal source ++ t1) _ place rest
      (e ∙ shape_neg (codes "r") (decimal register) (codes " = ") (codes "neg(") (decimal source) (codes ", ")
      (decimal bias) (codes "ULL);\n") rest) (λ q e0.
      then_back (number_at above_all) _ source _ q t1 rest (number_back source q t1 a refl e0) (λ q1 e1.
      then_back (named_number_at (codes ", ") above_all) _ bias _ q1 t2 rest
      (named_back (codes ", ") bias q1 t2 k refl e1) (λ q2 e2.
      then_back (word_at (codes "ULL);\n")) _ tt _ q2 rest rest (word_back (codes "ULL);\n") q2 rest e2)
      (λ q3 e3. (q3, refl, e3)))))

  -- ---- products

  -- the source, and how the factors begin
  mul_back : (register source : ℕ) → register < above_all → source < above_all → (head : List ℕ) (is_row : Bool)
      (tail : List ℕ) (act : WordAct) (place : Place ℕ) (rest : List ℕ) → one_of factor_heads head is_row →
      NoDigit (head ++ tail) →
      place.rest ≡ codes "r" ++ (decimal register ++ (codes " = " ++
      (codes "mul(r" ++ (decimal source ++ (head ++ tail)))))
      → ((q : Place ℕ) → q.rest ≡ tail → Back (factor_at register source is_row) act q rest) →
      Back (line_at lanes depth) act place rest
  mul_back register source r a head is_row tail act place rest l none e k =
      called_back register (codes "mul(r") MulHead r (inr (inr (inr (inr (inr (inl (refl, refl)))))))
      (decimal source ++ (head ++ tail)) act place rest e (λ q e0.
      then_back (number_at above_all) _ source act q (head ++ tail) rest
      (number_back source q (head ++ tail) a none e0) (λ q1 e1.
      then_back (one_of_at factor_heads) (factor_at register source) is_row act q1 tail rest
      (factor_key head is_row q1 tail l e1) k))

  constant_back : (register source factor quotient : ℕ) → register < above_all → source < above_all →
      factor < above_all → quotient < above_all → (place : Place ℕ) (rest : List ℕ) →
      place.rest ≡ const_product_text register source factor quotient ++ rest →
      Back (line_at lanes depth) (Does 0 quotient (MulConst register source factor)) place rest
  constant_back register source factor quotient r a c k place rest e =
      let t3 : List ℕ = codes "ULL));\n" ++ rest in
      let t2 : List ℕ = codes "ULL), splat(" ++ (decimal quotient ++ t3) in
      let t1 : List ℕ = decimal factor ++ t2 in
      mul_back register source r a (codes ", splat(") false t1 _ place rest (inl (refl, refl)) refl
      (e ∙ shape_constant (codes "r") (decimal register) (codes " = ") (codes "mul(") (decimal source)
      (codes ", splat(") (decimal factor) (codes "ULL)")
      (decimal quotient) (codes "ULL));\n") rest) (λ q e0.
      then_back (one_of_at splat_heads) (splat_at register source) false _ q t1 rest (
        record { rest = t1; far = q.far },
        ap (λ y. placed q.far (one_of_in splat_heads y)) e0 ∙ no_entry factor t2
            q.far c,
        refl,
      ) (λ q1 e1.
      then_back (number_at above_all) _ factor _ q1 t2 rest (number_back factor q1 t2 c refl e1) (λ q2 e2.
      then_back (named_number_at (codes "ULL), splat(") above_all) _ quotient _ q2 t3 rest
      (named_back (codes "ULL), splat(") quotient q2 t3 k refl e2) (λ q3 e3.
      then_back (word_at (codes "ULL));\n")) _ tt _ q3 rest rest (word_back (codes "ULL));\n") q3 rest e3)
      (λ q4 e4. (q4, refl, e4))))))

  entry_back : (register source table : ℕ) (at : PlainExpr) (loops : ℕ) → register < above_all → source < above_all →
      table < above_all → is_expr_within at loops ≡ true → loops ≤ 64 → (place : Place ℕ) (rest : List ℕ) →
      place.rest ≡ table_product_text register source table at 0 ++ rest →
      Back (line_at lanes depth) (plainly (MulTable register source table at 0)) place rest
  entry_back register source table at loops r a b h few place rest e =
      let entries : List ℕ = entries_text (codes "u") table at 0 in
      let quotients : List ℕ = codes ", " ++ entries ++ codes ");\n" in
      let t4 : List ℕ = codes "])" ++ (quotients ++ rest) in
      let t3 : List ℕ = index_text at ++ t4 in
      let t2 : List ℕ = codes "[" ++ t3 in
      let t1 : List ℕ = codes "t" ++ (decimal table ++ t2) in
      mul_back register source r a (codes ", splat(") false t1 _ place rest (inl (refl, refl)) refl
      (e ∙ shape_entry (codes "r") (decimal register) (codes " = ") (codes "mul(") (decimal source) (codes ", ")
      (codes "splat(") (codes "t") (decimal table)
      (codes "[") (index_text at) (codes "])") entries (codes ");\n") rest) (λ q e0.
      then_back (one_of_at splat_heads) (splat_at register source) true _ q (decimal table ++ t2) rest
      (record { rest = decimal table ++ t2; far = q.far }, ap (λ y. placed q.far (one_of_in splat_heads y)) e0, refl)
      (λ q1 e1.
      then_back (number_at above_all) _ table _ q1 t2 rest (number_back table q1 t2 b refl e1) (λ q2 e2.
      then_back (word_at (codes "[")) _ tt _ q2 t3 rest (word_back (codes "[") q2 t3 e2) (λ q3 e3.
      then_back index_at _ at _ q3 t4 rest (index_back at loops h few q3 t4 e3 refl) (λ q4 e4.
      then_back (word_at (codes "])")) _ tt _ q4 (quotients ++ rest) rest
      (word_back (codes "])") q4 (quotients ++ rest) e4) (λ q5 e5.
      then_back (word_at quotients) _ tt _ q5 rest rest (word_back quotients q5 rest e5) (λ q6 e6. (q6, refl, e6))))))))

  row_back : (register source table : ℕ) (at : PlainExpr) (loops : ℕ) → register < above_all → source < above_all →
      table < above_all → is_expr_within at loops ≡ true → loops ≤ 64 → (place : Place ℕ) (rest : List ℕ) →
      place.rest ≡ table_product_text register source table at 1 ++ rest →
      Back (line_at lanes depth) (plainly (MulTable register source table at 1)) place rest
  row_back register source table at loops r a b h few place rest e =
      let entries : List ℕ = entries_text (codes "u") table at 1 in
      let quotients : List ℕ = codes ", " ++ entries ++ codes ");\n" in
      let t4 : List ℕ = codes ")" ++ (quotients ++ rest) in
      let t3 : List ℕ = index_text at ++ t4 in
      let t2 : List ℕ = codes " + " ++ t3 in
      mul_back register source r a (codes ", load(t") true (decimal table ++ t2) _ place rest
      (inr (inl (refl, refl))) refl
      (e ∙ shape_row (codes "r") (decimal register) (codes " = ") (codes "mul(") (decimal source) (codes ", ")
      (codes "load(") (codes "t") (decimal table)
      (codes " + ") (index_text at) (codes ")") entries (codes ");\n") rest) (λ q e0.
      then_back (number_at above_all) _ table _ q t2 rest (number_back table q t2 b refl e0) (λ q1 e1.
      then_back (word_at (codes " + ")) _ tt _ q1 t3 rest (word_back (codes " + ") q1 t3 e1) (λ q2 e2.
      then_back index_at _ at _ q2 t4 rest (index_back at loops h few q2 t4 e2 refl) (λ q3 e3.
      then_back (word_at (codes ")")) _ tt _ q3 (quotients ++ rest) rest
      (word_back (codes ")") q3 (quotients ++ rest) e3) (λ q4 e4.
      then_back (word_at quotients) _ tt _ q4 rest rest (word_back quotients q4 rest e4) (λ q5 e5. (q5, refl, e5)))))))

  table_back : (register source table : ℕ) (at : PlainExpr) (step loops : ℕ) → register < above_all →
      source < above_all → table < above_all → step < 2 → is_expr_within at loops ≡ true → loops ≤ 64
      → (place : Place ℕ) (rest : List ℕ) → place.rest ≡ table_product_text register source table at step ++ rest →
      Back (line_at lanes depth) (plainly (MulTable register source table at step)) place rest
  table_back register source table at zero loops r a b d h few place rest e =
      entry_back register source table at loops r a b h few place rest e
  table_back register source table at (suc zero) loops r a b d h few place rest e =
      row_back register source table at loops r a b h few place rest e
  table_back register source table at (suc (suc step)) loops r a b d h few place rest e = absurd (omega (arith, d))

  -- ---- tiles

  tile_back : (register source : ℕ) → 1 ≤ lanes → register < above_all → source < above_all → (place : Place ℕ)
      (rest : List ℕ) → place.rest ≡ tile_text lanes register source ++ rest →
      Back (line_at lanes depth) (plainly (Tile register source)) place rest
  unfolding line_at tile_text
  tile_back register source some r a place rest e =
      let others : List ℕ = sources_text (lanes - 1) (source + 1) in
      let targets : List ℕ = targets_text (lanes - 1) (register + 1) 1 in
      let w1 : List ℕ = codes "," ++ others ++ codes "}; tile(b); r" in
      let w2 : List ℕ = numbered_text (codes " = b[") 0 (codes "]; ") ++ targets ++ codes "}\n" in
      let t2 : List ℕ = decimal register ++ (w2 ++ rest) in
      let counted : lanes ≡ suc (lanes - 1) = omega (arith, some) in
      let all : ℕ → List ℕ = λ n. codes "{ vec b[] = {" ++ sources_text n source ++ codes "}; tile(b); " ++
      targets_text n register 0 ++ codes "}\n" in
      let is : place.rest ≡ codes "{ vec b[] = {r" ++ (decimal source ++ (w1 ++ t2)) =
      e ∙ ap (λ n. all n ++ rest) counted
      ∙ shape_tile (codes "{ vec b[] = {") (codes "r") (decimal source) (codes ",") others (codes "}; tile(b); ")
      (decimal register) (codes " = ")
      (codes "b[") (decimal 0) (codes "]; ") targets (codes "}\n") rest in
      then_back (one_of_at line_heads) (line_by lanes depth) TileHead _ place (decimal source ++ (w1 ++ t2)) rest
      (line_key (codes "{ vec b[] = {r") TileHead place (decimal source ++ (w1 ++ t2))
      (inr (inr (inr (inr (inl (refl, refl)))))) is) (λ q1 e1.
      then_back (number_at above_all) _ source _ q1 (w1 ++ t2) rest (number_back source q1 (w1 ++ t2) a refl e1)
      (λ q2 e2.
      then_back (word_at w1) _ tt _ q2 t2 rest (word_back w1 q2 t2 e2) (λ q3 e3.
      then_back (number_at above_all) _ register _ q3 (w2 ++ rest) rest
      (number_back register q3 (w2 ++ rest) r refl e3) (λ q4 e4.
      then_back (word_at w2) _ tt _ q4 rest rest (word_back w2 q4 rest e4) (λ q5 e5. (q5, refl, e5))))))

  -- ---- an operation

  -- one without a bias and without a quotient
  plain_back : (op : PlainOp) (note : Note) (place : Place ℕ) (rest : List ℕ) →
      (eqb note.bias 0 && eqb note.quotient 0) ≡ true → Back (line_at lanes depth) (plainly op) place rest →
      Back (line_at lanes depth) (Does note.bias note.quotient op) place rest
  plain_back op note place rest h back =
      let none = and_parts (eqb note.bias 0) (eqb note.quotient 0) h in
      subst (λ b. Back (line_at lanes depth) (Does b note.quotient op) place rest) (sym (eqb-true note.bias 0 none.0))
      (subst (λ q. Back (line_at lanes depth) (Does 0 q op) place rest) (sym (eqb-true note.quotient 0 none.1)) back)

  pub op_back : (m loops : ℕ) (op : PlainOp) (note : Note) → m ≤ above_all → loops ≤ 64 → 1 ≤ lanes →
      is_op_within m op loops ≡ true → is_note_of op note ≡ true → (place : Place ℕ) (rest : List ℕ) →
      place.rest ≡ word_op_text lanes note op ++ rest →
      Back (line_at lanes depth) (Does note.bias note.quotient op) place rest
  unfolding word_op_text
  op_back m loops (Load register array at) note below few some w h place rest e =
      let limits = and_parts (is_small register) (is_expr_within at loops) w in
      plain_back _ note place rest h (load_back register array at loops (small_fits register limits.0) limits.1 few
      place rest e)
  op_back m loops (Store array at register) note below few some w h place rest e =
      let limits = and_parts (is_small register) (is_expr_within at loops) w in
      plain_back _ note place rest h (store_back array at register loops (small_fits register limits.0) limits.1 few
      place rest e)
  op_back m loops (Zero register) note below few some w h place rest e =
      plain_back _ note place rest h (zero_back register (small_fits register w) place rest e)
  op_back m loops (Add register left right) note below few some w h place rest e =
      let limits = and_parts (is_small register) (is_small left && is_small right) w in
      let others = and_parts (is_small left) (is_small right) limits.1 in
      plain_back _ note place rest h
      (add_back register left right (small_fits register limits.0) (small_fits left others.0)
      (small_fits right others.1) place rest e)
  op_back m loops (Sub register left right) note below few some w h place rest e =
      let limits = and_parts (is_small register) (is_small left && is_small right) w in
      let others = and_parts (is_small left) (is_small right) limits.1 in
      let noted = and_parts (is_word note.bias) (eqb note.quotient 0) h in
      subst (λ q. Back (line_at lanes depth) (Does note.bias q (Sub register left right)) place rest)
      (sym (eqb-true note.quotient 0 noted.1))
      (sub_back register left right note.bias (small_fits register limits.0) (small_fits left others.0)
      (small_fits right others.1)
      (ltb-true note.bias above_all noted.0) place rest e)
  op_back m loops (Neg register source) note below few some w h place rest e =
      let limits = and_parts (is_small register) (is_small source) w in
      let noted = and_parts (is_word note.bias) (eqb note.quotient 0) h in
      subst (λ q. Back (line_at lanes depth) (Does note.bias q (Neg register source)) place rest)
      (sym (eqb-true note.quotient 0 noted.1))
      (neg_back register source note.bias (small_fits register limits.0) (small_fits source limits.1)
      (ltb-true note.bias above_all noted.0) place rest e)
  op_back m loops (MulConst register source factor) note below few some w h place rest e =
      let limits = and_parts (is_small register) (is_small source && ltb factor m) w in
      let others = and_parts (is_small source) (ltb factor m) limits.1 in
      let noted = and_parts (eqb note.bias 0) (is_word note.quotient) h in
      subst (λ b. Back (line_at lanes depth) (Does b note.quotient (MulConst register source factor)) place rest)
      (sym (eqb-true note.bias 0 noted.0))
      (constant_back register source factor note.quotient (small_fits register limits.0) (small_fits source others.0)
      (omega (arith, ltb-true factor m others.1, below)) (ltb-true note.quotient above_all noted.1) place rest e)
  op_back m loops (MulTable register source table at step) note below few some w h place rest e =
      let l1 = and_parts (is_small register) (is_small source &&
      (is_small table && (ltb step 2 && is_expr_within at loops))) w in
      let l2 = and_parts (is_small source) (is_small table && (ltb step 2 && is_expr_within at loops)) l1.1 in
      let l3 = and_parts (is_small table) (ltb step 2 && is_expr_within at loops) l2.1 in
      let l4 = and_parts (ltb step 2) (is_expr_within at loops) l3.1 in
      plain_back _ note place rest h
      (table_back register source table at step loops (small_fits register l1.0) (small_fits source l2.0)
      (small_fits table l3.0)
      (ltb-true step 2 l4.0) l4.1 few place rest e)
  op_back m loops (Tile register source) note below few some w h place rest e =
      let limits = and_parts (is_small register) (is_small source) w in
      plain_back _ note place rest h
      (tile_back register source some (small_fits register limits.0) (small_fits source limits.1) place rest e)

  -- no line is empty
  long_by : (text : List ℕ) (b : ℕ) (bs : List ℕ) → text ≡ b ∷ bs → 1 ≤ length text
  long_by text b bs e = omega (arith, ap length e)

  pub op_long : (note : Note) (op : PlainOp) → 1 ≤ length (word_op_text lanes note op)
  unfolding word_op_text tile_text
  op_long note (Load register array at) = long_by (load_text register array at) _ _ refl
  op_long note (Store array at register) = long_by (store_text array at register) _ _ refl
  op_long note (Zero register) = long_by (becomes_text register ++ codes "splat(0);\n") _ _ refl
  op_long note (Add register left right) = long_by (addition_text register left right) _ _ refl
  op_long note (Sub register left right) = long_by (subtraction_text register left right note.bias) _ _ refl
  op_long note (Neg register source) = long_by (negation_text register source note.bias) _ _ refl
  op_long note (MulConst register source factor) = long_by (const_product_text register source factor note.quotient)
      _ _ refl
  op_long note (MulTable register source table at step) = long_by (table_product_text register source table at step)
      _ _ refl
  op_long note (Tile register source) = long_by (tile_text lanes register source) _ _ refl

  pub open_long : (count : ℕ) → 1 ≤ length (loop_text depth count)
  unfolding loop_text
  open_long count = long_by (loop_text depth count) _ _ refl

  pub reduce_long : (r : Reduction) → 1 ≤ length (reduction_text r)
  unfolding reduction_text
  reduce_long r = long_by (reduction_text r) _ _ refl
