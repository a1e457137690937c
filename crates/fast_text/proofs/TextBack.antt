-- The whole text of a program on words is read back.
use Rattle.std.proofs.Common.{◌≡◌, ℕ, ◌≤◌, true, false, ltb, ◌&&◌, List, [], ◌∷◌, ◌++◌, length, map, codes, decimal}
use Rattle.std.proofs.Common.{Bool, Ok, Result, inl, inr}
use Rattle.std.proofs.Common.{Err, refl, sym, ap, subst, ◌∙◌, append_assoc, arith}
use Rattle.std.specs.List.{list_all}
use Rattle.std.proofs.lemmas.Bool.{ltb-true, lt-ltb, and_parts}
use Rattle.std.proofs.lemmas.List.{append-nil}
use Rattle.icode.specs.Limits.{is_body_within}
use Rattle.icode.specs.Plain.{PlainBody}
use Rattle.grammar.specs.Grammar.{one_of}
use Rattle.grammar.specs.Reading.{Place, start, whole, word_in, word_at, named_number_at, one_of_at}
use Rattle.grammar.proofs.Parts.{Anything, one_of_reader}
use Rattle.grammar.proofs.Whole.{again}
use Rattle.grammar.proofs.Words.{all_differ}
use Rattle.listing_text.specs.Drafts.{header_at}
use Rattle.listing_text.specs.Reading.{above_all}
use Rattle.listing_text.specs.Wording.{header_of, program_of}
use Rattle.listing_text.proofs.OutsideLines.{whole_back}
use Rattle.listing_text.proofs.ReadBack.{Back, then_back, word_back, named_back}
use Rattle.word_code.specs.Bare.{bare_body}
use Rattle.word_code.specs.WordProgram.{WordBody, PlainWordProgram}
use Rattle.fast_text.specs.FunctionText.{static_phase_text, parameters_text, functions_to_link_text}
use Rattle.fast_text.specs.FirstValues.{first_values_text, own_arrays_text, callers_arrays_text}
use Rattle.fast_text.specs.TextForm.{TextForm, with_arrays, named_function, named_header}
use Rattle.fast_text.specs.TextForm.{named_product, named_product_header}
use Rattle.fast_text.specs.WordFront.{functions_text, sizes_text, rough_text, arrays_text}
use Rattle.fast_text.specs.WordReading.{Front, table_at, phases_at, all_from_0, rough_words, sizes_of, front_at, words_of}
use Rattle.fast_text.specs.WordReading.{either_of, own_first_values, callers_first_values, words_at}
use Rattle.fast_text.specs.WordText.{word_header_text, word_tables_text, word_phases_text, words_of_array, words_text}
use Rattle.fast_text.specs.WordText.{front_text, all_phases_text}
use Rattle.fast_text.specs.WordTexts.{is_word, IsSpellable, IsReadAs, HasStatements}
use Rattle.fast_text.proofs.WordsBack.{IsNoTable, all_weaker, tables_back, quotients_are_none, header_back, sizes_are}
use Rattle.fast_text.proofs.WordsBack.{rough_back, phases_back}

-- ---- the parts of a text

abbrev factors_of : PlainWordProgram → List ℕ
factors_of p = word_tables_text (codes "t") 0 p.frame.tables

abbrev quotients_of : PlainWordProgram → List ℕ
quotients_of p = word_tables_text (codes "u") 0 p.quotients

shape_of_front : (a b c d e rest : List ℕ) → (a ++ b ++ c ++ d ++ e) ++ rest ≡ a
    ++ (b ++ (c ++ (d ++ (e ++ rest))))
shape_of_front a b c d e rest = simp append_assoc

shape_of_parts : (a b c d : List ℕ) → a ++ b ++ c ++ d ≡ a ++ (b ++ (c ++ (d ++ [])))
shape_of_parts a b c d = simp (append_assoc, append-nil)

-- what stands between the front and the end of a text
abbrev own_values : Bool → List ℕ
own_values fresh = first_values_text own_arrays_text fresh

abbrev callers_values : Bool → List ℕ
callers_values fresh = first_values_text (callers_arrays_text fresh) fresh

-- a function's phases are no table, where what comes after them is none
phases_are_none : (name : List ℕ) (lanes regs : ℕ) (phases : List WordBody) (after : List ℕ) → IsNoTable after →
    IsNoTable (word_phases_text (static_phase_text name) parameters_text lanes regs 0 phases ++ after)
phases_are_none name lanes regs [] after none w = none w
phases_are_none name lanes regs (body ∷ phases) after none w = (_, refl)

either_back : (text : Bool → List ℕ) → all_differ (either_of text) ≡ true → (fresh : Bool) (place : Place ℕ)
    (rest : List ℕ) → place.rest ≡ text fresh ++ rest → Back (one_of_at (either_of text)) fresh place rest
either_back text differ fresh place rest e =
    again Anything (one_of (either_of text)) (one_of_at (either_of text))
    (one_of_reader Anything (text true, true) ((text false, false) ∷ []) differ)
    place (text fresh) rest fresh (is fresh) tt e
  where
    is : (k : Bool) → one_of (either_of text) (text k) k
    is true = inl (refl, refl)
    is false = inr (inl (refl, refl))

-- ---- the program

abbrev with_frame_phases : PlainWordProgram → List PlainBody → PlainWordProgram
with_frame_phases p phases =
    record {
      width = p.width;
      frame = program_of (header_of p.frame) p.frame.tables phases;
      quotients = p.quotients;
      phases = p.phases;
    }

abbrev front_of : PlainWordProgram → Front
front_of p =
    record { header = header_of p.frame; width = p.width; tables = p.frame.tables; quotients = p.quotients }

module _ (p : PlainWordProgram) (s : IsSpellable p) where
  modulus_below : p.frame.modulus ≤ above_all
  modulus_below = omega (arith, s.within.header.of_modulus.1)

  some_lanes : 1 ≤ p.frame.lanes
  some_lanes = s.within.header.of_lanes.0

  factor_is_word : (c : ℕ) → ltb c p.frame.modulus ≡ true → is_word c ≡ true
  factor_is_word c h = lt-ltb c above_all (omega (arith, ltb-true c p.frame.modulus h, modulus_below))

  factors_are_words : list_all (λ entries. list_all is_word entries) p.frame.tables ≡ true
  factors_are_words =
      all_weaker (λ entries. ltb 0 (length entries) && list_all (λ c. ltb c p.frame.modulus) entries)
      (λ entries. list_all is_word entries)
      (λ entries h. all_weaker (λ c. ltb c p.frame.modulus) is_word factor_is_word entries
      (and_parts (ltb 0 (length entries)) (list_all (λ c. ltb c p.frame.modulus) entries) h).1)
      p.frame.tables s.within.constants

  bodies_are_within : list_all (λ body. is_body_within p.frame.modulus body 0) (map bare_body p.phases) ≡ true
  bodies_are_within =
      (and_parts (ltb 0 (length (map bare_body p.phases)))
      (list_all (λ body. is_body_within p.frame.modulus body 0) (map bare_body p.phases)) s.within.statements).1

  front_back : (place : Place ℕ) (rest : List ℕ) → IsNoTable rest → place.rest ≡ front_text p ++ rest →
      Back front_at (front_of p) place rest
  unfolding front_at
  front_back place rest none e =
      let h = header_of p.frame in
      let made = front_of p in
      let r6 : List ℕ = quotients_of p ++ rest in
      let r5 : List ℕ = factors_of p ++ r6 in
      let r4 : List ℕ = functions_text ++ r5 in
      let r3 : List ℕ = rough_text p.width.rough ++ r4 in
      let r2 : List ℕ = codes "\n" ++ r3 in
      let r1 : List ℕ = codes "#define HALF " ++ (decimal p.width.half ++ r2) in
      let r0 : List ℕ = sizes_text p.width p.frame.modulus p.frame.lanes ++ r4 in
      then_back (header_at (codes "/* program size ") (codes " */\n")) _ h made place r0 rest
      (header_back p s.within.header place r0
      (e ∙ shape_of_front (word_header_text p) (sizes_text p.width p.frame.modulus p.frame.lanes) functions_text
      (factors_of p) (quotients_of p) rest)) (λ q1 e1.
      then_back (word_at (sizes_of h)) _ tt made q1 r1 rest (word_back (sizes_of h) q1 r1 (e1 ∙ sizes_are p r4))
      (λ q2 e2.
      then_back (named_number_at (codes "#define HALF ") above_all) _ p.width.half made q2 r2 rest
      (named_back (codes "#define HALF ") p.width.half q2 r2 (ltb-true p.width.half above_all s.half) refl e2)
      (λ q3 e3.
      then_back (word_at (codes "\n")) _ tt made q3 r3 rest (word_back (codes "\n") q3 r3 e3) (λ q4 e4.
      then_back (one_of_at rough_words) _ p.width.rough made q4 r4 rest (rough_back p.width.rough q4 r4 e4) (λ q5 e5.
      then_back (word_at functions_text) _ tt made q5 r5 rest (word_back functions_text q5 r5 e5) (λ q6 e6.
      then_back (all_from_0 (table_at (codes "t"))) _ p.frame.tables made q6 r6 rest
      (tables_back (codes "t") p.frame.tables factors_are_words r6 (quotients_are_none p.quotients rest none) q6 e6)
      (λ q7 e7.
      then_back (all_from_0 (table_at (codes "u"))) _ p.quotients made q7 rest rest
      (tables_back (codes "u") p.quotients s.quotients rest (λ w. none (codes "u" ++ w)) q7 e7)
      (λ q8 e8. (q8, refl, e8)))))))))

  some_phases_back : (before behind : List ℕ) (after : List ℕ)
      → ((w : List ℕ) → (left : ℕ) × (word_in (before ++ w) after ≡ Err left)) → (place : Place ℕ) →
      place.rest ≡ all_phases_text before behind p ++ after →
      Back (phases_at before behind (header_of p.frame)) p.phases place after
  some_phases_back before behind after none place e =
      phases_back before behind p.frame.lanes p.frame.regs p.frame.modulus p.phases modulus_below some_lanes
      bodies_are_within s.notes after none place e

  module _ (fresh : Bool) where
    abbrev made : Bool × PlainWordProgram
    made = (fresh, with_frame_phases p [])

    arrays_back : Back (words_at with_arrays) made (start (words_text with_arrays fresh p)) []
    unfolding words_at
    arrays_back =
        let front = front_of p in
        let arrays = arrays_text (words_of_array p) in
        let before = codes "void phase" in
        let behind = codes "(uint64_t q) {\n(void)q;\n" in
        let r2 : List ℕ = all_phases_text before behind p ++ [] in
        let r1 : List ℕ = arrays ++ r2 in
        let r0 : List ℕ = own_values fresh ++ r1 in
        let place = start (words_text with_arrays fresh p) in
        then_back front_at _ front made place r0 []
        (front_back place r0 (λ w. (_, refl))
        (shape_of_parts (front_text p) (own_values fresh) arrays (all_phases_text before behind p))) (λ q1 e1.
        then_back (one_of_at own_first_values) _ fresh made q1 r1 [] (either_back own_values refl fresh q1 r1 e1) (λ q2 e2.
        then_back (word_at arrays) _ tt made q2 r2 [] (word_back arrays q2 r2 e2) (λ q3 e3.
        then_back (phases_at before behind front.header) _ p.phases made q3 [] []
        (some_phases_back before behind [] (λ w. (_, refl)) q3 e3)
        (λ q4 e4. (q4, refl, e4)))))

    function_back : (name : List ℕ) →
        Back (words_at (named_function name)) made (start (words_text (named_function name) fresh p)) []
    unfolding words_at
    function_back name =
        let front = front_of p in
        let end = functions_to_link_text name (words_of_array p) p.frame.procs (length p.phases) in
        let before = static_phase_text name in
        let phases = all_phases_text before parameters_text p in
        let r2 : List ℕ = end ++ [] in
        let r1 : List ℕ = callers_values fresh ++ r2 in
        let r0 : List ℕ = phases ++ r1 in
        let place = start (words_text (named_function name) fresh p) in
        then_back front_at _ front made place r0 []
        (front_back place r0
        (phases_are_none name p.frame.lanes p.frame.regs p.phases r1 (λ w. (_, refl)))
        (shape_of_parts (front_text p) phases (callers_values fresh) end)) (λ q1 e1.
        then_back (phases_at before parameters_text front.header) _ p.phases made q1 r1 []
        (some_phases_back before parameters_text r1 (λ w. (_, refl)) q1 e1) (λ q2 e2.
        then_back (one_of_at callers_first_values) _ fresh made q2 r2 [] (either_back callers_values refl fresh q2 r2 e2) (λ q3 e3.
        then_back (word_at end) _ tt made q3 [] [] (word_back end q3 [] e3) (λ q4 e4. (q4, refl, e4)))))

    is_read : (form : TextForm) → Back (words_at form) made (start (words_text form fresh p)) [] →
        whole (words_at form) (words_text form fresh p) ≡ Ok (fresh, p)
    is_read form back =
        subst (λ q. whole (words_at form) (words_text form fresh p) ≡ Ok (fresh, q))
        (ap (with_frame_phases p) (sym s.frame)) (whole_back (words_at form) made (words_text form fresh p) back)

    pub text_is_read : (form : TextForm) → IsReadAs form fresh (words_text form fresh p) p
    text_is_read with_arrays = is_read with_arrays arrays_back
    text_is_read (named_function name) = is_read (named_function name) (function_back name)
    text_is_read (named_header name) = tt
    text_is_read (named_product name) = tt
    text_is_read (named_product_header name) = tt

-- ---- one text

once : (r : Result (Bool × PlainWordProgram) ℕ) (x y : Bool × PlainWordProgram) → r ≡ Ok x → r ≡ Ok y → x ≡ y
once r x y one two = let both = sym one ∙ two in cc

both_once : (r : Result (Bool × PlainWordProgram) ℕ) (fresh other : Bool) (p q : PlainWordProgram) →
    r ≡ Ok (fresh, p) → r ≡ Ok (other, q) → (fresh ≡ other) × (p ≡ q)
both_once r fresh other p q one two =
    let same = once r (fresh, p) (other, q) one two in
    (ap (λ (x : Bool × PlainWordProgram). x.0) same, ap (λ (x : Bool × PlainWordProgram). x.1) same)

-- a text is read as one program
pub read_once : (form : TextForm) → HasStatements form → (text : List ℕ) (fresh other : Bool)
    (p q : PlainWordProgram) → IsReadAs form fresh text p → IsReadAs form other text q → (fresh ≡ other) × (p ≡ q)
read_once with_arrays has text fresh other p q one two =
    both_once (whole (words_at with_arrays) text) fresh other p q one two
read_once (named_function name) has text fresh other p q one two =
    both_once (whole (words_at (named_function name)) text) fresh other p q one two
read_once (named_header name) has text fresh other p q one two = absurd has
read_once (named_product name) has text fresh other p q one two = absurd has
read_once (named_product_header name) has text fresh other p q one two = absurd has

-- two programs with the same text are the same
pub texts_determine_words : (form : TextForm) → HasStatements form → (fresh other : Bool) (p q : PlainWordProgram) →
    IsSpellable p → IsSpellable q → words_text form fresh p ≡ words_text form other q → (fresh ≡ other) × (p ≡ q)
texts_determine_words form has fresh other p q of_p of_q same =
    read_once form has (words_text form fresh p) fresh other p q (text_is_read p of_p fresh form)
    (subst (λ (text : List ℕ). IsReadAs form other text q) (sym same) (text_is_read q of_q other form))
