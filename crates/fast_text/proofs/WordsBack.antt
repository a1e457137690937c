-- The text of a program on words is read back.
use Rattle.std.proofs.Common.{◌≡◌, ℕ, ◌+◌, ◌≤◌, Bool, true, false, ◌&&◌, List, [], ◌∷◌, ◌++◌, length}
use Rattle.std.proofs.Common.{map}
use Rattle.std.proofs.Common.{codes, decimal, flat_map, min, Result, Err, refl, sym, ap, ◌∙◌}
use Rattle.std.proofs.Common.{append_assoc}
use Rattle.std.proofs.Common.{arith, inl, inr}
use Rattle.std.specs.List.{list_all}
use Rattle.std.proofs.lemmas.Bool.{ltb-true, and_parts, and_from}
use Rattle.std.proofs.lemmas.List.{length-append}
use Rattle.icode.specs.Limits.{IsHeaderWithin, is_body_within}
use Rattle.grammar.specs.Grammar.{one_of}
use Rattle.grammar.specs.Reading.{Place, and_then, placed, word_in, word_at, number_in, number_at}
use Rattle.grammar.specs.Reading.{one_of_at}
use Rattle.grammar.proofs.Parts.{Anything, one_of_reader}
use Rattle.grammar.proofs.Whole.{again}
use Rattle.listing_text.specs.Drafts.{header_at}
use Rattle.listing_text.specs.Numbers.{numbered_text}
use Rattle.listing_text.specs.Reading.{above_all}
use Rattle.listing_text.specs.Wording.{header_of}
use Rattle.listing_text.proofs.OutsideLines.{header_in_front}
use Rattle.listing_text.proofs.ReadBack.{Back, then_back, word_back, number_back}
use Rattle.word_code.specs.Bare.{bare_body}
use Rattle.word_code.specs.WordProgram.{WordBody, PlainWordProgram}
use Rattle.fast_text.specs.FunctionText.{each_from}
use Rattle.fast_text.specs.WordFront.{sizes_text, rough_text}
use Rattle.fast_text.specs.WordReading.{entry_at, table_at, phase_at, all_from_0, rough_words, sizes_of}
use Rattle.fast_text.specs.WordText.{word_header_text, word_table_text, word_tables_text, word_phase_text}
use Rattle.fast_text.specs.WordText.{word_phases_text}
use Rattle.fast_text.specs.WordText.{declared_text, word_body_text}
use Rattle.fast_text.specs.WordTexts.{is_word, are_tables_of_words, have_notes_of_words}
use Rattle.fast_text.proofs.BodyBack.{texts, Refuses, all_back, phase_back}

-- ---- where reading stops

refuses_then : {A B : Type 0} (read : Place ℕ → Result (A × Place ℕ) ℕ) (next : A → Place ℕ → Result (B × Place ℕ) ℕ)
    (tail : List ℕ) → Refuses read tail → Refuses (λ place. and_then (read place) next) tail
refuses_then read next tail stop place e = let h = stop place e in (h.0, ap (λ r. and_then r next) h.1)

word_refuses : (w tail : List ℕ) (left : ℕ) → word_in w tail ≡ Err left → Refuses (word_at w) tail
word_refuses w tail left h place e = (min place.far left, ap (placed place.far) (ap (word_in w) e ∙ h))

-- ---- tables

pub all_weaker : {A : Type 0} (f g : A → Bool) → ((x : A) → f x ≡ true → g x ≡ true) → (xs : List A) →
    list_all f xs ≡ true → list_all g xs ≡ true
all_weaker f g weaker [] h = refl
all_weaker f g weaker (x ∷ xs) h =
    let both = and_parts (f x) (list_all f xs) h in
    and_from (g x) (list_all g xs) (weaker x both.0) (all_weaker f g weaker xs both.1)

abbrev entry_text : ℕ → ℕ → List ℕ
entry_text n c = decimal c ++ codes "ULL,"

entries_are : (entries : List ℕ) (n : ℕ) → flat_map (λ c. decimal c ++ codes "ULL,") entries ≡ texts entry_text n
    entries
entries_are [] n = refl
entries_are (c ∷ entries) n = ap (λ y. entry_text n c ++ y) (entries_are entries (n + 1))

entry_back : (n c : ℕ) → is_word c ≡ true → (place : Place ℕ) (rest : List ℕ) → place.rest ≡ entry_text n c ++ rest →
    Back entry_at c place rest
entry_back n c h place rest e =
    let t1 : List ℕ = codes "ULL," ++ rest in
    then_back (number_at above_all) _ c c place t1 rest
    (number_back c place t1 (ltb-true c above_all h) refl (e ∙ append_assoc (decimal c) (codes "ULL,") rest)) (λ q1 e1.
    then_back (word_at (codes "ULL,")) _ tt c q1 rest rest (word_back (codes "ULL,") q1 rest e1)
    (λ q2 e2. (q2, refl, e2)))

entry_long : (n c : ℕ) → 1 ≤ length (entry_text n c)
entry_long n c = omega (arith, length-append (decimal c) (codes "ULL,"))

entries_end : (rest : List ℕ) (n : ℕ) → Refuses entry_at (codes "};\n" ++ rest)
entries_end rest n =
    refuses_then (number_at above_all) _ (codes "};\n" ++ rest)
    (λ place e. (min place.far (length (codes "};\n" ++ rest)), ap (λ r. placed place.far (number_in above_all r)) e))

shape_table : (s name d o es end rest : List ℕ) → (s ++ name ++ d ++ o ++ es ++ end) ++ rest ≡ (s
    ++ name ++ d ++ o) ++ (es ++ (end ++ rest))
shape_table s name d o es end rest = simp append_assoc

table_back : (name : List ℕ) (number : ℕ) (entries : List ℕ) → list_all is_word entries ≡ true → (place : Place ℕ)
    (rest : List ℕ) → place.rest ≡ word_table_text name number entries ++ rest →
    Back (table_at name number) entries place rest
unfolding word_table_text
table_back name number entries h place rest e =
    let begin : List ℕ = codes "static const word " ++ name ++ decimal number ++ codes "[] = {" in
    let end : List ℕ = codes "};\n" ++ rest in
    let t1 : List ℕ = texts entry_text 0 entries ++ end in
    then_back (word_at begin) _ tt entries place t1 rest
    (word_back begin place t1
    (e ∙ shape_table (codes "static const word ") name (decimal number) (codes "[] = {")
    (flat_map (λ c. decimal c ++ codes "ULL,") entries) (codes "};\n") rest
    ∙ ap (λ y. begin ++ (y ++ end)) (entries_are entries 0))) (λ q1 e1.
    then_back (all_from_0 (λ _. entry_at)) _ entries entries q1 end rest
    (all_back (λ _. entry_at) entry_text is_word entry_back entry_long end (entries_end rest) entries h q1 e1) (λ q2 e2.
    then_back (word_at (codes "};\n")) _ tt entries q2 rest rest (word_back (codes "};\n") q2 rest e2)
    (λ q3 e3. (q3, refl, e3))))

table_long : (name : List ℕ) (number : ℕ) (entries : List ℕ) → 1 ≤ length (word_table_text name number entries)
unfolding word_table_text
table_long name number entries = omega arith

tables_are : (name : List ℕ) (number : ℕ) (tables : List (List ℕ)) →
    word_tables_text name number tables ≡ texts (word_table_text name) number tables
tables_are name number [] = refl
tables_are name number (entries ∷ tables) =
    ap (λ y. word_table_text name number entries ++ y) (tables_are name (number + 1) tables)

-- the text is no table's
abbrev pub IsNoTable : List ℕ → Type 0
IsNoTable text = (w : List ℕ) → (left : ℕ) × (word_in (codes "static const word " ++ w) text ≡ Err left)

pub tables_back : (name : List ℕ) (tables : List (List ℕ)) → are_tables_of_words tables ≡ true → (after : List ℕ)
    → ((w : List ℕ) → (left : ℕ) × (word_in (codes "static const word " ++ name ++ w) after ≡ Err left)) →
    (place : Place ℕ) → place.rest ≡ word_tables_text name 0 tables ++ after →
    Back (all_from_0 (table_at name)) tables place after
tables_back name tables h after none place e =
    all_back (table_at name) (word_table_text name) (λ entries. list_all is_word entries) (table_back name)
    (table_long name) after
    (λ n.
    let begin : List ℕ = codes "static const word " ++ name ++ decimal n ++ codes "[] = {" in
    let stop = none (decimal n ++ codes "[] = {") in
    let same : begin ≡ codes "static const word " ++ name ++ (decimal n ++ codes "[] = {") =
    append_assoc (codes "static const word " ++ name) (decimal n) (codes "[] = {") in
    refuses_then (word_at begin) _ after (word_refuses begin after stop.0 (ap (λ w. word_in w after) same ∙ stop.1)))
    tables h place (e ∙ ap (λ y. y ++ after) (tables_are name 0 tables))

-- the quotients are no table of factors
pub quotients_are_none : (quotients : List (List ℕ)) (after : List ℕ) → IsNoTable after → (w : List ℕ) →
    (left : ℕ) × (word_in (codes "static const word " ++ codes "t" ++ w)
    (word_tables_text (codes "u") 0 quotients ++ after) ≡ Err left)
unfolding word_table_text
quotients_are_none [] after none w = none (codes "t" ++ w)
quotients_are_none (entries ∷ quotients) after none w = (_, refl)

-- ---- the first lines

pub header_back : (p : PlainWordProgram) →
    IsHeaderWithin p.frame.size p.frame.modulus p.frame.procs p.frame.line p.frame.lanes p.frame.regs →
    (place : Place ℕ) (rest : List ℕ) → place.rest ≡ word_header_text p ++ rest →
    Back (header_at (codes "/* program size ") (codes " */\n")) (header_of p.frame) place rest
header_back p w place rest e =
    header_in_front (codes "/* program size ") (codes " */\n") (header_of p.frame) w place rest refl e

shape_sizes : (i m v h d nl r rest : List ℕ) → (i ++ m ++ v ++ (h ++ d ++ nl) ++ r) ++ rest ≡ (i ++ m ++ v)
    ++ (h ++ (d ++ (nl ++ (r ++ rest))))
shape_sizes i m v h d nl r rest = simp append_assoc

pub sizes_are : (p : PlainWordProgram) (rest : List ℕ) →
    sizes_text p.width p.frame.modulus p.frame.lanes ++ rest ≡ sizes_of (header_of p.frame)
    ++ (codes "#define HALF " ++ (decimal p.width.half ++ (codes "\n" ++ (rough_text p.width.rough ++ rest))))
unfolding sizes_text
sizes_are p rest =
    shape_sizes (codes "#include <stdint.h>\n") (numbered_text (codes "#define M ") p.frame.modulus (codes "ULL\n"))
    (numbered_text (codes "#define V ") p.frame.lanes (codes "\n")) (codes "#define HALF ") (decimal p.width.half)
    (codes "\n")
    (rough_text p.width.rough) rest

pub rough_back : (rough : Bool) (place : Place ℕ) (rest : List ℕ) → place.rest ≡ rough_text rough ++ rest →
    Back (one_of_at rough_words) rough place rest
rough_back rough place rest e =
    again Anything (one_of rough_words) (one_of_at rough_words)
    (one_of_reader Anything (codes "#define ROUGH 1\n", true) ((codes "#define ROUGH 0\n", false) ∷ []) refl)
    place (rough_text rough) rest rough (is rough) tt e
  where
    is : (k : Bool) → one_of rough_words (rough_text k) k
    is true = inl (refl, refl)
    is false = inr (inl (refl, refl))

-- ---- the phases

module _ (before behind : List ℕ) (lanes regs : ℕ) where
  abbrev numbered_phase : ℕ → WordBody → List ℕ
  numbered_phase n body = numbered_text before n behind ++ word_phase_text lanes regs body

  phases_are : (number : ℕ) (phases : List WordBody) →
      word_phases_text before behind lanes regs number phases ≡ texts numbered_phase number phases
  phases_are number [] = refl
  phases_are number (body ∷ phases) = ap (λ y. numbered_phase number body ++ y) (phases_are (number + 1) phases)

  phase_long : (n : ℕ) (body : WordBody) → 1 ≤ length (numbered_phase n body)
  phase_long n body =
      let begin = numbered_text before n behind in
      let end = codes "}\n" in
      omega (
        arith,
        length-append begin (word_phase_text lanes regs body),
        length-append (each_from declared_text regs 0 ++ word_body_text lanes 0 body) end,
      )

  abbrev may_stand : ℕ → WordBody → Bool
  may_stand m body = is_body_within m (bare_body body) 0 && have_notes_of_words body

  both : (m : ℕ) (phases : List WordBody) → list_all (λ body. is_body_within m body 0) (map bare_body phases) ≡ true →
      list_all have_notes_of_words phases ≡ true → list_all (may_stand m) phases ≡ true
  both m [] h k = refl
  both m (body ∷ phases) h k =
      let a = and_parts (is_body_within m (bare_body body) 0)
      (list_all (λ body. is_body_within m body 0) (map bare_body phases)) h in
      let b = and_parts (have_notes_of_words body) (list_all have_notes_of_words phases) k in
      and_from (may_stand m body) (list_all (may_stand m) phases)
      (and_from (is_body_within m (bare_body body) 0) (have_notes_of_words body) a.0 b.0) (both m phases a.1 b.1)

  pub phases_back : (m : ℕ) (phases : List WordBody) → m ≤ above_all → 1 ≤ lanes →
      list_all (λ body. is_body_within m body 0) (map bare_body phases) ≡ true →
      list_all have_notes_of_words phases ≡ true → (after : List ℕ)
      → ((w : List ℕ) → (left : ℕ) × (word_in (before ++ w) after ≡ Err left)) → (place : Place ℕ) →
      place.rest ≡ word_phases_text before behind lanes regs 0 phases ++ after →
      Back (all_from_0 (phase_at before behind lanes regs)) phases place after
  phases_back m phases below some h k after none place e =
      all_back (phase_at before behind lanes regs) numbered_phase (may_stand m)
      (λ n body fits place rest e.
      let parts = and_parts (is_body_within m (bare_body body) 0) (have_notes_of_words body) fits in
      phase_back before behind m lanes regs n body below some parts.0 parts.1 place rest e) phase_long after
      (λ n.
      let registers = each_from declared_text regs 0 in
      let stop = none (decimal n ++ behind ++ registers) in
      let begin : before ++ (decimal n ++ behind ++ registers) ≡ numbered_text before n behind ++ registers =
      shape_begin before (decimal n) behind registers in
      refuses_then (word_at (numbered_text before n behind ++ registers)) _ after
      (word_refuses (numbered_text before n behind ++ registers) after stop.0
      (ap (λ w. word_in w after) (sym begin) ∙ stop.1)))
      phases (both m phases h k) place (e ∙ ap (λ y. y ++ after) (phases_are 0 phases))
    where
      shape_begin : (a b c d : List ℕ) → a ++ (b ++ c ++ d) ≡ a ++ b ++ c ++ d
      shape_begin a b c d = simp append_assoc
