-- The lines outside of phases: what is read is spelt, and what is spelt is read back.
use Rattle.std.proofs.Common.{◌≡◌, ℕ, ◌<◌, ◌≤◌, true, ltb, List, [], ◌∷◌, ◌++◌, length, codes, decimal, Result, Ok}
use Rattle.std.proofs.Common.{refl, sym, ap, subst, ◌∙◌, append_assoc, arith}
use Rattle.std.specs.List.{list_all}
use Rattle.std.proofs.lemmas.Bool.{ltb-true, and_parts}
use Rattle.std.proofs.lemmas.List.{append-nil}
use Rattle.icode.specs.Limits.{IsHeaderWithin}
use Rattle.grammar.specs.Grammar.{numbers}
use Rattle.grammar.specs.Reading.{Place, start, whole, word_at, named_number_at, numbers_at}
use Rattle.grammar.proofs.Numbers.{NoDigit}
use Rattle.grammar.proofs.Parts.{Behind}
use Rattle.grammar.proofs.Lists.{numbers_reader}
use Rattle.grammar.proofs.Whole.{again}
use Rattle.listing_text.specs.declared.draft.Header.{Header}
use Rattle.listing_text.specs.Listing.{table_text}
use Rattle.listing_text.specs.Reading.{above_all}
use Rattle.listing_text.specs.Drafts.{header_at, table_at}
use Rattle.listing_text.proofs.Spelt.{Spelt, Any, reader_cases, word_then, named_then, named_below_then}
use Rattle.listing_text.proofs.ReadBack.{Back, then_back, word_back, named_back}
use Rattle.listing_text.proofs.ActsSpelt.{whole_spelt}
use Rattle.listing_text.proofs.Entries.{more_text, joined_text, all_spelt, all_spells, few_entries}

-- ---- the header

-- the numbers of a header, after this word and before that one
abbrev pub header_line : List ℕ → List ℕ → Header → List ℕ
header_line before behind h =
    before ++ decimal h.size ++ codes " mod " ++ decimal h.modulus ++ codes " procs " ++ decimal h.procs ++ codes " line "
    ++ decimal h.line ++ codes " lanes " ++ decimal h.lanes ++ codes " regs " ++ decimal h.regs ++ behind

header_left : (a b c d e f g s m p l v r rest : List ℕ)
    → a ++ (s ++ (b ++ (m ++ (c ++ (p ++ (d ++ (l ++ (e ++ (v ++ (f ++ (r ++ (g ++ rest))))))))))))
    ≡ (a ++ s ++ b ++ m ++ c ++ p ++ d ++ l ++ e ++ v ++ f ++ r ++ g) ++ rest
header_left a b c d e f g s m p l v r rest = simp append_assoc

-- a whole line that is read back
pub whole_back : {A : Type 0} (read : Place ℕ → Result (A × Place ℕ) ℕ) (x : A) (line : List ℕ) →
    Back read x (start line) [] → whole read line ≡ Ok x
whole_back read x line h = rw (h.1, h.2) refl

module _ (before behind : List ℕ) where
  text : Header → List ℕ
  text h = header_line before behind h

  header_spelt : (place : Place ℕ) → Spelt Any text place.rest (header_at before behind place)
  unfolding text
  header_spelt place =
      named_then Any text place.rest before place _ (λ size q1 e1.
      named_then Any text place.rest (codes " mod ") q1 _ (λ modulus q2 e2.
      named_then Any text place.rest (codes " procs ") q2 _ (λ procs q3 e3.
      named_then Any text place.rest (codes " line ") q3 _ (λ line q4 e4.
      named_then Any text place.rest (codes " lanes ") q4 _ (λ lanes q5 e5.
      named_then Any text place.rest (codes " regs ") q5 _ (λ regs q6 e6.
      word_then Any text place.rest behind q6 _ (λ w q7 e7. (
        tt,
        e1 ∙ ap (λ y. before ++ (decimal size ++ y))
            (e2 ∙ ap (λ y. codes " mod " ++ (decimal modulus ++ y))
            (e3 ∙ ap (λ y. codes " procs " ++ (decimal procs ++ y))
            (e4 ∙ ap (λ y. codes " line " ++ (decimal line ++ y))
            (e5 ∙ ap (λ y. codes " lanes " ++ (decimal lanes ++ y)) (e6 ∙ ap (λ y. codes " regs " ++ (decimal regs ++ y)) e7)))))
            ∙ header_left before (codes " mod ") (codes " procs ") (codes " line ") (codes " lanes ") (codes " regs ") behind
            (decimal size) (decimal modulus) (decimal procs) (decimal line) (decimal lanes) (decimal regs) q7.rest,
      ))))))))

  pub header_is : (line : List ℕ) (h : Header) → whole (header_at before behind) line ≡ Ok h →
      line ≡ header_line before behind h
  unfolding text
  header_is line h e = (whole_spelt Any text line (header_at before behind (start line)) h (header_spelt (start line)) e).1

  -- in front of a text
  pub header_in_front : (h : Header) → IsHeaderWithin h.size h.modulus h.procs h.line h.lanes h.regs →
      (place : Place ℕ) (rest : List ℕ) → NoDigit (behind ++ rest) → place.rest ≡ header_line before behind h ++ rest →
      Back (header_at before behind) h place rest
  header_in_front h w place rest none e =
      let size : h.size < above_all = omega (arith, w.of_size.1) in
      let modulus : h.modulus < above_all = omega (arith, w.of_modulus.1) in
      let procs : h.procs < above_all = omega (arith, w.of_procs.1) in
      let words : h.line < above_all = omega (arith, w.of_line.1) in
      let lanes : h.lanes < above_all = omega (arith, w.of_lanes.1) in
      let regs : h.regs < above_all = omega (arith, w.of_regs) in
      let t7 : List ℕ = behind ++ rest in
      let t6 : List ℕ = codes " regs " ++ (decimal h.regs ++ t7) in
      let t5 : List ℕ = codes " lanes " ++ (decimal h.lanes ++ t6) in
      let t4 : List ℕ = codes " line " ++ (decimal h.line ++ t5) in
      let t3 : List ℕ = codes " procs " ++ (decimal h.procs ++ t4) in
      let t2 : List ℕ = codes " mod " ++ (decimal h.modulus ++ t3) in
      let first : place.rest ≡ before ++ (decimal h.size ++ t2) =
      e
      ∙ sym (header_left before (codes " mod ") (codes " procs ") (codes " line ") (codes " lanes ") (codes " regs ") behind
      (decimal h.size) (decimal h.modulus) (decimal h.procs) (decimal h.line) (decimal h.lanes) (decimal h.regs) rest) in
      then_back (named_number_at before above_all) _ h.size h place t2 rest (named_back before h.size place t2 size refl first) (λ q1 e1.
      then_back (named_number_at (codes " mod ") above_all) _ h.modulus h q1 t3 rest (named_back (codes " mod ") h.modulus q1 t3 modulus refl e1) (λ q2 e2.
      then_back (named_number_at (codes " procs ") above_all) _ h.procs h q2 t4 rest (named_back (codes " procs ") h.procs q2 t4 procs refl e2) (λ q3 e3.
      then_back (named_number_at (codes " line ") above_all) _ h.line h q3 t5 rest (named_back (codes " line ") h.line q3 t5 words refl e3) (λ q4 e4.
      then_back (named_number_at (codes " lanes ") above_all) _ h.lanes h q4 t6 rest (named_back (codes " lanes ") h.lanes q4 t6 lanes refl e4) (λ q5 e5.
      then_back (named_number_at (codes " regs ") above_all) _ h.regs h q5 t7 rest (named_back (codes " regs ") h.regs q5 t7 regs none e5) (λ q6 e6.
      then_back (word_at behind) _ tt h q6 rest rest (word_back behind q6 rest e6) (λ q7 e7. (q7, refl, e7))))))))

  -- as a whole line
  pub header_back : NoDigit behind → (h : Header) → IsHeaderWithin h.size h.modulus h.procs h.line h.lanes h.regs
      → whole (header_at before behind) (header_line before behind h) ≡ Ok h
  header_back none h w =
      let line : List ℕ = header_line before behind h in
      whole_back (header_at before behind) h line
      (header_in_front h w (start line) [] (subst (λ text. NoDigit text) (sym (append-nil behind)) none) (sym (append-nil line)))

-- ---- a table of a listing

abbrev TableFits : ℕ × List ℕ → Type 0
TableFits table = (table.0 < above_all) × (0 < length table.1)

abbrev line_of : ℕ × List ℕ → List ℕ
line_of table = table_text table.0 table.1

table_shape : (word number values entries end : List ℕ) → word ++ number ++ values ++ entries ++ end ≡ word
    ++ (number ++ (values ++ (entries ++ end)))
table_shape word number values entries end = simp append_assoc

table_right : (number first others : List ℕ) → codes "table " ++ number ++ codes " values"
    ++ ((codes " " ++ first) ++ others) ++ codes "\n" ≡ codes "table "
    ++ (number ++ (codes " values " ++ ((first ++ others) ++ codes "\n")))
table_right number first others = table_shape (codes "table ") number (codes " values") ((codes " " ++ first) ++ others) (codes "\n")

table_left : (number values entries rest : List ℕ) → codes "table "
    ++ (number ++ (codes " values" ++ (entries ++ (codes "\n" ++ rest))))
    ≡ (codes "table " ++ number ++ codes " values" ++ entries ++ codes "\n") ++ rest
table_left number values entries rest = simp append_assoc

entries_left : (number : ℕ) (entries rest : List ℕ) → 0 < length entries
    → codes "table " ++ (decimal number ++ (codes " values "
    ++ (joined_text (codes " ") entries ++ (codes "\n" ++ rest)))) ≡ table_text number entries ++ rest
entries_left number [] rest some = absurd (omega (arith, some))
entries_left number (c ∷ entries) rest some = table_left (decimal number) [] (more_text (codes " ") (c ∷ entries)) rest

table_spelt : (most : ℕ) (place : Place ℕ) → Spelt TableFits line_of place.rest (table_at most place)
table_spelt most place =
    named_below_then TableFits line_of place.rest (codes "table ") place _ (λ number q1 f1 e1.
    word_then TableFits line_of place.rest (codes " values ") q1 _ (λ w q2 e2.
    reader_cases (Behind (codes " ")) (numbers (codes " ") above_all most) TableFits line_of place.rest q2 (numbers_at (codes " ") above_all most q2) _
    ((numbers_reader (codes " ") above_all most refl (omega arith) (omega arith)).each q2) (λ entries q3 t3 e3 l3.
    word_then TableFits line_of place.rest (codes "\n") q3 _ (λ w q4 e4.
    let all = all_spelt (codes " ") most t3 entries l3 in (
      (f1, all.0),
      e1 ∙ ap (λ y. codes "table " ++ (decimal number ++ y))
          (e2 ∙ ap (λ y. codes " values " ++ y) (e3 ∙ ap (λ y. y ++ q3.rest) all.1 ∙ ap (λ y. joined_text (codes " ") entries ++ y) e4))
          ∙ entries_left number entries q4.rest all.0,
    )))))

pub table_is : (most : ℕ) (line : List ℕ) (table : ℕ × List ℕ) → whole (table_at most) line ≡ Ok table →
    TableFits table × (line ≡ table_text table.0 table.1)
table_is most line table e = whole_spelt TableFits line_of line (table_at most (start line)) table (table_spelt most (start line)) e

few : (number c : ℕ) (entries : List ℕ) → length entries ≤ length (table_text number (c ∷ entries))
few number c entries =
    subst (λ line. length entries ≤ length line) (few_shape (codes "table " ++ decimal number ++ codes " values") (codes " ") (decimal c) (more_text (codes " ") entries) (codes "\n"))
    (few_entries (codes " ") (omega arith) (codes "table " ++ decimal number ++ codes " values" ++ codes " ") c entries (codes "\n"))
  where
    few_shape : (a space first others end : List ℕ) → (a ++ space) ++ (first ++ others) ++ end ≡ a
        ++ ((space ++ first) ++ others) ++ end
    few_shape a space first others end = simp append_assoc

pub table_back : (number : ℕ) (entries : List ℕ) → number < above_all → 0 < length entries →
    list_all (λ c. ltb c above_all) entries ≡ true
    → whole (table_at (length (table_text number entries))) (table_text number entries) ≡ Ok (number, entries)
table_back number [] fits some all = absurd (omega (arith, some))
table_back number (c ∷ entries) fits some all =
    let limits = and_parts (ltb c above_all) (list_all (λ c. ltb c above_all) entries) all in
    let line = table_text number (c ∷ entries) in
    let most = length line in
    let table : ℕ × List ℕ = (number, c ∷ entries) in
    let place : Place ℕ = start line in
    let t2 : List ℕ = (decimal c ++ more_text (codes " ") entries) ++ codes "\n" in
    let t1 : List ℕ = codes " values " ++ t2 in
    let is : place.rest ≡ codes "table " ++ (decimal number ++ t1) = table_right (decimal number) (decimal c) (more_text (codes " ") entries) in
    whole_back (table_at most) table line
    (then_back (named_number_at (codes "table ") above_all) _ number table place t1 [] (named_back (codes "table ") number place t1 fits refl is) (λ q1 e1.
    then_back (word_at (codes " values ")) _ tt table q1 t2 [] (word_back (codes " values ") q1 t2 e1) (λ q2 e2.
    then_back (numbers_at (codes " ") above_all most) _ (c ∷ entries) table q2 (codes "\n") []
    (again (Behind (codes " ")) (numbers (codes " ") above_all most) (numbers_at (codes " ") above_all most) (numbers_reader (codes " ") above_all most refl (omega arith) (omega arith)) q2
    (decimal c ++ more_text (codes " ") entries) (codes "\n") (c ∷ entries) (all_spells (codes " ") most c entries (ltb-true c above_all limits.0) limits.1 (few number c entries)) (record { no_digit = refl; no_word = refl }) e2) (λ q3 e3.
    then_back (word_at (codes "\n")) _ tt table q3 [] [] (word_back (codes "\n") q3 [] (e3 ∙ sym (append-nil (codes "\n")))) (λ q4 e4. (q4, refl, e4))))))
