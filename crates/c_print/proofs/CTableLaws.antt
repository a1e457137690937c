-- Reading the line of a table in C answers for its text.
use Rattle.std.proofs.Common.{◌≡◌, ℕ, suc, ◌<◌, ◌≤◌, Bool, true, false, eqb, ltb, List, [], ◌∷◌, ◌++◌, length, codes}
use Rattle.std.proofs.Common.{decimal, Result, Ok, Err, refl, sym, ap, ◌∙◌, append_assoc, arith}
use Rattle.std.specs.List.{list_all}
use Rattle.std.proofs.lemmas.Bool.{ltb-true, and_parts, eqb-true, eq-eqb}
use Rattle.std.proofs.lemmas.List.{append-nil}
use Rattle.grammar.specs.declared.token.ReadError.{ReadError}
use Rattle.grammar.specs.declared.token.ReadError.TheVariants as errors
use Rattle.grammar.specs.Cursor.{TellsAll}
use Rattle.grammar.specs.Grammar.{numbers}
use Rattle.grammar.specs.Reading.{Place, start, whole, word_at, named_number_at, numbers_at}
use Rattle.grammar.proofs.Parts.{Behind}
use Rattle.grammar.proofs.Lists.{numbers_reader}
use Rattle.grammar.proofs.Whole.{again}
use Rattle.listing_text.specs.Reading.{above_all}
use Rattle.listing_text.proofs.Spelt.{Spelt, reader_cases, word_then, named_below_then}
use Rattle.listing_text.proofs.Entries.{more_text, all_spelt, all_spells, few_entries}
use Rattle.listing_text.proofs.Entries.{joined_text as entries_text}
use Rattle.listing_text.proofs.ReadBack.{then_back, word_back, named_back}
use Rattle.listing_text.proofs.ActsSpelt.{whole_spelt}
use Rattle.listing_text.proofs.OutsideLines.{whole_back}
use Rattle.c_print.specs.CText.{joined_text, c_table_text}
use Rattle.c_print.specs.CTables.{same_length, c_table_at, IsTableOf}

-- ---- entries

joined_is : (entries : List ℕ) → entries_text (codes ",") entries ≡ joined_text entries
joined_is [] = refl
joined_is (c ∷ entries) = refl

-- ---- what is read is the table's text

abbrev pub TableFits : ℕ × List ℕ → Type 0
TableFits table = (table.0 < above_all) × (0 < length table.1) × (length table.1 < above_all)

abbrev table_text : ℕ × List ℕ → List ℕ
table_text table = c_table_text table.0 table.1

shape_left : (a x b y c z d rest : List ℕ) → a ++ (x ++ (b ++ (y ++ (c ++ (z ++ (d ++ rest))))))
    ≡ (a ++ x ++ b ++ y ++ c ++ z ++ d) ++ rest
shape_left a x b y c z d rest = simp append_assoc

shape_right : (a x b y c z d : List ℕ) → a ++ x ++ b ++ y ++ c ++ z ++ d ≡ a ++ (x ++ (b ++ (y ++ (c ++ (z ++ d)))))
shape_right a x b y c z d = simp append_assoc

same_spelt : (s : List ℕ) (number count : ℕ) (entries : List ℕ) (q : Place ℕ) (k : Bool) →
    eqb (length entries) count ≡ k → number < above_all → count < above_all → 0 < length entries
    → s ≡ codes "static const uint64_t t" ++ (decimal number ++ (codes "[" ++ (decimal count ++ (codes "] = {" ++ (joined_text entries ++ (codes "};\n" ++ q.rest))))))
    → Spelt TableFits table_text s (same_length number count entries q)
unfolding c_table_text
same_spelt s number count entries q true k fits few some e =
    rw k (
      (fits, some, omega (arith, few, eqb-true (length entries) count k)),
      e ∙ ap (λ n. codes "static const uint64_t t" ++ (decimal number ++ (codes "[" ++ (decimal n ++ (codes "] = {" ++ (joined_text entries ++ (codes "};\n" ++ q.rest))))))) (sym (eqb-true (length entries) count k))
          ∙ shape_left (codes "static const uint64_t t") (decimal number) (codes "[") (decimal (length entries)) (codes "] = {") (joined_text entries) (codes "};\n") q.rest,
    )
same_spelt s number count entries q false k fits few some e = rw k tt

table_spelt : (most : ℕ) (place : Place ℕ) → Spelt TableFits table_text place.rest (c_table_at most place)
table_spelt most place =
    named_below_then TableFits table_text place.rest (codes "static const uint64_t t") place _ (λ number q1 f1 e1.
    named_below_then TableFits table_text place.rest (codes "[") q1 _ (λ count q2 f2 e2.
    word_then TableFits table_text place.rest (codes "] = {") q2 _ (λ w q3 e3.
    reader_cases (Behind (codes ",")) (numbers (codes ",") above_all most) TableFits table_text place.rest q3 (numbers_at (codes ",") above_all most q3) _
    ((numbers_reader (codes ",") above_all most refl (omega arith) (omega arith)).each q3) (λ entries q4 t4 e4 l4.
    word_then TableFits table_text place.rest (codes "};\n") q4 _ (λ w q5 e5.
    let all = all_spelt (codes ",") most t4 entries l4 in
    same_spelt place.rest number count entries q5 (eqb (length entries) count) refl f1 f2 all.0
    (e1 ∙ ap (λ y. codes "static const uint64_t t" ++ (decimal number ++ y))
    (e2 ∙ ap (λ y. codes "[" ++ (decimal count ++ y)) (e3 ∙ ap (λ y. codes "] = {" ++ y) (e4 ∙ ap (λ y. y ++ q4.rest) (all.1 ∙ joined_is entries) ∙ ap (λ y. joined_text entries ++ y) e5)))))))))

pub table_is_read : (most : ℕ) (line : List ℕ) (table : ℕ × List ℕ) → whole (c_table_at most) line ≡ Ok table →
    TableFits table × (line ≡ c_table_text table.0 table.1)
table_is_read most line table e = whole_spelt TableFits table_text line (c_table_at most (start line)) table (table_spelt most (start line)) e

-- ---- the table's text is read back

table_back : (most number c : ℕ) (entries : List ℕ) → number < above_all → suc (length entries) < above_all →
    c < above_all → list_all (λ c. ltb c above_all) entries ≡ true → length entries ≤ most
    → whole (c_table_at most) (c_table_text number (c ∷ entries)) ≡ Ok (number, c ∷ entries)
unfolding c_table_text
table_back most number c entries fits few first others le =
    let n : ℕ = suc (length entries) in
    let table : ℕ × List ℕ = (number, c ∷ entries) in
    let place : Place ℕ = start (c_table_text number (c ∷ entries)) in
    let t3 : List ℕ = (decimal c ++ more_text (codes ",") entries) ++ codes "};\n" in
    let t2 : List ℕ = codes "] = {" ++ t3 in
    let t1 : List ℕ = codes "[" ++ (decimal n ++ t2) in
    let is : place.rest ≡ codes "static const uint64_t t" ++ (decimal number ++ t1) =
    shape_right (codes "static const uint64_t t") (decimal number) (codes "[") (decimal n) (codes "] = {") (decimal c ++ more_text (codes ",") entries) (codes "};\n") in
    whole_back (c_table_at most) table (c_table_text number (c ∷ entries))
    (then_back (named_number_at (codes "static const uint64_t t") above_all) _ number table place t1 [] (named_back (codes "static const uint64_t t") number place t1 fits refl is) (λ q1 e1.
    then_back (named_number_at (codes "[") above_all) _ n table q1 t2 [] (named_back (codes "[") n q1 t2 few refl e1) (λ q2 e2.
    then_back (word_at (codes "] = {")) _ tt table q2 t3 [] (word_back (codes "] = {") q2 t3 e2) (λ q3 e3.
    then_back (numbers_at (codes ",") above_all most) _ (c ∷ entries) table q3 (codes "};\n") []
    (again (Behind (codes ",")) (numbers (codes ",") above_all most) (numbers_at (codes ",") above_all most) (numbers_reader (codes ",") above_all most refl (omega arith) (omega arith)) q3
    (decimal c ++ more_text (codes ",") entries) (codes "};\n") (c ∷ entries) (all_spells (codes ",") most c entries first others le) (record { no_digit = refl; no_word = refl }) e3) (λ q4 e4.
    then_back (word_at (codes "};\n")) _ tt table q4 [] [] (word_back (codes "};\n") q4 [] (e4 ∙ sym (append-nil (codes "};\n")))) (λ q5 e5. (q5, rw (eq-eqb n n refl) refl, e5)))))))

few : (number c : ℕ) (entries : List ℕ) → length entries ≤ length (c_table_text number (c ∷ entries))
unfolding c_table_text
few number c entries = few_entries (codes ",") (omega arith) (codes "static const uint64_t t" ++ decimal number ++ codes "[" ++ decimal (suc (length entries)) ++ codes "] = {") c entries (codes "};\n")

pub table_reads : (line : List ℕ) (number : ℕ) (entries : List ℕ) → IsTableOf line number entries →
    whole (c_table_at (length line)) line ≡ Ok (number, entries)
table_reads line number [] (fits, some, few_are, all, e) = absurd (omega (arith, some))
table_reads line number (c ∷ entries) (fits, some, few_are, all, e) =
    let limits = and_parts (ltb c above_all) (list_all (λ c. ltb c above_all) entries) all in
    ap (λ text. whole (c_table_at (length text)) text) e
    ∙ table_back (length (c_table_text number (c ∷ entries))) number c entries fits few_are (ltb-true c above_all limits.0) limits.1 (few number c entries)

same_value : (x y : ℕ × List ℕ) → (let read : Result (ℕ × List ℕ) ℕ = Ok x in read ≡ Ok y) → x ≡ y
same_value x y same = cc

pub same_table : (line : List ℕ) (found : ℕ) (others : List ℕ) (number : ℕ) (entries : List ℕ) →
    whole (c_table_at (length line)) line ≡ Ok (found, others) → IsTableOf line number entries →
    (found ≡ number) × (others ≡ entries)
same_table line found others number entries e l =
    let same = same_value (found, others) (number, entries) (sym e ∙ table_reads line number entries l) in
    (ap (λ table. table.0) same, ap (λ table. table.1) same)

pub only_memory : (line : List ℕ) (error : ReadError) (number : ℕ) (entries : List ℕ) →
    TellsAll (λ (table : ℕ × List ℕ). table) (Err error) (whole (c_table_at (length line)) line) →
    IsTableOf line number entries → error ≡ errors.NoMemory
only_memory line (errors.Stuck stuck) number entries h l = let same = sym h ∙ table_reads line number entries l in absurd cc
only_memory line errors.NoMemory number entries h l = refl
