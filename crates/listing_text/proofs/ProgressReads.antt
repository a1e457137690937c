-- Every text of a language is read.
use Rattle.std.proofs.Common.{◌≡◌, ℕ, ◌<◌, ◌≤◌, Bool, true, false, cond, eqb, ltb, ◌&&◌, List, [], ◌∷◌, ◌++◌, length}
use Rattle.std.proofs.Common.{Option, Some, None, Result, Ok, refl, sym, ap, subst, ◌∙◌, append_assoc, arith}
use Rattle.std.specs.List.{list_all}
use Rattle.std.specs.Option.{option_map}
use Rattle.std.proofs.lemmas.Bool.{ltb-true, lt-ltb, eq-eqb, and_parts, and_from}
use Rattle.icode.specs.Plain.{PlainBody, PlainProgram}
use Rattle.icode.specs.Limits.{is_body_within, IsHeaderWithin}
use Rattle.grammar.specs.Reading.{word_in, whole}
use Rattle.listing_text.specs.declared.draft.Header.{Header}
use Rattle.listing_text.specs.Lines.{IsLine, read_lines, Judges}
use Rattle.listing_text.specs.Reading.{above_all}
use Rattle.listing_text.specs.Wording.{Wording, header_of, program_of, tables_text, phases_text}
use Rattle.listing_text.specs.Drafts.{PlainDraft, blank, act_step, read_step, is_empty, table_step, header_step}
use Rattle.listing_text.specs.Progress.{Grammar, PlainProgress, free, begin_text, phase_or_table, begun, kept, step}
use Rattle.listing_text.specs.Progress.{finish}
use Rattle.listing_text.proofs.LineReaders.{line_leads, IsLineReader, lines_judge}
use Rattle.listing_text.proofs.GoodDrafts.{within_from}
use Rattle.listing_text.proofs.OpenLines.{joined, AreLines}
use Rattle.listing_text.proofs.Languages.{IsLanguage}
use Rattle.listing_text.proofs.NestReads.{LeadsOn, BeginsLead, TablesLead, inside, between, phases_read, tables_read}
use Rattle.listing_text.proofs.GoodProgress.{IsText, IsGood, written, keeps, goes_on, spelt}

word_back : (line rest : List ℕ) → word_in line (line ++ rest) ≡ Ok (tt, rest)
word_back [] rest = refl
word_back (b ∷ line) rest = let same : eqb b b ≡ true = eq-eqb b b refl in rw same (word_back line rest)

not_empty : (front rest : List ℕ) → is_empty ((front ++ 10 ∷ []) ++ rest) ≡ false
not_empty [] rest = refl
not_empty (b ∷ front) rest = refl

some_line : (line rest : List ℕ) → IsLine line → is_empty (line ++ rest) ≡ false
some_line line rest l = subst (λ x. is_empty (x ++ rest) ≡ false) (sym l.whole) (not_empty l.front rest)

all_below : (m : ℕ) (entries : List ℕ) → m ≤ above_all → list_all (λ c. ltb c m) entries ≡ true
    → list_all (λ c. ltb c above_all) entries ≡ true
all_below m [] below h = refl
all_below m (c ∷ entries) below h =
    let limits = and_parts (ltb c m) (list_all (λ c. ltb c m) entries) h in
    and_from (ltb c above_all) (list_all (λ c. ltb c above_all) entries)
    (lt-ltb c above_all (omega (arith, ltb-true c m limits.0, below))) (all_below m entries below limits.1)

abbrev owed_after : PlainDraft → List ℕ → PlainProgress
owed_after d rest = record { draft = d; owed = rest }

phases_end : (h : Header) (tables : List (List ℕ)) (phases : List PlainBody) → is_empty phases ≡ false
    → finish (Some (free (between h tables phases))) ≡ Some (program_of h tables phases)
phases_end h tables [] none = absurd cc
phases_end h tables (b ∷ phases) some = refl

module _ (w : Wording) (g : Grammar) (test : List ℕ → Bool) (laws : IsLanguage w g test) where
  Reads : Option PlainProgress → List ℕ → PlainProgram → Type 0
  Reads s text p = read_lines (step w g) finish s [] text ≡ Ok p

  leads : (s t : Option PlainProgress) (line rest : List ℕ) (p : PlainProgram) → IsLine line
      → step w g s line ≡ Some t → Reads t rest p → Reads s (line ++ rest) p
  unfolding Reads
  leads s t line rest p l e r = line_leads (step w g) finish s t line rest p l e r

  -- ---- what is owed

  owed_step : (d : PlainDraft) (line rest : List ℕ) → IsLine line
      → step w g (Some (owed_after d (line ++ rest))) line ≡ Some (Some (owed_after d rest))
  owed_step d line rest l = rw (some_line line rest l, word_back line rest) refl

  owed_read : (d : PlainDraft) (lines : List (List ℕ)) (rest : List ℕ) (p : PlainProgram) → AreLines lines
      → Reads (Some (free d)) rest p → Reads (Some (owed_after d (joined lines))) (joined lines ++ rest) p
  owed_read d [] rest p are r = r
  owed_read d (line ∷ lines) rest p are r =
      subst (λ t. Reads (Some (owed_after d (line ++ joined lines))) t p) (sym (append_assoc line (joined lines) rest))
      (leads (Some (owed_after d (line ++ joined lines))) (Some (owed_after d (joined lines))) line
      (joined lines ++ rest) p are.0 (owed_step d line (joined lines) are.0)
      (owed_read d lines rest p are.1 r))

  -- ---- phases

  act_leads : LeadsOn (step w g) finish w.line (λ d. Some (free d))
  act_leads d t act rest p i below few within e r =
      line_leads (step w g) finish (Some (free d)) (Some (free t)) (w.line act) rest p (laws.act_line act)
      (ap (λ k. kept (cond k (option_map free (read_step (act_step d) (whole g.act (w.line act))))
      (phase_or_table g d (w.line act) (word_in (w.line act) (begin_text w d.header d.phases))))) i
      ∙ ap (λ x. kept (option_map free (read_step (act_step d) x)))
      (laws.act_back d.header.modulus (length d.open_loops) act below few within)
      ∙ ap (λ o. kept (option_map free o)) e) r

  phase_begins : (h : Header) (below : h.modulus ≤ above_all) (tables : List (List ℕ))
      → BeginsLead (step w g) finish w (λ d. Some (free d)) h below tables
  unfolding Reads
  phase_begins h below tables phases rest p r =
      let d = between h tables phases in
      let first = inside h tables phases [] [] in
      let lines = laws.begin_lines h phases in
      let others = joined lines.others in
      let taken : step w g (Some (free d)) lines.first ≡ Some (Some (owed_after first others)) =
      ap (λ text. kept (phase_or_table g d lines.first (word_in lines.first text))) lines.whole
      ∙ ap (λ found. kept (phase_or_table g d lines.first found)) (word_back lines.first others) in
      subst (λ t. Reads (Some (free d)) t p)
      (sym (ap (λ y. y ++ rest) lines.whole ∙ append_assoc lines.first others rest))
      (leads (Some (free d)) (Some (owed_after first others)) lines.first (others ++ rest) p lines.is taken
      (owed_read first lines.others rest p lines.are r))

  -- ---- tables

  table_leads : (h : Header) (below : h.modulus ≤ above_all)
      → TablesLead (step w g) finish w (λ d. Some (free d)) h below test
  unfolding Reads
  table_leads h below tables entries rest p fits passed within r =
      let n = length tables in
      let d = between h tables [] in
      let more = between h (tables ++ entries ∷ []) [] in
      let line = w.table n entries in
      let limits = and_parts (ltb 0 (length entries)) (list_all (λ c. ltb c h.modulus) entries) within in
      let only = laws.table_only n entries h in
      let back = laws.table_back n entries fits (ltb-true 0 (length entries) limits.0) passed
      (all_below h.modulus entries below limits.1) in
      let may : (eqb n n && (true && list_all (λ c. ltb c h.modulus) entries)) ≡ true =
      and_from (eqb n n) (true && list_all (λ c. ltb c h.modulus) entries) (eq-eqb n n refl)
      (and_from true (list_all (λ c. ltb c h.modulus) entries) refl limits.1) in
      leads (Some (free d)) (Some (free more)) line rest p (laws.table_line n entries)
      (ap (λ found. kept (phase_or_table g d line found)) only.1
      ∙ ap (λ x. kept (option_map free (read_step (table_step d) x))) back
      ∙ ap (λ k. kept (option_map free (cond k (Some more) None))) may) r

  -- ---- the first lines

  header_leads : (h : Header) → IsHeaderWithin h.size h.modulus h.procs h.line h.lanes h.regs
      → (rest : List ℕ) (p : PlainProgram)
      → Reads (Some (free (between h [] []))) rest p → Reads None (w.header h ++ (w.front h ++ rest)) p
  header_leads h within rest p r =
      let lines = laws.front_lines h in
      let d = blank h in
      let first : step w g None (w.header h) ≡ Some (Some (owed_after d (w.front h))) =
      ap (λ x. kept (option_map (begun w) (read_step header_step x))) (laws.header_back h within)
      ∙ ap (λ k. kept (option_map (begun w) (cond k (Some d) None))) (within_from h within) in
      leads None (Some (owed_after d (w.front h))) (w.header h) (w.front h ++ rest) p (laws.header_line h) first
      (subst (λ text. Reads (Some (owed_after d text)) (text ++ rest) p) (sym lines.whole)
      (owed_read d lines.lines rest p lines.are r))

  -- ---- a whole text

  text_right : (header front tables others : List ℕ)
      → header ++ front ++ tables ++ others ≡ header ++ (front ++ (tables ++ others))
  text_right header front tables others = simp append_assoc

  module _ (spells : List ℕ → PlainProgram → Type 0)
      (make : (text : List ℕ) (p : PlainProgram) → IsText w test text p → spells text p)
      (parts : (text : List ℕ) (p : PlainProgram) → spells text p → IsText w test text p) where
    complete : (text : List ℕ) (p : PlainProgram) → spells text p → read_lines (step w g) finish None [] text ≡ Ok p
    unfolding Reads
    complete text p s =
        let l = parts text p s in
        let h = header_of p in
        let below : h.modulus ≤ above_all = omega (arith, l.0.header.of_modulus.1) in
        let limits = and_parts (ltb 0 (length p.phases))
        (list_all (λ b. is_body_within h.modulus b 0) p.phases) l.0.statements in
        let tables = tables_text w 0 p.tables in
        let phases = w.between ++ phases_text w h.regs 0 p.phases in
        subst (λ t. Reads None t p) (sym (l.3 ∙ text_right (w.header h) (w.front h) tables phases))
        (header_leads h l.0.header (tables ++ phases) p
        (tables_read (step w g) finish w (λ d. Some (free d)) h below test
        (table_leads h below) p.tables [] phases p l.1 l.2 l.0.constants
        (phases_read (step w g) finish w (λ d. Some (free d)) h below p.tables act_leads
        (phase_begins h below p.tables) (program_of h p.tables) (phases_end h p.tables) p.phases [] limits.1
        (has_phase p.phases (ltb-true 0 (length p.phases) limits.0)))))
      where
        has_phase : (phases : List PlainBody) → 0 < length phases → is_empty phases ≡ false
        has_phase [] none = absurd (omega (arith, none))
        has_phase (b ∷ phases) some = refl

    abbrev reader : IsLineReader (IsGood w g test laws) (written w g test laws) (step w g) finish None spells
    reader = record { good = tt; empty = refl; keeps = keeps w g test laws; goes_on = goes_on w g test laws spells make; spelt = spelt w g test laws spells make; complete = complete }

    -- what reading line by line says of a text
    pub judges : (text : List ℕ) (r : Result PlainProgram ℕ) → read_lines (step w g) finish None [] text ≡ r
        → Judges spells text r
    judges text r e =
        lines_judge (IsGood w g test laws) (written w g test laws) (step w g) finish None spells reader text r e
