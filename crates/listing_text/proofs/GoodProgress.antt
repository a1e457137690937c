-- Reading line by line reads the texts of a language: what was read so far is the front of one.
use Rattle.std.proofs.Common.{◌≡◌, ℕ, ◌-◌, ◌≤◌, ◌^◌, Bool, true, false, cond, ◌||◌, List, [], ◌∷◌, ◌++◌, length, take}
use Rattle.std.proofs.Common.{Option, Some, None, Result, Ok, Err, refl, sym, ap, subst, ◌∙◌, append_assoc, arith}
use Rattle.std.specs.List.{list_all}
use Rattle.std.specs.Option.{option_map}
use Rattle.std.proofs.lemmas.List.{append-nil, length-append, take_at}
use Rattle.icode.specs.Plain.{PlainProgram, NoStmts}
use Rattle.icode.specs.Limits.{IsWithinLimits}
use Rattle.grammar.specs.Grammar.{Begins}
use Rattle.grammar.specs.Reading.{word_in, whole}
use Rattle.listing_text.specs.declared.draft.Header.{Header}
use Rattle.listing_text.specs.Wording.{Close, Wording, program_of, text_of}
use Rattle.listing_text.specs.Drafts.{PlainDraft, blank, act_step, read_step, is_empty, table_step, entered}
use Rattle.listing_text.specs.Drafts.{header_step}
use Rattle.listing_text.specs.Progress.{Grammar, PlainProgress, free, owing, begin_text, phase_or_table, progress_step}
use Rattle.listing_text.specs.Progress.{begun, kept, step, draft_ends, finish}
use Rattle.listing_text.proofs.Owed.{word_is}
use Rattle.listing_text.proofs.GoodDrafts.{GoodDraft, table_taken, closed_body, all-push, act_frame, good_act}
use Rattle.listing_text.proofs.GoodDrafts.{good_table, good_entered, good_blank, blank_is, good_program, with_phase}
use Rattle.listing_text.proofs.GoodDrafts.{with_ends}
use Rattle.listing_text.proofs.Languages.{IsLanguage}
use Rattle.listing_text.proofs.NestTexts.{ends_lines, draft_text, phase_pushed, whole_text, act_grows, ends_behind}
use Rattle.listing_text.proofs.NestTexts.{outside_is, text_blank, text_entered, table_grows}
use Rattle.listing_text.proofs.NestReads.{some_pushed}

-- the text is that of a program, which stays in its limits, and whose tables pass the test
abbrev pub IsText : Wording → (List ℕ → Bool) → List ℕ → PlainProgram → Type 0
IsText w test text p =
    IsWithinLimits p × (length p.tables ≤ 2 ^ 64) × (list_all test p.tables ≡ true) × (text ≡ text_of w p)

-- ---- steps that are taken

kept_some : {A : Type 0} (o : Option A) (t : Option A) → kept o ≡ Some t → (d : A) × (o ≡ Some d) × (t ≡ Some d)
kept_some None t e = absurd cc
kept_some (Some d) t e = (d, refl, (let same : t ≡ Some d = cc in same))

read_some : {A B : Type 0} (next : A → Option B) (r : Result A ℕ) (t : B) → read_step next r ≡ Some t
    → (x : A) × (r ≡ Ok x) × (next x ≡ Some t)
read_some next (Ok x) t e = (x, refl, e)
read_some next (Err left) t e = absurd cc

map_some : {A B : Type 0} (f : A → B) (o : Option A) (t : B) → option_map f o ≡ Some t
    → (x : A) × (o ≡ Some x) × (f x ≡ t)
map_some f None t e = absurd cc
map_some f (Some x) t e = (x, refl, (let same : f x ≡ t = cc in same))

some_is : {A : Type 0} {x y : A} → (let o : Option A = Some x in o ≡ Some y) → x ≡ y
some_is same = cc

owed_after : PlainDraft → List ℕ → PlainProgress
owed_after d rest = record { draft = d; owed = rest }

-- what is left of the text after the line
owing_some : (d : PlainDraft) (text line : List ℕ) (t : PlainProgress) → owing d text line ≡ Some t
    → (rest : List ℕ) × (text ≡ line ++ rest) × (owed_after d rest ≡ t)
unfolding owed_after
owing_some d text line t e =
    let r = read_some (λ rest. Some (owed_after d rest.1)) (word_in line text) t e in
    (r.0.1, word_is line text r.0 r.1, some_is r.2)

-- what stands before the text that is owed
front_is : (front owed full : List ℕ) → front ++ owed ≡ full → take (length full - length owed) full ≡ front
front_is front owed full e =
    let n : length (front ++ owed) - length owed ≡ length front = omega (arith, length-append front owed) in
    subst (λ t. take (length t - length owed) t ≡ front) e (ap (λ k. take k (front ++ owed)) n ∙ take_at front owed (length front) refl)

unfoldable some_header : Header
some_header = record { size = 1; modulus = 2; procs = 1; line = 1; lanes = 1; regs = 0 }

or_false : (x y : Bool) (p : PlainProgram) (q : PlainProgram) → cond (x || y) None (Some q) ≡ Some p
    → (x ≡ false) × (y ≡ false) × (q ≡ p)
or_false true y p q e = absurd cc
or_false false true p q e = absurd cc
or_false false false p q e = (refl, refl, (let same : q ≡ p = cc in same))

-- a draft that ends is outside of phases, has one, and is this program
finished_is : (d : PlainDraft) (p : PlainProgram) → draft_ends d ≡ Some p
    → (d.is_inside ≡ false) × (is_empty d.phases ≡ false) × (program_of d.header d.tables d.phases ≡ p)
finished_is d p e = or_false d.is_inside (is_empty d.phases) p (program_of d.header d.tables d.phases) e

owes_nothing : (owed : List ℕ) (found : Option PlainProgram) (p : PlainProgram)
    → cond (is_empty owed) found None ≡ Some p → (owed ≡ []) × (found ≡ Some p)
owes_nothing [] found p e = (refl, e)
owes_nothing (b ∷ owed) found p e = absurd cc

module _ (w : Wording) (g : Grammar) (test : List ℕ → Bool) (laws : IsLanguage w g test) where
  abbrev pub full_text : PlainProgress → List ℕ
  full_text p = draft_text w p.draft

  abbrev pub written_text : PlainProgress → List ℕ
  written_text p = take (length (full_text p) - length p.owed) (full_text p)

  -- this text, and after it what is owed, is the draft's
  abbrev pub Leads : List ℕ → PlainProgress → Type 0
  Leads front p = front ++ p.owed ≡ full_text p

  pub record GoodProgress (p : PlainProgress) : Type 0 where
    pub draft : GoodDraft p.draft
    pub tables : list_all test p.draft.tables ≡ true
    pub front : List ℕ
    pub leads : Leads front p

  abbrev pub IsGood : Option PlainProgress → Type 0
  IsGood None = Unit {0}
  IsGood (Some p) = GoodProgress p

  abbrev pub written : Option PlainProgress → List ℕ
  written None = []
  written (Some p) = written_text p

  written_is : (front : List ℕ) (p : PlainProgress) → Leads front p → written_text p ≡ front
  written_is front p e = front_is front p.owed (full_text p) e

  Keeps : PlainProgress → PlainProgress → List ℕ → Type 0
  Keeps p t line = GoodProgress t × (written_text t ≡ written_text p ++ line)

  keeps_by : (p t : PlainProgress) (line : List ℕ) → (good : GoodProgress p) → GoodDraft t.draft
      → list_all test t.draft.tables ≡ true
      → Leads (good.front ++ line) t → Keeps p t line
  unfolding Keeps
  keeps_by p t line good draft tables leads = (
    record { draft = draft; tables = tables; front = good.front ++ line; leads = leads },
    written_is (good.front ++ line) t leads ∙ ap (λ y. y ++ line) (sym (written_is good.front p good.leads)),
  )

  keeps_owing : (p : PlainProgress) (line : List ℕ) (t : PlainProgress) → GoodProgress p
      → owing p.draft p.owed line ≡ Some t → Keeps p t line
  unfolding owed_after
  keeps_owing p line t good e =
      let o = owing_some p.draft p.owed line t e in
      subst (λ x. Keeps p x line) o.2
      (keeps_by p (owed_after p.draft o.0) line good good.draft good.tables
      (append_assoc good.front line o.0 ∙ ap (λ y. good.front ++ y) (sym o.1) ∙ good.leads))

  -- ---- with nothing owed
  front_is_full : (d : PlainDraft) (good : GoodProgress (free d)) → good.front ≡ draft_text w d
  front_is_full d good = sym (append-nil good.front) ∙ good.leads

  keeps_act : (d : PlainDraft) (line : List ℕ) (t : PlainProgress) → d.is_inside ≡ true → GoodProgress (free d)
      → option_map free (read_step (act_step d) (whole g.act line)) ≡ Some t → Keeps (free d) t line
  keeps_act d line t i good e =
      let m = map_some free (read_step (act_step d) (whole g.act line)) t e in
      let r = read_some (act_step d) (whole g.act line) m.0 m.1 in
      let same = act_frame d r.0 m.0 r.2 in
      subst (λ x. Keeps (free d) x line) m.2
      (keeps_by (free d) (free m.0) line good (good_act d r.0 m.0 good.draft r.2)
      (ap (λ ts. list_all test ts) same.1 ∙ good.tables)
      (append-nil (good.front ++ line) ∙ ap (λ y. y ++ line) (front_is_full d good)
      ∙ ap (λ y. draft_text w d ++ y) (laws.act_is line r.0 r.1) ∙ sym (act_grows w d r.0 m.0 i r.2)))

  keeps_table : (d : PlainDraft) (line : List ℕ) (t : PlainProgress) → d.is_inside ≡ false → GoodProgress (free d)
      → option_map free (read_step (table_step d) (whole (g.table (length line)) line)) ≡ Some t → Keeps (free d) t line
  keeps_table d line t i good e =
      let m = map_some free (read_step (table_step d) (whole (g.table (length line)) line)) t e in
      let r = read_some (table_step d) (whole (g.table (length line)) line) m.0 m.1 in
      let read = laws.table_is (length line) line r.0 r.1 in
      let taken = table_taken d r.0 m.0 r.2 in
      subst (λ x. Keeps (free d) x line) m.2
      (keeps_by (free d) (free m.0) line good (good_table d r.0 m.0 good.draft read.0 read.1 taken)
      (subst (λ x. list_all test x.tables ≡ true) taken.is (all-push test d.tables r.0.1 good.tables read.2))
      (append-nil (good.front ++ line) ∙ ap (λ y. y ++ line) (front_is_full d good)
      ∙ ap (λ y. draft_text w d ++ y) (read.3 ∙ ap (λ k. w.table k r.0.1) taken.number)
      ∙ sym (table_grows w d r.0.1 i taken.no_phase) ∙ ap (λ x. draft_text w x) taken.is))

  keeps_outside : (d : PlainDraft) (line : List ℕ) (t : PlainProgress) (found : Result (Unit {0} × List ℕ) ℕ)
      → word_in line (begin_text w d.header d.phases) ≡ found
      → d.is_inside ≡ false → GoodProgress (free d) → phase_or_table g d line found ≡ Some t → Keeps (free d) t line
  unfolding owed_after
  keeps_outside d line t (Ok rest) found i good e =
      let begin = begin_text w d.header d.phases in
      subst (λ x. Keeps (free d) x line) (some_is e)
      (keeps_by (free d) (owed_after (entered d) rest.1) line good (good_entered d good.draft) good.tables
      (append_assoc good.front line rest.1 ∙ ap (λ y. good.front ++ y) (sym (word_is line begin rest found))
      ∙ ap (λ y. y ++ begin) (front_is_full d good) ∙ sym (text_entered w d i)))
  keeps_outside d line t (Err left) found i good e = keeps_table d line t i good e

  keeps_free : (d : PlainDraft) (line : List ℕ) (t : PlainProgress) (k : Bool) → d.is_inside ≡ k → GoodProgress (free d)
      → cond k (option_map free (read_step (act_step d) (whole g.act line)))
      (phase_or_table g d line (word_in line (begin_text w d.header d.phases))) ≡ Some t
      → Keeps (free d) t line
  keeps_free d line t true i good e = keeps_act d line t i good e
  keeps_free d line t false i good e =
      keeps_outside d line t (word_in line (begin_text w d.header d.phases)) refl i good e

  keeps_line : (p : PlainProgress) (owed line : List ℕ) (t : PlainProgress) → p.owed ≡ owed → GoodProgress p
      → progress_step w g (owed_after p.draft owed) line ≡ Some t → Keeps p t line
  unfolding owed_after
  keeps_line p [] line t o good e =
      let same : p ≡ free p.draft = ap (λ owed. owed_after p.draft owed) o in
      subst (λ x. Keeps x t line) (sym same)
      (keeps_free p.draft line t p.draft.is_inside refl (subst GoodProgress same good) e)
  keeps_line p (b ∷ owed) line t o good e = keeps_owing p line t good (ap (λ text. owing p.draft text line) o ∙ e)

  pub keeps : (s : Option PlainProgress) (line : List ℕ) (t : Option PlainProgress) → IsGood s
      → step w g s line ≡ Some t
      → IsGood t × (written t ≡ written s ++ line)
  unfolding owed_after Keeps
  keeps None line t good e =
      let k = kept_some (option_map (begun w) (read_step header_step (whole g.header line))) t e in
      let m = map_some (begun w) (read_step header_step (whole g.header line)) k.0 k.1 in
      let r = read_some header_step (whole g.header line) m.0 m.1 in
      let is = blank_is r.0 m.0 r.2 in
      let first = begun w (blank r.0) in
      let leads : Leads line first = ap (λ y. y ++ w.front r.0) (laws.header_is line r.0 r.1) ∙ sym
      (text_blank w r.0) in
      let all : GoodProgress first × (written_text first ≡ line) =
      (record { draft = good_blank r.0 is.0; tables = refl; front = line; leads = leads }, written_is line first leads) in
      subst (λ x. IsGood x × (written x ≡ line)) (sym k.2)
      (subst (λ x. GoodProgress x × (written_text x ≡ line)) (ap (begun w) is.1 ∙ m.2) all)
  keeps (Some p) line t good e =
      let k = kept_some (progress_step w g p line) t e in
      subst (λ x. IsGood x × (written x ≡ written_text p ++ line)) (sym k.2)
      (keeps_line p p.owed line k.0 refl good k.1)

  -- ---- to the end

  module _ (spells : List ℕ → PlainProgram → Type 0)
      (make : (text : List ℕ) (p : PlainProgram) → IsText w test text p → spells text p) where
    -- what begins with all of a draft's text begins with what was written
    begins_front : (front owed full : List ℕ) → front ++ owed ≡ full → Begins spells full → Begins spells front
    begins_front front owed full e b =
        (owed ++ b.0, b.1, subst (λ y. spells y b.1) (ap (λ y. y ++ b.0) (sym e) ∙ append_assoc front owed b.0) b.2)

    begins_by : (d : PlainDraft) (k : Bool) → d.is_inside ≡ k → GoodDraft d → list_all test d.tables ≡ true
        → Begins spells (draft_text w d)
    begins_by d true i good tables =
        let body = closed_body d.open_loops d.body in
        let p = program_of d.header d.tables (d.phases ++ body ∷ []) in
        let rest = ends_lines w.line d.open_loops in (
          rest,
          p,
          make (draft_text w d ++ rest) p (
            with_ends d good,
            good.few,
            tables,
            ends_behind w d i ∙ whole_text w d.header d.tables
                (d.phases ++ body ∷ []) (some_pushed d.phases body),
          ),
        )
    begins_by d false i good tables =
        let p = program_of d.header d.tables (d.phases ++ NoStmts ∷ []) in
        let rest = begin_text w d.header d.phases ++ [] ++ w.line Close in (
          rest,
          p,
          make (draft_text w d ++ rest) p (
            with_phase d NoStmts good refl,
            good.few,
            tables,
            ap (λ y. y ++ rest) (outside_is w d i) ∙ sym (phase_pushed w d.header d.tables d.phases NoStmts)
                ∙ whole_text w d.header d.tables (d.phases ++ NoStmts ∷ []) (some_pushed d.phases NoStmts),
          ),
        )

    pub goes_on : (s : Option PlainProgress) → IsGood s → Begins spells (written s)
    unfolding some_header
    goes_on None good =
        let d = blank some_header in
        let b = begins_by d false refl (good_blank some_header refl) refl in (draft_text w d ++ b.0, b.1, b.2)
    goes_on (Some p) good =
        subst (λ y. Begins spells y) (sym (written_is good.front p good.leads))
        (begins_front good.front p.owed (full_text p) good.leads
        (begins_by p.draft p.draft.is_inside refl good.draft good.tables))

    pub spelt : (s : Option PlainProgress) (p : PlainProgram) → IsGood s → finish s ≡ Some p → spells (written s) p
    spelt None p good e = absurd cc
    spelt (Some r) p good e =
        let o = owes_nothing r.owed (draft_ends r.draft) p e in
        let is = finished_is r.draft p o.1 in
        let full : good.front ≡ full_text r = sym (append-nil good.front) ∙ ap (λ y. good.front ++ y) (sym o.0)
        ∙ good.leads in
        let d = r.draft in
        subst (λ y. spells y p) (sym (written_is good.front r good.leads ∙ full))
        (subst (λ q. spells (draft_text w d) q) is.2
        (make (draft_text w d) (program_of d.header d.tables d.phases) (
          good_program d good.draft is.1,
          good.draft.few,
          good.tables,
          outside_is w d is.0
              ∙ whole_text w d.header d.tables d.phases is.1,
        )))
