-- The text that leads to a draft, in any language.
use Rattle.std.proofs.Common.{◌≡◌, ℕ, suc, ◌+◌, Bool, true, false, List, [], ◌∷◌, ◌++◌, length, Some, refl, sym, ap}
use Rattle.std.proofs.Common.{subst, ◌∙◌, append_assoc, arith}
use Rattle.std.proofs.lemmas.List.{append-nil}
use Rattle.icode.specs.Plain.{PlainOp, PlainStmt, PlainBody, Loop, body_of}
use Rattle.icode.specs.Plain as plain
use Rattle.icode.specs.Limits.{is_op_within}
use Rattle.listing_text.specs.declared.draft.Header.{Header}
use Rattle.listing_text.specs.Wording.{PlainAct, Open, Close, Do, Wording, program_of, stmt_lines, body_lines}
use Rattle.listing_text.specs.Wording.{tables_text, phases_text, text_of}
use Rattle.listing_text.specs.Drafts.{PlainLevel, PlainDraft, blank, is_empty, entered, with_body, closed, act_step}
use Rattle.listing_text.specs.Progress.{begin_text}
use Rattle.listing_text.proofs.GoodDrafts.{closed_body, guard_some, opened_is, with_table}

-- the open loops with what stands before them
abbrev pub open_lines : (PlainAct → List ℕ) → List PlainLevel → List ℕ
open_lines line [] = []
open_lines line (level ∷ levels) = open_lines line levels ++ (body_lines line (length levels) (body_of level.before) ++ line (Open (length levels) level.count))

-- the ends of these loops and of the phase
abbrev pub ends_lines : (PlainAct → List ℕ) → List PlainLevel → List ℕ
ends_lines line [] = line Close
ends_lines line (level ∷ levels) = line Close ++ ends_lines line levels

-- ---- a draft

-- the phases with what stands before the first one
abbrev pub phases_from : Wording → Header → List PlainBody → List ℕ
phases_from w h [] = []
phases_from w h (body ∷ phases) = w.between ++ phases_text w h.regs 0 (body ∷ phases)

abbrev pub outside_text : Wording → Header → List (List ℕ) → List PlainBody → List ℕ
outside_text w h tables phases = w.header h ++ w.front h ++ tables_text w 0 tables ++ phases_from w h phases

abbrev pub inside_text : Wording → Header → List PlainBody → Bool → List PlainLevel → List PlainStmt → List ℕ
inside_text w h phases true levels body =
    begin_text w h phases ++ (open_lines w.line levels ++ body_lines w.line (length levels) (body_of body))
inside_text w h phases false levels body = []

abbrev pub draft_text : Wording → PlainDraft → List ℕ
draft_text w d =
    outside_text w d.header d.tables d.phases ++ inside_text w d.header d.phases d.is_inside d.open_loops d.body

open_more : (front phase opens body line : List ℕ) → front ++ (phase ++ ((opens ++ (body ++ line)) ++ []))
    ≡ (front ++ (phase ++ (opens ++ body))) ++ line
open_more front phase opens body line = ap (λ y. front ++ (phase ++ y)) (append-nil (opens ++ (body ++ line))) ∙ simp append_assoc

op_more : (front phase opens body line : List ℕ) → front ++ (phase ++ (opens ++ (body ++ line)))
    ≡ (front ++ (phase ++ (opens ++ body))) ++ line
op_more front phase opens body line = simp append_assoc

loop_more : (front phase opens before for body end : List ℕ) →
    front ++ (phase ++ (opens ++ (before ++ (for ++ body ++ end))))
    ≡ (front ++ (phase ++ ((opens ++ (before ++ for)) ++ body))) ++ end
loop_more front phase opens before for body end = simp append_assoc

phase_more : (front phase body end : List ℕ) → (front ++ (phase ++ body ++ end)) ++ []
    ≡ (front ++ (phase ++ ([] ++ body))) ++ end
phase_more front phase body end = append-nil (front ++ (phase ++ body ++ end)) ∙ simp append_assoc

ends_more : (opens before for body end more : List ℕ) → ((opens ++ (before ++ for)) ++ body) ++ (end ++ more)
    ≡ (opens ++ (before ++ (for ++ body ++ end))) ++ more
ends_more opens before for body end more = simp append_assoc

phase_behind : (front phase opens ends body end : List ℕ) → opens ++ ends ≡ body ++ end →
    (front ++ (phase ++ opens)) ++ ends ≡ front ++ (phase ++ body ++ end)
phase_behind front phase opens ends body end e =
    let moved : (front ++ (phase ++ opens)) ++ ends ≡ front ++ (phase ++ (opens ++ ends)) = simp append_assoc in
    moved ∙ ap (λ y. front ++ (phase ++ y)) e ∙ ap (λ y. front ++ y) (sym (append_assoc phase body end))

module _ (line : PlainAct → List ℕ) where
  body_lines-push : (depth : ℕ) (xs : List PlainStmt) (s : PlainStmt) →
      body_lines line depth (body_of (xs ++ s ∷ [])) ≡ body_lines line depth (body_of xs) ++ stmt_lines line depth s
  body_lines-push depth [] s = append-nil (stmt_lines line depth s)
  body_lines-push depth (x ∷ xs) s =
      ap (λ y. stmt_lines line depth x ++ y) (body_lines-push depth xs s) ∙ sym (append_assoc (stmt_lines line depth x) (body_lines line depth (body_of xs)) (stmt_lines line depth s))

  lines_ended : (levels : List PlainLevel) (body : List PlainStmt) →
      (open_lines line levels ++ body_lines line (length levels) (body_of body)) ++ ends_lines line levels
      ≡ body_lines line 0 (closed_body levels body) ++ line Close
  lines_ended [] body = refl
  lines_ended (level ∷ levels) body =
      let n = length levels in
      let deeper : suc n ≡ n + 1 = omega arith in
      let before = body_lines line n (body_of level.before) in
      ends_more (open_lines line levels) before (line (Open n level.count)) (body_lines line (suc n) (body_of body)) (line Close) (ends_lines line levels)
      ∙ ap (λ d. (open_lines line levels ++ (before ++ (line (Open n level.count) ++ body_lines line d (body_of body) ++ line Close))) ++ ends_lines line levels) deeper
      ∙ ap (λ y. (open_lines line levels ++ y) ++ ends_lines line levels) (sym (body_lines-push n level.before (Loop level.count (body_of body))))
      ∙ lines_ended levels (level.before ++ Loop level.count (body_of body) ∷ [])

module _ (w : Wording) where
  abbrev phase_text : ℕ → ℕ → PlainBody → List ℕ
  phase_text regs number body = w.phase regs number ++ body_lines w.line 0 body ++ w.line Close

  tables_text-push : (number : ℕ) (tables : List (List ℕ)) (entries : List ℕ)
      → tables_text w number (tables ++ entries ∷ []) ≡ tables_text w number tables ++ w.table
      (number + length tables) entries
  tables_text-push number [] entries =
      let e : number ≡ number + 0 = omega arith in append-nil (w.table number entries) ∙ ap (λ n. w.table n entries) e
  tables_text-push number (t ∷ tables) entries =
      let e : number + 1 + length tables ≡ number + suc (length tables) = omega arith in
      ap (λ y. w.table number t ++ y) (tables_text-push (number + 1) tables entries) ∙ sym
      (append_assoc (w.table number t) (tables_text w (number + 1) tables)
      (w.table (number + 1 + length tables) entries))
      ∙ ap (λ n. (w.table number t ++ tables_text w (number + 1) tables) ++ w.table n entries) e

  phases_text-push : (regs number : ℕ) (phases : List PlainBody) (body : PlainBody)
      → phases_text w regs number (phases ++ body ∷ []) ≡ phases_text w regs number phases ++ phase_text regs
      (number + length phases) body
  phases_text-push regs number [] body =
      let e : number ≡ number + 0 = omega arith in append-nil (phase_text regs number body) ∙ ap
      (λ n. phase_text regs n body) e
  phases_text-push regs number (b ∷ phases) body =
      let e : number + 1 + length phases ≡ number + suc (length phases) = omega arith in
      ap (λ y. phase_text regs number b ++ y) (phases_text-push regs (number + 1) phases body) ∙ sym
      (append_assoc (phase_text regs number b) (phases_text w regs (number + 1) phases)
      (phase_text regs (number + 1 + length phases) body))
      ∙ ap (λ n. (phase_text regs number b ++ phases_text w regs (number + 1) phases) ++ phase_text regs n body) e

  first_phase : (between phase body end : List ℕ)
      → between ++ (phase ++ body ++ end ++ []) ≡ (between ++ phase) ++ body ++ end
  first_phase between phase body end = ap (λ y. between ++ y) (append-nil (phase ++ body ++ end)) ∙ simp append_assoc

  phases_from-push : (h : Header) (phases : List PlainBody) (body : PlainBody)
      → phases_from w h (phases ++ body ∷ []) ≡ phases_from w h phases ++
      (begin_text w h phases ++ body_lines w.line 0 body ++ w.line Close)
  phases_from-push h [] body = first_phase w.between (w.phase h.regs 0) (body_lines w.line 0 body) (w.line Close)
  phases_from-push h (b ∷ phases) body =
      let all = b ∷ phases in
      let before = phases_text w h.regs 0 all in
      let n : 0 + length all ≡ length all = omega arith in
      ap (λ y. w.between ++ y) (phases_text-push h.regs 0 all body ∙ ap (λ k. before ++ phase_text h.regs k body) n)
      ∙ sym (append_assoc w.between before (phase_text h.regs (length all) body))

  -- one phase more comes after the others
  pub phase_pushed : (h : Header) (tables : List (List ℕ)) (phases : List PlainBody) (body : PlainBody)
      → outside_text w h tables (phases ++ body ∷ []) ≡ outside_text w h tables phases ++
      (begin_text w h phases ++ body_lines w.line 0 body ++ w.line Close)
  phase_pushed h tables phases body =
      let front = w.header h ++ w.front h ++ tables_text w 0 tables in
      ap (λ y. front ++ y) (phases_from-push h phases body)
      ∙ sym (append_assoc front (phases_from w h phases)
      (begin_text w h phases ++ body_lines w.line 0 body ++ w.line Close))

  -- with a phase it is the text of a program
  pub whole_text : (h : Header) (tables : List (List ℕ)) (phases : List PlainBody) → is_empty phases ≡ false
      → outside_text w h tables phases ≡ text_of w (program_of h tables phases)
  whole_text h tables [] none = absurd cc
  whole_text h tables (body ∷ phases) some = refl

module _ (w : Wording) where
  text : PlainDraft → List ℕ
  text d = draft_text w d

  inside_is : (d : PlainDraft) (k : Bool) → d.is_inside ≡ k
      → text d ≡ outside_text w d.header d.tables d.phases ++ inside_text w d.header d.phases k d.open_loops d.body
  unfolding text
  inside_is d k e =
      ap (λ x. outside_text w d.header d.tables d.phases ++ inside_text w d.header d.phases x d.open_loops d.body) e

  Grows : PlainDraft → PlainAct → PlainDraft → Type 0
  Grows d act t = text t ≡ text d ++ w.line act

  open_grows : (d : PlainDraft) (depth count : ℕ) (t : PlainDraft) → d.is_inside ≡ true →
      act_step d (Open depth count) ≡ Some t → Grows d (Open depth count) t
  unfolding text Grows
  open_grows d depth count t i e =
      let n = length d.open_loops in
      let is = opened_is d depth count t e in
      subst (λ x. text x ≡ text d ++ w.line (Open depth count)) is.1
      (open_more (outside_text w d.header d.tables d.phases) (begin_text w d.header d.phases)
      (open_lines w.line d.open_loops) (body_lines w.line n (body_of d.body)) (w.line (Open n count))
      ∙ ap (λ y. (outside_text w d.header d.tables d.phases ++ inside_text w d.header d.phases true d.open_loops d.body) ++ w.line (Open y count)) is.0
      ∙ ap (λ y. y ++ w.line (Open depth count)) (sym (inside_is d true i)))

  op_grows : (d : PlainDraft) (op : PlainOp) (t : PlainDraft) → d.is_inside ≡ true → act_step d (Do op) ≡ Some t →
      Grows d (Do op) t
  unfolding text Grows
  op_grows d op t i e =
      let n = length d.open_loops in
      let guard = guard_some (is_op_within d.header.modulus op n) (with_body d (d.body ++ plain.Do op ∷ [])) t e in
      subst (λ x. text x ≡ text d ++ w.line (Do op)) guard.1
      (ap (λ y. outside_text w d.header d.tables d.phases ++
      (begin_text w d.header d.phases ++ (open_lines w.line d.open_loops ++ y)))
      (body_lines-push w.line n d.body (plain.Do op))
      ∙ op_more (outside_text w d.header d.tables d.phases) (begin_text w d.header d.phases)
      (open_lines w.line d.open_loops) (body_lines w.line n (body_of d.body)) (w.line (Do op))
      ∙ ap (λ y. y ++ w.line (Do op)) (sym (inside_is d true i)))

  closed_grows : (d : PlainDraft) (levels : List PlainLevel)
      → text (closed d levels) ≡
      (outside_text w d.header d.tables d.phases ++ inside_text w d.header d.phases true levels d.body) ++ w.line Close
  unfolding text
  closed_grows d [] =
      ap (λ y. y ++ []) (phase_pushed w d.header d.tables d.phases (body_of d.body)) ∙ phase_more
      (outside_text w d.header d.tables d.phases) (begin_text w d.header d.phases)
      (body_lines w.line 0 (body_of d.body)) (w.line Close)
  closed_grows d (level ∷ levels) =
      let n = length levels in
      let deeper : n + 1 ≡ suc n = omega arith in
      let front = outside_text w d.header d.tables d.phases in
      let phase = begin_text w d.header d.phases in
      let before = body_lines w.line n (body_of level.before) in
      ap (λ y. front ++ (phase ++ (open_lines w.line levels ++ y)))
      (body_lines-push w.line n level.before (Loop level.count (body_of d.body)))
      ∙ ap (λ k. front ++ (phase ++
      (open_lines w.line levels ++
      (before ++ (w.line (Open n level.count) ++ body_lines w.line k (body_of d.body) ++ w.line Close))))) deeper
      ∙ loop_more front phase (open_lines w.line levels) before (w.line (Open n level.count))
      (body_lines w.line (suc n) (body_of d.body)) (w.line Close)

  close_grows : (d t : PlainDraft) → d.is_inside ≡ true → act_step d Close ≡ Some t → Grows d Close t
  unfolding text Grows
  close_grows d t i e =
      let same : closed d d.open_loops ≡ t = cc in
      subst (λ x. text x ≡ text d ++ w.line Close) same
      (closed_grows d d.open_loops ∙ ap (λ y. y ++ w.line Close) (sym (inside_is d true i)))

  -- one line of a phase more
  pub act_grows : (d : PlainDraft) (act : PlainAct) (t : PlainDraft) → d.is_inside ≡ true → act_step d act ≡ Some t
      → draft_text w t ≡ draft_text w d ++ w.line act
  unfolding text Grows
  act_grows d (Open depth count) t i e = open_grows d depth count t i e
  act_grows d Close t i e = close_grows d t i e
  act_grows d (Do op) t i e = op_grows d op t i e

  -- the ends of all that is open
  pub ends_behind : (d : PlainDraft) → d.is_inside ≡ true
      → draft_text w d ++ ends_lines w.line d.open_loops ≡ outside_text w d.header d.tables
      (d.phases ++ closed_body d.open_loops d.body ∷ [])
  unfolding text
  ends_behind d i =
      let body = closed_body d.open_loops d.body in
      ap (λ y. y ++ ends_lines w.line d.open_loops) (inside_is d true i)
      ∙ phase_behind (outside_text w d.header d.tables d.phases) (begin_text w d.header d.phases)
      (open_lines w.line d.open_loops ++ body_lines w.line (length d.open_loops) (body_of d.body))
      (ends_lines w.line d.open_loops) (body_lines w.line 0 body) (w.line Close)
      (lines_ended w.line d.open_loops d.body)
      ∙ sym (phase_pushed w d.header d.tables d.phases body)

  -- what stands outside of phases
  pub outside_is : (d : PlainDraft) → d.is_inside ≡ false → draft_text w d ≡ outside_text w d.header d.tables d.phases
  unfolding text
  outside_is d i = inside_is d false i ∙ append-nil (outside_text w d.header d.tables d.phases)

  -- one phase more is begun
  pub text_entered : (d : PlainDraft) → d.is_inside ≡ false
      → draft_text w (entered d) ≡ draft_text w d ++ begin_text w d.header d.phases
  text_entered d i =
      ap (λ y. outside_text w d.header d.tables d.phases ++ y) (append-nil (begin_text w d.header d.phases)) ∙ ap
      (λ y. y ++ begin_text w d.header d.phases) (sym (outside_is d i))

-- ---- before there are phases

module _ (w : Wording) where
  pub text_blank : (h : Header) → draft_text w (blank h) ≡ w.header h ++ w.front h
  text_blank h =
      let front = w.header h ++ w.front h in append-nil (front ++ [] ++ []) ∙ append-nil (front ++ [])
      ∙ append-nil front

  table_more : (front tables line : List ℕ) → (front ++ (tables ++ line) ++ []) ++ [] ≡ (front ++ tables ++ []) ++ line
  table_more front tables line =
      append-nil (front ++ (tables ++ line) ++ []) ∙ append-nil (front ++ (tables ++ line)) ∙ sym
      (append_assoc front tables line)
      ∙ ap (λ y. y ++ line) (sym (append-nil (front ++ tables)))

  text_with_table : (h : Header) (tables : List (List ℕ)) (entries : List ℕ)
      → outside_text w h (tables ++ entries ∷ []) [] ++ [] ≡ outside_text w h tables [] ++ w.table
      (length tables) entries
  text_with_table h tables entries =
      let front = w.header h ++ w.front h in
      let n : 0 + length tables ≡ length tables = omega arith in
      ap (λ y. (front ++ y ++ []) ++ [])
      (tables_text-push w 0 tables entries ∙ ap (λ k. tables_text w 0 tables ++ w.table k entries) n)
      ∙ table_more front (tables_text w 0 tables) (w.table (length tables) entries)

  pub table_grows : (d : PlainDraft) (entries : List ℕ) → d.is_inside ≡ false → d.phases ≡ []
      → draft_text w (with_table d entries) ≡ draft_text w d ++ w.table (length d.tables) entries
  table_grows d entries i none =
      let line = w.table (length d.tables) entries in
      ap (λ ps. outside_text w d.header (d.tables ++ entries ∷ []) ps ++ []) none
      ∙ text_with_table d.header d.tables entries
      ∙ ap (λ ps. outside_text w d.header d.tables ps ++ line) (sym none)
      ∙ ap (λ y. y ++ line) (sym (outside_is w d i))
