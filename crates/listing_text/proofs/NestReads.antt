-- The lines of a phase lead from its begin to its end, and those of all phases and tables to a program, in any language.
use Rattle.std.proofs.Common.{◌≡◌, ℕ, suc, ◌+◌, ◌<◌, ◌≤◌, true, false, eqb, ltb, ◌&&◌, List, [], ◌∷◌, ◌++◌, length}
use Rattle.std.proofs.Common.{Option, Some, Ok, refl, sym, ap, subst, ◌∙◌, append_assoc, arith}
use Rattle.std.specs.Prelude.{Bool}
use Rattle.std.specs.List.{list_all}
use Rattle.std.proofs.lemmas.Bool.{ltb-true, lt-ltb, eq-eqb, and_parts, and_from}
use Rattle.std.proofs.lemmas.List.{append-nil, length-append}
use Rattle.icode.specs.Plain.{PlainStmt, PlainBody, PlainOp, Loop, NoStmts, AndStmts, body_of}
use Rattle.icode.specs.Plain as plain
use Rattle.icode.specs.Limits.{is_small_positive, is_stmt_within, is_body_within, is_op_within, are_tables_within}
use Rattle.listing_text.specs.declared.draft.Header.{Header}
use Rattle.listing_text.specs.Lines.{read_lines, valued}
use Rattle.listing_text.specs.Reading.{above_all}
use Rattle.listing_text.specs.Wording.{PlainAct, Open, Close, Do, Wording, stmt_lines, body_lines, tables_text}
use Rattle.listing_text.specs.Wording.{phases_text}
use Rattle.listing_text.specs.Drafts.{PlainLevel, PlainDraft, may_open, act_step, is_empty}
use Rattle.listing_text.specs.Progress.{between_if, begin_text}
use Rattle.listing_text.proofs.LineReaders.{read_rest}
use Rattle.listing_text.proofs.ReadBack.{positive_fits}
use Rattle.listing_text.proofs.ActsBack.{IsActWithin}

-- inside a phase, and between two
abbrev pub inside : Header → List (List ℕ) → List PlainBody → List PlainLevel → List PlainStmt → PlainDraft
inside h tables phases levels body = record { header = h; tables = tables; phases = phases; is_inside = true; open_loops = levels; body = body }

abbrev pub between : Header → List (List ℕ) → List PlainBody → PlainDraft
between h tables phases = record { header = h; tables = tables; phases = phases; is_inside = false; open_loops = []; body = [] }

stmts_of : PlainBody → List PlainStmt
stmts_of NoStmts = []
stmts_of (AndStmts s rest) = s ∷ stmts_of rest

body_of-stmts_of : (b : PlainBody) → body_of (stmts_of b) ≡ b
unfolding stmts_of
body_of-stmts_of NoStmts = refl
body_of-stmts_of (AndStmts s rest) = ap (AndStmts s) (body_of-stmts_of rest)

pub some_pushed : (phases : List PlainBody) (b : PlainBody) → is_empty (phases ++ b ∷ []) ≡ false
some_pushed [] b = refl
some_pushed (x ∷ phases) b = refl

-- the line of what may stand in a draft leads to what it makes of it
abbrev pub LeadsOn : {T A : Type 0} → (T → List ℕ → Option T) → (T → Option A) → (PlainAct → List ℕ) →
    (PlainDraft → T) → Type 0
LeadsOn {T} {A} step finish line state =
    (d t : PlainDraft) (act : PlainAct) (rest : List ℕ) (p : A) → d.is_inside ≡ true → d.header.modulus ≤ above_all → length d.open_loops ≤ 64 → IsActWithin d.header.modulus (length d.open_loops) act → act_step d act ≡ Some t
    → read_lines step finish (state t) [] rest ≡ Ok p → read_lines step finish (state d) [] (line act ++ rest) ≡ Ok p

module _ {T A : Type 0} (step : T → List ℕ → Option T) (finish : T → Option A) (line : PlainAct → List ℕ)
    (state : PlainDraft → T) (leads : LeadsOn step finish line state) (h : Header) (tables : List (List ℕ))
    (phases : List PlainBody) (below : h.modulus ≤ above_all) where
  Reads : PlainDraft → List ℕ → A → Type 0
  Reads d text p = read_lines step finish (state d) [] text ≡ Ok p

  act_leads : (levels : List PlainLevel) (body : List PlainStmt) (act : PlainAct) (t : PlainDraft) (rest : List ℕ)
      (p : A) → length levels ≤ 64 → IsActWithin h.modulus (length levels) act
      → act_step (inside h tables phases levels body) act ≡ Some t → Reads t rest p →
      Reads (inside h tables phases levels body) (line act ++ rest) p
  unfolding Reads
  act_leads levels body act t rest p few within e r = leads (inside h tables phases levels body) t act rest p refl below few within e r

  op_reads : (op : PlainOp) (levels : List PlainLevel) (body : List PlainStmt) (rest : List ℕ) (p : A) →
      is_op_within h.modulus op (length levels) ≡ true → length levels ≤ 64
      → Reads (inside h tables phases levels (body ++ plain.Do op ∷ [])) rest p →
      Reads (inside h tables phases levels body) (stmt_lines line (length levels) (plain.Do op) ++ rest) p
  op_reads op levels body rest p w few r = act_leads levels body (Do op) (inside h tables phases levels (body ++ plain.Do op ∷ [])) rest p few w (rw w refl) r

  open_reads : (count : ℕ) (levels : List PlainLevel) (body : List PlainStmt) (rest : List ℕ) (p : A) →
      is_small_positive count ≡ true → length levels < 64
      → Reads (inside h tables phases (record { count = count; before = body } ∷ levels) []) rest p → Reads (inside h tables phases levels body) (line (Open (length levels) count) ++ rest) p
  open_reads count levels body rest p w few r =
      let n = length levels in
      let test : may_open n n count ≡ true = and_from (eqb n n) (ltb n 64 && is_small_positive count) (eq-eqb n n refl) (and_from (ltb n 64) (is_small_positive count) (lt-ltb n 64 few) w) in
      act_leads levels body (Open n count) (inside h tables phases (record { count = count; before = body } ∷ levels) []) rest p (omega arith) (omega (arith, few), positive_fits count w) (rw test refl) r

  close_reads : (level : PlainLevel) (levels : List PlainLevel) (body : List PlainStmt) (rest : List ℕ) (p : A) →
      suc (length levels) ≤ 64
      → Reads (inside h tables phases levels (level.before ++ Loop level.count (body_of body) ∷ [])) rest p →
      Reads (inside h tables phases (level ∷ levels) body) (line Close ++ rest) p
  close_reads level levels body rest p few r = act_leads (level ∷ levels) body Close (inside h tables phases levels (level.before ++ Loop level.count (body_of body) ∷ [])) rest p few tt refl r

  loop_right : (for body end rest : List ℕ) → (for ++ body ++ end) ++ rest ≡ for ++ (body ++ (end ++ rest))
  loop_right for body end rest = simp append_assoc

  AllRead : PlainBody → Type 0
  AllRead b = (levels : List PlainLevel) (body : List PlainStmt) (rest : List ℕ) (p : A) → is_body_within h.modulus b (length levels) ≡ true → length levels ≤ 64
      → Reads (inside h tables phases levels (body ++ stmts_of b)) rest p → Reads (inside h tables phases levels body) (body_lines line (length levels) b ++ rest) p

  loop_reads : (count : ℕ) (b : PlainBody) → AllRead b → (levels : List PlainLevel) (body : List PlainStmt)
      (rest : List ℕ) (p : A) → is_stmt_within h.modulus (Loop count b) (length levels) ≡ true → length levels ≤ 64
      → Reads (inside h tables phases levels (body ++ Loop count b ∷ [])) rest p →
      Reads (inside h tables phases levels body) (stmt_lines line (length levels) (Loop count b) ++ rest) p
  unfolding AllRead
  loop_reads count b again levels body rest p w few r =
      let n = length levels in
      let level : PlainLevel = record { count = count; before = body } in
      let limits = and_parts (is_small_positive count) (ltb n 64 && is_body_within h.modulus b (n + 1)) w in
      let others = and_parts (ltb n 64) (is_body_within h.modulus b (n + 1)) limits.1 in
      let deep : n < 64 = ltb-true n 64 others.0 in
      let deeper : n + 1 ≡ suc n = omega arith in
      let closing : Reads (inside h tables phases (level ∷ levels) (stmts_of b)) (line Close ++ rest) p =
      close_reads level levels (stmts_of b) rest p (omega arith) (subst (λ x. Reads (inside h tables phases levels (body ++ Loop count x ∷ [])) rest p) (sym (body_of-stmts_of b)) r) in
      let whole_body : Reads (inside h tables phases (level ∷ levels) []) (body_lines line (suc n) b ++ (line Close ++ rest)) p =
      again (level ∷ levels) [] (line Close ++ rest) p (subst (λ d. is_body_within h.modulus b d ≡ true) deeper others.1) (omega arith) closing in
      subst (λ t. Reads (inside h tables phases levels body) t p) (sym (loop_right (line (Open n count)) (body_lines line (n + 1) b) (line Close) rest))
      (open_reads count levels body (body_lines line (n + 1) b ++ (line Close ++ rest)) p limits.0 deep
      (subst (λ d. Reads (inside h tables phases (level ∷ levels) []) (body_lines line d b ++ (line Close ++ rest)) p) (sym deeper) whole_body))

  mutual
    unfolding AllRead stmts_of

    body_reads : (b : PlainBody) → AllRead b
    body_reads NoStmts levels body rest p w few r = subst (λ x. Reads (inside h tables phases levels x) rest p) (append-nil body) r
    body_reads (AndStmts s b) levels body rest p w few r =
        let n = length levels in
        let limits = and_parts (is_stmt_within h.modulus s n) (is_body_within h.modulus b n) w in
        subst (λ t. Reads (inside h tables phases levels body) t p) (sym (append_assoc (stmt_lines line n s) (body_lines line n b) rest))
        (stmt_reads s levels body (body_lines line n b ++ rest) p limits.0 few
        (body_reads b levels (body ++ s ∷ []) rest p limits.1 few (subst (λ x. Reads (inside h tables phases levels x) rest p) (sym (append_assoc body (s ∷ []) (stmts_of b))) r)))

    stmt_reads : (s : PlainStmt) (levels : List PlainLevel) (body : List PlainStmt) (rest : List ℕ) (p : A) →
        is_stmt_within h.modulus s (length levels) ≡ true → length levels ≤ 64
        → Reads (inside h tables phases levels (body ++ s ∷ [])) rest p →
        Reads (inside h tables phases levels body) (stmt_lines line (length levels) s ++ rest) p
    stmt_reads (Loop count b) levels body rest p w few r = loop_reads count b (body_reads b) levels body rest p w few r
    stmt_reads (plain.Do op) levels body rest p w few r = op_reads op levels body rest p w few r

  -- from the begin of a phase to its end
  pub phase_lines_read : (b : PlainBody) (rest : List ℕ) (p : A) → is_body_within h.modulus b 0 ≡ true →
      read_lines step finish (state (between h tables (phases ++ b ∷ []))) [] rest ≡ Ok p
      → read_lines step finish (state (inside h tables phases [] [])) [] (body_lines line 0 b ++ (line Close ++ rest))
      ≡ Ok p
  unfolding AllRead Reads
  phase_lines_read b rest p w r =
      body_reads b [] [] (line Close ++ rest) p w (omega arith)
      (act_leads [] (stmts_of b) Close (between h tables (phases ++ b ∷ [])) rest p (omega arith) tt (ap (λ x. Some (between h tables (phases ++ x ∷ []))) (body_of-stmts_of b)) r)

module _ {T A : Type 0} (step : T → List ℕ → Option T) (finish : T → Option A) (w : Wording) (state : PlainDraft → T)
    (h : Header) (below : h.modulus ≤ above_all) where
  AreRead : PlainDraft → List ℕ → A → Type 0
  AreRead d text p = read_lines step finish (state d) [] text ≡ Ok p

  phase_right : (between phase body end rest : List ℕ)
      → between ++ (phase ++ body ++ end ++ rest) ≡ (between ++ phase) ++ (body ++ (end ++ rest))
  phase_right between phase body end rest = simp append_assoc

  -- how a phase begins leads into it
  abbrev pub BeginsLead : List (List ℕ) → Type 0
  BeginsLead tables =
      (phases : List PlainBody) (rest : List ℕ) (p : A)
      → read_lines step finish (state (inside h tables phases [] [])) [] rest ≡ Ok p
      → read_lines step finish (state (between h tables phases)) [] (begin_text w h phases ++ rest) ≡ Ok p

  module _ (tables : List (List ℕ)) (leads : LeadsOn step finish w.line state) (begins : BeginsLead tables) where
    phase_reads : (phases : List PlainBody) (b : PlainBody) (rest : List ℕ) (p : A)
        → is_body_within h.modulus b 0 ≡ true
        → AreRead (between h tables (phases ++ b ∷ [])) rest p
        → AreRead (between h tables phases)
        (between_if w (is_empty phases) ++
        (w.phase h.regs (length phases) ++ body_lines w.line 0 b ++ w.line Close ++ rest)) p
    unfolding AreRead
    phase_reads phases b rest p within r =
        subst (λ t. AreRead (between h tables phases) t p)
        (sym (phase_right (between_if w (is_empty phases)) (w.phase h.regs (length phases)) (body_lines w.line 0 b)
        (w.line Close) rest))
        (begins phases (body_lines w.line 0 b ++ (w.line Close ++ rest)) p
        (phase_lines_read step finish w.line state leads h tables phases below b rest p within r))

    -- all phases that are left
    pub phases_read : (program : List PlainBody → A)
        → ((phases : List PlainBody) → is_empty phases ≡ false
        → finish (state (between h tables phases)) ≡ Some (program phases))
        → (left phases : List PlainBody) → list_all (λ b. is_body_within h.modulus b 0) left ≡ true
        → is_empty (phases ++ left) ≡ false
        → read_lines step finish (state (between h tables phases)) []
        (between_if w (is_empty phases) ++ phases_text w h.regs (length phases) left) ≡ Ok (program (phases ++ left))
    unfolding AreRead
    phases_read program ends [] phases within some =
        let all = append-nil phases in
        let is_some : is_empty phases ≡ false = ap is_empty (sym all) ∙ some in
        ap (λ k. read_lines step finish (state (between h tables phases)) [] (between_if w k ++ [])) is_some
        ∙ read_rest step finish (state (between h tables phases)) [] refl
        ∙ ap valued (ends phases is_some) ∙ ap (λ x. Ok (program x)) (sym all)
    phases_read program ends (b ∷ left) phases within some =
        let limits = and_parts (is_body_within h.modulus b 0)
        (list_all (λ b. is_body_within h.modulus b 0) left) within in
        let more = phases ++ b ∷ [] in
        let moved : more ++ left ≡ phases ++ b ∷ left = append_assoc phases (b ∷ []) left in
        let counted : length more ≡ length phases + 1 = omega (arith, length-append phases (b ∷ [])) in
        let others : AreRead (between h tables more)
        (between_if w (is_empty more) ++ phases_text w h.regs (length more) left) (program (more ++ left)) =
        phases_read program ends left more limits.1 (ap is_empty moved ∙ some) in
        phase_reads phases b (phases_text w h.regs (length phases + 1) left) (program (phases ++ b ∷ left)) limits.0
        (subst (λ n. AreRead (between h tables more) (phases_text w h.regs n left)
        (program (phases ++ b ∷ left))) counted
        (subst (λ x. AreRead (between h tables more) (phases_text w h.regs (length more) left) (program x)) moved
        (subst (λ k. AreRead (between h tables more) (between_if w k ++ phases_text w h.regs (length more) left)
        (program (more ++ left))) (some_pushed phases b) others)))

  -- the line of a table that passes the test leads on
  abbrev pub TablesLead : (List ℕ → Bool) → Type 0
  TablesLead test =
      (tables : List (List ℕ)) (entries rest : List ℕ) (p : A) → length tables < above_all → test entries ≡ true
      → (ltb 0 (length entries) && list_all (λ c. ltb c h.modulus) entries) ≡ true
      → read_lines step finish (state (between h (tables ++ entries ∷ []) [])) [] rest ≡ Ok p
      → read_lines step finish (state (between h tables [])) [] (w.table (length tables) entries ++ rest) ≡ Ok p

  -- all tables that are left
  pub tables_read : (test : List ℕ → Bool) → TablesLead test → (left tables : List (List ℕ)) (rest : List ℕ) (p : A)
      → length (tables ++ left) ≤ above_all → list_all test left ≡ true → are_tables_within h.modulus left ≡ true
      → read_lines step finish (state (between h (tables ++ left) [])) [] rest ≡ Ok p
      → read_lines step finish (state (between h tables [])) [] (tables_text w (length tables) left ++ rest) ≡ Ok p
  unfolding AreRead
  tables_read test leads [] tables rest p fits passed within r =
      subst (λ x. AreRead (between h x []) rest p) (append-nil tables) r
  tables_read test leads (entries ∷ left) tables rest p fits passed within r =
      let limits = and_parts (ltb 0 (length entries) && list_all (λ c. ltb c h.modulus) entries)
      (are_tables_within h.modulus left) within in
      let tests = and_parts (test entries) (list_all test left) passed in
      let more = tables ++ entries ∷ [] in
      let moved : more ++ left ≡ tables ++ entries ∷ left = append_assoc tables (entries ∷ []) left in
      let counted : length more ≡ length tables + 1 = omega (arith, length-append tables (entries ∷ [])) in
      let others : AreRead (between h more []) (tables_text w (length tables + 1) left ++ rest) p =
      subst (λ n. AreRead (between h more []) (tables_text w n left ++ rest) p) counted
      (tables_read test leads left more rest p (omega (arith, fits, ap length moved)) tests.1 limits.1
      (subst (λ x. AreRead (between h x []) rest p) (sym moved) r)) in
      subst (λ t. AreRead (between h tables []) t p)
      (sym (append_assoc (w.table (length tables) entries) (tables_text w (length tables + 1) left) rest))
      (leads tables entries (tables_text w (length tables + 1) left ++ rest) p
      (omega (arith, fits, length-append tables (entries ∷ left))) tests.0 limits.0 others)
