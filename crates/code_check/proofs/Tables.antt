-- What the table of a phase says of each line.
use Rattle.std.proofs.Common.{◌≡◌, ◌≢◌, ℕ, zero, suc, ◌<◌, ◌≤◌, ◌⊎◌, inl, inr, Bool, true, false, List, [], ◌∷◌, ◌++◌}
use Rattle.std.proofs.Common.{map, replicate, Contains, flat_map, length, refl, sym, ap, ◌∙◌, subst, arith}
use Rattle.std.proofs.Common.{append_assoc, ⊎_elim, get_or-set_same, get_or-set_other}
use Rattle.std.specs.Prelude.{slice_index_or, slice_set}
use Rattle.std.specs.List.{range_with_len}
use Rattle.std.proofs.lemmas.Bool.{cases_eq, cases_lt}
use Rattle.std.proofs.lemmas.List.{length-set, length-replicate, get_or-map, get_or_past, length-map, append-nil}
use Rattle.std.proofs.lemmas.List.FromFn.{get_or-map-range_with_len, length-map-range_with_len}
use Rattle.std.proofs.lemmas.List.Elements.{Contains-append_left, Contains-append_right, Contains-append_cases}
use Rattle.icode.specs.declared.action.Action.{Action}
use Rattle.icode.specs.declared.action.Action.TheVariants.{Store}
use Rattle.icode.specs.Actions.{Step, actions_of, steps_of_body, steps_of_phase, plain_code}
use Rattle.icode.specs.Machine.{acts, lines_of, stored_words, touched_words, written_lines, touched_lines}
use Rattle.icode.specs.Plain.{PlainBody, PlainProgram, NoStmts}
use Rattle.icode.proofs.Lines.{Contains-head, Contains-nil}
use Rattle.code_check.specs.declared.lines.LineUse.{LineUse}
use Rattle.code_check.specs.Uses.{unused, touched_by, touched_all, is_store, noted, line_count}
use Rattle.code_check.specs.Tables.{noted_all, phase_table}
use Rattle.code_check.proofs.Sharing.{IsUsedBy, used_same, use_more}

-- a table keeps its length

pub touched_length : (q : ℕ) (writes : Bool) (ks : List ℕ) (table : List LineUse) →
    length (touched_all q writes ks table) ≡ length table
touched_length q writes [] table = refl
touched_length q writes (k ∷ ks) table =
    let u : LineUse = touched_by q writes (slice_index_or table k unused) in touched_length q writes ks (slice_set table k u) ∙ length-set table k u

pub noted_length : (p : PlainProgram) (q : ℕ) (steps : List Step) (table : List LineUse) →
    length (noted_all p q steps table) ≡ length table
noted_length p q [] table = refl
noted_length p q (s ∷ steps) table =
    noted_length p q steps (noted p q s table) ∙ touched_length q (is_store s.action) (lines_of p.line (touched_words p.lanes s.action)) table

pub table_length : (p : PlainProgram) (phase n : ℕ) → length (phase_table p phase n) ≡ line_count p
table_length p phase zero = length-replicate (line_count p) unused
table_length p phase (suc n) = noted_length p n (steps_of_phase p phase n) (phase_table p phase n) ∙ table_length p phase n

-- processor r has used line k: it came before q, and its lines are those of f; or it is q, and its lines so far are these
abbrev pub Used : (ℕ → List ℕ) → ℕ → List ℕ → ℕ → ℕ → Type 0
Used f q done k r = ((r < q) × Contains (f r) k) ⊎ ((r ≡ q) × Contains done k)

abbrev kept : Bool → List ℕ → List ℕ
kept true ks = ks
kept false ks = []

kept_only : (writes : Bool) (ks : List ℕ) (k : ℕ) → Contains (kept writes ks) k → (writes ≡ true) × Contains ks k
kept_only true ks k h = (refl, h)
kept_only false ks k h = absurd (Contains-nil k h)

kept_all : (writes : Bool) (ks : List ℕ) (k : ℕ) → writes ≡ true → Contains ks k → Contains (kept writes ks) k
kept_all true ks k e h = h
kept_all false ks k e h = cc

kept-append : (writes : Bool) (done ks : List ℕ) (j : ℕ) → (done ++ kept writes (j ∷ [])) ++ kept writes ks ≡ done
    ++ kept writes (j ∷ ks)
kept-append true done ks j = append_assoc done (j ∷ []) ks
kept-append false done ks j = append-nil (done ++ [])

kept-nil : (writes : Bool) → kept writes [] ≡ []
kept-nil true = refl
kept-nil false = refl

only_one : (j k : ℕ) → Contains (j ∷ []) k → j ≡ k
only_one j k (zero, lt, e) = e
only_one j k (suc i, lt, e) = absurd (omega arith)

module _ (f : ℕ → List ℕ) (q : ℕ) (done more : List ℕ) (k : ℕ) where
  used_grows : (r : ℕ) → Used f q done k r → Used f q (done ++ more) k r
  used_grows r u =
      ⊎_elim (λ (a : (r < q) × Contains (f r) k). inl a) (λ (b : (r ≡ q) × Contains done k). inr (b.0, Contains-append_left done more k b.1)) u

  used_by_more : (r : ℕ) → Used f q (done ++ more) k r → Used f q done k r ⊎ ((r ≡ q) × Contains more k)
  used_by_more r u =
      ⊎_elim (λ (a : (r < q) × Contains (f r) k). inl (inl a))
      (λ (b : (r ≡ q) × Contains (done ++ more) k).
      ⊎_elim (λ (x : Contains done k). inl (inr (b.0, x))) (λ (x : Contains more k). inr (b.0, x)) (Contains-append_cases done more k b.1))
      u

  used_rising : (r : ℕ) → Used f q done k r → r ≤ q
  used_rising r u = ⊎_elim (λ (a : (r < q) × Contains (f r) k). omega (arith, a.0)) (λ (b : (r ≡ q) × Contains done k). omega (arith, b.0)) u

module _ (w t : ℕ → List ℕ) (q : ℕ) (writes : Bool) (k : ℕ) where
  one_touch : (j : ℕ) (doneW doneT : List ℕ) (table : List LineUse) → k < length table →
      IsUsedBy (Used w q doneW k) (Used t q doneT k) (slice_index_or table k unused) →
      IsUsedBy (Used w q (doneW ++ kept writes (j ∷ [])) k) (Used t q (doneT ++ j ∷ []) k)
      (slice_index_or (slice_set table j (touched_by q writes (slice_index_or table j unused))) k unused)
  one_touch j doneW doneT table inside h = ⊎_elim here there (cases_eq k j)
    where
      here : k ≡ j → IsUsedBy (Used w q (doneW ++ kept writes (j ∷ [])) k) (Used t q (doneT ++ j ∷ []) k)
          (slice_index_or (slice_set table j (touched_by q writes (slice_index_or table j unused))) k unused)
      here e =
          let entry : slice_index_or (slice_set table j (touched_by q writes (slice_index_or table j unused))) k unused ≡ touched_by q writes (slice_index_or table k unused) =
          ap (λ i. slice_index_or (slice_set table i (touched_by q writes (slice_index_or table i unused))) k unused) (sym e) ∙ get_or-set_same table k (touched_by q writes (slice_index_or table k unused)) unused inside in
          let found : Contains (j ∷ []) k = subst (λ i. Contains (i ∷ []) k) e (Contains-head k []) in
          subst (λ u. IsUsedBy (Used w q (doneW ++ kept writes (j ∷ [])) k) (Used t q (doneT ++ j ∷ []) k) u) (sym entry)
          (use_more (Used w q doneW k) (Used t q doneT k) (Used w q (doneW ++ kept writes (j ∷ [])) k) (Used t q (doneT ++ j ∷ []) k) q writes (slice_index_or table k unused)
          (used_rising w q doneW [] k) (used_rising t q doneT [] k)
          (used_grows w q doneW (kept writes (j ∷ [])) k)
          (λ yes. inr (refl, Contains-append_right doneW (kept writes (j ∷ [])) k (kept_all writes (j ∷ []) k yes found)))
          (λ r u. ⊎_elim (λ (a : Used w q doneW k r). inl a) (λ (b : (r ≡ q) × Contains (kept writes (j ∷ [])) k). inr (b.0, (kept_only writes (j ∷ []) k b.1).0)) (used_by_more w q doneW (kept writes (j ∷ [])) k r u))
          (used_grows t q doneT (j ∷ []) k)
          (inr (refl, Contains-append_right doneT (j ∷ []) k found))
          (λ r u. ⊎_elim (λ (a : Used t q doneT k r). inl a) (λ (b : (r ≡ q) × Contains (j ∷ []) k). inr b.0) (used_by_more t q doneT (j ∷ []) k r u))
          h)

      there : k ≢ j → IsUsedBy (Used w q (doneW ++ kept writes (j ∷ [])) k) (Used t q (doneT ++ j ∷ []) k)
          (slice_index_or (slice_set table j (touched_by q writes (slice_index_or table j unused))) k unused)
      there ne =
          let entry = get_or-set_other table j k (touched_by q writes (slice_index_or table j unused)) unused ne in
          subst (λ u. IsUsedBy (Used w q (doneW ++ kept writes (j ∷ [])) k) (Used t q (doneT ++ j ∷ []) k) u) (sym entry)
          (used_same (Used w q doneW k) (Used t q doneT k) (Used w q (doneW ++ kept writes (j ∷ [])) k) (Used t q (doneT ++ j ∷ []) k) (slice_index_or table k unused)
          (used_grows w q doneW (kept writes (j ∷ [])) k)
          (λ r u. ⊎_elim (λ (a : Used w q doneW k r). a) (λ (b : (r ≡ q) × Contains (kept writes (j ∷ [])) k). absurd (ne (sym (only_one j k (kept_only writes (j ∷ []) k b.1).1)))) (used_by_more w q doneW (kept writes (j ∷ [])) k r u))
          (used_grows t q doneT (j ∷ []) k)
          (λ r u. ⊎_elim (λ (a : Used t q doneT k r). a) (λ (b : (r ≡ q) × Contains (j ∷ []) k). absurd (ne (sym (only_one j k b.1)))) (used_by_more t q doneT (j ∷ []) k r u))
          h)

  touches : (ks doneW doneT : List ℕ) (table : List LineUse) → k < length table →
      IsUsedBy (Used w q doneW k) (Used t q doneT k) (slice_index_or table k unused) →
      IsUsedBy (Used w q (doneW ++ kept writes ks) k) (Used t q (doneT ++ ks) k)
      (slice_index_or (touched_all q writes ks table) k unused)
  touches [] doneW doneT table inside h =
      let ew : doneW ++ kept writes [] ≡ doneW = ap (λ xs. doneW ++ xs) (kept-nil writes) ∙ append-nil doneW in
      subst (λ x. IsUsedBy (Used w q x k) (Used t q (doneT ++ []) k) (slice_index_or table k unused)) (sym ew)
      (subst (λ x. IsUsedBy (Used w q doneW k) (Used t q x k) (slice_index_or table k unused)) (sym (append-nil doneT)) h)
  touches (j ∷ js) doneW doneT table inside h =
      let u : LineUse = touched_by q writes (slice_index_or table j unused) in
      let after : List LineUse = slice_set table j u in
      let more = touches js (doneW ++ kept writes (j ∷ [])) (doneT ++ j ∷ []) after (omega (arith, length-set table j u)) (one_touch j doneW doneT table inside h) in
      subst (λ x. IsUsedBy (Used w q x k) (Used t q (doneT ++ j ∷ js) k) (slice_index_or (touched_all q writes js after) k unused)) (kept-append writes doneW js j)
      (subst (λ x. IsUsedBy (Used w q ((doneW ++ kept writes (j ∷ [])) ++ kept writes js) k) (Used t q x k) (slice_index_or (touched_all q writes js after) k unused)) (append_assoc doneT (j ∷ []) js) more)

-- the lines of an action
abbrev pub lines_stored : PlainProgram → Action → List ℕ
lines_stored p a = lines_of p.line (stored_words p.lanes a)

abbrev pub lines_touched : PlainProgram → Action → List ℕ
lines_touched p a = lines_of p.line (touched_words p.lanes a)

kept_stored : (p : PlainProgram) (a : Action) → kept (is_store a) (lines_touched p a) ≡ lines_stored p a
kept_stored p (Store address r) = refl
kept_stored p _ = refl

module _ (p : PlainProgram) (w t : ℕ → List ℕ) (q k : ℕ) where
  steps_use : (steps : List Step) (doneW doneT : List ℕ) (table : List LineUse) → k < length table →
      IsUsedBy (Used w q doneW k) (Used t q doneT k) (slice_index_or table k unused) →
      IsUsedBy (Used w q (doneW ++ flat_map (lines_stored p) (actions_of steps)) k)
      (Used t q (doneT ++ flat_map (lines_touched p) (actions_of steps)) k)
      (slice_index_or (noted_all p q steps table) k unused)
  steps_use [] doneW doneT table inside h =
      subst (λ x. IsUsedBy (Used w q x k) (Used t q (doneT ++ []) k) (slice_index_or table k unused)) (sym (append-nil doneW))
      (subst (λ x. IsUsedBy (Used w q doneW k) (Used t q x k) (slice_index_or table k unused)) (sym (append-nil doneT)) h)
  steps_use (s ∷ steps) doneW doneT table inside h =
      let stored : List ℕ = lines_stored p s.action in
      let touched : List ℕ = lines_touched p s.action in
      let after : List LineUse = noted p q s table in
      let restW : List ℕ = flat_map (lines_stored p) (actions_of steps) in
      let restT : List ℕ = flat_map (lines_touched p) (actions_of steps) in
      let long : k < length after = omega (arith, inside, touched_length q (is_store s.action) touched table) in
      let one = touches w t q (is_store s.action) k touched doneW doneT table inside h in
      let one_stored = subst (λ x. IsUsedBy (Used w q (doneW ++ x) k) (Used t q (doneT ++ touched) k) (slice_index_or after k unused)) (kept_stored p s.action) one in
      let more = steps_use steps (doneW ++ stored) (doneT ++ touched) after long one_stored in
      subst (λ x. IsUsedBy (Used w q x k) (Used t q (doneT ++ (touched ++ restT)) k) (slice_index_or (noted_all p q steps after) k unused)) (append_assoc doneW stored restW)
      (subst (λ x. IsUsedBy (Used w q ((doneW ++ stored) ++ restW) k) (Used t q x k) (slice_index_or (noted_all p q steps after) k unused)) (append_assoc doneT touched restT) more)

-- the lists of a program

pub lists_are : (p : PlainProgram) (phase q : ℕ) → phase < length p.phases → q < p.procs →
    acts (plain_code p) phase q ≡ actions_of (steps_of_phase p phase q)
lists_are p phase q lt small =
    let lists : PlainBody → List (List Action) = λ b. map (λ q. actions_of (steps_of_body p b [] q)) (range_with_len 0 p.procs) in
    ap (λ ls. slice_index_or ls q []) (get_or-map lists p.phases phase NoStmts [] lt)
    ∙ get_or-map-range_with_len (λ q. actions_of (steps_of_phase p phase q)) 0 p.procs q q [] small (omega arith)

pub no_list_past_procs : (p : PlainProgram) (phase q : ℕ) → phase < length p.phases → p.procs ≤ q →
    acts (plain_code p) phase q ≡ []
no_list_past_procs p phase q lt past =
    let lists : PlainBody → List (List Action) = λ b. map (λ q. actions_of (steps_of_body p b [] q)) (range_with_len 0 p.procs) in
    ap (λ ls. slice_index_or ls q []) (get_or-map lists p.phases phase NoStmts [] lt)
    ∙ get_or_past (map (λ q. actions_of (steps_of_phase p phase q)) (range_with_len 0 p.procs)) q [] (omega (arith, past, length-map-range_with_len (λ q. actions_of (steps_of_phase p phase q)) 0 p.procs))

pub no_list_past_phases : (p : PlainProgram) (phase q : ℕ) → length p.phases ≤ phase → acts (plain_code p) phase q ≡ []
no_list_past_phases p phase q past =
    let lists : PlainBody → List (List Action) = λ b. map (λ q. actions_of (steps_of_body p b [] q)) (range_with_len 0 p.procs) in
    ap (λ ls. slice_index_or ls q []) (get_or_past (map lists p.phases) phase [] (omega (arith, past, length-map p.phases lists)))

-- the table of a phase

unused_entry : (n k : ℕ) → slice_index_or (replicate n unused) k unused ≡ unused
unused_entry zero k = refl
unused_entry (suc n) zero = refl
unused_entry (suc n) (suc k) = unused_entry n k

module _ (p : PlainProgram) (phase k : ℕ) where
  abbrev writers : ℕ → List ℕ
  writers = written_lines (plain_code p) phase

  abbrev touchers : ℕ → List ℕ
  touchers = touched_lines (plain_code p) phase

  nobody : (f : ℕ → List ℕ) (r : ℕ) → Used f 0 [] k r → ⊥
  nobody f r u = ⊎_elim (λ (a : (r < 0) × Contains (f r) k). omega (arith, a.0)) (λ (b : (r ≡ 0) × Contains [] k). Contains-nil k b.1) u

  -- a processor that is done comes before the next
  next_one : (f : ℕ → List ℕ) (n : ℕ) (all : List ℕ) → f n ≡ all → (r : ℕ) → Used f n all k r → Used f (suc n) [] k r
  next_one f n all e r u =
      ⊎_elim (λ (a : (r < n) × Contains (f r) k). inl (omega (arith, a.0), a.1))
      (λ (b : (r ≡ n) × Contains all k). inl (omega (arith, b.0), subst (λ xs. Contains xs k) (sym (ap f b.0 ∙ e)) b.1)) u

  one_before : (f : ℕ → List ℕ) (n : ℕ) (all : List ℕ) → f n ≡ all → (r : ℕ) → Used f (suc n) [] k r → Used f n all k r
  one_before f n all e r u =
      ⊎_elim (λ (a : (r < suc n) × Contains (f r) k).
      ⊎_elim (λ (same : r ≡ n). inr (same, subst (λ xs. Contains xs k) (ap f same ∙ e) a.1)) (λ (ne : r ≢ n). inl (omega (arith, a.0, ne), a.1)) (cases_eq r n))
      (λ (b : (r ≡ suc n) × Contains [] k). absurd (Contains-nil k b.1)) u

  table_use : phase < length p.phases → (n : ℕ) → n ≤ p.procs → k < line_count p →
      IsUsedBy (Used writers n [] k) (Used touchers n [] k) (slice_index_or (phase_table p phase n) k unused)
  table_use lt zero le inside =
      subst (λ u. IsUsedBy (Used writers 0 [] k) (Used touchers 0 [] k) u) (sym (unused_entry (line_count p) k))
      (record { writer = nobody writers; first = nobody touchers; second = λ r x. nobody touchers r x.0 })
  table_use lt (suc n) le inside =
      let before = table_use lt n (omega arith) inside in
      let long : k < length (phase_table p phase n) = omega (arith, inside, table_length p phase n) in
      let after = steps_use p writers touchers n k (steps_of_phase p phase n) [] [] (phase_table p phase n) long before in
      let ew : writers n ≡ flat_map (lines_stored p) (actions_of (steps_of_phase p phase n)) = ap (flat_map (lines_stored p)) (lists_are p phase n lt (omega arith)) in
      let et : touchers n ≡ flat_map (lines_touched p) (actions_of (steps_of_phase p phase n)) = ap (flat_map (lines_touched p)) (lists_are p phase n lt (omega arith)) in
      used_same (Used writers n (flat_map (lines_stored p) (actions_of (steps_of_phase p phase n))) k) (Used touchers n (flat_map (lines_touched p) (actions_of (steps_of_phase p phase n))) k)
      (Used writers (suc n) [] k) (Used touchers (suc n) [] k) (slice_index_or (phase_table p phase (suc n)) k unused)
      (next_one writers n _ ew) (one_before writers n _ ew) (next_one touchers n _ et) (one_before touchers n _ et) after

  -- at the end it tells who writes the line and who touches it
  pub phase_use : phase < length p.phases → k < line_count p →
      IsUsedBy (λ r. Contains (writers r) k) (λ r. Contains (touchers r) k)
      (slice_index_or (phase_table p phase p.procs) k unused)
  phase_use lt inside =
      used_same (Used writers p.procs [] k) (Used touchers p.procs [] k) (λ r. Contains (writers r) k) (λ r. Contains (touchers r) k) (slice_index_or (phase_table p phase p.procs) k unused)
      (found writers) (there writers (λ r past. ap (flat_map (lines_stored p)) (no_list_past_procs p phase r lt past)))
      (found touchers) (there touchers (λ r past. ap (flat_map (lines_touched p)) (no_list_past_procs p phase r lt past)))
      (table_use lt p.procs (omega arith) inside)
    where
      found : (f : ℕ → List ℕ) (r : ℕ) → Used f p.procs [] k r → Contains (f r) k
      found f r u = ⊎_elim (λ (a : (r < p.procs) × Contains (f r) k). a.1) (λ (b : (r ≡ p.procs) × Contains [] k). absurd (Contains-nil k b.1)) u

      there : (f : ℕ → List ℕ) → ((r : ℕ) → p.procs ≤ r → f r ≡ []) → (r : ℕ) → Contains (f r) k → Used f p.procs [] k r
      there f none r h =
          ⊎_elim (λ (small : r < p.procs). inl (small, h)) (λ (past : p.procs ≤ r). absurd (Contains-nil k (subst (λ xs. Contains xs k) (none r past) h)))
          (cases_lt r p.procs)
