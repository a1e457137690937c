-- Runs on words of one processor and one phase.
use Rattle.std.proofs.Common.{◌≡◌, ℕ, zero, suc, ◌+◌, ◌-◌, ◌<◌, ◌≤◌, List, [], ◌∷◌, ◌++◌, Bool, true, false, cond, Some}
use Rattle.std.proofs.Common.{length, drop, get_or, replicate, refl, sym, ap, ◌∙◌, subst, arith, nat_lt, add-one}
use Rattle.std.specs.Prelude.{slice_get, slice_index, slice_index_or}
use Rattle.std.proofs.lemmas.Bool.{le-ltb}
use Rattle.std.proofs.lemmas.List.{length-drop, length-map, append-nil, drop_more}
use Rattle.std.proofs.lemmas.Option.{slice_get-get_or}
use Rattle.icode.specs.Machine.{Code, State, Local, acts, is_open, moved_on, completion, start, padded, words_at}
use Rattle.icode.proofs.Open.{open_at, not_open}
use Rattle.word_code.specs.Words.{Width}
use Rattle.word_code.specs.WordMachine.{WordAction, WordCode, under, actions_under, word_effect, word_turn_with}
use Rattle.word_code.specs.WordMachine.{word_turn, word_run, word_finished, word_results}

-- what a list of actions on words leaves, one after another
abbrev pub word_effects : Width → ℕ → ℕ → List WordAction → Local → Local
word_effects w m lanes [] s = s
word_effects w m lanes (f ∷ fs) s = word_effects w m lanes fs (word_effect w m lanes f s)

-- where the only processor of a code begins
abbrev pub beginning : Code → List ℕ → Local
beginning code x =
    record {
      memory = (start code x).memory;
      registers = slice_index_or (start code x).registers 0 [];
    }

abbrev pub start_alone : WordCode → List ℕ → Local
start_alone code = beginning (under code)

-- ---- what is left of a list

is_left : {X : Type 0} (xs : List X) (d : ℕ) (x : X) (rest : List X) → drop d xs ≡ x ∷ rest → d < length xs
is_left xs d x rest e = omega (arith, length-drop d xs, ap length e)

none_is_left : {X : Type 0} (xs : List X) (d : ℕ) → drop d xs ≡ [] → length xs ≤ d
none_is_left xs d e = omega (arith, length-drop d xs, ap length e)

next_is : {X : Type 0} (xs : List X) (d : ℕ) (x : X) (rest : List X) → drop d xs ≡ x ∷ rest →
    (slice_get xs d ≡ Some x) × (drop (suc d) xs ≡ rest)
next_is xs d x rest e =
    let lt = is_left xs d x rest e in
    let split : get_or xs d x ∷ drop (d + 1) xs ≡ x ∷ rest = sym (drop_more xs d x lt) ∙ e in
    let first : get_or xs d x ≡ x = cc in
    let others : drop (d + 1) xs ≡ rest = cc in
    (slice_get-get_or xs d x lt ∙ ap Some first, ap (λ k. drop k xs) (sym (add-one d)) ∙ others)

module _ (w : Width) (size m line lanes regs : ℕ) (fs : List WordAction) where
  abbrev alone : WordCode
  alone =
      record {
        width = w;
        size = size;
        modulus = m;
        procs = 1;
        line = line;
        lanes = lanes;
        regs = regs;
        lists = (fs ∷ []) ∷ [];
      }

  abbrev leaves : List WordAction → Local → Local
  leaves gs s = word_effects w m lanes gs s

  abbrev standing : ℕ → ℕ → Local → State
  standing phase d s = record { memory = s.memory; registers = s.registers ∷ []; phase = phase; done = d ∷ [] }

  -- the state once d actions are done
  abbrev having : ℕ → Local → State
  having d s = moved_on (under alone) (standing 0 d s)

  opens : (d : ℕ) (s : Local) (f : WordAction) (rest : List WordAction) → drop d fs ≡ f ∷ rest →
      having d s ≡ standing 0 d s
  opens d s f rest e =
      let lt : d < length (actions_under fs) = omega (arith, is_left fs d f rest e, length-map fs (λ (f : WordAction). f.action)) in
      ap (λ b. cond b (standing 0 d s) (standing 1 0 s)) (open_at (under alone) 0 (d ∷ []) 0 (omega arith) lt)

  ends : (d : ℕ) (s : Local) → drop d fs ≡ [] → having d s ≡ standing 1 0 s
  ends d s e =
      let ge : length (actions_under fs) ≤ d = omega (arith, none_is_left fs d e, length-map fs (λ (f : WordAction). f.action)) in
      ap (λ b. cond b (standing 0 d s) (standing 1 0 s)) (not_open (under alone) 0 (d ∷ []) (λ q lt. only q lt ge))
    where
      only : (q : ℕ) → q < 1 → length (actions_under fs) ≤ d →
          nat_lt (slice_index (d ∷ []) q) (length (acts (under alone) 0 q)) ≡ false
      only zero lt ge = le-ltb d (length (actions_under fs)) ge
      only (suc q) lt ge = absurd (omega arith)

  -- ---- turns

  -- the processor does the action that is next
  acts_next : (d : ℕ) (s : Local) (f : WordAction) (rest : List WordAction) → drop d fs ≡ f ∷ rest →
      word_turn alone (having d s) 0 ≡ having (suc d) (word_effect w m lanes f s)
  acts_next d s f rest e =
      ap (λ t. word_turn alone t 0) (opens d s f rest e)
      ∙ ap (word_turn_with alone 0 (standing 0 d s)) (next_is fs d f rest e).0

  -- there is no other processor
  others_wait : (d q : ℕ) (s : Local) (f : WordAction) (rest : List WordAction) → drop d fs ≡ f ∷ rest →
      word_turn alone (having d s) (suc q) ≡ having d s
  others_wait d q s f rest e =
      ap (λ t. word_turn alone t (suc q)) (opens d s f rest e) ∙ sym (opens d s f rest e)

  -- nor another phase
  all_wait : (d q : ℕ) (s : Local) → drop d fs ≡ [] → word_turn alone (having d s) q ≡ having d s
  all_wait d q s e = ap (λ t. word_turn alone t q) (ends d s e) ∙ sym (ends d s e)

  -- what is left leads to the outcome
  record Leads (outcome : Local) (t : State) : Type 0 where
    count : ℕ
    here : Local
    is : t ≡ having count here
    leads : leaves (drop count fs) here ≡ outcome

  turn_from : (d q : ℕ) (s : Local) → Leads (leaves (drop d fs) s) (word_turn alone (having d s) q)
  turn_from d q s = cases (drop d fs) q refl
    where
      cases : (gs : List WordAction) (q : ℕ) → drop d fs ≡ gs →
          Leads (leaves (drop d fs) s) (word_turn alone (having d s) q)
      cases [] q e = record { count = d; here = s; is = all_wait d q s e; leads = refl }
      cases (f ∷ rest) zero e =
          record {
            count = suc d;
            here = word_effect w m lanes f s;
            is = acts_next d s f rest e;
            leads = ap (λ gs. leaves gs (word_effect w m lanes f s)) (next_is fs d f rest e).1
                ∙ ap (λ gs. leaves gs s) (sym e);
          }
      cases (f ∷ rest) (suc q) e = record { count = d; here = s; is = others_wait d q s f rest e; leads = refl }

  turn_leads : (outcome : Local) (t : State) (q : ℕ) → Leads outcome t → Leads outcome (word_turn alone t q)
  turn_leads outcome t q h =
      let next = turn_from h.count q h.here in
      record {
        count = next.count;
        here = next.here;
        is = ap (λ t. word_turn alone t q) h.is ∙ next.is;
        leads = next.leads ∙ h.leads;
      }

  run_leads : (turns : List ℕ) (outcome : Local) (t : State) → Leads outcome t → Leads outcome (word_run alone t turns)
  run_leads [] outcome t h = h
  run_leads (q ∷ turns) outcome t h = run_leads turns outcome (word_turn alone t q) (turn_leads outcome t q h)

  -- ---- the completion

  runs_out : (gs : List WordAction) (d : ℕ) (s : Local) → drop d fs ≡ gs →
      (word_run alone (having d s) (replicate (length gs) 0)).memory ≡ (leaves gs s).memory
  runs_out [] d s e = ap (λ (t : State). t.memory) (ends d s e)
  runs_out (f ∷ gs) d s e =
      ap (λ t. (word_run alone t (replicate (length gs) 0)).memory) (acts_next d s f gs e)
      ∙ runs_out gs (suc d) (word_effect w m lanes f s) (next_is fs d f gs e).1

  bare : (turns : List ℕ) → (turns ++ []) ++ [] ≡ turns
  bare turns = append-nil (turns ++ []) ∙ append-nil turns

  completes : (d : ℕ) (s : Local) → completion (under alone) (having d s) ≡ replicate (length (drop d fs)) 0
  completes d s = cases (drop d fs) refl
    where
      cases : (gs : List WordAction) → drop d fs ≡ gs → completion (under alone) (having d s) ≡ replicate (length gs) 0
      cases [] e = ap (completion (under alone)) (ends d s e)
      cases (f ∷ rest) e =
          let n : length (actions_under fs) - d ≡ suc (length rest) =
          omega (arith, length-drop d fs, ap length e, length-map fs (λ (f : WordAction). f.action)) in
          let now : completion (under alone) (having d s) ≡ (replicate (length (actions_under fs) - d) 0 ++ []) ++ [] =
          ap (completion (under alone)) (opens d s f rest e) in
          now ∙ bare (replicate (length (actions_under fs) - d) 0) ∙ ap (λ n. replicate n 0) n

  finishes : (outcome : Local) (t : State) → Leads outcome t → (word_finished alone t).memory ≡ outcome.memory
  finishes outcome t h =
      ap (λ t. (word_finished alone t).memory) h.is
      ∙ ap (λ turns. (word_run alone (having h.count h.here) turns).memory) (completes h.count h.here)
      ∙ runs_out (drop h.count fs) h.count h.here refl
      ∙ ap (λ (s : Local). s.memory) h.leads

  -- ---- whole runs

  starts : (x : List ℕ) → start (under alone) x ≡ having 0 (start_alone alone x)
  starts x = cases (is_open (under alone) 0 (0 ∷ []))
    where
      cases : (b : Bool) → standing (cond b 0 1) 0 (start_alone alone x) ≡ cond b (standing 0 0 (start_alone alone x))
          (standing 1 0 (start_alone alone x))
      cases true = refl
      cases false = refl

  results_of_alone : (x turns : List ℕ) → word_results alone x turns
      ≡ words_at size (leaves fs (start_alone alone x)).memory (padded (under alone))
  results_of_alone x turns =
      let s = start_alone alone x in
      let first : Leads (leaves fs s) (start (under alone) x) = record { count = 0; here = s; is = starts x; leads = refl } in
      let last = run_leads turns (leaves fs s) (start (under alone) x) first in
      ap (λ memory. words_at size memory (padded (under alone))) (finishes (leaves fs s) (word_run alone (start (under alone) x) turns) last)

abbrev again : WordCode → ℕ → List (List (List WordAction)) → WordCode
again code n ls = record code { procs = n; lists = ls }

abbrev IsAlone : WordCode → List WordAction → List ℕ → List ℕ → Type 0
IsAlone code fs x turns =
    word_results code x turns ≡ words_at code.size (word_effects code.width code.modulus code.lanes fs (start_alone code x)).memory (padded (under code))

-- a code of one processor and one phase leaves what its actions leave one after another, whatever the order of turns
pub results_alone : (code : WordCode) (fs : List WordAction) → code.procs ≡ 1 → code.lists ≡ (fs ∷ []) ∷ [] →
    (x turns : List ℕ) →
    word_results code x turns ≡ words_at code.size (word_effects code.width code.modulus code.lanes fs
    (start_alone code x)).memory (padded (under code))
results_alone code fs one lists x turns =
    subst (λ n. IsAlone (again code n code.lists) fs x turns) (sym one)
    (subst (λ ls. IsAlone (again code 1 ls) fs x turns) (sym lists)
    (results_of_alone code.width code.size code.modulus code.line code.lanes code.regs fs x turns))
