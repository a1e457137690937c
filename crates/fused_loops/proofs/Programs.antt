-- A program whose nests are fused is within the limits of programs, and leaves what it left.
use Rattle.nests.proofs.Bools.{three_true, both_kept, later_kept, by_test}
use Rattle.std.proofs.Common.{◌≡◌, ℕ, zero, suc, ◌+◌, List, [], ◌∷◌, true, refl, ◌<◌, ◌&&◌, ◌++◌, Contains, map}
use Rattle.std.proofs.Common.{length, sym, ap, ◌∙◌, subst, arith, append-nil, append_assoc, eqb-true}
use Rattle.std.specs.Prelude.{nat_lt, ◌==◌, nat_le, slice_index_or}
use Rattle.std.proofs.lemmas.Bool.{and_from}
use Rattle.icode.specs.Limits.{is_small_positive, is_stmt_within, is_body_within, are_phases_within}
use Rattle.icode.specs.Plain.{PlainStmt, PlainBody, Loop, Do, NoStmts, AndStmts, PlainProgram}
use Rattle.icode.proofs.Bools.{both_true}
use Rattle.fused_loops.specs.declared.blocks.Block.{Block}
use Rattle.fused_loops.specs.Blocks.{blocks_of, shared, first_steps, followed_in}
use Rattle.fused_loops.specs.Fused.{put_behind, with_body, in_last, fused_stmt, fused_stmts, waiting, fused_onto}
use Rattle.fused_loops.specs.Fused.{fused_phases, fused_phase, may_be_fused, fused}
use Rattle.std.proofs.lemmas.List.{length-map}
use Rattle.std.proofs.lemmas.List.Elements.{All-contains, Contains-append_left, Contains-append_right}
use Rattle.icode.specs.Actions.{Step, StepFits, PlainFits, actions_of, plain_code, steps_of_stmt, steps_of_body}
use Rattle.icode.specs.Actions.{steps_of_phase}
use Rattle.icode.specs.Machine.{Code, IsApart, acts, in_order, phases_alone, processors_alone, start, Whole}
use Rattle.nests.specs.Nests.{counts_in, round_in, is_nest, are_nests}
use Rattle.nests.specs.Rounds.{first_load}
use Rattle.nests.specs.InPlace.{IsInPlaceOf}
use Rattle.nests.proofs.Acts.{memory_by}
use Rattle.nests.proofs.Swaps.{IsSure, same-nothing}
use Rattle.nests.proofs.InPlace.{of-members, no-more, in-place, itself, where-true, with_phases, phase-is, row, listed}
use Rattle.nests.proofs.Linear.{wrong}
use Rattle.nests.proofs.Rows.{StepsFit}
use Rattle.fused_loops.proofs.SameBlocks.{has-blocks, round-keeps}
use Rattle.fused_loops.proofs.Onto.{LeavesFor, Ends, body-sure, grows, leaves-behind, leaves-itself, leaves-trans}
use Rattle.fused_loops.proofs.Onto.{sure-append}
use Rattle.fused_loops.proofs.Steps.{put-steps}

module _ (m : ℕ) where
  put-within : (stmt : PlainStmt) (body : PlainBody) (depth : ℕ) → is_stmt_within m stmt depth ≡ true →
      is_body_within m body depth ≡ true →
      is_body_within m (put_behind stmt body) depth ≡ true
  put-within stmt NoStmts depth h k = and_from (is_stmt_within m stmt depth) true h refl
  put-within stmt (AndStmts first rest) depth h k =
      later_kept (is_stmt_within m first depth) (put-within stmt rest depth h) k

  -- a change that keeps the limits in a loop
  module _ (f : PlainBody → PlainBody) (depth : ℕ) (keeps : (body : PlainBody) →
      is_body_within m body (depth + 1) ≡ true → is_body_within m (f body) (depth + 1) ≡ true) where
    with-within : (stmt : PlainStmt) → is_stmt_within m stmt depth ≡ true →
        is_stmt_within m (with_body f stmt) depth ≡ true
    with-within (Do op) h = h
    with-within (Loop count body) h =
        later_kept (is_small_positive count) (later_kept (nat_lt depth 64) (keeps body)) h

    last-within : (made : PlainBody) → is_body_within m made depth ≡ true →
        is_body_within m (in_last f made) depth ≡ true
    last-within NoStmts h = refl
    last-within (AndStmts stmt NoStmts) h =
        both_kept (with-within stmt) (λ none. none) h
    last-within (AndStmts stmt (AndStmts next rest)) h =
        later_kept (is_stmt_within m stmt depth) (last-within (AndStmts next rest)) h

  mutual
    stmt-within : (n : ℕ) (stmt : PlainStmt) (made : PlainBody) (depth : ℕ) → is_stmt_within m stmt depth ≡ true →
        is_body_within m made depth ≡ true →
        is_body_within m (fused_stmt n stmt made) depth ≡ true
    stmt-within zero stmt made depth h k = put-within stmt made depth h k
    stmt-within (suc n) (Do op) made depth h k = put-within (Do op) made depth h k
    stmt-within (suc n) (Loop count inside) made depth h k =
        let more = three_true (is_small_positive count) (nat_lt depth 64) (is_body_within m inside (depth + 1)) h in
        last-within (fused_stmts n inside) depth (λ body low. stmts-within n inside body (depth + 1) more.2 low) made
        k

    stmts-within : (n : ℕ) (body made : PlainBody) (depth : ℕ) → is_body_within m body depth ≡ true →
        is_body_within m made depth ≡ true →
        is_body_within m (fused_stmts n body made) depth ≡ true
    stmts-within n NoStmts made depth h k = k
    stmts-within n (AndStmts stmt rest) made depth h k =
        let two = both_true (is_stmt_within m stmt depth) (is_body_within m rest depth) h in
        stmts-within n rest (fused_stmt n stmt made) depth two.1 (stmt-within n stmt made depth two.0 k)

  onto-within : (lanes wait : ℕ) (before : List Block) (made body : PlainBody) → is_body_within m made 0 ≡ true →
      is_body_within m body 0 ≡ true →
      is_body_within m (fused_onto lanes wait before made body) 0 ≡ true
  onto-within lanes wait before made NoStmts h k = h
  onto-within lanes (suc wait) before made (AndStmts stmt rest) h k =
      let two = both_true (is_stmt_within m stmt 0) (is_body_within m rest 0) k in
      onto-within lanes wait [] (put_behind stmt made) rest (put-within stmt made 0 two.0 h) two.1
  onto-within lanes zero before made (AndStmts stmt rest) h k =
      let two = both_true (is_stmt_within m stmt 0) (is_body_within m rest 0) k in
      onto-within lanes zero (blocks_of lanes stmt) (fused_stmt (shared before (blocks_of lanes stmt)) stmt made) rest
      (stmt-within (shared before (blocks_of lanes stmt)) stmt made 0 two.0 h) two.1

  pub fused-within : (lanes : ℕ) (phases : List PlainBody) → are_phases_within m phases ≡ true →
      are_phases_within m (fused_phases lanes phases) ≡ true
  fused-within lanes [] h = h
  fused-within lanes (body ∷ []) h =
      both_kept (onto-within lanes (waiting lanes body) [] NoStmts body refl) (λ none. none) h
  fused-within lanes (body ∷ next ∷ phases) h = h

-- ---- a program whose nests are fused leaves what it left

-- ---- phases

module _ (p : PlainProgram) (q : ℕ) where
  abbrev steps : PlainBody → List Step
  steps body = steps_of_body p body [] q

  nests-sure : (body : PlainBody) → are_nests p.lanes body ≡ true → IsSure p.modulus p.lanes (actions_of (steps body))
  nests-sure NoStmts h = same-nothing p.modulus p.lanes
  nests-sure (AndStmts (Do op) rest) h = wrong h
  nests-sure (AndStmts (Loop count inside) rest) h =
      let two = both_true (is_nest p.lanes (Loop count inside)) (are_nests p.lanes rest) h in
      let first : List Step = steps_of_stmt p (Loop count inside) [] q in
      sure-append p q first (steps rest)
      (subst (λ xs. IsSure p.modulus p.lanes (actions_of xs)) (append-nil first)
      (body-sure p q (AndStmts (Loop count inside) NoStmts) [] two.0))
      (nests-sure rest two.1)

  nests-onto : (body : PlainBody) (before : List Block) (made : PlainBody) → are_nests p.lanes body ≡ true →
      Ends p q before made [] 0 → StepsFit p (steps body) →
      LeavesFor p q (steps (fused_onto p.lanes 0 before made body)) (steps made ++ steps body)
  nests-onto NoStmts before made h ends fit = leaves-itself p q _ _ (sym (append-nil (steps made)))
  nests-onto (AndStmts (Do op) rest) before made h ends fit = wrong h
  nests-onto (AndStmts (Loop count inside) rest) before made h ends fit =
      let two = both_true (is_nest p.lanes (Loop count inside)) (are_nests p.lanes rest) h in
      let stmt : PlainStmt = Loop count inside in
      let alone : PlainBody = AndStmts stmt NoStmts in
      let first : List Step = steps_of_stmt p stmt [] q in
      let counts : List ℕ = count ∷ counts_in inside in
      let round : PlainBody = round_in inside in
      let kept : List ℕ = followed_in p.lanes counts round (first_steps (first_load round)) in
      let blocks : List Block = blocks_of p.lanes stmt in
      let fit_alone : StepsFit p (steps alone) = λ s has.
      fit s (Contains-append_left first (steps rest) s (subst (λ xs. Contains xs s) (append-nil first) has)) in
      let grown = grows p q alone before blocks made [] 0 two.0 ends
      (has-blocks p q counts kept alone [] [] [] kept refl refl tt refl two.0
      (round-keeps p.lanes counts round (first_steps (first_load round))).all fit_alone) in
      let more : PlainBody = fused_stmt (shared before blocks) stmt made in
      leaves-trans p q (steps (fused_onto p.lanes 0 blocks more rest)) (steps more ++ steps rest)
      (steps made ++ (first ++ steps rest))
      (nests-onto rest blocks more two.1 grown.ends (λ s has. fit s (Contains-append_right first (steps rest) s has)))
      (subst (LeavesFor p q (steps more ++ steps rest))
      (append_assoc (steps made) (first ++ []) (steps rest)
      ∙ ap (λ xs. steps made ++ (xs ++ steps rest)) (append-nil first))
      (leaves-behind p q (steps more) (steps made ++ (first ++ [])) (steps rest) grown.leaves (nests-sure rest two.1)))

  waiting-onto : (body made : PlainBody) → StepsFit p (steps body) →
      LeavesFor p q (steps (fused_onto p.lanes (waiting p.lanes body) [] made body)) (steps made ++ steps body)
  waiting-onto NoStmts made fit = leaves-itself p q _ _ (sym (append-nil (steps made)))
  waiting-onto (AndStmts stmt rest) made fit =
      let first : List Step = steps_of_stmt p stmt [] q in
      by_test (λ n. LeavesFor p q (steps (fused_onto p.lanes n [] made (AndStmts stmt rest)))
      (steps made ++ (first ++ steps rest))) (is_nest p.lanes stmt && are_nests p.lanes rest) 0
      (suc (waiting p.lanes rest))
      (λ e. nests-onto (AndStmts stmt rest) [] made e tt fit)
      (λ e.
      subst (LeavesFor p q (steps (fused_onto p.lanes (waiting p.lanes rest) [] (put_behind stmt made) rest)))
      (ap (λ xs. xs ++ steps rest) (put-steps p q stmt made []) ∙ append_assoc (steps made) first (steps rest))
      (waiting-onto rest (put_behind stmt made) (λ s has. fit s (Contains-append_right first (steps rest) s has))))

-- ---- one phase of one processor

-- the memory that such a code leaves
alone-in-order : (code : Code) (x : List ℕ) → code.procs ≡ 1 → length code.lists ≡ 1 →
    (in_order code x).memory ≡ memory_by code.modulus code.lanes (acts code 0 0)
    (slice_index_or (start code x).registers 0 []) (start code x).memory
alone-in-order code x one phase =
    let begin : Whole = record { memory = (start code x).memory; registers = (start code x).registers } in
    ap (λ n. (phases_alone code n 0 begin).memory) phase ∙ ap (λ n. (processors_alone code 0 n 0 begin).memory) one

module _ (p : PlainProgram) (fits : PlainFits p) (apart : (phase : ℕ) → IsApart (plain_code p) phase) where
  abbrev there : PlainProgram
  there = with_phases p (map (fused_phase p.lanes) p.phases)

  phase-for : (phase q : ℕ) → q < p.procs → LeavesFor p q (steps_of_phase there phase q) (steps_of_phase p phase q)
  phase-for phase q lt =
      subst (λ xs. LeavesFor p q xs (steps_of_phase p phase q))
      (sym (phase-is (fused_phase p.lanes) refl p.phases p phase q))
      (waiting-onto p q (slice_index_or p.phases phase NoStmts) NoStmts
      (λ s has. All-contains (StepFits p) (steps_of_phase p phase q) s (fits.each phase q lt) has))

  module _ (one : p.procs ≡ 1) (phase : length p.phases ≡ 1) where
    many : length there.phases ≡ length p.phases
    many = length-map p.phases (fused_phase p.lanes)

    memory_same : (x : List ℕ) → (in_order (plain_code there) x).memory ≡ (in_order (plain_code p) x).memory
    memory_same x =
        let some : 0 < p.procs = omega (arith, one) in
        let registers : List ℕ = slice_index_or (start (plain_code p) x).registers 0 [] in
        let memory : List ℕ = (start (plain_code p) x).memory in
        alone-in-order (plain_code there) x one (length-map there.phases (row there) ∙ many ∙ phase)
        ∙ ap (λ fs. memory_by p.modulus p.lanes fs registers memory) (listed there 0 0 some)
        ∙ (phase-for 0 0 some).same registers memory
        ∙ ap (λ fs. memory_by p.modulus p.lanes fs registers memory) (sym (listed p 0 0 some))
        ∙ sym (alone-in-order (plain_code p) x one (length-map p.phases (row p) ∙ phase))

    fused_is : IsInPlaceOf there p
    fused_is =
        in-place p there apart
        (λ phase q lt. of-members p there.phases (steps_of_phase there phase q) (steps_of_phase p phase q)
        (fits.each phase q lt) (phase-for phase q lt).members)
        (no-more p there fits many (λ phase q lt. let e = (phase-for phase q lt).long in omega (arith, e)))
        memory_same

-- ---- programs

pub fused_program : (least : ℕ) (p : PlainProgram) → PlainFits p → ((phase : ℕ) → IsApart (plain_code p) phase) →
    IsInPlaceOf (fused least p) p
fused_program least p fits apart =
    where-true p fits apart (with_phases p (fused_phases p.lanes p.phases)) (may_be_fused least p)
    (λ may. of_phases p.phases (eqb-true p.procs 1 (both_true (nat_le least p.size) (p.procs == 1) may).1) fits apart)
  where
    of_phases : (phases : List PlainBody) → p.procs ≡ 1 → PlainFits (with_phases p phases) →
        ((phase : ℕ) → IsApart (plain_code (with_phases p phases)) phase) →
        IsInPlaceOf (with_phases p (fused_phases p.lanes phases)) (with_phases p phases)
    of_phases [] one fits apart = itself (with_phases p []) fits apart
    of_phases (body ∷ []) one fits apart = fused_is (with_phases p (body ∷ [])) fits apart one refl
    of_phases (body ∷ next ∷ phases) one fits apart = itself (with_phases p (body ∷ next ∷ phases)) fits apart
