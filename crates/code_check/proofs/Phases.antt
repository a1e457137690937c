-- The check of a phase, processor by processor.
use Rattle.std.proofs.Common.{◌≡◌, ◌≢◌, ℕ, zero, suc, ◌+◌, ◌*◌, ◌<◌, ◌≤◌, ◌^◌, List, [], Option, Some, None, All}
use Rattle.std.proofs.Common.{Contains, Vec, Global, true, replicate, length, flat_map, get_or, refl, sym, ap, ◌∙◌}
use Rattle.std.proofs.Common.{subst, arith, ⊎_elim, mul_comm, le-mul_of_pos_right}
use Rattle.std.specs.Prelude.{slice_index_or, MatchOption}
use Rattle.std.proofs.lemmas.Bool.{cases_eq, cases_lt}
use Rattle.std.proofs.lemmas.List.{get_or-map, length-map}
use Rattle.std.proofs.lemmas.List.Elements.{All-nil}
use Rattle.operators.specs.Sum.{sum_below}
use Rattle.icode.specs.declared.program.Stmt.{Stmt}
use Rattle.icode.specs.declared.program.Program.{Program}
use Rattle.icode.specs.Actions.{steps_of_body, steps_of_phase, plain_code, actions_of}
use Rattle.icode.specs.Lengths.{len_of_body}
use Rattle.icode.specs.Limits.{IsWithinLimits, is_body_within}
use Rattle.icode.specs.Machine.{IsApart, written_lines, touched_lines}
use Rattle.icode.specs.Plain.{PlainBody, PlainProgram, NoStmts, plain_body, plain_phases}
use Rattle.icode.specs.Program.{plain_program}
use Rattle.icode.proofs.Lists.{phase_within}
use Rattle.icode.proofs.Lines.{Contains-nil, touched_from_written}
use Rattle.code_check.specs.declared.lines.LineUse.{LineUse}
use Rattle.code_check.specs.declared.lines.Sharing.{Sharing}
use Rattle.code_check.specs.declared.walk.Offence.{Offence}
use Rattle.code_check.specs.declared.walk.Offence.TheVariants.{Place, Register}
use Rattle.code_check.specs.Faults.{fault_of}
use Rattle.code_check.specs.Live.{pruned}
use Rattle.code_check.specs.Phases.{IsPhaseSound, IsPhaseFault}
use Rattle.code_check.specs.Refusals.{IsSound, IsFirstOfPhase, Share, IsLeastShared, action_count}
use Rattle.code_check.specs.Tables.{noted_all, phase_table}
use Rattle.code_check.specs.Uses.{unused, line_count, sharing_of, first_sharing}
use Rattle.code_check.specs.Walk.{Passed, Stopped, walked}
use Rattle.code_check.proofs.Counting.{phase_len, action_count_is}
use Rattle.code_check.proofs.Judging.{StopsAt, wrong_is_not_sound, passed_sound, stopped_at}
use Rattle.code_check.proofs.Pruning.{pruned_steps, pruned_len, pruned_within}
use Rattle.code_check.proofs.Regular.{sound_lines}
use Rattle.code_check.proofs.Sharers.{IsSharedBy, nobody_shares, someone_shares, none_in_table, first_in_table}
use Rattle.code_check.proofs.Tables.{lines_touched, lists_are, no_list_past_procs, table_length, phase_use}

pub limits_of : (p : Program) → IsWithinLimits (plain_program p)
limits_of p = record { header = p.header; constants = p.constants; statements = p.statements }

-- the statements of a phase

pub body_is : (p : Program) (phase : ℕ) (body : Vec Stmt Global) → phase < length p.phases.items →
    body ≡ get_or p.phases.items phase body → slice_index_or (plain_phases p.phases.items) phase NoStmts
    ≡ plain_body body.items
body_is p phase body lt e =
    get_or-map (λ (b : Vec Stmt Global). plain_body b.items) p.phases.items phase body NoStmts lt ∙ ap (λ (b : Vec Stmt Global). plain_body b.items) (sym e)

module _ (p : Program) (phase : ℕ) (body : Vec Stmt Global) (live : PlainBody) (here : phase < length p.phases.items)
    (is : body ≡ get_or p.phases.items phase body) (lives : live ≡ pruned (plain_body body.items)) where
  pub live_steps : (q : ℕ) → steps_of_phase (plain_program p) phase q ≡ steps_of_body (plain_program p) live [] q
  live_steps q =
      ap (λ b. steps_of_body (plain_program p) b [] q) (body_is p phase body here is)
      ∙ (sym (pruned_steps (plain_program p) q (plain_body body.items) []) ∙ ap (λ b. steps_of_body (plain_program p) b [] q) (sym lives))

  pub live_within : is_body_within p.modulus live 0 ≡ true
  live_within =
      ap (λ b. is_body_within p.modulus b 0) lives ∙ pruned_within p.modulus 0 (plain_body body.items) (phase_within p phase body here is)

one_of_sum : (f : ℕ → ℕ) (n k : ℕ) → k < n → f k ≤ sum_below n f
one_of_sum f zero k below = absurd (omega arith)
one_of_sum f (suc n) k below =
    ⊎_elim
    (λ (e : k ≡ n). omega (arith, ap f e))
    (λ (ne : k ≡ n → ⊥). omega (arith, one_of_sum f n k (omega arith)))
    (cases_eq k n)

pub body_is_short : (p : Program) (phase : ℕ) (body : Vec Stmt Global) (live : PlainBody) →
    phase < length p.phases.items → body ≡ get_or p.phases.items phase body → live ≡ pruned (plain_body body.items) →
    action_count (plain_program p) < 2 ^ 64 → len_of_body live < 2 ^ 64
body_is_short p phase body live lt e lives few =
    let there : phase < length (plain_phases p.phases.items) = omega (arith, lt, length-map p.phases.items (λ (b : Vec Stmt Global). plain_body b.items)) in
    let one = one_of_sum (phase_len (plain_program p)) (length (plain_phases p.phases.items)) phase there in
    let len : phase_len (plain_program p) phase ≡ len_of_body live = ap len_of_body (body_is p phase body lt e) ∙ (sym (pruned_len (plain_program p) (plain_body body.items)) ∙ ap len_of_body (sym lives)) in
    let total : ℕ = sum_below (length (plain_phases p.phases.items)) (phase_len (plain_program p)) in
    let more : total ≤ total * p.procs = le-mul_of_pos_right {m = p.procs} total (omega (arith, p.header.of_procs.0)) in
    omega (arith, few, action_count_is (plain_program p), one, len, more, mul_comm total p.procs)

-- processor by processor

pub record IsPhaseSoFar (p : PlainProgram) (phase n : ℕ) (table : List LineUse) : Type 0 where
  pub noted : table ≡ phase_table p phase n
  pub sound : (r : ℕ) → r < n → All (IsSound p) (steps_of_phase p phase r)

pub phase_starts : (p : PlainProgram) (phase : ℕ) (table : List LineUse) → table ≡ replicate (line_count p) unused →
    IsPhaseSoFar p phase 0 table
phase_starts p phase table e = record { noted = e; sound = λ r lt. absurd (omega arith) }

pub phase_goes_on : (p : PlainProgram) (phase n m : ℕ) (t u : List LineUse) → IsPhaseSoFar p phase n t →
    walked p n (steps_of_phase p phase n) 0 t ≡ Passed m u → IsPhaseSoFar p phase (n + 1) u
phase_goes_on p phase n m t u h e =
    let done = passed_sound p n (steps_of_phase p phase n) 0 m t u e in
    let next : n + 1 ≡ suc n = omega arith in
    record {
      noted = done.1 ∙ (ap (noted_all p n (steps_of_phase p phase n)) h.noted ∙ ap (phase_table p phase) (sym next));
      sound = λ r lt. ⊎_elim
          (λ (same : r ≡ n). subst (λ k. All (IsSound p) (steps_of_phase p phase k)) (sym same) done.0)
          (λ (ne : r ≢ n). h.sound r (omega arith))
          (cases_eq r n);
    }

pub phase_stops : (p : PlainProgram) (phase n m : ℕ) (t : List LineUse) (o : Offence) → n < p.procs →
    IsPhaseSoFar p phase n t → walked p n (steps_of_phase p phase n) 0 t ≡ Stopped m o →
    IsPhaseFault p phase (fault_of o phase n m)
phase_stops p phase n m t o small h e =
    let found = stopped_at p n (steps_of_phase p phase n) 0 m t o e in
    let same : found.0 ≡ m = omega (arith, found.1) in
    by o m (subst (λ i. StopsAt p (steps_of_phase p phase n) i o) same found.2)
  where
    first : (o : Offence) (i : ℕ) (at : StopsAt p (steps_of_phase p phase n) i o) → IsFirstOfPhase p phase n i at.step
    first o i at = record {
      of_processor = small;
      here = at.here;
      offends = wrong_is_not_sound p at.step o at.wrong;
      processors = h.sound;
      actions = at.before;
    }

    by : (o : Offence) (i : ℕ) → StopsAt p (steps_of_phase p phase n) i o → IsPhaseFault p phase (fault_of o phase n i)
    by Place i at = (refl, record { step = at.step; first = first Place i at; missing = at.wrong })
    by Register i at = (refl, record { step = at.step; first = first Register i at; there = at.wrong.0 })

-- at the end

module _ (p : PlainProgram) (limits : IsWithinLimits p) (phase : ℕ) (here : phase < length p.phases)
    (sound : (r : ℕ) → r < p.procs → All (IsSound p) (steps_of_phase p phase r)) where
  abbrev writers : ℕ → List ℕ
  writers = written_lines (plain_code p) phase

  abbrev touchers : ℕ → List ℕ
  touchers = touched_lines (plain_code p) phase

  touched_inside : (r k : ℕ) → Contains (touchers r) k → k < line_count p
  touched_inside r k h =
      ⊎_elim
      (λ (small : r < p.procs). sound_lines p limits phase r k (sound r small) (subst (λ xs. Contains xs k) (ap (flat_map (lines_touched p)) (lists_are p phase r here small)) h))
      (λ (past : p.procs ≤ r). absurd (Contains-nil k (subst (λ xs. Contains xs k) (ap (flat_map (lines_touched p)) (no_list_past_procs p phase r here past)) h)))
      (cases_lt r p.procs)

  abbrev entry : ℕ → LineUse
  entry k = slice_index_or (phase_table p phase p.procs) k unused

  not_shared : (k : ℕ) → sharing_of phase (0 + k) (entry k) ≡ None → (x y : ℕ) → Share (plain_code p) phase k x y → ⊥
  not_shared k none x y s =
      let inside = touched_inside y k s.touches in
      nobody_shares (λ r. Contains (writers r) k) (λ r. Contains (touchers r) k) phase (0 + k) (entry k) (phase_use p phase k here inside)
      (λ r h. touched_from_written (plain_code p) phase r k h) none x y s.writes s.touches s.other

  pub nothing_shared : first_sharing phase 0 (phase_table p phase p.procs) ≡ None → IsApart (plain_code p) phase
  nothing_shared e = record {
    alone = λ q other k ne w t.
        not_shared k (none_in_table phase 0 (phase_table p phase p.procs) e k (omega (arith, touched_inside other k t, table_length p phase p.procs))) q other
        (record { writes = w; touches = t; other = ne });
  }

  pub least_shared : (s : Sharing) → first_sharing phase 0 (phase_table p phase p.procs) ≡ Some s →
      (s.phase ≡ phase) × IsLeastShared (plain_code p) phase s.line s.a s.b
  least_shared s e =
      let found = first_in_table phase 0 (phase_table p phase p.procs) s e in
      let k : ℕ = found.0 in
      let inside : k < line_count p = omega (arith, found.1.inside, table_length p phase p.procs) in
      let at = someone_shares (λ r. Contains (writers r) k) (λ r. Contains (touchers r) k) phase (0 + k) s (entry k) (phase_use p phase k here inside) found.1.here in
      let same : k ≡ s.line = omega (arith, at.1) in
      (at.0, subst (λ line. IsLeastShared (plain_code p) phase line s.a s.b) same (least k s.a s.b at.2 found.1.before))
    where
      least : (k a b : ℕ) → IsSharedBy (λ r. Contains (writers r) k) (λ r. Contains (touchers r) k) a b →
          ((j : ℕ) → j < k → sharing_of phase (0 + j) (entry j) ≡ None) → IsLeastShared (plain_code p) phase k a b
      least k a b by before = record {
        here = record { writes = by.writes; touches = by.touches; other = by.other };
        lines = λ l x y sh. ⊎_elim (λ (lt : l < k). absurd (not_shared l (before l lt) x y sh)) (λ (ge : k ≤ l). ge) (cases_lt l k);
        writers = λ x y sh. by.writers x sh.writes;
        others = λ y sh. by.others y sh.touches sh.other;
      }

pub phase_ends : (p : PlainProgram) → IsWithinLimits p → (phase n : ℕ) (t : List LineUse) (found : Option Sharing) →
    phase < length p.phases → p.procs ≤ n → n ≤ p.procs → IsPhaseSoFar p phase n t → found ≡ first_sharing phase 0 t →
    IsPhaseSound p phase found
phase_ends p limits phase n t found here ge le h e =
    let same : n ≡ p.procs = omega arith in
    let sound : (r : ℕ) → r < p.procs → All (IsSound p) (steps_of_phase p phase r) = λ r lt. h.sound r (omega arith) in
    let is : first_sharing phase 0 (phase_table p phase p.procs) ≡ found =
    sym (e ∙ (ap (first_sharing phase 0) h.noted ∙ ap (λ k. first_sharing phase 0 (phase_table p phase k)) same)) in
    record { sound = sound; sharing = by sound found is }
  where
    by : ((r : ℕ) → r < p.procs → All (IsSound p) (steps_of_phase p phase r)) → (o : Option Sharing) →
        first_sharing phase 0 (phase_table p phase p.procs) ≡ o →
        MatchOption o (IsApart (plain_code p) phase) (λ (s : Sharing). (s.phase ≡ phase)
        × IsLeastShared (plain_code p) phase s.line s.a s.b)
    by sound None is = nothing_shared p limits phase here sound is
    by sound (Some s) is = least_shared p limits phase here sound s is

-- a phase that holds no action
pub idle_phase : (p : Program) (phase : ℕ) (body : Vec Stmt Global) (live : PlainBody) → phase < length p.phases.items →
    body ≡ get_or p.phases.items phase body → live ≡ pruned (plain_body body.items) → live ≡ NoStmts →
    IsPhaseSound (plain_program p) phase None
idle_phase p phase body live lt e lives none = record {
  sound = λ q small. subst (All (IsSound (plain_program p))) (sym (idle q)) (All-nil (IsSound (plain_program p)));
  sharing = record {
    alone = λ q other line ne w t.
        ⊎_elim
        (λ (small : other < p.procs). nothing line (ap (flat_map (lines_touched (plain_program p))) (lists_are (plain_program p) phase other here small ∙ ap actions_of (idle other))) t)
        (λ (past : p.procs ≤ other). nothing line (ap (flat_map (lines_touched (plain_program p))) (no_list_past_procs (plain_program p) phase other here past)) t)
        (cases_lt other p.procs);
  };
}
  where
    here : phase < length (plain_phases p.phases.items)
    here = omega (arith, lt, length-map p.phases.items (λ (b : Vec Stmt Global). plain_body b.items))

    idle : (q : ℕ) → steps_of_phase (plain_program p) phase q ≡ []
    idle q = live_steps p phase body live lt e lives q ∙ ap (λ b. steps_of_body (plain_program p) b [] q) none

    nothing : {xs : List ℕ} (line : ℕ) → xs ≡ [] → Contains xs line → ⊥
    nothing line same h = Contains-nil line (subst (λ ys. Contains ys line) same h)
