-- Loops, one in the other, of which the innermost goes v rounds at a time, bodies of phases, and programs.
use Rattle.nests.proofs.Bools.{three_true}
use Rattle.std.proofs.Common.{◌≡◌, ℕ, zero, suc, ◌+◌, ◌*◌, ◌<◌, ◌≤◌, List, [], ◌++◌, Contains, flat_map, length, refl}
use Rattle.std.proofs.Common.{sym, ap, ◌∙◌, subst, arith, ⊎_elim, length-append, ◌∷◌, true, Option, Some, None}
use Rattle.std.proofs.Common.{eqb-true, ◌^◌, map}
use Rattle.std.specs.List.{range_with_len, list_all}
use Rattle.std.proofs.lemmas.List.Concat.{flat_map-append}
use Rattle.std.proofs.lemmas.List.Elements.{All-append, Contains-append_left, Contains-append_right}
use Rattle.std.proofs.lemmas.List.Elements.{Contains-append_cases, All-contains}
use Rattle.icode.specs.declared.action.Action.{Action}
use Rattle.icode.specs.Actions.{Step, StepFits, actions_of, steps_of_stmt, steps_of_body, PlainFits, steps_of_phase}
use Rattle.icode.specs.Actions.{plain_code}
use Rattle.icode.specs.Machine.{Local, effects, stored_words, touched_words, IsApart}
use Rattle.icode.specs.Plain.{PlainProgram, PlainOp, PlainStmt, PlainBody, Loop, Do, NoStmts, AndStmts}
use Rattle.icode.proofs.Lines.{Contains-nil}
use Rattle.icode.proofs.SequenceLemmas.ByLane.{lists_follow}
use Rattle.icode.proofs.SequenceLemmas.Stores.{length-registers}
use Rattle.nests.proofs.Rows.{actions_of-append, in-loop, StepsFit, all_fit}
use Rattle.nests.proofs.Members.{all_of_members, IsWithin}
use Rattle.loop_lanes.specs.Layers.{AreLanesFor, memory_by, on_lanes, IsGroup, RoundsAreLanes, steps_at, group_at}
use Rattle.loop_lanes.specs.Layers.{LanesFollow}
use Rattle.std.specs.Prelude.{◌/◌, ◌%◌, ◌==◌, nat_le, slice_index_or, replicate, nat_lt}
use Rattle.std.proofs.Math.Nat.{div-add-mod}
use Rattle.std.proofs.Math.Path.{fun_ext}
use Rattle.icode.proofs.Bools.{both_true}
use Rattle.nests.specs.Places.{are_linear}
use Rattle.nests.specs.Rounds.{Stored, put_after, are_fresh, first_store, straight, ops_in}
use Rattle.nests.specs.Nests.{counts_in, round_in, looped}
use Rattle.nests.proofs.Grouped.{in_groups}
use Rattle.nests.proofs.Linear.{wrong}
use Rattle.nests.proofs.Counts.{looped_is}
use Rattle.loop_lanes.specs.Rows.{stores}
use Rattle.loop_lanes.specs.Lanes.{IsLanes, can_lane, laned_ops, laned_round, last_count, is_lanable, are_lanable}
use Rattle.loop_lanes.specs.Lanes.{narrowed, laned_nest, laned_body, can_be_laned}
use Rattle.loop_lanes.proofs.Told.{straight_steps}
use Rattle.std.proofs.lemmas.List.{length-map, length-replicate}
use Rattle.nests.specs.InPlace.{IsInPlaceOf}
use Rattle.nests.proofs.InOrder.{Keep, keep-many}
use Rattle.nests.proofs.InPlace.{StandFor, no-more, memory-same, in-place, where-true, with_phases, passes-at}
use Rattle.nests.proofs.InPlace.{phase-is, members-fit}

-- ---- what comes after other actions

-- the memory that two lists leave, one after the other
memory-append : (m lanes : ℕ) (a c : List Step) (registers memory : List ℕ) →
    memory_by m lanes (actions_of (a ++ c)) registers memory
    ≡ memory_by m lanes (actions_of c)
    (effects m lanes (actions_of a) (record { memory = memory; registers = registers })).registers
    (memory_by m lanes (actions_of a) registers memory)
memory-append m lanes a c registers memory =
    ap (λ fs. memory_by m lanes fs registers memory) (actions_of-append a c)
    ∙ ap (λ (z : Local). z.memory)
    (lists_follow m lanes (actions_of a) (actions_of c) (record { memory = memory; registers = registers }))

words-append : (f : Action → List ℕ) (a c : List Step) →
    flat_map f (actions_of (a ++ c)) ≡ flat_map f (actions_of a) ++ flat_map f (actions_of c)
words-append f a c = ap (flat_map f) (actions_of-append a c) ∙ flat_map-append f (actions_of a) (actions_of c)

words-within : (f g : Action → List ℕ) (a b c d : List Step) →
    ((k : ℕ) → Contains (flat_map f (actions_of a)) k → Contains (flat_map g (actions_of b)) k) →
    ((k : ℕ) → Contains (flat_map f (actions_of c)) k → Contains (flat_map g (actions_of d)) k) →
    (k : ℕ) → Contains (flat_map f (actions_of (a ++ c))) k → Contains (flat_map g (actions_of (b ++ d))) k
words-within f g a b c d first second k h =
    subst (λ ks. Contains ks k) (sym (words-append g b d))
    (⊎_elim
    (λ here. Contains-append_left (flat_map g (actions_of b)) (flat_map g (actions_of d)) k (first k here))
    (λ later. Contains-append_right (flat_map g (actions_of b)) (flat_map g (actions_of d)) k (second k later))
    (Contains-append_cases (flat_map f (actions_of a)) (flat_map f (actions_of c)) k
    (subst (λ ks. Contains ks k) (words-append f a c) h)))

-- ---- lanes

module _ (v : ℕ) (p : PlainProgram) where
  pub lanes-nil : AreLanesFor v p [] []
  lanes-nil =
      record {
        same = λ r s memory long enough. refl;
        stored = λ k h. h;
        touched = λ k h. h;
        few = omega arith;
        fits = all_of_members (StepFits (on_lanes v p)) [] (λ s h. absurd (Contains-nil s h));
      }

  pub lanes-append : (a b c d : List Step) → AreLanesFor v p a b → AreLanesFor v p c d →
      AreLanesFor v p (a ++ c) (b ++ d)
  lanes-append a b c d h k =
      record {
        same = same;
        stored = words-within (stored_words v) (stored_words 1) a b c d h.stored k.stored;
        touched = words-within (touched_words v) (touched_words 1) a b c d h.touched k.touched;
        few = let few = h.few in let more = k.few in omega (arith, few, more, length-append a c, length-append b d);
        fits = All-append (StepFits (on_lanes v p)) a c h.fits k.fits;
      }
    where
      same : (r s memory : List ℕ) → 3 * p.regs * v ≤ length r → p.regs ≤ length s →
          memory_by p.modulus v (actions_of (a ++ c)) r memory ≡ memory_by p.modulus 1 (actions_of (b ++ d)) s memory
      same r s memory long enough =
          let there : Local = effects p.modulus v (actions_of a) (record { memory = memory; registers = r }) in
          let here : Local = effects p.modulus 1 (actions_of b) (record { memory = memory; registers = s }) in
          let long_there : length there.registers ≡ length r =
          length-registers p.modulus v (actions_of a) (record { memory = memory; registers = r }) in
          let long_here : length here.registers ≡ length s =
          length-registers p.modulus 1 (actions_of b) (record { memory = memory; registers = s }) in
          memory-append p.modulus v a c r memory
          ∙ k.same there.registers here.registers (memory_by p.modulus v (actions_of a) r memory)
          (subst (λ n. 3 * p.regs * v ≤ n) (sym long_there) long) (subst (λ n. p.regs ≤ n) (sym long_here) enough)
          ∙ ap (memory_by p.modulus 1 (actions_of d) here.registers) (h.same r s memory long enough)
          ∙ sym (memory-append p.modulus 1 b d s memory)

  -- loops of as many rounds
  pub lanes-loop : (f g : ℕ → List Step) (a n : ℕ) → ((i : ℕ) → a ≤ i → i < a + n → AreLanesFor v p (f i) (g i)) →
      AreLanesFor v p (flat_map f (range_with_len a n)) (flat_map g (range_with_len a n))
  lanes-loop f g a zero h = lanes-nil
  lanes-loop f g a (suc n) h =
      lanes-append (f a) (g a) (flat_map f (range_with_len (a + 1) n)) (flat_map g (range_with_len (a + 1) n))
      (h a (omega arith) (omega arith))
      (lanes-loop f g (a + 1) n (λ i low high. h i (omega arith) (omega arith)))

-- ---- loops, one in the other, of which the innermost goes v rounds at a time, and bodies of phases

-- ---- straight statements

-- statements that are fresh are straight
pub straight-is : (lanes next : ℕ) (round : PlainBody) → are_fresh lanes next round ≡ true →
    straight (ops_in round) ≡ round
straight-is lanes next NoStmts h = refl
straight-is lanes next (AndStmts (Do op) rest) h =
    ap (AndStmts (Do op)) (straight-is lanes (put_after lanes next op) rest (both_true _ _ h).1)
straight-is lanes next (AndStmts (Loop count body) rest) h = wrong h

module _ (rounds_are : RoundsAreLanes) (v : ℕ) (p : PlainProgram) (q : ℕ) (is_lanes : IsLanes v)
    (alone : p.lanes ≡ 1) where
  -- ---- the innermost loop

  abbrev rounds_of : List PlainOp → List ℕ → ℕ → List Step
  rounds_of ops vs count = flat_map (λ i. steps_at p ops (vs ++ i ∷ []) q) (range_with_len 0 count)

  abbrev groups_of : ℕ → Option Stored → List PlainOp → List ℕ → ℕ → List Step
  groups_of loop store ops vs n =
      flat_map (λ b. steps_at (on_lanes v p) (laned_ops v p.regs loop store ops) (vs ++ b ∷ []) q) (range_with_len 0 n)

  innermost_for : (loop count : ℕ) (store : Option Stored) (ops : List PlainOp) (vs : List ℕ) → length vs ≡ loop →
      can_lane v loop store ops ≡ true →
      are_fresh 1 0 (straight ops) ≡ true → (count % v == 0) ≡ true → StepsFit p (rounds_of ops vs count) →
      AreLanesFor v p (groups_of loop store ops vs (count / v)) (rounds_of ops vs count)
  innermost_for loop count None ops vs deep can fresh whole fit = wrong can
  innermost_for loop count (Some to) ops vs deep can fresh whole fit =
      subst (AreLanesFor v p (groups_of loop (Some to) ops vs (count / v))) (sym grouped)
      (lanes-loop v p (λ b. steps_at (on_lanes v p) (laned_ops v p.regs loop (Some to) ops) (vs ++ b ∷ []) q) group 0
      (count / v) each)
    where
      group : ℕ → List Step
      group b = group_at v p ops vs b q

      grouped : rounds_of ops vs count ≡ flat_map group (range_with_len 0 (count / v))
      grouped =
          let none : count % v ≡ 0 = eqb-true (count % v) 0 whole in
          let all : v * (count / v) + count % v ≡ count = div-add-mod count v in
          in_groups (λ i. steps_at p ops (vs ++ i ∷ []) q) v (count / v) count (omega (arith, none, all))

      known : (b : ℕ) → b < count / v → IsGroup v p to ops vs b q
      known b lt =
          record {
            lanes = is_lanes;
            alone = alone;
            linear = (both_true (are_linear 0 to.parts) _ can).0;
            fresh = fresh;
            fits = all_fit p (group b) (λ s has. fit s
                (subst (λ steps. Contains steps s) (sym grouped)
                (in-loop group 0 (count / v) b s (omega arith) (omega (arith, lt)) has)));
          }

      each : (b : ℕ) → 0 ≤ b → b < 0 + count / v →
          AreLanesFor v p (steps_at (on_lanes v p) (laned_ops v p.regs loop (Some to) ops) (vs ++ b ∷ []) q) (group b)
      each b low high =
          subst (λ d. AreLanesFor v p (steps_at (on_lanes v p) (laned_ops v p.regs d (Some to) ops) (vs ++ b ∷ []) q)
          (group b)) deep
          (rounds_are v p to ops vs b q (known b (omega (arith, high)))
          (subst (λ d. can_lane v d (Some to) ops ≡ true) (sym deep) can))

  -- ---- loops around it

  alone_for : (a b : List Step) → AreLanesFor v p a b → AreLanesFor v p (a ++ []) (b ++ [])
  alone_for a b h = lanes-append v p a b [] [] h (lanes-nil v p)

  narrowed_for : (loop count : ℕ) (counts : List ℕ) (round : PlainBody) (vs : List ℕ) →
      length vs + length counts ≡ loop →
      can_lane v loop (first_store round) (ops_in round) ≡ true → are_fresh 1 0 round ≡ true →
      (last_count count counts % v == 0) ≡ true →
      StepsFit p (steps_of_stmt p (Loop count (looped counts round)) vs q) →
      AreLanesFor v p (steps_of_stmt (on_lanes v p) (narrowed v count counts (laned_round v p.regs loop round)) vs q)
      (steps_of_stmt p (Loop count (looped counts round)) vs q)
  narrowed_for loop count [] round vs deep can fresh whole fit =
      let ops = ops_in round in
      let straight_round : straight ops ≡ round = straight-is 1 0 round fresh in
      let old : steps_of_stmt p (Loop count round) vs q ≡ rounds_of ops vs count =
      ap (λ (f : ℕ → List Step). flat_map f (range_with_len 0 count)) (fun_ext (λ i.
      ap (λ body. steps_of_body p body (vs ++ i ∷ []) q) (sym straight_round)
      ∙ straight_steps p ops (vs ++ i ∷ []) q)) in
      let new : steps_of_stmt (on_lanes v p)
      (Loop (count / v) (laned_round v p.regs loop round)) vs q ≡ groups_of loop (first_store round) ops vs
      (count / v) =
      ap (λ (f : ℕ → List Step). flat_map f (range_with_len 0 (count / v)))
      (fun_ext (λ b. straight_steps (on_lanes v p) (laned_ops v p.regs loop (first_store round) ops)
      (vs ++ b ∷ []) q)) in
      subst (AreLanesFor v p (steps_of_stmt (on_lanes v p) (Loop (count / v) (laned_round v p.regs loop round)) vs q))
      (sym old)
      (subst (λ steps. AreLanesFor v p steps (rounds_of ops vs count)) (sym new)
      (innermost_for loop count (first_store round) ops vs (omega (arith, deep)) can
      (ap (are_fresh 1 0) straight_round ∙ fresh) whole (subst (StepsFit p) old fit)))
  narrowed_for loop count (inner ∷ counts) round vs deep can fresh whole fit =
      lanes-loop v p
      (λ i. steps_of_stmt (on_lanes v p) (narrowed v inner counts (laned_round v p.regs loop round))
      (vs ++ i ∷ []) q ++ [])
      (λ i. steps_of_stmt p (Loop inner (looped counts round)) (vs ++ i ∷ []) q ++ []) 0 count
      (λ i low high. alone_for _ _
      (narrowed_for loop inner counts round (vs ++ i ∷ [])
      (let long = length-append vs (i ∷ []) in omega (arith, deep, long)) can fresh whole
      (λ s has. fit s (in-loop
      (λ i. steps_of_stmt p (Loop inner (looped counts round)) (vs ++ i ∷ []) q ++ []) 0 count i s low high
      (Contains-append_left (steps_of_stmt p (Loop inner (looped counts round)) (vs ++ i ∷ []) q) [] s has)))))

  -- ---- nests

  stmt_for : (stmt : PlainStmt) → is_lanable v stmt ≡ true → StepsFit p (steps_of_stmt p stmt [] q) →
      AreLanesFor v p (steps_of_stmt (on_lanes v p) (laned_nest v p.regs stmt) [] q) (steps_of_stmt p stmt [] q)
  stmt_for (Do op) h fit = wrong h
  stmt_for (Loop count body) h fit =
      let counts : List ℕ = counts_in body in
      let round : PlainBody = round_in body in
      let short = both_true (nat_le (length (stores (ops_in round))) 256) _ h in
      let more = three_true (last_count count counts % v == 0) (are_fresh 1 0 round) _ short.1 in
      let old : steps_of_stmt p (Loop count (looped counts round)) [] q ≡ steps_of_stmt p (Loop count body) [] q =
      ap (λ inside. steps_of_stmt p (Loop count inside) [] q) (looped_is body) in
      subst (AreLanesFor v p (steps_of_stmt (on_lanes v p) (laned_nest v p.regs (Loop count body)) [] q)) old
      (narrowed_for (length counts) count counts round [] (omega arith) more.2 more.1 more.0
      (subst (StepsFit p) (sym old) fit))

  -- ---- bodies of phases

  pub body_for : (body : PlainBody) → are_lanable v body ≡ true → StepsFit p (steps_of_body p body [] q) →
      AreLanesFor v p (steps_of_body (on_lanes v p) (laned_body v p.regs body) [] q) (steps_of_body p body [] q)
  body_for NoStmts h fit = lanes-nil v p
  body_for (AndStmts stmt rest) h fit =
      let both = both_true (is_lanable v stmt) (are_lanable v rest) h in
      lanes-append v p (steps_of_stmt (on_lanes v p) (laned_nest v p.regs stmt) [] q) (steps_of_stmt p stmt [] q)
      (steps_of_body (on_lanes v p) (laned_body v p.regs rest) [] q) (steps_of_body p rest [] q)
      (stmt_for stmt both.0
      (λ s has. fit s (Contains-append_left (steps_of_stmt p stmt [] q) (steps_of_body p rest [] q) s has)))
      (body_for rest both.1
      (λ s has. fit s (Contains-append_right (steps_of_stmt p stmt [] q) (steps_of_body p rest [] q) s has)))

-- ---- a program whose bodies are laned leaves what it left

module _ (rounds_are : RoundsAreLanes) (v : ℕ) (p : PlainProgram) (is_lanes : IsLanes v) (fits : PlainFits p)
    (apart : (phase : ℕ) → IsApart (plain_code p) phase) where
  abbrev there : PlainProgram
  there = with_phases (on_lanes v p) (map (laned_body v p.regs) p.phases)

  abbrev new : ℕ → ℕ → List Step
  new phase q = steps_of_phase there phase q

  abbrev old : ℕ → ℕ → List Step
  old phase q = steps_of_phase p phase q

  -- registers enough for either program
  abbrev AreEnough : ℕ → ℕ → Type 0
  AreEnough m n = (3 * p.regs * v ≤ m) × (p.regs ≤ n)

  module _ (alone : p.lanes ≡ 1) (lanable : list_all (are_lanable v) p.phases ≡ true) where
    lanes_there : (phase q : ℕ) → q < p.procs → AreLanesFor v p (new phase q) (old phase q)
    lanes_there phase q lt =
        let body : PlainBody = slice_index_or p.phases phase NoStmts in
        subst (λ steps. AreLanesFor v p steps (old phase q))
        (sym (phase-is (laned_body v p.regs) refl p.phases (on_lanes v p) phase q))
        (body_for rounds_are v p q is_lanes alone body (passes-at (are_lanable v) refl p.phases phase lanable)
        (λ s has. All-contains (StepFits p) (old phase q) s (fits.each phase q lt) has))

    stand_there : (phase q : ℕ) → q < p.procs → StandFor there p (new phase q) (old phase q)
    stand_there phase q lt =
        let law = lanes_there phase q lt in
        record {
          fits = members-fit (on_lanes v p) there.phases (new phase q) (new phase q) law.fits (λ s has. has);
          stored =
              subst (λ lanes. IsWithin (flat_map (stored_words v) (actions_of (new phase q)))
              (flat_map (stored_words lanes) (actions_of (old phase q)))) (sym alone) law.stored;
          touched =
              subst (λ lanes. IsWithin (flat_map (touched_words v) (actions_of (new phase q)))
              (flat_map (touched_words lanes) (actions_of (old phase q)))) (sym alone) law.touched;
        }

    keep_there : (phase q : ℕ) → q < p.procs → Keep p.modulus v p.lanes (λ r s. AreEnough (length r) (length s))
        (actions_of (new phase q)) (actions_of (old phase q))
    keep_there phase q lt =
        keep-many p.modulus v p.lanes AreEnough (actions_of (new phase q)) (actions_of (old phase q))
        (λ r s memory enough.
        (lanes_there phase q lt).same r s memory enough.0 enough.1
        ∙ ap (λ lanes. memory_by p.modulus lanes (actions_of (old phase q)) s memory) (sym alone))

    enough_first : AreEnough (length {A = ℕ} (replicate (3 * p.regs * v) 0))
        (length {A = ℕ} (replicate (p.regs * p.lanes) 0))
    enough_first =
        let long = length-replicate {A = ℕ} (3 * p.regs * v) 0 in
        let long_too = length-replicate {A = ℕ} (p.regs * p.lanes) 0 in
        let whole : p.regs * p.lanes ≡ p.regs * 1 = ap (λ n. p.regs * n) alone in
        (omega (arith, long), omega (arith, long_too, whole))

    in_place : IsInPlaceOf there p
    in_place =
        let many = length-map p.phases (laned_body v p.regs) in
        in-place p there apart stand_there (no-more p there fits many (λ phase q lt. (lanes_there phase q lt).few))
        (memory-same p there (λ r s. AreEnough (length r) (length s)) many enough_first keep_there)

-- ---- the law, from what is known of rounds

pub lanes_follow : LanesFollow
lanes_follow rounds_are v p is_lanes fits apart =
    let law =
    where-true p fits apart (there rounds_are v p is_lanes fits apart) (can_be_laned v p) (λ can.
    let more = three_true (p.lanes == 1) (nat_lt (3 * p.regs) (2 ^ 20)) _ can in
    in_place rounds_are v p is_lanes fits apart (eqb-true p.lanes 1 more.0) more.2) in
    record { fits = law.fits; apart = law.apart; same = law.same }
