-- Actions that are played one after another.
use Rattle.std.specs.Prelude.{IsTrue, ◌≤◌}
use Rattle.std.proofs.Common.{◌≡◌, ℕ, zero, suc, ◌+◌, ◌-◌, ◌*◌, ◌<◌, List, All, Some, length, take, get_or, refl, sym}
use Rattle.std.proofs.Common.{ap, ◌∙◌, subst, arith, length-take-le}
use Rattle.std.proofs.lemmas.Option.{slice_get_read}
use Rattle.icode.specs.declared.program.Op.{Op}
use Rattle.icode.specs.Actions.{Step, StepFits, step_of}
use Rattle.icode.specs.declared.action.Action.{Action}
use Rattle.icode.specs.declared.action.Counts.{Counts}
use Rattle.icode.specs.Machine.{Local, counted, effect, value_put, register_put}
use Rattle.icode.specs.Plain.{PlainProgram, PlainOp, Load, Store, Zero, Add, Sub, Neg, MulConst, MulTable, Tile}
use Rattle.icode.specs.Plain.{plain_op}
use Rattle.par_machine.specs.declared.cursor.Instruction.{Instruction}
use Rattle.par_machine.specs.declared.cursor.Instruction.TheVariants.{Act, Again}
use Rattle.icode.specs.Limits.{is_op_within}
use Rattle.par_machine.specs.Instruction.{IsClosed, IsWithin}
use Rattle.par_machine.specs.OnRegisters.{counted_op}
use Rattle.par_machine.specs.Hand.{step_with, step_at, action_of_step, Runs}
use Rattle.par_machine.specs.Performed.{HasRoom}
use Rattle.par_machine.specs.Played.{Playing, CanPlay, played_one, played}
use Rattle.par_machine.specs.Position.{Position, next_position, positions}
use Rattle.icode.proofs.Below.{effect_memory_below, effect_registers_below}
use Rattle.icode.proofs.SequenceLemmas.Placing.{length-with_words}
use Rattle.par_machine.proofs.Executed.{room_less, room_after}
use Rattle.par_machine.proofs.Frames.{place_inside}
use Rattle.par_machine.proofs.Steps.{length-memory_after}

pub playing_same : (m m' r r' : List ℕ) (p p' : Position) (c c' : Counts) → m ≡ m' → r ≡ r' → p ≡ p' → c ≡ c' →
    ◌≡◌ {A = Playing} (record { memory = m; registers = r; place = p; counts = c })
    (record { memory = m'; registers = r'; place = p'; counts = c' })
playing_same m m' r r' p p' c c' em er ep ec = cc

pub place_same : (i i' : ℕ) (vs vs' : List ℕ) → i ≡ i' → vs ≡ vs' →
    ◌≡◌ {A = Position} (record { at = i; values = vs }) (record { at = i'; values = vs' })
place_same i i' vs vs' ei ev = cc

pub counted_op_is : (p : PlainProgram) (op : PlainOp) (vs : List ℕ) (q : ℕ) (c : Counts) →
    counted_op p.lanes op c ≡ counted p.lanes (step_of p op vs q).action c
counted_op_is p (Load register array place) vs q c = refl
counted_op_is p (Store array place register) vs q c = refl
counted_op_is p (Zero register) vs q c = refl
counted_op_is p (Add register left right) vs q c = refl
counted_op_is p (Sub register left right) vs q c = refl
counted_op_is p (Neg register source) vs q c = refl
counted_op_is p (MulConst register source factor) vs q c = refl
counted_op_is p (MulTable register source table place step) vs q c = refl
counted_op_is p (Tile register source) vs q c = refl

module _ (g : PlainProgram) (code : List Instruction) (q : ℕ) where
  abbrev CanRun : Position → Type 0
  CanRun place = Runs g (step_at g code q place)

  runs_rest : (n : ℕ) (p : Position) → All CanRun (positions code (suc n) p) →
      All CanRun (positions code n (next_position code p))
  runs_rest n p h = λ j d lt. h (suc j) d (omega (arith, lt))

  played_first : (n : ℕ) (s : Playing) → 0 < n → played g code q n s ≡ played g code q (n - 1)
      (played_one g code q s)
  played_first zero s some = absurd (omega arith)
  played_first (suc n) s some =
      let e : n ≡ suc n - 1 = omega arith in
      ap (λ k. played g code q k (played_one g code q s)) e

  runs_here : (n : ℕ) (s : Playing) → 0 < n → CanPlay g code q n s → CanRun s.place
  runs_here zero s some h = absurd (omega arith)
  runs_here (suc n) s some h = h.runs 0 s.place (omega arith)

  -- one action can be counted
  pub room_here : (n : ℕ) (s : Playing) → 0 < n → CanPlay g code q n s → HasRoom g.lanes s.counts
  room_here zero s some h = absurd (omega arith)
  room_here (suc n) s some h = room_less g.lanes (suc n * g.lanes) s.counts (omega arith) h.counters

  -- the actions that come after the first
  can_play_rest : (n : ℕ) (s : Playing) → 0 < n → CanPlay g code q n s →
      CanPlay g code q (n - 1) (played_one g code q s)
  can_play_rest zero s some h = absurd (omega arith)
  can_play_rest (suc n) s some h =
      let e : n ≡ suc n - 1 = omega arith in
      let pos : 0 < g.modulus = omega (arith, h.words 0) in
      let action = action_of_step (step_at g code q s.place) in
      let before : Local = record { memory = s.memory; registers = s.registers } in
      subst (λ k. CanPlay g code q k (played_one g code q s)) e
      (record {
        closed = h.closed;
        within = h.within;
        runs = runs_rest n s.place h.runs;
        memory = length-memory_after g.lanes action before ∙ h.memory;
        words = effect_memory_below g.modulus g.lanes pos before h.words h.residues action;
        file = length-with_words (value_put g.modulus g.lanes action before) s.registers (register_put action * g.lanes) ∙ h.file;
        residues = effect_registers_below g.modulus g.lanes pos before h.words h.residues action;
        counters = room_after (n * g.lanes) g.lanes action s.counts (room_less (n * g.lanes + g.lanes) (suc n * g.lanes) s.counts (omega arith) h.counters);
      })

-- What is known where a processor has an action to do
module _ {g : PlainProgram} {code : List Instruction} {q n : ℕ} {s : Playing} (some : 0 < n)
    (can : CanPlay g code q n s) where
  runs : Runs g (step_at g code q s.place)
  runs = runs_here g code q n s some can

  pub inside_here : s.place.at < length code
  inside_here = place_inside g code q s.place runs

  pub counts_have_room : HasRoom g.lanes s.counts
  counts_have_room = room_here g code q n s some can

  -- of the instruction at its place
  module _ {i : Instruction} (e : i ≡ get_or code s.place.at i) where
    step_of_it : step_at g code q s.place ≡ step_with g s.place.values q (Some i)
    step_of_it =
        ap (step_with g s.place.values q) (slice_get_read code (length code) s.place.at i refl inside_here e)

    -- no loop ends there
    pub not_again : {start last depth : ℕ} → i ≡ Again start last depth → ⊥
    not_again is =
        subst (Runs g) (step_of_it ∙ ap (λ (x : Instruction). step_with g s.place.values q (Some x)) is) runs

    -- so it is an operation
    module _ {op : Op} {depth : ℕ} (is : i ≡ Act op depth) where
      abbrev step : Step
      step = step_of g (plain_op op) (take depth s.place.values) q

      step_is : step_at g code q s.place ≡ Some step
      step_is = step_of_it ∙ ap (λ (x : Instruction). step_with g s.place.values q (Some x)) is

      pub operation_fits : StepFits g step
      operation_fits = subst (Runs g) step_is runs

      module _ (long : length s.place.values ≡ 64) where
        pub depth_there : depth ≤ length s.place.values
        depth_there =
            let closed : depth ≤ 64 = subst IsClosed (sym e ∙ is) (can.closed s.place.at i inside_here) in
            omega (arith, closed)

        pub depth_is : length (take depth s.place.values) ≡ depth
        depth_is = length-take-le depth s.place.values depth_there

        pub operation_within : IsTrue (is_op_within g.modulus (plain_op op) (length (take depth s.place.values)))
        operation_within =
            subst (λ k. IsTrue (is_op_within g.modulus (plain_op op) k)) (sym depth_is)
            (subst (IsWithin g.modulus) (sym e ∙ is) (can.within s.place.at i inside_here))

      abbrev after : Local
      after = effect g.modulus g.lanes step.action (record { memory = s.memory; registers = s.registers })

      -- the actions after it, where this is what it leaves
      module _ {memory registers values : List ℕ} {at : ℕ} {counts : Counts} (em : memory ≡ after.memory)
          (er : registers ≡ after.registers) (ea : at ≡ (next_position code s.place).at)
          (ev : values ≡ (next_position code s.place).values)
          (ec : counts ≡ counted_op g.lanes (plain_op op) s.counts) where
        abbrev left : Playing
        left =
            record {
              memory = memory;
              registers = registers;
              place = record { at = at; values = values };
              counts = counts;
            }

        one_done : left ≡ played_one g code q s
        one_done =
            let action : step.action ≡ action_of_step (step_at g code q s.place) = sym (ap action_of_step step_is) in
            let before : Local = record { memory = s.memory; registers = s.registers } in
            playing_same _ _ _ _ _ _ _ _
            (em ∙ ap (λ (a : Action). (effect g.modulus g.lanes a before).memory) action)
            (er ∙ ap (λ (a : Action). (effect g.modulus g.lanes a before).registers) action)
            (place_same _ _ _ _ ea ev)
            (ec ∙ (counted_op_is g (plain_op op) _ q s.counts
            ∙ ap (λ (a : Action). counted g.lanes a s.counts) action))

        pub played_rest : played g code q (n - 1) left ≡ played g code q n s
        played_rest = ap (played g code q (n - 1)) one_done ∙ sym (played_first g code q n s some)

        pub can_play_on : CanPlay g code q (n - 1) left
        can_play_on = subst (CanPlay g code q (n - 1)) (sym one_done) (can_play_rest g code q n s some can)
