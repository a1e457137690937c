-- Operations on v lanes do in each lane what they do in a round.
use Rattle.std.specs.Prelude.{map, slice_index, ◌==◌, slice_index_or}
use Rattle.std.specs.List.{list_all}
use Rattle.icode.specs.Actions.{actions_of, array_start, lane_factors, step_of}
use Rattle.icode.specs.Machine.{Local, effects, effect, memory_after, value_put, whole_lines}
use Rattle.icode.specs.Plain.{PlainOp, PlainProgram, PlainExpr, Load, Store, Zero, Add, Sub, Neg, MulConst, MulTable}
use Rattle.icode.specs.Plain.{Tile}
use Rattle.icode.specs.Sequences.Lanes.{lane_of, Registers, with_register, lane_effect, IsArithmetic}
use Rattle.nests.specs.Rounds.{Stored, are_fresh, same_array, is_fresh, put_after, straight}
use Rattle.loop_lanes.specs.Columns.{renumbered_op}
use Rattle.loop_lanes.specs.Layers.{on_lanes, steps_at, values_put}
use Rattle.loop_lanes.specs.Rows.{is_by_lane, is_store, in_row, place_stride, widened}
use Rattle.std.proofs.Common.{◌≡◌, ◌≢◌, ℕ, suc, ◌+◌, ◌*◌, ◌<◌, ◌≤◌, true, false, not, List, [], ◌∷◌, ◌++◌, Contains}
use Rattle.std.proofs.Common.{length, refl, sym, ap, ap₂, ◌∙◌, arith, inl, inr, subst, eqb-true, length-append}
use Rattle.std.proofs.Math.Seq.{get_or-append_seam}
use Rattle.std.proofs.lemmas.Bool.{cases_eq, not-true, true≢false}
use Rattle.std.proofs.lemmas.List.{get_or_append_left}
use Rattle.ring_mod.specs.Residue.{sum_mod, difference_mod, negation_mod, product_mod}
use Rattle.icode.specs.declared.action.Action.{Action}
use Rattle.icode.specs.Expression.{sum_numbers}
use Rattle.icode.proofs.Bools.{both_true}
use Rattle.icode.proofs.Lines.{Contains-head}
use Rattle.icode.proofs.SequenceLemmas.ByLane.{this_register, other_register, effect_by_lane, length-registers_after}
use Rattle.icode.proofs.SequenceLemmas.Stores.{load_by_lane}
use Rattle.nests.specs.Places.{is_linear}
use Rattle.nests.proofs.Acts.{loaded_words}
use Rattle.nests.proofs.Linear.{wrong}
use Rattle.loop_lanes.proofs.Wide.{wide_value}
use Rattle.nests.proofs.Rows.{two-sources, one-source, factors_each, factor_at}
use Rattle.icode.specs.declared.action.Action.TheVariants as actions

-- the registers of v lanes hold what each round has put: f r what register r holds, for each register below the next
pub record AreHeld (v : ℕ) (f : ℕ → ℕ) (registers : List ℕ) (values : ℕ → List ℕ) (next : ℕ) : Type 0 where
  pub long : (l : ℕ) → l < v → length (values l) ≡ next
  pub held : (r l : ℕ) → r < next → l < v → lane_of v registers l (f r) ≡ slice_index (values l) r

-- operations that store nothing and are done in lanes on other registers, f r in the place of r
pub record IsFront (p : PlainProgram) (loop : ℕ) (to : Stored) (f : ℕ → ℕ) (front : List PlainOp) : Type 0 where
  pub alone : p.lanes ≡ 1
  pub fresh : are_fresh 1 0 (straight front) ≡ true
  pub by_lane : list_all (is_by_lane loop to) front ≡ true
  pub puts : list_all (λ op. not (is_store op)) front ≡ true
  pub low : (r : ℕ) → r < length front → f r < 3 * p.regs
  pub apart : (r k : ℕ) → r < length front → k < length front → f r ≡ f k → r ≡ k

-- what round l of a group puts
abbrev pub values_in : ℕ → PlainProgram → List ℕ → List PlainOp → List ℕ → ℕ → ℕ → ℕ → List ℕ
values_in v p memory ops vs b q l =
    values_put p.modulus memory [] (actions_of (steps_at p ops (vs ++ (v * b + l) ∷ []) q))

-- operations on v lanes, with other registers
abbrev pub in_lanes : ℕ → ℕ → (ℕ → ℕ) → List PlainOp → List PlainOp
in_lanes v loop f ops = map (λ op. renumbered_op f (in_row v loop op)) ops

-- these operations on v lanes leave the memory, and what those of the rounds put
pub record HoldsBy (v : ℕ) (p : PlainProgram) (f : ℕ → ℕ) (new front : List PlainOp) (vs : List ℕ) (b q : ℕ)
    (s : Local) : Type 0 where
  pub memory : (effects p.modulus v (actions_of (steps_at (on_lanes v p) new (vs ++ b ∷ []) q)) s).memory ≡ s.memory
  pub registers :
      AreHeld v f (effects p.modulus v (actions_of (steps_at (on_lanes v p) new (vs ++ b ∷ []) q)) s).registers
      (values_in v p s.memory front vs b q) (length front)

-- ---- operations on v lanes do in each lane what they do in a round

-- one more register is held
more_held : (v : ℕ) (f : ℕ → ℕ) (registers after : List ℕ) (values more : ℕ → List ℕ) (r next : ℕ) (x : ℕ → ℕ) →
    r ≡ next → ((k : ℕ) → k < next → f k ≢ f r) → AreHeld v f registers values next →
    ((l : ℕ) → l < v → lane_of v after l ≡ with_register (lane_of v registers l) (f r) (x l)) →
    ((l : ℕ) → l < v → more l ≡ values l ++ x l ∷ []) → AreHeld v f after more (next + 1)
more_held v f registers after values more r next x here others h is one =
    record {
      long = λ l below.
          let whole = length-append (values l) (x l ∷ []) in
          ap length (one l below) ∙ omega (arith, whole, h.long l below);
      held = λ k l low below.
          ap (λ (g : Registers). g (f k)) (is l below)
          ∙ at k l low below
          ∙ sym (ap (λ xs. slice_index xs k) (one l below));
    }
  where
    put : ℕ → Registers
    put l = with_register (lane_of v registers l) (f r) (x l)

    at : (k l : ℕ) → k < next + 1 → l < v → put l (f k) ≡ slice_index (values l ++ x l ∷ []) k
    at k l low below =
        elim (cases_eq k next) [
          | inl last ↦
              ap (λ i. put l (f i)) (last ∙ sym here)
              ∙ this_register (lane_of v registers l) (f r) (x l)
              ∙ sym (get_or-append_seam (values l) (x l) [] 0)
              ∙ ap (slice_index (values l ++ x l ∷ [])) (h.long l below ∙ sym last)
          | inr other ↦
              let lower : k < next = omega (arith, low, other) in
              other_register (lane_of v registers l) (f k) (f r) (x l) (others k lower)
              ∙ h.held k l lower below
              ∙ sym (get_or_append_left (values l) (x l ∷ []) 0 k (omega (arith, lower, h.long l below)))
        ]

-- ---- what is put

two_put : (g : ℕ → ℕ → ℕ) (xs : List ℕ) (x y : ℕ) →
    xs ++ g (slice_index xs (x * 1)) (slice_index xs (y * 1)) ∷ [] ≡ xs ++ g (slice_index xs x) (slice_index xs y) ∷ []
two_put g xs x y =
    let same : x * 1 ≡ x = omega arith in
    let too : y * 1 ≡ y = omega arith in
    ap₂ (λ i j. xs ++ g (slice_index xs i) (slice_index xs j) ∷ []) same too

one_put : (g : ℕ → ℕ) (xs : List ℕ) (x : ℕ) → xs ++ g (slice_index xs (x * 1)) ∷ [] ≡ xs ++ g (slice_index xs x) ∷ []
one_put g xs x = let same : x * 1 ≡ x = omega arith in ap (λ i. xs ++ g (slice_index xs i) ∷ []) same

-- ---- what is fresh

-- one register is put
pub put_next : (next : ℕ) (op : PlainOp) → is_store op ≡ false → put_after 1 next op ≡ next + 1
put_next next (Store array place r) puts = absurd (true≢false puts)
put_next next op puts = refl

-- ---- one operation

module _ (v : ℕ) (p : PlainProgram) (f : ℕ → ℕ) (vs : List ℕ) (b q : ℕ) where
  -- the values of the loops in round l
  abbrev round_at : ℕ → List ℕ
  round_at l = vs ++ (v * b + l) ∷ []

  -- what an operation is in round l, and on v lanes
  abbrev pub round_act : PlainOp → ℕ → Action
  round_act op l = (step_of p op (round_at l) q).action

  abbrev pub wide_act : PlainOp → Action
  wide_act op = (step_of (on_lanes v p) (renumbered_op f (in_row v (length vs) op)) (vs ++ b ∷ []) q).action

  -- the values of round l, and those that an action puts
  abbrev values_more : List ℕ → List ℕ → Action → List ℕ
  values_more memory xs act = xs ++ value_put p.modulus 1 act (record { memory = memory; registers = xs })

  abbrev pub values_after : List ℕ → (ℕ → List ℕ) → PlainOp → ℕ → List ℕ
  values_after memory values op l = values_more memory (values l) (round_act op l)

  -- a place in a round, and on v lanes
  abbrev place_in : PlainExpr → ℕ → ℕ
  place_in place l = (sum_numbers place (round_at l) q).value

  abbrev place_on : PlainExpr → ℕ
  place_on place = (sum_numbers (widened v (length vs) place) (vs ++ b ∷ []) q).value

  module _ (to : Stored) (n : ℕ) (alone : p.lanes ≡ 1) (low : (r : ℕ) → r < n → f r < 3 * p.regs)
      (apart : (r k : ℕ) → r < n → k < n → f r ≡ f k → r ≡ k) where
    abbrev IsWide : Local → Type 0
    IsWide s = 3 * p.regs * v ≤ length s.registers

    -- registers below the next are others
    others : (r next : ℕ) → r ≡ next → next < n → (k : ℕ) → k < next → f k ≢ f r
    others r next here inside k below e =
        let same = apart k r (omega (arith, below, inside)) (omega (arith, here, inside)) e in
        omega (arith, below, here, same)

    -- arithmetic
    arith_held : (act : Action) (s : Local) (values more : ℕ → List ℕ) (r next : ℕ) (x : ℕ → ℕ) →
        r ≡ next → next < n → IsArithmetic v (3 * p.regs) act → IsWide s → AreHeld v f s.registers values next →
        ((l : ℕ) → l < v →
        lane_effect p.modulus l act (lane_of v s.registers l) ≡ with_register (lane_of v s.registers l) (f r) (x l)) →
        ((l : ℕ) → l < v → more l ≡ values l ++ x l ∷ []) →
        AreHeld v f (effect p.modulus v act s).registers more (next + 1)
    arith_held act s values more r next x here inside is room h does one =
        more_held v f s.registers (effect p.modulus v act s).registers values more r next x here
        (others r next here inside) h
        (λ l below. effect_by_lane p.modulus v (3 * p.regs) act s l is room below ∙ does l below) one

    -- products by a factor for each lane
    abbrev product_of : ℕ → ℕ → (ℕ → ℕ → ℕ) → ℕ → Action
    product_of r x own l = actions.Mul r x (lane_factors p.lanes (own l))

    product_put : (memory xs : List ℕ) (r x : ℕ) (factor : ℕ → ℕ) →
        values_more memory xs (actions.Mul r x (lane_factors p.lanes factor))
        ≡ xs ++ product_mod p.modulus (slice_index xs x) (factor 0) ∷ []
    product_put memory xs r x factor =
        ap (λ n. values_more memory xs (actions.Mul r x (lane_factors n factor))) alone
        ∙ one_put (λ k. product_mod p.modulus k (factor 0)) xs x

    product_held : (memory : List ℕ) (s : Local) (values : ℕ → List ℕ) (r x next : ℕ)
        (wide : ℕ → ℕ) (own : ℕ → ℕ → ℕ) → r ≡ next → x < next → next < n → IsWide s →
        AreHeld v f s.registers values next →
        ((l : ℕ) → l < v → wide l ≡ own l 0) →
        AreHeld v f (effect p.modulus v (actions.Mul (f r) (f x) (lane_factors v wide)) s).registers
        (λ l. values_more memory (values l) (product_of r x own l)) (next + 1)
    product_held memory s values r x next wide own here lower inside room h same =
        arith_held (actions.Mul (f r) (f x) (lane_factors v wide)) s values
        (λ l. values_more memory (values l) (product_of r x own l)) r next
        (λ l. product_mod p.modulus (slice_index (values l) x) (own l 0)) here inside
        (low r (omega (arith, here, inside)), low x (omega (arith, lower, inside)), factors_each v wide) room h
        (λ l below.
        ap₂ (λ c d. with_register (lane_of v s.registers l) (f r) (product_mod p.modulus c d))
        (h.held x l lower below) (factor_at v wide l below ∙ same l below))
        (λ l below. product_put memory (values l) r x (own l))

    -- a load of words one after the other
    load_held : (memory : List ℕ) (s : Local) (values : ℕ → List ℕ) (r next first : ℕ) (at : ℕ → ℕ) →
        r ≡ next → next < n → IsWide s → ((l : ℕ) → l < v → at l ≡ first + l) →
        ((l : ℕ) → l < v → slice_index s.memory (at l) ≡ slice_index memory (at l)) →
        AreHeld v f s.registers values next →
        AreHeld v f (effect p.modulus v (actions.Load (f r) first) s).registers
        (λ l. values l ++ slice_index memory (at l) ∷ []) (next + 1)
    load_held memory s values r next first at here inside room is same h =
        more_held v f s.registers (effect p.modulus v (actions.Load (f r) first) s).registers values
        (λ l. values l ++ slice_index memory (at l) ∷ []) r next (λ l. slice_index memory (at l)) here
        (others r next here inside) h
        (λ l below.
        load_by_lane p.modulus v (3 * p.regs) (f r) first s l (low r (omega (arith, here, inside))) room below
        ∙ ap (with_register (lane_of v s.registers l) (f r))
        (ap (slice_index s.memory) (sym (is l below)) ∙ same l below))
        (λ l below. refl)

    -- the words that a round loads are as they were
    abbrev pub LoadsSame : List ℕ → List ℕ → PlainOp → Type 0
    LoadsSame now memory op =
        (l k : ℕ) → l < v → Contains (loaded_words 1 (round_act op l)) k → slice_index now k ≡ slice_index memory k

    -- an operation that stores nothing
    pub op_held : (memory : List ℕ) (s : Local) (values : ℕ → List ℕ) (next : ℕ) (op : PlainOp) →
        is_store op ≡ false → is_fresh 1 next op ≡ true → is_by_lane (length vs) to op ≡ true → next < n → IsWide s →
        LoadsSame s.memory memory op → AreHeld v f s.registers values next →
        AreHeld v f (effect p.modulus v (wide_act op) s).registers (values_after memory values op) (next + 1)
    op_held memory s values next (Store array place r) puts fresh by_lane inside room same h = absurd (true≢false puts)
    op_held memory s values next (Tile r x) puts fresh by_lane inside room same h = wrong by_lane
    op_held memory s values next (Load r array place) puts fresh by_lane inside room same h =
        let two = both_true (not (same_array array to.array)) _ by_lane in
        let more = both_true (is_linear place) (place_stride (length vs) place == 1) two.1 in
        let start : ℕ = array_start (whole_lines p.size p.line) array in
        let one = eqb-true (place_stride (length vs) place) 1 more.1 in
        load_held memory s values r next (start + place_on place) (λ l. start + place_in place l)
        (eqb-true r next fresh) inside room
        (λ l below. one_on start (place_on place) l (place_in place l) _ one (wide_value v place vs b l q more.0))
        (λ l below. same l (start + place_in place l) below (Contains-head _ [])) h
      where
        one_on : (start first l value stride : ℕ) → stride ≡ 1 → value ≡ first + stride * l →
            start + value ≡ start + first + l
        one_on start first l value stride one is =
            let e : stride * l ≡ 1 * l = ap (λ s. s * l) one in omega (arith, is, e)
    op_held memory s values next (Zero r) puts fresh by_lane inside room same h =
        let here = eqb-true r next fresh in
        arith_held (actions.Zero (f r)) s values (values_after memory values (Zero r)) r next (λ l. 0) here inside
        (low r (omega (arith, here, inside))) room h (λ l below. refl) (λ l below. refl)
    op_held memory s values next (Add r x y) puts fresh by_lane inside room same h =
        let is = two-sources r next x y fresh in
        arith_held (actions.Add (f r) (f x) (f y)) s values (values_after memory values (Add r x y)) r next
        (λ l. sum_mod p.modulus (slice_index (values l) x) (slice_index (values l) y)) is.0 inside
        (low r (omega (arith, is.0, inside)), low x (omega (arith, is.1, inside)), low y (omega (arith, is.2, inside)))
        room h
        (λ l below.
        ap₂ (λ c d. with_register (lane_of v s.registers l) (f r) (sum_mod p.modulus c d))
        (h.held x l is.1 below) (h.held y l is.2 below))
        (λ l below. two_put (sum_mod p.modulus) (values l) x y)
    op_held memory s values next (Sub r x y) puts fresh by_lane inside room same h =
        let is = two-sources r next x y fresh in
        arith_held (actions.Sub (f r) (f x) (f y)) s values (values_after memory values (Sub r x y)) r next
        (λ l. difference_mod p.modulus (slice_index (values l) x) (slice_index (values l) y)) is.0 inside
        (low r (omega (arith, is.0, inside)), low x (omega (arith, is.1, inside)), low y (omega (arith, is.2, inside)))
        room h
        (λ l below.
        ap₂ (λ c d. with_register (lane_of v s.registers l) (f r) (difference_mod p.modulus c d))
        (h.held x l is.1 below) (h.held y l is.2 below))
        (λ l below. two_put (difference_mod p.modulus) (values l) x y)
    op_held memory s values next (Neg r x) puts fresh by_lane inside room same h =
        let is = one-source r next x fresh in
        arith_held (actions.Neg (f r) (f x)) s values (values_after memory values (Neg r x)) r next
        (λ l. negation_mod p.modulus (slice_index (values l) x)) is.0 inside
        (low r (omega (arith, is.0, inside)), low x (omega (arith, is.1, inside))) room h
        (λ l below.
        ap (λ c. with_register (lane_of v s.registers l) (f r) (negation_mod p.modulus c)) (h.held x l is.1 below))
        (λ l below. one_put (negation_mod p.modulus) (values l) x)
    op_held memory s values next (MulConst r x factor) puts fresh by_lane inside room same h =
        let is = one-source r next x fresh in
        product_held memory s values r x next (λ lane. factor) (λ l lane. factor) is.0 is.1 inside room h
        (λ l below. refl)
    op_held memory s values next (MulTable r x table place step) puts fresh by_lane inside room same h =
        let is = one-source r next x fresh in
        let two = both_true (is_linear place) _ by_lane in
        let entries : List ℕ = slice_index_or p.tables table [] in
        product_held memory s values r x next
        (λ lane. slice_index entries (place_on place + place_stride (length vs) place * lane))
        (λ l lane. slice_index entries (place_in place l + step * lane)) is.0 is.1 inside room h
        (λ l below. ap (slice_index entries) (sym (wide_value v place vs b l q two.0) ∙ none_more _ step))
      where
        none_more : (a c : ℕ) → a ≡ a + c * 0
        none_more a c = omega arith

  -- ---- operations that store nothing

  pub kept_op : (op : PlainOp) (s : Local) → is_store op ≡ false → memory_after v (wide_act op) s ≡ s.memory
  kept_op (Store array place r) s puts = absurd (true≢false puts)
  kept_op op s puts = refl

  -- the actions in round l, and on v lanes
  abbrev pub round_acts : List PlainOp → ℕ → List Action
  round_acts ops l = actions_of (steps_at p ops (round_at l) q)

  abbrev pub wide_acts : List PlainOp → List Action
  wide_acts ops = actions_of (steps_at (on_lanes v p) (in_lanes v (length vs) f ops) (vs ++ b ∷ []) q)

  -- the values of round l after operations
  abbrev pub values_behind : List ℕ → (ℕ → List ℕ) → List PlainOp → ℕ → List ℕ
  values_behind memory values ops l = values_put p.modulus memory (values l) (round_acts ops l)

  abbrev behind : List PlainOp → Local → Local
  behind ops s = effects p.modulus v (wide_acts ops) s

  module _ (to : Stored) (n : ℕ) (alone : p.lanes ≡ 1) (low : (r : ℕ) → r < n → f r < 3 * p.regs)
      (apart : (r k : ℕ) → r < n → k < n → f r ≡ f k → r ≡ k) where
    pub front_from : (memory : List ℕ) (s : Local) (values : ℕ → List ℕ) (next : ℕ) (ops : List PlainOp) →
        are_fresh 1 next (straight ops) ≡ true → list_all (is_by_lane (length vs) to) ops ≡ true →
        list_all (λ op. not (is_store op)) ops ≡ true → next + length ops ≤ n →
        3 * p.regs * v ≤ length s.registers → s.memory ≡ memory → AreHeld v f s.registers values next →
        ((behind ops s).memory ≡ memory)
        × AreHeld v f (behind ops s).registers (values_behind memory values ops) (next + length ops)
    front_from memory s values next [] fresh by_lane puts inside room is h =
        (is, subst (AreHeld v f s.registers values) (none next) h)
      where
        none : (n : ℕ) → n ≡ n + 0
        none n = omega arith
    front_from memory s values next (op ∷ ops) fresh by_lane puts inside room is h =
        let two = both_true (is_fresh 1 next op) _ fresh in
        let lanes = both_true (is_by_lane (length vs) to op) _ by_lane in
        let first = both_true (not (is_store op)) _ puts in
        let put : is_store op ≡ false = not-true (is_store op) first.0 in
        let after : Local = effect p.modulus v (wide_act op) s in
        let long = length-registers_after p.modulus v (wide_act op) s in
        let rest = front_from memory after (values_after memory values op) (next + 1) ops
        (subst (λ k. are_fresh 1 k (straight ops) ≡ true) (put_next next op put) two.1) lanes.1 first.1
        (omega (arith, inside)) (omega (arith, room, long)) (kept_op op s put ∙ is)
        (op_held to n alone low apart memory s values next op put two.0 lanes.0 (omega (arith, inside)) room
        (λ l k below has. ap (λ ws. slice_index ws k) is) h) in (
          rest.0,
          subst (AreHeld v f (behind ops after).registers (values_behind memory values (op ∷ ops)))
              (one_more next (length ops)) rest.1,
        )
      where
        one_more : (a c : ℕ) → a + 1 + c ≡ a + suc c
        one_more a c = omega arith

-- operations that store nothing leave the memory, and in each lane what they put in its round
pub front_held : (v : ℕ) (p : PlainProgram) (to : Stored) (f : ℕ → ℕ) (front : List PlainOp) (vs : List ℕ) (b q : ℕ)
    (s : Local) → IsFront p (length vs) to f front → 3 * p.regs * v ≤ length s.registers →
    HoldsBy v p f (in_lanes v (length vs) f front) front vs b q s
front_held v p to f front vs b q s h room =
    let all = front_from v p f vs b q to (length front) h.alone h.low h.apart s.memory s (λ l. []) 0 front
    h.fresh h.by_lane h.puts (omega arith) room refl
    (record { long = λ l below. refl; held = λ r l below under. absurd (omega (arith, below)) }) in
    let whole : 0 + length front ≡ length front = omega arith in
    record {
      memory = all.0;
      registers = subst (AreHeld v f _ (values_in v p s.memory front vs b q)) whole all.1;
    }
