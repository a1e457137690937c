-- A product by an entry of the table, the two products that it becomes, and statements of such products.
use Rattle.nests.proofs.Bools.{four_true, three_true}
use Rattle.std.proofs.Common.{◌≡◌, ℕ, ◌+◌, ◌*◌, ◌<◌, ◌≤◌, List, [], ◌++◌, All, flat_map, length, refl, sym, ap, ap₂}
use Rattle.std.proofs.Common.{◌∙◌, subst, arith, length-append, ◌≢◌, zero, suc, ◌-◌, ◌/◌, ◌%◌, ◌^◌, true, ◌∷◌}
use Rattle.std.proofs.Common.{eqb-true, ltb-true, leb-true, mul-le-mul_left, append-nil, append_assoc}
use Rattle.std.specs.List.{range_with_len, list_all}
use Rattle.std.proofs.lemmas.List.Concat.{flat_map-append}
use Rattle.std.proofs.lemmas.List.Elements.{All-append, All-nil, All-cons, All-head}
use Rattle.icode.specs.declared.action.Action.{Action}
use Rattle.icode.specs.declared.action.Action.TheVariants.{Mul}
use Rattle.icode.specs.Actions.{Step, StepFits, actions_of, RegistersFit, step_of, lane_factors, steps_of_stmt}
use Rattle.icode.specs.Actions.{steps_of_body}
use Rattle.icode.specs.Machine.{Local, effects}
use Rattle.icode.specs.Plain.{PlainProgram, PlainExpr, PlainOp, MulTable, PlainStmt, PlainBody, Loop, Do, NoStmts}
use Rattle.icode.specs.Plain.{AndStmts}
use Rattle.icode.proofs.Phase.{effects-append}
use Rattle.nests.proofs.Rows.{actions_of-append, factors_each, factors_fit, factor_at}
use Rattle.nests.proofs.Swaps.{in-loops}
use Rattle.two_tables.proofs.Registers.{AreLike, like_after, like_products}
use Rattle.std.specs.Prelude.{slice_index, slice_index_or, slice_set, nat_lt, nat_le}
use Rattle.std.proofs.Math.Seq.{get_or-append_seam}
use Rattle.std.proofs.lemmas.List.{get_or_append_left, get_or-set_same, get_or-set_other, length-set}
use Rattle.ring_mod.specs.Residue.{product_mod}
use Rattle.icode.specs.Expression.{sum_numbers}
use Rattle.icode.specs.Limits.{is_small_positive, is_small}
use Rattle.icode.proofs.Bools.{both_true}
use Rattle.two_tables.specs.Factors.{Cut, first_factor, second_factor, first_place, second_place, is_cut}
use Rattle.two_tables.specs.Places.{is_even, place_in_first, place_in_second}
use Rattle.two_tables.specs.Factored.{has_room, is_usable, is_cut_well, can_split, in_factors, is_body_even, is_short}
use Rattle.two_tables.specs.Factored.{Split, split_at, factored_op, two_products, put_before, factored_stmt}
use Rattle.two_tables.specs.Factored.{factored_body, is_op_even, is_stmt_even}
use Rattle.two_tables.proofs.Cutting.{IsInBlock, in_block, AreFactors, IsProduct, walked, table_small}
use Rattle.nests.proofs.Listed.{is-there, all-left, all-right, all-in-loop}
use Rattle.two_tables.proofs.Within.{place_even, first_value, first_peak, second_value, second_peak}
use Rattle.nests.proofs.Linear.{by_equal, chosen}
use Rattle.icode.specs.declared.action.Action.TheVariants as actions

-- words of actions that products have none of
abbrev pub IsOfOthers : (Action → List ℕ) → Type 0
IsOfOthers f = (r x : ℕ) (factors : List ℕ) → f (Mul r x factors) ≡ []

module _ (p q : PlainProgram) where
  -- the steps of q are for those of p
  pub record AreFor (there here : List Step) : Type 0 where
    pub fits : All (StepFits q) there
    pub few : length there ≤ 2 * length here
    pub like : (s t : Local) → AreLike p.modulus p.lanes p.regs s t →
        AreLike p.modulus p.lanes p.regs (effects p.modulus p.lanes (actions_of here) s)
        (effects p.modulus p.lanes (actions_of there) t)
    pub words : (f : Action → List ℕ) → IsOfOthers f → flat_map f (actions_of there) ≡ flat_map f (actions_of here)

  pub for-none : AreFor [] []
  for-none = record { fits = All-nil (StepFits q); few = omega arith; like = λ s t like. like; words = λ f others. refl }

  pub for-append : (a b c d : List Step) → AreFor a b → AreFor c d → AreFor (a ++ c) (b ++ d)
  for-append a b c d h k =
      record {
        fits = All-append (StepFits q) a c h.fits k.fits;
        few = let x = h.few in let y = k.few in omega (arith, x, y, length-append a c, length-append b d);
        like = λ s t like.
            subst (λ z. AreLike p.modulus p.lanes p.regs z (effects p.modulus p.lanes (actions_of (a ++ c)) t))
            (sym (ap (λ xs. effects p.modulus p.lanes xs s) (actions_of-append b d) ∙ effects-append p.modulus p.lanes (actions_of b) (actions_of d) s))
            (subst (AreLike p.modulus p.lanes p.regs (effects p.modulus p.lanes (actions_of d) (effects p.modulus p.lanes (actions_of b) s)))
            (sym (ap (λ xs. effects p.modulus p.lanes xs t) (actions_of-append a c) ∙ effects-append p.modulus p.lanes (actions_of a) (actions_of c) t))
            (k.like (effects p.modulus p.lanes (actions_of b) s) (effects p.modulus p.lanes (actions_of a) t) (h.like s t like)));
        words = λ f others.
            ap (flat_map f) (actions_of-append a c)
            ∙ (flat_map-append f (actions_of a) (actions_of c)
            ∙ (ap₂ (λ xs ys. xs ++ ys) (h.words f others) (k.words f others)
            ∙ (sym (flat_map-append f (actions_of b) (actions_of d)) ∙ ap (flat_map f) (sym (actions_of-append b d)))));
      }

  pub for-loop : (f g : ℕ → List Step) (a n : ℕ) → ((i : ℕ) → a ≤ i → i < a + n → AreFor (f i) (g i)) →
      AreFor (flat_map f (range_with_len a n)) (flat_map g (range_with_len a n))
  for-loop = in-loops AreFor for-none for-append

-- ---- one more register

more_registers : (regs lanes : ℕ) (a : Action) → RegistersFit regs lanes a → RegistersFit (regs + 1) lanes a
more_registers regs lanes (actions.Load r address) h = omega (arith, h)
more_registers regs lanes (actions.Store address r) h = omega (arith, h)
more_registers regs lanes (actions.Zero r) h = omega (arith, h)
more_registers regs lanes (actions.Add r x y) h = (omega (arith, h.0), omega (arith, h.1), omega (arith, h.2))
more_registers regs lanes (actions.Sub r x y) h = (omega (arith, h.0), omega (arith, h.1), omega (arith, h.2))
more_registers regs lanes (actions.Neg r x) h = (omega (arith, h.0), omega (arith, h.1))
more_registers regs lanes (actions.Mul r x factors) h = (omega (arith, h.0), omega (arith, h.1))
more_registers regs lanes (actions.Tile r x) h = (omega (arith, h.0), omega (arith, h.1), h.2)

small_step : (step a b : ℕ) → step < 2 → a ≤ b → step * a ≤ b
small_step zero a b low le = omega arith
small_step (suc zero) a b low le = omega (arith, le)
small_step (suc (suc step)) a b low le = absurd (omega (arith, low))

-- ---- a program that can be split

-- what the test of a program tells
pub record IsUsable (p : PlainProgram) (table : ℕ) (cut : Cut) : Type 0 where
  pub lanes : 1 < p.lanes
  pub regs : p.regs + 1 < 2 ^ 20
  pub tables : is_small (length p.tables) ≡ true
  pub procs : p.procs ≤ 16
  pub phases : length p.phases ≤ 64
  pub short : list_all is_short p.phases ≡ true
  pub width : is_small_positive cut.width ≡ true
  pub across : is_small_positive cut.across ≡ true
  pub whole : cut.width % p.lanes ≡ 0
  pub even : list_all (is_body_even p.lanes table) p.phases ≡ true

pub what_is_usable : (p : PlainProgram) (table : ℕ) (cut : Cut) → is_usable p table cut ≡ true → IsUsable p table cut
what_is_usable p table cut usable =
    let all = both_true (has_room p) _ usable in
    let c = four_true (nat_lt 1 p.lanes) (nat_lt (p.regs + 1) (2 ^ 20)) (is_small (length p.tables)) _ all.0 in
    let e = three_true (nat_le p.procs 16) (nat_le (length p.phases) 64) (list_all is_short p.phases) c.3 in
    let f = both_true (is_cut p.lanes cut) (list_all (is_body_even p.lanes table) p.phases) all.1 in
    let h = three_true (is_small_positive cut.width) (is_small_positive cut.across) _ f.0 in
    record {
      lanes = ltb-true 1 p.lanes c.0;
      regs = ltb-true (p.regs + 1) (2 ^ 20) c.1;
      tables = c.2;
      procs = leb-true p.procs 16 e.0;
      phases = leb-true (length p.phases) 64 e.1;
      short = e.2;
      width = h.0;
      across = h.1;
      whole = eqb-true (cut.width % p.lanes) 0 h.2;
      even = f.1;
    }

pub positive : (n : ℕ) → is_small_positive n ≡ true → 0 < n
positive n h = ltb-true 0 n (both_true (nat_lt 0 n) (is_small n) h).0

pub record IsSplit (p : PlainProgram) (table : ℕ) (cut : Cut) : Type 0 where
  pub usable : IsUsable p table cut
  pub factors : let entries = slice_index_or p.tables table [] in
      AreFactors p.modulus cut (first_factor cut entries) (second_factor cut entries) entries

pub what_splits : (p : PlainProgram) (table : ℕ) (cut : Cut) → can_split p table cut ≡ true → IsSplit p table cut
what_splits p table cut can =
    let entries : List ℕ = slice_index_or p.tables table [] in
    let both = both_true (is_usable p table cut) (is_cut_well p table cut) can in
    record {
      usable = what_is_usable p table cut both.0;
      factors = walked p.modulus cut (first_factor cut entries) (second_factor cut entries) entries both.1;
    }

module _ (p : PlainProgram) (table : ℕ) (cut : Cut) (is : IsSplit p table cut) where
  abbrev q : PlainProgram
  q = in_factors p table cut

  abbrev entries : List ℕ
  entries = slice_index_or p.tables table []

  abbrev first : List ℕ
  first = first_factor cut entries

  abbrev second : List ℕ
  second = second_factor cut entries

  -- ---- steps that stay

  kept : (s : Step) → StepFits p s → AreFor p q (s ∷ []) (s ∷ [])
  kept s fit =
      record {
        fits = All-cons (StepFits q) s []
            (record { numbers = fit.numbers; place = fit.place; registers = more_registers p.regs p.lanes s.action fit.registers; factors = fit.factors })
            (All-nil (StepFits q));
        few = omega arith;
        like = λ a b like. like_after p.modulus p.lanes p.regs s.action a b fit.registers like;
        words = λ f others. refl;
      }

  kept_as : (s t : Step) → t ≡ s → StepFits p s → AreFor p q (t ∷ []) (s ∷ [])
  kept_as s t e fit = subst (λ z. AreFor p q (z ∷ []) (s ∷ [])) (sym e) (kept s fit)

  -- another table is as it was
  other_table : (of : ℕ) → of ≢ table → of < length p.tables →
      slice_index_or q.tables of [] ≡ slice_index_or p.tables of []
  other_table of ne lt =
      let size = length-set p.tables table first in
      get_or_append_left (slice_set p.tables table first) (second ∷ []) [] of (omega (arith, size, lt))
      ∙ get_or-set_other p.tables table of first [] ne

  pub other_product : (r x of : ℕ) (place : PlainExpr) (step : ℕ) (vs : List ℕ) (i : ℕ) → of ≢ table →
      StepFits p (step_of p (MulTable r x of place step) vs i) →
      AreFor p q (step_of q (MulTable r x of place step) vs i ∷ []) (step_of p (MulTable r x of place step) vs i ∷ [])
  other_product r x of place step vs i ne fit =
      let reach = fit.place in
      let same = other_table of ne (is-there p.tables of (omega (arith, reach))) in
      let at = sum_numbers place vs i in
      let with_entries : List ℕ → Step = λ es.
      record {
        action = actions.Mul r x (lane_factors p.lanes (λ lane. slice_index es (at.value + step * lane)));
        peak = at.peak;
        reach = at.value + step * (p.lanes - 1) + 1;
        room = length es;
      } in
      kept_as (step_of p (MulTable r x of place step) vs i) (step_of q (MulTable r x of place step) vs i) (ap with_entries same) fit

  pub other_step : (op : PlainOp) (vs : List ℕ) (i : ℕ) → step_of q op vs i ≡ step_of p op vs i →
      StepFits p (step_of p op vs i) →
      AreFor p q (step_of q op vs i ∷ []) (step_of p op vs i ∷ [])
  other_step op vs i e fit = kept_as (step_of p op vs i) (step_of q op vs i) e fit

  -- ---- two products in place of one

  module _ (r x : ℕ) (place : PlainExpr) (step : ℕ) (vs : List ℕ) (i : ℕ) (low : step < 2) (even : is_even p.lanes place ≡ true)
      (fit : StepFits p (step_of p (MulTable r x table place step) vs i)) where
    abbrev at : ℕ
    at = (sum_numbers place vs i).value

    some : table < length p.tables
    some = let reach = fit.place in is-there p.tables table (omega (arith, reach))

    in_first : slice_index_or q.tables table [] ≡ first
    in_first =
        let size = length-set p.tables table first in
        get_or_append_left (slice_set p.tables table first) (second ∷ []) [] table (omega (arith, size, some))
        ∙ get_or-set_same p.tables table first [] some

    in_second : slice_index_or q.tables (length p.tables) [] ≡ second
    in_second =
        ap (λ n. slice_index_or q.tables n []) (sym (length-set p.tables table first))
        ∙ get_or-append_seam (slice_set p.tables table first) second [] []

    -- the entry of a lane
    lane_low : (lane : ℕ) → lane < p.lanes → step * lane < p.lanes
    lane_low lane lt = let a = small_step step lane (p.lanes - 1) low (omega (arith, lt)) in omega (arith, a, lt)

    lane_in : (lane : ℕ) → lane < p.lanes → at + step * lane < length entries
    lane_in lane lt =
        let le : lane ≤ p.lanes - 1 = omega (arith, lt) in
        let a = mul-le-mul_left step le in
        let reach = fit.place in
        omega (arith, a, reach)

    block : (lane : ℕ) → lane < p.lanes → IsInBlock cut.width at (step * lane)
    block lane lt =
        let many = is.usable.lanes in
        in_block cut.width p.lanes at (step * lane) (omega (arith, many)) (positive cut.width is.usable.width) (place_even p.lanes place vs i even) is.usable.whole (lane_low lane lt)

    product : (lane : ℕ) → lane < p.lanes → IsProduct p.modulus cut first second entries (at + step * lane)
    product lane lt = is.factors.each (at + step * lane) (lane_in lane lt)

    abbrev at_first : ℕ
    at_first = (sum_numbers (place_in_first cut place) vs i).value

    abbrev at_second : ℕ
    at_second = (sum_numbers (place_in_second cut place) vs i).value

    first_is : (lane : ℕ) → lane < p.lanes → at_first ≡ first_place cut (at + step * lane)
    first_is lane lt = first_value cut place vs i ∙ sym (block lane lt).block

    second_is : (lane : ℕ) → lane < p.lanes → at_second + step * lane ≡ second_place cut (at + step * lane)
    second_is lane lt =
        let b = block lane lt in
        let rows : (at + step * lane) / cut.width / cut.across * cut.width ≡ at / cut.width / cut.across * cut.width = ap (λ n. n / cut.across * cut.width) b.block in
        let there = b.place in
        let value = second_value cut place vs i in
        omega (arith, rows, there, value)

    abbrev one : Step
    one = step_of q (MulTable p.regs x table (place_in_first cut place) 0) vs i

    abbrev two : Step
    two = step_of q (MulTable r p.regs (length p.tables) (place_in_second cut place) step) vs i

    abbrev factors_one : ℕ → ℕ
    factors_one lane = slice_index (slice_index_or q.tables table []) (at_first + 0 * lane)

    abbrev factors_two : ℕ → ℕ
    factors_two lane = slice_index (slice_index_or q.tables (length p.tables) []) (at_second + step * lane)

    abbrev factors_of : ℕ → ℕ
    factors_of lane = slice_index entries (at + step * lane)

    last : p.lanes - 1 < p.lanes
    last = let many = is.usable.lanes in omega (arith, many)

    one_fits : StepFits q one
    one_fits =
        let peak = first_peak cut place vs i in
        let whole = fit.numbers in
        let there = (product (p.lanes - 1) last).first_there in
        let here = first_is (p.lanes - 1) last in
        let size = ap (λ (es : List ℕ). length es) in_first in
        record {
          numbers = omega (arith, peak, whole);
          place = omega (arith, there, here, size);
          registers = let fits = fit.registers in (omega arith, omega (arith, fits.1));
          factors = factors_fit p.modulus p.lanes factors_one is.factors.some
              (λ lane lt. subst (λ es. slice_index es (at_first + 0 * lane) < p.modulus) (sym in_first) (table_small p.modulus first (at_first + 0 * lane) is.factors.first_small));
        }

    two_fits : StepFits q two
    two_fits =
        let peak = second_peak cut place vs i in
        let whole = fit.numbers in
        let there = (product (p.lanes - 1) last).second_there in
        let here = second_is (p.lanes - 1) last in
        let size = ap (λ (es : List ℕ). length es) in_second in
        record {
          numbers = omega (arith, peak, whole);
          place = omega (arith, there, here, size);
          registers = let fits = fit.registers in (omega (arith, fits.0), omega arith);
          factors = factors_fit p.modulus p.lanes factors_two is.factors.some
              (λ lane lt. subst (λ es. slice_index es (at_second + step * lane) < p.modulus) (sym in_second) (table_small p.modulus second (at_second + step * lane) is.factors.second_small));
        }

    each : (lane : ℕ) → lane < p.lanes →
        product_mod p.modulus (slice_index (lane_factors p.lanes factors_one) lane)
        (slice_index (lane_factors p.lanes factors_two) lane)
        ≡ slice_index (lane_factors p.lanes factors_of) lane
    each lane lt =
        let left : at_first + 0 * lane ≡ first_place cut (at + step * lane) = let e = first_is lane lt in omega (arith, e) in
        ap₂ (product_mod p.modulus)
        (factor_at p.lanes factors_one lane lt ∙ ap₂ (λ es k. slice_index es k) in_first left)
        (factor_at p.lanes factors_two lane lt ∙ ap₂ (λ es k. slice_index es k) in_second (second_is lane lt))
        ∙ (product lane lt).product
        ∙ sym (factor_at p.lanes factors_of lane lt)

    pub products : AreFor p q (one ∷ two ∷ []) (step_of p (MulTable r x table place step) vs i ∷ [])
    products =
        record {
          fits = All-cons (StepFits q) one (two ∷ []) one_fits (All-cons (StepFits q) two [] two_fits (All-nil (StepFits q)));
          few = omega arith;
          like = λ s t like.
              like_products p.modulus p.lanes p.regs r x (lane_factors p.lanes factors_one) (lane_factors p.lanes factors_two) (lane_factors p.lanes factors_of) s t
              (let fits = fit.registers in fits.1) (factors_each p.lanes factors_one) (factors_each p.lanes factors_two) (factors_each p.lanes factors_of) each like;
          words = λ f others.
              ap (λ xs. xs ++ (f two.action ++ [])) (others p.regs x (lane_factors p.lanes factors_one))
              ∙ (ap (λ xs. xs ++ []) (others r p.regs (lane_factors p.lanes factors_two))
              ∙ sym (ap (λ xs. xs ++ []) (others r x (lane_factors p.lanes factors_of))));
        }

-- ---- statements where a table is in two factors: their steps are for those of the statements

-- the steps of statements, one after another
abbrev steps_of_all : PlainProgram → List PlainStmt → List ℕ → ℕ → List Step
steps_of_all p [] vs i = []
steps_of_all p (stmt ∷ stmts) vs i = steps_of_stmt p stmt vs i ++ steps_of_all p stmts vs i

steps_before : (p : PlainProgram) (stmts : List PlainStmt) (body : PlainBody) (vs : List ℕ) (i : ℕ) →
    steps_of_body p (put_before stmts body) vs i ≡ steps_of_all p stmts vs i ++ steps_of_body p body vs i
steps_before p [] body vs i = refl
steps_before p (stmt ∷ stmts) body vs i =
    ap (λ xs. steps_of_stmt p stmt vs i ++ xs) (steps_before p stmts body vs i)
    ∙ sym (append_assoc (steps_of_stmt p stmt vs i) (steps_of_all p stmts vs i) (steps_of_body p body vs i))

module _ (p : PlainProgram) (table : ℕ) (cut : Cut) (is : IsSplit p table cut) where
  abbrev there : PlainProgram
  there = in_factors p table cut

  abbrev split : Split
  split = split_at p table cut

  op-for : (op : PlainOp) (vs : List ℕ) (i : ℕ) → is_op_even p.lanes table op ≡ true → StepFits p (step_of p op vs i) →
      AreFor p there (steps_of_all there (factored_op split op) vs i) (step_of p op vs i ∷ [])
  op-for (MulTable r x of place step) vs i even fit =
      by_equal
      (λ stmts. AreFor p there (steps_of_all there stmts vs i) (step_of p (MulTable r x of place step) vs i ∷ [])) of table
      (two_products split (MulTable r x of place step)) (Do (MulTable r x of place step) ∷ [])
      (λ e.
      let h = both_true (nat_lt step 2) _ (sym (chosen of table _ true e) ∙ even) in
      subst (λ k. AreFor p there (steps_of_all there (two_products split (MulTable r x of place step)) vs i)
      (step_of p (MulTable r x k place step) vs i ∷ [])) (sym e)
      (products p table cut is r x place step vs i (ltb-true step 2 h.0) h.1
      (subst (λ k. StepFits p (step_of p (MulTable r x k place step) vs i)) e fit)))
      (λ other. other_product p table cut is r x of place step vs i other fit)
  op-for op vs i even fit = other_step p table cut is op vs i refl fit

  mutual
    stmt-for : (stmt : PlainStmt) (vs : List ℕ) (i : ℕ) → is_stmt_even p.lanes table stmt ≡ true →
        All (StepFits p) (steps_of_stmt p stmt vs i) →
        AreFor p there (steps_of_all there (factored_stmt split stmt) vs i) (steps_of_stmt p stmt vs i)
    stmt-for (Loop count body) vs i even fit =
        subst (λ xs. AreFor p there xs (flat_map (λ k. steps_of_body p body (vs ++ k ∷ []) i) (range_with_len 0 count)))
        (sym (append-nil (flat_map (λ k. steps_of_body there (factored_body split body) (vs ++ k ∷ []) i) (range_with_len 0 count))))
        (for-loop p there (λ k. steps_of_body there (factored_body split body) (vs ++ k ∷ []) i) (λ k. steps_of_body p body (vs ++ k ∷ []) i) 0 count
        (λ k low high. body-for body (vs ++ k ∷ []) i even (all-in-loop (StepFits p) (λ k. steps_of_body p body (vs ++ k ∷ []) i) 0 count k fit low high)))
    stmt-for (Do op) vs i even fit = op-for op vs i even (All-head (StepFits p) (step_of p op vs i) [] fit)

    pub body-for : (body : PlainBody) (vs : List ℕ) (i : ℕ) → is_body_even p.lanes table body ≡ true →
        All (StepFits p) (steps_of_body p body vs i) →
        AreFor p there (steps_of_body there (factored_body split body) vs i) (steps_of_body p body vs i)
    body-for NoStmts vs i even fit = for-none p there
    body-for (AndStmts stmt rest) vs i even fit =
        let two = both_true (is_stmt_even p.lanes table stmt) (is_body_even p.lanes table rest) even in
        subst (λ xs. AreFor p there xs (steps_of_stmt p stmt vs i ++ steps_of_body p rest vs i))
        (sym (steps_before there (factored_stmt split stmt) (factored_body split rest) vs i))
        (for-append p there (steps_of_all there (factored_stmt split stmt) vs i) (steps_of_stmt p stmt vs i) (steps_of_body there (factored_body split rest) vs i) (steps_of_body p rest vs i)
        (stmt-for stmt vs i two.0 (all-left (StepFits p) (steps_of_stmt p stmt vs i) (steps_of_body p rest vs i) fit))
        (body-for rest vs i two.1 (all-right (StepFits p) (steps_of_stmt p stmt vs i) (steps_of_body p rest vs i) fit)))
