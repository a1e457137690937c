-- Where words are fresh, a run among leftovers leaves what a run from the start leaves.
use Rattle.std.proofs.Common.{◌≡◌, ℕ, suc, ◌+◌, ◌*◌, ◌<◌, ◌≤◌, List, [], ◌∷◌, ◌++◌, length, map, Option, Some, None}
use Rattle.std.proofs.Common.{refl, sym, ap, ap₂, ◌∙◌, subst, arith, ⊎_elim, Contains, inl, inr}
use Rattle.std.specs.Prelude.{slice_get, slice_index, slice_index_or}
use Rattle.std.specs.List.{range_with_len}
use Rattle.std.proofs.lemmas.Bool.{cases_eq}
use Rattle.std.proofs.lemmas.List.{length-replicate}
use Rattle.icode.specs.declared.action.Action.{Action}
use Rattle.icode.specs.declared.action.Action.TheVariants as actions
use Rattle.icode.specs.Fresh.{HasFactors, HaveFactors, IsFresh}
use Rattle.icode.specs.Leftovers.{Leftovers, AreLeftovers, start_among, with_files}
use Rattle.icode.specs.Machine.{Code, IsCode, State, Local, acts, start, completion, padded, words_at, with_words}
use Rattle.icode.specs.Machine.{lane_by_lane, register_of}
use Rattle.icode.specs.Plain.{PlainOp, Load, Store, Zero, Add, Sub, Neg, MulConst, MulTable, Tile}
use Rattle.icode.proofs.SequenceLemmas.Placing.{length-with_words, length-lane_by_lane, length-mapped}
use Rattle.icode.proofs.FreshActions.{SameRegister, ReadsSame, LeavesSame, same_register_of, apart_registers, tile_same}
use Rattle.icode.proofs.FreshActions.{tile_length, width_put, put_leaves_same, second_item}
use Rattle.icode.proofs.FreshCodes.{from_loop, from_both, from_one, contains_at, factors_wide, programs_have_factors}
use Rattle.icode.proofs.FreshRuns.{step_with, step, steps, steps_among, results_same}
use Rattle.icode.proofs.Lines.{Contains-head, Contains-nil, Contains-range}
use Rattle.icode.proofs.Lists.{code_is}
use Rattle.icode.proofs.Words.{words_at-agree, length-words_at, with_words-agree, with_words-other}
use Rattle.std.proofs.lemmas.Option.{slice_get-map}
use Rattle.std.specs.Prelude.{option_map}
use Rattle.word_code.specs.Bare.{bare}
use Rattle.word_code.specs.FreshWords.{word_turn_among, word_run_among, word_results_among, FreshWordsIgnoreLeftovers}
use Rattle.word_code.specs.declared.program.Reduction.{Reduction}
use Rattle.word_code.specs.Words.{Width, sums_of, wrapped_sum, wrapped_difference, biased_difference, lazy_product}
use Rattle.word_code.specs.Words.{reduced}
use Rattle.word_code.specs.WordMachine.{WordAction, WordCode, under, word_acts, word_put, word_effect, lane_by_three}
use Rattle.word_code.specs.WordMachine.{reduce_register, reduce_registers, word_turn_with, word_turn, word_run}
use Rattle.word_code.specs.WordMachine.{word_results}
use Rattle.word_code.specs.WordProgram.{Note, WordStmt, WordBody, PlainWordProgram, Loop, Do, NoStmts, AndStmts}
use Rattle.word_code.specs.WordProgram.{word_action_of, word_actions_of_stmt, word_actions_of_body}
use Rattle.word_code.specs.WordProgram.{word_code}
use Rattle.word_code.proofs.Bare.{code_under_is}
use Rattle.word_code.proofs.Rows.{lists_have}
use Rattle.word_code.proofs.Simulation.{acts_under}

-- ---- reductions

-- registers that were the same still are
reduce_same : (base lanes : ℕ) (r : Reduction) (xs ys : List ℕ) (p : ℕ) → SameRegister lanes p xs ys →
    SameRegister lanes p (reduce_register base lanes r xs) (reduce_register base lanes r ys)
reduce_same base lanes r xs ys p same =
    let made : List ℕ → List ℕ = λ zs. map (reduced base r.amount) (register_of lanes zs r.register) in
    let long : (zs : List ℕ) → length (made zs) ≡ lanes =
    λ zs. length-mapped (reduced base r.amount) (register_of lanes zs r.register) ∙ length-words_at lanes zs (r.register * lanes) in
    record {
      words = λ k low high. ⊎_elim
          (λ (here : p ≡ r.register).
          let value : made xs ≡ made ys = ap (map (reduced base r.amount)) (same_register_of lanes r.register xs ys (subst (λ p. SameRegister lanes p xs ys) here same)) in
          with_words-agree (made xs) xs ys (r.register * lanes) k (same.words k low high)
          ∙ ap (λ vs. slice_get (with_words ys (r.register * lanes) vs) k) value)
          (λ (other : p ≡ r.register → ⊥).
          let outside : r.register * lanes ≤ k → k < r.register * lanes + lanes → ⊥ = λ from to. apart_registers lanes p r.register k other low high from to in
          with_words-other (made xs) xs (r.register * lanes) k (λ from to. let e = long xs in outside from (omega (arith, to, e)))
          ∙ same.words k low high
          ∙ sym (with_words-other (made ys) ys (r.register * lanes) k (λ from to. let e = long ys in outside from (omega (arith, to, e)))))
          (cases_eq p r.register);
    }

reduce_all_same : (base lanes : ℕ) (rs : List Reduction) (xs ys : List ℕ) (p : ℕ) → SameRegister lanes p xs ys →
    SameRegister lanes p (reduce_registers base lanes rs xs) (reduce_registers base lanes rs ys)
reduce_all_same base lanes [] xs ys p same = same
reduce_all_same base lanes (r ∷ rs) xs ys p same =
    reduce_all_same base lanes rs (reduce_register base lanes r xs) (reduce_register base lanes r ys) p (reduce_same base lanes r xs ys p same)

reduce_long : (base lanes : ℕ) (rs : List Reduction) (xs : List ℕ) → length (reduce_registers base lanes rs xs) ≡ length xs
reduce_long base lanes [] xs = refl
reduce_long base lanes (r ∷ rs) xs =
    reduce_long base lanes rs (reduce_register base lanes r xs)
    ∙ length-with_words (map (reduced base r.amount) (register_of lanes xs r.register)) xs (r.register * lanes)

-- ---- what an action on words puts

length-by_three : (f : ℕ → ℕ → ℕ → ℕ) (xs ys zs : List ℕ) → length xs ≤ length ys → length xs ≤ length zs →
    length (lane_by_three f xs ys zs) ≡ length xs
length-by_three f [] ys zs h k = refl
length-by_three f (x ∷ xs) [] zs h k = absurd (omega (arith, h))
length-by_three f (x ∷ xs) (y ∷ ys) [] h k = absurd (omega (arith, k))
length-by_three f (x ∷ xs) (y ∷ ys) (z ∷ zs) h k = ap suc (length-by_three f xs ys zs (omega (arith, h)) (omega (arith, k)))

-- a product has a quotient for each lane
abbrev HasQuotients : ℕ → List ℕ → Action → Type 0
HasQuotients lanes quotients (actions.Load r address) = Unit {0}
HasQuotients lanes quotients (actions.Store address r) = Unit {0}
HasQuotients lanes quotients (actions.Zero r) = Unit {0}
HasQuotients lanes quotients (actions.Add r x y) = Unit {0}
HasQuotients lanes quotients (actions.Sub r x y) = Unit {0}
HasQuotients lanes quotients (actions.Neg r x) = Unit {0}
HasQuotients lanes quotients (actions.Mul r x factors) = lanes ≤ length quotients
HasQuotients lanes quotients (actions.Tile r x) = Unit {0}

module _ (w : Width) (m lanes bias : ℕ) (quotients : List ℕ) where
  put_same : (a : Action) (s t : Local) → ReadsSame lanes a s t → word_put w m lanes bias quotients a s ≡ word_put w m lanes bias quotients a t
  put_same (actions.Load r address) s t same =
      words_at-agree lanes s.memory t.memory address (λ k low high. same.loads k (Contains-range lanes address k low high))
  put_same (actions.Store address r) s t same = refl
  put_same (actions.Zero r) s t same = refl
  put_same (actions.Add r x y) s t same =
      ap₂ (lane_by_lane (wrapped_sum (sums_of w))) (same_register_of lanes x s.registers t.registers (same.reads x (Contains-head x (y ∷ []))))
      (same_register_of lanes y s.registers t.registers (same.reads y (second_item x y)))
  put_same (actions.Sub r x y) s t same =
      ap₂ (lane_by_lane (biased_difference (sums_of w) bias)) (same_register_of lanes x s.registers t.registers (same.reads x (Contains-head x (y ∷ []))))
      (same_register_of lanes y s.registers t.registers (same.reads y (second_item x y)))
  put_same (actions.Neg r x) s t same =
      ap (map (wrapped_difference (sums_of w) bias)) (same_register_of lanes x s.registers t.registers (same.reads x (Contains-head x [])))
  put_same (actions.Mul r x factors) s t same =
      ap (λ vs. lane_by_three (lazy_product w m) vs factors quotients) (same_register_of lanes x s.registers t.registers (same.reads x (Contains-head x [])))
  put_same (actions.Tile r x) s t same = tile_same lanes x s.registers t.registers same.reads

  put_wide : (a : Action) (s : Local) → HasFactors lanes a → HasQuotients lanes quotients a →
      width_put lanes a ≤ length (word_put w m lanes bias quotients a s)
  put_wide (actions.Load r address) s has too = let e = length-words_at lanes s.memory address in omega (arith, e)
  put_wide (actions.Store address r) s has too = omega arith
  put_wide (actions.Zero r) s has too = let e = length-replicate {A = ℕ} lanes 0 in omega (arith, e)
  put_wide (actions.Add r x y) s has too =
      let one = length-words_at lanes s.registers (x * lanes) in
      let other = length-words_at lanes s.registers (y * lanes) in
      let e = length-lane_by_lane (wrapped_sum (sums_of w)) (register_of lanes s.registers x) (register_of lanes s.registers y) (omega (arith, one, other)) in
      omega (arith, e, one)
  put_wide (actions.Sub r x y) s has too =
      let one = length-words_at lanes s.registers (x * lanes) in
      let other = length-words_at lanes s.registers (y * lanes) in
      let e = length-lane_by_lane (biased_difference (sums_of w) bias) (register_of lanes s.registers x) (register_of lanes s.registers y) (omega (arith, one, other)) in
      omega (arith, e, one)
  put_wide (actions.Neg r x) s has too =
      let one = length-words_at lanes s.registers (x * lanes) in
      let e = length-mapped (wrapped_difference (sums_of w) bias) (register_of lanes s.registers x) in
      omega (arith, e, one)
  put_wide (actions.Mul r x factors) s has too =
      let one = length-words_at lanes s.registers (x * lanes) in
      let e = length-by_three (lazy_product w m) (register_of lanes s.registers x) factors quotients (omega (arith, one, has)) (omega (arith, one, too)) in
      omega (arith, e, one)
  put_wide (actions.Tile r x) s has too = let e = tile_length lanes x s.registers in omega (arith, e)

word_leaves_same : (w : Width) (m lanes : ℕ) (f : WordAction) (s t : Local) → HasFactors lanes f.action →
    HasQuotients lanes f.quotients f.action → ReadsSame lanes f.action s t →
    LeavesSame lanes f.action s t (word_effect w m lanes f s) (word_effect w m lanes f t)
word_leaves_same w m lanes f s t has too same =
    let base : ℕ = sums_of w in
    let s1 : Local = record { memory = s.memory; registers = reduce_registers base lanes f.before s.registers } in
    let t1 : Local = record { memory = t.memory; registers = reduce_registers base lanes f.before t.registers } in
    let long : length s1.registers ≡ length s.registers = reduce_long base lanes f.before s.registers in
    let long_too : length t1.registers ≡ length t.registers = reduce_long base lanes f.before t.registers in
    let reads : ReadsSame lanes f.action s1 t1 =
    record {
      memory_long = same.memory_long;
      registers_long = long ∙ same.registers_long ∙ sym long_too;
      loads = same.loads;
      reads = λ r h. reduce_all_same base lanes f.before s.registers t.registers r (same.reads r h);
    } in
    let vs : List ℕ = word_put w m lanes f.bias f.quotients f.action s1 in
    let us : List ℕ = word_put w m lanes f.bias f.quotients f.action t1 in
    let put : LeavesSame lanes f.action s1 t1 (word_effect w m lanes f s) (word_effect w m lanes f t) =
    put_leaves_same lanes f.action s1 t1 vs us reads (put_same w m lanes f.bias f.quotients f.action s1 t1 reads)
    (put_wide w m lanes f.bias f.quotients f.action s1 has too) in
    record {
      memory_long = put.memory_long;
      memory_long_too = put.memory_long_too;
      registers_long = put.registers_long ∙ long;
      registers_long_too = put.registers_long_too ∙ long_too;
      words = put.words;
      files = λ r h. put.files r (⊎_elim
          (λ (before : SameRegister lanes r s.registers t.registers). inl (reduce_all_same base lanes f.before s.registers t.registers r before))
          (λ now. inr now)
          h);
    }

-- ---- programs on words

module _ (p : PlainWordProgram) where
  abbrev Has : WordAction → Type 0
  Has f = HasQuotients p.frame.lanes f.quotients f.action

  op_has : (note : Note) (op : PlainOp) (vs : List ℕ) (q : ℕ) → Has (word_action_of p note op vs q)
  op_has note (Load register array place) vs q = tt
  op_has note (Store array place register) vs q = tt
  op_has note (Zero register) vs q = tt
  op_has note (Add register left right) vs q = tt
  op_has note (Sub register left right) vs q = tt
  op_has note (Neg register source) vs q = tt
  op_has note (MulConst register source factor) vs q = factors_wide p.frame.lanes (λ lane. note.quotient)
  op_has note (MulTable register source table place step) vs q = factors_wide p.frame.lanes _
  op_has note (Tile register source) vs q = tt

  mutual
    stmt_has : (stmt : WordStmt) (vs : List ℕ) (q : ℕ) (f : WordAction) → Contains (word_actions_of_stmt p stmt vs q) f → Has f
    stmt_has (Loop count body) vs q f h =
        from_loop Has (λ i. word_actions_of_body p body (vs ++ i ∷ []) q) (range_with_len 0 count) (λ i. body_has body (vs ++ i ∷ []) q) f h
    stmt_has (Do note op) vs q f h = from_one Has (word_action_of p note op vs q) (op_has note op vs q) f h

    body_has : (body : WordBody) (vs : List ℕ) (q : ℕ) (f : WordAction) → Contains (word_actions_of_body p body vs q) f → Has f
    body_has NoStmts vs q f h = absurd (Contains-nil f h)
    body_has (AndStmts stmt rest) vs q f h =
        from_both Has (word_actions_of_stmt p stmt vs q) (word_actions_of_body p rest vs q) (stmt_has stmt vs q) (body_has rest vs q) f h

  abbrev wcode : WordCode
  wcode = word_code p

  abbrev code : Code
  code = under wcode

  is : IsCode code
  is = subst IsCode (sym (code_under_is p)) (code_is (bare p))

  have_factors : HaveFactors code
  have_factors = subst HaveFactors (sym (code_under_is p)) (programs_have_factors (bare p))

  have_quotients : (phase q : ℕ) (f : WordAction) → Contains (word_acts wcode phase q) f → Has f
  have_quotients =
      lists_have p (λ fs. (f : WordAction) → Contains fs f → Has f) (λ f h. absurd (Contains-nil f h))
      (λ phase q lt. body_has (slice_index_or p.phases phase NoStmts) [] q)

  abbrev eff : WordAction → Local → Local
  eff f s = word_effect wcode.width wcode.modulus wcode.lanes f s

  leaves : (phase q n : ℕ) (f : WordAction) → slice_get (word_acts wcode phase q) n ≡ Some f → (s t : Local) →
      ReadsSame code.lanes f.action s t → LeavesSame code.lanes f.action s t (eff f s) (eff f t)
  leaves phase q n f e s t same =
      let here : slice_get (acts code phase q) n ≡ Some f.action =
      ap (λ xs. slice_get xs n) (acts_under wcode phase q)
      ∙ slice_get-map (λ (f : WordAction). f.action) (word_acts wcode phase q) n
      ∙ ap (option_map (λ (f : WordAction). f.action)) e in
      word_leaves_same wcode.width wcode.modulus wcode.lanes f s t (have_factors phase q n f.action here)
      (have_quotients phase q f (contains_at (word_acts wcode phase q) n f e)) same

  abbrev action_of : WordAction → Action
  action_of f = f.action

  abbrev all_stepped : State → List ℕ → State
  all_stepped s turns = steps code is WordAction action_of (word_acts wcode) (acts_under wcode) eff s turns

  abbrev all_among : Leftovers → State → List ℕ → State
  all_among left s turns = steps_among code is WordAction action_of (word_acts wcode) (acts_under wcode) eff left s turns

  turn_is : (s : State) (q : ℕ) → step code is WordAction action_of (word_acts wcode) (acts_under wcode) eff s q ≡ word_turn wcode s q
  turn_is s q = of (slice_get (word_acts wcode s.phase q) (slice_index s.done q))
    where
      of : (o : Option WordAction) → step_with code is WordAction action_of (word_acts wcode) (acts_under wcode) eff q s o ≡ word_turn_with wcode q s o
      of None = refl
      of (Some f) = refl

  run_is : (turns : List ℕ) (s : State) → all_stepped s turns ≡ word_run wcode s turns
  run_is [] s = refl
  run_is (q ∷ turns) s = ap (λ t. all_stepped t turns) (turn_is s q) ∙ run_is turns (word_turn wcode s q)

  run_among_is : (left : Leftovers) (turns : List ℕ) (s : State) → all_among left s turns ≡ word_run_among wcode left s turns
  run_among_is left [] s = refl
  run_among_is left (q ∷ turns) s =
      ap (λ t. all_among left (with_files left s.phase t) turns) (turn_is s q)
      ∙ run_among_is left turns (word_turn_among wcode left s q)

  among_same : (left : Leftovers) → IsFresh code → AreLeftovers code left → (x turns : List ℕ) →
      length x ≡ p.frame.size → word_results_among wcode left x turns ≡ word_results wcode x turns
  among_same left fresh are x turns size =
      let s : State = start code x in
      let t : State = start_among code left x in
      let whole : State → State = λ s. word_run wcode s (completion code s) in
      let whole_among : State → State = λ t. word_run_among wcode left t (completion code t) in
      let one : all_stepped (all_stepped s turns) (completion code (all_stepped s turns)) ≡ whole (word_run wcode s turns) =
      run_is (completion code (all_stepped s turns)) (all_stepped s turns) ∙ ap whole (run_is turns s) in
      let other : all_among left (all_among left t turns) (completion code (all_among left t turns)) ≡ whole_among (word_run_among wcode left t turns) =
      run_among_is left (completion code (all_among left t turns)) (all_among left t turns) ∙ ap whole_among (run_among_is left turns t) in
      ap (λ (t : State). words_at code.size t.memory (padded code)) (sym other)
      ∙ results_same code is WordAction action_of (word_acts wcode) (acts_under wcode) eff leaves fresh left are x turns size
      ∙ ap (λ (s : State). words_at code.size s.memory (padded code)) one

pub fresh_words_ignore_leftovers : FreshWordsIgnoreLeftovers
fresh_words_ignore_leftovers words left fresh are x turns size = among_same words left fresh are x turns size
