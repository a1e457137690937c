-- Different rounds of loops one in the other are apart.
use Rattle.nests.proofs.Bools.{three_true}
use Rattle.std.proofs.Common.{◌≡◌, ◌≢◌, ◌⊎◌, ℕ, zero, suc, ◌<◌, List, [], ◌∷◌, ◌++◌, drop, length, refl, ap, ⊎_elim}
use Rattle.std.proofs.Common.{◌+◌, ◌*◌, ◌≤◌, true, sym, ap₂, ◌∙◌, arith, inl, inr, leb-true, mul-le-mul_left, false}
use Rattle.std.proofs.Common.{not, All, Contains, flat_map, true≢false}
use Rattle.std.specs.Prelude.{slice_index_or, slice_index, nat_le}
use Rattle.icode.specs.Sequences.Nests.{AreInRange}
use Rattle.std.proofs.lemmas.Bool.{cases_order, not-true}
use Rattle.icode.specs.Expression.{parts_numbers, sum_numbers}
use Rattle.icode.specs.Plain.{PlainParts, NoParts, AndParts, Proc, Var, PlainOp, PlainBody, PlainProgram, Sum, Load}
use Rattle.icode.specs.Plain.{Store, Loop, Do, NoStmts, AndStmts}
use Rattle.icode.proofs.Bools.{both_true}
use Rattle.nests.specs.Places.{are_linear, stride, is_linear}
use Rattle.nests.specs.Rounds.{are_nested, last_stride, Stored, same_array, is_placed, are_placed, are_apart}
use Rattle.nests.proofs.Linear.{wrong, chosen, passed, proc_first, from_least, stride_before, store_told}
use Rattle.std.proofs.lemmas.List.Elements.{All-head, All-tail, Contains-append_cases}
use Rattle.icode.specs.declared.action.Action.{Action}
use Rattle.icode.specs.declared.program.Array.{Array}
use Rattle.icode.specs.declared.program.Array.TheVariants.{X, Y, A, B}
use Rattle.icode.specs.Actions.{Step, StepFits, actions_of, array_start, step_of, steps_of_body}
use Rattle.icode.specs.Machine.{stored_words, whole_lines}
use Rattle.icode.proofs.Lines.{Contains-nil}
use Rattle.nests.proofs.Acts.{loaded_words, Loads, Stores, AreApart}
use Rattle.nests.proofs.Members.{range_item}

pub long_range : (bs vs : List ℕ) → AreInRange bs vs → length vs ≡ length bs
long_range [] [] h = refl
long_range [] (v ∷ vs) h = absurd h
long_range (b ∷ bs) [] h = absurd h
long_range (b ∷ bs) (v ∷ vs) h = ap suc (long_range bs vs h.1)

pub in_both : (bs cs vs us : List ℕ) → AreInRange bs vs → AreInRange cs us → AreInRange (bs ++ cs) (vs ++ us)
in_both [] cs [] us h k = k
in_both [] cs (v ∷ vs) us h k = absurd h
in_both (b ∷ bs) cs [] us h k = absurd h
in_both (b ∷ bs) cs (v ∷ vs) us h k = (h.0, in_both bs cs vs us h.1 k)

-- a value for one loop more
pub in_more : (bs vs : List ℕ) (count i : ℕ) → AreInRange bs vs → i < count →
    AreInRange (bs ++ count ∷ []) (vs ++ i ∷ [])
in_more bs vs count i h lt = in_both bs (count ∷ []) vs (i ∷ []) h (lt, tt)

-- the value at this depth and the next change places
abbrev pub turned : ℕ → List ℕ → List ℕ
turned zero [] = []
turned zero (j ∷ []) = j ∷ []
turned zero (j ∷ i ∷ us) = i ∷ j ∷ us
turned (suc n) [] = []
turned (suc n) (v ∷ us) = v ∷ turned n us

-- values of outer loops, of the two, and of inner loops
pub record AreSplit (depth : ℕ) (us : List ℕ) : Type 0 where
  pub before : List ℕ
  pub first : ℕ
  pub second : ℕ
  pub behind : List ℕ
  pub is : us ≡ before ++ first ∷ second ∷ behind
  pub turn : turned depth us ≡ before ++ second ∷ first ∷ behind
  pub long : length before ≡ depth

pub split_range : (bs : List ℕ) (first second : ℕ) (cs us : List ℕ) → AreInRange (bs ++ first ∷ second ∷ cs) us →
    AreSplit (length bs) us
split_range [] first second cs [] h = absurd h
split_range [] first second cs (j ∷ []) h = absurd h.1
split_range [] first second cs (j ∷ i ∷ us) h =
    record { before = []; first = j; second = i; behind = us; is = refl; turn = refl; long = refl }
split_range (b ∷ bs) first second cs [] h = absurd h
split_range (b ∷ bs) first second cs (v ∷ us) h =
    let rest = split_range bs first second cs us h.1 in
    record {
      before = v ∷ rest.before;
      first = rest.first;
      second = rest.second;
      behind = rest.behind;
      is = ap (λ (zs : List ℕ). v ∷ zs) rest.is;
      turn = ap (λ (zs : List ℕ). v ∷ zs) rest.turn;
      long = ap suc rest.long;
    }

-- what comes after the same values
pub same_behind : (vs us ws : List ℕ) → vs ++ us ≡ vs ++ ws → us ≡ ws
same_behind [] us ws e = e
same_behind (v ∷ vs) us ws e = same_behind vs us ws (ap (λ (zs : List ℕ). drop 1 zs) e)

pub others_behind : (vs : List ℕ) (i j k l : ℕ) (us ws : List ℕ) → (i ≢ k) ⊎ (j ≢ l) →
    vs ++ i ∷ j ∷ us ≢ vs ++ k ∷ l ∷ ws
others_behind vs i j k l us ws other e =
    let same = same_behind vs (i ∷ j ∷ us) (k ∷ l ∷ ws) e in
    ⊎_elim
    (λ (ne : i ≢ k). ne (ap (λ (zs : List ℕ). slice_index_or zs 0 0) same))
    (λ (ne : j ≢ l). ne (ap (λ (zs : List ℕ). slice_index_or zs 1 0) same))
    other

-- ---- values

-- what the values of loops from this depth on add to a linear place
abbrev pub added : ℕ → List ℕ → PlainParts → ℕ
added loop [] parts = 0
added loop (v ∷ vs) parts = v * stride loop parts + added (loop + 1) vs parts

added-none : (loop : ℕ) (vs : List ℕ) → added loop vs NoParts ≡ 0
added-none loop [] = refl
added-none loop (v ∷ vs) = let more = added-none (loop + 1) vs in omega (arith, more)

added-proc : (loop factor : ℕ) (vs : List ℕ) (rest : PlainParts) →
    added loop vs (AndParts (Proc factor) rest) ≡ added loop vs rest
added-proc loop factor [] rest = refl
added-proc loop factor (v ∷ vs) rest = ap (λ n. v * stride loop rest + n) (added-proc (loop + 1) factor vs rest)

-- a multiple of an outer loop adds nothing
added-outer : (loop depth factor : ℕ) (vs : List ℕ) (rest : PlainParts) → depth < loop →
    added loop vs (AndParts (Var depth factor) rest) ≡ added loop vs rest
added-outer loop depth factor [] rest before = refl
added-outer loop depth factor (v ∷ vs) rest before =
    ap₂ (λ s n. v * s + n)
    (passed depth loop factor (stride loop rest) (λ e. omega (arith, e, before)))
    (added-outer (loop + 1) depth factor vs rest (omega (arith, before)))

-- a multiple of one loop more
added-var : (loop depth k factor : ℕ) (vs : List ℕ) (rest : PlainParts) → depth ≡ loop + k → stride depth rest ≡ 0 →
    added loop vs (AndParts (Var depth factor) rest) ≡ slice_index vs k * factor + added loop vs rest
added-var loop depth k factor [] rest is none = omega arith
added-var loop depth zero factor (v ∷ vs) rest is none =
    let same : depth ≡ loop = omega (arith, is) in
    let here : stride loop rest ≡ 0 = ap (λ d. stride d rest) (sym same) ∙ none in
    ap₂ (λ s n. v * s + n)
    (chosen depth loop factor (stride loop rest) same)
    (added-outer (loop + 1) depth factor vs rest (omega (arith, same)))
    ∙ nothing (v * factor) v (added (loop + 1) vs rest)
    ∙ ap (λ s. v * factor + (v * s + added (loop + 1) vs rest)) (sym here)
  where
    nothing : (a b c : ℕ) → a + c ≡ a + (b * 0 + c)
    nothing a b c = omega arith
added-var loop depth (suc k) factor (v ∷ vs) rest is none =
    let more = added-var (loop + 1) depth k factor vs rest (omega (arith, is)) none in
    ap₂ (λ s n. v * s + n) (passed depth loop factor (stride loop rest) (λ e. omega (arith, e, is))) more
    ∙ turned (v * stride loop rest) (slice_index vs k * factor) (added (loop + 1) vs rest)
  where
    turned : (a b c : ℕ) → a + (b + c) ≡ b + (a + c)
    turned a b c = omega arith

-- the value in a round, by that where no loop is open
pub value_by_strides : (least : ℕ) (parts : PlainParts) (vs : List ℕ) (q : ℕ) → are_linear least parts ≡ true →
    (parts_numbers parts vs q).value ≡ (parts_numbers parts [] q).value + added 0 vs parts
value_by_strides least NoParts vs q h = let none = added-none 0 vs in omega (arith, none)
value_by_strides least (AndParts (Proc factor) rest) vs q h =
    let more = value_by_strides least rest vs q (proc_first least factor rest h).1 in
    let added = added-proc 0 factor vs rest in
    omega (arith, more, added)
value_by_strides least (AndParts (Var depth factor) rest) vs q h =
    let two = from_least least depth _ h in
    let more = value_by_strides (depth + 1) rest vs q two.1 in
    let one = added-var 0 depth depth factor vs rest (omega arith) (stride_before (depth + 1) depth rest two.1 (omega arith)) in
    omega (arith, more, one)
value_by_strides least (AndParts part rest) vs q h = wrong h

-- ---- different rounds

-- a later value goes a step farther at least
farther : (s v w rest : ℕ) → v < w → rest ≤ s → v * s + rest ≤ w * s
farther s v w rest less within =
    let next : v + 1 ≤ w = omega (arith, less) in
    let steps : s * (v + 1) ≤ s * w = mul-le-mul_left s next in
    let out : s * (v + 1) ≡ s * v + s = omega arith in
    omega (arith, steps, out, within)

-- the rounds of the loops in a loop stay within its step
within-step : (loop count : ℕ) (counts : List ℕ) (parts : PlainParts) (vs : List ℕ) →
    are_nested loop (count ∷ counts) parts ≡ true →
    AreInRange counts vs → added (loop + 1) vs parts + last_stride loop (count ∷ counts) parts ≤ stride loop parts
within-step loop count [] parts [] nested low = omega arith
within-step loop count [] parts (v ∷ vs) nested low = absurd low
within-step loop count (inner ∷ counts) parts [] nested low = absurd low
within-step loop count (inner ∷ counts) parts (v ∷ vs) nested low =
    let two = both_true (nat_le (inner * stride (loop + 1) parts) (stride loop parts)) _ nested in
    let wide : inner * stride (loop + 1) parts ≤ stride loop parts = leb-true _ _ two.0 in
    let more = within-step (loop + 1) inner counts parts vs two.1 low.1 in
    let far = farther (stride (loop + 1) parts) v inner _ low.0 more in
    omega (arith, wide, far)

-- an earlier round of a loop ends before a later one begins
later : (loop count v w : ℕ) (counts vs ws : List ℕ) (parts : PlainParts) →
    are_nested loop (count ∷ counts) parts ≡ true → AreInRange counts vs → v < w →
    added loop (v ∷ vs) parts + last_stride loop (count ∷ counts) parts ≤ added loop (w ∷ ws) parts
later loop count v w counts vs ws parts nested low less =
    let far = farther (stride loop parts) v w _ less (within-step loop count counts parts vs nested low) in
    omega (arith, far)

nested-behind : (loop count : ℕ) (counts : List ℕ) (parts : PlainParts) →
    are_nested loop (count ∷ counts) parts ≡ true → are_nested (loop + 1) counts parts ≡ true
nested-behind loop count [] parts nested = refl
nested-behind loop count (inner ∷ counts) parts nested =
    (both_true (nat_le (inner * stride (loop + 1) parts) (stride loop parts)) _ nested).1

-- of two rounds, one ends before the other begins
abbrev pub OneEndsBefore : ℕ → List ℕ → PlainParts → List ℕ → List ℕ → Type 0
OneEndsBefore loop counts parts vs ws =
    (added loop vs parts + last_stride loop counts parts ≤ added loop ws parts) ⊎ (added loop ws parts + last_stride loop counts parts ≤ added loop vs parts)

-- in the same round of a loop
same-round : (loop count v w : ℕ) (counts : List ℕ) (parts : PlainParts) (vs ws : List ℕ) → AreInRange counts vs →
    AreInRange counts ws → vs ≢ ws → v ≡ w →
    OneEndsBefore (loop + 1) counts parts vs ws → OneEndsBefore loop (count ∷ counts) parts (v ∷ vs) (w ∷ ws)
same-round loop count v w [] parts [] [] low lower other same more = absurd (other refl)
same-round loop count v w [] parts (x ∷ vs) ws low lower other same more = absurd low
same-round loop count v w [] parts [] (x ∷ ws) low lower other same more = absurd lower
same-round loop count v w (inner ∷ counts) parts vs ws low lower other same more =
    let rows : v * stride loop parts ≡ w * stride loop parts = ap (λ n. n * stride loop parts) same in
    elim more [
      | inl less ↦ inl (omega (arith, rows, less))
      | inr greater ↦ inr (omega (arith, rows, greater))
    ]

-- different rounds do not meet
pub rounds_differ : (loop : ℕ) (counts : List ℕ) (parts : PlainParts) (vs ws : List ℕ) →
    are_nested loop counts parts ≡ true →
    AreInRange counts vs → AreInRange counts ws → vs ≢ ws → OneEndsBefore loop counts parts vs ws
rounds_differ loop [] parts [] [] nested low lower other = absurd (other refl)
rounds_differ loop [] parts (v ∷ vs) ws nested low lower other = absurd low
rounds_differ loop [] parts [] (w ∷ ws) nested low lower other = absurd lower
rounds_differ loop (count ∷ counts) parts [] ws nested low lower other = absurd low
rounds_differ loop (count ∷ counts) parts (v ∷ vs) [] nested low lower other = absurd lower
rounds_differ loop (count ∷ counts) parts (v ∷ vs) (w ∷ ws) nested low lower other =
    elim (cases_order v w) [
      | inl same ↦
          let differ : vs ≢ ws = λ e. other (ap₂ (λ (x : ℕ) xs. x ∷ xs) same e) in
          same-round loop count v w counts parts vs ws low.1 lower.1 differ same
          (rounds_differ (loop + 1) counts parts vs ws (nested-behind loop count counts parts nested) low.1 lower.1 differ)
      | inr (inl less) ↦ inl (later loop count v w counts vs ws parts nested low.1 less)
      | inr (inr more) ↦ inr (later loop count w v counts ws vs parts nested lower.1 more)
    ]

-- ---- arrays

pub array-same : (words : ℕ) (a b : Array) → same_array a b ≡ true → array_start words a ≡ array_start words b
array-same words X X h = refl
array-same words Y Y h = refl
array-same words A A h = refl
array-same words B B h = refl
array-same words _ _ h = wrong h

array-other : (words : ℕ) (a b : Array) →
    same_array a b ≡ false → (array_start words a + words ≤ array_start words b)
    ⊎ (array_start words b + words ≤ array_start words a)
array-other words X X h = absurd (true≢false h)
array-other words X Y h = inl (omega arith)
array-other words X A h = inl (omega arith)
array-other words X B h = inl (omega arith)
array-other words Y X h = inr (omega arith)
array-other words Y Y h = absurd (true≢false h)
array-other words Y A h = inl (omega arith)
array-other words Y B h = inl (omega arith)
array-other words A X h = inr (omega arith)
array-other words A Y h = inr (omega arith)
array-other words A A h = absurd (true≢false h)
array-other words A B h = inl (omega arith)
array-other words B X h = inr (omega arith)
array-other words B Y h = inr (omega arith)
array-other words B A h = inr (omega arith)
array-other words B B h = absurd (true≢false h)

-- ---- what a round stores and loads

-- a word that is stored into: in its array, and within a step of the innermost loop
record IsStored (p : PlainProgram) (to : Stored) (value step k : ℕ) : Type 0 where
  from : array_start (whole_lines p.size p.line) to.array + value ≤ k
  before : k < array_start (whole_lines p.size p.line) to.array + value + step
  inside : k < array_start (whole_lines p.size p.line) to.array + whole_lines p.size p.line

-- a word that is loaded from is in another array
record IsLoaded (p : PlainProgram) (to : Stored) (k : ℕ) : Type 0 where
  array : Array
  other : same_array array to.array ≡ false
  from : array_start (whole_lines p.size p.line) array ≤ k
  inside : k < array_start (whole_lines p.size p.line) array + whole_lines p.size p.line

stored-step : (p : PlainProgram) (step : ℕ) (to : Stored) (op : PlainOp) (ws : List ℕ) (q k : ℕ) →
    is_placed p.lanes to step op ≡ true → StepFits p (step_of p op ws q) →
    Contains (stored_words p.lanes (step_of p op ws q).action) k →
    IsStored p to (parts_numbers to.parts ws q).value step k
stored-step p step to (Store array (Sum constant parts) r) ws q k h fits has =
    let words : ℕ = whole_lines p.size p.line in
    let told = store_told p.lanes to step array constant parts r h in
    let start = array-same words array to.array told.into in
    let same : (parts_numbers parts ws q).value ≡ (parts_numbers to.parts ws q).value = ap (λ parts. (parts_numbers parts ws q).value) told.by in
    let there = range_item (array_start words array + (constant + (parts_numbers parts ws q).value)) p.lanes k has in
    let low = told.low in
    let room = fits.place in
    record {
      from = omega (arith, there.0, start, same);
      before = omega (arith, there.1, start, same, low);
      inside = omega (arith, there.1, start, room);
    }
stored-step p step to _ ws q k h fits has = absurd (Contains-nil k has)

loaded-step : (p : PlainProgram) (step : ℕ) (to : Stored) (op : PlainOp) (ws : List ℕ) (q k : ℕ) →
    is_placed p.lanes to step op ≡ true → StepFits p (step_of p op ws q) →
    Contains (loaded_words p.lanes (step_of p op ws q).action) k → IsLoaded p to k
loaded-step p step to (Load r array place) ws q k h fits has =
    let words : ℕ = whole_lines p.size p.line in
    let two = both_true (not (same_array array to.array)) (is_linear place) h in
    let there = range_item (array_start words array + (sum_numbers place ws q).value) p.lanes k has in
    let room = fits.place in
    record {
      array = array;
      other = not-true (same_array array to.array) two.0;
      from = omega (arith, there.0);
      inside = omega (arith, there.1, room);
    }
loaded-step p step to _ ws q k h fits has = absurd (Contains-nil k has)

-- what holds of a word by each operation that names it holds of it by all of them
of-operations : (p : PlainProgram) (step : ℕ) (to : Stored) (ws : List ℕ) (q k : ℕ) (words : Action → List ℕ)
    (Told : Type 0) →
    ((op : PlainOp) → is_placed p.lanes to step op ≡ true → StepFits p (step_of p op ws q) →
    Contains (words (step_of p op ws q).action) k → Told) →
    (body : PlainBody) → are_placed p.lanes to step body ≡ true → All (StepFits p) (steps_of_body p body ws q) →
    Contains (flat_map words (actions_of (steps_of_body p body ws q))) k → Told
of-operations p step to ws q k words Told by NoStmts h fit has = absurd (Contains-nil k has)
of-operations p step to ws q k words Told by (AndStmts (Do op) rest) h fit has =
    let two = both_true (is_placed p.lanes to step op) (are_placed p.lanes to step rest) h in
    let first : Step = step_of p op ws q in
    let others : List Step = steps_of_body p rest ws q in
    ⊎_elim
    (λ (one : Contains (words first.action) k). by op two.0 (All-head (StepFits p) first others fit) one)
    (λ (more : Contains (flat_map words (actions_of others)) k). of-operations p step to ws q k words Told by rest two.1 (All-tail (StepFits p) first others fit) more)
    (Contains-append_cases (words first.action) (flat_map words (actions_of others)) k has)
of-operations p step to ws q k words Told by (AndStmts (Loop count body) rest) h fit has = wrong h

stored-in : (p : PlainProgram) (step : ℕ) (to : Stored) (body : PlainBody) (ws : List ℕ) (q k : ℕ) →
    are_placed p.lanes to step body ≡ true → All (StepFits p) (steps_of_body p body ws q) →
    Stores p.lanes (actions_of (steps_of_body p body ws q)) k → IsStored p to (parts_numbers to.parts ws q).value step k
stored-in p step to body ws q k =
    of-operations p step to ws q k (stored_words p.lanes) (IsStored p to (parts_numbers to.parts ws q).value step k) (λ op. stored-step p step to op ws q k) body

loaded-in : (p : PlainProgram) (step : ℕ) (to : Stored) (body : PlainBody) (ws : List ℕ) (q k : ℕ) →
    are_placed p.lanes to step body ≡ true → All (StepFits p) (steps_of_body p body ws q) →
    Loads p.lanes (actions_of (steps_of_body p body ws q)) k → IsLoaded p to k
loaded-in p step to body ws q k = of-operations p step to ws q k (loaded_words p.lanes) (IsLoaded p to k) (λ op. loaded-step p step to op ws q k) body

-- ---- different rounds

-- no word is stored into and loaded from
never-both : (p : PlainProgram) (to : Stored) (value step k : ℕ) → IsStored p to value step k → IsLoaded p to k → ⊥
never-both p to value step k s l =
    let other = array-other (whole_lines p.size p.line) l.array to.array l.other in
    let a = s.from in
    let b = s.inside in
    let c = l.from in
    let d = l.inside in
    ⊎_elim
    (λ (h : array_start (whole_lines p.size p.line) l.array + whole_lines p.size p.line ≤ array_start (whole_lines p.size p.line) to.array). omega arith)
    (λ (h : array_start (whole_lines p.size p.line) to.array + whole_lines p.size p.line ≤ array_start (whole_lines p.size p.line) l.array). omega arith)
    other

-- two words stored into by rounds of which one ends before the other begins
never-same : (p : PlainProgram) (to : Stored) (low high step k : ℕ) → low + step ≤ high → IsStored p to low step k →
    IsStored p to high step k → ⊥
never-same p to low high step k far s t =
    let a = s.before in
    let b = t.from in
    omega (arith, a, b, far)

-- rounds of different values are apart
pub apart_rounds : (p : PlainProgram) (counts : List ℕ) (to : Stored) (body : PlainBody) (vs ws : List ℕ) (q : ℕ) →
    are_apart p.lanes counts to body ≡ true →
    AreInRange counts vs → AreInRange counts ws → vs ≢ ws →
    All (StepFits p) (steps_of_body p body vs q) → All (StepFits p) (steps_of_body p body ws q) →
    AreApart p.lanes (actions_of (steps_of_body p body vs q)) (actions_of (steps_of_body p body ws q))
apart_rounds p counts to body vs ws q apart low lower other fit fits =
    let parts : PlainParts = to.parts in
    let step : ℕ = last_stride 0 counts parts in
    let more = three_true (are_linear 0 parts) (are_nested 0 counts parts) (are_placed p.lanes to step body) apart in
    let one = value_by_strides 0 parts vs q more.0 in
    let another = value_by_strides 0 parts ws q more.0 in
    record {
      into = λ k s t. never-both p to _ step k (stored-in p step to body vs q k more.2 fit s) (loaded-in p step to body ws q k more.2 fits t);
      from = λ k s t. never-both p to _ step k (stored-in p step to body ws q k more.2 fits t) (loaded-in p step to body vs q k more.2 fit s);
      words = λ k s t.
          let first = stored-in p step to body vs q k more.2 fit s in
          let second = stored-in p step to body ws q k more.2 fits t in
          ⊎_elim
          (λ (h : added 0 vs parts + step ≤ added 0 ws parts). never-same p to _ _ step k (omega (arith, one, another, h)) first second)
          (λ (h : added 0 ws parts + step ≤ added 0 vs parts). never-same p to _ _ step k (omega (arith, one, another, h)) second first)
          (rounds_differ 0 counts parts vs ws more.1 low lower other);
    }
