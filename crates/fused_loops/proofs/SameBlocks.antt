-- The blocks of a nest: where the words of its rounds lie.
use Rattle.std.proofs.Common.{◌≡◌, ℕ, zero, suc, ◌+◌, ◌-◌, ◌*◌, ◌<◌, ◌≤◌, true, ◌&&◌, List, [], ◌∷◌, ◌++◌, length}
use Rattle.std.proofs.Common.{refl, ap, ap₂, ◌∙◌, arith, eqb-true, leb-true, ◌%◌, All, Contains, flat_map, inl, inr}
use Rattle.std.proofs.Common.{sym, subst, ⊎_elim, append-nil, append_assoc, length-append}
use Rattle.std.specs.Prelude.{slice_index, nat_le, ◌==◌}
use Rattle.std.proofs.Math.Nat.{mul-le-mul_right}
use Rattle.icode.specs.Sequences.Nests.{AreInRange}
use Rattle.icode.specs.Expression.{parts_numbers, one_numbers}
use Rattle.icode.specs.Plain.{PlainExpr, PlainParts, PlainPart, PlainOp, PlainBody, Sum, NoParts, AndParts, Var, Load}
use Rattle.icode.specs.Plain.{Store, Loop, Do, NoStmts, AndStmts, PlainProgram}
use Rattle.icode.proofs.Bools.{both_true}
use Rattle.fused_loops.specs.Blocks.{are_values, most, is_step, followed, followed_by, followed_op, followed_in}
use Rattle.fused_loops.specs.Blocks.{blocks_with}
use Rattle.nests.proofs.Bools.{by_test}
use Rattle.nests.proofs.Linear.{wrong}
use Rattle.std.specs.List.{range_with_len}
use Rattle.std.proofs.lemmas.Nat.{mod-mul-add}
use Rattle.std.proofs.lemmas.List.Elements.{All-head, All-tail, Contains-append_left, Contains-append_cases}
use Rattle.icode.specs.declared.action.Action.{Action}
use Rattle.icode.specs.declared.program.Array.{Array}
use Rattle.icode.specs.declared.program.Array.TheVariants.{X, Y, A, B}
use Rattle.icode.specs.Actions.{Step, StepFits, actions_of, array_start, step_of, steps_of_body}
use Rattle.icode.specs.Machine.{stored_words, whole_lines}
use Rattle.icode.proofs.Lines.{Contains-nil}
use Rattle.fused_loops.specs.declared.blocks.Block.{Block}
use Rattle.nests.specs.Nests.{counts_in, round_in}
use Rattle.nests.specs.Rounds.{are_fresh, put_after}
use Rattle.nests.proofs.Acts.{loaded_words}
use Rattle.nests.proofs.Rows.{in-loop, StepsFit, all_fit, acts_of, in_rows}
use Rattle.nests.proofs.Counts.{looped_is}
use Rattle.nests.proofs.Apart.{in_both, in_more}
use Rattle.fused_loops.proofs.Within.{Lies, IsInside}
use Rattle.nests.proofs.Members.{range_item}

-- ---- fronts of steps

abbrev pub IsFront : List ℕ → List ℕ → Type 0
IsFront [] ys = Unit {0}
IsFront (x ∷ xs) [] = ⊥
IsFront (x ∷ xs) (y ∷ ys) = (x ≡ y) × IsFront xs ys

front-itself : (xs : List ℕ) → IsFront xs xs
front-itself [] = tt
front-itself (x ∷ xs) = (refl, front-itself xs)

front-trans : (xs ys zs : List ℕ) → IsFront xs ys → IsFront ys zs → IsFront xs zs
front-trans [] ys zs h k = tt
front-trans (x ∷ xs) [] zs h k = absurd h
front-trans (x ∷ xs) (y ∷ ys) [] h k = absurd k
front-trans (x ∷ xs) (y ∷ ys) (z ∷ zs) h k = (h.0 ∙ k.0, front-trans xs ys zs h.1 k.1)

pub front-append : (xs ys : List ℕ) → IsFront xs (xs ++ ys)
front-append [] ys = tt
front-append (x ∷ xs) ys = (refl, front-append xs ys)

-- ---- a place goes all these steps

abbrev pub AreFollowed : List ℕ → ℕ → ℕ → List ℕ → PlainParts → Type 0
AreFollowed counts words loop [] parts = Unit {0}
AreFollowed counts words loop (step ∷ steps) NoParts = ⊥
AreFollowed counts words loop (step ∷ steps) (AndParts part rest) =
    (is_step loop step part ≡ true) × (words + most counts rest ≤ step) × AreFollowed counts words (loop + 1) steps rest

followed-front : (counts : List ℕ) (words loop : ℕ) (xs ys : List ℕ) (parts : PlainParts) → IsFront xs ys →
    AreFollowed counts words loop ys parts → AreFollowed counts words loop xs parts
followed-front counts words loop [] ys parts h k = tt
followed-front counts words loop (x ∷ xs) [] parts h k = absurd h
followed-front counts words loop (x ∷ xs) (y ∷ ys) NoParts h k = absurd k
followed-front counts words loop (x ∷ xs) (y ∷ ys) (AndParts part rest) h k =
    let same = h.0 in
    let room = k.1 in
    let low : words + most counts rest ≤ x = omega (arith, room, same) in
    (ap (λ s. is_step loop s part) same ∙ k.0, low, followed-front counts words (loop + 1) xs ys rest h.1 k.2)

-- what is kept of steps is a front of them, and the place goes it
record Keeps (counts : List ℕ) (words loop : ℕ) (steps : List ℕ) (parts : PlainParts) (kept : List ℕ) : Type 0 where
  front : IsFront kept steps
  all : AreFollowed counts words loop kept parts

keeps : (counts : List ℕ) (words loop : ℕ) (steps : List ℕ) (parts : PlainParts) →
    Keeps counts words loop steps parts (followed counts words loop steps parts)
keeps counts words loop [] parts = record { front = tt; all = tt }
keeps counts words loop (step ∷ steps) NoParts = record { front = tt; all = tt }
keeps counts words loop (step ∷ steps) (AndParts part rest) =
    by_test (Keeps counts words loop (step ∷ steps) (AndParts part rest))
    (is_step loop step part && nat_le (words + most counts rest) step)
    (step ∷ followed counts words (loop + 1) steps rest) []
    (λ e.
    let more = keeps counts words (loop + 1) steps rest in
    let two = both_true (is_step loop step part) (nat_le (words + most counts rest) step) e in
    record { front = (refl, more.front); all = (two.0, leb-true (words + most counts rest) step two.1, more.all) })
    (λ e. record { front = tt; all = tt })

-- ---- rounds of which all places go steps

abbrev pub PlaceFollows : ℕ → List ℕ → List ℕ → PlainExpr → Type 0
PlaceFollows lanes counts [] place = Unit {0}
PlaceFollows lanes counts (step ∷ steps) (Sum constant parts) =
    (are_values parts ≡ true) × AreFollowed counts (constant + lanes) 0 (step ∷ steps) parts

abbrev pub OpFollows : ℕ → List ℕ → List ℕ → PlainOp → Type 0
OpFollows lanes counts steps (Load r array place) = PlaceFollows lanes counts steps place
OpFollows lanes counts steps (Store array place r) = PlaceFollows lanes counts steps place
OpFollows lanes counts steps op = Unit {0}

abbrev pub RoundFollows : ℕ → List ℕ → List ℕ → PlainBody → Type 0
RoundFollows lanes counts steps NoStmts = Unit {0}
RoundFollows lanes counts steps (AndStmts (Do op) rest) = OpFollows lanes counts steps op × RoundFollows lanes counts steps rest
RoundFollows lanes counts steps (AndStmts (Loop count body) rest) = RoundFollows lanes counts steps rest

place-front : (lanes : ℕ) (counts xs ys : List ℕ) (place : PlainExpr) → IsFront xs ys →
    PlaceFollows lanes counts ys place → PlaceFollows lanes counts xs place
place-front lanes counts [] ys place h k = tt
place-front lanes counts (x ∷ xs) [] place h k = absurd h
place-front lanes counts (x ∷ xs) (y ∷ ys) (Sum constant parts) h k =
    (k.0, followed-front counts (constant + lanes) 0 (x ∷ xs) (y ∷ ys) parts h k.1)

op-front : (lanes : ℕ) (counts xs ys : List ℕ) (op : PlainOp) → IsFront xs ys → OpFollows lanes counts ys op →
    OpFollows lanes counts xs op
op-front lanes counts xs ys (Load r array place) h k = place-front lanes counts xs ys place h k
op-front lanes counts xs ys (Store array place r) h k = place-front lanes counts xs ys place h k
op-front lanes counts xs ys _ h k = tt

pub record KeepsFor (Follows : List ℕ → Type 0) (steps kept : List ℕ) : Type 0 where
  pub front : IsFront kept steps
  pub all : Follows kept

as-place : (lanes : ℕ) (counts : List ℕ) (constant : ℕ) (parts : PlainParts) (kept : List ℕ) → are_values parts ≡ true →
    AreFollowed counts (constant + lanes) 0 kept parts → PlaceFollows lanes counts kept (Sum constant parts)
as-place lanes counts constant parts [] values h = tt
as-place lanes counts constant parts (step ∷ steps) values h = (values, h)

place-keeps : (lanes : ℕ) (counts : List ℕ) (place : PlainExpr) (steps : List ℕ) →
    KeepsFor (λ kept. PlaceFollows lanes counts kept place) steps (followed_by lanes counts place steps)
place-keeps lanes counts (Sum constant parts) steps =
    let made : List ℕ = followed counts (constant + lanes) 0 steps parts in
    let kept = keeps counts (constant + lanes) 0 steps parts in
    by_test (KeepsFor (λ kept. PlaceFollows lanes counts kept (Sum constant parts)) steps) (are_values parts) made []
    (λ e. record { front = kept.front; all = as-place lanes counts constant parts made e kept.all })
    (λ e. record { front = tt; all = tt })

op-keeps : (lanes : ℕ) (counts : List ℕ) (op : PlainOp) (steps : List ℕ) →
    KeepsFor (λ kept. OpFollows lanes counts kept op) steps (followed_op lanes counts op steps)
op-keeps lanes counts (Load r array place) steps =
    let k = place-keeps lanes counts place steps in record { front = k.front; all = k.all }
op-keeps lanes counts (Store array place r) steps =
    let k = place-keeps lanes counts place steps in record { front = k.front; all = k.all }
op-keeps lanes counts _ steps = record { front = front-itself steps; all = tt }

pub round-keeps : (lanes : ℕ) (counts : List ℕ) (round : PlainBody) (steps : List ℕ) →
    KeepsFor (λ kept. RoundFollows lanes counts kept round) steps (followed_in lanes counts round steps)
round-keeps lanes counts NoStmts steps = record { front = front-itself steps; all = tt }
round-keeps lanes counts (AndStmts (Do op) rest) steps =
    let first = op-keeps lanes counts op steps in
    let more = round-keeps lanes counts rest (followed_op lanes counts op steps) in
    let kept : List ℕ = followed_in lanes counts rest (followed_op lanes counts op steps) in
    record {
      front = front-trans kept (followed_op lanes counts op steps) steps more.front first.front;
      all = (op-front lanes counts kept (followed_op lanes counts op steps) op more.front first.all, more.all);
    }
round-keeps lanes counts (AndStmts (Loop count body) rest) steps =
    let more = round-keeps lanes counts rest steps in record { front = more.front; all = more.all }

pub round-front : (lanes : ℕ) (counts xs ys : List ℕ) (round : PlainBody) → IsFront xs ys →
    RoundFollows lanes counts ys round → RoundFollows lanes counts xs round
round-front lanes counts xs ys NoStmts h k = tt
round-front lanes counts xs ys (AndStmts (Do op) rest) h k = (op-front lanes counts xs ys op h k.0, round-front lanes counts xs ys rest h k.1)
round-front lanes counts xs ys (AndStmts (Loop count body) rest) h k = round-front lanes counts xs ys rest h k

-- ---- values

nothing-at : (d : ℕ) → slice_index [] d ≡ 0
nothing-at zero = refl
nothing-at (suc d) = refl

-- a value in range
value-below : (counts ws : List ℕ) (d : ℕ) → AreInRange counts ws → slice_index ws d ≤ slice_index counts d - 1
value-below [] [] d h = let none = nothing-at d in omega (arith, none)
value-below [] (w ∷ ws) d h = absurd h
value-below (count ∷ counts) [] d h = absurd h
value-below (count ∷ counts) (w ∷ ws) zero h = let low = h.0 in omega (arith, low)
value-below (count ∷ counts) (w ∷ ws) (suc d) h = value-below counts ws d h.1

-- the value of parts is no more than the most
value-most : (counts ws : List ℕ) (q : ℕ) (parts : PlainParts) → AreInRange counts ws → are_values parts ≡ true →
    (parts_numbers parts ws q).value ≤ most counts parts
value-most counts ws q NoParts h values = omega arith
value-most counts ws q (AndParts (Var depth factor) rest) h values =
    let more = value-most counts ws q rest h values in
    let low : slice_index ws depth * factor ≤ (slice_index counts depth - 1) * factor = mul-le-mul_right factor (value-below counts ws depth h) in
    omega (arith, more, low)
value-most counts ws q (AndParts part rest) h values = wrong values

-- where the block of a round begins, by the values of the loops
abbrev pub begin : List ℕ → List ℕ → ℕ
begin [] ws = 0
begin (step ∷ steps) [] = 0
begin (step ∷ steps) (w ∷ ws) = w * step + begin steps ws

pub begin-more : (steps : List ℕ) (step : ℕ) (vs us : List ℕ) (i : ℕ) → length steps ≡ length vs →
    begin (steps ++ step ∷ []) ((vs ++ i ∷ []) ++ us) ≡ begin steps vs + i * step
begin-more [] step [] us i long = omega arith
begin-more [] step (v ∷ vs) us i long = absurd (omega (arith, long))
begin-more (s ∷ steps) step [] us i long = absurd (omega (arith, long))
begin-more (s ∷ steps) step (v ∷ vs) us i long =
    let more = begin-more steps step vs us i (omega (arith, long)) in omega (arith, more)

-- the values are those from this loop on
abbrev AreFrom : ℕ → List ℕ → List ℕ → Type 0
AreFrom loop ws all = (d : ℕ) → slice_index all (loop + d) ≡ slice_index ws d

step-told : (loop step : ℕ) (part : PlainPart) (ws : List ℕ) (q : ℕ) → is_step loop step part ≡ true →
    (one_numbers part ws q).value ≡ slice_index ws loop * step
step-told loop step (Var depth factor) ws q h =
    let two = both_true (depth == loop) (factor == step) h in
    ap₂ (λ d f. slice_index ws d * f) (eqb-true depth loop two.0) (eqb-true factor step two.1)
step-told loop step part ws q h = wrong h

rest-values : (part : PlainPart) (rest : PlainParts) → are_values (AndParts part rest) ≡ true → are_values rest ≡ true
rest-values (Var depth factor) rest h = h
rest-values part rest h = wrong h

-- the value of a place is in the block of its round
pub record IsPlaced (words start step value : ℕ) : Type 0 where
  pub from : start ≤ value
  pub before : words + value ≤ start + step

placed-from : (counts all : List ℕ) (words q : ℕ) (step : ℕ) (front : List ℕ) (loop : ℕ) (ws : List ℕ)
    (parts : PlainParts) →
    AreInRange counts all → AreFrom loop ws all → are_values parts ≡ true → length front < length ws →
    AreFollowed counts words loop (front ++ step ∷ []) parts →
    IsPlaced words (begin (front ++ step ∷ []) ws) step (parts_numbers parts all q).value
placed-from counts all words q step [] loop [] parts in_range is values long h = absurd (omega (arith, long))
placed-from counts all words q step (s ∷ front) loop [] parts in_range is values long h = absurd (omega (arith, long))
placed-from counts all words q step [] loop (w ∷ ws) NoParts in_range is values long h = absurd h
placed-from counts all words q step (s ∷ front) loop (w ∷ ws) NoParts in_range is values long h = absurd h
placed-from counts all words q step [] loop (w ∷ ws) (AndParts part rest) in_range is values long h =
    let at : slice_index all loop ≡ w = ap (slice_index all) (omega arith) ∙ is 0 in
    let told : (one_numbers part all q).value ≡ w * step = step-told loop step part all q h.0 ∙ ap (λ n. n * step) at in
    let more = value-most counts all q rest in_range (rest-values part rest values) in
    let room = h.1 in
    record { from = omega (arith, told); before = omega (arith, told, more, room) }
placed-from counts all words q step (s ∷ front) loop (w ∷ ws) (AndParts part rest) in_range is values long h =
    let at : slice_index all loop ≡ w = ap (slice_index all) (omega arith) ∙ is 0 in
    let told : (one_numbers part all q).value ≡ w * s = step-told loop s part all q h.0 ∙ ap (λ n. n * s) at in
    let deeper : AreFrom (loop + 1) ws all = λ d. ap (slice_index all) (omega arith) ∙ is (suc d) in
    let more = placed-from counts all words q step front (loop + 1) ws rest in_range deeper (rest-values part rest values) (omega (arith, long)) h.2 in
    let a = more.from in
    let b = more.before in
    record { from = omega (arith, told, a); before = omega (arith, told, b) }

pub placed : (counts all : List ℕ) (words q step : ℕ) (front : List ℕ) (parts : PlainParts) →
    AreInRange counts all → are_values parts ≡ true → length front < length all →
    AreFollowed counts words 0 (front ++ step ∷ []) parts →
    IsPlaced words (begin (front ++ step ∷ []) all) step (parts_numbers parts all q).value
placed counts all words q step front parts in_range values long h =
    placed-from counts all words q step front 0 all parts in_range (λ d. ap (slice_index all) (omega arith)) values long h

-- ---- the blocks of a nest: where the words of its rounds lie

-- ---- words of an array

abbrev number : Array → ℕ
number X = 0
number Y = 1
number A = 2
number B = 3

start-is : (words : ℕ) (array : Array) → array_start words array ≡ number array * words
start-is words X = omega arith
start-is words Y = omega arith
start-is words A = refl
start-is words B = refl

place-told : (lanes : ℕ) (counts front : List ℕ) (step constant : ℕ) (parts : PlainParts) →
    PlaceFollows lanes counts (front ++ step ∷ []) (Sum constant parts) →
    (are_values parts ≡ true) × AreFollowed counts (constant + lanes) 0 (front ++ step ∷ []) parts
place-told lanes counts [] step constant parts h = h
place-told lanes counts (s ∷ front) step constant parts h = h

module _ (p : PlainProgram) (q : ℕ) where
  word-lies : (array : Array) (constant value low step k : ℕ) →
      Contains (range_with_len (array_start (whole_lines p.size p.line) array + (constant + value)) p.lanes) k →
      constant + value + p.lanes ≤ whole_lines p.size p.line → IsPlaced (constant + p.lanes) low step value →
      Lies p low step k
  word-lies array constant value low step k has room is =
      let words : ℕ = whole_lines p.size p.line in
      let there = range_item (array_start words array + (constant + value)) p.lanes k has in
      let a = there.0 in
      let b = there.1 in
      let c = is.from in
      let d = is.before in
      let offset : ℕ = k - array_start words array in
      let begins : array_start words array ≡ number array * words = start-is words array in
      let whole : number array * words + offset ≡ k = split (array_start words array) (number array * words) (constant + value) k begins a in
      let below : offset < words = under (array_start words array) (constant + value) p.lanes words k a b room in
      let at : k % words ≡ offset = ap (λ n. n % words) (sym whole) ∙ mod-mul-add (number array) words offset below in
      (least (array_start words array) constant value low k (k % words) at a c, greatest (array_start words array) constant value p.lanes low step k (k % words) at a b d)
    where
      split : (start other far k : ℕ) → start ≡ other → start + far ≤ k → other + (k - start) ≡ k
      split start other far k e le = omega (arith, e, le)

      under : (start far lanes words k : ℕ) → start + far ≤ k → k < start + far + lanes → far + lanes ≤ words →
          k - start < words
      under start far lanes words k from lt le = omega (arith, from, lt, le)

      least : (start constant value low k at : ℕ) → at ≡ k - start → start + (constant + value) ≤ k → low ≤ value →
          low ≤ at
      least start constant value low k at e le from = omega (arith, e, le, from)

      greatest : (start constant value lanes low step k at : ℕ) → at ≡ k - start → start + (constant + value) ≤ k →
          k < start + (constant + value) + lanes →
          constant + lanes + value ≤ low + step → at < low + step
      greatest start constant value lanes low step k at e le lt room = omega (arith, e, le, lt, room)

  module _ (counts front : List ℕ) (step : ℕ) (ws : List ℕ) (in_range : AreInRange counts ws)
      (long : length front < length ws) where
    abbrev low : ℕ
    low = begin (front ++ step ∷ []) ws

    loaded-lies : (op : PlainOp) (k : ℕ) → OpFollows p.lanes counts (front ++ step ∷ []) op →
        StepFits p (step_of p op ws q) →
        Contains (loaded_words p.lanes (step_of p op ws q).action) k → Lies p low step k
    loaded-lies (Load r array (Sum constant parts)) k follows fits has =
        let told = place-told p.lanes counts front step constant parts follows in
        word-lies array constant (parts_numbers parts ws q).value low step k has fits.place
        (placed counts ws (constant + p.lanes) q step front parts in_range told.0 long told.1)
    loaded-lies _ k follows fits has = absurd (Contains-nil k has)

    stored-lies : (op : PlainOp) (k : ℕ) → OpFollows p.lanes counts (front ++ step ∷ []) op →
        StepFits p (step_of p op ws q) →
        Contains (stored_words p.lanes (step_of p op ws q).action) k → Lies p low step k
    stored-lies (Store array (Sum constant parts) r) k follows fits has =
        let told = place-told p.lanes counts front step constant parts follows in
        word-lies array constant (parts_numbers parts ws q).value low step k has fits.place
        (placed counts ws (constant + p.lanes) q step front parts in_range told.0 long told.1)
    stored-lies _ k follows fits has = absurd (Contains-nil k has)

    of-round : (f : Action → List ℕ) (k : ℕ) →
        ((op : PlainOp) → OpFollows p.lanes counts (front ++ step ∷ []) op → StepFits p (step_of p op ws q) →
        Contains (f (step_of p op ws q).action) k → Lies p low step k) →
        (next : ℕ) (round : PlainBody) → are_fresh p.lanes next round ≡ true →
        RoundFollows p.lanes counts (front ++ step ∷ []) round →
        All (StepFits p) (steps_of_body p round ws q) → Contains (flat_map f (acts_of p q round ws)) k →
        Lies p low step k
    of-round f k by next NoStmts fresh follows fit has = absurd (Contains-nil k has)
    of-round f k by next (AndStmts (Do op) rest) fresh follows fit has =
        let first : Step = step_of p op ws q in
        let others : List Step = steps_of_body p rest ws q in
        ⊎_elim
        (λ (one : Contains (f first.action) k). by op follows.0 (All-head (StepFits p) first others fit) one)
        (λ (more : Contains (flat_map f (actions_of others)) k).
        of-round f k by (put_after p.lanes next op) rest (both_true _ _ fresh).1 follows.1 (All-tail (StepFits p) first others fit) more)
        (Contains-append_cases (f first.action) (flat_map f (actions_of others)) k has)
    of-round f k by next (AndStmts (Loop count body) rest) fresh follows fit has = wrong fresh

    round-inside : (round : PlainBody) → are_fresh p.lanes 0 round ≡ true →
        RoundFollows p.lanes counts (front ++ step ∷ []) round →
        All (StepFits p) (steps_of_body p round ws q) → IsInside p low step (acts_of p q round ws)
    round-inside round fresh follows fit k (inl loaded) = of-round (loaded_words p.lanes) k (λ op. loaded-lies op k) 0 round fresh follows fit loaded
    round-inside round fresh follows fit k (inr stored) = of-round (stored_words p.lanes) k (λ op. stored-lies op k) 0 round fresh follows fit stored

  -- ---- nests

  -- the rounds of the loops that the body is touch words of the block alone
  abbrev pub AreRoundsInside : ℕ → ℕ → PlainBody → List ℕ → Type 0
  AreRoundsInside low step body ws = (us : List ℕ) → AreInRange (counts_in body) us → IsInside p low step (acts_of p q (round_in body) (ws ++ us))

  -- loops one in the other, from the outermost inward, have these blocks
  abbrev pub HasBlocks : List Block → PlainBody → List ℕ → ℕ → Type 0
  HasBlocks [] body vs base = Unit {0}
  HasBlocks (block ∷ blocks) NoStmts vs base = ⊥
  HasBlocks (block ∷ blocks) (AndStmts (Do op) rest) vs base = ⊥
  HasBlocks (block ∷ blocks) (AndStmts (Loop count inside) (AndStmts stmt rest)) vs base = ⊥
  HasBlocks (block ∷ blocks) (AndStmts (Loop count inside) NoStmts) vs base =
      (count ≡ block.count)
      × ((i : ℕ) → i < count →
      AreRoundsInside (base + i * block.step) block.step inside (vs ++ i ∷ [])
      × HasBlocks blocks inside (vs ++ i ∷ []) (base + i * block.step))

  -- the steps of a body in a loop are steps of the loop
  inside-fits : (count : ℕ) (inside : PlainBody) (vs : List ℕ) (i : ℕ) → i < count →
      StepsFit p (steps_of_body p (AndStmts (Loop count inside) NoStmts) vs q) →
      StepsFit p (steps_of_body p inside (vs ++ i ∷ []) q)
  inside-fits count inside vs i lt fit s has =
      let turn : ℕ → List Step = λ i. steps_of_body p inside (vs ++ i ∷ []) q in
      fit s (Contains-append_left (flat_map turn (range_with_len 0 count)) [] s (in-loop turn 0 count i s (omega arith) (omega (arith, lt)) has))

  -- the steps of a round
  round-fits : (body : PlainBody) (vs us : List ℕ) → AreInRange (counts_in body) us →
      StepsFit p (steps_of_body p body vs q) →
      All (StepFits p) (steps_of_body p (round_in body) (vs ++ us) q)
  round-fits body vs us in_range fit =
      all_fit p (steps_of_body p (round_in body) (vs ++ us) q) (λ s has.
      fit s (subst (λ b. Contains (steps_of_body p b vs q) s) (looped_is body) (in_rows p q (counts_in body) (round_in body) vs us s in_range has)))

  module _ (counts steps : List ℕ) where
    pub has-blocks : (body : PlainBody) (done vs front more : List ℕ) → counts ≡ done ++ counts_in body →
        steps ≡ front ++ more →
        AreInRange done vs → length front ≡ length vs → are_fresh p.lanes 0 (round_in body) ≡ true →
        RoundFollows p.lanes counts steps (round_in body) →
        StepsFit p (steps_of_body p body vs q) → HasBlocks (blocks_with (counts_in body) more) body vs (begin front vs)
    has-blocks NoStmts done vs front more counts_are steps_are in_range long fresh follows fit = tt
    has-blocks (AndStmts (Do op) rest) done vs front more counts_are steps_are in_range long fresh follows fit = tt
    has-blocks (AndStmts (Loop count inside) (AndStmts stmt rest)) done vs front more counts_are steps_are in_range long fresh follows fit = tt
    has-blocks (AndStmts (Loop count inside) NoStmts) done vs front [] counts_are steps_are in_range long fresh follows fit = tt
    has-blocks (AndStmts (Loop count inside) NoStmts) done vs front (step ∷ more) counts_are steps_are in_range long fresh follows fit = (
      refl,
      λ i lt. (
        rounds i lt,
        subst (HasBlocks (blocks_with (counts_in inside) more) inside (vs ++ i ∷ [])) (begins i)
            (has-blocks inside (done ++ count ∷ []) (vs ++ i ∷ []) (front ++ step ∷ []) more counts_too steps_too (in_more done vs count i in_range lt)
            (as_long i) fresh follows (fits i lt)),
      ),
    )
      where
        counts_too : counts ≡ (done ++ count ∷ []) ++ counts_in inside
        counts_too = counts_are ∙ sym (append_assoc done (count ∷ []) (counts_in inside))

        steps_too : steps ≡ (front ++ step ∷ []) ++ more
        steps_too = steps_are ∙ sym (append_assoc front (step ∷ []) more)

        fits : (i : ℕ) → i < count → StepsFit p (steps_of_body p inside (vs ++ i ∷ []) q)
        fits i lt = inside-fits count inside vs i lt fit

        follows_front : RoundFollows p.lanes counts (front ++ step ∷ []) (round_in inside)
        follows_front =
            round-front p.lanes counts (front ++ step ∷ []) ((front ++ step ∷ []) ++ more) (round_in inside) (front-append (front ++ step ∷ []) more)
            (subst (λ xs. RoundFollows p.lanes counts xs (round_in inside)) steps_too follows)

        rounds : (i : ℕ) → i < count → AreRoundsInside (begin front vs + i * step) step inside (vs ++ i ∷ [])
        rounds i lt us in_range_too =
            let ws : List ℕ = (vs ++ i ∷ []) ++ us in
            let all : AreInRange counts ws =
            subst (λ cs. AreInRange cs ws) (sym counts_too) (in_both (done ++ count ∷ []) (counts_in inside) (vs ++ i ∷ []) us (in_more done vs count i in_range lt) in_range_too) in
            let size = length-append (vs ++ i ∷ []) us in
            let size_too = length-append vs (i ∷ []) in
            subst (λ n. IsInside p n step (acts_of p q (round_in inside) ws)) (begin-more front step vs us i long)
            (round-inside counts front step ws all (omega (arith, long, size, size_too)) (round_in inside) fresh follows_front
            (round-fits inside (vs ++ i ∷ []) us in_range_too (fits i lt)))

        as_long : (i : ℕ) → length (front ++ step ∷ []) ≡ length (vs ++ i ∷ [])
        as_long i =
            let size = length-append front (step ∷ []) in
            let size_too = length-append vs (i ∷ []) in
            omega (arith, long, size, size_too)

        begins : (i : ℕ) → begin (front ++ step ∷ []) (vs ++ i ∷ []) ≡ begin front vs + i * step
        begins i = ap (begin (front ++ step ∷ [])) (sym (append-nil (vs ++ i ∷ []))) ∙ begin-more front step vs [] i long
