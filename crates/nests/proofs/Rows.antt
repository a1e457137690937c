-- The steps of rounds in loops, one in the other: whole loops of rounds that are apart from others may come before or after them.
use Rattle.nests.proofs.Bools.{three_true}
use Rattle.std.proofs.Common.{◌≡◌, ℕ, ◌+◌, ◌<◌, true, ◌&&◌, List, refl, ap, ◌∙◌, subst, eqb-true, ltb-true}
use Rattle.std.proofs.Common.{leb-true, ◌≤◌, [], ◌∷◌, ◌++◌, Contains, flat_map, sym, All, length, arith, append-nil}
use Rattle.std.proofs.Common.{append_assoc, length-append, ◌-◌, replicate}
use Rattle.std.specs.Prelude.{nat_lt, nat_le, ◌==◌, ◌-◌, replicate, slice_index}
use Rattle.icode.specs.Actions.{actions_of, step_of, steps_of_body, Step, StepFits, lane_factors}
use Rattle.icode.specs.Plain.{PlainOp, PlainBody, PlainProgram, Load, Store, Zero, Add, Sub, Neg, MulConst, MulTable}
use Rattle.icode.specs.Plain.{Tile, Loop, Do, NoStmts, AndStmts}
use Rattle.icode.proofs.Bools.{both_true}
use Rattle.nests.specs.Rounds.{is_fresh, put_after, are_fresh}
use Rattle.nests.proofs.Acts.{IsFresh, next_after, AreFresh, DoTheSame, IsWide, AreWide, IsRound, AreApart}
use Rattle.nests.proofs.Linear.{wrong}
use Rattle.std.specs.List.{range_with_len}
use Rattle.std.proofs.Math.Path.{fun_ext}
use Rattle.std.proofs.lemmas.List.{map-append, get_or_append_left}
use Rattle.icode.proofs.Lines.{Contains-range}
use Rattle.nests.proofs.Members.{into_flat_map, from_flat_map, range_item, append_within}
use Rattle.nests.proofs.Swaps.{in-loops, same-append, same-trans, independent, swapped, same-sym, IsSure, Commute}
use Rattle.nests.proofs.Swaps.{commute-loop}
use Rattle.std.proofs.lemmas.List.Elements.{Contains-append_left, Contains-get_or, All-append, All-replicate}
use Rattle.icode.specs.declared.action.Action.{Action}
use Rattle.std.proofs.lemmas.List.FromFn.{get_or-map-range_with_len, length-map-range_with_len}
use Rattle.operators.specs.Sum.{list_below}
use Rattle.operators.proofs.Lists.{length-list_below, at-list_below}
use Rattle.icode.specs.Sequences.Nests.{AreInRange}
use Rattle.nests.specs.Nests.{looped}

pub one-source : (r next x : ℕ) → ((r == next) && nat_lt x next) ≡ true → (r ≡ next) × (x < next)
one-source r next x h = let two = both_true (r == next) (nat_lt x next) h in (eqb-true r next two.0, ltb-true x next two.1)

pub two-sources : (r next x y : ℕ) → ((r == next) && (nat_lt x next && nat_lt y next)) ≡ true →
    (r ≡ next) × (x < next) × (y < next)
two-sources r next x y h =
    let both = three_true (r == next) (nat_lt x next) (nat_lt y next) h in
    (eqb-true r next both.0, ltb-true x next both.1, ltb-true y next both.2)

fresh-op : (p : PlainProgram) (next : ℕ) (op : PlainOp) (vs : List ℕ) (q : ℕ) → is_fresh p.lanes next op ≡ true →
    IsFresh p.lanes next (step_of p op vs q).action
fresh-op p next (Load r array place) vs q h = eqb-true r next h
fresh-op p next (Store array place r) vs q h = ltb-true r next h
fresh-op p next (Zero r) vs q h = eqb-true r next h
fresh-op p next (Add r x y) vs q h = two-sources r next x y h
fresh-op p next (Sub r x y) vs q h = two-sources r next x y h
fresh-op p next (Neg r x) vs q h = one-source r next x h
fresh-op p next (MulConst r x factor) vs q h = one-source r next x h
fresh-op p next (MulTable r x table place step) vs q h = one-source r next x h
fresh-op p next (Tile r x) vs q h =
    let two = both_true (r == next) (nat_le (x + p.lanes) next) h in (eqb-true r next two.0, leb-true (x + p.lanes) next two.1)

put-op : (p : PlainProgram) (next : ℕ) (op : PlainOp) (vs : List ℕ) (q : ℕ) →
    put_after p.lanes next op ≡ next_after p.lanes next (step_of p op vs q).action
put-op p next (Load r array place) vs q = refl
put-op p next _ vs q = refl

fresh-from : (p : PlainProgram) (next : ℕ) (body : PlainBody) (vs : List ℕ) (q : ℕ) →
    are_fresh p.lanes next body ≡ true →
    AreFresh p.lanes next (actions_of (steps_of_body p body vs q))
fresh-from p next NoStmts vs q h = tt
fresh-from p next (AndStmts (Do op) rest) vs q h =
    let two = both_true (is_fresh p.lanes next op) (are_fresh p.lanes (put_after p.lanes next op) rest) h in (
      fresh-op p next op vs q two.0,
      subst (λ n. AreFresh p.lanes n (actions_of (steps_of_body p rest vs q))) (put-op p next op vs q)
          (fresh-from p (put_after p.lanes next op) rest vs q two.1),
    )
fresh-from p next (AndStmts (Loop count body) rest) vs q h = wrong h

-- ---- steps in place of others: they leave the same memory, and are some of them

pub record AreFor (m lanes : ℕ) (xs ys : List Step) : Type 0 where
  pub same : DoTheSame m lanes (actions_of xs) (actions_of ys)
  pub members : (s : Step) → Contains xs s → Contains ys s

pub actions_of-append : (xs ys : List Step) → actions_of (xs ++ ys) ≡ actions_of xs ++ actions_of ys
actions_of-append xs ys = map-append (λ (s : Step). s.action) xs ys

pub actions_of-loop : (f : ℕ → List Step) (is : List ℕ) → actions_of (flat_map f is)
    ≡ flat_map (λ i. actions_of (f i)) is
actions_of-loop f [] = refl
actions_of-loop f (i ∷ is) = actions_of-append (f i) (flat_map f is) ∙ ap (λ zs. actions_of (f i) ++ zs) (actions_of-loop f is)

-- an item of a round is one of the loop's, and the other way round
pub in-loop : {X : Type 0} (f : ℕ → List X) (a n i : ℕ) (s : X) → a ≤ i → i < a + n → Contains (f i) s →
    Contains (flat_map f (range_with_len a n)) s
in-loop f a n i s low high h = into_flat_map f (range_with_len a n) i s (Contains-range n a i low high) h

pub record InRound {X : Type 0} (f : ℕ → List X) (a n : ℕ) (s : X) : Type 0 where
  pub round : ℕ
  pub low : a ≤ round
  pub high : round < a + n
  pub inside : Contains (f round) s

pub of-loop : {X : Type 0} (f : ℕ → List X) (a n : ℕ) (s : X) → Contains (flat_map f (range_with_len a n)) s → InRound f a n s
of-loop f a n s h =
    let at = from_flat_map f (range_with_len a n) s h in
    let within = range_item a n at.0 at.1 in
    record { round = at.0; low = within.0; high = within.1; inside = at.2 }

module _ (m lanes : ℕ) where
  pub for-nil : AreFor m lanes [] []
  for-nil = record { same = λ r s memory e. refl; members = λ s h. h }

  pub for-trans : (a b c : List Step) → AreFor m lanes a b → AreFor m lanes b c → AreFor m lanes a c
  for-trans a b c h k =
      record {
        same = same-trans m lanes (actions_of a) (actions_of b) (actions_of c) h.same k.same;
        members = λ s has. k.members s (h.members s has);
      }

  pub for-append : (a b c d : List Step) → AreFor m lanes a b → AreFor m lanes c d → AreFor m lanes (a ++ c) (b ++ d)
  for-append a b c d h k =
      record {
        same = subst (λ xs. DoTheSame m lanes xs (actions_of (b ++ d))) (sym (actions_of-append a c))
            (subst (DoTheSame m lanes (actions_of a ++ actions_of c)) (sym (actions_of-append b d))
            (same-append m lanes (actions_of a) (actions_of b) (actions_of c) (actions_of d) h.same k.same));
        members = append_within a b c d h.members k.members;
      }

  pub for-loop : (f g : ℕ → List Step) (a n : ℕ) → ((i : ℕ) → a ≤ i → i < a + n → AreFor m lanes (f i) (g i)) →
      AreFor m lanes (flat_map f (range_with_len a n)) (flat_map g (range_with_len a n))
  for-loop = in-loops (AreFor m lanes) for-nil for-append

  -- two loops, one in the other, in either order
  pub for-exchange : (outer inner : ℕ) (round : ℕ → ℕ → List Step) →
      DoTheSame m lanes (flat_map (λ j. flat_map (λ i. actions_of (round i j)) (range_with_len 0 outer))
      (range_with_len 0 inner))
      (flat_map (λ i. flat_map (λ j. actions_of (round i j)) (range_with_len 0 inner)) (range_with_len 0 outer)) →
      AreFor m lanes (flat_map (λ j. flat_map (λ i. round i j) (range_with_len 0 outer)) (range_with_len 0 inner))
      (flat_map (λ i. flat_map (λ j. round i j) (range_with_len 0 inner)) (range_with_len 0 outer))
  for-exchange outer inner round same =
      let over_outer : ℕ → List Step = λ j. flat_map (λ i. round i j) (range_with_len 0 outer) in
      let over_inner : ℕ → List Step = λ i. flat_map (λ j. round i j) (range_with_len 0 inner) in
      let new : actions_of (flat_map over_outer (range_with_len 0 inner)) ≡ flat_map (λ j. flat_map (λ i. actions_of (round i j)) (range_with_len 0 outer)) (range_with_len 0 inner) =
      actions_of-loop over_outer (range_with_len 0 inner) ∙ ap (λ h. flat_map h (range_with_len 0 inner)) (fun_ext (λ j. actions_of-loop (λ i. round i j) (range_with_len 0 outer))) in
      let old : actions_of (flat_map over_inner (range_with_len 0 outer)) ≡ flat_map (λ i. flat_map (λ j. actions_of (round i j)) (range_with_len 0 inner)) (range_with_len 0 outer) =
      actions_of-loop over_inner (range_with_len 0 outer) ∙ ap (λ h. flat_map h (range_with_len 0 outer)) (fun_ext (λ i. actions_of-loop (λ j. round i j) (range_with_len 0 inner))) in
      record {
        same = subst (λ xs. DoTheSame m lanes xs (actions_of (flat_map over_inner (range_with_len 0 outer)))) (sym new)
            (subst (DoTheSame m lanes (flat_map (λ j. flat_map (λ i. actions_of (round i j)) (range_with_len 0 outer)) (range_with_len 0 inner))) (sym old) same);
        members = λ s h.
            let at = of-loop over_outer 0 inner s h in
            let in_outer = of-loop (λ i. round i at.round) 0 outer s at.inside in
            in-loop over_inner 0 outer in_outer.round s in_outer.low in_outer.high
            (in-loop (λ j. round in_outer.round j) 0 inner at.round s at.low at.high in_outer.inside);
      }

-- ---- the steps of rounds in loops, one in the other

-- each step fits
abbrev pub StepsFit : PlainProgram → List Step → Type 0
StepsFit p xs = (s : Step) → Contains xs s → StepFits p s

pub all_fit : (p : PlainProgram) (xs : List Step) → StepsFit p xs → All (StepFits p) xs
all_fit p xs h k d lt = h _ (Contains-get_or xs k d lt)

-- ---- a factor for each lane

pub factors_each : (lanes : ℕ) (factor : ℕ → ℕ) → lanes ≤ length (lane_factors lanes factor)
factors_each lanes factor =
    let whole = length-append (list_below lanes factor) (replicate (16 - lanes) 0) in
    let own = length-list_below lanes factor in
    omega (arith, whole, own)

all-below : (P : ℕ → Type 0) (n : ℕ) (g : ℕ → ℕ) → ((l : ℕ) → l < n → P (g l)) → All P (list_below n g)
all-below P n g each k d lt =
    let few : k < n = omega (arith, lt, length-map-range_with_len g 0 n) in
    subst P (sym (get_or-map-range_with_len g 0 n k k d few (omega arith))) (each k few)

-- factors of lanes fit where each does, and there is a number below the modulus
pub factors_fit : (m lanes : ℕ) (g : ℕ → ℕ) → 0 < m → ((l : ℕ) → l < lanes → g l < m) →
    All (λ c. c < m) (lane_factors lanes g)
factors_fit m lanes g some each =
    All-append (λ c. c < m) (list_below lanes g) (replicate (16 - lanes) 0)
    (all-below (λ c. c < m) lanes g each) (All-replicate (λ c. c < m) (16 - lanes) 0 some)

wide_acts : (p : PlainProgram) (next : ℕ) (body : PlainBody) (vs : List ℕ) (q : ℕ) →
    are_fresh p.lanes next body ≡ true →
    AreWide p.lanes (actions_of (steps_of_body p body vs q))
wide_acts p next NoStmts vs q h = tt
wide_acts p next (AndStmts (Loop count body) rest) vs q h = cc
wide_acts p next (AndStmts (Do op) rest) vs q h = (wide_op op, wide_acts p (put_after p.lanes next op) rest vs q (both_true _ _ h).1)
  where
    wide_op : (op : PlainOp) → IsWide p.lanes (step_of p op vs q).action
    wide_op (MulConst r x factor) = factors_each p.lanes (λ lane. factor)
    wide_op (MulTable r x table place entries) = factors_each p.lanes _
    wide_op _ = tt

module _ (p : PlainProgram) (q : ℕ) where
  abbrev pub For : List Step → List Step → Type 0
  For = AreFor p.modulus p.lanes

  -- the actions of a round
  abbrev pub acts_of : PlainBody → List ℕ → List Action
  acts_of round vs = actions_of (steps_of_body p round vs q)

  -- the steps of rounds in loops of these counts, for values of the outer loops
  abbrev pub rows : List ℕ → PlainBody → List ℕ → List Step
  rows counts round vs = steps_of_body p (looped counts round) vs q

  pub round_acts : (round : PlainBody) (vs : List ℕ) → are_fresh p.lanes 0 round ≡ true →
      IsRound p.lanes (acts_of round vs)
  round_acts round vs h = (fresh-from p 0 round vs q h, wide_acts p 0 round vs q h)

  -- ---- loops do what they did

  pub loops_for : (f g : ℕ → List Step) (n : ℕ) → ((i : ℕ) → i < n → For (f i) (g i)) →
      For (flat_map f (range_with_len 0 n)) (flat_map g (range_with_len 0 n))
  loops_for f g n h = for-loop p.modulus p.lanes f g 0 n (λ i low high. h i (omega arith))

  pub alone_for : (a b : List Step) → For a b → For (a ++ []) (b ++ [])
  alone_for a b h = subst (λ xs. For xs (b ++ [])) (sym (append-nil a)) (subst (For a) (sym (append-nil b)) h)

  pub rows_itself : (counts : List ℕ) (round : PlainBody) (vs : List ℕ) → are_fresh p.lanes 0 round ≡ true →
      For (rows counts round vs) (rows counts round vs)
  rows_itself [] round vs h =
      record { same = independent p.modulus p.lanes (acts_of round vs) (round_acts round vs h); members = λ s has. has }
  rows_itself (count ∷ counts) round vs h =
      let turn : ℕ → List Step = λ i. rows counts round (vs ++ i ∷ []) in
      alone_for (flat_map turn (range_with_len 0 count)) (flat_map turn (range_with_len 0 count))
      (loops_for turn turn count (λ i lt. rows_itself counts round (vs ++ i ∷ []) h))

  -- ---- the steps of a round are among them

  pub in_rows : (counts : List ℕ) (round : PlainBody) (vs us : List ℕ) (s : Step) → AreInRange counts us →
      Contains (steps_of_body p round (vs ++ us) q) s → Contains (rows counts round vs) s
  in_rows [] round vs [] s h has = subst (λ ws. Contains (steps_of_body p round ws q) s) (append-nil vs) has
  in_rows [] round vs (u ∷ us) s h has = absurd h
  in_rows (count ∷ counts) round vs [] s h has = absurd h
  in_rows (count ∷ counts) round vs (u ∷ us) s h has =
      let turn : ℕ → List Step = λ i. rows counts round (vs ++ i ∷ []) in
      let lt = h.0 in
      Contains-append_left (flat_map turn (range_with_len 0 count)) [] s
      (in-loop turn 0 count u s (omega arith) (omega (arith, lt))
      (in_rows counts round (vs ++ u ∷ []) us s h.1
      (subst (λ ws. Contains (steps_of_body p round ws q) s) (sym (append_assoc vs (u ∷ []) us)) has)))

  -- ---- in either order

  abbrev pub Sure : List Action → Type 0
  Sure = IsSure p.modulus p.lanes

  abbrev pub EitherFirst : List Action → List Action → Type 0
  EitherFirst = Commute p.modulus p.lanes

  pub rows_sure : (counts : List ℕ) (round : PlainBody) (vs : List ℕ) → are_fresh p.lanes 0 round ≡ true →
      Sure (actions_of (rows counts round vs))
  rows_sure counts round vs h = (rows_itself counts round vs h).same

  -- loops whose rounds may come before or after other actions
  pub past_rows : (counts : List ℕ) (round : PlainBody) (vs : List ℕ) (b : List Action) →
      are_fresh p.lanes 0 round ≡ true → Sure b →
      ((us : List ℕ) → AreInRange counts us → EitherFirst (acts_of round (vs ++ us)) b) →
      EitherFirst (actions_of (rows counts round vs)) b
  past_rows [] round vs b fresh sure h =
      subst (λ ws. EitherFirst (acts_of round ws) b) (append-nil vs) (h [] tt)
  past_rows (count ∷ counts) round vs b fresh sure h =
      let turn : ℕ → List Step = λ i. rows counts round (vs ++ i ∷ []) in
      let each : ℕ → List Action = λ i. actions_of (turn i) in
      let split : actions_of (flat_map turn (range_with_len 0 count) ++ []) ≡ flat_map each (range_with_len 0 count) =
      ap actions_of (append-nil (flat_map turn (range_with_len 0 count))) ∙ actions_of-loop turn (range_with_len 0 count) in
      subst (λ a. EitherFirst a b) (sym split)
      (commute-loop p.modulus p.lanes count each b sure (λ i lt. rows_sure counts round (vs ++ i ∷ []) fresh)
      (λ i lt. past_rows counts round (vs ++ i ∷ []) b fresh sure
      (λ us in_range. subst (λ ws. EitherFirst (acts_of round ws) b) (sym (append_assoc vs (i ∷ []) us)) (h (i ∷ us) (lt, in_range)))))

  -- two loops of rounds that are apart from one another
  pub rows_commute : (counts : List ℕ) (round : PlainBody) (vs ws : List ℕ) → are_fresh p.lanes 0 round ≡ true →
      ((us zs : List ℕ) → AreInRange counts us → AreInRange counts zs →
      AreApart p.lanes (acts_of round (vs ++ us)) (acts_of round (ws ++ zs))) →
      EitherFirst (actions_of (rows counts round vs)) (actions_of (rows counts round ws))
  rows_commute counts round vs ws fresh apart =
      past_rows counts round vs (actions_of (rows counts round ws)) fresh (rows_sure counts round ws fresh) (λ us in_range.
      let a : List Action = acts_of round (vs ++ us) in
      let b : List Action = actions_of (rows counts round ws) in
      same-sym p.modulus p.lanes (b ++ a) (a ++ b)
      (past_rows counts round ws a fresh (independent p.modulus p.lanes a (round_acts round (vs ++ us) fresh)) (λ zs in_range_too.
      let c : List Action = acts_of round (ws ++ zs) in
      same-sym p.modulus p.lanes (a ++ c) (c ++ a)
      (swapped p.modulus p.lanes a c (round_acts round (vs ++ us) fresh) (round_acts round (ws ++ zs) fresh) (apart us zs in_range in_range_too)))))

-- ---- the factors of lanes

pub factor_at : (lanes : ℕ) (f : ℕ → ℕ) (lane : ℕ) → lane < lanes → slice_index (lane_factors lanes f) lane ≡ f lane
factor_at lanes f lane lt =
    let size = length-list_below lanes f in
    get_or_append_left (list_below lanes f) (replicate (16 - lanes) 0) 0 lane (omega (arith, size, lt))
    ∙ at-list_below lanes f lane lt
