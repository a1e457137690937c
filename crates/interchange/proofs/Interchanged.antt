-- A nest with its loops in order does what the nest did, and so do bodies of phases and programs.
use Rattle.std.proofs.Common.{◌≡◌, ℕ, ◌+◌, ◌*◌, List, [], ◌∷◌, length, refl, sym, ap, ap₂, ◌∙◌, arith, mul_left_comm}
use Rattle.std.proofs.Common.{◌≢◌, ◌⊎◌, ◌&&◌, ◌<◌, ◌++◌, true, All, Option, Some, None, flat_map, subst, append-nil}
use Rattle.std.proofs.Common.{append_assoc, length-append, map}
use Rattle.icode.specs.Actions.{steps_of_body, Step, StepFits, actions_of, steps_of_stmt, PlainFits, steps_of_phase}
use Rattle.icode.specs.Actions.{plain_code}
use Rattle.icode.specs.Lengths.{len_of_stmt, len_of_body}
use Rattle.icode.specs.Plain.{PlainStmt, PlainBody, PlainProgram, Loop, Do, NoStmts, AndStmts}
use Rattle.icode.proofs.Lengths.{body_length}
use Rattle.interchange.specs.Exchanged.{exchanged_round}
use Rattle.nests.specs.Places.{are_linear}
use Rattle.nests.specs.Rounds.{first_store, first_load, are_independent, Stored, are_fresh, are_placed, are_nested}
use Rattle.nests.specs.Rounds.{last_stride}
use Rattle.interchange.specs.Interchanged.{steps_less, Nest, nest_stmt, within, sunk, ordered, interchanged_nest}
use Rattle.interchange.specs.Interchanged.{interchanged_body, interchanged}
use Rattle.nests.specs.Nests.{counts_in, round_in, looped, is_nest, are_nests}
use Rattle.nests.proofs.Bools.{by_test}
use Rattle.nests.proofs.Counts.{looped_is}
use Rattle.std.specs.Prelude.{slice_index_or}
use Rattle.std.specs.List.{range_with_len, list_all}
use Rattle.std.proofs.Math.Path.{fun_ext}
use Rattle.std.proofs.lemmas.List.Elements.{Contains-append_left, Contains-append_right, All-contains}
use Rattle.icode.specs.Sequences.Nests.{AreInRange}
use Rattle.icode.proofs.Bools.{both_true}
use Rattle.nests.proofs.Acts.{AreApart}
use Rattle.nests.proofs.Swaps.{exchanged_loops}
use Rattle.nests.proofs.Linear.{wrong, has_linear_places, placed_linear}
use Rattle.interchange.proofs.Exchanged.{linear_exchanged, exchanged_steps, are-fresh-exchanged}
use Rattle.nests.proofs.Rows.{for-nil, for-append, for-exchange, for-trans, StepsFit, all_fit, For, acts_of, rows}
use Rattle.nests.proofs.Rows.{loops_for, alone_for, rows_itself, in_rows, rows_sure, rows_commute}
use Rattle.nests.proofs.Apart.{apart_rounds, long_range, in_both, in_more, turned, split_range, others_behind}
use Rattle.interchange.proofs.Turned.{turned_back, turned_in_range}
use Rattle.std.proofs.lemmas.List.{length-map}
use Rattle.icode.specs.Machine.{IsApart}
use Rattle.nests.specs.InPlace.{IsInPlaceOf}
use Rattle.nests.proofs.InOrder.{keep-many}
use Rattle.nests.proofs.InPlace.{of-members, no-more, memory-same, in-place, where-true, with_phases, passes-at}
use Rattle.nests.proofs.InPlace.{phase-is}

round_len : (loop : ℕ) (body : PlainBody) → len_of_body (exchanged_round loop body) ≡ len_of_body body
round_len loop NoStmts = refl
round_len loop (AndStmts (Do op) rest) = ap (λ n. 1 + n) (round_len loop rest)
round_len loop (AndStmts (Loop count body) rest) = ap (λ n. count * len_of_body body + n) (round_len loop rest)

-- loops around rounds that are as long
looped_len : (counts : List ℕ) (a b : PlainBody) → len_of_body a ≡ len_of_body b →
    len_of_body (looped counts a) ≡ len_of_body (looped counts b)
looped_len [] a b e = e
looped_len (count ∷ counts) a b e = ap (λ n. count * n + 0) (looped_len counts a b e)

turned_len : (inner outer n : ℕ) → inner * (outer * n + 0) + 0 ≡ outer * (inner * n + 0) + 0
turned_len inner outer n =
    let plain : (k : ℕ) → k + 0 ≡ k = λ k. omega arith in
    ap (λ k. inner * k + 0) (plain (outer * n)) ∙ ap (λ k. k + 0) (mul_left_comm inner outer n) ∙ ap (λ k. outer * k + 0) (sym (plain (inner * n)))

-- a nest's length, as that of a body
abbrev nest_len : Nest → ℕ
nest_len nest = len_of_body (looped (nest.outer ∷ nest.inner) nest.round)

sunk_len : (loop outer : ℕ) (counts : List ℕ) (round : PlainBody) →
    nest_len (sunk loop outer counts round) ≡ len_of_body (looped (outer ∷ counts) round)
sunk_len loop outer [] round = refl
sunk_len loop outer (count ∷ counts) round =
    by_test (λ nest. nest_len nest ≡ len_of_body (looped (outer ∷ count ∷ counts) round))
    (steps_less loop (first_load round)) (within count (sunk (loop + 1) outer counts (exchanged_round loop round)))
    (record { outer = outer; inner = count ∷ counts; round = round })
    (λ less.
    ap (λ n. count * n + 0) (sunk_len (loop + 1) outer counts (exchanged_round loop round)
    ∙ looped_len (outer ∷ counts) (exchanged_round loop round) round (round_len loop round))
    ∙ turned_len count outer (len_of_body (looped counts round)))
    (λ stays. refl)

ordered_len : (loop outer : ℕ) (counts : List ℕ) (round : PlainBody) →
    nest_len (ordered loop outer counts round) ≡ len_of_body (looped (outer ∷ counts) round)
ordered_len loop outer [] round = refl
ordered_len loop outer (count ∷ counts) round =
    let rest = ordered (loop + 1) count counts round in
    sunk_len loop outer (rest.outer ∷ rest.inner) rest.round
    ∙ ap (λ n. outer * n + 0) (ordered_len (loop + 1) count counts round)

stmt_len : (lanes : ℕ) (stmt : PlainStmt) → len_of_stmt (interchanged_nest lanes stmt) ≡ len_of_stmt stmt
stmt_len lanes (Do op) = refl
stmt_len lanes (Loop count body) =
    by_test (λ stmt. len_of_stmt stmt ≡ len_of_stmt (Loop count body))
    (are_independent lanes (count ∷ counts_in body) (first_store (round_in body)) (round_in body))
    (nest_stmt nest) (Loop count body)
    (λ free.
    let same = ordered_len 0 count (counts_in body) (round_in body) in
    let whole : len_of_body (looped (counts_in body) (round_in body)) ≡ len_of_body body =
    ap len_of_body (looped_is body) in
    let alone : nest.outer * len_of_body (looped nest.inner nest.round)
    ≡ count * len_of_body (looped (counts_in body) (round_in body)) = omega (arith, same) in
    alone ∙ ap (λ n. count * n) whole)
    (λ bound. refl)
  where
    nest : Nest
    nest = ordered 0 count (counts_in body) (round_in body)

body_len : (lanes : ℕ) (body : PlainBody) → len_of_body (interchanged_body lanes body) ≡ len_of_body body
body_len lanes NoStmts = refl
body_len lanes (AndStmts stmt rest) = ap₂ (λ m n. m + n) (stmt_len lanes stmt) (body_len lanes rest)

-- whether its statements are nests or not
pub as_long : (p : PlainProgram) (body : PlainBody) (q : ℕ) →
    length (steps_of_body p (interchanged_body p.lanes body) [] q) ≡ length (steps_of_body p body [] q)
as_long p body q = body_length p (interchanged_body p.lanes body) [] q ∙ body_len p.lanes body ∙ sym (body_length p body [] q)

-- ---- a nest with its loops in order does what the nest did, and so do bodies of phases and programs

-- the rounds of loops of these counts are apart from one another
abbrev AllApart : PlainProgram → ℕ → List ℕ → PlainBody → Type 0
AllApart p q counts round =
    (us ws : List ℕ) → AreInRange counts us → AreInRange counts ws → us ≢ ws → AreApart p.lanes (acts_of p q round us) (acts_of p q round ws)

-- rounds of loops, in outer loops, that may be run in any order
record AreFree (p : PlainProgram) (q : ℕ) (outers counts : List ℕ) (round : PlainBody) : Type 0 where
  fresh : are_fresh p.lanes 0 round ≡ true
  linear : has_linear_places round ≡ true
  apart : AllApart p q (outers ++ counts) round

-- a nest in outer loops does what loops of these counts do, and is as free
record IsInPlace (p : PlainProgram) (q : ℕ) (outers : List ℕ) (nest : Nest) (counts : List ℕ) (round : PlainBody) : Type 0 where
  free : AreFree p q outers (nest.outer ∷ nest.inner) nest.round
  same : (vs : List ℕ) → AreInRange outers vs → For p q (rows p q (nest.outer ∷ nest.inner) nest.round vs)
      (rows p q counts round vs)

module _ (p : PlainProgram) (q : ℕ) where
  -- ---- two loops change places

  turned_acts : (outers : List ℕ) (first second : ℕ) (counts : List ℕ) (round : PlainBody) (us : List ℕ) →
      has_linear_places round ≡ true →
      AreInRange (outers ++ first ∷ second ∷ counts) us →
      acts_of p q (exchanged_round (length outers) round) us ≡ acts_of p q round (turned (length outers) us)
  turned_acts outers first second counts round us linear in_range =
      let parts = split_range outers first second counts us in_range in
      ap (acts_of p q (exchanged_round (length outers) round)) parts.is
      ∙ ap actions_of (exchanged_steps p (length outers) round parts.before parts.behind parts.second parts.first q parts.long linear)
      ∙ ap (acts_of p q round) (sym parts.turn)

  turned_apart : (outers : List ℕ) (outer inner : ℕ) (counts : List ℕ) (round : PlainBody) →
      has_linear_places round ≡ true →
      AllApart p q (outers ++ outer ∷ inner ∷ counts) round →
      AllApart p q (outers ++ inner ∷ outer ∷ counts) (exchanged_round (length outers) round)
  turned_apart outers outer inner counts round linear apart us ws in_range in_range_too other =
      let depth = length outers in
      let acts = turned_acts outers inner outer counts round us linear in_range in
      let acts_too = turned_acts outers inner outer counts round ws linear in_range_too in
      let turned_other : turned depth us ≢ turned depth ws = λ e. other (sym (turned_back depth us) ∙ ap (turned depth) e ∙ turned_back depth ws) in
      subst (λ a. AreApart p.lanes a (acts_of p q (exchanged_round depth round) ws)) (sym acts)
      (subst (λ b. AreApart p.lanes (acts_of p q round (turned depth us)) b) (sym acts_too)
      (apart (turned depth us) (turned depth ws) (turned_in_range outers inner outer counts us in_range)
      (turned_in_range outers inner outer counts ws in_range_too) turned_other))

  turned_free : (loop : ℕ) (outers : List ℕ) (outer inner : ℕ) (counts : List ℕ) (round : PlainBody) →
      length outers ≡ loop →
      AreFree p q outers (outer ∷ inner ∷ counts) round → AreFree p q outers (inner ∷ outer ∷ counts)
      (exchanged_round loop round)
  turned_free loop outers outer inner counts round deep free =
      record {
        fresh = are-fresh-exchanged p.lanes 0 loop round ∙ free.fresh;
        linear = linear_exchanged loop round free.linear;
        apart =
            subst (λ n. AllApart p q (outers ++ inner ∷ outer ∷ counts) (exchanged_round n round)) deep
            (turned_apart outers outer inner counts round free.linear free.apart);
      }

  turned_rows : (loop : ℕ) (counts : List ℕ) (round : PlainBody) (vs us : List ℕ) (i j : ℕ) → length vs ≡ loop →
      has_linear_places round ≡ true →
      rows p q counts (exchanged_round loop round) (vs ++ j ∷ i ∷ us) ≡ rows p q counts round (vs ++ i ∷ j ∷ us)
  turned_rows loop [] round vs us i j long linear = exchanged_steps p loop round vs us i j q long linear
  turned_rows loop (count ∷ counts) round vs us i j long linear =
      ap (λ (f : ℕ → List Step). flat_map f (range_with_len 0 count) ++ []) (fun_ext (λ k.
      ap (rows p q counts (exchanged_round loop round)) (append_assoc vs (j ∷ i ∷ us) (k ∷ []))
      ∙ turned_rows loop counts round vs (us ++ k ∷ []) i j long linear
      ∙ ap (rows p q counts round) (sym (append_assoc vs (i ∷ j ∷ us) (k ∷ [])))))

  module _ (loop : ℕ) (outers : List ℕ) (outer inner : ℕ) (counts : List ℕ) (round : PlainBody) (vs : List ℕ) (deep : length outers ≡ loop)
      (in_range : AreInRange outers vs) (free : AreFree p q outers (outer ∷ inner ∷ counts) round) where
    abbrev values : ℕ → ℕ → List ℕ
    values i j = (vs ++ i ∷ []) ++ j ∷ []

    abbrev cell : ℕ → ℕ → List Step
    cell i j = rows p q counts round (values i j)

    values_are : (i j : ℕ) (us : List ℕ) → values i j ++ us ≡ vs ++ i ∷ j ∷ us
    values_are i j us = append_assoc (vs ++ i ∷ []) (j ∷ []) us ∙ append_assoc vs (i ∷ []) (j ∷ us)

    cells_apart : (i j k l : ℕ) → i < outer → j < inner → k < outer → l < inner → (i ≢ k) ⊎ (j ≢ l) → (us zs : List ℕ) →
        AreInRange counts us → AreInRange counts zs →
        AreApart p.lanes (acts_of p q round (values i j ++ us)) (acts_of p q round (values k l ++ zs))
    cells_apart i j k l small low less lower other us zs h h_too =
        subst (λ ws. AreApart p.lanes (acts_of p q round ws) (acts_of p q round (values k l ++ zs))) (sym (values_are i j us))
        (subst (λ ws. AreApart p.lanes (acts_of p q round (vs ++ i ∷ j ∷ us)) (acts_of p q round ws)) (sym (values_are k l zs))
        (free.apart (vs ++ i ∷ j ∷ us) (vs ++ k ∷ l ∷ zs)
        (in_both outers (outer ∷ inner ∷ counts) vs (i ∷ j ∷ us) in_range (small, (low, h)))
        (in_both outers (outer ∷ inner ∷ counts) vs (k ∷ l ∷ zs) in_range (less, (lower, h_too)))
        (others_behind vs i j k l us zs other)))

    turned_for : For p q (rows p q (inner ∷ outer ∷ counts) (exchanged_round loop round) vs)
        (rows p q (outer ∷ inner ∷ counts) round vs)
    turned_for =
        let new : rows p q (inner ∷ outer ∷ counts) (exchanged_round loop round) vs
        ≡ flat_map (λ j. flat_map (λ i. cell i j) (range_with_len 0 outer)) (range_with_len 0 inner) =
        append-nil _ ∙ ap (λ (f : ℕ → List Step). flat_map f (range_with_len 0 inner)) (fun_ext (λ j. append-nil _
        ∙ ap (λ (f : ℕ → List Step). flat_map f (range_with_len 0 outer)) (fun_ext (λ i.
        ap (rows p q counts (exchanged_round loop round)) (append_assoc vs (j ∷ []) (i ∷ []))
        ∙ turned_rows loop counts round vs [] i j (long_range outers vs in_range ∙ deep) free.linear
        ∙ ap (rows p q counts round) (sym (append_assoc vs (i ∷ []) (j ∷ []))))))) in
        let old : rows p q (outer ∷ inner ∷ counts) round vs ≡ flat_map (λ i. flat_map (λ j. cell i j) (range_with_len 0 inner)) (range_with_len 0 outer) =
        append-nil _ ∙ ap (λ (f : ℕ → List Step). flat_map f (range_with_len 0 outer)) (fun_ext (λ i. append-nil _)) in
        subst (λ xs. For p q xs (rows p q (outer ∷ inner ∷ counts) round vs)) (sym new)
        (subst (For p q (flat_map (λ j. flat_map (λ i. cell i j) (range_with_len 0 outer)) (range_with_len 0 inner))) (sym old)
        (for-exchange p.modulus p.lanes outer inner cell
        (exchanged_loops p.modulus p.lanes outer inner (λ i j. actions_of (cell i j))
        (λ i j small low. rows_sure p q counts round (values i j) free.fresh)
        (λ i j k l small low less lower other. rows_commute p q counts round (values i j) (values k l) free.fresh
        (cells_apart i j k l small low less lower other)))))

  -- ---- loops in order

  itself : (outers : List ℕ) (outer : ℕ) (counts : List ℕ) (round : PlainBody) →
      AreFree p q outers (outer ∷ counts) round →
      IsInPlace p q outers (record { outer = outer; inner = counts; round = round }) (outer ∷ counts) round
  itself outers outer counts round free =
      record { free = free; same = λ vs in_range. rows_itself p q (outer ∷ counts) round vs free.fresh }

  -- which of the loops are outer ones
  free_moved : (outers counts others more : List ℕ) (round : PlainBody) → outers ++ counts ≡ others ++ more →
      AreFree p q outers counts round → AreFree p q others more round
  free_moved outers counts others more round same free =
      record {
        fresh = free.fresh;
        linear = free.linear;
        apart = subst (λ ns. AllApart p q ns round) same free.apart;
      }

  -- the outermost of the loops becomes one of the outer loops, and the other way round
  free_inside : (outers : List ℕ) (count : ℕ) (counts : List ℕ) (round : PlainBody) →
      AreFree p q outers (count ∷ counts) round → AreFree p q (outers ++ count ∷ []) counts round
  free_inside outers count counts round =
      free_moved outers (count ∷ counts) (outers ++ count ∷ []) counts round (sym (append_assoc outers (count ∷ []) counts))

  free_outside : (outers : List ℕ) (count : ℕ) (counts : List ℕ) (round : PlainBody) →
      AreFree p q (outers ++ count ∷ []) counts round → AreFree p q outers (count ∷ counts) round
  free_outside outers count counts round =
      free_moved (outers ++ count ∷ []) counts outers (count ∷ counts) round (append_assoc outers (count ∷ []) counts)

  within_for : (outers : List ℕ) (count : ℕ) (nest : Nest) (counts : List ℕ) (round : PlainBody) (vs : List ℕ) →
      AreInRange outers vs →
      IsInPlace p q (outers ++ count ∷ []) nest counts round →
      For p q (rows p q (count ∷ nest.outer ∷ nest.inner) nest.round vs) (rows p q (count ∷ counts) round vs)
  within_for outers count nest counts round vs in_range inside =
      alone_for p q _ _ (loops_for p q (λ i. rows p q (nest.outer ∷ nest.inner) nest.round (vs ++ i ∷ [])) (λ i. rows p q counts round (vs ++ i ∷ [])) count
      (λ i lt. inside.same (vs ++ i ∷ []) (in_more outers vs count i in_range lt)))

  one_deeper : (loop : ℕ) (outers : List ℕ) (count : ℕ) → length outers ≡ loop →
      length (outers ++ count ∷ []) ≡ loop + 1
  one_deeper loop outers count deep = let long = length-append outers (count ∷ []) in omega (arith, long, deep)

  sunk_in_place : (loop : ℕ) (outers : List ℕ) (outer : ℕ) (counts : List ℕ) (round : PlainBody) →
      length outers ≡ loop →
      AreFree p q outers (outer ∷ counts) round → IsInPlace p q outers (sunk loop outer counts round)
      (outer ∷ counts) round
  sunk_in_place loop outers outer [] round deep free = itself outers outer [] round free
  sunk_in_place loop outers outer (count ∷ counts) round deep free =
      let deeper : Nest = sunk (loop + 1) outer counts (exchanged_round loop round) in
      by_test (λ nest. IsInPlace p q outers nest (outer ∷ count ∷ counts) round) (steps_less loop (first_load round))
      (within count deeper) (record { outer = outer; inner = count ∷ counts; round = round })
      (λ less.
      let inside =
      sunk_in_place (loop + 1) (outers ++ count ∷ []) outer counts (exchanged_round loop round)
      (one_deeper loop outers count deep)
      (free_inside outers count (outer ∷ counts) (exchanged_round loop round)
      (turned_free loop outers outer count counts round deep free)) in
      record {
        free = free_outside outers count (deeper.outer ∷ deeper.inner) deeper.round inside.free;
        same = λ vs in_range.
            for-trans p.modulus p.lanes (rows p q (count ∷ deeper.outer ∷ deeper.inner) deeper.round vs)
            (rows p q (count ∷ outer ∷ counts) (exchanged_round loop round) vs)
            (rows p q (outer ∷ count ∷ counts) round vs)
            (within_for outers count deeper (outer ∷ counts) (exchanged_round loop round) vs in_range inside)
            (turned_for loop outers outer count counts round vs deep in_range free);
      })
      (λ stays. itself outers outer (count ∷ counts) round free)

  ordered_in_place : (loop : ℕ) (outers : List ℕ) (outer : ℕ) (counts : List ℕ) (round : PlainBody) →
      length outers ≡ loop →
      AreFree p q outers (outer ∷ counts) round → IsInPlace p q outers (ordered loop outer counts round)
      (outer ∷ counts) round
  ordered_in_place loop outers outer [] round deep free = itself outers outer [] round free
  ordered_in_place loop outers outer (count ∷ counts) round deep free =
      let rest : Nest = ordered (loop + 1) count counts round in
      let inside : IsInPlace p q (outers ++ outer ∷ []) rest (count ∷ counts) round =
      ordered_in_place (loop + 1) (outers ++ outer ∷ []) count counts round (one_deeper loop outers outer deep) (free_inside outers outer (count ∷ counts) round free) in
      let whole = sunk_in_place loop outers outer (rest.outer ∷ rest.inner) rest.round deep (free_outside outers outer (rest.outer ∷ rest.inner) rest.round inside.free) in
      let nest : Nest = sunk loop outer (rest.outer ∷ rest.inner) rest.round in
      record {
        free = whole.free;
        same = λ vs in_range.
            for-trans p.modulus p.lanes (rows p q (nest.outer ∷ nest.inner) nest.round vs)
            (rows p q (outer ∷ rest.outer ∷ rest.inner) rest.round vs) (rows p q (outer ∷ count ∷ counts) round vs)
            (whole.same vs in_range) (within_for outers outer rest (count ∷ counts) round vs in_range inside);
      }

  -- ---- nests

  independent_free : (counts : List ℕ) (round : PlainBody) (store : Option Stored) →
      are_independent p.lanes counts store round ≡ true →
      are_fresh p.lanes 0 round ≡ true → StepsFit p (rows p q counts round []) → AreFree p q [] counts round
  independent_free counts round None h fresh fit = wrong h
  independent_free counts round (Some to) h fresh fit =
      let all = both_true (are_linear 0 to.parts) (are_nested 0 counts to.parts && are_placed p.lanes to (last_stride 0 counts to.parts) round) h in
      let placed = (both_true (are_nested 0 counts to.parts) (are_placed p.lanes to (last_stride 0 counts to.parts) round) all.1).1 in
      let fits : (us : List ℕ) → AreInRange counts us → All (StepFits p) (steps_of_body p round us q) =
      λ us in_range. all_fit p (steps_of_body p round us q) (λ s has. fit s (in_rows p q counts round [] us s in_range has)) in
      record {
        fresh = fresh;
        linear = placed_linear p.lanes to (last_stride 0 counts to.parts) round all.0 placed;
        apart = λ us ws in_range in_range_too other.
            apart_rounds p counts to round us ws q h in_range in_range_too other (fits us in_range) (fits ws in_range_too);
      }

  -- a nest that gets its loops in order, or not
  stmt_for : (stmt : PlainStmt) → is_nest p.lanes stmt ≡ true → StepsFit p (steps_of_stmt p stmt [] q) →
      For p q (steps_of_stmt p (interchanged_nest p.lanes stmt) [] q) (steps_of_stmt p stmt [] q)
  stmt_for (Loop count body) fresh fit =
      by_test (λ stmt. For p q (steps_of_stmt p stmt [] q) (steps_of_stmt p (Loop count body) [] q))
      (are_independent p.lanes counts (first_store (round_in body)) (round_in body)) (nest_stmt nest) (Loop count body)
      (λ e.
      let free =
      independent_free counts (round_in body) (first_store (round_in body)) e fresh
      (subst (StepsFit p) (sym rows_are) fit) in
      subst (For p q (steps_of_stmt p (nest_stmt nest) [] q)) rows_are
      (subst (λ xs. For p q xs (rows p q counts (round_in body) []))
      (append-nil (steps_of_stmt p (nest_stmt nest) [] q))
      ((ordered_in_place 0 [] count (counts_in body) (round_in body) refl free).same [] tt)))
      (λ e. subst (λ xs. For p q xs xs) rows_are (rows_itself p q counts (round_in body) [] fresh))
    where
      counts : List ℕ
      counts = count ∷ counts_in body

      rows_are : rows p q counts (round_in body) [] ≡ steps_of_stmt p (Loop count body) [] q
      rows_are =
          append-nil _ ∙ ap (λ (inside : PlainBody). steps_of_stmt p (Loop count inside) [] q) (looped_is body)

      nest : Nest
      nest = ordered 0 count (counts_in body) (round_in body)
  stmt_for (Do op) h fit = cc

  -- ---- bodies of phases

  pub body_for : (body : PlainBody) → are_nests p.lanes body ≡ true → StepsFit p (steps_of_body p body [] q) →
      For p q (steps_of_body p (interchanged_body p.lanes body) [] q) (steps_of_body p body [] q)
  body_for NoStmts h fit = for-nil p.modulus p.lanes
  body_for (AndStmts stmt rest) h fit =
      let both = both_true _ _ h in
      for-append p.modulus p.lanes (steps_of_stmt p (interchanged_nest p.lanes stmt) [] q) (steps_of_stmt p stmt [] q)
      (steps_of_body p (interchanged_body p.lanes rest) [] q) (steps_of_body p rest [] q)
      (stmt_for stmt both.0 (λ s has. fit s (Contains-append_left (steps_of_stmt p stmt [] q) (steps_of_body p rest [] q) s has)))
      (body_for rest both.1 (λ s has. fit s (Contains-append_right (steps_of_stmt p stmt [] q) (steps_of_body p rest [] q) s has)))

-- ---- a program whose bodies are interchanged leaves what it left

module _ (p : PlainProgram) (fits : PlainFits p) (apart : (phase : ℕ) → IsApart (plain_code p) phase) where
  abbrev there : PlainProgram
  there = with_phases p (map (interchanged_body p.lanes) p.phases)

  abbrev body_of : ℕ → PlainBody
  body_of phase = slice_index_or p.phases phase NoStmts

  as_many : (phase q : ℕ) → length (steps_of_phase there phase q) ≡ length (steps_of_phase p phase q)
  as_many phase q =
      ap (λ steps. length steps) (phase-is (interchanged_body p.lanes) refl p.phases p phase q)
      ∙ as_long p (body_of phase) q

  module _ (nests : list_all (are_nests p.lanes) p.phases ≡ true) where
    phase_for : (phase q : ℕ) → q < p.procs → For p q (steps_of_phase there phase q) (steps_of_phase p phase q)
    phase_for phase q lt =
        subst (λ steps. For p q steps (steps_of_phase p phase q))
        (sym (phase-is (interchanged_body p.lanes) refl p.phases p phase q))
        (body_for p q (body_of phase) (passes-at (are_nests p.lanes) refl p.phases phase nests)
        (λ s has. All-contains (StepFits p) (steps_of_phase p phase q) s (fits.each phase q lt) has))

    in_place : IsInPlaceOf there p
    in_place =
        let many = length-map p.phases (interchanged_body p.lanes) in
        in-place p there apart
        (λ phase q lt. of-members p there.phases (steps_of_phase there phase q) (steps_of_phase p phase q)
        (fits.each phase q lt) (phase_for phase q lt).members)
        (no-more p there fits many (λ phase q lt. let e = as_many phase q in omega (arith, e)))
        (memory-same p there (λ r s. length r ≡ length s) many refl
        (λ phase q lt. keep-many p.modulus p.lanes p.lanes (λ m n. m ≡ n) (actions_of (steps_of_phase there phase q))
        (actions_of (steps_of_phase p phase q)) (phase_for phase q lt).same))

  pub interchanged_program : IsInPlaceOf (interchanged p) p
  interchanged_program = where-true p fits apart there (list_all (are_nests p.lanes) p.phases) in_place
