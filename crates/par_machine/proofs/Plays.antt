-- Straight code does what its statements do.
use Rattle.std.proofs.Common.{◌≡◌, ℕ, zero, suc, ◌+◌, ◌*◌, ◌<◌, ◌≤◌, List, [], ◌∷◌, ◌++◌, true, false, length, map}
use Rattle.std.proofs.Common.{take, drop, flat_map, get_or, Option, Some, refl, sym, ap, ◌∙◌, subst, arith, le_refl}
use Rattle.std.proofs.Common.{⊎_elim, append_assoc, length-set, get_or-set_same, get_or-set_other, lt-ltb, nat_lt}
use Rattle.std.proofs.Common.{if◌then◌else◌}
use Rattle.std.specs.Prelude.{slice_get, slice_index, slice_set}
use Rattle.std.specs.List.{range_with_len}
use Rattle.std.proofs.lemmas.Bool.{cases_lt, le-ltb}
use Rattle.std.proofs.lemmas.Grind.{take-set_at}
use Rattle.std.proofs.lemmas.Option.{slice_get_read}
use Rattle.icode.specs.declared.program.Op.{Op}
use Rattle.icode.specs.Plain.{PlainProgram, plain_op}
use Rattle.icode.specs.Actions.{Step, Steps, step_of}
use Rattle.par_machine.specs.declared.cursor.Instruction.{Instruction}
use Rattle.par_machine.specs.declared.cursor.Instruction.TheVariants.{Act, Again}
use Rattle.par_machine.specs.Position.{Position, resting, positions}
use Rattle.par_machine.specs.Hand.{step_with, step_at}
use Rattle.par_machine.specs.Plays.{seen, Plays}
use Rattle.par_machine.proofs.Cursors.{rests_at_act, rests_after}

append_nil : (xs : List Step) → xs ++ [] ≡ xs
append_nil [] = refl
append_nil (x ∷ xs) = ap (λ ys. x ∷ ys) (append_nil xs)

map_append : {X Y : Type 0} (f : X → Y) (xs ys : List X) → map f (xs ++ ys) ≡ map f xs ++ map f ys
map_append f [] ys = refl
map_append f (x ∷ xs) ys = ap (λ zs. f x ∷ zs) (map_append f xs ys)

abbrev somes : List Step → List (Option Step)
somes xs = map (λ (s : Step). Some s) xs

-- No steps, and one after the other

pub plays_none : (p : PlainProgram) (code : List Instruction) (at depth : ℕ) → Plays p code at at depth 0 (λ vs q. [])
plays_none p code at depth =
    record {
      order = omega arith;
      some = λ lt. absurd (omega arith);
      none = λ e. refl;
      first = λ lt. absurd (omega arith);
      plays = λ n q values len closed. ap (λ k. seen p code q k at values) (zero_plus n);
    }
  where
    zero_plus : (n : ℕ) → 0 + n ≡ n
    zero_plus n = omega arith

pub plays_both : (p : PlainProgram) (code : List Instruction) (a b c depth m n : ℕ) (s t : Steps) →
    Plays p code a b depth m s → Plays p code b c depth n t → Plays p code a c depth (m + n) (λ vs q. s vs q ++ t vs q)
plays_both p code a b c depth m n s t h k =
    record {
      order = omega (arith, h.order, k.order);
      some = λ lt. ⊎_elim
          (λ (l : 0 < m). omega (arith, h.some l, k.order))
          (λ (l : m ≤ 0). omega (arith, h.order, k.some (omega arith)))
          (cases_lt 0 m);
      none = λ e. h.none (omega arith) ∙ k.none (omega arith);
      first = λ lt. ⊎_elim
          (λ (l : 0 < m). h.first l)
          (λ (l : m ≤ 0). subst (λ at. (values : List ℕ) → resting (drop at code) at values ≡ record { at = at; values = values }) (sym (h.none (omega arith))) (k.first (omega arith)))
          (cases_lt 0 m);
      plays = λ i q values len closed.
          let assoc : m + n + i ≡ m + (n + i) = omega arith in
          ap (λ j. seen p code q j a values) assoc
          ∙ (h.plays (n + i) q values len closed
          ∙ (ap (λ xs. somes (s (take depth values) q) ++ xs) (k.plays i q values len closed)
          ∙ (sym (append_assoc (somes (s (take depth values) q)) (somes (t (take depth values) q)) (seen p code q i c values))
          ∙ ap (λ xs. xs ++ seen p code q i c values) (sym (map_append (λ (x : Step). Some x) (s (take depth values) q) (t (take depth values) q))))));
    }

pub plays_same : (p : PlainProgram) (code : List Instruction) (a b depth m n : ℕ) (s t : Steps) → m ≡ n →
    ((vs : List ℕ) (q : ℕ) → s vs q ≡ t vs q) → Plays p code a b depth m s → Plays p code a b depth n t
plays_same p code a b depth m n s t e same h =
    record {
      order = h.order;
      some = λ lt. h.some (omega arith);
      none = λ z. h.none (omega arith);
      first = λ lt. h.first (omega arith);
      plays = λ i q values len closed.
          ap (λ k. seen p code q (k + i) a values) (sym e)
          ∙ (h.plays i q values len closed ∙ ap (λ xs. somes xs ++ seen p code q i b values) (same (take depth values) q));
    }

-- One action

pub plays_act : (p : PlainProgram) (code : List Instruction) (at depth : ℕ) (op : Op) (i : Instruction) →
    at < length code → i ≡ get_or code at i → i ≡ Act op depth →
    Plays p code at (at + 1) depth 1 (λ vs q. step_of p (plain_op op) vs q ∷ [])
plays_act p code at depth op i lt e is =
    record {
      order = omega arith;
      some = λ l. omega arith;
      none = λ z. absurd (omega arith);
      first = λ l values. rests_at_act code at values i op depth lt e is;
      plays = λ n q values len closed.
          let more : 1 + n ≡ suc n = omega arith in
          let here : slice_get code at ≡ Some (Act op depth) = slice_get_read code (length code) at i refl lt e ∙ ap (λ (x : Instruction). Some x) is in
          ap (λ k. seen p code q k at values) more
          ∙ (ap (λ place. map (λ (place : Position). step_at p code q place) (positions code (suc n) place)) (rests_at_act code at values i op depth lt e is)
          ∙ ap (λ o. step_with p values q o ∷ seen p code q n (at + 1) values) here);
    }

-- A loop

set_set : (xs : List ℕ) (i u v : ℕ) → slice_set (slice_set xs i u) i v ≡ slice_set xs i v
set_set [] i u v = refl
set_set (x ∷ xs) zero u v = refl
set_set (x ∷ xs) (suc i) u v = ap (λ ys. x ∷ ys) (set_set xs i u v)

set_back : (xs : List ℕ) (i v : ℕ) → slice_index xs i ≡ v → slice_set xs i v ≡ xs
set_back [] i v e = refl
set_back (x ∷ xs) zero v e = ap (λ y. y ∷ xs) (sym e)
set_back (x ∷ xs) (suc i) v e = ap (λ ys. x ∷ ys) (set_back xs i v e)

still_closed : (xs : List ℕ) (i v : ℕ) → ((k : ℕ) → i ≤ k → slice_index xs k ≡ 0) → (k : ℕ) → i + 1 ≤ k →
    slice_index (slice_set xs i v) k ≡ 0
still_closed xs i v h k le =
    let ne : k ≡ i → ⊥ = λ e. omega arith in
    get_or-set_other xs i k v 0 ne ∙ h k (omega arith)

module _ (p : PlainProgram) (code : List Instruction) (from end depth last len : ℕ) (steps : Steps) (i : Instruction)
    (lt : end < length code) (e : i ≡ get_or code end i) (is : i ≡ Again from last depth) (pos : 0 < len)
    (body : Plays p code from end (depth + 1) len steps) where
  -- where the body has ended for one value, it begins with the next, or the loop has ended
  again : (q n : ℕ) (values : List ℕ) (value : ℕ) → slice_index values depth ≡ value → value < last →
      seen p code q n end values ≡ seen p code q n from (slice_set values depth (value + 1))
  again q n values value ev small =
      let test : nat_lt (slice_index values depth) last ≡ true = lt-ltb _ _ (omega arith) in
      let next : Position = record { at = from; values = slice_set values depth (slice_index values depth + 1) } in
      let goes : resting (drop end code) end values ≡ next = rests_after code end values i from last depth lt e is ∙ ap (λ b. if b then next else resting (drop (end + 1) code) (end + 1) (slice_set values depth 0)) test in
      ap (λ place. map (λ (place : Position). step_at p code q place) (positions code n place))
      (goes ∙ (ap (λ v. record { at = from; values = slice_set values depth (v + 1) }) ev ∙ sym (body.first pos (slice_set values depth (value + 1)))))

  ends : (q n : ℕ) (values : List ℕ) → slice_index values depth ≡ last →
      seen p code q n end values ≡ seen p code q n (end + 1) (slice_set values depth 0)
  ends q n values ev =
      let test : nat_lt (slice_index values depth) last ≡ false = le-ltb _ _ (omega arith) in
      let next : Position = record { at = from; values = slice_set values depth (slice_index values depth + 1) } in
      ap (λ place. map (λ (place : Position). step_at p code q place) (positions code n place))
      (rests_after code end values i from last depth lt e is ∙ ap (λ b. if b then next else resting (drop (end + 1) code) (end + 1) (slice_set values depth 0)) test)

  abbrev turns : ℕ → List ℕ → ℕ → ℕ → List Step
  turns q values value j = flat_map (λ v. steps (take depth values ++ v ∷ []) q) (range_with_len value j)

  -- the body for one value
  one_value : (q m : ℕ) (values : List ℕ) → depth < length values → length values ≡ 64 →
      ((k : ℕ) → depth ≤ k → slice_index values k ≡ 0) → (value : ℕ) →
      seen p code q (len + m) from (slice_set values depth value) ≡ somes (steps (take depth values ++ value ∷ []) q)
      ++ seen p code q m end (slice_set values depth value)
  one_value q m values deep long closed value =
      let now : List ℕ = slice_set values depth value in
      body.plays m q now (length-set values depth value ∙ long) (still_closed values depth value closed)
      ∙ ap (λ front. somes (steps front q) ++ seen p code q m end now) (take-set_at values depth (depth + 1) value refl deep)

  from_value : (q n : ℕ) (values : List ℕ) → depth < length values → length values ≡ 64 →
      ((k : ℕ) → depth ≤ k → slice_index values k ≡ 0) → (j value : ℕ) → value + j ≡ last →
      seen p code q (suc j * len + n) from (slice_set values depth value) ≡ somes (turns q values value (suc j))
      ++ seen p code q n (end + 1) values
  from_value q n values deep long closed zero value all =
      let now : List ℕ = slice_set values depth value in
      let split : suc zero * len + n ≡ len + n = omega arith in
      let here : slice_index now depth ≡ last = get_or-set_same values depth value 0 deep ∙ omega arith in
      let back : slice_set now depth 0 ≡ values = set_set values depth value 0 ∙ set_back values depth 0 (closed depth (le_refl depth)) in
      ap (λ k. seen p code q k from now) split
      ∙ (one_value q n values deep long closed value
      ∙ (ap (λ xs. somes (steps (take depth values ++ value ∷ []) q) ++ xs) (ends q n now here ∙ ap (seen p code q n (end + 1)) back)
      ∙ ap (λ xs. somes xs ++ seen p code q n (end + 1) values) (sym (append_nil (steps (take depth values ++ value ∷ []) q)))))
  from_value q n values deep long closed (suc j) value all =
      let now : List ℕ = slice_set values depth value in
      let split : suc (suc j) * len + n ≡ len + (suc j * len + n) = omega arith in
      let here : slice_index now depth ≡ value = get_or-set_same values depth value 0 deep in
      let first : List Step = steps (take depth values ++ value ∷ []) q in
      ap (λ k. seen p code q k from now) split
      ∙ (one_value q (suc j * len + n) values deep long closed value
      ∙ (ap (λ xs. somes first ++ xs)
      (again q (suc j * len + n) now value here (omega arith)
      ∙ (ap (seen p code q (suc j * len + n) from) (set_set values depth value (value + 1))
      ∙ from_value q n values deep long closed j (value + 1) (omega arith)))
      ∙ (sym (append_assoc (somes first) (somes (turns q values (value + 1) (suc j))) (seen p code q n (end + 1) values))
      ∙ ap (λ xs. xs ++ seen p code q n (end + 1) values) (sym (map_append (λ (x : Step). Some x) first (turns q values (value + 1) (suc j)))))))

  pub plays_loop : depth < 64 → Plays p code from (end + 1) depth (suc last * len)
      (λ vs q. flat_map (λ v. steps (vs ++ v ∷ []) q) (range_with_len 0 (suc last)))
  plays_loop deep =
      let inside : from ≤ end = body.order in
      record {
        order = omega arith;
        some = λ l. omega arith;
        none = λ z. absurd (none_of_none last len pos z);
        first = λ l. body.first pos;
        plays = λ n q values long closed.
            ap (seen p code q (suc last * len + n) from) (sym (set_back values depth 0 (closed depth (le_refl depth))))
            ∙ from_value q n values (omega arith) long closed last 0 (omega arith);
      }
    where
      none_of_none : (last len : ℕ) → 0 < len → suc last * len ≡ 0 → ⊥
      none_of_none last len pos z = omega arith
