-- The operations of a program on words, one after the other: what its actions and steps are, and what is kept where
-- each operation has another in its place.
use Rattle.std.proofs.Common.{◌≡◌, ℕ, suc, List, [], ◌∷◌, ◌++◌, All, length, map, flat_map, refl, sym, ap, ap₂, ◌∙◌}
use Rattle.std.specs.List.{range_with_len}
use Rattle.std.proofs.lemmas.List.{map-append}
use Rattle.std.proofs.lemmas.List.Elements.{All-nil, All-cons, All-head, All-tail}
use Rattle.icode.specs.Actions.{Step, step_of, steps_of_stmt, steps_of_body}
use Rattle.icode.specs.Plain.{PlainOp, PlainProgram}
use Rattle.word_code.specs.Bare.{bare_stmt, bare_body}
use Rattle.word_code.specs.WordMachine.{WordAction}
use Rattle.word_code.specs.WordProgram.{Note, WordStmt, WordBody, PlainWordProgram, Loop, Do, NoStmts, AndStmts}
use Rattle.word_code.specs.WordProgram.{word_action_of, word_actions_of_stmt, word_actions_of_body}

-- ---- lists, item for item

abbrev pub Pairwise : {X Y : Type 0} → (X → Y → Type 0) → List X → List Y → Type 0
Pairwise R [] [] = Unit {0}
Pairwise R [] (y ∷ ys) = ⊥
Pairwise R (x ∷ xs) [] = ⊥
Pairwise R (x ∷ xs) (y ∷ ys) = R x y × Pairwise R xs ys

module _ {X Y : Type 0} (R : X → Y → Type 0) where
  pub pairwise-append : (xs us : List X) (ys vs : List Y) → Pairwise R xs ys → Pairwise R us vs →
      Pairwise R (xs ++ us) (ys ++ vs)
  pairwise-append [] us [] vs none rest = rest
  pairwise-append (x ∷ xs) us (y ∷ ys) vs first rest = (first.0, pairwise-append xs us ys vs first.1 rest)
  pairwise-append _ us _ vs none rest = absurd none

  -- the turns of a loop
  pub pairwise-turns : (f : ℕ → List X) (g : ℕ → List Y) → ((i : ℕ) → Pairwise R (f i) (g i)) → (is : List ℕ) →
      Pairwise R (flat_map f is) (flat_map g is)
  pairwise-turns f g each [] = tt
  pairwise-turns f g each (i ∷ is) =
      pairwise-append (f i) (flat_map f is) (g i) (flat_map g is) (each i) (pairwise-turns f g each is)

  pub pairwise-length : (xs : List X) (ys : List Y) → Pairwise R xs ys → length ys ≡ length xs
  pairwise-length [] [] pairs = refl
  pairwise-length (x ∷ xs) (y ∷ ys) pairs = ap suc (pairwise-length xs ys pairs.1)
  pairwise-length _ _ pairs = absurd pairs

  pub pairwise-all : {Z W : Type 0} (f : X → Z) (g : Y → W) (P : Z → Type 0) (Q : W → Type 0) →
      ((x : X) (y : Y) → R x y → P (f x) → Q (g y)) → (xs : List X) (ys : List Y) → Pairwise R xs ys →
      All P (map f xs) → All Q (map g ys)
  pairwise-all f g P Q leads [] [] pairs all = All-nil Q
  pairwise-all f g P Q leads (x ∷ xs) (y ∷ ys) pairs all =
      All-cons Q (g y) (map g ys) (leads x y pairs.0 (All-head P (f x) (map f xs) all))
      (pairwise-all f g P Q leads xs ys pairs.1 (All-tail P (f x) (map f xs) all))
  pairwise-all f g P Q leads _ _ pairs all = absurd pairs

-- ---- operations, with the values of the loops that they stand in

pub record Leaf : Type 0 where
  pub note : Note
  pub op : PlainOp
  pub values : List ℕ

abbrev pub leaf : Note → PlainOp → List ℕ → Leaf
leaf note op vs = record { note = note; op = op; values = vs }

abbrev mutual
  pub leaves_of_stmt : WordStmt → List ℕ → List Leaf
  leaves_of_stmt (Loop count body) vs = flat_map (λ i. leaves_of_body body (vs ++ i ∷ [])) (range_with_len 0 count)
  leaves_of_stmt (Do note op) vs = leaf note op vs ∷ []

  pub leaves_of_body : WordBody → List ℕ → List Leaf
  leaves_of_body NoStmts vs = []
  leaves_of_body (AndStmts stmt rest) vs = leaves_of_stmt stmt vs ++ leaves_of_body rest vs

map-behind : {X : Type 0} (f : Leaf → X) (xs ys : List Leaf) (us vs : List X) → us ≡ map f xs → vs ≡ map f ys →
    us ++ vs ≡ map f (xs ++ ys)
map-behind f xs ys us vs e h = ap₂ (λ us vs. us ++ vs) e h ∙ sym (map-append f xs ys)

map-turns : {X : Type 0} (f : Leaf → X) (g : ℕ → List Leaf) (h : ℕ → List X) → ((i : ℕ) → h i ≡ map f (g i)) →
    (is : List ℕ) → flat_map h is ≡ map f (flat_map g is)
map-turns f g h e [] = refl
map-turns f g h e (i ∷ is) = map-behind f (g i) (flat_map g is) (h i) (flat_map h is) (e i) (map-turns f g h e is)

-- their actions on words
abbrev pub act_at : PlainWordProgram → ℕ → Leaf → WordAction
act_at w q l = word_action_of w l.note l.op l.values q

module _ (w : PlainWordProgram) (q : ℕ) where
  mutual
    pub stmt-acts : (stmt : WordStmt) (vs : List ℕ) →
        word_actions_of_stmt w stmt vs q ≡ map (act_at w q) (leaves_of_stmt stmt vs)
    stmt-acts (Loop count body) vs =
        map-turns (act_at w q) (λ i. leaves_of_body body (vs ++ i ∷ []))
        (λ i. word_actions_of_body w body (vs ++ i ∷ []) q)
        (λ i. body-acts body (vs ++ i ∷ [])) (range_with_len 0 count)
    stmt-acts (Do note op) vs = refl

    pub body-acts : (body : WordBody) (vs : List ℕ) →
        word_actions_of_body w body vs q ≡ map (act_at w q) (leaves_of_body body vs)
    body-acts NoStmts vs = refl
    body-acts (AndStmts stmt rest) vs =
        map-behind (act_at w q) (leaves_of_stmt stmt vs) (leaves_of_body rest vs) (word_actions_of_stmt w stmt vs q)
        (word_actions_of_body w rest vs q) (stmt-acts stmt vs) (body-acts rest vs)

-- and their steps
abbrev pub step_at : PlainProgram → ℕ → Leaf → Step
step_at p q l = step_of p l.op l.values q

module _ (p : PlainProgram) (q : ℕ) where
  mutual
    pub stmt-steps : (stmt : WordStmt) (vs : List ℕ) →
        steps_of_stmt p (bare_stmt stmt) vs q ≡ map (step_at p q) (leaves_of_stmt stmt vs)
    stmt-steps (Loop count body) vs =
        map-turns (step_at p q) (λ i. leaves_of_body body (vs ++ i ∷ []))
        (λ i. steps_of_body p (bare_body body) (vs ++ i ∷ []) q)
        (λ i. body-steps body (vs ++ i ∷ [])) (range_with_len 0 count)
    stmt-steps (Do note op) vs = refl

    pub body-steps : (body : WordBody) (vs : List ℕ) →
        steps_of_body p (bare_body body) vs q ≡ map (step_at p q) (leaves_of_body body vs)
    body-steps NoStmts vs = refl
    body-steps (AndStmts stmt rest) vs =
        map-behind (step_at p q) (leaves_of_stmt stmt vs) (leaves_of_body rest vs)
        (steps_of_stmt p (bare_stmt stmt) vs q)
        (steps_of_body p (bare_body rest) vs q) (stmt-steps stmt vs) (body-steps rest vs)
