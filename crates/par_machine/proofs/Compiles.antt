-- Code that is appended statement by statement.
use Rattle.std.proofs.Common.{◌≡◌, ℕ, zero, suc, ◌+◌, ◌-◌, ◌*◌, ◌<◌, ◌≤◌, List, [], ◌∷◌, ◌++◌, true, length, take}
use Rattle.std.proofs.Common.{flat_map, get_or, All, refl, sym, ap, ◌∙◌, subst, arith, ⊎_elim, length-append}
use Rattle.std.proofs.Common.{append_assoc, ltb-true, append-nil}
use Rattle.std.specs.List.{range_with_len}
use Rattle.std.proofs.lemmas.Bool.{cases_lt}
use Rattle.std.proofs.lemmas.List.{take_more}
use Rattle.icode.specs.declared.program.Op.{Op}
use Rattle.icode.specs.declared.program.Stmt.{Stmt}
use Rattle.icode.specs.Plain.{PlainProgram, PlainOp, PlainStmt, PlainBody, Loop, Do, plain_op, plain_stmt, plain_body}
use Rattle.icode.specs.Limits.{is_op_within, is_stmt_within, is_body_within}
use Rattle.icode.specs.Actions.{Step, Steps, step_of, steps_of_stmt, steps_of_body}
use Rattle.icode.specs.Lengths.{len_of_stmt, len_of_body}
use Rattle.icode.proofs.Lengths.{stmt_length}
use Rattle.icode.proofs.Bools.{both_true}
use Rattle.par_machine.specs.declared.cursor.Instruction.{Instruction}
use Rattle.par_machine.specs.declared.cursor.Instruction.TheVariants.{Act, Again}
use Rattle.par_machine.specs.Instruction.{IsClosed, IsWithin}
use Rattle.par_machine.specs.Plays.{Plays, IsCompiled}
use Rattle.par_machine.proofs.Plays.{plays_none, plays_both, plays_same, plays_act, plays_loop}

all_more : {X : Type 0} (P : X → Type 0) (xs : List X) (x : X) → All P xs → P x → All P (xs ++ x ∷ [])
all_more P [] x all px zero d lt = px
all_more P [] x all px (suc k) d lt = absurd (omega arith)
all_more P (y ∷ xs) x all px zero d lt = all 0 d (omega arith)
all_more P (y ∷ xs) x all px (suc k) d lt = all_more P xs x (λ j e l. all (suc j) e (omega arith)) px k d (omega arith)

-- the item at the seam
at_seam : {X : Type 0} (xs ys : List X) (x : X) → x ≡ get_or (xs ++ x ∷ ys) (length xs) x
at_seam [] ys x = refl
at_seam (y ∷ xs) ys x = at_seam xs ys x

abbrev pub DoesSteps : ℕ → ℕ → PlainStmt → List Instruction → List Instruction → Type 0
DoesSteps m depth s before after = IsCompiled m depth (len_of_stmt s) (λ p. steps_of_stmt p s) before after

pub compiled_none : (m depth : ℕ) (code : List Instruction) → IsCompiled m depth 0 (λ p vs q. []) code code
compiled_none m depth code =
    record {
      more = [];
      appended = sym (append-nil code);
      closed = λ h. h;
      within = λ h. h;
      plays = λ p rest. plays_none p (code ++ rest) (length code) depth;
    }

pub compiled_both : (m depth n k : ℕ) (s t : PlainProgram → Steps) (a b c : List Instruction) →
    IsCompiled m depth n s a b → IsCompiled m depth k t b c →
    IsCompiled m depth (n + k) (λ p vs q. s p vs q ++ t p vs q) a c
compiled_both m depth n k s t a b c h g =
    record {
      more = h.more ++ g.more;
      appended = g.appended ∙ (ap (λ xs. xs ++ g.more) h.appended ∙ append_assoc a h.more g.more);
      closed = λ all. g.closed (h.closed all);
      within = λ all. g.within (h.within all);
      plays = λ p rest.
          let same : b ++ (g.more ++ rest) ≡ c ++ rest = sym (append_assoc b g.more rest) ∙ ap (λ xs. xs ++ rest) (sym g.appended) in
          plays_both p (c ++ rest) (length a) (length b) (length c) depth n k (s p) (t p)
          (subst (λ code. Plays p code (length a) (length b) depth n (s p)) same (h.plays p (g.more ++ rest)))
          (g.plays p rest);
    }

pub compiled_same : (m depth n k : ℕ) (s t : PlainProgram → Steps) (a b : List Instruction) → n ≡ k →
    ((p : PlainProgram) (vs : List ℕ) (q : ℕ) → s p vs q ≡ t p vs q) → IsCompiled m depth n s a b →
    IsCompiled m depth k t a b
compiled_same m depth n k s t a b e same h =
    record {
      more = h.more;
      appended = h.appended;
      closed = h.closed;
      within = h.within;
      plays = λ p rest. plays_same p (b ++ rest) (length a) (length b) depth n k (s p) (t p) e (same p) (h.plays p rest);
    }

pub compiled_do : (m depth : ℕ) (op : PlainOp) (copy : Op) (s : PlainStmt) (a b : List Instruction) → s ≡ Do op →
    plain_op copy ≡ op → depth ≤ 64 → is_stmt_within m s depth ≡ true → b ≡ a ++ Act copy depth ∷ [] →
    DoesSteps m depth s a b
compiled_do m depth op copy s a b is same deep within e =
    let here : (rest : List Instruction) → b ++ rest ≡ a ++ Act copy depth ∷ rest = λ rest. ap (λ xs. xs ++ rest) e ∙ append_assoc a (Act copy depth ∷ []) rest in
    let end : length a + 1 ≡ length b = sym (ap length e ∙ length-append a (Act copy depth ∷ [])) in
    let open_op : is_op_within m (plain_op copy) depth ≡ true = ap (λ o. is_op_within m o depth) same ∙ (sym (ap (λ s. is_stmt_within m s depth) is) ∙ within) in
    subst (λ s. DoesSteps m depth s a b) (sym is)
    record {
      more = Act copy depth ∷ [];
      appended = e;
      closed = λ all. subst (All IsClosed) (sym e) (all_more IsClosed a (Act copy depth) all deep);
      within = λ all. subst (All (IsWithin m)) (sym e) (all_more (IsWithin m) a (Act copy depth) all open_op);
      plays = λ p rest. subst (λ to. Plays p (b ++ rest) (length a) to depth 1 (λ vs q. step_of p op vs q ∷ [])) end
          (subst (λ o. Plays p (b ++ rest) (length a) (length a + 1) depth 1 (λ vs q. step_of p o vs q ∷ [])) same
          (plays_act p (b ++ rest) (length a) depth copy (Act copy depth)
          (omega (arith, ap length (here rest), length-append a (Act copy depth ∷ rest)))
          (at_seam a rest (Act copy depth) ∙ ap (λ xs. get_or xs (length a) (Act copy depth)) (sym (here rest))) refl));
    }

-- A loop

loop_within : (m depth count : ℕ) (body : PlainBody) → is_stmt_within m (Loop count body) depth ≡ true →
    (0 < count) × (depth < 64) × (is_body_within m body (depth + 1) ≡ true)
loop_within m depth count body e =
    let parts = both_true _ _ e in
    let more = both_true _ _ parts.1 in
    (ltb-true 0 count (both_true _ _ parts.0).0, ltb-true depth 64 more.0, more.1)

pub loop_parts : (m depth count : ℕ) (body : PlainBody) (s : PlainStmt) → s ≡ Loop count body →
    is_stmt_within m s depth ≡ true → (0 < count) × (depth < 64) × (is_body_within m body (depth + 1) ≡ true)
loop_parts m depth count body s is e = loop_within m depth count body (sym (ap (λ s. is_stmt_within m s depth) is) ∙ e)

empty_is : (xs : List Step) → length xs ≡ 0 → xs ≡ []
empty_is [] e = refl
empty_is (x ∷ xs) e = absurd (omega arith)

pub compiled_empty : (m depth count : ℕ) (body : PlainBody) (s : PlainStmt) (a b : List Instruction) →
    s ≡ Loop count body → IsCompiled m (depth + 1) (len_of_body body) (λ p. steps_of_body p body) a b →
    length b ≤ length a → DoesSteps m depth s a b
compiled_empty m depth count body s a b is h short =
    let p0 : PlainProgram = record { size = 0; modulus = 0; procs = 0; line = 0; lanes = 0; regs = 0; tables = []; phases = [] } in
    let same_end : length a ≡ length b = omega (arith, (h.plays p0 []).order) in
    let len : len_of_body body ≡ 0 = ⊎_elim
    (λ (l : 0 < len_of_body body). absurd (omega (arith, (h.plays p0 []).some l)))
    (λ (l : len_of_body body ≤ 0). zero_is (len_of_body body) l)
    (cases_lt 0 (len_of_body body)) in
    let whole : len_of_stmt s ≡ 0 = ap len_of_stmt is ∙ (ap (λ n. count * n) len ∙ times_zero count) in
    record {
      more = h.more;
      appended = h.appended;
      closed = h.closed;
      within = h.within;
      plays = λ p rest. plays_same p (b ++ rest) (length a) (length b) depth 0 (len_of_stmt s) (λ vs q. []) (steps_of_stmt p s) (sym whole)
          (λ vs q. sym (empty_is (steps_of_stmt p s vs q) (stmt_length p s vs q ∙ whole)))
          (subst (λ to. Plays p (b ++ rest) (length a) to depth 0 (λ vs q. [])) same_end (plays_none p (b ++ rest) (length a) depth));
    }
  where
    times_zero : (n : ℕ) → n * 0 ≡ 0
    times_zero n = omega arith

    zero_is : (n : ℕ) → n ≤ 0 → n ≡ 0
    zero_is n le = omega arith

pub compiled_loop : (m depth count : ℕ) (body : PlainBody) (s : PlainStmt) (a b c : List Instruction) →
    s ≡ Loop count body → 0 < count → depth < 64 → IsCompiled m (depth + 1) (len_of_body body)
    (λ p. steps_of_body p body) a b → length a < length b → c ≡ b ++ Again (length a) (count - 1) depth ∷ [] →
    DoesSteps m depth s a c
compiled_loop m depth count body s a b c is pos deep h long e =
    let jump : Instruction = Again (length a) (count - 1) depth in
    let p0 : PlainProgram = record { size = 0; modulus = 0; procs = 0; line = 0; lanes = 0; regs = 0; tables = []; phases = [] } in
    let some : 0 < len_of_body body = ⊎_elim
    (λ (l : 0 < len_of_body body). l)
    (λ (l : len_of_body body ≤ 0). absurd (omega (arith, (h.plays p0 []).none (zero_is (len_of_body body) l))))
    (cases_lt 0 (len_of_body body)) in
    let all : suc (count - 1) ≡ count = omega arith in
    let end : length b + 1 ≡ length c = sym (ap length e ∙ length-append b (jump ∷ [])) in
    subst (λ s. DoesSteps m depth s a c) (sym is)
    record {
      more = h.more ++ jump ∷ [];
      appended = e ∙ (ap (λ xs. xs ++ jump ∷ []) h.appended ∙ append_assoc a h.more (jump ∷ []));
      closed = λ ok. subst (All IsClosed) (sym e) (all_more IsClosed b jump (h.closed ok) deep);
      within = λ ok. subst (All (IsWithin m)) (sym e) (all_more (IsWithin m) b jump (h.within ok) tt);
      plays = λ p rest.
          let here : c ++ rest ≡ b ++ jump ∷ rest = ap (λ xs. xs ++ rest) e ∙ append_assoc b (jump ∷ []) rest in
          subst (λ to. Plays p (c ++ rest) (length a) to depth (count * len_of_body body) (λ vs q. flat_map (λ v. steps_of_body p body (vs ++ v ∷ []) q) (range_with_len 0 count))) end
          (subst (λ n. Plays p (c ++ rest) (length a) (length b + 1) depth (n * len_of_body body) (λ vs q. flat_map (λ v. steps_of_body p body (vs ++ v ∷ []) q) (range_with_len 0 n))) all
          (plays_loop p (c ++ rest) (length a) (length b) depth (count - 1) (len_of_body body) (steps_of_body p body) jump
          (omega (arith, ap length here, length-append b (jump ∷ rest)))
          (at_seam b rest jump ∙ ap (λ xs. get_or xs (length b) jump) (sym here)) refl some
          (subst (λ code. Plays p code (length a) (length b) (depth + 1) (len_of_body body) (steps_of_body p body)) (sym here) (h.plays p (jump ∷ rest))) deep));
    }
  where
    zero_is : (n : ℕ) → n ≤ 0 → n ≡ 0
    zero_is n le = omega arith

-- One more statement

body_steps_more : (p : PlainProgram) (xs : List Stmt) (x : Stmt) (vs : List ℕ) (q : ℕ) →
    steps_of_body p (plain_body xs) vs q ++ steps_of_stmt p (plain_stmt x) vs q
    ≡ steps_of_body p (plain_body (xs ++ x ∷ [])) vs q
body_steps_more p [] x vs q = sym (append-nil (steps_of_stmt p (plain_stmt x) vs q))
body_steps_more p (y ∷ xs) x vs q =
    append_assoc (steps_of_stmt p (plain_stmt y) vs q) (steps_of_body p (plain_body xs) vs q) (steps_of_stmt p (plain_stmt x) vs q)
    ∙ ap (λ zs. steps_of_stmt p (plain_stmt y) vs q ++ zs) (body_steps_more p xs x vs q)

body_len_more : (xs : List Stmt) (x : Stmt) → len_of_body (plain_body xs) + len_of_stmt (plain_stmt x)
    ≡ len_of_body (plain_body (xs ++ x ∷ []))
body_len_more [] x = plus_swap (len_of_stmt (plain_stmt x))
  where
    plus_swap : (n : ℕ) → 0 + n ≡ n + 0
    plus_swap n = omega arith
body_len_more (y ∷ xs) x = assoc (len_of_stmt (plain_stmt y)) (len_of_body (plain_body xs)) (len_of_stmt (plain_stmt x)) ∙ ap (λ n. len_of_stmt (plain_stmt y) + n) (body_len_more xs x)
  where
    assoc : (a b c : ℕ) → a + b + c ≡ a + (b + c)
    assoc a b c = omega arith

abbrev pub DoesBody : ℕ → ℕ → List Stmt → List Instruction → List Instruction → Type 0
DoesBody m depth body before after = IsCompiled m depth (len_of_body (plain_body body)) (λ p. steps_of_body p (plain_body body)) before after

pub compiled_more : (m depth i : ℕ) (items : List Stmt) (x : Stmt) (a b c : List Instruction) → i < length items →
    x ≡ get_or items i x → DoesBody m depth (take i items) a b → DoesSteps m depth (plain_stmt x) b c →
    DoesBody m depth (take (i + 1) items) a c
compiled_more m depth i items x a b c lt e h g =
    let front : take i items ++ x ∷ [] ≡ take (i + 1) items = ap (λ y. take i items ++ y ∷ []) e ∙ sym (take_more items i x lt) in
    subst (λ xs. DoesBody m depth xs a c) front
    (compiled_same m depth _ _ _ (λ p. steps_of_body p (plain_body (take i items ++ x ∷ []))) a c (body_len_more (take i items) x) (λ p vs q. body_steps_more p (take i items) x vs q)
    (compiled_both m depth (len_of_body (plain_body (take i items))) (len_of_stmt (plain_stmt x)) (λ p. steps_of_body p (plain_body (take i items))) (λ p. steps_of_stmt p (plain_stmt x)) a b c h g))

pub item_within : (m depth i : ℕ) (items : List Stmt) (x : Stmt) → is_body_within m (plain_body items) depth ≡ true →
    i < length items → x ≡ get_or items i x → is_stmt_within m (plain_stmt x) depth ≡ true
item_within m depth i [] x e lt is = absurd (omega arith)
item_within m depth zero (y ∷ items) x e lt is = ap (λ s. is_stmt_within m (plain_stmt s) depth) is ∙ (both_true _ _ e).0
item_within m depth (suc i) (y ∷ items) x e lt is = item_within m depth i items x (both_true _ _ e).1 (omega arith) is

pub take_whole : (n : ℕ) (xs : List Stmt) → length xs ≤ n → take n xs ≡ xs
take_whole zero [] le = refl
take_whole (suc n) [] le = refl
take_whole zero (x ∷ xs) le = absurd (omega arith)
take_whole (suc n) (x ∷ xs) le = ap (λ ys. x ∷ ys) (take_whole n xs (omega arith))
