-- A nest that goes into the loops of others, whose blocks it shares: it does what it did after them.
use Rattle.std.proofs.Common.{◌≡◌, ℕ, zero, suc, ◌+◌, ◌*◌, ◌<◌, true, ◌&&◌, List, [], ◌∷◌, ◌++◌, Contains, flat_map}
use Rattle.std.proofs.Common.{length, refl, sym, ap, ap₂, ◌∙◌, subst, arith, eqb-true, ⊎_elim, append-nil}
use Rattle.std.proofs.Common.{append_assoc, length-append}
use Rattle.std.specs.Prelude.{◌==◌}
use Rattle.std.specs.List.{range_with_len}
use Rattle.std.proofs.Math.Path.{fun_ext}
use Rattle.std.proofs.lemmas.List.Elements.{Contains-append_left, Contains-append_right, Contains-append_cases}
use Rattle.icode.specs.Sequences.Nests.{AreInRange}
use Rattle.icode.specs.declared.action.Action.{Action}
use Rattle.icode.specs.Actions.{Step, actions_of, steps_of_body}
use Rattle.icode.specs.Lengths.{len_of_body}
use Rattle.icode.specs.Machine.{Local, effects}
use Rattle.icode.specs.Plain.{PlainBody, PlainProgram, Loop, Do, NoStmts, AndStmts}
use Rattle.icode.proofs.Bools.{both_true}
use Rattle.icode.proofs.SequenceLemmas.ByLane.{lists_follow}
use Rattle.icode.proofs.SequenceLemmas.Stores.{length-registers}
use Rattle.icode.proofs.Lengths.{stmt_length, body_length}
use Rattle.fused_loops.specs.declared.blocks.Block.{Block}
use Rattle.nests.specs.Nests.{counts_in, round_in}
use Rattle.nests.specs.Rounds.{are_fresh}
use Rattle.fused_loops.specs.Blocks.{shared}
use Rattle.fused_loops.specs.Fused.{put_behind, in_last, fused_stmts}
use Rattle.nests.proofs.Acts.{DoTheSame, memory_by}
use Rattle.nests.proofs.Bools.{by_test}
use Rattle.nests.proofs.Rows.{actions_of-append, actions_of-loop, in-loop, of-loop, for-trans, For, acts_of, rows}
use Rattle.nests.proofs.Rows.{round_acts, loops_for, past_rows, rows_sure}
use Rattle.nests.proofs.Swaps.{IsSure, Commute, parted, same-append}
use Rattle.nests.proofs.Counts.{looped_is}
use Rattle.nests.proofs.Members.{append_within}
use Rattle.fused_loops.proofs.SameBlocks.{AreRoundsInside, HasBlocks}
use Rattle.fused_loops.proofs.Steps.{EndsIn, ends-put, ends-changed, put-all, parted_last}
use Rattle.fused_loops.proofs.Within.{IsWithin, IsInside, within-round, within-append, within-loop, within-same}
use Rattle.fused_loops.proofs.Within.{never-both}

-- ---- steps that leave the same memory, from the same registers on

abbrev pub Leave : ℕ → ℕ → List Action → List Action → Type 0
Leave m lanes fs gs = (r memory : List ℕ) → memory_by m lanes fs r memory ≡ memory_by m lanes gs r memory

pub record LeaveFor (m lanes : ℕ) (xs ys : List Step) : Type 0 where
  pub long : length xs ≡ length ys
  pub same : Leave m lanes (actions_of xs) (actions_of ys)
  pub members : (s : Step) → Contains xs s → Contains ys s

module _ (p : PlainProgram) (q : ℕ) where
  abbrev pub LeavesFor : List Step → List Step → Type 0
  LeavesFor = LeaveFor p.modulus p.lanes

  abbrev Sure : List Step → Type 0
  Sure xs = IsSure p.modulus p.lanes (actions_of xs)

  pub leaves-itself : (xs ys : List Step) → xs ≡ ys → LeavesFor xs ys
  leaves-itself xs ys e = subst (LeavesFor xs) e (record { long = refl; same = λ r memory. refl; members = λ s h. h })

  pub leaves-trans : (xs ys zs : List Step) → LeavesFor xs ys → LeavesFor ys zs → LeavesFor xs zs
  leaves-trans xs ys zs h k =
      record {
        long = h.long ∙ k.long;
        same = λ r memory. h.same r memory ∙ k.same r memory;
        members = λ s has. k.members s (h.members s has);
      }

  -- after the same steps
  leaves-front : (front xs ys : List Step) → length xs ≡ length ys → For p q xs ys →
      LeavesFor (front ++ xs) (front ++ ys)
  leaves-front front xs ys as_long h =
      record {
        long = length-append front xs ∙ ap (λ n. length front + n) as_long ∙ sym (length-append front ys);
        same = λ r memory.
            let start : Local = record { memory = memory; registers = r } in
            let after : Local = effects p.modulus p.lanes (actions_of front) start in
            ap (λ fs. memory_by p.modulus p.lanes fs r memory) (actions_of-append front xs)
            ∙ ap (λ (z : Local). z.memory) (lists_follow p.modulus p.lanes (actions_of front) (actions_of xs) start)
            ∙ h.same after.registers after.registers after.memory refl
            ∙ sym (ap (λ (z : Local). z.memory) (lists_follow p.modulus p.lanes (actions_of front) (actions_of ys) start))
            ∙ sym (ap (λ fs. memory_by p.modulus p.lanes fs r memory) (actions_of-append front ys));
        members = append_within front front xs ys (λ s has. has) h.members;
      }

  -- before steps that leave the same whatever stands in the registers
  pub leaves-behind : (xs ys zs : List Step) → LeavesFor xs ys → Sure zs → LeavesFor (xs ++ zs) (ys ++ zs)
  leaves-behind xs ys zs h sure =
      record {
        long = length-append xs zs ∙ ap (λ n. n + length zs) h.long ∙ sym (length-append ys zs);
        same = λ r memory.
            let start : Local = record { memory = memory; registers = r } in
            let one : Local = effects p.modulus p.lanes (actions_of xs) start in
            let other : Local = effects p.modulus p.lanes (actions_of ys) start in
            let long : length one.registers ≡ length other.registers =
            length-registers p.modulus p.lanes (actions_of xs) start ∙ sym (length-registers p.modulus p.lanes (actions_of ys) start) in
            ap (λ fs. memory_by p.modulus p.lanes fs r memory) (actions_of-append xs zs)
            ∙ ap (λ (z : Local). z.memory) (lists_follow p.modulus p.lanes (actions_of xs) (actions_of zs) start)
            ∙ sure one.registers other.registers one.memory long
            ∙ ap (memory_by p.modulus p.lanes (actions_of zs) other.registers) (h.same r memory)
            ∙ sym (ap (λ (z : Local). z.memory) (lists_follow p.modulus p.lanes (actions_of ys) (actions_of zs) start))
            ∙ sym (ap (λ fs. memory_by p.modulus p.lanes fs r memory) (actions_of-append ys zs));
        members = append_within xs ys zs zs h.members (λ s has. has);
      }

  pub sure-append : (xs ys : List Step) → Sure xs → Sure ys → Sure (xs ++ ys)
  sure-append xs ys one other =
      subst (λ fs. IsSure p.modulus p.lanes fs) (sym (actions_of-append xs ys))
      (same-append p.modulus p.lanes (actions_of xs) (actions_of xs) (actions_of ys) (actions_of ys) one other)

  -- ---- a loop whose rounds are of two parts becomes two loops

  parted-for : (n : ℕ) (f g : ℕ → List Step) → ((i : ℕ) → i < n → Sure (f i)) → ((i : ℕ) → i < n → Sure (g i)) →
      ((j l : ℕ) → j < l → l < n → Commute p.modulus p.lanes (actions_of (g j)) (actions_of (f l))) →
      For p q (flat_map (λ i. f i ++ g i) (range_with_len 0 n))
      (flat_map f (range_with_len 0 n) ++ flat_map g (range_with_len 0 n))
  parted-for n f g sure sure_too commute =
      let both : ℕ → List Step = λ i. f i ++ g i in
      let rounds : List ℕ = range_with_len 0 n in
      let one : ℕ → List Action = λ i. actions_of (f i) in
      let other : ℕ → List Action = λ i. actions_of (g i) in
      let new : actions_of (flat_map both rounds) ≡ flat_map (λ i. one i ++ other i) rounds =
      actions_of-loop both rounds ∙ ap (λ (h : ℕ → List Action). flat_map h rounds) (fun_ext (λ i. actions_of-append (f i) (g i))) in
      let old : actions_of (flat_map f rounds ++ flat_map g rounds) ≡ flat_map one rounds ++ flat_map other rounds =
      actions_of-append (flat_map f rounds) (flat_map g rounds) ∙ ap₂ (λ (xs ys : List Action). xs ++ ys) (actions_of-loop f rounds) (actions_of-loop g rounds) in
      record {
        same =
            subst (λ xs. DoTheSame p.modulus p.lanes xs (actions_of (flat_map f rounds ++ flat_map g rounds))) (sym new)
            (subst (DoTheSame p.modulus p.lanes (flat_map (λ i. one i ++ other i) rounds)) (sym old)
            (parted p.modulus p.lanes n one other sure sure_too commute));
        members = λ s has.
            let at = of-loop both 0 n s has in
            ⊎_elim
            (λ (early : Contains (f at.round) s). Contains-append_left (flat_map f rounds) (flat_map g rounds) s (in-loop f 0 n at.round s at.low at.high early))
            (λ (late : Contains (g at.round) s). Contains-append_right (flat_map f rounds) (flat_map g rounds) s (in-loop g 0 n at.round s at.low at.high late))
            (Contains-append_cases (f at.round) (g at.round) s at.inside);
      }

  -- ---- nests

  rows-within : (low step : ℕ) (counts : List ℕ) (round : PlainBody) (ws : List ℕ) → are_fresh p.lanes 0 round ≡ true →
      ((us : List ℕ) → AreInRange counts us → IsInside p low step (acts_of p q round (ws ++ us))) →
      IsWithin p low step (actions_of (rows p q counts round ws))
  rows-within low step [] round ws fresh inside =
      subst (λ vs. IsWithin p low step (acts_of p q round vs)) (append-nil ws)
      (within-round p low step (acts_of p q round (ws ++ [])) (round_acts p q round (ws ++ []) fresh) (inside [] tt))
  rows-within low step (count ∷ counts) round ws fresh inside =
      let turn : ℕ → List Step = λ i. rows p q counts round (ws ++ i ∷ []) in
      let each : ℕ → List Action = λ i. actions_of (turn i) in
      let split : actions_of (flat_map turn (range_with_len 0 count) ++ []) ≡ flat_map each (range_with_len 0 count) =
      ap actions_of (append-nil (flat_map turn (range_with_len 0 count))) ∙ actions_of-loop turn (range_with_len 0 count) in
      subst (IsWithin p low step) (sym split)
      (within-loop p low step count each (λ i lt. rows-within low step counts round (ws ++ i ∷ []) fresh
      (λ us in_range. subst (λ vs. IsInside p low step (acts_of p q round vs)) (sym (append_assoc ws (i ∷ []) us)) (inside (i ∷ us) (lt, in_range)))))

  body-within : (low step : ℕ) (body : PlainBody) (ws : List ℕ) → are_fresh p.lanes 0 (round_in body) ≡ true →
      AreRoundsInside p q low step body ws → IsWithin p low step (acts_of p q body ws)
  body-within low step body ws fresh inside =
      subst (λ b. IsWithin p low step (acts_of p q b ws)) (looped_is body) (rows-within low step (counts_in body) (round_in body) ws fresh inside)

  pub body-sure : (body : PlainBody) (ws : List ℕ) → are_fresh p.lanes 0 (round_in body) ≡ true →
      Sure (steps_of_body p body ws q)
  body-sure body ws fresh =
      subst (λ b. IsSure p.modulus p.lanes (acts_of p q b ws)) (looped_is body) (rows_sure p q (counts_in body) (round_in body) ws fresh)

  -- an earlier round of a nest may come after a later round of others
  past-later : (base step j l : ℕ) (body inside : PlainBody) (vs : List ℕ) → j < l →
      are_fresh p.lanes 0 (round_in body) ≡ true →
      AreRoundsInside p q (base + j * step) step body (vs ++ j ∷ []) →
      IsWithin p (base + l * step) step (acts_of p q inside (vs ++ l ∷ [])) →
      Commute p.modulus p.lanes (acts_of p q body (vs ++ j ∷ [])) (acts_of p q inside (vs ++ l ∷ []))
  past-later base step j l body inside vs less fresh rounds within =
      subst (λ b. Commute p.modulus p.lanes (acts_of p q b (vs ++ j ∷ [])) (acts_of p q inside (vs ++ l ∷ []))) (looped_is body)
      (past_rows p q (counts_in body) (round_in body) (vs ++ j ∷ []) (acts_of p q inside (vs ++ l ∷ [])) fresh within.sure
      (λ us in_range. within.past (acts_of p q (round_in body) ((vs ++ j ∷ []) ++ us)) (round_acts p q (round_in body) ((vs ++ j ∷ []) ++ us) fresh)
      (λ k touched lies. never-both p base step j l k less (rounds us in_range k touched) lies)))

  -- ---- what stands at the end

  -- the last statement is a loop with the first of the blocks, and so on inward
  abbrev pub Ends : List Block → PlainBody → List ℕ → ℕ → Type 0
  Ends [] made vs base = Unit {0}
  Ends (block ∷ blocks) made vs base =
      (inside : PlainBody) × EndsIn block.count inside made
      × ((i : ℕ) → i < block.count →
      IsWithin p (base + i * block.step) block.step (acts_of p q inside (vs ++ i ∷ []))
      × Ends blocks inside (vs ++ i ∷ []) (base + i * block.step))

  nest-ends : (body : PlainBody) (blocks : List Block) (vs : List ℕ) (base : ℕ) →
      are_fresh p.lanes 0 (round_in body) ≡ true →
      HasBlocks p q blocks body vs base → Ends blocks body vs base
  nest-ends body [] vs base fresh h = tt
  nest-ends NoStmts (block ∷ blocks) vs base fresh h = absurd h
  nest-ends (AndStmts (Do op) rest) (block ∷ blocks) vs base fresh h = absurd h
  nest-ends (AndStmts (Loop count inside) (AndStmts stmt rest)) (block ∷ blocks) vs base fresh h = absurd h
  nest-ends (AndStmts (Loop count inside) NoStmts) (block ∷ blocks) vs base fresh h = (
    inside,
    ap (λ n. Loop n inside) h.0,
    λ i lt.
        let same = h.0 in
        let at = h.1 i (omega (arith, lt, same)) in (
          body-within (base + i * block.step) block.step inside (vs ++ i ∷ []) fresh at.0,
          nest-ends inside blocks (vs ++ i ∷ []) (base + i * block.step) fresh at.1,
        ),
  )

  -- ---- a nest goes after others

  -- it does what it did, and stands at the end
  pub record IsGrown (n : ℕ) (body : PlainBody) (blocks : List Block) (made : PlainBody) (vs : List ℕ) (base : ℕ) : Type 0 where
    pub leaves : LeavesFor (steps_of_body p (fused_stmts n body made) vs q)
        (steps_of_body p made vs q ++ steps_of_body p body vs q)
    pub ends : Ends blocks (fused_stmts n body made) vs base

  -- into no loop
  put-grown : (body : PlainBody) (blocks : List Block) (made : PlainBody) (vs : List ℕ) (base : ℕ) →
      are_fresh p.lanes 0 (round_in body) ≡ true →
      HasBlocks p q blocks body vs base → IsGrown 0 body blocks made vs base
  put-grown body blocks made vs base fresh h = record { leaves = leaves-itself _ _ (put-all p q body made vs); ends = at_end body blocks fresh h }
    where
      at_end : (body : PlainBody) (blocks : List Block) → are_fresh p.lanes 0 (round_in body) ≡ true →
          HasBlocks p q blocks body vs base → Ends blocks (fused_stmts 0 body made) vs base
      at_end body [] fresh h = tt
      at_end NoStmts (block ∷ blocks) fresh h = absurd h
      at_end (AndStmts (Do op) rest) (block ∷ blocks) fresh h = absurd h
      at_end (AndStmts (Loop count inside) (AndStmts stmt rest)) (block ∷ blocks) fresh h = absurd h
      at_end (AndStmts (Loop count inside) NoStmts) (block ∷ blocks) fresh h =
          let end = nest-ends (AndStmts (Loop count inside) NoStmts) (block ∷ blocks) vs base fresh h in (
            end.0,
            subst (λ s. EndsIn block.count end.0 (put_behind s made)) (sym end.1) (ends-put block.count end.0 made),
            end.2,
          )

  -- into the last loop, which has the same block
  module _ (n : ℕ) (block : Block) (bs cs : List Block) (inner made : PlainBody) (vs : List ℕ) (base : ℕ) (fresh : are_fresh p.lanes 0 (round_in inner) ≡ true)
      (end : Ends (block ∷ bs) made vs base) (has : HasBlocks p q (block ∷ cs) (AndStmts (Loop block.count inner) NoStmts) vs base)
      (deeper : (i : ℕ) → i < block.count → (inside : PlainBody) → Ends bs inside (vs ++ i ∷ []) (base + i * block.step) →
      HasBlocks p q cs inner (vs ++ i ∷ []) (base + i * block.step) → IsGrown n inner cs inside (vs ++ i ∷ []) (base + i * block.step)) where
    abbrev inside : PlainBody
    inside = end.0

    abbrev changed : PlainBody
    changed = fused_stmts n inner inside

    abbrev old : ℕ → List Step
    old i = steps_of_body p inside (vs ++ i ∷ []) q

    abbrev added : ℕ → List Step
    added i = steps_of_body p inner (vs ++ i ∷ []) q

    abbrev new : ℕ → List Step
    new i = steps_of_body p changed (vs ++ i ∷ []) q

    grown : (i : ℕ) → i < block.count → IsGrown n inner cs inside (vs ++ i ∷ []) (base + i * block.step)
    grown i lt = deeper i lt inside (end.2 i lt).1 (has.1 i lt).1

    each : (i : ℕ) → i < block.count → For p q (new i) (old i ++ added i)
    each i lt =
        let leaves = (grown i lt).leaves in
        let sure = sure-append (old i) (added i) (end.2 i lt).0.sure (body-sure inner (vs ++ i ∷ []) fresh) in
        record { same = λ r s memory long. leaves.same r memory ∙ sure r s memory long; members = leaves.members }

    abbrev rounds : List ℕ
    rounds = range_with_len 0 block.count

    loop-for : For p q (flat_map new rounds) (flat_map old rounds ++ flat_map added rounds)
    loop-for =
        for-trans p.modulus p.lanes (flat_map new rounds) (flat_map (λ i. old i ++ added i) rounds) (flat_map old rounds ++ flat_map added rounds)
        (loops_for p q new (λ i. old i ++ added i) block.count each)
        (parted-for block.count old added (λ i lt. (end.2 i lt).0.sure) (λ i lt. body-sure inner (vs ++ i ∷ []) fresh)
        (λ j l less lt. past-later base block.step j l inner inside vs less fresh (has.1 j (omega (arith, less, lt))).0 (end.2 l lt).0))

    as_long : length (flat_map new rounds) ≡ length (flat_map old rounds ++ flat_map added rounds)
    as_long =
        let size : length (flat_map new rounds) ≡ block.count * len_of_body changed = stmt_length p (Loop block.count changed) vs q in
        let size_old : length (flat_map old rounds) ≡ block.count * len_of_body inside = stmt_length p (Loop block.count inside) vs q in
        let size_added : length (flat_map added rounds) ≡ block.count * len_of_body inner = stmt_length p (Loop block.count inner) vs q in
        let whole = length-append (flat_map old rounds) (flat_map added rounds) in
        let both = all_rounds block.count refl in
        omega (arith, size, size_old, size_added, whole, both)
      where
        out : (n a b : ℕ) → n * (a + b) ≡ n * a + n * b
        out n a b = omega arith

        all_rounds : (n : ℕ) → n ≡ block.count → block.count * len_of_body changed ≡ block.count * len_of_body inside
            + block.count * len_of_body inner
        all_rounds zero e =
            let nothing : 0 * len_of_body changed ≡ 0 * len_of_body inside + 0 * len_of_body inner = omega arith in
            ap (λ k. k * len_of_body changed) (sym e) ∙ (nothing ∙ ap (λ k. k * len_of_body inside + k * len_of_body inner) e)
        all_rounds (suc n) e =
            let one = (grown 0 (omega (arith, e))).leaves.long in
            let a = body_length p changed (vs ++ 0 ∷ []) q in
            let b = body_length p inside (vs ++ 0 ∷ []) q in
            let c = body_length p inner (vs ++ 0 ∷ []) q in
            let d = length-append (old 0) (added 0) in
            let sizes : len_of_body changed ≡ len_of_body inside + len_of_body inner = omega (arith, one, a, b, c, d) in
            ap (λ k. block.count * k) sizes ∙ out block.count (len_of_body inside) (len_of_body inner)

    into-grown : IsGrown (suc n) (AndStmts (Loop block.count inner) NoStmts) (block ∷ cs) made vs base
    into-grown =
        let parts = parted_last p q block.count inside made vs end.1 in
        let before : List Step = steps_of_body p made vs q ++ (flat_map added rounds ++ []) in
        let both : before ≡ parts.front ++ (flat_map old rounds ++ flat_map added rounds) =
        ap₂ (λ (xs ys : List Step). xs ++ ys) parts.now (append-nil (flat_map added rounds)) ∙ append_assoc parts.front (flat_map old rounds) (flat_map added rounds) in
        record {
          leaves =
              subst (LeavesFor (steps_of_body p (in_last (fused_stmts n inner) made) vs q)) (sym both)
              (subst (λ xs. LeavesFor xs (parts.front ++ (flat_map old rounds ++ flat_map added rounds))) (sym (parts.changed (fused_stmts n inner)))
              (leaves-front parts.front (flat_map new rounds) (flat_map old rounds ++ flat_map added rounds) as_long loop-for));
          ends = (
            changed,
            ends-changed (fused_stmts n inner) block.count inside made end.1,
            λ i lt. (
              within-same p (base + i * block.step) block.step (actions_of (new i)) (actions_of (old i ++ added i)) (each i lt).same
                  (subst (IsWithin p (base + i * block.step) block.step) (sym (actions_of-append (old i) (added i)))
                  (within-append p (base + i * block.step) block.step (actions_of (old i)) (actions_of (added i)) (end.2 i lt).0
                  (body-within (base + i * block.step) block.step inner (vs ++ i ∷ []) fresh (has.1 i lt).0))),
              (grown i lt).ends,
            ),
          );
        }

  none-shared : (bs : List Block) → shared bs [] ≡ 0
  none-shared [] = refl
  none-shared (b ∷ bs) = refl

  pub grows : (body : PlainBody) (bs cs : List Block) (made : PlainBody) (vs : List ℕ) (base : ℕ) →
      are_fresh p.lanes 0 (round_in body) ≡ true →
      Ends bs made vs base → HasBlocks p q cs body vs base → IsGrown (shared bs cs) body cs made vs base
  grows body bs [] made vs base fresh end has =
      subst (λ n. IsGrown n body [] made vs base) (sym (none-shared bs)) (put-grown body [] made vs base fresh has)
  grows body [] (c ∷ cs) made vs base fresh end has = put-grown body (c ∷ cs) made vs base fresh has
  grows NoStmts (b ∷ bs) (c ∷ cs) made vs base fresh end has = absurd has
  grows (AndStmts (Do op) rest) (b ∷ bs) (c ∷ cs) made vs base fresh end has = absurd has
  grows (AndStmts (Loop count inner) (AndStmts stmt rest)) (b ∷ bs) (c ∷ cs) made vs base fresh end has = absurd has
  grows (AndStmts (Loop count inner) NoStmts) (b ∷ bs) (c ∷ cs) made vs base fresh end has =
      let body : PlainBody = AndStmts (Loop count inner) NoStmts in
      by_test (λ n. IsGrown n body (c ∷ cs) made vs base) ((b.count == c.count) && (b.step == c.step))
      (suc (shared bs cs)) 0
      (λ e.
      let two = both_true (b.count == c.count) (b.step == c.step) e in
      let block : ℕ → ℕ → Block = λ n s. record { count = n; step = s } in
      let same : b ≡ c = ap₂ block (eqb-true b.count c.count two.0) (eqb-true b.step c.step two.1) in
      let end_too : Ends (c ∷ bs) made vs base = subst (λ x. Ends (x ∷ bs) made vs base) same end in
      subst (λ n. IsGrown (suc (shared bs cs)) (AndStmts (Loop n inner) NoStmts) (c ∷ cs) made vs base) (sym has.0)
      (into-grown (shared bs cs) c bs cs inner made vs base fresh end_too
      (subst (λ n. HasBlocks p q (c ∷ cs) (AndStmts (Loop n inner) NoStmts) vs base) has.0 has)
      (λ i lt inside end_in has_in. grows inner bs cs inside (vs ++ i ∷ []) (base + i * c.step) fresh end_in has_in)))
      (λ e. put-grown body (c ∷ cs) made vs base fresh has)
