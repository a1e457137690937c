-- Two codes that differ in lanes, registers and lists alone. Where the lists of each processor keep a relation on its
-- registers in each phase, and leave the same memory, the codes leave the same memory in order.
use Rattle.std.proofs.Common.{◌≡◌, ℕ, zero, suc, ◌+◌, ◌*◌, ◌<◌, ◌≤◌, List, [], ◌∷◌, length, refl, sym, ap, ◌∙◌, subst}
use Rattle.std.proofs.Common.{arith}
use Rattle.std.specs.Prelude.{slice_index_or, slice_set, replicate}
use Rattle.icode.specs.declared.action.Action.{Action}
use Rattle.icode.specs.Machine.{Code, Whole, acts, start, processor_alone, processors_alone, phases_alone, in_order}
use Rattle.icode.proofs.SequenceLemmas.Stores.{length-registers}
use Rattle.nests.proofs.Acts.{memory_by, registers_by}

-- ---- two lists of actions

-- from registers that are like, on v lanes and on other lanes
pub record Keep (m v lanes : ℕ) (Like : List ℕ → List ℕ → Type 0) (fs gs : List Action) : Type 0 where
  pub memory : (r s memory : List ℕ) → Like r s → memory_by m v fs r memory ≡ memory_by m lanes gs s memory
  pub registers : (r s memory : List ℕ) → Like r s →
      Like (registers_by m v fs r memory) (registers_by m lanes gs s memory)

-- how many registers there are is kept by all actions
pub keep-many : (m v lanes : ℕ) (Many : ℕ → ℕ → Type 0) (fs gs : List Action) →
    ((r s memory : List ℕ) → Many (length r) (length s) → memory_by m v fs r memory ≡ memory_by m lanes gs s memory) →
    Keep m v lanes (λ r s. Many (length r) (length s)) fs gs
keep-many m v lanes Many fs gs same =
    record {
      memory = same;
      registers = λ r s memory many.
          subst (λ n. Many n (length (registers_by m lanes gs s memory)))
          (sym (length-registers m v fs (record { memory = memory; registers = r })))
          (subst (Many (length r))
          (sym (length-registers m lanes gs (record { memory = memory; registers = s }))) many);
    }

-- ---- the registers of all processors

module _ (Like : List ℕ → List ℕ → Type 0) where
  -- this number of files, each like the other
  abbrev AreLike : ℕ → List (List ℕ) → List (List ℕ) → Type 0
  AreLike zero files others = Unit {0}
  AreLike (suc n) [] others = ⊥
  AreLike (suc n) (file ∷ files) [] = ⊥
  AreLike (suc n) (file ∷ files) (other ∷ others) = Like file other × AreLike n files others

  like_at : (n q : ℕ) (files others : List (List ℕ)) → AreLike n files others → q < n →
      Like (slice_index_or files q []) (slice_index_or others q [])
  like_at zero q files others like lt = absurd (omega (arith, lt))
  like_at (suc n) q [] others like lt = absurd like
  like_at (suc n) q (file ∷ files) [] like lt = absurd like
  like_at (suc n) zero (file ∷ files) (other ∷ others) like lt = like.0
  like_at (suc n) (suc q) (file ∷ files) (other ∷ others) like lt = like_at n q files others like.1 (omega (arith, lt))

  like_set : (n q : ℕ) (files others : List (List ℕ)) (r s : List ℕ) → AreLike n files others → Like r s →
      AreLike n (slice_set files q r) (slice_set others q s)
  like_set zero q files others r s like new = tt
  like_set (suc n) q [] others r s like new = absurd like
  like_set (suc n) q (file ∷ files) [] r s like new = absurd like
  like_set (suc n) zero (file ∷ files) (other ∷ others) r s like new = (new, like.1)
  like_set (suc n) (suc q) (file ∷ files) (other ∷ others) r s like new =
      (like.0, like_set n q files others r s like.1 new)

  like_all : (n : ℕ) (r s : List ℕ) → Like r s → AreLike n (replicate n r) (replicate n s)
  like_all zero r s like = tt
  like_all (suc n) r s like = (like, like_all n r s like)

-- ---- processor after processor, phase after phase

module _ (code there : Code) (Like : List ℕ → List ℕ → Type 0) where
  -- the code with the lanes, registers and lists of the other
  abbrev other : Code
  other = record code { lanes = there.lanes; regs = there.regs; lists = there.lists }

  record AreAlike (v w : Whole) : Type 0 where
    memory : v.memory ≡ w.memory
    registers : AreLike Like code.procs v.registers w.registers

  module _ (keep : (phase q : ℕ) → q < code.procs →
      Keep code.modulus there.lanes code.lanes Like (acts there phase q) (acts code phase q)) where
    processor_alike : (phase q : ℕ) (v w : Whole) → q < code.procs → AreAlike v w →
        AreAlike (processor_alone other phase q v) (processor_alone code phase q w)
    processor_alike phase q v w lt alike =
        let new : List Action = acts there phase q in
        let old : List Action = acts code phase q in
        let r : List ℕ = slice_index_or v.registers q [] in
        let s : List ℕ = slice_index_or w.registers q [] in
        let like : Like r s = like_at Like code.procs q v.registers w.registers alike.registers lt in
        record {
          memory =
              ap (memory_by code.modulus there.lanes new r) alike.memory
              ∙ (keep phase q lt).memory r s w.memory like;
          registers =
              like_set Like code.procs q v.registers w.registers
              (registers_by code.modulus there.lanes new r v.memory)
              (registers_by code.modulus code.lanes old s w.memory) alike.registers
              (subst (λ memory. Like (registers_by code.modulus there.lanes new r memory)
              (registers_by code.modulus code.lanes old s w.memory))
              (sym alike.memory) ((keep phase q lt).registers r s w.memory like));
        }

    processors_alike : (phase n q : ℕ) (v w : Whole) → q + n ≤ code.procs → AreAlike v w →
        AreAlike (processors_alone other phase n q v) (processors_alone code phase n q w)
    processors_alike phase zero q v w room alike = alike
    processors_alike phase (suc n) q v w room alike =
        processors_alike phase n (q + 1) (processor_alone other phase q v) (processor_alone code phase q w)
        (omega (arith, room)) (processor_alike phase q v w (omega (arith, room)) alike)

    phases_alike : (n phase : ℕ) (v w : Whole) → AreAlike v w →
        AreAlike (phases_alone other n phase v) (phases_alone code n phase w)
    phases_alike zero phase v w alike = alike
    phases_alike (suc n) phase v w alike =
        phases_alike n (phase + 1) (processors_alone other phase code.procs 0 v)
        (processors_alone code phase code.procs 0 w)
        (processors_alike phase code.procs 0 v w (omega arith) alike)

    pub same_in_order : length there.lists ≡ length code.lists →
        Like (replicate (there.regs * there.lanes) 0) (replicate (code.regs * code.lanes) 0) → (x : List ℕ) →
        (in_order other x).memory ≡ (in_order code x).memory
    same_in_order many like x =
        let begin : Whole = record { memory = (start other x).memory; registers = (start other x).registers } in
        let begin_too : Whole = record { memory = (start code x).memory; registers = (start code x).registers } in
        ap (λ n. (phases_alone other n 0 begin).memory) many
        ∙ (phases_alike (length code.lists) 0 begin begin_too
        (record { memory = refl; registers = like_all Like code.procs _ _ like })).memory
