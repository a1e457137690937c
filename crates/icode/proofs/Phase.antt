-- What each turn of a phase keeps.
use Rattle.std.proofs.Common.{◌≡◌, ℕ, suc, ◌*◌, ◌/◌, ◌<◌, ◌≢◌, List, [], ◌∷◌, ◌++◌, length, take, Some, refl, sym, ap}
use Rattle.std.proofs.Common.{◌∙◌, subst, arith, ⊎_elim, Contains, get_or-set_same, get_or-set_other, length-set}
use Rattle.std.specs.Prelude.{slice_get, slice_index, slice_index_or, slice_set}
use Rattle.std.proofs.lemmas.Bool.{cases_eq}
use Rattle.icode.specs.declared.action.Action.{Action}
use Rattle.icode.specs.declared.action.Action.TheVariants.{Load, Store}
use Rattle.icode.specs.Machine.{Code, Local, acts, with_words, register_of, memory_after, value_put, effect, effects}
use Rattle.icode.specs.Machine.{stored_words, touched_words, written_lines, touched_lines, IsApart}
use Rattle.icode.proofs.Words.{words_at-agree, length-words_at, with_words-other, with_words-agree, take-next}
use Rattle.icode.proofs.Lines.{Contains-range, touches, writes}

-- an action leaves the words that it does not store into
memory_after-other : (lanes : ℕ) (a : Action) (s : Local) (k : ℕ) → (Contains (stored_words lanes a) k → ⊥) →
    slice_get (memory_after lanes a s) k ≡ slice_get s.memory k
memory_after-other lanes (Store address r) s k h =
    with_words-other (register_of lanes s.registers r) s.memory address k
    (λ low high. h (Contains-range lanes address k low (omega (arith, length-words_at lanes s.registers (r * lanes)))))
memory_after-other lanes _ s k h = refl

-- where the registers are the same, words that agree still do after an action
pub memory_after-agree : (lanes : ℕ) (a : Action) (s t : Local) (k : ℕ) → s.registers ≡ t.registers →
    slice_get s.memory k ≡ slice_get t.memory k → slice_get (memory_after lanes a s) k
    ≡ slice_get (memory_after lanes a t) k
memory_after-agree lanes (Store address r) s t k e h =
    with_words-agree (register_of lanes s.registers r) s.memory t.memory address k h
    ∙ ap (λ rs. slice_get (with_words t.memory address (register_of lanes rs r)) k) e
memory_after-agree lanes _ s t k e h = h

-- what an action puts into registers depends on the words that it touches and on the registers
value_put-agree : (m lanes : ℕ) (a : Action) (s t : Local) → s.registers ≡ t.registers →
    ((k : ℕ) → Contains (touched_words lanes a) k → slice_get s.memory k ≡ slice_get t.memory k) →
    value_put m lanes a s ≡ value_put m lanes a t
value_put-agree m lanes (Load r address) s t e h =
    words_at-agree lanes s.memory t.memory address (λ k low high. h k (Contains-range lanes address k low high))
value_put-agree m lanes (Store address r) s t e h = refl
value_put-agree m lanes a s t e h = ap (λ rs. value_put m lanes a (record { memory = s.memory; registers = rs })) e

pub registers_after-agree : (m lanes : ℕ) (a : Action) (s t : Local) → s.registers ≡ t.registers →
    ((k : ℕ) → Contains (touched_words lanes a) k → slice_get s.memory k ≡ slice_get t.memory k) →
    (effect m lanes a s).registers ≡ (effect m lanes a t).registers
registers_after-agree m lanes a s t e h = let v = value_put-agree m lanes a s t e h in cc

pub effects-append : (m lanes : ℕ) (xs ys : List Action) (s : Local) →
    effects m lanes (xs ++ ys) s ≡ effects m lanes ys (effects m lanes xs s)
effects-append m lanes [] ys s = refl
effects-append m lanes (x ∷ xs) ys s = effects-append m lanes xs ys (effect m lanes x s)

-- what a processor's own run leaves, of as many actions as it has done
abbrev pub own : Code → ℕ → List ℕ → List (List ℕ) → List ℕ → ℕ → Local
own code phase memory registers done q =
    effects code.modulus code.lanes (take (slice_index done q) (acts code phase q)) (record { memory = memory; registers = slice_index_or registers q [] })

-- The state of a phase that began with m0 and r0. The registers of a processor and the words of the
-- lines that it touches are those of its own run; a word of a line that none writes is as it was.
pub record IsFollowed (code : Code) (phase : ℕ) (m0 : List ℕ) (r0 : List (List ℕ)) (memory : List ℕ) (registers : List (List ℕ)) (done : List ℕ) : Type 0 where
  pub files : length registers ≡ code.procs
  pub dones : length done ≡ code.procs
  pub own_registers : (q : ℕ) → slice_index_or registers q [] ≡ (own code phase m0 r0 done q).registers
  pub own_words : (q k : ℕ) → Contains (touched_lines code phase q) (k / code.line) →
      slice_get memory k ≡ slice_get (own code phase m0 r0 done q).memory k
  pub other_words : (k : ℕ) → ((q : ℕ) → Contains (written_lines code phase q) (k / code.line) → ⊥) →
      slice_get memory k ≡ slice_get m0 k

-- one more action of a processor's own run
pub own-same : (code : Code) (phase : ℕ) (m0 : List ℕ) (r0 : List (List ℕ)) (done : List ℕ) (q : ℕ) (a : Action) →
    q < length done → slice_get (acts code phase q) (slice_index done q) ≡ Some a →
    own code phase m0 r0 (slice_set done q (suc (slice_index done q))) q
    ≡ effect code.modulus code.lanes a (own code phase m0 r0 done q)
own-same code phase m0 r0 done q a lt e =
    let s0 : Local = record { memory = m0; registers = slice_index_or r0 q [] } in
    ap (λ n. effects code.modulus code.lanes (take n (acts code phase q)) s0) (get_or-set_same done q (suc (slice_index done q)) 0 lt)
    ∙ (ap (λ xs. effects code.modulus code.lanes xs s0) (take-next (acts code phase q) (slice_index done q) a e)
    ∙ effects-append code.modulus code.lanes (take (slice_index done q) (acts code phase q)) (a ∷ []) s0)

pub own-other : (code : Code) (phase : ℕ) (m0 : List ℕ) (r0 : List (List ℕ)) (done : List ℕ) (q other n : ℕ) →
    other ≢ q → own code phase m0 r0 (slice_set done q n) other ≡ own code phase m0 r0 done other
own-other code phase m0 r0 done q other n ne =
    ap (λ n. effects code.modulus code.lanes (take n (acts code phase other)) (record { memory = m0; registers = slice_index_or r0 other [] })) (get_or-set_other done q other n 0 ne)

-- a turn keeps it
pub IsFollowed-acted : (code : Code) (phase : ℕ) (m0 : List ℕ) (r0 : List (List ℕ)) (memory : List ℕ) (registers : List (List ℕ)) (done : List ℕ) (q : ℕ) (a : Action) → IsApart code phase → q < code.procs → slice_get (acts code phase q) (slice_index done q) ≡ Some a → IsFollowed code phase m0 r0 memory registers done → IsFollowed code phase m0 r0 (effect code.modulus code.lanes a (record { memory = memory; registers = slice_index_or registers q [] })).memory (slice_set registers q (effect code.modulus code.lanes a (record { memory = memory; registers = slice_index_or registers q [] })).registers) (slice_set done q (suc (slice_index done q)))
IsFollowed-acted code phase m0 r0 memory registers done q a apart lt here inv =
    let now : Local = record { memory = memory; registers = slice_index_or registers q [] } in
    let before : Local = own code phase m0 r0 done q in
    let n : ℕ = slice_index done q in
    let agree : (k : ℕ) → Contains (touched_words code.lanes a) k → slice_get now.memory k ≡ slice_get before.memory k =
    λ k h. inv.own_words q k (touches code phase q n k a here h) in
    let step : own code phase m0 r0 (slice_set done q (suc n)) q ≡ effect code.modulus code.lanes a before = own-same code phase m0 r0 done q a (omega (arith, inv.dones)) here in
    record {
      files = length-set registers q _ ∙ inv.files;
      dones = length-set done q _ ∙ inv.dones;
      own_registers = λ other. ⊎_elim
          (λ (e : other ≡ q). subst (λ o. slice_index_or (slice_set registers q (effect code.modulus code.lanes a now).registers) o [] ≡ (own code phase m0 r0 (slice_set done q (suc n)) o).registers) (sym e)
          (get_or-set_same registers q (effect code.modulus code.lanes a now).registers [] (omega (arith, inv.files))
          ∙ (registers_after-agree code.modulus code.lanes a now before (inv.own_registers q) agree ∙ sym (ap (λ (s : Local). s.registers) step))))
          (λ (ne : other ≡ q → ⊥). get_or-set_other registers q other (effect code.modulus code.lanes a now).registers [] ne
          ∙ (inv.own_registers other ∙ sym (ap (λ (s : Local). s.registers) (own-other code phase m0 r0 done q other (suc n) ne))))
          (cases_eq other q);
      own_words = λ other k h. ⊎_elim
          (λ (e : other ≡ q). subst (λ o. slice_get (memory_after code.lanes a now) k ≡ slice_get (own code phase m0 r0 (slice_set done q (suc n)) o).memory k) (sym e)
          (memory_after-agree code.lanes a now before k (inv.own_registers q) (inv.own_words q k (subst (λ o. Contains (touched_lines code phase o) (k / code.line)) e h))
          ∙ sym (ap (λ (s : Local). slice_get s.memory k) step)))
          (λ (ne : other ≡ q → ⊥). memory_after-other code.lanes a now k (λ w. apart.alone q other (k / code.line) ne (writes code phase q n k a here w) h)
          ∙ (inv.own_words other k h ∙ sym (ap (λ (s : Local). slice_get s.memory k) (own-other code phase m0 r0 done q other (suc n) ne))))
          (cases_eq other q);
      other_words = λ k h. memory_after-other code.lanes a now k (λ w. h q (writes code phase q n k a here w)) ∙ inv.other_words k h;
    }
