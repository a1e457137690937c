-- What each turn and each drain of a phase keeps.
use Rattle.std.proofs.Common.{◌≡◌, ℕ, suc, ◌+◌, ◌/◌, ◌<◌, List, [], ◌∷◌, ◌++◌, length, Some, sym, ap}
use Rattle.std.proofs.Common.{◌∙◌, subst, arith, ⊎_elim, Contains, get_or-set_same, get_or-set_other, length-set}
use Rattle.std.proofs.Common.{false}
use Rattle.std.specs.Prelude.{slice_get, slice_index, slice_index_or, slice_set}
use Rattle.std.proofs.lemmas.Bool.{cases_eq}
use Rattle.icode.specs.declared.action.Action.{Action}
use Rattle.icode.specs.Machine.{Code, Local, acts, effect, touched_words, written_lines, touched_lines}
use Rattle.icode.specs.Machine.{with_words, IsApart}
use Rattle.icode.specs.Buffers.{Waiting, overlaid, stored, some_wait, queue_of}
use Rattle.icode.proofs.Lines.{touches}
use Rattle.icode.proofs.Phase.{own, own-same, own-other, memory_after-agree, registers_after-agree, IsFollowed}
use Rattle.icode.proofs.Waiting.{AreOwn, AreOwn-append, stored_own, overlaid-after, overlaid-agree, none_waits}
use Rattle.icode.proofs.Words.{with_words-other}

-- The state of a phase that began with m0 and r0. The registers of a processor are those of its own run, and so are
-- the words of the lines that it touches, as it sees them: overlaid by its waiting stores. A word of a line that none
-- writes is as it was, and what waits for a processor is for lines that it writes.
pub record IsBuffered (code : Code) (phase : ℕ) (m0 : List ℕ) (r0 : List (List ℕ)) (memory : List ℕ) (registers : List (List ℕ)) (done : List ℕ) (queues : List (List Waiting)) : Type 0 where
  pub files : length registers ≡ code.procs
  pub dones : length done ≡ code.procs
  pub lines : length queues ≡ code.procs
  pub own_registers : (q : ℕ) → slice_index_or registers q [] ≡ (own code phase m0 r0 done q).registers
  pub own_words : (q k : ℕ) → Contains (touched_lines code phase q) (k / code.line) →
      slice_get (overlaid memory (queue_of queues q)) k ≡ slice_get (own code phase m0 r0 done q).memory k
  pub other_words : (k : ℕ) → ((q : ℕ) → Contains (written_lines code phase q) (k / code.line) → ⊥) →
      slice_get memory k ≡ slice_get m0 k
  pub waiting : (q : ℕ) → AreOwn code phase q (queue_of queues q)

-- where no store waits, it is what turns keep without queues
pub followed_from_buffered : (code : Code) (phase : ℕ) (m0 : List ℕ) (r0 : List (List ℕ)) (memory : List ℕ)
    (registers : List (List ℕ)) (done : List ℕ) (queues : List (List Waiting)) → some_wait queues ≡ false →
    IsBuffered code phase m0 r0 memory registers done queues → IsFollowed code phase m0 r0 memory registers done
followed_from_buffered code phase m0 r0 memory registers done queues none b =
    record {
      files = b.files;
      dones = b.dones;
      own_registers = b.own_registers;
      own_words = λ q k h. sym (ap (λ queue. slice_get (overlaid memory queue) k) (none_waits queues none q)) ∙ b.own_words q k h;
      other_words = b.other_words;
    }

pub buffered_from_followed : (code : Code) (phase : ℕ) (m0 : List ℕ) (r0 : List (List ℕ)) (memory : List ℕ)
    (registers : List (List ℕ)) (done : List ℕ) (queues : List (List Waiting)) → some_wait queues ≡ false →
    length queues ≡ code.procs → IsFollowed code phase m0 r0 memory registers done →
    IsBuffered code phase m0 r0 memory registers done queues
buffered_from_followed code phase m0 r0 memory registers done queues none lines f =
    record {
      files = f.files;
      dones = f.dones;
      lines = lines;
      own_registers = f.own_registers;
      own_words = λ q k h. ap (λ queue. slice_get (overlaid memory queue) k) (none_waits queues none q) ∙ f.own_words q k h;
      other_words = f.other_words;
      waiting = λ q. subst (AreOwn code phase q) (sym (none_waits queues none q)) tt;
    }

-- a turn keeps it
pub IsBuffered-acted : (code : Code) (phase : ℕ) (m0 : List ℕ) (r0 : List (List ℕ)) (memory : List ℕ) (registers : List (List ℕ)) (done : List ℕ) (queues : List (List Waiting)) (q : ℕ) (a : Action) → q < code.procs → slice_get (acts code phase q) (slice_index done q) ≡ Some a → IsBuffered code phase m0 r0 memory registers done queues → IsBuffered code phase m0 r0 memory (slice_set registers q (effect code.modulus code.lanes a (record { memory = overlaid memory (queue_of queues q); registers = slice_index_or registers q [] })).registers) (slice_set done q (suc (slice_index done q))) (slice_set queues q (queue_of queues q ++ stored code.lanes a (slice_index_or registers q [])))
IsBuffered-acted code phase m0 r0 memory registers done queues q a lt here inv =
    let queue : List Waiting = queue_of queues q in
    let file : List ℕ = slice_index_or registers q [] in
    let now : Local = record { memory = overlaid memory queue; registers = file } in
    let before : Local = own code phase m0 r0 done q in
    let n : ℕ = slice_index done q in
    let after : List ℕ = (effect code.modulus code.lanes a now).registers in
    let longer : List Waiting = queue ++ stored code.lanes a file in
    let agree : (k : ℕ) → Contains (touched_words code.lanes a) k → slice_get now.memory k ≡ slice_get before.memory k =
    λ k h. inv.own_words q k (touches code phase q n k a here h) in
    let step : own code phase m0 r0 (slice_set done q (suc n)) q ≡ effect code.modulus code.lanes a before = own-same code phase m0 r0 done q a (omega (arith, inv.dones)) here in
    let queue_is : queue_of (slice_set queues q longer) q ≡ longer = get_or-set_same queues q longer [] (omega (arith, inv.lines)) in
    record {
      files = length-set registers q _ ∙ inv.files;
      dones = length-set done q _ ∙ inv.dones;
      lines = length-set queues q _ ∙ inv.lines;
      own_registers = λ other. ⊎_elim
          (λ (e : other ≡ q). subst (λ o. slice_index_or (slice_set registers q after) o [] ≡ (own code phase m0 r0 (slice_set done q (suc n)) o).registers) (sym e)
          (get_or-set_same registers q after [] (omega (arith, inv.files))
          ∙ (registers_after-agree code.modulus code.lanes a now before (inv.own_registers q) agree ∙ sym (ap (λ (s : Local). s.registers) step))))
          (λ (ne : other ≡ q → ⊥). get_or-set_other registers q other after [] ne
          ∙ (inv.own_registers other ∙ sym (ap (λ (s : Local). s.registers) (own-other code phase m0 r0 done q other (suc n) ne))))
          (cases_eq other q);
      own_words = λ other k h. ⊎_elim
          (λ (e : other ≡ q). subst (λ o. slice_get (overlaid memory (queue_of (slice_set queues q longer) o)) k ≡ slice_get (own code phase m0 r0 (slice_set done q (suc n)) o).memory k) (sym e)
          (ap (λ (ws : List Waiting). slice_get (overlaid memory ws) k) queue_is
          ∙ (ap (λ m. slice_get m k) (overlaid-after code.lanes a queue memory file)
          ∙ (memory_after-agree code.lanes a now before k (inv.own_registers q) (inv.own_words q k (subst (λ o. Contains (touched_lines code phase o) (k / code.line)) e h))
          ∙ sym (ap (λ (s : Local). slice_get s.memory k) step)))))
          (λ (ne : other ≡ q → ⊥). ap (λ (ws : List Waiting). slice_get (overlaid memory ws) k) (get_or-set_other queues q other longer [] ne)
          ∙ (inv.own_words other k h ∙ sym (ap (λ (s : Local). slice_get s.memory k) (own-other code phase m0 r0 done q other (suc n) ne))))
          (cases_eq other q);
      other_words = inv.other_words;
      waiting = λ other. ⊎_elim
          (λ (e : other ≡ q). subst (λ o. AreOwn code phase o (queue_of (slice_set queues q longer) o)) (sym e)
          (subst (AreOwn code phase q) (sym queue_is) (AreOwn-append code phase q queue (stored code.lanes a file) (inv.waiting q) (stored_own code phase q n a file here))))
          (λ (ne : other ≡ q → ⊥). subst (AreOwn code phase other) (sym (get_or-set_other queues q other longer [] ne)) (inv.waiting other))
          (cases_eq other q);
    }

-- a drain keeps it
pub IsBuffered-drained : (code : Code) (phase : ℕ) (m0 : List ℕ) (r0 : List (List ℕ)) (memory : List ℕ)
    (registers : List (List ℕ)) (done : List ℕ) (queues : List (List Waiting)) (q : ℕ) (w : Waiting)
    (queue : List Waiting) → IsApart code phase → q < code.procs → queue_of queues q ≡ w ∷ queue →
    IsBuffered code phase m0 r0 memory registers done queues →
    IsBuffered code phase m0 r0 (with_words memory w.address w.words) registers done (slice_set queues q queue)
IsBuffered-drained code phase m0 r0 memory registers done queues q w queue apart lt here inv =
    let after : List ℕ = with_words memory w.address w.words in
    let queue_is : queue_of (slice_set queues q queue) q ≡ queue = get_or-set_same queues q queue [] (omega (arith, inv.lines)) in
    let owned : AreOwn code phase q (w ∷ queue) = subst (AreOwn code phase q) here (inv.waiting q) in
    let other_word : (k : ℕ) → (Contains (written_lines code phase q) (k / code.line) → ⊥) → slice_get after k ≡ slice_get memory k =
    λ k no. with_words-other w.words memory w.address k (λ low high. no (owned.0 k low high)) in
    record {
      files = inv.files;
      dones = inv.dones;
      lines = length-set queues q _ ∙ inv.lines;
      own_registers = inv.own_registers;
      own_words = λ other k h. ⊎_elim
          (λ (e : other ≡ q). subst (λ o. slice_get (overlaid after (queue_of (slice_set queues q queue) o)) k ≡ slice_get (own code phase m0 r0 done o).memory k) (sym e)
          (ap (λ (ws : List Waiting). slice_get (overlaid after ws) k) queue_is
          ∙ (sym (ap (λ (ws : List Waiting). slice_get (overlaid memory ws) k) here)
          ∙ inv.own_words q k (subst (λ o. Contains (touched_lines code phase o) (k / code.line)) e h))))
          (λ (ne : other ≡ q → ⊥). ap (λ (ws : List Waiting). slice_get (overlaid after ws) k) (get_or-set_other queues q other queue [] ne)
          ∙ (overlaid-agree (queue_of queues other) after memory k (other_word k (λ wr. apart.alone q other (k / code.line) ne wr h))
          ∙ inv.own_words other k h))
          (cases_eq other q);
      other_words = λ k h. other_word k (h q) ∙ inv.other_words k h;
      waiting = λ other. ⊎_elim
          (λ (e : other ≡ q). subst (λ o. AreOwn code phase o (queue_of (slice_set queues q queue) o)) (sym e)
          (subst (AreOwn code phase q) (sym queue_is) owned.1))
          (λ (ne : other ≡ q → ⊥). subst (AreOwn code phase other) (sym (get_or-set_other queues q other queue [] ne)) (inv.waiting other))
          (cases_eq other q);
    }
