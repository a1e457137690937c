-- What loads and stores do.
use Rattle.std.proofs.Common.{◌≡◌, ℕ, zero, suc, ◌+◌, ◌*◌, ◌-◌, ◌<◌, ◌≤◌, inl, inr, arith, refl, sym, ap, ◌∙◌, List, []}
use Rattle.std.proofs.Common.{◌∷◌, length, subst}
use Rattle.std.specs.Prelude.{slice_index}
use Rattle.std.proofs.lemmas.Bool.{cases_eq, cases_lt}
use Rattle.icode.specs.declared.action.Action.{Action}
use Rattle.icode.specs.declared.action.Action.TheVariants.{Load, Store}
use Rattle.icode.specs.Machine.{Local, effect, effects, register_of, words_at}
use Rattle.icode.proofs.Words.{length-words_at}
use Rattle.icode.specs.Sequences.Lanes.{Registers, lane_of, with_register}
use Rattle.icode.specs.Sequences.Nests.{loads}
use Rattle.icode.proofs.SequenceLemmas.ByLane.{put_register, lane_word, this_register, other_register, length-registers_after}
use Rattle.icode.proofs.SequenceLemmas.ByLane.{lists_follow}
use Rattle.icode.proofs.SequenceLemmas.Fills.{word, Fills}
use Rattle.icode.proofs.SequenceLemmas.Placing.{slice_index-words_at, with_words_there, with_words_elsewhere}
use Rattle.icode.proofs.SequenceLemmas.Placing.{length-with_words}

-- a load puts a word of the memory into each lane of its register
pub load_by_lane : (m lanes regs : ℕ) (r address : ℕ) (s : Local) (lane : ℕ) → r < regs →
    regs * lanes ≤ length s.registers → lane < lanes →
    lane_of lanes (effect m lanes (Load r address) s).registers lane
    ≡ with_register (lane_of lanes s.registers lane) r (word s (address + lane))
load_by_lane m lanes regs r address s lane low wide below =
    put_register lanes regs r s.registers (words_at lanes s.memory address) lane (word s (address + lane)) (length-words_at lanes s.memory address) low wide below
    (slice_index-words_at lanes s.memory address lane below)

-- a store puts each lane of its register into a word
pub stored_word : (m lanes : ℕ) (r address : ℕ) (s : Local) (lane : ℕ) → address + lanes ≤ length s.memory →
    lane < lanes →
    word (effect m lanes (Store address r) s) (address + lane) ≡ lane_of lanes s.registers lane r
stored_word m lanes r address s lane room below =
    let words = register_of lanes s.registers r in
    let wide : length words ≡ lanes = length-words_at lanes s.registers (r * lanes) in
    with_words_there words s.memory address lane (omega arith) (omega arith) ∙ lane_word lanes s.registers r lane below

-- and leaves the others
pub other_word : (m lanes : ℕ) (r address : ℕ) (s : Local) (a : ℕ) → (address ≤ a → a < address + lanes → ⊥) →
    word (effect m lanes (Store address r) s) a ≡ word s a
other_word m lanes r address s a outside =
    let words = register_of lanes s.registers r in
    let wide : length words ≡ lanes = length-words_at lanes s.registers (r * lanes) in
    with_words_elsewhere words s.memory address a (λ from to. outside from (omega arith))

-- the words of the memory stay as many
length-memory_after : (m lanes : ℕ) (action : Action) (s : Local) →
    length (effect m lanes action s).memory ≡ length s.memory
length-memory_after m lanes (Store address r) s = length-with_words (register_of lanes s.registers r) s.memory address
length-memory_after m lanes _ s = refl

pub length-memory : (m lanes : ℕ) (actions : List Action) (s : Local) →
    length (effects m lanes actions s).memory ≡ length s.memory
length-memory m lanes [] s = refl
length-memory m lanes (action ∷ actions) s = length-memory m lanes actions (effect m lanes action s) ∙ length-memory_after m lanes action s

pub length-registers : (m lanes : ℕ) (actions : List Action) (s : Local) →
    length (effects m lanes actions s).registers ≡ length s.registers
length-registers m lanes [] s = refl
length-registers m lanes (action ∷ actions) s = length-registers m lanes actions (effect m lanes action s) ∙ length-registers_after m lanes action s

-- the words that a store from this address on fills
abbrev pub Stored : ℕ → ℕ → ℕ → Type 0
Stored lanes address a = (lane : ℕ) × (lane < lanes) × (a ≡ address + lane)

-- a store of what is to stand there
pub store_fills : (m lanes : ℕ) (Ready : Local → Type 0) (IsOutput : ℕ → Type 0) (output : ℕ → ℕ) (address r : ℕ) →
    ((s : Local) → Ready s → address + lanes ≤ length s.memory) →
    ((lane : ℕ) → lane < lanes → IsOutput (address + lane)) →
    ((s : Local) → Ready s → (lane : ℕ) → lane < lanes → lane_of lanes s.registers lane r ≡ output (address + lane)) →
    ((s : Local) → Ready s → Ready (effect m lanes (Store address r) s)) →
    Fills m lanes Ready IsOutput output (Stored lanes address) (Store address r ∷ [])
store_fills m lanes Ready IsOutput output address r room outputs holds still =
    record {
      done = λ s h a c. ap (word (effect m lanes (Store address r) s)) c.2 ∙ there s h c.0 c.1 ∙ sym (ap output c.2);
      kept = λ s h a c. other_word m lanes r address s a (λ from to. c (subst IsOutput (place a from) (outputs (a - address) (omega arith))));
      only = λ s h a.
          elim (cases_lt a address) [
            | inl lower ↦ inl (other_word m lanes r address s a (λ from to. omega arith))
            | inr from ↦
                elim (cases_lt a (address + lanes)) [
                  | inl to ↦
                      inr (ap (word (effect m lanes (Store address r) s)) (sym (place a from)) ∙ there s h (a - address) (omega arith) ∙ ap output (place a from))
                  | inr higher ↦ inl (other_word m lanes r address s a (λ _ to. omega arith))
                ]
          ];
      still = still;
    }
  where
    place : (a : ℕ) → address ≤ a → address + (a - address) ≡ a
    place a from = omega arith

    there : (s : Local) → Ready s → (lane : ℕ) → lane < lanes →
        word (effect m lanes (Store address r) s) (address + lane) ≡ output (address + lane)
    there s h lane below = stored_word m lanes r address s lane (room s h) below ∙ holds s h lane below

-- ---- loads

abbrev load_at : (ℕ → ℕ) → ℕ → List Action
load_at at k = Load k (at k) ∷ []

pub loads-memory : (m lanes : ℕ) (n : ℕ) (at : ℕ → ℕ) (s : Local) → (effects m lanes (loads n at) s).memory ≡ s.memory
loads-memory m lanes zero at s = refl
loads-memory m lanes (suc n) at s = ap (λ (z : Local). z.memory) (lists_follow m lanes (loads n at) (load_at at n) s) ∙ loads-memory m lanes n at s

pub loads-registers : (m lanes regs : ℕ) (n : ℕ) (at : ℕ → ℕ) (s : Local) (lane k : ℕ) → n ≤ regs →
    regs * lanes ≤ length s.registers → lane < lanes → k < n →
    lane_of lanes (effects m lanes (loads n at) s).registers lane k ≡ word s (at k + lane)
loads-registers m lanes regs zero at s lane k few wide below under = absurd (omega arith)
loads-registers m lanes regs (suc n) at s lane k few wide below under =
    let mid = effects m lanes (loads n at) s in
    let long = length-registers m lanes (loads n at) s in
    ap (λ (z : Local). lane_of lanes z.registers lane k) (lists_follow m lanes (loads n at) (load_at at n) s)
    ∙ ap (λ (g : Registers). g k) (load_by_lane m lanes regs n (at n) mid lane (omega arith) (omega arith) below)
    ∙ elim (cases_eq k n) [
      | inl last ↦
          ap (with_register (lane_of lanes mid.registers lane) n (word mid (at n + lane))) last
          ∙ this_register (lane_of lanes mid.registers lane) n (word mid (at n + lane))
          ∙ ap (λ (words : List ℕ). slice_index words (at n + lane)) (loads-memory m lanes n at s)
          ∙ ap (λ j. word s (at j + lane)) (sym last)
      | inr other ↦
          other_register (lane_of lanes mid.registers lane) k n (word mid (at n + lane)) other
          ∙ loads-registers m lanes regs n at s lane k (omega arith) wide below (omega arith)
    ]
