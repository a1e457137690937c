-- What is known of stores that wait.
use Rattle.std.specs.Prelude.{◌≡◌, ℕ, ◌+◌, ◌≤◌, ◌<◌, List, [], ◌∷◌, slice_index}
use Rattle.icode.specs.Buffers.{Waiting}
use Rattle.icode.specs.Machine.{with_words}
use Rattle.buffer_machine.specs.Backlog.{Backlog}

-- a store waits, and its words are within the memory
abbrev pub OldestFits : ℕ → ℕ → List Waiting → Type 0
OldestFits lanes span [] = ⊥
OldestFits lanes span (w ∷ queue) = w.address + lanes ≤ span

-- the store at place j is for the word
abbrev pub Covers : ℕ → List ℕ → ℕ → ℕ → Type 0
Covers lanes addresses word j = (slice_index addresses j ≤ word) × (word < slice_index addresses j + lanes)

-- no store from place `from` up to place `to` is for the word
abbrev pub NoneCovers : ℕ → List ℕ → ℕ → ℕ → ℕ → Type 0
NoneCovers lanes addresses word from to = (j : ℕ) → from ≤ j → j < to → slice_index addresses j ≤ word → word < slice_index addresses j + lanes → ⊥

-- the oldest store is written to memory, and waits no longer
pub record IsDrained (before after : Backlog) (memory new : List ℕ) (address : ℕ) : Type 0 where
  pub oldest : Waiting
  pub splits : before.waiting ≡ oldest ∷ after.waiting
  pub address_is : address ≡ oldest.address
  pub written : new ≡ with_words memory oldest.address oldest.words
  pub room : after.room ≡ before.room
  pub most : after.most ≡ before.most
  pub lanes : after.lanes ≡ before.lanes
  pub span : after.span ≡ before.span
