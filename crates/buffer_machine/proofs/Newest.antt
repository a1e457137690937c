-- The newest store for each word.
use Rattle.std.proofs.Common.{◌≡◌, ℕ, ◌+◌, ◌-◌, ◌<◌, ◌≤◌, ◌≢◌, ◌⊎◌, List, length, replicate, sym, ap, ◌∙◌, subst, arith}
use Rattle.std.proofs.Common.{◌*◌, get_or, inl, inr, ⊎_elim, get_or-set_same, get_or-set_other}
use Rattle.std.specs.Prelude.{slice_index, slice_set}
use Rattle.std.proofs.lemmas.Bool.{cases_eq, cases_lt}
use Rattle.std.proofs.lemmas.List.{get_or_read, length-replicate, get_or-replicate, replicate-append-replicate}
use Rattle.icode.specs.Buffers.{overlaid}
use Rattle.icode.specs.Machine.{with_words}
use Rattle.icode.proofs.LaneSteps.{with_words_more}
use Rattle.icode.proofs.Words.{with_words-other, slice_index-agree}
use Rattle.buffer_machine.specs.declared.queue.Queue.TheInside.{Inside}
use Rattle.buffer_machine.specs.Backlog.{Backlog}
use Rattle.buffer_machine.specs.Sound.{AreNewest, IsQueue, backlog_of}
use Rattle.buffer_machine.specs.Waits.{Covers, NoneCovers}
use Rattle.buffer_machine.proofs.Windows.{with_words-here, seen_memory, seen_store, slot_inside}

-- a word is among those that were marked, or as it was
marked : (lanes address n word : ℕ) (N : List ℕ) → address + lanes ≤ length N →
    ((address ≤ word) × (word < address + lanes) × (slice_index (with_words N address (replicate lanes n)) word ≡ n))
    ⊎ ((address ≤ word → word < address + lanes → ⊥) × (slice_index (with_words N address (replicate lanes n)) word
    ≡ slice_index N word))
marked lanes address n word N inside =
    let vs : List ℕ = replicate lanes n in
    let size : length vs ≡ lanes = length-replicate lanes n in
    let outside : (address ≤ word → word < address + lanes → ⊥) → slice_index (with_words N address vs) word ≡ slice_index N word =
    λ no. slice_index-agree (with_words N address vs) N word (with_words-other vs N address word (λ low high. no low (omega (arith, size)))) in
    ⊎_elim
    (λ (before : word < address). inr ((λ low high. omega (arith, before)), outside (λ low high. omega (arith, before))))
    (λ (low : address ≤ word). ⊎_elim
    (λ (high : word < address + lanes). inl (low, high, with_words-here vs N address word low (omega (arith, size)) (omega arith) ∙ get_or-replicate lanes (word - address) n 0 (omega arith)))
    (λ (past : address + lanes ≤ word). inr ((λ low high. omega (arith, past)), outside (λ low high. omega (arith, past))))
    (cases_lt word (address + lanes)))
    (cases_lt word address)

pub newest_push : (lanes tail address : ℕ) (A N M : List ℕ) → AreNewest lanes A N tail → tail < length A →
    address + lanes ≤ length N → M ≡ with_words N address (replicate lanes (tail + 1)) →
    AreNewest lanes (slice_set A tail address) M (tail + 1)
newest_push lanes tail address A N M h lt inside e =
    let new : List ℕ = slice_set A tail address in
    let here : slice_index new tail ≡ address = get_or-set_same A tail address 0 lt in
    let old : (j : ℕ) → j < tail → slice_index new j ≡ slice_index A j = λ j before. let ne : j ≢ tail = omega arith in get_or-set_other A tail j address 0 ne in
    subst (λ (xs : List ℕ). AreNewest lanes new xs (tail + 1)) (sym e)
    (record {
      none_newer = λ word j from to low high. ⊎_elim
          (λ (m : (address ≤ word) × (word < address + lanes) × (slice_index (with_words N address (replicate lanes (tail + 1))) word ≡ tail + 1)). omega (arith, m.2, from, to))
          (λ (m : (address ≤ word → word < address + lanes → ⊥) × (slice_index (with_words N address (replicate lanes (tail + 1))) word ≡ slice_index N word)). ⊎_elim
          (λ (last : j ≡ tail). let same : slice_index new j ≡ address = ap (slice_index new) last ∙ here in m.0 (omega (arith, low, same)) (omega (arith, high, same)))
          (λ (ne : j ≡ tail → ⊥).
          let before : j < tail = omega (arith, to) in
          h.none_newer word j (omega (arith, from, m.1)) before (omega (arith, low, old j before)) (omega (arith, high, old j before)))
          (cases_eq j tail))
          (marked lanes address (tail + 1) word N inside);
      is_for = λ word some. ⊎_elim
          (λ (m : (address ≤ word) × (word < address + lanes) × (slice_index (with_words N address (replicate lanes (tail + 1))) word ≡ tail + 1)).
          let j : slice_index (with_words N address (replicate lanes (tail + 1))) word - 1 ≡ tail = omega (arith, m.2) in
          let same : slice_index new (slice_index (with_words N address (replicate lanes (tail + 1))) word - 1) ≡ address = ap (slice_index new) j ∙ here in
          (omega (arith, m.2), (omega (arith, m.0, same), omega (arith, m.1, same))))
          (λ (m : (address ≤ word → word < address + lanes → ⊥) × (slice_index (with_words N address (replicate lanes (tail + 1))) word ≡ slice_index N word)).
          let is = h.is_for word (omega (arith, some, m.1)) in
          let j : slice_index (with_words N address (replicate lanes (tail + 1))) word - 1 ≡ slice_index N word - 1 = ap (λ k. k - 1) m.1 in
          let before : slice_index N word - 1 < tail = omega (arith, is.0, some, m.1) in
          let same : slice_index new (slice_index (with_words N address (replicate lanes (tail + 1))) word - 1) ≡ slice_index A (slice_index N word - 1) = ap (slice_index new) j ∙ old (slice_index N word - 1) before in
          (omega (arith, is.0, m.1), (omega (arith, is.1.0, same), omega (arith, is.1.1, same))))
          (marked lanes address (tail + 1) word N inside);
    })

pub mark_step : (newest old : List ℕ) (address word number : ℕ) →
    newest ≡ with_words old address (replicate word number) →
    slice_set newest (address + word) number ≡ with_words old address (replicate (word + 1) number)
mark_step newest old address word number e =
    ap (λ ws. slice_set ws (address + word) number) e
    ∙ (ap (λ k. slice_set (with_words old address (replicate word number)) (address + k) number) (sym (length-replicate {A = ℕ} word number))
    ∙ (sym (with_words_more (replicate word number) old address number) ∙ ap (with_words old address) (replicate-append-replicate word 1 number)))

-- What is read of a queue, where this is the number of the newest store for a place
module _ (memory : List ℕ) {q : Inside} {b : Backlog} {place n : ℕ} (w : IsQueue q) (view : backlog_of q ≡ b)
    (span : b.span ≡ length memory) (inside : place < length memory) (read : n ≡ get_or q.newest.items place n) where
  abbrev addresses : List ℕ
  addresses = q.addresses.items

  number_is : n ≡ slice_index q.newest.items place
  number_is = get_or_read q.newest.items place n (omega (arith, ap (λ (b : Backlog). b.span) view)) read 0

  newest_of_all : NoneCovers q.lanes addresses place n q.tail
  newest_of_all = subst (λ k. NoneCovers q.lanes addresses place k q.tail) (sym number_is) (w.newest.none_newer place)

  -- the word is memory's
  pub seen_in_memory : n ≤ q.head → slice_index memory place ≡ slice_index (overlaid memory b.waiting) place
  seen_in_memory old =
      sym (seen_memory q.lanes (q.tail - q.head) q.head addresses q.words.items memory place
      (λ k lo hi. newest_of_all k (omega arith) (omega (arith, w.order))))
      ∙ ap (λ (b : Backlog). slice_index (overlaid memory b.waiting) place) view

  -- or that of a store which waits
  module _ (waits : q.head < n) where
    found : (n ≤ q.tail) × Covers q.lanes addresses place (n - 1)
    found =
        subst (λ k. (k ≤ q.tail) × Covers q.lanes addresses place (k - 1)) (sym number_is)
        (w.newest.is_for place (omega (arith, number_is)))

    pub store_there : n - 1 < length addresses
    store_there = omega (arith, found.0, w.inside)

    module _ {address : ℕ} (told : address ≡ get_or addresses (n - 1) address) where
      address_is : address ≡ slice_index addresses (n - 1)
      address_is = get_or_read addresses (n - 1) address store_there told 0

      pub address_below : address ≤ place
      address_below = omega (arith, found.1.0, address_is)

      pub word_there : (n - 1) * q.lanes + (place - address) < length q.words.items
      word_there =
          slot_inside q.lanes (n - 1) (place - address) (length addresses) (length q.words.items) store_there
          (omega (arith, found.1.0, found.1.1, address_is)) w.size

      pub seen_in_store : {word : ℕ} → word ≡ get_or q.words.items ((n - 1) * q.lanes + (place - address)) word →
          word ≡ slice_index (overlaid memory b.waiting) place
      seen_in_store {word} e =
          get_or_read q.words.items _ word word_there e 0
          ∙ (ap (λ k. slice_index q.words.items ((n - 1) * q.lanes + (place - k))) address_is
          ∙ (sym (seen_store q.lanes (q.tail - q.head) q.head (n - 1) addresses q.words.items memory place
          (omega arith) (omega (arith, found.0, w.order)) found.1.0 found.1.1 inside
          (λ k lo hi. newest_of_all k (omega arith) (omega (arith, w.order))))
          ∙ ap (λ (b : Backlog). slice_index (overlaid memory b.waiting) place) view))
