-- The stores of a queue.
use Rattle.std.proofs.Common.{◌≡◌, ℕ, zero, suc, ◌+◌, ◌-◌, ◌*◌, ◌<◌, ◌≤◌, ◌≢◌, List, [], ◌∷◌, ◌++◌, length, refl, sym}
use Rattle.std.proofs.Common.{ap, ap₂, ◌∙◌, subst, arith, ⊎_elim, mul-le-mul_left, mul_comm, get_or-set_same}
use Rattle.std.proofs.Common.{get_or-set_other}
use Rattle.std.specs.Prelude.{slice_index, slice_set}
use Rattle.std.proofs.lemmas.Bool.{cases_eq}
use Rattle.icode.specs.Buffers.{Waiting, overlaid}
use Rattle.icode.specs.Machine.{words_at, with_words}
use Rattle.icode.proofs.LaneSteps.{words_at_more, with_words_more}
use Rattle.icode.proofs.Words.{words_at-agree, with_words-other, slice_index-agree, length-words_at}
use Rattle.icode.proofs.SequenceLemmas.Placing.{length-with_words, slice_index-words_at}
use Rattle.buffer_machine.specs.Backlog.{window}
use Rattle.buffer_machine.specs.Waits.{OldestFits, NoneCovers}

-- Words that were written

-- the first is where it was written, and is what a later write leaves
pub words_at-with_words : (vs xs : List ℕ) (i : ℕ) → i + length vs ≤ length xs →
    words_at (length vs) (with_words xs i vs) i ≡ vs
words_at-with_words [] xs i le = refl
words_at-with_words (v ∷ vs) xs i le =
    let ys : List ℕ = slice_set xs i v in
    let here : slice_index (with_words ys (i + 1) vs) i ≡ v =
    slice_index-agree (with_words ys (i + 1) vs) ys i (with_words-other vs ys (i + 1) i (λ low high. absurd (omega arith)))
    ∙ get_or-set_same xs i v 0 (omega arith) in
    ap₂ (λ z zs. z ∷ zs) here (words_at-with_words vs ys (i + 1) (omega (arith, length-with_words (v ∷ []) xs i)))

-- Windows

window-agree : (lanes n i : ℕ) (A B W V : List ℕ) → ((j : ℕ) → i ≤ j → j < i + n → slice_index A j ≡ slice_index B j) →
    ((j : ℕ) → i ≤ j → j < i + n → words_at lanes W (j * lanes) ≡ words_at lanes V (j * lanes)) →
    window lanes A W n i ≡ window lanes B V n i
window-agree lanes zero i A B W V ha hw = refl
window-agree lanes (suc n) i A B W V ha hw =
    let a = ha i (omega arith) (omega arith) in
    let w = hw i (omega arith) (omega arith) in
    let rest = window-agree lanes n (i + 1) A B W V (λ j low high. ha j (omega arith) (omega arith)) (λ j low high. hw j (omega arith) (omega arith)) in
    ap₂ (λ (s : Waiting) (ss : List Waiting). s ∷ ss) (ap₂ (λ (address : ℕ) (words : List ℕ). record { address = address; words = words }) a w) rest

window-last : (lanes n i : ℕ) (A W : List ℕ) → window lanes A W (suc n) i ≡ window lanes A W n i ++ record { address = slice_index A (i + n); words = words_at lanes W ((i + n) * lanes) } ∷ []
window-last lanes zero i A W =
    let e : i ≡ i + 0 = omega arith in
    ap (λ k. record { address = slice_index A k; words = words_at lanes W (k * lanes) } ∷ []) e
window-last lanes (suc n) i A W =
    let e : i + 1 + n ≡ i + suc n = omega arith in
    ap (λ (ss : List Waiting). record { address = slice_index A i; words = words_at lanes W (i * lanes) } ∷ ss)
    (window-last lanes n (i + 1) A W ∙ ap (λ k. window lanes A W n (i + 1) ++ record { address = slice_index A k; words = words_at lanes W (k * lanes) } ∷ []) e)

-- one store more
pub window-push : (lanes head tail address : ℕ) (A W V values : List ℕ) → head ≤ tail → tail < length A → length W ≡ length A * lanes → length values ≡ lanes → V ≡ with_words W (tail * lanes) values → window lanes (slice_set A tail address) V (tail + 1 - head) head ≡ window lanes A W (tail - head) head ++ record { address = address; words = values } ∷ []
window-push lanes head tail address A W V values order lt size few e =
    let n : ℕ = tail - head in
    let more : tail + 1 - head ≡ suc n = omega arith in
    let last : head + n ≡ tail = omega arith in
    let le : tail + 1 ≤ length A = omega arith in
    let room : (tail + 1) * lanes ≤ length A * lanes = omega (arith, mul_comm (tail + 1) lanes, mul_comm (length A) lanes, mul-le-mul_left lanes le) in
    ap (λ k. window lanes (slice_set A tail address) V k head) more
    ∙ (window-last lanes n head (slice_set A tail address) V
    ∙ ap₂ (λ (ss : List Waiting) (s : Waiting). ss ++ s ∷ [])
    (window-agree lanes n head (slice_set A tail address) A V W
    (λ j low high. let ne : j ≢ tail = omega arith in get_or-set_other A tail j address 0 ne)
    (λ j low high.
    let before : j + 1 ≤ tail = omega arith in
    let below : (j + 1) * lanes ≤ tail * lanes = omega (arith, mul_comm (j + 1) lanes, mul_comm tail lanes, mul-le-mul_left lanes before) in
    ap (λ ws. words_at lanes ws (j * lanes)) e
    ∙ words_at-agree lanes (with_words W (tail * lanes) values) W (j * lanes) (λ k a b. with_words-other values W (tail * lanes) k (λ low high. absurd (omega arith)))))
    (ap₂ (λ (address : ℕ) (words : List ℕ). record { address = address; words = words })
    (ap (slice_index (slice_set A tail address)) last ∙ get_or-set_same A tail address 0 lt)
    (ap (λ k. words_at lanes V (k * lanes)) last
    ∙ (ap (λ ws. words_at lanes ws (tail * lanes)) e
    ∙ subst (λ n. words_at n (with_words W (tail * lanes) values) (tail * lanes) ≡ values) few (words_at-with_words values W (tail * lanes) (omega arith))))))

-- one store less
pub window-first : (lanes head tail : ℕ) (A W : List ℕ) → head < tail → window lanes A W (tail - head) head ≡ record { address = slice_index A head; words = words_at lanes W (head * lanes) } ∷ window lanes A W (tail - (head + 1)) (head + 1)
window-first lanes head tail A W lt =
    let more : tail - head ≡ suc (tail - (head + 1)) = omega arith in
    ap (λ n. window lanes A W n head) more

pub oldest_there : (lanes span n i : ℕ) (A W : List ℕ) → OldestFits lanes span (window lanes A W n i) → 0 < n
oldest_there lanes span zero i A W h = absurd h
oldest_there lanes span (suc n) i A W h = omega arith

-- What is seen

pub with_words-here : (vs m : List ℕ) (a place : ℕ) → a ≤ place → place < a + length vs → place < length m →
    slice_index (with_words m a vs) place ≡ slice_index vs (place - a)
with_words-here [] m a place low high inside = absurd (omega arith)
with_words-here (v ∷ vs) m a place low high inside =
    let ys : List ℕ = slice_set m a v in
    ⊎_elim
    (λ (e : a ≡ place).
    let z : place - a ≡ 0 = omega arith in
    slice_index-agree (with_words ys (a + 1) vs) ys place (with_words-other vs ys (a + 1) place (λ low high. absurd (omega arith)))
    ∙ (ap (slice_index ys) (sym e) ∙ (get_or-set_same m a v 0 (omega arith) ∙ ap (slice_index (v ∷ vs)) (sym z))))
    (λ (ne : a ≡ place → ⊥).
    let s : place - a ≡ suc (place - (a + 1)) = omega arith in
    with_words-here vs ys (a + 1) place (omega arith) (omega arith) (omega (arith, length-with_words (v ∷ []) m a))
    ∙ ap (slice_index (v ∷ vs)) (sym s))
    (cases_eq a place)

-- where no store is for the word, it is memory's
pub seen_memory : (lanes n i : ℕ) (A W m : List ℕ) (place : ℕ) → NoneCovers lanes A place i (i + n) →
    slice_index (overlaid m (window lanes A W n i)) place ≡ slice_index m place
seen_memory lanes zero i A W m place none = refl
seen_memory lanes (suc n) i A W m place none =
    let vs : List ℕ = words_at lanes W (i * lanes) in
    let a : ℕ = slice_index A i in
    seen_memory lanes n (i + 1) A W (with_words m a vs) place (λ j low high. none j (omega arith) (omega arith))
    ∙ slice_index-agree (with_words m a vs) m place (with_words-other vs m a place (λ low high. none i (omega arith) (omega arith) low (omega (arith, length-words_at lanes W (i * lanes)))))

-- else it is that of the newest store that is for it
pub seen_store : (lanes n i j : ℕ) (A W m : List ℕ) (place : ℕ) → i ≤ j → j < i + n → slice_index A j ≤ place →
    place < slice_index A j + lanes → place < length m → NoneCovers lanes A place (j + 1) (i + n) →
    slice_index (overlaid m (window lanes A W n i)) place ≡ slice_index W (j * lanes + (place - slice_index A j))
seen_store lanes zero i j A W m place ij jn low high inside none = absurd (omega arith)
seen_store lanes (suc n) i j A W m place ij jn low high inside none =
    let vs : List ℕ = words_at lanes W (i * lanes) in
    let a : ℕ = slice_index A i in
    let size : length vs ≡ lanes = length-words_at lanes W (i * lanes) in
    ⊎_elim
    (λ (e : i ≡ j).
    let same : slice_index A i ≡ slice_index A j = ap (slice_index A) e in
    seen_memory lanes n (i + 1) A W (with_words m a vs) place (λ k lo hi. none k (omega arith) (omega arith))
    ∙ (with_words-here vs m a place (omega arith) (omega arith) inside
    ∙ (slice_index-words_at lanes W (i * lanes) (place - a) (omega arith)
    ∙ ap (λ k. slice_index W (k * lanes + (place - slice_index A k))) e)))
    (λ (ne : i ≡ j → ⊥).
    let more : NoneCovers lanes A place (j + 1) (i + 1 + n) = λ k lo hi. none k lo (omega arith) in
    seen_store lanes n (i + 1) j A W (with_words m a vs) place (omega arith) (omega arith) low high (omega (arith, length-with_words vs m a)) more)
    (cases_eq i j)

pub slot_inside : (lanes j d n size : ℕ) → j < n → d < lanes → size ≡ n * lanes → j * lanes + d < size
slot_inside lanes j d n size lt small e =
    let le : j + 1 ≤ n = omega arith in
    omega (arith, mul_comm (j + 1) lanes, mul_comm n lanes, mul-le-mul_left lanes le)

-- one more lane of what is seen
pub load_step : (registers old X : List ℕ) (place address lane v : ℕ) → v ≡ slice_index X (address + lane) →
    registers ≡ with_words old place (words_at lane X address) →
    slice_set registers (place + lane) v ≡ with_words old place (words_at (lane + 1) X address)
load_step registers old X place address lane v ev e =
    let vs : List ℕ = words_at lane X address in
    ap₂ (λ (ws : List ℕ) (w : ℕ). slice_set ws (place + lane) w) e ev
    ∙ (ap (λ k. slice_set (with_words old place vs) (place + k) (slice_index X (address + lane))) (sym (length-words_at lane X address))
    ∙ (sym (with_words_more vs old place (slice_index X (address + lane))) ∙ ap (with_words old place) (sym (words_at_more lane X address))))
