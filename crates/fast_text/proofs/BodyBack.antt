-- The texts of phases and of tables are read back.
use Rattle.std.proofs.Common.{◌≡◌, ℕ, zero, suc, ◌+◌, ◌≤◌, Bool, true, ltb, ◌&&◌, List, [], ◌∷◌, ◌++◌, length}
use Rattle.std.proofs.Common.{codes}
use Rattle.std.proofs.Common.{flat_map, Result, Err, refl, sym, ap, subst, ◌∙◌, append_assoc, arith}
use Rattle.std.specs.List.{list_all}
use Rattle.std.proofs.lemmas.Bool.{ltb-true, and_parts}
use Rattle.std.proofs.lemmas.List.{append-nil, length-append}
use Rattle.icode.specs.Limits.{is_small_positive, is_op_within, is_stmt_within, is_body_within}
use Rattle.icode.specs.Plain.{PlainOp}
use Rattle.grammar.specs.Reading.{Place, word_at}
use Rattle.listing_text.specs.Numbers.{numbered_text}
use Rattle.listing_text.specs.Reading.{above_all}
use Rattle.listing_text.proofs.ReadBack.{Back, then_back, word_back, positive_fits}
use Rattle.word_code.specs.declared.program.Reduction.{Reduction}
use Rattle.word_code.specs.Bare.{bare_stmt, bare_body}
use Rattle.word_code.specs.WordProgram.{Note, WordBody, Loop, Do, NoStmts, AndStmts}
use Rattle.fast_text.specs.FunctionText.{each_from}
use Rattle.fast_text.specs.WordReading.{Opens, Closes, Reduces, Does, line_at, body_by, body_at}
use Rattle.fast_text.specs.WordReading.{numbered_at, all_from_0, phase_at}
use Rattle.fast_text.specs.WordText.{reduction_text, word_op_text, loop_text, word_body_text}
use Rattle.fast_text.specs.WordText.{declared_text}
use Rattle.fast_text.specs.WordText.{word_phase_text}
use Rattle.fast_text.specs.WordTexts.{is_word, is_reduction_of_words, is_note_of, has_notes_of_words}
use Rattle.fast_text.specs.WordTexts.{have_notes_of_words}
use Rattle.fast_text.proofs.LineBack.{open_back, close_back, reduce_back, op_back, op_long, open_long, reduce_long}

-- what is left after a text that is not empty is shorter
shorter : (w rest : List ℕ) (place : Place ℕ) (lines : ℕ) → 1 ≤ length w → place.rest ≡ w ++ rest →
    length place.rest ≤ suc lines → length rest ≤ lines
shorter w rest place lines some e le = omega (arith, some, ap length e, length-append w rest, le)

not_empty : (w rest : List ℕ) (place : Place ℕ) → 1 ≤ length w → place.rest ≡ w ++ rest → length place.rest ≤ 0 → ⊥
not_empty w rest place some e le = omega (arith, some, ap length e, length-append w rest, le)

-- what is left after a text is no longer
no_longer : (w rest : List ℕ) (place : Place ℕ) (lines : ℕ) → place.rest ≡ w ++ rest →
    length place.rest ≤ lines → length rest ≤ lines
no_longer w rest place lines e le = omega (arith, ap length e, length-append w rest, le)

end_long : 1 ≤ length (codes "}\n")
end_long = omega arith

shape_loop : (begin body end others rest : List ℕ) → ((begin ++ body ++ end) ++ others) ++ rest ≡ begin
    ++ (body ++ (end ++ (others ++ rest)))
shape_loop begin body end others rest = simp append_assoc

shape_do : (before op others rest : List ℕ) → ((before ++ op) ++ others) ++ rest ≡ before ++ (op ++ (others ++ rest))
shape_do before op others rest = simp append_assoc

module _ (m lanes : ℕ) (below : m ≤ above_all) (some : 1 ≤ lanes) where
  -- a body that is read back after this text
  RestBack : ℕ → WordBody → List ℕ → List ℕ → Type 0
  RestBack depth rest text tail = (lines : ℕ) (q : Place ℕ) → q.rest ≡ text → length q.rest ≤ lines →
      Back (body_at lines lanes depth []) rest q tail

  -- an operation after these reductions
  does_back : (lines depth : ℕ) (done : List Reduction) (note : Note) (op : PlainOp) (rest : WordBody)
      (place : Place ℕ) (others tail : List ℕ) → depth ≤ 64 → is_op_within m op depth ≡ true →
      is_note_of op note ≡ true → place.rest ≡ word_op_text lanes note op ++ others → length place.rest ≤ lines →
      RestBack depth rest others tail →
      Back (body_at lines lanes depth done) (AndStmts (Do
      (record { before = done; bias = note.bias; quotient = note.quotient }) op) rest) place tail
  unfolding RestBack body_at
  does_back zero depth done note op rest place others tail few w h e le more =
      absurd (not_empty (word_op_text lanes note op) others place (op_long lanes depth note op) e le)
  does_back (suc lines) depth done note op rest place others tail few w h e le more =
      then_back (line_at lanes depth) (body_by (body_at lines lanes) depth done) (Does note.bias note.quotient op) _
      place others tail
      (op_back lanes depth m depth op note below few some w h place others e) (λ q e1.
      then_back (body_at lines lanes depth []) _ rest _ q tail tail
      (more lines q e1 (subst (λ r. length r ≤ lines) (sym e1)
      (shorter (word_op_text lanes note op) others place lines (op_long lanes depth note op) e le)))
      (λ q2 e2. (q2, refl, e2)))

  -- and with the reductions that come before it
  reduced_back : (reductions : List Reduction) (lines depth : ℕ) (done : List Reduction) (note : Note) (op : PlainOp)
      (rest : WordBody) (place : Place ℕ) (others tail : List ℕ) → depth ≤ 64 → is_op_within m op depth ≡ true →
      list_all is_reduction_of_words reductions ≡ true → is_note_of op note ≡ true →
      place.rest ≡ flat_map reduction_text reductions ++ (word_op_text lanes note op ++ others) →
      length place.rest ≤ lines → RestBack depth rest others tail →
      Back (body_at lines lanes depth done) (AndStmts (Do
      (record { before = done ++ reductions; bias = note.bias; quotient = note.quotient }) op) rest) place tail
  unfolding body_at
  reduced_back [] lines depth done note op rest place others tail few w all h e le more =
      subst (λ before. Back (body_at lines lanes depth done)
      (AndStmts (Do (record { before = before; bias = note.bias; quotient = note.quotient }) op) rest) place tail)
      (sym (append-nil done)) (does_back lines depth done note op rest place others tail few w h e le more)
  reduced_back (r ∷ reductions) zero depth done note op rest place others tail few w all h e le more =
      absurd (not_empty (reduction_text r) _ place (reduce_long lanes depth r)
      (e ∙ append_assoc (reduction_text r) _ _) le)
  reduced_back (r ∷ reductions) (suc lines) depth done note op rest place others tail few w all h e le more =
      let words = and_parts (is_reduction_of_words r) (list_all is_reduction_of_words reductions) all in
      let numbers = and_parts (is_word r.register) (is_word r.amount) words.0 in
      let left : List ℕ = flat_map reduction_text reductions ++ (word_op_text lanes note op ++ others) in
      let is : place.rest ≡ reduction_text r ++ left = e ∙ append_assoc (reduction_text r)
      (flat_map reduction_text reductions) (word_op_text lanes note op ++ others) in
      then_back (line_at lanes depth) (body_by (body_at lines lanes) depth done) (Reduces r) _ place left tail
      (reduce_back lanes depth r (ltb-true r.register above_all numbers.0) (ltb-true r.amount above_all numbers.1)
      place left is) (λ q e1.
      subst (λ before. Back (body_at lines lanes depth (done ++ r ∷ []))
      (AndStmts (Do (record { before = before; bias = note.bias; quotient = note.quotient }) op) rest) q tail)
      (append_assoc done (r ∷ []) reductions)
      (reduced_back reductions lines depth (done ++ r ∷ []) note op rest q others tail few w words.1 h e1
      (subst (λ t. length t ≤ lines) (sym e1) (shorter (reduction_text r) left place lines
      (reduce_long lanes depth r) is le)) more))

  pub body_back : (b : WordBody) (lines depth : ℕ) → depth ≤ 64 → is_body_within m (bare_body b) depth ≡ true →
      have_notes_of_words b ≡ true → (place : Place ℕ) (tail : List ℕ) →
      place.rest ≡ word_body_text lanes depth b ++ (codes "}\n" ++ tail) → length place.rest ≤ lines →
      Back (body_at lines lanes depth []) b place tail
  unfolding RestBack body_at
  body_back NoStmts zero depth few w h place tail e le = absurd (not_empty (codes "}\n") tail place end_long e le)
  body_back NoStmts (suc lines) depth few w h place tail e le =
      then_back (line_at lanes depth) (body_by (body_at lines lanes) depth []) Closes _ place tail tail
      (close_back lanes depth place tail e) (λ q e1. (q, refl, e1))
  body_back (AndStmts (Loop count body) rest) zero depth few w h place tail e le =
      let end = codes "}\n" in
      let is = e ∙ shape_loop (loop_text depth count) (word_body_text lanes (depth + 1) body) end
      (word_body_text lanes depth rest) (end ++ tail) in
      absurd (not_empty (loop_text depth count) _ place (open_long lanes depth count) is le)
  body_back (AndStmts (Loop count body) rest) (suc lines) depth few w h place tail e le =
      let end = codes "}\n" in
      let others : List ℕ = word_body_text lanes depth rest ++ (end ++ tail) in
      let inner : List ℕ = word_body_text lanes (depth + 1) body ++ (end ++ others) in
      let is : place.rest ≡ loop_text depth count ++ inner =
      e ∙ shape_loop (loop_text depth count) (word_body_text lanes (depth + 1) body) end
      (word_body_text lanes depth rest) (end ++ tail) in
      let limits = and_parts (is_stmt_within m (bare_stmt (Loop count body)) depth)
      (is_body_within m (bare_body rest) depth) w in
      let loop = and_parts (is_small_positive count) (ltb depth 64 && is_body_within m (bare_body body) (depth + 1))
      limits.0 in
      let deep = and_parts (ltb depth 64) (is_body_within m (bare_body body) (depth + 1)) loop.1 in
      let notes = and_parts (have_notes_of_words body) (have_notes_of_words rest) h in
      let left : length inner ≤ lines = shorter (loop_text depth count) inner place lines
      (open_long lanes depth count) is le in
      then_back (line_at lanes depth) (body_by (body_at lines lanes) depth []) (Opens count) _ place inner tail
      (open_back lanes depth count (positive_fits count loop.0) place inner is) (λ q e1.
      let short : length q.rest ≤ lines = subst (λ t. length t ≤ lines) (sym e1) left in
      then_back (body_at lines lanes (depth + 1) []) _ body _ q others tail
      (body_back body lines (depth + 1) (omega (arith, ltb-true depth 64 deep.0)) deep.1 notes.0 q others e1 short)
      (λ q2 e2.
      let all : inner ≡ (word_body_text lanes (depth + 1) body ++ end) ++ others = sym
      (append_assoc (word_body_text lanes (depth + 1) body) end others) in
      then_back (body_at lines lanes depth []) _ rest _ q2 tail tail
      (body_back rest lines depth few limits.1 notes.1 q2 tail e2
      (subst (λ t. length t ≤ lines) (sym e2) (no_longer (word_body_text lanes (depth + 1) body ++ end) others q
      lines (e1 ∙ all) short)))
      (λ q3 e3. (q3, refl, e3))))
  body_back (AndStmts (Do note op) rest) lines depth few w h place tail e le =
      let end = codes "}\n" in
      let others : List ℕ = word_body_text lanes depth rest ++ (end ++ tail) in
      let limits = and_parts (is_op_within m op depth) (is_body_within m (bare_body rest) depth) w in
      let notes = and_parts (has_notes_of_words (Do note op)) (have_notes_of_words rest) h in
      let note_words = and_parts (list_all is_reduction_of_words note.before) (is_note_of op note) notes.0 in
      reduced_back note.before lines depth [] note op rest place others tail few limits.0 note_words.0 note_words.1
      (e ∙ shape_do (flat_map reduction_text note.before) (word_op_text lanes note op)
      (word_body_text lanes depth rest) (end ++ tail)) le
      (λ k q e1 short. body_back rest k depth few limits.1 notes.1 q tail e1 short)

-- ---- items by their numbers

-- the texts of items, from this number on
abbrev pub texts : {A : Type 0} → (ℕ → A → List ℕ) → ℕ → List A → List ℕ
texts text number [] = []
texts text number (x ∷ xs) = text number x ++ texts text (number + 1) xs

-- nothing is read here
abbrev pub Refuses : {A : Type 0} → (Place ℕ → Result (A × Place ℕ) ℕ) → List ℕ → Type 0
Refuses read tail = (place : Place ℕ) → place.rest ≡ tail → (left : ℕ) × (read place ≡ Err left)

module _ {A : Type 0} (read : ℕ → Place ℕ → Result (A × Place ℕ) ℕ) (text : ℕ → A → List ℕ) (fits : A → Bool)
    (back : (n : ℕ) (x : A) → fits x ≡ true → (place : Place ℕ) (rest : List ℕ) → place.rest ≡ text n x ++ rest →
    Back (read n) x place rest)
    (long : (n : ℕ) (x : A) → 1 ≤ length (text n x)) (tail : List ℕ) (stops : (n : ℕ) → Refuses (read n) tail) where
  numbered_back : (xs : List A) (count n : ℕ) → list_all fits xs ≡ true → length xs ≤ count → (place : Place ℕ) →
      place.rest ≡ texts text n xs ++ tail → Back (numbered_at count read n) xs place tail
  unfolding numbered_at
  numbered_back [] zero n all le place e = (place, refl, e)
  numbered_back [] (suc count) n all le place e =
      let stop = stops n place e in
      (record { rest = place.rest; far = stop.0 }, rw stop.1 refl, e)
  numbered_back (x ∷ xs) zero n all le place e = absurd (omega (arith, le))
  numbered_back (x ∷ xs) (suc count) n all le place e =
      let both = and_parts (fits x) (list_all fits xs) all in
      let h = back n x both.0 place (texts text (n + 1) xs ++ tail)
      (e ∙ append_assoc (text n x) (texts text (n + 1) xs) tail) in
      let more = numbered_back xs count (n + 1) both.1 (omega (arith, le)) h.0 h.2 in
      (more.0, rw (h.1, more.1) refl, more.2)

  texts_long : (xs : List A) (n : ℕ) → length xs ≤ length (texts text n xs)
  texts_long [] n = omega arith
  texts_long (x ∷ xs) n = omega (
    arith,
    long n x,
    texts_long xs (n + 1),
    length-append (text n x)
        (texts text (n + 1) xs),
  )

  pub all_back : (xs : List A) → list_all fits xs ≡ true → (place : Place ℕ) → place.rest ≡ texts text 0 xs ++ tail →
      Back (all_from_0 read) xs place tail
  all_back xs all place e =
      numbered_back xs (length place.rest) 0 all
      (omega (arith, texts_long xs 0, ap length e, length-append (texts text 0 xs) tail)) place e

-- ---- a phase

shape_phase : (begin registers body end rest : List ℕ) → (begin ++ (registers ++ body ++ end)) ++ rest ≡
    (begin ++ registers)
    ++ (body ++ (end ++ rest))
shape_phase begin registers body end rest = simp append_assoc

pub phase_back : (before behind : List ℕ) (m lanes regs number : ℕ) (body : WordBody) → m ≤ above_all → 1 ≤ lanes →
    is_body_within m (bare_body body) 0 ≡ true → have_notes_of_words body ≡ true → (place : Place ℕ) (rest : List ℕ) →
    place.rest ≡ (numbered_text before number behind ++ word_phase_text lanes regs body) ++ rest →
    Back (phase_at before behind lanes regs number) body place rest
phase_back before behind m lanes regs number body below some w h place rest e =
    let begin : List ℕ = numbered_text before number behind ++ each_from declared_text regs 0 in
    let left : List ℕ = word_body_text lanes 0 body ++ (codes "}\n" ++ rest) in
    then_back (word_at begin) _ tt body place left rest
    (word_back begin place left (e ∙ shape_phase (numbered_text before number behind)
    (each_from declared_text regs 0) (word_body_text lanes 0 body) (codes "}\n") rest)) (λ q e1.
    body_back m lanes below some body (length q.rest) 0 (omega arith) w h q rest e1 (omega arith))
