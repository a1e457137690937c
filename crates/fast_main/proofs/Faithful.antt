-- The words of a program that passes the check are sound.
use Rattle.std.proofs.Common.{◌≡◌, ◌≢◌, ℕ, zero, suc, ◌+◌, ◌*◌, ◌%◌, ◌==◌, ◌&&◌, All, List, [], length, map, ◌<◌, ◌≤◌}
use Rattle.std.proofs.Common.{Bool, true, false, inl, inr, refl, sym, ap, subst, ◌∙◌, arith, le_of_eq, eqb-true, ⊎_elim}
use Rattle.std.specs.Prelude.{◌||◌, if◌then◌else◌, not, nat_lt, slice_index_or, Option, Some, None, ◌^◌}
use Rattle.std.proofs.lemmas.Bool.{and_parts, or_cases}
use Rattle.std.specs.List.{list_all}
use Rattle.icode.specs.Actions.{PlainFits, plain_code}
use Rattle.icode.specs.declared.program.Program.{Program}
use Rattle.icode.specs.Limits.{IsWithinLimits}
use Rattle.icode.specs.Machine.{IsApart, results}
use Rattle.icode.specs.Plain.{PlainBody, PlainProgram}
use Rattle.icode.specs.Program.{plain_program, code_of, Fits}
use Rattle.code_check.proofs.MarksComplete.{marks_decide}
use Rattle.word_code.specs.InPlace.Sharing.{in_place}
use Rattle.word_code.proofs.Allowed.{lazy_for}
use Rattle.word_code.proofs.FreshWords.{fresh_words_ignore_leftovers}
use Rattle.word_code.proofs.InPlace.Fitting.{in_place_fits, in_place_apart}
use Rattle.word_code.proofs.InPlace.FreshInPlace.{in_place_fresh}
use Rattle.word_code.proofs.InPlace.Law.{in_place_is_same}
use Rattle.word_code.proofs.Numbers.{quickened_fits}
use Rattle.word_code.proofs.Quickened.{quickened_is_same}
use Rattle.nests.specs.Nests.{are_nests}
use Rattle.interchange.specs.Interchanged.{interchanged, interchanged_body}
use Rattle.interchange.proofs.Interchanged.{interchanged_program}
use Rattle.renumbered_registers.specs.Renumbered.{are_in_order, numbered_phases, registers_for, renumbered, with_numbers}
use Rattle.renumbered_registers.proofs.Law.{renumbered_leaves_the_same}
use Rattle.coalesced_loops.specs.Coalesced.{coalesced}
use Rattle.coalesced_loops.proofs.Law.{coalesced_does_the_same}
use Rattle.loop_lanes.specs.Lanes.{IsLanes, can_be_laned, laned}
use Rattle.loop_lanes.proofs.Law.{laned_leaves_the_same}
use Rattle.fused_loops.specs.Fused.{fused_phases, large_size, may_be_fused}
use Rattle.fused_loops.proofs.Law.{fused_leaves_the_same}
use Rattle.nests.specs.InPlace.{IsInPlaceOf}
use Rattle.two_tables.specs.Factors.{Cut, cut_of}
use Rattle.two_tables.specs.Factored.{factored, factored_at, factored_from, in_factors, is_cut_well}
use Rattle.two_tables.specs.Factored.{large_table, may_be_split}
use Rattle.two_tables.proofs.Law.{factored_leaves_the_same}
use Rattle.nests.proofs.InPlace.{after, itself}
use Rattle.word_code.specs.declared.program.WordProgram.{WordProgram}
use Rattle.word_code.specs.declared.laziness.WordSize.{WordSize}
use Rattle.word_code.specs.declared.laziness.WordSize.TheVariants.{Of32, Of64}
use Rattle.word_code.specs.Bytes.{bytes_of_line}
use Rattle.word_code.specs.Laziness.{allows, fast_words, laziness_for, takes_narrow}
use Rattle.word_code.specs.Laws.{IsLazyWithin}
use Rattle.word_code.specs.Views.{plain_word_program}
use Rattle.fast_main.specs.Options.Asked.{IsLaneCount}
use Rattle.fast_main.specs.Translation.{has_cheap_products, on_several, on_lanes, in_blocks, prepared, words_for}
use Rattle.fast_main.specs.Translation.{AreSoundWords, HasWholeLines, IsFaithful, IsOrderFree}
use Rattle.fast_main.proofs.Laned.{laned_by}
use Rattle.fast_main.proofs.Limited.{coalesced_within, factored_within, fused_within, interchanged_within, laned_within}
use Rattle.fast_main.proofs.Limited.{renumbered_within}
use Rattle.fast_main.proofs.Rerouted.{in_place_spells}
use Rattle.fast_text.specs.WordTexts.{IsSpellable}
use Rattle.fast_text.proofs.Spelling.{quickened_spells, width_of_words}

-- ---- the prepared program

-- q has the lines of p, and is within limits where p is; where p fits and is apart, so does q, of the same numbers, and
-- it leaves what p leaves
record Keeps (q p : PlainProgram) : Type 0 where
  line : q.line ≡ p.line
  within : IsWithinLimits p → IsWithinLimits q
  law : PlainFits p → ((phase : ℕ) → IsApart (plain_code p) phase) → IsInPlaceOf q p

keeps_itself : (p : PlainProgram) → Keeps p p
keeps_itself p = record { line = refl; within = λ h. h; law = itself p }

then_keeps : (r q p : PlainProgram) → Keeps r q → Keeps q p → Keeps r p
then_keeps r q p one two =
    record {
      line = one.line ∙ two.line;
      within = λ h. one.within (two.within h);
      law = λ fits apart. let first = two.law fits apart in after r q p (one.law first.fits first.apart) first;
    }

-- where a test holds, its phases alone are others
line_if : (p : PlainProgram) (b : Bool) (phases : List PlainBody) →
    (if b then record p { phases = phases } else p).line ≡ p.line
line_if p true phases = refl
line_if p false phases = refl

interchanged_is : (p : PlainProgram) → Keeps (interchanged p) p
interchanged_is p =
    record {
      line = line_if p (list_all (are_nests p.lanes) p.phases) (map (interchanged_body p.lanes) p.phases);
      within = interchanged_within p;
      law = interchanged_program p;
    }

renumbered_is : (p : PlainProgram) → Keeps (renumbered p) p
renumbered_is p =
    record {
      line = line
          (not (list_all (are_in_order p.lanes 0) p.phases) && nat_lt (registers_for p.lanes p.phases) (2 ^ 20))
          (numbered_phases p.lanes p.phases);
      within = renumbered_within p;
      law = renumbered_leaves_the_same p;
    }
  where
    line : (b : Bool) (phases : Option (List PlainBody)) →
        (if b then with_numbers (registers_for p.lanes p.phases) p phases else p).line ≡ p.line
    line true None = refl
    line true (Some phases) = refl
    line false phases = refl

-- with its registers renumbered, and then its loops interchanged
ordered_is : (p : PlainProgram) → Keeps (interchanged (renumbered p)) p
ordered_is p =
    then_keeps (interchanged (renumbered p)) (renumbered p) p (interchanged_is (renumbered p)) (renumbered_is p)

record Frame (q p : PlainProgram) : Type 0 where
  size : q.size ≡ p.size
  modulus : q.modulus ≡ p.modulus
  line : q.line ≡ p.line

laned_frame : (v : ℕ) (p : PlainProgram) (b : Bool) → Frame (laned_by v p b) p
laned_frame v p true = record { size = refl; modulus = refl; line = refl }
laned_frame v p false = record { size = refl; modulus = refl; line = refl }

laned_is : (v : ℕ) (p : PlainProgram) → IsLanes v → Keeps (laned v p) p
laned_is v p lanes =
    let frame = laned_frame v p (can_be_laned v p) in
    record {
      line = frame.line;
      within = λ h. laned_within p h v lanes;
      law = λ fits apart.
          let law = laned_leaves_the_same v p lanes fits apart in
          record { size = frame.size; modulus = frame.modulus; fits = law.fits; apart = law.apart; same = law.same };
    }

coalesced_is : (p : PlainProgram) → Keeps (coalesced p) p
coalesced_is p =
    let same = coalesced_does_the_same p in
    record {
      line = refl;
      within = coalesced_within p;
      law = λ fits apart. record {
        size = refl;
        modulus = refl;
        fits = same.fits fits;
        apart = λ phase. subst (λ code. IsApart code phase) (sym same.code) (apart phase);
        same = λ x turns orders.
            ap (λ code. results code x turns) same.code ∙ (itself p fits apart).same x turns orders;
      };
    }

-- on lanes as its loops are, or with them coalesced, or as it is
several_is : (v : ℕ) (p : PlainProgram) → IsLanes v → Keeps (on_several v p) p
several_is v p lanes = of_choice (can_be_laned v p) (can_be_laned v (coalesced p))
  where
    of_choice : (b c : Bool) → Keeps (if b then laned v p else (if c then laned v (coalesced p) else p)) p
    of_choice true c = laned_is v p lanes
    of_choice false true = then_keeps (laned v (coalesced p)) (coalesced p) p (laned_is v (coalesced p) lanes) (coalesced_is p)
    of_choice false false = keeps_itself p

on_lanes_is : (lanes : ℕ) (p : PlainProgram) → IsLaneCount lanes → Keeps (on_lanes lanes p) p
on_lanes_is lanes p (inl one) = subst (λ n. Keeps (on_lanes n p) p) (sym one) (ordered_is p)
on_lanes_is lanes p (inr some) = of_choice (lanes == 1)
  where
    q : PlainProgram
    q = interchanged (renumbered p)

    of_choice : (b : Bool) → Keeps (if b then q else on_several lanes q) p
    of_choice true = ordered_is p
    of_choice false = then_keeps (on_several lanes q) q p (several_is lanes q some) (ordered_is p)

in_blocks_is : (lanes : ℕ) (p : PlainProgram) → IsLaneCount lanes → Keeps (in_blocks lanes p) p
in_blocks_is lanes p count =
    let q = on_lanes lanes p in
    then_keeps (in_blocks lanes p) q p
    (record {
      line = line_if q (may_be_fused large_size q) (fused_phases q.lanes q.phases);
      within = λ h. fused_within q h large_size;
      law = fused_leaves_the_same large_size q;
    })
    (on_lanes_is lanes p count)

split_line : (p : PlainProgram) (table : ℕ) (cut : Cut) (b : Bool) →
    (if b then in_factors p table cut else p).line ≡ p.line
split_line p table cut true = refl
split_line p table cut false = refl

factored_line : (least n table : ℕ) (p : PlainProgram) → (factored_from least n table p).line ≡ p.line
factored_line least zero table p = refl
factored_line least (suc n) table p =
    let cut = cut_of (slice_index_or p.tables table []) in
    factored_line least n (table + 1) (factored_at least p table)
    ∙ split_line p table cut (may_be_split least p table cut && is_cut_well p table cut)

factored_is : (p : PlainProgram) → Keeps (factored large_table p) p
factored_is p =
    record {
      line = factored_line large_table (length p.tables) 0 p;
      within = factored_within large_table (length p.tables) 0 p;
      law = factored_leaves_the_same large_table p;
    }

prepared_is : (size : WordSize) (lanes : ℕ) (p : PlainProgram) → IsLaneCount lanes → Keeps (prepared size lanes p) p
prepared_is size lanes p count = of_choice (has_cheap_products size)
  where
    of_choice : (b : Bool) → Keeps (if b then factored large_table (in_blocks lanes p) else in_blocks lanes p) p
    of_choice true =
        then_keeps (factored large_table (in_blocks lanes p)) (in_blocks lanes p) p (factored_is (in_blocks lanes p))
        (in_blocks_is lanes p count)
    of_choice false = in_blocks_is lanes p count

-- the program in blocks, as it goes to its tables: it fits, and is apart
module _ (lanes : ℕ) (p there : Program) (count : IsLaneCount lanes)
    (is : plain_program there ≡ in_blocks lanes (plain_program p)) (fits : Fits p)
    (apart : (phase : ℕ) → IsApart (code_of p) phase) where
  pub blocks_fit : Fits there
  blocks_fit = subst PlainFits (sym is) ((in_blocks_is lanes (plain_program p) count).law fits apart).fits

  pub blocks_apart : (phase : ℕ) → IsApart (code_of there) phase
  blocks_apart phase =
      let law = (in_blocks_is lanes (plain_program p) count).law fits apart in
      subst (λ z. IsApart (plain_code z) phase) (sym is) (law.apart phase)

-- ---- its words

module _ (size : WordSize) (lanes : ℕ) (p there : Program) (count : IsLaneCount lanes)
    (is : plain_program there ≡ prepared size lanes (plain_program p)) (fits : Fits p)
    (apart : (phase : ℕ) → IsApart (code_of p) phase) where
  law : IsInPlaceOf (prepared size lanes (plain_program p)) (plain_program p)
  law = (prepared_is size lanes (plain_program p) count).law fits apart

  -- the program `there` is the prepared one, and fits
  pub fits_from : Fits there
  fits_from = subst PlainFits (sym is) law.fits

  modulus_from : there.modulus ≡ p.modulus
  modulus_from = ap (λ (z : PlainProgram). z.modulus) is ∙ law.modulus

  -- and takes words of the sizes that the program takes
  pub allowed_from : allows size p.modulus ≡ true → allows size there.modulus ≡ true
  allowed_from allowed = ap (allows size) modulus_from ∙ allowed

  module _ (words made : WordProgram) (quick : plain_word_program words ≡ fast_words size (plain_program there))
      (shared : plain_word_program made ≡ in_place (plain_program there) (plain_word_program words)) where
    -- the program `made` on words is `words` in place
    pub words_from : plain_word_program made ≡ words_for size lanes (plain_program p)
    words_from = shared ∙ ap (in_place (plain_program there)) quick ∙ ap (λ q. in_place q (fast_words size q)) is

-- ---- what they leave

-- The words of a program that fits and is apart, with lanes and a modulus that they take, fit, are apart and leave what
-- the program leaves
pub sound_words : (size : WordSize) (lanes : ℕ) (p : PlainProgram) → IsLaneCount lanes → IsWithinLimits p →
    PlainFits p → ((phase : ℕ) → IsApart (plain_code p) phase) → allows size p.modulus ≡ true →
    AreSoundWords size lanes p
sound_words size lanes p count limits fits apart allowed =
    let q = prepared size lanes p in
    let z = laziness_for size q.modulus q.lanes in
    let keeps = prepared_is size lanes p count in
    let law = keeps.law fits apart in
    let range = limits.header.of_modulus in
    let lazy : IsLazyWithin z q.modulus =
    subst (λ m. IsLazyWithin (laziness_for size m q.lanes) m) (sym law.modulus)
    (lazy_for size p.modulus q.lanes range.0 range.1 allowed) in
    let some : 0 < q.modulus = subst (λ m. 0 < m) (sym law.modulus) (let two = range.0 in omega (arith, two)) in
    let line : 1 ≤ q.line = subst (λ n. 1 ≤ n) (sym keeps.line) limits.header.of_line.0 in
    let faithful : IsFaithful size lanes p =
    λ x turns orders long low.
    in_place_is_same z q law.fits line x turns (subst (λ (n : ℕ). n ≤ length x) (sym law.size) long)
    ∙ quickened_is_same z q law.fits lazy some line x turns
    (subst (λ (m : ℕ). All (λ v. v < m) x) (sym law.modulus) low)
    ∙ law.same x turns orders in
    let fresh = marks_decide q line law.fits law.apart in
    record {
      fits = in_place_fits q (fast_words size q) (quickened_fits z q law.fits lazy some);
      apart = in_place_apart z q law.apart;
      faithful = faithful;
      fresh = fresh;
      again = λ told left x turns orders are long low.
          fresh_words_ignore_leftovers (words_for size lanes p) left (in_place_fresh z q law.fits line (fresh.0 told))
          are x turns
          (long ∙ sym law.size)
          ∙ faithful x turns orders (le_of_eq (sym long)) low;
    }

-- and they are read back from their text
pub spelt_words : (size : WordSize) (lanes : ℕ) (p : PlainProgram) → IsLaneCount lanes → IsWithinLimits p →
    PlainFits p → ((phase : ℕ) → IsApart (plain_code p) phase) → allows size p.modulus ≡ true →
    IsSpellable (words_for size lanes p)
spelt_words size lanes p count limits fits apart allowed =
    let q = prepared size lanes p in
    let keeps = prepared_is size lanes p count in
    let within = keeps.within limits in
    let range = within.header.of_modulus in
    let allows_q = ap (allows size) (keeps.law fits apart).modulus ∙ allowed in
    let lazy = lazy_for size q.modulus q.lanes range.0 range.1 allows_q in
    let width = width_of_words size q.modulus q.lanes in
    in_place_spells q (fast_words size q)
    (quickened_spells (laziness_for size q.modulus q.lanes) q within lazy width.0 width.1)

-- words that leave what the program leaves, whatever the order of turns, leave the same in all of them
pub order_free : (size : WordSize) (lanes : ℕ) (p : PlainProgram) → AreSoundWords size lanes p → IsOrderFree size lanes p
order_free size lanes p sound x turns long low = sound.faithful x turns [] long low ∙ sym (sound.faithful x [] [] long low)

-- ---- their lines

-- the bytes of a line of words of this width, which has as many words as a line of p
module _ (lanes : ℕ) (p : PlainProgram) (count : IsLaneCount lanes) where
  line_is : (size : WordSize) → (prepared size lanes p).line ≡ p.line
  line_is size = (prepared_is size lanes p count).line

  narrow_lines : p.line % 16 ≡ 0 → bytes_of_line (words_for Of32 lanes p) % 64 ≡ 0
  narrow_lines whole = subst (λ n. n * 4 % 64 ≡ 0) (sym (line_is Of32)) (omega (arith, whole))

  wide_lines : p.line % 8 ≡ 0 → bytes_of_line (words_for Of64 lanes p) % 64 ≡ 0
  wide_lines whole = subst (λ n. n * 8 % 64 ≡ 0) (sym (line_is Of64)) (omega (arith, whole))

  -- words of 32 bits are taken with several processors where a line is a multiple of 16 words
  narrow_whole : p.procs ≢ 1 → takes_narrow p ≡ true → p.line % 16 ≡ 0
  narrow_whole several taken =
      let parts = and_parts (nat_lt p.modulus 2147483648) ((p.procs == 1) || (p.line % 16 == 0)) taken in
      ⊎_elim (λ one. absurd (several (eqb-true p.procs 1 one))) (λ whole. eqb-true (p.line % 16) 0 whole)
      (or_cases (p.procs == 1) (p.line % 16 == 0) parts.1)

  pub whole_lines_kept : HasWholeLines lanes p
  whole_lines_kept several whole = by_size (takes_narrow p) refl
    where
      by_size : (b : Bool) → takes_narrow p ≡ b → bytes_of_line (words_for (if b then Of32 else Of64) lanes p) % 64 ≡ 0
      by_size true e = narrow_lines (narrow_whole several e)
      by_size false e = wide_lines whole
