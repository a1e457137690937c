-- Each call has an outcome, and a listing that passes has its text.
use Rattle.std.proofs.Common.{◌≡◌, ℕ, ◌+◌, ◌≤◌, Bool, true, false, List, [], Option, Some, None, Ok, Err, Result}
use Rattle.std.proofs.Common.{length, inl, inr, refl, sym, ap, subst, ⊎_elim}
use Rattle.std.specs.Prelude.{codes, if◌then◌else◌}
use Rattle.std.specs.Str.{bytes_eq}
use Rattle.std.specs.Option.{option_map_or}
use Rattle.std.proofs.lemmas.Bool.{cases_lt}
use Rattle.clap.specs.Words.{Text, fault_of, first_of, matches_of}
use Rattle.clap.specs.Walk.{is_empty}
use Rattle.code_check.proofs.Decided.{decided}
use Rattle.code_check.proofs.Whole.{passed_fits}
use Rattle.code_check.specs.Refusals.{PassesCheck, action_limit}
use Rattle.data_stream.specs.Parts.Part.{first_part}
use Rattle.icode.specs.Limits.{IsWithinLimits}
use Rattle.icode.specs.Plain.{PlainProgram}
use Rattle.listing_text.specs.Lines.{read_lines, Judges}
use Rattle.listing_text.specs.Listing.{listing_wording}
use Rattle.listing_text.specs.ListingGrammar.{listing_grammar}
use Rattle.listing_text.specs.Progress.{finish, step}
use Rattle.listing_text.specs.Texts.{is_listing}
use Rattle.listing_text.proofs.ListingReads.{listing_judges}
use Rattle.word_code.specs.declared.laziness.WordSize.{WordSize}
use Rattle.word_code.specs.Laziness.{allows, size_for}
use Rattle.fast_text.specs.TextForm.{TextForm}
use Rattle.fast_main.specs.declared.status.Status.{Status}
use Rattle.fast_main.specs.declared.status.Status.TheVariants.{InputWritten, ListingSyntax, TooLong, Usage}
use Rattle.fast_main.specs.declared.status.Status.TheVariants.{WideModulus}
use Rattle.fast_main.specs.Options.Asked.{Asked, IsLaneCount, asked, form_in, lanes_in, lanes_named, size_in}
use Rattle.fast_main.specs.Options.Asked.{together}
use Rattle.fast_main.specs.Options.CommandLine.{fast_app}
use Rattle.fast_main.specs.Outcome.{IsAnswer, IsOutcome, IsOutcomeOfListing, IsTranslated}
use Rattle.fast_main.specs.Status.{listing_limit, status_of_check}
use Rattle.fast_main.specs.Translation.{AreSoundWords, KeepsInput, ending_of, fast_text, written_text, takes_leftovers, wanted_words, writer_in}
use Rattle.fast_main.specs.Words.{bits_of}
use Rattle.fast_text.specs.WordTexts.{IsReadAs}
use Rattle.fast_text.proofs.TextBack.{text_is_read}
use Rattle.fast_main.proofs.FirstLine.{behind_first_line}
use Rattle.fast_main.proofs.Faithful.{sound_words, spelt_words}

-- ---- lanes

lanes-named : (a b c d : Bool) (n : ℕ) →
    (if a then Some 2 else (if b then Some 4 else (if c then Some 8 else (if d then Some 16 else None)))) ≡ Some n →
    IsLaneCount n
lanes-named true b c d n e = inr (inl (let is : n ≡ 2 = cc in is))
lanes-named false true c d n e = inr (inr (inl (let is : n ≡ 4 = cc in is)))
lanes-named false false true d n e = inr (inr (inr (inl (let is : n ≡ 8 = cc in is))))
lanes-named false false false true n e = inr (inr (inr (inr (let is : n ≡ 16 = cc in is))))
lanes-named false false false false n e = absurd (cc)

lanes-given : (word : Option Text) (n : ℕ) → option_map_or lanes_named word (Some 1) ≡ Some n → IsLaneCount n
lanes-given None n e = inl (let is : n ≡ 1 = cc in is)
lanes-given (Some word) n e =
    lanes-named (bytes_eq word _) (bytes_eq word _) (bytes_eq word _) (bytes_eq word _) n e

lanes-together : (size : Option (Option WordSize)) (lanes : Option ℕ) (form : Option TextForm) (wanted : Asked) →
    together size lanes form ≡ Some wanted → lanes ≡ Some wanted.lanes
lanes-together (Some size) (Some lanes) (Some form) wanted e =
    let is : record { size = size; lanes = lanes; form = form } ≡ wanted = cc in
    ap (λ (w : Asked). Some w.lanes) is
lanes-together _ _ _ wanted e = absurd (cc)

-- words that ask for a text ask for one lane, or for 2, 4, 8 or 16
lanes-asked : (words : List Text) (wanted : Asked) → asked words ≡ Some wanted → IsLaneCount wanted.lanes
lanes-asked words wanted = by_fault (is_empty (fault_of fast_app words))
  where
    by_fault : (b : Bool) →
        (if b
        then (let rows = matches_of fast_app words in together (size_in rows) (lanes_in rows) (form_in rows))
        else None)
        ≡ Some wanted → IsLaneCount wanted.lanes
    by_fault true e =
        let rows = matches_of fast_app words in
        lanes-given (first_of (codes "lanes") rows) wanted.lanes
        (lanes-together (size_in rows) (lanes_in rows) (form_in rows) wanted e)
    by_fault false e = absurd (cc)

-- ---- programs

-- the words of a program that passes the check are sound
pub passed_sound : (size : WordSize) (lanes : ℕ) (p : PlainProgram) → IsLaneCount lanes → IsWithinLimits p →
    PassesCheck action_limit p → allows size p.modulus ≡ true → AreSoundWords size lanes p
passed_sound size lanes p count limits passes allowed =
    sound_words size lanes p count limits (passed_fits p limits passes) passes.apart allowed

-- status and text
abbrev HasAnswer : (Status → List ℕ → Type 0) → Type 0
HasAnswer right = (status : Status) × (text : List ℕ) × right status text

module _ (wanted : Asked) (count : IsLaneCount wanted.lanes) (bytes : List ℕ) where
  abbrev pub translated : (p : PlainProgram) → is_listing bytes p → PassesCheck action_limit p →
      allows (size_for wanted.size p) p.modulus ≡ true → KeepsInput wanted p →
      IsTranslated wanted bytes (written_text wanted p)
  translated p listing passes allowed keeps =
      let size = size_for wanted.size p in
      record {
        program = p;
        listing = listing;
        passes = passes;
        allowed = allowed;
        sound = passed_sound size wanted.lanes p count listing.0 passes allowed;
        keeps = keeps;
        says = refl;
        read_back =
            subst (λ t. IsReadAs wanted.form (takes_leftovers size wanted.lanes p) t (wanted_words wanted p))
            (sym (behind_first_line (ending_of wanted.lanes p) wanted.form (takes_leftovers size wanted.lanes p)
            (wanted_words wanted p)))
            (text_is_read (wanted_words wanted p)
            (spelt_words size wanted.lanes p count listing.0 (passed_fits p listing.0 passes) passes.apart allowed)
            (takes_leftovers size wanted.lanes p) wanted.form);
      }

  by_writer : (p : PlainProgram) → is_listing bytes p → PassesCheck action_limit p →
      allows (size_for wanted.size p) p.modulus ≡ true → (o : Option ℕ) →
      writer_in wanted.form (wanted_words wanted p) ≡ o → HasAnswer (IsAnswer wanted bytes)
  by_writer p listing passes allowed None e =
      (ending_of wanted.lanes p, written_text wanted p, inr (translated p listing passes allowed e, refl))
  by_writer p listing passes allowed (Some phase) e = (
    InputWritten phase,
    [],
    inl (
      inr (inr (inr (record {
        program = p;
        listing = listing;
        passes = passes;
        allowed = allowed;
        written = (phase, e, refl);
      }))),
      refl,
    ),
  )

  by_size : (p : PlainProgram) → is_listing bytes p → PassesCheck action_limit p → (b : Bool) →
      allows (size_for wanted.size p) p.modulus ≡ b → HasAnswer (IsAnswer wanted bytes)
  by_size p listing passes true e =
      by_writer p listing passes e (writer_in wanted.form (wanted_words wanted p)) refl
  by_size p listing passes false e = (
    WideModulus (bits_of (size_for wanted.size p)),
    [],
    inl (
      inr (inr (inl (record { program = p; listing = listing; passes = passes; wide = e; says = refl }))),
      refl,
    ),
  )

  by_check : (p : PlainProgram) → is_listing bytes p → HasAnswer (IsAnswer wanted bytes)
  by_check p listing = elim (decided action_limit p listing.0) [
    | inl passes ↦ by_size p listing passes (allows (size_for wanted.size p) p.modulus) refl
    | inr (fault, told, cause) ↦ (
      status_of_check fault,
      [],
      inl (
        inr (inl (record {
          program = p;
          fault = fault;
          listing = listing;
          told = told;
          cause = cause;
          says = refl;
        })),
        refl,
      ),
    )
  ]

  by_reading : (r : Result PlainProgram ℕ) → Judges is_listing bytes r → HasAnswer (IsAnswer wanted bytes)
  by_reading (Ok p) h = by_check p h.0
  by_reading (Err lines) h =
      (ListingSyntax (lines + 1), [], inl (inl (record { line = lines + 1; lost = h; says = refl }), refl))

  listing_has : HasAnswer (IsOutcomeOfListing wanted bytes)
  listing_has =
      ⊎_elim (λ long. (TooLong listing_limit, [], inl (long, refl, refl)))
      (λ short.
      let r = read_lines (step listing_wording listing_grammar) finish None [] bytes in
      let found = by_reading r (listing_judges bytes r refl) in
      (found.0, found.1, inr (short, found.2)))
      (cases_lt listing_limit (length bytes))

pub some_outcome : (words : List Text) (bytes : List ℕ) → HasAnswer (IsOutcome words bytes)
some_outcome words bytes = by_words (asked words) refl
  where
    by_words : (o : Option Asked) → asked words ≡ o → HasAnswer (IsOutcome words bytes)
    by_words None e = (Usage, [], inl (e, refl, refl))
    by_words (Some wanted) e =
        let found = listing_has wanted (lanes-asked words wanted e) (first_part bytes) in
        (found.0, found.1, inr (wanted, e, found.2))

-- the words ask for a text, and the listing is that of a program that passes, whose modulus they take and which keeps
-- the input of a function
pub translated_outcome : (words : List Text) (bytes : List ℕ) (wanted : Asked) (p : PlainProgram) →
    asked words ≡ Some wanted → length (first_part bytes) ≤ listing_limit → is_listing (first_part bytes) p →
    PassesCheck action_limit p → allows (size_for wanted.size p) p.modulus ≡ true → KeepsInput wanted p →
    IsOutcome words bytes (ending_of wanted.lanes p) (written_text wanted p)
translated_outcome words bytes wanted p e short listing passes allowed keeps =
    let count = lanes-asked words wanted e in
    inr (wanted, e, inr (short, inr (translated wanted count (first_part bytes) p listing passes allowed keeps, refl)))
