-- Where the first part of an input ends.
use Rattle.std.proofs.Common.{◌≡◌, ◌<◌, ◌≤◌, ◌+◌, ◌&&◌, ◌||◌, ℕ, Bool, true, false, List, [], ◌∷◌, ◌++◌, Err, length}
use Rattle.std.proofs.Common.{cond, refl, sym, ap, ◌∙◌, arith, append_assoc, append-nil, length-append, inl, inr}
use Rattle.io_edge.proofs.ToldLemmas.{Consumes-kept}
use Rattle.io_edge.specs.Told.{Coming, Consumes, IsOver}
use Rattle.io_edge.specs.Feed.{Fed, Feeds, limit}
use Rattle.io_edge.specs.declared.feed.FeedFault.{FeedFault}
use Rattle.io_edge.specs.declared.feed.FeedFault.TheVariants.{ReadFault, TooLong}
use Rattle.data_stream.specs.Parts.FeedFaults.{rest_fault}
use Rattle.data_stream.specs.Parts.Part.{ends_line, has_empty_line, before_empty_line, behind_empty_line}
use Rattle.data_stream.specs.Parts.Part.{first_part, second_part, HasPartEnded, IsWholePart, GivesPart}

-- The text is a front of a first part that has not ended: what follows it goes on with that part, where a line begins or not
pub record IsFront (text : List ℕ) (begins : Bool) : Type 0 where
  pub ended : (more : List ℕ) → has_empty_line true (text ++ more) ≡ has_empty_line begins more
  pub before : (more : List ℕ) → first_part (text ++ more) ≡ text ++ before_empty_line begins more
  pub behind : (more : List ℕ) → second_part (text ++ more) ≡ behind_empty_line begins more

-- a byte more, which ends no empty line
pub front_push : (text : List ℕ) (begins : Bool) (byte : ℕ) → IsFront text begins → (begins && ends_line byte) ≡ false →
    IsFront (text ++ byte ∷ []) (ends_line byte)
front_push text begins byte front other = record {
  ended = λ more.
      ap (has_empty_line true) (append_assoc text (byte ∷ []) more) ∙ front.ended (byte ∷ more)
      ∙ ap (λ b. b || has_empty_line (ends_line byte) more) other;
  before = λ more.
      ap first_part (append_assoc text (byte ∷ []) more) ∙ front.before (byte ∷ more)
      ∙ ap (λ b. text ++ cond b [] (byte ∷ before_empty_line (ends_line byte) more)) other
      ∙ sym (append_assoc text (byte ∷ []) (before_empty_line (ends_line byte) more));
  behind = λ more.
      ap second_part (append_assoc text (byte ∷ []) more) ∙ front.behind (byte ∷ more)
      ∙ ap (λ b. cond b more (behind_empty_line (ends_line byte) more)) other;
}

-- a front of the part shows no end of it
pub front_unended : (text : List ℕ) (begins : Bool) → IsFront text begins → has_empty_line true text ≡ false
front_unended text begins front = ap (has_empty_line true) (sym (append-nil text)) ∙ front.ended []

-- a front and an empty line
pub part_ended : (text : List ℕ) (begins : Bool) (byte : ℕ) (ended : Type 0) → IsFront text begins →
    (begins && ends_line byte) ≡ true → IsWholePart (text ++ byte ∷ []) ended text
part_ended text begins byte ended front end =
    let all : (more : List ℕ) → (text ++ byte ∷ []) ++ more ≡ text ++ byte ∷ more = λ more. append_assoc text (byte ∷ []) more in
    record {
      end = inl (front.ended (byte ∷ []) ∙ ap (λ b. b || has_empty_line (ends_line byte) []) end);
      parts = λ more none. (
        ap first_part (all more) ∙ front.before (byte ∷ more) ∙ ap (λ b. text ++ cond b [] (byte ∷ before_empty_line (ends_line byte) more)) end ∙ append-nil text,
        ap second_part (all more) ∙ front.behind (byte ∷ more) ∙ ap (λ b. cond b more (behind_empty_line (ends_line byte) more)) end,
      );
    }

-- a front that the input ends
pub part_cut : (text : List ℕ) (begins : Bool) (ended : Type 0) → IsFront text begins → ended →
    IsWholePart text ended text
part_cut text begins ended front end = record {
  end = inr end;
  parts = λ more none.
      let nothing = none end in (
        ap (λ l. first_part (text ++ l)) nothing ∙ front.before [] ∙ append-nil text,
        ap (λ l. second_part (text ++ l)) nothing ∙ front.behind [] ∙ sym nothing,
      );
}

-- a front is a part of the first part
pub part_longer : (text more : List ℕ) (begins : Bool) → IsFront text begins →
    length text ≤ length (first_part (text ++ more))
part_longer text more begins front =
    let count : length (first_part (text ++ more)) ≡ length text + length (before_empty_line begins more) =
    ap length (front.before more) ∙ length-append text (before_empty_line begins more) in
    omega arith

-- a fault after a front
pub part_failed : (most first : ℕ) (text : List ℕ) (begins : Bool) (start before after : Coming)
    (old new : Fed) (fault : FeedFault)
    → Consumes start before text → old.taken ≡ first + length text → length text ≤ most → first + most < limit →
    IsFront text begins
    → Feeds old new before after (Err fault) → (read : List ℕ) × Consumes start after read
    × GivesPart most read (IsOver after) first new.taken (Err (rest_fault fault))
part_failed most first text begins start before after old new ReadFault consumed taken short room front fed =
    (text, Consumes-kept start before after text consumed fed.1, record { unended = front_unended text begins front; short = short })
part_failed most first text begins start before after old new TooLong consumed taken short room front fed = absurd (omega (arith, fed.0, taken, short, room))

either : (test a b : Bool) → (a ≡ true → b ≡ true) → (test || a) ≡ true → (test || b) ≡ true
either true a b goes there = refl
either false a b goes there = goes there

-- what has ended has ended after further bytes too
empty_line_behind : (begins : Bool) (read more : List ℕ) → has_empty_line begins read ≡ true →
    has_empty_line begins (read ++ more) ≡ true
empty_line_behind begins [] more there = absurd (cc)
empty_line_behind begins (byte ∷ read) more there =
    either (begins && ends_line byte) _ _ (empty_line_behind (ends_line byte) read more) there

pub still_ended : (read more : List ℕ) (now later : Type 0) → HasPartEnded read now → (now → later) →
    HasPartEnded (read ++ more) later
still_ended read more now later (inl there) goes = inl (empty_line_behind true read more there)
still_ended read more now later (inr end) goes = inr (goes end)
