-- The C text of a program, and what the words that it spells leave.
use Rattle.std.specs.Prelude.{◌≡◌, ◌≢◌, ◌↔◌, ℕ, ◌==◌, ◌%◌, ◌<◌, ◌≤◌, Bool, true, false, List, [], ◌++◌, length, All, Option, Some}
use Rattle.std.specs.Prelude.{None, IsTrue, if◌then◌else◌}
use Rattle.icode.specs.Actions.{plain_code}
use Rattle.icode.specs.Fresh.{IsFresh}
use Rattle.icode.specs.Leftovers.{AreLeftovers, Leftovers}
use Rattle.icode.specs.Machine.{IsApart, results}
use Rattle.icode.specs.Plain.{PlainProgram}
use Rattle.code_check.specs.Marks.{is_fresh}
use Rattle.fast_main.specs.FirstLine.{first_line, without_comment}
use Rattle.fast_main.specs.Lines.{statement_line}
use Rattle.fast_main.specs.Options.Asked.{Asked}
use Rattle.word_code.specs.InPlace.Sharing.{in_place}
use Rattle.fused_loops.specs.Fused.{fused, large_size}
use Rattle.interchange.specs.Interchanged.{interchanged}
use Rattle.renumbered_registers.specs.Renumbered.{renumbered}
use Rattle.coalesced_loops.specs.Coalesced.{coalesced}
use Rattle.loop_lanes.specs.Lanes.{can_be_laned, laned}
use Rattle.loop_lanes.specs.Obstacles.{first_obstacle}
use Rattle.loop_lanes.specs.declared.obstacles.Obstacle.{Obstacle}
use Rattle.loop_lanes.specs.declared.obstacles.Obstacle.TheVariants as obstacle
use Rattle.two_tables.specs.Factored.{factored, large_table}
use Rattle.word_code.specs.Bare.{WordsFit}
use Rattle.word_code.specs.declared.laziness.WordSize.{WordSize}
use Rattle.word_code.specs.declared.laziness.WordSize.TheVariants.{Of16, Of32, Of52, Of64}
use Rattle.word_code.specs.Bytes.{bytes_of_line}
use Rattle.word_code.specs.Laziness.{fast_words, size_for}
use Rattle.word_code.specs.FreshWords.{word_results_among}
use Rattle.word_code.specs.Input.{input_writer}
use Rattle.word_code.specs.WordMachine.{under, word_results}
use Rattle.word_code.specs.WordProgram.{PlainWordProgram, word_code}
use Rattle.fast_text.specs.TextForm.{TextForm, with_arrays, named_function, named_header, named_product}
use Rattle.fast_text.specs.TextForm.{named_product_header}
use Rattle.fast_text.specs.WordText.{words_text}
use Rattle.fast_text.specs.WordTexts.{IsReadAs}
use Rattle.fast_main.specs.declared.status.Status.{Status}
use Rattle.fast_main.specs.declared.status.Status.TheVariants.{InputWritten, OneLane, OneLaneOfRegisters, Success}

-- the program on several lanes with its loops coalesced, if it can be laned so
abbrev pub laned_if_coalesced : ℕ → PlainProgram → PlainProgram
laned_if_coalesced lanes p = let q = coalesced p in if can_be_laned lanes q then laned lanes q else p

-- as its loops are, or else with them coalesced
abbrev pub on_several : ℕ → PlainProgram → PlainProgram
on_several lanes p = if can_be_laned lanes p then laned lanes p else laned_if_coalesced lanes p

-- the program where registers are renumbered and loops interchanged, and where rounds of loops become lanes if several
-- are asked for
abbrev pub on_lanes : ℕ → PlainProgram → PlainProgram
on_lanes lanes p = let q = interchanged (renumbered p) in if lanes == 1 then q else on_several lanes q

-- that, where nests go over the blocks of large arrays together
abbrev pub in_blocks : ℕ → PlainProgram → PlainProgram
in_blocks lanes p = fused large_size (on_lanes lanes p)

-- two products cost less than an entry of a large table: not in words of 64 bits
abbrev pub has_cheap_products : WordSize → Bool
has_cheap_products Of16 = true
has_cheap_products Of32 = true
has_cheap_products Of52 = true
has_cheap_products Of64 = false

-- that, where large tables are in two factors if products are cheap
abbrev pub prepared : WordSize → ℕ → PlainProgram → PlainProgram
prepared size lanes p =
    let q = in_blocks lanes p in if has_cheap_products size then factored large_table q else q

-- why the text stays at one lane, of the statements of the listing, if something keeps it there
abbrev pub ending_at : PlainProgram → Option Obstacle → Status
ending_at p None = Success
ending_at p (Some obstacle.Lanes) = Success
ending_at p (Some obstacle.Registers) = OneLaneOfRegisters
ending_at p (Some (obstacle.Statement phase number fault)) = OneLane (statement_line p phase number) fault

-- that of a program which was put on lanes if it can be. What keeps it from them is looked for with its loops coalesced,
-- as it is last tried
abbrev pub ending_on : ℕ → PlainProgram → Status
ending_on lanes q =
    if lanes == 1 then Success
    else if q.lanes == 1 then ending_at q (first_obstacle lanes (coalesced q)) else Success

-- How a call ends that writes the text: it says why the text is of one lane, where several are asked for
abbrev pub ending_of : ℕ → PlainProgram → Status
ending_of lanes p = ending_on lanes (on_lanes lanes p)

-- The statements of the program on lanes, if it stays at one, begin at the lines of the listing at which the program's do
abbrev pub AreLinesOfTheListing : ℕ → PlainProgram → Type 0
AreLinesOfTheListing lanes p =
    lanes ≢ 1 → (on_lanes lanes p).lanes ≡ 1 → (phase number : ℕ) →
    statement_line (on_lanes lanes p) phase number ≡ statement_line p phase number

-- it tells so exactly where it is so
abbrev pub TellsOneLane : ℕ → PlainProgram → Type 0
TellsOneLane lanes p = (ending_of lanes p ≢ Success) ↔ ((lanes ≢ 1) × ((on_lanes lanes p).lanes ≡ 1))

-- it reads nothing that is left over, as a walk over its actions finds
abbrev pub takes_leftovers : WordSize → ℕ → PlainProgram → Bool
takes_leftovers size lanes p = is_fresh (prepared size lanes p)

-- the program on words of this size that is chosen for the prepared one, where passes work in place
abbrev pub words_for : WordSize → ℕ → PlainProgram → PlainWordProgram
words_for size lanes p = let q = prepared size lanes p in in_place q (fast_words size q)

-- that is asked for
abbrev pub wanted_words : Asked → PlainProgram → PlainWordProgram
wanted_words wanted p = words_for (size_for wanted.size p) wanted.lanes p

-- and the text of it that is asked for
abbrev pub fast_text : Asked → PlainProgram → List ℕ
fast_text wanted p =
    words_text wanted.form (takes_leftovers (size_for wanted.size p) wanted.lanes p) (wanted_words wanted p)

-- with the line that says why it is of one lane, where several are asked for
abbrev pub written_text : Asked → PlainProgram → List ℕ
written_text wanted p = first_line (ending_of wanted.lanes p) ++ fast_text wanted p

-- the text is read as the program on words that is asked for, and as saying what arrays have to hold. A header has no
-- statements
abbrev pub IsReadBack : Asked → PlainProgram → List ℕ → Type 0
IsReadBack wanted p text =
    IsReadAs wanted.form (takes_leftovers (size_for wanted.size p) wanted.lanes p) (without_comment text)
    (wanted_words wanted p)

-- the phase that stores into the input, where that is the caller's
abbrev pub writer_in : TextForm → PlainWordProgram → Option ℕ
writer_in with_arrays words = None
writer_in (named_function name) words = input_writer words
writer_in (named_header name) words = input_writer words
writer_in (named_product name) words = None
writer_in (named_product_header name) words = None

-- the text that is asked for leaves its caller's input as it is
abbrev pub KeepsInput : Asked → PlainProgram → Type 0
KeepsInput wanted p = writer_in wanted.form (wanted_words wanted p) ≡ None

-- or the status names the phase that does not
abbrev pub IsWritten : Asked → PlainProgram → Status → Type 0
IsWritten wanted p status =
    (phase : ℕ) × (writer_in wanted.form (wanted_words wanted p) ≡ Some phase) × (status ≡ InputWritten phase)

-- for every vector of at least as many residues as its size, and every order
-- of turns, the program on words leaves in Y the words that the program leaves
abbrev pub IsFaithful : WordSize → ℕ → PlainProgram → Type 0
IsFaithful size lanes p =
    (x turns orders : List ℕ) → p.size ≤ length x → All (λ v. v < p.modulus) x →
    word_results (word_code (words_for size lanes p)) x turns ≡ results (plain_code p) x orders

-- for every vector of residues, whatever is left over in the arrays and in the registers where a phase begins, and for
-- every order of turns, the program on words leaves in Y the words that the program leaves from the start
abbrev pub IsFaithfulAmong : WordSize → ℕ → PlainProgram → Type 0
IsFaithfulAmong size lanes p =
    (left : Leftovers) (x turns orders : List ℕ) → AreLeftovers (under (word_code (words_for size lanes p))) left →
    length x ≡ p.size → All (λ v. v < p.modulus) x →
    word_results_among (word_code (words_for size lanes p)) left x turns ≡ results (plain_code p) x orders

-- Each place and each register of the program on words is there and its numbers are words, no processor touches a
-- line that another writes in the phase, and it leaves what the program leaves. The text says that arrays may hold any
-- words exactly where the prepared program is fresh, and then it leaves that among any leftovers
pub record AreSoundWords (size : WordSize) (lanes : ℕ) (p : PlainProgram) : Type 0 where
  pub fits : WordsFit (words_for size lanes p)
  pub apart : (phase : ℕ) → IsApart (under (word_code (words_for size lanes p))) phase
  pub faithful : IsFaithful size lanes p
  pub fresh : IsTrue (takes_leftovers size lanes p) ↔ IsFresh (plain_code (prepared size lanes p))
  pub again : IsTrue (takes_leftovers size lanes p) → IsFaithfulAmong size lanes p

-- whatever the order of turns, the program on words leaves in Y what it leaves where the processors take no turns but
-- those of the completion: phase by phase, one processor after another
abbrev pub IsOrderFree : WordSize → ℕ → PlainProgram → Type 0
IsOrderFree size lanes p =
    (x turns : List ℕ) → p.size ≤ length x → All (λ v. v < p.modulus) x →
    word_results (word_code (words_for size lanes p)) x turns ≡ word_results (word_code (words_for size lanes p)) x []

-- where no size is asked for, a line that is a multiple of 8 words has whole lines of 64 bytes, if processors share the
-- work
abbrev pub HasWholeLines : ℕ → PlainProgram → Type 0
HasWholeLines lanes p =
    p.procs ≢ 1 → p.line % 8 ≡ 0 → bytes_of_line (words_for (size_for None p) lanes p) % 64 ≡ 0
