use Rattle.std.proofs.Common.{◌≡◌, ◌++◌, Bool, List, ℕ, sym, ap, ap₂, ◌∙◌, subst}
use Rattle.icode.specs.Program.{plain_program}
use Rattle.word_code.specs.WordProgram.{PlainWordProgram}
use Rattle.fast_text.specs.TextForm.{text_form}
use Rattle.fast_text.specs.WordText.{words_text}
use Rattle.code_check.specs.Marks.{is_fresh}
use Rattle.word_code.specs.Laziness.{size_for}
use Rattle.fast_text.specs.WordTexts.{IsReadAs, IsSpellable}
use Rattle.code_check.proofs.Phases.{limits_of}
use Rattle.fast_main.specs.Translation.{fast_text, takes_leftovers, words_for}
use Rattle.fast_main.specs.FirstLine.{first_line, without_comment}
use Rattle.fast_main.specs.Options.Views.{plain_options}
use Rattle.fast_main.proofs.FirstLine.{behind_first_line}
use Rattle.word_code.specs.Views.{plain_word_program}
use Rattle.fast_main.proofs.Faithful.{fits_from, allowed_from, words_from, sound_words, spelt_words}
use Rattle.fast_main.specs.Outcome.{IsDone}
use Rattle.fast_main.proofs.OneLane.{ending_done}
use Rattle.fast_main.proofs.run.answer_of.Goals as goal

pub work_in_place-requires : goal.work_in_place-requires
work_in_place-requires c =
    record { fits = fits_from c.args.size c.args.options.lanes c.args.program c.in_ok-prepared.prepared.program c.requires.lanes c.in_ok-prepared.ensures.program c.requires.fits c.requires.apart }

pub print_words-requires : goal.print_words-requires
print_words-requires c =
    subst IsSpellable
    (sym (words_from c.args.size c.args.options.lanes c.args.program c.in_ok-prepared.prepared.program c.requires.lanes
    c.in_ok-prepared.ensures.program c.requires.fits c.requires.apart c.in_ok-words.words c.in_ok-words-2.words
    c.in_ok-words.ensures.made c.in_ok-words-2.ensures.made))
    (spelt_words c.args.size c.args.options.lanes (plain_program c.args.program) c.requires.lanes
    (limits_of c.args.program) c.requires.fits c.requires.apart c.requires.allowed)

pub returns-clause-text : goal.returns-clause-text
returns-clause-text c =
    let options = plain_options c.args.options in
    let p = plain_program c.args.program in
    let printed : List ℕ = c.in_ok-printed.printed.items in
    let is : printed ≡ fast_text options p =
    c.in_ok-printed.ensures.text
    ∙ ap₂ (words_text (text_form c.args.options.form))
    (c.in_ok-fresh.ensures.marks ∙ ap is_fresh c.in_ok-prepared.ensures.program
    ∙ ap (λ size. takes_leftovers size c.args.options.lanes p) c.requires.size)
    (words_from c.args.size c.args.options.lanes c.args.program c.in_ok-prepared.prepared.program c.requires.lanes
    c.in_ok-prepared.ensures.program c.requires.fits c.requires.apart c.in_ok-words.words c.in_ok-words-2.words
    c.in_ok-words.ensures.made c.in_ok-words-2.ensures.made
    ∙ ap (λ size. words_for size c.args.options.lanes p) c.requires.size) in
    c.in_ok-text.ensures ∙ ap₂ (λ status text. first_line status ++ text) c.in_ok-prepared.ensures.ending is

pub returns-clause-read_back : goal.returns-clause-read_back
returns-clause-read_back c =
    let form = text_form c.args.options.form in
    let printed : List ℕ = c.in_ok-printed.printed.items in
    let text : List ℕ = c.in_ok-text.text.items in
    let p = plain_program c.args.program in
    let lanes = c.args.options.lanes in
    let made = plain_word_program c.in_ok-words-2.words in
    let behind : without_comment text ≡ printed =
    ap without_comment
    (c.in_ok-text.ensures ∙ ap (λ t. first_line c.in_ok-prepared.prepared.ending ++ t) c.in_ok-printed.ensures.text)
    ∙ behind_first_line c.in_ok-prepared.prepared.ending form c.in_ok-fresh.fresh made
    ∙ sym c.in_ok-printed.ensures.text in
    let told : c.in_ok-fresh.fresh ≡ takes_leftovers (size_for c.args.options.size p) lanes p =
    c.in_ok-fresh.ensures.marks ∙ ap is_fresh c.in_ok-prepared.ensures.program
    ∙ ap (λ size. takes_leftovers size lanes p) c.requires.size in
    let words =
    words_from c.args.size lanes c.args.program c.in_ok-prepared.prepared.program c.requires.lanes c.in_ok-prepared.ensures.program
    c.requires.fits c.requires.apart c.in_ok-words.words c.in_ok-words-2.words c.in_ok-words.ensures.made
    c.in_ok-words-2.ensures.made
    ∙ ap (λ size. words_for size lanes p) c.requires.size in
    subst (λ (t : List ℕ). IsReadAs form (takes_leftovers (size_for c.args.options.size p) lanes p) t (words_for (size_for c.args.options.size p) lanes p))
    (sym behind)
    (subst (λ (fresh : Bool). IsReadAs form fresh printed (words_for (size_for c.args.options.size p) lanes p)) told
    (subst (λ (made : PlainWordProgram). IsReadAs form c.in_ok-fresh.fresh printed made) words
    c.in_ok-printed.ensures.read_back))

pub returns-clause-sound : goal.returns-clause-sound
returns-clause-sound c =
    sound_words c.args.size c.args.options.lanes (plain_program c.args.program) c.requires.lanes
    (limits_of c.args.program) c.requires.fits c.requires.apart c.requires.allowed

pub is_fresh-requires : goal.is_fresh-requires
is_fresh-requires c =
    record {
      fits = fits_from c.args.size c.args.options.lanes c.args.program c.in_ok-prepared.prepared.program c.requires.lanes c.in_ok-prepared.ensures.program c.requires.fits c.requires.apart;
    }

pub make_fast-requires : goal.make_fast-requires
make_fast-requires c =
    record {
      allowed = allowed_from c.args.size c.args.options.lanes c.args.program c.in_ok-prepared.prepared.program c.requires.lanes c.in_ok-prepared.ensures.program c.requires.fits c.requires.apart c.requires.allowed;
    }

pub returns-clause-done : goal.returns-clause-done
returns-clause-done c =
    subst IsDone (sym c.in_ok-prepared.ensures.ending) (ending_done c.args.options.lanes (plain_program c.args.program))
