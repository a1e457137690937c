use Rattle.std.proofs.Common.{List, ℕ, sym, subst}
use Rattle.word_code.specs.Views.{plain_word_program}
use Rattle.fast_text.specs.TextForm.{text_form}
use Rattle.fast_text.specs.WordTexts.{IsReadAs}
use Rattle.fast_text.proofs.Nests.{spellable_nests}
use Rattle.fast_text.proofs.TextBack.{text_is_read}
use Rattle.fast_text.proofs.printing.print_words.Goals as goal

pub text_of-requires-clause-header : goal.text_of-requires-clause-header
text_of-requires-clause-header c = c.requires.within.header

pub text_of-requires-clause-nests : goal.text_of-requires-clause-nests
text_of-requires-clause-nests c = spellable_nests (plain_word_program c.args.program.now) c.requires

pub returns-clause-read_back : goal.returns-clause-read_back
returns-clause-read_back c =
    let form = text_form c.args.form in
    let p = plain_word_program c.args.program.now in
    subst (λ (text : List ℕ). IsReadAs form c.args.fresh text p) (sym c.in_ok-text.ensures) (text_is_read p c.requires c.args.fresh form)
