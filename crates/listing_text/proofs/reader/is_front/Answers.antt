use Rattle.std.proofs.Common.{sym, subst, ◌∙◌}
use Rattle.grammar.specs.Cursor.{Gives}
use Rattle.grammar.specs.Reading.{word_at}
use Rattle.listing_text.proofs.Owed.{front_yes, front_no}
use Rattle.listing_text.proofs.reader.is_front.Goals as goal

pub returns-clause-yes : goal.returns-clause-yes
returns-clause-yes c = λ e.
    front_yes c.args.line.now c.args.text.now c.word.result c.word.new.self (subst (λ q. Gives c.word.result c.word.new.self (word_at c.args.line.now q)) c.new.ensures c.word.ensures) (sym c.is_ok.ensures.value ∙ e)

pub returns-clause-no : goal.returns-clause-no
returns-clause-no c = λ e.
    front_no c.args.line.now c.args.text.now c.word.result c.word.new.self (subst (λ q. Gives c.word.result c.word.new.self (word_at c.args.line.now q)) c.new.ensures c.word.ensures) (sym c.is_ok.ensures.value ∙ e)
