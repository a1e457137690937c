use Rattle.std.proofs.Common.{◌≡◌, IfOk, subst, sym}
use Rattle.word_code.specs.Views.{plain_word_program}
use Rattle.fast_text.specs.TextForm.{text_form}
use Rattle.fast_text.specs.WordText.{named_header_text, named_product_header_text, words_text}
use Rattle.fast_text.proofs.printing.text_of.Goals as goal

pub returns-in-Header : goal.returns-in-Header
returns-in-Header c =
    let p = plain_word_program c.args.program.now in
    subst (λ f. IfOk c.print_header.result (λ text. text.items ≡ words_text (text_form f) c.args.fresh p))
    (sym c.in-Header.is)
    (subst (λ n. IfOk c.print_header.result (λ text. text.items ≡ named_header_text n c.args.fresh p))
    c.as_bytes-in-Header.ensures.value c.print_header.ensures)

pub returns-in-ProductHeader : goal.returns-in-ProductHeader
returns-in-ProductHeader c =
    let p = plain_word_program c.args.program.now in
    subst (λ f. IfOk c.print_product_header.result (λ text. text.items ≡ words_text (text_form f) c.args.fresh p))
    (sym c.in-ProductHeader.is)
    (subst (λ n. IfOk c.print_product_header.result (λ text. text.items ≡ named_product_header_text n p))
    c.as_bytes-in-ProductHeader.ensures.value c.print_product_header.ensures)
