use Rattle.std.proofs.Common.{codes}
use Rattle.std.proofs.lemmas.Result.{IfOk-equal}
use Rattle.fast_text.specs.ProductText.{product_asked_text, declared_product_text}
use Rattle.fast_text.proofs.Pieces.{pieces_between}
use Rattle.fast_text.proofs.products.put_product_of.Goals as goal

pub returns : goal.returns
returns c =
    IfOk-equal c.put_word-2.result _ _ _ c.put_word-2.ensures
    (rw (c.in_ok-put_declared_product.ensures, c.in_ok-put_product_asked.ensures, c.in_ok-put_word.ensures)
    (pieces_between c.args.out.now.items (codes "#ifdef __cplusplus\nextern \"C\" {\n#endif\n")
    (product_asked_text c.args.capitals.now c.args.name.now)
    (declared_product_text c.args.name.now c.args.word.now) (codes "#ifdef __cplusplus\n}\n#endif\n#endif\n")))
