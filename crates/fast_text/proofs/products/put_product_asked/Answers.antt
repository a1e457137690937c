use Rattle.std.proofs.Common.{append_assoc}
use Rattle.std.proofs.lemmas.Result.{IfOk-equal}
use Rattle.fast_text.proofs.products.put_product_asked.Goals as goal

pub returns : goal.returns
returns c =
    IfOk-equal c.put_named-4.result _ _ _ c.put_named-4.ensures
    (rw (
      c.in_ok-put_named-3.ensures,
      c.in_ok-put_named-2.ensures,
      c.in_ok-put_named.ensures,
      c.in_ok-put_word-3.ensures,
      c.in_ok-put_word-2.ensures,
      c.in_ok-put_word.ensures,
    )
    (simp append_assoc))
