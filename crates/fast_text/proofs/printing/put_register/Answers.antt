use Rattle.std.proofs.Common.{append_assoc, codes}
use Rattle.std.proofs.lemmas.Result.{IfOk-equal}
use Rattle.listing_text.specs.Numbers.{numbered_text}
use Rattle.fast_text.proofs.printing.put_register.Goals as goal

pub returns : goal.returns
returns c =
    IfOk-equal c.put_numbered-2.result _ _ _ c.put_numbered-2.ensures
    (rw c.in_ok-put_numbered.ensures (append_assoc c.args.out.now.items
    (numbered_text (codes "vec r") c.args.register (codes " = splat(0); "))
    (numbered_text (codes "(void)r") c.args.register (codes ";\n"))))
