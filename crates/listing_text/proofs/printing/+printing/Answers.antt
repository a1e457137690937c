use Rattle.std.proofs.Common.{append_assoc}
use Rattle.listing_text.proofs.printing.+printing.Goals as goal
use Rattle.icode.proofs.Views.{plain_expr_is}

pub put_sum-loop-part-init : goal.put_sum-loop-part-init
put_sum-loop-part-init t c =
    rw (c.deref-part-items.ensures.value, c.in_ok-put_numbered.ensures, plain_expr_is c.args.place.now) (simp append_assoc)
