use Rattle.std.proofs.Common.{sym, ap, ◌∙◌}
use Rattle.icode.specs.Plain.{plain_op}
use Rattle.icode.specs.Limits.{is_op_within}
use Rattle.listing_text.proofs.limits.is_op_within.Goals as goal

pub returns-in-MulTable : goal.returns-in-MulTable
returns-in-MulTable c =
    c.is_product_within.ensures c.args.modulus
    ∙ sym (ap (λ op. is_op_within c.args.modulus (plain_op op) c.args.loops) c.in-MulTable.is)
