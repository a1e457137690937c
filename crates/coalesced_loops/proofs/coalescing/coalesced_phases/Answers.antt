use Rattle.std.proofs.Common.{◌∙◌, ap, arith}
use Rattle.icode.specs.Limits.{is_body_within}
use Rattle.icode.specs.Plain.{plain_body}
use Rattle.icode.proofs.Bools.{both_true}
use Rattle.coalesced_loops.proofs.Seen.{body-within}
use Rattle.coalesced_loops.proofs.coalescing.coalesced_phases.Goals as goal

pub coalesced_body-requires : goal.coalesced_body-requires
coalesced_body-requires c =
    ap (λ xs. is_body_within c.args.modulus (plain_body xs) 0) c.deref.ensures.value
    ∙ body-within c.args.modulus c.loop-body.body-index c.args.phases.now c.body-item.result
    (both_true _ _ c.requires).1 (omega arith) c.body-item.is
