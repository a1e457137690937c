use Rattle.std.proofs.Common.{◌∙◌, ap, arith}
use Rattle.icode.specs.Limits.{is_body_within}
use Rattle.icode.specs.Plain.{plain_body}
use Rattle.icode.proofs.Lists.{phase_within}
use Rattle.word_code.proofs.in_place.share.routes_of.Goals as goal

pub may_go-requires-clause-within : goal.may_go-requires-clause-within
may_go-requires-clause-within c =
    ap (λ items. is_body_within c.args.program.now.modulus (plain_body items) 0) c.deref-3.ensures.value
    ∙ phase_within c.args.program.now 0 c.index-body.result.now (omega (arith, c.if-len-ne1.false, c.len.ensures)) c.index-body.ensures
