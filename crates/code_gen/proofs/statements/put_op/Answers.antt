use Rattle.code_gen.proofs.PlainRules.{plain-more}
use Rattle.code_gen.proofs.statements.put_op.Goals as goal

pub returns : goal.returns
returns c = plain-more c.args.out.now.items c.push.new.self.items c.args.op c.in_ok-push.ensures.items
