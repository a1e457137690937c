use Rattle.c_print.proofs.CHeaderLaws.{header_is_read, same_header, not_stuck}
use Rattle.c_print.proofs.header.read_c_header.Goals as goal

pub returns-in-Ok-clause-text : goal.returns-in-Ok-clause-text
returns-in-Ok-clause-text c = header_is_read c.args.line.now c.in-Ok.header c.in-Ok.ensures

pub returns-in-Ok-clause-only : goal.returns-in-Ok-clause-only
returns-in-Ok-clause-only c = λ p l. same_header c.args.line.now c.in-Ok.header p c.in-Ok.ensures l

pub returns-in-Err-clause-only : goal.returns-in-Err-clause-only
returns-in-Err-clause-only c = λ p l. absurd (not_stuck c.args.line.now c.in-Err.stuck p c.in-Err.ensures l)
