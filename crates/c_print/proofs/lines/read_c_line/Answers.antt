use Rattle.listing_text.specs.Acts.{plain_act}
use Rattle.c_print.proofs.CLineLaws.{line_is_read, same_read, only_memory}
use Rattle.c_print.proofs.lines.read_c_line.Goals as goal

pub returns-in-Ok-clause-text : goal.returns-in-Ok-clause-text
returns-in-Ok-clause-text c = line_is_read c.args.line.now (plain_act c.in-Ok.act) c.in-Ok.ensures

pub returns-in-Ok-clause-only : goal.returns-in-Ok-clause-only
returns-in-Ok-clause-only c = λ act l. (tt, same_read c.args.line.now (plain_act c.in-Ok.act) act c.in-Ok.ensures l)

pub returns-in-Err-clause-only : goal.returns-in-Err-clause-only
returns-in-Err-clause-only c = λ act l. (only_memory c.args.line.now c.in-Err.error act c.in-Err.ensures l, tt)
