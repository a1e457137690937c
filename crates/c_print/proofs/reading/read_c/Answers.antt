use Rattle.std.proofs.Common.{Ok, sym}
use Rattle.listing_text.specs.Reads.{drafted_program}
use Rattle.c_print.proofs.CReads.{c_text_judges}
use Rattle.c_print.proofs.CCalls.{err_answers, err_only}
use Rattle.c_print.proofs.reading.read_c.Goals as goal

pub invariant_of-result : goal.invariant_of-result
invariant_of-result c =
    let within = (c_text_judges c.args.text.now (Ok (drafted_program c.in-Ok.draft)) c.in-Ok.ensures).0.0 in
    record { header = within.header; constants = within.constants; statements = within.statements }

pub returns-in-Ok-clause-answer : goal.returns-in-Ok-clause-answer
returns-in-Ok-clause-answer c = (c_text_judges c.args.text.now (Ok (drafted_program c.in-Ok.draft)) c.in-Ok.ensures).0

pub returns-in-Ok-clause-only : goal.returns-in-Ok-clause-only
returns-in-Ok-clause-only c = λ p l. (tt, sym ((c_text_judges c.args.text.now (Ok (drafted_program c.in-Ok.draft)) c.in-Ok.ensures).1 p l))

pub returns-in-Err-clause-answer : goal.returns-in-Err-clause-answer
returns-in-Err-clause-answer c = rw c.fault_of.ensures (err_answers c.args.text.now c.in-Err.fault c.in-Err.ensures)

pub returns-in-Err-clause-only : goal.returns-in-Err-clause-only
returns-in-Err-clause-only c = rw c.fault_of.ensures (err_only c.args.text.now c.in-Err.fault c.in-Err.ensures)
