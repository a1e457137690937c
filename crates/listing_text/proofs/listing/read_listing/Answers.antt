use Rattle.std.proofs.Common.{Ok, sym}
use Rattle.listing_text.specs.Reads.{drafted_program}
use Rattle.listing_text.proofs.ListingReads.{listing_judges}
use Rattle.listing_text.proofs.ListingCalls.{err_answers, err_only}
use Rattle.listing_text.proofs.listing.read_listing.Goals as goal

pub invariant_of-result : goal.invariant_of-result
invariant_of-result c =
    let within = (listing_judges c.args.text.now (Ok (drafted_program c.in-Ok.draft)) c.in-Ok.ensures).0.0 in
    record { header = within.header; constants = within.constants; statements = within.statements }

pub returns-in-Ok-clause-answer : goal.returns-in-Ok-clause-answer
returns-in-Ok-clause-answer c = (listing_judges c.args.text.now (Ok (drafted_program c.in-Ok.draft)) c.in-Ok.ensures).0

pub returns-in-Ok-clause-only : goal.returns-in-Ok-clause-only
returns-in-Ok-clause-only c = λ p l. (tt, sym ((listing_judges c.args.text.now (Ok (drafted_program c.in-Ok.draft)) c.in-Ok.ensures).1 p l))

pub returns-in-Err-clause-answer : goal.returns-in-Err-clause-answer
returns-in-Err-clause-answer c = err_answers c.args.text.now c.in-Err.fault c.in-Err.ensures

pub returns-in-Err-clause-only : goal.returns-in-Err-clause-only
returns-in-Err-clause-only c = err_only c.args.text.now c.in-Err.fault c.in-Err.ensures
