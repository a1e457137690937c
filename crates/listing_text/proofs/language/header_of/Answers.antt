use Rattle.listing_text.specs.Wording.{header_of}
use Rattle.icode.specs.Program.{plain_program}
use Rattle.listing_text.proofs.GoodDrafts.{within_from}
use Rattle.listing_text.proofs.language.header_of.Goals as goal

pub returns-clause-within : goal.returns-clause-within
returns-clause-within c = within_from (header_of (plain_program c.args.program.now)) c.args.program.now.header
