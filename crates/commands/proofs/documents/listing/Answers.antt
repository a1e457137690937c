use Rattle.commands.proofs.DocumentLemmas.{listing_document}
use Rattle.commands.proofs.documents.listing.Goals as goal

pub returns-clause-text : goal.returns-clause-text
returns-clause-text c = listing_document c.args.request.now c.in_ok-program.program c.in_ok-text.text.items c.in_ok-program.ensures.program c.in_ok-text.ensures.text
