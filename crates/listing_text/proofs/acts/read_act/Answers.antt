use Rattle.listing_text.specs.Acts.{plain_act}
use Rattle.listing_text.proofs.ActsSpelt.{line_spelt}
use Rattle.listing_text.proofs.acts.read_act.Goals as goal

pub returns-in-Ok-clause-fits : goal.returns-in-Ok-clause-fits
returns-in-Ok-clause-fits c = (line_spelt c.args.line.now (plain_act c.in-Ok.act) c.in-Ok.ensures).0
