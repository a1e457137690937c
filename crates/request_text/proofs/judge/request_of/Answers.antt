use Rattle.request_text.proofs.Spelt.{spelt_is}
use Rattle.request_text.proofs.judge.request_of.Goals as goal

pub returns : goal.returns
returns c = spelt_is c.args.fields.now c.args.size c.root_of.result c.dimensions_of.result c.requires c.root_of.ensures
    c.dimensions_of.ensures
