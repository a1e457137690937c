use Rattle.std.proofs.Common.{◌∙◌, ap, sym, arith}
use Rattle.icode.specs.Lengths.{body_stores}
use Rattle.icode.proofs.StoreCounts.{stores_are, stores_small}
use Rattle.icode.proofs.program.Program.stores.Goals as goal

pub stores_of-requires : goal.stores_of-requires
stores_of-requires c =
    let small = stores_small c.args.self.now c.requires.fits c.args.phase c.index.result.now c.requires.phase c.index.ensures in
    record { fits = rw c.deref.ensures.value (omega arith) }

pub returns-clause-each : goal.returns-clause-each
returns-clause-each c q small =
    c.stores_of.ensures ∙ (ap body_stores c.deref.ensures.value ∙ sym (stores_are c.args.self.now c.args.phase q c.index.result.now c.requires.phase small c.index.ensures))

pub returns-clause-few : goal.returns-clause-few
returns-clause-few c =
    let small = stores_small c.args.self.now c.requires.fits c.args.phase c.index.result.now c.requires.phase c.index.ensures in
    omega (arith, small, c.stores_of.ensures, ap body_stores c.deref.ensures.value)
