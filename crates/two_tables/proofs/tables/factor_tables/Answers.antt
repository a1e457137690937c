use Rattle.std.proofs.Common.{length, arith}
use Rattle.icode.specs.Program.{plain_program}
use Rattle.two_tables.proofs.Programs.{none_done, one_more, all_done}
use Rattle.two_tables.proofs.tables.factor_tables.Goals as goal

pub loop-table-init : goal.loop-table-init
loop-table-init c = none_done c.args.least c.args.program c.requires.fits c.requires.apart

pub factor_table-requires : goal.factor_table-requires
factor_table-requires c =
    let done = c.loop-table.invariant in
    let long = done.long in
    record { fits = done.fits; table = omega (arith, long, c.loop-table-test.true, c.len-count.ensures) }

pub loop-table-preserved : goal.loop-table-preserved
loop-table-preserved c =
    one_more c.args.least (length c.args.program.tables.items) c.loop-table.table (plain_program c.args.program) c.loop-table.made c.in_ok-made.made
    (omega (arith, c.loop-table-test.true, c.len-count.ensures)) c.loop-table.invariant c.in_ok-made.ensures

pub returns : goal.returns
returns c =
    all_done c.args.least (length c.args.program.tables.items) c.loop-table.table (length c.loop-table.made.tables.items) (plain_program c.args.program) (plain_program c.loop-table.made)
    (omega (arith, c.loop-table-test.false, c.len-count.ensures)) c.loop-table.invariant
