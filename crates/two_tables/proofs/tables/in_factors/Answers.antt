use Rattle.std.proofs.Common.{arith}
use Rattle.two_tables.specs.Views.{plain_cut}
use Rattle.two_tables.proofs.Programs.{is_made, program_made}
use Rattle.two_tables.proofs.tables.in_factors.Goals as goal

pub invariant_of-result : goal.invariant_of-result
invariant_of-result c =
    let made =
    is_made c.args.program c.args.table (plain_cut c.args.cut) c.len.result c.args.factors.0 c.args.factors.1 c.push.new.self.items c.deref.result.now c.in_ok-phases.phases.items
    c.requires.can c.requires.first c.requires.second (omega (arith, c.len.ensures)) c.in_ok-push.ensures.items c.deref.ensures.value c.in_ok-phases.ensures in
    record { header = made.header; constants = made.constants; statements = made.statements }

pub returns : goal.returns
returns c =
    program_made c.args.program c.args.table (plain_cut c.args.cut) c.push.new.self.items c.in_ok-phases.phases.items
    (is_made c.args.program c.args.table (plain_cut c.args.cut) c.len.result c.args.factors.0 c.args.factors.1 c.push.new.self.items c.deref.result.now c.in_ok-phases.phases.items
    c.requires.can c.requires.first c.requires.second (omega (arith, c.len.ensures)) c.in_ok-push.ensures.items c.deref.ensures.value c.in_ok-phases.ensures)
