use Rattle.std.proofs.Common.{arith}
use Rattle.icode.specs.Plain.{plain_tables}
use Rattle.code_gen.specs.Views.{plain_host}
use Rattle.code_gen.proofs.Passes.{next-body, next-registers, next-tables, nest-at}
use Rattle.code_gen.proofs.nest.emit_pass.Goals as goal

pub emit_nest-requires : goal.emit_nest-requires
emit_nest-requires c = nest-at (plain_host c.args.host.now) c.args.nests.now c.loop-nest.nest-index c.nest-item.result c.requires (omega arith) c.nest-item.is

pub loop-nest-preserved : goal.loop-nest-preserved
loop-nest-preserved c =
    let h = plain_host c.args.host.now in
    let nests = c.args.nests.now in
    let i = c.loop-nest.nest-index in
    let z = c.nest-item.result in
    let tables = plain_tables c.args.tables.now.items in
    let had = plain_tables c.loop-nest.tables.items in
    let so_far = c.loop-nest.invariant in (
      next-body h nests i z tables c.args.source c.args.target (omega arith) c.nest-item.is c.loop-nest.statements.items c.in_ok-one.one.statements.items c.append.new.self.items had so_far.0 so_far.1 c.in_ok-one.ensures.body c.in_ok-append.ensures.items,
      next-tables h nests i z tables c.args.source c.args.target (omega arith) c.nest-item.is had (plain_tables c.emit_nest.new.tables.items) so_far.1 c.in_ok-one.ensures.tables,
      next-registers h nests i z tables c.args.source c.args.target (omega arith) c.nest-item.is c.loop-nest.registers c.in_ok-one.one.registers _ so_far.2 c.in_ok-one.ensures.registers c.max-registers.ensures,
    )
