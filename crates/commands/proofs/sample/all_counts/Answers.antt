use Rattle.std.proofs.Common.{◌<◌, ap, arith}
use Rattle.icode.specs.declared.action.Counts.{Counts}
use Rattle.icode.specs.Machine.{counts_so_far}
use Rattle.commands.proofs.CountLemmas.{next_fits}
use Rattle.commands.proofs.sample.all_counts.Goals as goal

pub overflow_add-operations : goal.overflow_add-operations
overflow_add-operations c =
    let machine = c.args.machine.now in
    let low : c.loop-proc.proc < machine.code.procs = omega (arith, c.procs-proc-end.ensures.value) in
    let fits =
    next_fits _ _ _ _ (λ q. (counts_so_far machine.code machine.state q).operations) low c.loop-proc.invariant.operations
    (ap (λ (k : Counts). k.operations) c.counts-counts.ensures) c.requires.operations in
    omega (arith, fits)

pub overflow_add-muls : goal.overflow_add-muls
overflow_add-muls c =
    let machine = c.args.machine.now in
    let low : c.loop-proc.proc < machine.code.procs = omega (arith, c.procs-proc-end.ensures.value) in
    let fits =
    next_fits _ _ _ _ (λ q. (counts_so_far machine.code machine.state q).muls) low c.loop-proc.invariant.muls
    (ap (λ (k : Counts). k.muls) c.counts-counts.ensures) c.requires.muls in
    omega (arith, fits)

pub overflow_add-loads : goal.overflow_add-loads
overflow_add-loads c =
    let machine = c.args.machine.now in
    let low : c.loop-proc.proc < machine.code.procs = omega (arith, c.procs-proc-end.ensures.value) in
    let fits =
    next_fits _ _ _ _ (λ q. (counts_so_far machine.code machine.state q).loads) low c.loop-proc.invariant.loads
    (ap (λ (k : Counts). k.loads) c.counts-counts.ensures) c.requires.loads in
    omega (arith, fits)

pub overflow_add-stores : goal.overflow_add-stores
overflow_add-stores c =
    let machine = c.args.machine.now in
    let low : c.loop-proc.proc < machine.code.procs = omega (arith, c.procs-proc-end.ensures.value) in
    let fits =
    next_fits _ _ _ _ (λ q. (counts_so_far machine.code machine.state q).stores) low c.loop-proc.invariant.stores
    (ap (λ (k : Counts). k.stores) c.counts-counts.ensures) c.requires.stores in
    omega (arith, fits)
