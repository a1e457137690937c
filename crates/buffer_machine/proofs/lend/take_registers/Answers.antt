use Rattle.std.proofs.Common.{[], ◌≡◌, ℕ, List, ◌<◌, length, get_or, ap, sym, ◌∙◌, arith, length-set}
use Rattle.std.proofs.lemmas.List.{get_or_read, get_or_default}
use Rattle.buffer_machine.proofs.Lends.{copied, not_yet, all_copied}
use Rattle.buffer_machine.proofs.lend.take_registers.Goals as goal

pub put-requires : goal.put-requires
put-requires c =
    let i = c.loop-proc.proc in
    let regs = c.args.machine.now.state.registers in
    let inv = c.loop-proc.invariant in
    let lt : i < length c.args.files.now = omega (arith, inv.same) in
    let size : length c.args.files.now ≡ length regs = c.requires.here.count ∙ sym c.requires.there.count in
    let within : i < c.args.machine.now.code.procs = omega (arith, lt, c.requires.here.count) in
    let old = get_or_read c.loop-proc.files i c.index-files-proc.result (omega (arith, lt, inv.same)) c.index-files-proc.is [] ∙ (ap (λ (fs : List (List ℕ)). get_or fs i []) inv.so_far ∙ not_yet regs c.args.files.now i [] (omega (arith, lt, size)) size) in
    ap length c.registers.ensures ∙ (c.requires.there.size i within ∙ (sym (c.requires.here.size i within) ∙ (ap length (sym old) ∙ ap length c.index-files-proc.is)))

pub loop-proc-preserved : goal.loop-proc-preserved
loop-proc-preserved c =
    let i = c.loop-proc.proc in
    let regs = c.args.machine.now.state.registers in
    let inv = c.loop-proc.invariant in
    let lt : i < length c.args.files.now = omega (arith, inv.same) in
    let size : length c.args.files.now ≡ length regs = c.requires.here.count ∙ sym c.requires.there.count in
    let there : i < length regs = omega (arith, lt, size) in
    record {
      same = length-set c.loop-proc.files i _ ∙ inv.same;
      so_far = copied regs c.args.files.now c.loop-proc.files i c.put.new.self there size inv.so_far (c.put.ensures ∙ (c.registers.ensures ∙ get_or_default regs i [] c.put.new.self there));
    }

pub returns : goal.returns
returns c =
    let regs = c.args.machine.now.state.registers in
    let size : length c.args.files.now ≡ length regs = c.requires.here.count ∙ sym c.requires.there.count in
    c.loop-proc.invariant.so_far ∙ all_copied regs c.args.files.now c.loop-proc.proc (omega (arith, size, c.loop-proc.invariant.same)) size
