use Rattle.std.proofs.Common.{ap, ◌∙◌, arith, length-set, sym, List, ℕ, replicate, length}
use Rattle.buffer_machine.proofs.Loops.{map_step}
use Rattle.buffer_machine.proofs.settle.clear_files.Goals as goal

pub loop-file-preserved : goal.loop-file-preserved
loop-file-preserved c =
    let inv = c.loop-file.invariant in
    record {
      same = length-set c.loop-file.files c.loop-file.file-index _ ∙ inv.same;
      so_far = map_step (λ (file : List ℕ). replicate (length file) 0) c.args.files.now c.loop-file.files c.loop-file.file-index c.file-item.result c.clear.new.self (omega (arith, inv.same)) inv.so_far c.file-item.is (c.clear.ensures ∙ ap (λ (file : List ℕ). replicate (length file) 0) (sym c.file-item.is));
    }
