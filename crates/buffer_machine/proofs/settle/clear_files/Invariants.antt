use Rattle.std.proofs.Common.{◌≡◌, ◌++◌, drop, take, map, length, replicate, List, ℕ}
use Rattle.buffer_machine.proofs.settle.clear_files.Given as goal

abbrev pub invariant-loop-file : goal.invariant-loop-file
invariant-loop-file l = record {
  same : length l.files ≡ length l.fn.files;
  so_far : l.files ≡ map (λ (file : List ℕ). replicate (length file) 0) (take l.file-index l.fn.files)
      ++ drop l.file-index l.fn.files;
}
