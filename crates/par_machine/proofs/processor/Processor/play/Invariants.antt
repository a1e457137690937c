use Rattle.std.proofs.Common.{◌≡◌, length}
use Rattle.par_machine.specs.Header.{header_of}
use Rattle.par_machine.specs.Played.{CanPlay, playing, played}
use Rattle.par_machine.proofs.processor.Processor.play.Given as goal

abbrev pub invariant-loop-left : goal.invariant-loop-left
invariant-loop-left l = record {
  so_far : played (header_of l.header) l.code l.proc l.left (record { memory = l.memory; registers = l.registers; place = record { at = l.at; values = l.values }; counts = l.counts }) ≡ played (header_of l.header) l.code l.proc l.count (playing l.fn.memory l.fn.self);
  can_play : CanPlay (header_of l.header) l.code l.proc l.left (record { memory = l.memory; registers = l.registers; place = record { at = l.at; values = l.values }; counts = l.counts });
  long : length l.values ≡ 64;
}

abbrev pub decreases-loop-left : goal.decreases-loop-left
decreases-loop-left l = l.left
