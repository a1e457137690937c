use Rattle.std.proofs.Common.{◌≡◌, ◌+◌, ◌-◌}
use Rattle.renumbered_registers.specs.Renumbered.{put_all}
use Rattle.renumbered_registers.specs.Views.{plain_numbering}
use Rattle.renumbered_registers.proofs.numbering.Numbering.put_all.Given as goal

abbrev pub invariant-loop-lane : goal.invariant-loop-lane
invariant-loop-lane l = record {
  so_far : put_all (l.count - l.lane) (l.register + l.lane) (plain_numbering l.self)
      ≡ put_all l.fn.count l.fn.register (plain_numbering l.fn.self);
  next : l.self.next ≡ l.fn.self.next + l.lane;
}
