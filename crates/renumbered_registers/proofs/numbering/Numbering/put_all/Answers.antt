use Rattle.std.proofs.Common.{◌≡◌, ◌+◌, ap, arith}
use Rattle.renumbered_registers.specs.Renumbered.{Numbering}
use Rattle.renumbered_registers.specs.Views.{plain_numbering}
use Rattle.renumbered_registers.proofs.Steps.{one_more_put}
use Rattle.renumbered_registers.proofs.numbering.Numbering.put_all.Goals as goal

pub loop-lane-preserved : goal.loop-lane-preserved
loop-lane-preserved c =
    let is = c.in_ok-put.ensures in
    let next : c.put.new.self.next ≡ c.loop-lane.self.next + 1 = ap (λ (z : Numbering). z.next) is in
    record {
      so_far = one_more_put c.args.count c.loop-lane.lane c.args.register (plain_numbering c.loop-lane.self)
          (plain_numbering c.put.new.self) _ (omega (arith, c.loop-lane-test.true)) is c.loop-lane.invariant.so_far;
      next = let so_far = c.loop-lane.invariant.next in omega (arith, next, so_far);
    }
