use Rattle.std.proofs.Common.{◌-◌, ◌+◌, ◌*◌, ap, sym, arith}
use Rattle.word_code.specs.Quicken.{Settled}
use Rattle.word_code.specs.Setting.{settled_in}
use Rattle.word_code.proofs.Settling.{turn, over, halved_sane}
use Rattle.word_code.proofs.settle.settle.Goals as goal

pub returns-then-bound_of-target-clause-reductions : goal.returns-then-bound_of-target-clause-reductions
returns-then-bound_of-target-clause-reductions c =
    let z = c.args.setting in
    let limit = z.laziness.limit in
    let whole = settled_in z c.args.left c.args.right c.args.target c.args.bounds.now in
    let is = over z.modulus limit (2 * limit - c.loop.counter) c.args.left c.args.right c.args.target c.loop.bounds c.loop.before.items whole
    (omega (arith, c.bound_of.ensures, c.bound_of-in-loop.ensures, c.if-bound_of-target.true)) c.loop.invariant.goes in
    ap (λ (s : Settled). s.reductions) (sym is)

pub returns-then-bound_of-target-clause-after : goal.returns-then-bound_of-target-clause-after
returns-then-bound_of-target-clause-after c =
    let z = c.args.setting in
    let limit = z.laziness.limit in
    let whole = settled_in z c.args.left c.args.right c.args.target c.args.bounds.now in
    let is = over z.modulus limit (2 * limit - c.loop.counter) c.args.left c.args.right c.args.target c.loop.bounds c.loop.before.items whole
    (omega (arith, c.bound_of.ensures, c.bound_of-in-loop.ensures, c.if-bound_of-target.true)) c.loop.invariant.goes in
    ap (λ (s : Settled). s.bounds) (sym is)

pub loop-preserved : goal.loop-preserved
loop-preserved c =
    let s = c.args.setting in
    let limit = s.laziness.limit in
    let whole = settled_in s c.args.left c.args.right c.args.target c.args.bounds.now in
    record {
      goes =
          turn s.modulus limit (2 * limit - c.loop.counter) c.args.left c.args.right c.args.target c.bound_of.result
          c.bound_of-in-loop.result c.greater_of-register.result c.bound_of-in-loop-2.result c.loop.bounds
          c.put_bound.new.bounds (omega arith) c.if-bound_of-target.false c.bound_of.ensures c.bound_of-in-loop.ensures
          c.greater_of-register.ensures c.bound_of-in-loop-2.ensures c.put_bound.ensures
          (2 * limit - (c.loop.counter + 1))
          c.loop.before.items c.push.new.self.items whole (omega arith) c.in_ok-push.ensures.items
          c.loop.invariant.goes;
      sane = halved_sane limit c.greater_of-register.result c.bound_of-in-loop-2.result c.loop.bounds c.put_bound.new.bounds c.bound_of-in-loop-2.ensures c.put_bound.ensures c.loop.invariant.sane;
    }
