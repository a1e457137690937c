use Rattle.std.proofs.Common.{◌≡◌, ◌-◌, ◌+◌, ap, sym, ◌∙◌, subst, arith}
use Rattle.std.specs.Prelude.{slice_set}
use Rattle.double_code.specs.Doubled.{Settled, reduced_bound}
use Rattle.double_code.specs.Setting.{AreBoundsWithin, settled_in}
use Rattle.double_code.proofs.Emitting.{turn, over}
use Rattle.double_code.proofs.Settling.{set_sane, reduced_sane}
use Rattle.double_code.proofs.settle.settle.Goals as goal

pub returns-then-bound_of-target-clause-before : goal.returns-then-bound_of-target-clause-before
returns-then-bound_of-target-clause-before c =
    let s = c.args.setting in
    let whole = settled_in s c.args.left c.args.right c.args.target c.args.bounds.now in
    let is =
    over s.modulus (2 - c.loop.counter) c.args.left c.args.right c.args.target c.loop.bounds c.loop.before.items whole
    (omega (arith, c.bound_of.ensures, c.bound_of-in-loop.ensures, c.if-bound_of-target.true)) c.loop.invariant.goes in
    ap (λ (s : Settled). s.before) (sym is)

pub returns-then-bound_of-target-clause-after : goal.returns-then-bound_of-target-clause-after
returns-then-bound_of-target-clause-after c =
    let s = c.args.setting in
    let whole = settled_in s c.args.left c.args.right c.args.target c.args.bounds.now in
    let is =
    over s.modulus (2 - c.loop.counter) c.args.left c.args.right c.args.target c.loop.bounds c.loop.before.items whole
    (omega (arith, c.bound_of.ensures, c.bound_of-in-loop.ensures, c.if-bound_of-target.true)) c.loop.invariant.goes in
    ap (λ (s : Settled). s.bounds) (sym is)

pub loop-preserved : goal.loop-preserved
loop-preserved c =
    let s = c.args.setting in
    let whole = settled_in s c.args.left c.args.right c.args.target c.args.bounds.now in
    let register = c.greater_of-register.result in
    let is : c.put_bound.new.bounds ≡ slice_set c.loop.bounds register (reduced_bound s.modulus) =
    c.put_bound.ensures ∙ ap (slice_set c.loop.bounds register) c.reduced_bound.ensures in
    record {
      goes =
          turn s.modulus (2 - c.loop.counter) (2 - (c.loop.counter + 1)) c.args.left c.args.right c.args.target register
          c.loop.bounds c.put_bound.new.bounds c.loop.before.items c.push.new.self.items whole (omega arith)
          (omega (arith, c.bound_of.ensures, c.bound_of-in-loop.ensures, c.if-bound_of-target.false))
          c.greater_of-register.ensures is c.in_ok-push.ensures.items c.loop.invariant.goes;
      sane =
          subst (AreBoundsWithin s) (sym is)
          (set_sane s.modulus c.loop.bounds register (reduced_bound s.modulus)
          (reduced_sane s.modulus c.requires.setting.some c.requires.setting.below) c.loop.invariant.sane);
    }
