use Rattle.std.proofs.Common.{◌≡◌, ℕ, List, ◌<◌, ap, sym, subst, ◌∙◌, All, length}
use Rattle.icode.specs.Buffers.{buffered_start}
use Rattle.icode.proofs.Below.{below_from_all}
use Rattle.buffer_machine.specs.Running.{Running}
use Rattle.buffer_machine.specs.Stand.{first_stand}
use Rattle.buffer_machine.proofs.Whole.{put_whole}
use Rattle.buffer_machine.proofs.machine.BufMachine.put.Goals as goal

pub invariant_of-self : goal.invariant_of-self
invariant_of-self c =
    let a = c.self.inside in
    let size : length c.args.input.now ≡ a.walker.code.size = c.requires.size ∙ sym (ap (λ (r : Running). r.code.size) c.self.view_is) in
    let below = below_from_all a.walker.code.modulus c.args.input.now c.self.invariant.good.modulus (subst (λ (r : Running). All (λ v. v < r.code.modulus) c.args.input.now) (sym c.self.view_is) c.requires.residues) in
    (put_whole a c.args.input.now c.put.new.self c.put-2.new.self c.self.invariant (c.put.ensures ∙ ap (λ (ls : List ℕ). first_stand ls c.args.input.now a.values) c.deref.ensures.value) size below c.put-2.ensures.code c.put-2.ensures.state).0

pub returns-clause-state : goal.returns-clause-state
returns-clause-state c =
    let a = c.self.inside in
    let size : length c.args.input.now ≡ a.walker.code.size = c.requires.size ∙ sym (ap (λ (r : Running). r.code.size) c.self.view_is) in
    let below = below_from_all a.walker.code.modulus c.args.input.now c.self.invariant.good.modulus (subst (λ (r : Running). All (λ v. v < r.code.modulus) c.args.input.now) (sym c.self.view_is) c.requires.residues) in
    (put_whole a c.args.input.now c.put.new.self c.put-2.new.self c.self.invariant (c.put.ensures ∙ ap (λ (ls : List ℕ). first_stand ls c.args.input.now a.values) c.deref.ensures.value) size below c.put-2.ensures.code c.put-2.ensures.state).1
    ∙ ap (λ (r : Running). buffered_start r.code c.args.input.now) c.self.view_is
