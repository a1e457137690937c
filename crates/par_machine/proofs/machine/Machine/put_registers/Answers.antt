use Rattle.std.proofs.Common.{◌≡◌, ℕ, ◌*◌, ◌<◌, length, sym, ap, subst, ◌∙◌, arith}
use Rattle.std.specs.Prelude.{slice_index}
use Rattle.par_machine.specs.Held.{with_file}
use Rattle.par_machine.specs.Running.{Running}
use Rattle.par_machine.proofs.Holding.{IsHolding, file_size, held_runs, held_state}
use Rattle.par_machine.proofs.machine.Machine.put_registers.Goals as goal

pub put_registers-requires : goal.put_registers-requires
put_registers-requires c =
    let a = c.self.inside in
    let lt : c.args.proc < a.header.shape.procs = omega (arith, c.requires.proc, ap (λ (r : Running). r.code.procs) c.self.view_is) in
    let size : length c.args.words.now ≡ a.header.shape.regs * a.header.shape.lanes = c.requires.size ∙ sym (ap (λ (r : Running). r.code.regs * r.code.lanes) c.self.view_is) in
    size ∙ sym (file_size a c.args.proc c.index_mut.result.now c.self.invariant lt c.index_mut.ensures.value)

holding : (c : goal.After-self-1) → IsHolding c.self.inside c.args.proc c.index_mut.result.now c.put_registers.new.self
    c.args.words.now
holding c =
    record {
      whole = c.self.invariant;
      proc = omega (arith, c.requires.proc, ap (λ (r : Running). r.code.procs) c.self.view_is);
      processor = c.index_mut.ensures.value;
      after = c.put_registers.ensures;
    }

pub invariant_of-self : goal.invariant_of-self
invariant_of-self c =
    let a = c.self.inside in
    let size : length c.args.words.now ≡ a.header.shape.regs * a.header.shape.lanes = c.requires.size ∙ sym (ap (λ (r : Running). r.code.regs * r.code.lanes) c.self.view_is) in
    let below : (k : ℕ) → slice_index c.args.words.now k < a.header.shape.modulus = subst (λ (r : Running). (k : ℕ) → slice_index c.args.words.now k < r.code.modulus) (sym c.self.view_is) c.requires.residues in
    record {
      ready = c.self.invariant.ready;
      running = held_runs a c.args.proc c.index_mut.result.now c.put_registers.new.self c.args.words.now (holding c) size below;
    }

pub returns-clause-state : goal.returns-clause-state
returns-clause-state c =
    held_state c.self.inside c.args.proc c.index_mut.result.now c.put_registers.new.self c.args.words.now (holding c)
    ∙ ap (λ (r : Running). with_file c.args.proc c.args.words.now r.state) c.self.view_is
