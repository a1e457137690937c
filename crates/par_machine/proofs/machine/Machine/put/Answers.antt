use Rattle.std.proofs.Common.{◌-◌, ◌<◌, ◌++◌, ◌∙◌, List, ap, sym, subst, arith, refl, length, map, replicate, All}
use Rattle.std.specs.Vec.{with_items}
use Rattle.std.proofs.lemmas.List.{with_items_is}
use Rattle.icode.specs.Machine.{State, start}
use Rattle.icode.proofs.Below.{below_from_all}
use Rattle.par_machine.specs.Context.{Context}
use Rattle.par_machine.specs.Processors.{as_new, registers_of}
use Rattle.par_machine.specs.Running.{Running}
use Rattle.par_machine.proofs.Puts.{IsPut, put_state, put_runs}
use Rattle.par_machine.proofs.machine.Machine.put.Goals as goal

abbrev processors_after : goal.After-self-3-1 → List Context
processors_after c = (with_items c.self.inside.processors c.reset_all.new.processors).items

abbrev state_after : goal.After-self-3-1 → State
state_after c = record { memory = (with_items c.self.inside.memory c.put_input.new.memory).items; registers = registers_of (processors_after c); phase = c.first_busy-self-inside.result; done = c.fill.new.self.items }

written : (c : goal.After-self-3-1) → IsPut c.self.inside c.args.input.now (state_after c) (processors_after c)
written c =
    let a = c.self.inside in
    let w = c.self.invariant in
    record {
      size = c.requires.size ∙ sym (ap (λ (r : Running). r.code.size) c.self.view_is);
      residues = below_from_all a.header.shape.modulus c.args.input.now (omega (arith, w.ready.limits.of_modulus.0)) (subst (λ (r : Running). All (λ v. v < r.code.modulus) c.args.input.now) (sym c.self.view_is) c.requires.residues);
      memory = with_items_is a.memory c.put_input.new.memory (c.put_input.auto.memory ∙ (ap length c.deref_mut.ensures.value ∙ sym a.memory.ok.0))
          ∙ (c.put_input.ensures ∙ ap (λ k. c.args.input.now ++ replicate (k - length c.args.input.now) 0) (ap length c.deref_mut.ensures.value));
      as_new_ones = with_items_is a.processors c.reset_all.new.processors (c.reset_all.auto.processors ∙ (ap length c.deref_mut-2.ensures.value ∙ sym a.processors.ok.0))
          ∙ (c.reset_all.ensures ∙ ap (map as_new) c.deref_mut-2.ensures.value);
      registers = refl;
      done = c.fill.ensures.items (λ y e. e) ∙ ap (λ n. replicate n 0) a.done.ok.0;
      phases = c.deref.result.now;
      phases_are = c.deref.ensures.value;
      phase = c.first_busy-self-inside.ensures.first;
      within = c.first_busy-self-inside.ensures.within;
    }

pub returns-clause-state : goal.returns-clause-state
returns-clause-state c =
    put_state c.self.inside c.args.input.now (state_after c) (processors_after c) c.self.invariant (written c)
    ∙ ap (λ (r : Running). start r.code c.args.input.now) c.self.view_is

pub invariant_of-self : goal.invariant_of-self
invariant_of-self c =
    record {
      ready = c.self.invariant.ready;
      running = put_runs c.self.inside c.args.input.now (state_after c) (processors_after c) c.self.invariant (written c);
    }
