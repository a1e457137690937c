use Rattle.std.proofs.Common.{◌-◌, ◌∙◌, List, ap, sym, subst, arith, length}
use Rattle.icode.specs.Machine.{first_open}
use Rattle.par_machine.specs.declared.machine.Machine.TheInside.{Inside}
use Rattle.par_machine.specs.declared.phase.Routine.{Routine}
use Rattle.par_machine.specs.Lengths.{HasLengths}
use Rattle.par_machine.proofs.News.{IsNew, new_whole, new_code, new_state}
use Rattle.par_machine.proofs.machine.Machine.new.Goals as goal

abbrev made : goal.In_ok-processors → Inside
made c =
    record {
      header = c.in_ok-header.header;
      phases = c.in_ok-phases.phases;
      memory = c.in_ok-memory.memory;
      phase = c.first_busy-phase.result;
      done = c.in_ok-done.done;
      processors = c.in_ok-processors.processors;
    }

is_new : (c : goal.In_ok-processors) → IsNew c.args.program.now (made c)
is_new c =
    let phases = c.deref.ensures.value in
    record {
      header = c.in_ok-header.ensures;
      phases = c.in_ok-phases.ensures;
      memory = c.in_ok-memory.ensures;
      processors = c.in_ok-processors.ensures;
      done = c.in_ok-done.ensures;
      phase = λ code h procs. c.first_busy-phase.ensures.first code (subst (HasLengths code) (sym phases) h) procs ∙ ap (λ (rs : List Routine). first_open code (length rs - 0) 0) phases;
      within = omega (arith, c.first_busy-phase.ensures.within, ap length phases);
    }

pub invariant_of-result : goal.invariant_of-result
invariant_of-result c = new_whole c.args.program.now (made c) c.requires (is_new c)

pub returns-clause-state : goal.returns-clause-state
returns-clause-state c = new_state c.args.program.now (made c) (is_new c)

pub returns-clause-code : goal.returns-clause-code
returns-clause-code c = new_code c.args.program.now (made c) (is_new c)
