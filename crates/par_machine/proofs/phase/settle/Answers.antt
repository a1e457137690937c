use Rattle.std.proofs.Common.{arith, ◌+◌, ◌-◌, ℕ, cond, length, map, replicate, sym, ap, ◌∙◌}
use Rattle.icode.specs.Machine.{first_open}
use Rattle.par_machine.specs.Processors.{rewound}
use Rattle.par_machine.specs.declared.phase.Routine.{Routine}
use Rattle.par_machine.proofs.Phases.{opens, len_at, open_now, over_now, found_of, none_of}
use Rattle.par_machine.proofs.phase.settle.Goals as goal

pub returns-in-Some-clause-phase : goal.returns-in-Some-clause-phase
returns-in-Some-clause-phase c = λ code h procs same.
    sym (ap (λ b. cond b c.args.phase (first_open code (length c.args.phases.now - (c.args.phase + 1)) (c.args.phase + 1)))
    (open_now code c.args.phases.now c.args.phase c.in-Some.field-0 c.index-phases-phase.result c.args.done.now h c.requires.phase c.index-phases-phase.is same (found_of c.index-phases-phase.result c.args.phases.now c.args.phase c.args.done.now c.in-Some.field-0 c.index-phases-phase.is c.in-Some.ensures.found)))

pub returns-in-Some-clause-done : goal.returns-in-Some-clause-done
returns-in-Some-clause-done c = λ code h procs same.
    sym (ap (λ b. cond b c.args.done.now (replicate {A = ℕ} (length c.args.done.now) 0))
    (open_now code c.args.phases.now c.args.phase c.in-Some.field-0 c.index-phases-phase.result c.args.done.now h c.requires.phase c.index-phases-phase.is same (found_of c.index-phases-phase.result c.args.phases.now c.args.phase c.args.done.now c.in-Some.field-0 c.index-phases-phase.is c.in-Some.ensures.found)))

pub returns-in-Some-clause-processors : goal.returns-in-Some-clause-processors
returns-in-Some-clause-processors c = λ code h procs same.
    sym (ap (λ b. cond b c.args.processors.now (map rewound c.args.processors.now))
    (open_now code c.args.phases.now c.args.phase c.in-Some.field-0 c.index-phases-phase.result c.args.done.now h c.requires.phase c.index-phases-phase.is same (found_of c.index-phases-phase.result c.args.phases.now c.args.phase c.args.done.now c.in-Some.field-0 c.index-phases-phase.is c.in-Some.ensures.found)))

pub returns-in-None-clause-phase : goal.returns-in-None-clause-phase
returns-in-None-clause-phase c = λ code h procs same.
    c.first_busy.ensures.first code h procs
    ∙ sym (ap (λ b. cond b c.args.phase (first_open code (length c.args.phases.now - (c.args.phase + 1)) (c.args.phase + 1)))
    (over_now code c.args.phases.now c.args.phase c.index-phases-phase.result c.args.done.now h c.requires.phase c.index-phases-phase.is same (none_of c.index-phases-phase.result c.args.phases.now c.args.phase c.args.done.now c.index-phases-phase.is c.in-None.ensures.none)))

pub returns-in-None-clause-done : goal.returns-in-None-clause-done
returns-in-None-clause-done c = λ code h procs same.
    c.fill.ensures.after (λ y e. e)
    ∙ sym (ap (λ b. cond b c.args.done.now (replicate {A = ℕ} (length c.args.done.now) 0))
    (over_now code c.args.phases.now c.args.phase c.index-phases-phase.result c.args.done.now h c.requires.phase c.index-phases-phase.is same (none_of c.index-phases-phase.result c.args.phases.now c.args.phase c.args.done.now c.index-phases-phase.is c.in-None.ensures.none)))

pub returns-in-None-clause-processors : goal.returns-in-None-clause-processors
returns-in-None-clause-processors c = λ code h procs same.
    c.rewind_all.ensures
    ∙ sym (ap (λ b. cond b c.args.processors.now (map rewound c.args.processors.now))
    (over_now code c.args.phases.now c.args.phase c.index-phases-phase.result c.args.done.now h c.requires.phase c.index-phases-phase.is same (none_of c.index-phases-phase.result c.args.phases.now c.args.phase c.args.done.now c.index-phases-phase.is c.in-None.ensures.none)))

pub returns-then-done-proc-clause-phase : goal.returns-then-done-proc-clause-phase
returns-then-done-proc-clause-phase c = λ code h procs same.
    let r = c.index-phases-phase.result in
    sym (ap (λ b. cond b c.args.phase (first_open code (length c.args.phases.now - (c.args.phase + 1)) (c.args.phase + 1)))
    (opens code c.args.phases.now c.args.phase c.args.proc r.len c.args.done.now h (len_at c.args.phases.now c.args.phase r c.requires.phase c.index-phases-phase.is) (omega (arith, same, c.requires.proc)) (omega (arith, c.if-done-proc.true, ap (λ (x : Routine). x.len) c.index-phases-phase.is))))

pub returns-then-done-proc-clause-done : goal.returns-then-done-proc-clause-done
returns-then-done-proc-clause-done c = λ code h procs same.
    let r = c.index-phases-phase.result in
    sym (ap (λ b. cond b c.args.done.now (replicate {A = ℕ} (length c.args.done.now) 0))
    (opens code c.args.phases.now c.args.phase c.args.proc r.len c.args.done.now h (len_at c.args.phases.now c.args.phase r c.requires.phase c.index-phases-phase.is) (omega (arith, same, c.requires.proc)) (omega (arith, c.if-done-proc.true, ap (λ (x : Routine). x.len) c.index-phases-phase.is))))

pub returns-then-done-proc-clause-processors : goal.returns-then-done-proc-clause-processors
returns-then-done-proc-clause-processors c = λ code h procs same.
    let r = c.index-phases-phase.result in
    sym (ap (λ b. cond b c.args.processors.now (map rewound c.args.processors.now))
    (opens code c.args.phases.now c.args.phase c.args.proc r.len c.args.done.now h (len_at c.args.phases.now c.args.phase r c.requires.phase c.index-phases-phase.is) (omega (arith, same, c.requires.proc)) (omega (arith, c.if-done-proc.true, ap (λ (x : Routine). x.len) c.index-phases-phase.is))))
