use Rattle.std.proofs.Common.{◌≡◌, ◌<◌, ◌++◌, ◌∷◌, [], true, List, sym, ◌∙◌, arith, subst, length, take}
use Rattle.icode.specs.declared.program.Stmt.{Stmt}
use Rattle.icode.specs.Lengths.{len_of_body}
use Rattle.icode.specs.Limits.{is_body_within}
use Rattle.icode.specs.Actions.{steps_of_body}
use Rattle.icode.specs.Plain.{PlainBody, plain_body, plain_phases}
use Rattle.icode.specs.Program.{plain_program}
use Rattle.icode.proofs.Lists.{phase_within, acts_length}
use Rattle.par_machine.specs.declared.phase.Routine.{Routine}
use Rattle.par_machine.specs.Plays.{IsCompiled}
use Rattle.par_machine.specs.Translated.{AreTranslated}
use Rattle.par_machine.proofs.Translations.{translated, translated_more, phase_more, take_phases}
use Rattle.par_machine.proofs.initial.compile_phases.Goals as goal

pub compile_phase-requires : goal.compile_phase-requires
compile_phase-requires c =
    let p = c.args.program.now in
    record {
      within = subst (λ (xs : List Stmt). is_body_within p.modulus (plain_body xs) 0 ≡ true) (sym c.deref.ensures.value)
          (phase_within p c.loop-phase.phase c.index.result.now (omega (arith, c.len-phase-end.ensures, p.phases.ok.0)) c.index.ensures);
    }

pub loop-phase-preserved : goal.loop-phase-preserved
loop-phase-preserved c =
    let p = c.args.program.now in
    let P = plain_program p in
    let phase = c.loop-phase.phase in
    let body = c.index.result.now in
    let r : Routine = record { code = c.in_ok-code.code; len = c.len-len.result } in
    let lt : phase < length p.phases.items = omega (arith, c.len-phase-end.ensures, p.phases.ok.0) in
    let len : c.len-len.result ≡ len_of_body (plain_body body.items) = c.len-len.ensures ∙ acts_length p phase 0 body lt (omega (arith, p.header.of_procs.0)) c.index.ensures in
    let one = translated P r (plain_body body.items) len
    (subst (λ (xs : List Stmt). IsCompiled p.modulus 0 (len_of_body (plain_body xs)) (λ p. steps_of_body p (plain_body xs)) [] r.code.items) c.deref.ensures.value c.in_ok-code.ensures) in
    subst (λ (bs : List PlainBody). AreTranslated P c.push.new.self.items bs) (sym (phase_more p.phases.items phase body lt c.index.ensures))
    (subst (λ (rs : List Routine). AreTranslated P rs (take phase (plain_phases p.phases.items) ++ plain_body body.items ∷ [])) (sym c.in_ok-push.ensures.items)
    (translated_more P c.loop-phase.routines.items r (take phase (plain_phases p.phases.items)) (plain_body body.items) c.loop-phase.invariant one))

pub returns : goal.returns
returns c =
    let p = c.args.program.now in
    subst (λ (bs : List PlainBody). AreTranslated (plain_program p) c.loop-phase.routines.items bs) (take_phases p.phases.items c.loop-phase.phase (omega (arith, c.len-phase-end.ensures, p.phases.ok.0))) c.loop-phase.invariant
