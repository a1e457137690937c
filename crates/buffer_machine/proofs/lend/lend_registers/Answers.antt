use Rattle.std.proofs.Common.{[], refl, ◌*◌, ◌≡◌, ℕ, List, ◌<◌, ◌++◌, take, drop, length, get_or, ap, sym, subst, ◌∙◌}
use Rattle.std.proofs.Common.{arith}
use Rattle.std.specs.Prelude.{slice_index}
use Rattle.std.proofs.lemmas.List.{get_or_read}
use Rattle.icode.specs.Machine.{Code}
use Rattle.par_machine.specs.Held.{with_file}
use Rattle.buffer_machine.specs.Lent.{with_files}
use Rattle.buffer_machine.proofs.Lends.{copied, all_copied}
use Rattle.buffer_machine.proofs.lend.lend_registers.Goals as goal

pub put_registers-requires-clause-proc : goal.put_registers-requires-clause-proc
put_registers-requires-clause-proc c =
    let lt : c.loop-proc.proc < length c.args.files.now = omega arith in
    omega (arith, lt, c.requires.here.count, ap (λ (code : Code). code.procs) c.loop-proc.invariant.code)

pub put_registers-requires-clause-size : goal.put_registers-requires-clause-size
put_registers-requires-clause-size c =
    let lt : c.loop-proc.proc < length c.args.files.now = omega arith in
    let file = get_or_read c.args.files.now c.loop-proc.proc c.index-files-proc.result lt c.index-files-proc.is [] in
    subst (λ (code : Code). length c.words.result.now ≡ code.regs * code.lanes) (sym c.loop-proc.invariant.code)
    (ap length (c.words.ensures ∙ file) ∙ c.requires.here.size c.loop-proc.proc (omega (arith, lt, c.requires.here.count)))

pub put_registers-requires-clause-residues : goal.put_registers-requires-clause-residues
put_registers-requires-clause-residues c =
    let lt : c.loop-proc.proc < length c.args.files.now = omega arith in
    let file = get_or_read c.args.files.now c.loop-proc.proc c.index-files-proc.result lt c.index-files-proc.is [] in
    subst (λ (code : Code). (k : ℕ) → slice_index c.words.result.now k < code.modulus) (sym c.loop-proc.invariant.code)
    (subst (λ (ws : List ℕ). (k : ℕ) → slice_index ws k < c.args.machine.now.code.modulus) (sym (c.words.ensures ∙ file)) (c.requires.here.below c.loop-proc.proc))

pub loop-proc-preserved : goal.loop-proc-preserved
loop-proc-preserved c =
    let i = c.loop-proc.proc in
    let files = c.args.files.now in
    let s = c.args.machine.now.state in
    let lt : i < length files = omega arith in
    record {
      state = c.put_registers.ensures.state
          ∙ (ap (with_file i c.words.result.now) c.loop-proc.invariant.state
          ∙ ap (λ (rs : List (List ℕ)). with_files rs s) (copied files s.registers (take i files ++ drop i s.registers) i c.words.result.now lt (c.requires.there.count ∙ sym c.requires.here.count) refl (c.words.ensures ∙ (c.index-files-proc.is ∙ ap (get_or files i) (sym c.words.ensures)))));
      code = c.put_registers.ensures.code ∙ c.loop-proc.invariant.code;
    }

pub returns-clause-state : goal.returns-clause-state
returns-clause-state c =
    let files = c.args.files.now in
    let s = c.args.machine.now.state in
    c.loop-proc.invariant.state
    ∙ ap (λ (rs : List (List ℕ)). with_files rs s) (all_copied files s.registers c.loop-proc.proc (omega arith) (c.requires.there.count ∙ sym c.requires.here.count))
