-- A header and its tables stand for the program.
use Rattle.std.proofs.Common.{◌≡◌, ℕ, List, Vec, Global, refl, sym, subst}
use Rattle.icode.specs.declared.program.Op.{Op}
use Rattle.icode.specs.declared.program.Program.{Program}
use Rattle.icode.specs.declared.shape.Shape.{Shape}
use Rattle.icode.specs.Actions.{Step, StepFits, step_of}
use Rattle.icode.specs.Headers.{header_with, without_statements, step_by}
use Rattle.icode.specs.Plain.{PlainOp, PlainProgram, Load, Store, Zero, Add, Sub, Neg, MulConst, MulTable, Tile}
use Rattle.icode.specs.Plain.{plain_op}
use Rattle.icode.specs.Program.{plain_program, op_step}

pub bare_step : (p : PlainProgram) (op : PlainOp) (vs : List ℕ) (q : ℕ) →
    step_of (without_statements p) op vs q ≡ step_of p op vs q
bare_step p (Load register array place) vs q = refl
bare_step p (Store array place register) vs q = refl
bare_step p (Zero register) vs q = refl
bare_step p (Add register left right) vs q = refl
bare_step p (Sub register left right) vs q = refl
bare_step p (Neg register source) vs q = refl
bare_step p (MulConst register source factor) vs q = refl
bare_step p (MulTable register source table place step) vs q = refl
bare_step p (Tile register source) vs q = refl

pub fits_bare : (p : PlainProgram) (s : Step) → StepFits p s → StepFits (without_statements p) s
fits_bare p s h = record { numbers = h.numbers; place = h.place; registers = h.registers; factors = h.factors }

pub header_is : (p : Program) (shape : Shape) (tables : List (Vec ℕ Global)) → shape.size ≡ p.size →
    shape.modulus ≡ p.modulus → shape.procs ≡ p.procs → shape.line ≡ p.line → shape.lanes ≡ p.lanes →
    shape.regs ≡ p.regs → tables ≡ p.tables.items → header_with shape tables ≡ without_statements (plain_program p)
header_is p shape tables size modulus procs line lanes regs entries =
    rw (size, modulus, procs, line, lanes, regs, entries) refl

-- a step that fits the program fits its header
pub fits_by : (p : Program) (shape : Shape) (tables : List (Vec ℕ Global)) (op : Op) (vs : List ℕ) (q : ℕ) →
    header_with shape tables ≡ without_statements (plain_program p) → StepFits (plain_program p) (op_step p op vs q) →
    StepFits (header_with shape tables) (step_by shape tables op vs q)
fits_by p shape tables op vs q same h =
    let bare = without_statements (plain_program p) in
    subst (λ (header : PlainProgram). StepFits header (step_of header (plain_op op) vs q)) (sym same)
    (subst (StepFits bare) (sym (bare_step (plain_program p) (plain_op op) vs q)) (fits_bare (plain_program p) (op_step p op vs q) h))
