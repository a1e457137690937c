-- A walk over actions that marks the words and the registers that are known.
use Rattle.std.specs.Prelude.{ℕ, zero, suc, ◌+◌, ◌*◌, ◌&&◌, List, [], ◌∷◌, Bool, true, false, length, replicate, slice_index_or, slice_set}
use Rattle.icode.specs.declared.action.Action.{Action}
use Rattle.icode.specs.declared.action.Action.TheVariants.{Load, Store, Zero, Add, Sub, Neg, Mul, Tile}
use Rattle.icode.specs.Actions.{actions_of, steps_of_phase}
use Rattle.icode.specs.Machine.{whole_lines}
use Rattle.icode.specs.Plain.{PlainProgram}

-- which words are known, and which registers have been put
pub record Marks : Type 0 where
  pub words : List Bool
  pub registers : List Bool

abbrev pub is_marked : List Bool → ℕ → Bool
is_marked marks k = slice_index_or marks k false

-- n from k on are
abbrev pub are_marked : ℕ → List Bool → ℕ → Bool
are_marked zero marks k = true
are_marked (suc n) marks k = is_marked marks k && are_marked n marks (k + 1)

-- n from k on are now
abbrev pub with_marks : ℕ → List Bool → ℕ → List Bool
with_marks zero marks k = marks
with_marks (suc n) marks k = with_marks n (slice_set marks k true) (k + 1)

-- the action reads what is known
abbrev pub reads_known : ℕ → Action → Marks → Bool
reads_known lanes (Load r address) m = are_marked lanes m.words address
reads_known lanes (Store address r) m = is_marked m.registers r
reads_known lanes (Zero r) m = true
reads_known lanes (Add r x y) m = is_marked m.registers x && is_marked m.registers y
reads_known lanes (Sub r x y) m = is_marked m.registers x && is_marked m.registers y
reads_known lanes (Neg r x) m = is_marked m.registers x
reads_known lanes (Mul r x factors) m = is_marked m.registers x
reads_known lanes (Tile r x) m = are_marked lanes m.registers x

-- the words that are known after it, and the registers
abbrev pub words_after : ℕ → Action → List Bool → List Bool
words_after lanes (Load r address) words = words
words_after lanes (Store address r) words = with_marks lanes words address
words_after lanes (Zero r) words = words
words_after lanes (Add r x y) words = words
words_after lanes (Sub r x y) words = words
words_after lanes (Neg r x) words = words
words_after lanes (Mul r x factors) words = words
words_after lanes (Tile r x) words = words

abbrev pub registers_after : ℕ → Action → List Bool → List Bool
registers_after lanes (Load r address) registers = slice_set registers r true
registers_after lanes (Store address r) registers = registers
registers_after lanes (Zero r) registers = slice_set registers r true
registers_after lanes (Add r x y) registers = slice_set registers r true
registers_after lanes (Sub r x y) registers = slice_set registers r true
registers_after lanes (Neg r x) registers = slice_set registers r true
registers_after lanes (Mul r x factors) registers = slice_set registers r true
registers_after lanes (Tile r x) registers = with_marks lanes registers r

abbrev pub marks_after : ℕ → Action → Marks → Marks
marks_after lanes a m = record { words = words_after lanes a m.words; registers = registers_after lanes a m.registers }

-- so do all actions, one after another
abbrev pub read_known : ℕ → List Action → Marks → Bool
read_known lanes [] m = true
read_known lanes (a ∷ actions) m = reads_known lanes a m && read_known lanes actions (marks_after lanes a m)

abbrev pub marks_after_all : ℕ → List Action → Marks → Marks
marks_after_all lanes [] m = m
marks_after_all lanes (a ∷ actions) m = marks_after_all lanes actions (marks_after lanes a m)

-- Processors and phases

abbrev pub actions_in : PlainProgram → ℕ → ℕ → List Action
actions_in p phase q = actions_of (steps_of_phase p phase q)

-- where processor q begins a phase it has put no register
abbrev pub marks_at : PlainProgram → List Bool → Marks
marks_at p words = record { words = words; registers = replicate p.regs false }

-- n processors from q on, one after another
abbrev pub processors_known : PlainProgram → ℕ → ℕ → ℕ → List Bool → Bool
processors_known p phase zero q words = true
processors_known p phase (suc n) q words =
    read_known p.lanes (actions_in p phase q) (marks_at p words)
    && processors_known p phase n (q + 1) (marks_after_all p.lanes (actions_in p phase q) (marks_at p words)).words

abbrev pub words_after_processors : PlainProgram → ℕ → ℕ → ℕ → List Bool → List Bool
words_after_processors p phase zero q words = words
words_after_processors p phase (suc n) q words =
    words_after_processors p phase n (q + 1) (marks_after_all p.lanes (actions_in p phase q) (marks_at p words)).words

-- n phases from this one on
abbrev pub phases_known : PlainProgram → ℕ → ℕ → List Bool → Bool
phases_known p zero phase words = true
phases_known p (suc n) phase words =
    processors_known p phase p.procs 0 words && phases_known p n (phase + 1) (words_after_processors p phase p.procs 0 words)

abbrev pub words_after_phases : PlainProgram → ℕ → ℕ → List Bool → List Bool
words_after_phases p zero phase words = words
words_after_phases p (suc n) phase words = words_after_phases p n (phase + 1) (words_after_processors p phase p.procs 0 words)

-- the words of the input are known at first
abbrev pub input_marks : PlainProgram → List Bool
input_marks p = with_marks p.size (replicate (4 * whole_lines p.size p.line) false) 0

-- each action reads what is known, and in the end all words of the result are
abbrev pub is_fresh : PlainProgram → Bool
is_fresh p =
    let n = length p.phases in
    phases_known p n 0 (input_marks p)
    && are_marked p.size (words_after_phases p n 0 (input_marks p)) (whole_lines p.size p.line)
