-- The theorem of the commands for formulas and for convolutions: `compile` prints a right program for the formula, and
-- `apply` writes its matrix times each vector; `convolve --code` prints a right program that convolves with the first
-- vector, and `convolve` writes the convolution of each later vector with it.
--
-- Beside the words of the theorem for requests, these are defined elsewhere:
--   IsRightFormulaLine      the first line of the input spells a formula; apply m f x is its matrix times x, modulo m
--   operations 1 m f        how many additions and multiplications the formula counts
--   IsRightConvLine         the first line asks for convolutions, by a root whose power sums are 0, with a tree for both
--                           transforms that is the first of the cheapest, and within the budget
--   convolution m n h x     the cyclic convolution of h and x, modulo m
--   vectors_read            the vectors of the data, up to the first fault
use Rattle.std.specs.Prelude.{◌≡◌, ℕ, ◌*◌, ◌≤◌, true, false, List, ◌∷◌, length, None, Some, codes}
use Rattle.std.specs.declared.option.Option.{Option}
use Rattle.commands.specs.Convolutions.ConvPlanned.{conv_cost}
use Rattle.commands.specs.Equations.Front.{line}
use Rattle.commands.specs.Equations.Orders.{Planned}
use Rattle.commands.specs.Formulas.Code as code
use Rattle.commands.specs.Good.{HasHeader}
use Rattle.spl_ast.specs.Meaning.{IsVector}
use Rattle.commands.specs.Input.Commands.{first_stranger}
use Rattle.icode.specs.Actions.{plain_code}
use Rattle.icode.specs.Machine.{weighted, whole_counts}
use Rattle.icode.specs.Plain.{PlainProgram}
use Rattle.matrix_meaning.specs.Convolution.{convolution}
use Rattle.matrix_meaning.specs.declared.Request.{Request}
use Rattle.schedules.specs.Schedule.{Plan as Turns}
use Rattle.schedules.specs.Turns.{named}
use Rattle.runs.specs.Stream.{lines}
use Rattle.sigma_lower.specs.Operations.{operations}
use Rattle.io_edge.specs.Told.{Told, rest_of}
use Rattle.spiral_main.specs.Good.{vectors_read}
use Rattle.spiral_main.specs.RightFront.{HasWholeVectors, IsRightConvLine, IsRightFormulaLine}
use Rattle.spiral_main.specs.RightFront.{request_vectors, vectors_behind}
use Rattle.spiral_main.specs.Outcome.{AccountsFor}
use Rattle.spiral_main.specs.Theorem.{Leaves, Lists, OfWhatWasRead, Writes}
use Rattle.spiral_words.specs.Asked.{AsksCode, AsksModulus, AsksSchedule}
use Rattle.spiral_words.specs.CommandLine.{Names, Options}
use Rattle.spiral_words.specs.Statuses.Status.{IsDefined}
use Rattle.spiral_words.specs.declared.statuses.status.Status.{Status}
use Rattle.spl_ast.specs.Formula.{Formula, size_of}
use Rattle.spl_ast.specs.Meaning as formulas
use Rattle.tree_model.specs.Breakdown.{Breakdown}
use Rattle.tree_model.specs.Chosen.{IsWholeTree}
use Rattle.tree_model.specs.Passes.{loads_of, stores_of}

-- p is right for the formula f modulo m, and does no more than it counts
pub record IsRightCode (m : ℕ) (f : Formula) (p : PlainProgram) : Type 0 where
  -- it is for as many residues modulo m as the formula has rows, and for one processor of one lane, in one phase
  pub header : code.HasHeader m f p
  pub phases : length (plain_code p).lists ≡ 1
  -- it leaves the formula's matrix times the vector
  pub leaves : Leaves (IsVector m (size_of f)) (formulas.apply m f) p
  pub operations : weighted 1 (whole_counts (plain_code p) 0) ≡ operations 1 m f

-- p is right for convolutions with h, and does no more than two transforms by the tree t and the products between them
pub record IsRightConvolver (r : Request) (t : Breakdown) (h : List ℕ) (p : PlainProgram) : Type 0 where
  -- it is for the request's size and modulus, in one phase
  pub header : HasHeader r p
  pub phases : length (plain_code p).lists ≡ 1
  -- it leaves the convolution of h and the vector
  pub leaves : Leaves (IsVector r.modulus r.size) (convolution r.modulus r.size h) p
  pub operations : weighted r.weight (whole_counts (plain_code p) 0) ≡ conv_cost r t
  pub loads : (whole_counts (plain_code p) 0).loads ≡ 2 * loads_of r t
  pub stores : (whole_counts (plain_code p) 0).stores ≡ 2 * stores_of r t
  -- and no tree of the request costs less
  pub cheapest : (u : Breakdown) → IsWholeTree r u → conv_cost r t ≤ conv_cost r u

-- what is right for a call with these words and these bytes of input
pub record IsRightFormulaAnswer (words : List (List ℕ)) (bytes : List ℕ) (before after : Option (List ℕ))
    (status : Status) : Type 0 where
  -- `spiral compile`: the listing of a right program
  pub compile : (options : Options) (m : ℕ) (f : Formula) → Names words (codes "compile") options →
      AsksModulus options m → IsRightFormulaLine bytes f →
      Writes (Lists (IsRightCode m f)) before after status
  -- `spiral apply`: a line for each vector, of the formula's matrix times it
  pub apply : (options : Options) (m : ℕ) (schedule : Turns) (f : Formula) → Names words (codes "apply") options →
      AsksModulus options m → AsksSchedule options schedule → first_stranger (named schedule) 1 ≡ None →
      IsRightFormulaLine bytes f → HasWholeVectors (line 65536) (size_of f) bytes →
      Writes (λ text. text ≡ lines (formulas.apply m f) (vectors_behind (line 65536) (size_of f) m bytes)) before after status
  -- `spiral convolve --code`: the listing of a right program for the first vector
  pub convolver : (options : Options) (schedule : Turns) (plan : Planned) (h : List ℕ) (later : List (List ℕ)) →
      Names words (codes "convolve") options → AsksSchedule options schedule → AsksCode options true →
      IsRightConvLine (named schedule) bytes plan → vectors_read plan bytes ≡ h ∷ later →
      Writes (Lists (IsRightConvolver plan.request plan.tree h)) before after status
  -- `spiral convolve`: a line for each later vector, of its convolution with the first
  pub convolve : (options : Options) (schedule : Turns) (plan : Planned) (h : List ℕ) (later : List (List ℕ)) →
      Names words (codes "convolve") options → AsksSchedule options schedule → AsksCode options false →
      IsRightConvLine (named schedule) bytes plan → HasWholeVectors (line 256) plan.request.size bytes →
      request_vectors plan bytes ≡ h ∷ later →
      Writes (λ text. text ≡ lines (convolution plan.request.modulus plan.request.size h) later) before after status

-- whatever `spiral_run` does with an input that tells its bytes is right, unless a read or a write fails or memory
-- runs out
abbrev pub FormulasAreRight : Type 0
FormulasAreRight =
    (words : List (List ℕ)) (bytes : List ℕ) (input input' : Told) (before after : Option (List ℕ)) (status : Status) →
    rest_of input ≡ Some bytes → AccountsFor words input input' before after status → IsDefined status →
    IsRightFormulaAnswer words bytes before after status

-- what is right for a call of any input
abbrev pub IsRightFormulaRun : List (List ℕ) → (input input' : Told) (before after : Option (List ℕ)) → Status → Type 0
IsRightFormulaRun words input input' before after status =
    OfWhatWasRead (λ bytes. IsRightFormulaAnswer words bytes before after status) input input'
