-- Calls that are right in all that the program asks of them, and their success.
use Rattle.std.specs.Prelude.{◌≡◌, ◌⊎◌, ℕ, ◌≤◌, Bool, true, false, List, length, Ok, ◌∷◌}
use Rattle.std.specs.declared.option.Option.{Option}
use Rattle.std.specs.Io.KnownBytes.{Appends}
use Rattle.matrix_meaning.specs.declared.Request.{Request}
use Rattle.matrix_meaning.specs.Valid.{IsValid}
use Rattle.commands.specs.Convolutions.Convolving.{IsConvRequest}
use Rattle.commands.specs.Convolutions.ConvPlanned.{HasPrincipalRoot, both_halves}
use Rattle.commands.specs.Planned.{IsRooted}
use Rattle.tree_model.specs.Chosen.{CanDivideWhole, IsWholeLeast}
use Rattle.plan_cert.specs.declared.verdict.Verdict.TheVariants.{Least}
use Rattle.plan_cert.specs.Verdict.{IsVerdict}
use Rattle.icode.specs.Plain.{PlainProgram}
use Rattle.schedules.specs.Schedule.{Plan as Turns}
use Rattle.schedules.specs.Turns.{named}
use Rattle.spl_ast.specs.Formula.{Formula, size_of}
use Rattle.spiral_words.specs.Asked.{IsAsked}
use Rattle.spiral_words.specs.declared.Command.TheVariants.{ByRequest, ByFormula, ByListing, ByList}
use Rattle.spiral_words.specs.declared.FormulaCommand.{FormulaCommand}
use Rattle.spiral_words.specs.declared.FormulaCommand.TheVariants.{Compile, Apply}
use Rattle.spiral_words.specs.declared.RequestCommand.{RequestCommand}
use Rattle.spiral_words.specs.declared.RequestCommand.TheVariants.{Writes, Runs, Traces, Judges}
use Rattle.spiral_words.specs.declared.statuses.status.Status.{Status}
use Rattle.spiral_words.specs.declared.statuses.status.Status.TheVariants.{Success}
use Rattle.commands.specs.Checked.{certificate_limit}
use Rattle.commands.specs.Equations.Convolutions.{conv_spelt}
use Rattle.commands.specs.Equations.Formulas.{formed, written}
use Rattle.commands.specs.Equations.Front.{line, ordered, part, room_behind}
use Rattle.commands.specs.Equations.Orders.{turned}
use Rattle.commands.specs.Listings.Listed.{loaded}
use Rattle.commands.specs.Input.Asking.{spelt}
use Rattle.commands.specs.Input.Commands.{procs_named}
use Rattle.commands.specs.Input.Stage.{Stage, ◌>>=◌}
use Rattle.runs.specs.Stream.{data_vectors}
use Rattle.spiral_main.specs.Outcome.{IsOutcome}
use Rattle.spiral_main.specs.RightFront.{AreWholeVectors, HasWholeVectors}

-- a certificate that proves a least cost, and not too long
pub record IsRightCertificate (request : Request) (bytes : List ℕ) : Type 0 where
  pub few : length bytes ≤ certificate_limit
  pub cost : ℕ
  pub judged : IsVerdict request bytes (Least cost)

-- what stands after the first line is right for the command, given how many bytes may come
abbrev pub IsRightRest : RequestCommand → Request → ℕ → List ℕ → Type 0
IsRightRest (Runs order) request room bytes = AreWholeVectors request.size room bytes
IsRightRest (Traces order) request room bytes = AreWholeVectors request.size room bytes
IsRightRest Judges request room bytes = IsRightCertificate request bytes
IsRightRest (Writes document) request room bytes = Unit {0}

-- the least cost of the request's trees is within the budget
abbrev pub IsWithinBudget : Request → Type 0
IsWithinBudget r = (cost : ℕ) × IsWholeLeast r cost × (cost ≤ r.budget)

-- `check` asks for no budget
abbrev pub HasBudgetFor : RequestCommand → Request → Type 0
HasBudgetFor Judges request = Unit {0}
HasBudgetFor _ request = IsWithinBudget request

-- The words are a command line that goes by a request, the first line spells a request, and each turn that the words
-- name is of one of its processors. The request is valid, admits a tree, and its least cost is within the budget.
-- What comes after the line is right
pub record IsRightRequest (words : List (List ℕ)) (bytes : List ℕ) : Type 0 where
  pub wanted : RequestCommand
  pub asked : IsAsked words (ByRequest wanted)
  pub request : Request
  pub orders : ordered (line 256) (λ text. spelt text >>= turned (procs_named wanted)) bytes (Ok request)
  pub valid : IsValid request
  pub divides : CanDivideWhole request
  pub budget : HasBudgetFor wanted request
  pub rest : IsRightRest wanted request (room_behind (line 256) bytes) ((line 256).behind bytes)

-- The words ask for `exec`, the listing's program passes the check and has the processors that the schedule names,
-- and what comes after the listing is right
pub record IsRightExecution (words : List (List ℕ)) (bytes : List ℕ) : Type 0 where
  pub schedule : Turns
  pub asked : IsAsked words (ByListing schedule)
  pub program : PlainProgram
  pub orders : ordered (part 1048576) (loaded schedule) bytes (Ok program)
  pub rest : HasWholeVectors (part 1048576) program.size bytes

-- the formula that a line orders
abbrev pub formula_for : FormulaCommand → List ℕ → Stage Formula
formula_for Compile = written
formula_for (Apply schedule) = formed (named schedule)

-- the data are right for a command that goes by a formula; `compile` reads none
abbrev pub AreRightData : FormulaCommand → Formula → List ℕ → Type 0
AreRightData (Apply schedule) formula bytes = HasWholeVectors (line 65536) (size_of formula) bytes
AreRightData Compile formula bytes = Unit {0}

-- The words ask for `compile` or `apply`, the first line spells a formula and is not too long, the schedule names the
-- one processor alone, and the data are right
pub record IsRightFormula (words : List (List ℕ)) (bytes : List ℕ) : Type 0 where
  pub modulus : ℕ
  pub wanted : FormulaCommand
  pub asked : IsAsked words (ByFormula modulus wanted)
  pub formula : Formula
  pub orders : ordered (line 65536) (formula_for wanted) bytes (Ok formula)
  pub rest : AreRightData wanted formula bytes

-- the first vector of the data is there
abbrev pub BeginWithList : Request → ℕ → List ℕ → Type 0
BeginWithList request room bytes = (h : List ℕ) × (later : List (List ℕ))
    × (data_vectors request.size request.modulus room bytes ≡ h ∷ later)

-- the data are right for a command that convolves; for the listing those after the list don't matter
abbrev pub AreRightVectors : Bool → Request → List ℕ → Type 0
AreRightVectors false request bytes = HasWholeVectors (line 256) request.size bytes
AreRightVectors true request bytes = Unit {0}

-- two transforms of the least cost, and a multiplication for each item between them, are within the budget
abbrev pub IsWithinConvBudget : Request → Type 0
IsWithinConvBudget r = (least : ℕ) × IsWholeLeast r least × (both_halves r least ≤ r.budget)

-- The words ask for `convolve`, the first line spells a request for convolutions, and the schedule names the one
-- processor alone. The root is one of the size, its power sums are 0, and the least cost is within the budget. The
-- data begin with a list and are right
pub record IsRightConvolution (words : List (List ℕ)) (bytes : List ℕ) : Type 0 where
  pub schedule : Turns
  pub code : Bool
  pub asked : IsAsked words (ByList schedule code)
  pub request : Request
  pub orders : ordered (line 256) (λ text. conv_spelt text >>= turned (named schedule)) bytes (Ok request)
  pub able : IsConvRequest request
  pub rooted : IsRooted request
  pub principal : HasPrincipalRoot request
  pub budget : IsWithinConvBudget request
  pub list : BeginWithList request (room_behind (line 256) bytes) ((line 256).behind bytes)
  pub rest : AreRightVectors code request bytes

abbrev pub IsRightCall : List (List ℕ) → List ℕ → Type 0
IsRightCall words bytes = IsRightRequest words bytes
    ⊎ (IsRightExecution words bytes ⊎ (IsRightFormula words bytes ⊎ IsRightConvolution words bytes))

-- the status is Success, and the output took the whole text
pub record Succeeds (words : List (List ℕ)) (bytes : List ℕ) (before after : Option (List ℕ))
    (status : Status) : Type 0 where
  pub success : status ≡ Success
  pub text : List ℕ
  pub outcome : IsOutcome words bytes Success text
  pub took : Appends before after text
