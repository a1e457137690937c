-- What the processors execute phase by phase and pass by pass, and what each of them loads and stores.
use Rattle.std.specs.Prelude.{◌≡◌, ℕ, suc, ◌*◌, ◌==◌, ◌<◌, if◌then◌else◌, List, [], ◌∷◌, flat_map, length, map, All}
use Rattle.std.specs.List.{range_with_len}
use Rattle.icode.specs.Actions.{array_start, plain_code}
use Rattle.icode.specs.declared.action.Action.{Action}
use Rattle.icode.specs.declared.program.Array.{Array}
use Rattle.icode.specs.declared.program.Array.TheVariants.{X}
use Rattle.icode.specs.Machine.{Code, acts, counts_of, weighted, whole_counts, whole_lines}
use Rattle.icode.specs.Plain.{PlainProgram}
use Rattle.matrix_meaning.specs.declared.Request.{Request}
use Rattle.code_gen.specs.PassCode.Contract.{Stays, in_a_row, concatenated}
use Rattle.code_gen.specs.PassCode.Program.{written_array}
use Rattle.tree_model.specs.Breakdown.{Breakdown}
use Rattle.tree_model.specs.WholePasses.{RequestPass, cost_of_pass, loads_of_pass, request_passes, whole_loads}
use Rattle.tree_model.specs.WholePasses.{whole_stores}

-- a processor's part of a pass, between arrays that begin at these words: an equal share of its counts, where a
-- multiplication counts as the request's weight
pub record IsPart (r : Request) (pass : RequestPass) (source target : ℕ) (actions : List Action) : Type 0 where
  pub stays : All (Stays r.size r.lanes source target) actions
  pub operations : r.procs * weighted r.weight (counts_of r.lanes actions) ≡ cost_of_pass r.size pass
  pub loads : r.procs * (counts_of r.lanes actions).loads ≡ loads_of_pass r.size pass
  pub stores : r.procs * (counts_of r.lanes actions).stores ≡ r.size

-- the array of this number, from the first to the last, as its first word
abbrev pub start_of : Request → Array → ℕ
start_of r array = array_start (whole_lines r.size r.line) array

-- a part for each pass, of which the first has number t and reads the source: the others read what the one before wrote
abbrev pub AreParts : Request → ℕ → Array → List RequestPass → List (List Action) → Type 0
AreParts r t source [] [] = Unit {0}
AreParts r t source [] (part ∷ parts) = ⊥
AreParts r t source (pass ∷ passes) [] = ⊥
AreParts r t source (pass ∷ passes) (part ∷ parts) =
    IsPart r pass (start_of r source) (start_of r (written_array t (length passes))) part
    × AreParts r (suc t) (written_array t (length passes)) passes parts

-- what processor q does in phases of these passes: in each phase one part for each of its passes, in order
pub record IsLeanList (r : Request) (phases : List (List RequestPass)) (code : Code) (q : ℕ) : Type 0 where
  pub parts : List (List (List Action))
  pub counts : map length parts ≡ map length phases
  pub whole : map concatenated parts ≡ map (λ phase. acts code phase q) (range_with_len 0 (length code.lists))
  pub each : AreParts r 0 X (flat_map (λ ps. ps) phases) (in_a_row parts)

-- there is one phase, or there are two where there are several processors; the passes of all phases, one after
-- another, are the tree's, and the list of each processor is lean
pub record IsLeanCode (r : Request) (t : Breakdown) (code : Code) : Type 0 where
  pub number : length code.lists ≡ (if r.procs == 1 then 1 else 2)
  pub phases : List (List RequestPass)
  pub passes : flat_map (λ ps. ps) phases ≡ request_passes r t
  pub lists : (q : ℕ) → q < r.procs → IsLeanList r phases code q

-- The actions of each processor are, phase by phase, one part for each pass of
-- the tree; each processor loads and stores an equal share of what the passes do
pub record IsLean (r : Request) (t : Breakdown) (p : PlainProgram) : Type 0 where
  pub parts : IsLeanCode r t (plain_code p)
  pub loads : (q : ℕ) → q < r.procs → r.procs * (whole_counts (plain_code p) q).loads ≡ whole_loads r t
  pub stores : (q : ℕ) → q < r.procs → r.procs * (whole_counts (plain_code p) q).stores ≡ whole_stores r t
