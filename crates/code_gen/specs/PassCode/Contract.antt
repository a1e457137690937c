-- What the program of merged passes does: the clauses of `emit`.
use Rattle.std.specs.Prelude.{◌≡◌, ℕ, suc, ◌+◌, ◌*◌, ◌^◌, ◌<◌, ◌≤◌, List, [], ◌∷◌, ◌++◌, flat_map, length, All}
use Rattle.std.specs.List.{range_with_len}
use Rattle.icode.specs.Actions.{PlainFits, array_start, plain_code}
use Rattle.icode.specs.Fresh.{IsFresh}
use Rattle.icode.specs.Limits.{IsWithinLimits}
use Rattle.icode.specs.Machine.{Code, IsApart, acts, counts_of, results, weighted, whole_lines}
use Rattle.icode.specs.Plain.{PlainProgram}
use Rattle.icode.specs.declared.action.Action.{Action}
use Rattle.icode.specs.declared.action.Action.TheVariants.{Load, Store}
use Rattle.icode.specs.declared.program.Array.{Array}
use Rattle.icode.specs.declared.program.Array.TheVariants.{X}
use Rattle.code_gen.specs.PassCode.Conditions.{CanWritePass}
use Rattle.operators.specs.declared.target.Target.{Target}
use Rattle.code_gen.specs.PassActions.Laws.{counted}
use Rattle.sigma_spl.specs.Shared.Names.{share_of}
use Rattle.code_gen.specs.PassCode.Program.{written_array, tables_of_phases, program_of}
use Rattle.sigma_spl.specs.Meaning.{IsVector}
use Rattle.sigma_spl.specs.Merged.{PlainMerged, merged_on}
use Rattle.sigma_spl.specs.Nest.{PlainNest}
use Rattle.sigma_spl.specs.Shared.Owners.{ArePhasesShared, all_passes, most_actions, IsHost}

-- merged passes of which a program can be made
pub record CanProgram (h : Target) (g : PlainMerged) : Type 0 where
  pub host : IsHost h
  pub size : g.size ≡ h.size
  pub procs : g.procs ≡ h.procs
  pub lanes : g.lanes ≡ h.lanes
  pub passes : All (CanWritePass h) (all_passes g.phases)
  pub some : 0 < length (all_passes g.phases)
  pub each_some : All (λ ps. 0 < length ps) g.phases
  pub few : most_actions h (all_passes g.phases) < 2 ^ 59
  pub tables : length (tables_of_phases h.modulus g.phases []) < 2 ^ 32
  pub shared : ArePhasesShared h g.phases

-- ---- clauses

-- the action loads from one array of n words and stores to another
abbrev pub Stays : ℕ → ℕ → ℕ → ℕ → Action → Type 0
Stays n lanes source target (Load r a) = (source ≤ a) × (a + lanes ≤ source + n)
Stays n lanes source target (Store a r) = (target ≤ a) × (a + lanes ≤ target + n)
Stays n lanes source target _ = Unit {0}

-- a processor's part of a pass: exactly its share of what the
-- pass counts, whatever a product counts, between its two arrays
pub record IsPart (h : Target) (zs : List PlainNest) (source target : ℕ) (actions : List Action) : Type 0 where
  pub stays : All (Stays h.size h.lanes source target) actions
  pub counts : (weight : ℕ) → 0 < weight → counted weight h.lanes actions ≡ share_of h weight zs

-- a part for each pass, of which the first has number t and reads the source: the others read what the one before wrote
abbrev pub AreParts : Target → ℕ → Array → List (List PlainNest) → List (List Action) → Type 0
AreParts h t source [] [] = Unit {0}
AreParts h t source [] (part ∷ parts) = ⊥
AreParts h t source (zs ∷ passes) [] = ⊥
AreParts h t source (zs ∷ passes) (part ∷ parts) =
    IsPart h zs (array_start (whole_lines h.size h.line) source)
    (array_start (whole_lines h.size h.line) (written_array t (length passes))) part
    × AreParts h (suc t) (written_array t (length passes)) passes parts

abbrev pub concatenated : List (List Action) → List Action
concatenated [] = []
concatenated (part ∷ parts) = part ++ concatenated parts

-- a processor's actions in all phases: one part for each pass
pub record IsListed (h : Target) (g : PlainMerged) (actions : List Action) : Type 0 where
  pub parts : List (List Action)
  pub whole : concatenated parts ≡ actions
  pub each : AreParts h 0 X (all_passes g.phases) parts

-- the parts of each phase, from phase f on: one for each of its
-- passes, and together they are what processor q does in it
abbrev pub ArePhaseParts : Code → ℕ → ℕ → List (List (List PlainNest)) → List (List (List Action)) → Type 0
ArePhaseParts code q f [] [] = Unit {0}
ArePhaseParts code q f [] (parts ∷ more) = ⊥
ArePhaseParts code q f (passes ∷ phases) [] = ⊥
ArePhaseParts code q f (passes ∷ phases) (parts ∷ more) =
    (length parts ≡ length passes) × (concatenated parts ≡ acts code f q) × ArePhaseParts code q (f + 1) phases more

abbrev pub in_a_row : List (List (List Action)) → List (List Action)
in_a_row [] = []
in_a_row (parts ∷ more) = parts ++ in_a_row more

-- a processor's actions, phase by phase and pass by pass
pub record IsByPhase (h : Target) (g : PlainMerged) (code : Code) (q : ℕ) : Type 0 where
  pub phases : List (List (List Action))
  pub lists : ArePhaseParts code q 0 g.phases phases
  pub each : AreParts h 0 X (all_passes g.phases) (in_a_row phases)

-- It is for the machine, and it stands within the limits of listings, with no more tables than a word can count. It
-- fits, and no processor touches a line that another writes in a phase. Run with no turns but those that complete it, it
-- leaves what the merged passes do. It reads nothing that is left over
pub record Performs (h : Target) (g : PlainMerged) (p : PlainProgram) : Type 0 where
  pub size : p.size ≡ h.size
  pub modulus : p.modulus ≡ h.modulus
  pub procs : p.procs ≡ h.procs
  pub line : p.line ≡ h.line
  pub lanes : p.lanes ≡ h.lanes
  pub limits : IsWithinLimits p
  pub tables : length p.tables ≤ 2 ^ 64
  pub fits : PlainFits p
  pub apart : (phase : ℕ) → IsApart (plain_code p) phase
  pub results : (x : List ℕ) → IsVector h.modulus h.size x → results (plain_code p) x [] ≡ merged_on h.modulus g x
  pub fresh : IsFresh (plain_code p)
  pub phases : length p.phases ≡ length g.phases
  pub parts : (q : ℕ) → q < h.procs → IsByPhase h g (plain_code p) q

-- every program of such passes does
abbrev pub ProgramsPerform : Type 0
ProgramsPerform = (h : Target) (g : PlainMerged) → CanProgram h g → Performs h g (program_of h g)

-- phase after phase, they are one part for each pass
abbrev pub PartsInARow : Type 0
PartsInARow =
    (h : Target) (g : PlainMerged) (code : Code) (q : ℕ) → IsByPhase h g code q →
    IsListed h g (flat_map (λ phase. acts code phase q) (range_with_len 0 (length g.phases)))
