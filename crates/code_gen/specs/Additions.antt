-- The tables of a program: a diagonal's entries, and what is added to the tables that are there.
use Rattle.std.specs.Prelude.{◌≡◌, ℕ, List, length, map, slice_index, Option, Vec}
use Rattle.std.specs.Option.{option_map}
use Rattle.std.proofs.Common.{Global}
use Rattle.index_fn.specs.Mapping.{at}
use Rattle.operators.specs.Sum.{list_below}
use Rattle.code_gen.specs.PassCode.Program.{tables_of_phases, tables_through}
use Rattle.code_gen.specs.PassCode.Statements.{diagonal_of, one_factor, tables_after, tables_of_multiplier}
use Rattle.code_gen.specs.PassCode.Statements.{tables_of_nest, tables_of_work, with_diagonal, with_table}
use Rattle.sigma_spl.specs.Nest.{inner_of}
use Rattle.sigma_spl.specs.Views.{plain_factors, plain_multiplier, plain_nest, plain_work}
use Rattle.sigma_spl.specs.declared.nest.Factors.{Factors}
use Rattle.sigma_spl.specs.declared.nest.Multiplier.{Multiplier}
use Rattle.sigma_spl.specs.declared.nest.Nest.{Nest}
use Rattle.sigma_spl.specs.declared.work.Work.{Work}
use Rattle.code_gen.specs.Views.{plain_passes, plain_phases, tables_in}
use Rattle.code_gen.specs.declared.host.Host.{Host}
use Rattle.operators.specs.Paths.Tensors.{Path, size_under}

-- the entries of all copies of a diagonal under the tensors of a path
abbrev pub entries_under : Path → List ℕ → List ℕ
entries_under path entries =
    let size = length entries in
    list_below (size_under path size) (λ i. slice_index entries (at (inner_of path size) i))

-- the tables of a program
abbrev pub Tables : Type 0
Tables = Vec (Vec ℕ Global) Global

-- the new tables are the old ones, and this one where it is new
abbrev pub AddsTable : List ℕ → Tables → Tables → Type 0
AddsTable entries old new = tables_in new ≡ with_table (tables_in old) entries

-- the new tables are the old ones, and the powers that the work uses where they are new
abbrev pub AddsPowers : ℕ → Work → Tables → Tables → Type 0
AddsPowers modulus work old new =
    tables_in new ≡ tables_of_work modulus (plain_work work) (tables_in old)

-- the new tables are the old ones, and the diagonal where it is new and does not repeat one factor
abbrev pub AddsDiagonal : ℕ → Factors → Tables → Tables → Type 0
AddsDiagonal modulus factors old new =
    let d = plain_factors factors in
    tables_in new ≡ with_diagonal (one_factor d) (tables_in old) (diagonal_of modulus d)

-- the same for the diagonal of a multiplier, where there is one
abbrev pub AddsMultiplier : ℕ → Option Multiplier → Tables → Tables → Type 0
AddsMultiplier modulus multiplier old new =
    let d = option_map plain_multiplier multiplier in
    tables_in new ≡ tables_of_multiplier modulus d (tables_in old)

-- the new tables are the old ones, and those new ones that the nest uses
abbrev pub AddsTablesOfNest : Host → Nest → Tables → Tables → Type 0
AddsTablesOfNest host nest old new =
    tables_in new ≡ tables_of_nest host.modulus (plain_nest nest) (tables_in old)

-- the same for all nests of a pass, of passes in a row, and of phases
abbrev pub AddsTablesOfPass : Host → List Nest → Tables → Tables → Type 0
AddsTablesOfPass host nests old new =
    tables_in new ≡ tables_after host.modulus (map plain_nest nests) (tables_in old)

abbrev pub AddsTablesOfPasses : Host → List (Vec Nest Global) → Tables → Tables → Type 0
AddsTablesOfPasses host passes old new =
    tables_in new ≡ tables_through host.modulus (plain_passes passes) (tables_in old)

abbrev pub AddsTablesOfPhases : Host → List (Vec (Vec Nest Global) Global) → Tables → Tables →
    Type 0
AddsTablesOfPhases host phases old new =
    tables_in new ≡ tables_of_phases host.modulus (plain_phases phases) (tables_in old)
