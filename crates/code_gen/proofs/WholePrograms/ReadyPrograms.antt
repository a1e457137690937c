-- A program can be made of passes that are ready.
use Rattle.std.proofs.Common.{◌≡◌, ℕ, ◌+◌, ◌≤◌, arith, List, [], ◌∷◌, ◌++◌, length, Option, Some, None, ◌<◌, map, ◌&&◌}
use Rattle.std.proofs.Common.{nat_lt, refl, Contains, IsTrue}
use Rattle.std.proofs.lemmas.List.Elements.{All-weaker, All-contains}
use Rattle.std.specs.List.{list_all, range_with_len}
use Rattle.std.proofs.lemmas.Bool.{and_from, lt-ltb}
use Rattle.operators.specs.declared.target.Target.{Target}
use Rattle.sigma_spl.proofs.Tables.{tables-append}
use Rattle.sigma_spl.specs.Merged.{PlainMerged}
use Rattle.sigma_spl.specs.Nest.{PlainMultiplier, PlainNest, factor_at, factor_count}
use Rattle.sigma_spl.specs.Shared.Owners.{all_passes}
use Rattle.sigma_spl.specs.Shared.Ready.{IsReady, IsReadyPass, diagonal_tables, nests_tables, passes_tables}
use Rattle.sigma_spl.specs.Shared.Ready.{work_tables}
use Rattle.sigma_spl.specs.Work.{PlainWork, rows, horner}
use Rattle.code_gen.specs.PassCode.Conditions.{CanWritePass, CanWriteNest}
use Rattle.code_gen.specs.PassCode.Contract.{CanProgram}
use Rattle.code_gen.specs.PassCode.Program.{tables_of_phases, tables_through}
use Rattle.code_gen.specs.PassCode.Statements.{diagonal_of, one_factor, powers_of, tables_after, tables_of_multiplier}
use Rattle.code_gen.specs.PassCode.Statements.{tables_of_nest, tables_of_work, with_diagonal, with_table, is_table}
use Rattle.sigma_spl.proofs.Walk.{and-left, and-right, chosen}
use Rattle.icode.proofs.Lines.{Contains-head, Contains-tail}
use Rattle.icode.specs.Limits.{are_tables_within}
use Rattle.operators.specs.Sum.{list_below}
use Rattle.operators.proofs.Lists.{length-list_below}
use Rattle.sigma_spl.specs.Shared.Running.{CanRunNest, CanWork}
use Rattle.ring_mod.specs.Residue.{power_mod}
use Rattle.matrix_meaning.proofs.Requests.{power_below}
use Rattle.code_gen.proofs.PassCode.ReadyNests.{ready_can_write}
use Rattle.code_gen.proofs.PassCode.SharedTables.{with_table-length}
use Rattle.code_gen.proofs.PassActions.Copies.{nest-can}
use Rattle.code_gen.proofs.WholePrograms.Processor.{Pass, AllKnown, PhasesKnown}

-- ---- the tables of passes: powers and diagonals

work-grown : (m : ℕ) (w : PlainWork) (tables : List (List ℕ)) →
    length (tables_of_work m w tables) ≤ length tables + work_tables w
work-grown m (rows root size) tables = let more = with_table-length tables (powers_of m root size) in omega (arith, more)
work-grown m (horner root size) tables = let more = with_table-length tables (powers_of m root size) in omega (arith, more)
work-grown m _ tables = omega arith

diagonal-grown : (o : Option ℕ) (tables : List (List ℕ)) (entries : List ℕ) →
    length (with_diagonal o tables entries) ≤ length tables + 1
diagonal-grown None tables entries = let more = with_table-length tables entries in omega (arith, more)
diagonal-grown (Some value) tables entries = omega arith

multiplier-grown : (m : ℕ) (o : Option PlainMultiplier) (tables : List (List ℕ)) →
    length (tables_of_multiplier m o tables) ≤ length tables + diagonal_tables o
multiplier-grown m None tables = omega arith
multiplier-grown m (Some d) tables = diagonal-grown (one_factor d.factors) tables (diagonal_of m d.factors)

pass-grown : (m : ℕ) (zs : List PlainNest) (tables : List (List ℕ)) →
    length (tables_after m zs tables) ≤ length tables + nests_tables zs
pass-grown m [] tables = omega arith
pass-grown m (z ∷ zs) tables =
    let first = work-grown m z.work tables in
    let second = multiplier-grown m z.multiplier (tables_of_work m z.work tables) in
    let rest = pass-grown m zs (tables_of_nest m z tables) in
    omega (arith, first, second, rest)

passes-grown : (m : ℕ) (ps : List (List PlainNest)) (tables : List (List ℕ)) →
    length (tables_through m ps tables) ≤ length tables + passes_tables ps
passes-grown m [] tables = omega arith
passes-grown m (zs ∷ ps) tables =
    let first = pass-grown m zs tables in
    let rest = passes-grown m ps (tables_after m zs tables) in
    omega (arith, first, rest)

phases-grown : (m : ℕ) (pss : List (List (List PlainNest))) (tables : List (List ℕ)) →
    length (tables_of_phases m pss tables) ≤ length tables + passes_tables (all_passes pss)
phases-grown m [] tables = omega arith
phases-grown m (ps ∷ more) tables =
    let first = passes-grown m ps tables in
    let rest = phases-grown m more (tables_through m ps tables) in
    let all = tables-append ps (all_passes more) in
    omega (arith, first, rest, all)

-- ---- programs

pub ready_can_program : (h : Target) (g : PlainMerged) → IsReady h g → CanProgram h g
ready_can_program h g ready =
    record {
      host = ready.host;
      size = ready.size;
      procs = ready.procs;
      lanes = ready.lanes;
      passes = All-weaker (IsReadyPass h) (CanWritePass h) (ready_can_write h ready.host) (all_passes g.phases) ready.passes;
      some = ready.some;
      each_some = ready.each_some;
      few = ready.few;
      tables = let grown = phases-grown h.modulus g.phases [] in let few = ready.tables in omega (arith, grown, few);
      shared = ready.shared;
    }

-- ---- the tables of passes are within the limits: each has an entry, and its entries are residues

module _ (m : ℕ) (some : 0 < m) where
  mapped-below : (f : ℕ → ℕ) → ((k : ℕ) → f k < m) → (xs : List ℕ) → IsTrue (list_all (λ c. nat_lt c m) (map f xs))
  mapped-below f low [] = refl
  mapped-below f low (x ∷ xs) = and_from (nat_lt (f x) m) (list_all (λ c. nat_lt c m) (map f xs)) (lt-ltb (f x) m (low x)) (mapped-below f low xs)

  -- a table by itself
  abbrev IsTableWithin : List ℕ → Type 0
  IsTableWithin entries = IsTrue (nat_lt 0 (length entries) && list_all (λ c. nat_lt c m) entries)

  list-within : (n : ℕ) (f : ℕ → ℕ) → 0 < n → ((k : ℕ) → f k < m) → IsTableWithin (list_below n f)
  list-within n f full low =
      and_from (nat_lt 0 (length (list_below n f))) (list_all (λ c. nat_lt c m) (list_below n f))
      (lt-ltb 0 (length (list_below n f)) (let long = length-list_below n f in omega arith)) (mapped-below f low (range_with_len 0 n))

  with_table-within : (tables : List (List ℕ)) (entries : List ℕ) → IsTrue (are_tables_within m tables) →
      IsTableWithin entries → IsTrue (are_tables_within m (with_table tables entries))
  with_table-within [] entries h one = and_from _ _ one refl
  with_table-within (table ∷ tables) entries h one =
      chosen (λ us. IsTrue (are_tables_within m us)) (is_table table entries) (table ∷ tables)
      (table ∷ with_table tables entries) (λ same. h)
      (and_from _ (are_tables_within m (with_table tables entries)) (and-left _ (are_tables_within m tables) h)
      (with_table-within tables entries (and-right (nat_lt 0 (length table) && list_all (λ c. nat_lt c m) table) _ h) one))

module _ (c : Target) (residues : 0 < c.modulus) where
  abbrev AreWithin : List (List ℕ) → Type 0
  AreWithin tables = IsTrue (are_tables_within c.modulus tables)

  powers-within : (root n : ℕ) (tables : List (List ℕ)) → 0 < n → AreWithin tables →
      AreWithin (with_table tables (powers_of c.modulus root n))
  powers-within root n tables some h = with_table-within c.modulus residues tables (powers_of c.modulus root n) h (list-within c.modulus residues n (power_mod c.modulus root) some (λ k. power_below c.modulus root k residues))

  work-within : (w : PlainWork) (tables : List (List ℕ)) → CanWork c w → AreWithin tables →
      AreWithin (tables_of_work c.modulus w tables)
  work-within (rows root n) tables can h = powers-within root n tables can.0 h
  work-within (horner root n) tables can h = powers-within root n tables can h
  work-within _ tables can h = h

  diagonal-within : (o : Option ℕ) (tables : List (List ℕ)) (entries : List ℕ) →
      IsTableWithin c.modulus residues entries → AreWithin tables → AreWithin (with_diagonal o tables entries)
  diagonal-within None tables entries one h = with_table-within c.modulus residues tables entries h one
  diagonal-within (Some value) tables entries one h = h

  multiplier-within : (o : Option PlainMultiplier) (tables : List (List ℕ)) →
      ((d : PlainMultiplier) → o ≡ Some d → 0 < factor_count d.factors) →
      ((d : PlainMultiplier) → o ≡ Some d → (i : ℕ) → factor_at c.modulus d.factors i < c.modulus) →
      AreWithin tables → AreWithin (tables_of_multiplier c.modulus o tables)
  multiplier-within None tables some small h = h
  multiplier-within (Some d) tables some small h =
      diagonal-within (one_factor d.factors) tables (diagonal_of c.modulus d.factors) (list-within c.modulus residues (factor_count d.factors) (factor_at c.modulus d.factors) (some d refl) (small d refl)) h

  nest-within : (z : PlainNest) (tables : List (List ℕ)) → CanRunNest c z → CanWriteNest c z → AreWithin tables →
      AreWithin (tables_of_nest c.modulus z tables)
  nest-within z tables can writes h = multiplier-within z.multiplier (tables_of_work c.modulus z.work tables) (λ d is. (writes.multiplier d is).2) can.residues (work-within z.work tables can.work h)

  nests-within : (zs : List PlainNest) (tables : List (List ℕ)) →
      ((z : PlainNest) → Contains zs z → CanRunNest c z × CanWriteNest c z) → AreWithin tables →
      AreWithin (tables_after c.modulus zs tables)
  nests-within [] tables can h = h
  nests-within (z ∷ zs) tables can h =
      let first = can z (Contains-head z zs) in nests-within zs (tables_of_nest c.modulus z tables) (λ y one. can y (Contains-tail z zs y one)) (nest-within z tables first.0 first.1 h)

  pub tables-within : (ps : List Pass) (tables : List (List ℕ)) → AllKnown c ps → AreWithin tables →
      AreWithin (tables_through c.modulus ps tables)
  tables-within [] tables known h = h
  tables-within (p ∷ ps) tables known h =
      tables-within ps (tables_after c.modulus p tables) known.1
      (nests-within p tables (λ z one. (nest-can c p known.0.runs z one, All-contains (CanWriteNest c) p z known.0.nests one)) h)

  pub phases-tables-within : (pss : List (List Pass)) (tables : List (List ℕ)) → PhasesKnown c pss → AreWithin tables →
      AreWithin (tables_of_phases c.modulus pss tables)
  phases-tables-within [] tables known h = h
  phases-tables-within (ps ∷ more) tables known h = phases-tables-within more (tables_through c.modulus ps tables) known.1 (tables-within ps tables known.0 h)
