-- The tables of a program.
use Rattle.std.specs.Prelude.{ℕ, ◌*◌, nat_eq, if◌then◌else◌, List, [], ◌∷◌, ◌++◌}
use Rattle.std.specs.Cmp.Lexicographic.{pointwise}
use Rattle.std.specs.List.{list_any, position_or_len}
use Rattle.matrix_meaning.specs.Laws.{twiddle}
use Rattle.operators.specs.Sum.{list_below}
use Rattle.ring_mod.specs.Residue.{power_mod}
use Rattle.generate.specs.Emission.Passes.{Diagonal, Factors, Pass, Work, entries, rows, twiddles, values}

abbrev pub powers_of : ℕ → ℕ → ℕ → List ℕ
powers_of m root size = list_below size (power_mod m root)

abbrev pub table_of : ℕ → Diagonal → List ℕ
table_of m (values table) = table
table_of m (twiddles r s root) = list_below (r * s) (twiddle m s root)

abbrev pub powers_in : ℕ → Work → List (List ℕ)
powers_in m (rows root size) = powers_of m root size ∷ []
powers_in m w = []

abbrev pub entries_in : ℕ → Factors → List (List ℕ)
entries_in m (entries diagonal place) = table_of m diagonal ∷ []
entries_in m factors = []

-- those of a pass: its powers before its diagonal
abbrev pub tables_in : ℕ → Pass → List (List ℕ)
tables_in m p = powers_in m p.work ++ entries_in m p.site.factors

-- a table stands once among those of the program, and its number is its place there
abbrev pub added : List (List ℕ) → List ℕ → List (List ℕ)
added tables new = if list_any (λ table. pointwise nat_eq table new) tables then tables else tables ++ new ∷ []

abbrev pub number_of : List (List ℕ) → List ℕ → ℕ
number_of tables one = position_or_len (λ table. pointwise nat_eq table one) tables
