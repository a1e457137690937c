-- Passes: loops that gather, compute and scatter, into which the permutations and diagonals beside them have gone.
use Rattle.std.specs.Prelude.{ℕ, ◌*◌, List, [], ◌∷◌, ◌++◌, map, Option, Some, None}
use Rattle.index_fn.specs.Mapping.{Mapping, at}
pub use Rattle.sigma_spl.specs.Loops.{through}
use Rattle.sigma_spl.specs.Work.{PlainWork, work_size}
use Rattle.sigma_lower.specs.TreeTerms.Wrapped.{inner_of}
use Rattle.sigma_lower.specs.TreeTerms.Term.{PlainTerm, gath, scat, diag, nest, lowered_of}
use Rattle.smp_rewrite.specs.Layout.Tree.{Layout}
use Rattle.operators.specs.declared.target.Target.{Target}
use Rattle.operators.specs.Paths.Tensors.{Path, place}

-- the diagonal of a ct with its root, taken at what these functions make of a place of the pass
pub record PlainDiagonal : Type 0 where
  pub path : Path
  pub rows : ℕ
  pub cols : ℕ
  pub root : ℕ
  pub places : List Mapping

-- a loop over the copies of a kernel, a leaf or a tile, with the functions that make the places of its loads and stores
pub record PlainPass : Type 0 where
  pub path : Path
  pub work : PlainWork
  pub befores : List Mapping
  pub diagonal : Option PlainDiagonal
  pub afters : List Mapping

-- ---- merging

-- the gathers that wait for the next pass, the latest first, and the passes so far
pub record Merging : Type 0 where
  pub waiting : List Mapping
  pub passes : List PlainPass

abbrev pub new_pass : Path → PlainWork → List Mapping → PlainPass
new_pass path w waiting = record { path = path; work = w; befores = waiting; diagonal = None; afters = [] }

abbrev pub scattered : Mapping → PlainPass → PlainPass
scattered f p = record {
  path = p.path;
  work = p.work;
  befores = p.befores;
  diagonal = p.diagonal;
  afters = p.afters ++ f ∷ [];
}

abbrev pub multiplied : Path → ℕ → ℕ → ℕ → PlainPass → PlainPass
multiplied path r s w p =
    record {
      path = p.path;
      work = p.work;
      befores = p.befores;
      diagonal = Some (record { path = path; rows = r; cols = s; root = w; places = p.afters });
      afters = p.afters;
    }

-- the last pass changed
abbrev pub at_last : (PlainPass → PlainPass) → List PlainPass → List PlainPass
at_last f [] = []
at_last f (p ∷ []) = f p ∷ []
at_last f (p ∷ q ∷ ps) = p ∷ at_last f (q ∷ ps)

-- A gather waits for the next pass, and a scatter or a diagonal goes into the pass before it.
abbrev pub merge_term : Merging → PlainTerm → Merging
merge_term st (gath f) = record { waiting = f ∷ st.waiting; passes = st.passes }
merge_term st (scat f) = record { waiting = st.waiting; passes = at_last (scattered f) st.passes }
merge_term st (diag path r s w) = record { waiting = st.waiting; passes = at_last (multiplied path r s w) st.passes }
merge_term st (nest path w) = record { waiting = []; passes = st.passes ++ new_pass path w st.waiting ∷ [] }

abbrev pub merged : Merging → List PlainTerm → Merging
merged st [] = st
merged st (t ∷ ts) = merged (merge_term st t) ts

-- the passes of a phase, and those of each phase of a layout
abbrev pub passes_of_terms : List PlainTerm → List PlainPass
passes_of_terms ts = (merged (record { waiting = []; passes = [] }) ts).passes

abbrev pub merged_phases : Target → Layout → List (List PlainPass)
merged_phases h l = map passes_of_terms (lowered_of h l)

-- lists one after another
abbrev pub in_order : {A : Type 0} → List (List A) → List A
in_order [] = []
in_order (ps ∷ more) = ps ++ in_order more

abbrev pub merged_of : Target → Layout → List PlainPass
merged_of h l = in_order (merged_phases h l)

-- ---- places

-- the places that a pass loads from and stores to
abbrev pub gather_place : PlainPass → List ℕ → ℕ → ℕ
gather_place p vs k = through p.befores (place p.path (work_size p.work) vs k)

abbrev pub scatter_place : PlainPass → List ℕ → ℕ → ℕ
scatter_place p vs k = through p.afters (place p.path (work_size p.work) vs k)

-- the place of the item k in the diagonal
abbrev pub diagonal_place : PlainPass → PlainDiagonal → List ℕ → ℕ → ℕ
diagonal_place p d vs k =
    at (inner_of d.path (d.rows * d.cols)) (through d.places (place p.path (work_size p.work) vs k))
