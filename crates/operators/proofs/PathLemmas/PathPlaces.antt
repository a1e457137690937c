-- Where a matrix under tensors reads and stores: its place equation.
use Rattle.std.proofs.Common.{◌≡◌, ℕ, ◌<◌, sym, ap, ◌∙◌, List, [], ◌∷◌}
use Rattle.std.specs.Prelude.{slice_index}
use Rattle.operators.specs.Operator.{Operator, column, block}
use Rattle.operators.proofs.Lists.{at-list_below, list_below-same, place_below, at-on_columns, at-on_blocks}
use Rattle.operators.specs.declared.paths.Tensor.TheVariants.{Blocks, Columns}
use Rattle.operators.specs.Paths.Tensors.{Path, size_under, under, place, AreInRange, local, Reads}

pub place-below : (path : Path) (n : ℕ) (vs : List ℕ) (k : ℕ) → AreInRange path vs → k < n →
    place path n vs k < size_under path n
place-below [] n [] k h below = below
place-below [] n (v ∷ vs) k h below = absurd h
place-below (t ∷ path) n [] k h below = absurd h
place-below (Blocks c ∷ path) n (v ∷ vs) k h below = place_below v (place path n vs k) c (size_under path n) h.0 (place-below path n vs k h.1 below)
place-below (Columns c ∷ path) n (v ∷ vs) k h below = place_below (place path n vs k) v (size_under path n) c (place-below path n vs k h.1 below) h.0

-- the place equation of a matrix under tensors
pub at-under : (path : Path) (n : ℕ) (a : Operator) (x vs : List ℕ) (k : ℕ) → Reads n a → AreInRange path vs → k < n →
    slice_index (under path n a x) (place path n vs k) ≡ slice_index (a (local path n vs x)) k
at-under [] n a x [] k reads h below = ap (λ y. slice_index y k) (sym (reads x))
at-under [] n a x (v ∷ vs) k reads h below = absurd h
at-under (t ∷ path) n a x [] k reads h below = absurd h
at-under (Blocks c ∷ path) n a x (v ∷ vs) k reads h below =
    at-on_blocks c (size_under path n) (under path n a) x v (place path n vs k) h.0 (place-below path n vs k h.1 below)
    ∙ at-under path n a (block (size_under path n) v x) vs k reads h.1 below
    ∙ ap (λ y. slice_index (a y) k) (list_below-same n _ _ (λ j within. at-list_below (size_under path n) _ (place path n vs j) (place-below path n vs j h.1 within)))
at-under (Columns c ∷ path) n a x (v ∷ vs) k reads h below =
    at-on_columns (size_under path n) c (under path n a) x (place path n vs k) v (place-below path n vs k h.1 below) h.0
    ∙ at-under path n a (column (size_under path n) c v x) vs k reads h.1 below
    ∙ ap (λ y. slice_index (a y) k) (list_below-same n _ _ (λ j within. at-list_below (size_under path n) _ (place path n vs j) (place-below path n vs j h.1 within)))
