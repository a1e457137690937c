-- Terms: products of permutations, diagonals, loops over copies, and direct sums, on lists of n items.
use Rattle.std.specs.Prelude.{ℕ, ◌+◌, List, [], ◌∷◌, length, map, slice_index}
use Rattle.index_fn.specs.Mapping.{Mapping, at}
use Rattle.operators.specs.Operator.{Operator, gather, scale}
use Rattle.operators.specs.Sum.{list_below}
use Rattle.sigma_spl.specs.Copies.{Copies, pass_on, both}
pub use Rattle.sigma_spl.specs.Nest.{inner_of}
use Rattle.sigma_spl.specs.Nest.{PlainFactors, factor_count, factor_at}
use Rattle.sigma_spl.specs.Work.{PlainWork, work_size, work_on}
use Rattle.operators.specs.Paths.Tensors.{Path, count_of, place, under}

pub data PlainTerm : Type 0 where
  -- the identity
  same : PlainTerm
  -- takes the item f i to each place i
  gath : (f : Mapping) → PlainTerm
  -- takes each item i to the place f i
  scat : (f : Mapping) → PlainTerm
  -- a diagonal under the tensors of a path
  diag : (path : Path) (factors : PlainFactors) → PlainTerm
  -- copies of some work under the tensors of a path
  nest : (path : Path) (work : PlainWork) → PlainTerm
  -- copies that take their items from these places of the copy
  move : (path : Path) (places : List ℕ) → PlainTerm
  -- one after the other: a is applied first
  product : (a b : PlainTerm) → PlainTerm
  -- two terms side by side, on n and on k items, under the tensors of a path
  beside : (path : Path) (n : ℕ) (a : PlainTerm) (k : ℕ) (b : PlainTerm) → PlainTerm

-- copies that load and store where their tensors put them
abbrev pub natural : ℕ → Path → PlainWork → Copies
natural m path w = record {
  counts = map count_of path;
  size = work_size w;
  from = place path (work_size w);
  does = λ vs. work_on m w;
  to = place path (work_size w);
}

abbrev pub moving : Path → List ℕ → Copies
moving path ks = record {
  counts = map count_of path;
  size = length ks;
  from = λ vs k. place path (length ks) vs (slice_index ks k);
  does = λ vs y. list_below (length ks) (slice_index y);
  to = place path (length ks);
}

-- what a term does to a list of n items, modulo m
abbrev pub term_on : ℕ → ℕ → PlainTerm → Operator
term_on m n same x = x
term_on m n (gath f) x = gather n (at f) x
term_on m n (scat f) x =
    pass_on m n (record { counts = []; size = n; from = λ vs k. k; does = λ vs y. y; to = λ vs k. at f k } ∷ []) x
term_on m n (diag path factors) x = scale m n (λ w. factor_at m factors (at (inner_of path (factor_count factors)) w)) x
term_on m n (nest path w) x = pass_on m n (natural m path w ∷ []) x
term_on m n (move path ks) x = pass_on m n (moving path ks ∷ []) x
term_on m n (product a b) x = term_on m n b (term_on m n a x)
term_on m n (beside path k a l b) x = under path (k + l) (both k l (term_on m k a) (term_on m l b)) x
