-- The factors of a formula for processors have rows.
use Rattle.std.proofs.Common.{◌≡◌, ℕ, ◌*◌, ◌<◌, arith, sym, subst, List, [], ◌∷◌, ◌++◌, mul_comm}
use Rattle.std.specs.Prelude.{All, map}
use Rattle.std.proofs.lemmas.List.Elements.{All-nil, All-cons, All-head, All-tail}
use Rattle.operators.proofs.Lists.{factor_positive}
use Rattle.smp_rewrite.specs.declared.Factor.{Factor}
use Rattle.smp_rewrite.specs.Laws.{HasShape, IsShaped}
use Rattle.smp_rewrite.specs.Smp.{PlainFactor, blocks, diagonals, move_before, move_after, PlainSmp}
use Rattle.smp_rewrite.specs.Views.{plain_factor, plain_smp}
use Rattle.smp_rewrite.specs.declared.SmpSpl.{SmpSpl}
use Rattle.smp_rewrite.proofs.TreeLaws.{smp_shaped}
use Rattle.operators.specs.declared.paths.Tensor.TheVariants.{Blocks, Columns}
use Rattle.operators.specs.declared.target.Target.{Target}
use Rattle.operators.specs.Paths.Tensors.{Path, size_under}
use Rattle.smp_rewrite.specs.Laws.{IsSmpOf}
use Rattle.vec_rewrite.specs.Laws.{HasRowsUnder, HasRows}

rows-under : (n p k : ℕ) (path : Path) → 0 < n → p * size_under path k ≡ n → HasRowsUnder path
rows-under n p k [] positive e = tt
rows-under n p k (Blocks r ∷ path) positive e =
    let m = size_under path k in
    let inner : 0 < r * m = factor_positive p (r * m) 0 (omega (arith, positive, e)) in
    let turned : 0 < m * r = subst (λ x. 0 < x) (mul_comm r m) inner in
    factor_positive m r 0 turned
rows-under n p k (Columns s ∷ path) positive e = tt

has-rows : (n p line : ℕ) (f : PlainFactor) → 0 < n → HasShape n p line f → HasRows f
has-rows n p line (blocks s) positive h = rows-under n p _ s.path positive h
has-rows n p line (diagonals s) positive h = tt
has-rows n p line (move_before s) positive h = tt
has-rows n p line (move_after s) positive h = tt

all-rows : (n p line : ℕ) (fs : List Factor) → 0 < n → All (HasShape n p line) (map plain_factor fs) →
    All (λ f. HasRows (plain_factor f)) fs
all-rows n p line [] positive h = All-nil (λ f. HasRows (plain_factor f))
all-rows n p line (f ∷ fs) positive h =
    All-cons (λ f. HasRows (plain_factor f)) f fs (has-rows n p line (plain_factor f) positive (All-head (HasShape n p line) (plain_factor f) (map plain_factor fs) h))
    (all-rows n p line fs positive (All-tail (HasShape n p line) (plain_factor f) (map plain_factor fs) h))

pub front : (P : PlainFactor → Type 0) (fs gs : List PlainFactor) → All P (fs ++ gs) → All P fs
front P [] gs h = All-nil P
front P (f ∷ fs) gs h = All-cons P f fs (All-head P f (fs ++ gs) h) (front P fs gs (All-tail P f (fs ++ gs) h))

pub back : (P : PlainFactor → Type 0) (fs gs : List PlainFactor) → All P (fs ++ gs) → All P gs
back P [] gs h = h
back P (f ∷ fs) gs h = back P fs gs (All-tail P f (fs ++ gs) h)

shaped : (h : Target) (f : PlainSmp) → IsSmpOf h f → IsShaped f
shaped h f k = subst IsShaped (sym k.form) (smp_shaped h k.whole k.shares)

some-words : (h : Target) (f : PlainSmp) → IsSmpOf h f → 0 < f.target.size
some-words h f k = subst (λ g. 0 < g.target.size) (sym k.form) (omega (arith, k.shares.some))

pub first_rows : (h : Target) (f : SmpSpl) → IsSmpOf h (plain_smp f) → All (λ g. HasRows (plain_factor g)) f.first.items
first_rows h f k =
    all-rows f.target.size f.target.procs f.target.line f.first.items (some-words h (plain_smp f) k)
    (front (HasShape f.target.size f.target.procs f.target.line) (plain_smp f).first (plain_smp f).second
    (shaped h (plain_smp f) k).0)

pub second_rows : (h : Target) (f : SmpSpl) → IsSmpOf h (plain_smp f) →
    All (λ g. HasRows (plain_factor g)) f.second.items
second_rows h f k =
    all-rows f.target.size f.target.procs f.target.line f.second.items (some-words h (plain_smp f) k)
    (back (HasShape f.target.size f.target.procs f.target.line) (plain_smp f).first (plain_smp f).second
    (shaped h (plain_smp f) k).0)

pub some_procs : (h : Target) (f : SmpSpl) → IsSmpOf h (plain_smp f) → 0 < f.target.procs
some_procs h f k = subst (λ g. 0 < g.target.procs) (sym k.form) (omega (arith, k.shares.procs))

pub some_lanes : (h : Target) (f : SmpSpl) → IsSmpOf h (plain_smp f) → 0 < f.target.lanes
some_lanes h f k = subst (λ g. 0 < g.target.lanes) (sym k.form) (omega (arith, k.shares.lanes))
