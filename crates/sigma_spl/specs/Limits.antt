-- Places of merged passes within the limits.
use Rattle.std.specs.Prelude.{◌≡◌, ℕ, ◌^◌, ◌<◌, ◌≤◌, true, List, [], ◌∷◌}
use Rattle.sigma_spl.specs.Good.{IsGoodTerm}
use Rattle.sigma_spl.specs.Merge.{is_within, passes_of}
use Rattle.sigma_spl.specs.Nest.{PlainNest}
use Rattle.sigma_spl.specs.Term.{PlainTerm, nest, move, product, beside}
use Rattle.sigma_spl.specs.Work.{PlainWork, rows, horner}
use Rattle.operators.specs.Paths.Tensors.{Path, count_of}

-- each tensor has several copies
abbrev pub AreSeveral : Path → Type 0
AreSeveral [] = Unit {0}
AreSeveral (t ∷ path) = (2 ≤ count_of t) × AreSeveral path

-- work by rows has several
abbrev pub HasRows : PlainWork → Type 0
HasRows (rows root size) = 2 ≤ size
HasRows (horner root size) = 2 ≤ size
HasRows w = Unit {0}

abbrev pub HasSeveral : PlainTerm → Type 0
HasSeveral (nest path w) = AreSeveral path × HasRows w
HasSeveral (move path ks) = AreSeveral path
HasSeveral (product a b) = HasSeveral a × HasSeveral b
HasSeveral (beside path k a l b) = AreSeveral path × HasSeveral a × HasSeveral b
HasSeveral t = Unit {0}

abbrev pub AreWithin : ℕ → ℕ → List (List PlainNest) → Type 0
AreWithin room n [] = Unit {0}
AreWithin room n (zs ∷ ps) = (is_within room n zs ≡ true) × AreWithin room n ps

-- the passes of a term, each of whose tensors has several copies, have places within the limits
abbrev pub MergeLimits : Type 0
MergeLimits =
    (lanes n : ℕ) (t : PlainTerm) → 0 < n → n ≤ 2 ^ 20 → IsGoodTerm lanes n t → HasSeveral t →
    AreWithin 64 n (passes_of n t)
