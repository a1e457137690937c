-- Lists of formulas.
use Rattle.std.proofs.Common.{◌≡◌, ◌+◌, List, [], ◌∷◌, ◌++◌, ◌∙◌, sym, arith, ap, append-nil, length}
use Rattle.std.specs.List.{flat_map}
use Rattle.std.proofs.lemmas.Grind.{flat_map-append}
use Rattle.spl_ast.specs.Formula.{Formula, size_of}
use Rattle.spl_ast.specs.Halves.Rows.{rows_of}
use Rattle.spl_ast.specs.Halves.Summands.{summands}

-- one formula more
pub rows_more : (fs : List Formula) (f : Formula) → rows_of (fs ++ f ∷ []) ≡ rows_of fs + size_of f
rows_more [] f = omega arith
rows_more (e ∷ fs) f = omega (arith, rows_more fs f)

pub summands_more : (fs : List Formula) (f : Formula) → flat_map summands (fs ++ f ∷ []) ≡ flat_map summands fs
    ++ summands f
summands_more fs f = flat_map-append summands fs (f ∷ []) ∙ ap (λ gs. flat_map summands fs ++ gs) (append-nil (summands f))

-- nothing is left of the summands of f
pub all_taken : (made rest : List Formula) (f g : Formula) → length rest ≡ 0 → flat_map summands made ≡ summands f →
    flat_map summands made ≡ flat_map summands rest ++ summands g → summands g ≡ summands f
all_taken made [] f g none first second = sym second ∙ first
all_taken made (e ∷ rest) f g none first second = absurd (omega (arith, none))
