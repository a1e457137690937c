-- When some tree is admitted, of one size and of several dimensions.
use Rattle.std.proofs.Common.{◌≡◌, ◌≢◌, ◌≤◌, refl, sym, ◌∙◌, subst}
use Rattle.matrix_meaning.specs.declared.Dimensions.{Dimensions}
use Rattle.matrix_meaning.specs.declared.Dimensions.TheVariants.{One, Two, Three, Four}
use Rattle.matrix_meaning.specs.declared.Request.{Request}
use Rattle.matrix_meaning.specs.Parts.{first_of, rest_of}
use Rattle.matrix_meaning.specs.Valid.{IsInRange}
use Rattle.matrix_meaning.proofs.Parts.{first_at_least_two, rest_at_least_two}
use Rattle.tree_model.specs.Admissible.{CanDivide}
use Rattle.tree_model.specs.Chosen.{CanDivideBy, CanDivideWhole, SharesDimensions}

pub whole_of_divide : (c : Request) → c.dimensions ≡ One → CanDivide c → CanDivideWhole c
whole_of_divide c one h = subst (λ ds. CanDivideBy c ds) (sym one) h

pub divide_of_whole : (c : Request) → c.dimensions ≡ One → CanDivideWhole c → CanDivide c
divide_of_whole c one h = subst (λ ds. CanDivideBy c ds) one h

whole_by : (c : Request) (ds : Dimensions) → ds ≢ One → SharesDimensions c → CanDivideBy c ds
whole_by c One some h = absurd (some refl)
whole_by c (Two a b) some h = h
whole_by c (Three a b d) some h = h
whole_by c (Four a b d e) some h = h

shares_by : (c : Request) (ds : Dimensions) → ds ≢ One → CanDivideBy c ds → SharesDimensions c
shares_by c One some h = absurd (some refl)
shares_by c (Two a b) some h = h
shares_by c (Three a b d) some h = h
shares_by c (Four a b d e) some h = h

pub whole_of_shares : (c : Request) → c.dimensions ≢ One → SharesDimensions c → CanDivideWhole c
whole_of_shares c some h = whole_by c c.dimensions some h

pub shares_of_whole : (c : Request) → c.dimensions ≢ One → CanDivideWhole c → SharesDimensions c
shares_of_whole c some h = shares_by c c.dimensions some h

-- the parts have two places at least
pub first_two : (c first made : Request) → made ≡ first → first ≡ first_of c → IsInRange c → c.dimensions ≢ One →
    2 ≤ made.size
first_two c first made is is_first range some =
    subst (λ (p : Request). 2 ≤ p.size) (sym (is ∙ is_first)) (first_at_least_two c range some)

pub rest_two : (c others made : Request) → made ≡ others → others ≡ rest_of c → IsInRange c → c.dimensions ≢ One →
    2 ≤ made.size
rest_two c others made is is_rest range some =
    subst (λ (p : Request). 2 ≤ p.size) (sym (is ∙ is_rest)) (rest_at_least_two c range some)
