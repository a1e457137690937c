-- A request that is valid, admits a tree and has the budget for its least cost is one for its command.
use Rattle.std.proofs.Common.{◌≡◌, ◌≢◌, ℕ, ◌≤◌, List, [], ◌∷◌, None, Some, Ok, ap, ◌∙◌, refl, sym, subst}
use Rattle.std.specs.Prelude.{All, if◌then◌else◌, map}
use Rattle.std.proofs.lemmas.Bool.{and_from, eq-eqb}
use Rattle.std.proofs.lemmas.List.Elements.{All-head, All-tail}
use Rattle.commands.specs.Convolutions.Convolving.{IsConvRequest}
use Rattle.commands.specs.Convolutions.ConvPlanned.{HasPrincipalRoot, IsConvPlanned, both_halves}
use Rattle.matrix_meaning.specs.Parts.{bad_power_by, first_bad, part_of, parts_in, root_power}
use Rattle.matrix_meaning.specs.Valid.{HasRoot, IsInRange, IsValid}
use Rattle.matrix_meaning.specs.declared.Dimension.{Dimension}
use Rattle.matrix_meaning.specs.declared.Dimensions.{Dimensions}
use Rattle.matrix_meaning.specs.declared.Dimensions.TheVariants.{One, Two, Three, Four}
use Rattle.matrix_meaning.specs.declared.Kind.{Kind}
use Rattle.matrix_meaning.specs.declared.Kind.TheVariants.{Dft, Wht, Idft}
use Rattle.matrix_meaning.specs.declared.Request.{Request}
use Rattle.matrix_meaning.proofs.Requests.{valid_by_powers}
use Rattle.matrix_meaning.proofs.Roots.{HasItsRoot}
use Rattle.plan_search.proofs.WholeChosen.{divides_plain, whole_divides, whole_exists, whole_is_least, whole_least_once}
use Rattle.commands.specs.Planned.{IsPlanned, IsRooted}
use Rattle.commands.proofs.DocumentLemmas.{with_tree}
use Rattle.commands.proofs.Inputs.Nested.{joined, no_unit}
use Rattle.commands.proofs.Inputs.Within.{ordered_map}
use Rattle.commands.specs.Equations.Check.{fitting}
use Rattle.commands.specs.Equations.Convolutions.{conv_chosen, conv_planned, conv_spelt}
use Rattle.commands.specs.Equations.Front.{line, ordered, taken_from}
use Rattle.commands.specs.Equations.Orders.{Planned, chosen, planned, turned}
use Rattle.commands.specs.Input.Asking.{spelt}
use Rattle.commands.specs.Input.Stage.{given, ◌>>=◌}
use Rattle.tree_model.specs.Breakdown.{Breakdown}
use Rattle.tree_model.specs.Chosen.{CanDivideWhole, whole_cost}
use Rattle.spiral_main.specs.Right.{IsWithinBudget, IsWithinConvBudget}

-- ---- the roots of a valid request are right

-- a right power is passed over
first_right : (p : Request) (ps : List Request) → root_power p ≡ 1 → first_bad (p ∷ ps) ≡ first_bad ps
first_right p ps right = ap (λ b. if b then first_bad ps else Some (root_power p)) (eq-eqb (root_power p) 1 right)

parts_right : (r : Request) (ds : List Dimension) → All HasItsRoot (map (part_of r) ds)
    → first_bad (map (part_of r) ds) ≡ None
parts_right r [] h = refl
parts_right r (d ∷ ds) h =
    first_right (part_of r d) (map (part_of r) ds) (All-head HasItsRoot (part_of r d) (map (part_of r) ds) h)
    ∙ parts_right r ds (All-tail HasItsRoot (part_of r d) (map (part_of r) ds) h)

-- of one size the root is its own, unless it is not looked at
one_right : (kind : Kind) (r : Request) → kind ≢ Wht → HasRoot kind r.modulus r.root r.size → root_power r ≡ 1
one_right Dft r other root = root
one_right Wht r other root = absurd (other refl)
one_right Idft r other root = root

none_bad : (r : Request) (ds : Dimensions) → r.kind ≢ Wht → All HasItsRoot (parts_in r ds)
    → first_bad (parts_in r ds) ≡ None
none_bad r One other h = first_right r [] (one_right r.kind r other (All-head HasItsRoot r [] h))
none_bad r (Two a b) other h = parts_right r (a ∷ b ∷ []) h
none_bad r (Three a b c) other h = parts_right r (a ∷ b ∷ c ∷ []) h
none_bad r (Four a b c d) other h = parts_right r (a ∷ b ∷ c ∷ d ∷ []) h

rooted_by : (kind : Kind) (r : Request) → r.kind ≡ kind → IsValid r → bad_power_by kind r ≡ None
rooted_by Dft r is valid = none_bad r r.dimensions (λ wht. let clash : Dft ≡ Wht = sym is ∙ wht in cc) valid.parts
rooted_by Wht r is valid = refl
rooted_by Idft r is valid = none_bad r r.dimensions (λ wht. let clash : Idft ≡ Wht = sym is ∙ wht in cc) valid.parts

rooted : (r : Request) → IsValid r → IsRooted r
rooted r valid = rooted_by r.kind r refl valid

-- ---- a right request has a tree

has-plan : (r : Request) → IsValid r → CanDivideWhole r → IsWithinBudget r → (tree : Breakdown) × IsPlanned r (Ok tree)
has-plan r valid can pays =
    let tree = whole_exists r valid.in_range can in
    let same : pays.0 ≡ whole_cost r tree.0 =
    whole_least_once r pays.0 (whole_cost r tree.0) pays.1 (whole_is_least r tree.0 tree.1) in
    (tree.0, (rooted r valid, tree.1, subst (λ k. k ≤ r.budget) same pays.2))

convolvable_by : (r : Request) → IsConvRequest r → IsRooted r → HasPrincipalRoot r → IsWithinConvBudget r →
    (tree : Breakdown) × IsConvPlanned r (Ok tree)
convolvable_by r able right principal pays =
    let plain = and_from _ _ (eq-eqb r.procs 1 able.procs) (eq-eqb r.lanes 1 able.lanes) in
    let tree = whole_exists r able.in_range (divides_plain r plain) in
    let same : pays.0 ≡ whole_cost r tree.0 =
    whole_least_once r pays.0 (whole_cost r tree.0) pays.1 (whole_is_least r tree.0 tree.1) in
    (tree.0, (right, principal, tree.1, subst (λ k. both_halves r k ≤ r.budget) same pays.2))

-- ---- what the lines of right calls order

-- by a request
pub orders_plan : (names bytes : List ℕ) (r : Request) → IsValid r → CanDivideWhole r → IsWithinBudget r
    → ordered (line 256) (λ text. spelt text >>= turned names) bytes (Ok r) →
    (plan : Planned) × (plan.request ≡ r) × ordered (line 256) (planned names) bytes (Ok plan)
orders_plan names bytes r valid can pays orders =
    let found = has-plan r valid can pays in
    let plan = with_tree r found.0 in (
      plan,
      refl,
      joined (given (taken_from (line 256) bytes)) (λ text. spelt text >>= turned names) chosen (Ok plan)
          (record { value = r; before = orders; behind = (refl, found.1) }),
    )

-- by a request whatever its budget
pub orders_fitting : (bytes : List ℕ) (r : Request) → IsValid r → CanDivideWhole r
    → ordered (line 256) (λ text. spelt text >>= turned []) bytes (Ok r) →
    ordered (line 256) (λ text. spelt text >>= fitting) bytes (Ok r)
orders_fitting bytes r valid can orders =
    joined (given (taken_from (line 256) bytes)) spelt fitting (Ok r) (record {
      value = r;
      before = ordered_map (line 256) (λ text. spelt text >>= turned []) spelt bytes (λ text result p. no_unit (spelt text) result p) (Ok r) orders;
      behind = (refl, (rooted r valid, can));
    })

-- by a list
pub orders_conv : (names bytes : List ℕ) (r : Request) → IsConvRequest r → IsRooted r → HasPrincipalRoot r →
    IsWithinConvBudget r
    → ordered (line 256) (λ text. conv_spelt text >>= turned names) bytes (Ok r) →
    (plan : Planned) × (plan.request ≡ r) × ordered (line 256) (conv_planned names) bytes (Ok plan)
orders_conv names bytes r able right principal pays orders =
    let found = convolvable_by r able right principal pays in
    let plan = with_tree r found.0 in (
      plan,
      refl,
      joined (given (taken_from (line 256) bytes)) (λ text. conv_spelt text >>= turned names) conv_chosen (Ok plan)
          (record { value = r; before = orders; behind = (refl, found.1) }),
    )

-- ---- a request that has a plan is right

pub planned_is_right : (r : Request) (t : Breakdown) → IsInRange r → IsPlanned r (Ok t) →
    IsValid r × CanDivideWhole r × IsWithinBudget r
planned_is_right r t range planned = (
  valid_by_powers r range planned.0,
  whole_divides r t planned.1.tree,
  (whole_cost r t, whole_is_least r t planned.1, planned.2),
)
