-- What a call tells of a text of one lane, where several were asked for.
use Rattle.std.proofs.Common.{◌≡◌, ◌≢◌, ℕ, Bool, true, false, Option, Some, None, refl, sym, ap, subst, ◌∙◌, inl, inr, arith}
use Rattle.std.proofs.Common.{◌+◌, ◌*◌, List, [], ◌∷◌, ap₂, eqb-true, ne_eqb}
use Rattle.std.specs.Prelude.{◌==◌, ◌^◌, not, nat_lt, if◌then◌else◌}
use Rattle.std.specs.Option.{option_map_or}
use Rattle.std.proofs.lemmas.Bool.{eq-eqb}
use Rattle.icode.specs.Plain.{PlainBody, PlainProgram, NoStmts, AndStmts}
use Rattle.interchange.specs.Interchanged.{interchanged}
use Rattle.renumbered_registers.specs.Renumbered.{renumbered}
use Rattle.coalesced_loops.specs.Coalesced.{coalesced}
use Rattle.loop_lanes.specs.Lanes.{can_be_laned, laned}
use Rattle.loop_lanes.specs.Obstacles.{fault_of, obstacle_of_body, obstacle_of_phases, first_obstacle}
use Rattle.loop_lanes.proofs.NoObstacle.{obstacles_are_all}
use Rattle.loop_lanes.specs.declared.obstacles.NestFault.{NestFault}
use Rattle.loop_lanes.specs.declared.obstacles.Obstacle.{Obstacle}
use Rattle.loop_lanes.specs.declared.obstacles.Obstacle.TheVariants as obstacle
use Rattle.fast_main.specs.declared.status.Status.{Status}
use Rattle.fast_main.specs.declared.status.Status.TheVariants.{Success, ReadFault, WriteFault, Usage}
use Rattle.fast_main.specs.Outcome.{IsDone, IsGood}
use Rattle.fast_main.specs.Status.{code_of}
use Rattle.fast_main.specs.Translation.{AreLinesOfTheListing, TellsOneLane, ending_at, ending_of, on_lanes, on_several}
use Rattle.fast_main.specs.Lines.{statement_line}
use Rattle.fast_main.proofs.Laned.{laned_by}
use Rattle.fast_main.proofs.SameLines.{ordered_lines}

-- ---- the text was written

good_at : (p : PlainProgram) (found : Option Obstacle) → IsGood (ending_at p found)
good_at p None = refl
good_at p (Some obstacle.Lanes) = refl
good_at p (Some obstacle.Registers) = refl
good_at p (Some (obstacle.Statement phase number fault)) = refl

good_if : (one stays : Bool) (status : Status) → IsGood status →
    IsGood (if one then Success else if stays then status else Success)
good_if true stays status good = refl
good_if false true status good = good
good_if false false status good = refl

good_ending : (lanes : ℕ) (p : PlainProgram) → IsGood (ending_of lanes p)
good_ending lanes p =
    let q = on_lanes lanes p in
    let found = first_obstacle lanes (coalesced q) in
    good_if (lanes == 1) (q.lanes == 1) (ending_at q found) (good_at q found)

-- whose exit code is 0 is no other status
other_than : (status other : Status) → IsGood status → code_of other ≢ 0 → status ≢ other
other_than status other good fails e = fails (subst IsGood e good)

pub ending_done : (lanes : ℕ) (p : PlainProgram) → IsDone (ending_of lanes p)
ending_done lanes p =
    let good = good_ending lanes p in
    record {
      good = good;
      read = other_than (ending_of lanes p) ReadFault good (λ (e : 10 ≡ 0). absurd (omega (arith, e)));
      write = other_than (ending_of lanes p) WriteFault good (λ (e : 11 ≡ 0). absurd (omega (arith, e)));
      usage = other_than (ending_of lanes p) Usage good (λ (e : 2 ≡ 0). absurd (omega (arith, e)));
    }

-- ---- a program that stays at one lane

no_lanes_in_body : (v phase number : ℕ) (body : PlainBody) → obstacle_of_body v phase number body ≢ Some obstacle.Lanes
no_lanes_in_body v phase number NoStmts e = cc
no_lanes_in_body v phase number (AndStmts stmt rest) e =
    by_fault (fault_of v stmt) (obstacle_of_body v phase (number + 1) rest)
    (no_lanes_in_body v phase (number + 1) rest) e
  where
    by_fault : (o : Option NestFault) (more : Option Obstacle) → more ≢ Some obstacle.Lanes →
        option_map_or (λ fault. Some (obstacle.Statement phase number fault)) o more ≢ Some obstacle.Lanes
    by_fault None more other = other
    by_fault (Some fault) more other = λ e. cc

no_lanes_in : (v phase : ℕ) (phases : List PlainBody) → obstacle_of_phases v phase phases ≢ Some obstacle.Lanes
no_lanes_in v phase [] e = cc
no_lanes_in v phase (body ∷ phases) e =
    by_body (obstacle_of_body v phase 0 body) (obstacle_of_phases v (phase + 1) phases)
    (no_lanes_in_body v phase 0 body) (no_lanes_in v (phase + 1) phases) e
  where
    by_body : (o more : Option Obstacle) → o ≢ Some obstacle.Lanes → more ≢ Some obstacle.Lanes →
        option_map_or Some o more ≢ Some obstacle.Lanes
    by_body None more one other = other
    by_body (Some x) more one other = one

-- of one lane it has not several
of_one_lane : (v : ℕ) (p : PlainProgram) → p.lanes ≡ 1 → first_obstacle v p ≢ Some obstacle.Lanes
of_one_lane v p one =
    by_test (p.lanes == 1) (nat_lt (3 * p.regs) (2 ^ 20)) (obstacle_of_phases v 0 p.phases) (eq-eqb p.lanes 1 one)
    (no_lanes_in v 0 p.phases)
  where
    by_test : (l r : Bool) (found : Option Obstacle) → l ≡ true → found ≢ Some obstacle.Lanes →
        (if not l then Some obstacle.Lanes else if r then found else Some obstacle.Registers) ≢ Some obstacle.Lanes
    by_test true true found is other = other
    by_test true false found is other = λ e. cc
    by_test false r found is other = λ e. cc

lanes_of : (v : ℕ) (p : PlainProgram) → can_be_laned v p ≡ true → (laned v p).lanes ≡ v
lanes_of v p can = ap (λ b. (laned_by v p b).lanes) can

-- it is as it was, and its loops were coalesced in vain
record StaysAtOne (v : ℕ) (r : PlainProgram) : Type 0 where
  same : on_several v r ≡ r
  cannot : can_be_laned v (coalesced r) ≡ false

stays : (v : ℕ) (r : PlainProgram) → v ≢ 1 → (on_several v r).lanes ≡ 1 → StaysAtOne v r
stays v r several = by_choice (can_be_laned v r) (can_be_laned v (coalesced r)) refl refl
  where
    by_choice : (b c : Bool) → can_be_laned v r ≡ b → can_be_laned v (coalesced r) ≡ c →
        (if b then laned v r else (if c then laned v (coalesced r) else r)).lanes ≡ 1 → StaysAtOne v r
    by_choice true c can other one = absurd (several (sym (lanes_of v r can) ∙ one))
    by_choice false true can other one = absurd (several (sym (lanes_of v (coalesced r) other) ∙ one))
    by_choice false false can other one =
        record {
          same = ap₂ (λ b c. if b then laned v r else (if c then laned v (coalesced r) else r)) can other;
          cannot = other;
        }

module _ (lanes : ℕ) (p : PlainProgram) (several : lanes ≢ 1) where
  on_several_is : on_lanes lanes p ≡ on_several lanes (interchanged (renumbered p))
  on_several_is =
      let q = interchanged (renumbered p) in
      ap (λ b. if b then q else on_several lanes q) (ne_eqb lanes 1 several)

  module _ (one : (on_lanes lanes p).lanes ≡ 1) where
    stay : StaysAtOne lanes (interchanged (renumbered p))
    stay =
        stays lanes (interchanged (renumbered p)) several
        (sym (ap (λ (z : PlainProgram). z.lanes) on_several_is) ∙ one)

    is_ordered : on_lanes lanes p ≡ interchanged (renumbered p)
    is_ordered = on_several_is ∙ stay.same

    has_obstacle : first_obstacle lanes (coalesced (on_lanes lanes p)) ≢ None
    has_obstacle none =
        let can = (obstacles_are_all lanes (coalesced (on_lanes lanes p))).0 none in
        let cannot = ap (λ z. can_be_laned lanes (coalesced z)) is_ordered ∙ stay.cannot in
        let wrong : true ≡ false = sym can ∙ cannot in
        cc

    is_told : ending_of lanes p ≢ Success
    is_told =
        let q = on_lanes lanes p in
        let found = first_obstacle lanes (coalesced q) in
        let is : ending_of lanes p ≡ ending_at q found =
        ap₂ (λ a b. if a then Success else if b then ending_at q found else Success) (ne_eqb lanes 1 several)
        (eq-eqb q.lanes 1 one) in
        λ e. told_at q found has_obstacle (of_one_lane lanes (coalesced q) one) (sym is ∙ e)
      where
        told_at : (q : PlainProgram) (found : Option Obstacle) → found ≢ None → found ≢ Some obstacle.Lanes →
            ending_at q found ≢ Success
        told_at q None some other e = absurd (some refl)
        told_at q (Some obstacle.Lanes) some other e = absurd (other refl)
        told_at q (Some obstacle.Registers) some other e = cc
        told_at q (Some (obstacle.Statement phase number fault)) some other e = cc

pub tells_one_lane : (lanes : ℕ) (p : PlainProgram) → TellsOneLane lanes p
tells_one_lane lanes p = (
  only_if (lanes == 1) ((on_lanes lanes p).lanes == 1) refl refl,
  λ both. is_told lanes p both.0 both.1,
)
  where
    only_if : (a b : Bool) → (lanes == 1) ≡ a → ((on_lanes lanes p).lanes == 1) ≡ b →
        (if a then Success
        else if b then ending_at (on_lanes lanes p) (first_obstacle lanes (coalesced (on_lanes lanes p))) else Success)
        ≢ Success →
        (lanes ≢ 1) × ((on_lanes lanes p).lanes ≡ 1)
    only_if true b ea eb told = absurd (told refl)
    only_if false false ea eb told = absurd (told refl)
    only_if false true ea eb told =
        (λ e. let wrong : false ≡ true = sym ea ∙ eq-eqb lanes 1 e in cc, eqb-true (on_lanes lanes p).lanes 1 eb)

-- its statements begin at the lines of the listing
pub lines_of_the_listing : (lanes : ℕ) (p : PlainProgram) → AreLinesOfTheListing lanes p
lines_of_the_listing lanes p several one phase number =
    ap (λ z. statement_line z phase number) (is_ordered lanes p several one) ∙ ordered_lines p phase number
