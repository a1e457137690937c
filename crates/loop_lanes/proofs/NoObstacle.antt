-- There is no obstacle exactly where a program can be laned: what is tested of a statement is the same in both.
use Rattle.std.proofs.Common.{◌≡◌, ℕ, ◌+◌, ◌*◌, ◌%◌, ◌^◌, Bool, true, false, List, [], ◌∷◌, length, Option, Some, None}
use Rattle.std.proofs.Common.{refl, ap, ap₂, ◌∙◌}
use Rattle.std.specs.Prelude.{◌==◌, ◌&&◌, not, nat_le, nat_lt, if◌then◌else◌}
use Rattle.std.specs.List.{list_all}
use Rattle.std.specs.Option.{option_map_or}
use Rattle.std.proofs.lemmas.Bool.{and_parts}
use Rattle.icode.specs.Plain.{PlainStmt, PlainBody, PlainProgram, Loop, Do, NoStmts, AndStmts}
use Rattle.nests.specs.Rounds.{is_fresh, put_after, are_fresh, first_store, ops_in}
use Rattle.nests.specs.Nests.{counts_in, round_in}
use Rattle.loop_lanes.specs.Rows.{stores}
use Rattle.loop_lanes.specs.Lanes.{last_count, can_lane, is_lanable, are_lanable, can_be_laned}
use Rattle.loop_lanes.specs.Obstacles.{are_straight, fault_of, obstacle_of_body, obstacle_of_phases, first_obstacle}
use Rattle.loop_lanes.specs.Obstacles.{ObstaclesAreAll}
use Rattle.loop_lanes.specs.declared.obstacles.NestFault.{NestFault}
use Rattle.loop_lanes.specs.declared.obstacles.NestFault.TheVariants as nest
use Rattle.loop_lanes.specs.declared.obstacles.Obstacle.{Obstacle}
use Rattle.loop_lanes.specs.declared.obstacles.Obstacle.TheVariants as obstacle

-- ---- a statement

straight_if : (next : ℕ) (round : PlainBody) → are_fresh 1 next round ≡ true → are_straight round ≡ true
straight_if next NoStmts e = refl
straight_if next (AndStmts (Do op) rest) e =
    straight_if (put_after 1 next op) rest (and_parts (is_fresh 1 next op) (are_fresh 1 (put_after 1 next op) rest) e).1
straight_if next (AndStmts (Loop count body) rest) e = absurd (cc)

-- the tests of a statement, in the order in which they are told
abbrev told : (a s m f c : Bool) → Option NestFault
told a s m f c =
    if not a then Some nest.Loops
    else if not s then Some nest.Stores
    else if not m then Some nest.Rounds
    else if not f then Some nest.Registers
    else if c then None else Some nest.Places

none_told : (a s m f c : Bool) → told a s m f c ≡ None → (s && (m && (f && c))) ≡ true
none_told true true true true true e = refl
none_told true true true true false e = absurd (cc)
none_told true true true false c e = absurd (cc)
none_told true true false f c e = absurd (cc)
none_told true false m f c e = absurd (cc)
none_told false s m f c e = absurd (cc)

all_hold : (a s m f c : Bool) → (f ≡ true → a ≡ true) → (s && (m && (f && c))) ≡ true → told a s m f c ≡ None
all_hold true true true true true h e = refl
all_hold false true true true true h e = absurd (let wrong = h refl in cc)
all_hold a true true true false h e = absurd (cc)
all_hold a true true false c h e = absurd (cc)
all_hold a true false f c h e = absurd (cc)
all_hold a false m f c h e = absurd (cc)

no_fault : (v : ℕ) (stmt : PlainStmt) → fault_of v stmt ≡ None → is_lanable v stmt ≡ true
no_fault v (Loop count body) e =
    let round = round_in body in
    none_told (are_straight round) (nat_le (length (stores (ops_in round))) 256)
    (last_count count (counts_in body) % v == 0) (are_fresh 1 0 round)
    (can_lane v (length (counts_in body)) (first_store round) (ops_in round)) e
no_fault v (Do op) e = absurd (cc)

lanable : (v : ℕ) (stmt : PlainStmt) → is_lanable v stmt ≡ true → fault_of v stmt ≡ None
lanable v (Loop count body) e =
    let round = round_in body in
    all_hold (are_straight round) (nat_le (length (stores (ops_in round))) 256)
    (last_count count (counts_in body) % v == 0) (are_fresh 1 0 round)
    (can_lane v (length (counts_in body)) (first_store round) (ops_in round)) (straight_if 0 round) e
lanable v (Do op) e = absurd (cc)

-- ---- statements one after the other

none_of_both : {A B : Type 0} (f : A → B) (first : Option A) (more : Option B) (a b : Bool) →
    (first ≡ None → a ≡ true) → (more ≡ None → b ≡ true) → option_map_or (λ x. Some (f x)) first more ≡ None →
    (a && b) ≡ true
none_of_both f None more a b p q e = ap₂ (λ x y. x && y) (p refl) (q e)
none_of_both f (Some x) more a b p q e = absurd (cc)

no_obstacle : (v phase number : ℕ) (body : PlainBody) → obstacle_of_body v phase number body ≡ None →
    are_lanable v body ≡ true
no_obstacle v phase number NoStmts e = refl
no_obstacle v phase number (AndStmts stmt rest) e =
    none_of_both (obstacle.Statement phase number) (fault_of v stmt) (obstacle_of_body v phase (number + 1) rest)
    (is_lanable v stmt) (are_lanable v rest) (no_fault v stmt) (no_obstacle v phase (number + 1) rest) e

all_lanable : (v phase number : ℕ) (body : PlainBody) → are_lanable v body ≡ true →
    obstacle_of_body v phase number body ≡ None
all_lanable v phase number NoStmts e = refl
all_lanable v phase number (AndStmts stmt rest) e =
    let parts = and_parts (is_lanable v stmt) (are_lanable v rest) e in
    let more = obstacle_of_body v phase (number + 1) rest in
    ap (λ first. option_map_or (λ fault. Some (obstacle.Statement phase number fault)) first more)
    (lanable v stmt parts.0)
    ∙ all_lanable v phase (number + 1) rest parts.1

-- ---- phases

no_phase : (v phase : ℕ) (phases : List PlainBody) → obstacle_of_phases v phase phases ≡ None →
    list_all (are_lanable v) phases ≡ true
no_phase v phase [] e = refl
no_phase v phase (body ∷ phases) e =
    none_of_both (λ x. x) (obstacle_of_body v phase 0 body) (obstacle_of_phases v (phase + 1) phases)
    (are_lanable v body) (list_all (are_lanable v) phases) (no_obstacle v phase 0 body)
    (no_phase v (phase + 1) phases) e

each_phase : (v phase : ℕ) (phases : List PlainBody) → list_all (are_lanable v) phases ≡ true →
    obstacle_of_phases v phase phases ≡ None
each_phase v phase [] e = refl
each_phase v phase (body ∷ phases) e =
    let parts = and_parts (are_lanable v body) (list_all (are_lanable v) phases) e in
    let more = obstacle_of_phases v (phase + 1) phases in
    ap (λ first. option_map_or Some first more) (all_lanable v phase 0 body parts.0)
    ∙ each_phase v (phase + 1) phases parts.1

-- ---- programs

abbrev told_of_program : (l r : Bool) → Option Obstacle → Option Obstacle
told_of_program l r found =
    if not l then Some obstacle.Lanes else if r then found else Some obstacle.Registers

none_of_program : (l r all : Bool) (found : Option Obstacle) → (found ≡ None → all ≡ true) →
    told_of_program l r found ≡ None → (l && (r && all)) ≡ true
none_of_program true true all found p e = p e
none_of_program true false all found p e = absurd (cc)
none_of_program false r all found p e = absurd (cc)

all_of_program : (l r all : Bool) (found : Option Obstacle) → (all ≡ true → found ≡ None) →
    (l && (r && all)) ≡ true → told_of_program l r found ≡ None
all_of_program true true all found p e = p e
all_of_program true false all found p e = absurd (cc)
all_of_program false r all found p e = absurd (cc)

pub obstacles_are_all : ObstaclesAreAll
obstacles_are_all v p = (
  none_of_program (p.lanes == 1) (nat_lt (3 * p.regs) (2 ^ 20)) (list_all (are_lanable v) p.phases)
      (obstacle_of_phases v 0 p.phases) (no_phase v 0 p.phases),
  all_of_program (p.lanes == 1) (nat_lt (3 * p.regs) (2 ^ 20)) (list_all (are_lanable v) p.phases)
      (obstacle_of_phases v 0 p.phases) (each_phase v 0 p.phases),
)
