-- The law of passes in place.
use Rattle.std.proofs.Common.{◌≡◌, ℕ, ◌+◌, ◌*◌, ◌-◌, ◌≤◌, ◌⊎◌, List, [], ◌∷◌, ◌++◌, Bool, true, false, ◌&&◌, All}
use Rattle.std.proofs.Common.{length, map, replicate, inl, inr, refl, sym, ap, ◌∙◌, subst, arith, ⊎_elim, length-append}
use Rattle.std.specs.Prelude.{◌==◌, if◌then◌else◌, slice_index_or}
use Rattle.std.specs.List.{range_with_len}
use Rattle.std.proofs.lemmas.Bool.{eqb-true}
use Rattle.std.proofs.lemmas.List.{length-replicate}
use Rattle.icode.specs.Actions.{StepFits, PlainFits, steps_of_body}
use Rattle.icode.specs.Machine.{Local, whole_lines}
use Rattle.icode.specs.Plain.{PlainBody, PlainProgram, NoStmts}
use Rattle.icode.proofs.Bools.{both_true}
use Rattle.word_code.specs.Quicken.{PlainLaziness, Header, loosest, header_of, quick_alone, quick_phases, quickened}
use Rattle.word_code.specs.WordMachine.{WordAction, word_results}
use Rattle.word_code.specs.WordProgram.{WordBody, PlainWordProgram, word_actions_of_body, word_code}
use Rattle.word_code.specs.InPlace.Homes.{own_homes}
use Rattle.word_code.specs.InPlace.Accesses.{are_right, homes_after_all, accesses_of_phase}
use Rattle.word_code.specs.InPlace.Routing.{chosen}
use Rattle.word_code.specs.InPlace.Sharing.{are_full, are_loops, may_go, routes_of, in_place}
use Rattle.word_code.specs.InPlace.Laws.{LeavesAlike, InPlaceLeavesTheSame}
use Rattle.word_code.specs.InPlace.Routes.{rerouted_phase, rerouted}
use Rattle.word_code.specs.InPlace.Views.{BodyFits}
use Rattle.word_code.proofs.InPlace.Effects.{effects_alike}
use Rattle.word_code.proofs.Simulation.{size_within}
use Rattle.word_code.proofs.OneProcessor.{word_effects, start_alone, results_alone}
use Rattle.word_code.proofs.InPlace.Pairing.{chosen_reach, phase_pairs}
use Rattle.word_code.proofs.InPlace.Standing.{stands_first, stands_read}

-- Routes are none, or those that are chosen

-- the only phase of the only processor may go its routes
pub record Goes (p : PlainProgram) (phases : List PlainBody) : Type 0 where
  pub body : PlainBody
  pub only : phases ≡ body ∷ []
  pub alone : p.procs ≡ 1
  pub may : may_go p body (chosen body) ≡ true
  pub routes : routes_of p phases ≡ chosen body

goes_by : (p : PlainProgram) (body : PlainBody) (test : Bool) →
    ((p.procs == 1) && ((are_loops body && are_full body) && may_go p body (chosen body))) ≡ test →
    (routes_of p (body ∷ []) ≡ []) ⊎ Goes p (body ∷ [])
goes_by p body false e = inl (ap (λ (b : Bool). if b then chosen body else []) e)
goes_by p body true e =
    let first = both_true (p.procs == 1) _ e in
    let second = both_true (are_loops body && are_full body) _ first.1 in
    inr (record { body = body; only = refl; alone = eqb-true p.procs 1 first.0; may = second.1; routes = ap (λ (b : Bool). if b then chosen body else []) e })

pub stays_or_goes : (p : PlainProgram) (phases : List PlainBody) → (routes_of p phases ≡ []) ⊎ Goes p phases
stays_or_goes p (body ∷ []) = goes_by p body _ refl
stays_or_goes p _ = inl refl

-- without routes nothing changes

same_bodies : (bodies : List WordBody) → map (rerouted_phase []) bodies ≡ bodies
same_bodies [] = refl
same_bodies (body ∷ bodies) = ap (λ rest. body ∷ rest) (same_bodies bodies)

pub no_routes : (z : PlainLaziness) (p : PlainProgram) → rerouted [] (quickened z p) ≡ quickened z p
no_routes z p =
    let with_phases : List WordBody → PlainWordProgram = λ phases. record (quickened z p) { phases = phases } in
    ap with_phases (same_bodies (quick_phases z (header_of p) p.procs p.phases))

-- One phase of one processor

pub one_list : (w : PlainWordProgram) (body : WordBody) (bodies : List WordBody) (procs : ℕ) → bodies ≡ body ∷ [] →
    procs ≡ 1 →
    map (λ body. map (λ q. word_actions_of_body w body [] q) (range_with_len 0 procs)) bodies
    ≡ (word_actions_of_body w body [] 0 ∷ []) ∷ []
one_list w body bodies procs only alone =
    ap (λ n. map (λ body. map (λ q. word_actions_of_body w body [] q) (range_with_len 0 n)) bodies) alone
    ∙ ap (map (λ body. map (λ q. word_actions_of_body w body [] q) (range_with_len 0 1))) only

-- the only phase of the only processor on words
pub one_phase : (z : PlainLaziness) (h : Header) (procs : ℕ) (phases : List PlainBody) (body : PlainBody) → phases ≡ body ∷ [] →
    procs ≡ 1 →
    quick_phases z h procs phases ≡ (quick_alone z h body (loosest z h)).body ∷ []
one_phase z h procs phases body only alone = ap (quick_phases z h procs) only ∙ ap (λ n. quick_phases z h n (body ∷ [])) alone

-- the memory at the start has all four arrays
start_long : (words size : ℕ) (x : List ℕ) → size ≤ length x → 4 * words ≤ length (x ++ replicate (4 * words - size) 0)
start_long words size x le =
    let both = length-append x (replicate (4 * words - size) 0) in
    let zeros = length-replicate {A = ℕ} (4 * words - size) 0 in
    omega (arith, le, both, zeros)

-- by its chosen routes the program leaves what it left
goes_alike : (z : PlainLaziness) (p : PlainProgram) (g : Goes p p.phases) → PlainFits p → 1 ≤ p.line →
    LeavesAlike (rerouted (chosen g.body) (quickened z p)) (quickened z p)
goes_alike z p g fits line x turns long =
    let words = whole_lines p.size p.line in
    let routes = chosen g.body in
    let one = quickened z p in
    let other = rerouted routes one in
    let quick = quick_phases z (header_of p) p.procs p.phases in
    let body = (quick_alone z (header_of p) g.body (loosest z (header_of p))).body in
    let made = rerouted_phase routes in
    let fs = word_actions_of_body one body [] 0 in
    let gs = word_actions_of_body other (made body) [] 0 in
    let phases = one_phase z (header_of p) p.procs p.phases g.body g.only g.alone in
    let lists = one_list one body quick p.procs phases g.alone in
    let other_lists = one_list other (made body) (map made quick) p.procs (ap (map made) phases) g.alone in
    let accesses = accesses_of_phase p routes g.body in
    let at_start = own_homes (4 * words) in
    let at_end = homes_after_all p.lanes accesses at_start in
    let s : Local = start_alone (word_code one) x in
    let fitting : BodyFits p g.body [] =
    subst (λ phases. All (StepFits p) (steps_of_body p (slice_index_or phases 0 NoStmts) [] 0)) g.only
    (fits.each 0 0 (let a = g.alone in omega (arith, a))) in
    let pairs = phase_pairs z p routes routes g.body (loosest z (header_of p)) (chosen_reach g.body) fitting in
    let found = both_true (are_right p.lanes accesses at_start) _ g.may in
    let first = stands_first (4 * words) s.memory (start_long words p.size x long) in
    let last = effects_alike z.width p.modulus p.lanes (4 * words) fs gs accesses at_start s.memory s.memory s.registers pairs found.0 first in
    let inside : words + p.size ≤ 4 * words = let le = size_within p.size p.line line in omega (arith, le) in
    let after : List WordAction → Local = λ actions. word_effects z.width p.modulus p.lanes actions s in
    results_alone (word_code other) gs g.alone other_lists x turns
    ∙ sym (stands_read (4 * words) p.size words words at_end (after fs).memory (after gs).memory inside inside found.1 last)
    ∙ sym (results_alone (word_code one) fs g.alone lists x turns)

pub in_place_is_same : InPlaceLeavesTheSame
in_place_is_same z p fits line = ⊎_elim stays goes (stays_or_goes p p.phases)
  where
    stays : routes_of p p.phases ≡ [] → LeavesAlike (in_place p (quickened z p)) (quickened z p)
    stays e x turns long =
        ap (λ w. word_results (word_code w) x turns) (ap (λ routes. rerouted routes (quickened z p)) e ∙ no_routes z p)

    goes : Goes p p.phases → LeavesAlike (in_place p (quickened z p)) (quickened z p)
    goes g = subst (λ routes. LeavesAlike (rerouted routes (quickened z p)) (quickened z p)) (sym g.routes) (goes_alike z p g fits line)

pub alike_from : (z : PlainLaziness) (p : PlainProgram) (words made : PlainWordProgram) → PlainFits p → 1 ≤ p.line →
    made ≡ in_place p words → words ≡ quickened z p → LeavesAlike made words
alike_from z p words made fits line is quick =
    subst (λ made. LeavesAlike made words) (sym is)
    (subst (λ words. LeavesAlike (in_place p words) words) (sym quick) (in_place_is_same z p fits line))
