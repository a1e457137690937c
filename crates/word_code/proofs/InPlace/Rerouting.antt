-- Statements that go by other routes, one after another.
use Rattle.std.proofs.Common.{◌≡◌, ℕ, zero, suc, ◌+◌, ◌<◌, ◌≤◌, List, [], ◌∷◌, length, take, map, get_or, refl, sym, ap}
use Rattle.std.proofs.Common.{◌∙◌, arith, add-one, length-set}
use Rattle.std.specs.Prelude.{slice_set, min}
use Rattle.std.proofs.Math.ListN.{get_or-map}
use Rattle.std.proofs.lemmas.List.{length-map, map-set}
use Rattle.word_code.specs.declared.program.WordStmt.{WordStmt}
use Rattle.word_code.specs.WordProgram as plain
use Rattle.word_code.specs.Views.{word_body_of, plain_word_stmt, plain_word_body}
use Rattle.word_code.specs.declared.in_place.routes.Route.{Route}
use Rattle.word_code.specs.InPlace.Routes.{rerouted_stmt, rerouted_body, rerouted_phase}

pub body-map : (route : Route) (stmts : List plain.WordStmt) →
    rerouted_body route (word_body_of stmts) ≡ word_body_of (map (rerouted_stmt route) stmts)
body-map route [] = refl
body-map route (stmt ∷ rest) = ap (plain.AndStmts (rerouted_stmt route stmt)) (body-map route rest)

-- ---- each its own route

abbrev pub each_rerouted : List Route → List plain.WordStmt → List plain.WordStmt
each_rerouted (route ∷ routes) (stmt ∷ rest) = rerouted_stmt route stmt ∷ each_rerouted routes rest
each_rerouted routes stmts = stmts

phase-each : (routes : List Route) (stmts : List plain.WordStmt) →
    rerouted_phase routes (word_body_of stmts) ≡ word_body_of (each_rerouted routes stmts)
phase-each (route ∷ routes) (stmt ∷ rest) = ap (plain.AndStmts (rerouted_stmt route stmt)) (phase-each routes rest)
phase-each _ _ = refl

each-none : (stmts : List plain.WordStmt) → each_rerouted [] stmts ≡ stmts
each-none [] = refl
each-none (stmt ∷ rest) = refl

one-more : (routes : List Route) (stmts : List plain.WordStmt) (i : ℕ) (other : Route) (stmt : plain.WordStmt) →
    i < length routes → i < length stmts
    → stmt ≡ get_or (each_rerouted (take i routes) stmts) i stmt
    → slice_set (each_rerouted (take i routes) stmts) i (rerouted_stmt (get_or routes i other) stmt)
    ≡ each_rerouted (take (suc i) routes) stmts
one-more (first ∷ routes) (x ∷ rest) zero other stmt short lt is =
    ap (λ s. rerouted_stmt first s ∷ rest) is ∙ ap (λ ss. rerouted_stmt first x ∷ ss) (sym (each-none rest))
one-more (first ∷ routes) (x ∷ rest) (suc i) other stmt short lt is =
    ap (λ ss. rerouted_stmt first x ∷ ss) (one-more routes rest i other stmt (omega arith) (omega arith) is)
one-more _ _ i other stmt short lt is = absurd (omega arith)

all-of-them : (routes : List Route) (stmts : List plain.WordStmt) (i : ℕ) → min (length routes) (length stmts) ≤ i
    → each_rerouted (take i routes) stmts ≡ each_rerouted routes stmts
all-of-them [] stmts zero le = refl
all-of-them [] stmts (suc i) le = refl
all-of-them (route ∷ routes) [] i le = each-short (take i (route ∷ routes))
  where
    each-short : (rs : List Route) → each_rerouted rs [] ≡ []
    each-short [] = refl
    each-short (r ∷ rs) = refl
all-of-them (route ∷ routes) (stmt ∷ rest) zero le = absurd (omega arith)
all-of-them (route ∷ routes) (stmt ∷ rest) (suc i) le = ap (λ ss. rerouted_stmt route stmt ∷ ss) (all-of-them routes rest i (omega arith))

-- the first i statements go their routes, and the others are as they were
pub record AreRerouted (routes : List Route) (i : ℕ) (old now : List WordStmt) : Type 0 where
  pub same : length now ≡ length old
  pub so_far : map plain_word_stmt now ≡ each_rerouted (take i routes) (map plain_word_stmt old)

pub rerouted-none : (routes : List Route) (old : List WordStmt) → AreRerouted routes 0 old old
rerouted-none routes old = record { same = refl; so_far = sym (each-none (map plain_word_stmt old)) }

pub rerouted-more : (routes : List Route) (i : ℕ) (old now : List WordStmt) (other : Route) (x y : WordStmt) →
    i < length routes → i < length now
    → x ≡ get_or now i x → plain_word_stmt y ≡ rerouted_stmt (get_or routes i other)
    (plain_word_stmt (get_or now i x)) → AreRerouted routes i old now
    → AreRerouted routes (i + 1) old (slice_set now i y)
rerouted-more routes i old now other x y short lt is new h =
    let olds = map plain_word_stmt old in
    let route = get_or routes i other in
    let small : i < length olds = omega (arith, lt, h.same, length-map old plain_word_stmt) in
    let seen = ap plain_word_stmt is ∙ sym (get_or-map plain_word_stmt now i x)
    ∙ ap (λ ss. get_or ss i (plain_word_stmt x)) h.so_far in
    record {
      same = length-set now i y ∙ h.same;
      so_far =
          map-set plain_word_stmt now i y
          ∙ (ap (slice_set (map plain_word_stmt now) i) (new ∙ ap (λ s. rerouted_stmt route (plain_word_stmt s)) (sym is))
          ∙ (ap (λ ss. slice_set ss i (rerouted_stmt route (plain_word_stmt x))) h.so_far
          ∙ (one-more routes olds i other (plain_word_stmt x) short small seen
          ∙ ap (λ k. each_rerouted (take k routes) olds) (sym (add-one i)))));
    }

pub rerouted-all : (routes : List Route) (i : ℕ) (old now : List WordStmt) → min (length routes) (length old) ≤ i →
    AreRerouted routes i old now
    → plain_word_body now ≡ rerouted_phase routes (plain_word_body old)
rerouted-all routes i old now le h =
    let olds = map plain_word_stmt old in
    ap word_body_of (h.so_far ∙ all-of-them routes olds i (rw (length-map old plain_word_stmt) le)) ∙ sym (phase-each routes olds)
