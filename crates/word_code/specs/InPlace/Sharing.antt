-- Passes in place: the arrays of a program of one processor are shared where each load still finds its words.
use Rattle.std.specs.Prelude.{◌*◌, ◌==◌, ◌&&◌, Bool, true, false, List, [], ◌∷◌, if◌then◌else◌}
use Rattle.icode.specs.Machine.{whole_lines}
use Rattle.icode.specs.Plain.{PlainStmt, PlainBody, PlainProgram, Loop, Do, NoStmts, AndStmts}
use Rattle.word_code.specs.WordProgram.{PlainWordProgram}
use Rattle.word_code.specs.declared.in_place.routes.Route.{Route}
use Rattle.word_code.specs.InPlace.Homes.{own_homes, are_home}
use Rattle.word_code.specs.InPlace.Accesses.{Access, are_right, homes_after_all, accesses_of_phase}
use Rattle.word_code.specs.InPlace.Routes.{rerouted}
use Rattle.word_code.specs.InPlace.Routing.{chosen}

-- no loop is empty
abbrev mutual
  pub is_full : PlainStmt → Bool
  is_full (Loop count NoStmts) = false
  is_full (Loop count (AndStmts stmt rest)) = is_full stmt && are_full rest
  is_full (Do op) = true

  pub are_full : PlainBody → Bool
  are_full NoStmts = true
  are_full (AndStmts stmt rest) = is_full stmt && are_full rest

abbrev pub is_loop : PlainStmt → Bool
is_loop (Loop count body) = true
is_loop (Do op) = false

abbrev pub are_loops : PlainBody → Bool
are_loops NoStmts = true
are_loops (AndStmts stmt rest) = is_loop stmt && are_loops rest

-- from where all words are at their own addresses, each load finds its words, and so are those of Y at the end
abbrev pub find_their_words : PlainProgram → List Access → Bool
find_their_words p accesses =
    let words = whole_lines p.size p.line in
    let start = own_homes (4 * words) in
    are_right p.lanes accesses start && are_home (homes_after_all p.lanes accesses start) p.size words words

-- the statements may go these routes
abbrev pub may_go : PlainProgram → PlainBody → List Route → Bool
may_go p body routes = find_their_words p (accesses_of_phase p routes body)

-- the routes of a program of one processor and one phase of loops, if it may go those that are chosen
abbrev pub routes_of : PlainProgram → List PlainBody → List Route
routes_of p (body ∷ []) =
    if (p.procs == 1) && ((are_loops body && are_full body) && may_go p body (chosen body)) then chosen body else []
routes_of p phases = []

-- the words of a program, in place
abbrev pub in_place : PlainProgram → PlainWordProgram → PlainWordProgram
in_place p words = rerouted (routes_of p p.phases) words
