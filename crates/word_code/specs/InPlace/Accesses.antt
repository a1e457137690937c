-- Loads and stores of two programs that differ in their addresses alone.
use Rattle.std.specs.Prelude.{ℕ, ◌+◌, ◌&&◌, Bool, true, List, [], ◌∷◌, ◌++◌, flat_map}
use Rattle.std.specs.List.{range_with_len}
use Rattle.icode.specs.Actions.{array_start}
use Rattle.icode.specs.Expression.{sum_numbers}
use Rattle.icode.specs.Machine.{whole_lines}
use Rattle.icode.specs.Plain.{PlainOp, PlainStmt, PlainBody, PlainProgram, Load, Store, Loop, Do, NoStmts, AndStmts}
use Rattle.word_code.specs.declared.in_place.routes.Route.{Route}
use Rattle.word_code.specs.InPlace.Homes.{Homes, are_home, housed}

-- a load or a store, with its address in the one memory and in the other
pub data Access : Type 0 where
  Reads : (at to : ℕ) → Access
  Writes : (at to : ℕ) → Access

-- what is read must stand there
abbrev pub is_right : ℕ → Access → Homes → Bool
is_right lanes (Reads at to) h = are_home h lanes at to
is_right lanes (Writes at to) h = true

abbrev pub homes_after : ℕ → Access → Homes → Homes
homes_after lanes (Reads at to) h = h
homes_after lanes (Writes at to) h = housed lanes at to h

abbrev pub are_right : ℕ → List Access → Homes → Bool
are_right lanes [] h = true
are_right lanes (a ∷ accesses) h = is_right lanes a h && are_right lanes accesses (homes_after lanes a h)

abbrev pub homes_after_all : ℕ → List Access → Homes → Homes
homes_after_all lanes [] h = h
homes_after_all lanes (a ∷ accesses) h = homes_after_all lanes accesses (homes_after lanes a h)

-- The accesses of a program of one processor, where its statements go by routes

abbrev pub accesses_of : PlainProgram → Route → PlainOp → List ℕ → List Access
accesses_of p route (Load register array place) vs =
    let words = whole_lines p.size p.line in
    let at = (sum_numbers place vs 0).value in
    Reads (array_start words array + at) (array_start words route.source + at) ∷ []
accesses_of p route (Store array place register) vs =
    let words = whole_lines p.size p.line in
    let at = (sum_numbers place vs 0).value in
    Writes (array_start words array + at) (array_start words route.target + at) ∷ []
accesses_of p route op vs = []

abbrev mutual
  pub accesses_of_stmt : PlainProgram → Route → PlainStmt → List ℕ → List Access
  accesses_of_stmt p route (Loop count body) vs =
      flat_map (λ i. accesses_of_body p route body (vs ++ i ∷ [])) (range_with_len 0 count)
  accesses_of_stmt p route (Do op) vs = accesses_of p route op vs

  pub accesses_of_body : PlainProgram → Route → PlainBody → List ℕ → List Access
  accesses_of_body p route NoStmts vs = []
  accesses_of_body p route (AndStmts stmt rest) vs =
      accesses_of_stmt p route stmt vs ++ accesses_of_body p route rest vs

-- each statement of a phase goes its own route
abbrev pub accesses_of_phase : PlainProgram → List Route → PlainBody → List Access
accesses_of_phase p (route ∷ routes) (AndStmts stmt rest) =
    accesses_of_stmt p route stmt [] ++ accesses_of_phase p routes rest
accesses_of_phase p routes body = []
