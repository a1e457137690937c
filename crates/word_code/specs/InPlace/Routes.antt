-- Programs on words whose statements load from other arrays and store into others.
use Rattle.std.specs.Prelude.{List, ◌∷◌, map}
use Rattle.icode.specs.Plain.{PlainOp, Load, Store}
use Rattle.word_code.specs.WordProgram.{WordStmt, WordBody, PlainWordProgram, Loop, Do, NoStmts, AndStmts}
use Rattle.word_code.specs.declared.in_place.routes.Route.{Route}

abbrev pub rerouted_op : Route → PlainOp → PlainOp
rerouted_op route (Load register array place) = Load register route.source place
rerouted_op route (Store array place register) = Store route.target place register
rerouted_op route op = op

abbrev mutual
  pub rerouted_stmt : Route → WordStmt → WordStmt
  rerouted_stmt route (Loop count body) = Loop count (rerouted_body route body)
  rerouted_stmt route (Do note op) = Do note (rerouted_op route op)

  pub rerouted_body : Route → WordBody → WordBody
  rerouted_body route NoStmts = NoStmts
  rerouted_body route (AndStmts stmt rest) = AndStmts (rerouted_stmt route stmt) (rerouted_body route rest)

-- each statement of a phase goes its own route, as far as there are routes
abbrev pub rerouted_phase : List Route → WordBody → WordBody
rerouted_phase (route ∷ routes) (AndStmts stmt rest) = AndStmts (rerouted_stmt route stmt) (rerouted_phase routes rest)
rerouted_phase routes body = body

abbrev pub rerouted : List Route → PlainWordProgram → PlainWordProgram
rerouted routes words = record words { phases = map (rerouted_phase routes) words.phases }
