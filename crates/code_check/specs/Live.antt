-- Statements without those that hold no action, as plain data.
use Rattle.std.specs.Prelude.{ℕ, List, map}
use Rattle.icode.specs.Plain.{PlainStmt, PlainBody, Loop, Do, NoStmts, AndStmts, plain_op, body_of}
use Rattle.code_check.specs.declared.live.Live.{Live}
use Rattle.code_check.specs.declared.live.Live.TheOpen.{Live-F}
use Rattle.code_check.specs.declared.live.Live.TheFolds.{fold-Live}

abbrev pub live_view : Live-F PlainStmt → PlainStmt
live_view (Live-F.Loop count body) = Loop count (body_of body.items)
live_view (Live-F.Do op) = Do (plain_op op.now)

abbrev pub plain_live : Live → PlainStmt
plain_live = fold-Live PlainStmt live_view

abbrev pub plain_lives : List Live → PlainBody
plain_lives lives = body_of (map plain_live lives)

-- a loop in front of statements, if its body holds an action
abbrev pub loop_before : ℕ → PlainBody → PlainBody → PlainBody
loop_before count NoStmts rest = rest
loop_before count (AndStmts s body) rest = AndStmts (Loop count (AndStmts s body)) rest

-- the statements that hold an action
abbrev mutual
  pub pruned : PlainBody → PlainBody
  pruned NoStmts = NoStmts
  pruned (AndStmts s rest) = pruned_before s (pruned rest)

  pub pruned_before : PlainStmt → PlainBody → PlainBody
  pruned_before (Loop count body) rest = loop_before count (pruned body) rest
  pruned_before (Do op) rest = AndStmts (Do op) rest
