-- Statements after statements.
use Rattle.icode.specs.Plain.{PlainBody, NoStmts, AndStmts}

abbrev pub concatenated : PlainBody → PlainBody → PlainBody
concatenated NoStmts after = after
concatenated (AndStmts s body) after = AndStmts s (concatenated body after)
