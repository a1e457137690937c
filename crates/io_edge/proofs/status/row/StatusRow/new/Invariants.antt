use Rattle.std.proofs.Common.{◌≡◌, take}
use Rattle.io_edge.proofs.status.row.StatusRow.new.Given as goal

-- the row has the parts before this one
abbrev pub invariant-loop-part : goal.invariant-loop-part
invariant-loop-part l = l.held.items ≡ take l.part-index l.parts
