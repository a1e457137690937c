use Rattle.perm_algebra.proofs.RoomTests as laws
use Rattle.perm_algebra.proofs.room_decided.Goals as goal

pub returns : goal.returns
returns c = laws.room_decided
