-- A machine without buffers that tells the actions of one with buffers.
use Rattle.std.specs.Prelude.{◌≡◌, ◌+◌, ◌<◌, true, false, length}
use Rattle.icode.specs.Machine.{Code, State, is_open, first_open, phases_after, none_done}

-- it has done as much of the phase, or is in the next one where no action of it is left
pub record IsWalking (code : Code) (s m : State) : Type 0 where
  pub here : is_open code s.phase s.done ≡ true → (m.phase ≡ s.phase) × (m.done ≡ s.done)
  pub ahead : s.phase < length code.lists → is_open code s.phase s.done ≡ false → (m.phase ≡ first_open code (phases_after code s.phase) (s.phase + 1)) × (m.done ≡ none_done code)
