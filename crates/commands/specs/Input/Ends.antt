-- How a call ends where the outside fails or memory runs out, told or not.
use Rattle.std.specs.Prelude.{◌≡◌, ◌≢◌, ℕ, List, [], IfErr, IsErrOf, Result}
use Rattle.std.specs.declared.option.Option.{Option}
use Rattle.std.specs.Io.KnownBytes.{Appends}
use Rattle.io_edge.specs.Faults.{Reports}
use Rattle.spiral_words.specs.declared.statuses.status.Status.{Status}
use Rattle.spiral_words.specs.declared.statuses.status.Status.TheVariants.{Usage, ReadFault, WriteFault, NoMemory}
use Rattle.commands.specs.Input.Refusals.{IsBeforeOutput}

-- a call that reads alone, by what the feed holds then and the source's faults before and now
pub record ReadsCleanly {A : Type 0} (result : Result A Status) (held : List ℕ) (before now : ℕ) : Type 0 where
  -- a failed read leaves nothing in the feed
  pub empty : IsErrOf result ReadFault → held ≡ []
  -- it has its cause and is not swallowed
  pub read : Reports before now (IsErrOf result ReadFault)
  pub others : IfErr result IsBeforeOutput

-- a command, by what the feed holds then, the faults of source and sink before and now, and what the sink took before
-- and now
pub record EndsCleanly (status : Status) (held : List ℕ) (read_before read_now write_before write_now : ℕ)
    (before after : Option (List ℕ)) : Type 0 where
  -- a failed read leaves nothing in the feed
  pub empty : status ≡ ReadFault → held ≡ []
  -- the words were a command line
  pub usage : status ≢ Usage
  -- a fault has its cause and is not swallowed
  pub read : Reports read_before read_now (status ≡ ReadFault)
  pub write : Reports write_before write_now (status ≡ WriteFault)
  -- want of memory comes before the first byte of output
  pub memory : status ≡ NoMemory → Appends before after []
