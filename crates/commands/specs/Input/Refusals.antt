-- Statuses that end a call before its output and the data.
use Rattle.std.specs.Prelude.{◌≢◌}
use Rattle.spiral_words.specs.declared.statuses.status.Status.{Status}
use Rattle.spiral_words.specs.declared.statuses.status.Status.TheVariants.{Success, Usage, ReadFault, WriteFault}

-- a status that ends a run before the output and the data
pub record IsEarly (status : Status) : Type 0 where
  pub success : status ≢ Success
  pub read : status ≢ ReadFault
  pub write : status ≢ WriteFault

-- a status that refuses a request: the words were a command line
pub record IsRefusal (status : Status) : Type 0 where
  pub success : status ≢ Success
  pub read : status ≢ ReadFault
  pub write : status ≢ WriteFault
  pub usage : status ≢ Usage

-- a status that ends a call before the output: the words were a command line
pub record IsBeforeOutput (status : Status) : Type 0 where
  pub success : status ≢ Success
  pub usage : status ≢ Usage
  pub write : status ≢ WriteFault
