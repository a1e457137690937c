-- The text of a listing, and how a call ends that writes it.
use Rattle.std.proofs.Common.{◌≡◌, ℕ, List, true}
use Rattle.icode.specs.Plain.{PlainProgram}
use Rattle.code_check.specs.Refusals.{PassesCheck, action_limit}
use Rattle.listing_text.specs.Texts.{is_listing}
use Rattle.word_code.specs.Laziness.{allows, size_for}
use Rattle.fast_main.specs.declared.status.Status.{Status}
use Rattle.fast_main.specs.Options.Asked.{Asked}
use Rattle.fast_main.specs.Outcome.{EndsAs}
use Rattle.fast_main.specs.Translation.{AreSoundWords, IsReadBack, KeepsInput, ending_of, written_text}

pub ends_as : (wanted : Asked) (bytes text : List ℕ) (status : Status) (p : PlainProgram) → is_listing bytes p →
    PassesCheck action_limit p → allows (size_for wanted.size p) p.modulus ≡ true →
    AreSoundWords (size_for wanted.size p) wanted.lanes p → KeepsInput wanted p → text ≡ written_text wanted p →
    IsReadBack wanted p text → status ≡ ending_of wanted.lanes p → EndsAs wanted bytes status text
ends_as wanted bytes text status p listing passes allowed sound keeps says read_back ends = (
  record {
    program = p;
    listing = listing;
    passes = passes;
    allowed = allowed;
    sound = sound;
    keeps = keeps;
    says = says;
    read_back = read_back;
  },
  ends,
)
