-- What is answered to a call for the first line.
use Rattle.std.specs.Prelude.{◌≡◌, ℕ, ◌+◌, ◌<◌, ◌≤◌, List, [], ◌++◌, length, take, Ok, Err, Result}
use Rattle.io_edge.specs.declared.FeedFault.{FeedFault}
use Rattle.io_edge.specs.declared.FeedFault.TheVariants.{ReadFault}
use Rattle.io_edge.specs.declared.FeedFault.TheVariants as feed
use Rattle.commands.specs.Equations.Front.{Front, line, MayGoOn}

-- these bytes are the whole front and its end, whatever follows, or, where the input has ended, as nothing follows
abbrev pub IsWhole : Front → List ℕ → Type 0 → List ℕ → Type 0
IsWhole front read ended text = (more : List ℕ) → (ended → more ≡ []) → (front.first (read ++ more) ≡ text)
    × (front.behind (read ++ more) ≡ more)

-- the answer to a request for the first line, by the bytes that were read
abbrev pub GivesLine : List ℕ → Type 0 → ℕ → List ℕ → Result ℕ FeedFault → Type 0
GivesLine read ended taken buffer (Ok count) =
    (taken ≡ length read) × (count ≤ 256) × (taken ≤ count + 1) × IsWhole (line 256) read ended (take count buffer)
GivesLine read ended taken buffer (Err ReadFault) = MayGoOn (line 256) read
GivesLine read ended taken buffer (Err feed.TooLong) =
    (length read ≤ 257) × ((more : List ℕ) → 256 < length ((line 256).first (read ++ more)))
