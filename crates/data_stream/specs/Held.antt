-- Text that is written in pieces.
use Rattle.std.specs.Prelude.{◌≡◌, ℕ, List, ◌++◌, MatchResult, Result}
use Rattle.std.specs.declared.option.Option.{Option}
use Rattle.std.specs.Io.KnownBytes.{Appends}
use Rattle.io_edge.specs.Taken.{AppendsPrefix}

-- the sink took a front of the text, and the rest of it is held
pub record Holds (before after : Option (List ℕ)) (text held : List ℕ) : Type 0 where
  pub front : List ℕ
  pub whole : text ≡ front ++ held
  pub took : Appends before after front

-- so it is at `Ok`, and after a fault the sink took a front of the text
abbrev pub WritesOrHolds : {T E : Type 0} → Option (List ℕ) → Option (List ℕ) → Result T E → List ℕ → List ℕ → Type 0
WritesOrHolds before after result text held = MatchResult result (λ _. Holds before after text held) (λ _. AppendsPrefix before after text)
