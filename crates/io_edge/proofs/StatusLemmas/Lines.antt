-- The line of some parts.
use Rattle.std.proofs.Common.{◌≡◌, ℕ, ◌==◌, List, [], ◌∷◌, ◌++◌, false, refl, ap, map, length, codes, Bor}
use Rattle.std.specs.List.{flat_map}
use Rattle.std.specs.declared.option.Option.{Option}
use Rattle.io_edge.specs.Status.Rows.{line_of, part_text}
use Rattle.io_edge.specs.Status.Views.{plain_part}

-- the text of a part of the code
abbrev pub text_of : Bor (List ℕ) × Option ℕ → List ℕ
text_of part = part_text (plain_part part)

flat_map-map : (parts : List (Bor (List ℕ) × Option ℕ))
    → flat_map text_of parts ≡ flat_map part_text (map plain_part parts)
flat_map-map [] = refl
flat_map-map (part ∷ parts) = ap (λ l. text_of part ++ l) (flat_map-map parts)

pub line_of-some : (front : List ℕ) (parts : List (Bor (List ℕ) × Option ℕ)) → (length parts == 0) ≡ false
    → front ++ (flat_map text_of parts ++ codes "\n") ≡ line_of front (map plain_part parts)
line_of-some front [] none = search
line_of-some front (part ∷ parts) some = ap (λ l. front ++ (l ++ codes "\n")) (flat_map-map (part ∷ parts))
