-- The passes of a layout on one processor and one lane.
use Rattle.sigma_lower.proofs.Words.{◌≡◌, true, [], ◌∷◌, ap, ◌∙◌, map, Target, passes_of_terms, in_order, merged_phases}
use Rattle.sigma_lower.proofs.Words.{merged_of, Layout, is_alone}
use Rattle.std.proofs.lemmas.List.{append-nil}
use Rattle.sigma_lower.proofs.TreeLoops.MadePasses.{passes_of_terms-tree}
use Rattle.sigma_lower.proofs.TreeLoops.TreePasses.{layout_passes}
use Rattle.sigma_lower.proofs.TreeTerms.Both.{plain_terms}

pub plain_phases : (c : Target) (l : Layout) → is_alone c ≡ true → merged_phases c l ≡ layout_passes [] [] l ∷ []
plain_phases c l plain = ap (map passes_of_terms) (plain_terms c l plain) ∙ ap (λ ps. ps ∷ []) (passes_of_terms-tree l)

pub plain_passes : (c : Target) (l : Layout) → is_alone c ≡ true → merged_of c l ≡ layout_passes [] [] l
plain_passes c l plain = ap in_order (plain_phases c l plain) ∙ append-nil (layout_passes [] [] l)
