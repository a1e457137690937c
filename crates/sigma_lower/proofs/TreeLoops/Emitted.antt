-- Terms that each core of a layout's steps has, and merging them one list after another.
use Rattle.sigma_lower.proofs.Words.{◌≡◌, List, [], ◌∷◌, ◌++◌, refl, ap, ◌∙◌, map, flat_map, Merging, merge_term}
use Rattle.sigma_lower.proofs.Words.{merged, PlainTerm, lowered, lowered_core, PlainCore, PlainStep, Path}
use Rattle.sigma_lower.proofs.Words.{flat_map-append}
use Rattle.std.proofs.lemmas.List.Concat.{flat_map_single}

-- the terms of a core under a path
abbrev pub Emission : Type 0
Emission = Path → PlainCore → List PlainTerm

abbrev pub emitted : Emission → List PlainStep → List PlainTerm
emitted emit steps = flat_map (λ (e : PlainStep). emit e.path e.core) steps

abbrev pub as_lowered : Emission
as_lowered path core = lowered_core path core ∷ []

pub emitted-lowered : (steps : List PlainStep) → emitted as_lowered steps ≡ map lowered steps
emitted-lowered steps = flat_map_single lowered steps

pub emitted-append : (emit : Emission) (ss es : List PlainStep) →
    emitted emit (ss ++ es) ≡ emitted emit ss ++ emitted emit es
emitted-append emit ss es = flat_map-append (λ (e : PlainStep). emit e.path e.core) ss es

-- ---- merging

pub merged-append : (st : Merging) (ts us : List PlainTerm) → merged st (ts ++ us) ≡ merged (merged st ts) us
merged-append st [] us = refl
merged-append st (t ∷ ts) us = merged-append (merge_term st t) ts us

-- what the first terms make and what the second make of that
pub merged-both : (st mid to : Merging) (ts us : List PlainTerm) → merged st ts ≡ mid → merged mid us ≡ to →
    merged st (ts ++ us) ≡ to
merged-both st mid to ts us first second = merged-append st ts us ∙ ap (λ z. merged z us) first ∙ second

pub merged-steps : (emit : Emission) (st mid to : Merging) (ss es : List PlainStep) → merged st (emitted emit ss) ≡ mid →
    merged mid (emitted emit es) ≡ to → merged st (emitted emit (ss ++ es)) ≡ to
merged-steps emit st mid to ss es first second =
    ap (merged st) (emitted-append emit ss es)
    ∙ merged-both st mid to (emitted emit ss) (emitted emit es) first second
