-- Passes that all have a property, and the last one another besides.
use Rattle.sigma_lower.proofs.Words.{List, [], ◌∷◌, ◌++◌, PlainPass, Merging, at_last}

-- nothing is merged yet
abbrev pub nothing : Merging
nothing = record { waiting = []; passes = [] }

abbrev pub Ends : (PlainPass → Type 0) → (PlainPass → Type 0) → List PlainPass → Type 0
Ends P R [] = Unit {0}
Ends P R (p ∷ []) = P p × R p
Ends P R (p ∷ q ∷ ps) = P p × Ends P R (q ∷ ps)

pub ends-push : (P R S : PlainPass → Type 0) (ps : List PlainPass) (p : PlainPass) → Ends P R ps → P p → S p →
    Ends P S (ps ++ p ∷ [])
ends-push P R S [] p h k l = (k, l)
ends-push P R S (q ∷ []) p h k l = (h.0, (k, l))
ends-push P R S (q ∷ u ∷ ps) p h k l = (h.0, ends-push P R S (u ∷ ps) p h.1 k l)

pub ends-last : (P R S : PlainPass → Type 0) (f : PlainPass → PlainPass) (ps : List PlainPass) → Ends P R ps →
    ((p : PlainPass) → P p → R p → P (f p) × S (f p)) → Ends P S (at_last f ps)
ends-last P R S f [] h k = tt
ends-last P R S f (p ∷ []) h k = k p h.0 h.1
ends-last P R S f (p ∷ q ∷ []) h k = (h.0, k q h.1.0 h.1.1)
ends-last P R S f (p ∷ q ∷ u ∷ ps) h k = (h.0, ends-last P R S f (q ∷ u ∷ ps) h.1 k)

pub ends-weaken : (P R S : PlainPass → Type 0) (ps : List PlainPass) → Ends P R ps →
    ((p : PlainPass) → P p → R p → S p) → Ends P S ps
ends-weaken P R S [] h k = tt
ends-weaken P R S (p ∷ []) h k = (h.0, k p h.0 h.1)
ends-weaken P R S (p ∷ q ∷ ps) h k = (h.0, ends-weaken P R S (q ∷ ps) h.1 k)
