-- What holds of each pass of a list.
use Rattle.sigma_lower.proofs.Words.{List, [], ◌∷◌, ◌++◌, PlainPass, at_last}

abbrev pub AllPasses : (PlainPass → Type 0) → List PlainPass → Type 0
AllPasses P [] = Unit {0}
AllPasses P (p ∷ ps) = P p × AllPasses P ps

module _ (P : PlainPass → Type 0) where
  pub all-append : (ps qs : List PlainPass) → AllPasses P ps → AllPasses P qs → AllPasses P (ps ++ qs)
  all-append [] qs h k = k
  all-append (p ∷ ps) qs h k = (h.0, all-append ps qs h.1 k)

  pub all-split : (ps qs : List PlainPass) → AllPasses P (ps ++ qs) → AllPasses P ps × AllPasses P qs
  all-split [] qs h = (tt, h)
  all-split (p ∷ ps) qs h = let more = all-split ps qs h.1 in ((h.0, more.0), more.1)

  pub last-back : (f : PlainPass → PlainPass) → ((p : PlainPass) → P (f p) → P p) → (ps : List PlainPass) →
      AllPasses P (at_last f ps) → AllPasses P ps
  last-back f step [] h = tt
  last-back f step (p ∷ []) h = (step p h.0, tt)
  last-back f step (p ∷ q ∷ ps) h = (h.0, last-back f step (q ∷ ps) h.1)

module _ (P Q : PlainPass → Type 0) (weaker : (p : PlainPass) → P p → Q p) where
  pub all-map : (ps : List PlainPass) → AllPasses P ps → AllPasses Q ps
  all-map [] h = tt
  all-map (p ∷ ps) h = (weaker p h.0, all-map ps h.1)

  -- where the last one is changed
  pub map-last : (f : PlainPass → PlainPass) → ((p : PlainPass) → P p → Q (f p)) → (ps : List PlainPass) →
      AllPasses P ps → AllPasses Q (at_last f ps)
  map-last f step [] h = tt
  map-last f step (p ∷ []) h = (step p h.0, tt)
  map-last f step (p ∷ q ∷ ps) h = (weaker p h.0, map-last f step (q ∷ ps) h.1)

pub all-last : (P : PlainPass → Type 0) (f : PlainPass → PlainPass) → ((p : PlainPass) → P p → P (f p)) →
    (ps : List PlainPass) → AllPasses P ps → AllPasses P (at_last f ps)
all-last P f step ps h = map-last P P (λ p k. k) f step ps h
