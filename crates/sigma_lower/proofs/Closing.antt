-- The products after the last phase: what they do, and that they can be merged.
use Rattle.sigma_lower.proofs.Words.{on_last, ◌≡◌, ℕ, ◌==◌, Bool, true, false, arith, refl, sym, ap, ◌∙◌, List, [], ◌∷◌}
use Rattle.sigma_lower.proofs.Words.{◌++◌, if◌then◌else◌, map, Option, None, Some, map-append, close_last}
use Rattle.sigma_lower.proofs.Words.{closed_phases, phase_term, scale, product, term_on, factor_term, terms_in, within}
use Rattle.sigma_lower.proofs.Words.{size-within, Blocks, size_under, PlainFactor, PlainVec, closing_term, AllCanMerge}
use Rattle.sigma_lower.proofs.Words.{terms_on, closed_on}
use Rattle.sigma_lower.proofs.TreeSigmas.Lasts.{last-append}
use Rattle.sigma_spl.specs.Term.{PlainTerm}
use Rattle.sigma_spl.specs.Views.{plain_term}
use Rattle.sigma_spl.specs.declared.term.Term.{Term}

-- ---- there is a last phase

abbrev pub HasPhase : List PlainTerm → Type 0
HasPhase [] = ⊥
HasPhase (t ∷ ts) = Unit {0}

pick-phase : (p v : ℕ) (b : Bool) (fs gs : List PlainFactor) →
    HasPhase (map phase_term (map (map (factor_term p v)) (if b then (fs ++ gs) ∷ [] else fs ∷ gs ∷ [])))
pick-phase p v true fs gs = tt
pick-phase p v false fs gs = tt

pub has_phase : (g : PlainVec) → HasPhase (map phase_term (terms_in g))
has_phase g = pick-phase g.target.procs g.target.lanes (g.target.procs == 1) g.first g.second

-- ---- what the products do

close-on : (m n v : ℕ) (ts : List PlainTerm) (x : List ℕ) → HasPhase ts →
    terms_on m n (close_last n v ts) x ≡ scale m n (λ _. v) (terms_on m n ts x)
close-on m n v [] x h = absurd h
close-on m n v (t ∷ []) x h = refl
close-on m n v (t ∷ u ∷ ts) x h = close-on m n v (u ∷ ts) (term_on m n t x) tt

pub closed-on : (m n : ℕ) (o : Option ℕ) (ts : List PlainTerm) (x : List ℕ) → HasPhase ts →
    terms_on m n (closed_phases n o ts) x ≡ closed_on m n o (terms_on m n ts x)
closed-on m n None ts x h = refl
closed-on m n (Some v) ts x h = close-on m n v ts x h

-- ---- they can be merged

closing-size : (n : ℕ) → size_under (within (Blocks n) []) 1 ≡ n
closing-size n = size-within (Blocks n) [] 1 ∙ omega arith

close-can : (lanes n v : ℕ) (ts : List PlainTerm) → AllCanMerge lanes n ts → AllCanMerge lanes n (close_last n v ts)
close-can lanes n v [] h = tt
close-can lanes n v (t ∷ []) h =
    (record { good = (h.0.good, closing-size n); several = (h.0.several, tt); words = (h.0.words, tt) }, tt)
close-can lanes n v (t ∷ u ∷ ts) h = (h.0, close-can lanes n v (u ∷ ts) h.1)

pub closed-can : (lanes n : ℕ) (o : Option ℕ) (ts : List PlainTerm) → AllCanMerge lanes n ts →
    AllCanMerge lanes n (closed_phases n o ts)
closed-can lanes n None ts h = h
closed-can lanes n (Some v) ts h = close-can lanes n v ts h

-- ---- the code takes the last phase and puts it back with them

pub close-is : (n v : ℕ) (ts : List PlainTerm) → close_last n v ts ≡ on_last (λ t. product t (closing_term n v)) ts
close-is n v (t ∷ u ∷ ts) = ap (λ us. t ∷ us) (close-is n v (u ∷ ts))
close-is n v _ = refl

pub closed_last : (n v : ℕ) (all made rest : List Term) (last one : Term) → all ≡ rest ++ last ∷ [] →
    made ≡ rest ++ one ∷ [] →
    plain_term one ≡ product (plain_term last) (closing_term n v) →
    map plain_term made ≡ close_last n v (map plain_term all)
closed_last n v all made rest last one taken put is =
    ap (map plain_term) put
    ∙ map-append plain_term rest (one ∷ [])
    ∙ ap (λ t. map plain_term rest ++ t ∷ []) is
    ∙ sym (close-is n v (map plain_term rest ++ plain_term last ∷ [])
    ∙ last-append (λ t. product t (closing_term n v)) (map plain_term rest) (plain_term last))
    ∙ ap (close_last n v) (sym (map-append plain_term rest (last ∷ [])))
    ∙ ap (λ ts. close_last n v (map plain_term ts)) (sym taken)
