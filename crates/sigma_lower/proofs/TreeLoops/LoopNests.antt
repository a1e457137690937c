-- The loops of a phase's term are its passes, the latest first.
use Rattle.sigma_lower.proofs.Words.{◌≡◌, refl, sym, ap, ◌∙◌, List, [], ◌∷◌, ◌++◌, Some, map, reverse, map-append}
use Rattle.sigma_lower.proofs.Words.{reverse-append, embed, phase_term, Mapping, PlainPass, Merging, new_pass}
use Rattle.sigma_lower.proofs.Words.{scattered, multiplied, at_last, merge_term, merged, passes_of_terms, loop_of}
use Rattle.sigma_lower.proofs.Words.{PlainLoop, scaled_last, loops_in, factor_count, PlainTerm, gath, scat, diag, nest}
use Rattle.sigma_lower.proofs.Words.{Path, inner_of, Looping, stored_last, looped, PlainFactors}
use Rattle.sigma_spl.specs.Nest.{twiddles}

-- ---- the first of a list from its end

abbrev at_first : (PlainLoop → PlainLoop) → List PlainLoop → List PlainLoop
at_first g [] = []
at_first g (p ∷ ps) = g p ∷ ps

reverse-first : (p : PlainLoop) (ps : List PlainLoop) → reverse (p ∷ ps) ≡ reverse ps ++ p ∷ []
reverse-first p ps = reverse-append (p ∷ []) ps

first-of : (g : PlainLoop → PlainLoop) (ps : List PlainLoop) (p q : PlainLoop) →
    at_first g ((ps ++ p ∷ []) ++ q ∷ []) ≡ at_first g (ps ++ p ∷ []) ++ q ∷ []
first-of g [] p q = refl
first-of g (o ∷ ps) p q = refl

first-more : (g : PlainLoop → PlainLoop) (p : PlainLoop) (ps : List PlainLoop) (q : PlainLoop) →
    at_first g (reverse (p ∷ ps) ++ q ∷ []) ≡ at_first g (reverse (p ∷ ps)) ++ q ∷ []
first-more g p ps q =
    ap (λ xs. at_first g (xs ++ q ∷ [])) (reverse-first p ps) ∙ first-of g (reverse ps) p q ∙ ap (λ xs. at_first g xs ++ q ∷ []) (sym (reverse-first p ps))

-- a change of the last pass is one of the first loop
at_last-first : (f : PlainPass → PlainPass) (g : PlainLoop → PlainLoop) →
    ((p : PlainPass) → g (loop_of p) ≡ loop_of (f p)) → (ps : List PlainPass) →
    at_first g (reverse (map loop_of ps)) ≡ reverse (map loop_of (at_last f ps))
at_last-first f g same [] = refl
at_last-first f g same (p ∷ []) = ap (λ q. q ∷ []) (same p)
at_last-first f g same (p ∷ q ∷ ps) =
    let rest = map loop_of ps in
    ap (at_first g) (reverse-first (loop_of p) (loop_of q ∷ rest))
    ∙ first-more g (loop_of q) rest (loop_of p)
    ∙ ap (λ xs. xs ++ loop_of p ∷ []) (at_last-first f g same (q ∷ ps))
    ∙ sym (reverse-first (loop_of p) (map loop_of (at_last f (q ∷ ps))))

-- ---- each term

abbrev looping_of : Merging → Looping
looping_of st = record { waiting = st.waiting; loops = reverse (map loop_of st.passes) }

abbrev stored_by : Mapping → PlainLoop → PlainLoop
stored_by f p = record { path = p.path; work = p.work; befores = p.befores; taken = p.taken; afters = p.afters ++ f ∷ [] }

stored-first : (f : Mapping) (ps : List PlainLoop) → stored_last f ps ≡ at_first (stored_by f) ps
stored-first f [] = refl
stored-first f (p ∷ ps) = refl

abbrev scaled_by : Path → PlainFactors → PlainLoop → PlainLoop
scaled_by path factors p =
    record { path = p.path; work = p.work; befores = p.befores; taken = Some (record { factors = factors; places = p.afters ++ inner_of path (factor_count factors) ∷ [] }); afters = p.afters }

scaled-first : (path : Path) (factors : PlainFactors) (ps : List PlainLoop) →
    scaled_last path factors ps ≡ at_first (scaled_by path factors) ps
scaled-first path factors [] = refl
scaled-first path factors (p ∷ ps) = refl

new-first : (ps : List PlainPass) (p : PlainPass) → loop_of p ∷ reverse (map loop_of ps)
    ≡ reverse (map loop_of (ps ++ p ∷ []))
new-first ps p = sym (ap reverse (map-append loop_of ps (p ∷ [])) ∙ reverse-append (map loop_of ps) (loop_of p ∷ []))

abbrev with_loops : List Mapping → List PlainLoop → Looping
with_loops waiting loops = record { waiting = waiting; loops = loops }

one-term : (st : Merging) (t : PlainTerm) → looped (looping_of st) (embed t) ≡ looping_of (merge_term st t)
one-term st (gath f) = refl
one-term st (scat f) =
    ap (with_loops st.waiting) (stored-first f (reverse (map loop_of st.passes)) ∙ at_last-first (scattered f) (stored_by f) (λ p. refl) st.passes)
one-term st (diag path r s w) =
    let factors = twiddles r s w in
    ap (with_loops st.waiting) (scaled-first path factors (reverse (map loop_of st.passes)) ∙ at_last-first (multiplied path r s w) (scaled_by path factors) (λ p. refl) st.passes)
one-term st (nest path w) = ap (with_loops []) (new-first st.passes (new_pass path w st.waiting))

all-terms : (st : Merging) (ts : List PlainTerm) → looped (looping_of st) (phase_term ts) ≡ looping_of (merged st ts)
all-terms st [] = refl
all-terms st (t ∷ ts) = ap (λ l. looped l (phase_term ts)) (one-term st t) ∙ all-terms (merge_term st t) ts

pub loops_listed : (ts : List PlainTerm) → loops_in (phase_term ts) ≡ reverse (map loop_of (passes_of_terms ts))
loops_listed ts = ap (λ (l : Looping). l.loops) (all-terms (record { waiting = []; passes = [] }) ts)
