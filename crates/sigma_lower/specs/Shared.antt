-- The terms of trees for any processors and lanes, as terms that any formula has.
use Rattle.std.specs.Prelude.{ℕ, List, [], ◌∷◌, map}
use Rattle.sigma_spl.specs.Nest.{twiddles}
use Rattle.sigma_spl.specs.Term.{PlainTerm, gath, scat, diag, nest, product}
use Rattle.sigma_lower.specs.Trees.{in_turn}
use Rattle.sigma_lower.specs.TreeTerms.Term as lowered
use Rattle.vec_rewrite.specs.Vectors.{PlainFactor}

abbrev pub embed : lowered.PlainTerm → PlainTerm
embed (lowered.gath f) = gath f
embed (lowered.scat f) = scat f
embed (lowered.diag path r s w) = diag path (twiddles r s w)
embed (lowered.nest path w) = nest path w

-- the terms of a phase
abbrev pub phase_term : List lowered.PlainTerm → PlainTerm
phase_term ts = in_turn (map embed ts)

-- the terms of factors, one after the other, and then this one
abbrev pub factors_before : ℕ → ℕ → List PlainFactor → PlainTerm → PlainTerm
factors_before p v [] t = t
factors_before p v (f ∷ fs) t = product (embed (lowered.factor_term p v f)) (factors_before p v fs t)
