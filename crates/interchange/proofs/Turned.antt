-- The values of the loops of a nest where two of them are interchanged.
use Rattle.std.proofs.Common.{◌≡◌, ℕ, zero, suc, List, [], ◌∷◌, ◌++◌, length, refl, ap}
use Rattle.icode.specs.Sequences.Nests.{AreInRange}
use Rattle.nests.proofs.Apart.{turned}

pub turned_back : (n : ℕ) (us : List ℕ) → turned n (turned n us) ≡ us
turned_back zero [] = refl
turned_back zero (j ∷ []) = refl
turned_back zero (j ∷ i ∷ us) = refl
turned_back (suc n) [] = refl
turned_back (suc n) (v ∷ us) = ap (λ (zs : List ℕ). v ∷ zs) (turned_back n us)

pub turned_in_range : (bs : List ℕ) (first second : ℕ) (cs us : List ℕ) → AreInRange (bs ++ first ∷ second ∷ cs) us →
    AreInRange (bs ++ second ∷ first ∷ cs) (turned (length bs) us)
turned_in_range [] first second cs [] h = absurd h
turned_in_range [] first second cs (j ∷ []) h = absurd h.1
turned_in_range [] first second cs (j ∷ i ∷ us) h = (h.1.0, (h.0, h.1.1))
turned_in_range (b ∷ bs) first second cs [] h = absurd h
turned_in_range (b ∷ bs) first second cs (v ∷ us) h = (h.0, turned_in_range bs first second cs us h.1)
