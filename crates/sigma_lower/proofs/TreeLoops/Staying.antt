-- Sums on which one function after the other has room, and stays below the size.
use Rattle.sigma_lower.proofs.Words.{◌≡◌, ℕ, refl, List, [], ◌∷◌, ◌++◌, Mapping, Sum, simplified, HasRoomFor, Fits}
use Rattle.sigma_lower.proofs.Words.{IsCarried, all_simplified}

-- each function has room where those before it have led, below n
abbrev pub StaysIn : (ℕ → ℕ) → ℕ → List Mapping → Sum → Type 0
StaysIn cs n fs e = IsCarried cs n n fs e

pub stays-begin : (cs : ℕ → ℕ) (n : ℕ) (fs : List Mapping) (e : Sum) → StaysIn cs n fs e → Fits n e cs
stays-begin cs n [] e h = h
stays-begin cs n (f ∷ fs) e h = h.0

pub carried-end : (cs : ℕ → ℕ) (n count : ℕ) (fs : List Mapping) (e : Sum) → IsCarried cs n count fs e →
    Fits count (all_simplified cs fs e) cs
carried-end cs n count [] e h = h
carried-end cs n count (f ∷ fs) e h = carried-end cs n count fs (simplified cs f e) h.2

-- one function more, which may lead elsewhere
pub carried-push : (cs : ℕ → ℕ) (n count : ℕ) (fs : List Mapping) (f : Mapping) (e : Sum) → StaysIn cs n fs e →
    HasRoomFor cs f (all_simplified cs fs e) → Fits count (simplified cs f (all_simplified cs fs e)) cs →
    IsCarried cs n count (fs ++ f ∷ []) e
carried-push cs n count [] f e h room made = (h, room, made)
carried-push cs n count (g ∷ fs) f e h room made = (h.0, h.1, carried-push cs n count fs f (simplified cs g e) h.2 room made)

pub all_simplified-join : (cs : ℕ → ℕ) (fs gs : List Mapping) (e : Sum) →
    all_simplified cs (fs ++ gs) e ≡ all_simplified cs gs (all_simplified cs fs e)
all_simplified-join cs [] gs e = refl
all_simplified-join cs (f ∷ fs) gs e = all_simplified-join cs fs gs (simplified cs f e)

pub stays-join : (cs : ℕ → ℕ) (n : ℕ) (fs gs : List Mapping) (e : Sum) → StaysIn cs n fs e →
    StaysIn cs n gs (all_simplified cs fs e) → StaysIn cs n (fs ++ gs) e
stays-join cs n [] gs e h k = k
stays-join cs n (f ∷ fs) gs e h k = (h.0, h.1, stays-join cs n fs gs (simplified cs f e) h.2 k)
