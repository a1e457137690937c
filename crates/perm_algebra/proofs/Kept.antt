-- What a sum has by its parts, whatever their factors, it keeps where it is multiplied, added, taken apart or reduced.
-- What may stand in a quotient and in a remainder, too, is kept by the simplification of any function.
use Rattle.std.proofs.Common.{ℕ, ◌+◌, ◌*◌, ◌/◌, ◌%◌, ◌<◌, ◌≤◌, Bool, true, false}
use Rattle.std.proofs.Common.{arith}
use Rattle.std.specs.Prelude.{if◌then◌else◌, ◌==◌, nat_lt}
use Rattle.std.proofs.lemmas.Nat.{mul-lt}
use Rattle.index_fn.specs.Mapping.{Mapping, Same, Always, Line, Strided, ThomasIn, ThomasOut, ThomasBack, Listed}
use Rattle.index_fn.specs.Mapping.{Paired, After, IsWellFormed}
use Rattle.perm_algebra.specs.Affine.{Sum, constant, variable, remainder, quotient, IsSound, HasNoQuotient, scaled}
use Rattle.perm_algebra.specs.Affine.{added, head, rest_of, mods, top, Divided, divided, reduced, simplified}
use Rattle.perm_algebra.specs.Affine.{HasNoList}
use Rattle.perm_algebra.specs.Fits.{IsAffine}
use Rattle.perm_algebra.specs.Room.{HasCounts, IsReady}

-- each constant has it, and what comes after a part; there another sum that has it may stand, and another factor
pub record IsByParts (P : Sum → Type 0) : Type 0 where
  pub constants : (c : ℕ) → P (constant c)
  pub behind_variable : (f d : ℕ) (rest : Sum) → P (variable f d rest) → P rest
  pub behind_remainder : (f : ℕ) (of : Sum) (m : ℕ) (rest : Sum) → P (remainder f of m rest) → P rest
  pub behind_quotient : (f : ℕ) (of : Sum) (m : ℕ) (rest : Sum) → P (quotient f of m rest) → P rest
  pub variables : (f g d : ℕ) (rest e : Sum) → P (variable f d rest) → P e → P (variable g d e)
  pub remainders : (f g : ℕ) (of : Sum) (m : ℕ) (rest e : Sum) → P (remainder f of m rest) → P e →
      P (remainder g of m e)
  pub quotients : (f g : ℕ) (of : Sum) (m : ℕ) (rest e : Sum) → P (quotient f of m rest) → P e →
      P (quotient g of m e)

-- what holds of both holds of the one that a test picks
pub picked : {X : Type 0} (P : X → Type 0) (b : Bool) (x y : X) → P x → P y → P (if b then x else y)
picked P true x y h g = h
picked P false x y h g = g

module _ (P : Sum → Type 0) (by : IsByParts P) where
  pub kept-scaled : (k : ℕ) (e : Sum) → P e → P (scaled k e)
  kept-scaled k (constant c) h = by.constants (k * c)
  kept-scaled k (variable f d rest) h =
      by.variables f (k * f) d rest (scaled k rest) h (kept-scaled k rest (by.behind_variable f d rest h))
  kept-scaled k (remainder f of m rest) h =
      by.remainders f (k * f) of m rest (scaled k rest) h (kept-scaled k rest (by.behind_remainder f of m rest h))
  kept-scaled k (quotient f of m rest) h =
      by.quotients f (k * f) of m rest (scaled k rest) h (kept-scaled k rest (by.behind_quotient f of m rest h))

  pub kept-added : (a e : Sum) → P a → P e → P (added a e)
  kept-added (constant c) (constant d) h g = by.constants (c + d)
  kept-added (constant c) (variable f d rest) h g =
      by.variables f f d rest _ g (kept-added (constant c) rest h (by.behind_variable f d rest g))
  kept-added (constant c) (remainder f of m rest) h g =
      by.remainders f f of m rest _ g (kept-added (constant c) rest h (by.behind_remainder f of m rest g))
  kept-added (constant c) (quotient f of m rest) h g =
      by.quotients f f of m rest _ g (kept-added (constant c) rest h (by.behind_quotient f of m rest g))
  kept-added (variable f d rest) e h g =
      by.variables f f d rest _ h (kept-added rest e (by.behind_variable f d rest h) g)
  kept-added (remainder f of m rest) e h g =
      by.remainders f f of m rest _ h (kept-added rest e (by.behind_remainder f of m rest h) g)
  kept-added (quotient f of m rest) e h g =
      by.quotients f f of m rest _ h (kept-added rest e (by.behind_quotient f of m rest h) g)

  pub kept-head : (s : ℕ) (e : Sum) → P e → P (head s e)
  kept-head s (constant c) h = by.constants (c / s)
  kept-head s (variable f d rest) h =
      let k = kept-head s rest (by.behind_variable f d rest h) in
      picked P (f % s == 0) _ _ (by.variables f (f / s) d rest _ h k) k
  kept-head s (remainder f of m rest) h =
      let k = kept-head s rest (by.behind_remainder f of m rest h) in
      picked P (f % s == 0) _ _ (by.remainders f (f / s) of m rest _ h k) k
  kept-head s (quotient f of m rest) h =
      let k = kept-head s rest (by.behind_quotient f of m rest h) in
      picked P (f % s == 0) _ _ (by.quotients f (f / s) of m rest _ h k) k

  pub kept-rest : (s : ℕ) (e : Sum) → P e → P (rest_of s e)
  kept-rest s (constant c) h = by.constants (c % s)
  kept-rest s (variable f d rest) h =
      let k = kept-rest s rest (by.behind_variable f d rest h) in
      picked P (f % s == 0) _ _ k (by.variables f f d rest _ h k)
  kept-rest s (remainder f of m rest) h =
      let k = kept-rest s rest (by.behind_remainder f of m rest h) in
      picked P (f % s == 0) _ _ k (by.remainders f f of m rest _ h k)
  kept-rest s (quotient f of m rest) h =
      let k = kept-rest s rest (by.behind_quotient f of m rest h) in
      picked P (f % s == 0) _ _ k (by.quotients f f of m rest _ h k)

  pub kept-mods : (n : ℕ) (e : Sum) → P e → P (mods n e)
  kept-mods n (constant c) h = by.constants (c % n)
  kept-mods n (variable f d rest) h =
      let k = kept-mods n rest (by.behind_variable f d rest h) in
      picked P (f % n == 0) _ _ k (by.variables f (f % n) d rest _ h k)
  kept-mods n (remainder f of m rest) h =
      let k = kept-mods n rest (by.behind_remainder f of m rest h) in
      picked P (f % n == 0) _ _ k (by.remainders f (f % n) of m rest _ h k)
  kept-mods n (quotient f of m rest) h =
      let k = kept-mods n rest (by.behind_quotient f of m rest h) in
      picked P (f % n == 0) _ _ k (by.quotients f (f % n) of m rest _ h k)

  -- what may stand in a quotient and in a remainder
  module _ (written : (e : Sum) (m : ℕ) → 0 < m → P e → P (quotient 1 e m (constant 0)) ×
      P (remainder 1 e m (constant 0))) where
    pub kept-divided : (cs : ℕ → ℕ) (s : ℕ) (e : Sum) → 0 < s → P e → P (divided cs s e).quot × P (divided cs s e).rem
    kept-divided cs s e positive h =
        picked (λ (z : Divided). P z.quot × P z.rem) (nat_lt (top (rest_of s e) cs) s) _ _
        (kept-head s e h, kept-rest s e h) (written e s positive h)

    pub kept-reduced : (cs : ℕ → ℕ) (n : ℕ) (e : Sum) → 0 < n → P e → P (reduced cs n e)
    kept-reduced cs n e positive h =
        let k = kept-mods n e h in picked P (nat_lt (top (mods n e) cs) n) _ _ k (written (mods n e) n positive k).1

    -- a multiple of the quotient and one of the remainder, modulo the size
    kept-mixed : (cs : ℕ → ℕ) (r s a b : ℕ) (e : Sum) → 1 ≤ r → 1 ≤ s → P e →
        P (reduced cs (r * s) (added (scaled a (divided cs s e).quot) (scaled b (divided cs s e).rem)))
    kept-mixed cs r s a b e r_some s_some h =
        let q = (divided cs s e).quot in
        let t = (divided cs s e).rem in
        let d = kept-divided cs s e (omega (arith, s_some)) h in
        kept-reduced cs (r * s) (added (scaled a q) (scaled b t))
        (mul-lt 0 0 r s (omega (arith, r_some)) (omega (arith, s_some)))
        (kept-added (scaled a q) (scaled b t) (kept-scaled a q d.0) (kept-scaled b t d.1))

    pub kept-simplified : (cs : ℕ → ℕ) (f : Mapping) (e : Sum) → IsWellFormed f → HasNoList f → P e →
        P (simplified cs f e)
    kept-simplified cs Same e formed none h = h
    kept-simplified cs (Always v) e formed none h = by.constants v
    kept-simplified cs (Line base step) e formed none h = kept-added (constant base) (scaled step e) (by.constants base) (kept-scaled step e h)
    kept-simplified cs (Strided r s) e formed none h =
        let z = divided cs s e in
        let d = kept-divided cs s e (omega (arith, formed.1)) h in
        kept-added (scaled r z.rem) z.quot (kept-scaled r z.rem d.1) d.0
    kept-simplified cs (ThomasIn r s) e formed none h = kept-mixed cs r s s r e formed.0 formed.1 h
    kept-simplified cs (ThomasOut r s) e formed none h =
        let y = divided cs r e in
        let z = divided cs s e in
        kept-added (scaled s y.rem) z.rem (kept-scaled s y.rem (kept-divided cs r e (omega (arith, formed.0)) h).1)
        (kept-divided cs s e (omega (arith, formed.1)) h).1
    kept-simplified cs (ThomasBack r s u v) e formed none h = kept-mixed cs r s u v e formed.0 formed.1 h
    kept-simplified cs (Listed places) e formed none h = absurd none
    kept-simplified cs (Paired f c g d) e formed none h =
        let z = divided cs d e in
        let k = kept-divided cs d e (omega (arith, formed.0)) h in
        kept-added (scaled c (simplified cs f z.quot)) (simplified cs g z.rem)
        (kept-scaled c (simplified cs f z.quot) (kept-simplified cs f z.quot formed.1 none.0 k.0))
        (kept-simplified cs g z.rem formed.2 none.1 k.1)
    kept-simplified cs (After f g) e formed none h =
        kept-simplified cs f (simplified cs g e) formed.0 none.0 (kept-simplified cs g e formed.1 none.1 h)

-- ---- what is so

pub soundness : IsByParts IsSound
soundness = record {
  constants = λ c. tt;
  behind_variable = λ f d rest h. h;
  behind_remainder = λ f of m rest h. h.2;
  behind_quotient = λ f of m rest h. h.2;
  variables = λ f g d rest e h k. k;
  remainders = λ f g of m rest e h k. (h.0, h.1, k);
  quotients = λ f g of m rest e h k. (h.0, h.1, k);
}

pub having_counts : (n : ℕ) → IsByParts (HasCounts n)
having_counts n = record {
  constants = λ c. tt;
  behind_variable = λ f d rest h. h.1;
  behind_remainder = λ f of m rest h. h.1;
  behind_quotient = λ f of m rest h. h.1;
  variables = λ f g d rest e h k. (h.0, k);
  remainders = λ f g of m rest e h k. (h.0, k);
  quotients = λ f g of m rest e h k. (h.0, k);
}

pub affinity : (n : ℕ) (cs : ℕ → ℕ) → IsByParts (IsAffine n cs)
affinity n cs = record {
  constants = λ c. tt;
  behind_variable = λ f d rest h. h.1;
  behind_remainder = λ f of m rest h. h.3;
  behind_quotient = λ f of m rest h. h.3;
  variables = λ f g d rest e h k. (h.0, k);
  remainders = λ f g of m rest e h k. (h.0, h.1, h.2, k);
  quotients = λ f g of m rest e h k. (h.0, h.1, h.2, k);
}

pub having_no_quotient : IsByParts HasNoQuotient
having_no_quotient = record {
  constants = λ c. tt;
  behind_variable = λ f d rest h. h;
  behind_remainder = λ f of m rest h. h.1;
  behind_quotient = λ f of m rest h. absurd h;
  variables = λ f g d rest e h k. k;
  remainders = λ f g of m rest e h k. (h.0, k);
  quotients = λ f g of m rest e h k. absurd h;
}

pub sound-scaled : (k : ℕ) (e : Sum) → IsSound e → IsSound (scaled k e)
sound-scaled = kept-scaled IsSound soundness

pub sound-added : (a e : Sum) → IsSound a → IsSound e → IsSound (added a e)
sound-added = kept-added IsSound soundness

pub sound-mods : (n : ℕ) (e : Sum) → IsSound e → IsSound (mods n e)
sound-mods = kept-mods IsSound soundness

pub sound-rest : (s : ℕ) (e : Sum) → IsSound e → IsSound (rest_of s e)
sound-rest = kept-rest IsSound soundness

pub counts-scaled : (n k : ℕ) (e : Sum) → HasCounts n e → HasCounts n (scaled k e)
counts-scaled n = kept-scaled (HasCounts n) (having_counts n)

pub counts-added : (n : ℕ) (a e : Sum) → HasCounts n a → HasCounts n e → HasCounts n (added a e)
counts-added n = kept-added (HasCounts n) (having_counts n)

pub plain-scaled : (k : ℕ) (e : Sum) → HasNoQuotient e → HasNoQuotient (scaled k e)
plain-scaled = kept-scaled HasNoQuotient having_no_quotient

pub plain-added : (a e : Sum) → HasNoQuotient a → HasNoQuotient e → HasNoQuotient (added a e)
plain-added = kept-added HasNoQuotient having_no_quotient

pub plain-mods : (n : ℕ) (e : Sum) → HasNoQuotient e → HasNoQuotient (mods n e)
plain-mods = kept-mods HasNoQuotient having_no_quotient

module _ (cs : ℕ → ℕ) where
  pub sound-divided : (s : ℕ) (e : Sum) → 0 < s → IsSound e →
      IsSound (divided cs s e).quot × IsSound (divided cs s e).rem
  sound-divided = kept-divided IsSound soundness (λ e m positive h. ((positive, h, tt), (positive, h, tt))) cs

  pub sound-simplified : (f : Mapping) (e : Sum) → IsWellFormed f → HasNoList f → IsSound e →
      IsSound (simplified cs f e)
  sound-simplified = kept-simplified IsSound soundness (λ e m positive h. ((positive, h, tt), (positive, h, tt))) cs

pub ready-simplified : (cs : ℕ → ℕ) (n : ℕ) (f : Mapping) (e : Sum) → IsWellFormed f → HasNoList f → IsReady n e →
    IsReady n (simplified cs f e)
ready-simplified cs n f e formed none h =
    record {
      counts =
          kept-simplified (HasCounts n) (having_counts n) (λ e m positive h. ((h, tt), (h, tt))) cs f e formed none
          h.counts;
      sound = sound-simplified cs f e formed none h.sound;
    }
