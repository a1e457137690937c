-- Passes side by side are of words where both sides are.
use Rattle.std.proofs.Common.{◌≡◌, ℕ, ◌+◌, arith, subst, List, [], ◌∷◌, ◌++◌, length, length-append, Option, Some, None}
use Rattle.std.specs.Prelude.{map}
use Rattle.perm_algebra.specs.Affine.{Sum, constant, variable, remainder, quotient, added}
use Rattle.perm_algebra.specs.Room.{HasCounts, IsReady}
use Rattle.perm_algebra.proofs.Kept.{sound-added, counts-added}
use Rattle.sigma_spl.specs.Merge.{place_sum, copying, renumbered, renumbered_places, lifted, side, sides}
use Rattle.sigma_spl.specs.Nest.{PlainMultiplier, PlainNest}
use Rattle.sigma_spl.proofs.Natural.{sound-place_sum}
use Rattle.sigma_spl.proofs.Sides.{sound-renumbered}
use Rattle.operators.specs.Paths.Tensors.{Path, count_of}
use Rattle.loop_nests.specs.Ready.{AreReady, IsReadyMultiplier, IsReadyNest, IsReadyPass, AreReadyPasses}
use Rattle.loop_nests.proofs.Readies.{counts-place, depth-is, ready-copying}

counts-renumbered : (k n : ℕ) (e : Sum) → HasCounts n e → HasCounts (k + n) (renumbered k e)
counts-renumbered k n (constant c) h = tt
counts-renumbered k n (variable f d rest) h = (omega (arith, h.0), counts-renumbered k n rest h.1)
counts-renumbered k n (remainder f of m rest) h = (counts-renumbered k n of h.0, counts-renumbered k n rest h.1)
counts-renumbered k n (quotient f of m rest) h = (counts-renumbered k n of h.0, counts-renumbered k n rest h.1)

ready-later : (k n : ℕ) (e : Sum) → IsReady n e → IsReady (k + n) (renumbered k e)
ready-later k n e h = record { counts = counts-renumbered k n e h.counts; sound = sound-renumbered k e h.sound }

module _ (path : Path) (size before : ℕ) where
  abbrev up : Sum → Sum
  up e = place_sum path size 0 (added (constant before) (renumbered (length path) e))

  ready-up : (n : ℕ) (e : Sum) → IsReady n e → IsReady (length path + n) (up e)
  ready-up n e h =
      let later = ready-later (length path) n e h in
      record {
        counts = counts-place (length path + n) path size 0 _ (omega arith) (counts-added (length path + n) (constant before) (renumbered (length path) e) tt later.counts);
        sound = sound-place_sum path size 0 _ (sound-added (constant before) (renumbered (length path) e) tt later.sound);
      }

  ready-ups : (n : ℕ) (es : List Sum) → AreReady n es → AreReady (length path + n) (map up es)
  ready-ups n [] h = tt
  ready-ups n (e ∷ es) h = (ready-up n e h.0, ready-ups n es h.1)

  ready-laters : (n : ℕ) (es : List Sum) → AreReady n es → AreReady (length path + n)
      (map (renumbered (length path)) es)
  ready-laters n [] h = tt
  ready-laters n (e ∷ es) h = (ready-later (length path) n e h.0, ready-laters n es h.1)

  ready-factors : (n : ℕ) (o : Option PlainMultiplier) → IsReadyMultiplier n o →
      IsReadyMultiplier (length path + n) (renumbered_places (length path) o)
  ready-factors n None h = tt
  ready-factors n (Some d) h = ready-laters n d.places h

  deeper : (counts : List ℕ) → length path + (length counts + 2) ≡ length (map count_of path ++ counts) + 2
  deeper counts = let whole = length-append (map count_of path) counts in omega (arith, whole, depth-is path)

  ready-lifted : (z : PlainNest) → IsReadyNest z → IsReadyNest (lifted path size before z)
  ready-lifted z h =
      let n = length z.counts + 2 in
      record {
        words = h.words;
        gathers = subst (λ d. AreReady d (map up z.gathers)) (deeper z.counts) (ready-ups n z.gathers h.gathers);
        scatters = subst (λ d. AreReady d (map up z.scatters)) (deeper z.counts) (ready-ups n z.scatters h.scatters);
        multiplier = subst (λ d. IsReadyMultiplier d (renumbered_places (length path) z.multiplier)) (deeper z.counts) (ready-factors n z.multiplier h.multiplier);
      }

  ready-lifts : (zs : List PlainNest) → IsReadyPass zs → IsReadyPass (map (lifted path size before) zs)
  ready-lifts [] h = tt
  ready-lifts (z ∷ zs) h = (ready-lifted z h.0, ready-lifts zs h.1)

ready-append : (zs ys : List PlainNest) → IsReadyPass zs → IsReadyPass ys → IsReadyPass (zs ++ ys)
ready-append [] ys h k = k
ready-append (z ∷ zs) ys h k = (h.0, ready-append zs ys h.1 k)

ready-side : (path : Path) (n k : ℕ) (zs ys : List PlainNest) → IsReadyPass zs → IsReadyPass ys →
    IsReadyPass (side path n k zs ys)
ready-side path n k zs ys h g = ready-append (map (lifted path (n + k) 0) zs) _ (ready-lifts path (n + k) 0 zs h) (ready-lifts path (n + k) n ys g)

pub ready-sides : (path : Path) (n k : ℕ) (ps qs : List (List PlainNest)) → AreReadyPasses ps → AreReadyPasses qs →
    AreReadyPasses (sides path n k ps qs)
ready-sides path n k [] [] h g = tt
ready-sides path n k (zs ∷ ps) [] h g = (ready-side path n k zs (copying k) h.0 (ready-copying k), ready-sides path n k ps [] h.1 tt)
ready-sides path n k [] (ys ∷ qs) h g = (ready-side path n k (copying n) ys (ready-copying n) g.0, ready-sides path n k [] qs tt g.1)
ready-sides path n k (zs ∷ ps) (ys ∷ qs) h g = (ready-side path n k zs ys h.0 g.0, ready-sides path n k ps qs h.1 g.1)
