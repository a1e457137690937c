-- New passes, and copy passes, are of words.
use Rattle.std.proofs.Common.{◌≡◌, ℕ, suc, ◌+◌, ◌*◌, ◌<◌, ◌≤◌, arith, refl, sym, ap, List, [], ◌∷◌, length, subst}
use Rattle.std.specs.Prelude.{map}
use Rattle.std.specs.List.{range_with_len}
use Rattle.index_fn.specs.Mapping.{Mapping, at}
use Rattle.operators.specs.Sum.{list_below}
use Rattle.perm_algebra.specs.Affine.{Sum, constant, variable, scaled}
use Rattle.perm_algebra.specs.Room.{HasCounts}
use Rattle.sigma_spl.specs.Merge.{place_sum, items_in, items_out, new_nest, one_loop, copying}
use Rattle.sigma_spl.specs.Work.{PlainWork, kernel, rows, horner, tile, copy, work_size, HasWords}
use Rattle.sigma_spl.proofs.Natural.{sound-place_sum}
use Rattle.operators.specs.declared.paths.Tensor.TheVariants.{Blocks, Columns}
use Rattle.operators.specs.Paths.Tensors.{Path, count_of, size_under}
use Rattle.loop_nests.specs.Ready.{AreReady, IsReadyPass}
use Rattle.perm_algebra.proofs.Kept.{counts-scaled, counts-added}

-- ---- the variables of new nests

pub counts-place : (n : ℕ) (path : Path) (d v : ℕ) (e : Sum) → v + length path ≤ n → HasCounts n e →
    HasCounts n (place_sum path d v e)
counts-place n [] d v e fits h = h
counts-place n (Blocks c ∷ path) d v e fits h =
    counts-added n (scaled (size_under path d) (variable 1 v (constant 0))) (place_sum path d (v + 1) e) (omega (arith, fits), tt) (counts-place n path d (v + 1) e (omega (arith, fits)) h)
counts-place n (Columns c ∷ path) d v e fits h =
    counts-added n (scaled c (place_sum path d (v + 1) e)) (variable 1 v (constant 0)) (counts-scaled n c _ (counts-place n path d (v + 1) e (omega (arith, fits)) h)) (omega (arith, fits), tt)

pub ready-places : (n : ℕ) (path : Path) (d : ℕ) (es : List Sum) → length path ≤ n → AreReady n es →
    AreReady n (map (place_sum path d 0) es)
ready-places n path d [] fits h = tt
ready-places n path d (e ∷ es) fits h =
    (record { counts = counts-place n path d 0 e (omega (arith, fits)) h.0.counts; sound = sound-place_sum path d 0 e h.0.sound }, ready-places n path d es fits h.1)

pub ready-constants : (n : ℕ) (ks : List ℕ) → AreReady n (map constant ks)
ready-constants n [] = tt
ready-constants n (k ∷ ks) = (record { counts = tt; sound = tt }, ready-constants n ks)

ready-starts : (n v : ℕ) (ks : List ℕ) → AreReady n (map (λ k. constant (k * v)) ks)
ready-starts n v [] = tt
ready-starts n v (k ∷ ks) = (record { counts = tt; sound = tt }, ready-starts n v ks)

ready-variable : (n d : ℕ) → d < n → AreReady n (variable 1 d (constant 0) ∷ [])
ready-variable n d below = (record { counts = (below, tt); sound = tt }, tt)

pub ready-in : (depth : ℕ) (w : PlainWork) → 0 < work_size w → AreReady (depth + 2) (items_in w depth)
ready-in depth (kernel trees) some = ready-constants (depth + 2) (range_with_len 0 (work_size (kernel trees)))
ready-in depth (rows root size) some = ready-variable (depth + 2) (depth + 1) (omega arith)
ready-in depth (horner root size) some = (record { counts = ((omega arith, tt), tt); sound = (some, tt, tt) }, tt)
ready-in depth (tile v) some = ready-starts (depth + 2) v (range_with_len 0 v)
ready-in depth (copy size) some = ready-constants (depth + 2) (range_with_len 0 size)

pub ready-out : (depth : ℕ) (w : PlainWork) → AreReady (depth + 2) (items_out w depth)
ready-out depth (kernel trees) = ready-constants (depth + 2) (range_with_len 0 (work_size (kernel trees)))
ready-out depth (rows root size) = ready-variable (depth + 2) depth (omega arith)
ready-out depth (horner root size) = ready-variable (depth + 2) depth (omega arith)
ready-out depth (tile v) = ready-starts (depth + 2) v (range_with_len 0 v)
ready-out depth (copy size) = ready-constants (depth + 2) (range_with_len 0 size)

pub depth-is : (path : Path) → length (map count_of path) ≡ length path
depth-is [] = refl
depth-is (t ∷ path) = ap suc (depth-is path)

pub ready-new : (path : Path) (w : PlainWork) (items : List Sum) → HasWords w → AreReady (length path + 2) items →
    IsReadyPass (new_nest path w items ∷ [])
ready-new path w items words h =
    let depth = sym (depth-is path) in (
      record {
        words = words;
        gathers = subst (λ k. AreReady (k + 2) (map (place_sum path (work_size w) 0) items)) depth (ready-places (length path + 2) path (work_size w) items (omega arith) h);
        scatters = subst (λ k. AreReady (k + 2) (map (place_sum path (work_size w) 0) (items_out w (length path)))) depth (ready-places (length path + 2) path (work_size w) (items_out w (length path)) (omega arith) (ready-out (length path) w));
        multiplier = tt;
      },
      tt,
    )

-- ---- copies

pub ready-copying : (n : ℕ) → IsReadyPass (copying n)
ready-copying n = ready-new (one_loop n) (copy 1) (items_in (copy 1) (length (one_loop n))) tt (ready-in (length (one_loop n)) (copy 1) (omega arith))

pub ready-words : (n : ℕ) (f : Mapping) → IsReadyPass (new_nest [] (copy (length (list_below n (at f))))
    (map constant (list_below n (at f))) ∷ [])
ready-words n f = ready-new [] (copy (length (list_below n (at f)))) (map constant (list_below n (at f))) tt (ready-constants 2 (list_below n (at f)))
