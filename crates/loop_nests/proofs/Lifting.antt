-- Nests within the limits can be made part of a larger array.
use Rattle.std.proofs.Common.{◌≡◌, ℕ, suc, ◌+◌, ◌-◌, ◌^◌, ◌<◌, ◌≤◌, true, arith, ap, ◌∙◌, List, [], ◌∷◌, ◌++◌, length}
use Rattle.std.proofs.Common.{Option, Some, None}
use Rattle.std.specs.Prelude.{All, map, slice_index, ◌&&◌}
use Rattle.std.specs.List.{list_all}
use Rattle.std.proofs.lemmas.List.Elements.{All-nil, All-cons}
use Rattle.perm_algebra.specs.Affine.{Sum, constant, variable, remainder, quotient, top, added}
use Rattle.perm_algebra.specs.Room.{HasCounts, IsReady}
use Rattle.perm_algebra.specs.Views.{plain_sum}
use Rattle.perm_algebra.specs.declared.Affine.{Affine}
use Rattle.sigma_spl.specs.Limits.{AreSeveral}
use Rattle.sigma_spl.specs.Merge.{is_limited, is_within, is_multiplier_within, limits_of, renumbered}
use Rattle.sigma_spl.specs.Nest.{PlainMultiplier, PlainNest}
use Rattle.sigma_spl.specs.Work.{work_size}
use Rattle.sigma_spl.proofs.Small.{renumbered-small, behind-small}
use Rattle.sigma_spl.proofs.Walk.{and-left, and-right}
use Rattle.sigma_spl.proofs.Limited.{tested, counts-first}
use Rattle.operators.specs.Paths.Tensors.{Path, count_of, size_under}
use Rattle.loop_nests.specs.Ready.{AreReady, IsReadyMultiplier, IsReadyNest}
use Rattle.loop_nests.specs.Lifted.{AreCounted, AreRaised, CanLift, CanRaise, IsCounted}
use Rattle.loop_nests.proofs.Naming.{can-place, constant-le-top}
use Rattle.loop_nests.proofs.Items.{low-of, length-below}

-- ---- counts

past : (path : Path) (l : List ℕ) (i : ℕ) → slice_index (map count_of path ++ l) (i + length path) ≡ slice_index l i
past [] l i = ap (slice_index l) (omega arith)
past (t ∷ path) l i = ap (slice_index (map count_of (t ∷ path) ++ l)) (let e : i + length (t ∷ path) ≡ suc (i + length path) = omega arith in e) ∙ past path l i

module _ (room part n before : ℕ) (path : Path) (z : PlainNest) (several : AreSeveral path) (some : 0 < n)
    (high : size_under path n ≤ 2 ^ 20) (fits : before + part ≤ n) where
  abbrev counts : List ℕ
  counts = z.counts ++ work_size z.work ∷ work_size z.work ∷ []

  abbrev cs : ℕ → ℕ
  cs = slice_index (map count_of path ++ counts)

  raise : (e : Sum) → is_limited room part (limits_of z) e ≡ true → IsReady (length z.counts + 2) e →
      CanRaise (length z.counts + 2) path n before e
  raise e h ready =
      let k = length path in
      let low = low-of path n several high in
      let small = tested room part (limits_of z) e h in
      let higher = renumbered-small k room part (limits_of z) cs e (past path counts) small in
      let behind = behind-small before room part n cs (renumbered k e) fits low higher in
      let counted = counts-first path 0 cs counts (λ i. ap cs (omega arith)) in
      let short = length-below path n several some in
      let tops = higher.top in
      record {
        counts = ready.counts;
        adds = omega (arith, constant-le-top (renumbered k e) cs, tops, fits, low);
        placed = can-place room cs path n 0 (added (constant before) (renumbered k e)) several counted some high
            (omega (arith, short, high)) behind;
      }

  raise-all : (es : List Sum) → list_all (is_limited room part (limits_of z)) es ≡ true →
      AreReady (length z.counts + 2) es → AreRaised (length z.counts + 2) path n before es
  raise-all [] h ready = tt
  raise-all (e ∷ es) h ready =
      let here = is_limited room part (limits_of z) e in
      (raise e (and-left here _ h) ready.0, raise-all es (and-right here _ h) ready.1)

  counted-all : (es : List Sum) → AreReady (length z.counts + 2) es → AreCounted (length z.counts + 2) es
  counted-all [] h = tt
  counted-all (e ∷ es) h = (h.0.counts, counted-all es h.1)

  counted-places : (d : Option PlainMultiplier) → IsReadyMultiplier (length z.counts + 2) d →
      IsCounted (length z.counts + 2) d
  counted-places None h = tt
  counted-places (Some d) h = counted-all d.places h

  pub can-lift : is_within room part (z ∷ []) ≡ true → IsReadyNest z → CanLift path n before z
  can-lift h ready =
      let places = list_all (is_limited room part (limits_of z)) z.gathers && list_all (is_limited room part (limits_of z)) z.scatters in
      let here = and-left (places && is_multiplier_within room (limits_of z) z.multiplier) _ h in
      let both = and-left places _ here in
      record {
        gathers = raise-all z.gathers (and-left (list_all (is_limited room part (limits_of z)) z.gathers) _ both) ready.gathers;
        scatters = raise-all z.scatters (and-right (list_all (is_limited room part (limits_of z)) z.gathers) _ both) ready.scatters;
        multiplier = counted-places z.multiplier ready.multiplier;
      }

-- ---- more counts

more_counts : (m k : ℕ) (e : Sum) → m ≤ k → HasCounts m e → HasCounts k e
more_counts m k (constant c) fits h = tt
more_counts m k (variable f d rest) fits h = (let below = h.0 in omega (arith, fits, below), more_counts m k rest fits h.1)
more_counts m k (remainder f of n rest) fits h = (more_counts m k of fits h.0, more_counts m k rest fits h.1)
more_counts m k (quotient f of n rest) fits h = (more_counts m k of fits h.0, more_counts m k rest fits h.1)

all-more : (m k : ℕ) (es : List Sum) → m ≤ k → AreCounted m es → AreCounted k es
all-more m k [] fits h = tt
all-more m k (e ∷ es) fits h = (more_counts m k e fits h.0, all-more m k es fits h.1)

pub more_places : (m k : ℕ) (d : Option PlainMultiplier) → m ≤ k → IsCounted m d → IsCounted k d
more_places m k None fits h = tt
more_places m k (Some d) fits h = all-more m k d.places fits h

-- ---- one by one

pub all_raised : (depth : ℕ) (path : Path) (n before : ℕ) (items : List Affine) → depth + length path ≤ 2 ^ 64 →
    AreRaised depth path n before (map plain_sum items) →
    All (λ e. CanRaise (2 ^ 64 - length path) path n before (plain_sum e)) items
all_raised depth path n before items few = each items
  where
    wider : (e : Sum) → CanRaise depth path n before e → CanRaise (2 ^ 64 - length path) path n before e
    wider e h =
        record {
          counts = more_counts depth (2 ^ 64 - length path) e (omega (arith, few)) h.counts;
          adds = h.adds;
          placed = h.placed;
        }

    each : (xs : List Affine) → AreRaised depth path n before (map plain_sum xs) →
        All (λ e. CanRaise (2 ^ 64 - length path) path n before (plain_sum e)) xs
    each [] k = All-nil (λ e. CanRaise (2 ^ 64 - length path) path n before (plain_sum e))
    each (x ∷ xs) k =
        All-cons (λ e. CanRaise (2 ^ 64 - length path) path n before (plain_sum e)) x xs
        (wider (plain_sum x) k.0) (each xs k.1)
