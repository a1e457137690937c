-- The last pass of a layout has no diagonal, and its work is no tile.
use Rattle.sigma_lower.proofs.Words.{◌≡◌, ℕ, ◌*◌, Bool, true, false, List, [], ◌∷◌, ◌++◌, map, refl, sym, subst, Option}
use Rattle.sigma_lower.proofs.Words.{Some, None, if◌then◌else◌, nat_le, Counted, works, tiles, counted, counted_as}
use Rattle.sigma_lower.proofs.Words.{has_diagonal, passes_of, tiled_passes, twiddle_by, whole_passes, PlainDiagonal}
use Rattle.sigma_lower.proofs.Words.{PlainPass, merged_of, LastIs, is_tile, PlainWork, tile, CanShareLayout, Layout}
use Rattle.sigma_lower.proofs.Words.{work, by, layout_size, IsGoodLayout, Target, Gt, Ct}
use Rattle.sigma_lower.proofs.TreeLoops.Counts.{merge_counts}

-- a pass that can take a diagonal of one entry
pub record IsEnding (p : PlainPass) : Type 0 where
  pub free : p.diagonal ≡ None
  pub untiled : is_tile p.work ≡ false

-- ---- by what they count

abbrev EndsPlain : Counted → Type 0
EndsPlain (works n w b) = b ≡ false
EndsPlain (tiles b) = ⊥

plain-behind : (p : Counted) (ps : List Counted) → LastIs EndsPlain ps → LastIs EndsPlain (p ∷ ps)
plain-behind p [] h = absurd h
plain-behind p (q ∷ ps) h = h

plain-after : (ps qs : List Counted) → LastIs EndsPlain qs → LastIs EndsPlain (ps ++ qs)
plain-after [] qs h = h
plain-after (p ∷ ps) qs h = plain-behind p (ps ++ qs) (plain-after ps qs h)

passes-plain : (n : ℕ) (l : Layout) → LastIs EndsPlain (passes_of n l)
passes-plain n (work w) = refl
passes-plain n (by rule root a b) =
    plain-after (twiddle_by rule (passes_of (n * layout_size a) b)) (passes_of (n * layout_size b) a)
    (passes-plain (n * layout_size b) a)

-- rows, tiles, and the columns after them
spread-plain : (a b : Layout) (t : Bool) →
    LastIs EndsPlain (passes_of (layout_size a) b ++ (tiles t ∷ passes_of (layout_size b) a))
spread-plain a b t =
    plain-after (passes_of (layout_size a) b) (tiles t ∷ passes_of (layout_size b) a)
    (plain-behind (tiles t) (passes_of (layout_size b) a) (passes-plain (layout_size b) a))

tiled-plain : (l : Layout) → LastIs EndsPlain (tiled_passes l)
tiled-plain (work w) = passes-plain 1 (work w)
tiled-plain (by Gt root a b) = passes-plain 1 (by Gt root a b)
tiled-plain (by Ct root a b) = spread-plain a b true
tiled-plain (by _ root a b) =
    plain-behind (tiles false) (passes_of (layout_size a) b ++ (tiles false ∷ passes_of (layout_size b) a))
    (spread-plain a b false)

whole-plain : (lanes : ℕ) (l : Layout) → LastIs EndsPlain (whole_passes lanes l)
whole-plain lanes l = by-lanes (nat_le lanes 1)
  where
    by-lanes : (b : Bool) → LastIs EndsPlain (if b then passes_of 1 l else tiled_passes l)
    by-lanes true = passes-plain 1 l
    by-lanes false = tiled-plain l

-- ---- the passes themselves

no-diagonal : (k : ℕ) (w : PlainWork) (o : Option PlainDiagonal) →
    EndsPlain (counted_as k w (has_diagonal o)) → o ≡ None
no-diagonal k w None h = refl
no-diagonal k (tile v) (Some d) h = absurd h
no-diagonal k _ (Some d) h = absurd (cc)

no-tile : (k : ℕ) (w : PlainWork) (b : Bool) → EndsPlain (counted_as k w b) → is_tile w ≡ false
no-tile k (tile v) b h = absurd h
no-tile k _ b h = refl

last-ends : (ps : List PlainPass) → LastIs EndsPlain (map counted ps) → LastIs IsEnding ps
last-ends [] plain = absurd plain
last-ends (p ∷ []) plain =
    record { free = no-diagonal _ p.work p.diagonal plain; untiled = no-tile _ p.work (has_diagonal p.diagonal) plain }
last-ends (p ∷ q ∷ ps) plain = last-ends (q ∷ ps) plain

pub layout_ends : (h : Target) (l : Layout) → CanShareLayout h l → IsGoodLayout h.modulus l →
    LastIs IsEnding (merged_of h l)
layout_ends h l shares good =
    last-ends (merged_of h l) (subst (LastIs EndsPlain) (sym (merge_counts h l shares good)) (whole-plain h.lanes l))
