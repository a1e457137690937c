-- No place of a pass by the rules of emission has a quotient.
use Rattle.std.proofs.Common.{ℕ, ◌*◌, ◌/◌, ◌%◌, ◌==◌, List, [], ◌∷◌, ◌++◌, nat_lt}
use Rattle.matrix_meaning.specs.declared.Kind.{Kind}
use Rattle.matrix_meaning.specs.declared.Kind.TheVariants.{Dft}
use Rattle.matrix_meaning.specs.declared.Request.{Request}
use Rattle.index_fn.specs.Back.{unit_below}
use Rattle.perm_algebra.proofs.Kept.{plain-added, plain-scaled}
use Rattle.perm_algebra.specs.Affine.{HasNoQuotient, Sum, constant, variable, remainder, quotient, added, mods}
use Rattle.perm_algebra.specs.Affine.{reduced, scaled, top}
use Rattle.sigma_spl.proofs.Walk.{chosen}
use Rattle.tree_model.specs.Breakdown.{Breakdown, leaf, node, size_of}
use Rattle.tree_model.specs.Cost.{is_kernel, is_plain, node_root}
use Rattle.tree_model.specs.Whole.{left_of, right_of}
use Rattle.tree_model.specs.declared.tree.Rule.{Rule}
use Rattle.tree_model.specs.declared.tree.Rule.TheVariants.{Gt, Ct}
use Rattle.generate.specs.Emission.Passes.{Factors, Pass, Site, entries, left_site, moved, node_work, none, passes}
use Rattle.generate.specs.Emission.Passes.{right_site, site_by, twiddled}
use Rattle.generate.specs.Emission.Places.{PlaceFunction, after, blocks, columns, inside, left_out, right_in, same}
use Rattle.generate.specs.Emission.Places.{turn_of}
use Rattle.generate.specs.Emission.Root.{across, along, in_lanes, lane_loops, left_root, packed, processor_loops}
use Rattle.generate.specs.Emission.Root.{right_root, root_in, root_phases, share, shared, strided, tile_column}
use Rattle.generate.specs.Emission.Root.{tile_row, tiles, tiles_after, tiles_before, turns}
use Rattle.generate.specs.Emission.Whole.{closing_factors, phases_of, whole_site}
use Rattle.generate.proofs.Emission.Nested.{pass_at}
use Rattle.generate.proofs.Emission.PassBodies.{ArePlainFactors, IsPlainSite, KeepsPlain}
use Rattle.generate.proofs.Emission.PassPrograms.{ArePlain, ArePlainPhases}

-- ---- sums

plain-mods : (n : ℕ) (e : Sum) → HasNoQuotient e → HasNoQuotient (mods n e)
plain-mods n (constant c) h = tt
plain-mods n (variable f d rest) h =
    chosen HasNoQuotient (f % n == 0) (mods n rest) (variable (f % n) d (mods n rest)) (λ _. plain-mods n rest h)
    (plain-mods n rest h)
plain-mods n (remainder f of m rest) h =
    chosen HasNoQuotient (f % n == 0) (mods n rest) (remainder (f % n) of m (mods n rest)) (λ _. plain-mods n rest h.1)
    (h.0, plain-mods n rest h.1)
plain-mods n (quotient f of m rest) h = absurd h

plain-reduced : (cs : ℕ → ℕ) (n : ℕ) (e : Sum) → HasNoQuotient e → HasNoQuotient (reduced cs n e)
plain-reduced cs n e h =
    chosen HasNoQuotient (nat_lt (top (mods n e) cs) n) (mods n e) (remainder 1 (mods n e) n (constant 0))
    (λ _. plain-mods n e h) (plain-mods n e h, tt)

plain-turn : (counts : List ℕ) (n : ℕ) → HasNoQuotient (turn_of counts n)
plain-turn counts n = chosen HasNoQuotient (n == 1) (constant 0) _ (λ _. tt) tt

both : (a b : ℕ) (x y : Sum) → HasNoQuotient x → HasNoQuotient y → HasNoQuotient (added (scaled a x) (scaled b y))
both a b x y h k = plain-added (scaled a x) (scaled b y) (plain-scaled a x h) (plain-scaled b y k)

one : (a : ℕ) (x y : Sum) → HasNoQuotient x → HasNoQuotient y → HasNoQuotient (added (scaled a x) y)
one a x y h k = plain-added (scaled a x) y (plain-scaled a x h) k

-- ---- rules

keeps-in : (rule : Rule) (r s : ℕ) (i : Sum) → HasNoQuotient i → KeepsPlain (right_in rule r s i)
keeps-in Gt r s i h cs k p = plain-reduced cs (r * s) (added (scaled s i) (scaled r k)) (both s r i k h p)
keeps-in Ct r s i h cs k p = one r k i p h
keeps-in _ r s i h cs k p = one s i k h p

keeps-out : (rule : Rule) (r s : ℕ) (j : Sum) → HasNoQuotient j → KeepsPlain (left_out rule r s j)
keeps-out Gt r s j h cs k p =
    plain-reduced cs (r * s) (added (scaled (unit_below r s r) k) (scaled (unit_below s r s) j))
    (both (unit_below r s r) (unit_below s r s) k j p h)
keeps-out Ct r s j h cs k p = one s k j p h
keeps-out _ r s j h cs k p = one s k j p h

plain-moved : (f : Factors) (g : PlaceFunction) → ArePlainFactors f → KeepsPlain g → ArePlainFactors (moved f g)
plain-moved (entries diagonal f) g h k = λ cs e p. h cs (g cs e) (k cs e p)
plain-moved _ g h k = tt

plain-twiddled : (rule : Rule) (r s root : ℕ) (f : PlaceFunction) → KeepsPlain f →
    ArePlainFactors (twiddled rule r s root f)
plain-twiddled Ct r s root f h = h
plain-twiddled _ r s root f h = tt

by-plain : (counts : List ℕ) (load : PlaceFunction) (f : Factors) (at : PlaceFunction) → KeepsPlain load →
    ArePlainFactors f → KeepsPlain at → IsPlainSite (site_by counts load f at)
by-plain counts load f at h k l = record { load = h; keep = l; factors = k; store = l }

right-plain : (rule : Rule) (r s root : ℕ) (o : Site) → IsPlainSite o → IsPlainSite (right_site rule r s root o)
right-plain rule r s root o h =
    let i = turn_of o.counts r in
    let here : KeepsPlain (blocks s i) = λ cs k p. one s i k (plain-turn o.counts r) p in
    by-plain (inside o.counts r) (after o.load (right_in rule r s i)) (twiddled rule r s root (blocks s i))
    (after o.keep (blocks s i))
    (λ cs k p. h.load cs (right_in rule r s i cs k) (keeps-in rule r s i (plain-turn o.counts r) cs k p))
    (plain-twiddled rule r s root (blocks s i) here) (λ cs k p. h.keep cs (blocks s i cs k) (here cs k p))

left-plain : (rule : Rule) (r s : ℕ) (o : Site) → IsPlainSite o → IsPlainSite (left_site rule r s o)
left-plain rule r s o h =
    let j = turn_of o.counts s in
    let keeps : KeepsPlain (after o.keep (columns s j)) =
    λ cs k p. h.keep cs (columns s j cs k) (one s k j p (plain-turn o.counts s)) in
    let out = keeps-out rule r s j (plain-turn o.counts s) in
    record {
      load = keeps;
      keep = keeps;
      factors = plain-moved o.factors (left_out rule r s j) h.factors out;
      store = λ cs k p. h.store cs (left_out rule r s j cs k) (out cs k p);
    }

-- ---- passes

plain-append : (ps qs : List Pass) → ArePlain ps → ArePlain qs → ArePlain (ps ++ qs)
plain-append [] qs h k = k
plain-append (p ∷ ps) qs h k = (h.0, plain-append ps qs h.1 k)

pub plain-passes : (c : Request) (o : Site) (t : Breakdown) → IsPlainSite o → ArePlain (passes c o t)
plain-passes c o (leaf d) h = (h, tt)
plain-passes c o (node rule a b) h =
    let r = size_of a in
    let s = size_of b in
    let root = node_root c (r * s) in
    chosen ArePlain (is_kernel c (r * s)) (pass_at o (node_work c (node rule a b)) ∷ []) _
    (λ _. (h, tt))
    (plain-append (passes (right_of rule c) (right_site rule r s root o) b) _
    (plain-passes (right_of rule c) (right_site rule r s root o) b (right-plain rule r s root o h))
    (plain-passes (left_of rule c) (left_site rule r s o) a (left-plain rule r s o h)))

-- ---- the root

module _ (c : Request) where
  plain-shared : (n : ℕ) (counts : List ℕ) → HasNoQuotient (shared c n counts)
  plain-shared n counts =
      one (share c n) (turn_of [] c.procs) _ (plain-turn [] c.procs) (plain-turn counts (share c n))

  plain-lanes : (i : Sum) → HasNoQuotient i → HasNoQuotient (in_lanes c i)
  plain-lanes i h = one c.lanes i (turn_of (processor_loops c) c.lanes) h (plain-turn (processor_loops c) c.lanes)

  plain-turns : (n : ℕ) → HasNoQuotient (in_lanes c (shared c n (lane_loops c)))
  plain-turns n = plain-lanes (shared c n (lane_loops c)) (plain-shared n (lane_loops c))

  keeps-packed : (r s : ℕ) → KeepsPlain (packed c r s)
  keeps-packed r s cs k p =
      let i = shared c r (lane_loops c) in
      plain-lanes (added (scaled s i) k) (one s i k (plain-shared r (lane_loops c)) p)

  keeps-root : (rule : Rule) (r s : ℕ) → KeepsPlain (root_in rule c r s)
  keeps-root Ct r s = λ cs k p. one r k (in_lanes c (shared c r (lane_loops c))) p (plain-turns r)
  keeps-root _ r s = keeps-packed r s

  keeps-strided : (s : ℕ) → KeepsPlain (strided c s)
  keeps-strided s cs k p = one s k (in_lanes c (shared c s (lane_loops c))) p (plain-turns s)

  plain-row : (r : ℕ) → HasNoQuotient (tile_row c r)
  plain-row r = plain-shared r (processor_loops c)

  plain-column : (r s : ℕ) → HasNoQuotient (tile_column c r s)
  plain-column r s = plain-turn (turns c r (processor_loops c)) (s / c.lanes)

  keeps-along : (r s : ℕ) → KeepsPlain (along c r s)
  keeps-along r s cs k p =
      let i = tile_row c r in
      let j = tile_column c r s in
      plain-scaled c.lanes (added (scaled s i) (added (scaled c.lanes j) k))
      (one s i (added (scaled c.lanes j) k) (plain-row r) (one c.lanes j k (plain-column r s) p))

  keeps-across : (r s : ℕ) → KeepsPlain (across c r s)
  keeps-across r s cs k p =
      let i = tile_row c r in
      let j = tile_column c r s in
      both s c.lanes (added (scaled c.lanes i) k) j (one c.lanes i k (plain-row r) p) (plain-column r s)

  plain-right : (rule : Rule) (r s root : ℕ) → IsPlainSite (right_root rule c r s root)
  plain-right rule r s root =
      by-plain (turns c r (lane_loops c)) (root_in rule c r s) _ (packed c r s) (keeps-root rule r s)
      (chosen ArePlainFactors (c.lanes == 1) (twiddled rule r s root (packed c r s)) none
      (λ _. plain-twiddled rule r s root (packed c r s) (keeps-packed r s)) tt)
      (keeps-packed r s)

  plain-left : (s : ℕ) (f : Factors) → ArePlainFactors f → IsPlainSite (left_root c s f)
  plain-left s f h =
      by-plain (turns c s (lane_loops c)) (strided c s) (moved f (strided c s)) (strided c s) (keeps-strided s)
      (plain-moved f (strided c s) h (keeps-strided s)) (keeps-strided s)

  plain-tiles : (r s : ℕ) (load : PlaceFunction) (f : Factors) (store : PlaceFunction) → KeepsPlain load →
      ArePlainFactors f → KeepsPlain store → ArePlain (tiles c r s load f store)
  plain-tiles r s load f store h k l =
      chosen ArePlain (c.lanes == 1) [] _ (λ _. tt)
      (by-plain (inside (turns c r (processor_loops c)) (s / c.lanes)) load f store h k l, tt)

  plain-before : (rule : Rule) (r s : ℕ) → ArePlain (tiles_before rule c r s)
  plain-before Ct r s = tt
  plain-before _ r s = plain-tiles r s (across c r s) none (along c r s) (keeps-across r s) tt (keeps-along r s)

  plain-root : (factors : Factors) (t : Breakdown) → ArePlainFactors factors →
      ArePlainPhases (root_phases c factors t)
  plain-root factors (leaf d) h = tt
  plain-root factors (node rule a b) h =
      let r = size_of a in
      let s = size_of b in
      let root = node_root c (r * s) in
      let right = passes (right_of rule c) (right_root rule c r s root) b in
      let first : ArePlain (tiles_before rule c r s ++ (right ++ tiles_after rule c r s root)) =
      plain-append (tiles_before rule c r s) (right ++ tiles_after rule c r s root) (plain-before rule r s)
      (plain-append right (tiles_after rule c r s root)
      (plain-passes (right_of rule c) (right_root rule c r s root) b (plain-right rule r s root))
      (plain-tiles r s (along c r s) _ (across c r s) (keeps-along r s)
      (plain-twiddled rule r s root (across c r s) (keeps-across r s)) (keeps-across r s))) in
      let second = plain-passes (left_of rule c) (left_root c s factors) a (plain-left s factors h) in
      chosen ArePlainPhases (c.procs == 1) _ _ (λ _. (plain-append _ _ first second, tt)) (first, (second, tt))

-- ---- wholes

pub plain-whole : (f : Factors) → ArePlainFactors f → IsPlainSite (whole_site f)
plain-whole f h = by-plain [] same f same (λ cs k p. p) h (λ cs k p. p)

pub plain-closing : (kind : Kind) (c : Request) → ArePlainFactors (closing_factors kind c)
plain-closing Dft c = tt
plain-closing _ c = tt

pub plain-phases : (c : Request) (f : Factors) (t : Breakdown) → ArePlainFactors f → ArePlainPhases (phases_of c f t)
plain-phases c f t h =
    chosen ArePlainPhases (is_plain c) (passes c (whole_site f) t ∷ []) (root_phases c f t)
    (λ _. (plain-passes c (whole_site f) t (plain-whole f h), tt)) (plain-root c f t h)

-- the passes of a convolution
pub plain-joined-passes : (ps qs : List Pass) → ArePlain ps → ArePlain qs → ArePlainPhases ((ps ++ qs) ∷ [])
plain-joined-passes ps qs h k = (plain-append ps qs h k, tt)
