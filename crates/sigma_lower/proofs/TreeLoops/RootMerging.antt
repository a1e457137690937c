-- Merging the terms of a shared layout makes its passes.
use Rattle.sigma_lower.proofs.Words.{◌≡◌, ℕ, ◌*◌, ◌/◌, ◌==◌, Bool, true, false, List, [], ◌∷◌, ◌++◌, refl, sym, ap, ap₂}
use Rattle.sigma_lower.proofs.Words.{◌∙◌, if◌then◌else◌, append_assoc, map, None, option_map, map-append, Mapping, Same}
use Rattle.sigma_lower.proofs.Words.{Strided, ThomasIn, ThomasBack, Target, PlainPass, Merging, new_pass, scattered}
use Rattle.sigma_lower.proofs.Words.{merged, passes_of_terms, left_path, whole_path, right_path, tile_path, turned_in}
use Rattle.sigma_lower.proofs.Words.{tiled_before, tiled_after, lines_dealt, lines_moved, vectors_turned}
use Rattle.sigma_lower.proofs.Words.{vectors_grouped, left_core, left_terms, right_terms, root_terms, PlainTerm, gath}
use Rattle.sigma_lower.proofs.Words.{scat, diag, nest, lowered, PlainWork, tile, wrapped, unit_of, steps_of, Blocks}
use Rattle.sigma_lower.proofs.Words.{Columns, Path, size_under, Rule, Gt, Ct, Split, Layout, work, by, layout_size}
use Rattle.sigma_lower.proofs.Words.{Paired}
use Rattle.std.proofs.lemmas.List.{append-nil}
use Rattle.sigma_lower.proofs.TreeLoops.RootPasses.{turned_waiting, tile_before, tile_after, if_lanes, right_passes}
use Rattle.sigma_lower.proofs.TreeLoops.RootPasses.{on_all, if_dealt, left_diagonal, left_pass, left_passes}
use Rattle.sigma_lower.proofs.TreeLoops.RootPasses.{root_passes, RootPasses}
use Rattle.sigma_lower.proofs.TreeLoops.Emitted.{merged-both}
use Rattle.sigma_lower.proofs.TreeLoops.MadePasses.{Lifts, done, make-layout, merged_tree}
use Rattle.sigma_lower.proofs.TreeLoops.TreePasses.{layout_passes, at_last-append}
use Rattle.sigma_lower.proofs.TreeTerms.RootTerms.{shared_terms}
use Rattle.sigma_lower.proofs.TreeLoops.LeftPlaces.{size_under-append}

-- ---- the left part

-- the index function under two paths is that under the inner one, under the outer one
wrapped-append : (outer inner : Path) (n : ℕ) (f : Mapping) →
    wrapped (outer ++ inner) n f ≡ wrapped outer (size_under inner n) (wrapped inner n f)
wrapped-append [] inner n f = refl
wrapped-append (Blocks k ∷ outer) inner n f = ap₂ (λ z g. Paired Same z g z) (size_under-append outer inner n) (wrapped-append outer inner n f)
wrapped-append (Columns k ∷ outer) inner n f = ap (λ g. Paired g k Same k) (wrapped-append outer inner n f)

under-all : (v m s : ℕ) (path : Path) (n : ℕ) (f : Mapping) → size_under path n ≡ m →
    wrapped (whole_path v s ++ path) n f ≡ on_all v m s (wrapped path n f)
under-all v m s path n f e = wrapped-append (whole_path v s) path n f ∙ ap (λ k. wrapped (whole_path v s) k (wrapped path n f)) e

lifted-scattered : (p v m s : ℕ) (f : Mapping) (q : PlainPass) →
    scattered (on_all v m s f) (left_pass p v m s q) ≡ left_pass p v m s (scattered f q)
lifted-scattered p v m s f q =
    let dealt = if_dealt (m * p) p v m s in
    ap (λ fs. record { path = left_path p v s ++ q.path; work = q.work; befores = if_dealt (p * m) p v m s ++ map (on_all v m s) q.befores; diagonal = option_map (left_diagonal p v m s) q.diagonal; afters = fs })
    (append_assoc dealt (map (on_all v m s) q.afters) (on_all v m s f ∷ []) ∙ ap (λ gs. dealt ++ gs) (sym (map-append (on_all v m s) q.afters (f ∷ []))))

-- a node of the left part, as the processors share it
merged-piece : (b : Bool) (into out : Mapping) (path : Path) (w : PlainWork) (waiting : List Mapping)
    (ps : List PlainPass) →
    merged (record { waiting = waiting; passes = ps }) (if b then nest path w ∷ [] else gath into ∷ nest path w ∷ scat out ∷ []) ≡
    done (ps ++ record { path = path; work = w; befores = (if b then [] else into ∷ []) ++ waiting; diagonal = None; afters = (if b then [] else out ∷ []) ++ [] } ∷ [])
merged-piece true into out path w waiting ps = refl
merged-piece false into out path w waiting ps = ap done (at_last-append (scattered out) ps (new_pass path w (into ∷ waiting) ∷ []) tt)

lifts-left : (p v m s : ℕ) →
    Lifts m (left_core p v m s) (on_all v m s) (left_pass p v m s) (λ path. Columns s ∷ path)
lifts-left p v m s = record {
  pieces = λ path w fs ps.
      merged-piece (p == 1) (lines_dealt (p * m) p v m s) (lines_dealt (m * p) p v m s) (left_path p v s ++ path) w
      (map (on_all v m s) fs) ps;
  turned = λ path a b e. ap (λ f. gath f ∷ []) (under-all v m s path (a * b) (Strided a b) e);
  gathered = λ path a b e. ap (λ f. gath f ∷ []) (under-all v m s path (a * b) (ThomasIn a b) e);
  twiddled = λ path a b w. refl;
  taken_back = λ path a b e.
      ap (λ f. scat f ∷ []) (under-all v m s path (a * b) (ThomasBack a b (unit_of a b) (unit_of b a)) e);
  multiplies = λ path a b w q. refl;
  scatters = λ f q. lifted-scattered p v m s f q;
}

-- after passes that are there
merged-left : (p v s : ℕ) (a : Layout) (ps : List PlainPass) →
    merged (done ps) (left_terms p v (layout_size a) s (steps_of [] a)) ≡ done (ps ++ left_passes p v s a)
merged-left p v s a ps =
    let m = layout_size a in
    make-layout m (left_core p v m s) (on_all v m s) (left_pass p v m s) (λ path. Columns s ∷ path) (lifts-left p v m s)
    [] a refl [] ps

-- ---- the right part

merged-turned : (b : Bool) (first second : Mapping) → merged (done []) ((if b then [] else gath first ∷ []) ++ gath second ∷ []) ≡ record { waiting = second ∷ (if b then [] else first ∷ []); passes = [] }
merged-turned true first second = refl
merged-turned false first second = refl

merged-tile : (b : Bool) (path : Path) (w : PlainWork) (f : Mapping) (ps : List PlainPass) →
    merged (done ps) (if b then [] else nest path w ∷ scat f ∷ [])
    ≡ done (ps ++ (if b then [] else scattered f (new_pass path w []) ∷ []))
merged-tile true path w f ps = ap done (sym (append-nil ps))
merged-tile false path w f ps = ap done (at_last-append (scattered f) ps (new_pass path w [] ∷ []) tt)

merged-first_tile : (b : Bool) (path : Path) (w : PlainWork) (f : Mapping) →
    merged (done []) (if b then [] else gath f ∷ nest path w ∷ [])
    ≡ done (if b then [] else new_pass path w (f ∷ []) ∷ [])
merged-first_tile true path w f = refl
merged-first_tile false path w f = refl

merged-split : (p v w : ℕ) (a b : Layout) →
    merged (done []) (right_terms p v Split w a b) ≡ done (right_passes p v Split w a b)
merged-split p v w a b =
    let r = layout_size a in
    let s = layout_size b in
    let path = right_path p v r in
    let before = if_lanes v (tile_before p v r s) in
    let inner = layout_passes path [] b in
    merged-both (done []) (done before) _ (tiled_before p v r s) _
    (merged-first_tile (v == 1) (tile_path p v r s) (tile v) (vectors_grouped (s / v * v) p v r s))
    (merged-both (done before) (done (before ++ inner)) _ (map lowered (steps_of path b)) (tiled_after p v r s)
    (merged_tree path b [] before)
    (merged-tile (v == 1) (tile_path p v r s) (tile v) (vectors_grouped (v * (s / v)) p v r s) (before ++ inner)))
    ∙ ap done (append_assoc before inner (if_lanes v (tile_after p v r s)))

merged-right : (p v : ℕ) (rule : Rule) (w : ℕ) (a b : Layout) →
    merged (done []) (right_terms p v rule w a b) ≡ done (right_passes p v rule w a b)
merged-right p v Gt w a b = refl
merged-right p v Ct w a b =
    let r = layout_size a in
    let s = layout_size b in
    let path = right_path p v r in
    let fs = turned_waiting p v r s in
    let inner = layout_passes path fs b in
    merged-both (done []) (record { waiting = fs; passes = [] }) _ (turned_in p v r s) _
    (merged-turned (p == 1) (lines_moved p v r s) (vectors_turned p v r s))
    (merged-both (record { waiting = fs; passes = [] }) (done inner) _ (map lowered (steps_of path b)) _
    (merged_tree path b fs [])
    (merged-both (done inner) (done (inner ++ if_lanes v (tile_after p v r s))) _ (tiled_after p v r s)
    (diag [] r s w ∷ [])
    (merged-tile (v == 1) (tile_path p v r s) (tile v) (vectors_grouped (v * (s / v)) p v r s) inner) refl))
merged-right p v _ w a b = merged-split p v w a b

-- ---- the root

passes-phases : (b : Bool) (first second : List PlainTerm) (right left : List PlainPass) →
    merged (done []) first ≡ done right → merged (done []) second ≡ done left →
    merged (done []) (first ++ second) ≡ done (right ++ left) →
    map passes_of_terms (if b then (first ++ second) ∷ [] else first ∷ second ∷ [])
    ≡ (if b then (right ++ left) ∷ [] else right ∷ left ∷ [])
passes-phases true first second right left h k both = ap (λ (z : Merging). z.passes ∷ []) both
passes-phases false first second right left h k both = ap₂ (λ (y z : Merging). y.passes ∷ z.passes ∷ []) h k

pub passes-root : (c : Target) (l : Layout) → map passes_of_terms (root_terms c l) ≡ root_passes c l
passes-root c (work w) = refl
passes-root c (by rule w a b) =
    let p = c.procs in
    let v = c.lanes in
    let right = right_passes p v rule w a b in
    passes-phases (p == 1) (right_terms p v rule w a b) (left_terms p v (layout_size a) (layout_size b) (steps_of [] a)) (right_passes p v rule w a b) (left_passes p v (layout_size b) a)
    (merged-right p v rule w a b) (merged-left p v (layout_size b) a [])
    (merged-both (done []) (done right) _ (right_terms p v rule w a b) _ (merged-right p v rule w a b)
    (merged-left p v (layout_size b) a right))

pub root_merged : RootPasses
root_merged c l shares good shared = ap (map passes_of_terms) (shared_terms c l shares good shared) ∙ passes-root c l
