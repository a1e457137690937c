-- The terms of the steps of a root of r * s, as its processors and lanes cut them.
use Rattle.sigma_lower.proofs.Words.{◌≡◌, ◌≢◌, ℕ, ◌*◌, ◌/◌, refl, sym, ap, ap₂, ◌∙◌, List, [], ◌∷◌, ◌++◌, if◌then◌else◌}
use Rattle.sigma_lower.proofs.Words.{map, Option, None, Some, Strided, ThomasIn, ThomasBack, factors_of, within}
use Rattle.sigma_lower.proofs.Words.{PlainCore, piece, turns, twiddles, thomas_in, thomas_out, PlainStep, step, Blocks}
use Rattle.sigma_lower.proofs.Words.{Columns, Path, PlainWork, tile, Grid, kept, laned, laned_from, right_path}
use Rattle.sigma_lower.proofs.Words.{left_path, whole_path, lines_moved, vectors_turned, turned_in, tiled_before}
use Rattle.sigma_lower.proofs.Words.{tiled_after, left_core, PlainTerm, gath, scat, diag, nest, lowered_core}
use Rattle.sigma_lower.proofs.Words.{factor_term, wrapped, unit_of, unequal, cut_factors, Deal, settled, order_after}
use Rattle.sigma_lower.proofs.Words.{within-wide}
use Rattle.sigma_lower.specs.TreeTerms.Root.{left_piece}
use Rattle.sigma_lower.proofs.TreeTerms.Behind.{right-behind, left-behind, whole-behind, by-one}
use Rattle.smp_rewrite.specs.Smp as smp

-- What is left of a phase, where the words may lie in groups, begins with these terms. Steps of the right part leave the words in the groups, and all others in their own order.
pub record Cuts (cut : PlainStep → List smp.PlainFactor) (from : Option Grid → List smp.PlainFactor → List PlainTerm) (grid : Grid) (p v r s : ℕ) : Type 0 where
  pub root : (fs : List smp.PlainFactor) → from None (cut (step [] (turns r s)) ++ fs) ≡ turned_in p v r s
      ++ from (Some grid) fs
  pub right_first : (path : Path) (core : PlainCore) (fs : List smp.PlainFactor) →
      from None (cut (step (Blocks r ∷ path) core) ++ fs) ≡ tiled_before p v r s
      ++ (lowered_core (right_path p v r ++ path) core ∷ from (Some grid) fs)
  pub right_next : (path : Path) (core : PlainCore) (fs : List smp.PlainFactor) →
      from (Some grid) (cut (step (Blocks r ∷ path) core) ++ fs) ≡ lowered_core (right_path p v r ++ path) core
      ∷ from (Some grid) fs
  pub diagonal : (w : ℕ) (fs : List smp.PlainFactor) → from (Some grid) (cut (step [] (twiddles r s w)) ++ fs)
      ≡ tiled_after p v r s ++ (diag [] r s w ∷ from None fs)
  pub left_first : (path : Path) (core : PlainCore) (fs : List smp.PlainFactor) →
      from (Some grid) (cut (step (Columns s ∷ path) core) ++ fs) ≡ tiled_after p v r s
      ++ (left_core p v r s path core ++ from None fs)
  pub left_next : (path : Path) (core : PlainCore) (fs : List smp.PlainFactor) →
      from None (cut (step (Columns s ∷ path) core) ++ fs) ≡ left_core p v r s path core ++ from None fs
  pub ends : from (Some grid) [] ≡ tiled_after p v r s
  pub done : from None [] ≡ []

-- ---- several processors

pub cut-several : (n p : ℕ) (path : Path) (core : PlainCore) → p ≢ 1 →
    factors_of n p (step path core) ≡ cut_factors n p path core
cut-several n p path core h = ap (λ b. if b then smp.blocks (step path core) ∷ [] else cut_factors n p path core) (unequal p h)

turned-several : (p v r s : ℕ) → p ≢ 1 → turned_in p v r s ≡ gath (lines_moved p v r s) ∷ gath (vectors_turned p v r s)
    ∷ []
turned-several p v r s h = ap (λ b. (if b then [] else gath (lines_moved p v r s) ∷ []) ++ gath (vectors_turned p v r s) ∷ []) (unequal p h)

-- a matrix of k rows, whose lines come and go under the one path, on copies under the other
abbrev dealt_terms : ℕ → ℕ → Path → Path → PlainWork → List PlainTerm
dealt_terms p k lines copies t = gath (wrapped lines (p * k) (Strided p k)) ∷ nest copies t ∷ scat (wrapped lines (k * p) (Strided p k)) ∷ []

piece-several : (p v m s : ℕ) (path : Path) (t : PlainWork) → p ≢ 1 →
    left_piece p v m s path t ≡ dealt_terms p m (within (Columns v) (within (Columns (s / p / v)) []))
    (within (Blocks p) (within (Columns v) (within (Columns (s / p / v)) path))) t
piece-several p v m s path t h =
    let lines = within (Columns v) (within (Columns (s / p / v)) []) in
    ap (λ b. if b then nest (left_path p v s ++ path) t ∷ [] else dealt_terms p m lines (left_path p v s ++ path) t) (unequal p h)
    ∙ ap (λ copies. dealt_terms p m lines copies t) (left-behind p v s path)

-- ---- one lane

abbrev pub kept_from : ℕ → Option Grid → List smp.PlainFactor → List PlainTerm
kept_from p o fs = map (factor_term p 1) (map kept fs)

kept-right : (n p r : ℕ) (path : Path) (core : PlainCore) (fs : List smp.PlainFactor) → p ≢ 1 →
    kept_from p None (factors_of n p (step (Blocks r ∷ path) core) ++ fs) ≡ lowered_core (right_path p 1 r ++ path) core
    ∷ kept_from p None fs
kept-right n p r path core fs h =
    ap (λ gs. kept_from p None (gs ++ fs)) (cut-several n p (Blocks r ∷ path) core h)
    ∙ ap (λ q. lowered_core q core ∷ kept_from p None fs) (sym (right-behind p 1 r path ∙ ap (λ k. within (Blocks p) (within (Blocks k) path)) (by-one (r / p))))

kept-root : (n p r s : ℕ) (fs : List smp.PlainFactor) → p ≢ 1 →
    kept_from p None (factors_of n p (step [] (turns r s)) ++ fs) ≡ turned_in p 1 r s ++ kept_from p None fs
kept-root n p r s fs h =
    ap (λ gs. kept_from p None (gs ++ fs)) (cut-several n p [] (turns r s) h)
    ∙ ap (λ k. gath (wrapped (within (Columns k) []) (p * s) (Strided p s)) ∷ gath (wrapped (within (Blocks p) []) (k * s) (Strided k s)) ∷ kept_from p None fs) (sym (by-one (r / p)))
    ∙ ap (λ ts. ts ++ kept_from p None fs) (sym (turned-several p 1 r s h))

-- a permutation on all columns
one-whole : (s : ℕ) (path : Path) → s ≢ 1 → Columns s ∷ path ≡ whole_path 1 s ++ path
one-whole s path h = sym (within-wide (Columns s) path h) ∙ ap (λ k. within (Columns k) path) (sym (by-one s)) ∙ sym (whole-behind 1 s path)

kept-cut : (n p r s : ℕ) (path : Path) (core : PlainCore) (fs : List smp.PlainFactor) → p ≢ 1 → s ≢ 1 → n / s ≡ r →
    kept_from p None (cut_factors n p (Columns s ∷ path) core ++ fs) ≡ left_core p 1 r s path core
    ++ kept_from p None fs
kept-cut n p r s path (piece t) fs h columns rows =
    ap₂ (λ m k. dealt_terms p m (within (Columns k) []) (within (Blocks p) (within (Columns k) path)) t ++ kept_from p None fs) rows (sym (by-one (s / p)))
    ∙ ap (λ ts. ts ++ kept_from p None fs) (sym (piece-several p 1 r s path t h))
kept-cut n p r s path (turns a b) fs h columns rows = ap (λ q. gath (wrapped q (a * b) (Strided a b)) ∷ kept_from p None fs) (one-whole s path columns)
kept-cut n p r s path (twiddles a b w) fs h columns rows = refl
kept-cut n p r s path (thomas_in a b) fs h columns rows = ap (λ q. gath (wrapped q (a * b) (ThomasIn a b)) ∷ kept_from p None fs) (one-whole s path columns)
kept-cut n p r s path (thomas_out a b) fs h columns rows =
    ap (λ q. scat (wrapped q (a * b) (ThomasBack a b (unit_of a b) (unit_of b a))) ∷ kept_from p None fs) (one-whole s path columns)

kept-left : (n p r s : ℕ) (path : Path) (core : PlainCore) (fs : List smp.PlainFactor) → p ≢ 1 → s ≢ 1 → n / s ≡ r →
    kept_from p None (factors_of n p (step (Columns s ∷ path) core) ++ fs) ≡ left_core p 1 r s path core
    ++ kept_from p None fs
kept-left n p r s path core fs h columns rows =
    ap (λ gs. kept_from p None (gs ++ fs)) (cut-several n p (Columns s ∷ path) core h) ∙ kept-cut n p r s path core fs h columns rows

pub kept_cuts : (n p r s : ℕ) (g : Grid) → p ≢ 1 → s ≢ 1 → n / s ≡ r → Cuts (factors_of n p) (kept_from p) g p 1 r s
kept_cuts n p r s g h columns rows = record {
  root = λ fs. kept-root n p r s fs h;
  right_first = λ path core fs. kept-right n p r path core fs h;
  right_next = λ path core fs. kept-right n p r path core fs h;
  diagonal = λ w fs. ap (λ gs. kept_from p None (gs ++ fs)) (cut-several n p [] (twiddles r s w) h);
  left_first = λ path core fs. kept-left n p r s path core fs h columns rows;
  left_next = λ path core fs. kept-left n p r s path core fs h columns rows;
  ends = refl;
  done = refl;
}

-- ---- several lanes

abbrev pub deal : ℕ → ℕ → ℕ → Deal
deal p b v = record { procs = p; block = b; lanes = v }

-- the groups of rows of which each processor has u
abbrev pub grid_of : ℕ → ℕ → ℕ → Grid
grid_of b v u = record { groups = u / v; tiles = b / u / v }

abbrev pub laned_terms : ℕ → ℕ → ℕ → Option Grid → List smp.PlainFactor → List PlainTerm
laned_terms p b v o fs = map (factor_term p v) (laned_from (deal p b v) o fs)

-- rows side by side, in a groups that t tiles reach across, and one after the other again
abbrev joined_terms : ℕ → ℕ → ℕ → ℕ → List PlainTerm
joined_terms p v a t =
    gath (wrapped (within (Columns v) (within (Blocks p) (within (Blocks a) []))) (t * v) (Strided t v)) ∷ nest (within (Blocks p) (within (Blocks a) (within (Blocks t) []))) (tile v) ∷ []

abbrev parted_terms : ℕ → ℕ → ℕ → ℕ → List PlainTerm
parted_terms p v a t =
    nest (within (Blocks p) (within (Blocks a) (within (Blocks t) []))) (tile v) ∷ scat (wrapped (within (Columns v) (within (Blocks p) (within (Blocks a) []))) (v * t) (Strided t v)) ∷ []

before-several : (p v r s : ℕ) → v ≢ 1 → tiled_before p v r s ≡ joined_terms p v (r / p / v) (s / v)
before-several p v r s h = ap (λ b. if b then [] else joined_terms p v (r / p / v) (s / v)) (unequal v h)

after-several : (p v r s : ℕ) → v ≢ 1 → tiled_after p v r s ≡ parted_terms p v (r / p / v) (s / v)
after-several p v r s h = ap (λ b. if b then [] else parted_terms p v (r / p / v) (s / v)) (unequal v h)

-- how the root's rows are dealt: each processor has u of them
pub record Rows (p b v r s u : ℕ) : Type 0 where
  pub lanes : v ≢ 1
  pub rows : u ≡ r / p
  pub block : b / u ≡ s

groups-same : (p b v r s u : ℕ) → Rows p b v r s u → u / v ≡ r / p / v
groups-same p b v r s u h = ap (λ k. k / v) h.rows

tiles-same : (p b v r s u : ℕ) → Rows p b v r s u → b / u / v ≡ s / v
tiles-same p b v r s u h = ap (λ k. k / v) h.block

after-same : (p b v r s u : ℕ) → Rows p b v r s u → parted_terms p v (u / v) (b / u / v) ≡ tiled_after p v r s
after-same p b v r s u h = ap₂ (parted_terms p v) (groups-same p b v r s u h) (tiles-same p b v r s u h) ∙ sym (after-several p v r s h.lanes)

before-same : (p b v r s u : ℕ) → Rows p b v r s u → joined_terms p v (u / v) (b / u / v) ≡ tiled_before p v r s
before-same p b v r s u h = ap₂ (joined_terms p v) (groups-same p b v r s u h) (tiles-same p b v r s u h) ∙ sym (before-several p v r s h.lanes)

lane-same : (p b v r s u : ℕ) (path : Path) → Rows p b v r s u →
    within (Blocks p) (within (Columns v) (within (Blocks (u / v)) path)) ≡ right_path p v r ++ path
lane-same p b v r s u path h = ap (λ k. within (Blocks p) (within (Columns v) (within (Blocks k) path))) (groups-same p b v r s u h) ∙ sym (right-behind p v r path)

rows-first : (p b v r s u : ℕ) (path : Path) (core : PlainCore) (fs : List smp.PlainFactor) → Rows p b v r s u →
    laned_terms p b v None (smp.blocks (step (Blocks u ∷ path) core) ∷ fs) ≡ tiled_before p v r s
    ++ (lowered_core (right_path p v r ++ path) core ∷ laned_terms p b v (Some (grid_of b v u)) fs)
rows-first p b v r s u path core fs h =
    ap₂ (λ ts q. ts ++ (lowered_core q core ∷ laned_terms p b v (Some (grid_of b v u)) fs)) (before-same p b v r s u h) (lane-same p b v r s u path h)

rows-next : (p b v r s u : ℕ) (path : Path) (core : PlainCore) (fs : List smp.PlainFactor) → Rows p b v r s u →
    laned_terms p b v (Some (grid_of b v u)) (smp.blocks (step (Blocks u ∷ path) core) ∷ fs)
    ≡ lowered_core (right_path p v r ++ path) core ∷ laned_terms p b v (Some (grid_of b v u)) fs
rows-next p b v r s u path core fs h = ap (λ q. lowered_core q core ∷ laned_terms p b v (Some (grid_of b v u)) fs) (lane-same p b v r s u path h)

-- a factor that wants the words in their own order
settle-first : (p b v r s u : ℕ) (f : smp.PlainFactor) (fs : List smp.PlainFactor) → Rows p b v r s u →
    laned (deal p b v) (Some (grid_of b v u)) f ≡ settled (deal p b v) (Some (grid_of b v u))
    ++ laned (deal p b v) None f →
    laned_terms p b v (Some (grid_of b v u)) (f ∷ fs) ≡ tiled_after p v r s ++ laned_terms p b v None (f ∷ fs)
settle-first p b v r s u f fs h e =
    ap (λ gs. map (factor_term p v) (gs ++ laned_from (deal p b v) (order_after (deal p b v) f) fs)) e ∙ ap (λ ts. ts ++ laned_terms p b v None (f ∷ fs)) (after-same p b v r s u h)

-- ---- several lanes on one processor

column-settles : (d : Deal) (o : Option Grid) (s : ℕ) (path : Path) (core : PlainCore) →
    laned d o (smp.blocks (step (Columns s ∷ path) core)) ≡ settled d o
    ++ laned d None (smp.blocks (step (Columns s ∷ path) core))
column-settles d o s path (piece t) = refl
column-settles d o s path _ = refl

alone-left : (b v r s : ℕ) (path : Path) (core : PlainCore) (fs : List smp.PlainFactor) →
    laned_terms 1 b v None (smp.blocks (step (Columns s ∷ path) core) ∷ fs) ≡ left_core 1 v r s path core
    ++ laned_terms 1 b v None fs
alone-left b v r s path (piece t) fs =
    ap (λ q. nest q t ∷ laned_terms 1 b v None fs) (sym (left-behind 1 v s path ∙ ap (λ k. within (Columns v) (within (Columns (k / v)) path)) (by-one s)))
alone-left b v r s path (turns q k) fs = ap (λ w. gath (wrapped w (q * k) (Strided q k)) ∷ laned_terms 1 b v None fs) (sym (whole-behind v s path))
alone-left b v r s path (twiddles q k w) fs = refl
alone-left b v r s path (thomas_in q k) fs = ap (λ w. gath (wrapped w (q * k) (ThomasIn q k)) ∷ laned_terms 1 b v None fs) (sym (whole-behind v s path))
alone-left b v r s path (thomas_out q k) fs =
    ap (λ w. scat (wrapped w (q * k) (ThomasBack q k (unit_of q k) (unit_of k q))) ∷ laned_terms 1 b v None fs) (sym (whole-behind v s path))

alone-root : (b v r s : ℕ) (fs : List smp.PlainFactor) → Rows 1 b v r s r →
    laned_terms 1 b v None (smp.blocks (step [] (turns r s)) ∷ fs) ≡ turned_in 1 v r s
    ++ laned_terms 1 b v (Some (grid_of b v r)) fs
alone-root b v r s fs h =
    ap₂ (λ q t. gath (wrapped (within (Columns v) []) (q * s) (Strided q s)) ∷ laned_terms 1 b v (Some (record { groups = r / v; tiles = t })) fs) (groups-same 1 b v r s r h) (sym (tiles-same 1 b v r s r h))

pub alone_cuts : (n b v r s : ℕ) → Rows 1 b v r s r → Cuts (factors_of n 1) (laned_terms 1 b v) (grid_of b v r) 1 v r s
alone_cuts n b v r s h = record {
  root = λ fs. alone-root b v r s fs h;
  right_first = λ path core fs. rows-first 1 b v r s r path core fs h;
  right_next = λ path core fs. rows-next 1 b v r s r path core fs h;
  diagonal = λ w fs. settle-first 1 b v r s r (smp.blocks (step [] (twiddles r s w))) fs h refl;
  left_first = λ path core fs.
      settle-first 1 b v r s r (smp.blocks (step (Columns s ∷ path) core)) fs h (column-settles (deal 1 b v) (Some (grid_of b v r)) s path core)
      ∙ ap (λ ts. tiled_after 1 v r s ++ ts) (alone-left b v r s path core fs);
  left_next = λ path core fs. alone-left b v r s path core fs;
  ends = after-same 1 b v r s r h;
  done = refl;
}

-- ---- several lanes on several processors

-- a processor's rows and columns are several
pub record Dealt (p b v r s : ℕ) : Type 0 where
  pub procs : p ≢ 1
  pub dealt : Rows p b v r s (r / p)
  pub rows : r / p ≢ 1
  pub columns : s / p ≢ 1

among-right : (n p b v r s : ℕ) (path : Path) (core : PlainCore) → Dealt p b v r s →
    factors_of n p (step (Blocks r ∷ path) core) ≡ smp.blocks (step (Blocks (r / p) ∷ path) core) ∷ []
among-right n p b v r s path core h = cut-several n p (Blocks r ∷ path) core h.procs ∙ ap (λ q. smp.blocks (step q core) ∷ []) (within-wide (Blocks (r / p)) path h.rows)

among-root : (n p b v r s : ℕ) (fs : List smp.PlainFactor) → Dealt p b v r s →
    laned_terms p b v None (factors_of n p (step [] (turns r s)) ++ fs) ≡ turned_in p v r s
    ++ laned_terms p b v (Some (grid_of b v (r / p))) fs
among-root n p b v r s fs h =
    let u = r / p in
    ap (λ gs. laned_terms p b v None (gs ++ fs)) (cut-several n p [] (turns r s) h.procs)
    ∙ ap (λ q. laned_terms p b v None (smp.move_before (step q (turns p s)) ∷ smp.blocks (step [] (turns u s)) ∷ fs)) (within-wide (Columns u) [] h.rows)
    ∙ ap (λ t. gath (lines_moved p v r s) ∷ gath (vectors_turned p v r s) ∷ laned_terms p b v (Some (record { groups = u / v; tiles = t })) fs) (sym (tiles-same p b v r s u h.dealt))
    ∙ ap (λ ts. ts ++ laned_terms p b v (Some (grid_of b v u)) fs) (sym (turned-several p v r s h.procs))

-- the factors of a step of the left part
abbrev column_factors : ℕ → ℕ → ℕ → Path → PlainCore → List smp.PlainFactor
column_factors n p s path core = cut_factors n p (Columns s ∷ path) core

among-piece : (n p b v r s : ℕ) (o : Option Grid) (path : Path) (t : PlainWork) (fs : List smp.PlainFactor) →
    Dealt p b v r s →
    laned_terms p b v o (column_factors n p s path (piece t) ++ fs)
    ≡ laned_terms p b v o (smp.move_before (step (Columns (s / p) ∷ []) (turns p (n / s)))
    ∷ smp.blocks (step (Columns (s / p) ∷ path) (piece t)) ∷ smp.move_after
    (step (Columns (s / p) ∷ []) (turns (n / s) p)) ∷ fs)
among-piece n p b v r s o path t fs h =
    ap₂ (λ lines copies. laned_terms p b v o (smp.move_before (step lines (turns p (n / s))) ∷ smp.blocks (step copies (piece t)) ∷ smp.move_after (step lines (turns (n / s) p)) ∷ fs))
    (within-wide (Columns (s / p)) [] h.columns) (within-wide (Columns (s / p)) path h.columns)

among-cut : (n p b v r s : ℕ) (path : Path) (core : PlainCore) (fs : List smp.PlainFactor) → Dealt p b v r s →
    n / s ≡ r →
    laned_terms p b v None (column_factors n p s path core ++ fs) ≡ left_core p v r s path core
    ++ laned_terms p b v None fs
among-cut n p b v r s path (piece t) fs h rows =
    among-piece n p b v r s None path t fs h
    ∙ ap (λ m. dealt_terms p m (within (Columns v) (within (Columns (s / p / v)) [])) (within (Blocks p) (within (Columns v) (within (Columns (s / p / v)) path))) t ++ laned_terms p b v None fs) rows
    ∙ ap (λ ts. ts ++ laned_terms p b v None fs) (sym (piece-several p v r s path t h.procs))
among-cut n p b v r s path (turns q k) fs h rows = ap (λ w. gath (wrapped w (q * k) (Strided q k)) ∷ laned_terms p b v None fs) (sym (whole-behind v s path))
among-cut n p b v r s path (twiddles q k w) fs h rows = refl
among-cut n p b v r s path (thomas_in q k) fs h rows = ap (λ w. gath (wrapped w (q * k) (ThomasIn q k)) ∷ laned_terms p b v None fs) (sym (whole-behind v s path))
among-cut n p b v r s path (thomas_out q k) fs h rows =
    ap (λ w. scat (wrapped w (q * k) (ThomasBack q k (unit_of q k) (unit_of k q))) ∷ laned_terms p b v None fs) (sym (whole-behind v s path))

among-settles : (n p b v r s : ℕ) (path : Path) (core : PlainCore) (fs : List smp.PlainFactor) → Dealt p b v r s →
    laned_terms p b v (Some (grid_of b v (r / p))) (column_factors n p s path core ++ fs) ≡ tiled_after p v r s
    ++ laned_terms p b v None (column_factors n p s path core ++ fs)
among-settles n p b v r s path (piece t) fs h =
    let rest = smp.blocks (step (within (Columns (s / p)) path) (piece t)) ∷ smp.move_after (step (within (Columns (s / p)) []) (turns (n / s) p)) ∷ fs in
    settle-first p b v r s (r / p) (smp.move_before (step (within (Columns (s / p)) []) (turns p (n / s)))) rest h.dealt refl
among-settles n p b v r s path (turns q k) fs h = settle-first p b v r s (r / p) (smp.move_before (step (Columns s ∷ path) (turns q k))) fs h.dealt refl
among-settles n p b v r s path (twiddles q k w) fs h = settle-first p b v r s (r / p) (smp.diagonals (step (Columns s ∷ path) (twiddles q k w))) fs h.dealt refl
among-settles n p b v r s path (thomas_in q k) fs h = settle-first p b v r s (r / p) (smp.move_before (step (Columns s ∷ path) (thomas_in q k))) fs h.dealt refl
among-settles n p b v r s path (thomas_out q k) fs h = settle-first p b v r s (r / p) (smp.move_after (step (Columns s ∷ path) (thomas_out q k))) fs h.dealt refl

among-left : (n p b v r s : ℕ) (path : Path) (core : PlainCore) (fs : List smp.PlainFactor) → Dealt p b v r s →
    n / s ≡ r →
    laned_terms p b v None (factors_of n p (step (Columns s ∷ path) core) ++ fs) ≡ left_core p v r s path core
    ++ laned_terms p b v None fs
among-left n p b v r s path core fs h rows =
    ap (λ gs. laned_terms p b v None (gs ++ fs)) (cut-several n p (Columns s ∷ path) core h.procs) ∙ among-cut n p b v r s path core fs h rows

pub among_cuts : (n p b v r s : ℕ) → Dealt p b v r s → n / s ≡ r →
    Cuts (factors_of n p) (laned_terms p b v) (grid_of b v (r / p)) p v r s
among_cuts n p b v r s h rows =
    let u = r / p in
    let g = grid_of b v u in
    record {
      root = λ fs. among-root n p b v r s fs h;
      right_first = λ path core fs. ap (λ gs. laned_terms p b v None (gs ++ fs)) (among-right n p b v r s path core h) ∙ rows-first p b v r s u path core fs h.dealt;
      right_next = λ path core fs. ap (λ gs. laned_terms p b v (Some g) (gs ++ fs)) (among-right n p b v r s path core h) ∙ rows-next p b v r s u path core fs h.dealt;
      diagonal = λ w fs.
          ap (λ gs. laned_terms p b v (Some g) (gs ++ fs)) (cut-several n p [] (twiddles r s w) h.procs)
          ∙ settle-first p b v r s u (smp.diagonals (step [] (twiddles r s w))) fs h.dealt refl;
      left_first = λ path core fs.
          ap (λ gs. laned_terms p b v (Some g) (gs ++ fs)) (cut-several n p (Columns s ∷ path) core h.procs)
          ∙ among-settles n p b v r s path core fs h
          ∙ ap (λ ts. tiled_after p v r s ++ ts) (among-cut n p b v r s path core fs h rows);
      left_next = λ path core fs. among-left n p b v r s path core fs h rows;
      ends = after-same p b v r s u h.dealt;
      done = refl;
    }
