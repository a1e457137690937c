-- The passes of a layout are framed.
use Rattle.sigma_lower.proofs.Words.{◌≡◌, ℕ, ◌*◌, ◌/◌, ◌%◌, ◌≤◌, Bool, true, false, arith, refl, sym, ap, ◌∙◌, List, []}
use Rattle.sigma_lower.proofs.Words.{◌∷◌, ◌++◌, if◌then◌else◌, subst, inl, inr, append-nil, ◌==◌, map, div-add-mod'}
use Rattle.sigma_lower.proofs.Words.{cases_eq, Mapping, Strided, ThomasIn, ThomasBack, Target, PlainPass, Merging}
use Rattle.sigma_lower.proofs.Words.{merge_term, passes_of_terms, in_order, merged_of, right_path, left_path}
use Rattle.sigma_lower.proofs.Words.{whole_path, tile_path, lines_moved, vectors_turned, vectors_grouped, lines_dealt}
use Rattle.sigma_lower.proofs.Words.{left_core, left_terms, right_terms, root_terms, PlainTerm, gath, scat, diag, nest}
use Rattle.sigma_lower.proofs.Words.{lowered, PlainWork, tile, wrapped, unit_of, AllFramed, within, steps_of, Blocks}
use Rattle.sigma_lower.proofs.Words.{Columns, Path, size_under, HasParts, RootHasParts, CanShareLayout, Layout, work}
use Rattle.sigma_lower.proofs.Words.{by, layout_size, IsGoodLayout, IsGoodWork, chosen, is_alone, lane_step, is-one}
use Rattle.sigma_lower.proofs.Words.{blocks-within, one_proc, one_lane}
use Rattle.sigma_lower.proofs.TreeLoops.SharedPasses.Lanes.{HasStep, Laned, all-framed, laned-gath, laned-scat}
use Rattle.sigma_lower.proofs.TreeLoops.SharedPasses.Lanes.{laned-diag, laned-nest, laned-weaken, single-step}
use Rattle.sigma_lower.proofs.TreeLoops.SharedPasses.Lanes.{vectors-step}
use Rattle.sigma_lower.proofs.TreeLoops.Emitted.{as_lowered, emitted, emitted-lowered}
use Rattle.sigma_lower.proofs.TreeLoops.SharedPasses.Merging.{nothing}
use Rattle.sigma_lower.proofs.TreeLoops.TreePasses.{back}
use Rattle.sigma_lower.proofs.TreeLoops.Walks.{Brings, IsLaw, Keeps, Point, RightKeeps, begun, brings-law, done, ready}
use Rattle.sigma_lower.proofs.TreeLoops.Walks.{right-law, settled, steps-law, tiled}
use Rattle.sigma_lower.proofs.TreeLoops.SharedPasses.Naturals.{IsLoop, transform-loop, one-step, tile-loop}
use Rattle.sigma_lower.proofs.TreeTerms.Vectors.{KeepsVectors, HasVectors, single-vectors, vectors-append}
use Rattle.sigma_lower.proofs.TreeTerms.Vectors.{vectors-blocks, vectors-columns, keeps-wrapped}
use Rattle.sigma_lower.proofs.TreeTerms.Both.{plain_terms}
use Rattle.sigma_lower.proofs.TreeTerms.RootTerms.{shared_terms, rule-fits, rule-shared}
use Rattle.sigma_lower.proofs.TreeTerms.Behind.{within-append}

-- ---- the law

-- a pass of any work, one of a transform, and one that a diagonal of n words at the root fits: over tiles, or of one lane
abbrev Whatever : PlainWork → Type 0
Whatever w = Unit {0}

abbrev Transforms : PlainWork → Type 0
Transforms w = lane_step w ≡ 0

abbrev FitsRoot : Target → ℕ → PlainWork → Type 0
FitsRoot c n w = HasStep c.lanes (lane_step w) [] n

-- the last pass at a point
abbrev LastAt : Target → ℕ → Point → PlainWork → Type 0
LastAt c n done = Transforms
LastAt c n tiled = FitsRoot c n
LastAt c n _ = Whatever

abbrev LanedAt : Target → ℕ → Point → Merging → Type 0
LanedAt c n i st = Laned c (LastAt c n i) st

abbrev Lanes : Target → ℕ → Point → List PlainTerm → Point → Type 0
Lanes c n = Brings (LanedAt c n)

laned-free : (c : Target) (n : ℕ) (i : Point) (st : Merging) → LanedAt c n i st → Laned c Whatever st
laned-free c n i st h = laned-weaken c (LastAt c n i) Whatever st (λ w e. tt) h

law : (c : Target) (n : ℕ) → IsLaw (Lanes c n)
law c n = brings-law (LanedAt c n) (laned-free c n) (laned-free c n tiled)

gathers : (c : Target) (n : ℕ) (f : Mapping) → KeepsVectors c.lanes f → Lanes c n ready (gath f ∷ []) ready
gathers c n f keeps st h = laned-gath c Whatever st f keeps h

transforms : (c : Target) (n : ℕ) (path : Path) (w : PlainWork) → IsGoodWork c.modulus w → IsLoop c path w →
    Lanes c n ready (nest path w ∷ []) done
transforms c n path w good loop st h = laned-nest c Whatever Transforms st path w loop (one-step c.modulus w good) h

multiplies : (c : Target) (n : ℕ) (path : Path) (r s w : ℕ) → HasVectors c.lanes path →
    Lanes c n done (diag path r s w ∷ []) ready
multiplies c n path r s w h st is =
    laned-free c n done (merge_term st (diag path r s w))
    (laned-diag c Transforms st path r s w
    (λ does zero. vectors-step c.lanes (lane_step does) path (r * s) h zero) is)

scatters : (c : Target) (n : ℕ) (i : Point) (f : Mapping) → KeepsVectors c.lanes f → Lanes c n i (scat f ∷ []) i
scatters c n i f keeps st h = laned-scat c (LastAt c n i) st f keeps h

-- ---- the steps of a part under this path, lowered

lowered-keeps : (c : Target) (n : ℕ) (pre : Path) (m : ℕ) → HasVectors c.lanes pre →
    ((path : Path) (w : PlainWork) → IsGoodWork c.modulus w → IsLoop c (pre ++ path) w) →
    Keeps (Lanes c n) c.modulus pre m as_lowered
lowered-keeps c n pre m h loops =
    let vectors = λ (path : Path). vectors-append c.lanes pre path h in
    let keeps = λ (path : Path) (k : ℕ) (f : Mapping). keeps-wrapped c.lanes (pre ++ path) k f (vectors path) in
    record {
      pieces = λ path w good e. transforms c n (pre ++ path) w good (loops path w good);
      turned = λ path r s e.
          gathers c n (wrapped (pre ++ path) (r * s) (Strided r s)) (keeps path (r * s) (Strided r s));
      twiddled = λ path r s w e. multiplies c n (pre ++ path) r s w (vectors path);
      gathered = λ path r s e.
          gathers c n (wrapped (pre ++ path) (r * s) (ThomasIn r s)) (keeps path (r * s) (ThomasIn r s));
      scattered = λ path r s e.
          scatters c n done (back (pre ++ path) r s) (keeps path (r * s) (ThomasBack r s (unit_of r s) (unit_of s r)));
    }

part-laned : (c : Target) (n : ℕ) (pre : Path) (b : Layout) → IsGoodLayout c.modulus b → HasVectors c.lanes pre →
    ((path : Path) (w : PlainWork) → IsGoodWork c.modulus w → IsLoop c (pre ++ path) w) →
    Lanes c n ready (map lowered (steps_of pre b)) done
part-laned c n pre b good h loops =
    let m = size_under (pre ++ []) (layout_size b) in
    subst (λ ts. Lanes c n ready ts done) (emitted-lowered (steps_of pre b))
    (subst (λ path. Lanes c n ready (emitted as_lowered (steps_of path b)) done) (append-nil pre)
    (steps-law (Lanes c n) (law c n) c.modulus pre m as_lowered (lowered-keeps c n pre m h loops) [] b good refl))

-- ---- the left part

left-loops : (c : Target) (s : ℕ) (path : Path) (w : PlainWork) → IsGoodWork c.modulus w →
    IsLoop c (left_path c.procs c.lanes s ++ path) w
left-loops c s path w good =
    let columns = within (Columns (s / c.procs / c.lanes)) [] in
    transform-loop c.modulus c w (left_path c.procs c.lanes s ++ path) (columns ++ path) good
    (within-append (Blocks c.procs) (within (Columns c.lanes) columns) path ∙ ap (within (Blocks c.procs)) (within-append (Columns c.lanes) columns path))

left-piece : (c : Target) (n : ℕ) (b : Bool) (path : Path) (w : PlainWork) (f g : Mapping) →
    IsGoodWork c.modulus w → IsLoop c path w → KeepsVectors c.lanes f → KeepsVectors c.lanes g →
    Lanes c n ready (if b then nest path w ∷ [] else gath f ∷ nest path w ∷ scat g ∷ []) done
left-piece c n true path w f g good loop keeps keeps_back = transforms c n path w good loop
left-piece c n false path w f g good loop keeps keeps_back =
    (law c n).both ready ready done (gath f ∷ []) (nest path w ∷ scat g ∷ []) (gathers c n f keeps)
    ((law c n).both ready done done (nest path w ∷ []) (scat g ∷ []) (transforms c n path w good loop)
    (scatters c n done g keeps_back))

left-keeps : (c : Target) (n m k s : ℕ) → HasVectors c.lanes (Columns s ∷ []) →
    Keeps (Lanes c n) c.modulus [] k (left_core c.procs c.lanes m s)
left-keeps c n m k s h =
    let p = c.procs in
    let v = c.lanes in
    let columns = within (Columns (s / p / v)) [] in
    let dealt = λ (size : ℕ).
    keeps-wrapped v (within (Columns v) columns) size (Strided p m) (vectors-columns v columns) in
    let keeps = λ (path : Path) (size : ℕ) (f : Mapping).
    keeps-wrapped v (whole_path v s ++ path) size f
    (vectors-append v (whole_path v s) path (vectors-columns v (within (Columns (s / v)) []))) in
    record {
      pieces = λ path w good e.
          left-piece c n (p == 1) (left_path p v s ++ path) w (lines_dealt (p * m) p v m s)
          (lines_dealt (m * p) p v m s) good (left-loops c s path w good) (dealt (p * m)) (dealt (m * p));
      turned = λ path a b e.
          gathers c n (wrapped (whole_path v s ++ path) (a * b) (Strided a b)) (keeps path (a * b) (Strided a b));
      twiddled = λ path a b w e. multiplies c n (Columns s ∷ path) a b w h;
      gathered = λ path a b e.
          gathers c n (wrapped (whole_path v s ++ path) (a * b) (ThomasIn a b)) (keeps path (a * b) (ThomasIn a b));
      scattered = λ path a b e.
          scatters c n done (back (whole_path v s ++ path) a b)
          (keeps path (a * b) (ThomasBack a b (unit_of a b) (unit_of b a)));
    }

left-laned : (c : Target) (n s : ℕ) (a : Layout) → IsGoodLayout c.modulus a → HasVectors c.lanes (Columns s ∷ []) →
    Lanes c n ready (left_terms c.procs c.lanes (layout_size a) s (steps_of [] a)) done
left-laned c n s a good h =
    let m = layout_size a in
    let emit = left_core c.procs c.lanes m s in
    steps-law (Lanes c n) (law c n) c.modulus [] m emit (left-keeps c n m m s h) [] a good refl

-- ---- the right part

right-loops : (c : Target) (r : ℕ) (path : Path) (w : PlainWork) → IsGoodWork c.modulus w →
    IsLoop c (right_path c.procs c.lanes r ++ path) w
right-loops c r path w good =
    let blocks = within (Blocks (r / c.procs / c.lanes)) [] in
    transform-loop c.modulus c w (right_path c.procs c.lanes r ++ path) (blocks ++ path) good
    (within-append (Blocks c.procs) (within (Columns c.lanes) blocks) path ∙ ap (within (Blocks c.procs)) (within-append (Columns c.lanes) blocks path))

turned-laned : (c : Target) (n : ℕ) (b : Bool) (f g : Mapping) → KeepsVectors c.lanes f → KeepsVectors c.lanes g →
    Lanes c n begun ((if b then [] else gath f ∷ []) ++ gath g ∷ []) ready
turned-laned c n true f g k l st h = laned-gath c Whatever st g l h
turned-laned c n false f g k l st h =
    laned-gath c Whatever (merge_term st (gath f)) g l (laned-gath c Whatever st f k h)

-- ---- tiles

tile-loops : (c : Target) (r s : ℕ) → IsLoop c (tile_path c.procs c.lanes r s) (tile c.lanes)
tile-loops c r s =
    let inner = within (Blocks (s / c.lanes)) [] in
    tile-loop c (within (Blocks (r / c.procs / c.lanes)) inner) (blocks-within (r / c.procs / c.lanes) inner (blocks-within (s / c.lanes) [] tt))

grouped-keeps : (c : Target) (size r s : ℕ) → KeepsVectors c.lanes (vectors_grouped size c.procs c.lanes r s)
grouped-keeps c size r s =
    let blocks = within (Blocks c.procs) (within (Blocks (r / c.procs / c.lanes)) []) in
    keeps-wrapped c.lanes (within (Columns c.lanes) blocks) size (Strided (s / c.lanes) c.lanes) (vectors-columns c.lanes blocks)

before-laned : (c : Target) (n : ℕ) (b : Bool) (path : Path) (f : Mapping) → IsLoop c path (tile c.lanes) →
    KeepsVectors c.lanes f → Lanes c n begun (if b then [] else gath f ∷ nest path (tile c.lanes) ∷ []) ready
before-laned c n true path f loop k st h = h
before-laned c n false path f loop k st h =
    laned-nest c Whatever Whatever (merge_term st (gath f)) path (tile c.lanes) loop tt (laned-gath c Whatever st f k h)

after-laned : (c : Target) (n : ℕ) (b : Bool) (path : Path) (f : Mapping) → (b ≡ true → c.lanes ≡ 1) →
    IsLoop c path (tile c.lanes) → KeepsVectors c.lanes f →
    Lanes c n done (if b then [] else nest path (tile c.lanes) ∷ scat f ∷ []) tiled
after-laned c n true path f one loop k st h =
    laned-weaken c Transforms (FitsRoot c n) st (λ w e. single-step c.lanes (lane_step w) [] n (one refl)) h
after-laned c n false path f one loop k st h =
    laned-scat c (FitsRoot c n) (merge_term st (nest path (tile c.lanes))) f k
    (laned-nest c Transforms (FitsRoot c n) st path (tile c.lanes) loop (λ a l below. omega arith) h)

right-keeps : (c : Target) (w r : ℕ) (b : Layout) → IsGoodLayout c.modulus b →
    RightKeeps (Lanes c (r * layout_size b)) c.procs c.lanes r (layout_size b) w
    (map lowered (steps_of (right_path c.procs c.lanes r) b))
right-keeps c w r b good =
    let p = c.procs in
    let v = c.lanes in
    let s = layout_size b in
    let n = r * s in
    let columns = within (Columns (r / p / v)) [] in
    let lanes = within (Columns v) [] in
    let blocks = within (Blocks (r / p / v)) [] in
    record {
      turned = turned-laned c n (p == 1) (lines_moved p v r s) (vectors_turned p v r s)
          (keeps-wrapped v (within (Columns v) columns) (p * s) (Strided p s) (vectors-columns v columns))
          (keeps-wrapped v (within (Blocks p) lanes) (r / p / v * s) (Strided (r / p / v) s)
          (vectors-blocks v p lanes (vectors-columns v [])));
      before = before-laned c n (v == 1) (tile_path p v r s) (vectors_grouped (s / v * v) p v r s) (tile-loops c r s)
          (grouped-keeps c (s / v * v) r s);
      steps = part-laned c n (right_path p v r) b good
          (vectors-blocks v p (within (Columns v) blocks) (vectors-columns v blocks)) (right-loops c r);
      after = after-laned c n (v == 1) (tile_path p v r s) (vectors_grouped (v * (s / v)) p v r s) (is-one v)
          (tile-loops c r s) (grouped-keeps c (v * (s / v)) r s);
      twiddled = λ st h.
          laned-free c n tiled (merge_term st (diag [] r s w))
          (laned-diag c (FitsRoot c n) st [] r s w (λ does e. e) h);
    }

-- ---- the root

framed-append : (c : Target) (ps qs : List PlainPass) → AllFramed c ps → AllFramed c qs → AllFramed c (ps ++ qs)
framed-append c [] qs h k = k
framed-append c (p ∷ ps) qs h k = (h.0, framed-append c ps qs h.1 k)

brings-framed : (c : Target) (n : ℕ) (j : Point) (ts : List PlainTerm) → Lanes c n begun ts j →
    AllFramed c (passes_of_terms ts)
brings-framed c n j ts brings = all-framed c (λ p. LastAt c n j p.work) (passes_of_terms ts) (brings nothing (tt, tt)).0

columns-from : (c : Target) (r s : ℕ) → 1 ≤ c.lanes → HasParts c r s → HasVectors c.lanes (Columns s ∷ [])
columns-from c r s low fits =
    elim (cases_eq c.lanes 1) [
      | inl one ↦ single-vectors c.lanes (Columns s ∷ []) one
      | inr many ↦
          let even : s % c.lanes ≡ 0 = (fits.lanes (omega (arith, low, many))).1 in
          (s / c.lanes, sym (div-add-mod' s c.lanes) ∙ omega (arith, even))
    ]

root-framed : (c : Target) (l : Layout) → 1 ≤ c.lanes → RootHasParts c l → IsGoodLayout c.modulus l →
    AllFramed c (in_order (map passes_of_terms (root_terms c l)))
root-framed c (work w) low h good = absurd h
root-framed c (by rule w a b) low h good =
    let r = layout_size a in
    let s = layout_size b in
    let n = r * s in
    let first = right_terms c.procs c.lanes rule w a b in
    let second = left_terms c.procs c.lanes r s (steps_of [] a) in
    let right : Lanes c n begun first settled =
    right-law (Lanes c n) (law c n) c.procs c.lanes w a b (right-keeps c w r b good.2) rule
    (rule-shared c rule r s h) in
    let left : Lanes c n ready second done =
    left-laned c n s a good.1 (columns-from c r s low (rule-fits c rule r s h)) in
    let both = (law c n).both begun settled done first second right ((law c n).weak settled done second left) in
    let alone = brings-framed c n done second ((law c n).weak begun done second left) in
    chosen (λ phases. AllFramed c (in_order (map passes_of_terms phases))) (c.procs == 1) ((first ++ second) ∷ [])
    (first ∷ second ∷ [])
    (λ one. framed-append c (passes_of_terms (first ++ second)) [] (brings-framed c n done (first ++ second) both) tt)
    (framed-append c (passes_of_terms first) (passes_of_terms second ++ []) (brings-framed c n settled first right)
    (framed-append c (passes_of_terms second) [] alone tt))

-- ---- one processor and one lane

plain-loops : (c : Target) → is_alone c ≡ true → (path : Path) (w : PlainWork) → IsGoodWork c.modulus w →
    IsLoop c path w
plain-loops c h path w good =
    transform-loop c.modulus c w path path good
    (sym (ap (λ p. within (Blocks p) (within (Columns c.lanes) path)) (one_proc c h)
    ∙ ap (λ v. within (Columns v) path) (one_lane c h)))

plain-framed : (c : Target) (l : Layout) → IsGoodLayout c.modulus l → is_alone c ≡ true →
    AllFramed c (in_order (map passes_of_terms (map lowered (steps_of [] l) ∷ [])))
plain-framed c l good h =
    let steps = map lowered (steps_of [] l) in
    let brings : Lanes c 0 ready steps done = part-laned c 0 [] l good (one_lane c h) (plain-loops c h) in
    framed-append c (passes_of_terms steps) []
    (brings-framed c 0 done steps ((law c 0).weak begun done steps brings)) tt

-- ---- all layouts

framed-from : (c : Target) (l : Layout) (b : Bool) → is_alone c ≡ b → CanShareLayout c l → IsGoodLayout c.modulus l →
    AllFramed c (merged_of c l)
framed-from c l true e can good = subst (λ ts. AllFramed c (in_order (map passes_of_terms ts))) (sym (plain_terms c l e)) (plain-framed c l good e)
framed-from c l false e can good =
    subst (λ ts. AllFramed c (in_order (map passes_of_terms ts))) (sym (shared_terms c l can good e)) (root-framed c l can.lanes (can.root e) good)

-- the lanes of each register lie side by side in memory
pub passes_are_framed : (c : Target) (l : Layout) → CanShareLayout c l → IsGoodLayout c.modulus l →
    AllFramed c (merged_of c l)
passes_are_framed c l can good = framed-from c l (is_alone c) refl can good
