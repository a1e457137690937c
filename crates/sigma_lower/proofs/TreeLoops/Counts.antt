-- The merged passes of a layout are its passes, one by one.
use Rattle.sigma_lower.proofs.Words.{◌≡◌, ℕ, ◌*◌, ◌/◌, ◌≤◌, ◌==◌, Bool, true, false, arith, List, [], ◌∷◌, ◌++◌, refl}
use Rattle.sigma_lower.proofs.Words.{sym, ap, ap₂, ◌∙◌, if◌then◌else◌, append_assoc, map, Option, Some, None, nat_le}
use Rattle.sigma_lower.proofs.Words.{option_map, nat_tests, map-append, Target, Counted, works, tiles, with_twiddles}
use Rattle.sigma_lower.proofs.Words.{twiddle_last, twiddle_by, passes_of, tiled_passes, whole_passes, has_diagonal}
use Rattle.sigma_lower.proofs.Words.{counted_as, counted, PlainDiagonal, PlainPass, in_order, merged_of, right_path}
use Rattle.sigma_lower.proofs.Words.{left_path, PlainWork, kernel, Layout, work, by, layout_size, IsGoodLayout, within}
use Rattle.sigma_lower.proofs.Words.{Tensor, Blocks, Columns, Path, count_of, copies_of, Rule, Gt, Ct, Split, Dim}
use Rattle.sigma_lower.proofs.Words.{CanShareLayout, is_alone, copies-within}
use Rattle.std.proofs.Math.Nat.{mul_assoc}
use Rattle.std.proofs.lemmas.List.{append-nil}
use Rattle.sigma_lower.proofs.TreeLoops.RootDealt.{IsDealt, dealt_parts}
use Rattle.sigma_lower.proofs.TreeLoops.RootMerging.{root_merged}
use Rattle.sigma_lower.proofs.TreeLoops.RootPasses.{tile_before, tile_after, if_lanes, turned_waiting, right_passes}
use Rattle.sigma_lower.proofs.TreeLoops.RootPasses.{left_diagonal, left_pass, left_passes, root_passes}
use Rattle.sigma_lower.proofs.TreeLoops.TreePasses.{layout_passes, counted_passes, counted-multiplied}
use Rattle.sigma_lower.proofs.TreeLoops.Wholes.{plain_passes}
use Rattle.sigma_lower.proofs.TreeTerms.RootTerms.{IsShared, rule-fits, rule-shared}

-- ---- n times as many copies

abbrev more : ℕ → Counted → Counted
more n (works k w b) = works (n * k) w b
more n (tiles b) = tiles b

more-twiddled : (n : ℕ) (q : Counted) → with_twiddles (more n q) ≡ more n (with_twiddles q)
more-twiddled n (works k w b) = refl
more-twiddled n (tiles b) = refl

more-last : (n : ℕ) (ps : List Counted) → map (more n) (twiddle_last ps) ≡ twiddle_last (map (more n) ps)
more-last n [] = refl
more-last n (p ∷ []) = ap (λ q. q ∷ []) (sym (more-twiddled n p))
more-last n (p ∷ q ∷ ps) = ap (λ rest. more n p ∷ rest) (more-last n (q ∷ ps))

more-by : (n : ℕ) (rule : Rule) (ps : List Counted) → map (more n) (twiddle_by rule ps)
    ≡ twiddle_by rule (map (more n) ps)
more-by n Ct ps = more-last n ps
more-by n _ ps = refl

more-passes : (n k : ℕ) (l : Layout) → map (more n) (passes_of k l) ≡ passes_of (n * k) l
more-passes n k (work w) = refl
more-passes n k (by rule root a b) =
    let r = layout_size a in
    let s = layout_size b in
    map-append (more n) (twiddle_by rule (passes_of (k * r) b)) (passes_of (k * s) a)
    ∙ ap₂ (λ x y. x ++ y)
    (more-by n rule (passes_of (k * r) b) ∙ ap (twiddle_by rule) (more-passes n (k * r) b ∙ ap (λ j. passes_of j b) (sym (mul_assoc n k r))))
    (more-passes n (k * s) a ∙ ap (λ j. passes_of j a) (sym (mul_assoc n k s)))

-- ---- the left part

copies_of-append : (outer inner : Path) → copies_of (outer ++ inner) ≡ copies_of outer * copies_of inner
copies_of-append [] inner = omega arith
copies_of-append (t ∷ outer) inner = ap (λ n. count_of t * n) (copies_of-append outer inner) ∙ sym (mul_assoc (count_of t) (copies_of outer) (copies_of inner))

more-counted : (n k : ℕ) (w : PlainWork) (b : Bool) → counted_as (n * k) w b ≡ more n (counted_as k w b)
more-counted n k (kernel trees) b = refl
more-counted n k _ b = refl

same-diagonal : (f : PlainDiagonal → PlainDiagonal) (o : Option PlainDiagonal) →
    has_diagonal (option_map f o) ≡ has_diagonal o
same-diagonal f None = refl
same-diagonal f (Some d) = refl

counted-left : (p v m s : ℕ) (q : PlainPass) → counted (left_pass p v m s q) ≡ more (copies_of (left_path p v s))
    (counted q)
counted-left p v m s q =
    ap₂ (λ n b. counted_as n q.work b) (copies_of-append (left_path p v s) q.path) (same-diagonal (left_diagonal p v m s) q.diagonal)
    ∙ more-counted (copies_of (left_path p v s)) (copies_of q.path) q.work (has_diagonal q.diagonal)

counted-left_all : (p v m s : ℕ) (ps : List PlainPass) → map counted (map (left_pass p v m s) ps)
    ≡ map (more (copies_of (left_path p v s))) (map counted ps)
counted-left_all p v m s [] = refl
counted-left_all p v m s (q ∷ ps) = ap₂ (λ x y. x ∷ y) (counted-left p v m s q) (counted-left_all p v m s ps)

counted-left_passes : (m p v s : ℕ) (a : Layout) → IsGoodLayout m a →
    map counted (left_passes p v s a) ≡ passes_of (copies_of (left_path p v s) * 1) a
counted-left_passes m p v s a h =
    counted-left_all p v (layout_size a) s (layout_passes [] [] a)
    ∙ ap (map (more (copies_of (left_path p v s)))) (counted_passes m [] [] a h)
    ∙ more-passes (copies_of (left_path p v s)) 1 a

-- ---- the copies of the root's parts

pub copies-dealt : (p v k : ℕ) (t : Tensor) → count_of t ≡ k / p / v → IsDealt p v k →
    copies_of (within (Blocks p) (within (Columns v) (within t []))) ≡ k
copies-dealt p v k t is dealt =
    copies-within (Blocks p) (within (Columns v) (within t []))
    ∙ ap (λ n. p * n) (copies-within (Columns v) (within t []) ∙ ap (λ n. v * n) (copies-within t [] ∙ omega (arith, is)))
    ∙ dealt

-- ---- the right part

last-tile : (ps : List Counted) (b : Bool) → twiddle_last (ps ++ tiles b ∷ []) ≡ ps ++ tiles true ∷ []
last-tile (p ∷ q ∷ ps) b = ap (λ rest. p ∷ rest) (last-tile (q ∷ ps) b)
last-tile _ b = refl

counted-lanes : (b : Bool) (p : PlainPass) → map counted (if b then [] else p ∷ []) ≡ (if b then [] else counted p ∷ [])
counted-lanes true p = refl
counted-lanes false p = refl

-- the passes of the right part, with those over tiles where there are several lanes
abbrev counted_right : Rule → Bool → List Counted → List Counted
counted_right Gt one ps = []
counted_right Ct one ps = twiddle_last (ps ++ (if one then [] else tiles false ∷ []))
counted_right Split one ps = (if one then [] else tiles false ∷ []) ++ (ps ++ (if one then [] else tiles false ∷ []))
counted_right Dim one ps = (if one then [] else tiles false ∷ []) ++ (ps ++ (if one then [] else tiles false ∷ []))

counted-split : (m p v w : ℕ) (a b : Layout) → IsGoodLayout m b →
    map counted (right_passes p v Split w a b)
    ≡ counted_right Split (v == 1) (passes_of (copies_of (right_path p v (layout_size a))) b)
counted-split m p v w a b h =
    let r = layout_size a in
    let s = layout_size b in
    let inner = layout_passes (right_path p v r) [] b in
    map-append counted (if_lanes v (tile_before p v r s)) (inner ++ if_lanes v (tile_after p v r s))
    ∙ ap₂ (λ x y. x ++ y) (counted-lanes (v == 1) (tile_before p v r s))
    (map-append counted inner (if_lanes v (tile_after p v r s))
    ∙ ap₂ (λ x y. x ++ y) (counted_passes m (right_path p v r) [] b h) (counted-lanes (v == 1) (tile_after p v r s)))

counted-right_passes : (m p v : ℕ) (rule : Rule) (w : ℕ) (a b : Layout) → IsGoodLayout m b →
    map counted (right_passes p v rule w a b)
    ≡ counted_right rule (v == 1) (passes_of (copies_of (right_path p v (layout_size a))) b)
counted-right_passes m p v Gt w a b h = refl
counted-right_passes m p v Ct w a b h =
    let r = layout_size a in
    let s = layout_size b in
    let inner = layout_passes (right_path p v r) (turned_waiting p v r s) b in
    counted-multiplied [] r s w (inner ++ if_lanes v (tile_after p v r s))
    ∙ ap twiddle_last
    (map-append counted inner (if_lanes v (tile_after p v r s))
    ∙ ap₂ (λ x y. x ++ y) (counted_passes m (right_path p v r) (turned_waiting p v r s) b h)
    (counted-lanes (v == 1) (tile_after p v r s)))
counted-right_passes m p v _ w a b h = counted-split m p v w a b h

-- ---- the root

counted-phases : (b : Bool) (right left : List PlainPass) → map counted
    (in_order (if b then (right ++ left) ∷ [] else right ∷ left ∷ [])) ≡ map counted right ++ map counted left
counted-phases true right left = ap (map counted) (append-nil (right ++ left)) ∙ map-append counted right left
counted-phases false right left = ap (λ ps. map counted (right ++ ps)) (append-nil left) ∙ map-append counted right left

-- the root, on one lane and on several
root_passes_of : (rule : Rule) (root : ℕ) (a b : Layout) → passes_of 1 (by rule root a b)
    ≡ twiddle_by rule (passes_of (layout_size a) b) ++ passes_of (layout_size b) a
root_passes_of rule root a b =
    let r = layout_size a in
    let s = layout_size b in
    let r_is : 1 * r ≡ r = omega arith in
    let s_is : 1 * s ≡ s = omega arith in
    ap₂ (λ x y. twiddle_by rule (passes_of x b) ++ passes_of y a) r_is s_is

on_one_lane : (rule : Rule) (ps qs : List Counted) → IsShared rule →
    counted_right rule true ps ++ qs ≡ twiddle_by rule ps ++ qs
on_one_lane Gt ps qs h = absurd h
on_one_lane Ct ps qs h = ap (λ xs. twiddle_last xs ++ qs) (append-nil ps)
on_one_lane _ ps qs h = ap (λ xs. xs ++ qs) (append-nil ps)

split_on_lanes : (a b : Layout) →
    counted_right Split false (passes_of (layout_size a) b) ++ passes_of (layout_size b) a ≡ tiled_passes (by Split 0 a b)
split_on_lanes a b =
    ap (λ xs. tiles false ∷ xs)
    (append_assoc (passes_of (layout_size a) b) (tiles false ∷ []) (passes_of (layout_size b) a))

on_lanes : (rule : Rule) (root : ℕ) (a b : Layout) → IsShared rule →
    counted_right rule false (passes_of (layout_size a) b) ++ passes_of (layout_size b) a
    ≡ tiled_passes (by rule root a b)
on_lanes Gt root a b h = absurd h
on_lanes Ct root a b h =
    ap (λ xs. xs ++ passes_of (layout_size b) a) (last-tile (passes_of (layout_size a) b) false)
    ∙ append_assoc (passes_of (layout_size a) b) (tiles true ∷ []) (passes_of (layout_size b) a)
on_lanes _ root a b h = split_on_lanes a b

as_counted : (rule : Rule) (root : ℕ) (a b : Layout) → IsShared rule → (one few : Bool) → one ≡ few →
    counted_right rule one (passes_of (layout_size a) b) ++ passes_of (layout_size b) a
    ≡ (if few then passes_of 1 (by rule root a b) else tiled_passes (by rule root a b))
as_counted rule root a b h true true e = on_one_lane rule (passes_of (layout_size a) b) (passes_of (layout_size b) a) h ∙ sym (root_passes_of rule root a b)
as_counted rule root a b h false false e = on_lanes rule root a b h
as_counted rule root a b h _ _ e = absurd (cc)

pub counted-root : (c : Target) (rule : Rule) (root : ℕ) (a b : Layout) → IsShared rule →
    IsGoodLayout c.modulus (by rule root a b) → (c.lanes == 1) ≡ nat_le c.lanes 1 →
    IsDealt c.procs c.lanes (layout_size a) → IsDealt c.procs c.lanes (layout_size b) →
    map counted (in_order (root_passes c (by rule root a b))) ≡ whole_passes c.lanes (by rule root a b)
counted-root c rule root a b h good lanes dealt_r dealt_s =
    let p = c.procs in
    let v = c.lanes in
    let r = layout_size a in
    let s = layout_size b in
    let right_is : copies_of (right_path p v r) ≡ r = copies-dealt p v r (Blocks (r / p / v)) refl dealt_r in
    let left_copies : copies_of (left_path p v s) ≡ s = copies-dealt p v s (Columns (s / p / v)) refl dealt_s in
    let left_is : copies_of (left_path p v s) * 1 ≡ s = omega (arith, left_copies) in
    counted-phases (p == 1) (right_passes p v rule root a b) (left_passes p v s a)
    ∙ ap₂ (λ x y. x ++ y)
    (counted-right_passes c.modulus p v rule root a b good.2 ∙ ap (λ n. counted_right rule (v == 1) (passes_of n b)) right_is)
    (counted-left_passes c.modulus p v s a good.1 ∙ ap (λ n. passes_of n a) left_is)
    ∙ as_counted rule root a b h (v == 1) (nat_le v 1) lanes

-- ---- the law

shared_counts : (c : Target) (l : Layout) → CanShareLayout c l → IsGoodLayout c.modulus l → is_alone c ≡ false →
    map counted (in_order (root_passes c l)) ≡ whole_passes c.lanes l
shared_counts c (work w) shares good shared = absurd (shares.root shared)
shared_counts c (by rule root a b) shares good shared =
    let r = layout_size a in
    let s = layout_size b in
    let parts = shares.root shared in
    let dealt = dealt_parts c (by rule root a b) r s shares (rule-fits c rule r s parts) in
    let one : 1 ≤ c.lanes = shares.lanes in
    counted-root c rule root a b (rule-shared c rule r s parts) good (grind (arith, nat_tests)) dealt.0 dealt.1

plain_counts : (c : Target) (l : Layout) → IsGoodLayout c.modulus l → is_alone c ≡ true →
    map counted (merged_of c l) ≡ whole_passes c.lanes l
plain_counts c l good plain =
    let few : nat_le c.lanes 1 ≡ true = grind (arith, nat_tests) in
    ap (map counted) (plain_passes c l plain) ∙ counted_passes c.modulus [] [] l good ∙ sym (ap (λ z. if z then passes_of 1 l else tiled_passes l) few)

counts : (c : Target) (l : Layout) → CanShareLayout c l → IsGoodLayout c.modulus l → (b : Bool) → is_alone c ≡ b →
    map counted (merged_of c l) ≡ whole_passes c.lanes l
counts c l shares good true is = plain_counts c l good is
counts c l shares good false is = ap (λ phases. map counted (in_order phases)) (root_merged c l shares good is) ∙ shared_counts c l shares good is

-- the merged passes are those of the layout, one by one
pub merge_counts : (c : Target) (l : Layout) → CanShareLayout c l → IsGoodLayout c.modulus l →
    map counted (merged_of c l) ≡ whole_passes c.lanes l
merge_counts c l shares good = counts c l shares good (is_alone c) refl
