-- The passes of a layout, by recursion on it, and that they are those of the cost model.
use Rattle.sigma_lower.proofs.Words.{◌≡◌, ℕ, ◌*◌, Bool, true, false, List, [], ◌∷◌, ◌++◌, refl, ap, ap₂, ◌∙◌, map}
use Rattle.sigma_lower.proofs.Words.{map-append, Mapping, Strided, ThomasIn, ThomasBack, PlainPass, new_pass, scattered}
use Rattle.sigma_lower.proofs.Words.{multiplied, at_last, has_diagonal, counted_as, counted, with_twiddles}
use Rattle.sigma_lower.proofs.Words.{twiddle_last, twiddle_by, passes_of, PlainWork, kernel, rows, Layout, work, by}
use Rattle.sigma_lower.proofs.Words.{layout_size, IsGoodLayout, IsGoodWork, wrapped, unit_of, Blocks, Columns, Path}
use Rattle.sigma_lower.proofs.Words.{copies_of, Rule, Gt, Ct, Split, Dim, copies_of-push}

-- the gathers that wait when a rule's right part begins
abbrev pub rule_waiting : Rule → Path → ℕ → ℕ → List Mapping → List Mapping
rule_waiting Gt path r s waiting = wrapped path (r * s) (ThomasIn r s) ∷ waiting
rule_waiting Ct path r s waiting = wrapped path (r * s) (Strided r s) ∷ waiting
rule_waiting Split path r s waiting = waiting
rule_waiting Dim path r s waiting = waiting

-- the inverse of a gt's permutation
abbrev pub back : Path → ℕ → ℕ → Mapping
back path r s = wrapped path (r * s) (ThomasBack r s (unit_of r s) (unit_of s r))

abbrev pub rule_passes : Rule → Path → ℕ → ℕ → ℕ → List PlainPass → List PlainPass → List PlainPass
rule_passes Gt path r s w left right = right ++ at_last (scattered (back path r s)) left
rule_passes Ct path r s w left right = at_last (multiplied path r s w) right ++ left
rule_passes Split path r s w left right = right ++ left
rule_passes Dim path r s w left right = right ++ left

-- the passes of a layout under the tensors of the path, where these gathers wait
abbrev pub layout_passes : Path → List Mapping → Layout → List PlainPass
layout_passes path waiting (work w) = new_pass path w waiting ∷ []
layout_passes path waiting (by rule root a b) =
    rule_passes rule path (layout_size a) (layout_size b) root (layout_passes (path ++ Columns (layout_size b) ∷ []) [] a)
    (layout_passes (path ++ Blocks (layout_size a) ∷ []) (rule_waiting rule path (layout_size a) (layout_size b) waiting) b)

-- ---- lists that are not empty

abbrev pub IsFull : List PlainPass → Type 0
IsFull [] = ⊥
IsFull (p ∷ ps) = Unit {0}

pub full-append : (ps qs : List PlainPass) → IsFull qs → IsFull (ps ++ qs)
full-append [] qs h = h
full-append (p ∷ ps) qs h = tt

pub full-at_last : (f : PlainPass → PlainPass) (ps : List PlainPass) → IsFull ps → IsFull (at_last f ps)
full-at_last f [] h = h
full-at_last f (p ∷ []) h = tt
full-at_last f (p ∷ q ∷ ps) h = tt

pub full-mapped : (f : PlainPass → PlainPass) (ps : List PlainPass) → IsFull ps → IsFull (map f ps)
full-mapped f [] h = absurd h
full-mapped f (p ∷ ps) h = tt

pub at_last-append : (f : PlainPass → PlainPass) (ps qs : List PlainPass) → IsFull qs →
    at_last f (ps ++ qs) ≡ ps ++ at_last f qs
at_last-append f (p ∷ []) [] h = absurd h
at_last-append f (p ∷ r ∷ ps) qs h = ap (λ rest. p ∷ rest) (at_last-append f (r ∷ ps) qs h)
at_last-append f _ _ h = refl

full_rule : (rule : Rule) (path : Path) (r s w : ℕ) (left right : List PlainPass) → IsFull left →
    IsFull (rule_passes rule path r s w left right)
full_rule Gt path r s w left right h = full-append right _ (full-at_last _ left h)
full_rule Ct path r s w left right h = full-append (at_last (multiplied path r s w) right) left h
full_rule _ path r s w left right h = full-append right left h

pub full_passes : (path : Path) (waiting : List Mapping) (l : Layout) → IsFull (layout_passes path waiting l)
full_passes path waiting (work w) = tt
full_passes path waiting (by rule root a b) =
    full_rule rule path (layout_size a) (layout_size b) root (layout_passes (path ++ Columns (layout_size b) ∷ []) [] a) _
    (full_passes (path ++ Columns (layout_size b) ∷ []) [] a)

-- ---- they are the passes of the cost model

counted-scattered : (f : Mapping) (ps : List PlainPass) → map counted (at_last (scattered f) ps) ≡ map counted ps
counted-scattered f (p ∷ q ∷ ps) = ap (λ rest. counted p ∷ rest) (counted-scattered f (q ∷ ps))
counted-scattered f _ = refl

with-diagonal : (n : ℕ) (w : PlainWork) (b : Bool) → counted_as n w true ≡ with_twiddles (counted_as n w b)
with-diagonal n (kernel trees) b = refl
with-diagonal n _ b = refl

pub counted-multiplied : (path : Path) (r s w : ℕ) (ps : List PlainPass) →
    map counted (at_last (multiplied path r s w) ps) ≡ twiddle_last (map counted ps)
counted-multiplied path r s w [] = refl
counted-multiplied path r s w (p ∷ []) = ap (λ q. q ∷ []) (with-diagonal (copies_of p.path) p.work (has_diagonal p.diagonal))
counted-multiplied path r s w (p ∷ q ∷ ps) = ap (λ rest. counted p ∷ rest) (counted-multiplied path r s w (q ∷ ps))

counted_rule : (rule : Rule) (path : Path) (r s w : ℕ) (left right : List PlainPass) →
    map counted (rule_passes rule path r s w left right) ≡ twiddle_by rule (map counted right) ++ map counted left
counted_rule Gt path r s w left right = map-append counted right _ ∙ ap (λ rest. map counted right ++ rest) (counted-scattered _ left)
counted_rule Ct path r s w left right = map-append counted (at_last (multiplied path r s w) right) left ∙ ap (λ rest. rest ++ map counted left) (counted-multiplied path r s w right)
counted_rule _ path r s w left right = map-append counted right left

-- a work of a good layout is no tile
counted-work : (m n : ℕ) (w : PlainWork) → IsGoodWork m w → counted_as n w false ∷ [] ≡ passes_of n (work w)
counted-work m n (kernel trees) h = refl
counted-work m n (rows root size) h = refl
counted-work m n _ h = absurd h

pub counted_passes : (m : ℕ) (path : Path) (waiting : List Mapping) (l : Layout) → IsGoodLayout m l →
    map counted (layout_passes path waiting l) ≡ passes_of (copies_of path) l
counted_passes m path waiting (work w) h = counted-work m (copies_of path) w h.1
counted_passes m path waiting (by rule root a b) h =
    let r = layout_size a in
    let s = layout_size b in
    counted_rule rule path r s root (layout_passes (path ++ Columns s ∷ []) [] a) (layout_passes (path ++ Blocks r ∷ []) (rule_waiting rule path r s waiting) b)
    ∙ ap₂ (λ x y. twiddle_by rule x ++ y)
    (counted_passes m (path ++ Blocks r ∷ []) (rule_waiting rule path r s waiting) b h.2 ∙ ap (λ n. passes_of n b) (copies_of-push path (Blocks r)))
    (counted_passes m (path ++ Columns s ∷ []) [] a h.1 ∙ ap (λ n. passes_of n a) (copies_of-push path (Columns s)))
