-- Steps of a layout after more tensors, and paths of tensors that may have one copy.
use Rattle.sigma_lower.proofs.Words.{◌≡◌, ℕ, ◌/◌, Bool, true, false, arith, refl, sym, ap, ap₂, ◌∙◌, List, [], ◌∷◌}
use Rattle.sigma_lower.proofs.Words.{◌++◌, if◌then◌else◌, append-nil, append_assoc, map, ◌==◌, map-append, within}
use Rattle.sigma_lower.proofs.Words.{turns, twiddles, thomas_in, thomas_out, PlainStep, step, rule_steps, steps_of}
use Rattle.sigma_lower.proofs.Words.{Tensor, Blocks, Columns, Path, count_of, Rule, Gt, Ct, Split, Dim, Layout, work}
use Rattle.sigma_lower.proofs.Words.{by, layout_size, right_path, left_path, whole_path}

-- ---- steps

-- a step with more tensors round it
abbrev pub behind : Path → PlainStep → PlainStep
behind front e = step (front ++ e.path) e.core

rule-behind : (front : Path) (rule : Rule) (path : Path) (r s w : ℕ) (left right : List PlainStep) →
    rule_steps rule (front ++ path) r s w (map (behind front) left) (map (behind front) right) ≡ map (behind front)
    (rule_steps rule path r s w left right)
rule-behind front Gt path r s w left right =
    let last = step path (thomas_out r s) ∷ [] in
    ap (λ ss. step (front ++ path) (thomas_in r s) ∷ ss) (ap (λ ss. map (behind front) right ++ ss) (sym (map-append (behind front) left last)) ∙ sym (map-append (behind front) right (left ++ last)))
rule-behind front Ct path r s w left right = ap (λ ss. step (front ++ path) (turns r s) ∷ ss) (sym (map-append (behind front) right (step path (twiddles r s w) ∷ left)))
rule-behind front _ path r s w left right = sym (map-append (behind front) right left)

-- more tensors round a part are more tensors round its steps
steps-append : (front path : Path) (l : Layout) → steps_of (front ++ path) l ≡ map (behind front) (steps_of path l)
steps-append front path (work w) = refl
steps-append front path (by rule root a b) =
    let r = layout_size a in
    let s = layout_size b in
    let left = steps_of (path ++ Columns s ∷ []) a in
    let right = steps_of (path ++ Blocks r ∷ []) b in
    let on_left : steps_of ((front ++ path) ++ Columns s ∷ []) a ≡ map (behind front) left = ap (λ p. steps_of p a) (append_assoc front path (Columns s ∷ [])) ∙ steps-append front (path ++ Columns s ∷ []) a in
    let on_right : steps_of ((front ++ path) ++ Blocks r ∷ []) b ≡ map (behind front) right = ap (λ p. steps_of p b) (append_assoc front path (Blocks r ∷ [])) ∙ steps-append front (path ++ Blocks r ∷ []) b in
    ap₂ (rule_steps rule (front ++ path) r s root) on_left on_right ∙ rule-behind front rule path r s root left right

pub steps-behind : (front : Path) (l : Layout) → steps_of front l ≡ map (behind front) (steps_of [] l)
steps-behind front l = ap (λ p. steps_of p l) (sym (append-nil front)) ∙ steps-append front [] l

-- a layout has a step
abbrev pub HasStep : List PlainStep → Type 0
HasStep [] = ⊥
HasStep (s ∷ ss) = Unit {0}

append-step : (ss ts : List PlainStep) → HasStep ss → HasStep (ss ++ ts)
append-step [] ts h = absurd h
append-step (s ∷ ss) ts h = tt

rule-step : (rule : Rule) (path : Path) (r s w : ℕ) (left right : List PlainStep) → HasStep right →
    HasStep (rule_steps rule path r s w left right)
rule-step Split path r s w left right h = append-step right left h
rule-step Dim path r s w left right h = append-step right left h
rule-step _ path r s w left right h = tt

pub has_step : (path : Path) (l : Layout) → HasStep (steps_of path l)
has_step path (work w) = tt
has_step path (by rule root a b) = rule-step rule path (layout_size a) (layout_size b) root _ _ (has_step (path ++ Blocks (layout_size a) ∷ []) b)

-- ---- paths

pick-append : (b : Bool) (t : Tensor) (path rest : Path) → (if b then path else t ∷ path) ++ rest
    ≡ (if b then path ++ rest else t ∷ (path ++ rest))
pick-append true t path rest = refl
pick-append false t path rest = refl

pub within-append : (t : Tensor) (path rest : Path) → within t path ++ rest ≡ within t (path ++ rest)
within-append t path rest = pick-append (count_of t == 1) t path rest

two-append : (t u : Tensor) (rest : Path) → within t (within u []) ++ rest ≡ within t (within u rest)
two-append t u rest = within-append t (within u []) rest ∙ ap (within t) (within-append u [] rest)

three-append : (t u w : Tensor) (rest : Path) → within t (within u (within w [])) ++ rest
    ≡ within t (within u (within w rest))
three-append t u w rest = within-append t (within u (within w [])) rest ∙ ap (within t) (two-append u w rest)

pub right-behind : (p v r : ℕ) (path : Path) → right_path p v r ++ path ≡ within (Blocks p)
    (within (Columns v) (within (Blocks (r / p / v)) path))
right-behind p v r path = three-append (Blocks p) (Columns v) (Blocks (r / p / v)) path

pub left-behind : (p v s : ℕ) (path : Path) → left_path p v s ++ path ≡ within (Blocks p)
    (within (Columns v) (within (Columns (s / p / v)) path))
left-behind p v s path = three-append (Blocks p) (Columns v) (Columns (s / p / v)) path

pub whole-behind : (v s : ℕ) (path : Path) → whole_path v s ++ path ≡ within (Columns v) (within (Columns (s / v)) path)
whole-behind v s path = two-append (Columns v) (Columns (s / v)) path

pub by-one : (n : ℕ) → n / 1 ≡ n
by-one n = omega arith
