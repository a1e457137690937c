-- The factors of steps are blocks of equal size, diagonals of equal parts, and moves of whole lines.
use Rattle.std.proofs.Common.{◌≡◌, ◌≢◌, ℕ, ◌*◌, ◌/◌, ◌%◌, ◌<◌, Bool, true, false, arith, refl, sym, ap, ◌∙◌, List, []}
use Rattle.std.proofs.Common.{◌∷◌, ◌++◌, if◌then◌else◌}
use Rattle.std.specs.Prelude.{◌==◌, All}
use Rattle.std.specs.List.{flat_map}
use Rattle.std.proofs.Math.Nat.{mul-mod_right, div-add-mod'}
use Rattle.std.proofs.lemmas.List.Elements.{All-nil, All-cons}
use Rattle.operators.proofs.Lists.{factor_positive}
use Rattle.smp_rewrite.specs.Layout.Meaning.{core_size}
use Rattle.operators.specs.declared.target.Target.{Target}
use Rattle.smp_rewrite.specs.Layout.Step.{PlainCore, piece, turns, twiddles, thomas_in, thomas_out, PlainStep}
use Rattle.smp_rewrite.specs.Layout.Step.{step}
use Rattle.operators.specs.declared.paths.Tensor.TheVariants.{Blocks, Columns}
use Rattle.operators.specs.Paths.Tensors.{Path, size_under}
use Rattle.smp_rewrite.specs.Smp.{PlainFactor, blocks, within}
use Rattle.smp_rewrite.specs.Cut.{cut_factors, factors_of, cut}
use Rattle.smp_rewrite.specs.Laws.{step_size, width_of, IsMove, HasShape}
use Rattle.smp_rewrite.proofs.Dealt.{IsDealt, IsDealtStep}
use Rattle.smp_rewrite.proofs.Factors.{CanShare, several-of, rows_of, cut-factors}
use Rattle.smp_rewrite.proofs.Sized.{AreOfSize}
use Rattle.smp_rewrite.proofs.Tensors.{is-one, size-within}

abbrev pub AreShaped : ℕ → ℕ → ℕ → List PlainFactor → Type 0
AreShaped n p line [] = Unit {0}
AreShaped n p line (f ∷ fs) = HasShape n p line f × AreShaped n p line fs

shaped-append : (n p line : ℕ) (fs gs : List PlainFactor) → AreShaped n p line fs → AreShaped n p line gs →
    AreShaped n p line (fs ++ gs)
shaped-append n p line [] gs h k = k
shaped-append n p line (f ∷ fs) gs h k = (h.0, shaped-append n p line fs gs h.1 k)

width-pick : (b : Bool) (w : ℕ) → (b ≡ true → w ≡ 1) → width_of (if b then [] else Columns w ∷ []) ≡ w
width-pick true w one = sym (one refl)
width-pick false w one = refl

width-within : (w : ℕ) → width_of (within (Columns w) []) ≡ w
width-within w = width-pick (w == 1) w (is-one w)

-- a multiple of the parts of k is one of the line
lines-of : (p line k : ℕ) → IsDealt p line k → k % line ≡ 0
lines-of p line k h =
    let lines = k / p / line in
    let part : k / p ≡ line * lines = sym (div-add-mod' (k / p) line) ∙ omega (arith, h.lines) in
    let whole : k ≡ line * (p * lines) = h.parts ∙ ap (λ n. p * n) part ∙ omega arith in
    ap (λ n. n % line) whole ∙ mul-mod_right line (p * lines)

-- a stride permutation on one p-th of k columns
turn-shape : (n p line k r s : ℕ) → IsDealt p line k → r * s * (k / p) ≡ n →
    IsMove n line (step (within (Columns (k / p)) []) (turns r s))
turn-shape n p line k r s h e = (size-within (Columns (k / p)) [] (r * s) ∙ e, tt, ap (λ w. w % line) (width-within (k / p)) ∙ h.lines)

column-shape : (n p line s : ℕ) (path : Path) (core : PlainCore) → IsDealt p line s → 0 < s →
    size_under path (core_size core) * s ≡ n →
    (p * (n / s) * (s / p) ≡ n) × (p * size_under (within (Columns (s / p)) path) (core_size core) ≡ n)
    × (n / s * p * (s / p) ≡ n)
column-shape n p line s path core h positive e =
    let w = s / p in
    let m = size_under path (core_size core) in
    let rows : n / s ≡ m = rows_of n m s positive e in
    let whole : m * (p * w) ≡ n = ap (λ k. m * k) (sym h.parts) ∙ e in (
      ap (λ k. p * k * w) rows ∙ omega arith ∙ whole,
      ap (λ k. p * k) (size-within (Columns w) path (core_size core)) ∙ omega arith ∙ whole,
      ap (λ k. k * p * w) rows ∙ omega arith ∙ whole,
    )

pub cut-shape : (n p line : ℕ) (path : Path) (core : PlainCore) → 0 < n → n % p ≡ 0 →
    size_under path (core_size core) ≡ n → IsDealtStep p line path core → AreShaped n p line (cut_factors n p path core)
cut-shape n p line [] (piece w) positive parts e h = absurd h
cut-shape n p line [] (turns r s) positive parts e h =
    let u = r / p in
    let whole : p * u * s ≡ n = ap (λ k. k * s) (sym h.parts) ∙ e in (turn-shape n p line r p s h (omega (arith, whole)), (omega (arith, whole), tt))
cut-shape n p line [] (twiddles r s w) positive parts e h = ((e, tt, parts), tt)
cut-shape n p line [] (thomas_in r s) positive parts e h = absurd h
cut-shape n p line [] (thomas_out r s) positive parts e h = absurd h
cut-shape n p line (Blocks r ∷ path) core positive parts e h =
    let m = size_under path (core_size core) in
    let whole : p * (r / p) * m ≡ n = ap (λ k. k * m) (sym h.parts) ∙ e in
    (ap (λ k. p * k) (size-within (Blocks (r / p)) path (core_size core)) ∙ omega (arith, whole), tt)
cut-shape n p line (Columns s ∷ path) (piece w) positive parts e h =
    let size = column-shape n p line s path (piece w) h (factor_positive (size_under path (core_size (piece w))) s 0 (omega (arith, positive, e))) e in
    (turn-shape n p line s p (n / s) h size.0, (size.1, (turn-shape n p line s (n / s) p h size.2, tt)))
cut-shape n p line (Columns s ∷ path) (turns r q) positive parts e h = ((e, tt, lines-of p line s h), tt)
cut-shape n p line (Columns s ∷ path) (twiddles r q w) positive parts e h = ((e, tt, parts), tt)
cut-shape n p line (Columns s ∷ path) (thomas_in r q) positive parts e h = ((e, tt, lines-of p line s h), tt)
cut-shape n p line (Columns s ∷ path) (thomas_out r q) positive parts e h = ((e, tt, lines-of p line s h), tt)

shape-pick : (n p line : ℕ) (b : Bool) (s : PlainStep) → (b ≡ true → p ≡ 1) → 0 < n → (b ≡ false → n % p ≡ 0) →
    step_size s ≡ n → (b ≡ false → IsDealtStep p line s.path s.core) →
    AreShaped n p line (if b then blocks s ∷ [] else cut_factors n p s.path s.core)
shape-pick n p line true s one positive parts e h = (ap (λ k. k * step_size s) (one refl) ∙ omega (arith, e), tt)
shape-pick n p line false s one positive parts e h = cut-shape n p line s.path s.core positive (parts refl) e (h refl)

flat-shape : (n p line : ℕ) (ss : List PlainStep) → 0 < n → (p ≢ 1 → n % p ≡ 0) → AreOfSize n ss → CanShare p line ss →
    AreShaped n p line (flat_map (factors_of n p) ss)
flat-shape n p line [] positive parts sized h = tt
flat-shape n p line (s ∷ ss) positive parts sized h =
    shaped-append n p line (factors_of n p s) (flat_map (factors_of n p) ss)
    (shape-pick n p line (p == 1) s (is-one p) positive (λ b. parts (several-of p b)) sized.0 (λ b. (h (several-of p b)).0))
    (flat-shape n p line ss positive parts sized.1 (λ b. (h b).1))

all-shaped : (n p line : ℕ) (fs : List PlainFactor) → AreShaped n p line fs → All (HasShape n p line) fs
all-shaped n p line [] h = All-nil (HasShape n p line)
all-shaped n p line (f ∷ fs) h = All-cons (HasShape n p line) f fs h.0 (all-shaped n p line fs h.1)

pub cut_shape : (h : Target) (ss : List PlainStep) → 0 < h.size → (h.procs ≢ 1 → h.size % h.procs ≡ 0) →
    AreOfSize h.size ss → CanShare h.procs h.line ss →
    All (HasShape h.size h.procs h.line) ((cut h ss).first ++ (cut h ss).second)
cut_shape h ss positive parts sized g =
    rw (cut-factors h ss) (all-shaped h.size h.procs h.line (flat_map (factors_of h.size h.procs) ss) (flat-shape h.size h.procs h.line ss positive parts sized g))
