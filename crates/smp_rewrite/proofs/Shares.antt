-- The processors do the operations of steps in equal shares.
use Rattle.std.proofs.Common.{◌≡◌, ◌≢◌, ℕ, ◌+◌, ◌*◌, ◌/◌, ◌<◌, Bool, true, false, arith, refl, sym, ap, ◌∙◌, List, []}
use Rattle.std.proofs.Common.{◌∷◌, ◌++◌, if◌then◌else◌}
use Rattle.std.specs.Prelude.{◌==◌}
use Rattle.std.specs.List.{flat_map}
use Rattle.std.proofs.Math.Nat.{mul-div_right}
use Rattle.smp_rewrite.specs.Layout.Meaning.{core_size}
use Rattle.operators.specs.declared.target.Target.{Target}
use Rattle.smp_rewrite.specs.Layout.Step.{PlainCore, piece, turns, twiddles, thomas_in, thomas_out, PlainStep}
use Rattle.smp_rewrite.specs.Layout.Step.{step, core_cost, operations_of, operations_in}
use Rattle.operators.specs.declared.paths.Tensor.TheVariants.{Blocks, Columns}
use Rattle.operators.specs.Paths.Tensors.{Path, size_under, copies_of}
use Rattle.operators.proofs.PathLemmas.Under.{size_under-copies}
use Rattle.smp_rewrite.specs.Smp.{PlainFactor, blocks, within, shares_in}
use Rattle.smp_rewrite.specs.Cut.{cut_factors, factors_of, cut}
use Rattle.smp_rewrite.specs.Laws.{step_size}
use Rattle.smp_rewrite.proofs.Dealt.{IsDealtStep}
use Rattle.smp_rewrite.proofs.Factors.{CanShare, several-of, cut-factors}
use Rattle.smp_rewrite.proofs.Sized.{AreOfSize}
use Rattle.smp_rewrite.proofs.Tensors.{is-one, copies-within}

pub shares_in-append : (weight m p : ℕ) (fs gs : List PlainFactor) →
    shares_in weight m p (fs ++ gs) ≡ shares_in weight m p fs + shares_in weight m p gs
shares_in-append weight m p [] gs = omega arith
shares_in-append weight m p (f ∷ fs) gs = let rest = shares_in-append weight m p fs gs in omega (arith, rest)

-- a block under one p-th of a number of copies
block-share : (p k copies cost : ℕ) (path : Path) → k ≡ p * (k / p) → copies ≡ k / p * copies_of path →
    p * (copies * cost) ≡ k * copies_of path * cost
block-share p k copies cost path parts e =
    ap (λ n. p * (n * cost)) e ∙ omega arith ∙ sym (ap (λ n. n * copies_of path * cost) parts)

-- a diagonal on n words
diagonal-share : (weight m n p : ℕ) (path : Path) (r s w : ℕ) → 0 < p → n ≡ p * (n / p) → size_under path (r * s) ≡ n →
    p * (operations_of weight m (step path (twiddles r s w)) / p) ≡ operations_of weight m (step path (twiddles r s w))
diagonal-share weight m n p path r s w positive parts e =
    let all = operations_of weight m (step path (twiddles r s w)) in
    let each = weight * (n / p) in
    let copies : copies_of path * (r * s) ≡ p * (n / p) = sym (size_under-copies path (r * s)) ∙ e ∙ parts in
    let whole : all ≡ p * each =
    (let grouped : all ≡ weight * (copies_of path * (r * s)) = omega arith in grouped ∙ ap (λ k. weight * k) copies ∙ omega arith) in
    ap (λ k. p * (k / p)) whole ∙ ap (λ k. p * k) (mul-div_right each positive) ∙ sym whole

pub cut-share : (weight m n p line : ℕ) (path : Path) (core : PlainCore) → 0 < p → n ≡ p * (n / p) →
    size_under path (core_size core) ≡ n → IsDealtStep p line path core →
    p * shares_in weight m p (cut_factors n p path core) ≡ operations_of weight m (step path core)
cut-share weight m n p line [] (piece w) positive parts e h = absurd h
cut-share weight m n p line [] (turns r s) positive parts e h = omega arith
cut-share weight m n p line [] (twiddles r s w) positive parts e h = let one = diagonal-share weight m n p [] r s w positive parts e in omega (arith, one)
cut-share weight m n p line [] (thomas_in r s) positive parts e h = absurd h
cut-share weight m n p line [] (thomas_out r s) positive parts e h = absurd h
cut-share weight m n p line (Blocks r ∷ path) core positive parts e h =
    let one = block-share p r (copies_of (within (Blocks (r / p)) path)) (core_cost weight m core) path h.parts (copies-within (Blocks (r / p)) path) in omega (arith, one)
cut-share weight m n p line (Columns s ∷ path) (piece w) positive parts e h =
    let one = block-share p s (copies_of (within (Columns (s / p)) path)) (core_cost weight m (piece w)) path h.parts (copies-within (Columns (s / p)) path) in omega (arith, one)
cut-share weight m n p line (Columns s ∷ path) (turns r q) positive parts e h = omega arith
cut-share weight m n p line (Columns s ∷ path) (twiddles r q w) positive parts e h = let one = diagonal-share weight m n p (Columns s ∷ path) r q w positive parts e in omega (arith, one)
cut-share weight m n p line (Columns s ∷ path) (thomas_in r q) positive parts e h = omega arith
cut-share weight m n p line (Columns s ∷ path) (thomas_out r q) positive parts e h = omega arith

share-pick : (weight m n p line : ℕ) (b : Bool) (s : PlainStep) → (b ≡ true → p ≡ 1) → 0 < p →
    (b ≡ false → n ≡ p * (n / p)) → step_size s ≡ n → (b ≡ false → IsDealtStep p line s.path s.core) →
    p * shares_in weight m p (if b then blocks s ∷ [] else cut_factors n p s.path s.core) ≡ operations_of weight m s
share-pick weight m n p line true s one positive parts e h = ap (λ k. k * (operations_of weight m s + 0)) (one refl) ∙ omega arith
share-pick weight m n p line false s one positive parts e h = cut-share weight m n p line s.path s.core positive (parts refl) e (h refl)

pub flat-share : (weight m n p line : ℕ) (ss : List PlainStep) → 0 < p → (p ≢ 1 → n ≡ p * (n / p)) → AreOfSize n ss →
    CanShare p line ss →
    p * shares_in weight m p (flat_map (factors_of n p) ss) ≡ operations_in weight m ss
flat-share weight m n p line [] positive parts sized h = omega arith
flat-share weight m n p line (s ∷ ss) positive parts sized h =
    let both = shares_in-append weight m p (factors_of n p s) (flat_map (factors_of n p) ss) in
    let one = share-pick weight m n p line (p == 1) s (is-one p) positive (λ b. parts (several-of p b)) sized.0 (λ b. (h (several-of p b)).0) in
    let rest = flat-share weight m n p line ss positive parts sized.1 (λ b. (h b).1) in
    ap (λ k. p * k) both ∙ omega (arith, one, rest)

pub cut_share : (weight m : ℕ) (h : Target) (ss : List PlainStep) → 0 < h.procs →
    (h.procs ≢ 1 → h.size ≡ h.procs * (h.size / h.procs)) → AreOfSize h.size ss → CanShare h.procs h.line ss →
    h.procs * shares_in weight m h.procs ((cut h ss).first ++ (cut h ss).second) ≡ operations_in weight m ss
cut_share weight m h ss positive parts sized g =
    ap (λ fs. h.procs * shares_in weight m h.procs fs) (cut-factors h ss) ∙ flat-share weight m h.size h.procs h.line ss positive parts sized g
