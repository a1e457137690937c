-- The factors of steps do what the steps do.
use Rattle.std.proofs.Common.{◌≡◌, ◌≢◌, ℕ, ◌*◌, ◌/◌, ◌<◌, Bool, true, false, arith, refl, sym, ap, ◌∙◌, List, [], ◌∷◌}
use Rattle.std.proofs.Common.{◌++◌, if◌then◌else◌}
use Rattle.std.specs.Prelude.{◌==◌, map, take, drop}
use Rattle.std.specs.List.{flat_map}
use Rattle.std.proofs.Math.Nat.{mul-div_right}
use Rattle.std.proofs.lemmas.Bool.Decides.{nat_tests}
use Rattle.std.proofs.lemmas.Grind.{flat_map-append}
use Rattle.std.proofs.lemmas.List.{take-append-drop, map-append}
use Rattle.operators.specs.Identities.{turn}
use Rattle.operators.specs.Operator.{on_columns, on_blocks}
use Rattle.operators.proofs.Lists.{factor_positive}
use Rattle.operators.proofs.Blocks.{columns_in_blocks, turn_in_blocks, blocks_in_blocks}
use Rattle.smp_rewrite.specs.Layout.Meaning.{core_size, core_on, step_on, all_on}
use Rattle.smp_rewrite.specs.Layout.Step.{PlainCore, piece, turns, twiddles, thomas_in, thomas_out, PlainStep}
use Rattle.smp_rewrite.specs.Layout.Step.{step}
use Rattle.operators.specs.declared.target.Target.{Target}
use Rattle.smp_rewrite.proofs.LayoutLemmas.StepMeanings.{all_on-append}
use Rattle.operators.specs.declared.paths.Tensor.TheVariants.{Blocks, Columns}
use Rattle.operators.specs.Paths.Tensors.{Path, size_under, under}
use Rattle.sigma_spl.specs.Work.{PlainWork}
use Rattle.smp_rewrite.specs.Smp.{blocks, within, factor_step, smp_on}
use Rattle.smp_rewrite.specs.Cut.{cut_factors, factors_of, first_count, cut}
use Rattle.smp_rewrite.specs.Laws.{step_size}
use Rattle.smp_rewrite.proofs.Cores.{core-reads, core-gives}
use Rattle.smp_rewrite.proofs.Dealt.{IsDealt, IsDealtStep, AreDealt}
use Rattle.smp_rewrite.proofs.Sized.{AreOfSize}
use Rattle.smp_rewrite.proofs.Tensors.{under-within, under-within_two}

-- a stride permutation on a number of columns
turn-within : (m w r s : ℕ) (x : List ℕ) → step_on m (step (within (Columns w) []) (turns r s)) x
    ≡ on_columns (r * s) w (turn r s) x
turn-within m w r s x = under-within (Columns w) [] (r * s) (turn r s) x (core-gives m (turns r s)) (core-reads m (turns r s))

-- the rows of a step on a number of columns
pub rows_of : (n m s : ℕ) → 0 < s → m * s ≡ n → n / s ≡ m
rows_of n m s h e = ap (λ k. k / s) (sym e ∙ omega arith) ∙ mul-div_right m h

root-turn_on : (m p line r s : ℕ) (x : List ℕ) → IsDealt p line r →
    all_on m (map (factor_step p) (cut_factors (r * s) p [] (turns r s))) x ≡ turn r s x
root-turn_on m p line r s x h =
    let u = r / p in
    let moved = step_on m (step (within (Columns u) []) (turns p s)) x in
    under-within (Blocks p) [] (u * s) (turn u s) moved (core-gives m (turns u s)) (core-reads m (turns u s))
    ∙ ap (on_blocks p (u * s) (turn u s)) (turn-within m u p s x)
    ∙ sym (ap (λ k. turn k s x) h.parts ∙ turn_in_blocks p u s x)

block_on : (m n p line r : ℕ) (path : Path) (core : PlainCore) (x : List ℕ) → IsDealt p line r →
    all_on m (map (factor_step p) (cut_factors n p (Blocks r ∷ path) core)) x
    ≡ step_on m (step (Blocks r ∷ path) core) x
block_on m n p line r path core x h =
    let u = r / p in
    let rows = size_under path (core_size core) in
    let a = under path (core_size core) (core_on m core) in
    under-within_two (Blocks p) (Blocks u) path (core_size core) (core_on m core) x (core-gives m core) (core-reads m core)
    ∙ sym (ap (λ k. on_blocks k rows a x) h.parts ∙ blocks_in_blocks p u rows a x)

column_on : (m n p line s : ℕ) (path : Path) (work : PlainWork) (x : List ℕ) → IsDealt p line s → 0 < s →
    size_under path (core_size (piece work)) * s ≡ n →
    all_on m (map (factor_step p) (cut_factors n p (Columns s ∷ path) (piece work))) x
    ≡ step_on m (step (Columns s ∷ path) (piece work)) x
column_on m n p line s path work x h positive e =
    let w = s / p in
    let core = piece work in
    let rows = size_under path (core_size core) in
    let a = under path (core_size core) (core_on m core) in
    let middle = λ (y : List ℕ). step_on m (step (within (Blocks p) (within (Columns w) path)) core) y in
    ap (λ k. step_on m (step (within (Columns w) []) (turns k p)) (middle (step_on m (step (within (Columns w) []) (turns p k)) x))) (rows_of n rows s positive e)
    ∙ turn-within m w rows p (middle (step_on m (step (within (Columns w) []) (turns p rows)) x))
    ∙ ap (on_columns (rows * p) w (turn rows p))
    (under-within_two (Blocks p) (Columns w) path (core_size core) (core_on m core) (step_on m (step (within (Columns w) []) (turns p rows)) x) (core-gives m core) (core-reads m core)
    ∙ ap (on_blocks p (rows * w) (on_columns rows w a)) (turn-within m w p rows x))
    ∙ sym (ap (λ k. on_columns rows k a x) h.parts ∙ columns_in_blocks rows p w a x)

pub cut_on : (m n p line : ℕ) (path : Path) (core : PlainCore) (x : List ℕ) → 0 < n →
    size_under path (core_size core) ≡ n → IsDealtStep p line path core →
    all_on m (map (factor_step p) (cut_factors n p path core)) x ≡ step_on m (step path core) x
cut_on m n p line [] (piece w) x positive e h = absurd h
cut_on m n p line [] (turns r s) x positive e h = root-turn_on m p line r s x h
cut_on m n p line [] (twiddles r s w) x positive e h = refl
cut_on m n p line [] (thomas_in r s) x positive e h = absurd h
cut_on m n p line [] (thomas_out r s) x positive e h = absurd h
cut_on m n p line (Blocks r ∷ path) core x positive e h = block_on m n p line r path core x h
cut_on m n p line (Columns s ∷ path) (piece w) x positive e h = column_on m n p line s path w x h (factor_positive (size_under path (core_size (piece w))) s 0 (omega (arith, positive, e))) e
cut_on m n p line (Columns s ∷ path) (turns r k) x positive e h = refl
cut_on m n p line (Columns s ∷ path) (twiddles r k w) x positive e h = refl
cut_on m n p line (Columns s ∷ path) (thomas_in r k) x positive e h = refl
cut_on m n p line (Columns s ∷ path) (thomas_out r k) x positive e h = refl

-- ---- one processor

alone : (m p : ℕ) (b : Bool) (s : PlainStep) (x : List ℕ) → b ≡ true →
    step_on m (step (if b then s.path else Blocks p ∷ s.path) s.core) x ≡ step_on m s x
alone m p true s x e = refl
alone m p false s x e = absurd (cc)

-- ---- lists of steps

-- steps that p processors can do: one can do all
abbrev pub CanShare : ℕ → ℕ → List PlainStep → Type 0
CanShare p line ss = p ≢ 1 → AreDealt p line ss

factors-pick : (m n p line : ℕ) (b : Bool) (s : PlainStep) (x : List ℕ) → (p == 1) ≡ b → 0 < n → step_size s ≡ n →
    (b ≡ false → IsDealtStep p line s.path s.core) →
    all_on m (map (factor_step p) (if b then blocks s ∷ [] else cut_factors n p s.path s.core)) x ≡ step_on m s x
factors-pick m n p line true s x one positive e h = alone m p (p == 1) s x one
factors-pick m n p line false s x several positive e h = cut_on m n p line s.path s.core x positive e (h refl)

pub several-of : (p : ℕ) → (p == 1) ≡ false → p ≢ 1
several-of p e = grind (arith, nat_tests)

pub flat_on : (m n p line : ℕ) (ss : List PlainStep) (x : List ℕ) → 0 < n → AreOfSize n ss → CanShare p line ss →
    all_on m (map (factor_step p) (flat_map (factors_of n p) ss)) x ≡ all_on m ss x
flat_on m n p line [] x positive sized h = refl
flat_on m n p line (s ∷ ss) x positive sized h =
    let one = factors_of n p s in
    let rest = flat_map (factors_of n p) ss in
    ap (λ fs. all_on m fs x) (map-append (factor_step p) one rest)
    ∙ all_on-append m (map (factor_step p) one) (map (factor_step p) rest) x
    ∙ ap (all_on m (map (factor_step p) rest)) (factors-pick m n p line (p == 1) s x refl positive sized.0 (λ b. (h (several-of p b)).0))
    ∙ flat_on m n p line ss (step_on m s x) positive sized.1 (λ b. (h b).1)

-- the factors of both phases are those of all steps
pub cut-factors : (h : Target) (ss : List PlainStep) → (cut h ss).first ++ (cut h ss).second
    ≡ flat_map (factors_of h.size h.procs) ss
cut-factors h ss =
    let k = first_count h.procs ss in
    sym (flat_map-append (factors_of h.size h.procs) (take k ss) (drop k ss)) ∙ ap (flat_map (factors_of h.size h.procs)) (take-append-drop k ss)

pub cut-on : (m : ℕ) (h : Target) (ss : List PlainStep) (x : List ℕ) → 0 < h.size → AreOfSize h.size ss →
    CanShare h.procs h.line ss → smp_on m (cut h ss) x ≡ all_on m ss x
cut-on m h ss x positive sized g = ap (λ fs. all_on m (map (factor_step h.procs) fs) x) (cut-factors h ss) ∙ flat_on m h.size h.procs h.line ss x positive sized g
