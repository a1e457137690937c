-- The steps of a layout that can be shared can be dealt to the processors.
use Rattle.std.proofs.Common.{◌≡◌, ℕ, ◌*◌, ◌/◌, ◌%◌, ◌<◌, false, arith, sym, ap, ◌∙◌, List, [], ◌∷◌, ◌++◌}
use Rattle.std.proofs.Math.Nat.{div-add-mod', mul-div_right, mul-mod_right}
use Rattle.std.proofs.lemmas.Bool.Decides.{nat_tests}
use Rattle.smp_rewrite.specs.Layout.Step.{PlainCore, piece, turns, twiddles, thomas_in, thomas_out, PlainStep}
use Rattle.smp_rewrite.specs.Layout.Step.{rule_steps, steps_of}
use Rattle.operators.specs.declared.paths.Tensor.{Tensor}
use Rattle.operators.specs.declared.paths.Tensor.TheVariants.{Blocks, Columns}
use Rattle.operators.specs.Paths.Tensors.{Path}
use Rattle.tree_model.specs.declared.tree.Rule.{Rule}
use Rattle.tree_model.specs.declared.tree.Rule.TheVariants.{Gt, Ct, Split, Dim}
use Rattle.tree_model.specs.Admissible.{DividesBoth}
use Rattle.smp_rewrite.specs.Fits.{HasParts, RuleHasParts, RootHasParts, CanShareLayout}
use Rattle.smp_rewrite.specs.Layout.Tree.{Layout, work, by, layout_size}
use Rattle.sigma_spl.specs.Shared.Targets.{is_alone}
use Rattle.operators.specs.declared.target.Target.{Target}

-- p processors have an equal part of k, which is a number of whole lines
pub record IsDealt (p line k : ℕ) : Type 0 where
  pub parts : k ≡ p * (k / p)
  pub lines : (k / p) % line ≡ 0

-- a tensor or a core of the root whose copies can be dealt
abbrev pub IsDealtTensor : ℕ → ℕ → Tensor → Type 0
IsDealtTensor p line (Blocks r) = IsDealt p line r
IsDealtTensor p line (Columns s) = IsDealt p line s

abbrev pub IsDealtCore : ℕ → ℕ → PlainCore → Type 0
IsDealtCore p line (piece w) = ⊥
IsDealtCore p line (turns r s) = IsDealt p line r
IsDealtCore p line (twiddles r s w) = Unit {0}
IsDealtCore p line (thomas_in r s) = ⊥
IsDealtCore p line (thomas_out r s) = ⊥

abbrev pub IsDealtStep : ℕ → ℕ → Path → PlainCore → Type 0
IsDealtStep p line [] core = IsDealtCore p line core
IsDealtStep p line (t ∷ path) core = IsDealtTensor p line t

abbrev pub AreDealt : ℕ → ℕ → List PlainStep → Type 0
AreDealt p line [] = Unit {0}
AreDealt p line (s ∷ ss) = IsDealtStep p line s.path s.core × AreDealt p line ss

dealt-append : (p line : ℕ) (ss ts : List PlainStep) → AreDealt p line ss → AreDealt p line ts →
    AreDealt p line (ss ++ ts)
dealt-append p line [] ts h k = k
dealt-append p line (s ∷ ss) ts h k = (h.0, dealt-append p line ss ts h.1 k)

-- ---- the steps of a part of the root

dealt-rule : (p line : ℕ) (rule : Rule) (t : Tensor) (path : Path) (r s w : ℕ) (left right : List PlainStep) →
    IsDealtTensor p line t →
    AreDealt p line left → AreDealt p line right → AreDealt p line (rule_steps rule (t ∷ path) r s w left right)
dealt-rule p line Gt t path r s w left right e h k = (e, dealt-append p line right _ k (dealt-append p line left _ h (e, tt)))
dealt-rule p line Ct t path r s w left right e h k = (e, dealt-append p line right _ k (e, h))
dealt-rule p line Split t path r s w left right e h k = dealt-append p line right left k h
dealt-rule p line Dim t path r s w left right e h k = dealt-append p line right left k h

dealt-part : (p line : ℕ) (t : Tensor) (path : Path) (l : Layout) → IsDealtTensor p line t →
    AreDealt p line (steps_of (t ∷ path) l)
dealt-part p line t path (work w) h = (h, tt)
dealt-part p line t path (by rule root a b) h =
    dealt-rule p line rule t path (layout_size a) (layout_size b) root _ _ h
    (dealt-part p line t (path ++ Columns (layout_size b) ∷ []) a h)
    (dealt-part p line t (path ++ Blocks (layout_size a) ∷ []) b h)

-- ---- the root

pub is_dealt : (p line k : ℕ) → 0 < p → 0 < line → k % (p * line) ≡ 0 → IsDealt p line k
is_dealt p line k h g e =
    let lines = k / (p * line) in
    let whole : k ≡ p * (line * lines) = sym (div-add-mod' k (p * line)) ∙ omega (arith, e) in
    let part : k / p ≡ line * lines = ap (λ n. n / p) whole ∙ mul-div_right (line * lines) h in
    record {
      parts = whole ∙ ap (λ n. p * n) (sym part);
      lines = ap (λ n. n % line) part ∙ mul-mod_right line lines;
    }

pub not_alone : (h : Target) → 1 < h.procs → is_alone h ≡ false
not_alone h g = grind (arith, nat_tests)

dealt-root : (h : Target) (rule : Rule) (root : ℕ) (a b : Layout) → 0 < h.line → 1 < h.procs →
    RuleHasParts h rule (layout_size a) (layout_size b) → AreDealt h.procs h.line (steps_of [] (by rule root a b))
dealt-root h Gt root a b low several fits = absurd fits
dealt-root h Ct root a b low several fits =
    let both : DividesBoth (h.procs * h.line) (layout_size a) (layout_size b) = fits.procs several in
    let rows : IsDealt h.procs h.line (layout_size a) = is_dealt h.procs h.line (layout_size a) (omega (arith, several)) low both.0 in
    let cols : IsDealt h.procs h.line (layout_size b) = is_dealt h.procs h.line (layout_size b) (omega (arith, several)) low both.1 in (
      rows,
      dealt-append h.procs h.line (steps_of (Blocks (layout_size a) ∷ []) b) _ (dealt-part h.procs h.line (Blocks (layout_size a)) [] b rows)
          (tt, dealt-part h.procs h.line (Columns (layout_size b)) [] a cols),
    )
dealt-root h Split root a b low several fits =
    let both : DividesBoth (h.procs * h.line) (layout_size a) (layout_size b) = fits.procs several in
    let rows : IsDealt h.procs h.line (layout_size a) = is_dealt h.procs h.line (layout_size a) (omega (arith, several)) low both.0 in
    let cols : IsDealt h.procs h.line (layout_size b) = is_dealt h.procs h.line (layout_size b) (omega (arith, several)) low both.1 in
    dealt-append h.procs h.line (steps_of (Blocks (layout_size a) ∷ []) b) _ (dealt-part h.procs h.line (Blocks (layout_size a)) [] b rows)
    (dealt-part h.procs h.line (Columns (layout_size b)) [] a cols)
dealt-root h Dim root a b low several fits =
    let both : DividesBoth (h.procs * h.line) (layout_size a) (layout_size b) = fits.procs several in
    let rows : IsDealt h.procs h.line (layout_size a) = is_dealt h.procs h.line (layout_size a) (omega (arith, several)) low both.0 in
    let cols : IsDealt h.procs h.line (layout_size b) = is_dealt h.procs h.line (layout_size b) (omega (arith, several)) low both.1 in
    dealt-append h.procs h.line (steps_of (Blocks (layout_size a) ∷ []) b) _ (dealt-part h.procs h.line (Blocks (layout_size a)) [] b rows)
    (dealt-part h.procs h.line (Columns (layout_size b)) [] a cols)

dealt-layout : (h : Target) (l : Layout) → 0 < h.line → 1 < h.procs → RootHasParts h l →
    AreDealt h.procs h.line (steps_of [] l)
dealt-layout h (work w) low several fits = absurd fits
dealt-layout h (by rule root a b) low several fits = dealt-root h rule root a b low several fits

pub dealt_steps : (h : Target) (l : Layout) → 1 < h.procs → CanShareLayout h l → AreDealt h.procs h.line (steps_of [] l)
dealt_steps h l several k = dealt-layout h l (omega (arith, k.line)) several (k.root (not_alone h several))

-- ---- the size of the whole

size-dealt : (h : Target) (r s : ℕ) → 0 < h.line → 1 < h.procs → r * s ≡ h.size → HasParts h r s →
    h.size ≡ h.procs * (h.size / h.procs)
size-dealt h r s low several e fits =
    let rows : IsDealt h.procs h.line r = is_dealt h.procs h.line r (omega (arith, several)) low (fits.procs several).0 in
    let whole : h.size ≡ h.procs * (r / h.procs * s) = sym e ∙ ap (λ n. n * s) rows.parts ∙ omega arith in
    whole ∙ ap (λ n. h.procs * n) (sym (ap (λ n. n / h.procs) whole ∙ mul-div_right (r / h.procs * s) (omega (arith, several))))

rule-dealt : (h : Target) (rule : Rule) (r s : ℕ) → 0 < h.line → 1 < h.procs → r * s ≡ h.size →
    RuleHasParts h rule r s → h.size ≡ h.procs * (h.size / h.procs)
rule-dealt h Gt r s low several e fits = absurd fits
rule-dealt h Ct r s low several e fits = size-dealt h r s low several e fits
rule-dealt h Split r s low several e fits = size-dealt h r s low several e fits
rule-dealt h Dim r s low several e fits = size-dealt h r s low several e fits

layout-dealt : (h : Target) (l : Layout) → 0 < h.line → 1 < h.procs → layout_size l ≡ h.size → RootHasParts h l →
    h.size ≡ h.procs * (h.size / h.procs)
layout-dealt h (work w) low several e fits = absurd fits
layout-dealt h (by rule root a b) low several e fits = rule-dealt h rule (layout_size a) (layout_size b) low several e fits

pub dealt_size : (h : Target) (l : Layout) → 1 < h.procs → CanShareLayout h l → h.size ≡ h.procs * (h.size / h.procs)
dealt_size h l several k = layout-dealt h l (omega (arith, k.line)) several k.size (k.root (not_alone h several))
