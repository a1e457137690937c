-- The formula of a layout for processors can be cut into the machine's lanes.
use Rattle.std.proofs.Common.{◌≡◌, ◌≢◌, ℕ, suc, ◌*◌, ◌/◌, ◌%◌, ◌<◌, ◌≤◌, true, false, arith, refl, sym, ap, ap₂, ◌∙◌}
use Rattle.std.proofs.Common.{List, [], ◌∷◌, ◌++◌, inl, inr, if◌then◌else◌, subst, mul_comm, append-nil, append_assoc}
use Rattle.std.specs.Prelude.{take, drop, length, None}
use Rattle.std.specs.List.{flat_map}
use Rattle.std.proofs.Math.Nat.{mul-div_right}
use Rattle.std.proofs.Math.Seq.{take-length, drop-length, take-append_seam, drop-append_seam}
use Rattle.std.proofs.lemmas.Bool.{cases_eq}
use Rattle.std.proofs.lemmas.Bool.Decides.{nat_tests}
use Rattle.smp_rewrite.specs.Cut.{factors_of, is_left, right_count, first_count, cut, layout_smp}
use Rattle.smp_rewrite.specs.Smp.{PlainSmp}
use Rattle.smp_rewrite.proofs.Dealt.{IsDealt, is_dealt}
use Rattle.smp_rewrite.proofs.Sized.{AreOfSize, of_size}
use Rattle.operators.proofs.Lists.{factor_positive}
use Rattle.smp_rewrite.specs.Layout.Step.{turns, twiddles, PlainStep, step, rule_steps, steps_of}
use Rattle.operators.specs.declared.paths.Tensor.{Tensor}
use Rattle.operators.specs.declared.paths.Tensor.TheVariants.{Blocks, Columns}
use Rattle.operators.specs.Paths.Tensors.{Path}
use Rattle.tree_model.specs.declared.tree.Rule.{Rule}
use Rattle.tree_model.specs.declared.tree.Rule.TheVariants.{Gt, Ct, Split, Dim}
use Rattle.smp_rewrite.specs.Fits.{HasParts, RuleHasParts, RootHasParts, CanShareLayout}
use Rattle.smp_rewrite.specs.Layout.Tree.{Layout, work, by, layout_size}
use Rattle.sigma_spl.specs.Shared.Targets.{is_alone}
use Rattle.operators.specs.declared.target.Target.{Target}
use Rattle.vec_rewrite.specs.Turning.{deal_of}
use Rattle.vec_rewrite.specs.declared.Deal.{Deal}
use Rattle.vec_rewrite.proofs.Following.{IsWide, AllFollow}
use Rattle.vec_rewrite.proofs.StepFollows.{HasHead, HaveHead, AreLaned, wide_from, wide_part, ct-follows, split-follows}
use Rattle.vec_rewrite.proofs.StepFollows.{left-all, laned_alone, laned_among, unequal}

-- ---- the steps of a part of the root stand under its tensor

head-append : (t : Tensor) (ss ts : List PlainStep) → HaveHead t ss → HaveHead t ts → HaveHead t (ss ++ ts)
head-append t [] ts h k = k
head-append t (s ∷ ss) ts h k = (h.0, head-append t ss ts h.1 k)

head-rule : (rule : Rule) (t : Tensor) (path : Path) (r s w : ℕ) (left right : List PlainStep) → HaveHead t left →
    HaveHead t right → HaveHead t (rule_steps rule (t ∷ path) r s w left right)
head-rule Gt t path r s w left right h k = (refl, head-append t right _ k (head-append t left _ h (refl, tt)))
head-rule Ct t path r s w left right h k = (refl, head-append t right _ k (refl, h))
head-rule Split t path r s w left right h k = head-append t right left k h
head-rule Dim t path r s w left right h k = head-append t right left k h

head-part : (t : Tensor) (path : Path) (l : Layout) → HaveHead t (steps_of (t ∷ path) l)
head-part t path (work w) = (refl, tt)
head-part t path (by rule root a b) =
    head-rule rule t path (layout_size a) (layout_size b) root _ _ (head-part t (path ++ Columns (layout_size b) ∷ []) a) (head-part t (path ++ Blocks (layout_size a) ∷ []) b)

-- ---- both phases

abbrev pub BothFollow : Deal → PlainSmp → Type 0
BothFollow d f = AllFollow d None f.first × AllFollow d None f.second

-- one processor does all steps in the first phase
alone-both : (h : Target) (d : Deal) (ss : List PlainStep) → h.procs ≡ 1 →
    AllFollow d None (flat_map (factors_of h.size h.procs) ss) → BothFollow d (cut h ss)
alone-both h d ss one k =
    let all : first_count h.procs ss ≡ length ss = ap (λ p. first_count p ss) one in
    let front : take (first_count h.procs ss) ss ≡ ss = ap (λ k. take k ss) all ∙ take-length ss in
    let back : drop (first_count h.procs ss) ss ≡ [] = ap (λ k. drop k ss) all ∙ drop-length ss in (
      subst (λ ts. AllFollow d None (flat_map (factors_of h.size h.procs) ts)) (sym front) k,
      subst (λ ts. AllFollow d None (flat_map (factors_of h.size h.procs) ts)) (sym back) tt,
    )

-- steps of which none is of the left part
abbrev AreRight : List PlainStep → Type 0
AreRight [] = Unit {0}
AreRight (s ∷ ss) = (is_left s.path ≡ false) × AreRight ss

right-append : (ss ts : List PlainStep) → AreRight ss → AreRight ts → AreRight (ss ++ ts)
right-append [] ts h k = k
right-append (s ∷ ss) ts h k = (h.0, right-append ss ts h.1 k)

right-head : (r : ℕ) (path : Path) → HasHead (Blocks r) path → is_left path ≡ false
right-head r [] h = absurd h
right-head r (t ∷ path) h = ap (λ t. is_left (t ∷ path)) h

right-heads : (r : ℕ) (ss : List PlainStep) → HaveHead (Blocks r) ss → AreRight ss
right-heads r [] h = tt
right-heads r (s ∷ ss) h = (right-head r s.path h.0, right-heads r ss h.1)

left-head : (s : ℕ) (path : Path) → HasHead (Columns s) path → is_left path ≡ true
left-head s [] h = absurd h
left-head s (t ∷ path) h = ap (λ t. is_left (t ∷ path)) h

count-left : (s : ℕ) (ss : List PlainStep) → HaveHead (Columns s) ss → right_count ss ≡ 0
count-left s [] h = refl
count-left s (x ∷ ss) h = ap (λ b. if b then 0 else suc (right_count ss)) (left-head s x.path h.0)

count-right : (s : ℕ) (front back : List PlainStep) → AreRight front → HaveHead (Columns s) back →
    right_count (front ++ back) ≡ length front
count-right s [] back h k = count-left s back k
count-right s (x ∷ front) back h k =
    ap (λ b. if b then 0 else suc (right_count (front ++ back))) h.0 ∙ ap (λ n. suc n) (count-right s front back h.1 k)

-- several processors do the left part's in the second one
among-both : (h : Target) (d : Deal) (s : ℕ) (front back : List PlainStep) → h.procs ≢ 1 → AreRight front →
    HaveHead (Columns s) back →
    AllFollow d None (flat_map (factors_of h.size h.procs) front) →
    AllFollow d None (flat_map (factors_of h.size h.procs) back) → BothFollow d (cut h (front ++ back))
among-both h d s front back many right left f g =
    let ss = front ++ back in
    let count : first_count h.procs ss ≡ length front = ap (λ b. if b then length ss else right_count ss) (unequal h.procs many) ∙ count-right s front back right left in
    let first : take (first_count h.procs ss) ss ≡ front = ap (λ k. take k ss) count ∙ take-append_seam front back in
    let second : drop (first_count h.procs ss) ss ≡ back = ap (λ k. drop k ss) count ∙ drop-append_seam front back in (
      subst (λ ts. AllFollow d None (flat_map (factors_of h.size h.procs) ts)) (sym first) f,
      subst (λ ts. AllFollow d None (flat_map (factors_of h.size h.procs) ts)) (sym second) g,
    )

-- ---- the root

root-both : (h : Target) (r s u w : ℕ) (rule : Rule) (left right : List PlainStep) → AreLaned (deal_of h) h.size r s u →
    HaveHead (Columns s) left → HaveHead (Blocks r) right → AreOfSize h.size right → (rule ≡ Gt → ⊥) →
    BothFollow (deal_of h) (cut h (rule_steps rule [] r s w left right))
root-both h r s u w Gt left right laned columns rows sized apart = absurd (apart refl)
root-both h r s u w Ct left right laned columns rows sized apart =
    let d = deal_of h in
    elim (cases_eq h.procs 1) [
      | inl one ↦ alone-both h d (rule_steps Ct [] r s w left right) one (ct-follows d h.size r s u w right left laned rows sized columns)
      | inr many ↦
          let front = step [] (turns r s) ∷ (right ++ step [] (twiddles r s w) ∷ []) in
          let whole : rule_steps Ct [] r s w left right ≡ front ++ left = ap (λ ts. step [] (turns r s) ∷ ts) (sym (append_assoc right (step [] (twiddles r s w) ∷ []) left)) in
          subst (λ ss. BothFollow d (cut h ss)) (sym whole)
          (among-both h d s front left many (refl, right-append right _ (right-heads r right rows) (refl, tt)) columns
          (ct-follows d h.size r s u w right [] laned rows sized tt) (left-all d h.size r s u left laned columns None))
    ]
root-both h r s u w Split left right laned columns rows sized apart =
    let d = deal_of h in
    elim (cases_eq h.procs 1) [
      | inl one ↦ alone-both h d (right ++ left) one (split-follows d h.size r s u right left laned rows sized columns)
      | inr many ↦
          among-both h d s right left many (right-heads r right rows) columns
          (subst (λ ss. AllFollow d None (flat_map (factors_of h.size h.procs) ss)) (append-nil right) (split-follows d h.size r s u right [] laned rows sized tt)) (left-all d h.size r s u left laned columns None)
    ]
root-both h r s u w Dim left right laned columns rows sized apart =
    let d = deal_of h in
    elim (cases_eq h.procs 1) [
      | inl one ↦ alone-both h d (right ++ left) one (split-follows d h.size r s u right left laned rows sized columns)
      | inr many ↦
          among-both h d s right left many (right-heads r right rows) columns
          (subst (λ ss. AllFollow d None (flat_map (factors_of h.size h.procs) ss)) (append-nil right) (split-follows d h.size r s u right [] laned rows sized tt)) (left-all d h.size r s u left laned columns None)
    ]

-- an equal part of something is something
part_positive : (p k : ℕ) → 0 < k → k ≡ p * (k / p) → 0 < k / p
part_positive p k positive e = factor_positive p (k / p) 0 (omega (arith, positive, e))

not_alone : (h : Target) → 1 < h.lanes → is_alone h ≡ false
not_alone h g = grind (arith, nat_tests)

laned_root : (h : Target) (l : Layout) (r s : ℕ) → CanShareLayout h l → 1 < h.lanes → r * s ≡ h.size → HasParts h r s →
    (u : ℕ) × AreLaned (deal_of h) h.size r s u
laned_root h l r s shares several product fits =
    let low : 1 ≤ h.procs = shares.procs in
    let line_low : 1 ≤ h.line = shares.line in
    let some : 1 ≤ h.size = shares.some in
    let size : s * r ≡ h.size = mul_comm s r ∙ product in
    let positive : 0 < r = factor_positive s r 0 (omega (arith, some, size)) in
    let rows : IsWide h.lanes r = wide_from h.lanes r (fits.lanes several).0 in
    let columns : IsWide h.lanes s = wide_from h.lanes s (fits.lanes several).1 in
    elim (cases_eq h.procs 1) [
      | inl one ↦
          let whole : h.size / h.procs ≡ r * s = ap₂ (λ n p. n / p) (sym product) one ∙ omega arith in
          (r, laned_alone (deal_of h) h.size r s one size positive rows columns (ap (λ n. n / r) whole ∙ mul-div_right s positive))
      | inr many ↦
          let procs : 1 < h.procs = omega (arith, low, many) in
          let both = fits.procs procs in
          let left : IsDealt h.procs h.line r = is_dealt h.procs h.line r (omega (arith, procs)) (omega (arith, line_low)) both.0 in
          let right : IsDealt h.procs h.line s = is_dealt h.procs h.line s (omega (arith, procs)) (omega (arith, line_low)) both.1 in
          let in_line : h.line % h.lanes ≡ 0 = shares.in_line procs in
          let u = r / h.procs in
          let u_positive : 0 < u = part_positive h.procs r (omega (arith, positive)) left.parts in
          let whole : h.size ≡ h.procs * (u * s) = sym product ∙ ap (λ n. n * s) left.parts ∙ omega arith in
          let block : h.size / h.procs ≡ u * s = ap (λ n. n / h.procs) whole ∙ mul-div_right (u * s) (omega (arith, procs)) in (
            u,
            laned_among (deal_of h) h.size r s many several size positive (wide_part h.lanes h.line u left.lines in_line) columns (wide_part h.lanes h.line (s / h.procs) right.lines in_line)
                (ap (λ n. n / u) block ∙ mul-div_right s u_positive),
          )
    ]

both-rule : (h : Target) (rule : Rule) (root : ℕ) (a b : Layout) → CanShareLayout h (by rule root a b) → 1 < h.lanes →
    RuleHasParts h rule (layout_size a) (layout_size b) → BothFollow (deal_of h) (layout_smp h (by rule root a b))
both-rule h Gt root a b shares several fits = absurd fits
both-rule h Ct root a b shares several fits =
    let r = layout_size a in
    let s = layout_size b in
    let laned = laned_root h (by Ct root a b) r s shares several shares.size fits in
    root-both h r s laned.0 root Ct (steps_of (Columns s ∷ []) a) (steps_of (Blocks r ∷ []) b) laned.1 (head-part (Columns s) [] a) (head-part (Blocks r) [] b) (of_size h.size (Blocks r ∷ []) b shares.size) (λ no. absurd (cc))
both-rule h Split root a b shares several fits =
    let r = layout_size a in
    let s = layout_size b in
    let laned = laned_root h (by Split root a b) r s shares several shares.size fits in
    root-both h r s laned.0 root Split (steps_of (Columns s ∷ []) a) (steps_of (Blocks r ∷ []) b) laned.1 (head-part (Columns s) [] a) (head-part (Blocks r) [] b) (of_size h.size (Blocks r ∷ []) b shares.size) (λ no. absurd (cc))
both-rule h Dim root a b shares several fits =
    let r = layout_size a in
    let s = layout_size b in
    let laned = laned_root h (by Dim root a b) r s shares several shares.size fits in
    root-both h r s laned.0 root Dim (steps_of (Columns s ∷ []) a) (steps_of (Blocks r ∷ []) b) laned.1 (head-part (Columns s) [] a) (head-part (Blocks r) [] b) (of_size h.size (Blocks r ∷ []) b shares.size) (λ no. absurd (cc))

both-layout : (h : Target) (l : Layout) → CanShareLayout h l → 1 < h.lanes → RootHasParts h l →
    BothFollow (deal_of h) (layout_smp h l)
both-layout h (work w) shares several fits = absurd fits
both-layout h (by rule root a b) shares several fits = both-rule h rule root a b shares several fits

pub both_follow : (h : Target) (l : Layout) → 1 < h.lanes → CanShareLayout h l →
    BothFollow (deal_of h) (layout_smp h l)
both_follow h l several shares = both-layout h l shares several (shares.root (not_alone h several))
