-- The terms of a layout that is shared, from its root.
use Rattle.sigma_lower.proofs.Words.{◌≡◌, ◌≢◌, ℕ, suc, ◌*◌, ◌/◌, ◌%◌, ◌<◌, ◌≤◌, false, arith, refl, sym, ap, ap₂, ◌∙◌}
use Rattle.sigma_lower.proofs.Words.{List, [], ◌∷◌, ◌++◌, if◌then◌else◌, inl, inr, subst, append-nil, append_assoc, map}
use Rattle.sigma_lower.proofs.Words.{Option, None, Some, ◌==◌, take, drop, length, flat_map, mul-div_right, cases_eq}
use Rattle.sigma_lower.proofs.Words.{nat_tests, map-append, factor_positive, factors_of, turns, twiddles, PlainStep}
use Rattle.sigma_lower.proofs.Words.{step, rule_steps, steps_of, Blocks, Columns, Rule, Gt, Ct, Split, Dim, HasParts}
use Rattle.sigma_lower.proofs.Words.{RuleHasParts, RootHasParts, CanShareLayout, Layout, work, by, layout_size}
use Rattle.sigma_lower.proofs.Words.{IsGoodLayout, is_alone, Target, Grid, kept, laned_from, vec_of, right_path}
use Rattle.sigma_lower.proofs.Words.{turned_in, tiled_before, tiled_after, left_core, left_terms, right_terms}
use Rattle.sigma_lower.proofs.Words.{root_terms, PlainTerm, diag, lowered, factor_term, terms_in, lowered_of, unequal}
use Rattle.sigma_lower.proofs.Words.{flat_map-append, first_count, cut, IsDealt, is_dealt, phase_of, in_phases}
use Rattle.std.proofs.Math.Nat.{mod-eq_of_lt}
use Rattle.std.proofs.Math.Seq.{take-length, drop-length, take-append_seam, drop-append_seam}
use Rattle.smp_rewrite.specs.Cut.{is_left, right_count}
use Rattle.smp_rewrite.proofs.Factors.{rows_of}
use Rattle.smp_rewrite.proofs.Moves.{one_line}
use Rattle.sigma_lower.proofs.TreeTerms.Behind.{behind, steps-behind, HasStep, has_step, by-one}
use Rattle.sigma_lower.proofs.TreeTerms.RootCuts.{Cuts, Rows, deal, grid_of, kept_from, laned_terms, kept_cuts}
use Rattle.sigma_lower.proofs.TreeTerms.RootCuts.{alone_cuts, among_cuts}
use Rattle.smp_rewrite.specs.Smp as smp

-- ---- lists of steps

abbrev Cutter : Type 0
Cutter = PlainStep → List smp.PlainFactor

abbrev Former : Type 0
Former = Option Grid → List smp.PlainFactor → List PlainTerm

-- the root's right part and its left part, by the steps inside of them
abbrev rights : ℕ → List PlainStep → List PlainStep
rights r es = map (behind (Blocks r ∷ [])) es

abbrev lefts : ℕ → List PlainStep → List PlainStep
lefts s es = map (behind (Columns s ∷ [])) es

abbrev right_all : ℕ → ℕ → ℕ → List PlainStep → List PlainTerm
right_all p v r es = map lowered (map (behind (right_path p v r)) es)

-- the right part's terms of a rule, by the steps inside of it
abbrev rule_right : ℕ → ℕ → Rule → ℕ → ℕ → ℕ → List PlainStep → List PlainTerm
rule_right p v Gt r s w es = []
rule_right p v Ct r s w es = turned_in p v r s ++ (right_all p v r es ++ (tiled_after p v r s ++ diag [] r s w ∷ []))
rule_right p v _ r s w es = tiled_before p v r s ++ (right_all p v r es ++ tiled_after p v r s)

-- the steps of the right part with what stands round it, before those of the left part
abbrev rule_front : Rule → ℕ → ℕ → ℕ → List PlainStep → List PlainStep
rule_front Gt r s w es = []
rule_front Ct r s w es = step [] (turns r s) ∷ (rights r es ++ step [] (twiddles r s w) ∷ [])
rule_front _ r s w es = rights r es

abbrev pub IsShared : Rule → Type 0
IsShared Gt = ⊥
IsShared Ct = Unit {0}
IsShared Split = Unit {0}
IsShared Dim = Unit {0}

rule_parts : (rule : Rule) (r s w : ℕ) (es ls : List PlainStep) → IsShared rule →
    rule_steps rule [] r s w ls (rights r es) ≡ rule_front rule r s w es ++ ls
rule_parts Gt r s w es ls h = absurd h
rule_parts Ct r s w es ls h = ap (λ ss. step [] (turns r s) ∷ ss) (sym (append_assoc (rights r es) (step [] (twiddles r s w) ∷ []) ls))
rule_parts _ r s w es ls h = refl

module _ (divide : Cutter) (from : Former) (g : Grid) (p v r s : ℕ) (cuts : Cuts divide from g p v r s) where
  rights-next : (es : List PlainStep) (fs : List smp.PlainFactor) →
      from (Some g) (flat_map divide (rights r es) ++ fs) ≡ right_all p v r es ++ from (Some g) fs
  rights-next [] fs = refl
  rights-next (e ∷ es) fs =
      let rest = flat_map divide (rights r es) in
      ap (from (Some g)) (append_assoc (divide (step (Blocks r ∷ e.path) e.core)) rest fs)
      ∙ cuts.right_next e.path e.core (rest ++ fs)
      ∙ ap (λ ts. lowered (step (right_path p v r ++ e.path) e.core) ∷ ts) (rights-next es fs)

  rights-first : (es : List PlainStep) (fs : List smp.PlainFactor) → HasStep es →
      from None (flat_map divide (rights r es) ++ fs)
      ≡ tiled_before p v r s ++ (right_all p v r es ++ from (Some g) fs)
  rights-first [] fs some = absurd some
  rights-first (e ∷ es) fs some =
      let rest = flat_map divide (rights r es) in
      ap (from None) (append_assoc (divide (step (Blocks r ∷ e.path) e.core)) rest fs)
      ∙ cuts.right_first e.path e.core (rest ++ fs)
      ∙ ap (λ ts. tiled_before p v r s ++ (lowered (step (right_path p v r ++ e.path) e.core) ∷ ts)) (rights-next es fs)

  lefts-next : (es : List PlainStep) → from None (flat_map divide (lefts s es)) ≡ left_terms p v r s es
  lefts-next [] = cuts.done
  lefts-next (e ∷ es) =
      cuts.left_next e.path e.core (flat_map divide (lefts s es))
      ∙ ap (λ ts. left_core p v r s e.path e.core ++ ts) (lefts-next es)

  lefts-first : (es : List PlainStep) → HasStep es →
      from (Some g) (flat_map divide (lefts s es)) ≡ tiled_after p v r s ++ left_terms p v r s es
  lefts-first [] some = absurd some
  lefts-first (e ∷ es) some =
      cuts.left_first e.path e.core (flat_map divide (lefts s es))
      ∙ ap (λ ts. tiled_after p v r s ++ (left_core p v r s e.path e.core ++ ts)) (lefts-next es)

  -- ---- the right part with what stands round it, and other steps after it

  module _ (w : ℕ) (es rest : List PlainStep) (others : List PlainTerm) (some : HasStep es)
      (next : from None (flat_map divide rest) ≡ others)
      (first : from (Some g) (flat_map divide rest) ≡ tiled_after p v r s ++ others) where
    abbrev all : List PlainTerm
    all = right_all p v r es

    split-right : from None (flat_map divide (rights r es ++ rest)) ≡ rule_right p v Split r s w es ++ others
    split-right =
        ap (from None) (flat_map-append divide (rights r es) rest)
        ∙ rights-first es (flat_map divide rest) some
        ∙ ap (λ ts. tiled_before p v r s ++ ts)
        (ap (λ ts. all ++ ts) first ∙ sym (append_assoc all (tiled_after p v r s) others))
        ∙ sym (append_assoc (tiled_before p v r s) (all ++ tiled_after p v r s) others)

    front-then : (rule : Rule) → IsShared rule →
        from None (flat_map divide (rule_front rule r s w es ++ rest)) ≡ rule_right p v rule r s w es ++ others
    front-then Gt shared = absurd shared
    front-then Ct shared =
        let last = step [] (twiddles r s w) in
        let after = tiled_after p v r s ++ diag [] r s w ∷ [] in
        ap (λ ss. from None (flat_map divide (step [] (turns r s) ∷ ss))) (append_assoc (rights r es) (last ∷ []) rest)
        ∙ cuts.root (flat_map divide (rights r es ++ (last ∷ rest)))
        ∙ ap (λ ts. turned_in p v r s ++ ts)
        (ap (from (Some g)) (flat_map-append divide (rights r es) (last ∷ rest))
        ∙ rights-next es (flat_map divide (last ∷ rest))
        ∙ ap (λ ts. all ++ ts)
        (cuts.diagonal w (flat_map divide rest) ∙ ap (λ ts. tiled_after p v r s ++ (diag [] r s w ∷ ts)) next
        ∙ sym (append_assoc (tiled_after p v r s) (diag [] r s w ∷ []) others))
        ∙ sym (append_assoc all after others))
        ∙ sym (append_assoc (turned_in p v r s) (all ++ after) others)
    front-then _ shared = split-right

  -- one phase for both parts
  both-terms : (w : ℕ) (rule : Rule) (es ls : List PlainStep) → IsShared rule → HasStep es → HasStep ls →
      from None (flat_map divide (rule_front rule r s w es ++ lefts s ls))
      ≡ rule_right p v rule r s w es ++ left_terms p v r s ls
  both-terms w rule es ls shared some more =
      front-then w es (lefts s ls) (left_terms p v r s ls) some (lefts-next ls) (lefts-first ls more) rule shared

  -- a phase for the right part alone
  front-terms : (w : ℕ) (rule : Rule) (es : List PlainStep) → IsShared rule → HasStep es →
      from None (flat_map divide (rule_front rule r s w es)) ≡ rule_right p v rule r s w es
  front-terms w rule es shared some =
      ap (λ ss. from None (flat_map divide ss)) (sym (append-nil (rule_front rule r s w es)))
      ∙ front-then w es [] [] some cuts.done (cuts.ends ∙ sym (append-nil (tiled_after p v r s))) rule shared
      ∙ append-nil (rule_right p v rule r s w es)

-- ---- the phases

-- the terms that p processors and v lanes make of steps of n words
abbrev machine : ℕ → ℕ → ℕ → ℕ → Target
machine n p v line = record { size = n; modulus = 0; procs = p; line = line; lanes = v }

abbrev made_of : ℕ → ℕ → ℕ → ℕ → List PlainStep → List (List PlainTerm)
made_of n p v line ss = terms_in (vec_of (cut (machine n p v line) ss))

-- the terms of a phase are formed so
abbrev Forms : ℕ → ℕ → ℕ → Former → Type 0
Forms n p v from = (fs : List smp.PlainFactor) → map (factor_term p v) (phase_of (deal p (n / p) v) fs) ≡ from None fs

-- steps of which none is of the left part
abbrev AreRight : List PlainStep → Type 0
AreRight [] = Unit {0}
AreRight (s ∷ ss) = (is_left s.path ≡ false) × AreRight ss

rights-right : (r : ℕ) (es rest : List PlainStep) → AreRight rest → AreRight (rights r es ++ rest)
rights-right r [] rest h = h
rights-right r (e ∷ es) rest h = (refl, rights-right r es rest h)

front-right : (rule : Rule) (r s w : ℕ) (es : List PlainStep) → AreRight (rule_front rule r s w es)
front-right Gt r s w es = tt
front-right Ct r s w es = (refl, rights-right r es (step [] (twiddles r s w) ∷ []) (refl, tt))
front-right _ r s w es = subst AreRight (append-nil (rights r es)) (rights-right r es [] tt)

count-left : (s : ℕ) (ls : List PlainStep) → right_count (lefts s ls) ≡ 0
count-left s [] = refl
count-left s (e ∷ ls) = refl

count-right : (front : List PlainStep) (s : ℕ) (ls : List PlainStep) → AreRight front →
    right_count (front ++ lefts s ls) ≡ length front
count-right [] s ls h = count-left s ls
count-right (x ∷ front) s ls h = ap (λ b. if b then 0 else suc (right_count (front ++ lefts s ls))) h.0 ∙ ap (λ n. suc n) (count-right front s ls h.1)

-- ---- processors and lanes

several-form : (n p v : ℕ) → v ≢ 1 → Forms n p v (laned_terms p (n / p) v)
several-form n p v h fs = ap (λ b. map (factor_term p v) (if b then map kept fs else laned_from (deal p (n / p) v) None fs)) (unequal v h)

-- the root's numbers: of r * s words, and of several rows and columns for each processor
record AreNumbers (n p v r s : ℕ) : Type 0 where
  product : r * s ≡ n
  rows : 2 ≤ r
  columns : 2 ≤ s
  procs : 1 ≤ p
  dealt : p ≢ 1 → IsDealt p 1 r
  wide : p ≢ 1 → v ≢ 1 → (r / p ≢ 1) × (s / p ≢ 1)

-- the steps of a root, and its phases
module _ (n line r s w : ℕ) (rule : Rule) (es ls : List PlainStep) (shared : IsShared rule) (some : HasStep es)
    (more : HasStep ls) where
  abbrev front : List PlainStep
  front = rule_front rule r s w es

  abbrev back : List PlainStep
  back = lefts s ls

  abbrev IsMade : ℕ → ℕ → Type 0
  IsMade p v =
      made_of n p v line (front ++ back) ≡ in_phases p (rule_right p v rule r s w es) (left_terms p v r s ls)

  alone-made : (v : ℕ) (from : Former) (g : Grid) → Forms n 1 v from → Cuts (factors_of n 1) from g 1 v r s → IsMade 1 v
  alone-made v from g forms cuts =
      let ss = front ++ back in
      let d = deal 1 (n / 1) v in
      let of = λ (ts : List PlainStep). phase_of d (flat_map (factors_of n 1) ts) in
      ap (λ ts. ts ∷ [])
      (ap₂ (λ ts us. map (factor_term 1 v) (of ts ++ of us)) (take-length ss) (drop-length ss)
      ∙ map-append (factor_term 1 v) (of ss) (of [])
      ∙ ap₂ (λ ts us. ts ++ us) (forms (flat_map (factors_of n 1) ss)) (forms [] ∙ cuts.done)
      ∙ append-nil (from None (flat_map (factors_of n 1) ss))
      ∙ both-terms (factors_of n 1) from g 1 v r s cuts w rule es ls shared some more)

  among-made : (p v : ℕ) (from : Former) (g : Grid) → p ≢ 1 → Forms n p v from →
      Cuts (factors_of n p) from g p v r s → IsMade p v
  among-made p v from g several forms cuts =
      let ss = front ++ back in
      let d = deal p (n / p) v in
      let of = λ (ts : List PlainStep). phase_of d (flat_map (factors_of n p) ts) in
      let count : first_count p ss ≡ length front =
      ap (λ b. if b then length ss else right_count ss) (unequal p several)
      ∙ count-right front s ls (front-right rule r s w es) in
      let first : take (first_count p ss) ss ≡ front = ap (λ k. take k ss) count ∙ take-append_seam front back in
      let second : drop (first_count p ss) ss ≡ back = ap (λ k. drop k ss) count ∙ drop-append_seam front back in
      ap₂ (λ ts us. map (map (factor_term p v)) (if p == 1 then (of ts ++ of us) ∷ [] else of ts ∷ of us ∷ [])) first second
      ∙ ap (λ b. map (map (factor_term p v)) (if b then (of front ++ of back) ∷ [] else of front ∷ of back ∷ []))
      (unequal p several)
      ∙ ap₂ (λ ts us. ts ∷ us ∷ [])
      (forms (flat_map (factors_of n p) front)
      ∙ front-terms (factors_of n p) from g p v r s cuts w rule es shared some)
      (forms (flat_map (factors_of n p) back) ∙ lefts-next (factors_of n p) from g p v r s cuts ls)
      ∙ sym (ap (λ b. if b then (rule_right p v rule r s w es ++ left_terms p v r s ls) ∷ []
      else rule_right p v rule r s w es ∷ left_terms p v r s ls ∷ []) (unequal p several))

  made-alone : (p v : ℕ) → p ≡ 1 → v ≢ 1 → AreNumbers n p v r s → IsMade p v
  made-alone p v one many h =
      let two : 2 ≤ r = h.rows in
      let whole : n / 1 ≡ r * s = by-one n ∙ sym h.product in
      let rows : Rows 1 (n / 1) v r s r = record {
        lanes = many;
        rows = sym (by-one r);
        block = ap (λ k. k / r) whole ∙ mul-div_right s (omega (arith, two));
      } in
      subst (λ p. IsMade p v) (sym one)
      (alone-made v (laned_terms 1 (n / 1) v) (grid_of (n / 1) v r) (several-form n 1 v many)
      (alone_cuts n (n / 1) v r s rows))

  made-kept : (p v : ℕ) → p ≢ 1 → v ≡ 1 → AreNumbers n p v r s → IsMade p v
  made-kept p v several one h =
      let two : 2 ≤ s = h.columns in
      let rows : n / s ≡ r = rows_of n r s (omega (arith, two)) h.product in
      subst (λ v. IsMade p v) (sym one)
      (among-made p 1 (kept_from p) (grid_of n 1 r) several (λ fs. refl)
      (kept_cuts n p r s (grid_of n 1 r) several (λ e. omega (arith, two, e)) rows))

  made-among : (p v : ℕ) → p ≢ 1 → v ≢ 1 → AreNumbers n p v r s → IsMade p v
  made-among p v several many h =
      let two : 2 ≤ s = h.columns in
      let rows : n / s ≡ r = rows_of n r s (omega (arith, two)) h.product in
      let u = r / p in
      let parts : r ≡ p * u = (h.dealt several).parts in
      let tall : 2 ≤ r = h.rows in
      let low : 1 ≤ p = h.procs in
      let positive : 0 < u = factor_positive p u 0 (omega (arith, tall, parts)) in
      let whole : n ≡ p * (u * s) = sym h.product ∙ ap (λ k. k * s) parts ∙ omega arith in
      let block : n / p ≡ u * s = ap (λ k. k / p) whole ∙ mul-div_right (u * s) (omega (arith, low)) in
      let dealt : Rows p (n / p) v r s u = record {
        lanes = many;
        rows = refl;
        block = ap (λ k. k / u) block ∙ mul-div_right s positive;
      } in
      let wide = h.wide several many in
      among-made p v (laned_terms p (n / p) v) (grid_of (n / p) v u) several (several-form n p v many)
      (among_cuts n p (n / p) v r s (record { procs = several; dealt = dealt; rows = wide.0; columns = wide.1 }) rows)

  made-shared : (p v : ℕ) → (p ≡ 1 → v ≢ 1) → AreNumbers n p v r s → IsMade p v
  made-shared p v shares h =
      elim (cases_eq p 1) [
        | inl one ↦ made-alone p v one (shares one) h
        | inr several ↦
            elim (cases_eq v 1) [
              | inl lane ↦ made-kept p v several lane h
              | inr many ↦ made-among p v several many h
            ]
      ]

-- ---- the layout

not-alone : (h : Target) → is_alone h ≡ false → h.procs ≡ 1 → h.lanes ≢ 1
not-alone h e one lane = grind (arith, nat_tests)

-- k of p processors' lines and of several lanes is not one
several-part : (p line v k : ℕ) → 0 < p → 0 < line → 1 < v → 0 < k → line % v ≡ 0 → k % (p * line) ≡ 0 → k / p ≢ 1
several-part p line v k procs lines lanes positive fits e one =
    let dealt : IsDealt p line k = is_dealt p line k procs lines e in
    let width : 1 % line ≡ 0 = ap (λ n. n % line) (sym one) ∙ dealt.lines in
    let unit : line ≡ 1 = one_line line lines width in
    let left : 1 % v ≡ 0 = ap (λ n. n % v) (sym unit) ∙ fits in
    let same : 1 % v ≡ 1 = mod-eq_of_lt lanes in absurd (omega (arith, left, same))

numbers_of : (h : Target) (l : Layout) (r s : ℕ) → CanShareLayout h l → r * s ≡ h.size → 2 ≤ r → 2 ≤ s →
    HasParts h r s → AreNumbers h.size h.procs h.lanes r s
numbers_of h l r s shares product two_r two_s fits =
    let low : 1 ≤ h.procs = shares.procs in
    let line_low : 1 ≤ h.line = shares.line in
    let lane_low : 1 ≤ h.lanes = shares.lanes in
    record {
      product = product;
      rows = two_r;
      columns = two_s;
      procs = low;
      dealt = λ several.
          let both = fits.procs (omega (arith, low, several)) in
          let whole = is_dealt h.procs h.line r (omega (arith, low)) (omega (arith, line_low)) both.0 in record { parts = whole.parts; lines = omega arith };
      wide = λ several many.
          let procs : 1 < h.procs = omega (arith, low, several) in
          let both = fits.procs procs in
          let lanes : 1 < h.lanes = omega (arith, lane_low, many) in
          let in_line : h.line % h.lanes ≡ 0 = shares.in_line procs in (
            several-part h.procs h.line h.lanes r (omega (arith, low)) (omega (arith, line_low)) lanes (omega (arith, two_r)) in_line both.0,
            several-part h.procs h.line h.lanes s (omega (arith, low)) (omega (arith, line_low)) lanes (omega (arith, two_s)) in_line both.1,
          );
    }

pub rule-shared : (h : Target) (rule : Rule) (r s : ℕ) → RuleHasParts h rule r s → IsShared rule
rule-shared h Gt r s k = k
rule-shared h _ r s k = tt

pub rule-fits : (h : Target) (rule : Rule) (r s : ℕ) → RuleHasParts h rule r s → HasParts h r s
rule-fits h Gt r s k = absurd k
rule-fits h _ r s k = k

right-same : (p v : ℕ) (rule : Rule) (w : ℕ) (a b : Layout) →
    rule_right p v rule (layout_size a) (layout_size b) w (steps_of [] b) ≡ right_terms p v rule w a b
right-same p v Gt w a b = refl
right-same p v Ct w a b =
    let r = layout_size a in
    let s = layout_size b in ap (λ ss. turned_in p v r s ++ (map lowered ss ++ (tiled_after p v r s ++ diag [] r s w ∷ []))) (sym (steps-behind (right_path p v r) b))
right-same p v _ w a b =
    let r = layout_size a in
    let s = layout_size b in ap (λ ss. tiled_before p v r s ++ (map lowered ss ++ tiled_after p v r s)) (sym (steps-behind (right_path p v r) b))

-- the steps of a root
root-steps : (rule : Rule) (w : ℕ) (a b : Layout) → IsShared rule →
    steps_of [] (by rule w a b) ≡ rule_front rule (layout_size a) (layout_size b) w (steps_of [] b)
    ++ lefts (layout_size b) (steps_of [] a)
root-steps rule w a b shared =
    let r = layout_size a in
    let s = layout_size b in
    ap₂ (rule_steps rule [] r s w) (steps-behind (Columns s ∷ []) a) (steps-behind (Blocks r ∷ []) b)
    ∙ rule_parts rule r s w (steps_of [] b) (lefts s (steps_of [] a)) shared

-- the modulus of the machine is not looked at
terms-of : (h : Target) (ss : List PlainStep) → terms_in (vec_of (cut h ss)) ≡ made_of h.size h.procs h.lanes h.line ss
terms-of h ss = refl

root-terms : (h : Target) (rule : Rule) (w : ℕ) (a b : Layout) → CanShareLayout h (by rule w a b) → 2 ≤ layout_size a →
    2 ≤ layout_size b → is_alone h ≡ false → RuleHasParts h rule (layout_size a) (layout_size b) →
    lowered_of h (by rule w a b) ≡ root_terms h (by rule w a b)
root-terms h rule w a b shares two_r two_s several fits =
    let r = layout_size a in
    let s = layout_size b in
    let p = h.procs in
    let v = h.lanes in
    let shared = rule-shared h rule r s fits in
    let ls = steps_of [] a in
    let es = steps_of [] b in
    ap (λ ss. terms_in (vec_of (cut h ss))) (root-steps rule w a b shared)
    ∙ terms-of h (rule_front rule r s w es ++ lefts s ls)
    ∙ made-shared h.size h.line r s w rule es ls shared (has_step [] b) (has_step [] a) p v (not-alone h several)
    (numbers_of h (by rule w a b) r s shares shares.size two_r two_s (rule-fits h rule r s fits))
    ∙ ap (λ ts. in_phases p ts (left_terms p v r s ls)) (right-same p v rule w a b)

layout-terms : (h : Target) (l : Layout) → CanShareLayout h l → IsGoodLayout h.modulus l → is_alone h ≡ false →
    RootHasParts h l → lowered_of h l ≡ root_terms h l
layout-terms h (work w) shares good several fits = absurd fits
layout-terms h (by rule w a b) shares good several fits = root-terms h rule w a b shares good.0.left good.0.right several fits

-- the terms of a layout that several processors or lanes share
pub shared_terms : (h : Target) (l : Layout) → CanShareLayout h l → IsGoodLayout h.modulus l → is_alone h ≡ false →
    lowered_of h l ≡ root_terms h l
shared_terms h l shares good several = layout-terms h l shares good several (shares.root several)
