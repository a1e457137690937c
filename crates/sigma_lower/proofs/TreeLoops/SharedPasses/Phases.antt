-- In each phase of a layout every line belongs to one processor.
use Rattle.sigma_lower.proofs.Words.{◌≡◌, ℕ, ◌+◌, ◌*◌, ◌/◌, ◌%◌, ◌<◌, ◌≤◌, Bool, true, false, arith, refl, sym, ap, ◌∙◌}
use Rattle.sigma_lower.proofs.Words.{List, [], ◌∷◌, ◌++◌, if◌then◌else◌, subst, inl, inr, append-nil, mod-lt, mul_comm}
use Rattle.sigma_lower.proofs.Words.{◌==◌, map, cases_eq, Mapping, Strided, ThomasIn, ThomasBack, at, Target, stride}
use Rattle.sigma_lower.proofs.Words.{factor_positive, Merging, merge_term, merged, passes_of_terms, merged_phases}
use Rattle.sigma_lower.proofs.Words.{right_path, left_path, whole_path, tile_path, turned_in, vectors_grouped}
use Rattle.sigma_lower.proofs.Words.{lines_moved, vectors_turned, lines_dealt, left_core, left_terms, right_terms}
use Rattle.sigma_lower.proofs.Words.{root_terms, PlainTerm, gath, scat, nest, lowered, PlainWork, tile, work_size}
use Rattle.sigma_lower.proofs.Words.{wrapped, unit_of, within, size-within, steps_of, Blocks, Columns, Path, size_under}
use Rattle.sigma_lower.proofs.Words.{place, Rule, RuleHasParts, RootHasParts, CanShareLayout, Layout, work, by}
use Rattle.sigma_lower.proofs.Words.{layout_size, IsGoodLayout, unequal, in_phases, within-wide}
use Rattle.sigma_lower.proofs.TreeTerms.Permuted.{StaysBelow}
use Rattle.sigma_lower.specs.TreeLoops.SharedPasses.Framed.{ArePhasesShared}
use Rattle.sigma_lower.proofs.TreeLoops.Emitted.{as_lowered, emitted, emitted-lowered}
use Rattle.sigma_lower.proofs.TreeLoops.TreePasses.{back}
use Rattle.sigma_lower.proofs.TreeLoops.Walks.{Brings, IsLaw, Keeps, Point, RightKeeps, begun, brings-law, done, ready}
use Rattle.sigma_lower.proofs.TreeLoops.Walks.{right-law, steps-law, tiled}
use Rattle.sigma_lower.proofs.TreeLoops.SharedPasses.Merging.{nothing}
use Rattle.sigma_lower.proofs.TreeLoops.SharedPasses.Owners.{KeepsOwner, First, first-gath, first-scat, first-diag}
use Rattle.sigma_lower.proofs.TreeLoops.SharedPasses.Owners.{first-nest, first-own, Shared, shared-gath, shared-scat}
use Rattle.sigma_lower.proofs.TreeLoops.SharedPasses.Owners.{shared-diag, shared-dealt, shared-own, alone-phases}
use Rattle.sigma_lower.proofs.TreeLoops.SharedPasses.Shares.{AreShares, shares, block-of, row-block, column-block}
use Rattle.sigma_lower.proofs.TreeLoops.SharedPasses.Shares.{block_owner, column_owner, block-owner, column-owner}
use Rattle.sigma_lower.proofs.TreeLoops.SharedPasses.Shares.{OwnsNatural, block-natural, block-keeps, columns-keeps}
use Rattle.sigma_lower.proofs.TreeLoops.SharedPasses.Shares.{both-columns, stays-in_column, dealt-owner}
use Rattle.smp_rewrite.proofs.Dealt.{not_alone}
use Rattle.sigma_lower.proofs.TreeTerms.RootTerms.{shared_terms, rule-fits, rule-shared}
use Rattle.sigma_lower.proofs.TreeTerms.Behind.{within-append}
use Rattle.sigma_lower.proofs.TreeTerms.Lowering.{turns_below}

-- ---- permutations stay below their sizes

thomas_in-stays : (r s : ℕ) → StaysBelow (r * s) (at (ThomasIn r s))
thomas_in-stays r s i below = mod-lt _ (omega (arith, below))

thomas_back-stays : (r s e g : ℕ) → StaysBelow (r * s) (at (ThomasBack r s e g))
thomas_back-stays r s e g i below = mod-lt _ (omega (arith, below))

-- ---- the first phase: blocks of n / p words

several-path : (c : Target) (rest : Path) → 1 < c.procs → within (Blocks c.procs) rest ≡ Blocks c.procs ∷ rest
several-path c rest several = within-wide (Blocks c.procs) rest (λ one. omega (arith, one, several))

first-keeps : (c : Target) (rest : Path) (n : ℕ) (f : Mapping) → 1 < c.procs → 1 ≤ c.size →
    c.procs * size_under rest n ≡ c.size → StaysBelow n (at f) →
    KeepsOwner (block_owner c) (wrapped (Blocks c.procs ∷ rest) n f)
first-keeps c rest n f several low e stays =
    let size : c.size / c.procs ≡ size_under rest n = block-of c (size_under rest n) several e in
    let positive : 0 < c.size / c.procs = rw size (factor_positive c.procs (size_under rest n) 0 (omega (arith, e, low))) in
    block-keeps (c.size / c.procs) c.procs rest n f (sym size) positive stays

-- at the beginning what waits for the first pass is free
abbrev FirstAt : Target → Point → Merging → Type 0
FirstAt c begun st = st ≡ nothing
FirstAt c _ st = First c (block_owner c) st

abbrev Firsts : Target → Point → List PlainTerm → Point → Type 0
Firsts c = Brings (FirstAt c)

first-any : (c : Target) (i : Point) (st : Merging) → FirstAt c i st → First c (block_owner c) st
first-any c begun st is = subst (First c (block_owner c)) (sym is) tt
first-any c _ st is = is

first-law : (c : Target) → IsLaw (Firsts c)
first-law c = brings-law (FirstAt c) (first-any c) (λ st is. is)

first-lowered : (c : Target) (rest : Path) → 1 < c.procs → 1 ≤ c.size →
    Keeps (Firsts c) c.modulus (Blocks c.procs ∷ rest) c.size as_lowered
first-lowered c rest several low =
    let owner = block_owner c in
    let all = λ (path : Path). Blocks c.procs ∷ (rest ++ path) in
    record {
      pieces = λ path w good e st h.
          first-nest c owner st (all path) w (block-natural c (rest ++ path) (work_size w) several e) h;
      turned = λ path r s e st h.
          first-gath c owner st (wrapped (all path) (r * s) (Strided r s))
          (first-keeps c (rest ++ path) (r * s) (Strided r s) several low e (turns_below r s)) h;
      twiddled = λ path r s w e st h. first-diag c owner st (all path) r s w h;
      gathered = λ path r s e st h.
          first-gath c owner st (wrapped (all path) (r * s) (ThomasIn r s))
          (first-keeps c (rest ++ path) (r * s) (ThomasIn r s) several low e (thomas_in-stays r s)) h;
      scattered = λ path r s e st h.
          first-scat c owner st (back (all path) r s)
          (first-keeps c (rest ++ path) (r * s) (ThomasBack r s (unit_of r s) (unit_of s r)) several low e
          (thomas_back-stays r s (unit_of r s) (unit_of s r))) h;
    }

-- the lowered steps of the right part
first-steps : (c : Target) (r : ℕ) (b : Layout) → IsGoodLayout c.modulus b → AreShares c r (layout_size b) →
    Firsts c ready (map lowered (steps_of (right_path c.procs c.lanes r) b)) done
first-steps c r b good h =
    let p = c.procs in
    let v = c.lanes in
    let s = layout_size b in
    let blocks = within (Blocks (r / p / v)) [] in
    let rest = within (Columns v) blocks in
    let size : size_under rest s ≡ r / p * s =
    size-within (Columns v) blocks s ∙ ap (λ n. n * v) (size-within (Blocks (r / p / v)) [] s) ∙ omega arith
    ∙ ap (λ n. n * s) (sym h.row_vectors) in
    let path : Blocks p ∷ (rest ++ []) ≡ right_path p v r =
    ap (λ z. Blocks p ∷ z) (append-nil rest) ∙ sym (several-path c rest h.several) in
    let whole : size_under (Blocks p ∷ (rest ++ [])) s ≡ c.size =
    ap (λ z. size_under (Blocks p ∷ z) s) (append-nil rest) ∙ ap (λ n. p * n) size ∙ row-block c r s h in
    subst (λ ts. Firsts c ready ts done) (emitted-lowered (steps_of (right_path p v r) b))
    (subst (λ z. Firsts c ready (emitted as_lowered (steps_of z b)) done) path
    (steps-law (Firsts c) (first-law c) c.modulus (Blocks p ∷ rest) c.size as_lowered
    (first-lowered c rest h.several h.low) [] b good whole))

-- ---- tiles

tiles-natural : (c : Target) (r s : ℕ) → AreShares c r s → OwnsNatural c (tile_path c.procs c.lanes r s)
    (c.lanes * c.lanes) (block_owner c)
tiles-natural c r s h =
    let p = c.procs in
    let v = c.lanes in
    let inner = within (Blocks (s / v)) [] in
    let rest = within (Blocks (r / p / v)) inner in
    let size : size_under rest (v * v) ≡ r / p * s =
    size-within (Blocks (r / p / v)) inner (v * v) ∙ ap (λ n. r / p / v * n) (size-within (Blocks (s / v)) [] (v * v)) ∙ omega arith ∙ ap (λ n. n * (s / v * v)) (sym h.row_vectors) ∙ ap (λ n. r / p * n) (sym h.vectors) in
    subst (λ z. OwnsNatural c z (v * v) (block_owner c)) (sym (several-path c rest h.several))
    (block-natural c rest (v * v) h.several (ap (λ n. p * n) size ∙ row-block c r s h))

grouped-keeps : (c : Target) (size r s : ℕ) → size ≡ s → StaysBelow size (at (Strided (s / c.lanes) c.lanes)) →
    AreShares c r s → KeepsOwner (block_owner c) (vectors_grouped size c.procs c.lanes r s)
grouped-keeps c size r s e stays h =
    let p = c.procs in
    let v = c.lanes in
    let f = Strided (s / v) v in
    let inner = within (Blocks (r / p / v)) [] in
    let rest = within (Blocks p) inner in
    let part = r / p / v * s in
    let positive : 0 < v = omega (arith, h.lanes) in
    let width : size_under inner size ≡ part = size-within (Blocks (r / p / v)) [] size ∙ ap (λ n. r / p / v * n) e in
    let block : v * part ≡ c.size / p = omega arith ∙ ap (λ n. n * s) (sym h.row_vectors) ∙ sym (block-of c (r / p * s) h.several (row-block c r s h)) in
    let low : 1 ≤ c.size = h.low in
    let whole : p * (v * part) ≡ c.size = ap (λ n. p * n) (omega arith ∙ ap (λ n. n * s) (sym h.row_vectors)) ∙ row-block c r s h in
    let some : 0 < v * part = factor_positive p (v * part) 0 (omega (arith, whole, low)) in
    let filled : 0 < part = factor_positive v part 0 some in
    let keeps : (i : ℕ) → at (wrapped rest size f) i / part ≡ i / part =
    subst (λ z. (i : ℕ) → at (wrapped z size f) i / part ≡ i / part) (sym (several-path c inner h.several)) (block-keeps part p inner size f width filled stays) in
    subst (λ b. (i : ℕ) → at (vectors_grouped size p v r s) i / b ≡ i / b) block (columns-keeps part v rest size f positive keeps)

grouped-before : (c : Target) (r s : ℕ) → AreShares c r s → KeepsOwner (block_owner c)
    (vectors_grouped (s / c.lanes * c.lanes) c.procs c.lanes r s)
grouped-before c r s h = grouped-keeps c (s / c.lanes * c.lanes) r s (sym h.vectors) (turns_below (s / c.lanes) c.lanes) h

grouped-after : (c : Target) (r s : ℕ) → AreShares c r s → KeepsOwner (block_owner c)
    (vectors_grouped (c.lanes * (s / c.lanes)) c.procs c.lanes r s)
grouped-after c r s h =
    let turned = mul_comm (s / c.lanes) c.lanes in
    grouped-keeps c (c.lanes * (s / c.lanes)) r s (sym (h.vectors ∙ turned)) (subst (λ n. StaysBelow n (at (Strided (s / c.lanes) c.lanes))) turned (turns_below (s / c.lanes) c.lanes)) h

first-before : (c : Target) (b : Bool) (path : Path) (w : PlainWork) (f : Mapping) → KeepsOwner (block_owner c) f →
    OwnsNatural c path (work_size w) (block_owner c) →
    Firsts c begun (if b then [] else gath f ∷ nest path w ∷ []) ready
first-before c true path w f k l st is = first-any c begun st is
first-before c false path w f k l st is =
    first-nest c (block_owner c) (merge_term st (gath f)) path w l
    (first-gath c (block_owner c) st f k (first-any c begun st is))

first-after : (c : Target) (b : Bool) (path : Path) (w : PlainWork) (f : Mapping) → KeepsOwner (block_owner c) f →
    OwnsNatural c path (work_size w) (block_owner c) →
    Firsts c done (if b then [] else nest path w ∷ scat f ∷ []) tiled
first-after c true path w f k l st h = h
first-after c false path w f k l st h =
    first-scat c (block_owner c) (merge_term st (nest path w)) f k (first-nest c (block_owner c) st path w l h)

first-turned : (c : Target) (b : Bool) (f g : Mapping) →
    First c (block_owner c) (merged nothing ((if b then [] else gath f ∷ []) ++ gath g ∷ []))
first-turned c true f g = tt
first-turned c false f g = tt

right-keeps : (c : Target) (w r : ℕ) (b : Layout) → IsGoodLayout c.modulus b → AreShares c r (layout_size b) →
    RightKeeps (Firsts c) c.procs c.lanes r (layout_size b) w
    (map lowered (steps_of (right_path c.procs c.lanes r) b))
right-keeps c w r b good h =
    let owner = block_owner c in
    let p = c.procs in
    let v = c.lanes in
    let s = layout_size b in
    record {
      turned = λ st is.
          subst (λ z. First c owner (merged z (turned_in p v r s))) (sym is)
          (first-turned c (p == 1) (lines_moved p v r s) (vectors_turned p v r s));
      before = first-before c (v == 1) (tile_path p v r s) (tile v) (vectors_grouped (s / v * v) p v r s)
          (grouped-before c r s h) (tiles-natural c r s h);
      steps = first-steps c r b good h;
      after = first-after c (v == 1) (tile_path p v r s) (tile v) (vectors_grouped (v * (s / v)) p v r s)
          (grouped-after c r s h) (tiles-natural c r s h);
      twiddled = λ st is. first-diag c owner st [] r s w is;
    }

first-root : (c : Target) (rule : Rule) (w : ℕ) (a b : Layout) → RuleHasParts c rule (layout_size a) (layout_size b) →
    IsGoodLayout c.modulus b → AreShares c (layout_size a) (layout_size b) →
    First c (block_owner c) (merged nothing (right_terms c.procs c.lanes rule w a b))
first-root c rule w a b fits good h =
    let r = layout_size a in
    right-law (Firsts c) (first-law c) c.procs c.lanes w a b (right-keeps c w r b good h) rule
    (rule-shared c rule r (layout_size b) fits) nothing refl

-- ---- the second phase: s / p columns of each row

whole-keeps : (c : Target) (r s : ℕ) (path : Path) (n : ℕ) (f : Mapping) → AreShares c r s →
    KeepsOwner (column_owner c s) (wrapped (whole_path c.lanes s ++ path) n f)
whole-keeps c r s path n f h =
    let v = c.lanes in
    let inner = within (Columns (s / v)) [] in
    let low : 1 ≤ c.size = h.low in
    let positive : 0 < s = factor_positive r s 0 (omega (arith, h.size, low)) in
    let hv : 0 < v = omega (arith, h.lanes) in
    let wide = h.vectors in
    let hw : 0 < s / v = factor_positive v (s / v) 0 (omega (arith, positive, wide)) in
    let shape : whole_path v s ++ path ≡ within (Columns v) (within (Columns (s / v)) path) = within-append (Columns v) inner path ∙ ap (within (Columns v)) (within-append (Columns (s / v)) [] path) in
    subst (λ z. KeepsOwner (column_owner c s) (wrapped z n f)) (sym shape)
    (stays-in_column c s (at (wrapped path n f)) (at (wrapped (within (Columns v) (within (Columns (s / v)) path)) n f)) positive (both-columns v (s / v) s path n f hv hw (sym wide)))

dealt-natural : (c : Target) (m s size n : ℕ) (path : Path) → AreShares c m s → OwnsNatural c path n (block_owner c) →
    OwnsNatural c path n (λ i. column_owner c s (at (lines_dealt size c.procs c.lanes m s) i))
dealt-natural c m s size n path h natural q vs k below range head inside =
    let p = c.procs in
    let v = c.lanes in
    let u = s / p in
    let f = Strided p m in
    let i = place path n vs k in
    let low : 1 ≤ c.size = h.low in
    let some : 0 < s = factor_positive m s 0 (omega (arith, h.size, low)) in
    let parts : s ≡ p * u = h.columns.parts in
    let positive : 0 < u = factor_positive p u 0 (omega (arith, parts, some)) in
    let hv : 0 < v = omega (arith, h.lanes) in
    let wide : u ≡ u / v * v = h.column_vectors in
    let hw : 0 < u / v = factor_positive v (u / v) 0 (omega (arith, positive, wide)) in
    let dealt : at (lines_dealt size p v m s) i ≡ stride p m (i / u) * u + i % u = both-columns v (u / v) u [] size f hv hw (sym wide) i in
    let block : c.size / p ≡ u * m = block-of c (u * m) h.several (column-block c m s h) in
    let here : i / (u * m) ≡ q = ap (λ b. i / b) (sym block) ∙ natural q vs k below range head inside in
    ap (λ x. x % s / u) dealt ∙ ap (λ z. (stride p m (i / u) * u + i % u) % z / u) parts ∙ dealt-owner p m u i positive (omega (arith, here, below)) ∙ here

left-natural : (c : Target) (m s : ℕ) (path : Path) (n : ℕ) → AreShares c m s → size_under path n ≡ m →
    OwnsNatural c (left_path c.procs c.lanes s ++ path) n (block_owner c)
left-natural c m s path n h e =
    let p = c.procs in
    let v = c.lanes in
    let columns = within (Columns (s / p / v)) [] in
    let rest = within (Columns v) (within (Columns (s / p / v)) path) in
    let shape : left_path p v s ++ path ≡ Blocks p ∷ rest =
    within-append (Blocks p) (within (Columns v) columns) path
    ∙ ap (within (Blocks p)) (within-append (Columns v) columns path ∙ ap (within (Columns v)) (within-append (Columns (s / p / v)) [] path))
    ∙ several-path c rest h.several in
    let size : size_under rest n ≡ s / p * m =
    size-within (Columns v) (within (Columns (s / p / v)) path) n
    ∙ ap (λ k. k * v) (size-within (Columns (s / p / v)) path n ∙ ap (λ k. k * (s / p / v)) e)
    ∙ omega arith
    ∙ ap (λ k. k * m) (sym h.column_vectors) in
    subst (λ z. OwnsNatural c z n (block_owner c)) (sym shape) (block-natural c rest n h.several (ap (λ k. p * k) size ∙ column-block c m s h))

abbrev Seconds : Target → ℕ → Point → List PlainTerm → Point → Type 0
Seconds c s = Brings (λ i. Shared c (column_owner c s))

left-keeps : (c : Target) (m s : ℕ) → AreShares c m s →
    Keeps (Seconds c s) c.modulus [] m (left_core c.procs c.lanes m s)
left-keeps c m s h =
    let p = c.procs in
    let v = c.lanes in
    let owner = column_owner c s in
    let one : (p == 1) ≡ false = unequal p (λ e. omega (arith, e, h.several)) in
    let outer = λ (path : Path). left_path p v s ++ path in
    let all = λ (path : Path). whole_path v s ++ path in
    let dealt = λ (path : Path) (n size : ℕ) (e : size_under path n ≡ m).
    dealt-natural c m s size n (outer path) h (left-natural c m s path n h e) in
    record {
      pieces = λ path w good e st k.
          subst
          (λ b. Shared c owner (merged st (if b then nest (outer path) w ∷ []
          else gath (lines_dealt (p * m) p v m s) ∷ nest (outer path) w ∷ scat (lines_dealt (m * p) p v m s) ∷ [])))
          (sym one)
          (shared-dealt c owner st (outer path) w (lines_dealt (p * m) p v m s) (lines_dealt (m * p) p v m s)
          (dealt path (work_size w) (p * m) e) (dealt path (work_size w) (m * p) e) k);
      turned = λ path a b e st k.
          shared-gath c owner st (wrapped (all path) (a * b) (Strided a b))
          (whole-keeps c m s path (a * b) (Strided a b) h) k;
      twiddled = λ path a b w e st k. shared-diag c owner st (Columns s ∷ path) a b w k;
      gathered = λ path a b e st k.
          shared-gath c owner st (wrapped (all path) (a * b) (ThomasIn a b))
          (whole-keeps c m s path (a * b) (ThomasIn a b) h) k;
      scattered = λ path a b e st k.
          shared-scat c owner st (back (all path) a b)
          (whole-keeps c m s path (a * b) (ThomasBack a b (unit_of a b) (unit_of b a)) h) k;
    }

second-root : (c : Target) (s : ℕ) (a : Layout) → IsGoodLayout c.modulus a → AreShares c (layout_size a) s →
    Shared c (column_owner c s) (merged nothing (left_terms c.procs c.lanes (layout_size a) s (steps_of [] a)))
second-root c s a good h =
    let m = layout_size a in
    let law = brings-law (λ i. Shared c (column_owner c s)) (λ i st is. is) (λ st is. is) in
    let emit = left_core c.procs c.lanes m s in
    steps-law (Seconds c s) law c.modulus [] m emit (left-keeps c m s h) [] a good refl nothing (tt, tt)

-- ---- the root

root-phases : (c : Target) (l : Layout) → CanShareLayout c l → IsGoodLayout c.modulus l → 1 < c.procs →
    RootHasParts c l → ArePhasesShared c (map passes_of_terms (root_terms c l))
root-phases c (work w) can good several fits = absurd fits
root-phases c (by rule w a b) can good several fits =
    let r = layout_size a in
    let s = layout_size b in
    let first = right_terms c.procs c.lanes rule w a b in
    let second = left_terms c.procs c.lanes r s (steps_of [] a) in
    let here : AreShares c r s = shares c (by rule w a b) r s can several (rule-fits c rule r s fits) can.size in
    let phases : in_phases c.procs first second ≡ first ∷ second ∷ [] =
    ap (λ b. if b then (first ++ second) ∷ [] else first ∷ second ∷ []) (unequal c.procs (λ one. omega (arith, one, several))) in
    subst (λ ts. ArePhasesShared c (map passes_of_terms ts)) (sym phases) (
      record {
        owner = block_owner c;
        is_owner = block-owner c r s here;
        owns = first-own c (block_owner c) (merged nothing first) (first-root c rule w a b fits good.2 here);
      },
      (
        record {
          owner = column_owner c s;
          is_owner = column-owner c r s can.line here;
          owns = shared-own c (column_owner c s) (merged nothing second) (second-root c s a good.1 here);
        },
        tt,
      ),
    )

pub phases_are_shared : (c : Target) (l : Layout) → CanShareLayout c l → IsGoodLayout c.modulus l →
    ArePhasesShared c (merged_phases c l)
phases_are_shared c l can good =
    elim (cases_eq c.procs 1) [
      | inl one ↦ alone-phases c can.procs one (merged_phases c l)
      | inr many ↦
          let low : 1 ≤ c.procs = can.procs in
          let several : 1 < c.procs = omega (arith, low, many) in
          let several_either = not_alone c several in
          subst (λ ts. ArePhasesShared c (map passes_of_terms ts)) (sym (shared_terms c l can good several_either)) (root-phases c l can good several (can.root several_either))
    ]
