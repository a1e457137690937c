-- The passes of a formula's term are ones of which a program can be made.
use Rattle.std.proofs.Common.{◌≡◌, ℕ, zero, suc, ◌-◌, ◌*◌, ◌^◌, ◌<◌, ◌≤◌, true, List, [], ◌∷◌, ◌++◌, All, length, map}
use Rattle.std.proofs.Common.{refl, sym, ap₂, arith, subst, Bool, Some, inl, inr, pow_mono, ◌+◌, ◌%◌, ap, ◌∙◌, mod-lt}
use Rattle.std.proofs.Common.{slice_index, ◌&&◌, drop, slice_index_or}
use Rattle.std.specs.List.{list_all}
use Rattle.std.proofs.Math.Nat.{mul-le-mul, mul-le-mul_left, mul-le-mul_right, pow-succ'}
use Rattle.std.proofs.lemmas.Bool.{cases_lt}
use Rattle.std.proofs.lemmas.List.Elements.{All-nil, All-cons, All-append}
use Rattle.std.proofs.lemmas.Bool.Decides.{nat_tests}
use Rattle.matrix_meaning.specs.declared.Kind.TheVariants.{Dft, Wht, Idft}
use Rattle.sigma_spl.specs.Shared.Running.{CanWork}
use Rattle.sigma_spl.specs.Shared.Machine.{plain_machine, first_loop, loop_counts}
use Rattle.sigma_spl.specs.Shared.Ready.{IsReadyNest, IsSmallWork, LoadsAlike, passes_tables}
use Rattle.sigma_spl.specs.Copies.{loops_of}
use Rattle.sigma_spl.specs.Counts.{copies_in, passes_cost}
use Rattle.sigma_spl.specs.Good.{AreGoodNests, IsGoodNest, NamesItems, AreGoodPasses, IsGoodPass}
use Rattle.sigma_spl.specs.Merge.{limits_of, is_limited, is_multiplier_within, is_within, most, if_any, passes_of}
use Rattle.sigma_spl.specs.Nest.{PlainMultiplier, PlainNest, copies_of, factor_count, store_place, sum_value}
use Rattle.sigma_spl.specs.Work.{PlainWork, kernel, rows, horner, copy, node_of, short, work_size}
use Rattle.sigma_spl.proofs.Counting.{items_of, items-once}
use Rattle.sigma_spl.proofs.Nests.{alone, one_below, sound-at, with_more, all-inside}
use Rattle.sigma_spl.proofs.Walk.{and-left, and-right}
use Rattle.perm_algebra.specs.Affine.{Sum, constant}
use Rattle.perm_algebra.proofs.AffineLaws.{value-le-top}
use Rattle.sigma_spl.specs.PlainPasses.{IsPlainNest, ArePlainPasses, IsPlainPass, in_order}
use Rattle.operators.specs.Paths.Tensors.{AreInRange, Path}
use Rattle.sigma_spl.proofs.Limited.{top-below}
use Rattle.sigma_lower.specs.OnePhase.{formula_sigma}
use Rattle.sigma_lower.specs.Operations.{operations}
use Rattle.sigma_spl.specs.Formulas.{IsFormulaSigma}
use Rattle.sigma_spl.specs.Sigma.{PlainSigma}
use Rattle.sigma_lower.specs.Terms.{one_more, halvings, hadamard_term, fourier_term, term_of}
use Rattle.sigma_lower.proofs.Compiling.{formulas_compile}
use Rattle.sigma_lower.proofs.Lowers.{halvings-power, power-above, lowers}
use Rattle.sigma_lower.proofs.Several.{term-several}
use Rattle.sigma_spl.proofs.Tables.{tables-append}
use Rattle.matrix_meaning.specs.Kind.{IsPowerOfTwo}
use Rattle.sigma_spl.specs.Shared.Costs.{work_cost}
use Rattle.sigma_spl.specs.Shared.Owners.{most_actions}
use Rattle.sigma_spl.specs.Limits.{AreWithin}
use Rattle.sigma_spl.specs.Term.{PlainTerm, nest}
use Rattle.spl_ast.specs.Formula.{Formula, Identity, Fourier, Hadamard, Twiddles, Diagonal, Product, TensorLeft}
use Rattle.spl_ast.specs.Formula.{TensorRight, DirectSum, Pending, size_of, parts_of}
use Rattle.spl_ast.specs.Shape.{IsShaped}
use Rattle.spl_ast.proofs.Vectors.{shaped_size, size_is_size}
use Rattle.operators.specs.declared.paths.Tensor.TheVariants.{Blocks, Columns}
use Rattle.matrix_meaning.proofs.Requests.{power_below}
use Rattle.sigma_lower.proofs.FormulaPasses.Costs.{leaf-root, operations-le, pass-loads-le}
use Rattle.sigma_lower.proofs.FormulaPasses.Merging.{IsFormulaWork, IsAlike, HasDiagonal, AreMany, IsMade, AreMade}
use Rattle.sigma_lower.proofs.FormulaPasses.Merging.{AllMade, IsFormulaTerm, passes-made}
use Rattle.sigma_lower.proofs.FormulaPasses.Counted.{sums_in, makers_in, steps_in, passes-few}

-- ---- what is known of a nest of a formula's passes, with places within the limits, lets a program be made of it

-- ---- places within the limits

limited-at : (room n : ℕ) (cs : ℕ → ℕ) (sums : List Sum) (i : ℕ) → list_all (is_limited room n cs) sums ≡ true →
    i < length sums → is_limited room n cs (slice_index_or sums i (constant 0)) ≡ true
limited-at room n cs [] i h within = absurd (omega arith)
limited-at room n cs (e ∷ es) zero h within = and-left (is_limited room n cs e) _ h
limited-at room n cs (e ∷ es) (suc i) h within = limited-at room n cs es i (and-right (is_limited room n cs e) _ h) (omega (arith, within))

-- a sum within the limits stays below its bound
value-below : (count : ℕ) (cs : ℕ → ℕ) (sums : List Sum) (i : ℕ) (vs : List ℕ) (w : PlainWork) → NamesItems w sums →
    list_all (is_limited 64 count cs) sums ≡ true → i < length sums → ((d : ℕ) → slice_index vs d ≤ cs d - 1) →
    sum_value sums i vs < count
value-below count cs sums i vs w names h within range =
    let least = value-le-top (slice_index_or sums i (constant 0)) (slice_index vs) cs (sound-at sums i names.sound) range in
    let below = top-below 64 count cs (slice_index_or sums i (constant 0)) (limited-at 64 count cs sums i h within) in omega (arith, least, below)

factor-below : (counts : List ℕ) (w : PlainWork) (count : ℕ) (places : List Sum) (vs : List ℕ) (k : ℕ) →
    IsFormulaWork w → NamesItems w places →
    list_all (is_limited 64 count (slice_index (counts ++ work_size w ∷ work_size w ∷ []))) places ≡ true →
    AreInRange (loops_of counts) vs → k < work_size w → store_place w places vs k < count
factor-below counts (kernel trees) count places vs k work names h range below = value-below count _ places k vs (kernel trees) names h (omega (arith, names.enough, below)) (alone counts _ vs range)
factor-below counts (horner root d) count places vs k work names h range below = value-below count _ places 0 (vs ++ k ∷ []) (horner root d) names h (omega (arith, names.enough)) (with_more counts d vs (k ∷ []) range (one_below d k below))
factor-below counts (copy d) count places vs k work names h range below = value-below count _ places k vs (copy d) names h (omega (arith, names.enough, below)) (alone counts _ vs range)
factor-below counts _ count places vs k work names h range below = absurd work

-- ---- counts

pub some-copies : (counts : List ℕ) → AreMany counts → 1 ≤ copies_in counts
some-copies [] h = omega arith
some-copies (c ∷ counts) h = let both : 1 * 1 ≤ c * copies_in counts = mul-le-mul {n₁ = 1} {m₁ = 1} {n₂ = c} {m₂ = copies_in counts} (omega (arith, h.0)) (some-copies counts h.1) in omega (arith, both)

copies-least : (counts : List ℕ) → AreMany counts → 2 ^ length counts ≤ copies_in counts
copies-least [] h = omega arith
copies-least (c ∷ counts) h =
    let rest = copies-least counts h.1 in
    let both : 2 * 2 ^ length counts ≤ c * copies_in counts = mul-le-mul {n₁ = 2} {m₁ = 2 ^ length counts} {n₂ = c} {m₂ = copies_in counts} h.0 rest in
    let same = pow-succ' 2 (length counts) in omega (arith, both, same)

few-loops : (counts : List ℕ) → AreMany counts → copies_in counts ≤ 1048576 → length counts ≤ 20
few-loops counts h high =
    let least = copies-least counts h in
    elim (cases_lt 20 (length counts)) [
      | inl long ↦ let great : 2 ^ 21 ≤ 2 ^ length counts = pow_mono {i = 21} {j = length counts} (omega (arith, long)) in absurd (omega (arith, great, least, high))
      | inr few ↦ few
    ]

small-counts : (counts : List ℕ) → AreMany counts → copies_in counts ≤ 1048576 →
    All (λ c. (1 ≤ c) × (c ≤ 1048576)) counts
small-counts [] h high = All-nil (λ c. (1 ≤ c) × (c ≤ 1048576))
small-counts (c ∷ counts) h high =
    let some = some-copies counts h.1 in
    let first : c * 1 ≤ c * copies_in counts = mul-le-mul_left c some in
    let rest : 1 * copies_in counts ≤ c * copies_in counts = mul-le-mul_right (copies_in counts) (omega (arith, h.0)) in
    All-cons (λ c. (1 ≤ c) × (c ≤ 1048576)) c counts (omega (arith, h.0), omega (arith, first, high)) (small-counts counts h.1 (omega (arith, rest, high)))

-- ---- work

pub some-items : (w : PlainWork) → IsFormulaWork w → 0 < work_size w
some-items (kernel (short Dft root d)) h = omega (arith, h.0)
some-items (kernel (short Wht root d)) h = omega (arith, h.0.0)
some-items (kernel (short Idft root d)) h = absurd h.0
some-items (horner root d) h = h
some-items (copy d) h = h
some-items _ h = absurd h

can-work : (n m : ℕ) (w : PlainWork) → IsFormulaWork w → CanWork (plain_machine n m) w
can-work n m (kernel (short kind root d)) h = record { trees = (h.0, leaf-root m root d kind); source = h.1 }
can-work n m (horner root d) h = h
can-work n m (copy d) h = tt
can-work n m _ h = absurd h

alike-as : (z : PlainNest) (w : PlainWork) → z.work ≡ w → IsFormulaWork w → IsAlike z.counts w z.gathers →
    LoadsAlike z w
alike-as z (rows root d) is work h = absurd work
alike-as z (horner root d) is work h = λ vs row k range below under. h vs row k range (subst (λ v. row < work_size v) is below) (subst (λ v. k < work_size v) is under)
alike-as z _ is work h = tt

-- a kernel is short
small-as : (w : PlainWork) → IsFormulaWork w → IsSmallWork w
small-as (kernel (short kind root d)) h = let few = h.1 in omega (arith, few)
small-as (kernel (node_of p t)) h = absurd h
small-as _ h = tt

-- ---- one processor and one lane

no-frame : (n m : ℕ) (w : PlainWork) (counts : List ℕ) → drop (first_loop (plain_machine n m) w) counts ≡ counts
no-frame n m (kernel trees) counts = refl
no-frame n m _ counts = refl

-- ---- nests

module _ (m n : ℕ) (high : n ≤ 1048576) where
  module _ (z : PlainNest) (made : IsMade m z) (good : IsGoodNest 0 m n z) (loads : list_all (is_limited 64 n (limits_of z)) z.gathers ≡ true) (stores : list_all (is_limited 64 n (limits_of z)) z.scatters ≡ true)
      (factors : is_multiplier_within 64 (limits_of z) z.multiplier ≡ true) (room : copies_in z.counts * work_size z.work ≤ n) where
    items : 0 < work_size z.work
    items = some-items z.work made.work

    few-copies : copies_in z.counts ≤ 1048576
    few-copies = let one : copies_in z.counts * 1 ≤ copies_in z.counts * work_size z.work = mul-le-mul_left (copies_in z.counts) items in omega (arith, one, room, high)

    few-items : work_size z.work ≤ 1048576
    few-items = let one : 1 * work_size z.work ≤ copies_in z.counts * work_size z.work = mul-le-mul_right (work_size z.work) (some-copies z.counts made.counts) in omega (arith, one, room, high)

    loops : loop_counts (plain_machine n m) z ≡ z.counts
    loops = no-frame n m z.work z.counts

    shallow : length (loop_counts (plain_machine n m) z) ≤ 20
    shallow = subst (λ counts. length counts ≤ 20) (sym loops) (few-loops z.counts made.counts few-copies)

    -- what a diagonal needs
    diagonal : (d : PlainMultiplier) → z.multiplier ≡ Some d → HasDiagonal m z.work (Some d)
    diagonal d is = subst (HasDiagonal m z.work) is made.diagonal

    places : (d : PlainMultiplier) → z.multiplier ≡ Some d →
        list_all (is_limited 64 (factor_count d.factors) (limits_of z)) d.places ≡ true
    places d is = subst (λ o. is_multiplier_within 64 (limits_of z) o ≡ true) is factors

    ready : IsReadyNest (plain_machine n m) z
    ready =
        let deep = shallow in
        record {
          gathers = made.gathers;
          scatters = made.scatters;
          multiplier = λ d is. let one = diagonal d is in record { named = one.0; some = one.1.some; few = one.1.few };
          alike = alike-as z z.work refl made.work made.alike;
          small = small-as z.work made.work;
          items = few-items;
          shallow = omega (arith, deep);
          counts = subst (All (λ c. (1 ≤ c) × (c ≤ 1048576))) (sym loops) (small-counts z.counts made.counts few-copies);
        }

    within : is_within 64 n (z ∷ []) ≡ true
    within =
        ap₂ (λ (a b : Bool). a && b) (ap₂ (λ (a b : Bool). a && b) (ap₂ (λ (a b : Bool). a && b) loads stores) factors) refl

    pub plain-nest : IsPlainNest n m z
    plain-nest =
        record {
          work = can-work n m z.work made.work;
          inside = good.inside;
          factors = λ d is vs k range below. factor-below z.counts z.work (factor_count d.factors) d.places vs k made.work (diagonal d is).0 (places d is) range below;
          residues = λ d is i. (diagonal d is).1.residues i;
          ready = ready;
          within = within;
        }

  pub plain-nests : (zs : List PlainNest) → AreMade m zs → AreGoodNests 0 m n zs → is_within 64 n zs ≡ true →
      items_of (map (copies_of m) zs) ≤ n → All (IsPlainNest n m) zs
  plain-nests [] made good within room = All-nil (IsPlainNest n m)
  plain-nests (z ∷ zs) made good within room =
      let cs = limits_of z in
      let both = list_all (is_limited 64 n cs) z.gathers && list_all (is_limited 64 n cs) z.scatters in
      let here = and-left (both && is_multiplier_within 64 cs z.multiplier) _ within in
      let sums = and-left both _ here in
      All-cons (IsPlainNest n m) z zs
      (plain-nest z made.0 good.0 (and-left (list_all (is_limited 64 n cs) z.gathers) _ sums) (and-right (list_all (is_limited 64 n cs) z.gathers) _ sums) (and-right both _ here) (omega (arith, room)))
      (plain-nests zs made.1 good.1 (and-right (both && is_multiplier_within 64 cs z.multiplier) _ within) (omega (arith, room)))

-- ---- the passes of every formula are ready

-- ---- the term of a formula

residues-below : (m : ℕ) (entries : List ℕ) (i : ℕ) → 0 < m → slice_index (map (λ v. v % m) entries) i < m
residues-below m [] i some = some
residues-below m (v ∷ vs) zero some = mod-lt v some
residues-below m (v ∷ vs) (suc i) some = residues-below m vs i some

hadamard-formed : (m : ℕ) (path : Path) (k : ℕ) → IsFormulaTerm m (hadamard_term path k)
hadamard-formed m path zero = tt
hadamard-formed m path (suc k) = (hadamard-formed m (path ++ Blocks 2 ∷ []) k, ((omega arith, omega arith), omega arith))

-- a short transform is one kernel, and a longer one goes row by row
fourier-by : (P : PlainTerm → Type 0) (path : Path) (n w : ℕ) → (8 < n → P (nest path (horner w n))) →
    (n ≤ 8 → P (nest path (kernel (short Dft w n)))) → P (fourier_term path n w)
fourier-by P path n w row kept =
    elim (cases_lt 8 n) [
      | inl long ↦ let is : fourier_term path n w ≡ nest path (horner w n) = grind (arith, nat_tests) in
          subst P (sym is) (row long)
      | inr few ↦ let is : fourier_term path n w ≡ nest path (kernel (short Dft w n)) = grind (arith, nat_tests) in
          subst P (sym is) (kept few)
    ]

term-formed : (m : ℕ) (path : Path) (f : Formula) → 0 < m → IsShaped f → IsFormulaTerm m (term_of m path f)
term-formed m path (Fourier n w) some shaped =
    let least = shaped.0.0 in
    fourier-by (IsFormulaTerm m) path n w (λ long. omega (arith, long)) (λ few. (least, few))
term-formed m path (Hadamard n) some shaped = hadamard-formed m path (halvings n n)
term-formed m path (Twiddles n s w) some shaped = λ i. power_below m w _ some
term-formed m path (Diagonal c) some shaped = λ i. residues-below m c i some
term-formed m path (Product a b) some shaped = (term-formed m path b some shaped.1, term-formed m path a some shaped.0)
term-formed m path (TensorLeft a k) some shaped = term-formed m (one_more path (Columns k)) a some shaped.0
term-formed m path (TensorRight k a) some shaped = term-formed m (one_more path (Blocks k)) a some shaped.1
term-formed m path (DirectSum a b) some shaped = (term-formed m [] a some shaped.0, term-formed m [] b some shaped.1)
term-formed m path (Pending a) some shaped = term-formed m path a some shaped
term-formed m path _ some shaped = tt

-- ---- how many steps it has

-- s steps, d direct sums and t tables
record IsCounted (f : Formula) (s d t : ℕ) : Type 0 where
  steps : s ≤ 21 * (parts_of f + 1)
  sums : d ≤ parts_of f
  makers : d + t ≤ parts_of f + 1

halvings-few : (n : ℕ) → n ≤ 1048576 → IsPowerOfTwo n → halvings n n ≤ 20
halvings-few n high (e, whole) =
    let steps : halvings n n ≡ e = ap (λ z. halvings z z) whole ∙ halvings-power e (2 ^ e) (power-above e) in
    elim (cases_lt 20 e) [
      | inl long ↦ let great : 2 ^ 21 ≤ 2 ^ e = pow_mono {i = 21} {j = e} (omega (arith, long)) in absurd (omega (arith, great, whole, high))
      | inr few ↦ omega (arith, steps, few)
    ]

hadamard-counted : (path : Path) (k : ℕ) → (steps_in (hadamard_term path k) ≡ suc k)
    × (sums_in (hadamard_term path k) ≡ 0) × (makers_in (hadamard_term path k) ≡ 0)
hadamard-counted path zero = (refl, refl, refl)
hadamard-counted path (suc k) =
    let rest = hadamard-counted (path ++ Blocks 2 ∷ []) k in
    (omega (arith, rest.0), omega (arith, rest.1), omega (arith, rest.2))

abbrev Counts : Formula → ℕ → Path → Type 0
Counts f m path = IsCounted f (steps_in (term_of m path f)) (sums_in (term_of m path f)) (makers_in (term_of m path f))

term-counted : (m : ℕ) (path : Path) (f : Formula) → IsShaped f → Counts f m path
term-counted m path (Identity n) shaped = record { steps = omega arith; sums = omega arith; makers = omega arith }
term-counted m path (Fourier n w) shaped =
    fourier-by (λ t. IsCounted (Fourier n w) (steps_in t) (sums_in t) (makers_in t)) path n w
    (λ long. record { steps = omega arith; sums = omega arith; makers = omega arith })
    (λ few. record { steps = omega arith; sums = omega arith; makers = omega arith })
term-counted m path (Hadamard n) shaped =
    let k = halvings n n in
    let few = halvings-few n shaped.0.1 shaped.1 in
    let all = hadamard-counted path k in
    record {
      steps = omega (arith, few, all.0);
      sums = omega (arith, all.1);
      makers = omega (arith, all.1, all.2);
    }
term-counted m path (Product a b) shaped =
    let left = term-counted m path a shaped.0 in
    let right = term-counted m path b shaped.1 in
    record { steps = omega (arith, left.steps, right.steps); sums = omega (arith, left.sums, right.sums); makers = omega (arith, left.makers, right.makers) }
term-counted m path (TensorLeft a k) shaped =
    let inner = term-counted m (one_more path (Columns k)) a shaped.0 in record { steps = omega (arith, inner.steps); sums = omega (arith, inner.sums); makers = omega (arith, inner.makers) }
term-counted m path (TensorRight k a) shaped =
    let inner = term-counted m (one_more path (Blocks k)) a shaped.1 in record { steps = omega (arith, inner.steps); sums = omega (arith, inner.sums); makers = omega (arith, inner.makers) }
term-counted m path (DirectSum a b) shaped =
    let left = term-counted m [] a shaped.0 in
    let right = term-counted m [] b shaped.1 in
    record { steps = omega (arith, left.steps, right.steps); sums = omega (arith, left.sums, right.sums); makers = omega (arith, left.makers, left.sums, right.makers, right.sums) }
term-counted m path (Pending a) shaped =
    let inner = term-counted m path a shaped in record { steps = omega (arith, inner.steps); sums = omega (arith, inner.sums); makers = omega (arith, inner.makers) }
term-counted m path _ shaped = record { steps = omega arith; sums = omega arith; makers = omega arith }

-- ---- all passes

module _ (m n : ℕ) (large : 2 ≤ m) (some : 0 < n) (high : n ≤ 1048576) where
  all-items : (zs : List PlainNest) → IsGoodPass 0 m n zs → items_of (map (copies_of m) zs) ≡ n
  all-items zs good = items-once n (map (copies_of m) zs) (all-inside 0 m n zs good.nests) good.once

  plain-pass : (zs : List PlainNest) → AreMade m zs → IsGoodPass 0 m n zs → is_within 64 n zs ≡ true →
      IsPlainPass n m zs
  plain-pass zs made good within =
      let items = all-items zs good in
      record { nests = plain-nests m n high zs made good.nests within (omega (arith, items)); once = good.once }

  plain-passes : (ps : List (List PlainNest)) → AllMade m ps → AreGoodPasses 0 m n ps → AreWithin 64 n ps →
      All (IsPlainPass n m) (in_order ps)
  plain-passes [] made good within = All-nil (IsPlainPass n m)
  plain-passes (zs ∷ ps) made good within =
      All-append (IsPlainPass n m) (in_order ps) (zs ∷ []) (plain-passes ps made.1 good.1 within.1)
      (All-cons (IsPlainPass n m) zs [] (plain-pass zs made.0 good.0 within.0) (All-nil (IsPlainPass n m)))

  -- ---- actions

  actions-append : (ps qs : List (List PlainNest)) → most_actions (plain_machine n m) (ps ++ qs)
      ≡ most_actions (plain_machine n m) ps + most_actions (plain_machine n m) qs
  actions-append [] qs = omega arith
  actions-append (zs ∷ ps) qs = let rest = actions-append ps qs in omega (arith, rest)

  -- operations as often again for the loads, and three actions a word
  passes-actions : (ps : List (List PlainNest)) → AllMade m ps → AreGoodPasses 0 m n ps →
      most_actions (plain_machine n m) (in_order ps) ≤ 2 * passes_cost 1 (work_cost 1 m) ps + 3 * n * length ps
  passes-actions [] made good = omega arith
  passes-actions (zs ∷ ps) made good =
      let loads = pass-loads-le m zs made.0 in
      let items = all-items zs good.0 in
      let rest = passes-actions ps made.1 good.1 in
      let both = actions-append (in_order ps) (zs ∷ []) in omega (arith, loads, items, rest, both)

few-actions : (n parts steps cost long : ℕ) → n ≤ 1048576 → parts ≤ 65536 → cost ≤ 2 * (n * n) * (parts + 1) →
    steps ≤ 21 * (parts + 1) → long ≤ steps + 1 → 2 * cost + 3 * n * long < 2 ^ 59
few-actions n parts steps cost long high few low brief last =
    let square : n * n ≤ 1048576 * 1048576 = mul-le-mul {n₁ = n} {m₁ = n} {n₂ = 1048576} {m₂ = 1048576} high high in
    let all : n * n * (parts + 1) ≤ 1099511627776 * 65537 = mul-le-mul {n₁ = n * n} {m₁ = parts + 1} {n₂ = 1099511627776} {m₂ = 65537} (omega (arith, square)) (omega (arith, few)) in
    let words : n * long ≤ 1048576 * 1376279 = mul-le-mul {n₁ = n} {m₁ = long} {n₂ = 1048576} {m₂ = 1376279} high (omega (arith, few, brief, last)) in
    omega (arith, low, all, words)

-- ---- tables

tables-order : (ps : List (List PlainNest)) → passes_tables (in_order ps) ≡ passes_tables ps
tables-order [] = refl
tables-order (zs ∷ ps) = let both = tables-append (in_order ps) (zs ∷ []) in let rest = tables-order ps in omega (arith, both, rest)

few-product : (a b : ℕ) → a + b ≤ 65538 → a * b < 2 ^ 32
few-product a b h =
    elim (cases_lt 32769 a) [
      | inl more ↦ let all : a * b ≤ 65538 * 32769 = mul-le-mul {n₁ = a} {m₁ = b} {n₂ = 65538} {m₂ = 32769} (omega (arith, h)) (omega (arith, h, more)) in omega (arith, all)
      | inr less ↦ let all : a * b ≤ 32769 * 65538 = mul-le-mul {n₁ = a} {m₁ = b} {n₂ = 32769} {m₂ = 65538} less (omega (arith, h)) in omega (arith, all)
    ]

some-any : (n : ℕ) (ps : List (List PlainNest)) → 0 < length (if_any n ps)
some-any n [] = omega arith
some-any n (zs ∷ ps) = omega arith

pub passes-plain : (m : ℕ) (f : Formula) → 2 ≤ m → m < 2 ^ 62 → IsShaped f → parts_of f ≤ 65536 →
    ArePlainPasses (size_of f) m (passes_of (size_of f) (term_of m [] f))
passes-plain m f two below shaped few =
    let n = size_of f in
    let some = shaped_size f shaped in
    let size = size_is_size f shaped in
    let positive : 0 < m = omega (arith, two) in
    let t = term_of m [] f in
    let ps = passes_of n t in
    let compiled = formulas_compile m f positive shaped in
    let lowered = lowers m [] f positive some shaped in
    let made = passes-made m n (most 64) t positive some size.1 (record { good = lowered.good; several = term-several m [] f tt shaped; formula = term-formed m [] f positive shaped }) in
    let counted = passes-few (most 64) n t in
    let counts = term-counted m [] f shaped in
    let actions = passes-actions m n two some size.1 ps made compiled.good in
    let price : passes_cost 1 (work_cost 1 m) ps ≡ operations 1 m f = compiled.cost 1 in
    let modest = operations-le m f shaped in
    let bound = few-actions n (parts_of f) (steps_in t) (passes_cost 1 (work_cost 1 m) ps) (length ps) size.1 few (omega (arith, price, modest)) counts.steps counted.long in
    let same = tables-order ps in
    let product = few-product (sums_in t + 1) (makers_in t) (omega (arith, counts.makers, few)) in
    record {
      size = size;
      modulus = (two, below);
      some = some-any n _;
      passes = plain-passes m n two some size.1 ps made compiled.good compiled.limits;
      few = omega (arith, actions, bound);
      tables = omega (arith, same, counted.tables, product);
    }

-- ---- the Sigma of a formula

pub formula_is_sigma : (m : ℕ) (f : Formula) (s : PlainSigma) → 2 ≤ m → m < 2 ^ 62 → IsShaped f → parts_of f ≤ 65536 →
    s ≡ formula_sigma m f → IsFormulaSigma m f s
formula_is_sigma m f s two below shaped few is =
    subst (IsFormulaSigma m f) (sym is)
    (record {
      size = refl;
      procs = refl;
      lanes = refl;
      term = term_of m [] f;
      phases = refl;
      passes = passes-plain m f two below shaped few;
    })
