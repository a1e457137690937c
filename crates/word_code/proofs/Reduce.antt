-- Reductions of registers until bounds are small enough.
use Rattle.std.proofs.Common.{◌≡◌, ℕ, zero, suc, ◌+◌, ◌*◌, ◌<◌, ◌≤◌, ◌≢◌, ◌⊎◌, inl, inr, List, [], ◌∷◌, true, false}
use Rattle.std.proofs.Common.{cond, length, map, replicate, refl, sym, ap, ◌∙◌, subst, arith, ⊎_elim, mul-le-mul_left}
use Rattle.std.proofs.Common.{get_or-set_same, get_or-set_other}
use Rattle.std.specs.Prelude.{All, nat_le, slice_set}
use Rattle.std.proofs.lemmas.Bool.{cases_lt}
use Rattle.std.proofs.lemmas.Bool.Decides.{nat_tests}
use Rattle.std.proofs.lemmas.List.{length-set, map-id, set-get_or}
use Rattle.std.proofs.lemmas.List.Elements.{All-nil, All-cons}
use Rattle.std.proofs.lemmas.Nat.{div-add-mod', mod_below}
use Rattle.icode.specs.Machine.{words_at, with_words, register_of}
use Rattle.icode.proofs.Words.{length-words_at}
use Rattle.icode.proofs.SequenceLemmas.Placing.{length-mapped}
use Rattle.word_code.specs.Bare.{ReductionFits}
use Rattle.word_code.specs.Words.{reduced}
use Rattle.word_code.specs.declared.program.Reduction.{Reduction}
use Rattle.word_code.specs.WordMachine.{reduce_register, reduce_registers}
use Rattle.word_code.specs.Quicken.{bound_at, half_up, greater, Settled, then_settled, settled}
use Rattle.word_code.proofs.Arithmetic.{reduced_word}
use Rattle.word_code.proofs.Residues.{residues, residues-with_words, AllBelow, lazy_map}
use Rattle.word_code.proofs.Bounds.{Bounds, AreRegistersBelow, register_below, put_below}

-- writing what stands there
with_words-same : (n : ℕ) (xs : List ℕ) (i : ℕ) → with_words xs i (words_at n xs i) ≡ xs
with_words-same zero xs i = refl
with_words-same (suc n) xs i =
    ap (λ ys. with_words ys (i + 1) (words_at n xs (i + 1))) (set-get_or xs i 0) ∙ with_words-same n xs (i + 1)

-- bounds that are set
pub set_bound : (limit : ℕ) (bounds : List ℕ) (r v : ℕ) → v ≤ limit → v ≤ bound_at limit (slice_set bounds r v) r
set_bound limit [] r v le = le
set_bound limit (b ∷ bounds) zero v le = omega arith
set_bound limit (b ∷ bounds) (suc r) v le = set_bound limit bounds r v le

pub kept_bound : (limit : ℕ) (bounds : List ℕ) (r v q : ℕ) → (q < r) ⊎ (r + 1 ≤ q) →
    bound_at limit bounds q ≤ bound_at limit (slice_set bounds r v) q
kept_bound limit bounds r v q apart =
    let other : q ≢ r = λ e. elim apart [ inl lt ↦ omega (arith, lt, e) | inr gt ↦ omega (arith, gt, e) ] in
    let e : bound_at limit (slice_set bounds r v) q ≡ bound_at limit bounds q = get_or-set_other bounds r q v limit other in
    omega arith

pub set_bound_here : (limit : ℕ) (bounds : List ℕ) (r v q : ℕ) → v ≤ limit → r ≤ q → q < r + 1 →
    v ≤ bound_at limit (slice_set bounds r v) q
set_bound_here limit bounds r v q le from to =
    let e : q ≡ r = omega arith in
    subst (λ k. v ≤ bound_at limit (slice_set bounds r v) k) (sym e) (set_bound limit bounds r v le)

pub loosest_is : (limit regs r : ℕ) → bound_at limit (replicate regs limit) r ≡ limit
loosest_is limit (suc regs) (suc r) = loosest_is limit regs r
loosest_is limit _ _ = refl

half_low : (b : ℕ) → b ≤ 2 * half_up b
half_low b = let a = div-add-mod' (b + 1) 2 in let c = mod_below (b + 1) 2 (omega arith) in omega arith

pub half_under : (b : ℕ) → half_up b ≤ b
half_under b = let a = div-add-mod' (b + 1) 2 in omega arith

half_less : (b : ℕ) → 2 ≤ b → half_up b + 1 ≤ b
half_less b two = let a = div-add-mod' (b + 1) 2 in omega arith

-- what reductions keep and what they reach
pub record AreReductions (base m lanes : ℕ) (b : Bounds) (rs : List Reduction) (c : Bounds) : Type 0 where
  pub same : (words : List ℕ) → AreRegistersBelow m lanes b words →
      residues m (reduce_registers base lanes rs words) ≡ residues m words
  pub below : (words : List ℕ) → AreRegistersBelow m lanes b words →
      AreRegistersBelow m lanes c (reduce_registers base lanes rs words)

pub no_reductions : (base m lanes : ℕ) (b : Bounds) → AreReductions base m lanes b [] b
no_reductions base m lanes b = record { same = λ words low. refl; below = λ words low. low }

and_reductions : (base m lanes : ℕ) (b c d : Bounds) (r : Reduction) (rs : List Reduction) →
    AreReductions base m lanes b (r ∷ []) c → AreReductions base m lanes c rs d →
    AreReductions base m lanes b (r ∷ rs) d
and_reductions base m lanes b c d r rs one rest =
    record {
      same = λ words low. rest.same (reduce_register base lanes r words) (one.below words low) ∙ one.same words low;
      below = λ words low. rest.below (reduce_register base lanes r words) (one.below words low);
    }

one_reduction : (base m lanes limit r : ℕ) (bounds : List ℕ) → 0 < m → limit * m < base →
    bound_at limit bounds r ≤ limit →
    AreReductions base m lanes (bound_at limit bounds) (record { register = r; amount = half_up (bound_at limit bounds r) * m } ∷ []) (bound_at limit (slice_set bounds r (half_up (bound_at limit bounds r))))
one_reduction base m lanes limit r bounds pos room sane =
    record { same = λ words low. same words low; below = λ words low. below words low }
  where
    b : ℕ
    b = bound_at limit bounds r

    h : ℕ
    h = half_up b

    lazy : (words : List ℕ) → AreRegistersBelow m lanes (bound_at limit bounds) words →
        (map (λ a. a) (residues m (register_of lanes words r))
        ≡ residues m (map (reduced base (h * m)) (register_of lanes words r))) × AllBelow (h * m)
        (map (reduced base (h * m)) (register_of lanes words r))
    lazy words low =
        let low_half = mul-le-mul_left m (half_low b) in
        let under = half_under b in
        let up = mul-le-mul_left m sane in
        let less : h ≤ limit = omega (arith, under, sane) in
        let up_too = mul-le-mul_left m less in
        let enough : b * m ≤ 2 * (h * m) = omega (arith, low_half) in
        let fits : h * m < base = omega (arith, up_too, room) in
        lazy_map m (b * m) (h * m) (λ a. a) (reduced base (h * m))
        (λ a lt. let small : a < base = omega (arith, lt, up, room) in reduced_word base m h (b * m) a pos enough fits small lt)
        (register_of lanes words r) (register_below m lanes (bound_at limit bounds) words r low)

    same : (words : List ℕ) → AreRegistersBelow m lanes (bound_at limit bounds) words →
        residues m (with_words words (r * lanes) (map (reduced base (h * m)) (register_of lanes words r)))
        ≡ residues m words
    same words low =
        sym (residues-with_words m (map (reduced base (h * m)) (register_of lanes words r)) words (r * lanes))
        ∙ ap (with_words (residues m words) (r * lanes))
        (sym (lazy words low).0 ∙ map-id (residues m (register_of lanes words r)))
        ∙ residues-with_words m (register_of lanes words r) words (r * lanes)
        ∙ ap (residues m) (with_words-same lanes words (r * lanes))

    below : (words : List ℕ) → AreRegistersBelow m lanes (bound_at limit bounds) words →
        AreRegistersBelow m lanes (bound_at limit (slice_set bounds r h))
        (with_words words (r * lanes) (map (reduced base (h * m)) (register_of lanes words r)))
    below words low =
        let less : h ≤ limit = let under = half_under b in omega (arith, under, sane) in
        let one : 1 * lanes ≡ lanes = omega arith in
        put_below m lanes 1 r h (bound_at limit bounds) (bound_at limit (slice_set bounds r h)) words (map (reduced base (h * m)) (register_of lanes words r)) low (lazy words low).1
        (length-mapped (reduced base (h * m)) (register_of lanes words r) ∙ length-words_at lanes words (r * lanes) ∙ sym one)
        (λ q from to. set_bound_here limit bounds r h q less from to)
        (λ q apart. kept_bound limit bounds r h q apart)

-- Settled bounds

-- what settling keeps and reaches
pub record IsSettled (base m lanes limit x y target : ℕ) (bounds : List ℕ) (s : Settled) : Type 0 where
  pub reductions : AreReductions base m lanes (bound_at limit bounds) s.reductions (bound_at limit s.bounds)
  pub low : (r : ℕ) → bound_at limit s.bounds r ≤ bound_at limit bounds r
  pub long : length s.bounds ≡ length bounds
  pub small : bound_at limit s.bounds x + bound_at limit s.bounds y ≤ target
  pub fit : All (ReductionFits base (length bounds)) s.reductions

pub set_lower : (limit : ℕ) (bounds : List ℕ) (r v q : ℕ) → v ≤ bound_at limit bounds r →
    bound_at limit (slice_set bounds r v) q ≤ bound_at limit bounds q
set_lower limit [] r v q le = omega arith
set_lower limit (b ∷ bounds) zero v zero le = le
set_lower limit (b ∷ bounds) zero v (suc q) le = omega arith
set_lower limit (b ∷ bounds) (suc r) v zero le = omega arith
set_lower limit (b ∷ bounds) (suc r) v (suc q) le = set_lower limit bounds r v q le

-- one of the two falls
falls : (limit x y target n : ℕ) (bounds : List ℕ) → 2 ≤ target → x < length bounds → y < length bounds →
    target < bound_at limit bounds x + bound_at limit bounds y →
    bound_at limit bounds x + bound_at limit bounds y ≤ target + suc n →
    (r : ℕ) → (r ≡ x) ⊎ (r ≡ y) → 2 ≤ bound_at limit bounds r →
    bound_at limit (slice_set bounds r (half_up (bound_at limit bounds r))) x
    + bound_at limit (slice_set bounds r (half_up (bound_at limit bounds r))) y ≤ target + n
falls limit x y target n bounds two in_x in_y over fuel r which big =
    let h = half_up (bound_at limit bounds r) in
    let less = half_less (bound_at limit bounds r) big in
    let under = half_under (bound_at limit bounds r) in
    let at_x = set_lower limit bounds r h x under in
    let at_y = set_lower limit bounds r h y under in
    let there : (k : ℕ) → r ≡ k → k < length bounds → bound_at limit (slice_set bounds r h) k ≡ h =
    λ k e in_k. subst (λ i. bound_at limit (slice_set bounds i h) k ≡ h) (sym e)
    (get_or-set_same bounds k h limit in_k) in
    elim which [
      | inl e ↦ omega (arith, there x e in_x, ap (bound_at limit bounds) e, less, at_y, fuel)
      | inr e ↦ omega (arith, there y e in_y, ap (bound_at limit bounds) e, less, at_x, fuel)
    ]

greater_is : (limit x y target : ℕ) (bounds : List ℕ) → 2 ≤ target →
    target < bound_at limit bounds x + bound_at limit bounds y →
    ((greater limit x y bounds ≡ x) ⊎ (greater limit x y bounds ≡ y))
    × (2 ≤ bound_at limit bounds (greater limit x y bounds))
greater_is limit x y target bounds two over =
    elim (cases_lt (bound_at limit bounds x) (bound_at limit bounds y)) [
      | inl lt ↦
          let e : greater limit x y bounds ≡ y = grind (arith, nat_tests) in
          (inr e, subst (λ r. 2 ≤ bound_at limit bounds r) (sym e) (omega arith))
      | inr ge ↦
          let e : greater limit x y bounds ≡ x = grind (arith, nat_tests) in
          (inl e, subst (λ r. 2 ≤ bound_at limit bounds r) (sym e) (omega arith))
    ]

and_settled : (base m lanes limit x y target r : ℕ) (bounds : List ℕ) (rest : Settled) → 0 < m → limit * m < base →
    r < length bounds → ((q : ℕ) → bound_at limit bounds q ≤ limit) →
    IsSettled base m lanes limit x y target (slice_set bounds r (half_up (bound_at limit bounds r))) rest →
    IsSettled base m lanes limit x y target bounds (then_settled (record { register = r; amount = half_up (bound_at limit bounds r) * m }) rest)
and_settled base m lanes limit x y target r bounds rest pos room in_r sane is =
    let h = half_up (bound_at limit bounds r) in
    let under = half_under (bound_at limit bounds r) in
    let most = sane r in
    let up = mul-le-mul_left m (let le : h ≤ limit = omega (arith, under, most) in le) in
    record {
      reductions = and_reductions base m lanes (bound_at limit bounds) (bound_at limit (slice_set bounds r h)) (bound_at limit rest.bounds) (record { register = r; amount = h * m }) rest.reductions
          (one_reduction base m lanes limit r bounds pos room (sane r)) is.reductions;
      low = λ q. let a = set_lower limit bounds r h q under in let b = is.low q in omega (arith, a, b);
      long = is.long ∙ length-set bounds r h;
      small = is.small;
      fit =
          All-cons (ReductionFits base (length bounds)) (record { register = r; amount = h * m }) rest.reductions
          (in_r, omega (arith, up, room))
          (subst (λ n. All (ReductionFits base n) rest.reductions) (length-set bounds r h) is.fit);
    }

-- no more is needed
not_settled : (base m lanes limit x y target : ℕ) (bounds : List ℕ) →
    bound_at limit bounds x + bound_at limit bounds y ≤ target →
    IsSettled base m lanes limit x y target bounds (record { reductions = []; bounds = bounds })
not_settled base m lanes limit x y target bounds small =
    record {
      reductions = no_reductions base m lanes (bound_at limit bounds);
      low = λ r. omega arith;
      long = refl;
      small = small;
      fit = All-nil (ReductionFits base (length bounds));
    }

pub settled_is : (base m lanes limit n x y target : ℕ) (bounds : List ℕ) → 0 < m → limit * m < base → 2 ≤ target →
    x < length bounds → y < length bounds → ((r : ℕ) → bound_at limit bounds r ≤ limit) →
    bound_at limit bounds x + bound_at limit bounds y ≤ target + n →
    IsSettled base m lanes limit x y target bounds (settled m limit n x y target bounds)
settled_is base m lanes limit zero x y target bounds pos room two in_x in_y sane fuel =
    not_settled base m lanes limit x y target bounds (omega arith)
settled_is base m lanes limit (suc n) x y target bounds pos room two in_x in_y sane fuel =
    let r = greater limit x y bounds in
    let h = half_up (bound_at limit bounds r) in
    let next = slice_set bounds r h in
    let rest = settled m limit n x y target next in
    let go = then_settled (record { register = r; amount = h * m }) rest in
    let stay : Settled = record { reductions = []; bounds = bounds } in
    ⊎_elim
    (λ (over : target < bound_at limit bounds x + bound_at limit bounds y).
    let no : nat_le (bound_at limit bounds x + bound_at limit bounds y) target ≡ false = grind (arith, nat_tests) in
    let which = greater_is limit x y target bounds two over in
    let under = half_under (bound_at limit bounds r) in
    let long = length-set bounds r h in
    let next_sane : (q : ℕ) → bound_at limit next q ≤ limit = λ q. let a = set_lower limit bounds r h q under in let b = sane q in omega (arith, a, b) in
    let is = settled_is base m lanes limit n x y target next pos room two (omega (arith, long, in_x)) (omega (arith, long, in_y)) next_sane
    (falls limit x y target n bounds two in_x in_y over fuel r which.0 which.1) in
    let in_r : r < length bounds = elim which.0 [ inl e ↦ omega (arith, e, in_x) | inr e ↦ omega (arith, e, in_y) ] in
    subst (λ b. IsSettled base m lanes limit x y target bounds (cond b stay go)) (sym no)
    (and_settled base m lanes limit x y target r bounds rest pos room in_r sane is))
    (λ (under : bound_at limit bounds x + bound_at limit bounds y ≤ target).
    let yes : nat_le (bound_at limit bounds x + bound_at limit bounds y) target ≡ true = grind (arith, nat_tests) in
    subst (λ b. IsSettled base m lanes limit x y target bounds (cond b stay go)) (sym yes)
    (not_settled base m lanes limit x y target bounds under))
    (cases_lt target (bound_at limit bounds x + bound_at limit bounds y))
