-- The first entry of a list that is no place of it or stood before.
use Rattle.std.proofs.Common.{◌≡◌, ℕ, zero, suc, ◌+◌, ◌<◌, ◌≤◌, Bool, true, false, cond, not, ◌&&◌, ◌||◌, eqb, ltb, inl}
use Rattle.std.proofs.Common.{inr, List, [], ◌∷◌, ◌++◌, map, take, drop, length, get_or, set, Option, Some, None, refl}
use Rattle.std.proofs.Common.{sym, ap, ap₂, arith, ◌∙◌, add-one, drop-cons}
use Rattle.std.proofs.lemmas.Bool.{eq-eqb, eqb-true, lt-ltb, ltb-true, cases_lt}
use Rattle.std.proofs.Math.Seq.{take-suc}
use Rattle.std.proofs.lemmas.List.{get_or-set_same, get_or-set_other, drop_all}
use Rattle.std.specs.List.{range_with_len}
use Rattle.std.proofs.lemmas.List.FromFn.{get_or-map-range_with_len, length-map-range_with_len}
use Rattle.spl_ast.specs.Shape.{IsPermutation}
use Rattle.spl_text.specs.Fault.{is_among, first_stray}

pub is_among-push : (v k : ℕ) (xs : List ℕ) → is_among v (xs ++ k ∷ []) ≡ (is_among v xs || eqb k v)
is_among-push v k [] = or_last (eqb k v)
  where
    or_last : (b : Bool) → (b || false) ≡ (false || b)
    or_last true = refl
    or_last false = refl
is_among-push v k (x ∷ xs) = ap (λ b. eqb x v || b) (is_among-push v k xs) ∙ sym (assoc (eqb x v) (is_among v xs) (eqb k v))
  where
    assoc : (a b c : Bool) → ((a || b) || c) ≡ (a || (b || c))
    assoc true b c = refl
    assoc false b c = refl

-- ---- a list with no such entry is a permutation

test_of : (n k : ℕ) (before ks : List ℕ) → first_stray n before (k ∷ ks) ≡ None →
    (k < n) × (is_among k before ≡ false) × (first_stray n (before ++ k ∷ []) ks ≡ None)
unfolding first_stray
test_of n k before ks e = by_tests (ltb k n) (is_among k before) refl refl e
  where
    by_tests : (a b : Bool) → ltb k n ≡ a → is_among k before ≡ b
        → (let r : Option ℕ = cond (a && not b) (first_stray n (before ++ k ∷ []) ks) (Some k) in r ≡ None) → (k < n) × (is_among k before ≡ false) × (first_stray n (before ++ k ∷ []) ks ≡ None)
    by_tests true false p q h = (ltb-true k n p, q, h)
    by_tests true true p q h = absurd cc
    by_tests false b p q h = absurd cc

none_below : (n : ℕ) (before ks : List ℕ) → first_stray n before ks ≡ None → (i : ℕ) → i < length ks → get_or ks i 0 < n
none_below n before [] e i h = absurd (omega arith)
none_below n before (k ∷ ks) e zero h = (test_of n k before ks e).0
none_below n before (k ∷ ks) e (suc i) h = none_below n (before ++ k ∷ []) ks (test_of n k before ks e).2 i (omega arith)

none_before : (n : ℕ) (before ks : List ℕ) → first_stray n before ks ≡ None → (i : ℕ) → i < length ks →
    is_among (get_or ks i 0) before ≡ false
none_before n before [] e i h = absurd (omega arith)
none_before n before (k ∷ ks) e zero h = (test_of n k before ks e).1
none_before n before (k ∷ ks) e (suc i) h =
    let v = get_or ks i 0 in
    left (is_among v before) (eqb k v) (sym (is_among-push v k before) ∙ none_before n (before ++ k ∷ []) ks (test_of n k before ks e).2 i (omega arith))
  where
    left : (a b : Bool) → (a || b) ≡ false → a ≡ false
    left true b h = h
    left false b h = refl

none_twice : (n : ℕ) (before ks : List ℕ) → first_stray n before ks ≡ None → (i j : ℕ) → i < j → j < length ks →
    get_or ks i 0 ≡ get_or ks j 0 → ⊥
none_twice n before [] e i j lt h same = omega arith
none_twice n before (k ∷ ks) e i zero lt h same = omega arith
none_twice n before (k ∷ ks) e zero (suc j) lt h same =
    let v = get_or ks j 0 in
    let there : is_among v (before ++ k ∷ []) ≡ true = is_among-push v k before ∙ ap (λ b. is_among v before || b) (eq-eqb k v same) ∙ or_true (is_among v before) in
    apart (sym there ∙ none_before n (before ++ k ∷ []) ks (test_of n k before ks e).2 j (omega arith))
  where
    or_true : (b : Bool) → (b || true) ≡ true
    or_true true = refl
    or_true false = refl

    apart : true ≡ false → ⊥
    apart h = cc
none_twice n before (k ∷ ks) e (suc i) (suc j) lt h same = none_twice n (before ++ k ∷ []) ks (test_of n k before ks e).2 i j (omega arith) (omega arith) same

pub permutation_of : (k : List ℕ) → first_stray (length k) [] k ≡ None → IsPermutation k
permutation_of k e = record { below = none_below (length k) [] k e; once = once }
  where
    once : (i j : ℕ) → i < length k → j < length k → get_or k i 0 ≡ get_or k j 0 → i ≡ j
    once i j h_i h_j same =
        elim (cases_lt i j) [
          | inl l ↦ absurd (none_twice (length k) [] k e i j l h_j same)
          | inr l ↦
              elim (cases_lt j i) [
                | inl m ↦ absurd (none_twice (length k) [] k e j i m h_i (sym same))
                | inr m ↦ omega arith
              ]
        ]

-- ---- the steps of the loop

pub stray_here : (n i : ℕ) (ks : List ℕ) (stray : Option ℕ) → i < length ks →
    (ltb (get_or ks i 0) n && not (is_among (get_or ks i 0) (take i ks))) ≡ false
    → first_stray n (take i ks) (drop i ks) ≡ stray → Some (get_or ks i 0) ≡ stray
unfolding first_stray
stray_here n i ks stray h test so_far =
    let split : drop i ks ≡ get_or ks i 0 ∷ drop (suc i) ks = drop-cons ks i 0 h in
    let step : first_stray n (take i ks) (get_or ks i 0 ∷ drop (suc i) ks) ≡ Some (get_or ks i 0) =
    ap (λ b. cond b (first_stray n (take i ks ++ get_or ks i 0 ∷ []) (drop (suc i) ks)) (Some (get_or ks i 0))) test in
    sym step ∙ ap (first_stray n (take i ks)) (sym split) ∙ so_far

pub stray_later : (n i : ℕ) (ks : List ℕ) (stray : Option ℕ) → i < length ks → get_or ks i 0 < n →
    is_among (get_or ks i 0) (take i ks) ≡ false
    → first_stray n (take i ks) (drop i ks) ≡ stray → first_stray n (take (i + 1) ks) (drop (i + 1) ks) ≡ stray
unfolding first_stray
stray_later n i ks stray h low none so_far =
    let k = get_or ks i 0 in
    let split : drop i ks ≡ k ∷ drop (suc i) ks = drop-cons ks i 0 h in
    let test : (ltb k n && not (is_among k (take i ks))) ≡ true = ap₂ (λ a b. a && not b) (lt-ltb k n low) none in
    let step : first_stray n (take i ks) (k ∷ drop (suc i) ks) ≡ first_stray n (take i ks ++ k ∷ []) (drop (suc i) ks) =
    ap (λ b. cond b (first_stray n (take i ks ++ k ∷ []) (drop (suc i) ks)) (Some k)) test in
    ap₂ (λ a b. first_stray n a b) (ap (λ j. take j ks) (add-one i) ∙ take-suc ks i 0 h) (ap (λ j. drop j ks) (add-one i))
    ∙ sym step ∙ ap (first_stray n (take i ks)) (sym split) ∙ so_far

pub seen_later : (n i : ℕ) (ks : List ℕ) (seen : List Bool) → i < length ks → length seen ≡ n → get_or ks i 0 < n
    → ((v : ℕ) → v < n → get_or seen v false ≡ is_among v (take i ks)) → (v : ℕ) → v < n →
    get_or (set seen (get_or ks i 0) true) v false ≡ is_among v (take (i + 1) ks)
seen_later n i ks seen h long low known v below =
    let k = get_or ks i 0 in
    let grown : is_among v (take (i + 1) ks) ≡ (is_among v (take i ks) || eqb k v) = ap (λ j. is_among v (take j ks)) (add-one i) ∙ ap (is_among v) (take-suc ks i 0 h) ∙ is_among-push v k (take i ks) in
    by_test (eqb k v) refl ∙ sym grown
  where
    or_true : (b : Bool) → (b || true) ≡ true
    or_true true = refl
    or_true false = refl

    or_none : (b : Bool) → (b || false) ≡ b
    or_none true = refl
    or_none false = refl

    by_test : (b : Bool) → eqb (get_or ks i 0) v ≡ b → get_or (set seen (get_or ks i 0) true) v false
        ≡ (is_among v (take i ks) || eqb (get_or ks i 0) v)
    by_test true e =
        ap (get_or (set seen (get_or ks i 0) true) v) refl
        ∙ ap (λ w. get_or (set seen (get_or ks i 0) true) w false) (sym (eqb-true (get_or ks i 0) v e))
        ∙ get_or-set_same seen (get_or ks i 0) true false (omega (arith, long))
        ∙ sym (or_true (is_among v (take i ks))) ∙ ap (λ b. is_among v (take i ks) || b) (sym e)
    by_test false e =
        get_or-set_other seen (get_or ks i 0) v true false (λ same. apart (sym (eq-eqb (get_or ks i 0) v (sym same)) ∙ e))
        ∙ known v below ∙ sym (or_none (is_among v (take i ks))) ∙ ap (λ b. is_among v (take i ks) || b) (sym e)
      where
        apart : true ≡ false → ⊥
        apart h = cc

pub stray_none : (n i : ℕ) (ks : List ℕ) (stray : Option ℕ) → length ks ≤ i →
    first_stray n (take i ks) (drop i ks) ≡ stray → None ≡ stray
unfolding first_stray
stray_none n i ks stray h so_far = ap (first_stray n (take i ks)) (sym (drop_all i ks h)) ∙ so_far

pub stray_large : (n i : ℕ) (ks : List ℕ) (stray : Option ℕ) → i < length ks → n ≤ get_or ks i 0 →
    first_stray n (take i ks) (drop i ks) ≡ stray → Some (get_or ks i 0) ≡ stray
stray_large n i ks stray h large so_far =
    stray_here n i ks stray h (ap (λ b. b && not (is_among (get_or ks i 0) (take i ks))) (le-ltb-false (get_or ks i 0) n large)) so_far
  where
    le-ltb-false : (a b : ℕ) → b ≤ a → ltb a b ≡ false
    le-ltb-false a b h = by_test (ltb a b) refl
      where
        by_test : (t : Bool) → ltb a b ≡ t → ltb a b ≡ false
        by_test false e = e
        by_test true e = let low : a < b = ltb-true a b e in absurd (omega arith)

pub stray_twice : (n i : ℕ) (ks : List ℕ) (stray : Option ℕ) → i < length ks →
    is_among (get_or ks i 0) (take i ks) ≡ true → first_stray n (take i ks) (drop i ks) ≡ stray →
    Some (get_or ks i 0) ≡ stray
stray_twice n i ks stray h twice so_far = stray_here n i ks stray h (ap (λ b. ltb (get_or ks i 0) n && not b) twice ∙ and_false (ltb (get_or ks i 0) n)) so_far
  where
    and_false : (b : Bool) → (b && false) ≡ false
    and_false true = refl
    and_false false = refl

pub unmarked_known : (n v : ℕ) (marks : List Bool) → v < n → marks ≡ map (λ _. false) (range_with_len 0 n) →
    get_or marks v false ≡ false
unmarked_known n v marks h e = ap (λ m. get_or m v false) e ∙ get_or-map-range_with_len (λ _. false) 0 n v v false h (omega arith)

pub unmarked_long : (n : ℕ) (marks : List Bool) → marks ≡ map (λ _. false) (range_with_len 0 n) → length marks ≡ n
unmarked_long n marks e = ap length e ∙ length-map-range_with_len (λ _. false) 0 n
