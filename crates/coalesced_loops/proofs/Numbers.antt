-- A place with one loop less around it has the numbers that it had.
use Rattle.std.proofs.Common.{Bool, ◌≡◌, ◌≢◌, ◌⊎◌, inl, inr, ℕ, zero, suc, ◌+◌, ◌*◌, ◌<◌, ◌≤◌, List, [], ◌∷◌, ◌++◌}
use Rattle.std.proofs.Common.{true, length, refl, sym, ap, ◌∙◌, subst, arith, lt-ltb, eqb-true}
use Rattle.std.specs.Prelude.{◌-◌, ◌==◌, max, slice_index, if◌then◌else◌}
use Rattle.std.proofs.Math.Nat.{max-le, max-eq_left}
use Rattle.std.proofs.Math.Seq.{get_or-append_seam}
use Rattle.std.proofs.lemmas.Bool.{cases_eq, cases_lt, lt-leb}
use Rattle.std.proofs.lemmas.List.{get_or_append_left}
use Rattle.icode.specs.Expression.{Numbers, alone, with_part, with_sum, sum_numbers, parts_numbers}
use Rattle.icode.specs.Plain.{PlainExpr, PlainParts, Sum, NoParts, AndParts, Proc, Var}
use Rattle.icode.proofs.Bools.{both_true}
use Rattle.nests.specs.Places.{are_linear, stride}
use Rattle.coalesced_loops.specs.Coalesced.{place_goes_on, lifted_depth, lifted_parts, lifted_place}
use Rattle.nests.proofs.Linear.{wrong, chosen, passed, from_least, proc_first, stride_before, first-at, second-at}

-- ---- a multiple of a loop's value

-- the multiple of a deeper loop is one of the loop before it
pub record IsLifted (loop depth factor : ℕ) (rest : PlainParts) : Type 0 where
  pub up : ℕ
  pub next : depth ≡ up + 1
  pub low : loop ≤ up
  pub is : lifted_parts loop (AndParts (Var depth factor) rest) ≡ AndParts (Var up factor) (lifted_parts loop rest)

-- what becomes of one in front
abbrev pub LiftedVar : ℕ → ℕ → ℕ → PlainParts → Type 0
LiftedVar loop depth factor rest =
    ((depth ≡ loop) × (lifted_parts loop (AndParts (Var depth factor) rest) ≡ lifted_parts loop rest))
    ⊎ ((depth < loop)
    × (lifted_parts loop (AndParts (Var depth factor) rest) ≡ AndParts (Var depth factor) (lifted_parts loop rest)))
    ⊎ IsLifted loop depth factor rest

pub lifted_var : (loop depth factor : ℕ) (rest : PlainParts) → LiftedVar loop depth factor rest
lifted_var loop depth factor rest =
    elim (cases_eq depth loop) [
      | inl same ↦ inl (same, chosen depth loop gone kept same)
      | inr other ↦ elim (cases_lt depth loop) [
        | inl before ↦
            let by : Bool → PlainParts = λ t. AndParts (Var (if t then depth - 1 else depth) factor) gone in
            let stays = ap by (lt-leb (suc loop) depth (omega (arith, before))) in
            inr (inl (before, passed depth loop gone kept other ∙ stays))
        | inr after ↦ inr (inr (deeper depth (omega (arith, other, after)) other))
      ]
    ]
  where
    gone : PlainParts
    gone = lifted_parts loop rest

    kept : PlainParts
    kept = AndParts (Var (lifted_depth loop depth) factor) gone

    deeper : (d : ℕ) → loop < d → d ≢ loop → IsLifted loop d factor rest
    deeper zero after other = absurd (omega (arith, after))
    deeper (suc up) after other =
        record {
          up = up;
          next = omega arith;
          low = omega (arith, after);
          is = passed (suc up) loop gone (AndParts (Var (lifted_depth loop (suc up)) factor) gone) other
              ∙ ap (λ t. AndParts (Var (if t then suc up - 1 else suc up) factor) gone) (lt-ltb loop (suc up) after)
              ∙ ap (λ d. AndParts (Var d factor) gone) (less up);
        }
      where
        less : (n : ℕ) → suc n - 1 ≡ n
        less n = omega arith

-- ---- no number on the way is greater than a linear place

abbrev IsLow : Numbers → Type 0
IsLow n = n.peak ≤ n.value

low-part : (n : ℕ) (rest : Numbers) → IsLow rest → IsLow (with_part (alone n) rest)
low-part n rest low = max-le (omega arith) (omega (arith, low))

linear-low : (least : ℕ) (parts : PlainParts) (vs : List ℕ) (q : ℕ) → are_linear least parts ≡ true →
    IsLow (parts_numbers parts vs q)
linear-low least NoParts vs q h = omega arith
linear-low least (AndParts (Proc factor) rest) vs q h =
    low-part (q * factor) (parts_numbers rest vs q) (linear-low least rest vs q (proc_first least factor rest h).1)
linear-low least (AndParts (Var depth factor) rest) vs q h =
    low-part (slice_index vs depth * factor) (parts_numbers rest vs q)
    (linear-low (depth + 1) rest vs q (from_least least depth _ h).1)
linear-low least (AndParts _ rest) vs q h = wrong h

lifted-low : (loop least : ℕ) (parts : PlainParts) (vs : List ℕ) (q : ℕ) → are_linear least parts ≡ true →
    IsLow (parts_numbers (lifted_parts loop parts) vs q)
lifted-low loop least NoParts vs q h = omega arith
lifted-low loop least (AndParts (Proc factor) rest) vs q h =
    low-part (q * factor) (parts_numbers (lifted_parts loop rest) vs q)
    (lifted-low loop least rest vs q (proc_first least factor rest h).1)
lifted-low loop least (AndParts (Var depth factor) rest) vs q h =
    let more = lifted-low loop (depth + 1) rest vs q (from_least least depth _ h).1 in
    let low : PlainParts → Type 0 = λ parts. IsLow (parts_numbers parts vs q) in
    elim (lifted_var loop depth factor rest) [
      | inl gone ↦ subst low (sym gone.1) more
      | inr (inl stays) ↦ subst low (sym stays.1)
          (low-part (slice_index vs depth * factor) (parts_numbers (lifted_parts loop rest) vs q) more)
      | inr (inr lifted) ↦ subst low (sym lifted.is)
          (low-part (slice_index vs lifted.up * factor) (parts_numbers (lifted_parts loop rest) vs q) more)
    ]
lifted-low loop least (AndParts _ rest) vs q h = wrong h

sum-is : (constant value : ℕ) (n : Numbers) → IsLow n → n.value ≡ value → with_sum constant n ≡ alone (constant + value)
sum-is constant value n low is =
    let peak : max (constant + n.value) n.peak ≡ constant + n.value = max-eq_left (omega (arith, low)) in
    let whole : with_sum constant n ≡ alone (constant + n.value) =
    ap (λ (m : ℕ). record { value = constant + n.value; peak = m }) peak in
    whole ∙ ap (λ (v : ℕ). alone (constant + v)) is

-- ---- values

before : (vs us ws : List ℕ) (d : ℕ) → d < length vs → slice_index (vs ++ us) d ≡ slice_index (vs ++ ws) d
before vs us ws d lt = get_or_append_left vs us 0 d lt ∙ sym (get_or_append_left vs ws 0 d lt)

behind : (vs us : List ℕ) (i j k d : ℕ) → length vs < d →
    slice_index (vs ++ k ∷ us) d ≡ slice_index (vs ++ i ∷ j ∷ us) (suc d)
behind [] us i j k zero lt = absurd (omega (arith, lt))
behind [] us i j k (suc d) lt = refl
behind (v ∷ vs) us i j k zero lt = absurd (omega (arith, lt))
behind (v ∷ vs) us i j k (suc d) lt = behind vs us i j k d (omega (arith, lt))

at : (vs us : List ℕ) (k : ℕ) → slice_index (vs ++ k ∷ us) (length vs) ≡ k
at vs us k = get_or-append_seam vs k us 0

-- sums where the outer loop's multiple stands in front, where the inner one's does, and where another does
module _ (i j k f x y s t r u : ℕ) where
  outer-front : (a : ℕ) → s ≡ f → t ≡ u → r ≡ 0 → a ≡ i → x + (i * r + j * u) ≡ y + k * u →
      x + (i * s + j * t) ≡ a * f + y + k * t
  outer-front a es et er ea h =
      let b : i * s ≡ i * f = ap (λ n. i * n) es in
      let c : j * t ≡ j * u = ap (λ n. j * n) et in
      let d : k * t ≡ k * u = ap (λ n. k * n) et in
      let e : i * r ≡ i * 0 = ap (λ n. i * n) er in
      let g : a * f ≡ i * f = ap (λ n. n * f) ea in
      omega (arith, b, c, d, e, g, h)

  inner-front : (a b : ℕ) → s ≡ 0 → t ≡ f → r ≡ 0 → u ≡ 0 → a ≡ k → b ≡ j → x + (i * r + j * u) ≡ y + k * u →
      a * f + x + (i * s + j * t) ≡ b * f + y + k * t
  inner-front a b es et er eu ea eb h =
      let c : i * s ≡ i * 0 = ap (λ n. i * n) es in
      let d : j * t ≡ j * f = ap (λ n. j * n) et in
      let e : k * t ≡ k * f = ap (λ n. k * n) et in
      let g : i * r ≡ i * 0 = ap (λ n. i * n) er in
      let l : j * u ≡ j * 0 = ap (λ n. j * n) eu in
      let m : k * u ≡ k * 0 = ap (λ n. k * n) eu in
      let o : a * f ≡ k * f = ap (λ n. n * f) ea in
      let w : b * f ≡ j * f = ap (λ n. n * f) eb in
      omega (arith, c, d, e, g, l, m, o, w, h)

  other-front : (a b : ℕ) → s ≡ r → t ≡ u → a ≡ b → x + (i * r + j * u) ≡ y + k * u →
      a * f + x + (i * s + j * t) ≡ b * f + y + k * t
  other-front a b es et ea h =
      let c : i * s ≡ i * r = ap (λ n. i * n) es in
      let d : j * t ≡ j * u = ap (λ n. j * n) et in
      let e : k * t ≡ k * u = ap (λ n. k * n) et in
      let g : a * f ≡ b * f = ap (λ n. n * f) ea in
      omega (arith, c, d, e, g, h)

-- in the round i of the outer loop and j of the inner one, and in the round k of one loop
module _ (loop : ℕ) (vs us : List ℕ) (i j k q : ℕ) (deep : length vs ≡ loop) where
  abbrev two : List ℕ
  two = vs ++ i ∷ j ∷ us

  abbrev one : List ℕ
  one = vs ++ k ∷ us

  abbrev new : PlainParts → ℕ
  new parts = (parts_numbers (lifted_parts loop parts) one q).value

  abbrev old : PlainParts → ℕ
  old parts = (parts_numbers parts two q).value

  -- the multiples of the two loops are other ones
  values : (least : ℕ) (parts : PlainParts) → are_linear least parts ≡ true →
      new parts + (i * stride loop parts + j * stride (loop + 1) parts) ≡ old parts + k * stride (loop + 1) parts
  values least NoParts h = omega arith
  values least (AndParts (Proc factor) rest) h =
      let more = values least rest (proc_first least factor rest h).1 in omega (arith, more)
  values least (AndParts (Var depth factor) rest) h =
      let told = from_least least depth _ h in
      let more = values (depth + 1) rest told.1 in
      let none : (d : ℕ) → d ≤ depth →
      stride d rest ≡ 0 = λ d le. stride_before (depth + 1) d rest told.1 (omega (arith, le)) in
      let is : PlainParts → Type 0 = λ parts.
      (parts_numbers parts one q).value +
      (i * stride loop (AndParts (Var depth factor) rest) + j * stride (loop + 1)
      (AndParts (Var depth factor) rest))
      ≡ old (AndParts (Var depth factor) rest) + k * stride (loop + 1) (AndParts (Var depth factor) rest) in
      elim (lifted_var loop depth factor rest) [
        | inl gone ↦
            subst is (sym gone.1)
            (outer-front i j k factor (new rest) (old rest) _ _ (stride loop rest) (stride (loop + 1) rest)
            (slice_index two depth)
            (chosen depth loop factor (stride loop rest) gone.0)
            (passed depth (loop + 1) factor (stride (loop + 1) rest) (λ e. omega (arith, e, gone.0)))
            (none loop (omega (arith, gone.0)))
            (ap (slice_index two) gone.0 ∙ first-at loop vs us i j deep) more)
        | inr (inl stays) ↦
            subst is (sym stays.1)
            (other-front i j k factor (new rest) (old rest) _ _ (stride loop rest) (stride (loop + 1) rest)
            (slice_index one depth) (slice_index two depth)
            (passed depth loop factor (stride loop rest) (λ e. omega (arith, e, stays.0)))
            (passed depth (loop + 1) factor (stride (loop + 1) rest) (λ e. omega (arith, e, stays.0)))
            (before vs (k ∷ us) (i ∷ j ∷ us) depth (omega (arith, deep, stays.0))) more)
        | inr (inr lifted) ↦
            subst is (sym lifted.is)
            (elim (cases_eq lifted.up loop) [
              | inl same ↦
                  inner-front i j k factor (new rest) (old rest) _ _ (stride loop rest) (stride (loop + 1) rest)
                  (slice_index one lifted.up) (slice_index two depth)
                  (passed depth loop factor (stride loop rest) (λ e. omega (arith, e, same, lifted.next))
                  ∙ none loop (omega (arith, same, lifted.next)))
                  (chosen depth (loop + 1) factor (stride (loop + 1) rest) (omega (arith, same, lifted.next)))
                  (none loop (omega (arith, same, lifted.next)))
                  (none (loop + 1) (omega (arith, same, lifted.next)))
                  (ap (slice_index one) (same ∙ sym deep) ∙ at vs us k)
                  (ap (slice_index two) (lifted.next ∙ ap (λ d. d + 1) same) ∙ second-at loop vs us i j deep) more
              | inr other ↦
                  let next : depth ≡ suc lifted.up = omega (arith, lifted.next) in
                  other-front i j k factor (new rest) (old rest) _ _ (stride loop rest) (stride (loop + 1) rest)
                  (slice_index one lifted.up) (slice_index two depth)
                  (passed depth loop factor (stride loop rest) (λ e. omega (arith, e, lifted.low, lifted.next)))
                  (passed depth (loop + 1) factor (stride (loop + 1) rest) (λ e. omega (arith, e, other, lifted.next)))
                  (behind vs us i j k lifted.up (omega (arith, deep, other, lifted.low))
                  ∙ ap (slice_index two) (sym next)) more
            ])
      ]
  values least (AndParts _ rest) h = wrong h

  -- they add as much where the place goes on
  pub place_same : (inner : ℕ) (place : PlainExpr) → place_goes_on loop inner place ≡ true → k ≡ inner * i + j →
      sum_numbers (lifted_place loop place) one q ≡ sum_numbers place two q
  place_same inner (Sum constant parts) h is =
      let told = both_true (are_linear 0 parts) (stride loop parts == inner * stride (loop + 1) parts) h in
      let wide : i * stride loop parts ≡ i * (inner * stride (loop + 1) parts) =
      ap (λ n. i * n) (eqb-true (stride loop parts) (inner * stride (loop + 1) parts) told.1) in
      let far : k * stride (loop + 1) parts
      ≡ (inner * i + j) * stride (loop + 1) parts = ap (λ n. n * stride (loop + 1) parts) is in
      let same : new parts
      ≡ old parts =
      equal (new parts) (old parts) inner (stride (loop + 1) parts) _ _ wide far (values 0 parts told.0) in
      sum-is constant (old parts) (parts_numbers (lifted_parts loop parts) one q) (lifted-low loop 0 parts one q told.0)
      same
      ∙ sym (sum-is constant (old parts) (parts_numbers parts two q) (linear-low 0 parts two q told.0) refl)
    where
      equal : (x y inner t a b : ℕ) → a ≡ i * (inner * t) → b ≡ (inner * i + j) * t → x + (a + j * t) ≡ y + b → x ≡ y
      equal x y inner t a b ea eb h =
          let out : (inner * i + j) * t ≡ i * (inner * t) + j * t = omega arith in
          omega (arith, ea, eb, out, h)
