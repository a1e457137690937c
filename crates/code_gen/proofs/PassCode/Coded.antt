-- The expressions of a nest's places have the values of the places, on the way to which every number fits a word.
use Rattle.std.proofs.Common.{◌≡◌, ℕ, zero, suc, ◌+◌, ◌*◌, ◌/◌, ◌%◌, ◌<◌, ◌≤◌, Bool, true, false, inl, inr, arith, refl}
use Rattle.std.proofs.Common.{sym, ap, ap₂, ◌∙◌, List, max, if◌then◌else◌, mul-zero, mul_comm, slice_index, ◌==◌, ◌-◌}
use Rattle.std.proofs.Common.{[], ◌∷◌, ◌++◌, length, append_assoc, not, ◌^◌, All, mul-add, slice_index_or}
use Rattle.std.proofs.lemmas.Bool.{cases_eq, cases_lt, false≢true}
use Rattle.std.proofs.lemmas.List.{get_or_past}
use Rattle.std.proofs.lemmas.List.Elements.{All-head, All-tail}
use Rattle.icode.specs.Expression.{sum_numbers, parts_numbers, one_numbers}
use Rattle.icode.specs.Plain.{PlainParts, PlainPart, AndParts, Proc, Var}
use Rattle.perm_algebra.specs.Affine.{Sum, constant, variable, remainder, quotient, value, IsSound}
use Rattle.perm_algebra.specs.Room.{constant_of}
use Rattle.sigma_spl.specs.Shared.Machine.{PlainFrame, first_loop, frame_of, if_several, values_of}
use Rattle.code_gen.specs.PassCode.Expressions.{factor_at, variables_of, processor_of, remainders_of, quotients_of}
use Rattle.code_gen.specs.PassCode.Expressions.{divisions_of, expr_of}
use Rattle.icode.specs.Sequences.Nests.{AreInRange}
use Rattle.operators.specs.declared.target.Target.{Target}
use Rattle.sigma_spl.specs.Work.{PlainWork, tile}
use Rattle.perm_algebra.proofs.AffineLaws.{value-le-top}
use Rattle.code_gen.specs.PassCode.Conditions.{DividesWords, FitsWord}
use Rattle.sigma_spl.proofs.Nests.{sound-at}
use Rattle.sigma_spl.specs.Good.{AreSound}
use Rattle.sigma_spl.specs.Nest.{sum_value}
use Rattle.code_gen.proofs.PassCode.Writing.{by_zero, factor-other, factor-same}

-- ---- the numbers of expressions: the value is the sum's, and no number on the way is great

-- the values of n variables from d on
abbrev variables_value : ℕ → ℕ → Sum → (ℕ → ℕ) → ℕ
variables_value zero d e vs = 0
variables_value (suc k) d e vs = vs d * factor_at d e + variables_value k (d + 1) e vs

-- those of the remainders, of the quotients, and of both
abbrev remainders_value : Sum → (ℕ → ℕ) → ℕ
remainders_value (constant c) vs = 0
remainders_value (variable f d rest) vs = remainders_value rest vs
remainders_value (remainder f of m rest) vs = value of vs % m * f + remainders_value rest vs
remainders_value (quotient f of m rest) vs = remainders_value rest vs

abbrev quotients_value : Sum → (ℕ → ℕ) → ℕ
quotients_value (constant c) vs = 0
quotients_value (variable f d rest) vs = quotients_value rest vs
quotients_value (remainder f of m rest) vs = quotients_value rest vs
quotients_value (quotient f of m rest) vs = value of vs / m * f + quotients_value rest vs

abbrev divisions_value : Sum → (ℕ → ℕ) → ℕ
divisions_value e vs = remainders_value e vs + quotients_value e vs

more : (a b c : ℕ) → a + (b + c) ≡ a + b + c
more a b c = omega arith

-- ---- a sum is its constant, its variables and its divisions

-- variables that have the same factors have the same values
same-factors : (k a : ℕ) (e other : Sum) (vs : ℕ → ℕ) →
    ((d : ℕ) → a ≤ d → d < a + k → factor_at d e ≡ factor_at d other) → variables_value k a e vs
    ≡ variables_value k a other vs
same-factors zero a e other vs h = refl
same-factors (suc k) a e other vs h =
    ap₂ (λ x y. vs a * x + y) (h a (omega arith) (omega arith))
    (same-factors k (a + 1) e other vs (λ d low high. h d (omega arith) (omega arith)))

spread : (a b f g : ℕ) → a ≡ b → a * (f + g) ≡ f * b + a * g
spread a b f g same = mul-add a f g ∙ ap (λ x. x + a * g) (ap (λ x. x * f) same ∙ mul_comm b f)

met : (a d f : ℕ) (rest : Sum) (vs : ℕ → ℕ) (x y : ℕ) → a ≡ d → x ≡ y →
    vs a * factor_at a (variable f d rest) + x ≡ f * vs d + (vs a * factor_at a rest + y)
met a d f rest vs x y same is =
    ap₂ (λ u w. vs a * u + w) (factor-same a d f rest same) is
    ∙ ap (λ u. u + y) (spread (vs a) (vs d) f (factor_at a rest) (ap vs same))
    ∙ omega arith

inside : (k a f d : ℕ) (rest : Sum) (vs : ℕ → ℕ) → a ≤ d → d < a + k →
    variables_value k a (variable f d rest) vs ≡ f * vs d + variables_value k a rest vs
inside zero a f d rest vs h g = absurd (omega arith)
inside (suc k) a f d rest vs h g =
    elim (cases_eq a d) [
      | inl same ↦
          met a d f rest vs _ _ same
          (same-factors k (a + 1) (variable f d rest) rest vs
          (λ x low high. factor-other x d f rest (λ e. omega arith)))
      | inr other ↦
          ap₂ (λ u w. vs a * u + w) (factor-other a d f rest other)
          (inside k (a + 1) f d rest vs (omega arith) (omega arith))
          ∙ omega arith
    ]

none : (k a c : ℕ) (vs : ℕ → ℕ) → variables_value k a (constant c) vs ≡ 0
none zero a c vs = refl
none (suc k) a c vs = omega (arith, none k (a + 1) c vs)

-- there are no more than n variables
abbrev pub AreNoMore : ℕ → (ℕ → ℕ) → Type 0
AreNoMore n vs = (d : ℕ) → n ≤ d → vs d ≡ 0

sum-value : (n : ℕ) (e : Sum) (vs : ℕ → ℕ) → AreNoMore n vs →
    value e vs ≡ constant_of e + (variables_value n 0 e vs + divisions_value e vs)
sum-value n (constant c) vs h = omega (arith, none n 0 c vs)
sum-value n (variable f d rest) vs h =
    elim (cases_lt d n) [
      | inl low ↦ omega (arith, inside n 0 f d rest vs (omega arith) (omega arith), sum-value n rest vs h)
      | inr high ↦
          let gone : f * vs d ≡ 0 = ap (λ x. f * x) (h d (omega arith)) ∙ mul-zero f in
          omega (
            arith,
            gone,
            same-factors n 0 (variable f d rest) rest vs (λ x low under. factor-other x d f rest (λ e. omega arith)),
            sum-value n rest vs h,
          )
    ]
sum-value n (remainder f of m rest) vs h =
    let turned : value of vs % m * f ≡ f * (value of vs % m) = mul_comm (value of vs % m) f in
    omega (arith, turned, same-factors n 0 (remainder f of m rest) rest vs (λ d low high. refl), sum-value n rest vs h)
sum-value n (quotient f of m rest) vs h =
    let turned : value of vs / m * f ≡ f * (value of vs / m) = mul_comm (value of vs / m) f in
    omega (arith, turned, same-factors n 0 (quotient f of m rest) rest vs (λ d low high. refl), sum-value n rest vs h)

-- ---- what code says of variables: the processor's and the loops', while a lane's is 0

-- all variables have these values where the loops have those, on a processor and its first lane
pub record IsFramedBy (f : PlainFrame) (all loops : ℕ → ℕ) (q : ℕ) : Type 0 where
  pub processor : f.shared ≡ true → (0 < f.first_loop) × (all 0 ≡ q)
  pub lane : (d : ℕ) → d < f.first_loop → (f.shared ≡ true → 0 < d) → all d ≡ 0
  pub loop : (d : ℕ) → all (f.first_loop + d) ≡ loops d

abbrev loops_value : PlainFrame → ℕ → ℕ → Sum → (ℕ → ℕ) → ℕ
loops_value f zero d e loops = 0
loops_value f (suc k) d e loops = loops d * factor_at (f.first_loop + d) e + loops_value f k (d + 1) e loops

abbrev processor_value : PlainFrame → Sum → ℕ → ℕ
processor_value f e q = if f.shared then q * factor_at 0 e else 0

split : (a k d : ℕ) (e : Sum) (all : ℕ → ℕ) → variables_value (a + k) d e all ≡ variables_value a d e all
    + variables_value k (d + a) e all
split zero k d e all =
    let none_more : 0 + k ≡ k = omega arith in
    let start : d ≡ d + 0 = omega arith in
    ap₂ (λ n i. variables_value n i e all) none_more start ∙ omega arith
split (suc a) k d e all =
    let one_more : suc a + k ≡ suc (a + k) = omega arith in
    let next : d + 1 + a ≡ d + suc a = omega arith in
    ap (λ n. variables_value n d e all) one_more
    ∙ ap (λ x. all d * factor_at d e + x) (split a k (d + 1) e all ∙ ap (λ i. variables_value a (d + 1) e all + variables_value k i e all) next)
    ∙ omega arith

all-zero : (k d : ℕ) (e : Sum) (all : ℕ → ℕ) → ((i : ℕ) → d ≤ i → i < d + k → all i ≡ 0) → variables_value k d e all ≡ 0
all-zero zero d e all h = refl
all-zero (suc k) d e all h =
    let first : all d * factor_at d e ≡ 0 = ap (λ x. x * factor_at d e) (h d (omega arith) (omega arith)) ∙ omega arith in
    omega (arith, first, all-zero k (d + 1) e all (λ i low high. h i (omega arith) (omega arith)))

loops-are : (f : PlainFrame) (k d : ℕ) (e : Sum) (all loops : ℕ → ℕ) (q : ℕ) → IsFramedBy f all loops q →
    variables_value k (f.first_loop + d) e all ≡ loops_value f k d e loops
loops-are f zero d e all loops q h = refl
loops-are f (suc k) d e all loops q h =
    let next : f.first_loop + d + 1 ≡ f.first_loop + (d + 1) = omega arith in
    ap₂ (λ x y. x * factor_at (f.first_loop + d) e + y) (h.loop d) (ap (λ i. variables_value k i e all) next ∙ loops-are f k (d + 1) e all loops q h)

-- the variables before the loops'
before : (shared : Bool) (a : ℕ) (e : Sum) (all : ℕ → ℕ) (q : ℕ) → (shared ≡ true → (0 < a) × (all 0 ≡ q)) →
    ((d : ℕ) → d < a → (shared ≡ true → 0 < d) → all d ≡ 0) →
    variables_value a 0 e all ≡ (if shared then q * factor_at 0 e else 0)
before false a e all q processor lane = all-zero a 0 e all (λ i low high. lane i (omega arith) (λ no. cc))
before true zero e all q processor lane = absurd (let some = (processor refl).0 in omega arith)
before true (suc a) e all q processor lane =
    let others : variables_value a 1 e all ≡ 0 = all-zero a 1 e all (λ i low high. lane i (omega arith) (λ yes. omega arith)) in
    ap₂ (λ x y. x * factor_at 0 e + y) (processor refl).1 others ∙ omega arith

framed-value : (f : PlainFrame) (n : ℕ) (e : Sum) (all loops : ℕ → ℕ) (q : ℕ) → IsFramedBy f all loops q →
    variables_value (f.first_loop + n) 0 e all ≡ processor_value f e q + loops_value f n 0 e loops
framed-value f n e all loops q h =
    let start : 0 + f.first_loop ≡ f.first_loop + 0 = omega arith in
    split f.first_loop n 0 e all
    ∙ ap₂ (λ x y. x + y) (before f.shared f.first_loop e all q h.processor h.lane) (ap (λ i. variables_value n i e all) start ∙ loops-are f n 0 e all loops q h)

-- ---- the values of expressions

-- a part before others, where its factor is not 0
abbrev pub with_factor_of : ℕ → PlainPart → PlainParts → PlainParts
with_factor_of g part ps = if g == 0 then ps else AndParts part ps

part-value : (g x : ℕ) (part : PlainPart) (ps : PlainParts) (vs : List ℕ) (q : ℕ) →
    (one_numbers part vs q).value ≡ x * g → (parts_numbers (with_factor_of g part ps) vs q).value ≡ x * g
    + (parts_numbers ps vs q).value
part-value g x part ps vs q is =
    by_zero g (λ b. (parts_numbers (if b then ps else AndParts part ps) vs q).value ≡ x * g + (parts_numbers ps vs q).value)
    (λ gone. let product : x * g ≡ 0 = ap (λ y. x * y) gone ∙ mul-zero x in omega (arith, product))
    (λ some. ap (λ y. y + (parts_numbers ps vs q).value) is)

variables-value : (f : PlainFrame) (k d : ℕ) (e : Sum) (ps : PlainParts) (vs : List ℕ) (q : ℕ) →
    (parts_numbers (variables_of f k d e ps) vs q).value ≡ loops_value f k d e (slice_index vs)
    + (parts_numbers ps vs q).value
variables-value f zero d e ps vs q = omega arith
variables-value f (suc k) d e ps vs q =
    part-value (factor_at (f.first_loop + d) e) (slice_index vs d) (Var d (factor_at (f.first_loop + d) e)) (variables_of f k (d + 1) e ps) vs q refl
    ∙ ap (λ x. slice_index vs d * factor_at (f.first_loop + d) e + x) (variables-value f k (d + 1) e ps vs q)
    ∙ omega arith

processor-value : (f : PlainFrame) (e : Sum) (ps : PlainParts) (vs : List ℕ) (q : ℕ) →
    (parts_numbers (processor_of f e ps) vs q).value ≡ processor_value f e q + (parts_numbers ps vs q).value
processor-value f e ps vs q =
    elim f.shared as (λ b.
    (parts_numbers (if b then with_factor_of (factor_at 0 e) (Proc (factor_at 0 e)) ps else ps) vs q).value
    ≡ (if b then q * factor_at 0 e else 0) + (parts_numbers ps vs q).value) [
      | true ↦ part-value (factor_at 0 e) q (Proc (factor_at 0 e)) ps vs q refl
      | false ↦ omega arith
    ]

module _ (f : PlainFrame) (n : ℕ) (all : ℕ → ℕ) (vs : List ℕ) (q : ℕ) (no_more : AreNoMore (f.first_loop + n) all)
    (framed : IsFramedBy f all (slice_index vs) q) where
  whole-value : (e : Sum) → (parts_numbers (divisions_of f n e) vs q).value ≡ divisions_value e all →
      (sum_numbers (expr_of f n e) vs q).value ≡ value e all
  whole-value e is =
      ap (λ x. constant_of e + x)
      (processor-value f e (variables_of f n 0 e (divisions_of f n e)) vs q
      ∙ ap (λ x. processor_value f e q + x) (variables-value f n 0 e (divisions_of f n e) vs q ∙ ap (λ x. loops_value f n 0 e (slice_index vs) + x) is)
      ∙ more (processor_value f e q) (loops_value f n 0 e (slice_index vs)) (divisions_value e all)
      ∙ ap (λ x. x + divisions_value e all) (sym (framed-value f n e all (slice_index vs) q framed)))
      ∙ sym (sum-value (f.first_loop + n) e all no_more)

  inner-value : (e : Sum) → (parts_numbers (divisions_of f n e) vs q).value ≡ remainders_value e all
      + (parts_numbers (quotients_of f n e) vs q).value → (parts_numbers (quotients_of f n e) vs q).value
      ≡ quotients_value e all →
      (sum_numbers (expr_of f n e) vs q).value ≡ value e all
  inner-value e first second = whole-value e (first ∙ ap (λ x. remainders_value e all + x) second)

  mutual
    remainders-value : (e : Sum) (ps : PlainParts) → (parts_numbers (remainders_of f n e ps) vs q).value
        ≡ remainders_value e all + (parts_numbers ps vs q).value
    remainders-value (constant c) ps = omega arith
    remainders-value (variable k d rest) ps = remainders-value rest ps
    remainders-value (remainder k of m rest) ps =
        ap₂ (λ x y. x % m * k + y) (inner-value of (remainders-value of (quotients_of f n of)) (quotients-value of)) (remainders-value rest ps)
        ∙ more (value of all % m * k) (remainders_value rest all) (parts_numbers ps vs q).value
    remainders-value (quotient k of m rest) ps = remainders-value rest ps

    quotients-value : (e : Sum) → (parts_numbers (quotients_of f n e) vs q).value ≡ quotients_value e all
    quotients-value (constant c) = refl
    quotients-value (variable k d rest) = quotients-value rest
    quotients-value (remainder k of m rest) = quotients-value rest
    quotients-value (quotient k of m rest) = ap₂ (λ x y. x / m * k + y) (inner-value of (remainders-value of (quotients_of f n of)) (quotients-value of)) (quotients-value rest)

  -- the expression has the sum's value
  pub expr-value : (e : Sum) → (sum_numbers (expr_of f n e) vs q).value ≡ value e all
  expr-value e = inner-value e (remainders-value e (quotients_of f n e)) (quotients-value e)

-- ---- the greatest numbers on the way

part-peak : (g x b : ℕ) (part : PlainPart) (ps : PlainParts) (vs : List ℕ) (q : ℕ) →
    (one_numbers part vs q).peak ≡ x * g → x * g ≤ b → (parts_numbers ps vs q).peak ≤ b →
    (parts_numbers (with_factor_of g part ps) vs q).peak ≤ b
part-peak g x b part ps vs q is low after =
    by_zero g (λ c. (parts_numbers (if c then ps else AndParts part ps) vs q).peak ≤ b) (λ gone. after)
    (λ some. omega (arith, is, low, after))

variables-peak : (f : PlainFrame) (k d : ℕ) (e : Sum) (ps : PlainParts) (vs : List ℕ) (q b : ℕ) →
    loops_value f k d e (slice_index vs) ≤ b → (parts_numbers ps vs q).peak ≤ b →
    (parts_numbers (variables_of f k d e ps) vs q).peak ≤ b
variables-peak f zero d e ps vs q b h g = g
variables-peak f (suc k) d e ps vs q b h g =
    part-peak (factor_at (f.first_loop + d) e) (slice_index vs d) b (Var d (factor_at (f.first_loop + d) e)) (variables_of f k (d + 1) e ps) vs q refl (omega arith)
    (variables-peak f k (d + 1) e ps vs q b (omega arith) g)

processor-peak : (f : PlainFrame) (e : Sum) (ps : PlainParts) (vs : List ℕ) (q b : ℕ) → processor_value f e q ≤ b →
    (parts_numbers ps vs q).peak ≤ b → (parts_numbers (processor_of f e ps) vs q).peak ≤ b
processor-peak f e ps vs q b h g = either f.shared h
  where
    either : (s : Bool) → (if s then q * factor_at 0 e else 0) ≤ b →
        (parts_numbers (if s then with_factor_of (factor_at 0 e) (Proc (factor_at 0 e)) ps else ps) vs q).peak ≤ b
    either true low = part-peak (factor_at 0 e) q b (Proc (factor_at 0 e)) ps vs q refl low g
    either false low = g

-- what is divided is at most b
abbrev pub DividesLow : ℕ → (ℕ → ℕ) → Sum → Type 0
DividesLow b vs (constant c) = Unit {0}
DividesLow b vs (variable f d rest) = DividesLow b vs rest
DividesLow b vs (remainder f of m rest) = (value of vs ≤ b) × DividesLow b vs of × DividesLow b vs rest
DividesLow b vs (quotient f of m rest) = (value of vs ≤ b) × DividesLow b vs of × DividesLow b vs rest

one-peak : (inner x f rest b : ℕ) → inner ≤ b → x * f ≤ b → rest ≤ b → max (max inner (x * f)) rest ≤ b
one-peak inner x f rest b h g k = omega arith

module _ (f : PlainFrame) (n : ℕ) (all : ℕ → ℕ) (vs : List ℕ) (q : ℕ) (no_more : AreNoMore (f.first_loop + n) all)
    (framed : IsFramedBy f all (slice_index vs) q) (b : ℕ) where
  whole-peak : (e : Sum) → value e all ≤ b → (parts_numbers (divisions_of f n e) vs q).peak ≤ b →
      (sum_numbers (expr_of f n e) vs q).peak ≤ b
  whole-peak e low inner =
      let is : (sum_numbers (expr_of f n e) vs q).value ≡ value e all = expr-value f n all vs q no_more framed e in
      let parted : value e all ≡ constant_of e + (variables_value (f.first_loop + n) 0 e all + divisions_value e all) = sum-value (f.first_loop + n) e all no_more in
      let apart : variables_value (f.first_loop + n) 0 e all ≡ processor_value f e q + loops_value f n 0 e (slice_index vs) = framed-value f n e all (slice_index vs) q framed in
      let loops : (parts_numbers (variables_of f n 0 e (divisions_of f n e)) vs q).peak ≤ b = variables-peak f n 0 e (divisions_of f n e) vs q b (omega arith) inner in
      let those : (parts_numbers (processor_of f e (variables_of f n 0 e (divisions_of f n e))) vs q).peak ≤ b =
      processor-peak f e (variables_of f n 0 e (divisions_of f n e)) vs q b (omega arith) loops in omega arith

  -- the parts of what is divided are at most b where it is
  parts-low : (e : Sum) → value e all ≤ b → (remainders_value e all ≤ b) × (quotients_value e all ≤ b)
  parts-low e low =
      let parted : value e all ≡ constant_of e + (variables_value (f.first_loop + n) 0 e all + divisions_value e all) = sum-value (f.first_loop + n) e all no_more in
      (omega (arith, parted, low), omega (arith, parted, low))

  mutual
    remainders-peak : (e : Sum) (ps : PlainParts) → remainders_value e all ≤ b → DividesLow b all e →
        (parts_numbers ps vs q).peak ≤ b → (parts_numbers (remainders_of f n e ps) vs q).peak ≤ b
    remainders-peak (constant c) ps low h after = after
    remainders-peak (variable k d rest) ps low h after = remainders-peak rest ps low h after
    remainders-peak (remainder k of m rest) ps low h after =
        let parts = parts-low of h.0 in
        let inner = whole-peak of h.0 (remainders-peak of (quotients_of f n of) parts.0 h.1 (quotients-peak of parts.1 h.1)) in
        let part : (sum_numbers (expr_of f n of) vs q).value % m * k ≡ value of all % m * k = ap (λ x. x % m * k) (expr-value f n all vs q no_more framed of) in
        one-peak _ ((sum_numbers (expr_of f n of) vs q).value % m) k _ b inner (omega (arith, part, low)) (remainders-peak rest ps (omega (arith, low)) h.2 after)
    remainders-peak (quotient k of m rest) ps low h after = remainders-peak rest ps low h.2 after

    quotients-peak : (e : Sum) → quotients_value e all ≤ b → DividesLow b all e →
        (parts_numbers (quotients_of f n e) vs q).peak ≤ b
    quotients-peak (constant c) low h = omega arith
    quotients-peak (variable k d rest) low h = quotients-peak rest low h
    quotients-peak (remainder k of m rest) low h = quotients-peak rest low h.2
    quotients-peak (quotient k of m rest) low h =
        let parts = parts-low of h.0 in
        let inner = whole-peak of h.0 (remainders-peak of (quotients_of f n of) parts.0 h.1 (quotients-peak of parts.1 h.1)) in
        let part : (sum_numbers (expr_of f n of) vs q).value / m * k ≡ value of all / m * k = ap (λ x. x / m * k) (expr-value f n all vs q no_more framed of) in
        one-peak _ ((sum_numbers (expr_of f n of) vs q).value / m) k _ b inner (omega (arith, part, low)) (quotients-peak rest (omega (arith, low)) h.2)

  -- no number on the way is above the value of the sum and of what is divided
  pub expr-peak : (e : Sum) → value e all ≤ b → DividesLow b all e → (sum_numbers (expr_of f n e) vs q).peak ≤ b
  expr-peak e low h = let parts = parts-low e low in whole-peak e low (remainders-peak e (quotients_of f n e) parts.0 h (quotients-peak e parts.1 h))

-- ---- the values of all variables of a nest: those of its frame, and those of its loops

either-first : (b : Bool) (q : ℕ) (us : List ℕ) → (d : ℕ) → slice_index ((if b then [] else q ∷ []) ++ us)
    ((if b then 0 else 1) + d) ≡ slice_index us d
either-first true q us d = ap (slice_index us) (omega arith)
either-first false q us d = let next : 1 + d ≡ suc d = omega arith in ap (slice_index (q ∷ us)) next

both-first : (b g : Bool) (q : ℕ) (us : List ℕ) (d : ℕ) →
    slice_index ((if b then [] else q ∷ []) ++ ((if g then [] else 0 ∷ []) ++ us))
    ((if b then 0 else 1) + (if g then 0 else 1) + d) ≡ slice_index us d
both-first b g q us d =
    let apart : (if b then 0 else 1) + (if g then 0 else 1) + d ≡ (if b then 0 else 1) + ((if g then 0 else 1) + d) = omega arith in
    ap (slice_index ((if b then [] else q ∷ []) ++ ((if g then [] else 0 ∷ []) ++ us))) apart
    ∙ either-first b q ((if g then [] else 0 ∷ []) ++ us) ((if g then 0 else 1) + d)
    ∙ either-first g 0 us d

-- with a variable for the processor where there are several, and then one for the lane, which is the first
framed-two : (b g : Bool) (q : ℕ) (us : List ℕ) →
    IsFramedBy (record { shared = not b; first_loop = (if b then 0 else 1) + (if g then 0 else 1) })
    (slice_index ((if b then [] else q ∷ []) ++ ((if g then [] else 0 ∷ []) ++ us))) (slice_index us) q
framed-two true g q us =
    record {
      processor = λ e. absurd (false≢true e);
      lane = λ d low apart. alone g d low;
      loop = both-first true g q us;
    }
  where
    alone : (g : Bool) (d : ℕ) → d < (if true then 0 else 1) + (if g then 0 else 1) →
        slice_index ((if g then [] else 0 ∷ []) ++ us) d ≡ 0
    alone false zero low = refl
    alone _ _ low = absurd (omega arith)
framed-two false g q us =
    record {
      processor = λ e. (some g, refl);
      lane = λ d low apart. beside g d low (apart refl);
      loop = both-first false g q us;
    }
  where
    some : (g : Bool) → 0 < (if false then 0 else 1) + (if g then 0 else 1)
    some true = omega arith
    some false = omega arith

    beside : (g : Bool) (d : ℕ) → d < (if false then 0 else 1) + (if g then 0 else 1) → 0 < d →
        slice_index (q ∷ ((if g then [] else 0 ∷ []) ++ us)) d ≡ 0
    beside false (suc zero) low positive = refl
    beside _ _ low positive = absurd (omega arith)

module _ (c : Target) where
  pub framed-values : (w : PlainWork) (q : ℕ) (us : List ℕ) →
      IsFramedBy (frame_of c w) (slice_index (values_of c w q 0 us)) (slice_index us) q
  framed-values (tile v) q us = framed-two (c.procs == 1) true q us
  framed-values _ q us = framed-two (c.procs == 1) (c.lanes == 1) q us

  several-append : (q : ℕ) (vs more : List ℕ) → (if_several c.procs q ++ (if_several c.lanes 0 ++ vs)) ++ more
      ≡ if_several c.procs q ++ (if_several c.lanes 0 ++ (vs ++ more))
  several-append q vs more = append_assoc (if_several c.procs q) (if_several c.lanes 0 ++ vs) more ∙ ap (λ xs. if_several c.procs q ++ xs) (append_assoc (if_several c.lanes 0) vs more)

  pub values-append : (w : PlainWork) (q : ℕ) (vs more : List ℕ) →
      values_of c w q 0 vs ++ more ≡ values_of c w q 0 (vs ++ more)
  values-append (tile v) q vs more = append_assoc (if_several c.procs q) vs more
  values-append _ q vs more = several-append q vs more

-- all values are those of the frame and of the open loops
pub no-more : (c : Target) (w : PlainWork) (q n : ℕ) (us : List ℕ) → length us ≡ n →
    AreNoMore (first_loop c w + n) (slice_index (values_of c w q 0 us))
no-more c w q n us size d high =
    let past : ℕ = d - first_loop c w in
    let there : d ≡ first_loop c w + past = omega arith in
    ap (slice_index (values_of c w q 0 us)) there
    ∙ (framed-values c w q us).loop past
    ∙ get_or_past us past 0 (omega (arith, size, high))

pub length-range : (counts vs : List ℕ) → AreInRange counts vs → length vs ≡ length counts
length-range [] [] h = refl
length-range (c ∷ counts) (v ∷ vs) h = ap suc (length-range counts vs h.1)
length-range _ _ h = absurd h

-- ---- the expressions of a nest's places have the values of the places, on the way to which every number fits a word

-- the expression of the sum number i, where the open loops have these values on a processor, is this place
pub record IsCoded (f : PlainFrame) (open_loops : ℕ) (sums : List Sum) (i : ℕ) (vs : List ℕ) (q place : ℕ) : Type 0 where
  pub value_is : (sum_numbers (expr_of f open_loops (slice_index_or sums i (constant 0))) vs q).value ≡ place
  pub peak_fits : (sum_numbers (expr_of f open_loops (slice_index_or sums i (constant 0))) vs q).peak < 2 ^ 64

divided-low : (cs vs : ℕ → ℕ) (e : Sum) → IsSound e → ((d : ℕ) → vs d ≤ cs d - 1) → DividesWords cs e →
    DividesLow 18446744073709551615 vs e
divided-low cs vs (constant c) sound low h = tt
divided-low cs vs (variable f d rest) sound low h = divided-low cs vs rest sound low h
divided-low cs vs (remainder f of m rest) sound low h =
    let most = value-le-top of vs cs sound.1 low in
    let word = h.0 in (omega (arith, most, word), divided-low cs vs of sound.1 low h.1, divided-low cs vs rest sound.2 low h.2)
divided-low cs vs (quotient f of m rest) sound low h =
    let most = value-le-top of vs cs sound.1 low in
    let word = h.0 in (omega (arith, most, word), divided-low cs vs of sound.1 low h.1, divided-low cs vs rest sound.2 low h.2)

-- the sum number i
words-at : (cs : ℕ → ℕ) (sums : List Sum) (i : ℕ) → All (FitsWord cs) sums →
    FitsWord cs (slice_index_or sums i (constant 0))
words-at cs [] i h = record { whole = omega arith; divided = tt }
words-at cs (e ∷ es) zero h = All-head (FitsWord cs) e es h
words-at cs (e ∷ es) (suc i) h = words-at cs es i (All-tail (FitsWord cs) e es h)

pub coded : (c : Target) (w : PlainWork) (cs : ℕ → ℕ) (n : ℕ) (sums : List Sum) (i q : ℕ) (us : List ℕ) →
    All (FitsWord cs) sums → AreSound sums → length us ≡ n →
    ((d : ℕ) → slice_index (values_of c w q 0 us) d ≤ cs d - 1) →
    IsCoded (frame_of c w) n sums i us q (sum_value sums i (values_of c w q 0 us))
coded c w cs n sums i q us words sound size low =
    let e : Sum = slice_index_or sums i (constant 0) in
    let all : ℕ → ℕ = slice_index (values_of c w q 0 us) in
    let fits = words-at cs sums i words in
    let proper = sound-at sums i sound in
    let most = value-le-top e all cs proper low in
    let word = fits.whole in
    let peak = expr-peak (frame_of c w) n all us q (no-more c w q n us size) (framed-values c w q us) 18446744073709551615 e (omega (arith, most, word)) (divided-low cs all e proper low fits.divided) in
    record {
      value_is = expr-value (frame_of c w) n all us q (no-more c w q n us size) (framed-values c w q us) e;
      peak_fits = omega (arith, peak);
    }
