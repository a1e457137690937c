-- Each operation on words does what the operation does.
use Rattle.std.proofs.Common.{◌≡◌, ℕ, zero, suc, ◌+◌, ◌-◌, ◌*◌, ◌/◌, ◌<◌, ◌≤◌, ◌⊎◌, inl, inr, List, [], ◌∷◌, ◌++◌}
use Rattle.std.proofs.Common.{length, map, replicate, min, refl, sym, ap, ◌∙◌, subst, arith, ⊎_elim, mul-le-mul_left}
use Rattle.std.specs.Prelude.{All, slice_index, slice_index_or, slice_set}
use Rattle.std.specs.List.{range_with_len}
use Rattle.std.proofs.Math.Nat.{zero-div, min-eq_right, le-max_left, le-max_right, max-le}
use Rattle.std.proofs.lemmas.Bool.{cases_lt}
use Rattle.std.proofs.lemmas.List.{length-set}
use Rattle.std.proofs.lemmas.List.Elements.{All-nil, All-cons, All-head, All-tail}
use Rattle.std.proofs.lemmas.Nat.{div_below}
use Rattle.icode.specs.declared.action.Action.{Action}
use Rattle.icode.specs.declared.action.Action.TheVariants as actions
use Rattle.icode.specs.declared.program.Array.{Array}
use Rattle.icode.specs.declared.program.Array.TheVariants as arrays
use Rattle.icode.specs.Actions.{step_of, StepFits, lane_factors, array_start}
use Rattle.icode.specs.Expression.{sum_numbers}
use Rattle.icode.specs.Machine.{Local, whole_lines, with_words, memory_after, register_put}
use Rattle.icode.specs.Plain.{PlainOp, PlainProgram, Load, Store, Zero, Add, Sub, Neg, MulConst, MulTable, Tile}
use Rattle.word_code.specs.declared.program.Reduction.{Reduction}
use Rattle.word_code.specs.Bare.{ReductionFits, NumbersFit}
use Rattle.word_code.specs.WordMachine.{WordAction}
use Rattle.word_code.specs.Words.{base_of, sums_of, quotient_of, product_bound}
use Rattle.word_code.specs.Laws.{IsLazyWithin}
use Rattle.word_code.specs.WordProgram.{word_action_of}
use Rattle.word_code.specs.Quicken.{PlainLaziness, Settled, bound_at, settled, array_bound, greatest_bound, noted, quickened}
use Rattle.word_code.proofs.Arithmetic.{two_at_least}
use Rattle.word_code.proofs.Residues.{AreQuotients}
use Rattle.word_code.proofs.Quick.{Scale, bound_outer, bound_of_a, bound_of_b, address_bound, IsMemoryBelow, IsQuick}
use Rattle.word_code.proofs.Reduce.{AreReductions, no_reductions, settled_is, set_bound_here, kept_bound}
use Rattle.word_code.proofs.Puts.{IsSound, IsPut, quick_put, quick_store, zero_put, load_put, add_put, sub_put, neg_put}
use Rattle.word_code.proofs.Puts.{mul_put, tile_put}
use Rattle.nests.proofs.Rows.{factors_each}

abbrev pub scale : PlainLaziness → PlainProgram → Scale
scale z p =
    record {
      width = z.width;
      modulus = p.modulus;
      lanes = p.lanes;
      padded = whole_lines p.size p.line;
      kept = z.kept;
      limit = z.limit;
    }

pub sound_of : (z : PlainLaziness) (p : PlainProgram) → IsLazyWithin z p.modulus → 0 < p.modulus → IsSound (scale z p)
sound_of z p lazy pos = record { modulus = pos; lazy = lazy }

-- Bounds that are set

pub set_sane : (limit : ℕ) (bounds : List ℕ) (r v : ℕ) → v ≤ limit → ((q : ℕ) → bound_at limit bounds q ≤ limit) →
    (q : ℕ) → bound_at limit (slice_set bounds r v) q ≤ limit
set_sane limit [] r v le sane q = omega arith
set_sane limit (b ∷ bounds) zero v le sane zero = le
set_sane limit (b ∷ bounds) zero v le sane (suc q) = sane (suc q)
set_sane limit (b ∷ bounds) (suc r) v le sane zero = sane 0
set_sane limit (b ∷ bounds) (suc r) v le sane (suc q) = set_sane limit bounds r v le (λ k. sane (suc k)) q

tile_old : (limit n : ℕ) (bounds : List ℕ) (r v q : ℕ) → (q < r) ⊎ (r + n ≤ q) →
    bound_at limit bounds q ≤ bound_at limit (with_words bounds r (replicate n v)) q
tile_old limit zero bounds r v q apart = omega arith
tile_old limit (suc n) bounds r v q apart =
    let one : (q < r) ⊎ (r + 1 ≤ q) = elim apart [ inl lt ↦ inl lt | inr ge ↦ inr (omega (arith, ge)) ] in
    let rest : (q < r + 1) ⊎ (r + 1 + n ≤ q) = elim apart [ inl lt ↦ inl (omega (arith, lt)) | inr ge ↦ inr (omega (arith, ge)) ] in
    let a = kept_bound limit bounds r v q one in
    let b = tile_old limit n (slice_set bounds r v) (r + 1) v q rest in
    omega (arith, a, b)

tile_new : (limit n : ℕ) (bounds : List ℕ) (r v q : ℕ) → v ≤ limit → r ≤ q → q < r + n →
    v ≤ bound_at limit (with_words bounds r (replicate n v)) q
tile_new limit zero bounds r v q le from to = absurd (omega arith)
tile_new limit (suc n) bounds r v q le from to =
    ⊎_elim
    (λ (here : q < r + 1).
    let a = set_bound_here limit bounds r v q le from here in
    let b = tile_old limit n (slice_set bounds r v) (r + 1) v q (inl here) in
    let done : v ≤ bound_at limit (with_words bounds r (replicate (suc n) v)) q = omega (arith, a, b) in done)
    (λ (later : r + 1 ≤ q). tile_new limit n (slice_set bounds r v) (r + 1) v q le later (omega arith))
    (cases_lt q (r + 1))

pub tile_sane : (limit n : ℕ) (bounds : List ℕ) (r v : ℕ) → v ≤ limit → ((q : ℕ) → bound_at limit bounds q ≤ limit) →
    (q : ℕ) → bound_at limit (with_words bounds r (replicate n v)) q ≤ limit
tile_sane limit zero bounds r v le sane = sane
tile_sane limit (suc n) bounds r v le sane = tile_sane limit n (slice_set bounds r v) (r + 1) v le (set_sane limit bounds r v le sane)

pub tile_length : (n : ℕ) (bounds : List ℕ) (r v : ℕ) → length (with_words bounds r (replicate n v)) ≡ length bounds
tile_length zero bounds r v = refl
tile_length (suc n) bounds r v = tile_length n (slice_set bounds r v) (r + 1) v ∙ length-set bounds r v

greatest_is : (limit : ℕ) (bounds : List ℕ) (n x l : ℕ) → l < n →
    bound_at limit bounds (x + l) ≤ greatest_bound limit bounds n x
greatest_is limit bounds zero x l lt = absurd (omega arith)
greatest_is limit bounds (suc n) x zero lt =
    let same : x + 0 ≡ x = omega arith in
    subst (λ k. bound_at limit bounds k ≤ greatest_bound limit bounds (suc n) x) (sym same) (le-max_left (bound_at limit bounds x) (greatest_bound limit bounds n (x + 1)))
greatest_is limit bounds (suc n) x (suc l) lt =
    let place : x + suc l ≡ x + 1 + l = omega arith in
    let a = greatest_is limit bounds n (x + 1) l (omega arith) in
    let b = le-max_right (bound_at limit bounds x) (greatest_bound limit bounds n (x + 1)) in
    subst (λ k. bound_at limit bounds k ≤ greatest_bound limit bounds (suc n) x) (sym place) (omega (arith, a, b))

pub greatest_sane : (limit : ℕ) (bounds : List ℕ) (n x : ℕ) → ((q : ℕ) → bound_at limit bounds q ≤ limit) →
    greatest_bound limit bounds n x ≤ limit
greatest_sane limit bounds zero x sane = omega arith
greatest_sane limit bounds (suc n) x sane = max-le (sane x) (greatest_sane limit bounds n (x + 1) sane)

-- Quotients

quotient_of_zero : (base m : ℕ) → quotient_of base m 0 ≡ 0
quotient_of_zero base m = let e : 0 * base ≡ 0 = omega arith in ap (λ n. n / m) e ∙ zero-div m

quotients_of_zeros : (base m n : ℕ) → AreQuotients base m (replicate n 0) (replicate n 0)
quotients_of_zeros base m zero = tt
quotients_of_zeros base m (suc n) = (sym (quotient_of_zero base m), quotients_of_zeros base m n)

pub quotients_of_lanes : (base m : ℕ) (f g : ℕ → ℕ) → ((l : ℕ) → g l ≡ quotient_of base m (f l)) → (n from k : ℕ) →
    AreQuotients base m (map f (range_with_len from n) ++ replicate k 0)
    (map g (range_with_len from n) ++ replicate k 0)
quotients_of_lanes base m f g e zero from k = quotients_of_zeros base m k
quotients_of_lanes base m f g e (suc n) from k = (e from, quotients_of_lanes base m f g e n (from + 1) k)

pub quotient_entry : (base m : ℕ) (entries : List ℕ) (i : ℕ) →
    slice_index (map (quotient_of base m) entries) i ≡ quotient_of base m (slice_index entries i)
quotient_entry base m [] i = sym (quotient_of_zero base m)
quotient_entry base m (c ∷ entries) zero = refl
quotient_entry base m (c ∷ entries) (suc i) = quotient_entry base m entries i

pub quotient_table : (base m : ℕ) (tables : List (List ℕ)) (t : ℕ) →
    slice_index_or (map (λ entries. map (quotient_of base m) entries) tables) t [] ≡ map (quotient_of base m)
    (slice_index_or tables t [])
quotient_table base m (entries ∷ tables) (suc t) = quotient_table base m tables t
quotient_table base m _ _ = refl

quotient_below : (base m c : ℕ) → 0 < base → c < m → quotient_of base m c < base
quotient_below base m c some lt =
    let up : c + 1 ≤ m = omega arith in
    let a = mul-le-mul_left base up in
    div_below (c * base) m base (omega (arith, lt)) (omega (arith, a, some))

quotients_below : (base m : ℕ) (cs qs : List ℕ) → 0 < base → AreQuotients base m cs qs → All (λ c. c < m) cs →
    All (λ q. q < base) qs
quotients_below base m [] [] some are low = All-nil (λ q. q < base)
quotients_below base m (c ∷ cs) (q ∷ qs) some are low =
    All-cons (λ q. q < base) q qs
    (subst (λ n. n < base) (sym are.0) (quotient_below base m c some (All-head (λ c. c < m) c cs low)))
    (quotients_below base m cs qs some are.1 (All-tail (λ c. c < m) c cs low))
quotients_below base m _ _ some are low = absurd are

-- an action on words goes from the bounds to those after it, and its numbers are words
pub record IsDone (z : PlainLaziness) (p : PlainProgram) (bounds : List ℕ) (f : WordAction) (after : List ℕ) : Type 0 where
  pub quick : IsQuick (scale z p) (bound_at z.limit bounds) f (bound_at z.limit after)
  pub long : length after ≡ p.regs
  pub numbers : NumbersFit z.width p.regs f

module _ (z : PlainLaziness) (p : PlainProgram) (sound : IsSound (scale z p)) where
  abbrev s : Scale
  s = scale z p

  roomy : z.limit * p.modulus < sums_of z.width
  roomy = let a = sound.lazy.room in let b = sound.lazy.sums in omega (arith, a, b)

  two : 2 ≤ z.limit
  two = let a = two_at_least z.width in let b = sound.lazy.product in omega arith

  some : 1 ≤ z.limit
  some = let a = two in omega arith

  -- the bound of the addresses of an array
  bound_in : (array : Array) (at k : ℕ) → at + p.lanes ≤ whole_lines p.size p.line →
      array_start (whole_lines p.size p.line) array + at ≤ k →
      k < array_start (whole_lines p.size p.line) array + at + p.lanes → address_bound s k ≡ array_bound z.kept array
  bound_in arrays.X at k fits from to = bound_outer s k (omega arith)
  bound_in arrays.Y at k fits from to = bound_outer s k (omega arith)
  bound_in arrays.A at k fits from to = bound_of_a s k (omega arith) (omega arith)
  bound_in arrays.B at k fits from to = bound_of_b s k (omega arith)

  -- a load's words
  place : (array : Array) (at : ℕ) → at + p.lanes ≤ whole_lines p.size p.line → (memory : List ℕ) →
      IsMemoryBelow s memory → (l : ℕ) → l < p.lanes →
      slice_index memory (array_start (whole_lines p.size p.line) array + at + l) < array_bound z.kept array * p.modulus
  place array at fits memory kept l lt =
      let k = array_start (whole_lines p.size p.line) array + at + l in
      subst (λ b. slice_index memory k < b * p.modulus) (bound_in array at k fits (omega arith) (omega arith))
      (kept.each k)

  array_sane : (array : Array) → (1 ≤ array_bound z.kept array) × (array_bound z.kept array ≤ z.limit)
  array_sane arrays.A = sound.lazy.of_a
  array_sane arrays.B = sound.lazy.of_b
  array_sane _ = let a = some in (omega arith, omega arith)

  bias_fits : (b : ℕ) → b ≤ z.limit → b * p.modulus < sums_of z.width
  bias_fits b le = let a = mul-le-mul_left p.modulus le in let c = roomy in omega (arith, a, c)

  no_bias : 0 < sums_of z.width
  no_bias = let a = roomy in omega arith

  no_quotients : All (λ q. q < base_of z.width) []
  no_quotients = All-nil (λ q. q < base_of z.width)

  abbrev AreSane : List ℕ → Type 0
  AreSane bounds = (r : ℕ) → bound_at z.limit bounds r ≤ z.limit

  -- reductions go from the bounds to those after them
  record AreReduced (bounds : List ℕ) (rs : List Reduction) (after : List ℕ) : Type 0 where
    reductions : AreReductions (sums_of z.width) p.modulus p.lanes (bound_at z.limit bounds) rs (bound_at z.limit after)
    sane : AreSane after
    long : length after ≡ p.regs
    fit : All (ReductionFits (sums_of z.width) p.regs) rs

  unreduced : (bounds : List ℕ) → length bounds ≡ p.regs → AreSane bounds → AreReduced bounds [] bounds
  unreduced bounds long sane =
      record {
        reductions = no_reductions (sums_of z.width) p.modulus p.lanes (bound_at z.limit bounds);
        sane = sane;
        long = long;
        fit = All-nil (ReductionFits (sums_of z.width) p.regs);
      }

  abbrev settled_to : ℕ → ℕ → ℕ → List ℕ → Settled
  settled_to x y target bounds = settled p.modulus z.limit (2 * z.limit) x y target bounds

  -- two registers are settled
  record AreSettled (x y target : ℕ) (bounds : List ℕ) : Type 0 where
    reduced : AreReduced bounds (settled_to x y target bounds).reductions (settled_to x y target bounds).bounds
    small : bound_at z.limit (settled_to x y target bounds).bounds x
        + bound_at z.limit (settled_to x y target bounds).bounds y ≤ target

  settles : (x y target : ℕ) (bounds : List ℕ) → 2 ≤ target → x < p.regs → y < p.regs → length bounds ≡ p.regs →
      AreSane bounds → AreSettled x y target bounds
  settles x y target bounds enough in_x in_y long sane =
      let is =
      settled_is (sums_of z.width) p.modulus p.lanes z.limit (2 * z.limit) x y target bounds sound.modulus roomy enough
      (omega (arith, in_x, long)) (omega (arith, in_y, long)) sane
      (let a = sane x in let b = sane y in omega (arith, a, b)) in
      record {
        reduced = record {
          reductions = is.reductions;
          sane = λ k. let a = is.low k in let b = sane k in omega (arith, a, b);
          long = is.long ∙ long;
          fit = subst (λ n. All (ReductionFits (sums_of z.width) n) (settled_to x y target bounds).reductions) long
              is.fit;
        };
        small = is.small;
      }

  -- an action that leaves the memory: its register gets words below v times the modulus, and the bound u
  put_done : (bounds after : List ℕ) (rs : List Reduction) (action : Action) (bias : ℕ) (quotients : List ℕ)
      (v u : ℕ) → AreReduced bounds rs after → ((t : Local) → memory_after p.lanes action t ≡ t.memory) →
      IsPut s (bound_at z.limit after) action bias quotients 1 v → v ≤ u → u ≤ z.limit → bias < sums_of z.width →
      All (λ q. q < base_of z.width) quotients →
      IsDone z p bounds (record { before = rs; action = action; bias = bias; quotients = quotients })
      (slice_set after (register_put action) u)
  put_done bounds after rs action bias quotients v u is stays put le low small fit =
      let r = register_put action in
      record {
        quick =
            quick_put s (bound_at z.limit bounds) (bound_at z.limit after) (bound_at z.limit (slice_set after r u)) rs
            action bias quotients 1 v is.reductions stays put (set_sane z.limit after r u low is.sane)
            (λ k from to. let a = set_bound_here z.limit after r u k low from to in omega (arith, a, le))
            (λ k apart. kept_bound z.limit after r u k apart);
        long = length-set after r u ∙ is.long;
        numbers = record { before = is.fit; bias = small; quotients = fit };
      }

  -- the same of an action of which nothing is reduced before
  plain_done : (bounds : List ℕ) (action : Action) (v : ℕ) → length bounds ≡ p.regs → AreSane bounds →
      ((t : Local) → memory_after p.lanes action t ≡ t.memory) → IsPut s (bound_at z.limit bounds) action 0 [] 1 v →
      v ≤ z.limit →
      IsDone z p bounds (record { before = []; action = action; bias = 0; quotients = [] })
      (slice_set bounds (register_put action) v)
  plain_done bounds action v long sane stays put low =
      put_done bounds bounds [] action 0 [] v v (unreduced bounds long sane) stays put (omega arith) low no_bias
      no_quotients

  -- and of one that puts less than the limit, whose registers are settled before
  settled_done : (bounds : List ℕ) (x y target : ℕ) (action : Action) (bias v : ℕ) → AreSettled x y target bounds →
      ((t : Local) → memory_after p.lanes action t ≡ t.memory) →
      IsPut s (bound_at z.limit (settled_to x y target bounds).bounds) action bias [] 1 v → v ≤ z.limit →
      bias < sums_of z.width →
      IsDone z p bounds (record {
        before = (settled_to x y target bounds).reductions;
        action = action;
        bias = bias;
        quotients = [];
      })
      (slice_set (settled_to x y target bounds).bounds (register_put action) (min z.limit v))
  settled_done bounds x y target action bias v done stays put small fit =
      let same : min z.limit v ≡ v = min-eq_right small in
      let after = settled_to x y target bounds in
      put_done bounds after.bounds after.reductions action bias [] v (min z.limit v) done.reduced stays put
      (omega (arith, same)) (omega (arith, same, small)) fit no_quotients

  -- a product by factors whose quotients are known
  product_done : (bounds : List ℕ) (r x : ℕ) (entry quotient : ℕ → ℕ) → length bounds ≡ p.regs → AreSane bounds →
      ((l : ℕ) → quotient l ≡ quotient_of (base_of z.width) p.modulus (entry l)) →
      All (λ c. c < p.modulus) (lane_factors p.lanes entry) →
      IsDone z p bounds (record {
        before = [];
        action = actions.Mul r x (lane_factors p.lanes entry);
        bias = 0;
        quotients = lane_factors p.lanes quotient;
      }) (slice_set bounds r (product_bound z.width))
  product_done bounds r x entry quotient long sane are fit =
      let factors = lane_factors p.lanes entry in
      let quotients = lane_factors p.lanes quotient in
      let known =
      quotients_of_lanes (base_of z.width) p.modulus entry quotient are p.lanes 0 (16 - p.lanes) in
      put_done bounds bounds [] (actions.Mul r x factors) 0 quotients (product_bound z.width) (product_bound z.width)
      (unreduced bounds long sane) (λ t. refl)
      (mul_put s (bound_at z.limit bounds) r x 0 factors quotients sound (sane x) (factors_each p.lanes entry) known)
      (omega arith) sound.lazy.product no_bias
      (quotients_below (base_of z.width) p.modulus factors quotients (let a = sound.lazy.room in omega arith) known fit)

  pub do_is_quick : (op : PlainOp) (bounds : List ℕ) (vs : List ℕ) (q : ℕ) → length bounds ≡ p.regs →
      ((r : ℕ) → bound_at z.limit bounds r ≤ z.limit) → StepFits p (step_of p op vs q) →
      IsDone z p bounds (word_action_of (quickened z p) (noted z p.modulus p.lanes op bounds).note op vs q)
      (noted z p.modulus p.lanes op bounds).bounds
  do_is_quick (Load r array expr) bounds vs q long sane fits =
      let at = (sum_numbers expr vs q).value in
      let address = array_start (whole_lines p.size p.line) array + at in
      let v = array_bound z.kept array in
      plain_done bounds (actions.Load r address) v long sane (λ t. refl)
      (load_put s (bound_at z.limit bounds) r address v (place array at fits.place)) (array_sane array).1
  do_is_quick (Store array expr r) bounds vs q long sane fits =
      let v = array_bound z.kept array in
      let enough : 2 ≤ 2 * v = let a = (array_sane array).0 in omega (arith, a) in
      let done = settles r r (2 * v) bounds enough fits.registers fits.registers long sane in
      let after = settled_to r r (2 * v) bounds in
      let small : bound_at z.limit after.bounds r ≤ v = let a = done.small in omega (arith, a) in
      let at = (sum_numbers expr vs q).value in
      record {
        quick =
            quick_store s (bound_at z.limit bounds) (bound_at z.limit after.bounds) after.reductions
            (array_start (whole_lines p.size p.line) array + at) r 0 [] done.reduced.reductions done.reduced.sane
            (λ k from to. let e = bound_in array at k fits.place from to in omega (arith, small, e));
        long = done.reduced.long;
        numbers = record { before = done.reduced.fit; bias = no_bias; quotients = no_quotients };
      }
  do_is_quick (Zero r) bounds vs q long sane fits =
      plain_done bounds (actions.Zero r) 1 long sane (λ t. refl) (zero_put s (bound_at z.limit bounds) r sound) some
  do_is_quick (Add r x y) bounds vs q long sane fits =
      let b = bound_at z.limit (settled_to x y z.limit bounds).bounds in
      let done = settles x y z.limit bounds two fits.registers.1 fits.registers.2 long sane in
      settled_done bounds x y z.limit (actions.Add r x y) 0 (b x + b y) done (λ t. refl)
      (add_put s b r x y sound done.small) done.small no_bias
  do_is_quick (Sub r x y) bounds vs q long sane fits =
      let b = bound_at z.limit (settled_to x y z.limit bounds).bounds in
      let done = settles x y z.limit bounds two fits.registers.1 fits.registers.2 long sane in
      settled_done bounds x y z.limit (actions.Sub r x y) (b y * p.modulus) (b x + b y) done (λ t. refl)
      (sub_put s b r x y sound done.small) done.small (bias_fits (b y) (done.reduced.sane y))
  do_is_quick (Neg r x) bounds vs q long sane fits =
      let target = 2 * (z.limit - 1) in
      let b = bound_at z.limit (settled_to x x target bounds).bounds in
      let enough : 2 ≤ target = let a = two in omega (arith, a) in
      let done = settles x x target bounds enough fits.registers.1 fits.registers.1 long sane in
      let small : b x + 1 ≤ z.limit = let a = done.small in let c = two in omega (arith, a, c) in
      settled_done bounds x x target (actions.Neg r x) (b x * p.modulus) (b x + 1) done (λ t. refl)
      (neg_put s b r x sound small) small (bias_fits (b x) (done.reduced.sane x))
  do_is_quick (MulConst r x factor) bounds vs q long sane fits =
      product_done bounds r x (λ lane. factor) (λ lane. quotient_of (base_of z.width) p.modulus factor) long sane
      (λ l. refl) fits.factors
  do_is_quick (MulTable r x table expr step) bounds vs q long sane fits =
      let at = (sum_numbers expr vs q).value in
      let entries = slice_index_or p.tables table [] in
      product_done bounds r x (λ lane. slice_index entries (at + step * lane))
      (λ lane. slice_index (slice_index_or (quickened z p).quotients table []) (at + step * lane)) long sane
      (λ l.
      ap (λ ns. slice_index ns (at + step * l)) (quotient_table (base_of z.width) p.modulus p.tables table)
      ∙ quotient_entry (base_of z.width) p.modulus entries (at + step * l))
      fits.factors
  do_is_quick (Tile r x) bounds vs q long sane fits =
      let v = greatest_bound z.limit bounds p.lanes x in
      let le = greatest_sane z.limit bounds p.lanes x sane in
      let none = unreduced bounds long sane in
      record {
        quick =
            quick_put s (bound_at z.limit bounds) (bound_at z.limit bounds)
            (bound_at z.limit (with_words bounds r (replicate p.lanes v))) [] _ 0 [] p.lanes v none.reductions
            (λ t. refl)
            (tile_put s (bound_at z.limit bounds) r x v (λ l lt. greatest_is z.limit bounds p.lanes x l lt))
            (tile_sane z.limit p.lanes bounds r v le sane)
            (λ k from to. tile_new z.limit p.lanes bounds r v k le from to)
            (λ k apart. tile_old z.limit p.lanes bounds r v k apart);
        long = tile_length p.lanes bounds r v ∙ long;
        numbers = record { before = none.fit; bias = no_bias; quotients = no_quotients };
      }
