-- Each operation on doubles does what the operation does.
use Rattle.std.proofs.Common.{◌≡◌, ℕ, zero, suc, ◌+◌, ◌*◌, ◌^◌, ◌<◌, ◌≤◌, ◌⊎◌, inl, inr, List, [], ◌∷◌, All}
use Rattle.std.proofs.Common.{length, map, replicate, refl, sym, ap, ◌∙◌, subst, arith, ⊎_elim, mul-le-mul_right, ℤ}
use Rattle.std.proofs.Common.{pos, unsigned_abs, true, false}
use Rattle.std.specs.Prelude.{nat_le, ◌-ℤ◌, slice_index, slice_index_or, slice_set}
use Rattle.std.proofs.Common.{min}
use Rattle.std.specs.List.{range_with_len}
use Rattle.std.proofs.Math.Nat.{le-max_left, le-max_right, max-le}
use Rattle.std.proofs.lemmas.Bool.{cases_lt, cond-true, le-leb}
use Rattle.std.proofs.lemmas.List.{length-set}
use Rattle.icode.specs.declared.action.Action.{Action}
use Rattle.icode.specs.declared.action.Action.TheVariants as actions
use Rattle.icode.specs.declared.program.Array.{Array}
use Rattle.icode.specs.declared.program.Array.TheVariants as arrays
use Rattle.icode.specs.Actions.{step_of, StepFits, lane_factors, array_start}
use Rattle.icode.specs.Expression.{sum_numbers}
use Rattle.icode.specs.Machine.{Local, whole_lines, with_words, memory_after, register_put}
use Rattle.icode.specs.Plain.{PlainOp, PlainProgram, Load, Store, Zero, Add, Sub, Neg, MulConst, MulTable, Tile}
use Rattle.double_code.specs.DoubleMachine.{DoubleAction, DoubleLocal, numbers_after}
use Rattle.double_code.specs.DoubleProgram.{double_action_of}
use Rattle.double_code.specs.Doubled.{Settled, bound_at, settled_to, array_bound, greatest_bound, noted}
use Rattle.double_code.specs.Doubled.{most_of, doubled}
use Rattle.double_code.specs.Doubled.{reduced_bound, factors_of}
use Rattle.double_code.specs.Factors.{centred}
use Rattle.double_code.specs.Products.{residue, product_bound}
use Rattle.double_code.specs.Reductions.{limit_of}
use Rattle.double_code.proofs.Bounds.{Within}
use Rattle.double_code.proofs.Exact.{Scale, IsSound, IsMemoryHeld, kept, IsExact}
use Rattle.double_code.proofs.Numbers.{number}
use Rattle.double_code.proofs.Puts.{IsPut, exact_put, settled_store, plain_store, zero_put, load_put, add_put}
use Rattle.double_code.proofs.Puts.{sub_put}
use Rattle.double_code.proofs.Puts.{neg_put, mul_put, tile_put}
use Rattle.double_code.proofs.Residues.{residue_low}
use Rattle.double_code.proofs.Settling.{no_reductions, IsSettled, settles, set_sane, set_bound_here, kept_bound}

abbrev pub scale : PlainProgram → Scale
scale p = record { modulus = p.modulus; lanes = p.lanes; padded = whole_lines p.size p.line }

-- ---- bounds that are set

tile_old : (m n : ℕ) (bounds : List ℕ) (r v q : ℕ) → (q < r) ⊎ (r + n ≤ q) →
    bound_at m bounds q ≤ bound_at m (with_words bounds r (replicate n v)) q
tile_old m zero bounds r v q apart = omega arith
tile_old m (suc n) bounds r v q apart =
    let one : (q < r) ⊎ (r + 1 ≤ q) = elim apart [ inl lt ↦ inl lt | inr ge ↦ inr (omega (arith, ge)) ] in
    let rest : (q < r + 1) ⊎ (r + 1 + n ≤ q) =
    elim apart [ inl lt ↦ inl (omega (arith, lt)) | inr ge ↦ inr (omega (arith, ge)) ] in
    let a = kept_bound m bounds r v q one in
    let b = tile_old m n (slice_set bounds r v) (r + 1) v q rest in
    omega (arith, a, b)

tile_new : (m n : ℕ) (bounds : List ℕ) (r v q : ℕ) → v ≤ limit_of m → r ≤ q → q < r + n →
    v ≤ bound_at m (with_words bounds r (replicate n v)) q
tile_new m zero bounds r v q le from to = absurd (omega arith)
tile_new m (suc n) bounds r v q le from to =
    ⊎_elim
    (λ (here : q < r + 1).
    let a = set_bound_here m bounds r v q le from here in
    let b = tile_old m n (slice_set bounds r v) (r + 1) v q (inl here) in
    let done : v ≤ bound_at m (with_words bounds r (replicate (suc n) v)) q = omega (arith, a, b) in done)
    (λ (later : r + 1 ≤ q). tile_new m n (slice_set bounds r v) (r + 1) v q le later (omega arith))
    (cases_lt q (r + 1))

pub tile_sane : (m n : ℕ) (bounds : List ℕ) (r v : ℕ) → v ≤ limit_of m → ((q : ℕ) → bound_at m bounds q ≤ limit_of m) →
    (q : ℕ) → bound_at m (with_words bounds r (replicate n v)) q ≤ limit_of m
tile_sane m zero bounds r v le sane = sane
tile_sane m (suc n) bounds r v le sane =
    tile_sane m n (slice_set bounds r v) (r + 1) v le (set_sane m bounds r v le sane)

tile_length : (n : ℕ) (bounds : List ℕ) (r v : ℕ) → length (with_words bounds r (replicate n v)) ≡ length bounds
tile_length zero bounds r v = refl
tile_length (suc n) bounds r v = tile_length n (slice_set bounds r v) (r + 1) v ∙ length-set bounds r v

greatest_is : (m : ℕ) (bounds : List ℕ) (n x l : ℕ) → l < n → bound_at m bounds (x + l) ≤ greatest_bound m bounds n x
greatest_is m bounds zero x l lt = absurd (omega arith)
greatest_is m bounds (suc n) x zero lt =
    let same : x + 0 ≡ x = omega arith in
    subst (λ k. bound_at m bounds k ≤ greatest_bound m bounds (suc n) x) (sym same)
    (le-max_left (bound_at m bounds x) (greatest_bound m bounds n (x + 1)))
greatest_is m bounds (suc n) x (suc l) lt =
    let place : x + suc l ≡ x + 1 + l = omega arith in
    let a = greatest_is m bounds n (x + 1) l (omega arith) in
    let b = le-max_right (bound_at m bounds x) (greatest_bound m bounds n (x + 1)) in
    subst (λ k. bound_at m bounds k ≤ greatest_bound m bounds (suc n) x) (sym place) (omega (arith, a, b))

pub greatest_sane : (m : ℕ) (bounds : List ℕ) (n x : ℕ) → ((q : ℕ) → bound_at m bounds q ≤ limit_of m) →
    greatest_bound m bounds n x ≤ limit_of m
greatest_sane m bounds zero x sane = omega arith
greatest_sane m bounds (suc n) x sane = max-le (sane x) (greatest_sane m bounds n (x + 1) sane)

-- ---- factors

centred_zero : (m : ℕ) → pos 0 ≡ centred m 0
centred_zero m =
    sym (cond-true (nat_le (2 * 0) m) (pos 0) (pos 0 -ℤ pos m) (le-leb (2 * 0) m (omega arith)))

factor_entry : (m : ℕ) (entries : List ℕ) (i : ℕ) →
    slice_index_or (map (centred m) entries) i (pos 0) ≡ centred m (slice_index entries i)
factor_entry m [] i = centred_zero m
factor_entry m (c ∷ entries) zero = refl
factor_entry m (c ∷ entries) (suc i) = factor_entry m entries i

factor_table : (m : ℕ) (tables : List (List ℕ)) (t : ℕ) →
    slice_index_or (factors_of m tables) t [] ≡ map (centred m) (slice_index_or tables t [])
factor_table m (entries ∷ tables) (suc t) = factor_table m tables t
factor_table m _ _ = refl

-- ---- operations

-- an action goes from the bounds to those after it
pub record IsDone (p : PlainProgram) (bounds : List ℕ) (f : DoubleAction) (after : List ℕ) : Type 0 where
  pub exact : IsExact (scale p) (bound_at p.modulus bounds) f (bound_at p.modulus after)
  pub long : length after ≡ p.regs

-- a product is within the limit
product_sane : (m b : ℕ) → 0 < m → m < 2 ^ 50 → b ≤ most_of m → product_bound m b ≤ limit_of m
product_sane m b some below le =
    let few : b ≤ 2 ^ 52 = omega arith in
    let times = mul-le-mul_right m few in
    omega arith

module _ (p : PlainProgram) (sound : IsSound (scale p)) where
  abbrev s : Scale
  s = scale p

  abbrev m : ℕ
  m = p.modulus

  abbrev AreSane : List ℕ → Type 0
  AreSane bounds = (r : ℕ) → bound_at m bounds r ≤ limit_of m

  residue_within : (z : ℤ) → z ≡ pos (residue m z) → Within m z
  residue_within z e = let a = ap unsigned_abs e in let b = residue_low m z sound.some in omega (arith, a, b)

  -- a load's numbers
  place : (array : Array) (at : ℕ) → at + p.lanes ≤ whole_lines p.size p.line → (memory : List ℤ) →
      IsMemoryHeld s memory → (l : ℕ) → l < p.lanes →
      Within (array_bound m array) (number memory (array_start (whole_lines p.size p.line) array + at + l))
  place arrays.X at fits memory held l lt = residue_within _ (held.outer _ (omega arith))
  place arrays.Y at fits memory held l lt = residue_within _ (held.outer _ (omega arith))
  place arrays.A at fits memory held l lt = held.inner _ (omega arith)
  place arrays.B at fits memory held l lt = held.inner _ (omega arith)

  modulus_sane : m ≤ limit_of m
  modulus_sane = let a = sound.some in let b = sound.below in omega arith

  inner_sane : m + 1 ≤ limit_of m
  inner_sane = let a = sound.some in let b = sound.below in omega arith

  array_sane : (array : Array) → array_bound m array ≤ limit_of m
  array_sane arrays.X = modulus_sane
  array_sane arrays.Y = modulus_sane
  array_sane arrays.A = inner_sane
  array_sane arrays.B = inner_sane

  unreduced : (x y target : ℕ) (bounds : List ℕ) → AreSane bounds → bound_at m bounds x + bound_at m bounds y ≤ target →
      IsSettled m p.lanes sound.some sound.below x y target bounds (record { before = []; bounds = bounds })
  unreduced x y target bounds sane small =
      record { reductions = no_reductions m p.lanes (bound_at m bounds); sane = sane; long = refl; small = small }

  -- an action that leaves the memory: its register gets numbers within v, and the bound u
  put_done : (bounds : List ℕ) (x y target : ℕ) (after : Settled) (action : Action) (factors : List ℤ) (v u : ℕ) →
      length bounds ≡ p.regs →
      IsSettled m p.lanes sound.some sound.below x y target bounds after →
      ((t : Local) → memory_after p.lanes action t ≡ t.memory) →
      ((t : DoubleLocal) → numbers_after m p.lanes false action t ≡ t.memory) →
      IsPut s (bound_at m after.bounds) action factors 1 v → v ≤ u → u ≤ limit_of m →
      IsDone p bounds (record { before = after.before; action = action; factors = factors; settles = false })
      (slice_set after.bounds (register_put action) u)
  put_done bounds x y target after action factors v u long is stays stays_too put le low =
      let r = register_put action in
      record {
        exact =
            exact_put s (bound_at m bounds) (bound_at m after.bounds) (bound_at m (slice_set after.bounds r u))
            after.before action factors 1 v is.reductions stays stays_too put (set_sane m after.bounds r u low is.sane)
            (λ k from to. let a = set_bound_here m after.bounds r u k low from to in omega (arith, a, le))
            (λ k apart. kept_bound m after.bounds r u k apart);
        long = length-set after.bounds r u ∙ is.long ∙ long;
      }

  -- the same of an action before which nothing is reduced
  plain_done : (bounds : List ℕ) (action : Action) (v : ℕ) → length bounds ≡ p.regs → AreSane bounds →
      ((t : Local) → memory_after p.lanes action t ≡ t.memory) →
      ((t : DoubleLocal) → numbers_after m p.lanes false action t ≡ t.memory) →
      IsPut s (bound_at m bounds) action [] 1 v → v ≤ limit_of m →
      IsDone p bounds (record { before = []; action = action; factors = []; settles = false })
      (slice_set bounds (register_put action) v)
  plain_done bounds action v long sane stays stays_too put low =
      put_done bounds 0 0 (2 * limit_of m) (record { before = []; bounds = bounds }) action [] v v long
      (unreduced 0 0 (2 * limit_of m) bounds sane (let a = sane 0 in omega (arith, a)))
      stays stays_too put (omega arith) low

  settles_to : (x y target : ℕ) (bounds : List ℕ) → 2 * reduced_bound m ≤ target → x < p.regs → y < p.regs →
      length bounds ≡ p.regs → AreSane bounds →
      IsSettled m p.lanes sound.some sound.below x y target bounds (settled_to m 2 x y target bounds)
  settles_to x y target bounds enough in_x in_y long sane =
      settles m p.lanes sound.some sound.below x y target enough bounds sane (omega (arith, in_x, long))
      (omega (arith, in_y, long))

  enough_limit : 2 * reduced_bound m ≤ limit_of m
  enough_limit = let a = sound.some in let b = sound.below in omega arith

  enough_most : 2 * reduced_bound m ≤ 2 * most_of m
  enough_most = let a = sound.some in let b = sound.below in omega arith

  -- a product by factors that are centred
  product_done : (bounds : List ℕ) (r x : ℕ) (entry : ℕ → ℕ) (factor : ℕ → ℤ) → x < p.regs → length bounds ≡ p.regs →
      AreSane bounds → ((l : ℕ) → factor l ≡ centred m (entry l)) → All (λ c. c < m) (lane_factors p.lanes entry) →
      IsDone p bounds (record {
        before = (settled_to m 2 x x (2 * most_of m) bounds).before;
        action = actions.Mul r x (lane_factors p.lanes entry);
        factors = map factor (range_with_len 0 p.lanes);
        settles = false;
      }) (slice_set (settled_to m 2 x x (2 * most_of m) bounds).bounds r
      (product_bound m (bound_at m (settled_to m 2 x x (2 * most_of m) bounds).bounds x)))
  product_done bounds r x entry factor in_x long sane are fit =
      let after = settled_to m 2 x x (2 * most_of m) bounds in
      let b = bound_at m after.bounds in
      let done = settles_to x x (2 * most_of m) bounds enough_most in_x in_x long sane in
      let few : b x ≤ most_of m = let a = done.small in omega (arith, a) in
      put_done bounds x x (2 * most_of m) after (actions.Mul r x (lane_factors p.lanes entry))
      (map factor (range_with_len 0 p.lanes)) (product_bound m (b x)) (product_bound m (b x)) long done
      (λ t. refl) (λ t. refl) (mul_put s b r x entry factor sound few are fit) (omega arith)
      (product_sane m (b x) sound.some sound.below few)

  -- a store into X or Y
  outer_done : (bounds : List ℕ) (address r : ℕ) → length bounds ≡ p.regs → AreSane bounds →
      address + p.lanes ≤ 2 * whole_lines p.size p.line →
      IsDone p bounds (record { before = []; action = actions.Store address r; factors = []; settles = true }) bounds
  outer_done bounds address r long sane place =
      record {
        exact =
            settled_store s (bound_at m bounds) (bound_at m bounds) [] address r sound
            (no_reductions m p.lanes (bound_at m bounds)) sane place;
        long = long;
      }

  -- a store into A or B
  inner_done : (bounds : List ℕ) (address r : ℕ) → r < p.regs → length bounds ≡ p.regs → AreSane bounds →
      2 * whole_lines p.size p.line ≤ address →
      IsDone p bounds (record {
        before = (settled_to m 2 r r (2 * kept s) bounds).before;
        action = actions.Store address r;
        factors = [];
        settles = false;
      }) (settled_to m 2 r r (2 * kept s) bounds).bounds
  inner_done bounds address r in_r long sane place =
      let after = settled_to m 2 r r (2 * kept s) bounds in
      let enough : 2 * reduced_bound m ≤ 2 * kept s = omega arith in
      let done = settles_to r r (2 * kept s) bounds enough in_r in_r long sane in
      record {
        exact =
            plain_store s (bound_at m bounds) (bound_at m after.bounds) after.before address r done.reductions done.sane
            place (let a = done.small in omega (arith, a));
        long = done.long ∙ long;
      }

  pub do_is_exact : (op : PlainOp) (bounds vs : List ℕ) (q : ℕ) → length bounds ≡ p.regs → AreSane bounds →
      StepFits p (step_of p op vs q) →
      IsDone p bounds (double_action_of (doubled p) (noted m p.lanes op bounds).note op vs q)
      (noted m p.lanes op bounds).bounds
  do_is_exact (Load r array expr) bounds vs q long sane fits =
      let at = (sum_numbers expr vs q).value in
      let address = array_start (whole_lines p.size p.line) array + at in
      plain_done bounds (actions.Load r address) (array_bound m array) long sane (λ t. refl) (λ t. refl)
      (load_put s (bound_at m bounds) r address (array_bound m array) (place array at fits.place)) (array_sane array)
  do_is_exact (Store arrays.X expr r) bounds vs q long sane fits =
      let at = (sum_numbers expr vs q).value in
      let address = array_start (whole_lines p.size p.line) arrays.X + at in
      let place = fits.place in
      outer_done bounds address r long sane (omega arith)
  do_is_exact (Store arrays.Y expr r) bounds vs q long sane fits =
      let at = (sum_numbers expr vs q).value in
      let address = array_start (whole_lines p.size p.line) arrays.Y + at in
      let place = fits.place in
      outer_done bounds address r long sane (omega arith)
  do_is_exact (Store arrays.A expr r) bounds vs q long sane fits =
      let at = (sum_numbers expr vs q).value in
      let address = array_start (whole_lines p.size p.line) arrays.A + at in
      let place = fits.place in
      inner_done bounds address r fits.registers long sane (omega arith)
  do_is_exact (Store arrays.B expr r) bounds vs q long sane fits =
      let at = (sum_numbers expr vs q).value in
      let address = array_start (whole_lines p.size p.line) arrays.B + at in
      let place = fits.place in
      inner_done bounds address r fits.registers long sane (omega arith)
  do_is_exact (Zero r) bounds vs q long sane fits =
      plain_done bounds (actions.Zero r) 0 long sane (λ t. refl) (λ t. refl) (zero_put s (bound_at m bounds) r)
      (omega arith)
  do_is_exact (Add r x y) bounds vs q long sane fits =
      let after = settled_to m 2 x y (limit_of m) bounds in
      let b = bound_at m after.bounds in
      let done = settles_to x y (limit_of m) bounds enough_limit fits.registers.1 fits.registers.2 long sane in
      put_done bounds x y (limit_of m) after (actions.Add r x y) [] (b x + b y)
      (min (limit_of m) (b x + b y)) long done (λ t. refl)
      (λ t. refl) (add_put s b r x y sound done.small) (let a = done.small in omega (arith, a)) (omega arith)
  do_is_exact (Sub r x y) bounds vs q long sane fits =
      let after = settled_to m 2 x y (limit_of m) bounds in
      let b = bound_at m after.bounds in
      let done = settles_to x y (limit_of m) bounds enough_limit fits.registers.1 fits.registers.2 long sane in
      put_done bounds x y (limit_of m) after (actions.Sub r x y) [] (b x + b y)
      (min (limit_of m) (b x + b y)) long done (λ t. refl)
      (λ t. refl) (sub_put s b r x y sound done.small) (let a = done.small in omega (arith, a)) (omega arith)
  do_is_exact (Neg r x) bounds vs q long sane fits =
      plain_done bounds (actions.Neg r x) (bound_at m bounds x) long sane (λ t. refl) (λ t. refl)
      (neg_put s (bound_at m bounds) r x sound) (sane x)
  do_is_exact (MulConst r x factor) bounds vs q long sane fits =
      product_done bounds r x (λ lane. factor) (λ lane. centred m factor) fits.registers.1 long sane (λ l. refl)
      fits.factors
  do_is_exact (MulTable r x table expr step) bounds vs q long sane fits =
      let at = (sum_numbers expr vs q).value in
      let entries = slice_index_or p.tables table [] in
      product_done bounds r x (λ lane. slice_index entries (at + step * lane))
      (λ lane. slice_index_or (slice_index_or (factors_of m p.tables) table []) (at + step * lane) (pos 0))
      fits.registers.1 long sane
      (λ l.
      ap (λ zs. slice_index_or zs (at + step * l) (pos 0)) (factor_table m p.tables table)
      ∙ factor_entry m entries (at + step * l))
      fits.factors
  do_is_exact (Tile r x) bounds vs q long sane fits =
      let v = greatest_bound m bounds p.lanes x in
      let le = greatest_sane m bounds p.lanes x sane in
      record {
        exact =
            exact_put s (bound_at m bounds) (bound_at m bounds)
            (bound_at m (with_words bounds r (replicate p.lanes v))) [] (actions.Tile r x) [] p.lanes v
            (no_reductions m p.lanes (bound_at m bounds)) (λ t. refl) (λ t. refl)
            (tile_put s (bound_at m bounds) r x v (λ l lt. greatest_is m bounds p.lanes x l lt))
            (tile_sane m p.lanes bounds r v le sane)
            (λ k from to. tile_new m p.lanes bounds r v k le from to)
            (λ k apart. tile_old m p.lanes bounds r v k apart);
        long = tile_length p.lanes bounds r v ∙ long;
      }
