-- What actions on doubles put into registers and memory.
use Rattle.std.proofs.Common.{◌≡◌, ℕ, zero, suc, ◌+◌, ◌*◌, ◌^◌, ◌<◌, ◌≤◌, ◌⊎◌, List, [], ◌∷◌, Bool, true, false}
use Rattle.std.proofs.Common.{length}
use Rattle.std.proofs.Common.{map, replicate, refl, sym, ap, ap₂, ◌∙◌, subst, arith, ℤ, pos, neg_ℤ}
use Rattle.std.proofs.lemmas.List.{length-replicate, map-id}
use Rattle.std.proofs.lemmas.List.Elements.{All-head, All-tail}
use Rattle.std.proofs.lemmas.List.FromFn.{length-map-range_with_len}
use Rattle.std.proofs.Math.Nat.{zero-mod, mod-eq_of_lt}
use Rattle.std.proofs.Common.{All, ◌++◌, ◌-◌}
use Rattle.std.specs.List.{range_with_len}
use Rattle.icode.specs.Actions.{lane_factors}
use Rattle.ring_mod.specs.Residue.{sum_mod, difference_mod, negation_mod, product_mod}
use Rattle.icode.specs.declared.action.Action.{Action}
use Rattle.icode.specs.declared.action.Action.TheVariants.{Load, Store, Zero, Add, Sub, Neg, Mul, Tile}
use Rattle.icode.specs.Machine.{Local, effect, value_put, memory_after, register_put, register_of, with_words}
use Rattle.icode.specs.Machine.{lane_by_lane}
use Rattle.double_code.specs.DoubleMachine.{DoubleLocal, numbers_of, numbers_stored, numbers_after, number_put}
use Rattle.double_code.specs.DoubleMachine.{after_reductions, reduce_all, lane_by_two, sum, difference, product}
use Rattle.double_code.specs.DoubleMachine.{settlement}
use Rattle.double_code.specs.DoubleMachine.{with_numbers}
use Rattle.double_code.specs.Doubled.{most_of}
use Rattle.double_code.specs.Factors.{centred}
use Rattle.double_code.specs.Products.{residue, product_bound}
use Rattle.double_code.specs.Reductions.{limit_of}
use Rattle.double_code.proofs.Bounds.{Bounds, Within, AreRegistersWithin, register_within, put_within, write_has}
use Rattle.double_code.proofs.Exact.{Scale, IsSound, IsWhole, IsMemoryHeld, kept, residue_local, IsExact}
use Rattle.double_code.proofs.Numbers.{residues, residues-numbers_at, residues-with_numbers, residues-zeros}
use Rattle.double_code.proofs.Numbers.{residues-turned}
use Rattle.double_code.proofs.Numbers.{Each, each-numbers_at, each-zeros, each-turned, each_map, each_two, number}
use Rattle.double_code.proofs.Numbers.{length-numbers_at, length-lanes, length-mapped, length-turned}
use Rattle.double_code.proofs.Residues.{residue_low}
use Rattle.double_code.proofs.Settling.{AreReductions}
use Rattle.double_code.proofs.Single.{sum_number, difference_number, negation_number, product_number}
use Rattle.double_code.proofs.Single.{settlement_number}

-- the numbers that an action puts into n registers stand for those of the residues, and are within v
pub record IsPut (s : Scale) (b : Bounds) (action : Action) (factors : List ℤ) (n v : ℕ) : Type 0 where
  pub same : (t : DoubleLocal) → AreRegistersWithin s.lanes b t.registers →
      value_put s.modulus s.lanes action (residue_local s.modulus t)
      ≡ residues s.modulus (number_put s.modulus s.lanes factors action t)
  pub low : (t : DoubleLocal) → IsMemoryHeld s t.memory → AreRegistersWithin s.lanes b t.registers →
      Each (Within v) (number_put s.modulus s.lanes factors action t)
  pub long : (t : DoubleLocal) → length (number_put s.modulus s.lanes factors action t) ≡ n * s.lanes

-- an action that leaves the memory
pub exact_put : (s : Scale) (b d c : Bounds) (rs : List ℕ) (action : Action) (factors : List ℤ) (n v : ℕ) →
    AreReductions s.modulus s.lanes b rs d → ((t : Local) → memory_after s.lanes action t ≡ t.memory) →
    ((t : DoubleLocal) → numbers_after s.modulus s.lanes false action t ≡ t.memory) → IsPut s d action factors n v →
    ((r : ℕ) → c r ≤ limit_of s.modulus) →
    ((q : ℕ) → register_put action ≤ q → q < register_put action + n → v ≤ c q) →
    ((q : ℕ) → (q < register_put action) ⊎ (register_put action + n ≤ q) → d q ≤ c q) →
    IsExact s b (record { before = rs; action = action; factors = factors; settles = false }) c
exact_put s b d c rs action factors n v reductions stays stays_too put sane new old =
    record {
      sane = sane;
      same = λ t held low. same t low;
      memory = λ t held low. subst (IsMemoryHeld s) (sym (stays_too (settled t))) held;
      registers = λ t held low.
          put_within s.lanes n (register_put action) v d c (settled t).registers
          (number_put s.modulus s.lanes factors action (settled t)) (reductions.within t.registers low)
          (put.low (settled t) held (reductions.within t.registers low)) (put.long (settled t)) new old;
    }
  where
    settled : DoubleLocal → DoubleLocal
    settled t = record { memory = t.memory; registers = reduce_all s.modulus s.lanes rs t.registers }

    same : (t : DoubleLocal) → AreRegistersWithin s.lanes b t.registers →
        effect s.modulus s.lanes action (residue_local s.modulus t)
        ≡ residue_local s.modulus (after_reductions s.modulus s.lanes (record {
          before = rs;
          action = action;
          factors = factors;
          settles = false;
        }) (settled t))
    same t low =
        let xs = reduce_all s.modulus s.lanes rs t.registers in
        let made : List ℕ → List ℕ → Local = λ memory registers. record { memory = memory; registers = registers } in
        ap (λ registers. effect s.modulus s.lanes action (made (residues s.modulus t.memory) registers))
        (sym (reductions.same t.registers low))
        ∙ ap₂ made
        (stays (residue_local s.modulus (settled t)) ∙ ap (residues s.modulus) (sym (stays_too (settled t))))
        (ap (with_words (residues s.modulus xs) (register_put action * s.lanes))
        (put.same (settled t) (reductions.within t.registers low))
        ∙ residues-with_numbers s.modulus (number_put s.modulus s.lanes factors action (settled t)) xs
        (register_put action * s.lanes))

-- ---- stores

-- a store of numbers that have P, which is enough wherever they are written
exact_store : (s : Scale) (b d : Bounds) (rs : List ℕ) (address r : ℕ) (settles : Bool) (P : ℤ → Type 0) →
    AreReductions s.modulus s.lanes b rs d → ((q : ℕ) → d q ≤ limit_of s.modulus) → P (pos 0) →
    ((xs : List ℤ) → AreRegistersWithin s.lanes d xs →
    (residues s.modulus (numbers_of s.lanes xs r) ≡ residues s.modulus (numbers_stored s.modulus s.lanes settles xs r))
    × Each P (numbers_stored s.modulus s.lanes settles xs r)) →
    ((xs : List ℤ) → length (numbers_stored s.modulus s.lanes settles xs r) ≡ s.lanes) →
    ((k : ℕ) → k < address + s.lanes → address ≤ k → k < 2 * s.padded → (z : ℤ) → P z → IsWhole s.modulus z) →
    ((k : ℕ) → k < address + s.lanes → address ≤ k → 2 * s.padded ≤ k → (z : ℤ) → P z → Within (kept s) z) →
    IsExact s b (record { before = rs; action = Store address r; factors = []; settles = settles }) d
exact_store s b d rs address r settles P reductions sane none stored long outer inner =
    record {
      sane = sane;
      same = λ t held low. same t low;
      memory = λ t held low. record {
        outer = λ k lt.
            write_has P (IsWhole s.modulus) (words t) t.memory address k (stored (reduced t) (below t low)).1 none
            (λ from to z p. outer k (inside t k to) from lt z p) (held.outer k lt);
        inner = λ k ge.
            write_has P (Within (kept s)) (words t) t.memory address k (stored (reduced t) (below t low)).1 none
            (λ from to z p. inner k (inside t k to) from ge z p) (held.inner k ge);
      };
      registers = λ t held low. below t low;
    }
  where
    reduced : DoubleLocal → List ℤ
    reduced t = reduce_all s.modulus s.lanes rs t.registers

    words : DoubleLocal → List ℤ
    words t = numbers_stored s.modulus s.lanes settles (reduced t) r

    below : (t : DoubleLocal) → AreRegistersWithin s.lanes b t.registers → AreRegistersWithin s.lanes d (reduced t)
    below t low = reductions.within t.registers low

    inside : (t : DoubleLocal) (k : ℕ) → k < address + length (words t) → k < address + s.lanes
    inside t k to = let e = long (reduced t) in omega (arith, to, e)

    same : (t : DoubleLocal) → AreRegistersWithin s.lanes b t.registers →
        effect s.modulus s.lanes (Store address r) (residue_local s.modulus t)
        ≡ residue_local s.modulus (record { memory = with_numbers t.memory address (words t); registers = reduced t })
    same t low =
        let made : List ℕ → List ℕ → Local = λ memory registers. record { memory = memory; registers = registers } in
        ap (λ registers. effect s.modulus s.lanes (Store address r) (made (residues s.modulus t.memory) registers))
        (sym (reductions.same t.registers low))
        ∙ ap (λ memory. made memory (residues s.modulus (reduced t)))
        (ap (with_words (residues s.modulus t.memory) address)
        (residues-numbers_at s.modulus s.lanes (reduced t) (r * s.lanes) ∙ (stored (reduced t) (below t low)).0)
        ∙ residues-with_numbers s.modulus (words t) t.memory address)

-- 0 is its residue
pub zero_whole : (m : ℕ) → IsWhole m (pos 0)
zero_whole m = ap pos (sym (zero-mod m))

-- so is what is settled
settled_whole : (m : ℕ) (a : ℤ) → 0 < m → m < 2 ^ 50 → Within (limit_of m) a →
    (residue m a ≡ residue m (settlement m a)) × IsWhole m (settlement m a)
settled_whole m a some below of_a =
    let e = settlement_number m a some below of_a in
    let same = ap (residue m) e ∙ mod-eq_of_lt (residue_low m a some) in
    (sym same, e ∙ ap pos (sym same))

-- residues that are stored into X or Y
pub settled_store : (s : Scale) (b d : Bounds) (rs : List ℕ) (address r : ℕ) → IsSound s →
    AreReductions s.modulus s.lanes b rs d → ((q : ℕ) → d q ≤ limit_of s.modulus) → address + s.lanes ≤ 2 * s.padded →
    IsExact s b (record { before = rs; action = Store address r; factors = []; settles = true }) d
settled_store s b d rs address r sound reductions sane place =
    exact_store s b d rs address r true (IsWhole s.modulus) reductions sane (zero_whole s.modulus)
    (λ xs low.
    let lanes = each_map s.modulus (Within (d r)) (IsWhole s.modulus) (λ a. a) (settlement s.modulus)
    (λ a of_a. let up = sane r in settled_whole s.modulus a sound.some sound.below (omega (arith, up, of_a)))
    (numbers_of s.lanes xs r) (register_within s.lanes d xs r low) in
    (sym (map-id (residues s.modulus (numbers_of s.lanes xs r))) ∙ lanes.0, lanes.1))
    (λ xs. length-mapped (settlement s.modulus) (numbers_of s.lanes xs r) ∙ length-numbers_at s.lanes xs (r * s.lanes))
    (λ k to from lt z p. p)
    (λ k to from ge z p. absurd (omega (arith, to, ge, place)))

-- numbers that are stored into A or B
pub plain_store : (s : Scale) (b d : Bounds) (rs : List ℕ) (address r : ℕ) →
    AreReductions s.modulus s.lanes b rs d → ((q : ℕ) → d q ≤ limit_of s.modulus) → 2 * s.padded ≤ address →
    d r ≤ kept s → IsExact s b (record { before = rs; action = Store address r; factors = []; settles = false }) d
plain_store s b d rs address r reductions sane place small =
    exact_store s b d rs address r false (Within (d r)) reductions sane (omega arith)
    (λ xs low. (refl, register_within s.lanes d xs r low))
    (λ xs. length-numbers_at s.lanes xs (r * s.lanes))
    (λ k to from lt z p. absurd (omega (arith, from, lt, place)))
    (λ k to from ge z p. omega (arith, p, small))

one_lane : (lanes : ℕ) → lanes ≡ 1 * lanes
one_lane lanes = omega arith

-- ---- each kind of action

pub zero_put : (s : Scale) (d : Bounds) (r : ℕ) → IsPut s d (Zero r) [] 1 0
zero_put s d r =
    record {
      same = λ t low. sym (residues-zeros s.modulus s.lanes);
      low = λ t held low. each-zeros (Within 0) s.lanes (omega arith);
      long = λ t. length-replicate s.lanes (pos 0) ∙ one_lane s.lanes;
    }

pub load_put : (s : Scale) (d : Bounds) (r address v : ℕ) → ((memory : List ℤ) → IsMemoryHeld s memory → (l : ℕ) →
    l < s.lanes → Within v (number memory (address + l))) →
    IsPut s d (Load r address) [] 1 v
load_put s d r address v place =
    record {
      same = λ t low. residues-numbers_at s.modulus s.lanes t.memory address;
      low = λ t held low. each-numbers_at (Within v) s.lanes t.memory address (place t.memory held);
      long = λ t. length-numbers_at s.lanes t.memory address ∙ one_lane s.lanes;
    }

-- the numbers of two registers, made lane by lane
module _ (s : Scale) (d : Bounds) (x y : ℕ) (f : ℕ → ℕ → ℕ) (g : ℤ → ℤ → ℤ) where
  length-both : (xs : List ℤ) → length (lane_by_two g (numbers_of s.lanes xs x) (numbers_of s.lanes xs y)) ≡ 1 * s.lanes
  length-both xs =
      let a = length-numbers_at s.lanes xs (x * s.lanes) in
      let b = length-numbers_at s.lanes xs (y * s.lanes) in
      length-lanes g (numbers_of s.lanes xs x) (numbers_of s.lanes xs y) (omega (arith, a, b)) ∙ a ∙ one_lane s.lanes

  -- g does of them what f does of their residues, and the bounds are added up
  both_lanes : ((a b : ℤ) → Within (d x) a → Within (d y) b →
      (f (residue s.modulus a) (residue s.modulus b) ≡ residue s.modulus (g a b)) × Within (d x + d y) (g a b)) →
      (xs : List ℤ) → AreRegistersWithin s.lanes d xs →
      (lane_by_lane f (register_of s.lanes (residues s.modulus xs) x)
      (register_of s.lanes (residues s.modulus xs) y)
      ≡ residues s.modulus (lane_by_two g (numbers_of s.lanes xs x) (numbers_of s.lanes xs y)))
      × Each (Within (d x + d y)) (lane_by_two g (numbers_of s.lanes xs x) (numbers_of s.lanes xs y))
  both_lanes does xs low =
      let lanes = each_two s.modulus (Within (d x)) (Within (d y)) (Within (d x + d y)) f g does
      (numbers_of s.lanes xs x) (numbers_of s.lanes xs y)
      (register_within s.lanes d xs x low) (register_within s.lanes d xs y low) in (
        ap₂ (lane_by_lane f) (residues-numbers_at s.modulus s.lanes xs (x * s.lanes))
            (residues-numbers_at s.modulus s.lanes xs (y * s.lanes)) ∙ lanes.0,
        lanes.1,
      )

pub add_put : (s : Scale) (d : Bounds) (r x y : ℕ) → IsSound s → d x + d y ≤ limit_of s.modulus →
    IsPut s d (Add r x y) [] 1 (d x + d y)
add_put s d r x y sound small =
    let lanes = both_lanes s d x y (sum_mod s.modulus) sum
    (λ a b of_a of_b. sum_number s.modulus (d x) (d y) a b sound.some (omega (arith, small)) of_a of_b) in
    record {
      same = λ t low. (lanes t.registers low).0;
      low = λ t held low. (lanes t.registers low).1;
      long = λ t. length-both s d x y (sum_mod s.modulus) sum t.registers;
    }

pub sub_put : (s : Scale) (d : Bounds) (r x y : ℕ) → IsSound s → d x + d y ≤ limit_of s.modulus →
    IsPut s d (Sub r x y) [] 1 (d x + d y)
sub_put s d r x y sound small =
    let lanes = both_lanes s d x y (difference_mod s.modulus) difference
    (λ a b of_a of_b. difference_number s.modulus (d x) (d y) a b sound.some (omega (arith, small)) of_a of_b) in
    record {
      same = λ t low. (lanes t.registers low).0;
      low = λ t held low. (lanes t.registers low).1;
      long = λ t. length-both s d x y (difference_mod s.modulus) difference t.registers;
    }

pub neg_put : (s : Scale) (d : Bounds) (r x : ℕ) → IsSound s → IsPut s d (Neg r x) [] 1 (d x)
neg_put s d r x sound =
    let lanes = λ (t : DoubleLocal) (low : AreRegistersWithin s.lanes d t.registers).
    each_map s.modulus (Within (d x)) (Within (d x)) (negation_mod s.modulus) neg_ℤ
    (λ a of_a. negation_number s.modulus (d x) a sound.some of_a)
    (numbers_of s.lanes t.registers x) (register_within s.lanes d t.registers x low) in
    record {
      same = λ t low.
          ap (map (negation_mod s.modulus)) (residues-numbers_at s.modulus s.lanes t.registers (x * s.lanes))
          ∙ (lanes t low).0;
      low = λ t held low. (lanes t low).1;
      long = λ t.
          length-mapped neg_ℤ (numbers_of s.lanes t.registers x) ∙ length-numbers_at s.lanes t.registers (x * s.lanes)
          ∙ one_lane s.lanes;
    }

-- the products of each lane by centred factors
products : (m most : ℕ) (entry : ℕ → ℕ) (factor : ℕ → ℤ) → 0 < m → m < 2 ^ 50 → most ≤ most_of m →
    ((l : ℕ) → factor l ≡ centred m (entry l)) → (n from k : ℕ) (xs : List ℤ) → length xs ≤ n →
    Each (Within most) xs → All (λ c. c < m) (map entry (range_with_len from n) ++ replicate k 0) →
    (lane_by_lane (product_mod m) (residues m xs) (map entry (range_with_len from n) ++ replicate k 0)
    ≡ residues m (lane_by_two (product m) xs (map factor (range_with_len from n))))
    × Each (Within (product_bound m most)) (lane_by_two (product m) xs (map factor (range_with_len from n)))
products m most entry factor some below few are n from k [] le low fit = (refl, tt)
products m most entry factor some below few are zero from k (x ∷ xs) le low fit = absurd (omega arith)
products m most entry factor some below few are (suc n) from k (x ∷ xs) le low fit =
    let cs = map entry (range_with_len (from + 1) n) ++ replicate k 0 in
    let rest = products m most entry factor some below few are n (from + 1) k xs (omega arith) low.1
    (All-tail (λ c. c < m) (entry from) cs fit) in
    let here = subst (λ z. (product_mod m (residue m x) (entry from) ≡ residue m (product m x z))
    × Within (product_bound m most) (product m x z)) (sym (are from))
    (product_number m most x (entry from) some below (All-head (λ c. c < m) (entry from) cs fit) few low.0) in
    (ap₂ (λ z zs. z ∷ zs) here.0 rest.0, (here.1, rest.1))

pub mul_put : (s : Scale) (d : Bounds) (r x : ℕ) (entry : ℕ → ℕ) (factor : ℕ → ℤ) → IsSound s →
    d x ≤ most_of s.modulus → ((l : ℕ) → factor l ≡ centred s.modulus (entry l)) →
    All (λ c. c < s.modulus) (lane_factors s.lanes entry) →
    IsPut s d (Mul r x (lane_factors s.lanes entry)) (map factor (range_with_len 0 s.lanes)) 1
    (product_bound s.modulus (d x))
mul_put s d r x entry factor sound small are fit =
    let long = λ (xs : List ℤ). length-numbers_at s.lanes xs (x * s.lanes) in
    let lanes = λ (t : DoubleLocal) (low : AreRegistersWithin s.lanes d t.registers).
    products s.modulus (d x) entry factor sound.some sound.below small are s.lanes 0 (16 - s.lanes)
    (numbers_of s.lanes t.registers x) (let e = long t.registers in omega (arith, e))
    (register_within s.lanes d t.registers x low) fit in
    record {
      same = λ t low.
          ap (λ xs. lane_by_lane (product_mod s.modulus) xs (lane_factors s.lanes entry))
          (residues-numbers_at s.modulus s.lanes t.registers (x * s.lanes)) ∙ (lanes t low).0;
      low = λ t held low. (lanes t low).1;
      long = λ t.
          let wide = length-map-range_with_len factor 0 s.lanes in
          let e = long t.registers in
          length-lanes (product s.modulus) (numbers_of s.lanes t.registers x) (map factor (range_with_len 0 s.lanes))
          (omega (arith, wide, e)) ∙ e ∙ one_lane s.lanes;
    }

pub tile_put : (s : Scale) (d : Bounds) (r x v : ℕ) → ((l : ℕ) → l < s.lanes → d (x + l) ≤ v) →
    IsPut s d (Tile r x) [] s.lanes v
tile_put s d r x v greatest =
    record {
      same = λ t low. residues-turned s.modulus s.lanes t.registers x;
      low = λ t held low. each-turned (Within v) s.lanes t.registers x (λ k l lk ll.
          let here = low.each (x + l) k lk in
          let up = greatest l ll in
          omega (arith, here, up));
      long = λ t. length-turned s.lanes t.registers x;
    }
