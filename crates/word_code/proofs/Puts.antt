-- What actions on words put into registers and memory.
use Rattle.std.proofs.Common.{◌≡◌, ℕ, zero, suc, ◌+◌, ◌*◌, ◌%◌, ◌<◌, ◌≤◌, ◌⊎◌, List, [], length, map, flat_map}
use Rattle.std.proofs.Common.{sym, ap, ap₂, ◌∙◌, subst, arith, mul-le-mul_left, length-append}
use Rattle.std.specs.Prelude.{slice_index}
use Rattle.std.specs.List.{range_with_len}
use Rattle.std.proofs.lemmas.List.{length-replicate}
use Rattle.std.proofs.lemmas.List.FromFn.{length-map-range_with_len}
use Rattle.ring_mod.specs.Residue.{sum_mod, difference_mod, negation_mod, product_mod}
use Rattle.icode.specs.declared.action.Action.{Action}
use Rattle.icode.specs.declared.action.Action.TheVariants.{Load, Store, Zero, Add, Sub, Neg, Mul, Tile}
use Rattle.icode.specs.Machine.{Local, effect, value_put, memory_after, register_put, register_of, with_words}
use Rattle.icode.specs.Machine.{lane_by_lane}
use Rattle.icode.proofs.Words.{length-words_at}
use Rattle.icode.proofs.SequenceLemmas.Placing.{length-lane_by_lane, length-mapped}
use Rattle.word_code.specs.Laws.{IsLazyWithin}
use Rattle.word_code.specs.Words.{base_of, sums_of, product_bound, wrapped_sum, wrapped_difference, biased_difference}
use Rattle.word_code.specs.Words.{lazy_product}
use Rattle.word_code.specs.declared.program.Reduction.{Reduction}
use Rattle.word_code.specs.WordMachine.{word_put, bare_effect, reduce_registers}
use Rattle.word_code.proofs.Arithmetic.{sum_word, difference_word, negation_word}
use Rattle.word_code.proofs.Residues.{residues, residues-words_at, residues-with_words, residues-zeros}
use Rattle.word_code.proofs.Residues.{residues-transposed, AllBelow, below-words_at, below-zeros, below-transposed}
use Rattle.word_code.proofs.Residues.{lazy_map, lazy_lanes, lazy_products, AreQuotients, length-three}
use Rattle.word_code.proofs.Bounds.{Bounds, AreRegistersBelow, register_below, put_below, write_below}
use Rattle.word_code.proofs.Quick.{Scale, address_bound, IsMemoryBelow, residue_local, IsQuick}
use Rattle.word_code.proofs.Reduce.{AreReductions}

-- the numbers of a scale agree
pub record IsSound (s : Scale) : Type 0 where
  pub modulus : 0 < s.modulus
  pub lazy : IsLazyWithin (record { width = s.width; kept = s.kept; limit = s.limit }) s.modulus

-- the words that an action puts into n registers stand for those of the residues, and are below v times the modulus
pub record IsPut (s : Scale) (b : Bounds) (action : Action) (bias : ℕ) (quotients : List ℕ) (n v : ℕ) : Type 0 where
  pub same : (t : Local) → AreRegistersBelow s.modulus s.lanes b t.registers →
      value_put s.modulus s.lanes action (residue_local s.modulus t)
      ≡ residues s.modulus (word_put s.width s.modulus s.lanes bias quotients action t)
  pub low : (t : Local) → IsMemoryBelow s t.memory → AreRegistersBelow s.modulus s.lanes b t.registers →
      AllBelow (v * s.modulus) (word_put s.width s.modulus s.lanes bias quotients action t)
  pub long : (t : Local) → length (word_put s.width s.modulus s.lanes bias quotients action t) ≡ n * s.lanes

-- an action that leaves the memory
pub quick_put : (s : Scale) (b d c : Bounds) (rs : List Reduction) (action : Action) (bias : ℕ) (quotients : List ℕ)
    (n v : ℕ) →
    AreReductions (sums_of s.width) s.modulus s.lanes b rs d →
    ((t : Local) → memory_after s.lanes action t ≡ t.memory) → IsPut s d action bias quotients n v →
    ((r : ℕ) → c r ≤ s.limit) → ((q : ℕ) → register_put action ≤ q → q < register_put action + n → v ≤ c q) →
    ((q : ℕ) → (q < register_put action) ⊎ (register_put action + n ≤ q) → d q ≤ c q) →
    IsQuick s b (record { before = rs; action = action; bias = bias; quotients = quotients }) c
quick_put s b d c rs action bias quotients n v reductions stays put sane new old =
    record {
      sane = sane;
      same = λ t kept low. same t low;
      memory = λ t kept low. subst (IsMemoryBelow s) (sym (stays (settled t))) kept;
      registers = λ t kept low.
          put_below s.modulus s.lanes n (register_put action) v d c (settled t).registers (word_put s.width s.modulus s.lanes bias quotients action (settled t))
          (reductions.below t.registers low) (put.low (settled t) kept (reductions.below t.registers low)) (put.long (settled t)) new old;
    }
  where
    settled : Local → Local
    settled t = record { memory = t.memory; registers = reduce_registers (sums_of s.width) s.lanes rs t.registers }

    same : (t : Local) → AreRegistersBelow s.modulus s.lanes b t.registers →
        effect s.modulus s.lanes action (residue_local s.modulus t) ≡ residue_local s.modulus (bare_effect s.width s.modulus s.lanes (record { before = rs; action = action; bias = bias; quotients = quotients }) (settled t))
    same t low =
        let words = reduce_registers (sums_of s.width) s.lanes rs t.registers in
        let made : List ℕ → List ℕ → Local = λ memory registers. record { memory = memory; registers = registers } in
        ap (λ registers. effect s.modulus s.lanes action (made (residues s.modulus t.memory) registers)) (sym (reductions.same t.registers low))
        ∙ ap₂ made
        (stays (residue_local s.modulus (settled t)) ∙ ap (residues s.modulus) (sym (stays (settled t))))
        (ap (with_words (residues s.modulus words) (register_put action * s.lanes)) (put.same (settled t) (reductions.below t.registers low))
        ∙ residues-with_words s.modulus (word_put s.width s.modulus s.lanes bias quotients action (settled t)) words (register_put action * s.lanes))

-- a store, whose words are small enough for each address that it writes to
pub quick_store : (s : Scale) (b d : Bounds) (rs : List Reduction) (address r bias : ℕ) (quotients : List ℕ) →
    AreReductions (sums_of s.width) s.modulus s.lanes b rs d → ((q : ℕ) → d q ≤ s.limit) →
    ((k : ℕ) → address ≤ k → k < address + s.lanes → d r ≤ address_bound s k) →
    IsQuick s b (record { before = rs; action = Store address r; bias = bias; quotients = quotients }) d
quick_store s b d rs address r bias quotients reductions sane small =
    record {
      sane = sane;
      same = λ t kept low. same t low;
      memory = λ t kept low. record {
        each = λ k.
            write_below (words t) t.memory address k (d r * s.modulus) (address_bound s k * s.modulus) (below t low)
            (λ from to. let a = mul-le-mul_left s.modulus (small k from (inside t k to)) in omega (arith, a))
            (kept.each k);
      };
      registers = λ t kept low. reductions.below t.registers low;
    }
  where
    reduced : Local → List ℕ
    reduced t = reduce_registers (sums_of s.width) s.lanes rs t.registers

    words : Local → List ℕ
    words t = register_of s.lanes (reduced t) r

    inside : (t : Local) (k : ℕ) → k < address + length (words t) → k < address + s.lanes
    inside t k to = let long = length-words_at s.lanes (reduced t) (r * s.lanes) in omega (arith, to, long)

    below : (t : Local) → AreRegistersBelow s.modulus s.lanes b t.registers → AllBelow (d r * s.modulus) (words t)
    below t low = register_below s.modulus s.lanes d (reduced t) r (reductions.below t.registers low)

    same : (t : Local) → AreRegistersBelow s.modulus s.lanes b t.registers →
        effect s.modulus s.lanes (Store address r) (residue_local s.modulus t) ≡ residue_local s.modulus (record { memory = with_words t.memory address (words t); registers = reduced t })
    same t low =
        let made : List ℕ → List ℕ → Local = λ memory registers. record { memory = memory; registers = registers } in
        ap (λ registers. effect s.modulus s.lanes (Store address r) (made (residues s.modulus t.memory) registers)) (sym (reductions.same t.registers low))
        ∙ ap (λ memory. made memory (residues s.modulus (reduced t)))
        (ap (with_words (residues s.modulus t.memory) address) (residues-words_at s.modulus s.lanes (reduced t) (r * s.lanes))
        ∙ residues-with_words s.modulus (words t) t.memory address)

one_lane : (lanes : ℕ) → lanes ≡ 1 * lanes
one_lane lanes = omega arith

-- each kind of action

pub zero_put : (s : Scale) (d : Bounds) (r : ℕ) → IsSound s → IsPut s d (Zero r) 0 [] 1 1
zero_put s d r sound =
    record {
      same = λ t low. sym (residues-zeros s.modulus s.lanes);
      low = λ t kept low. let pos = sound.modulus in below-zeros (1 * s.modulus) s.lanes (omega (arith, pos));
      long = λ t. length-replicate s.lanes 0 ∙ one_lane s.lanes;
    }

pub load_put : (s : Scale) (d : Bounds) (r address v : ℕ) → ((memory : List ℕ) → IsMemoryBelow s memory → (l : ℕ) →
    l < s.lanes → slice_index memory (address + l) < v * s.modulus) →
    IsPut s d (Load r address) 0 [] 1 v
load_put s d r address v place =
    record {
      same = λ t low. residues-words_at s.modulus s.lanes t.memory address;
      low = λ t kept low. below-words_at (v * s.modulus) s.lanes t.memory address (place t.memory kept);
      long = λ t. length-words_at s.lanes t.memory address ∙ one_lane s.lanes;
    }

-- the words of two registers, made lane by lane
module _ (s : Scale) (d : Bounds) (x y : ℕ) (f g : ℕ → ℕ → ℕ) where
  length-both : (words : List ℕ) →
      length (lane_by_lane g (register_of s.lanes words x) (register_of s.lanes words y)) ≡ 1 * s.lanes
  length-both words =
      let a = length-words_at s.lanes words (x * s.lanes) in
      let b = length-words_at s.lanes words (y * s.lanes) in
      length-lane_by_lane g (register_of s.lanes words x) (register_of s.lanes words y) (omega (arith, a, b)) ∙ a
      ∙ one_lane s.lanes

  -- g does of them what f does of their residues, and the bounds are added up
  both_lanes : IsSound s → d x + d y ≤ s.limit →
      (d x * s.modulus + d y * s.modulus ≤ sums_of s.width → (a b : ℕ) → a < d x * s.modulus → b < d y * s.modulus →
      (f (a % s.modulus) (b % s.modulus) ≡ g a b % s.modulus) × (g a b < d x * s.modulus + d y * s.modulus)) →
      (words : List ℕ) → AreRegistersBelow s.modulus s.lanes d words →
      (lane_by_lane f (register_of s.lanes (residues s.modulus words) x)
      (register_of s.lanes (residues s.modulus words) y)
      ≡ residues s.modulus (lane_by_lane g (register_of s.lanes words x) (register_of s.lanes words y)))
      × AllBelow ((d x + d y) * s.modulus) (lane_by_lane g (register_of s.lanes words x) (register_of s.lanes words y))
  both_lanes sound small does words low =
      let up = mul-le-mul_left s.modulus small in
      let all = sound.lazy.room in
      let more = sound.lazy.sums in
      let spread : (d x + d y) * s.modulus ≡ d x * s.modulus + d y * s.modulus = omega arith in
      let lanes =
      lazy_lanes s.modulus (d x * s.modulus) (d y * s.modulus) (d x * s.modulus + d y * s.modulus) f g
      (does (omega (arith, up, all, more, spread))) (register_of s.lanes words x) (register_of s.lanes words y)
      (register_below s.modulus s.lanes d words x low) (register_below s.modulus s.lanes d words y low) in (
        ap₂ (lane_by_lane f) (residues-words_at s.modulus s.lanes words (x * s.lanes))
            (residues-words_at s.modulus s.lanes words (y * s.lanes)) ∙ lanes.0,
        subst (λ k. AllBelow k (lane_by_lane g (register_of s.lanes words x) (register_of s.lanes words y)))
            (sym spread) lanes.1,
      )

pub add_put : (s : Scale) (d : Bounds) (r x y : ℕ) → IsSound s → d x + d y ≤ s.limit →
    IsPut s d (Add r x y) 0 [] 1 (d x + d y)
add_put s d r x y sound small =
    let sum : ℕ → ℕ → ℕ = wrapped_sum (sums_of s.width) in
    let lanes =
    both_lanes s d x y (sum_mod s.modulus) sum sound small
    (λ room a b la lb. sum_word (sums_of s.width) s.modulus (d x * s.modulus) (d y * s.modulus) a b room la lb) in
    record {
      same = λ t low. (lanes t.registers low).0;
      low = λ t kept low. (lanes t.registers low).1;
      long = λ t. length-both s d x y (sum_mod s.modulus) sum t.registers;
    }

pub sub_put : (s : Scale) (d : Bounds) (r x y : ℕ) → IsSound s → d x + d y ≤ s.limit →
    IsPut s d (Sub r x y) (d y * s.modulus) [] 1 (d x + d y)
sub_put s d r x y sound small =
    let difference : ℕ → ℕ → ℕ = biased_difference (sums_of s.width) (d y * s.modulus) in
    let lanes =
    both_lanes s d x y (difference_mod s.modulus) difference sound small
    (λ room a b la lb.
    difference_word (sums_of s.width) s.modulus (d x * s.modulus) (d y) a b sound.modulus room la lb) in
    record {
      same = λ t low. (lanes t.registers low).0;
      low = λ t kept low. (lanes t.registers low).1;
      long = λ t. length-both s d x y (difference_mod s.modulus) difference t.registers;
    }

pub neg_put : (s : Scale) (d : Bounds) (r x : ℕ) → IsSound s → d x + 1 ≤ s.limit →
    IsPut s d (Neg r x) (d x * s.modulus) [] 1 (d x + 1)
neg_put s d r x sound small =
    let up = mul-le-mul_left s.modulus small in
    let all = sound.lazy.room in
    let more = sound.lazy.sums in
    let room : (d x + 1) * s.modulus ≤ sums_of s.width = omega (arith, up, all, more) in
    let negation : ℕ → ℕ = wrapped_difference (sums_of s.width) (d x * s.modulus) in
    let lanes = λ (t : Local) (low : AreRegistersBelow s.modulus s.lanes d t.registers).
    lazy_map s.modulus (d x * s.modulus) ((d x + 1) * s.modulus) (negation_mod s.modulus) negation
    (λ a la. negation_word (sums_of s.width) s.modulus (d x) a sound.modulus room la)
    (register_of s.lanes t.registers x) (register_below s.modulus s.lanes d t.registers x low) in
    record {
      same = λ t low.
          ap (map (negation_mod s.modulus)) (residues-words_at s.modulus s.lanes t.registers (x * s.lanes))
          ∙ (lanes t low).0;
      low = λ t kept low. (lanes t low).1;
      long = λ t.
          length-mapped negation (register_of s.lanes t.registers x) ∙ length-words_at s.lanes t.registers (x * s.lanes)
          ∙ one_lane s.lanes;
    }

pub mul_put : (s : Scale) (d : Bounds) (r x bias : ℕ) (factors quotients : List ℕ) → IsSound s → d x ≤ s.limit →
    s.lanes ≤ length factors → AreQuotients (base_of s.width) s.modulus factors quotients →
    IsPut s d (Mul r x factors) bias quotients 1 (product_bound s.width)
mul_put s d r x bias factors quotients sound sane enough are =
    let all = sound.lazy.room in
    let up = mul-le-mul_left s.modulus sound.lazy.product in
    let up_too = mul-le-mul_left s.modulus sane in
    let room : product_bound s.width * s.modulus ≤ base_of s.width = omega (arith, up, all) in
    let low_room : d x * s.modulus ≤ base_of s.width = omega (arith, up_too, all) in
    let lanes = λ (t : Local) (low : AreRegistersBelow s.modulus s.lanes d t.registers).
    lazy_products s.width s.modulus (d x * s.modulus) sound.lazy.half sound.modulus room low_room
    (register_of s.lanes t.registers x) factors quotients (register_below s.modulus s.lanes d t.registers x low) are in
    record {
      same = λ t low.
          ap (λ xs. lane_by_lane (product_mod s.modulus) xs factors)
          (residues-words_at s.modulus s.lanes t.registers (x * s.lanes)) ∙ (lanes t low).0;
      low = λ t kept low. (lanes t low).1;
      long = λ t.
          let wide = length-words_at s.lanes t.registers (x * s.lanes) in
          length-three (lazy_product s.width s.modulus) (base_of s.width) s.modulus (register_of s.lanes t.registers x)
          factors quotients (omega (arith, wide, enough)) are ∙ wide ∙ one_lane s.lanes;
    }

length-rows : (f : ℕ → ℕ → ℕ) (wide n from : ℕ) → length (flat_map (λ k. map (f k) (range_with_len 0 wide))
    (range_with_len from n)) ≡ n * wide
length-rows f wide zero from = omega arith
length-rows f wide (suc n) from =
    let rest = length-rows f wide n (from + 1) in
    let row = length-map-range_with_len (f from) 0 wide in
    length-append (map (f from) (range_with_len 0 wide)) (flat_map (λ k. map (f k) (range_with_len 0 wide)) (range_with_len (from + 1) n)) ∙ omega (arith, rest, row)

pub tile_put : (s : Scale) (d : Bounds) (r x v : ℕ) → ((l : ℕ) → l < s.lanes → d (x + l) ≤ v) →
    IsPut s d (Tile r x) 0 [] s.lanes v
tile_put s d r x v greatest =
    record {
      same = λ t low. residues-transposed s.modulus s.lanes t.registers x;
      low = λ t kept low. below-transposed (v * s.modulus) s.lanes t.registers x (λ k l lk ll.
          let here = low.each (x + l) k lk in
          let up = mul-le-mul_left s.modulus (greatest l ll) in
          omega (arith, here, up));
      long = λ t. length-rows (λ k l. slice_index t.registers ((x + l) * s.lanes + k)) s.lanes s.lanes 0;
    }
