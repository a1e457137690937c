-- Registers with one more after them.
use Rattle.std.proofs.Common.{◌≡◌, ℕ, zero, suc, ◌+◌, ◌*◌, ◌%◌, ◌<◌, ◌≤◌, List, [], ◌∷◌, map, length, refl, sym, ap}
use Rattle.std.proofs.Common.{ap₂, ◌∙◌, arith}
use Rattle.std.specs.Prelude.{replicate, slice_index, slice_get, slice_set}
use Rattle.std.proofs.Math.Nat.{mod-mod, mul_assoc}
use Rattle.std.proofs.lemmas.List.{length-replicate}
use Rattle.ring_mod.specs.Residue.{sum_mod, difference_mod, negation_mod, product_mod}
use Rattle.ring_mod.proofs.Congruence.{same-mul}
use Rattle.icode.specs.declared.action.Action.{Action}
use Rattle.icode.specs.declared.action.Action.TheVariants.{Load, Store, Zero, Add, Sub, Neg, Mul, Tile}
use Rattle.icode.specs.Actions.{RegistersFit}
use Rattle.icode.specs.Machine.{Local, effect, memory_after, value_put, register_put, register_of, words_at}
use Rattle.icode.specs.Machine.{with_words, lane_by_lane}
use Rattle.icode.proofs.Words.{with_words-agree, with_words-other, length-words_at}
use Rattle.icode.proofs.SequenceLemmas.ByLane.{length-registers_after}
use Rattle.icode.proofs.SequenceLemmas.Placing.{length-lane_by_lane, length-slice_set, with_words_there}
use Rattle.nests.proofs.Swaps.{register_agrees, tile_agrees}

-- ---- lists

-- what is written stands there
words_back : (vs xs : List ℕ) (i : ℕ) → i + length vs ≤ length xs → words_at (length vs) (with_words xs i vs) i ≡ vs
words_back [] xs i room = refl
words_back (v ∷ vs) xs i room =
    let size = length-slice_set xs i v in
    ap₂ (λ w ws. w ∷ ws)
    (ap (slice_index (with_words xs i (v ∷ vs))) (omega arith) ∙ with_words_there (v ∷ vs) xs i 0 (omega arith) room)
    (words_back vs (slice_set xs i v) (i + 1) (omega (arith, size, room)))

-- two products by two factors are one by their product
product_twice : (m w a b c : ℕ) → product_mod m a b ≡ c → product_mod m (product_mod m w a) b ≡ product_mod m w c
product_twice m w a b c is =
    same-mul m ((w * a) % m) (w * a) b b (mod-mod (w * a) m) refl
    ∙ (ap (λ k. k % m) (mul_assoc w a b)
    ∙ (sym (same-mul m w w ((a * b) % m) (a * b) refl (mod-mod (a * b) m))
    ∙ ap (λ k. (w * k) % m) is))

pub lanes_twice : (m : ℕ) (ws fa fb ft : List ℕ) → length ws ≤ length fa → length ws ≤ length fb →
    length ws ≤ length ft →
    ((l : ℕ) → l < length ws → product_mod m (slice_index fa l) (slice_index fb l) ≡ slice_index ft l) →
    lane_by_lane (product_mod m) (lane_by_lane (product_mod m) ws fa) fb ≡ lane_by_lane (product_mod m) ws ft
lanes_twice m [] fa fb ft a b t each = refl
lanes_twice m (w ∷ ws) [] fb ft a b t each = absurd (omega arith)
lanes_twice m (w ∷ ws) (x ∷ fa) [] ft a b t each = absurd (omega arith)
lanes_twice m (w ∷ ws) (x ∷ fa) (y ∷ fb) [] a b t each = absurd (omega arith)
lanes_twice m (w ∷ ws) (x ∷ fa) (y ∷ fb) (z ∷ ft) a b t each =
    ap₂ (λ v vs. v ∷ vs) (product_twice m w x y z (each 0 (omega arith)))
    (lanes_twice m ws fa fb ft (omega arith) (omega arith) (omega arith) (λ l lt. each (suc l) (omega arith)))

-- the words of a number of registers, and room for one more after them
pub record HaveOneMore (lanes regs : ℕ) (more few : List ℕ) : Type 0 where
  pub below : (k : ℕ) → k < regs * lanes → slice_get more k ≡ slice_get few k
  pub room : regs * lanes + lanes ≤ length more

-- registers in which nothing has been put
pub one-more-first : (lanes regs : ℕ) → HaveOneMore lanes regs (replicate ((regs + 1) * lanes) 0)
    (replicate (regs * lanes) 0)
one-more-first lanes regs =
    let words : (regs + 1) * lanes ≡ regs * lanes + lanes = omega arith in
    record {
      below = λ k lt. zeros-agree ((regs + 1) * lanes) (regs * lanes) k (omega (arith, words, lt)) lt;
      room = let long = length-replicate {A = ℕ} ((regs + 1) * lanes) 0 in omega (arith, words, long);
    }
  where
    zeros-agree : (m n k : ℕ) → k < m → k < n → slice_get {X = ℕ} (replicate m 0) k ≡ slice_get {X = ℕ} (replicate n 0) k
    zeros-agree zero n k low high = absurd (omega arith)
    zeros-agree (suc m) zero k low high = absurd (omega arith)
    zeros-agree (suc m) (suc n) zero low high = refl
    zeros-agree (suc m) (suc n) (suc k) low high = zeros-agree m n k (omega arith) (omega arith)

module _ (m lanes regs : ℕ) where
  -- the same memory too
  pub record AreLike (s t : Local) : Type 0 where
    pub memory : t.memory ≡ s.memory
    pub registers : HaveOneMore lanes regs t.registers s.registers

  register_same : (s t : Local) (r : ℕ) → r < regs → AreLike s t →
      register_of lanes t.registers r ≡ register_of lanes s.registers r
  register_same s t r lt like = register_agrees lanes regs t.registers s.registers like.registers.below r lt

  value_same : (a : Action) (s t : Local) → RegistersFit regs lanes a → AreLike s t →
      value_put m lanes a t ≡ value_put m lanes a s
  value_same (Load r address) s t fit like = ap (λ memory. words_at lanes memory address) like.memory
  value_same (Store address r) s t fit like = refl
  value_same (Zero r) s t fit like = refl
  value_same (Add r x y) s t fit like =
      ap₂ (lane_by_lane (sum_mod m)) (register_same s t x fit.1 like) (register_same s t y fit.2 like)
  value_same (Sub r x y) s t fit like =
      ap₂ (lane_by_lane (difference_mod m)) (register_same s t x fit.1 like) (register_same s t y fit.2 like)
  value_same (Neg r x) s t fit like = ap (map (negation_mod m)) (register_same s t x fit.1 like)
  value_same (Mul r x factors) s t fit like =
      ap (λ ws. lane_by_lane (product_mod m) ws factors) (register_same s t x fit.1 like)
  value_same (Tile r x) s t fit like = tile_agrees lanes regs t.registers s.registers like.registers.below x fit.1

  memory_same : (a : Action) (s t : Local) → RegistersFit regs lanes a → AreLike s t →
      memory_after lanes a t ≡ memory_after lanes a s
  memory_same (Store address r) s t fit like = ap₂ (λ memory ws. with_words memory address ws) like.memory (register_same s t r fit like)
  memory_same _ s t fit like = like.memory

  -- an action that names none but the first registers
  pub like_after : (a : Action) (s t : Local) → RegistersFit regs lanes a → AreLike s t →
      AreLike (effect m lanes a s) (effect m lanes a t)
  like_after a s t fit like =
      let at : ℕ = register_put a * lanes in
      let size = length-registers_after m lanes a t in
      record {
        memory = memory_same a s t fit like;
        registers =
            record {
              below = λ k lt.
                  ap (λ vs. slice_get (with_words t.registers at vs) k) (value_same a s t fit like)
                  ∙ with_words-agree (value_put m lanes a s) t.registers s.registers at k (like.registers.below k lt);
              room = let r = like.registers.room in omega (arith, size, r);
            };
      }

  -- one product, and two by way of the register after them
  pub like_products : (r x : ℕ) (fa fb ft : List ℕ) (s t : Local) → x < regs → lanes ≤ length fa → lanes ≤ length fb →
      lanes ≤ length ft →
      ((l : ℕ) → l < lanes → product_mod m (slice_index fa l) (slice_index fb l) ≡ slice_index ft l) → AreLike s t →
      AreLike (effect m lanes (Mul r x ft) s) (effect m lanes (Mul r regs fb) (effect m lanes (Mul regs x fa) t))
  like_products r x fa fb ft s t low a b c each like =
      let ws = register_of lanes t.registers x in
      let wide : length ws ≡ lanes = length-words_at lanes t.registers (x * lanes) in
      let v = lane_by_lane (product_mod m) ws fa in
      let v_wide : length v ≡ lanes = length-lane_by_lane (product_mod m) ws fa (omega (arith, wide, a)) ∙ wide in
      let t1 = effect m lanes (Mul regs x fa) t in
      let size : length t1.registers ≡ length t.registers = length-registers_after m lanes (Mul regs x fa) t in
      let room = like.registers.room in
      let back : register_of lanes t1.registers regs ≡ v =
      ap (λ n. words_at n t1.registers (regs * lanes)) (sym v_wide) ∙ words_back v t.registers (regs * lanes) (omega (arith, v_wide, room)) in
      let value : lane_by_lane (product_mod m) (register_of lanes t1.registers regs) fb ≡ lane_by_lane (product_mod m) (register_of lanes s.registers x) ft =
      ap (λ us. lane_by_lane (product_mod m) us fb) back
      ∙ (lanes_twice m ws fa fb ft (omega (arith, wide, a)) (omega (arith, wide, b)) (omega (arith, wide, c)) (λ l lt. each l (omega (arith, wide, lt)))
      ∙ ap (λ us. lane_by_lane (product_mod m) us ft) (register_same s t x low like)) in
      let size_too = length-registers_after m lanes (Mul r regs fb) t1 in
      record {
        memory = like.memory;
        registers =
            record {
              below = λ k lt.
                  ap (λ vs. slice_get (with_words t1.registers (r * lanes) vs) k) value
                  ∙ with_words-agree (lane_by_lane (product_mod m) (register_of lanes s.registers x) ft) t1.registers
                  s.registers (r * lanes) k
                  (with_words-other v t.registers (regs * lanes) k (λ from to. omega (arith, from, lt))
                  ∙ like.registers.below k lt);
              room = omega (arith, size_too, size, room);
            };
      }
