-- Statements with their registers renumbered: they do what the statements do, on the words that these load and store.
use Rattle.std.proofs.Common.{◌≡◌, ℕ, zero, suc, ◌+◌, ◌*◌, ◌<◌, ◌≤◌, List, [], ◌∷◌, ◌++◌, true, All, Option, Some, None}
use Rattle.std.proofs.Common.{inr, length, map, flat_map, refl, sym, ap, ap₂, ◌∙◌, subst, arith, length-append}
use Rattle.std.specs.Prelude.{option_map, max, slice_index, slice_index_or}
use Rattle.std.specs.List.{range_with_len}
use Rattle.std.proofs.Math.Nat.{le-max_left, le-max_right}
use Rattle.std.proofs.lemmas.List.{length-replicate}
use Rattle.std.proofs.lemmas.List.Concat.{flat_map-append}
use Rattle.std.proofs.lemmas.List.Elements.{All-append, All-nil, All-cons, All-head}
use Rattle.ring_mod.specs.Residue.{sum_mod, difference_mod, negation_mod, product_mod}
use Rattle.icode.specs.declared.action.Action.{Action}
use Rattle.icode.specs.declared.program.Array.{Array}
use Rattle.icode.specs.Actions.{Step, StepFits, array_start, actions_of, step_of, steps_of_body, lane_factors}
use Rattle.icode.specs.Machine.{Local, effect, effects, register_of, words_at}
use Rattle.icode.specs.Machine.{with_words, lane_by_lane, stored_words, touched_words, whole_lines}
use Rattle.icode.specs.Expression.{sum_numbers}
use Rattle.icode.specs.Plain.{PlainExpr, PlainOp, PlainBody, PlainProgram, Load, Store, Zero, Add, Sub, Neg}
use Rattle.icode.specs.Plain.{MulConst, MulTable, Tile, Loop, Do, NoStmts, AndStmts}
use Rattle.icode.proofs.Phase.{effects-append}
use Rattle.icode.proofs.Words.{length-words_at}
use Rattle.icode.proofs.Transposes.{length-transposed}
use Rattle.icode.proofs.SequenceLemmas.Placing.{length-lane_by_lane, length-mapped}
use Rattle.nests.specs.Rounds.{put_after}
use Rattle.nests.proofs.Listed.{all-left, all-right, all-in-loop}
use Rattle.nests.proofs.Rows.{actions_of-append, factors_each}
use Rattle.nests.proofs.Swaps.{in-loops}
use Rattle.renumbered_registers.specs.Renumbered.{Numbering, no_numbers, put_all, are_consecutive}
use Rattle.renumbered_registers.specs.Renumbered.{numbered_op, after_op, and_stmts}
use Rattle.renumbered_registers.specs.Renumbered.{numbered_body, most_put}
use Rattle.renumbered_registers.proofs.Given.{AreGiven, given-none, given-after, next-after, none-is, some-is}
use Rattle.renumbered_registers.proofs.Given.{consecutive-at}
use Rattle.renumbered_registers.proofs.Sources.{one-source, two-sources, tile-source}
use Rattle.renumbered_registers.proofs.Alike.{AreAlike, register-alike, tile-alike, put-alike}

-- ---- how many registers are put

less-one : (n many : ℕ) → n + 1 ≤ many → n < many
less-one n many le = omega (arith, le)

put-more : (lanes next : ℕ) (op : PlainOp) → next ≤ put_after lanes next op
put-more lanes next (Load r array place) = omega arith
put-more lanes next (Store array place r) = omega arith
put-more lanes next (Zero r) = omega arith
put-more lanes next (Add r x y) = omega arith
put-more lanes next (Sub r x y) = omega arith
put-more lanes next (Neg r x) = omega arith
put-more lanes next (MulConst r x factor) = omega arith
put-more lanes next (MulTable r x table place step) = omega arith
put-more lanes next (Tile r x) = omega arith

-- no run puts fewer than it has put
pub most-more : (lanes next : ℕ) (body : PlainBody) → next ≤ most_put lanes next body
most-more lanes next NoStmts = omega arith
most-more lanes next (AndStmts (Do op) rest) =
    let one = put-more lanes next op in
    let more = most-more lanes (put_after lanes next op) rest in
    omega (arith, one, more)
most-more lanes next (AndStmts (Loop count body) rest) =
    le-max_left next (max (most_put lanes 0 body) (most_put lanes 0 rest))

pub inside-loop : (lanes next many count : ℕ) (body rest : PlainBody) →
    most_put lanes next (AndStmts (Loop count body) rest) ≤ many → most_put lanes 0 body ≤ many
inside-loop lanes next many count body rest h =
    let a = le-max_left (most_put lanes 0 body) (most_put lanes 0 rest) in
    let b = le-max_right next (max (most_put lanes 0 body) (most_put lanes 0 rest)) in
    omega (arith, a, b, h)

pub behind-loop : (lanes next many count : ℕ) (body rest : PlainBody) →
    most_put lanes next (AndStmts (Loop count body) rest) ≤ many → most_put lanes 0 rest ≤ many
behind-loop lanes next many count body rest h =
    let a = le-max_right (most_put lanes 0 body) (most_put lanes 0 rest) in
    let b = le-max_right next (max (most_put lanes 0 body) (most_put lanes 0 rest)) in
    omega (arith, a, b, h)

module _ (p : PlainProgram) (many : ℕ) (phases : List PlainBody) where
  abbrev q : PlainProgram
  q = record p { regs = many; phases = phases }

  -- the memory is the same, and the registers are alike
  pub record AreLike (z : Numbering) (s t : Local) : Type 0 where
    pub memory : t.memory ≡ s.memory
    pub registers : AreAlike p.lanes p.regs many z s.registers t.registers

  -- whatever the numbers were
  forgotten : (z : Numbering) (s t : Local) → AreLike z s t → AreLike no_numbers s t
  forgotten z s t like =
      let old = like.registers.old in
      let new = like.registers.new in
      record {
        memory = like.memory;
        registers = record { held = λ r n l is lane. none-is n is; old = old; new = new };
      }

  -- steps of q do what steps of p do, from these numbers to those
  pub record AreFor (z after : Numbering) (new old : List Step) : Type 0 where
    pub fits : All (StepFits q) new
    pub many_too : length new ≡ length old
    pub like : (s t : Local) → AreLike z s t →
        AreLike after (effects p.modulus p.lanes (actions_of old) s) (effects p.modulus p.lanes (actions_of new) t)
    pub stored : flat_map (stored_words p.lanes) (actions_of new) ≡ flat_map (stored_words p.lanes) (actions_of old)
    pub touched : flat_map (touched_words p.lanes) (actions_of new) ≡ flat_map (touched_words p.lanes) (actions_of old)

  for-none : (z : Numbering) → AreFor z no_numbers [] []
  for-none z =
      record { fits = All-nil (StepFits q); many_too = refl; like = forgotten z; stored = refl; touched = refl }

  words-append : (f : Action → List ℕ) (a b c d : List Step) →
      flat_map f (actions_of a) ≡ flat_map f (actions_of b) → flat_map f (actions_of c) ≡ flat_map f (actions_of d) →
      flat_map f (actions_of (a ++ c)) ≡ flat_map f (actions_of (b ++ d))
  words-append f a b c d one two =
      ap (flat_map f) (actions_of-append a c)
      ∙ flat_map-append f (actions_of a) (actions_of c)
      ∙ ap₂ (λ xs ys. xs ++ ys) one two
      ∙ sym (flat_map-append f (actions_of b) (actions_of d))
      ∙ ap (flat_map f) (sym (actions_of-append b d))

  effects-of : (a b : List Step) (s : Local) → effects p.modulus p.lanes (actions_of (a ++ b)) s
      ≡ effects p.modulus p.lanes (actions_of b) (effects p.modulus p.lanes (actions_of a) s)
  effects-of a b s =
      ap (λ xs. effects p.modulus p.lanes xs s) (actions_of-append a b)
      ∙ effects-append p.modulus p.lanes (actions_of a) (actions_of b) s

  for-append : (x y w : Numbering) (a b c d : List Step) → AreFor x y a b → AreFor y w c d →
      AreFor x w (a ++ c) (b ++ d)
  for-append x y w a b c d h k =
      record {
        fits = All-append (StepFits q) a c h.fits k.fits;
        many_too =
            let i = h.many_too in
            let j = k.many_too in
            omega (arith, i, j, length-append a c, length-append b d);
        like = λ s t like.
            subst (AreLike w (effects p.modulus p.lanes (actions_of (b ++ d)) s)) (sym (effects-of a c t))
            (subst
            (λ u. AreLike w u (effects p.modulus p.lanes (actions_of c) (effects p.modulus p.lanes (actions_of a) t)))
            (sym (effects-of b d s))
            (k.like (effects p.modulus p.lanes (actions_of b) s) (effects p.modulus p.lanes (actions_of a) t)
            (h.like s t like)));
        stored = words-append (stored_words p.lanes) a b c d h.stored k.stored;
        touched = words-append (touched_words p.lanes) a b c d h.touched k.touched;
      }

  for-loop : (f g : ℕ → List Step) (a n : ℕ) →
      ((i : ℕ) → a ≤ i → i < a + n → AreFor no_numbers no_numbers (f i) (g i)) →
      AreFor no_numbers no_numbers (flat_map f (range_with_len a n)) (flat_map g (range_with_len a n))
  for-loop = in-loops (AreFor no_numbers no_numbers) (for-none no_numbers) (for-append no_numbers no_numbers no_numbers)

  -- steps that ask for no numbers
  from-any : (z after : Numbering) (new old : List Step) → AreFor no_numbers after new old → AreFor z after new old
  from-any z after new old h =
      record {
        fits = h.fits;
        many_too = h.many_too;
        like = λ s t like. h.like s t (forgotten z s t like);
        stored = h.stored;
        touched = h.touched;
      }

  -- ---- an operation

  one-step : (z after : Numbering) (new old : Step) → StepFits q new → ((s t : Local) → AreLike z s t →
      AreLike after (effect p.modulus p.lanes old.action s) (effect p.modulus p.lanes new.action t)) →
      stored_words p.lanes new.action ≡ stored_words p.lanes old.action →
      touched_words p.lanes new.action ≡ touched_words p.lanes old.action → AreFor z after (new ∷ []) (old ∷ [])
  one-step z after new old fits like stored touched =
      record {
        fits = All-cons (StepFits q) new [] fits (All-nil (StepFits q));
        many_too = refl;
        like = like;
        stored = ap (λ ws. ws ++ []) stored;
        touched = ap (λ ws. ws ++ []) touched;
      }

  module _ (z : Numbering) (given : AreGiven z) where
    -- the same words are put
    both-put : (count r : ℕ) (vs ws memory there : List ℕ) (s t : Local) → AreLike z s t →
        length vs ≡ count * p.lanes → ws ≡ vs → r + count ≤ p.regs → z.next + count ≤ many → there ≡ memory →
        AreLike (put_all count r z)
        (record { memory = memory; registers = with_words s.registers (r * p.lanes) vs })
        (record { memory = there; registers = with_words t.registers (z.next * p.lanes) ws })
    both-put count r vs ws memory there s t like wide same low room is =
        record {
          memory = is;
          registers =
              subst (λ us. AreAlike p.lanes p.regs many (put_all count r z) (with_words s.registers (r * p.lanes) vs)
              (with_words t.registers (z.next * p.lanes) us)) (sym same)
              (put-alike p.lanes p.regs many z s.registers t.registers like.registers given count r vs wide low room);
        }

    source : (s t : Local) → AreLike z s t → (x n : ℕ) → z.numbers x ≡ Some n →
        register_of p.lanes t.registers n ≡ register_of p.lanes s.registers x
    source s t like = register-alike p.lanes p.regs many z s.registers t.registers like.registers

    wide-two : (f : ℕ → ℕ → ℕ) (registers : List ℕ) (x y : ℕ) →
        length (lane_by_lane f (register_of p.lanes registers x) (register_of p.lanes registers y)) ≡ 1 * p.lanes
    wide-two f registers x y =
        let xs = register_of p.lanes registers x in
        let ys = register_of p.lanes registers y in
        let wide : length xs ≡ p.lanes = length-words_at p.lanes registers (x * p.lanes) in
        let wide_too : length ys ≡ p.lanes = length-words_at p.lanes registers (y * p.lanes) in
        length-lane_by_lane f xs ys (omega (arith, wide, wide_too)) ∙ omega (arith, wide)

    wide-product : (factor : ℕ → ℕ) (registers : List ℕ) (x : ℕ) →
        length (lane_by_lane (product_mod p.modulus) (register_of p.lanes registers x) (lane_factors p.lanes factor))
        ≡ 1 * p.lanes
    wide-product factor registers x =
        let xs = register_of p.lanes registers x in
        let wide : length xs ≡ p.lanes = length-words_at p.lanes registers (x * p.lanes) in
        let each = factors_each p.lanes factor in
        length-lane_by_lane (product_mod p.modulus) xs (lane_factors p.lanes factor) (omega (arith, wide, each))
        ∙ omega (arith, wide)

    once : (n : ℕ) → n ≡ p.lanes → n ≡ 1 * p.lanes
    once n is = omega (arith, is)

    module _ (vs : List ℕ) (i : ℕ) where
      abbrev address : Array → PlainExpr → ℕ
      address array place = array_start (whole_lines p.size p.line) array + (sum_numbers place vs i).value

      abbrev entry : ℕ → PlainExpr → ℕ → ℕ → ℕ
      entry table place step lane =
          slice_index (slice_index_or p.tables table []) ((sum_numbers place vs i).value + step * lane)

      -- the operation, and what is to be shown of the numbered one
      abbrev Goal : PlainOp → PlainOp → Type 0
      Goal old new =
          AreFor z (after_op p.lanes z old) (step_of q new vs i ∷ []) (step_of p old vs i ∷ [])

      load-for : (r : ℕ) (array : Array) (place : PlainExpr) → StepFits p (step_of p (Load r array place) vs i) →
          z.next + 1 ≤ many → Goal (Load r array place) (Load z.next array place)
      load-for r array place fit room =
          one-step z (after_op p.lanes z (Load r array place)) (step_of q (Load z.next array place) vs i)
          (step_of p (Load r array place) vs i)
          (record {
            numbers = fit.numbers;
            place = fit.place;
            registers = less-one z.next many room;
            factors = fit.factors;
          })
          (λ s t like.
          let low : r < p.regs = fit.registers in
          both-put 1 r _ _ s.memory t.memory s t like (once _ (length-words_at p.lanes s.memory (address array place)))
          (ap (λ memory. words_at p.lanes memory (address array place)) like.memory)
          (omega (arith, low)) room like.memory) refl refl

      store-for : (r n : ℕ) (array : Array) (place : PlainExpr) → StepFits p (step_of p (Store array place r) vs i) →
          z.next ≤ many → z.numbers r ≡ Some n → Goal (Store array place r) (Store array place n)
      store-for r n array place fit room is =
          let lt = given r n is in
          one-step z z (step_of q (Store array place n) vs i) (step_of p (Store array place r) vs i)
          (record {
            numbers = fit.numbers;
            place = fit.place;
            registers = omega (arith, lt, room);
            factors = fit.factors;
          })
          (λ s t like.
          record {
            memory = ap₂ (λ memory ws. with_words memory (address array place) ws) like.memory (source s t like r n is);
            registers = like.registers;
          }) refl refl

      zero-for : (r : ℕ) → StepFits p (step_of p (Zero r) vs i) → z.next + 1 ≤ many → Goal (Zero r) (Zero z.next)
      zero-for r fit room =
          one-step z (after_op p.lanes z (Zero r)) (step_of q (Zero z.next) vs i) (step_of p (Zero r) vs i)
          (record {
            numbers = fit.numbers;
            place = fit.place;
            registers = less-one z.next many room;
            factors = fit.factors;
          })
          (λ s t like.
          let low : r < p.regs = fit.registers in
          both-put 1 r _ _ s.memory t.memory s t like (once _ (length-replicate {A = ℕ} p.lanes 0)) refl
          (omega (arith, low)) room like.memory) refl refl

      add-for : (r x y n k : ℕ) → StepFits p (step_of p (Add r x y) vs i) → z.next + 1 ≤ many → z.numbers x ≡ Some n →
          z.numbers y ≡ Some k → Goal (Add r x y) (Add z.next n k)
      add-for r x y n k fit room is too =
          let a = given x n is in
          let b = given y k too in
          one-step z (after_op p.lanes z (Add r x y)) (step_of q (Add z.next n k) vs i) (step_of p (Add r x y) vs i)
          (record {
            numbers = fit.numbers;
            place = fit.place;
            registers = (less-one z.next many room, omega (arith, a, room), omega (arith, b, room));
            factors = fit.factors;
          })
          (λ s t like.
          let low = fit.registers in
          both-put 1 r _ _ s.memory t.memory s t like (wide-two (sum_mod p.modulus) s.registers x y)
          (ap₂ (lane_by_lane (sum_mod p.modulus)) (source s t like x n is) (source s t like y k too))
          (omega (arith, low.0)) room like.memory) refl refl

      sub-for : (r x y n k : ℕ) → StepFits p (step_of p (Sub r x y) vs i) → z.next + 1 ≤ many → z.numbers x ≡ Some n →
          z.numbers y ≡ Some k → Goal (Sub r x y) (Sub z.next n k)
      sub-for r x y n k fit room is too =
          let a = given x n is in
          let b = given y k too in
          one-step z (after_op p.lanes z (Sub r x y)) (step_of q (Sub z.next n k) vs i) (step_of p (Sub r x y) vs i)
          (record {
            numbers = fit.numbers;
            place = fit.place;
            registers = (less-one z.next many room, omega (arith, a, room), omega (arith, b, room));
            factors = fit.factors;
          })
          (λ s t like.
          let low = fit.registers in
          both-put 1 r _ _ s.memory t.memory s t like (wide-two (difference_mod p.modulus) s.registers x y)
          (ap₂ (lane_by_lane (difference_mod p.modulus)) (source s t like x n is) (source s t like y k too))
          (omega (arith, low.0)) room like.memory) refl refl

      neg-for : (r x n : ℕ) → StepFits p (step_of p (Neg r x) vs i) → z.next + 1 ≤ many → z.numbers x ≡ Some n →
          Goal (Neg r x) (Neg z.next n)
      neg-for r x n fit room is =
          let a = given x n is in
          one-step z (after_op p.lanes z (Neg r x)) (step_of q (Neg z.next n) vs i) (step_of p (Neg r x) vs i)
          (record {
            numbers = fit.numbers;
            place = fit.place;
            registers = (less-one z.next many room, omega (arith, a, room));
            factors = fit.factors;
          })
          (λ s t like.
          let low = fit.registers in
          both-put 1 r _ _ s.memory t.memory s t like
          (once _ (length-mapped (negation_mod p.modulus) (register_of p.lanes s.registers x)
          ∙ length-words_at p.lanes s.registers (x * p.lanes)))
          (ap (map (negation_mod p.modulus)) (source s t like x n is)) (omega (arith, low.0)) room like.memory)
          refl refl

      const-for : (r x n factor : ℕ) → StepFits p (step_of p (MulConst r x factor) vs i) → z.next + 1 ≤ many →
          z.numbers x ≡ Some n → Goal (MulConst r x factor) (MulConst z.next n factor)
      const-for r x n factor fit room is =
          let a = given x n is in
          one-step z (after_op p.lanes z (MulConst r x factor)) (step_of q (MulConst z.next n factor) vs i)
          (step_of p (MulConst r x factor) vs i)
          (record {
            numbers = fit.numbers;
            place = fit.place;
            registers = (less-one z.next many room, omega (arith, a, room));
            factors = fit.factors;
          })
          (λ s t like.
          let low = fit.registers in
          both-put 1 r _ _ s.memory t.memory s t like (wide-product (λ lane. factor) s.registers x)
          (ap (λ ws. lane_by_lane (product_mod p.modulus) ws (lane_factors p.lanes (λ lane. factor)))
          (source s t like x n is)) (omega (arith, low.0)) room like.memory) refl refl

      table-for : (r x n table step : ℕ) (place : PlainExpr) →
          StepFits p (step_of p (MulTable r x table place step) vs i) → z.next + 1 ≤ many → z.numbers x ≡ Some n →
          Goal (MulTable r x table place step) (MulTable z.next n table place step)
      table-for r x n table step place fit room is =
          let a = given x n is in
          one-step z (after_op p.lanes z (MulTable r x table place step))
          (step_of q (MulTable z.next n table place step) vs i) (step_of p (MulTable r x table place step) vs i)
          (record {
            numbers = fit.numbers;
            place = fit.place;
            registers = (less-one z.next many room, omega (arith, a, room));
            factors = fit.factors;
          })
          (λ s t like.
          let low = fit.registers in
          both-put 1 r _ _ s.memory t.memory s t like (wide-product (entry table place step) s.registers x)
          (ap (λ ws. lane_by_lane (product_mod p.modulus) ws (lane_factors p.lanes (entry table place step)))
          (source s t like x n is)) (omega (arith, low.0)) room like.memory) refl refl

      -- the last of a tile's sources has been put
      tile-low : (x n lanes : ℕ) → ((l : ℕ) → l < lanes → z.numbers (x + l) ≡ Some (n + l)) → z.numbers x ≡ Some n →
          n + lanes ≤ z.next
      tile-low x n zero numbers is = let lt = given x n is in omega (arith, lt)
      tile-low x n (suc lanes) numbers is =
          let lt = given (x + lanes) (n + lanes) (numbers lanes (omega arith)) in omega (arith, lt)

      tile-for : (r x n : ℕ) → StepFits p (step_of p (Tile r x) vs i) → z.next + p.lanes ≤ many →
          z.numbers x ≡ Some n → are_consecutive p.lanes x n z ≡ true → Goal (Tile r x) (Tile z.next n)
      tile-for r x n fit room is follow =
          let numbers : (l : ℕ) → l < p.lanes → z.numbers (x + l) ≡ Some (n + l) =
          λ l lt. consecutive-at p.lanes x n l z follow lt in
          let low = tile-low x n p.lanes numbers is in
          one-step z (after_op p.lanes z (Tile r x)) (step_of q (Tile z.next n) vs i) (step_of p (Tile r x) vs i)
          (record {
            numbers = fit.numbers;
            place = fit.place;
            registers = (room, omega (arith, low, room), inr low);
            factors = fit.factors;
          })
          (λ s t like.
          let fits = fit.registers in
          both-put p.lanes r _ _ s.memory t.memory s t like (length-transposed p.lanes s.registers x)
          (tile-alike p.lanes p.regs many z s.registers t.registers like.registers x n numbers) fits.0 room like.memory)
          refl refl

      pub op-for : (old new : PlainOp) → numbered_op p.lanes z old ≡ Some new → StepFits p (step_of p old vs i) →
          put_after p.lanes z.next old ≤ many → Goal old new
      op-for (Load r array place) new e fit room =
          subst (Goal (Load r array place)) (some-is (Load z.next array place) new e) (load-for r array place fit room)
      op-for (Store array place r) new e fit room =
          one-source z (Goal (Store array place r)) new (Store array place) (z.numbers r)
          (λ n is. store-for r n array place fit room is) e
      op-for (Zero r) new e fit room = subst (Goal (Zero r)) (some-is (Zero z.next) new e) (zero-for r fit room)
      op-for (Add r x y) new e fit room =
          two-sources z (Goal (Add r x y)) new (Add r) (z.numbers x) (z.numbers y)
          (λ a b is too. add-for r x y a b fit room is too) e
      op-for (Sub r x y) new e fit room =
          two-sources z (Goal (Sub r x y)) new (Sub r) (z.numbers x) (z.numbers y)
          (λ a b is too. sub-for r x y a b fit room is too) e
      op-for (Neg r x) new e fit room =
          one-source z (Goal (Neg r x)) new (Neg r) (z.numbers x) (λ n is. neg-for r x n fit room is) e
      op-for (MulConst r x factor) new e fit room =
          one-source z (Goal (MulConst r x factor)) new (λ n. MulConst r n factor) (z.numbers x)
          (λ n is. const-for r x n factor fit room is) e
      op-for (MulTable r x table place step) new e fit room =
          one-source z (Goal (MulTable r x table place step)) new (λ n. MulTable r n table place step) (z.numbers x)
          (λ n is. table-for r x n table step place fit room is) e
      op-for (Tile r x) new e fit room =
          tile-source z (Goal (Tile r x)) new p.lanes r x (z.numbers x)
          (λ n is follow. tile-for r x n fit room is follow) e

  -- ---- statements

  pub body-for : (body new : PlainBody) (z : Numbering) (vs : List ℕ) (i : ℕ) →
      numbered_body p.lanes z body ≡ Some new → AreGiven z → All (StepFits p) (steps_of_body p body vs i) →
      most_put p.lanes z.next body ≤ many →
      AreFor z no_numbers (steps_of_body q new vs i) (steps_of_body p body vs i)
  body-for NoStmts new z vs i e given fit room =
      subst (λ b. AreFor z no_numbers (steps_of_body q b vs i) []) (some-is NoStmts new e) (for-none z)
  body-for (AndStmts (Do op) rest) new z vs i e given fit room =
      of_both (numbered_op p.lanes z op) (numbered_body p.lanes (after_op p.lanes z op) rest) refl refl e (λ b is.
      body-for rest b after vs i is (given-after p.lanes z op given)
      (all-right (StepFits p) (step_of p op vs i ∷ []) (steps_of_body p rest vs i) fit) more)
    where
      after : Numbering
      after = after_op p.lanes z op

      more : most_put p.lanes after.next rest ≤ many
      more = subst (λ n. most_put p.lanes n rest ≤ many) (sym (next-after p.lanes z op)) room

      here : put_after p.lanes z.next op ≤ many
      here = let le = most-more p.lanes (put_after p.lanes z.next op) rest in omega (arith, le, room)

      of_both : (o : Option PlainOp) (b : Option PlainBody) → numbered_op p.lanes z op ≡ o →
          numbered_body p.lanes after rest ≡ b → and_stmts (option_map Do o) b ≡ Some new →
          ((b : PlainBody) → numbered_body p.lanes after rest ≡ Some b →
          AreFor after no_numbers (steps_of_body q b vs i) (steps_of_body p rest vs i)) →
          AreFor z no_numbers (steps_of_body q new vs i) (step_of p op vs i ∷ steps_of_body p rest vs i)
      of_both None b is too e further = none-is new e
      of_both (Some o) None is too e further = none-is new e
      of_both (Some o) (Some b) is too e further =
          subst (λ c. AreFor z no_numbers (steps_of_body q c vs i) (step_of p op vs i ∷ steps_of_body p rest vs i))
          (some-is (AndStmts (Do o) b) new e)
          (for-append z after no_numbers (step_of q o vs i ∷ []) (step_of p op vs i ∷ []) (steps_of_body q b vs i)
          (steps_of_body p rest vs i)
          (op-for z given vs i op o is (All-head (StepFits p) (step_of p op vs i) (steps_of_body p rest vs i) fit) here)
          (further b too))
  body-for (AndStmts (Loop count body) rest) new z vs i e given fit room =
      of_both (numbered_body p.lanes no_numbers body) (numbered_body p.lanes no_numbers rest) refl refl e
      (λ o is k low high.
      body-for body o no_numbers (vs ++ k ∷ []) i is given-none
      (all-in-loop (StepFits p) rounds 0 count k
      (all-left (StepFits p) loop (steps_of_body p rest vs i) fit) low high)
      (inside-loop p.lanes z.next many count body rest room))
      (λ b is.
      body-for rest b no_numbers vs i is given-none
      (all-right (StepFits p) loop (steps_of_body p rest vs i) fit)
      (behind-loop p.lanes z.next many count body rest room))
    where
      rounds : ℕ → List Step
      rounds k = steps_of_body p body (vs ++ k ∷ []) i

      loop : List Step
      loop = flat_map rounds (range_with_len 0 count)

      of_both : (o b : Option PlainBody) → numbered_body p.lanes no_numbers body ≡ o →
          numbered_body p.lanes no_numbers rest ≡ b → and_stmts (option_map (Loop count) o) b ≡ Some new →
          ((o : PlainBody) → numbered_body p.lanes no_numbers body ≡ Some o → (k : ℕ) → 0 ≤ k → k < 0 + count →
          AreFor no_numbers no_numbers (steps_of_body q o (vs ++ k ∷ []) i) (rounds k)) →
          ((b : PlainBody) → numbered_body p.lanes no_numbers rest ≡ Some b →
          AreFor no_numbers no_numbers (steps_of_body q b vs i) (steps_of_body p rest vs i)) →
          AreFor z no_numbers (steps_of_body q new vs i) (loop ++ steps_of_body p rest vs i)
      of_both None b is too e each further = none-is new e
      of_both (Some o) None is too e each further = none-is new e
      of_both (Some o) (Some b) is too e each further =
          subst (λ c. AreFor z no_numbers (steps_of_body q c vs i) (loop ++ steps_of_body p rest vs i))
          (some-is (AndStmts (Loop count o) b) new e)
          (for-append z no_numbers no_numbers
          (flat_map (λ k. steps_of_body q o (vs ++ k ∷ []) i) (range_with_len 0 count)) loop (steps_of_body q b vs i)
          (steps_of_body p rest vs i)
          (from-any z no_numbers (flat_map (λ k. steps_of_body q o (vs ++ k ∷ []) i) (range_with_len 0 count)) loop
          (for-loop (λ k. steps_of_body q o (vs ++ k ∷ []) i) rounds 0 count (each o is)))
          (further b too))
