-- Rounds of one lane that load from no word where any of them stores: each writes what it would write alone.
use Rattle.std.proofs.Common.{◌≡◌, ℕ, zero, suc, ◌+◌, ◌*◌, ◌<◌, ◌≤◌, List, [], ◌∷◌, ◌++◌, length, map, flat_map, refl}
use Rattle.std.proofs.Common.{sym, ap, ap₂, ◌∙◌, subst, arith, inl, inr, append-nil, length-append}
use Rattle.std.specs.Prelude.{slice_index, slice_set}
use Rattle.std.specs.List.{range_with_len}
use Rattle.std.proofs.lemmas.Bool.{cases_eq}
use Rattle.std.proofs.lemmas.List.{get_or_append_left}
use Rattle.ring_mod.specs.Residue.{sum_mod, difference_mod, negation_mod, product_mod}
use Rattle.icode.specs.declared.action.Action.{Action}
use Rattle.icode.specs.declared.action.Action.TheVariants.{Load, Store, Zero, Add, Sub, Neg, Mul, Tile}
use Rattle.icode.specs.Machine.{Local, effect, effects, value_put, register_put, register_of, with_words, lane_by_lane}
use Rattle.icode.specs.Machine.{stored_words}
use Rattle.icode.proofs.SequenceLemmas.ByLane.{lists_follow, length-registers_after}
use Rattle.icode.proofs.SequenceLemmas.Placing.{slice_index-slice_set}
use Rattle.icode.proofs.SequenceLemmas.Stores.{length-registers}
use Rattle.nests.proofs.Acts.{IsFresh, AreFresh, IsWide, AreWide, IsRound, next_after}
use Rattle.loop_lanes.specs.Layers.{memory_by, Write, written, values_put, writes_of}
use Rattle.loop_lanes.proofs.Orders.{values_stay}
use Rattle.loop_lanes.proofs.Wide.{here}
use Rattle.loop_lanes.proofs.Writes.{other_word, written-append}

-- the action loads from no word where rounds store, and puts a register below this one, or it stores into such a word
abbrev pub IsPlaced : (ℕ → Type 0) → ℕ → Action → Type 0
IsPlaced Into regs (Load r address) = (r < regs) × (Into address → ⊥)
IsPlaced Into regs (Store address r) = Into address
IsPlaced Into regs (Tile r x) = ⊥
IsPlaced Into regs act = register_put act < regs

abbrev pub ArePlaced : (ℕ → Type 0) → ℕ → List Action → Type 0
ArePlaced Into regs [] = Unit {0}
ArePlaced Into regs (act ∷ acts) = IsPlaced Into regs act × ArePlaced Into regs acts

-- a round of one lane
pub record IsLaneRound (Into : ℕ → Type 0) (regs : ℕ) (acts : List Action) : Type 0 where
  pub round : IsRound 1 acts
  pub placed : ArePlaced Into regs acts

is-one : (ys : List ℕ) → length ys ≡ 1 → ys ≡ slice_index ys 0 ∷ []
is-one [] e = absurd (omega (arith, e))
is-one (y ∷ []) e = refl
is-one (y ∷ z ∷ ys) e = absurd (omega (arith, e))

-- registers hold values, from the first on
abbrev HoldValues : List ℕ → List ℕ → Type 0
HoldValues xs registers = (k : ℕ) → k < length xs → slice_index registers k ≡ slice_index xs k

-- one more is put
put-behind : (xs registers : List ℕ) (r y k : ℕ) → HoldValues xs registers →
    r ≡ length xs → r < length registers → k < length xs + 1 →
    slice_index (slice_set registers (r * 1) y) k ≡ slice_index (xs ++ y ∷ []) k
put-behind xs registers r y k held is low below =
    let one : r * 1 ≡ r = omega arith in
    ap (λ i. slice_index (slice_set registers i y) k) one
    ∙ elim (cases_eq k r) [
      | inl same ↦
          ap (slice_index (slice_set registers r y)) same
          ∙ slice_index-slice_set registers r y low
          ∙ sym (ap (slice_index (xs ++ y ∷ [])) (same ∙ is) ∙ here xs y)
      | inr other ↦
          let before : k < length xs = omega (arith, below, other, is) in
          other_word registers r y k (λ e. other (sym e)) ∙ held k before
          ∙ sym (get_or_append_left xs (y ∷ []) 0 k before)
    ]

read : (xs registers : List ℕ) (x : ℕ) → HoldValues xs registers → x < length xs →
    register_of 1 registers x ≡ register_of 1 xs x
read xs registers x held below =
    let one : x * 1 ≡ x = omega arith in
    ap (λ k. slice_index registers k ∷ []) one
    ∙ ap (λ w. w ∷ []) (held x below)
    ∙ sym (ap (λ k. slice_index xs k ∷ []) one)

module _ (m : ℕ) (Into : ℕ → Type 0) (regs : ℕ) (first : List ℕ) where
  -- what the action puts, where registers are these values and loads are from the memory before all rounds
  abbrev put : Action → List ℕ → List ℕ
  put act xs = value_put m 1 act (record { memory = first; registers = xs })

  abbrev after : Action → List ℕ → List ℕ → Local
  after act registers memory = effect m 1 act (record { memory = memory; registers = registers })

  -- the memory is that one but for the words where rounds store
  abbrev pub IsKept : List ℕ → Type 0
  IsKept memory = (k : ℕ) → (Into k → ⊥) → slice_index memory k ≡ slice_index first k

  puts-same : (act : Action) (xs registers memory : List ℕ) → IsFresh 1 (length xs) act → IsPlaced Into regs act →
      HoldValues xs registers → IsKept memory →
      value_put m 1 act (record { memory = memory; registers = registers }) ≡ put act xs
  puts-same (Load r address) xs registers memory fresh placed held kept = ap (λ w. w ∷ []) (kept address placed.1)
  puts-same (Add r x y) xs registers memory fresh placed held kept =
      ap₂ (lane_by_lane (sum_mod m)) (read xs registers x held fresh.1) (read xs registers y held fresh.2)
  puts-same (Sub r x y) xs registers memory fresh placed held kept =
      ap₂ (lane_by_lane (difference_mod m)) (read xs registers x held fresh.1) (read xs registers y held fresh.2)
  puts-same (Neg r x) xs registers memory fresh placed held kept =
      ap (map (negation_mod m)) (read xs registers x held fresh.1)
  puts-same (Mul r x factors) xs registers memory fresh placed held kept =
      ap (λ ws. lane_by_lane (product_mod m) ws factors) (read xs registers x held fresh.1)
  puts-same (Tile r x) xs registers memory fresh placed held kept = absurd placed
  puts-same act xs registers memory fresh placed held kept = refl

  -- an action that puts one value, into the next register
  record PutsNext (act : Action) (xs : List ℕ) : Type 0 where
    is : register_put act ≡ length xs
    low : register_put act < regs
    next : next_after 1 (length xs) act ≡ length xs + 1
    one : length (put act xs) ≡ 1

  -- so does each that stores nothing
  puts-next : (act : Action) (xs : List ℕ) → stored_words 1 act ≡ [] → IsFresh 1 (length xs) act → IsWide 1 act →
      IsPlaced Into regs act → PutsNext act xs
  puts-next (Load r address) xs s fresh wide placed =
      record { is = fresh; low = placed.0; next = refl; one = refl }
  puts-next (Zero r) xs s fresh wide placed = record { is = fresh; low = placed; next = refl; one = refl }
  puts-next (Mul r x factors) xs s fresh wide placed =
      record { is = fresh.0; low = placed; next = refl; one = one-product factors wide }
    where
      one-product : (cs : List ℕ) → 1 ≤ length cs →
          length (lane_by_lane (product_mod m) (slice_index xs (x * 1) ∷ []) cs) ≡ 1
      one-product [] le = absurd (omega (arith, le))
      one-product (c ∷ cs) le = refl
  puts-next (Store address r) xs s fresh wide placed = absurd (cc)
  puts-next (Tile r x) xs s fresh wide placed = absurd placed
  puts-next act xs s fresh wide placed = record { is = fresh.0; low = placed; next = refl; one = refl }

  -- what is known after it
  record Goes (act : Action) (acts : List Action) (xs registers memory : List ℕ) : Type 0 where
    fresh : AreFresh 1 (length (xs ++ put act xs)) acts
    room : regs ≤ length (after act registers memory).registers
    held : HoldValues (xs ++ put act xs) (after act registers memory).registers

  goes : (act : Action) (acts : List Action) (xs registers memory : List ℕ) → stored_words 1 act ≡ [] →
      AreFresh 1 (length xs) (act ∷ acts) → IsWide 1 act → IsPlaced Into regs act →
      regs ≤ length registers → HoldValues xs registers → IsKept memory → Goes act acts xs registers memory
  goes act acts xs registers memory s fresh wide placed room held kept =
      let puts = puts-next act xs s fresh.0 wide placed in
      let is = puts.is in
      let low = puts.low in
      let next = puts.next in
      let one = puts.one in
      let long = length-append xs (put act xs) in
      let y : ℕ = slice_index (put act xs) 0 in
      record {
        fresh = subst (λ n. AreFresh 1 n acts) (omega (arith, next, long, one)) fresh.1;
        room = omega (arith, room, length-registers_after m 1 act (record { memory = memory; registers = registers }));
        held = λ k below.
            ap (λ ws. slice_index (with_words registers (register_put act * 1) ws) k)
            (puts-same act xs registers memory fresh.0 placed held kept ∙ is-one (put act xs) one)
            ∙ put-behind xs registers (register_put act) y k held is (omega (arith, low, room))
            (omega (arith, below, long, one))
            ∙ sym (ap (λ ws. slice_index (xs ++ ws) k) (is-one (put act xs) one));
      }

  -- a word that is written is that of the register's value
  stored-value : (acts : List Action) (xs registers : List ℕ) (r : ℕ) → HoldValues xs registers → r < length xs →
      slice_index registers (r * 1) ≡ slice_index (values_put m first (xs ++ []) acts) r
  stored-value acts xs registers r held below =
      let one : r * 1 ≡ r = omega arith in
      ap (slice_index registers) one
      ∙ held r below
      ∙ sym (ap (λ ys. slice_index (values_put m first ys acts) r) (append-nil xs)
      ∙ values_stay m first xs acts r below)

  set-kept : (memory : List ℕ) (address w : ℕ) → Into address → IsKept memory → IsKept (slice_set memory address w)
  set-kept memory address w into kept k outside =
      other_word memory address w k (λ e. outside (subst Into e into)) ∙ kept k outside

  -- what actions write
  pub acts_write : (acts : List Action) (xs registers memory : List ℕ) →
      AreFresh 1 (length xs) acts → AreWide 1 acts → ArePlaced Into regs acts →
      regs ≤ length registers → HoldValues xs registers → IsKept memory →
      memory_by m 1 acts registers memory ≡ written memory (writes_of (values_put m first xs acts) acts)
  acts_write [] xs registers memory fresh wide placed room held kept = refl
  acts_write (Store address r ∷ acts) xs registers memory fresh wide placed room held kept =
      let w : ℕ = slice_index registers (r * 1) in
      acts_write acts xs registers (slice_set memory address w) fresh.1 wide.1 placed.1 room held
      (set-kept memory address w placed.0 kept)
      ∙ ap₂ (λ w zs. written (slice_set memory address w) (writes_of zs acts))
      (stored-value acts xs registers r held fresh.0)
      (ap (λ ys. values_put m first ys acts) (sym (append-nil xs)))
  acts_write (Tile r x ∷ acts) xs registers memory fresh wide placed room held kept = absurd placed.0
  acts_write (act ∷ acts) xs registers memory fresh wide placed room held kept =
      let n = goes act acts xs registers memory refl fresh wide.0 placed.0 room held kept in
      acts_write acts (xs ++ put act xs) (after act registers memory).registers memory
      n.fresh wide.1 placed.1 n.room n.held kept

  -- and where they write nothing
  written-kept : (acts : List Action) (zs memory : List ℕ) → ArePlaced Into regs acts → IsKept memory →
      IsKept (written memory (writes_of zs acts))
  written-kept [] zs memory placed kept = kept
  written-kept (Store address r ∷ acts) zs memory placed kept =
      let w : ℕ = slice_index zs r in
      written-kept acts zs (slice_set memory address w) placed.1 (set-kept memory address w placed.0 kept)
  written-kept (Tile r x ∷ acts) zs memory placed kept = absurd placed.0
  written-kept (act ∷ acts) zs memory placed kept = written-kept acts zs memory placed.1 kept

  -- ---- rounds, one after the other

  -- what a round writes alone
  abbrev pub writes_alone : List Action → List Write
  writes_alone acts = writes_of (values_put m first [] acts) acts

  pub rounds_write : (f : ℕ → List Action) (n a : ℕ) (registers memory : List ℕ) →
      ((l : ℕ) → a ≤ l → l < a + n → IsLaneRound Into regs (f l)) → regs ≤ length registers → IsKept memory →
      memory_by m 1 (flat_map f (range_with_len a n)) registers memory
      ≡ written memory (flat_map (λ l. writes_alone (f l)) (range_with_len a n))
  rounds_write f zero a registers memory each room kept = refl
  rounds_write f (suc n) a registers memory each room kept =
      ap (λ (z : Local). z.memory) (lists_follow m 1 (f a) rest before)
      ∙ rounds_write f n (a + 1) behind.registers behind.memory
      (λ l low high. each l (omega (arith, low)) (omega (arith, high)))
      (omega (arith, room, length-registers m 1 (f a) before))
      (λ k outside.
      ap (λ words. slice_index words k) one
      ∙ written-kept (f a) (values_put m first [] (f a)) memory at.placed kept k outside)
      ∙ ap (λ words. written words more) one
      ∙ sym (written-append memory (writes_alone (f a)) more)
    where
      before : Local
      before = record { memory = memory; registers = registers }

      behind : Local
      behind = effects m 1 (f a) before

      more : List Write
      more = flat_map (λ l. writes_alone (f l)) (range_with_len (a + 1) n)

      rest : List Action
      rest = flat_map f (range_with_len (a + 1) n)

      at : IsLaneRound Into regs (f a)
      at = each a (omega arith) (omega arith)

      one : behind.memory ≡ written memory (writes_alone (f a))
      one =
          acts_write (f a) [] registers memory at.round.0 at.round.1 at.placed room
          (λ k below. absurd (omega (arith, below))) kept
