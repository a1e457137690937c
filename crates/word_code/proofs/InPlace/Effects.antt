-- Lists of actions that differ in their addresses alone leave the same words where the homes say.
use Rattle.std.proofs.Common.{◌≡◌, ℕ, ◌+◌, ◌*◌, ◌≤◌, List, [], ◌∷◌, true, refl, sym, ap, ap₂, ◌∙◌, subst, ⊎_elim}
use Rattle.icode.specs.declared.action.Action.{Action}
use Rattle.icode.specs.declared.action.Action.TheVariants.{Load, Store, Zero, Add, Sub, Neg, Mul, Tile}
use Rattle.icode.specs.Machine.{Local, with_words, register_of, memory_after, register_put}
use Rattle.icode.proofs.Bools.{both_true}
use Rattle.icode.proofs.Words.{length-words_at}
use Rattle.word_code.specs.Words.{Width, sums_of}
use Rattle.word_code.specs.WordMachine.{WordAction, word_put, bare_effect, word_effect, reduce_registers}
use Rattle.word_code.specs.InPlace.Homes.{Homes, are_home}
use Rattle.word_code.specs.InPlace.Accesses.{Access, Reads, Writes, are_right, homes_after_all}
use Rattle.word_code.proofs.OneProcessor.{word_effects}
use Rattle.word_code.proofs.InPlace.Pairs.{IsInner, IsOwnPair, IsTouchPair, IsLoadPair, IsStorePair, IsPair, ArePairs}
use Rattle.word_code.proofs.InPlace.Pairs.{stored}
use Rattle.word_code.proofs.InPlace.Standing.{Stands, stands_housed, stands_read}
use Rattle.word_code.proofs.InPlace.Walks.{right-append, after-append}

-- words stand where the homes say, and registers hold the same
record Alike (words : ℕ) (h : Homes) (s t : Local) : Type 0 where
  pub stands : Stands words h s.memory t.memory
  pub registers : s.registers ≡ t.registers

abbrev local : List ℕ → List ℕ → Local
local memory registers = record { memory = memory; registers = registers }

-- an action on registers alone looks at no memory
inner-memory : (lanes : ℕ) (a : Action) (s : Local) → IsInner a → memory_after lanes a s ≡ s.memory
inner-memory lanes (Load r address) s inner = absurd inner
inner-memory lanes (Store address r) s inner = absurd inner
inner-memory lanes _ s inner = refl

inner-put : (w : Width) (m lanes bias : ℕ) (quotients : List ℕ) (a : Action) (one other registers : List ℕ) →
    IsInner a →
    word_put w m lanes bias quotients a (local one registers)
    ≡ word_put w m lanes bias quotients a (local other registers)
inner-put w m lanes bias quotients (Load r address) one other registers inner = absurd inner
inner-put w m lanes bias quotients (Store address r) one other registers inner = absurd inner
inner-put w m lanes bias quotients _ one other registers inner = refl

module _ (w : Width) (m lanes words : ℕ) where
  -- both actions leave words alike
  abbrev LeaveAlike : WordAction → WordAction → List Access → Homes → List ℕ → List ℕ → List ℕ → Type 0
  LeaveAlike f g accesses h one other registers =
      Alike words (homes_after_all lanes accesses h) (bare_effect w m lanes f (local one registers)) (bare_effect w m lanes g (local other registers))

  own_alike : (f : WordAction) (h : Homes) (one other registers : List ℕ) → IsInner f.action →
      Stands words h one other → LeaveAlike f f [] h one other registers
  own_alike f h one other registers inner stands =
      let same = inner-memory lanes f.action (local one registers) inner in
      let same_too = inner-memory lanes f.action (local other registers) inner in
      record {
        stands = subst (λ memory. Stands words h memory (memory_after lanes f.action (local other registers))) (sym same)
            (subst (λ memory. Stands words h one memory) (sym same_too) stands);
        registers = ap (with_words registers (register_put f.action * lanes)) (inner-put w m lanes f.bias f.quotients f.action one other registers inner);
      }

  load_alike : (f : WordAction) (register at to : ℕ) (h : Homes) (one other registers : List ℕ) → at + lanes ≤ words →
      to + lanes ≤ words →
      are_right lanes (Reads at to ∷ []) h ≡ true → Stands words h one other →
      LeaveAlike (record f { action = Load register at }) (record f { action = Load register to }) (Reads at to ∷ []) h one other registers
  load_alike f register at to h one other registers inside inside_too right stands =
      let home = (both_true (are_home h lanes at to) true right).0 in
      record {
        stands = stands;
        registers = ap (with_words registers (register * lanes)) (stands_read words lanes at to h one other inside inside_too home stands);
      }

  store_alike : (f : WordAction) (register at to : ℕ) (h : Homes) (one other registers : List ℕ) → at + lanes ≤ words →
      to + lanes ≤ words →
      Stands words h one other →
      LeaveAlike (record f { action = Store at register }) (record f { action = Store to register }) (Writes at to ∷ []) h one other registers
  store_alike f register at to h one other registers inside inside_too stands =
      record {
        stands = stands_housed words lanes at to h one other (register_of lanes registers register) inside inside_too
            (length-words_at lanes registers (register * lanes)) stands;
        registers = refl;
      }

  pair_alike : (f g : WordAction) (accesses : List Access) (h : Homes) (one other registers : List ℕ) →
      IsPair lanes words f g accesses →
      are_right lanes accesses h ≡ true → Stands words h one other → LeaveAlike f g accesses h one other registers
  pair_alike f g accesses h one other registers pair right stands =
      ⊎_elim own (⊎_elim load store) pair
    where
      own : IsOwnPair f g accesses → LeaveAlike f g accesses h one other registers
      own is =
          subst (λ (k : WordAction). LeaveAlike f k accesses h one other registers) (sym is.same)
          (subst (λ (xs : List Access). LeaveAlike f f xs h one other registers) (sym is.none) (own_alike f h one other registers is.inner stands))

      touch : (act : ℕ → ℕ → Action) (access : ℕ → ℕ → Access) (is : IsTouchPair act access lanes words f g accesses) →
          LeaveAlike (record f { action = act is.register is.at }) (record f { action = act is.register is.to }) (access is.at is.to ∷ []) h one other registers → LeaveAlike f g accesses h one other registers
      touch act access is alike =
          let itself : f ≡ record f { action = act is.register is.at } = ap (λ (a : Action). let k : WordAction = record f { action = a } in k) is.acts in
          subst (λ (k : WordAction). LeaveAlike k g accesses h one other registers) (sym itself)
          (subst (λ (k : WordAction). LeaveAlike (record f { action = act is.register is.at }) k accesses h one other registers) (sym is.other)
          (subst (λ (xs : List Access). LeaveAlike (record f { action = act is.register is.at }) (record f { action = act is.register is.to }) xs h one other registers) (sym is.touches)
          alike))

      load : IsLoadPair lanes words f g accesses → LeaveAlike f g accesses h one other registers
      load is =
          let found = ap (λ (xs : List Access). are_right lanes xs h) (sym is.touches) ∙ right in
          touch Load Reads is (load_alike f is.register is.at is.to h one other registers is.inside is.inside_other found stands)

      store : IsStorePair lanes words f g accesses → LeaveAlike f g accesses h one other registers
      store is = touch stored Writes is (store_alike f is.register is.at is.to h one other registers is.inside is.inside_other stands)

  -- both have the same reductions before them
  same_before : (f g : WordAction) (accesses : List Access) → IsPair lanes words f g accesses → f.before ≡ g.before
  same_before f g accesses pair =
      ⊎_elim
      (λ (is : IsOwnPair f g accesses). ap (λ (k : WordAction). k.before) (sym is.same))
      (⊎_elim
      (λ (is : IsLoadPair lanes words f g accesses). ap (λ (k : WordAction). k.before) (sym is.other))
      (λ (is : IsStorePair lanes words f g accesses). ap (λ (k : WordAction). k.before) (sym is.other)))
      pair

  step_alike : (f g : WordAction) (accesses : List Access) (h : Homes) (s t : Local) → IsPair lanes words f g accesses →
      are_right lanes accesses h ≡ true → Alike words h s t →
      Alike words (homes_after_all lanes accesses h) (word_effect w m lanes f s) (word_effect w m lanes g t)
  step_alike f g accesses h s t pair right alike =
      let reduced = ap₂ (λ reductions registers. reduce_registers (sums_of w) lanes reductions registers) (same_before f g accesses pair) alike.registers in
      subst (λ registers. Alike words (homes_after_all lanes accesses h) (word_effect w m lanes f s) (bare_effect w m lanes g (local t.memory registers))) reduced
      (pair_alike f g accesses h s.memory t.memory (reduce_registers (sums_of w) lanes f.before s.registers) pair right alike.stands)

  -- whole lists leave words and registers alike
  lists_alike : (fs gs : List WordAction) (accesses : List Access) (h : Homes) (s t : Local) →
      ArePairs lanes words fs gs accesses →
      are_right lanes accesses h ≡ true → Alike words h s t →
      Alike words (homes_after_all lanes accesses h) (word_effects w m lanes fs s) (word_effects w m lanes gs t)
  lists_alike [] [] accesses h s t none right alike = subst (λ (xs : List Access). Alike words (homes_after_all lanes xs h) s t) (sym none) alike
  lists_alike (f ∷ fs) (g ∷ gs) accesses h s t (first, rest, whole, pair, pairs) right alike =
      let found = sym (right-append lanes first rest h) ∙ ap (λ (xs : List Access). are_right lanes xs h) (sym whole) ∙ right in
      let both = both_true (are_right lanes first h) (are_right lanes rest (homes_after_all lanes first h)) found in
      let one = step_alike f g first h s t pair both.0 alike in
      let others = lists_alike fs gs rest (homes_after_all lanes first h) (word_effect w m lanes f s) (word_effect w m lanes g t) pairs both.1 one in
      let homes = sym (after-append lanes first rest h) ∙ ap (λ (xs : List Access). homes_after_all lanes xs h) (sym whole) in
      subst (λ (k : Homes). Alike words k (word_effects w m lanes (f ∷ fs) s) (word_effects w m lanes (g ∷ gs) t)) homes others
  lists_alike _ _ accesses h s t none right alike = absurd none

  pub effects_alike : (fs gs : List WordAction) (accesses : List Access) (h : Homes) (one other registers : List ℕ) →
      ArePairs lanes words fs gs accesses → are_right lanes accesses h ≡ true → Stands words h one other →
      Stands words (homes_after_all lanes accesses h)
      (word_effects w m lanes fs (record { memory = one; registers = registers })).memory
      (word_effects w m lanes gs (record { memory = other; registers = registers })).memory
  effects_alike fs gs accesses h one other registers pairs right stands =
      (lists_alike fs gs accesses h (local one registers) (local other registers) pairs right (record { stands = stands; registers = refl })).stands
