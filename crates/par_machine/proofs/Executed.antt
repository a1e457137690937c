-- What processors have executed so far.
use Rattle.std.proofs.Common.{◌≡◌, ℕ, zero, suc, ◌+◌, ◌-◌, ◌*◌, ◌<◌, ◌≤◌, ◌^◌, List, [], ◌∷◌, ◌++◌, Bool, true, false}
use Rattle.std.proofs.Common.{cond, length, take, flat_map, refl, sym, ap, ap₂, ◌∙◌, subst, arith, ⊎_elim, append_assoc}
use Rattle.std.proofs.Common.{append-nil, length-append, length-take-le}
use Rattle.std.specs.Prelude.{slice_index}
use Rattle.std.specs.List.{range_with_len}
use Rattle.std.proofs.lemmas.Bool.{cases_Bool}
use Rattle.std.proofs.lemmas.List.{take_all}
use Rattle.icode.specs.declared.action.Action.{Action}
use Rattle.icode.specs.declared.action.Action.TheVariants.{Load, Store, Zero, Add, Sub, Neg, Mul, Tile}
use Rattle.icode.specs.declared.action.Counts.{Counts}
use Rattle.icode.specs.Machine.{Code, IsCode, State, acts, is_open, none_done, first_open, phases_after, moved_on}
use Rattle.icode.specs.Machine.{counted, counts_of, executed, no_counts}
use Rattle.par_machine.specs.Frame.{total}
use Rattle.par_machine.specs.Performed.{HasRoom}
use Rattle.icode.proofs.End.{none_done-zero}
use Rattle.icode.proofs.Runs.{closed_over, first_open-open, first_open-closed}

-- Counts of one more action

abbrev one : ℕ → Action → Counts
one lanes a = counted lanes a no_counts

abbrev plus : Counts → Counts → Counts
plus c d =
    record {
      operations = c.operations + d.operations;
      muls = c.muls + d.muls;
      loads = c.loads + d.loads;
      stores = c.stores + d.stores;
    }

same_fields : (o m l s o' m' l' s' : ℕ) → o ≡ o' → m ≡ m' → l ≡ l' → s ≡ s' →
    ◌≡◌ {A = Counts} (record { operations = o; muls = m; loads = l; stores = s })
    (record { operations = o'; muls = m'; loads = l'; stores = s' })
same_fields o m l s o' m' l' s' eo em el es = cc

same_counts : (c d : Counts) → c.operations ≡ d.operations → c.muls ≡ d.muls → c.loads ≡ d.loads →
    c.stores ≡ d.stores → c ≡ d
same_counts c d o m l s = same_fields _ _ _ _ _ _ _ _ o m l s

counted_is : (lanes : ℕ) (a : Action) (c : Counts) → counted lanes a c ≡ plus c (one lanes a)
counted_is lanes (Load r address) c = same_counts _ _ (omega arith) (omega arith) (omega arith) (omega arith)
counted_is lanes (Store address r) c = same_counts _ _ (omega arith) (omega arith) (omega arith) (omega arith)
counted_is lanes (Zero r) c = same_counts _ _ (omega arith) (omega arith) (omega arith) (omega arith)
counted_is lanes (Add r x y) c = same_counts _ _ (omega arith) (omega arith) (omega arith) (omega arith)
counted_is lanes (Sub r x y) c = same_counts _ _ (omega arith) (omega arith) (omega arith) (omega arith)
counted_is lanes (Neg r x) c = same_counts _ _ (omega arith) (omega arith) (omega arith) (omega arith)
counted_is lanes (Mul r x factors) c = same_counts _ _ (omega arith) (omega arith) (omega arith) (omega arith)
counted_is lanes (Tile r x) c = same_counts _ _ (omega arith) (omega arith) (omega arith) (omega arith)

counted_swap : (lanes : ℕ) (a b : Action) (c : Counts) → counted lanes a (counted lanes b c)
    ≡ counted lanes b (counted lanes a c)
counted_swap lanes a b c =
    ap (counted lanes a) (counted_is lanes b c) ∙ (counted_is lanes a (plus c (one lanes b))
    ∙ (same_counts _ _ (omega arith) (omega arith) (omega arith) (omega arith)
    ∙ (sym (counted_is lanes b (plus c (one lanes a))) ∙ ap (counted lanes b) (sym (counted_is lanes a c)))))

pub counts_more : (lanes : ℕ) (xs : List Action) (a : Action) →
    counts_of lanes (xs ++ a ∷ []) ≡ counted lanes a (counts_of lanes xs)
counts_more lanes [] a = refl
counts_more lanes (x ∷ xs) a = ap (counted lanes x) (counts_more lanes xs a) ∙ counted_swap lanes x a (counts_of lanes xs)

-- no count is more than the lanes of all actions
pub record AreSmall (n : ℕ) (c : Counts) : Type 0 where
  pub operations : c.operations ≤ n
  pub muls : c.muls ≤ n
  pub loads : c.loads ≤ n
  pub stores : c.stores ≤ n

are_small : (n : ℕ) (c : Counts) → c.operations ≤ n → c.muls ≤ n → c.loads ≤ n → c.stores ≤ n → AreSmall n c
are_small n c o m l s = record { operations = o; muls = m; loads = l; stores = s }

in_lanes : (lanes : ℕ) (a : Action) → AreSmall lanes (one lanes a)
in_lanes lanes (Load r address) = are_small _ _ (omega arith) (omega arith) (omega arith) (omega arith)
in_lanes lanes (Store address r) = are_small _ _ (omega arith) (omega arith) (omega arith) (omega arith)
in_lanes lanes (Zero r) = are_small _ _ (omega arith) (omega arith) (omega arith) (omega arith)
in_lanes lanes (Add r x y) = are_small _ _ (omega arith) (omega arith) (omega arith) (omega arith)
in_lanes lanes (Sub r x y) = are_small _ _ (omega arith) (omega arith) (omega arith) (omega arith)
in_lanes lanes (Neg r x) = are_small _ _ (omega arith) (omega arith) (omega arith) (omega arith)
in_lanes lanes (Mul r x factors) = are_small _ _ (omega arith) (omega arith) (omega arith) (omega arith)
in_lanes lanes (Tile r x) = are_small _ _ (omega arith) (omega arith) (omega arith) (omega arith)

small_plus : (n k m : ℕ) (c d : Counts) → AreSmall n c → AreSmall k d → n + k ≤ m → AreSmall m (plus c d)
small_plus n k m c d hc hd le =
    are_small _ _ (omega arith) (omega arith) (omega arith) (omega arith)

pub counts_small : (lanes : ℕ) (xs : List Action) → AreSmall (length xs * lanes) (counts_of lanes xs)
counts_small lanes [] = are_small _ _ (omega arith) (omega arith) (omega arith) (omega arith)
counts_small lanes (x ∷ xs) =
    subst (AreSmall (length (x ∷ xs) * lanes)) (sym (counted_is lanes x (counts_of lanes xs)))
    (small_plus (length xs * lanes) lanes _ _ _ (counts_small lanes xs) (in_lanes lanes x) (omega arith))

-- room

pub room_less : (n more : ℕ) (c : Counts) → n ≤ more → HasRoom more c → HasRoom n c
room_less n more c le h =
    record { operations = omega arith; muls = omega arith; loads = omega arith; stores = omega arith }

pub small_has_room : (few n : ℕ) (c : Counts) → AreSmall few c → few + n < 2 ^ 64 → HasRoom n c
small_has_room few n c h limit =
    record { operations = omega arith; muls = omega arith; loads = omega arith; stores = omega arith }

-- one action takes the room of its lanes
pub room_after : (n lanes : ℕ) (a : Action) (c : Counts) → HasRoom (n + lanes) c → HasRoom n (counted lanes a c)
room_after n lanes a c h =
    let few = in_lanes lanes a in
    subst (HasRoom n) (sym (counted_is lanes a c))
    (record { operations = omega arith; muls = omega arith; loads = omega arith; stores = omega arith })

-- What is executed

empty_is : (xs : List Action) → length xs ≤ 0 → xs ≡ []
empty_is [] le = refl
empty_is (x ∷ xs) le = absurd (omega arith)

flat_split : (g : ℕ → List Action) (first n k : ℕ) → flat_map g (range_with_len first (n + k))
    ≡ flat_map g (range_with_len first n) ++ flat_map g (range_with_len (first + n) k)
flat_split g first zero k = ap₂ (λ f n. flat_map g (range_with_len f n)) (omega arith) (omega arith)
flat_split g first (suc n) k =
    let e : suc n + k ≡ suc (n + k) = omega arith in
    let s : first + 1 + n ≡ first + suc n = omega arith in
    ap (λ j. flat_map g (range_with_len first j)) e
    ∙ (ap (λ xs. g first ++ xs) (flat_split g (first + 1) n k ∙ ap (λ j. flat_map g (range_with_len (first + 1) n) ++ flat_map g (range_with_len j k)) s)
    ∙ sym (append_assoc (g first) (flat_map g (range_with_len (first + 1) n)) (flat_map g (range_with_len (first + suc n) k))))

module _ (code : Code) (is : IsCode code) where
  abbrev all_of : ℕ → ℕ → List Action
  all_of q phase = acts code phase q

  -- the phases that are passed over have no actions
  pub passed : (q n phase k : ℕ) → first_open code n phase ≡ phase + k →
      flat_map (all_of q) (range_with_len phase k) ≡ []
  passed q n phase zero e = refl
  passed q zero phase (suc k) e = absurd (omega arith)
  passed q (suc n) phase (suc k) e =
      ⊎_elim
      (λ (o : is_open code phase (none_done code) ≡ true). absurd (omega (arith, first_open-open code n phase o)))
      (λ (o : is_open code phase (none_done code) ≡ false).
      let none : acts code phase q ≡ [] = empty_is (acts code phase q) (omega (arith, (closed_over code is phase (none_done code) o).each q, none_done-zero code q)) in
      ap₂ (λ (xs ys : List Action). xs ++ ys) none (passed q n (phase + 1) k (omega (arith, first_open-closed code n phase o))))
      (cases_Bool (is_open code phase (none_done code)))

  pub first_open_from : (n phase : ℕ) → phase ≤ first_open code n phase
  first_open_from zero phase = omega arith
  first_open_from (suc n) phase =
      ⊎_elim
      (λ (o : is_open code phase (none_done code) ≡ true). omega (arith, first_open-open code n phase o))
      (λ (o : is_open code phase (none_done code) ≡ false). omega (arith, first_open-closed code n phase o, first_open_from n (phase + 1)))
      (cases_Bool (is_open code phase (none_done code)))

  take_none : (n : ℕ) (xs : List Action) → n ≡ 0 → take n xs ≡ []
  take_none n xs e = ap (λ k. take k xs) e

  -- at the beginning nothing is
  pub executed_first : (q n : ℕ) (m : List ℕ) (r : List (List ℕ)) → executed code (record { memory = m; registers = r; phase = first_open code n 0; done = none_done code }) q ≡ []
  executed_first q n m r =
      let first : ℕ = first_open code n 0 in
      ap₂ (λ (xs ys : List Action). xs ++ ys) (passed q n 0 first (omega arith)) (take_none (slice_index (none_done code) q) (acts code first q) (none_done-zero code q))

  -- the phase moves on, and nothing more is
  pub executed_moved : (s : State) (q : ℕ) → executed code (moved_on code s) q ≡ executed code s q
  executed_moved s q = at (is_open code s.phase s.done) refl
    where
      next : State
      next = record { memory = s.memory; registers = s.registers; phase = first_open code (phases_after code s.phase) (s.phase + 1); done = none_done code }

      at : (b : Bool) → is_open code s.phase s.done ≡ b → executed code (cond b s next) q ≡ executed code s q
      at true o = refl
      at false o =
          let n : ℕ = phases_after code s.phase in
          let first : ℕ = first_open code n (s.phase + 1) in
          let k : ℕ = first - (s.phase + 1) in
          let from = first_open_from n (s.phase + 1) in
          let e1 : first ≡ s.phase + suc k = omega (arith, from) in
          let over = (closed_over code is s.phase s.done o).each q in
          let rest : flat_map (all_of q) (range_with_len (s.phase + 1) k) ≡ [] = passed q n (s.phase + 1) k (omega (arith, from)) in
          let there : flat_map (all_of q) (range_with_len 0 first) ≡ flat_map (all_of q) (range_with_len 0 s.phase) ++ acts code s.phase q =
          ap (λ j. flat_map (all_of q) (range_with_len 0 j)) e1
          ∙ (flat_split (all_of q) 0 s.phase (suc k)
          ∙ (ap (λ j. flat_map (all_of q) (range_with_len 0 s.phase) ++ (acts code j q ++ flat_map (all_of q) (range_with_len (j + 1) k))) (zero_plus s.phase)
          ∙ (ap (λ xs. flat_map (all_of q) (range_with_len 0 s.phase) ++ (acts code s.phase q ++ xs)) rest
          ∙ ap (λ xs. flat_map (all_of q) (range_with_len 0 s.phase) ++ xs) (append-nil (acts code s.phase q))))) in
          ap₂ (λ (xs ys : List Action). xs ++ ys) there (take_none (slice_index (none_done code) q) (acts code first q) (none_done-zero code q))
          ∙ (append-nil (flat_map (all_of q) (range_with_len 0 s.phase) ++ acts code s.phase q)
          ∙ ap (λ xs. flat_map (all_of q) (range_with_len 0 s.phase) ++ xs) (sym (take_all (slice_index s.done q) (acts code s.phase q) over)))
        where
          zero_plus : (n : ℕ) → 0 + n ≡ n
          zero_plus n = omega arith

  -- how many there are, against all that there are
  length_flat : (q : ℕ) (lens : List ℕ) → ((phase : ℕ) → length (acts code phase q) ≡ slice_index lens phase) →
      (phase n : ℕ) → n < length (acts code phase q) → length (flat_map (all_of q) (range_with_len 0 phase)) + suc n
      ≤ total lens
  length_flat q lens e phase n lt =
      let z : (k : ℕ) → 0 + k ≡ k = λ k. omega arith in
      fronts lens (all_of q) 0 phase n (λ k. ap (λ j. length (acts code j q)) (z k) ∙ e k) (subst (λ j. n < length (acts code j q)) (sym (z phase)) lt)
    where
      fronts : (lens : List ℕ) (g : ℕ → List Action) (first phase n : ℕ) →
          ((k : ℕ) → length (g (first + k)) ≡ slice_index lens k) → n < length (g (first + phase)) →
          length (flat_map g (range_with_len first phase)) + suc n ≤ total lens
      fronts [] g first phase n e lt = absurd (omega (arith, e phase))
      fronts (x ∷ lens) g first zero n e lt =
          let whole : total (x ∷ lens) ≡ x + total lens = refl in
          let here : length (g (first + 0)) ≡ x = e 0 in
          omega (arith, whole, here)
      fronts (x ∷ lens) g first (suc phase) n e lt =
          let whole : total (x ∷ lens) ≡ x + total lens = refl in
          let here : length (g (first + 0)) ≡ x = e 0 in
          let z : first + 0 ≡ first = omega arith in
          let s : (k : ℕ) → first + 1 + k ≡ first + suc k = λ k. omega arith in
          let rest = fronts lens g (first + 1) phase n (λ k. ap (λ j. length (g j)) (s k) ∙ e (suc k)) (omega (arith, ap (λ j. length (g j)) (s phase))) in
          omega (arith, whole, here, rest, length-append (g first) (flat_map g (range_with_len (first + 1) phase)), ap (λ j. length (g j)) z)

  pub executed_room : (s : State) (q n : ℕ) (lens : List ℕ) →
      ((phase : ℕ) → length (acts code phase q) ≡ slice_index lens phase) → 0 < n →
      slice_index s.done q + n ≤ length (acts code s.phase q) → length (executed code s q) + n ≤ total lens
  executed_room s q n lens e some most =
      omega (
        arith,
        length-append (flat_map (all_of q) (range_with_len 0 s.phase)) (take (slice_index s.done q) (acts code s.phase q)),
        length-take-le (slice_index s.done q) (acts code s.phase q) (omega arith),
        length_flat q lens e s.phase (slice_index s.done q + n - 1) (omega arith),
      )
