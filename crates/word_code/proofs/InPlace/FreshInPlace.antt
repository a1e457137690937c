-- Words in place read nothing that is left over where the program does not.
use Rattle.std.proofs.Common.{◌≡◌, ◌≢◌, ℕ, zero, suc, ◌+◌, ◌-◌, ◌*◌, ◌<◌, ◌≤◌, ◌⊎◌, ◌==◌, List, [], ◌∷◌, true, length, map}
use Rattle.std.proofs.Common.{inl, inr, ⊎_elim, refl, sym, ap, ap₂, ◌∙◌, subst, arith, Contains, All, Some, take}
use Rattle.std.proofs.Common.{get_or-set_same, get_or-set_other, length-set}
use Rattle.std.specs.Prelude.{slice_get, slice_index, slice_index_or, slice_set}
use Rattle.std.specs.List.{range_with_len}
use Rattle.std.proofs.lemmas.Bool.{cases_eq, eqb-true}
use Rattle.std.proofs.lemmas.List.FromFn.{length-range_with_len, get_or-range_with_len}
use Rattle.icode.specs.declared.action.Action.{Action}
use Rattle.icode.specs.declared.action.Action.TheVariants.{Load, Store, Zero, Add, Sub, Neg, Mul, Tile}
use Rattle.icode.specs.Actions.{PlainFits, StepFits, plain_code, steps_of_body}
use Rattle.icode.specs.Fresh.{HaveStored, HavePut, IsFresh, IsKnown, loaded_words, read_registers, put_registers}
use Rattle.icode.specs.Machine.{Code, acts, padded, stored_words, whole_lines}
use Rattle.icode.specs.Plain.{PlainProgram, NoStmts}
use Rattle.icode.proofs.Bools.{both_true}
use Rattle.icode.proofs.FreshActions.{range_item}
use Rattle.icode.proofs.FreshLists as lists
use Rattle.icode.proofs.Lines.{Contains-nil, Contains-range}
use Rattle.word_code.specs.Quicken.{PlainLaziness, loosest, header_of, quick_alone, quick_phases, quickened}
use Rattle.word_code.specs.WordMachine.{WordAction, actions_under, under}
use Rattle.word_code.specs.WordProgram.{word_actions_of_body, word_code}
use Rattle.word_code.specs.InPlace.Accesses.{Access, Reads, Writes, are_right, homes_after_all, accesses_of_phase}
use Rattle.word_code.specs.InPlace.Routing.{chosen}
use Rattle.word_code.specs.InPlace.Homes.{Homes, own_homes, is_home, are_home, housed}
use Rattle.word_code.specs.InPlace.Sharing.{in_place, routes_of}
use Rattle.word_code.specs.InPlace.Routes.{rerouted, rerouted_phase}
use Rattle.word_code.specs.InPlace.Views.{BodyFits}
use Rattle.word_code.proofs.Bare.{bare_quickened, code_under_is}
use Rattle.word_code.proofs.InPlace.Law.{Goes, no_routes, one_list, one_phase, stays_or_goes}
use Rattle.word_code.proofs.InPlace.Pairing.{chosen_reach, phase_pairs}
use Rattle.word_code.proofs.InPlace.Pairs.{ArePairs, IsInner, IsLoadPair, IsOwnPair, IsPair, IsStorePair, stored}
use Rattle.word_code.proofs.InPlace.Walks.{after-append, right-append}
use Rattle.word_code.proofs.Simulation.{size_within}

-- a word of a range
abbrev Within : ℕ → ℕ → ℕ → Type 0
Within at n k = (at ≤ k) × (k < at + n)

module _ (lanes words : ℕ) where
  abbrev LoadKnown : (ℕ → Type 0) → List Action → Type 0
  LoadKnown K actions = lists.ReadKnown (loaded_words lanes) (stored_words lanes) K actions

  -- what is known of one memory is known of the other, where a word stands
  record Leads (h : Homes) (K L : ℕ → Type 0) : Type 0 where
    homes : length h.homes ≡ words
    guests : length h.guests ≡ words
    leads : (at to : ℕ) → at < words → to < words → slice_index h.homes at ≡ to → slice_index h.guests to ≡ at → K at → L to

  leads-less : (h : Homes) (K M L : ℕ → Type 0) → ((k : ℕ) → M k → K k) → Leads h K L → Leads h M L
  leads-less h K M L le leads =
      record {
        homes = leads.homes;
        guests = leads.guests;
        leads = λ at to low high there back known. leads.leads at to low high there back (le at known);
      }

  leads-more : (h : Homes) (K L M : ℕ → Type 0) → ((k : ℕ) → L k → M k) → Leads h K L → Leads h K M
  leads-more h K L M le leads =
      record {
        homes = leads.homes;
        guests = leads.guests;
        leads = λ at to low high there back known. le to (leads.leads at to low high there back known);
      }

  -- one word is put there in both
  leads-put : (at to : ℕ) (h : Homes) (K L : ℕ → Type 0) → at < words → to < words → L to → Leads h K L →
      Leads (record { homes = slice_set h.homes at to; guests = slice_set h.guests to at }) (λ k. K k ⊎ (k ≡ at)) L
  leads-put at to h K L inside inside_too there leads =
      record {
        homes = length-set h.homes at to ∙ leads.homes;
        guests = length-set h.guests to at ∙ leads.guests;
        leads = λ p q low high home guest known.
            ⊎_elim
            (λ (same : p ≡ at).
            let now : slice_index (slice_set h.homes at to) at ≡ to = get_or-set_same h.homes at to 0 (let long = leads.homes in omega (arith, long, inside)) in
            let is : q ≡ to = sym home ∙ ap (slice_index (slice_set h.homes at to)) same ∙ now in
            subst L (sym is) there)
            (λ (other : p ≡ at → ⊥).
            let now : slice_index (slice_set h.guests to at) to ≡ at = get_or-set_same h.guests to at 0 (let long = leads.guests in omega (arith, long, inside_too)) in
            let apart : q ≢ to = λ same. other (sym guest ∙ ap (slice_index (slice_set h.guests to at)) same ∙ now) in
            leads.leads p q low high (sym (get_or-set_other h.homes at p to 0 other) ∙ home)
            (sym (get_or-set_other h.guests to q at 0 apart) ∙ guest)
            (⊎_elim (λ (x : K p). x) (λ (e : p ≡ at). absurd (other e)) known))
            (cases_eq p at);
      }

  leads-housed : (n at to : ℕ) (h : Homes) (K L : ℕ → Type 0) → at + n ≤ words → to + n ≤ words →
      ((k : ℕ) → Within to n k → L k) → Leads h K L → Leads (housed n at to h) (λ k. K k ⊎ Within at n k) L
  leads-housed zero at to h K L inside inside_too there leads =
      leads-less h K (λ k. K k ⊎ Within at 0 k) L
      (λ k. ⊎_elim (λ (x : K k). x) (λ (none : Within at 0 k). let low = none.0 in let high = none.1 in absurd (omega (arith, low, high)))) leads
  leads-housed (suc n) at to h K L inside inside_too there leads =
      let h1 : Homes = record { homes = slice_set h.homes at to; guests = slice_set h.guests to at } in
      let K1 : ℕ → Type 0 = λ k. K k ⊎ (k ≡ at) in
      leads-less (housed n (at + 1) (to + 1) h1) (λ k. K1 k ⊎ Within (at + 1) n k) (λ k. K k ⊎ Within at (suc n) k) L
      (λ k. ⊎_elim
      (λ (x : K k). inl (inl x))
      (λ (range : Within at (suc n) k).
      ⊎_elim
      (λ (first : k ≡ at). inl (inr first))
      (λ (later : k ≡ at → ⊥). let low = range.0 in let high = range.1 in inr (omega (arith, low, later), omega (arith, high)))
      (cases_eq k at)))
      (leads-housed n (at + 1) (to + 1) h1 K1 L (omega (arith, inside)) (omega (arith, inside_too))
      (λ k range. there k (let low = range.0 in let high = range.1 in (omega (arith, low), omega (arith, high))))
      (leads-put at to h K L (omega (arith, inside)) (omega (arith, inside_too)) (there to (omega arith, omega arith)) leads))

  -- words that are at home and known in the one are known in the other
  known-home : (n at to : ℕ) (h : Homes) (K L : ℕ → Type 0) → at + n ≤ words → to + n ≤ words → are_home h n at to ≡ true →
      ((k : ℕ) → Within at n k → K k) → Leads h K L → (k : ℕ) → Within to n k → L k
  known-home zero at to h K L inside inside_too right known leads k range = let low = range.0 in let high = range.1 in absurd (omega (arith, low, high))
  known-home (suc n) at to h K L inside inside_too right known leads k range =
      let both = both_true (is_home h at to) (are_home h n (at + 1) (to + 1)) right in
      let link = both_true (slice_index h.homes at == to) (slice_index h.guests to == at) both.0 in
      ⊎_elim
      (λ (here : k ≡ to).
      subst L (sym here)
      (leads.leads at to (omega (arith, inside)) (omega (arith, inside_too)) (eqb-true (slice_index h.homes at) to link.0) (eqb-true (slice_index h.guests to) at link.1)
      (known at (omega arith, omega arith))))
      (λ (later : k ≡ to → ⊥).
      known-home n (at + 1) (to + 1) h K L (omega (arith, inside)) (omega (arith, inside_too)) both.1
      (λ k range. known k (let low = range.0 in let high = range.1 in (omega (arith, low), omega (arith, high)))) leads k
      (let low = range.0 in let high = range.1 in (omega (arith, low, later), omega (arith, high))))
      (cases_eq k to)

  -- ---- actions that differ in their addresses alone

  inner-loads : (a : Action) → IsInner a → (loaded_words lanes a ≡ []) × (stored_words lanes a ≡ [])
  inner-loads (Load r address) inner = absurd inner
  inner-loads (Store address r) inner = absurd inner
  inner-loads (Zero r) inner = (refl, refl)
  inner-loads (Add r x y) inner = (refl, refl)
  inner-loads (Sub r x y) inner = (refl, refl)
  inner-loads (Neg r x) inner = (refl, refl)
  inner-loads (Mul r x factors) inner = (refl, refl)
  inner-loads (Tile r x) inner = (refl, refl)

  abbrev LoadsKnown : (ℕ → Type 0) → Action → Type 0
  LoadsKnown K a = (k : ℕ) → Contains (loaded_words lanes a) k → K k

  abbrev After : (ℕ → Type 0) → Action → ℕ → Type 0
  After K a k = K k ⊎ Contains (stored_words lanes a) k

  record StepLeads (f g : Action) (accesses : List Access) (h : Homes) (K L : ℕ → Type 0) : Type 0 where
    loads : LoadsKnown L g
    after : Leads (homes_after_all lanes accesses h) (After K f) (After L g)

  own-leads : (f : Action) (h : Homes) (K L : ℕ → Type 0) → IsInner f → Leads h K L → StepLeads f f [] h K L
  own-leads f h K L inner leads =
      let none = inner-loads f inner in
      record {
        loads = λ k has. absurd (Contains-nil k (subst (λ ks. Contains ks k) none.0 has));
        after =
            leads-more h (After K f) L (After L f) (λ k (x : L k). inl x)
            (leads-less h K (After K f) L
            (λ k. ⊎_elim (λ (x : K k). x) (λ has. absurd (Contains-nil k (subst (λ ks. Contains ks k) none.1 has)))) leads);
      }

  load-leads : (r at to : ℕ) (h : Homes) (K L : ℕ → Type 0) → at + lanes ≤ words → to + lanes ≤ words →
      are_right lanes (Reads at to ∷ []) h ≡ true → LoadsKnown K (Load r at) → Leads h K L →
      StepLeads (Load r at) (Load r to) (Reads at to ∷ []) h K L
  load-leads r at to h K L inside inside_too right known leads =
      let home = (both_true (are_home h lanes at to) true right).0 in
      record {
        loads = λ k has.
            known-home lanes at to h K L inside inside_too home
            (λ k range. known k (Contains-range lanes at k range.0 range.1)) leads k (range_item to lanes k has);
        after =
            leads-more h (After K (Load r at)) L (After L (Load r to)) (λ k (x : L k). inl x)
            (leads-less h K (After K (Load r at)) L
            (λ k. ⊎_elim (λ (x : K k). x) (λ (none : Contains [] k). absurd (Contains-nil k none))) leads);
      }

  store-leads : (r at to : ℕ) (h : Homes) (K L : ℕ → Type 0) → at + lanes ≤ words → to + lanes ≤ words → Leads h K L →
      StepLeads (Store at r) (Store to r) (Writes at to ∷ []) h K L
  store-leads r at to h K L inside inside_too leads =
      record {
        loads = λ k none. absurd (Contains-nil k none);
        after =
            leads-less (housed lanes at to h) (λ k. K k ⊎ Within at lanes k) (After K (Store at r)) (After L (Store to r))
            (λ k. ⊎_elim (λ (x : K k). inl x) (λ (has : Contains (range_with_len at lanes) k). inr (range_item at lanes k has)))
            (leads-housed lanes at to h K (After L (Store to r)) inside inside_too
            (λ k range. inr (Contains-range lanes to k range.0 range.1))
            (leads-more h K L (After L (Store to r)) (λ k (x : L k). inl x) leads));
      }

  pair-leads : (f g : WordAction) (accesses : List Access) (h : Homes) (K L : ℕ → Type 0) → IsPair lanes words f g accesses →
      are_right lanes accesses h ≡ true → LoadsKnown K f.action → Leads h K L →
      StepLeads f.action g.action accesses h K L
  pair-leads f g accesses h K L pair right known leads =
      ⊎_elim
      (λ (is : IsOwnPair f g accesses).
      subst (λ (g : WordAction). StepLeads f.action g.action accesses h K L) (sym is.same)
      (subst (λ xs. StepLeads f.action f.action xs h K L) (sym is.none) (own-leads f.action h K L is.inner leads)))
      (⊎_elim
      (λ (is : IsLoadPair lanes words f g accesses).
      let found = ap (λ (xs : List Access). are_right lanes xs h) (sym is.touches) ∙ right in
      subst (λ (g : WordAction). StepLeads f.action g.action accesses h K L) (sym is.other)
      (subst (λ xs. StepLeads f.action (Load is.register is.to) xs h K L) (sym is.touches)
      (subst (λ (a : Action). StepLeads a (Load is.register is.to) (Reads is.at is.to ∷ []) h K L) (sym is.acts)
      (load-leads is.register is.at is.to h K L is.inside is.inside_other found
      (subst (LoadsKnown K) is.acts known) leads))))
      (λ (is : IsStorePair lanes words f g accesses).
      subst (λ (g : WordAction). StepLeads f.action g.action accesses h K L) (sym is.other)
      (subst (λ xs. StepLeads f.action (Store is.to is.register) xs h K L) (sym is.touches)
      (subst (λ (a : Action). StepLeads a (Store is.to is.register) (Writes is.at is.to ∷ []) h K L) (sym is.acts)
      (store-leads is.register is.at is.to h K L is.inside is.inside_other leads)))))
      pair

  record ListLeads (fs gs : List Action) (accesses : List Access) (h : Homes) (K L : ℕ → Type 0) : Type 0 where
    loads : LoadKnown L gs
    after : Leads (homes_after_all lanes accesses h) (λ k. K k ⊎ HaveStored lanes fs k) (λ k. L k ⊎ HaveStored lanes gs k)

  pairs-lead : (fs gs : List WordAction) (accesses : List Access) (h : Homes) (K L : ℕ → Type 0) →
      ArePairs lanes words fs gs accesses → are_right lanes accesses h ≡ true → LoadKnown K (actions_under fs) →
      Leads h K L → ListLeads (actions_under fs) (actions_under gs) accesses h K L
  pairs-lead [] [] accesses h K L none right known leads =
      subst (λ (xs : List Access). ListLeads [] [] xs h K L) (sym none)
      (record {
        loads = tt;
        after =
            leads-more h (λ k. K k ⊎ HaveStored lanes [] k) L (λ k. L k ⊎ HaveStored lanes [] k) (λ k (x : L k). inl x)
            (leads-less h K (λ k. K k ⊎ HaveStored lanes [] k) L
            (λ k. ⊎_elim (λ (x : K k). x) (λ (no : HaveStored lanes [] k). absurd (Contains-nil k no))) leads);
      })
  pairs-lead (f ∷ fs) (g ∷ gs) accesses h K L (first, rest, whole, pair, pairs) right known leads =
      let found = sym (right-append lanes first rest h) ∙ ap (λ (xs : List Access). are_right lanes xs h) (sym whole) ∙ right in
      let both = both_true (are_right lanes first h) (are_right lanes rest (homes_after_all lanes first h)) found in
      let one = pair-leads f g first h K L pair both.0 known.0 leads in
      let others = pairs-lead fs gs rest (homes_after_all lanes first h) (After K f.action) (After L g.action) pairs both.1 known.1 one.after in
      let homes = sym (after-append lanes first rest h) ∙ ap (λ (xs : List Access). homes_after_all lanes xs h) (sym whole) in
      let there = homes_after_all lanes rest (homes_after_all lanes first h) in
      let K' : ℕ → Type 0 = λ k. K k ⊎ HaveStored lanes (actions_under (f ∷ fs)) k in
      let L' : ℕ → Type 0 = λ k. L k ⊎ HaveStored lanes (actions_under (g ∷ gs)) k in
      record {
        loads = (one.loads, others.loads);
        after =
            subst (λ (h : Homes). Leads h K' L') homes
            (leads-more there K' (λ k. After L g.action k ⊎ HaveStored lanes (actions_under gs) k) L'
            (λ k. ⊎_elim
            (⊎_elim (λ (x : L k). inl x) (λ (now : Contains (stored_words lanes g.action) k). inr (lists.put-now (loaded_words lanes) (stored_words lanes) g.action (actions_under gs) k (inl now))))
            (λ (later : HaveStored lanes (actions_under gs) k). inr (lists.put-now (loaded_words lanes) (stored_words lanes) g.action (actions_under gs) k (inr later))))
            (leads-less there (λ k. After K f.action k ⊎ HaveStored lanes (actions_under fs) k) K' (λ k. After L g.action k ⊎ HaveStored lanes (actions_under gs) k)
            (λ k. ⊎_elim
            (λ (x : K k). inl (inl x))
            (λ (put : HaveStored lanes (actions_under (f ∷ fs)) k). ⊎_elim
            (λ (now : Contains (stored_words lanes f.action) k). inl (inr now))
            (λ (later : HaveStored lanes (actions_under fs) k). inr later)
            (lists.put-first (loaded_words lanes) (stored_words lanes) f.action (actions_under fs) k put)))
            others.after));
      }
  pairs-lead _ _ accesses h K L none right known leads = absurd none

  -- ---- registers

  same-registers : (f g : WordAction) (accesses : List Access) → IsPair lanes words f g accesses →
      (read_registers lanes g.action ≡ read_registers lanes f.action) × (put_registers lanes g.action ≡ put_registers lanes f.action)
  same-registers f g accesses pair =
      ⊎_elim
      (λ (is : IsOwnPair f g accesses). (ap (λ (k : WordAction). read_registers lanes k.action) is.same, ap (λ (k : WordAction). put_registers lanes k.action) is.same))
      (⊎_elim
      (λ (is : IsLoadPair lanes words f g accesses). (
        ap (λ (k : WordAction). read_registers lanes k.action) is.other ∙ sym (ap (read_registers lanes) is.acts),
        ap (λ (k : WordAction). put_registers lanes k.action) is.other ∙ sym (ap (put_registers lanes) is.acts),
      ))
      (λ (is : IsStorePair lanes words f g accesses). (
        ap (λ (k : WordAction). read_registers lanes k.action) is.other ∙ sym (ap (read_registers lanes) is.acts),
        ap (λ (k : WordAction). put_registers lanes k.action) is.other ∙ sym (ap (put_registers lanes) is.acts),
      )))
      pair

  pairs-read : (fs gs : List WordAction) (accesses : List Access) (K : ℕ → Type 0) → ArePairs lanes words fs gs accesses →
      lists.ReadKnown (read_registers lanes) (put_registers lanes) K (actions_under fs) →
      lists.ReadKnown (read_registers lanes) (put_registers lanes) K (actions_under gs)
  pairs-read [] [] accesses K none known = tt
  pairs-read (f ∷ fs) (g ∷ gs) accesses K (first, rest, whole, pair, pairs) known =
      let same = same-registers f g first pair in (
        λ r has. known.0 r (subst (λ rs. Contains rs r) same.0 has),
        lists.known-wider (read_registers lanes) (put_registers lanes) (λ r. K r ⊎ Contains (put_registers lanes f.action) r) (λ r. K r ⊎ Contains (put_registers lanes g.action) r)
            (λ r. ⊎_elim (λ (x : K r). inl x) (λ (put : Contains (put_registers lanes f.action) r). inr (subst (λ rs. Contains rs r) (sym same.1) put)))
            (actions_under gs) (pairs-read fs gs rest (λ r. K r ⊎ Contains (put_registers lanes f.action) r) pairs known.1),
      )
  pairs-read _ _ accesses K none known = absurd none

-- ---- the only list of a code

module _ (code : Code) (actions : List Action) (only : code.lists ≡ (actions ∷ []) ∷ []) where
  abbrev listed : ℕ → ℕ → List Action
  listed phase q = slice_index_or (slice_index_or ((actions ∷ []) ∷ []) phase []) q []

  acts-are : (phase q : ℕ) → acts code phase q ≡ listed phase q
  acts-are phase q = ap (λ (ls : List (List (List Action))). slice_index_or (slice_index_or ls phase []) q []) only

  -- an action is of that list, of processor 0 in phase 0
  of-list : (phase q n : ℕ) (a : Action) → slice_get (acts code phase q) n ≡ Some a →
      (phase ≡ 0) × (q ≡ 0) × (slice_get actions n ≡ Some a)
  of-list phase q n a e = at phase q (ap (λ xs. slice_get xs n) (sym (acts-are phase q)) ∙ e)
    where
      none : (n : ℕ) → slice_get {X = Action} [] n ≡ Some a → ⊥
      none n h = cc

      at : (phase q : ℕ) → slice_get (listed phase q) n ≡ Some a → (phase ≡ 0) × (q ≡ 0) × (slice_get actions n ≡ Some a)
      at zero zero h = (refl, refl, h)
      at zero (suc q) h = absurd (none n h)
      at (suc phase) q h = absurd (none n h)

  -- it is fresh exactly where the list is
  pub fresh-list : IsFresh code →
      lists.ReadKnown (loaded_words code.lanes) (stored_words code.lanes) (λ k. k < code.size) actions
      × lists.ReadKnown (read_registers code.lanes) (put_registers code.lanes) (λ r. ⊥) actions
      × ((k : ℕ) → k < code.size → HaveStored code.lanes actions (padded code + k))
  fresh-list fresh = (
    lists.known-from (loaded_words code.lanes) (stored_words code.lanes) (λ k. k < code.size) actions (λ n a e k has.
        known n k (fresh.loads 0 0 n a (ap (λ xs. slice_get xs n) (acts-are 0 0) ∙ e) k has)),
    lists.known-from (read_registers code.lanes) (put_registers code.lanes) (λ r. ⊥) actions (λ n a e r has.
        inr (subst (λ xs. HavePut code.lanes (take n xs) r) (acts-are 0 0) (fresh.reads 0 0 n a (ap (λ xs. slice_get xs n) (acts-are 0 0) ∙ e) r has))),
    λ k low. let h = fresh.result k low in stored-here h.0 h.1 (padded code + k) (subst (λ xs. HaveStored code.lanes xs (padded code + k)) (acts-are h.0 h.1) h.2),
  )
    where
      known : (n k : ℕ) → IsKnown code 0 0 n k → (k < code.size) ⊎ lists.HavePut (loaded_words code.lanes) (stored_words code.lanes) (take n actions) k
      known n k (inl input) = inl input
      known n k (inr (inl before)) = let low = before.2 in absurd (omega (arith, low))
      known n k (inr (inr now)) = inr (subst (λ xs. HaveStored code.lanes (take n xs) k) (acts-are 0 0) now)

      stored-here : (phase q k : ℕ) → HaveStored code.lanes (listed phase q) k → HaveStored code.lanes actions k
      stored-here zero zero k h = h
      stored-here zero (suc q) k h = absurd (Contains-nil k h)
      stored-here (suc phase) q k h = absurd (Contains-nil k h)

  pub list-fresh : lists.ReadKnown (loaded_words code.lanes) (stored_words code.lanes) (λ k. k < code.size) actions →
      lists.ReadKnown (read_registers code.lanes) (put_registers code.lanes) (λ r. ⊥) actions →
      ((k : ℕ) → k < code.size → HaveStored code.lanes actions (padded code + k)) → IsFresh code
  list-fresh loads reads result =
      record {
        loads = λ phase q n a e k has.
            let at = of-list phase q n a e in
            ⊎_elim
            (λ (input : k < code.size). inl input)
            (λ (now : lists.HavePut (loaded_words code.lanes) (stored_words code.lanes) (take n actions) k).
            inr (inr (subst (λ xs. HaveStored code.lanes (take n xs) k) (sym (there phase q at.0 at.1)) now)))
            (lists.known-at (loaded_words code.lanes) (stored_words code.lanes) (λ k. k < code.size) actions loads n a at.2 k has);
        reads = λ phase q n a e r has.
            let at = of-list phase q n a e in
            ⊎_elim
            (λ (none : ⊥). absurd none)
            (λ (now : lists.HavePut (read_registers code.lanes) (put_registers code.lanes) (take n actions) r).
            subst (λ xs. HavePut code.lanes (take n xs) r) (sym (there phase q at.0 at.1)) now)
            (lists.known-at (read_registers code.lanes) (put_registers code.lanes) (λ r. ⊥) actions reads n a at.2 r has);
        result = λ k low. (0, 0, subst (λ xs. HaveStored code.lanes xs (padded code + k)) (sym (acts-are 0 0)) (result k low));
      }
    where
      there : (phase q : ℕ) → phase ≡ 0 → q ≡ 0 → acts code phase q ≡ actions
      there phase q e e' = acts-are phase q ∙ ap₂ listed e e'

-- ---- programs

own-leads-first : (lanes words size : ℕ) → Leads lanes words (own_homes words) (λ k. k < size) (λ k. k < size)
own-leads-first lanes words size =
    record {
      homes = length-range_with_len 0 words;
      guests = length-range_with_len 0 words;
      leads = λ at to low high there back known.
          let own = get_or-range_with_len 0 words at 0 low in
          let same : at ≡ to = omega (arith, own, there) in
          subst (λ k. k < size) same known;
    }

goes_fresh : (z : PlainLaziness) (p : PlainProgram) (g : Goes p p.phases) → PlainFits p → 1 ≤ p.line →
    IsFresh (plain_code p) → IsFresh (under (word_code (rerouted (chosen g.body) (quickened z p))))
goes_fresh z p g fits line fresh =
    let words = whole_lines p.size p.line in
    let routes = chosen g.body in
    let one = quickened z p in
    let other = rerouted routes one in
    let quick = quick_phases z (header_of p) p.procs p.phases in
    let body = (quick_alone z (header_of p) g.body (loosest z (header_of p))).body in
    let made = rerouted_phase routes in
    let fs = word_actions_of_body one body [] 0 in
    let gs = word_actions_of_body other (made body) [] 0 in
    let phases = one_phase z (header_of p) p.procs p.phases g.body g.only g.alone in
    let lists_are = one_list one body quick p.procs phases g.alone in
    let other_lists = one_list other (made body) (map made quick) p.procs (ap (map made) phases) g.alone in
    let all_under : List (List (List WordAction)) → List (List (List Action)) =
    map (λ (lists : List (List WordAction)). map actions_under lists) in
    let accesses = accesses_of_phase p routes g.body in
    let at_start = own_homes (4 * words) in
    let at_end = homes_after_all p.lanes accesses at_start in
    let fitting : BodyFits p g.body [] =
    subst (λ phases. All (StepFits p) (steps_of_body p (slice_index_or phases 0 NoStmts) [] 0)) g.only
    (fits.each 0 0 (let a = g.alone in omega (arith, a))) in
    let pairs = phase_pairs z p routes routes g.body (loosest z (header_of p)) (chosen_reach g.body) fitting in
    let found = both_true (are_right p.lanes accesses at_start) _ g.may in
    let here : IsFresh (under (word_code one)) = subst IsFresh (sym (code_under_is one ∙ ap plain_code (bare_quickened z p))) fresh in
    let parts = fresh-list (under (word_code one)) (actions_under fs) (ap all_under lists_are) here in
    let K : ℕ → Type 0 = λ k. k < p.size in
    let led = pairs-lead p.lanes (4 * words) fs gs accesses at_start K K pairs found.0 parts.0 (own-leads-first p.lanes (4 * words) p.size) in
    let le : p.size ≤ words = size_within p.size p.line line in
    let inside : words + p.size ≤ 4 * words = omega (arith, le) in
    let result : (k : ℕ) → k < p.size → HaveStored p.lanes (actions_under gs) (words + k) =
    λ k low.
    ⊎_elim
    (λ (input : words + k < p.size). absurd (omega (arith, input, le)))
    (λ (stored : HaveStored p.lanes (actions_under gs) (words + k)). stored)
    (known-home p.lanes (4 * words) p.size words words at_end (λ k. K k ⊎ HaveStored p.lanes (actions_under fs) k)
    (λ k. K k ⊎ HaveStored p.lanes (actions_under gs) k) inside inside found.1
    (λ k range.
    let at = range.0 in
    let below = range.1 in
    let there : words + (k - words) ≡ k = omega (arith, at) in
    inr (subst (HaveStored p.lanes (actions_under fs)) there (parts.2 (k - words) (omega (arith, at, below)))))
    led.after (words + k) (omega arith, omega (arith, low))) in
    list-fresh (under (word_code other)) (actions_under gs) (ap all_under other_lists) led.loads
    (pairs-read p.lanes (4 * words) fs gs accesses (λ r. ⊥) pairs parts.1) result

-- where the program is fresh, so are its words in place
pub in_place_fresh : (z : PlainLaziness) (p : PlainProgram) → PlainFits p → 1 ≤ p.line → IsFresh (plain_code p) →
    IsFresh (under (word_code (in_place p (quickened z p))))
in_place_fresh z p fits line fresh = ⊎_elim stays goes (stays_or_goes p p.phases)
  where
    stays : routes_of p p.phases ≡ [] → IsFresh (under (word_code (in_place p (quickened z p))))
    stays e =
        subst (λ w. IsFresh (under (word_code w))) (sym (ap (λ routes. rerouted routes (quickened z p)) e ∙ no_routes z p))
        (subst IsFresh (sym (code_under_is (quickened z p) ∙ ap plain_code (bare_quickened z p))) fresh)

    goes : Goes p p.phases → IsFresh (under (word_code (in_place p (quickened z p))))
    goes g = subst (λ routes. IsFresh (under (word_code (rerouted routes (quickened z p))))) (sym g.routes) (goes_fresh z p g fits line fresh)
