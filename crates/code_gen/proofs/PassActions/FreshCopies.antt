-- The actions of a pass read registers that the same copy has put before.
use Rattle.std.proofs.Common.{◌≡◌, ℕ, zero, suc, ◌+◌, ◌-◌, ◌<◌, ◌≤◌, ◌⊎◌, List, [], ◌∷◌, ◌++◌, Option, Some, None, length}
use Rattle.std.proofs.Common.{inl, inr, ⊎_elim, refl, sym, ap, subst, arith, Contains, slice_index, flat_map}
use Rattle.std.proofs.lemmas.List.Elements.{Contains-append_cases, Contains-append_left, Contains-append_right}
use Rattle.std.proofs.lemmas.Grind.{flat_map-append}
use Rattle.icode.specs.declared.action.Action.{Action}
use Rattle.icode.specs.declared.action.Action.TheVariants.{Load, Add, Sub, Neg, Mul, Tile}
use Rattle.icode.specs.Sequences.Nests.{bodies, loads}
use Rattle.icode.specs.Fresh.{read_registers, put_registers}
use Rattle.icode.proofs.FreshActions.{range_item, only_item}
use Rattle.icode.proofs.Lines.{Contains-head, Contains-tail, Contains-nil, Contains-range}
use Rattle.kernel_gen.specs.KernelOps.{action_by, actions_by}
use Rattle.kernel_gen.specs.Kernel.{trees_kernel}
use Rattle.kernel_gen.specs.Ordered.{AreOrdered, IsNext}
use Rattle.kernel_gen.specs.declared.straight.KernelOp.{KernelOp}
use Rattle.kernel_gen.specs.declared.straight.KernelOp.TheVariants as instructions
use Rattle.kernel_gen.proofs.Below.{at-AllBelow}
use Rattle.kernel_gen.proofs.Products.{trees-does}
use Rattle.code_gen.specs.PassActions.Acts.{load_at, finish_acts, rows_acts, items_acts, term_acts, horner_acts}
use Rattle.code_gen.specs.PassActions.Acts.{copy_acts, nest_acts, pass_acts}
use Rattle.operators.specs.declared.target.Target.{Target}
use Rattle.sigma_spl.specs.Shared.Machine.{loop_counts}
use Rattle.sigma_spl.specs.Shared.Running.{CanRun, CanRunNest}
use Rattle.sigma_spl.specs.Nest.{PlainMultiplier, PlainNest}
use Rattle.sigma_spl.specs.Work.{PlainWork, kernel, rows, horner, tile, copy, trees_of}
use Rattle.tree_model.specs.Trees.{trees_size}
use Rattle.code_gen.proofs.PassActions.Copies.{nest-can}
use Rattle.code_gen.proofs.PassActions.Fillings.{working}
use Rattle.icode.proofs.FreshLists as lists
use Rattle.icode.proofs.FreshLists.{Nothing}
use Rattle.code_gen.proofs.PassActions.StraightCopies.{row_acts, ends_of, copy_body}

two_items : (x y k : ℕ) → Contains (x ∷ y ∷ []) k → (x ≡ k) ⊎ (y ≡ k)
two_items x y k h =
    ⊎_elim
    (λ (first : Contains (x ∷ []) k). inl (only_item x k first))
    (λ (second : Contains (y ∷ []) k). inr (only_item y k second))
    (Contains-append_cases (x ∷ []) (y ∷ []) k h)

module _ (lanes : ℕ) where
  abbrev pub Reads : (ℕ → Type 0) → List Action → Type 0
  Reads K actions = lists.ReadKnown (read_registers lanes) (put_registers lanes) K actions

  abbrev pub Puts : List Action → ℕ → Type 0
  Puts actions r = lists.HavePut (read_registers lanes) (put_registers lanes) actions r

  wider : (K L : ℕ → Type 0) → ((k : ℕ) → K k → L k) → (actions : List Action) → Reads K actions → Reads L actions
  wider K L le actions h = lists.known-wider (read_registers lanes) (put_registers lanes) K L le actions h

  append : (K : ℕ → Type 0) (xs ys : List Action) → Reads K xs → Reads (λ k. K k ⊎ Puts xs k) ys → Reads K (xs ++ ys)
  append K xs ys first rest = lists.known-append (read_registers lanes) (put_registers lanes) K xs ys first rest

  in_bodies : (K : ℕ → Type 0) (n : ℕ) (body : ℕ → List Action) → ((v : ℕ) → v < n → Reads K (body v)) → Reads K (bodies n body)
  in_bodies K n body each = lists.known-bodies (read_registers lanes) (put_registers lanes) K n body each

  puts_left : (xs ys : List Action) (k : ℕ) → Puts xs k → Puts (xs ++ ys) k
  puts_left xs ys k h =
      subst (λ ks. Contains ks k) (sym (flat_map-append (put_registers lanes) xs ys))
      (Contains-append_left (flat_map (put_registers lanes) xs) (flat_map (put_registers lanes) ys) k h)

  puts_right : (xs ys : List Action) (k : ℕ) → Puts ys k → Puts (xs ++ ys) k
  puts_right xs ys k h =
      subst (λ ks. Contains ks k) (sym (flat_map-append (put_registers lanes) xs ys))
      (Contains-append_right (flat_map (put_registers lanes) xs) (flat_map (put_registers lanes) ys) k h)

  -- loads put the first registers
  loads_read : (K : ℕ → Type 0) (n : ℕ) (at : ℕ → ℕ) → Reads K (loads n at)
  loads_read K n at = in_bodies K n (λ k. Load k (at k) ∷ []) (λ v low. (λ k none. absurd (Contains-nil k none), tt))

  loads_put : (n : ℕ) (at : ℕ → ℕ) (r : ℕ) → r < n → Puts (loads n at) r
  loads_put zero at r low = absurd (omega (arith, low))
  loads_put (suc n) at r low =
      let before : List Action = loads n at in
      ⊎_elim
      (λ (earlier : r < n). puts_left before (Load n (at n) ∷ []) r (loads_put n at r earlier))
      (λ (here : r ≡ n). subst (λ k. Puts (before ++ Load n (at n) ∷ []) k) (sym here) (puts_right before (Load n (at n) ∷ []) n (Contains-head n [])))
      (either r n low)
    where
      either : (r n : ℕ) → r < suc n → (r < n) ⊎ (r ≡ n)
      either zero zero low = inr refl
      either zero (suc n) low = inl (omega arith)
      either (suc r) zero low = absurd (omega (arith, low))
      either (suc r) (suc n) low = ⊎_elim (λ (a : r < n). inl (omega (arith, a))) (λ (b : r ≡ n). inr (ap suc b)) (either r n (omega (arith, low)))

  -- ordered code reads what is below
  next_below : (next r : ℕ) → r < next + 1 → (r < next) ⊎ (next ≡ r)
  next_below zero zero low = inr refl
  next_below zero (suc r) low = absurd (omega (arith, low))
  next_below (suc next) zero low = inl (omega arith)
  next_below (suc next) (suc r) low =
      ⊎_elim (λ (a : r < next). inl (omega (arith, a))) (λ (b : next ≡ r). inr (ap suc b)) (next_below next r (omega (arith, low)))

  put_next : (i : KernelOp) (next : ℕ) → IsNext next i → Contains (put_registers lanes (action_by lanes i)) next
  put_next (instructions.Add r x y) next is = subst (λ k. Contains (r ∷ []) k) is.0 (Contains-head r [])
  put_next (instructions.Sub r x y) next is = subst (λ k. Contains (r ∷ []) k) is.0 (Contains-head r [])
  put_next (instructions.Neg r x) next is = subst (λ k. Contains (r ∷ []) k) is.0 (Contains-head r [])
  put_next (instructions.Mul r x c) next is = subst (λ k. Contains (r ∷ []) k) is.0 (Contains-head r [])

  read_below : (i : KernelOp) (next k : ℕ) → IsNext next i → Contains (read_registers lanes (action_by lanes i)) k → k < next
  read_below (instructions.Add r x y) next k is has = ⊎_elim (λ (e : x ≡ k). subst (λ k. k < next) e is.1) (λ (e : y ≡ k). subst (λ k. k < next) e is.2) (two_items x y k has)
  read_below (instructions.Sub r x y) next k is has = ⊎_elim (λ (e : x ≡ k). subst (λ k. k < next) e is.1) (λ (e : y ≡ k). subst (λ k. k < next) e is.2) (two_items x y k has)
  read_below (instructions.Neg r x) next k is has = subst (λ k. k < next) (only_item x k has) is.1
  read_below (instructions.Mul r x c) next k is has = subst (λ k. k < next) (only_item x k has) is.1

  code_reads : (K : ℕ → Type 0) (next : ℕ) (code : List KernelOp) → ((r : ℕ) → r < next → K r) → AreOrdered next code →
      Reads K (actions_by lanes code)
  code_reads K next [] has ordered = tt
  code_reads K next (i ∷ code) has ordered = (
    λ k read. has k (read_below i next k ordered.0 read),
    code_reads (λ k. K k ⊎ Contains (put_registers lanes (action_by lanes i)) k) (next + 1) code
        (λ r low. ⊎_elim
        (λ (before : r < next). inl (has r before))
        (λ (now : next ≡ r). inr (subst (λ k. Contains (put_registers lanes (action_by lanes i)) k) now (put_next i next ordered.0)))
        (next_below next r low)) ordered.1,
  )

  code_puts : (next : ℕ) (code : List KernelOp) → AreOrdered next code → (r : ℕ) → r < next + length code →
      (r < next) ⊎ Puts (actions_by lanes code) r
  code_puts next [] ordered r low = inl (omega (arith, low))
  code_puts next (i ∷ code) ordered r low =
      ⊎_elim
      (λ (under : r < next + 1). ⊎_elim
      (λ (before : r < next). inl before)
      (λ (now : next ≡ r). inr (subst (λ k. Puts (actions_by lanes (i ∷ code)) k) now
      (Contains-append_left (put_registers lanes (action_by lanes i)) (flat_map (put_registers lanes) (actions_by lanes code)) next (put_next i next ordered.0))))
      (next_below next r under))
      (λ (later : Puts (actions_by lanes code) r). inr (Contains-append_right (put_registers lanes (action_by lanes i)) (flat_map (put_registers lanes) (actions_by lanes code)) r later))
      (code_puts (next + 1) code ordered.1 r (omega (arith, low)))

module _ (c : Target) (p : PlainNest) (source target q : ℕ) (vs : List ℕ) where
  finish_reads : (K : ℕ → Type 0) (o : Option PlainMultiplier) (k from free : ℕ) → K from →
      Reads c.lanes K (finish_acts c p o target q vs k from free)
  finish_reads K None k from free has = (λ r read. subst K (only_item from r read) has, tt)
  finish_reads K (Some d) k from free has = (
    λ r read. subst K (only_item from r read) has,
    (λ r read. inr (subst (λ r. Contains (free ∷ []) r) (only_item free r read) (Contains-head free [])), tt),
  )

  body_reads : (o : Option PlainMultiplier) (middle : List Action) (out : ℕ → ℕ) (used n : ℕ) (from : ℕ → ℕ) →
      ((K : ℕ → Type 0) → ((r : ℕ) → r < n → K r) → Reads c.lanes K middle) →
      ((k : ℕ) → k < n → (out k < n) ⊎ Puts c.lanes middle (out k)) →
      Reads c.lanes Nothing (copy_body c p o middle out used n from target q vs)
  body_reads o middle out used n from code outs =
      let ends : ℕ → List Action = ends_of c p o out used target q vs in
      let K : ℕ → Type 0 = λ r. Nothing r ⊎ Puts c.lanes (loads n from) r in
      let L : ℕ → Type 0 = λ r. K r ⊎ Puts c.lanes middle r in
      append c.lanes Nothing (loads n from) (middle ++ bodies n ends) (loads_read c.lanes Nothing n from)
      (append c.lanes K middle (bodies n ends) (code K (λ r low. inr (loads_put c.lanes n from r low)))
      (in_bodies c.lanes L n ends (λ k low.
      finish_reads L o k (out k) (used + k)
      (⊎_elim
      (λ (under : out k < n). inl (inr (loads_put c.lanes n from (out k) under)))
      (λ (put : Puts c.lanes middle (out k)). inr put)
      (outs k low)))))

  rows_read : (n : ℕ) (turn : ℕ → ℕ → List Action) →
      ((K : ℕ → Type 0) (k l : ℕ) → K 0 → Reads c.lanes K (turn k l)) →
      Reads c.lanes Nothing (rows_acts c p n turn target q vs)
  rows_read n turn each =
      in_bodies c.lanes Nothing n (λ k. row_acts c p n (turn k) target q vs k) (λ k low.
      let K : ℕ → Type 0 = λ r. Nothing r ⊎ Contains (0 ∷ []) r in
      let zero_put : K 0 = inr (Contains-head 0 []) in (
        λ r none. absurd (Contains-nil r none),
        append c.lanes K (bodies n (turn k)) (finish_acts c p p.multiplier target q vs k 0 3)
            (in_bodies c.lanes K n (turn k) (λ l under. each K k l zero_put))
            (finish_reads (λ r. K r ⊎ Puts c.lanes (bodies n (turn k)) r) p.multiplier k 0 3 (inl zero_put)),
      ))

  term_reads : (root : ℕ) (K : ℕ → Type 0) (k l : ℕ) → K 0 → Reads c.lanes K (term_acts c p root source q vs k l)
  term_reads root K k l has = (
    λ r none. absurd (Contains-nil r none),
    (
      λ r read. inr (subst (λ r. Contains (1 ∷ []) r) (only_item 1 r read) (Contains-head 1 [])),
      (
        λ r read. ⊎_elim
            (λ (first : 0 ≡ r). subst (λ r. (K r ⊎ Contains (1 ∷ []) r) ⊎ Contains (2 ∷ []) r) first (inl (inl has)))
            (λ (second : 2 ≡ r). subst (λ r. (K r ⊎ Contains (1 ∷ []) r) ⊎ Contains (2 ∷ []) r) second (inr (Contains-head 2 [])))
            (two_items 0 2 r read),
        tt,
      ),
    ),
  )

  horner_reads : (root size : ℕ) (K : ℕ → Type 0) (k t : ℕ) → K 0 → Reads c.lanes K (horner_acts c p root size source q vs k t)
  horner_reads root size K k t has = (
    λ r read. subst K (only_item 0 r read) has,
    (
      λ r none. absurd (Contains-nil r none),
      (
        λ r read. ⊎_elim
            (λ (first : 1 ≡ r). subst (λ r. (K r ⊎ Contains (1 ∷ []) r) ⊎ Contains (2 ∷ []) r) first (inl (inr (Contains-head 1 []))))
            (λ (second : 2 ≡ r). subst (λ r. (K r ⊎ Contains (1 ∷ []) r) ⊎ Contains (2 ∷ []) r) second (inr (Contains-head 2 [])))
            (two_items 1 2 r read),
        tt,
      ),
    ),
  )

  items_read : (n : ℕ) → Reads c.lanes Nothing (items_acts c p n source target q vs)
  items_read n =
      in_bodies c.lanes Nothing n (λ k. Load 0 (source + load_at c p q vs k) ∷ finish_acts c p p.multiplier target q vs k 0 1)
      (λ k low. (
        λ r none. absurd (Contains-nil r none),
        finish_reads (λ r. Nothing r ⊎ Contains (0 ∷ []) r) p.multiplier k 0 1 (inr (Contains-head 0 [])),
      ))

copy_reads : (c : Target) (p : PlainNest) (w : PlainWork) → 2 ≤ c.modulus → CanRunNest c (working p w) →
    (source target q : ℕ) (vs : List ℕ) → Reads c.lanes Nothing (copy_acts c (working p w) w source target q vs)
copy_reads c p (kernel k) modulus can source target q vs =
    let n = trees_size (trees_of k) in
    let made = trees_kernel c.modulus (trees_of k) in
    let done = trees-does c.modulus 1 (trees_of k) modulus can.work.trees in
    body_reads c (working p (kernel k)) source target q vs p.multiplier (actions_by c.lanes made.code) (slice_index made.outs)
    made.next n (λ j. source + load_at c (working p (kernel k)) q vs j)
    (λ K has. code_reads c.lanes K n made.code has done.ordered)
    (λ j low.
    code_puts c.lanes n made.code done.ordered (slice_index made.outs j)
    (let next = done.next_is in
    let below = at-AllBelow made.next made.outs j done.below (let sized = done.sized in omega (arith, sized, low)) in
    omega (arith, next, below)))
copy_reads c p (rows root n) modulus can source target q vs =
    let z : PlainNest = working p (rows root n) in
    rows_read c z source target q vs n (term_acts c z root source q vs) (term_reads c z source target q vs root)
copy_reads c p (horner root n) modulus can source target q vs =
    let z : PlainNest = working p (horner root n) in
    rows_read c z source target q vs n (horner_acts c z root n source q vs) (horner_reads c z source target q vs root n)
copy_reads c p (tile v) modulus can source target q vs =
    let same : v ≡ c.lanes = can.work in
    body_reads c (working p (tile v)) source target q vs p.multiplier (Tile v 0 ∷ []) (λ k. v + k) (v + v) v
    (λ k. source + load_at c (working p (tile v)) q vs k)
    (λ K has. (λ r read. has r (let item = range_item 0 c.lanes r read in omega (arith, item.1, same)), tt))
    (λ k low. inr (Contains-append_left (put_registers c.lanes (Tile v 0)) [] (v + k) (Contains-range c.lanes v (v + k) (omega arith) (omega (arith, low, same)))))
copy_reads c p (copy n) modulus can source target q vs = items_read c (working p (copy n)) source target q vs n

-- all copies of a pass
module _ (c : Target) (zs : List PlainNest) (can : CanRun c zs) (source target q : ℕ) where
  nests_read : (ys : List PlainNest) → ((p : PlainNest) → Contains ys p → Contains zs p) →
      Reads c.lanes Nothing (pass_acts c ys source target q)
  nests_read [] within = tt
  nests_read (z ∷ ys) within =
      let one = within z (Contains-head z ys) in
      lists.known-both (read_registers c.lanes) (put_registers c.lanes) Nothing (nest_acts c z source target q) (pass_acts c ys source target q)
      (lists.known-nest (read_registers c.lanes) (put_registers c.lanes) Nothing (loop_counts c z) (copy_acts c z z.work source target q) [] (λ vs range.
      copy_reads c z z.work can.modulus (nest-can c zs can z one) source target q vs))
      (nests_read ys (λ p there. within p (Contains-tail z ys p there)))

  pub pass_reads : Reads c.lanes Nothing (pass_acts c zs source target q)
  pass_reads = nests_read zs (λ p one. one)
