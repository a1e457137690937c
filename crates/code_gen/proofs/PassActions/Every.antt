-- What holds of all actions of a pass on a processor: of those in registers alone, of its loads, and of its stores.
use Rattle.std.proofs.Common.{ℕ, zero, suc, ◌+◌, ◌-◌, ◌*◌, ◌<◌, ◌≤◌, arith, inr, List, [], ◌∷◌, ◌++◌, sym, subst}
use Rattle.std.proofs.Common.{append-nil, append_assoc, Contains, refl, ◌≡◌, slice_index, Option, Some, None, All}
use Rattle.std.proofs.lemmas.List.Elements.{All-nil, All-cons, All-append}
use Rattle.icode.proofs.Lines.{Contains-head, Contains-tail}
use Rattle.icode.specs.Actions.{lane_factors}
use Rattle.icode.specs.declared.action.Action.{Action}
use Rattle.icode.specs.declared.action.Action.TheVariants.{Load, Store, Zero, Add, Sub, Neg, Mul, Tile}
use Rattle.icode.specs.Sequences.Nests.{bodies, nest, loads, AreInRange}
use Rattle.kernel_gen.specs.KernelOps.{AreWithin, IsWithin, action_by, actions_by}
use Rattle.kernel_gen.specs.Kernel.{trees_kernel}
use Rattle.kernel_gen.specs.declared.straight.KernelOp.{KernelOp}
use Rattle.kernel_gen.specs.declared.straight.KernelOp.TheVariants as instructions
use Rattle.kernel_gen.proofs.Below.{at-AllBelow}
use Rattle.kernel_gen.proofs.KernelOps.{factors-fit}
use Rattle.kernel_gen.proofs.Products.{trees-does}
use Rattle.ring_mod.specs.Residue.{power_mod}
use Rattle.code_gen.specs.PassActions.Acts.{load_at, store_at, finish_acts, rows_acts, items_acts, term_acts}
use Rattle.code_gen.specs.PassActions.Acts.{horner_acts, copy_acts, nest_acts, pass_acts, with_multiplier}
use Rattle.code_gen.specs.PassActions.Acts.{nest_registers, pass_registers}
use Rattle.code_gen.specs.PassActions.Laws.{IsFit}
use Rattle.operators.specs.declared.target.Target.{Target}
use Rattle.sigma_spl.specs.Shared.Machine.{item_of, loop_counts, values_of}
use Rattle.sigma_spl.specs.Shared.Running.{CanRun, CanRunNest, IsLoadedBy, IsStoredBy}
use Rattle.code_gen.proofs.PassActions.Copies.{IsWordOf, loaded-word, modulus-some, nest-can, stored-word, of_code}
use Rattle.code_gen.proofs.PassActions.Fillings.{working, registers-le}
use Rattle.code_gen.proofs.PassActions.StraightCopies.{row_acts, ends_of, copy_body, finish-few}
use Rattle.sigma_spl.specs.Nest.{PlainMultiplier, PlainNest, factor_at, store_place}
use Rattle.sigma_spl.specs.Work.{PlainWork, kernel, rows, horner, tile, copy, vectors_of, trees_of}
use Rattle.tree_model.specs.Trees.{trees_size}
use Rattle.matrix_meaning.proofs.Requests.{power_below}

-- the action neither loads nor stores
abbrev pub StaysInRegisters : Action → Type 0
StaysInRegisters (Load r a) = ⊥
StaysInRegisters (Store a r) = ⊥
StaysInRegisters _ = Unit {0}

module _ (c : Target) (regs : ℕ) (some : 0 < c.modulus) (P : Action → Type 0)
    (has : (x : Action) → StaysInRegisters x → IsFit regs c.lanes c.modulus x → P x) where
  -- a product, and code whose registers are among those that there are
  product-has : (r x : ℕ) (factor : ℕ → ℕ) → r < regs → x < regs → ((lane : ℕ) → factor lane < c.modulus) →
      P (Mul r x (lane_factors c.lanes factor))
  product-has r x factor low high small =
      has (Mul r x (lane_factors c.lanes factor)) tt
      (record { registers = (low, high); factors = factors-fit c.modulus c.lanes factor some small })

  in-code : (bound : ℕ) → bound ≤ regs → (code : List KernelOp) → AreWithin c.modulus bound code →
      All P (actions_by c.lanes code)
  in-code bound low [] are = All-nil P
  in-code bound low (i ∷ code) are =
      All-cons P (action_by c.lanes i) (actions_by c.lanes code) (one i are.0) (in-code bound low code are.1)
    where
      wider : (r : ℕ) → r < bound → r < regs
      wider r below = omega (arith, below, low)

      one : (i : KernelOp) → IsWithin c.modulus bound i → P (action_by c.lanes i)
      one (instructions.Add r x y) is =
          has (Add r x y) tt (record { registers = (wider r is.0, wider x is.1, wider y is.2); factors = tt })
      one (instructions.Sub r x y) is =
          has (Sub r x y) tt (record { registers = (wider r is.0, wider x is.1, wider y is.2); factors = tt })
      one (instructions.Neg r x) is =
          has (Neg r x) tt (record { registers = (wider r is.0, wider x is.1); factors = tt })
      one (instructions.Mul r x factor) is = product-has r x (λ _. factor) (wider r is.0) (wider x is.1) (λ _. is.2)

  -- ---- loops

  in-bodies : (n : ℕ) (body : ℕ → List Action) → ((v : ℕ) → v < n → All P (body v)) → All P (bodies n body)
  in-bodies zero body each = All-nil P
  in-bodies (suc n) body each =
      All-append P (bodies n body) (body n) (in-bodies n body (λ v below. each v (omega arith))) (each n (omega arith))

  in-nest : (counts : List ℕ) (body : List ℕ → List Action) (outer : List ℕ) →
      ((vs : List ℕ) → AreInRange counts vs → All P (body (outer ++ vs))) → All P (nest counts body outer)
  in-nest [] body outer each = subst (λ us. All P (body us)) (append-nil outer) (each [] tt)
  in-nest (count ∷ counts) body outer each =
      in-bodies count (λ v. nest counts body (outer ++ v ∷ [])) (λ v below.
      in-nest counts body (outer ++ v ∷ []) (λ vs range.
      subst (λ us. All P (body us)) (sym (append_assoc outer (v ∷ []) vs)) (each (v ∷ vs) (below, range))))

  -- ---- a copy, whose loads and stores have it

  module _ (p : PlainNest) (source target q : ℕ) (vs : List ℕ) (n : ℕ)
      (load : (k r : ℕ) → k < n → r < regs → P (Load r (source + load_at c p q vs k)))
      (store : (k r : ℕ) → k < n → r < regs → P (Store (target + store_at c p q vs k) r)) where
    abbrev AreResidues : Option PlainMultiplier → Type 0
    AreResidues o = (d : PlainMultiplier) → o ≡ Some d → (i : ℕ) → factor_at c.modulus d.factors i < c.modulus

    in-finish : (o : Option PlainMultiplier) (k from free used more : ℕ) → AreResidues o → k < n → from < used →
        free < used + more → with_multiplier o used more ≤ regs → All P (finish_acts c p o target q vs k from free)
    in-finish None k from free used more small below low high few =
        All-cons P (Store (target + store_at c p q vs k) from) [] (store k from below (omega arith)) (All-nil P)
    in-finish (Some d) k from free used more small below low high few =
        let entry : ℕ → ℕ =
        λ lane. store_place p.work d.places (values_of c p.work q lane vs) (item_of p.work k lane) in
        All-cons P (Mul free from (lane_factors c.lanes (λ lane. factor_at c.modulus d.factors (entry lane))))
        (Store (target + store_at c p q vs k) free ∷ [])
        (product-has free from (λ lane. factor_at c.modulus d.factors (entry lane)) (omega arith) (omega arith) (λ lane.
        small d refl (entry lane)))
        (All-cons P (Store (target + store_at c p q vs k) free) [] (store k free below (omega arith)) (All-nil P))

    in-body : (o : Option PlainMultiplier) (middle : List Action) (out : ℕ → ℕ) (used : ℕ) → AreResidues o → n ≤ used →
        with_multiplier o used n ≤ regs → All P middle → ((k : ℕ) → k < n → out k < used) →
        All P (copy_body c p o middle out used n (λ k. source + load_at c p q vs k) target q vs)
    in-body o middle out used small grows few code outs =
        let from : ℕ → ℕ = λ k. source + load_at c p q vs k in
        let room : used ≤ regs = finish-few o used n regs few in
        let ends : ℕ → List Action = ends_of c p o out used target q vs in
        All-append P (loads n from) (middle ++ bodies n ends)
        (in-bodies n (λ k. Load k (from k) ∷ []) (λ k below.
        All-cons P (Load k (from k)) [] (load k k below (omega arith)) (All-nil P)))
        (All-append P middle (bodies n ends) code
        (in-bodies n ends (λ k below.
        in-finish o k (out k) (used + k) used n small below (outs k below) (omega arith) few)))

    in-rows : (turn : ℕ → ℕ → List Action) → AreResidues p.multiplier → with_multiplier p.multiplier 3 1 ≤ regs →
        ((k l : ℕ) → l < n → All P (turn k l)) → All P (rows_acts c p n turn target q vs)
    in-rows turn small few each =
        let room : 3 ≤ regs = finish-few p.multiplier 3 1 regs few in
        in-bodies n (λ k. row_acts c p n (turn k) target q vs k) (λ k below.
        All-cons P (Zero 0) (bodies n (turn k) ++ finish_acts c p p.multiplier target q vs k 0 3)
        (has (Zero 0) tt (record { registers = omega arith; factors = tt }))
        (All-append P (bodies n (turn k)) (finish_acts c p p.multiplier target q vs k 0 3)
        (in-bodies n (turn k) (λ l under. each k l under))
        (in-finish p.multiplier k 0 3 3 1 small below (omega arith) (omega arith) few)))

    -- a load, a product and a sum
    in-term : (root k l : ℕ) → 3 ≤ regs → l < n → All P (term_acts c p root source q vs k l)
    in-term root k l room below =
        let factor : ℕ → ℕ = λ _. power_mod c.modulus root (k * l) in
        let small = power_below c.modulus root (k * l) some in
        All-cons P (Load 1 (source + load_at c p q vs l)) (Mul 2 1 (lane_factors c.lanes factor) ∷ Add 0 0 2 ∷ [])
        (load l 1 below (omega arith))
        (All-cons P (Mul 2 1 (lane_factors c.lanes factor)) (Add 0 0 2 ∷ [])
        (product-has 2 1 factor (omega arith) (omega arith) (λ _. small))
        (All-cons P (Add 0 0 2) []
        (has (Add 0 0 2) tt (record { registers = (omega arith, omega arith, omega arith); factors = tt }))
        (All-nil P)))

    in-horner : (root k t : ℕ) → 3 ≤ regs → t < n → All P (horner_acts c p root n source q vs k t)
    in-horner root k t room below =
        let factor : ℕ → ℕ = λ _. power_mod c.modulus root k in
        let small = power_below c.modulus root k some in
        let from : ℕ = source + load_at c p q vs (n - 1 - t) in
        All-cons P (Mul 1 0 (lane_factors c.lanes factor)) (Load 2 from ∷ Add 0 1 2 ∷ [])
        (product-has 1 0 factor (omega arith) (omega arith) (λ _. small))
        (All-cons P (Load 2 from) (Add 0 1 2 ∷ []) (load (n - 1 - t) 2 (omega arith) (omega arith))
        (All-cons P (Add 0 1 2) []
        (has (Add 0 1 2) tt (record { registers = (omega arith, omega arith, omega arith); factors = tt }))
        (All-nil P)))

    in-items : AreResidues p.multiplier → with_multiplier p.multiplier 1 1 ≤ regs →
        All P (items_acts c p n source target q vs)
    in-items small few =
        let from : ℕ → ℕ = λ k. source + load_at c p q vs k in
        let ends : ℕ → List Action = λ k. finish_acts c p p.multiplier target q vs k 0 1 in
        let room : 1 ≤ regs = finish-few p.multiplier 1 1 regs few in
        in-bodies n (λ k. Load 0 (from k) ∷ ends k) (λ k below.
        All-cons P (Load 0 (from k)) (ends k) (load k 0 below (omega arith))
        (in-finish p.multiplier k 0 1 1 1 small below (omega arith) (omega arith) few))

  -- ---- a work

  in-copy : (p : PlainNest) (w : PlainWork) → 2 ≤ c.modulus → CanRunNest c (working p w) →
      nest_registers c.modulus (working p w) w ≤ regs → (source target q : ℕ) (vs : List ℕ) →
      ((k r : ℕ) → k < vectors_of w → r < regs → P (Load r (source + load_at c (working p w) q vs k))) →
      ((k r : ℕ) → k < vectors_of w → r < regs → P (Store (target + store_at c (working p w) q vs k) r)) →
      All P (copy_acts c (working p w) w source target q vs)
  in-copy p (kernel k) modulus can few source target q vs load store =
      let n = trees_size (trees_of k) in
      let made = trees_kernel c.modulus (trees_of k) in
      let done = trees-does c.modulus 1 (trees_of k) modulus can.work.trees in
      in-body (working p (kernel k)) source target q vs n load store p.multiplier (actions_by c.lanes made.code)
      (slice_index made.outs) made.next can.residues (let next = done.next_is in omega (arith, next)) few
      (in-code made.next (finish-few p.multiplier made.next n regs few) made.code done.within)
      (λ k below. at-AllBelow made.next made.outs k done.below (let sized = done.sized in omega arith))
  in-copy p (rows root n) modulus can few source target q vs load store =
      let z : PlainNest = working p (rows root n) in
      in-rows z source target q vs n load store (term_acts c z root source q vs) can.residues few (λ k l below.
      in-term z source target q vs n load store root k l (finish-few p.multiplier 3 1 regs few) below)
  in-copy p (horner root n) modulus can few source target q vs load store =
      let z : PlainNest = working p (horner root n) in
      in-rows z source target q vs n load store (horner_acts c z root n source q vs) can.residues few (λ k t below.
      in-horner z source target q vs n load store root k t (finish-few p.multiplier 3 1 regs few) below)
  in-copy p (tile v) modulus can few source target q vs load store =
      let same : v ≡ c.lanes = can.work in
      let room : v + v ≤ regs = finish-few p.multiplier (v + v) v regs few in
      let apart : 0 + c.lanes ≤ v = omega arith in
      in-body (working p (tile v)) source target q vs v load store p.multiplier (Tile v 0 ∷ []) (λ k. v + k) (v + v)
      can.residues (omega arith) few
      (All-cons P (Tile v 0) []
      (has (Tile v 0) tt (record { registers = (omega arith, omega arith, inr apart); factors = tt })) (All-nil P))
      (λ k below. omega arith)
  in-copy p (copy n) modulus can few source target q vs load store =
      in-items (working p (copy n)) source target q vs n load store can.residues few

-- ---- a pass, where each load is of words that the processor loads, and each store to words that it stores

module _ (c : Target) (zs : List PlainNest) (can : CanRun c zs) (P : Action → Type 0)
    (has : (x : Action) → StaysInRegisters x → IsFit (pass_registers c.modulus zs) c.lanes c.modulus x → P x)
    (source target q : ℕ) (part : q < c.procs)
    (load : (a r : ℕ) → ((lane : ℕ) → lane < c.lanes → IsWordOf c zs can source (IsLoadedBy c zs q) (a + lane)) →
    r < pass_registers c.modulus zs → P (Load r a))
    (store : (a r : ℕ) → ((lane : ℕ) → lane < c.lanes → IsWordOf c zs can target (IsStoredBy c zs q) (a + lane)) →
    r < pass_registers c.modulus zs → P (Store a r)) where
  in-nests : (ys : List PlainNest) → ((p : PlainNest) → Contains ys p → Contains zs p) →
      All P (pass_acts c ys source target q)
  in-nests [] within = All-nil P
  in-nests (z ∷ ys) within =
      let regs = pass_registers c.modulus zs in
      let some = modulus-some c zs can in
      let one = within z (Contains-head z ys) in
      let facts = nest-can c zs can z one in
      All-append P (nest_acts c z source target q) (pass_acts c ys source target q)
      (in-nest c regs some P has (loop_counts c z) (copy_acts c z z.work source target q) [] (λ vs range.
      let mine = of_code c z facts.framed vs range in
      in-copy c regs some P has z z.work can.modulus facts (registers-le c zs z one) source target q vs
      (λ k r below low. load (source + load_at c z q vs k) r
      (λ lane on. loaded-word c zs can z one q part vs mine k lane below on source) low)
      (λ k r below low. store (target + store_at c z q vs k) r
      (λ lane on. stored-word c zs can z one q part vs mine k lane below on target) low)))
      (in-nests ys (λ p there. within p (Contains-tail z ys p there)))

  pub every : All P (pass_acts c zs source target q)
  every = in-nests zs (λ p one. one)

-- the registers and factors of a pass
pub pass-fits : (c : Target) (zs : List PlainNest) → CanRun c zs → (source target q : ℕ) → q < c.procs →
    All (IsFit (pass_registers c.modulus zs) c.lanes c.modulus) (pass_acts c zs source target q)
pass-fits c zs can source target q part =
    every c zs can (IsFit (pass_registers c.modulus zs) c.lanes c.modulus) (λ x stays fit. fit) source target q part
    (λ a r words low. record { registers = low; factors = tt })
    (λ a r words low. record { registers = low; factors = tt })
