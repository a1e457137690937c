-- What the actions of nests and passes count, and that they are not too many.
use Rattle.std.proofs.Common.{◌≡◌, ℕ, zero, suc, ◌+◌, ◌*◌, refl, sym, ap, ap₂, ◌∙◌, arith, List, [], ◌∷◌, ◌++◌}
use Rattle.std.proofs.Common.{zero-add, zero-mul, mul-zero, suc-mul, Option, Some, None, ◌<◌, ◌≤◌, All, mul_comm}
use Rattle.std.proofs.Common.{one-mul, slice_index, length, length-append, Contains, mul-le-mul_left}
use Rattle.std.proofs.lemmas.List.Elements.{All-head, All-tail}
use Rattle.std.proofs.lemmas.List.{length-map}
use Rattle.icode.specs.declared.action.Action.{Action}
use Rattle.icode.specs.declared.action.Action.TheVariants.{Load, Zero, Tile}
use Rattle.icode.proofs.Counting.{add-up}
use Rattle.icode.specs.Machine.{counts_of}
use Rattle.icode.specs.Sequences.Lanes.{weighted_operations}
use Rattle.icode.specs.Sequences.Nests.{bodies, nest, loads}
use Rattle.kernel_gen.specs.KernelOps.{actions_by, code_cost, action_by}
use Rattle.kernel_gen.specs.declared.straight.KernelOp.{KernelOp}
use Rattle.kernel_gen.proofs.KernelOps.{actions-cost, no-traffic, actions-operations}
use Rattle.kernel_gen.proofs.Pieces.{weighted-append}
use Rattle.code_gen.specs.PassActions.Acts.{finish_acts, items_acts, load_at, rows_acts, copy_acts, nest_acts}
use Rattle.code_gen.specs.PassActions.Acts.{pass_acts, term_acts, horner_acts}
use Rattle.operators.specs.declared.target.Target.{Target}
use Rattle.sigma_spl.specs.Counts.{copies_in, multiplier_cost}
use Rattle.sigma_spl.specs.Nest.{PlainMultiplier, PlainNest}
use Rattle.sigma_spl.specs.Shared.Names.{Share, lanes_round, own_copies, share_of}
use Rattle.icode.proofs.SequenceLemmas.ByLane.{weighted_is_by_lane, weight_of_one}
use Rattle.kernel_gen.specs.Kernel.{trees_kernel}
use Rattle.tree_model.specs.KernelCosts.{trees_cost, CanMake}
use Rattle.kernel_gen.proofs.Products.{trees-does}
use Rattle.code_gen.specs.PassActions.Laws.{counted}
use Rattle.sigma_spl.specs.Shared.Running.{CanRunNest, CanWork, CanRun}
use Rattle.sigma_spl.specs.Shared.Costs.{work_cost, work_loads, pass_cost, pass_loads}
use Rattle.sigma_spl.specs.Shared.Machine.{loop_counts}
use Rattle.sigma_spl.specs.Work.{PlainWork, kernel, rows, horner, tile, copy, work_size, trees_of}
use Rattle.tree_model.specs.Trees.{trees_size, PlainTrees}
use Rattle.icode.proofs.Lines.{Contains-head, Contains-tail}
use Rattle.sigma_spl.proofs.Shares.{runs_have_shares}
use Rattle.code_gen.proofs.PassActions.StraightCopies.{row_acts, ends_of, copy_body}
use Rattle.code_gen.proofs.PassActions.Fillings.{working}
use Rattle.code_gen.proofs.PassActions.Copies.{nest-can}

abbrev pub counts : ℕ → ℕ → ℕ → Share
counts o l s = record { operations = o; loads = l; stores = s }

-- what a list of actions counts: its operations, where a product counts as several, and the words that it loads and stores
abbrev pub tally : ℕ → ℕ → List Action → Share
tally weight lanes actions = counts (lanes * weighted_operations weight actions) (counts_of lanes actions).loads (counts_of lanes actions).stores

pub counts-same : (a b : Share) → a.operations ≡ b.operations → a.loads ≡ b.loads → a.stores ≡ b.stores → a ≡ b
counts-same a b o l s = ap (λ x. counts x a.loads a.stores) o ∙ ap₂ (λ x y. counts b.operations x y) l s

abbrev pub plus : Share → Share → Share
plus a b = counts (a.operations + b.operations) (a.loads + b.loads) (a.stores + b.stores)

abbrev times : ℕ → Share → Share
times n c = counts (n * c.operations) (n * c.loads) (n * c.stores)

-- loops in one another
times-times : (a b o l s : ℕ) → times a (times b (counts o l s)) ≡ times (a * b) (counts o l s)
times-times a b o l s = counts-same _ _ (omega arith) (omega arith) (omega arith)

times-one : (o l s : ℕ) → counts o l s ≡ times 1 (counts o l s)
times-one o l s = counts-same _ _ (omega arith) (omega arith) (omega arith)

-- the product of an item that is multiplied
abbrev pub products_of : ℕ → Option PlainMultiplier → ℕ
products_of weight None = 0
products_of weight (Some d) = weight

module _ (weight lanes : ℕ) where
  pub counts-append : (xs ys : List Action) → tally weight lanes (xs ++ ys) ≡ plus (tally weight lanes xs)
      (tally weight lanes ys)
  counts-append xs ys =
      let words = add-up lanes xs ys in
      let spread : lanes * (weighted_operations weight xs + weighted_operations weight ys) ≡ lanes * weighted_operations weight xs + lanes * weighted_operations weight ys = omega arith in
      counts-same _ _ (ap (λ n. lanes * n) (weighted-append weight xs ys) ∙ spread) words.loads words.stores

  -- a register that is cleared counts nothing
  zero-free : (r : ℕ) (xs : List Action) → tally weight lanes (Zero r ∷ xs) ≡ tally weight lanes xs
  zero-free r xs = counts-same _ _ (ap (λ n. lanes * n) (zero-add (weighted_operations weight xs))) refl refl

  -- a load before other actions
  load-first : (r a : ℕ) (xs : List Action) (o l s : ℕ) → tally weight lanes xs ≡ counts o l s →
      tally weight lanes (Load r a ∷ xs) ≡ counts o (l + lanes) s
  load-first r a xs o l s is =
      counts-same _ _ (ap (λ n. lanes * n) (zero-add (weighted_operations weight xs)) ∙ ap (λ (z : Share). z.operations) is) (ap (λ (z : Share). z.loads + lanes) is) (ap (λ (z : Share). z.stores) is)

  -- bodies that all count the same
  counts-bodies : (n : ℕ) (body : ℕ → List Action) (c : Share) → ((v : ℕ) → tally weight lanes (body v) ≡ c) →
      tally weight lanes (bodies n body) ≡ times n c
  counts-bodies zero body c each = counts-same _ _ (mul-zero lanes ∙ sym (zero-mul c.operations)) (sym (zero-mul c.loads)) (sym (zero-mul c.stores))
  counts-bodies (suc n) body c each =
      counts-append (bodies n body) (body n)
      ∙ ap₂ plus (counts-bodies n body c each) (each n)
      ∙ counts-same _ _ (sym (suc-mul n c.operations)) (sym (suc-mul n c.loads)) (sym (suc-mul n c.stores))

  -- so in loops
  pub counts-nest : (loops : List ℕ) (body : List ℕ → List Action) (o l s : ℕ) →
      ((vs : List ℕ) → tally weight lanes (body vs) ≡ counts o l s) → (outer : List ℕ) →
      tally weight lanes (nest loops body outer) ≡ counts (copies_in loops * o) (copies_in loops * l)
      (copies_in loops * s)
  counts-nest [] body o l s each outer = each outer ∙ times-one o l s
  counts-nest (t ∷ loops) body o l s each outer =
      counts-bodies t (λ v. nest loops body (outer ++ v ∷ [])) (times (copies_in loops) (counts o l s)) (λ v. counts-nest loops body o l s each (outer ++ v ∷ []))
      ∙ times-times t (copies_in loops) o l s

-- ---- copies

-- code has its cost on each lane
pub counts-code : (weight lanes price : ℕ) (code : List KernelOp) → code_cost weight code ≡ price →
    tally weight lanes (actions_by lanes code) ≡ counts (lanes * price) 0 0
counts-code weight lanes price code costs = let none = no-traffic lanes code in counts-same _ _ (ap (λ o. lanes * o) (actions-cost weight lanes code ∙ costs)) none.0 none.1

module _ (weight : ℕ) (c : Target) (p : PlainNest) (target q : ℕ) (vs : List ℕ) where
  counts-finish : (o : Option PlainMultiplier) (k from free : ℕ) →
      tally weight c.lanes (finish_acts c p o target q vs k from free)
      ≡ counts (c.lanes * products_of weight o) 0 c.lanes
  counts-finish None k from free = counts-same _ _ (omega arith) refl (omega arith)
  counts-finish (Some d) k from free = counts-same _ _ (omega arith) refl (omega arith)

  -- straight code with `n` operations
  pub counts-body : (o : Option PlainMultiplier) (middle : List Action) (out : ℕ → ℕ) (used n price : ℕ)
      (from : ℕ → ℕ) → tally weight c.lanes middle ≡ counts price 0 0 →
      tally weight c.lanes (copy_body c p o middle out used n from target q vs)
      ≡ counts (price + n * (c.lanes * products_of weight o)) (n * c.lanes) (n * c.lanes)
  counts-body o middle out used n price from code =
      let ends : ℕ → List Action = ends_of c p o out used target q vs in
      counts-append weight c.lanes (loads n from) (middle ++ bodies n ends)
      ∙ ap₂ plus (counts-bodies weight c.lanes n (λ k. Load k (from k) ∷ []) (counts 0 c.lanes 0) (λ k. counts-same _ _ (omega arith) (omega arith) refl))
      (counts-append weight c.lanes middle (bodies n ends) ∙ ap₂ plus code (counts-bodies weight c.lanes n ends (counts (c.lanes * products_of weight o) 0 c.lanes) (λ k. counts-finish o k (out k) (used + k))))
      ∙ counts-same _ _ (omega arith) (omega arith) (omega arith)

  -- turns of two operations and a load each
  counts-row : (n : ℕ) (turn : ℕ → List Action) (k : ℕ) → ((l : ℕ) →
      tally weight c.lanes (turn l) ≡ counts ((1 + weight) * c.lanes) c.lanes 0) →
      tally weight c.lanes (row_acts c p n turn target q vs k)
      ≡ counts (n * ((1 + weight) * c.lanes) + c.lanes * products_of weight p.multiplier) (n * c.lanes) c.lanes
  counts-row n turn k each =
      zero-free weight c.lanes 0 (bodies n turn ++ finish_acts c p p.multiplier target q vs k 0 3)
      ∙ counts-append weight c.lanes (bodies n turn) (finish_acts c p p.multiplier target q vs k 0 3)
      ∙ ap₂ plus (counts-bodies weight c.lanes n turn (counts ((1 + weight) * c.lanes) c.lanes 0) each) (counts-finish p.multiplier k 0 3)
      ∙ counts-same _ _ refl (omega arith) (omega arith)

  pub counts-rows : (n : ℕ) (turn : ℕ → ℕ → List Action) → ((k l : ℕ) →
      tally weight c.lanes (turn k l) ≡ counts ((1 + weight) * c.lanes) c.lanes 0) →
      tally weight c.lanes (rows_acts c p n turn target q vs)
      ≡ counts (n * (n * ((1 + weight) * c.lanes) + c.lanes * products_of weight p.multiplier)) (n * (n * c.lanes))
      (n * c.lanes)
  counts-rows n turn each =
      counts-bodies weight c.lanes n (λ k. row_acts c p n (turn k) target q vs k) (counts (n * ((1 + weight) * c.lanes) + c.lanes * products_of weight p.multiplier) (n * c.lanes) c.lanes) (λ k. counts-row n (turn k) k (each k))

  pub counts-items : (n source : ℕ) → tally weight c.lanes (items_acts c p n source target q vs)
      ≡ counts (n * (c.lanes * products_of weight p.multiplier)) (n * c.lanes) (n * c.lanes)
  counts-items n source =
      counts-bodies weight c.lanes n (λ k. Load 0 (source + load_at c p q vs k) ∷ finish_acts c p p.multiplier target q vs k 0 1) (counts (c.lanes * products_of weight p.multiplier) c.lanes c.lanes) (λ k.
      load-first weight c.lanes 0 (source + load_at c p q vs k) (finish_acts c p p.multiplier target q vs k 0 1) (c.lanes * products_of weight p.multiplier) 0 c.lanes (counts-finish p.multiplier k 0 1)
      ∙ counts-same _ _ refl (omega arith) refl)

-- ---- each processor's part of a pass counts its share of the pass

products-are : (weight : ℕ) (o : Option PlainMultiplier) (w : PlainWork) →
    multiplier_cost weight o w ≡ work_size w * products_of weight o
products-are weight None w = omega arith
products-are weight (Some d) w = omega arith

kernel_share : (lanes price n products : ℕ) → lanes * price + n * (lanes * products) ≡ lanes * (price + n * products)
kernel_share lanes price n products = omega arith

-- n rows of n turns that count a each
rows_share : (lanes a n products : ℕ) → n * (n * (a * lanes) + lanes * products) ≡ lanes * (a * n * n + n * products)
rows_share lanes a n products =
    let left : n * (n * (a * lanes) + lanes * products) ≡ n * (n * (a * lanes)) + n * (lanes * products) = omega arith in
    let right : lanes * (a * n * n + n * products) ≡ lanes * (a * n * n) + lanes * (n * products) = omega arith in
    let first : n * (n * (a * lanes)) ≡ lanes * (a * n * n) = omega arith in
    let second : n * (lanes * products) ≡ lanes * (n * products) = omega arith in
    left ∙ ap₂ (λ a b. a + b) first second ∙ sym right

items_share : (lanes n products : ℕ) → n * (lanes * products) ≡ lanes * (0 + n * products)
items_share lanes n products = omega arith

tile_share : (v products : ℕ) → 0 + v * (v * products) ≡ 1 * (0 + v * v * products)
tile_share v products = omega arith

rows_loads : (lanes n : ℕ) → n * (n * lanes) ≡ lanes * (n * n)
rows_loads lanes n = omega arith

module _ (weight : ℕ) (c : Target) (lanes : 0 < c.lanes) (modulus : 2 ≤ c.modulus) (source target q : ℕ) where
  -- each item and lane has its number
  abbrev CopyCounts : PlainNest → Type 0
  CopyCounts p =
      (vs : List ℕ) → tally weight c.lanes (copy_acts c p p.work source target q vs)
      ≡ counts (lanes_round c p.work * (work_cost weight c.modulus p.work + multiplier_cost weight p.multiplier p.work)) (lanes_round c p.work * work_loads p.work) (lanes_round c p.work * work_size p.work)

  copy-counts : (p : PlainNest) (w : PlainWork) → CanWork c w → CopyCounts (working p w)
  copy-counts p (kernel k) can vs =
      let z : PlainNest = working p (kernel k) in
      let n = trees_size (trees_of k) in
      let price = trees_cost weight c.modulus (trees_of k) in
      let made = trees_kernel c.modulus (trees_of k) in
      counts-body weight c z target q vs p.multiplier (actions_by c.lanes made.code) (slice_index made.outs) made.next n (c.lanes * price) (λ k. source + load_at c z q vs k)
      (counts-code weight c.lanes price made.code (trees-does c.modulus weight (trees_of k) modulus can.trees).costs)
      ∙ counts-same _ _ (kernel_share c.lanes price n (products_of weight p.multiplier) ∙ ap (λ m. c.lanes * (price + m)) (sym (products-are weight p.multiplier z.work))) (mul_comm n c.lanes) (mul_comm n c.lanes)
  copy-counts p (rows root n) can vs =
      let z : PlainNest = working p (rows root n) in
      counts-rows weight c z target q vs n (term_acts c z root source q vs) (λ k l. counts-same _ _ (omega arith) (omega arith) refl)
      ∙ counts-same _ _ (rows_share c.lanes (1 + weight) n (products_of weight p.multiplier) ∙ ap (λ m. c.lanes * ((1 + weight) * n * n + m)) (sym (products-are weight p.multiplier z.work))) (rows_loads c.lanes n) (mul_comm n c.lanes)
  copy-counts p (horner root n) can vs =
      let z : PlainNest = working p (horner root n) in
      counts-rows weight c z target q vs n (horner_acts c z root n source q vs) (λ k l. counts-same _ _ (omega arith) (omega arith) refl)
      ∙ counts-same _ _ (rows_share c.lanes (1 + weight) n (products_of weight p.multiplier) ∙ ap (λ m. c.lanes * ((1 + weight) * n * n + m)) (sym (products-are weight p.multiplier z.work))) (rows_loads c.lanes n) (mul_comm n c.lanes)
  copy-counts p (tile v) can vs =
      let z : PlainNest = working p (tile v) in
      let words : v * c.lanes ≡ 1 * (v * v) = ap (λ l. v * l) (sym can) ∙ sym (one-mul (v * v)) in
      counts-body weight c z target q vs p.multiplier (Tile v 0 ∷ []) (λ k. v + k) (v + v) v 0 (λ k. source + load_at c z q vs k) (counts-same _ _ (omega arith) refl refl)
      ∙ counts-same _ _ (ap (λ l. 0 + v * (l * products_of weight p.multiplier)) (sym can) ∙ tile_share v (products_of weight p.multiplier) ∙ ap (λ m. 1 * (0 + m)) (sym (products-are weight p.multiplier z.work))) words words
  copy-counts p (copy n) can vs =
      let z : PlainNest = working p (copy n) in
      counts-items weight c z target q vs n source
      ∙ counts-same _ _ (items_share c.lanes n (products_of weight p.multiplier) ∙ ap (λ m. c.lanes * (0 + m)) (sym (products-are weight p.multiplier z.work))) (mul_comm n c.lanes) (mul_comm n c.lanes)

  -- each lane has a copy for each turn of the loops
  whole : (copies beside each : ℕ) → copies * (beside * each) ≡ copies * beside * each
  whole copies beside each = omega arith

  nest-counts : (p : PlainNest) → CanRunNest c p → tally weight c.lanes (nest_acts c p source target q)
      ≡ counts (own_copies c p * (work_cost weight c.modulus p.work + multiplier_cost weight p.multiplier p.work))
      (own_copies c p * work_loads p.work) (own_copies c p * work_size p.work)
  nest-counts p can =
      let beside = lanes_round c p.work in
      let each : CopyCounts p = copy-counts p p.work can.work in
      let o = work_cost weight c.modulus p.work + multiplier_cost weight p.multiplier p.work in
      let copies = copies_in (loop_counts c p) in
      counts-nest weight c.lanes (loop_counts c p) (copy_acts c p p.work source target q) (beside * o)
      (beside * work_loads p.work) (beside * work_size p.work) each []
      ∙ counts-same _ _ (whole copies beside o) (whole copies beside (work_loads p.work))
      (whole copies beside (work_size p.work))

  pub pass-counts : (zs : List PlainNest) → All (CanRunNest c) zs →
      tally weight c.lanes (pass_acts c zs source target q) ≡ share_of c weight zs
  pass-counts [] can = counts-same _ _ (omega arith) refl refl
  pass-counts (z ∷ zs) can =
      counts-append weight c.lanes (nest_acts c z source target q) (pass_acts c zs source target q)
      ∙ ap₂ plus (nest-counts z (All-head (CanRunNest c) z zs can)) (pass-counts zs (All-tail (CanRunNest c) z zs can))

  pub counted-are : 0 < weight → (zs : List PlainNest) → All (CanRunNest c) zs →
      counted weight c.lanes (pass_acts c zs source target q) ≡ share_of c weight zs
  counted-are some zs can =
      counts-same _ _ (weighted_is_by_lane weight c.lanes (pass_acts c zs source target q) some) refl refl
      ∙ pass-counts zs can

-- ---- the actions of straight-line code: there is one for each operation

-- each operation of a kernel is one of a program
cost-is : (code : List KernelOp) → code_cost 1 code ≡ length code
cost-is code = weight_of_one (actions_by 1 code) ∙ actions-operations 1 code

pub code-length : (lanes : ℕ) (code : List KernelOp) → length (actions_by lanes code) ≡ code_cost 1 code
code-length lanes code = length-map code (action_by lanes) ∙ sym (cost-is code)

-- a kernel has a register for each input and for each operation
pub trees-registers : (m : ℕ) (trees : PlainTrees) → 2 ≤ m → CanMake m trees →
    (trees_kernel m trees).next ≡ trees_size trees + trees_cost 1 m trees
trees-registers m trees large can =
    let does = trees-does m 1 trees large can in
    does.next_is ∙ ap (λ n. trees_size trees + n) (sym (cost-is (trees_kernel m trees).code) ∙ does.costs)

-- ---- a pass has no more actions than it counts, and a zero or a tile for some of its stores

module _ (lanes : ℕ) (some : 0 < lanes) where
  -- the bound of a list
  abbrev bound : List Action → ℕ
  bound actions = (tally 1 lanes actions).operations + (tally 1 lanes actions).loads + 2 * (tally 1 lanes actions).stores

  -- there is room for a number of actions more
  abbrev pub HasRoom : ℕ → List Action → Type 0
  HasRoom more actions = length actions + more ≤ bound actions

  bound-append : (xs ys : List Action) → bound (xs ++ ys) ≡ bound xs + bound ys
  bound-append xs ys =
      let all = counts-append 1 lanes xs ys in
      let o = ap (λ (k : Share). k.operations) all in
      let l = ap (λ (k : Share). k.loads) all in
      let s = ap (λ (k : Share). k.stores) all in
      omega arith

  room-append : (a b : ℕ) (xs ys : List Action) → HasRoom a xs → HasRoom b ys → HasRoom (a + b) (xs ++ ys)
  room-append a b xs ys h k = let joined = length-append xs ys in let all = bound-append xs ys in omega arith

  pub room-bodies : (a n : ℕ) (body : ℕ → List Action) → ((v : ℕ) → HasRoom a (body v)) →
      HasRoom (n * a) (bodies n body)
  room-bodies a zero body each = omega arith
  room-bodies a (suc n) body each =
      let all = room-append (n * a) a (bodies n body) (body n) (room-bodies a n body each) (each n) in
      let next : suc n * a ≡ n * a + a = omega arith in
      omega (arith, all, next)

  less : (a b : ℕ) (xs : List Action) → a ≤ b → HasRoom b xs → HasRoom a xs
  less a b xs low h = omega arith

  pub room-nest : (counts : List ℕ) (body : List ℕ → List Action) → ((vs : List ℕ) → HasRoom 0 (body vs)) →
      (outer : List ℕ) → HasRoom 0 (nest counts body outer)
  room-nest [] body each outer = each outer
  room-nest (count ∷ counts) body each outer =
      less 0 (count * 0) (bodies count (λ v. nest counts body (outer ++ v ∷ []))) (omega arith) (room-bodies 0 count (λ v. nest counts body (outer ++ v ∷ [])) (λ v. room-nest counts body each (outer ++ v ∷ [])))

  room-loads : (n : ℕ) (from : ℕ → ℕ) → HasRoom 0 (loads n from)
  room-loads n from = less 0 (n * 0) (loads n from) (omega arith) (room-bodies 0 n (λ k. Load k (from k) ∷ []) (λ k. omega arith))

  room-code : (code : List KernelOp) → HasRoom 0 (actions_by lanes code)
  room-code code =
      let long = code-length lanes code in
      let counts = counts-code 1 lanes (code_cost 1 code) code refl in
      let o = ap (λ (k : Share). k.operations) counts ∙ mul_comm lanes (code_cost 1 code) in
      let several : code_cost 1 code * 1 ≤ code_cost 1 code * lanes = mul-le-mul_left (code_cost 1 code) some in
      omega (arith, long, o, several)

module _ (c : Target) (p : PlainNest) (target q : ℕ) (vs : List ℕ) (some : 0 < c.lanes) where
  room-finish : (o : Option PlainMultiplier) (k from free : ℕ) →
      HasRoom c.lanes some 1 (finish_acts c p o target q vs k from free)
  room-finish None k from free = omega arith
  room-finish (Some d) k from free = omega arith

  room-body : (o : Option PlainMultiplier) (middle : List Action) (out : ℕ → ℕ) (used n more : ℕ) (from : ℕ → ℕ) →
      HasRoom c.lanes some 0 middle → HasRoom c.lanes some n (copy_body c p o middle out used n from target q vs)
  room-body o middle out used n more from code =
      let ends : ℕ → List Action = ends_of c p o out used target q vs in
      less c.lanes some n (0 + (0 + n * 1)) (copy_body c p o middle out used n from target q vs) (omega arith)
      (room-append c.lanes some 0 (0 + n * 1) (loads n from) (middle ++ bodies n ends) (room-loads c.lanes some n from)
      (room-append c.lanes some 0 (n * 1) middle (bodies n ends) code (room-bodies c.lanes some 1 n ends (λ k. room-finish o k (out k) (used + k)))))

  room-rows : (n : ℕ) (turn : ℕ → ℕ → List Action) → ((k l : ℕ) → HasRoom c.lanes some 0 (turn k l)) →
      HasRoom c.lanes some 0 (rows_acts c p n turn target q vs)
  room-rows n turn each =
      less c.lanes some 0 (n * 0) (rows_acts c p n turn target q vs) (omega arith)
      (room-bodies c.lanes some 0 n (λ k. row_acts c p n (turn k) target q vs k) (λ k.
      let inner = room-append c.lanes some (n * 0) 1 (bodies n (turn k)) (finish_acts c p p.multiplier target q vs k 0 3) (room-bodies c.lanes some 0 n (turn k) (each k)) (room-finish p.multiplier k 0 3) in
      omega (arith, inner)))

  room-items : (n source : ℕ) → HasRoom c.lanes some 0 (items_acts c p n source target q vs)
  room-items n source =
      less c.lanes some 0 (n * 0) (items_acts c p n source target q vs) (omega arith)
      (room-bodies c.lanes some 0 n (λ k. Load 0 (source + load_at c p q vs k) ∷ finish_acts c p p.multiplier target q vs k 0 1) (λ k. let last = room-finish p.multiplier k 0 1 in omega (arith, last)))

module _ (c : Target) (some : 0 < c.lanes) (source target q : ℕ) where
  copy-room : (p : PlainNest) (w : PlainWork) → CanWork c w → (vs : List ℕ) →
      HasRoom c.lanes some 0 (copy_acts c (working p w) w source target q vs)
  copy-room p (kernel k) can vs =
      let z : PlainNest = working p (kernel k) in
      let n = trees_size (trees_of k) in
      let made = trees_kernel c.modulus (trees_of k) in
      less c.lanes some 0 n (copy_body c z p.multiplier (actions_by c.lanes made.code) (slice_index made.outs) made.next n (λ k. source + load_at c z q vs k) target q vs) (omega arith)
      (room-body c z target q vs some p.multiplier (actions_by c.lanes made.code) (slice_index made.outs) made.next n 0 (λ k. source + load_at c z q vs k) (room-code c.lanes some made.code))
  copy-room p (rows root n) can vs = let z : PlainNest = working p (rows root n) in room-rows c z target q vs some n (term_acts c z root source q vs) (λ k l. omega arith)
  copy-room p (horner root n) can vs = let z : PlainNest = working p (horner root n) in room-rows c z target q vs some n (horner_acts c z root n source q vs) (λ k l. omega arith)
  copy-room p (tile v) can vs =
      let z : PlainNest = working p (tile v) in
      let from : ℕ → ℕ = λ k. source + load_at c z q vs k in
      let ends : ℕ → List Action = ends_of c z p.multiplier (λ k. v + k) (v + v) target q vs in
      let wide : v ≡ c.lanes = can in
      let first = room-loads c.lanes some v from in
      let last = room-bodies c.lanes some 1 v ends (λ k. room-finish c z target q vs some p.multiplier k (v + k) (v + v + k)) in
      let one : v * 1 ≡ v = omega arith in
      room-append c.lanes some 0 0 (loads v from) (Tile v 0 ∷ bodies v ends) first (omega (arith, last, one, wide))
  copy-room p (copy n) can vs = room-items c (working p (copy n)) target q vs some n source

  nests-room : (zs : List PlainNest) → ((p : PlainNest) → Contains zs p → CanRunNest c p) →
      HasRoom c.lanes some 0 (pass_acts c zs source target q)
  nests-room [] can = omega arith
  nests-room (z ∷ zs) can =
      room-append c.lanes some 0 0 (nest_acts c z source target q) (pass_acts c zs source target q)
      (room-nest c.lanes some (loop_counts c z) (copy_acts c z z.work source target q) (copy-room z z.work (can z (Contains-head z zs)).work) [])
      (nests-room zs (λ p one. can p (Contains-tail z zs p one)))

short_of : (procs o l s n cost loads size : ℕ) → n + 0 ≤ o + l + 2 * s → procs * o ≡ cost → procs * l ≡ loads →
    procs * s ≡ size → procs * n ≤ cost + loads + 2 * size
short_of procs o l s n cost loads size low co lo si =
    let all : procs * n ≤ procs * (o + l + 2 * s) = mul-le-mul_left procs (omega arith) in
    let spread : procs * (o + l + 2 * s) ≡ procs * o + procs * l + 2 * (procs * s) = omega arith in
    omega arith

-- all processors together
pub pass-short : (c : Target) (zs : List PlainNest) → CanRun c zs → (source target q : ℕ) →
    c.procs * length (pass_acts c zs source target q) ≤ pass_cost 1 c.modulus zs + pass_loads zs + 2 * c.size
pass-short c zs can source target q =
    let counts = pass-counts 1 c can.lanes can.modulus source target q zs can.nests in
    let shares = runs_have_shares c 1 zs can in
    short_of c.procs _ _ _ (length (pass_acts c zs source target q)) _ _ _ (nests-room c can.lanes source target q zs (nest-can c zs can))
    (ap (λ (s : Share). c.procs * s.operations) counts ∙ shares.operations) (ap (λ (s : Share). c.procs * s.loads) counts ∙ shares.loads) (ap (λ (s : Share). c.procs * s.stores) counts ∙ shares.stores)
