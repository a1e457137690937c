-- The statements of a nest stand within the limits of programs.
use Rattle.std.proofs.Common.{◌≡◌, ℕ, zero, suc, ◌+◌, ◌*◌, ◌^◌, ◌<◌, ◌≤◌, All, true, List, [], ◌∷◌, length, refl, arith}
use Rattle.std.proofs.Common.{subst, Option, Some, None, slice_index}
use Rattle.std.proofs.lemmas.Bool.{and_from, and_parts, le-leb, lt-ltb}
use Rattle.icode.specs.declared.program.Array.{Array}
use Rattle.icode.specs.Limits.{is_small, is_expr_within, is_op_within, is_body_within}
use Rattle.icode.specs.Plain.{PlainBody, PlainExpr, NoStmts, AndStmts, Loop, Do, Load, Add, MulTable}
use Rattle.kernel_gen.specs.KernelOps.{IsWithin, op_of}
use Rattle.kernel_gen.specs.declared.straight.KernelOp.{KernelOp}
use Rattle.sigma_spl.specs.Shared.Machine.{PlainFrame, frame_of, loop_counts}
use Rattle.code_gen.specs.PassCode.Statements.{do_only, finish_body, followed_by, in_a_row, loads_body, loop_value}
use Rattle.code_gen.specs.PassCode.Statements.{nested, one_factor, place_at, product_op, product_place, straight_body}
use Rattle.code_gen.specs.PassCode.Statements.{diagonal_of, diagonal_number, powers_of, horner_body, multiplier_number}
use Rattle.code_gen.specs.PassCode.Statements.{nest_body, powers_number, rows_body, tables_of_nest, tables_of_work}
use Rattle.code_gen.specs.PassCode.Statements.{term_body, work_body}
use Rattle.sigma_spl.specs.Nest.{PlainMultiplier, PlainNest}
use Rattle.perm_algebra.specs.Affine.{Sum, constant}
use Rattle.kernel_gen.specs.Kernel.{trees_kernel}
use Rattle.kernel_gen.proofs.Below.{at-AllBelow}
use Rattle.kernel_gen.proofs.Products.{trees-does}
use Rattle.code_gen.specs.PassActions.Acts.{nest_registers}
use Rattle.code_gen.specs.PassCode.Conditions.{AreWithin, CanWriteNest}
use Rattle.sigma_spl.specs.Shared.Running.{CanRunNest}
use Rattle.operators.specs.declared.target.Target.{Target}
use Rattle.sigma_spl.specs.Merge.{limits_of}
use Rattle.sigma_spl.specs.Work.{PlainWork, kernel, rows, horner, tile, copy, trees_of}
use Rattle.tree_model.specs.Trees.{trees_size}
use Rattle.code_gen.proofs.PassCode.OneFactor.{OneIsBelow, one-below}
use Rattle.code_gen.proofs.PassCode.Within.{small-positive}
use Rattle.code_gen.proofs.PassActions.Fillings.{working}
use Rattle.code_gen.proofs.PassCode.SharedTables.{extends-longer, multiplier-extends, number-small, work-extends}
use Rattle.code_gen.proofs.PassActions.StraightCopies.{finish-few}
use Rattle.kernel_gen.specs.KernelOps as straight
use Rattle.kernel_gen.specs.declared.straight.KernelOp.TheVariants as instructions
use Rattle.icode.specs.Plain as statements

-- ---- the statements of a pass stand within the limits of programs

pub small-is : (n : ℕ) → n < 2 ^ 32 → is_small n ≡ true
small-is n h = lt-ltb n (2 ^ 32) h

-- the places of the first n registers stand within the limits
abbrev pub ArePlaces : PlainFrame → ℕ → ℕ → List Sum → Type 0
ArePlaces f n open_loops sums = (i : ℕ) → i < n → is_expr_within (place_at f open_loops sums i) open_loops ≡ true

module _ (m : ℕ) where
  pub within-followed : (xs ys : PlainBody) (open_loops : ℕ) → is_body_within m xs open_loops ≡ true →
      is_body_within m ys open_loops ≡ true → is_body_within m (followed_by xs ys) open_loops ≡ true
  within-followed NoStmts ys open_loops h k = k
  within-followed (AndStmts x xs) ys open_loops h k = let parts = and_parts _ _ h in and_from _ _ parts.0 (within-followed xs ys open_loops parts.1 k)

  pub within-in_a_row : (n : ℕ) (body : ℕ → PlainBody) (open_loops : ℕ) →
      ((k : ℕ) → k < n → is_body_within m (body k) open_loops ≡ true) →
      is_body_within m (in_a_row n body) open_loops ≡ true
  within-in_a_row zero body open_loops h = refl
  within-in_a_row (suc n) body open_loops h = within-followed (in_a_row n body) (body n) open_loops (within-in_a_row n body open_loops (λ k below. h k (omega arith))) (h n (omega arith))

  pub within-loop : (count : ℕ) (body rest : PlainBody) (open_loops : ℕ) → 0 < count → count < 2 ^ 32 →
      open_loops < 64 → is_body_within m body (open_loops + 1) ≡ true → is_body_within m rest open_loops ≡ true →
      is_body_within m (AndStmts (Loop count body) rest) open_loops ≡ true
  within-loop count body rest open_loops some small shallow h k =
      and_from _ _ (and_from _ _ (small-positive count some small) (and_from _ _ (lt-ltb open_loops 64 shallow) h)) k

  pub within-nested : (counts : List ℕ) (body : PlainBody) (open_loops deep : ℕ) →
      All (λ n. (1 ≤ n) × (n < 2 ^ 32)) counts → open_loops + length counts ≡ deep → deep ≤ 64 →
      is_body_within m body deep ≡ true → is_body_within m (nested counts body) open_loops ≡ true
  within-nested [] body open_loops deep all is shallow h = let same : deep ≡ open_loops = omega arith in subst (λ (o : ℕ). is_body_within m body o ≡ true) same h
  within-nested (count ∷ counts) body open_loops deep all is shallow h =
      let first = all 0 0 (omega arith) in
      within-loop count (nested counts body) NoStmts open_loops (omega arith) (omega arith) (omega arith)
      (within-nested counts body (open_loops + 1) deep (λ k d below. all (suc k) d (omega arith)) (omega arith) shallow h) refl

  -- ---- operations

  module _ (f : PlainFrame) where
    pub loads-within : (l : PlainNest) (n open_loops : ℕ) (source : Array) → n < 2 ^ 32 →
        ArePlaces f n open_loops l.gathers → is_body_within m (loads_body f l open_loops n source) open_loops ≡ true
    loads-within l n open_loops source small h =
        within-in_a_row n (λ k. do_only (Load k source (place_at f open_loops l.gathers k))) open_loops
        (λ k below. and_from _ _ (and_from _ _ (small-is k (omega arith)) (h k below)) refl)

    factor-within : (o : Option ℕ) (open_loops table from free step : ℕ) (place : PlainExpr) →
        ((value : ℕ) → o ≡ Some value → value < m) → step < 2 → is_expr_within place open_loops ≡ true →
        table < 2 ^ 32 → from < 2 ^ 32 → free < 2 ^ 32 →
        is_op_within m (product_op o free from table place step) open_loops ≡ true
    factor-within None open_loops table from free step place one near h t u g = and_from _ _ (small-is free g) (and_from _ _ (small-is from u) (and_from _ _ (small-is table t) (and_from _ _ (lt-ltb step 2 near) h)))
    factor-within (Some value) open_loops table from free step place one near h t u g = and_from _ _ (small-is free g) (and_from _ _ (small-is from u) (lt-ltb value m (one value refl)))

    pub finish-within : (step : ℕ) (o : Option PlainMultiplier) (n open_loops table i from free : ℕ)
        (scatters : List Sum) (target : Array) → OneIsBelow m o → step < 2 → i < n → ArePlaces f n open_loops scatters →
        ((d : PlainMultiplier) → o ≡ Some d → ArePlaces f n open_loops d.places) →
        table < 2 ^ 32 → from < 2 ^ 32 → free < 2 ^ 32 → is_body_within m
        (finish_body f step o scatters open_loops table target i from free) open_loops ≡ true
    finish-within step None n open_loops table i from free scatters target one near below h k t u g = and_from _ _ (and_from _ _ (small-is from u) (h i below)) refl
    finish-within step (Some d) n open_loops table i from free scatters target one near below h k t u g =
        and_from _ _
        (factor-within (one_factor d.factors) open_loops table from free step (place_at f open_loops d.places i) (λ value is. one d value refl is) near (k d refl i below) t u g)
        (and_from _ _ (and_from _ _ (small-is free g) (h i below)) refl)

  pub term-within : (open_loops table : ℕ) (array : Array) (input entry : PlainExpr) → table < 2 ^ 32 →
      is_expr_within input open_loops ≡ true → is_expr_within entry open_loops ≡ true →
      is_body_within m (AndStmts (Do (Load 1 array input)) (AndStmts (Do (MulTable 2 1 table entry 0))
      (AndStmts (Do (Add 0 0 2)) NoStmts))) open_loops ≡ true
  term-within open_loops table array input entry t h k = and_from _ _ h (and_from _ _ (and_from _ _ (small-is table t) k) refl)

  module _ (next open_loops : ℕ) (few : next < 2 ^ 32) where
    small-register : (r : ℕ) → r < next → is_small r ≡ true
    small-register r below = small-is r (omega (arith, below, few))

    op-within : (i : KernelOp) → IsWithin m next i → is_op_within m (op_of i) open_loops ≡ true
    op-within (instructions.Add r x y) is = and_from _ _ (small-register r is.0) (and_from _ _ (small-register x is.1) (small-register y is.2))
    op-within (instructions.Sub r x y) is = and_from _ _ (small-register r is.0) (and_from _ _ (small-register x is.1) (small-register y is.2))
    op-within (instructions.Neg r x) is = and_from _ _ (small-register r is.0) (small-register x is.1)
    op-within (instructions.Mul r x factor) is = and_from _ _ (small-register r is.0) (and_from _ _ (small-register x is.1) (lt-ltb factor m is.2))

    pub straight-within : (code : List KernelOp) → straight.AreWithin m next code →
        is_body_within m (straight_body code) open_loops ≡ true
    straight-within [] are = refl
    straight-within (i ∷ code) are = and_from _ _ (op-within i are.0) (straight-within code are.1)

-- the place of an entry of a table of powers
pub product-within : (depth n : ℕ) → 0 < n → n < 2 ^ 32 → is_expr_within (product_place depth n) (depth + 2) ≡ true
product-within depth n some small =
    and_from _ _
    (and_from _ _ (and_from _ _ (and_from _ _ (and_from _ _ (lt-ltb depth (depth + 1) (omega arith))
    (and_from _ _ (lt-ltb (depth + 1) (depth + 2) (omega arith)) refl))
    (and_from _ _ (le-leb 0 (65 + (depth * 64 + (depth + 1))) (omega arith)) refl))
    (and_from _ _ (small-positive n some small) refl)) refl)
    refl

pub loop_value-within : (depth : ℕ) → is_expr_within (loop_value depth) (depth + 2) ≡ true
loop_value-within depth = and_from _ _ (and_from _ _ (and_from _ _ (lt-ltb depth (depth + 2) (omega arith)) refl) (and_from _ _ (le-leb 0 (1 + depth) (omega arith)) refl)) refl

pub horner-within : (m deep table : ℕ) (array : Array) (input : PlainExpr) → table < 2 ^ 32 →
    is_expr_within input (deep + 2) ≡ true →
    is_body_within m (AndStmts (Do (MulTable 1 0 table (loop_value deep) 0))
    (AndStmts (Do (Load 2 array input)) (AndStmts (Do (Add 0 1 2)) NoStmts))) (deep + 2) ≡ true
horner-within m deep table array input t h = and_from _ _ (and_from _ _ (small-is table t) (loop_value-within deep)) (and_from _ _ h refl)

-- ---- the statements of a nest stand within the limits of programs

places-within : (cs : ℕ → ℕ) (f : PlainFrame) (n open_loops : ℕ) (sums : List Sum) → n ≤ length sums →
    AreWithin cs f open_loops sums → ArePlaces f n open_loops sums
places-within cs f n open_loops sums enough h i below = h.within i (constant 0) (omega arith)

-- ---- tables

diagonal-small : (o : Option ℕ) (ts : List (List ℕ)) (entries : List ℕ) → diagonal_number o ts entries ≤ length ts
diagonal-small None ts entries = number-small ts entries
diagonal-small (Some value) ts entries = omega arith

multiplier-small : (m : ℕ) (o : Option PlainMultiplier) (ts : List (List ℕ)) → multiplier_number m o ts ≤ length ts
multiplier-small m None ts = omega arith
multiplier-small m (Some d) ts = diagonal-small (one_factor d.factors) ts (diagonal_of m d.factors)

powers-small : (m : ℕ) (w : PlainWork) (ts : List (List ℕ)) → powers_number m w ts ≤ length ts
powers-small m (rows root n) ts = number-small ts (powers_of m root n)
powers-small m (horner root n) ts = number-small ts (powers_of m root n)
powers-small m _ ts = omega arith

-- ---- work

module _ (c : Target) (modulus : 2 ≤ c.modulus) (source target : Array) (powers table : ℕ) (first : powers < 2 ^ 32)
    (second : table < 2 ^ 32) where
  abbrev m : ℕ
  m = c.modulus

  -- straight code's places
  alone-within : (z : PlainNest) (n : ℕ) (sums : List Sum) → n ≤ length sums →
      AreWithin (limits_of z) (frame_of c z.work) (length (loop_counts c z) + 0) sums →
      ArePlaces (frame_of c z.work) n (length (loop_counts c z)) sums
  alone-within z n sums enough h =
      let all : length (loop_counts c z) + 0 ≡ length (loop_counts c z) = omega arith in
      subst (λ (o : ℕ). ArePlaces (frame_of c z.work) n o sums) all (places-within (limits_of z) (frame_of c z.work) n (length (loop_counts c z) + 0) sums enough h)

  rows-within : (z : PlainNest) (n : ℕ) (turn : PlainBody) → OneIsBelow m z.multiplier → let deep = length (loop_counts c z) in deep + 2 < 64 → 0 < n → n < 2 ^ 32 → is_body_within m turn (deep + 2) ≡ true → ArePlaces (frame_of c z.work) 1 (deep + 1) z.scatters →
      ((d : PlainMultiplier) → z.multiplier ≡ Some d → ArePlaces (frame_of c z.work) 1 (deep + 1) d.places) → is_body_within m (rows_body (frame_of c z.work) z deep n turn table target) deep ≡ true
  rows-within z n turn one shallow some small within places multiplied =
      let f = frame_of c z.work in
      let deep = length (loop_counts c z) in
      let two : deep + 2 ≡ deep + 1 + 1 = omega arith in
      let finish : PlainBody = finish_body f 0 z.multiplier z.scatters (deep + 1) table target 0 0 3 in
      within-loop m n (AndStmts (Do (statements.Zero 0)) (AndStmts (Loop n turn) finish)) NoStmts deep some small (omega arith)
      (and_from _ _ refl
      (within-loop m n turn finish (deep + 1) some small (omega arith)
      (subst (λ (o : ℕ). is_body_within m turn o ≡ true) two within)
      (finish-within m f 0 z.multiplier 1 (deep + 1) table 0 0 3 z.scatters target one (omega arith) (omega arith) places multiplied second (omega arith) (omega arith))))
      refl

  work-within : (p : PlainNest) (w : PlainWork) → CanRunNest c (working p w) → CanWriteNest c (working p w) →
      nest_registers c.modulus (working p w) w < 2 ^ 20 →
      is_body_within m (work_body c (working p w) w (length (loop_counts c (working p w))) powers table source target)
      (length (loop_counts c (working p w))) ≡ true
  work-within p (kernel k) can writes few =
      let z : PlainNest = working p (kernel k) in
      let n = trees_size (trees_of k) in
      let f = frame_of c z.work in
      let deep = length (loop_counts c z) in
      let all : deep + 0 ≡ deep = omega arith in
      let made = trees_kernel c.modulus (trees_of k) in
      let done = trees-does c.modulus 1 (trees_of k) modulus can.work.trees in
      let next = done.next_is in
      let used : made.next < 2 ^ 20 = let least = finish-few p.multiplier made.next n (nest_registers c.modulus z z.work) (omega arith) in omega arith in
      let outputs : ℕ → PlainBody = λ k. finish_body f 0 z.multiplier z.scatters deep table target k (slice_index made.outs k) (made.next + k) in
      within-followed m (loads_body f z deep n source) (followed_by (straight_body made.code) (in_a_row n outputs)) deep
      (loads-within m f z n deep source (omega arith) (alone-within z n z.gathers writes.gathers.0.enough writes.gathers.1))
      (within-followed m (straight_body made.code) (in_a_row n outputs) deep
      (straight-within m made.next deep (omega arith) made.code done.within)
      (within-in_a_row m n outputs deep
      (λ k below.
      let out : slice_index made.outs k < made.next = at-AllBelow made.next made.outs k done.below (let sized = done.sized in omega arith) in
      finish-within m f 0 z.multiplier n deep table k (slice_index made.outs k) (made.next + k) z.scatters target (one-below c z can.residues) (omega arith) below (alone-within z n z.scatters writes.scatters.0.enough writes.scatters.1)
      (λ d is. alone-within z n d.places (writes.multiplier d is).0.enough (writes.multiplier d is).1) second (omega arith) (omega arith))))
  work-within p (copy n) can writes few =
      let z : PlainNest = working p (copy n) in
      let f = frame_of c z.work in
      let deep = length (loop_counts c z) in
      within-in_a_row m n (λ k. AndStmts (Do (statements.Load 0 source (place_at f deep z.gathers k))) (finish_body f 0 z.multiplier z.scatters deep table target k 0 1)) deep
      (λ k below.
      and_from _ _ (and_from _ _ (small-is 0 (omega arith)) (alone-within z n z.gathers writes.gathers.0.enough writes.gathers.1 k below))
      (finish-within m f 0 z.multiplier n deep table k 0 1 z.scatters target (one-below c z can.residues) (omega arith) below (alone-within z n z.scatters writes.scatters.0.enough writes.scatters.1)
      (λ d is. alone-within z n d.places (writes.multiplier d is).0.enough (writes.multiplier d is).1) second (omega arith) (omega arith)))
  work-within p (tile v) can writes few =
      let z : PlainNest = working p (tile v) in
      let f = frame_of c z.work in
      let deep = length (loop_counts c z) in
      let used : v + v < 2 ^ 20 = let least = finish-few p.multiplier (v + v) v (nest_registers c.modulus z z.work) (omega arith) in omega arith in
      let outputs : ℕ → PlainBody = λ k. finish_body f 1 z.multiplier z.scatters deep table target k (v + k) (v + v + k) in
      within-followed m (loads_body f z deep v source) (AndStmts (Do (statements.Tile v 0)) (in_a_row v outputs)) deep
      (loads-within m f z v deep source (omega arith) (alone-within z v z.gathers writes.gathers.0.enough writes.gathers.1))
      (and_from _ _ (and_from _ _ (small-is v (omega arith)) (small-is 0 (omega arith)))
      (within-in_a_row m v outputs deep
      (λ k below.
      finish-within m f 1 z.multiplier v deep table k (v + k) (v + v + k) z.scatters target (one-below c z can.residues) (omega arith) below (alone-within z v z.scatters writes.scatters.0.enough writes.scatters.1)
      (λ d is. alone-within z v d.places (writes.multiplier d is).0.enough (writes.multiplier d is).1) second (omega arith) (omega arith))))
  work-within p (rows root n) can writes few =
      let z : PlainNest = working p (rows root n) in
      let f = frame_of c z.work in
      let deep = length (loop_counts c z) in
      rows-within z n (term_body (place_at f (deep + 2) z.gathers 0) deep source powers n) (one-below c z can.residues) writes.shallow can.work.0 writes.items
      (term-within m (deep + 2) powers source (place_at f (deep + 2) z.gathers 0) (product_place deep n) first (places-within (limits_of z) f 1 (deep + 2) z.gathers writes.gathers.0.enough writes.gathers.1 0 (omega arith)) (product-within deep n can.work.0 writes.items))
      (places-within (limits_of z) f 1 (deep + 1) z.scatters writes.scatters.0.enough writes.scatters.1)
      (λ d is. places-within (limits_of z) f 1 (deep + 1) d.places (writes.multiplier d is).0.enough (writes.multiplier d is).1)
  work-within p (horner root n) can writes few =
      let z : PlainNest = working p (horner root n) in
      let f = frame_of c z.work in
      let deep = length (loop_counts c z) in
      rows-within z n (horner_body (place_at f (deep + 2) z.gathers 0) deep source powers) (one-below c z can.residues) writes.shallow can.work writes.items
      (horner-within m deep powers source (place_at f (deep + 2) z.gathers 0) first (places-within (limits_of z) f 1 (deep + 2) z.gathers writes.gathers.0.enough writes.gathers.1 0 (omega arith)))
      (places-within (limits_of z) f 1 (deep + 1) z.scatters writes.scatters.0.enough writes.scatters.1)
      (λ d is. places-within (limits_of z) f 1 (deep + 1) d.places (writes.multiplier d is).0.enough (writes.multiplier d is).1)

-- ---- a nest

pub nest-within : (c : Target) (z : PlainNest) (tables : List (List ℕ)) (source target : Array) → 2 ≤ c.modulus →
    CanRunNest c z → CanWriteNest c z → nest_registers c.modulus z z.work < 2 ^ 20 →
    length (tables_of_nest c.modulus z tables) < 2 ^ 32 →
    is_body_within c.modulus (nest_body c z tables source target) 0 ≡ true
nest-within c z tables source target modulus can writes few some =
    let powers = powers_number c.modulus z.work tables in
    let so_far = tables_of_work c.modulus z.work tables in
    let table = multiplier_number c.modulus z.multiplier so_far in
    let first = powers-small c.modulus z.work tables in
    let second = multiplier-small c.modulus z.multiplier so_far in
    let longer = extends-longer (work-extends c.modulus z.work tables) in
    let longest = extends-longer (multiplier-extends c.modulus z.multiplier so_far) in
    let deep = length (loop_counts c z) in
    let shallow = writes.shallow in
    within-nested c.modulus (loop_counts c z) (work_body c z z.work deep powers table source target) 0 deep writes.counts (omega arith) (omega arith)
    (work-within c modulus source target powers table (omega arith) (omega arith) z z.work can writes few)
