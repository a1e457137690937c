-- The code of a pass by the rules of emission is that of its nest.
use Rattle.std.proofs.Common.{◌≡◌, ℕ, zero, suc, ◌+◌, ◌==◌, Bool, true, false, refl, sym, ap, ap₂, ◌∙◌, List, [], ◌∷◌}
use Rattle.std.proofs.Common.{◌++◌, length, append_assoc, not, if◌then◌else◌, ◌<◌, arith, append-nil, map-id, map, drop}
use Rattle.std.proofs.Common.{slice_index, slice_index_or}
use Rattle.std.specs.List.{flat_map, range_with_len}
use Rattle.std.proofs.lemmas.Grind.{flat_map-append}
use Rattle.std.proofs.lemmas.List.Concat.{flat_map_single}
use Rattle.std.proofs.lemmas.Simd.{map-map}
use Rattle.std.proofs.lemmas.List.FromFn.{get_or-map-range_with_len, map-range_with_len_more}
use Rattle.code_gen.specs.PassCode.Expressions.{expr_of, factor_at, processor_of, quotients_of, remainders_of, sum_of}
use Rattle.code_gen.specs.PassCode.Expressions.{variables_of}
use Rattle.icode.specs.Plain.{PlainPart, AndParts, NoParts, Proc, Rem, Var, parts_of, PlainBody, PlainStmt, AndStmts}
use Rattle.icode.specs.Plain.{Do, Load, Loop, MulConst, MulTable, NoStmts, Store, Tile, Zero, body_of}
use Rattle.matrix_meaning.specs.declared.Request.{Request}
use Rattle.perm_algebra.specs.Affine.{HasNoQuotient, Sum, constant, variable, remainder, quotient}
use Rattle.perm_algebra.specs.Room.{constant_of}
use Rattle.sigma_spl.specs.Shared.Machine.{PlainFrame, first_loop, frame_of, loop_counts}
use Rattle.sigma_spl.specs.Shared.Targets.{target_of}
use Rattle.generate.specs.Emission.Bodies.{Setting, expression, hidden, part, remainders, variables, by_rows, finish}
use Rattle.generate.specs.Emission.Bodies.{in_loops, load, loops, pass_code, place, store, straight}
use Rattle.generate.specs.Emission.Passes.{Work, tile, Diagonal, Factors, Site, entries, kernel, none, number, rows}
use Rattle.generate.specs.Emission.Passes.{twiddles, values, work_size}
use Rattle.code_gen.specs.PassCode.Statements.{do_only, finish_body, followed_by, in_a_row, loads_body}
use Rattle.code_gen.specs.PassCode.Statements.{multiplier_number, nest_body, nested, pass_body, place_at, powers_number}
use Rattle.code_gen.specs.PassCode.Statements.{straight_body, term_body, tables_of_work, work_body}
use Rattle.kernel_gen.specs.KernelOps.{op_of}
use Rattle.kernel_gen.specs.Kernel.{trees_kernel}
use Rattle.kernel_gen.specs.declared.straight.KernelOp.{KernelOp}
use Rattle.operators.specs.declared.target.Target.{Target}
use Rattle.sigma_spl.specs.Nest.{PlainNest}
use Rattle.tree_model.specs.Trees.{trees_size}
use Rattle.tree_model.specs.Whole.{rooted_of}
use Rattle.generate.specs.Emission.Places.{PlaceFunction}
use Rattle.generate.specs.Emission.Tables.{number_of, powers_of, table_of}
use Rattle.generate.proofs.Emission.Nested.{plain_work, bounds, each, emitted_nest, multiplier_at}
use Rattle.icode.specs.Plain as code
use Rattle.sigma_spl.specs.Work as works
use Rattle.generate.specs.Emission.Bodies as emission

-- ---- places by the rules of emission are the generator's, since no place has a quotient

-- ---- lists of parts

pick : (b : Bool) (x : PlainPart) (rest ps : List PlainPart) →
    (if b then parts_of (rest ++ ps) else AndParts x (parts_of (rest ++ ps)))
    ≡ parts_of (((if b then [] else x ∷ []) ++ rest) ++ ps)
pick true x rest ps = refl
pick false x rest ps = refl

pick-processor : (one zero : Bool) (x : PlainPart) (xs : List PlainPart) →
    (if not one then (if zero then parts_of xs else AndParts x (parts_of xs)) else parts_of xs)
    ≡ parts_of ((if one then [] else (if zero then [] else x ∷ [])) ++ xs)
pick-processor true _ x xs = refl
pick-processor false true x xs = refl
pick-processor false false x xs = refl

module _ (shared : Bool) (first : ℕ) where
  loop-parts : (n d : ℕ) (e : Sum) (ps : List PlainPart) →
      variables_of (record { shared = shared; first_loop = first }) n d e (parts_of ps)
      ≡ parts_of (flat_map (λ k. part (Var k) (factor_at (first + k) e)) (range_with_len d n) ++ ps)
  loop-parts zero d e ps = refl
  loop-parts (suc n) d e ps =
      let f = factor_at (first + d) e in
      ap (λ xs. if f == 0 then xs else AndParts (Var d f) xs) (loop-parts n (d + 1) e ps)
      ∙ pick (f == 0) (Var d f) (flat_map (λ k. part (Var k) (factor_at (first + k) e)) (range_with_len (d + 1) n)) ps

-- ---- the frame

several-hidden : (one two : Bool) (p v : ℕ) →
    length (if two then (if one then [] else [] ++ p ∷ []) else (if one then [] else [] ++ p ∷ []) ++ v ∷ [])
    ≡ (if one then 0 else 1) + (if two then 0 else 1)
several-hidden true true p v = refl
several-hidden true false p v = refl
several-hidden false true p v = refl
several-hidden false false p v = refl

processors-hidden : (one : Bool) (p : ℕ) → length (if one then [] else [] ++ p ∷ []) ≡ (if one then 0 else 1) + 0
processors-hidden true p = refl
processors-hidden false p = refl

pub hidden-is : (c : Request) (w : Work) → hidden c w ≡ first_loop (target_of c) (plain_work w)
hidden-is c (tile v) = processors-hidden (c.procs == 1) c.procs
hidden-is c _ = several-hidden (c.procs == 1) (c.lanes == 1) c.procs c.lanes

-- ---- sums

module _ (o : Setting) where
  abbrev one : Bool
  one = o.request.procs == 1

  abbrev first : ℕ
  first = hidden o.request o.pass.work

  linear-parts : (n : ℕ) (e : Sum) (ps : List PlainPart) →
      sum_of (record { shared = not one; first_loop = first }) n e (parts_of ps)
      ≡ code.Sum (constant_of e) (parts_of (variables o n e ++ ps))
  linear-parts n e ps =
      let loops = flat_map (λ k. part (Var k) (factor_at (first + k) e)) (range_with_len 0 n) in
      let processor : List PlainPart = if one then [] else part Proc (factor_at 0 e) in
      ap (λ xs. code.Sum (constant_of e) (processor_of (record { shared = not one; first_loop = first }) e xs))
      (loop-parts (not one) first n 0 e ps)
      ∙ ap (code.Sum (constant_of e))
      (pick-processor one (factor_at 0 e == 0) (Proc (factor_at 0 e)) (loops ++ ps)
      ∙ ap parts_of (sym (append_assoc processor loops ps)))

  no-quotients : (n : ℕ) (e : Sum) → HasNoQuotient e →
      quotients_of (record { shared = not one; first_loop = first }) n e ≡ NoParts
  no-quotients n (constant c) h = refl
  no-quotients n (variable k d rest) h = no-quotients n rest h
  no-quotients n (remainder k of m rest) h = no-quotients n rest h.1
  no-quotients n (quotient k of m rest) h = absurd h

  remainder-parts : (n : ℕ) (e : Sum) → HasNoQuotient e →
      remainders_of (record { shared = not one; first_loop = first }) n e NoParts ≡ parts_of (remainders o n e)
  remainder-parts n (constant c) h = refl
  remainder-parts n (variable k d rest) h = remainder-parts n rest h
  remainder-parts n (remainder k of m rest) h =
      let f : PlainFrame = record { shared = not one; first_loop = first } in
      ap₂ (λ x xs. AndParts (Rem x m k) xs)
      (ap (λ qs. sum_of f n of (remainders_of f n of qs)) (no-quotients n of h.0)
      ∙ ap (sum_of f n of) (remainder-parts n of h.0)
      ∙ linear-parts n of (remainders o n of))
      (remainder-parts n rest h.1)
  remainder-parts n (quotient k of m rest) h = absurd h

  pub expression-is : (n : ℕ) (e : Sum) → HasNoQuotient e →
      expr_of (frame_of (target_of o.request) (plain_work o.pass.work)) n e ≡ expression o n e
  expression-is n e h =
      let f : PlainFrame = record { shared = not one; first_loop = first } in
      ap (λ k. expr_of (record { shared = not one; first_loop = k }) n e)
      (sym (hidden-is o.request o.pass.work))
      ∙ ap (λ qs. sum_of f n e (remainders_of f n e qs)) (no-quotients n e h)
      ∙ ap (sum_of f n e) (remainder-parts n e h)
      ∙ linear-parts n e (remainders o n e)

-- ---- the code of a pass by the rules of emission is that of its nest

-- ---- lists of statements

pub body-append : (xs ys : List PlainStmt) → body_of (xs ++ ys) ≡ followed_by (body_of xs) (body_of ys)
body-append [] ys = refl
body-append (x ∷ xs) ys = ap (AndStmts x) (body-append xs ys)

pub followed-end : (xs : PlainBody) → followed_by xs NoStmts ≡ xs
followed-end NoStmts = refl
followed-end (AndStmts x xs) = ap (AndStmts x) (followed-end xs)

range-more : (n : ℕ) → range_with_len 0 (suc n) ≡ range_with_len 0 n ++ n ∷ []
range-more n =
    ap (range_with_len 0) (let next : suc n ≡ n + 1 = omega arith in next)
    ∙ sym (map-id (range_with_len 0 (n + 1)))
    ∙ map-range_with_len_more (λ k. k) 0 n n (omega arith)
    ∙ ap (λ ks. ks ++ n ∷ []) (map-id (range_with_len 0 n))

pub in-a-row : (n : ℕ) (f : ℕ → PlainBody) (g : ℕ → List PlainStmt) → ((k : ℕ) → k < n → f k ≡ body_of (g k)) →
    in_a_row n f ≡ body_of (flat_map g (range_with_len 0 n))
in-a-row zero f g same = refl
in-a-row (suc n) f g same =
    ap₂ followed_by (in-a-row n f g (λ k low. same k (omega (arith, low)))) (same n (omega arith))
    ∙ sym (body-append (flat_map g (range_with_len 0 n)) (g n))
    ∙ ap (λ xs. body_of (flat_map g (range_with_len 0 n) ++ xs)) (sym (append-nil (g n)))
    ∙ ap body_of (sym (flat_map-append g (range_with_len 0 n) (n ∷ [])))
    ∙ ap (λ ks. body_of (flat_map g ks)) (sym (range-more n))

pub straight-is : (code : List KernelOp) → straight_body code ≡ body_of (map (λ i. Do (op_of i)) code)
straight-is [] = refl
straight-is (i ∷ code) = ap (AndStmts (Do (op_of i))) (straight-is code)

pub nested-is : (counts : List ℕ) (stmts : List PlainStmt) →
    nested counts (body_of stmts) ≡ body_of (in_loops counts stmts)
nested-is [] stmts = refl
nested-is (n ∷ counts) stmts = ap (λ inner. AndStmts (Loop n inner) NoStmts) (nested-is counts stmts)

-- the item number k of those that straight code names
named : (f : Sum → Sum) (n a k : ℕ) → k < n →
    slice_index_or (map f (map constant (range_with_len a n))) k (constant 0) ≡ f (constant (a + k))
named f n a k low =
    ap (λ es. slice_index_or es k (constant 0)) (map-map f constant (range_with_len a n))
    ∙ get_or-map-range_with_len (λ i. f (constant i)) a n k (a + k) (constant 0) low refl

-- ---- the places of a pass

abbrev pub KeepsPlain : PlaceFunction → Type 0
KeepsPlain f = (cs : ℕ → ℕ) (k : Sum) → HasNoQuotient k → HasNoQuotient (f cs k)

abbrev pub ArePlainFactors : Factors → Type 0
ArePlainFactors none = Unit {0}
ArePlainFactors (number v) = Unit {0}
ArePlainFactors (entries diagonal f) = KeepsPlain f

-- no place has a quotient
pub record IsPlainSite (o : Site) : Type 0 where
  pub load : KeepsPlain o.load
  pub keep : KeepsPlain o.keep
  pub factors : ArePlainFactors o.factors
  pub store : KeepsPlain o.store

module _ (o : Setting) where
  abbrev site : Site
  site = o.pass.site

  abbrev h : Target
  h = target_of o.request

  abbrev w : works.PlainWork
  w = plain_work o.pass.work

  abbrev z : PlainNest
  z = emitted_nest o.pass

  abbrev frame : PlainFrame
  frame = frame_of h w

  abbrev cs : ℕ → ℕ
  cs = bounds site.counts w

  -- the numbers of the tables, as they are where the pass stands
  abbrev pub FindsPowers : Work → ℕ → Type 0
  FindsPowers (rows root size) powers = powers ≡ number_of o.tables (powers_of o.request.modulus root size)
  FindsPowers v powers = Unit {0}

  abbrev pub FindsEntries : Factors → ℕ → Type 0
  FindsEntries (entries diagonal f) table = table ≡ number_of o.tables (table_of o.request.modulus diagonal)
  FindsEntries factors table = Unit {0}

  sizes : (v : Work) → works.work_size (plain_work v) ≡ work_size v
  sizes (kernel c t) = refl
  sizes _ = refl

  limits-are : cs ≡ emission.limits o.pass
  limits-are = ap (λ n. slice_index (site.counts ++ n ∷ n ∷ [])) (sizes o.pass.work)

  -- an expression of a sum that a place function gives
  at-place : (inner : ℕ) (f : PlaceFunction) (k : Sum) → KeepsPlain f → HasNoQuotient k →
      expr_of frame (length (loops o) + inner) (f cs k) ≡ place o inner f k
  at-place inner f k keeps plain =
      expression-is o (length (loops o) + inner) (f cs k) (keeps cs k plain)
      ∙ ap (λ b. emission.expression o (length (loops o) + inner) (f b k)) limits-are

  -- the same, of an item that a list of places has
  from-list : (sums : List Sum) (i inner : ℕ) (f : PlaceFunction) (k : Sum) → KeepsPlain f → HasNoQuotient k →
      slice_index_or sums i (constant 0) ≡ f cs k →
      place_at frame (length (loops o) + inner) sums i ≡ place o inner f k
  from-list sums i inner f k keeps plain is =
      ap (expr_of frame (length (loops o) + inner)) is ∙ at-place inner f k keeps plain

  -- ---- a store with its factor, of the item number i of these, which stands at the place k

  module _ (plain : IsPlainSite site) (inner i : ℕ) (k : Sum) (none' : HasNoQuotient k) (scatters : List Sum)
      (stored : slice_index_or scatters i (constant 0) ≡ site.store cs k) where
    put : (r : ℕ) →
        do_only (Store o.target (place_at frame (length (loops o) + inner) scatters i) r)
        ≡ body_of (store o inner k r ∷ [])
    put r = ap (λ e. do_only (Store o.target e r)) (from-list scatters i inner site.store k plain.store none' stored)

    finish-is : (factors : Factors) (table from free : ℕ) → ArePlainFactors factors → FindsEntries factors table →
        ((f : PlaceFunction) → slice_index_or (map (f cs) (each w (length site.counts))) i (constant 0) ≡ f cs k) →
        finish_body frame (emission.step_of o.pass.work) (multiplier_at site.counts w factors) scatters
        (length (loops o) + inner) table o.target i from free
        ≡ body_of (finish o inner factors k from free)
    finish-is none table from free keeps finds item = put from
    finish-is (number v) table from free keeps finds item = ap (AndStmts (Do (MulConst free from v))) (put free)
    finish-is (entries diagonal f) table from free keeps finds item = by-diagonal diagonal finds
      where
        turns : Diagonal → PlainStmt
        turns x =
            Do (MulTable free from (number_of o.tables (table_of o.request.modulus x)) (place o inner f k)
            (emission.step_of o.pass.work))

        product : (x : Diagonal) → FindsEntries (entries x f) table →
            AndStmts
            (Do (MulTable free from table
            (place_at frame (length (loops o) + inner) (map (f cs) (each w (length site.counts))) i)
            (emission.step_of o.pass.work)))
            (do_only (Store o.target (place_at frame (length (loops o) + inner) scatters i) free))
            ≡ AndStmts (turns x) (body_of (store o inner k free ∷ []))
        product x finds =
            ap₂ (λ n e. AndStmts (Do (MulTable free from n e (emission.step_of o.pass.work)))
            (do_only (Store o.target (place_at frame (length (loops o) + inner) scatters i) free))) finds
            (from-list (map (f cs) (each w (length site.counts))) i inner f k keeps none' (item f))
            ∙ ap (AndStmts (turns x)) (put free)

        by-diagonal : (x : Diagonal) → FindsEntries (entries x f) table →
            finish_body frame (emission.step_of o.pass.work) (multiplier_at site.counts w (entries x f)) scatters
            (length (loops o) + inner) table o.target i from free
            ≡ body_of (finish o inner (entries x f) k from free)
        by-diagonal (values table') finds = product (values table') finds
        by-diagonal (twiddles r s root) finds = product (twiddles r s root) finds

  -- ---- the work

  module _ (plain : IsPlainSite site) (table : ℕ) (finds : FindsEntries site.factors table) where
    open-loops : length (loops o) ≡ length (loops o) + 0
    open-loops = omega arith

    straight-work : (n : ℕ) → ((d : ℕ) → each w d ≡ map constant (range_with_len 0 n)) → (step : ℕ) →
        step ≡ emission.step_of o.pass.work → (stmts : List PlainStmt) (outs : ℕ → ℕ) (next : ℕ) →
        followed_by (loads_body frame z (length (loops o)) n o.source)
        (followed_by (body_of stmts)
        (in_a_row n (λ k. finish_body frame step z.multiplier z.scatters (length (loops o)) table o.target k (outs k)
        (next + k))))
        ≡ body_of (straight o n stmts outs next)
    straight-work n names step is stmts outs next =
        ap₂ followed_by loads-are (ap (followed_by (body_of stmts)) stores-are)
        ∙ ap (followed_by (body_of loads')) (sym (body-append stmts stores'))
        ∙ sym (body-append loads' (stmts ++ stores'))
      where
        loads' : List PlainStmt
        loads' = map (λ k. load o 0 k (constant k)) (range_with_len 0 n)

        stores' : List PlainStmt
        stores' = flat_map (λ k. finish o 0 site.factors (constant k) (outs k) (next + k)) (range_with_len 0 n)

        item : (d k : ℕ) → k < n → (f : PlaceFunction) →
            slice_index_or (map (f cs) (each w d)) k (constant 0) ≡ f cs (constant k)
        item d k low f =
            ap (λ es. slice_index_or (map (f cs) es) k (constant 0)) (names d)
            ∙ named (f cs) n 0 k low
            ∙ ap (λ i. f cs (constant i)) (let same : 0 + k ≡ k = omega arith in same)

        loaded : (k : ℕ) → k < n →
            do_only (Load k o.source (place_at frame (length (loops o)) z.gathers k))
            ≡ body_of (load o 0 k (constant k) ∷ [])
        loaded k low =
            ap (λ d. do_only (Load k o.source (place_at frame d z.gathers k))) open-loops
            ∙ ap (λ e. do_only (Load k o.source e))
            (from-list z.gathers k 0 site.load (constant k) plain.load tt
            (item (length site.counts + 1) k low site.load))

        loads-are : loads_body frame z (length (loops o)) n o.source ≡ body_of loads'
        loads-are =
            in-a-row n (λ k. do_only (Load k o.source (place_at frame (length (loops o)) z.gathers k)))
            (λ k. load o 0 k (constant k) ∷ []) loaded
            ∙ ap body_of (flat_map_single (λ k. load o 0 k (constant k)) (range_with_len 0 n))

        stores-are : in_a_row n (λ k. finish_body frame step z.multiplier z.scatters (length (loops o)) table o.target k
            (outs k) (next + k)) ≡ body_of stores'
        stores-are =
            in-a-row n _ (λ k. finish o 0 site.factors (constant k) (outs k) (next + k))
            (λ k low. ap₂ (λ s d. finish_body frame s z.multiplier z.scatters d table o.target k (outs k) (next + k))
            is open-loops
            ∙ finish-is plain 0 k (constant k) tt z.scatters (item (length site.counts) k low site.store)
            site.factors table (outs k) (next + k) plain.factors finds (item (length site.counts) k low))

    rows-work : (root size powers : ℕ) → o.pass.work ≡ rows root size →
        powers ≡ number_of o.tables (powers_of o.request.modulus root size) →
        work_body h z (works.rows root size) (length (loops o)) powers table o.source o.target
        ≡ body_of (by_rows o (powers_of o.request.modulus root size) size)
    rows-work root size powers is found =
        ap₂ (λ input n. AndStmts (Loop size (AndStmts (Do (Zero 0)) (AndStmts
        (Loop size (term_body input (length (loops o)) o.source n size))
        (finish_body frame 0 z.multiplier z.scatters (length (loops o) + 1) table o.target 0 0 3)))) NoStmts)
        (from-list z.gathers 0 2 site.load l plain.load tt (item (length site.counts + 1) site.load)) found
        ∙ ap (λ end. AndStmts (Loop size (AndStmts (Do (Zero 0)) (AndStmts (Loop size
        (term_body (place o 2 site.load l) (length (loops o)) o.source
        (number_of o.tables (powers_of o.request.modulus root size)) size)) end))) NoStmts)
        (ap (λ s. finish_body frame s z.multiplier z.scatters (length (loops o) + 1) table o.target 0 0 3)
        (sym (ap emission.step_of is))
        ∙ finish-is plain 1 0 k tt z.scatters (item (length site.counts) site.store) site.factors table 0 3
        plain.factors finds (item (length site.counts)))
      where
        k : Sum
        k = variable 1 (length site.counts) (constant 0)

        l : Sum
        l = variable 1 (length site.counts + 1) (constant 0)

        item : (d : ℕ) (f : PlaceFunction) →
            slice_index_or (map (f cs) (each w d)) 0 (constant 0) ≡ f cs (variable 1 d (constant 0))
        item d f = ap (λ v. slice_index_or (map (f cs) (each (plain_work v) d)) 0 (constant 0)) is

    work-is : (v : Work) → o.pass.work ≡ v → (powers : ℕ) → FindsPowers v powers →
        work_body h z (plain_work v) (length (loops o)) powers table o.source o.target ≡ body_of (emission.body o v)
    work-is (kernel c t) is powers found =
        let trees = rooted_of c t in
        let made = trees_kernel o.request.modulus trees in
        ap (λ code. followed_by (loads_body frame z (length (loops o)) (trees_size trees) o.source)
        (followed_by code (in_a_row (trees_size trees) (λ k. finish_body frame 0 z.multiplier z.scatters
        (length (loops o)) table o.target k (slice_index made.outs k) (made.next + k))))) (straight-is made.code)
        ∙ straight-work (trees_size trees) (λ d. ap (λ v. each (plain_work v) d) is) 0 (sym (ap emission.step_of is))
        (map (λ i. Do (op_of i)) made.code) (slice_index made.outs) made.next
    work-is (rows root size) is powers found = rows-work root size powers is found
    work-is (tile v) is powers found =
        straight-work v (λ d. ap (λ x. each (plain_work x) d) is) 1 (sym (ap emission.step_of is)) (Do (Tile v 0) ∷ [])
        (λ k. v + k) (v + v)

  -- ---- the pass

  loops-are : loop_counts h z ≡ loops o
  loops-are = ap (λ n. drop n site.counts) (sym (hidden-is o.request o.pass.work))

  pub pass-is : IsPlainSite site → (tables : List (List ℕ)) →
      FindsPowers o.pass.work (powers_number o.request.modulus w tables) →
      FindsEntries site.factors
      (multiplier_number o.request.modulus z.multiplier (tables_of_work o.request.modulus w tables)) →
      pass_body h (z ∷ []) tables o.source o.target ≡ body_of (pass_code o)
  pass-is plain tables powers finds =
      let table = multiplier_number o.request.modulus z.multiplier (tables_of_work o.request.modulus w tables) in
      let number' = powers_number o.request.modulus w tables in
      followed-end (nest_body h z tables o.source o.target)
      ∙ ap (λ counts. nested counts (work_body h z w (length counts) number' table o.source o.target)) loops-are
      ∙ ap (nested (loops o)) (work-is plain table finds o.pass.work refl number' powers)
      ∙ nested-is (loops o) (emission.body o o.pass.work)
