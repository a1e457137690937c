-- The program of passes by the rules of emission is that of their nests.
use Rattle.std.proofs.Common.{◌≡◌, ℕ, zero, suc, ◌+◌, ◌-◌, ◌%◌, ◌==◌, Bool, true, false, refl, sym, ap, ap₂, ◌∙◌, List}
use Rattle.std.proofs.Common.{[], ◌∷◌, ◌++◌, length, arith, append-nil, append_assoc}
use Rattle.std.specs.Prelude.{cond, map, max, nat_eq, not, slice_index, if◌then◌else◌, ◌&&◌, ◌||◌}
use Rattle.std.specs.Cmp.Lexicographic.{pointwise}
use Rattle.std.specs.List.{flat_map, fold, list_any}
use Rattle.std.proofs.Math.Nat.{max-zero, zero-max}
use Rattle.std.proofs.lemmas.Bool.Decides.{nat_tests}
use Rattle.std.proofs.lemmas.Grind.{flat_map-append, fold-append}
use Rattle.std.proofs.lemmas.List.{length-append, length-map, map-append}
use Rattle.std.proofs.lemmas.List.FromFn.{fill_by_all}
use Rattle.code_gen.specs.PassActions.Acts.{nest_registers, pass_registers, with_multiplier}
use Rattle.code_gen.specs.PassCode.Program.{array_after, count_in, most_of, most_of_phases, phase_body, phases_body}
use Rattle.code_gen.specs.PassCode.Program.{program_of, tables_of_phases, tables_through, written_array}
use Rattle.code_gen.specs.PassCode.Statements.{diagonal_of, followed_by, is_table, multiplier_number, pass_body}
use Rattle.code_gen.specs.PassCode.Statements.{powers_number, table_number, tables_after, tables_of_multiplier}
use Rattle.code_gen.specs.PassCode.Statements.{tables_of_work, with_table}
use Rattle.code_gen.proofs.PassCode.SharedTables.{extends-more, Extends, is_table-Decides, with_table-extends}
use Rattle.icode.specs.Plain.{PlainBody, PlainProgram, body_of}
use Rattle.icode.specs.declared.program.Array.{Array}
use Rattle.icode.specs.declared.program.Array.TheVariants.{X, Y, A, B}
use Rattle.kernel_gen.specs.Kernel.{trees_kernel}
use Rattle.matrix_meaning.specs.declared.Request.{Request}
use Rattle.operators.specs.declared.target.Target.{Target}
use Rattle.sigma_spl.specs.Nest.{PlainNest}
use Rattle.sigma_spl.specs.Shared.Targets.{target_of}
use Rattle.sigma_spl.specs.Work as works
use Rattle.tree_model.specs.Trees.{trees_size}
use Rattle.tree_model.specs.Whole.{rooted_of}
use Rattle.generate.specs.Emission.Bodies.{Setting, pass_code}
use Rattle.generate.specs.Emission.Passes.{Diagonal, Factors, Pass, Work, entries, kernel, none, rows, tile, twiddles}
use Rattle.generate.specs.Emission.Passes.{values}
use Rattle.generate.specs.Emission.Program.{phase_code, phases_code, products, program_in, read, registers, written}
use Rattle.generate.specs.Emission.Tables.{added, entries_in, number_of, powers_in, powers_of, table_of, tables_in}
use Rattle.generate.proofs.Emission.Nested.{emitted, emitted_nest, multiplier_at, plain_factors, plain_work}
use Rattle.generate.proofs.Emission.PassBodies.{FindsEntries, FindsPowers, IsPlainSite, body-append, pass-is}

-- ---- tables by tests of the library

table-test : (xs ys : List ℕ) → is_table xs ys ≡ pointwise nat_eq xs ys
table-test (x ∷ xs) (y ∷ ys) = by (x == y) (table-test xs ys)
  where
    by : (b : Bool) → is_table xs ys ≡ pointwise nat_eq xs ys →
        (if b then is_table xs ys else false) ≡ (b && pointwise nat_eq xs ys)
    by true is = is
    by false is = refl
table-test _ _ = refl

number-is : (ts : List (List ℕ)) (e : List ℕ) → table_number ts e ≡ number_of ts e
number-is [] e = refl
number-is (t ∷ ts) e =
    ap₂ (λ b n. if b then 0 else suc n) (table-test t e) (number-is ts e) ∙ by (pointwise nat_eq t e) (number_of ts e)
  where
    by : (b : Bool) (n : ℕ) → (if b then 0 else suc n) ≡ cond (not b) (1 + n) 0
    by true n = refl
    by false n = omega arith

added-is : (ts : List (List ℕ)) (e : List ℕ) → with_table ts e ≡ added ts e
added-is [] e = refl
added-is (t ∷ ts) e =
    ap₂ (λ b us. if b then t ∷ ts else t ∷ us) (table-test t e) (added-is ts e)
    ∙ by (pointwise nat_eq t e) (list_any (λ u. pointwise nat_eq u e) ts)
  where
    by : (b k : Bool) →
        (if b then t ∷ ts else t ∷ (if k then ts else ts ++ e ∷ []))
        ≡ (if b || k then t ∷ ts else t ∷ (ts ++ e ∷ []))
    by true k = refl
    by false true = refl
    by false false = refl

folds-added : (ts es : List (List ℕ)) → fold with_table ts es ≡ fold added ts es
folds-added ts [] = refl
folds-added ts (e ∷ es) = folds-added (with_table ts e) es ∙ ap (λ us. fold added us es) (added-is ts e)

-- ---- tables that are there keep their numbers

number-before : (ts : List (List ℕ)) (e : List ℕ) (more : List (List ℕ)) →
    table_number (with_table ts e ++ more) e ≡ table_number ts e
number-before [] e more = ap (λ b. if b then 0 else suc (table_number more e)) ((is_table-Decides e e).1 refl)
number-before (t ∷ ts) e more = by (number-before ts e more) (is_table t e) refl
  where
    by : table_number (with_table ts e ++ more) e ≡ table_number ts e → (b : Bool) → is_table t e ≡ b →
        table_number ((if b then t ∷ ts else t ∷ with_table ts e) ++ more) e
        ≡ (if b then 0 else suc (table_number ts e))
    by rest true is = ap (λ b. if b then 0 else suc (table_number (ts ++ more) e)) is
    by rest false is = ap (λ b. if b then 0 else suc (table_number (with_table ts e ++ more) e)) is ∙ ap suc rest

all-extend : (ts xs : List (List ℕ)) → Extends (fold with_table ts xs) ts
all-extend ts [] = record { last = []; is = sym (append-nil ts) }
all-extend ts (x ∷ xs) =
    extends-more (all-extend (with_table ts x) xs) (with_table-extends ts x)

found : (ts : List (List ℕ)) (e : List ℕ) (xs : List (List ℕ)) →
    table_number ts e ≡ table_number (fold with_table (with_table ts e) xs) e
found ts e xs =
    let all = all-extend (with_table ts e) xs in
    sym (ap (λ us. table_number us e) all.is ∙ number-before ts e all.last)

-- ---- the tables of a pass

module _ (m : ℕ) where
  diagonal-is : (x : Diagonal) → diagonal_of m (plain_factors x) ≡ table_of m x
  diagonal-is (values table) = sym (fill_by_all (slice_index table) table (length table) 0 refl (λ k low. refl))
  diagonal-is (twiddles r s root) = refl

  work-tables : (v : Work) (ts : List (List ℕ)) →
      tables_of_work m (plain_work v) ts ≡ fold with_table ts (powers_in m v)
  work-tables (kernel c t) ts = refl
  work-tables _ ts = refl

  factor-tables : (counts : List ℕ) (w : works.PlainWork) (f : Factors) (ts : List (List ℕ)) →
      tables_of_multiplier m (multiplier_at counts w f) ts ≡ fold with_table ts (entries_in m f)
  factor-tables counts w (entries (values table) place) ts = ap (with_table ts) (diagonal-is (values table))
  factor-tables counts w (entries (twiddles r s root) place) ts =
      ap (with_table ts) (diagonal-is (twiddles r s root))
  factor-tables counts w _ ts = refl

  pass-tables : (p : Pass) (ts : List (List ℕ)) →
      tables_after m (emitted_nest p ∷ []) ts ≡ fold with_table ts (tables_in m p)
  pass-tables p ts =
      factor-tables p.site.counts (plain_work p.work) p.site.factors (tables_of_work m (plain_work p.work) ts)
      ∙ ap (λ us. fold with_table us (entries_in m p.site.factors)) (work-tables p.work ts)
      ∙ sym (fold-append with_table ts (powers_in m p.work) (entries_in m p.site.factors))

  phase-tables : (ps : List Pass) (ts : List (List ℕ)) →
      tables_through m (emitted ps) ts ≡ fold with_table ts (flat_map (tables_in m) ps)
  phase-tables [] ts = refl
  phase-tables (p ∷ ps) ts =
      ap (tables_through m (emitted ps)) (pass-tables p ts)
      ∙ phase-tables ps (fold with_table ts (tables_in m p))
      ∙ sym (fold-append with_table ts (tables_in m p) (flat_map (tables_in m) ps))

  all-tables : (phases : List (List Pass)) (ts : List (List ℕ)) →
      tables_of_phases m (map emitted phases) ts
      ≡ fold with_table ts (flat_map (tables_in m) (flat_map (λ ps. ps) phases))
  all-tables [] ts = refl
  all-tables (ps ∷ phases) ts =
      ap (tables_of_phases m (map emitted phases)) (phase-tables ps ts)
      ∙ all-tables phases (fold with_table ts (flat_map (tables_in m) ps))
      ∙ sym (fold-append with_table ts (flat_map (tables_in m) ps)
      (flat_map (tables_in m) (flat_map (λ qs. qs) phases)))
      ∙ ap (fold with_table ts) (sym (flat_map-append (tables_in m) ps (flat_map (λ qs. qs) phases)))

-- their numbers where the pass stands are those in the whole program

module _ (o : Setting) (ts rest : List (List ℕ)) where
  abbrev m' : ℕ
  m' = o.request.modulus

  powers-found : (v : Work) (es : List (List ℕ)) → o.tables ≡ fold with_table ts ((powers_in m' v ++ es) ++ rest) →
      FindsPowers o v (powers_number m' (plain_work v) ts)
  powers-found (rows root size) es are =
      found ts (powers_of m' root size) (es ++ rest)
      ∙ ap (λ us. table_number us (powers_of m' root size)) (sym are)
      ∙ number-is o.tables (powers_of m' root size)
  powers-found _ es are = tt

  entry-found : (v : Work) (x : Diagonal) (counts : List ℕ) → (table : List ℕ) → table ≡ table_of m' x →
      o.tables ≡ fold with_table ts ((powers_in m' v ++ table_of m' x ∷ []) ++ rest) →
      table_number (tables_of_work m' (plain_work v) ts) table ≡ number_of o.tables (table_of m' x)
  entry-found v x counts table is are =
      ap₂ table_number (work-tables m' v ts) is
      ∙ found (fold with_table ts (powers_in m' v)) (table_of m' x) rest
      ∙ ap (λ us. table_number us (table_of m' x))
      (sym (fold-append with_table ts (powers_in m' v) (table_of m' x ∷ rest))
      ∙ ap (fold with_table ts) (sym (append_assoc (powers_in m' v) (table_of m' x ∷ []) rest))
      ∙ sym are)
      ∙ number-is o.tables (table_of m' x)

  entries-found : (v : Work) (counts : List ℕ) (f : Factors) →
      o.tables ≡ fold with_table ts ((powers_in m' v ++ entries_in m' f) ++ rest) →
      FindsEntries o f
      (multiplier_number m' (multiplier_at counts (plain_work v) f) (tables_of_work m' (plain_work v) ts))
  entries-found v counts (entries (values table) place) are =
      entry-found v (values table) counts _ (diagonal-is m' (values table)) are
  entries-found v counts (entries (twiddles r s root) place) are =
      entry-found v (twiddles r s root) counts _ (diagonal-is m' (twiddles r s root)) are
  entries-found v counts _ are = tt

-- ---- arrays

written-is : (n t more : ℕ) → n ≡ t + suc more → written_array t more ≡ written n t
written-is n t zero is =
    ap (λ b. if b then Y else (if t % 2 == 0 then A else B))
    (let last : true ≡ (t + 1 == n) = grind (arith, nat_tests) in last)
written-is n t (suc more) is =
    ap (λ b. if b then Y else (if t % 2 == 0 then A else B))
    (let other : false ≡ (t + 1 == n) = grind (arith, nat_tests) in other)

read-next : (n t : ℕ) → read n (t + 1) ≡ written n t
read-next n t =
    ap (λ b. if b then X else written n (t + 1 - 1))
    (let some : (t + 1 == 0) ≡ false = grind (arith, nat_tests) in some)
    ∙ ap (written n) (let back : t + 1 - 1 ≡ t = omega arith in back)

-- ---- phases

abbrev setting : Request → List (List ℕ) → ℕ → ℕ → Pass → Setting
setting c tables n t p =
    record { request = c; tables = tables; pass = p; source = read n t; target = written n t }

abbrev pub ArePlain : List Pass → Type 0
ArePlain [] = Unit {0}
ArePlain (p ∷ ps) = IsPlainSite p.site × ArePlain ps

abbrev pub ArePlainPhases : List (List Pass) → Type 0
ArePlainPhases [] = Unit {0}
ArePlainPhases (ps ∷ phases) = ArePlain ps × ArePlainPhases phases

module _ (c : Request) (n : ℕ) (tables : List (List ℕ)) where
  abbrev h : Target
  h = target_of c

  abbrev m : ℕ
  m = c.modulus

  phase-is : (ps : List Pass) (t after : ℕ) (ts rest : List (List ℕ)) (source : Array) → ArePlain ps →
      n ≡ t + (length ps + after) → tables ≡ fold with_table ts (flat_map (tables_in m) ps ++ rest) →
      source ≡ read n t →
      phase_body h after (emitted ps) t ts source ≡ body_of (phase_code c tables n t ps)
  phase-is [] t after ts rest source plain long are from = refl
  phase-is (p ∷ ps) t after ts rest source plain long are from =
      let o = setting c tables n t p in
      let grouped : tables ≡ fold with_table ts (tables_in m p ++ (flat_map (tables_in m) ps ++ rest)) =
      are ∙ ap (fold with_table ts) (append_assoc (tables_in m p) (flat_map (tables_in m) ps) rest) in
      let to : written_array t (after + length (emitted ps)) ≡ written n t =
      ap (λ k. written_array t (after + k)) (length-map ps (λ q. emitted_nest q ∷ []))
      ∙ written-is n t (after + length ps) (omega (arith, long)) in
      let next : suc t ≡ t + 1 = omega arith in
      ap₂ (λ source target. followed_by (pass_body h (emitted_nest p ∷ []) ts source target)
      (phase_body h after (emitted ps) (suc t) (tables_after m (emitted_nest p ∷ []) ts) target)) from to
      ∙ ap₂ followed_by
      (pass-is o plain.0 ts
      (powers-found o ts (flat_map (tables_in m) ps ++ rest) p.work (entries_in m p.site.factors) grouped)
      (entries-found o ts (flat_map (tables_in m) ps ++ rest) p.work p.site.counts p.site.factors grouped))
      (ap₂ (λ k us. phase_body h after (emitted ps) k us (written n t)) next (pass-tables m p ts)
      ∙ phase-is ps (t + 1) after (fold with_table ts (tables_in m p)) rest (written n t) plain.1 (omega (arith, long))
      (grouped ∙ fold-append with_table ts (tables_in m p) (flat_map (tables_in m) ps ++ rest)) (sym (read-next n t)))
      ∙ sym (body-append (pass_code o) (phase_code c tables n (t + 1) ps))

  after-phase : (ps : List Pass) (t after : ℕ) (source : Array) → n ≡ t + (length ps + after) → source ≡ read n t →
      array_after after (emitted ps) t source ≡ read n (t + length ps)
  after-phase [] t after source long from = from ∙ ap (read n) (let none' : t ≡ t + 0 = omega arith in none')
  after-phase (p ∷ ps) t after source long from =
      let next : suc t ≡ t + 1 = omega arith in
      ap₂ (λ k a. array_after after (emitted ps) k a) next
      (ap (λ k. written_array t (after + k)) (length-map ps (λ q. emitted_nest q ∷ []))
      ∙ written-is n t (after + length ps) (omega (arith, long)))
      ∙ after-phase ps (t + 1) after (written n t) (omega (arith, long)) (sym (read-next n t))
      ∙ ap (read n) (let all : t + 1 + length ps ≡ t + suc (length ps) = omega arith in all)

  counted : (phases : List (List Pass)) → count_in (map emitted phases) ≡ length (flat_map (λ ps. ps) phases)
  counted [] = refl
  counted (ps ∷ phases) =
      ap₂ (λ a b. a + b) (counted phases) (length-map ps (λ q. emitted_nest q ∷ []))
      ∙ omega (arith, length-append ps (flat_map (λ qs. qs) phases))

  phases-are : (phases : List (List Pass)) (t : ℕ) (ts : List (List ℕ)) (source : Array) → ArePlainPhases phases →
      n ≡ t + length (flat_map (λ ps. ps) phases) →
      tables ≡ fold with_table ts (flat_map (tables_in m) (flat_map (λ ps. ps) phases)) → source ≡ read n t →
      phases_body h (map emitted phases) t ts source ≡ phases_code c tables n t phases
  phases-are [] t ts source plain long are from = refl
  phases-are (ps ∷ phases) t ts source plain long are from =
      let rest = flat_map (λ qs. qs) phases in
      let after = count_in (map emitted phases) in
      let many = length-append ps rest in
      let count = counted phases in
      let here : n ≡ t + (length ps + after) = omega (arith, long, many, count) in
      let all : tables ≡ fold with_table ts (flat_map (tables_in m) ps ++ flat_map (tables_in m) rest) =
      are ∙ ap (fold with_table ts) (flat_map-append (tables_in m) ps rest) in
      ap₂ (λ b bs. b ∷ bs)
      (phase-is ps t after ts (flat_map (tables_in m) rest) source plain.0 here all from)
      (ap₂ (λ us a. phases_body h (map emitted phases) (t + length (emitted ps)) us a) (phase-tables m ps ts)
      (after-phase ps t after source here from)
      ∙ ap (λ k. phases_body h (map emitted phases) (t + k) (fold with_table ts (flat_map (tables_in m) ps))
      (read n (t + length ps))) (length-map ps (λ q. emitted_nest q ∷ []))
      ∙ phases-are phases (t + length ps) (fold with_table ts (flat_map (tables_in m) ps)) (read n (t + length ps))
      plain.1 (omega (arith, long, many))
      (all ∙ fold-append with_table ts (flat_map (tables_in m) ps) (flat_map (tables_in m) rest)) refl)

-- ---- registers

module _ (m : ℕ) where
  factor-registers : (f : Factors) (counts : List ℕ) (w : works.PlainWork) (used more : ℕ) →
      with_multiplier (multiplier_at counts w f) used more ≡ used + products f more
  factor-registers none counts w used more = omega arith
  factor-registers _ counts w used more = refl

  nest-registers : (v : Work) (f : Factors) (z : PlainNest) (counts : List ℕ) (w : works.PlainWork) →
      z.multiplier ≡ multiplier_at counts w f → nest_registers m z (plain_work v) ≡ registers m f v
  nest-registers (kernel c t) f z counts w is =
      let trees = rooted_of c t in
      ap (λ x. with_multiplier x (trees_kernel m trees).next (trees_size trees)) is
      ∙ factor-registers f counts w (trees_kernel m trees).next (trees_size trees)
  nest-registers (rows root size) f z counts w is =
      ap (λ x. with_multiplier x 3 1) is ∙ factor-registers f counts w 3 1
  nest-registers (tile v) f z counts w is =
      ap (λ x. with_multiplier x (v + v) v) is ∙ factor-registers f counts w (v + v) v

  abbrev pass-need : Pass → ℕ
  pass-need p = registers m p.site.factors p.work

  pass-registers : (p : Pass) → pass_registers m (emitted_nest p ∷ []) ≡ pass-need p
  pass-registers p =
      max-zero (nest_registers m (emitted_nest p) (plain_work p.work))
      ∙ nest-registers p.work p.site.factors (emitted_nest p) p.site.counts (plain_work p.work) refl

  three : (a b c : ℕ) → max (max a b) c ≡ max a (max b c)
  three a b c = omega arith

  from-first : (a : ℕ) (xs : List ℕ) → fold max a xs ≡ max a (fold max 0 xs)
  from-first a [] = sym (max-zero a)
  from-first a (x ∷ xs) =
      from-first (max a x) xs
      ∙ three a x (fold max 0 xs)
      ∙ ap (max a) (sym (ap (λ k. fold max k xs) (zero-max x) ∙ from-first x xs))

  module _ (c : Request) where
    phase-registers : (h : Target) → h.modulus ≡ m → (ps : List Pass) →
        most_of h (emitted ps) ≡ fold max 0 (map pass-need ps)
    phase-registers h is [] = refl
    phase-registers h is (p ∷ ps) =
        ap₂ max (ap (λ k. pass_registers k (emitted_nest p ∷ [])) is ∙ pass-registers p) (phase-registers h is ps)
        ∙ sym (ap (λ k. fold max k (map pass-need ps)) (zero-max (pass-need p))
        ∙ from-first (pass-need p) (map pass-need ps))

    all-registers : (h : Target) → h.modulus ≡ m → (phases : List (List Pass)) →
        most_of_phases h (map emitted phases) ≡ fold max 0 (map pass-need (flat_map (λ ps. ps) phases))
    all-registers h is [] = refl
    all-registers h is (ps ∷ phases) =
        let rest = flat_map (λ qs. qs) phases in
        ap₂ max (phase-registers h is ps) (all-registers h is phases)
        ∙ sym (from-first (fold max 0 (map pass-need ps)) (map pass-need rest))
        ∙ sym (fold-append max 0 (map pass-need ps) (map pass-need rest))
        ∙ ap (fold max 0) (sym (map-append pass-need ps rest))

-- ---- the program

pub programs-by-passes : (c : Request) (phases : List (List Pass)) → ArePlainPhases phases →
    program_of (target_of c) (record { size = c.size; procs = c.procs; lanes = c.lanes; phases = map emitted phases })
    ≡ program_in c phases
programs-by-passes c phases plain =
    let all = flat_map (λ ps. ps) phases in
    let each = flat_map (tables_in c.modulus) all in
    let tables = fold added [] each in
    ap₂ (λ r ts. whole r ts (phases_body (target_of c) (map emitted phases) 0 [] X))
    (all-registers c.modulus c (target_of c) refl phases) (all-tables c.modulus phases [] ∙ folds-added [] each)
    ∙ ap (whole (fold max 0 (map (pass-need c.modulus) all)) tables)
    (phases-are c (length all) tables phases 0 [] X plain (omega arith) (sym (folds-added [] each)) refl)
  where
    whole : ℕ → List (List ℕ) → List PlainBody → PlainProgram
    whole regs tables bodies = record {
      size = c.size;
      modulus = c.modulus;
      procs = c.procs;
      line = c.line;
      lanes = c.lanes;
      regs = regs;
      tables = tables;
      phases = bodies;
    }
