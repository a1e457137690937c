-- A program with a table in two factors leaves what it left.
use Rattle.std.proofs.Common.{◌≡◌, ℕ, suc, ◌+◌, ◌-◌, ◌^◌, ◌<◌, ◌≤◌, ◌&&◌, Bool, true, false, List, [], ◌∷◌, ◌++◌, Vec}
use Rattle.std.proofs.Common.{Global, map, length, sym, ap, ap₂, ◌∙◌, subst, arith, length-append, lt-ltb, zero, ◌*◌}
use Rattle.std.proofs.Common.{refl, ltb-true, Contains}
use Rattle.std.specs.Prelude.{nat_le, slice_index_or, slice_set, if◌then◌else◌}
use Rattle.std.proofs.lemmas.List.{length-map, length-set, map-append, map-set}
use Rattle.icode.specs.declared.program.Program.{Program}
use Rattle.icode.specs.declared.program.Stmt.{Stmt}
use Rattle.icode.specs.Actions.{PlainFits, plain_code, Step, steps_of_body, steps_of_phase, actions_of}
use Rattle.icode.specs.Machine.{IsApart, effects, stored_words, touched_words}
use Rattle.icode.specs.Limits.{IsHeaderWithin, are_tables_within, are_phases_within}
use Rattle.icode.specs.Plain.{PlainBody, PlainProgram, plain_tables, plain_phases, NoStmts}
use Rattle.icode.specs.Program.{plain_program, table_of}
use Rattle.icode.proofs.Bools.{both_true}
use Rattle.two_tables.specs.Factors.{Cut, first_factor, second_factor, are_factors, cut_of}
use Rattle.two_tables.specs.Factored.{Split, split_at, in_factors, factored_body, is_usable, is_cut_well, may_be_split}
use Rattle.two_tables.specs.Factored.{can_split, factored_at, factored_from, factored, is_body_even, is_short}
use Rattle.two_tables.proofs.Products.{what_is_usable, positive, what_splits, IsSplit, body-for, AreFor}
use Rattle.two_tables.proofs.Within.{tables_within, phases_within}
use Rattle.std.proofs.Math.Nat.{mul-le-mul_right}
use Rattle.operators.specs.Sum.{sum_below}
use Rattle.icode.specs.Lengths.{len_of_body}
use Rattle.icode.proofs.Lengths.{body_length}
use Rattle.nests.specs.InPlace.{IsInPlaceOf}
use Rattle.nests.proofs.InOrder.{Keep}
use Rattle.nests.proofs.Bools.{by_test}
use Rattle.nests.proofs.InPlace.{StandFor, total, memory-same, in-place, itself, where-true, after, passes-at, body-at}
use Rattle.two_tables.proofs.Registers.{HaveOneMore, AreLike, one-more-first}

-- ---- few steps

sum_most : (n c : ℕ) (f : ℕ → ℕ) → ((i : ℕ) → i < n → f i ≤ c) → sum_below n f ≤ n * c
sum_most zero c f h = omega arith
sum_most (suc n) c f h =
    let rest = sum_most n c f (λ i lt. h i (omega arith)) in
    let here = h n (omega arith) in
    omega (arith, rest, here)

-- phases and processors that are few, of lists that are short
few_steps : (phases procs : ℕ) (f : ℕ → ℕ → ℕ) → phases ≤ 64 → procs ≤ 16 →
    ((phase q : ℕ) → q < procs → f phase q ≤ 2 ^ 48) → sum_below phases (λ phase. sum_below procs (f phase)) < 2 ^ 59
few_steps phases procs f few alone short =
    let each : (phase : ℕ) → sum_below procs (f phase) ≤ 16 * 2 ^ 48 =
    λ phase.
    let a = sum_most procs (2 ^ 48) (f phase) (short phase) in
    let b = mul-le-mul_right (2 ^ 48) alone in
    omega (arith, a, b) in
    let all = sum_most phases (16 * 2 ^ 48) (λ phase. sum_below procs (f phase)) (λ phase lt. each phase) in
    let b = mul-le-mul_right (16 * 2 ^ 48) few in
    omega (arith, all, b)

-- ---- a table in two factors

module _ (p : PlainProgram) (fits : PlainFits p) (apart : (phase : ℕ) → IsApart (plain_code p) phase) where
  module _ (table : ℕ) (cut : Cut) (can : can_split p table cut ≡ true) where
    abbrev there : PlainProgram
    there = in_factors p table cut

    abbrev new : ℕ → ℕ → List Step
    new phase q = steps_of_phase there phase q

    abbrev old : ℕ → ℕ → List Step
    old phase q = steps_of_phase p phase q

    abbrev body_of : ℕ → PlainBody
    body_of phase = slice_index_or p.phases phase NoStmts

    many : length there.phases ≡ length p.phases
    many = length-map p.phases (factored_body (split_at p table cut))

    is : IsSplit p table cut
    is = what_splits p table cut can

    phase-for : (phase q : ℕ) → q < p.procs → AreFor p there (new phase q) (old phase q)
    phase-for phase q lt =
        subst (λ body. AreFor p there (steps_of_body there body [] q) (old phase q))
        (sym (body-at (factored_body (split_at p table cut)) refl p.phases phase))
        (body-for p table cut is (body_of phase) [] q
        (passes-at (is_body_even p.lanes table) refl p.phases phase is.usable.even) (fits.each phase q lt))

    few_there : total there < 2 ^ 59
    few_there =
        let usable = is.usable in
        let few = usable.phases in
        few_steps (length there.phases) p.procs (λ phase q. length (new phase q))
        (omega (arith, many, few))
        usable.procs
        (λ phase q lt.
        let twice = (phase-for phase q lt).few in
        let size = body_length p (body_of phase) [] q in
        let passes = passes-at is_short refl p.phases phase usable.short in
        let short = ltb-true (len_of_body (body_of phase)) (2 ^ 47) passes in
        omega (arith, twice, size, short))

    stand_there : (phase q : ℕ) → q < p.procs → StandFor there p (new phase q) (old phase q)
    stand_there phase q lt =
        let law = phase-for phase q lt in
        record {
          fits = law.fits;
          stored = λ k. subst (λ ks. Contains ks k) (law.words (stored_words p.lanes) (λ r x factors. refl));
          touched = λ k. subst (λ ks. Contains ks k) (law.words (touched_words p.lanes) (λ r x factors. refl));
        }

    keep_there : (phase q : ℕ) → q < p.procs →
        Keep p.modulus p.lanes p.lanes (HaveOneMore p.lanes p.regs)
        (actions_of (new phase q)) (actions_of (old phase q))
    keep_there phase q lt =
        record {
          memory = λ r s memory more. (like r s memory more).memory;
          registers = λ r s memory more. (like r s memory more).registers;
        }
      where
        like : (r s memory : List ℕ) → HaveOneMore p.lanes p.regs r s → AreLike p.modulus p.lanes p.regs
            (effects p.modulus p.lanes (actions_of (old phase q)) (record { memory = memory; registers = s }))
            (effects p.modulus p.lanes (actions_of (new phase q)) (record { memory = memory; registers = r }))
        like r s memory more = (phase-for phase q lt).like _ _ (record { memory = refl; registers = more })

    split_is : IsInPlaceOf there p
    split_is =
        in-place p there apart stand_there few_there
        (memory-same p there (HaveOneMore p.lanes p.regs) many (one-more-first p.lanes p.regs) keep_there)

  -- a table, if it may be split
  pub at_table : (least table : ℕ) → IsInPlaceOf (factored_at least p table) p
  at_table least table =
      where-true p fits apart (in_factors p table cut) (may_be_split least p table cut && is_cut_well p table cut)
      (λ may.
      let two = both_true (may_be_split least p table cut) (is_cut_well p table cut) may in
      let usable = (both_true (nat_le least (length entries)) (is_usable p table cut) two.0).1 in
      split_is table cut (ap₂ (λ a b. a && b) usable two.1))
    where
      entries : List ℕ
      entries = slice_index_or p.tables table []

      cut : Cut
      cut = cut_of entries

-- ---- one table after another

pub from_table : (least n table : ℕ) (p : PlainProgram) → PlainFits p → ((phase : ℕ) → IsApart (plain_code p) phase) →
    IsInPlaceOf (factored_from least n table p) p
from_table least zero table p fits apart = itself p fits apart
from_table least (suc n) table p fits apart =
    let here = at_table p fits apart least table in
    after (factored_from least (suc n) table p) (factored_at least p table) p
    (from_table least n (table + 1) (factored_at least p table) here.fits here.apart) here

-- ---- what becomes of a program's fields

pub record IsMade (p : Program) (table : ℕ) (cut : Cut) (tables : List (Vec ℕ Global)) (phases : List (Vec Stmt Global)) : Type 0 where
  pub header : IsHeaderWithin p.size p.modulus p.procs p.line p.lanes (p.regs + 1)
  pub constants : are_tables_within p.modulus (plain_tables tables) ≡ true
  pub statements : are_phases_within p.modulus (plain_phases phases) ≡ true
  pub tables_are : plain_tables tables ≡ (in_factors (plain_program p) table cut).tables
  pub phases_are : plain_phases phases ≡ (in_factors (plain_program p) table cut).phases

abbrev pub put_behind : Program → ℕ → Cut → ℕ → Split
put_behind p table cut behind = record { cut = cut; table = table; second = behind; register = p.regs }

pub is_made : (p : Program) (table : ℕ) (cut : Cut) (behind : ℕ) (first second : Vec ℕ Global)
    (tables : List (Vec ℕ Global)) (bodies phases : List (Vec Stmt Global)) →
    can_split (plain_program p) table cut ≡ true → first.items ≡ first_factor cut (table_of p table) →
    second.items ≡ second_factor cut (table_of p table) →
    behind ≡ length p.tables.items → tables ≡ slice_set p.tables.items table first ++ second ∷ [] →
    bodies ≡ p.phases.items → plain_phases phases ≡ map (factored_body (put_behind p table cut behind))
    (plain_phases bodies) →
    IsMade p table cut tables phases
is_made p table cut behind first second tables bodies phases can one two behind_is tables_is bodies_are phases_are =
    let q = plain_program p in
    let is = what_splits q table cut can in
    let usable = is.usable in
    let regs = usable.regs in
    let there : put_behind p table cut behind ≡ split_at q table cut =
    ap (put_behind p table cut) (behind_is ∙ sym (length-map p.tables.items (λ (v : Vec ℕ Global). v.items))) in
    let new_tables : plain_tables tables ≡ (in_factors q table cut).tables =
    ap plain_tables tables_is
    ∙ map-append (λ (v : Vec ℕ Global). v.items) (slice_set p.tables.items table first) (second ∷ [])
    ∙ ap (λ xs. xs ++ second.items ∷ []) (map-set (λ (v : Vec ℕ Global). v.items) p.tables.items table first)
    ∙ ap₂ (λ xs ys. slice_set q.tables table xs ++ ys ∷ []) one two in
    let new_phases : plain_phases phases ≡ map (factored_body (split_at q table cut)) q.phases =
    phases_are ∙ ap₂ (λ s xs. map (factored_body s) (plain_phases xs)) there bodies_are in
    record {
      header = record {
        of_size = p.header.of_size;
        of_modulus = p.header.of_modulus;
        of_procs = p.header.of_procs;
        of_line = p.header.of_line;
        of_lanes = p.header.of_lanes;
        of_regs = regs;
      };
      constants = ap (are_tables_within p.modulus) new_tables ∙ tables_within p.modulus q.tables table (first_factor cut (table_of p table)) (second_factor cut (table_of p table)) p.constants is.factors.first_small is.factors.second_small;
      statements = ap (are_phases_within p.modulus) new_phases ∙ phases_within p.modulus p.lanes (split_at q table cut) (lt-ltb p.regs (2 ^ 32) (omega (arith, regs))) usable.tables usable.width usable.across q.phases usable.even p.statements;
      tables_are = new_tables;
      phases_are = new_phases;
    }

abbrev with_both : (p : Program) → List (List ℕ) → List PlainBody → PlainProgram
with_both p tables phases = record (plain_program p) { regs = p.regs + 1; tables = tables; phases = phases }

pub program_made : (p : Program) (table : ℕ) (cut : Cut) (tables : List (Vec ℕ Global))
    (phases : List (Vec Stmt Global)) → IsMade p table cut tables phases →
    with_both p (plain_tables tables) (plain_phases phases) ≡ in_factors (plain_program p) table cut
program_made p table cut tables phases made = ap₂ (with_both p) made.tables_are made.phases_are

-- ---- one table

module _ (least table : ℕ) (p : PlainProgram) (cut : Cut) (is : cut ≡ cut_of (slice_index_or p.tables table [])) where
  abbrev chosen : Bool → Cut → PlainProgram
  chosen b c = if b then in_factors p table c else p

  answer : (b : Bool) → (may_be_split least p table cut && is_cut_well p table cut) ≡ b →
      chosen b cut ≡ factored_at least p table
  answer b e =
      ap (λ b. chosen b cut) (sym e) ∙ ap (λ c. chosen (may_be_split least p table c && is_cut_well p table c) c) is

  pub may_not : may_be_split least p table cut ≡ false → p ≡ factored_at least p table
  may_not fails = answer false (ap (λ b. b && is_cut_well p table cut) fails)

  pub is_no_product : may_be_split least p table cut ≡ true → is_cut_well p table cut ≡ false →
      p ≡ factored_at least p table
  is_no_product may fails = answer false (ap₂ (λ a b. a && b) may fails)

  pub is_product : may_be_split least p table cut ≡ true → is_cut_well p table cut ≡ true →
      in_factors p table cut ≡ factored_at least p table
  is_product may well = answer true (ap₂ (λ a b. a && b) may well)

pub may_can : (least table : ℕ) (p : PlainProgram) (cut : Cut) → may_be_split least p table cut ≡ true →
    is_cut_well p table cut ≡ true →
    can_split p table cut ≡ true
may_can least table p cut may well =
    ap₂ (λ a b. a && b) (both_true (nat_le least (length (slice_index_or p.tables table []))) (is_usable p table cut) may).1 well

-- the test of the entries, of factors that were made
pub tested : (p : PlainProgram) (table m : ℕ) (cut : Cut) (first second entries : List ℕ) (test : Bool) →
    m ≡ p.modulus →
    entries ≡ slice_index_or p.tables table [] → first ≡ first_factor cut entries → second ≡ second_factor cut entries →
    test ≡ are_factors m cut first second entries → test ≡ is_cut_well p table cut
tested p table m cut first second entries test m_is entries_is first_is second_is test_is =
    test_is
    ∙ (ap₂ (λ xs ys. are_factors m cut xs ys entries) first_is second_is
    ∙ ap₂ (λ n xs. are_factors n cut (first_factor cut xs) (second_factor cut xs) xs) m_is entries_is)

pub some_width : (least table : ℕ) (p : PlainProgram) (cut : Cut) → may_be_split least p table cut ≡ true →
    (0 < cut.width) × (0 < cut.across)
some_width least table p cut may =
    let entries = slice_index_or p.tables table [] in
    let usable = what_is_usable p table cut (both_true (nat_le least (length entries)) (is_usable p table cut) may).1 in
    (positive cut.width usable.width, positive cut.across usable.across)

-- there are no fewer tables
pub no_fewer : (least table : ℕ) (p : PlainProgram) → length p.tables ≤ length (factored_at least p table).tables
no_fewer least table p =
    let cut : Cut = cut_of (slice_index_or p.tables table []) in
    let first : List ℕ = first_factor cut (slice_index_or p.tables table []) in
    let second : List ℕ = second_factor cut (slice_index_or p.tables table []) in
    by_test (λ (q : PlainProgram). length p.tables ≤ length q.tables)
    (may_be_split least p table cut && is_cut_well p table cut) (in_factors p table cut) p
    (λ e.
    let long = length-append (slice_set p.tables table first) (second ∷ []) in
    omega (arith, length-set p.tables table first, long))
    (λ e. omega arith)

-- ---- the tables, from the first one on

-- the tables before this one are done, of as many as the program has
pub record AreDone (least : ℕ) (p : PlainProgram) (count table : ℕ) (q : PlainProgram) (many : ℕ) : Type 0 where
  pub rest : factored_from least (count - table) table q ≡ factored least p
  pub long : count ≤ many
  pub fits : PlainFits q
  pub apart : (phase : ℕ) → IsApart (plain_code q) phase

pub none_done : (least : ℕ) (p : Program) → PlainFits (plain_program p) →
    ((phase : ℕ) → IsApart (plain_code (plain_program p)) phase) →
    AreDone least (plain_program p) (length p.tables.items) 0 (plain_program p) (length p.tables.items)
none_done least p fits apart =
    let whole : length p.tables.items - 0 ≡ length p.tables.items = omega arith in
    record {
      rest = ap (λ n. factored_from least n 0 (plain_program p)) (whole ∙ sym (length-map p.tables.items (λ (v : Vec ℕ Global). v.items)));
      long = omega arith;
      fits = fits;
      apart = apart;
    }

pub one_more : (least count table : ℕ) (p : PlainProgram) (q r : Program) → table < count →
    AreDone least p count table (plain_program q) (length q.tables.items) →
    plain_program r ≡ factored_at least (plain_program q) table →
    AreDone least p count (table + 1) (plain_program r) (length r.tables.items)
one_more least count table p q r lt done is =
    let here = at_table (plain_program q) done.fits done.apart least table in
    let left : count - table ≡ suc (count - (table + 1)) = omega arith in
    let fewer = no_fewer least table (plain_program q) in
    let long_q = length-map q.tables.items (λ (v : Vec ℕ Global). v.items) in
    let long_r = length-map r.tables.items (λ (v : Vec ℕ Global). v.items) in
    let same : length (plain_tables r.tables.items) ≡ length (factored_at least (plain_program q) table).tables = ap (λ (s : PlainProgram). length s.tables) is in
    let long = done.long in
    record {
      rest = ap (factored_from least (count - (table + 1)) (table + 1)) is
          ∙ (sym (ap (λ n. factored_from least n table (plain_program q)) left) ∙ done.rest);
      long = omega (arith, fewer, long_q, long_r, same, long);
      fits = subst PlainFits (sym is) here.fits;
      apart = subst (λ s. (phase : ℕ) → IsApart (plain_code s) phase) (sym is) here.apart;
    }

pub all_done : (least count table many : ℕ) (p q : PlainProgram) → count ≤ table → AreDone least p count table q many →
    q ≡ factored least p
all_done least count table many p q past done =
    let none : count - table ≡ 0 = omega arith in
    sym (ap (λ n. factored_from least n table q) none) ∙ done.rest
