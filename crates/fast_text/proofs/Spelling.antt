-- The words of programs within their limits are read back from their texts.
use Rattle.std.proofs.Common.{◌≡◌, ℕ, zero, suc, ◌+◌, ◌-◌, ◌*◌, ◌<◌, ◌≤◌, Bool, true, false, cond, ltb, ◌&&◌}
use Rattle.std.proofs.Common.{List, [], ◌∷◌}
use Rattle.std.proofs.Common.{length, map, refl, sym, ap, subst, ◌∙◌, arith, mul-le-mul_left, mul-le-mul_right}
use Rattle.std.specs.Prelude.{nat_le, slice_set, if◌then◌else◌}
use Rattle.std.specs.List.{list_all}
use Rattle.std.proofs.lemmas.Bool.{ltb-true, lt-ltb, and_parts, and_from}
use Rattle.std.proofs.lemmas.Nat.{div_below}
use Rattle.icode.specs.Limits.{IsWithinLimits, is_small, is_op_within, is_stmt_within, is_body_within}
use Rattle.icode.specs.Limits.{is_small_positive}
use Rattle.icode.specs.Plain.{PlainOp, PlainStmt, PlainBody, PlainProgram, Load, Store, Zero, Add, Sub, Neg, MulConst}
use Rattle.icode.specs.Plain.{MulTable, Tile}
use Rattle.icode.specs.Plain as plain
use Rattle.listing_text.specs.Reading.{above_all}
use Rattle.listing_text.proofs.ReadBack.{small_fits}
use Rattle.word_code.specs.declared.laziness.WordSize.{WordSize}
use Rattle.word_code.specs.declared.laziness.WordSize.TheVariants.{Of16, Of32, Of52, Of64}
use Rattle.word_code.specs.Laziness.{narrow, wide, laziness_for}
use Rattle.word_code.specs.Laws.{IsLazyWithin}
use Rattle.word_code.specs.Needs.{needs}
use Rattle.word_code.specs.Quicken.{PlainLaziness, Header, Settled, header_of, bound_at, half_up, greater, settled}
use Rattle.word_code.specs.Quicken.{then_settled}
use Rattle.word_code.specs.Quicken.{noted, loosest, loosened, quick_stmt, quick_body, quick_alone, quick_phase}
use Rattle.word_code.specs.Quicken.{quotients_of, quickened}
use Rattle.word_code.specs.Words.{base_of, quotient_of}
use Rattle.word_code.proofs.Bare.{bare_quickened, phases_cases}
use Rattle.word_code.proofs.Emitting.{stmt_sane}
use Rattle.word_code.proofs.Flow.{loosened_lazy}
use Rattle.word_code.proofs.Reduce.{loosest_is, half_under, set_lower}
use Rattle.word_code.proofs.Settling.{settled_sane}
use Rattle.fast_text.specs.WordTexts.{is_word, is_reduction_of_words, is_note_of, has_notes_of_words}
use Rattle.fast_text.specs.WordTexts.{have_notes_of_words}
use Rattle.fast_text.specs.WordTexts.{are_tables_of_words, IsSpellable}

-- no bound passes the limit
abbrev IsSane : ℕ → List ℕ → Type 0
IsSane limit bounds = (r : ℕ) → bound_at limit bounds r ≤ limit

-- ---- reductions

greater_is_word : (limit x y : ℕ) (bounds : List ℕ) → x < above_all → y < above_all → greater limit x y bounds <
    above_all
greater_is_word limit x y bounds a b = of_choice (nat_le (bound_at limit bounds y) (bound_at limit bounds x))
  where
    of_choice : (k : Bool) → cond k x y < above_all
    of_choice true = a
    of_choice false = b

module _ (m limit : ℕ) (room : limit * m < above_all) where
  -- a bound in words
  bound_is_word : (bound : ℕ) → bound ≤ limit → bound * m < above_all
  bound_is_word bound le = let a = mul-le-mul_right m le in omega (arith, a, room)

  settled_words : (n x y target : ℕ) (bounds : List ℕ) → x < above_all → y < above_all → IsSane limit bounds →
      list_all is_reduction_of_words (settled m limit n x y target bounds).reductions ≡ true
  settled_words zero x y target bounds a b sane = refl
  settled_words (suc n) x y target bounds a b sane =
      let g = greater limit x y bounds in
      let h = half_up (bound_at limit bounds g) in
      let under = half_under (bound_at limit bounds g) in
      let low = sane g in
      let next = settled_words n x y target (slice_set bounds g h) a b
      (λ q. let one = set_lower limit bounds g h q under in let two = sane q in omega (arith, one, two)) in
      let word : is_reduction_of_words (record { register = g; amount = h * m }) ≡ true =
      and_from (is_word g) (is_word (h * m)) (lt-ltb g above_all (greater_is_word limit x y bounds a b))
      (lt-ltb (h * m) above_all (bound_is_word h (omega (arith, under, low)))) in
      of_choice (nat_le (bound_at limit bounds x + bound_at limit bounds y) target)
      (record { reductions = []; bounds = bounds })
      (then_settled (record { register = g; amount = h * m }) (settled m limit n x y target (slice_set bounds g h)))
      refl
      (and_from (is_reduction_of_words (record { register = g; amount = h * m })) _ word next)
    where
      of_choice : (k : Bool) (s t : Settled) → list_all is_reduction_of_words s.reductions ≡ true →
          list_all is_reduction_of_words t.reductions ≡ true →
          list_all is_reduction_of_words (cond k s t).reductions ≡ true
      of_choice true s t one two = one
      of_choice false s t one two = two

-- ---- quotients

quotient_below : (base m c : ℕ) → 0 < base → c < m → quotient_of base m c < base
quotient_below base m c some lt =
    let up : c + 1 ≤ m = omega (arith, lt) in
    let a = mul-le-mul_left base up in
    div_below (c * base) m base (omega (arith, lt)) (omega (arith, a, some))

-- ---- notes

module _ (z : PlainLaziness) (m : ℕ) (lazy : IsLazyWithin z m) (pos : 0 < m) (base : base_of z.width ≤ above_all) where
  room : z.limit * m < above_all
  room = omega (arith, lazy.room, base)

  some_base : 0 < base_of z.width
  some_base = omega (arith, lazy.room)

  quotient_is_word : (c : ℕ) → c < m → is_word (quotient_of (base_of z.width) m c) ≡ true
  quotient_is_word c lt = lt-ltb _ above_all (let a = quotient_below (base_of z.width) m c some_base lt in omega
      (arith, a, base))

  bias_is_word : (bound : ℕ) → bound ≤ z.limit → (is_word (bound * m) && true) ≡ true
  bias_is_word bound le = and_from (is_word (bound * m)) true
      (lt-ltb (bound * m) above_all (bound_is_word m z.limit room bound le)) refl

  noted_words : (lanes : ℕ) (op : PlainOp) (depth : ℕ) (bounds : List ℕ) → is_op_within m op depth ≡ true →
      IsSane z.limit bounds →
      (list_all is_reduction_of_words (noted z m lanes op bounds).note.before && is_note_of op
      (noted z m lanes op bounds).note) ≡ true
  noted_words lanes (Load r array place) depth bounds w sane = refl
  noted_words lanes (Store array place r) depth bounds w sane =
      let few = small_fits r (and_parts (is_small r) _ w).0 in
      and_from (list_all is_reduction_of_words (noted z m lanes (Store array place r) bounds).note.before) true
      (settled_words m z.limit room (2 * z.limit) r r _ bounds few few sane) refl
  noted_words lanes (Zero r) depth bounds w sane = refl
  noted_words lanes (Add r x y) depth bounds w sane =
      let others = and_parts (is_small x) (is_small y) (and_parts (is_small r) (is_small x && is_small y) w).1 in
      and_from (list_all is_reduction_of_words (noted z m lanes (Add r x y) bounds).note.before) true
      (settled_words m z.limit room (2 * z.limit) x y z.limit bounds (small_fits x others.0) (small_fits y others.1)
      sane) refl
  noted_words lanes (Sub r x y) depth bounds w sane =
      let others = and_parts (is_small x) (is_small y) (and_parts (is_small r) (is_small x && is_small y) w).1 in
      let s = settled m z.limit (2 * z.limit) x y z.limit bounds in
      and_from (list_all is_reduction_of_words s.reductions)
      (is_note_of (Sub r x y) (noted z m lanes (Sub r x y) bounds).note)
      (settled_words m z.limit room (2 * z.limit) x y z.limit bounds (small_fits x others.0) (small_fits y others.1)
      sane)
      (bias_is_word (bound_at z.limit s.bounds y) (settled_sane m z.limit (2 * z.limit) x y z.limit bounds sane y))
  noted_words lanes (Neg r x) depth bounds w sane =
      let few = small_fits x (and_parts (is_small r) (is_small x) w).1 in
      let s = settled m z.limit (2 * z.limit) x x (2 * (z.limit - 1)) bounds in
      and_from (list_all is_reduction_of_words s.reductions)
      (is_note_of (Neg r x) (noted z m lanes (Neg r x) bounds).note)
      (settled_words m z.limit room (2 * z.limit) x x (2 * (z.limit - 1)) bounds few few sane)
      (bias_is_word (bound_at z.limit s.bounds x) (settled_sane m z.limit (2 * z.limit) x x (2 * (z.limit - 1))
      bounds sane x))
  noted_words lanes (MulConst r x factor) depth bounds w sane =
      let others = and_parts (is_small x) (ltb factor m) (and_parts (is_small r) (is_small x && ltb factor m) w).1 in
      quotient_is_word factor (ltb-true factor m others.1)
  noted_words lanes (MulTable r x table place step) depth bounds w sane = refl
  noted_words lanes (Tile r x) depth bounds w sane = refl

  stmt_keeps : (h : Header) (stmt : PlainStmt) (bounds : List ℕ) → IsSane z.limit bounds →
      IsSane z.limit (quick_stmt z h stmt bounds).bounds
  stmt_keeps h stmt bounds sane = stmt_sane z (some_limit lazy) lazy.of_a.1 lazy.of_b.1 lazy.product h stmt bounds sane
    where
      some_limit : IsLazyWithin z m → 1 ≤ z.limit
      some_limit lazy = omega (arith, lazy.of_a.0, lazy.of_a.1)

  module _ (h : Header) (same : h.modulus ≡ m) where
    loosest_sane : IsSane z.limit (loosest z h)
    loosest_sane r = let e = loosest_is z.limit h.regs r in omega (arith, e)

    mutual
      stmt_words : (stmt : PlainStmt) (depth : ℕ) (bounds : List ℕ) → is_stmt_within m stmt depth ≡ true →
          IsSane z.limit bounds → has_notes_of_words (quick_stmt z h stmt bounds).stmt ≡ true
      stmt_words (plain.Loop count body) depth bounds w sane =
          let parts = and_parts (is_small_positive count) (ltb depth 64 && is_body_within m body (depth + 1)) w in
          body_words body (depth + 1) (loosest z h) (and_parts (ltb depth 64) (is_body_within m body (depth + 1))
          parts.1).1 loosest_sane
      stmt_words (plain.Do op) depth bounds w sane =
          subst (λ n. (list_all is_reduction_of_words (noted z n h.lanes op bounds).note.before && is_note_of op
          (noted z n h.lanes op bounds).note) ≡ true)
          (sym same) (noted_words h.lanes op depth bounds w sane)

      body_words : (body : PlainBody) (depth : ℕ) (bounds : List ℕ) → is_body_within m body depth ≡ true →
          IsSane z.limit bounds → have_notes_of_words (quick_body z h body bounds).body ≡ true
      body_words plain.NoStmts depth bounds w sane = refl
      body_words (plain.AndStmts stmt rest) depth bounds w sane =
          let parts = and_parts (is_stmt_within m stmt depth) (is_body_within m rest depth) w in
          let one = quick_stmt z h stmt bounds in
          and_from (has_notes_of_words one.stmt) (have_notes_of_words (quick_body z h rest one.bounds).body)
          (stmt_words stmt depth bounds parts.0 sane) (body_words rest depth one.bounds parts.1
          (stmt_keeps h stmt bounds sane))

    phases_words : (phases : List PlainBody) → list_all (λ b. is_body_within m b 0) phases ≡ true →
        list_all have_notes_of_words (map (quick_phase z h) phases) ≡ true
    phases_words [] w = refl
    phases_words (body ∷ phases) w =
        let parts = and_parts (is_body_within m body 0) (list_all (λ b. is_body_within m b 0) phases) w in
        and_from (have_notes_of_words (quick_phase z h body))
        (list_all have_notes_of_words (map (quick_phase z h) phases))
        (body_words body 0 (loosest z h) parts.0 loosest_sane) (phases_words phases parts.1)

-- what is left of a phase loosens the bounds of A and B alone
alone_words : (z : PlainLaziness) (m : ℕ) → IsLazyWithin z m → 0 < m → base_of z.width ≤ above_all → (h : Header) →
    h.modulus ≡ m → (body : PlainBody) (bounds : List ℕ) → is_body_within m body 0 ≡ true → IsSane z.limit bounds →
    have_notes_of_words (quick_alone z h body bounds).body ≡ true
alone_words z m lazy pos base h same plain.NoStmts bounds w sane = refl
alone_words z m lazy pos base h same (plain.AndStmts stmt rest) bounds w sane =
    let parts = and_parts (is_stmt_within m stmt 0) (is_body_within m rest 0) w in
    let n = needs (plain.AndStmts stmt rest) in
    let y = loosened z n in
    let looser = loosened_lazy z m n lazy in
    let one = quick_stmt y h stmt bounds in
    and_from (has_notes_of_words one.stmt) (have_notes_of_words (quick_alone z h rest one.bounds).body)
    (stmt_words y m looser pos base h same stmt 0 bounds parts.0 sane)
    (alone_words z m lazy pos base h same rest one.bounds parts.1 (stmt_keeps y m looser pos base h stmt bounds sane))

pub quickened_spells : (z : PlainLaziness) (p : PlainProgram) → IsWithinLimits p → IsLazyWithin z p.modulus →
    base_of z.width ≤ above_all → z.width.half < above_all → IsSpellable (quickened z p)
quickened_spells z p within lazy base half =
    let m = p.modulus in
    let h = header_of p in
    let pos : 0 < m = omega (arith, within.header.of_modulus.0) in
    let bodies = (and_parts (ltb 0 (length p.phases)) (list_all (λ b. is_body_within m b 0) p.phases)
    within.statements).1 in
    record {
      within = subst IsWithinLimits (sym (bare_quickened z p)) within;
      frame = refl;
      half = lt-ltb z.width.half above_all half;
      quotients = quotient_tables m lazy pos p.tables within.constants;
      notes = phases_cases z h p.procs p.phases (λ phases. list_all have_notes_of_words phases ≡ true)
          (λ body one is.
          let here = (and_parts (is_body_within m body 0) true
          (sym (ap (list_all (λ b. is_body_within m b 0)) is) ∙ bodies)).0 in
          and_from (have_notes_of_words (quick_alone z h body (loosest z h)).body) true
          (alone_words z m lazy pos base h refl body (loosest z h) here (loosest_sane z m lazy pos base h refl)) refl)
          (phases_words z m lazy pos base h refl p.phases bodies);
    }
  where
    quotient_tables : (m : ℕ) → IsLazyWithin z m → 0 < m → (tables : List (List ℕ)) →
        list_all (λ entries. ltb 0 (length entries) && list_all (λ c. ltb c m) entries) tables ≡ true →
        are_tables_of_words (quotients_of z m tables) ≡ true
    quotient_tables m lazy pos [] w = refl
    quotient_tables m lazy pos (entries ∷ tables) w =
        let parts = and_parts (ltb 0 (length entries) && list_all (λ c. ltb c m) entries)
        (list_all (λ entries. ltb 0 (length entries) && list_all (λ c. ltb c m) entries) tables) w in
        let each = (and_parts (ltb 0 (length entries)) (list_all (λ c. ltb c m) entries) parts.0).1 in
        and_from (list_all is_word (map (quotient_of (base_of z.width) m) entries))
        (are_tables_of_words (quotients_of z m tables))
        (entries_words m lazy pos entries each) (quotient_tables m lazy pos tables parts.1)
      where
        entries_words : (m : ℕ) → IsLazyWithin z m → 0 < m → (entries : List ℕ) → list_all (λ c. ltb c m) entries ≡
            true →
            list_all is_word (map (quotient_of (base_of z.width) m) entries) ≡ true
        entries_words m lazy pos [] w = refl
        entries_words m lazy pos (c ∷ entries) w =
            let parts = and_parts (ltb c m) (list_all (λ c. ltb c m) entries) w in
            and_from (is_word (quotient_of (base_of z.width) m c))
            (list_all is_word (map (quotient_of (base_of z.width) m) entries))
            (quotient_is_word z m lazy pos base c (ltb-true c m parts.0)) (entries_words m lazy pos entries parts.1)

-- the words of each size are below 2 ^ 64
pub width_of_words : (size : WordSize) (m lanes : ℕ) →
    (base_of (laziness_for size m lanes).width ≤ above_all) × ((laziness_for size m lanes).width.half < above_all)
width_of_words Of16 m lanes = (omega arith, omega arith)
width_of_words Of32 m lanes = (omega arith, omega arith)
width_of_words Of52 m lanes = (omega arith, omega arith)
width_of_words Of64 m lanes = (omega arith, omega arith)
