-- In no phase does a processor touch a line that another writes.
use Rattle.std.proofs.Common.{◌≡◌, ◌≢◌, ℕ, zero, suc, ◌+◌, ◌*◌, ◌/◌, ◌%◌, ◌<◌, ◌≤◌, ◌⊎◌, inl, inr, List, [], ◌∷◌}
use Rattle.std.proofs.Common.{length, flat_map, refl, sym, ap, ap₂, ◌∙◌, arith, subst, All, Contains, div-lt_iff_lt-mul}
use Rattle.std.proofs.Common.{◌-◌, ◌++◌, length-append, slice_index_or}
use Rattle.std.specs.List.{range_with_len}
use Rattle.std.proofs.Math.Nat.{mul-add-div_right}
use Rattle.std.proofs.lemmas.Nat.{div-mul-add, mod-mul-add}
use Rattle.std.proofs.lemmas.Bool.{cases_lt}
use Rattle.std.proofs.lemmas.List.{get_or_past}
use Rattle.std.proofs.lemmas.List.Elements.{All-nil, All-cons, All-append, All-contains}
use Rattle.icode.specs.Actions.{array_start}
use Rattle.icode.specs.Machine.{Code, IsCode, IsApart, acts, lines_of, stored_words, touched_words, written_lines}
use Rattle.icode.specs.Machine.{touched_lines, whole_lines}
use Rattle.icode.specs.declared.action.Action.{Action}
use Rattle.icode.specs.declared.action.Action.TheVariants.{Load, Store}
use Rattle.icode.specs.declared.program.Array.{Array}
use Rattle.icode.specs.declared.program.Array.TheVariants.{X}
use Rattle.icode.proofs.End.{acts_past}
use Rattle.icode.proofs.Lines.{Contains-nil}
use Rattle.code_gen.specs.PassActions.Acts.{pass_acts}
use Rattle.code_gen.specs.PassCode.Conditions.{CanWritePass}
use Rattle.sigma_spl.specs.Shared.Owners.{IsOwner, all_passes}
use Rattle.operators.specs.declared.target.Target.{Target}
use Rattle.code_gen.specs.PassCode.Program.{written_array, array_after, count_in}
use Rattle.code_gen.specs.PassCode.Contract.{AreParts, ArePhaseParts, IsPart, Stays, in_a_row, concatenated}
use Rattle.code_gen.proofs.PassActions.Copies.{loaded-below, stored-below}
use Rattle.code_gen.proofs.PassActions.Every.{StaysInRegisters, every}
use Rattle.code_gen.proofs.WholePrograms.Processor.{number, IsOther, start-is, target-other, Pass, AllFrom, AllKnown}
use Rattle.code_gen.proofs.WholePrograms.Processor.{PhasesKnown, at-phase, passes_acts, passes-count, runs-of, MayRead}
use Rattle.code_gen.proofs.WholePrograms.Processor.{Owns, Reads, Owned, own-read, read-own}
use Rattle.code_gen.proofs.WholePrograms.Phases.{SharedFrom, RunsPhases}

module _ (c : Target) (words : ℕ) (enough : c.size ≤ words) (owner : ℕ → ℕ) (after : ℕ) where
  -- a word that a processor may read, and one that is its own
  pub record IsReadable (q w : ℕ) : Type 0 where
    pub array : Array
    pub place : ℕ
    pub below : place < c.size
    pub may : MayRead c words enough owner after array q place
    pub is : w ≡ array_start words array + place

  pub record IsOwn (q w : ℕ) : Type 0 where
    pub array : Array
    pub place : ℕ
    pub below : place < c.size
    pub own : owner place ≡ q
    pub not_first : IsOther X array
    pub is : w ≡ array_start words array + place

  -- the action loads what the processor may read, and stores to words of its own, on all lanes
  abbrev pub Keeps : ℕ → Action → Type 0
  Keeps q (Load r a) = (lane : ℕ) → lane < c.lanes → IsReadable q (a + lane)
  Keeps q (Store a r) = (lane : ℕ) → lane < c.lanes → IsOwn q (a + lane)
  Keeps q _ = Unit {0}

  keeps-still : (q : ℕ) (x : Action) → StaysInRegisters x → Keeps q x
  keeps-still q (Load r a) still = absurd still
  keeps-still q (Store a r) still = absurd still
  keeps-still q _ still = tt

  pass-keeps : (p : Pass) → CanWritePass c p → (source target : Array) → IsOther X target →
      Reads c words enough owner after p source → Owns c words enough owner after p → (q : ℕ) → q < c.procs →
      All (Keeps q) (pass_acts c p (array_start words source) (array_start words target) q)
  pass-keeps p known source target not_first reads owns q low =
      let can = known.runs in
      every c p can (Keeps q) (λ x still fit. keeps-still q x still) (array_start words source)
      (array_start words target) q low
      (λ a r loaded few lane on.
      let w = loaded lane on in
      record {
        array = source;
        place = w.0;
        below = loaded-below c p can q w.0 w.1;
        may = reads q w.0 low w.1;
        is = w.2;
      })
      (λ a r stored few lane on.
      let w = stored lane on in
      record {
        array = target;
        place = w.0;
        below = stored-below c p can q w.0 w.1;
        own = owns q w.0 low w.1;
        not_first = not_first;
        is = w.2;
      })

  pub parts-keep : (ps : List Pass) (t : ℕ) (source : Array) → AllKnown c ps →
      Owned c words enough owner after ps t source → (q : ℕ) → q < c.procs →
      All (Keeps q) (passes_acts c words after ps t source q)
  parts-keep [] t source known owned q low = All-nil (Keeps q)
  parts-keep (p ∷ ps) t source known owned q low =
      let target = written_array t (after + length ps) in
      All-append (Keeps q) (pass_acts c p (array_start words source) (array_start words target) q) (passes_acts c words after ps (suc t) target q)
      (pass-keeps p known.0 source target (target-other t (after + length ps)) owned.0 owned.1 q low)
      (parts-keep ps (suc t) target known.1 owned.2 q low)

  -- ---- lines

  module _ (is_owner : IsOwner c owner) (some : 0 < c.line) (whole : ℕ) (words_are : words ≡ whole * c.line) where
    line-is : (a : Array) (i : ℕ) → (array_start words a + i) / c.line ≡ number a * whole + i / c.line
    line-is a i =
        let lines : number a * words ≡ number a * whole * c.line = ap (λ w. number a * w) words_are ∙ omega arith in
        ap (λ s. (s + i) / c.line) (start-is words a ∙ lines) ∙ mul-add-div_right some (number a * whole) i

    line-below : (i : ℕ) → i < c.size → i / c.line < whole
    line-below i below = (div-lt_iff_lt-mul some).1 (omega (arith, below, enough, words_are))

    same-array : (k l a b : ℕ) → a < whole → b < whole → k * whole + a ≡ l * whole + b → k ≡ l
    same-array k l a b low high e = sym (div-mul-add k whole a low) ∙ ap (λ n. n / whole) e ∙ div-mul-add l whole b high

    same-line : (k l a b : ℕ) → a < whole → b < whole → k * whole + a ≡ l * whole + b → a ≡ b
    same-line k l a b low high e = sym (mod-mul-add k whole a low) ∙ ap (λ n. n % whole) e ∙ mod-mul-add l whole b high

    -- the line of such a word
    pub record OnLine (Is : ℕ → Type 0) (l : ℕ) : Type 0 where
      pub word : ℕ
      pub is : Is word
      pub line : l ≡ word / c.line

    own-readable : (q w : ℕ) → IsOwn q w → IsReadable q w
    own-readable q w o =
        record {
          array = o.array;
          place = o.place;
          below = o.below;
          may = own-read c words enough owner after o.array q o.place o.own;
          is = o.is;
        }

    -- who touches a line that another writes is that one
    clash : (q other l : ℕ) → OnLine (IsOwn q) l → OnLine (IsReadable other) l → other ≡ q
    clash q other l w r =
        let o = w.is in
        let i = r.is in
        let equal : number o.array * whole + o.place / c.line ≡ number i.array * whole + i.place / c.line =
        sym (line-is o.array o.place) ∙ ap (λ n. n / c.line) (sym o.is) ∙ sym w.line ∙ r.line ∙ ap (λ n. n / c.line) i.is ∙ line-is i.array i.place in
        let low = line-below o.place o.below in
        let high = line-below i.place i.below in
        let arrays : number o.array ≡ number i.array = same-array (number o.array) (number i.array) (o.place / c.line) (i.place / c.line) low high equal in
        let lines : o.place / c.line ≡ i.place / c.line = same-line (number o.array) (number i.array) (o.place / c.line) (i.place / c.line) low high equal in
        let first : IsOther X i.array = λ e. o.not_first (e ∙ sym arrays) in
        sym (read-own c words enough owner after i.array other i.place first i.may) ∙ sym (is_owner.lines o.place i.place o.below i.below lines) ∙ o.own

    -- ---- lists of lines

    words-all : (P : ℕ → Type 0) (n a : ℕ) → ((k : ℕ) → k < n → P ((a + k) / c.line)) →
        All P (lines_of c.line (range_with_len a n))
    words-all P zero a each = All-nil P
    words-all P (suc n) a each =
        All-cons P (a / c.line) (lines_of c.line (range_with_len (a + 1) n)) (subst (λ w. P (w / c.line)) (omega arith) (each 0 (omega arith)))
        (words-all P n (a + 1) (λ k below. subst (λ w. P (w / c.line)) (omega arith) (each (suc k) (omega (arith, below)))))

    lines-all : (words_of : Action → List ℕ) (P : ℕ → Type 0) (q : ℕ) →
        ((x : Action) → Keeps q x → All P (lines_of c.line (words_of x))) → (xs : List Action) → All (Keeps q) xs →
        All P (flat_map (λ x. lines_of c.line (words_of x)) xs)
    lines-all words_of P q one [] h = All-nil P
    lines-all words_of P q one (x ∷ xs) h =
        All-append P (lines_of c.line (words_of x)) (flat_map (λ y. lines_of c.line (words_of y)) xs)
        (one x (h 0 x (omega arith))) (lines-all words_of P q one xs (λ k d below. h (suc k) d (omega (arith, below))))

    written-one : (q : ℕ) (x : Action) → Keeps q x → All (OnLine (IsOwn q)) (lines_of c.line (stored_words c.lanes x))
    written-one q (Store a r) keeps =
        words-all (OnLine (IsOwn q)) c.lanes a (λ k below. record { word = a + k; is = keeps k below; line = refl })
    written-one q _ keeps = All-nil (OnLine (IsOwn q))

    touched-one : (q : ℕ) (x : Action) → Keeps q x → All (OnLine (IsReadable q))
        (lines_of c.line (touched_words c.lanes x))
    touched-one q (Load r a) keeps =
        words-all (OnLine (IsReadable q)) c.lanes a (λ k below. record { word = a + k; is = keeps k below; line = refl })
    touched-one q (Store a r) keeps =
        words-all (OnLine (IsReadable q)) c.lanes a (λ k below.
        record { word = a + k; is = own-readable q (a + k) (keeps k below); line = refl })
    touched-one q _ keeps = All-nil (OnLine (IsReadable q))

    pub lists-apart : (q other l : ℕ) (xs ys : List Action) → All (Keeps q) xs → All (Keeps other) ys →
        Contains (flat_map (λ x. lines_of c.line (stored_words c.lanes x)) xs) l →
        Contains (flat_map (λ x. lines_of c.line (touched_words c.lanes x)) ys) l → other ≡ q
    lists-apart q other l xs ys writes reads written touched =
        clash q other l
        (All-contains (OnLine (IsOwn q)) _ l
        (lines-all (stored_words c.lanes) (OnLine (IsOwn q)) q (written-one q) xs writes) written)
        (All-contains (OnLine (IsReadable other)) _ l
        (lines-all (touched_words c.lanes) (OnLine (IsReadable other)) other (touched-one other) ys reads) touched)

-- ---- phases of a program

module _ (c : Target) (words : ℕ) (enough : c.size ≤ words) (some : 0 < c.line) (whole : ℕ) (words_are : words ≡ whole * c.line) (code : Code) (is_code : IsCode code) (modulus_is : code.modulus ≡ c.modulus)
    (lanes_are : code.lanes ≡ c.lanes) (procs_are : code.procs ≡ c.procs) (line_is : code.line ≡ c.line) where
  -- the lines of a processor's actions in the code, and that there are none past the processors
  lines-are : (words_of : ℕ → Action → List ℕ) (f q l : ℕ) →
      Contains (flat_map (λ x. lines_of code.line (words_of code.lanes x)) (acts code f q)) l →
      Contains (flat_map (λ x. lines_of c.line (words_of c.lanes x)) (acts code f q)) l
  lines-are words_of f q l h =
      subst (λ (g : Action → List ℕ). Contains (flat_map g (acts code f q)) l)
      (ap₂ {C = Action → List ℕ} (λ (k n : ℕ) (x : Action). lines_of k (words_of n x)) line_is lanes_are) h

  no-lines : (words_of : Action → List ℕ) (f q l : ℕ) → acts code f q ≡ [] →
      Contains (flat_map (λ x. lines_of code.line (words_of x)) (acts code f q)) l → ⊥
  no-lines words_of f q l none h =
      Contains-nil l
      (subst (λ (xs : List Action). Contains (flat_map (λ x. lines_of code.line (words_of x)) xs) l) none h)

  one-apart : (f : ℕ) (owner : ℕ → ℕ) (after : ℕ) → IsOwner c owner →
      ((q : ℕ) → q < c.procs → All (Keeps c words enough owner after q) (acts code f q)) → IsApart code f
  one-apart f owner after is_owner keeps =
      record {
        alone = λ q other l differs writes reads.
            by_range q other l differs writes reads (cases_lt q c.procs) (cases_lt other c.procs);
      }
    where
      none : (q : ℕ) → c.procs ≤ q → acts code f q ≡ []
      none q past = acts_past code is_code f q (omega (arith, past, procs_are))

      by_range : (q other l : ℕ) → other ≢ q → Contains (written_lines code f q) l →
          Contains (touched_lines code f other) l → (q < c.procs) ⊎ (c.procs ≤ q) →
          (other < c.procs) ⊎ (c.procs ≤ other) → ⊥
      by_range q other l differs writes reads (inr past) o =
          no-lines (stored_words code.lanes) f q l (none q past) writes
      by_range q other l differs writes reads (inl low) (inr past) =
          no-lines (touched_words code.lanes) f other l (none other past) reads
      by_range q other l differs writes reads (inl low) (inl high) =
          differs
          (lists-apart c words enough owner after is_owner some whole words_are q other l (acts code f q)
          (acts code f other) (keeps q low) (keeps other high) (lines-are stored_words f q l writes)
          (lines-are touched_words f other l reads))

  pub phases-apart : (f : ℕ) (pss : List (List Pass)) (t : ℕ) (source : Array) → PhasesKnown c pss →
      SharedFrom c words enough code modulus_is lanes_are procs_are pss t source →
      RunsPhases c words enough code modulus_is lanes_are procs_are f pss t source → AllFrom (IsApart code) f pss
  phases-apart f [] t source known shared runs = tt
  phases-apart f (ps ∷ more) t source known shared runs = (
    one-apart f shared.0.owner (count_in more) shared.0.is_owner (λ q low.
        subst (All (Keeps c words enough shared.0.owner (count_in more) q)) (sym (runs.0 q low))
        (parts-keep c words enough shared.0.owner (count_in more) ps t source known.0 shared.0.owns q low)),
    phases-apart (f + 1) more (t + length ps) (array_after (count_in more) ps t source) known.1 shared.1 runs.1,
  )

  -- after the last phase there is nothing
  past-apart : (f : ℕ) → length code.lists ≤ f → IsApart code f
  past-apart f past =
      let none = λ (q : ℕ). ap (λ (lists : List (List Action)). slice_index_or lists q []) (get_or_past code.lists f [] past) in
      record { alone = λ q other l differs writes reads. no-lines (stored_words code.lanes) f q l (none q) writes }

  pub all-apart : (pss : List (List Pass)) → length code.lists ≡ length pss → AllFrom (IsApart code) 0 pss → (f : ℕ) →
      IsApart code f
  all-apart pss long h f =
      elim (cases_lt f (length pss)) [
        | inl low ↦ subst (IsApart code) (omega arith) (at-phase (IsApart code) 0 pss h f low)
        | inr past ↦ past-apart f (omega (arith, long, past))
      ]

-- ---- the actions of each processor are one part for each pass, between the pass's arrays

-- ---- a pass stays in its arrays

stays-still : (n lanes source target : ℕ) (x : Action) → StaysInRegisters x → Stays n lanes source target x
stays-still n lanes source target (Load r a) still = absurd still
stays-still n lanes source target (Store a r) still = absurd still
stays-still n lanes source target _ still = tt

-- the words of all lanes are inside of an array where those of the first and of the last are
lanes-inside : (n lanes start a first last : ℕ) → 0 < lanes → a + 0 ≡ start + first → a + (lanes - 1) ≡ start + last →
    last < n → (start ≤ a) × (a + lanes ≤ start + n)
lanes-inside n lanes start a first last some low high below = (omega arith, omega arith)

pass-stays : (c : Target) (p : Pass) → CanWritePass c p → (q : ℕ) → q < c.procs → (source target : ℕ) →
    All (Stays c.size c.lanes source target) (pass_acts c p source target q)
pass-stays c p known q low source target =
    let can = known.runs in
    let some = can.lanes in
    let first : 0 < c.lanes = omega arith in
    let last : c.lanes - 1 < c.lanes = omega arith in
    every c p can (Stays c.size c.lanes source target) (λ x still fit. stays-still c.size c.lanes source target x still)
    source target q low
    (λ a r words few. lanes-inside c.size c.lanes source a _ _ some (words 0 first).2 (words (c.lanes - 1) last).2
    (loaded-below c p can q _ (words (c.lanes - 1) last).1))
    (λ a r words few. lanes-inside c.size c.lanes target a _ _ some (words 0 first).2 (words (c.lanes - 1) last).2
    (stored-below c p can q _ (words (c.lanes - 1) last).1))

-- ---- all parts

module _ (c : Target) (enough : c.size ≤ whole_lines c.size c.line) (code : Code)
    (modulus_is : code.modulus ≡ c.modulus) (lanes_are : code.lanes ≡ c.lanes) (procs_are : code.procs ≡ c.procs)
    (q : ℕ) (low : q < c.procs) where
  abbrev words : ℕ
  words = whole_lines c.size c.line

  -- the parts of a phase's passes, and those of all phases
  abbrev parts_of : ℕ → List Pass → ℕ → Array → List (List Action)
  parts_of after [] t source = []
  parts_of after (p ∷ ps) t source =
      pass_acts c p (array_start words source) (array_start words (written_array t (after + length ps))) q ∷ parts_of after ps (suc t) (written_array t (after + length ps))

  abbrev pub all_parts : List (List Pass) → ℕ → Array → List (List (List Action))
  all_parts [] t source = []
  all_parts (ps ∷ more) t source = parts_of (count_in more) ps t source ∷ all_parts more (t + length ps) (array_after (count_in more) ps t source)

  parts-whole : (after : ℕ) (ps : List Pass) (t : ℕ) (source : Array) →
      concatenated (parts_of after ps t source) ≡ passes_acts c words after ps t source q
  parts-whole after [] t source = refl
  parts-whole after (p ∷ ps) t source =
      ap (λ rest. pass_acts c p (array_start words source) (array_start words (written_array t (after + length ps))) q ++ rest) (parts-whole after ps (suc t) (written_array t (after + length ps)))

  parts-long : (after : ℕ) (ps : List Pass) (t : ℕ) (source : Array) → length (parts_of after ps t source) ≡ length ps
  parts-long after [] t source = refl
  parts-long after (p ∷ ps) t source = ap suc (parts-long after ps (suc t) (written_array t (after + length ps)))

  pub all-whole : (f : ℕ) (pss : List (List Pass)) (t : ℕ) (source : Array) →
      RunsPhases c words enough code modulus_is lanes_are procs_are f pss t source →
      ArePhaseParts code q f pss (all_parts pss t source)
  all-whole f [] t source runs = tt
  all-whole f (ps ∷ more) t source runs = (
    parts-long (count_in more) ps t source,
    parts-whole (count_in more) ps t source ∙ sym (runs.0 q low),
    all-whole (f + 1) more (t + length ps) (array_after (count_in more) ps t source) runs.1,
  )

  is-part : (p : Pass) (source target : Array) → CanWritePass c p →
      IsPart c p (array_start words source) (array_start words target)
      (pass_acts c p (array_start words source) (array_start words target) q)
  is-part p source target known =
      let runs = runs-of c p known in
      record {
        stays = pass-stays c p known q low (array_start words source) (array_start words target);
        counts = λ weight some. runs.counts weight (array_start words source) (array_start words target) q some low;
      }

  -- a phase's parts before those of later phases
  phase-parts : (more : List (List Pass)) (rest : List (List Action)) (ps : List Pass) (t : ℕ) (source : Array) →
      AllKnown c ps →
      AreParts c (t + length ps) (array_after (count_in more) ps t source) (all_passes more) rest →
      AreParts c t source (ps ++ all_passes more) (parts_of (count_in more) ps t source ++ rest)
  phase-parts more rest [] t source known h = subst (λ n. AreParts c n source (all_passes more) rest) (omega arith) h
  phase-parts more rest (p ∷ ps) t source known h =
      let target = written_array t (count_in more + length ps) in
      let long : length (ps ++ all_passes more) ≡ count_in more + length ps = let both = length-append ps (all_passes more) in let last = passes-count more in omega arith in
      subst
      (λ n. IsPart c p (array_start words source) (array_start words (written_array t n)) (pass_acts c p (array_start words source) (array_start words target) q)
      × AreParts c (suc t) (written_array t n) (ps ++ all_passes more) (parts_of (count_in more) ps (suc t) target ++ rest))
      (sym long) (
        is-part p source target known.0,
        phase-parts more rest ps (suc t) target known.1 (subst (λ n. AreParts c n (array_after (count_in more) ps (suc t) target) (all_passes more) rest) (omega arith) h),
      )

  pub all-are : (pss : List (List Pass)) (t : ℕ) (source : Array) → PhasesKnown c pss →
      AreParts c t source (all_passes pss) (in_a_row (all_parts pss t source))
  all-are [] t source known = tt
  all-are (ps ∷ more) t source known =
      phase-parts more (in_a_row (all_parts more (t + length ps) (array_after (count_in more) ps t source))) ps t source known.0
      (all-are more (t + length ps) (array_after (count_in more) ps t source) known.1)
