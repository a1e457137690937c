-- The words of a processor's part of a pass, and the items of one of its nests.
use Rattle.std.proofs.Common.{◌≡◌, ◌≢◌, ℕ, ◌+◌, ◌/◌, ◌%◌, ◌<◌, Bool, true, false, arith, refl, sym, ap, ◌∙◌, List, []}
use Rattle.std.proofs.Common.{◌∷◌, ◌++◌, subst, mod-lt, div-lt_iff_lt-mul, if◌then◌else◌, ◌==◌, slice_index, ◌-◌, ◌*◌}
use Rattle.std.proofs.Common.{inl, inr, map, mul_comm, Contains, Option, Some, None, div-add-mod', mod-eq_of_lt}
use Rattle.std.proofs.lemmas.Bool.Decides.{nat_tests}
use Rattle.std.proofs.lemmas.List.Elements.{All-contains}
use Rattle.icode.specs.Sequences.Nests.{AreInRange}
use Rattle.sigma_spl.proofs.Frames.{framed, loops-are, one_or_several}
use Rattle.operators.proofs.Lists.{factor_positive, place_below, at-list_below}
use Rattle.code_gen.specs.PassActions.Acts.{load_at, store_at, pass_registers}
use Rattle.sigma_spl.specs.Shared.Running.{CanRunNest, CanWork, IsFramed, IsCopyOf, MovesVectors, CanRun, IsLoadedBy}
use Rattle.sigma_spl.specs.Shared.Running.{IsStoredBy}
use Rattle.operators.specs.declared.target.Target.{Target}
use Rattle.sigma_spl.specs.Shared.Machine.{if_several, loop_counts, item_of, values_of}
use Rattle.sigma_spl.specs.Copies.{loops_of, all_stored}
use Rattle.sigma_spl.specs.Nest.{PlainNest, PlainMultiplier, load_place, store_place, copies_of, multiplied_on}
use Rattle.sigma_spl.specs.Nest.{nests_on}
use Rattle.sigma_spl.specs.Work.{PlainWork, tile, work_size, vectors_of, kernel, rows, horner, copy, work_on, trees_of}
use Rattle.icode.proofs.SequenceLemmas.Fills.{word}
use Rattle.icode.specs.Machine.{Local}
use Rattle.operators.specs.Sum.{list_below}
use Rattle.operators.proofs.Places.{turn_at}
use Rattle.code_gen.specs.PassActions.Laws.{AreApart, CanBegin}
use Rattle.tree_model.proofs.TreeProducts.{trees-below}
use Rattle.code_gen.proofs.PassActions.Finish.{finished, finished_lane, Task, IsReady}
use Rattle.code_gen.proofs.PassActions.Once.{stored-once}
use Rattle.operators.specs.Paths.Tensors as paths

-- ---- the copies of a processor and a lane

-- ---- a variable that is left out where it has one value

range-several : (n : ℕ) (counts : List ℕ) (v : ℕ) (vs : List ℕ) → v < n → AreInRange counts vs →
    AreInRange (if_several n n ++ counts) (if_several n v ++ vs)
range-several n counts v vs below range =
    one_or_several n (λ b. AreInRange ((if b then [] else n ∷ []) ++ counts) ((if b then [] else v ∷ []) ++ vs))
    (λ one. range)
    (λ several. (below, range))

-- values, taken apart
pub record IsUnder (n : ℕ) (counts us : List ℕ) : Type 0 where
  pub value : ℕ
  pub rest : List ℕ
  pub below : value < n
  pub in_range : AreInRange counts rest
  pub joined : us ≡ if_several n value ++ rest

pub under-several : (n : ℕ) (counts us : List ℕ) → AreInRange (if_several n n ++ counts) us → IsUnder n counts us
under-several n counts us = pick (n == 1) us refl
  where
    pick : (b : Bool) (us : List ℕ) → (n == 1) ≡ b → AreInRange ((if b then [] else n ∷ []) ++ counts) us →
        IsUnder n counts us
    pick true us e range =
        record {
          value = 0;
          rest = us;
          below = grind (arith, nat_tests, e);
          in_range = range;
          joined = ap (λ b. (if b then [] else 0 ∷ []) ++ us) (sym e);
        }
    pick false [] e range = absurd range
    pick false (v ∷ vs) e range =
        record {
          value = v;
          rest = vs;
          below = range.0;
          in_range = range.1;
          joined = ap (λ b. (if b then [] else v ∷ []) ++ vs) (sym e);
        }

pub first_value : (n v : ℕ) (vs : List ℕ) → n ≢ 1 → slice_index (if_several n v ++ vs) 0 ≡ v
first_value n v vs several = one_or_several n (λ b. slice_index ((if b then [] else v ∷ []) ++ vs) 0 ≡ v) (λ one. absurd (several one)) (λ other. refl)

-- the value of a processor is known where there are several, and does not matter where there is one
same_value : (n v q : ℕ) (vs : List ℕ) → (n ≢ 1 → v ≡ q) → if_several n v ++ vs ≡ if_several n q ++ vs
same_value n v q vs is = one_or_several n (λ b. (if b then [] else v ∷ []) ++ vs ≡ (if b then [] else q ∷ []) ++ vs) (λ one. refl) (λ several. ap (λ u. u ∷ vs) (is several))

-- so with values that begin with it
own_value : (c : Target) (q : ℕ) (us : List ℕ) (v : ℕ) (vs : List ℕ) → us ≡ if_several c.procs v ++ vs →
    (c.procs ≢ 1 → slice_index us 0 ≡ q) → us ≡ if_several c.procs q ++ vs
own_value c q us v vs joined first =
    joined
    ∙ same_value c.procs v q vs (λ several.
    sym (first_value c.procs v vs several) ∙ ap (λ us. slice_index us 0) (sym joined) ∙ first several)

-- ---- all variables of a nest

module _ (c : Target) where
  both-range : (loops : List ℕ) (q lane : ℕ) (vs : List ℕ) → q < c.procs → lane < c.lanes → AreInRange loops vs →
      AreInRange (if_several c.procs c.procs ++ (if_several c.lanes c.lanes ++ loops))
      (if_several c.procs q ++ (if_several c.lanes lane ++ vs))
  both-range loops q lane vs part there range = range-several c.procs (if_several c.lanes c.lanes ++ loops) q (if_several c.lanes lane ++ vs) part (range-several c.lanes loops lane vs there range)

  range-framed : (w : PlainWork) (loops : List ℕ) (q lane : ℕ) (vs : List ℕ) → q < c.procs → lane < c.lanes →
      AreInRange loops vs → AreInRange (framed c w loops) (values_of c w q lane vs)
  range-framed (tile lanes) loops q lane vs part there range = range-several c.procs loops q vs part range
  range-framed _ loops q lane vs part there range = both-range loops q lane vs part there range

  first-framed : (w : PlainWork) (q lane : ℕ) (vs : List ℕ) → c.procs ≢ 1 → slice_index (values_of c w q lane vs) 0 ≡ q
  first-framed (tile lanes) q lane vs several = first_value c.procs q vs several
  first-framed _ q lane vs several = first_value c.procs q (if_several c.lanes lane ++ vs) several

  pub item-below : (w : PlainWork) (k lane : ℕ) → CanWork c w → k < vectors_of w → lane < c.lanes →
      item_of w k lane < work_size w
  item-below (tile v) k lane can under there = place_below k lane v v under (omega (arith, can, there))
  item-below _ k lane can under there = under

-- ---- values in range, by counts and by paths

pub in_counts : (counts vs : List ℕ) → paths.AreInRange (loops_of counts) vs → AreInRange counts vs
in_counts [] [] h = tt
in_counts (t ∷ counts) (v ∷ vs) h = (h.0, in_counts counts vs h.1)
in_counts _ _ h = absurd h

pub in_path : (counts vs : List ℕ) → AreInRange counts vs → paths.AreInRange (loops_of counts) vs
in_path [] [] h = tt
in_path (t ∷ counts) (v ∷ vs) h = (h.0, in_path counts vs h.1)
in_path _ _ h = absurd h

-- ---- the other way round

-- an item of a copy by its lane, its register and the values of the loops
pub record IsOnLane (c : Target) (w : PlainWork) (loops : List ℕ) (q : ℕ) (us : List ℕ) (i : ℕ) : Type 0 where
  pub values : List ℕ
  pub lane : ℕ
  pub number : ℕ
  pub in_range : AreInRange loops values
  pub there : lane < c.lanes
  pub under : number < vectors_of w
  pub copy_is : us ≡ values_of c w q lane values
  pub item : i ≡ item_of w number lane

-- the copy with a variable for the lane, where each item has a register of its own
beside_lane : (c : Target) (w : PlainWork) (loops : List ℕ) (q : ℕ) (us : List ℕ) (i : ℕ) → i < vectors_of w →
    ((lane : ℕ) (vs : List ℕ) → if_several c.procs q ++ (if_several c.lanes lane ++ vs) ≡ values_of c w q lane vs) →
    ((lane : ℕ) → i ≡ item_of w i lane) →
    AreInRange (if_several c.procs c.procs ++ (if_several c.lanes c.lanes ++ loops)) us →
    (c.procs ≢ 1 → slice_index us 0 ≡ q) → IsOnLane c w loops q us i
beside_lane c w loops q us i under values-are item-is range first =
    let outer = under-several c.procs (if_several c.lanes c.lanes ++ loops) us range in
    let inner = under-several c.lanes loops outer.rest outer.in_range in
    record {
      values = inner.rest;
      lane = inner.value;
      number = i;
      in_range = inner.in_range;
      there = inner.below;
      under = under;
      copy_is =
          own_value c q us outer.value outer.rest outer.joined first
          ∙ ap (λ vs. if_several c.procs q ++ vs) inner.joined
          ∙ values-are inner.value inner.rest;
      item = item-is inner.value;
    }

on_lane : (c : Target) (w : PlainWork) (loops : List ℕ) (q : ℕ) (us : List ℕ) (i : ℕ) → CanWork c w →
    AreInRange (framed c w loops) us → (c.procs ≢ 1 → slice_index us 0 ≡ q) → i < work_size w →
    IsOnLane c w loops q us i
on_lane c (tile v) loops q us i can range first below =
    let outer = under-several c.procs loops us range in
    let some : 0 < v = factor_positive v v i below in
    record {
      values = outer.rest;
      lane = i % v;
      number = i / v;
      in_range = outer.in_range;
      there = let low : i % v < v = mod-lt i some in omega (arith, can, low);
      under = (div-lt_iff_lt-mul some).1 below;
      copy_is = own_value c q us outer.value outer.rest outer.joined first;
      item = sym (div-add-mod' i v);
    }
on_lane c w loops q us i can range first below =
    beside_lane c w loops q us i below (λ lane vs. refl) (λ lane. refl) range first

-- ---- a nest

module _ (c : Target) (p : PlainNest) (f : IsFramed c p) where
  -- the values of a processor, a lane and loops are those of a copy of the processor
  pub copy-framed : (q lane : ℕ) (vs : List ℕ) → q < c.procs → lane < c.lanes → AreInRange f.loops vs →
      IsCopyOf c p q (values_of c p.work q lane vs)
  copy-framed q lane vs part there range =
      record {
        in_range = in_path p.counts (values_of c p.work q lane vs) (subst (λ counts. AreInRange counts (values_of c p.work q lane vs)) (sym f.counts) (range-framed c p.work f.loops q lane vs part there range));
        processor = λ several. first-framed c p.work q lane vs several;
      }

  pub copy-on_lane : (q : ℕ) (us : List ℕ) (i : ℕ) → CanWork c p.work → IsCopyOf c p q us → i < work_size p.work →
      IsOnLane c p.work f.loops q us i
  copy-on_lane q us i can mine below =
      on_lane c p.work f.loops q us i can (subst (λ counts. AreInRange counts us) f.counts (in_counts p.counts us mine.in_range)) mine.processor below

  pub in_code : (vs : List ℕ) → AreInRange f.loops vs → AreInRange (loop_counts c p) vs
  in_code vs range = subst (λ counts. AreInRange counts vs) (sym (loops-are c p f)) range

  pub of_code : (vs : List ℕ) → AreInRange (loop_counts c p) vs → AreInRange f.loops vs
  of_code vs range = subst (λ counts. AreInRange counts vs) (loops-are c p f) range

-- ---- the items of a register

module _ (c : Target) (p : PlainNest) (can : CanRunNest c p) (q : ℕ) (part : q < c.procs) (vs : List ℕ)
    (range : AreInRange can.framed.loops vs) (k lane : ℕ) (under : k < vectors_of p.work) (there : lane < c.lanes) where
  abbrev pub lane_values : List ℕ
  lane_values = values_of c p.work q lane vs

  abbrev pub lane_item : ℕ
  lane_item = item_of p.work k lane

  pub lane-copy : IsCopyOf c p q lane_values
  lane-copy = copy-framed c p can.framed q lane vs part there range

  pub item-is : lane_item < work_size p.work
  item-is = item-below c p.work k lane can.work under there

  -- its words lie side by side
  pub side_by_side : MovesVectors c p q vs lane k
  side_by_side = can.vectors q vs lane k lane-copy.in_range there under

  pub load-below : load_at c p q vs k + lane < c.size
  load-below =
      subst (λ w. w < c.size) side_by_side.loads (can.inside.loads lane_values lane_item lane-copy.in_range item-is)

  pub store-below : store_at c p q vs k + lane < c.size
  store-below =
      subst (λ w. w < c.size) side_by_side.stores (can.inside.stores lane_values lane_item lane-copy.in_range item-is)

-- ---- the words of a processor's part of a pass, and the items of one of its nests

pub words_apart : (n source target i o a : ℕ) → AreApart n source target → i < n → o < n → a ≡ source + i →
    a ≡ target + o → ⊥
words_apart n source target i o a (inl before) low high is meant = omega (arith, before, low, high, is, meant)
words_apart n source target i o a (inr after) low high is meant = omega (arith, after, low, high, is, meant)

past : (a b : ℕ) → a + b - a ≡ b
past a b = omega arith

multiplied-finished : (c : Target) (p : PlainNest) (o : Option PlainMultiplier) (vs y : List ℕ) (k : ℕ) →
    k < work_size p.work → slice_index (multiplied_on c.modulus p o vs y) k
    ≡ finished c p o vs k (slice_index (work_on c.modulus p.work y) k)
multiplied-finished c p None vs y k below = refl
multiplied-finished c p (Some d) vs y k below = at-list_below (work_size p.work) _ k below ∙ ap (λ z. z % c.modulus) (mul_comm _ (slice_index (work_on c.modulus p.work y) k))

-- ---- residues

sums-below : (m n : ℕ) (f : ℕ → ℕ) (k : ℕ) → 0 < m → k < n → slice_index (list_below n (λ i. f i % m)) k < m
sums-below m n f k some below = subst (λ v. v < m) (sym (at-list_below n (λ i. f i % m) k below)) (mod-lt (f k) some)

worked-below : (m : ℕ) (w : PlainWork) (y : List ℕ) (k : ℕ) → 0 < m →
    ((j : ℕ) → j < work_size w → slice_index y j < m) → k < work_size w → slice_index (work_on m w y) k < m
worked-below m (kernel trees) y k some small below = trees-below m (trees_of trees) y k some below
worked-below m (rows root size) y k some small below = sums-below m size _ k some below
worked-below m (horner root size) y k some small below = sums-below m size _ k some below
worked-below m (tile v) y k some small below =
    let wide : 0 < v = factor_positive v v k below in
    let row : k / v < v = (div-lt_iff_lt-mul wide).1 below in
    let column : k % v < v = mod-lt k wide in
    subst (λ z. z < m) (sym (turn_at v v y k (k / v) (k % v) row column (sym (div-add-mod' k v)))) (small (k % v * v + k / v) (place_below (k % v) (k / v) v v column row))
worked-below m (copy size) y k some small below = subst (λ v. v < m) (sym (at-list_below size (slice_index y) k below)) (small k below)

multiplied-below : (c : Target) (p : PlainNest) (o : Option PlainMultiplier) (vs y : List ℕ) (k : ℕ) → 0 < c.modulus →
    k < work_size p.work → slice_index (work_on c.modulus p.work y) k < c.modulus →
    slice_index (multiplied_on c.modulus p o vs y) k < c.modulus
multiplied-below c p None vs y k some below small = small
multiplied-below c p (Some d) vs y k some below small = sums-below c.modulus (work_size p.work) _ k some below

-- ---- a pass

module _ (c : Target) (zs : List PlainNest) (can : CanRun c zs) where
  -- what is known of one of its nests
  pub nest-can : (p : PlainNest) → Contains zs p → CanRunNest c p
  nest-can p one = All-contains (CanRunNest c) zs p can.nests one

  pub modulus-some : 0 < c.modulus
  modulus-some = let large = can.modulus in omega arith

  pub loaded-below : (q w : ℕ) → IsLoadedBy c zs q w → w < c.size
  loaded-below q w l = subst (λ v. v < c.size) l.there ((nest-can l.nest l.one).inside.loads l.values l.item l.copy.in_range l.below)

  pub stored-below : (q w : ℕ) → IsStoredBy c zs q w → w < c.size
  stored-below q w l = subst (λ v. v < c.size) l.there ((nest-can l.nest l.one).inside.stores l.values l.item l.copy.in_range l.below)

  -- a word of the array that begins at an address
  abbrev pub IsWordOf : ℕ → (ℕ → Type 0) → ℕ → Type 0
  IsWordOf start Is a = (w : ℕ) × Is w × (a ≡ start + w)

  -- the words of a processor in both arrays
  abbrev pub task_of : (source target q : ℕ) (x : List ℕ) → AreApart c.size source target → Task
  task_of source target q x apart =
      record {
        space = target + c.size;
        IsInput = IsWordOf source (IsLoadedBy c zs q);
        input = λ a. slice_index x (a - source);
        IsOutput = IsWordOf target (IsStoredBy c zs q);
        output = λ a. slice_index (nests_on c.modulus c.size zs x) (a - target);
        apart = λ a i o. words_apart c.size source target i.0 o.0 a apart (loaded-below q i.0 i.1) (stored-below q o.0 o.1) i.2 o.2;
        fits = λ a o. let there = o.2 in let low = stored-below q o.0 o.1 in omega arith;
      }

  pub ready-at : (source target q : ℕ) (x : List ℕ) (apart : AreApart c.size source target) (s : Local) →
      CanBegin c zs source target q x s → IsReady c.lanes (pass_registers c.modulus zs)
      (task_of source target q x apart) s
  ready-at source target q x apart s begin =
      record {
        wide = begin.registers;
        room = begin.targets;
        held = λ a is.
            ap (word s) is.2
            ∙ begin.held is.0 is.1
            ∙ ap (slice_index x) (sym (past source is.0))
            ∙ ap (λ b. slice_index x (b - source)) (sym is.2);
      }

  -- the words of a register's items
  module _ (p : PlainNest) (one : Contains zs p) (q : ℕ) (part : q < c.procs) (vs : List ℕ)
      (range : AreInRange (nest-can p one).framed.loops vs) (k lane : ℕ) (under : k < vectors_of p.work)
      (there : lane < c.lanes) where
    abbrev facts : CanRunNest c p
    facts = nest-can p one

    abbrev pub on : List ℕ
    on = lane_values c p facts q part vs range k lane under there

    abbrev pub item : ℕ
    item = lane_item c p facts q part vs range k lane under there

    pub loaded-place : (source : ℕ) → source + load_at c p q vs k + lane ≡ source + load_place p.work p.gathers on item
    loaded-place source =
        let beside = (side_by_side c p facts q part vs range k lane under there).loads in omega arith

    pub stored-place : (target : ℕ) → target + store_at c p q vs k + lane
        ≡ target + store_place p.work p.scatters on item
    stored-place target =
        let beside = (side_by_side c p facts q part vs range k lane under there).stores in omega arith

    pub loaded-word : (source : ℕ) → IsWordOf source (IsLoadedBy c zs q) (source + load_at c p q vs k + lane)
    loaded-word source = (
      load_place p.work p.gathers on item,
      record {
        nest = p;
        one = one;
        values = on;
        item = item;
        copy = lane-copy c p facts q part vs range k lane under there;
        below = item-is c p facts q part vs range k lane under there;
        there = refl;
      },
      loaded-place source,
    )

    pub stored-word : (target : ℕ) → IsWordOf target (IsStoredBy c zs q) (target + store_at c p q vs k + lane)
    stored-word target = (
      store_place p.work p.scatters on item,
      record {
        nest = p;
        one = one;
        values = on;
        item = item;
        copy = lane-copy c p facts q part vs range k lane under there;
        below = item-is c p facts q part vs range k lane under there;
        there = refl;
      },
      stored-place target,
    )

  -- ---- one of its nests

  module _ (source target q : ℕ) (x : List ℕ) (apart : AreApart c.size source target) (part : q < c.procs)
      (small : (i : ℕ) → i < c.size → slice_index x i < c.modulus) (p : PlainNest) (one : Contains zs p) where
    abbrev job : Task
    job = task_of source target q x apart

    -- what a copy loads
    abbrev pub items : List ℕ → List ℕ
    items vs = list_below (work_size p.work) (λ j. slice_index x (load_place p.work p.gathers vs j))

    -- what it computes
    abbrev pub worked : List ℕ → ℕ → ℕ
    worked vs k = slice_index (work_on c.modulus p.work (items vs)) k

    items-small : (vs : List ℕ) → paths.AreInRange (loops_of p.counts) vs → (j : ℕ) → j < work_size p.work →
        slice_index (items vs) j < c.modulus
    items-small vs range j under =
        subst (λ v. v < c.modulus)
        (sym (at-list_below (work_size p.work) (λ l. slice_index x (load_place p.work p.gathers vs l)) j under))
        (small (load_place p.work p.gathers vs j) ((nest-can p one).inside.loads vs j range under))

    -- what the pass leaves at the place of an item
    left : (vs : List ℕ) (k : ℕ) → paths.AreInRange (loops_of p.counts) vs → k < work_size p.work →
        slice_index (nests_on c.modulus c.size zs x) (store_place p.work p.scatters vs k)
        ≡ slice_index (multiplied_on c.modulus p p.multiplier vs (items vs)) k
    left vs k range below =
        let w : ℕ = store_place p.work p.scatters vs k in
        let low : w < c.size = (nest-can p one).inside.stores vs k range below in
        at-list_below c.size (λ v. all_stored (map (copies_of c.modulus) zs) x v % c.modulus) w low
        ∙ ap (λ v. v % c.modulus)
        (stored-once c.modulus x w p vs k range below refl zs one (let once = can.once w low in omega arith))
        ∙ mod-eq_of_lt
        (multiplied-below c p p.multiplier vs (items vs) k modulus-some below
        (worked-below c.modulus p.work (items vs) k modulus-some (items-small vs range) below))

    module _ (vs : List ℕ) (range : AreInRange (nest-can p one).framed.loops vs) where
      abbrev values : ℕ → List ℕ
      values lane = values_of c p.work q lane vs

      pub inputs : (k : ℕ) → k < vectors_of p.work → (lane : ℕ) → lane < c.lanes →
          job.IsInput (source + load_at c p q vs k + lane)
      inputs k under lane there = loaded-word p one q part vs range k lane under there source

      pub outputs : (k : ℕ) → k < vectors_of p.work → (lane : ℕ) → lane < c.lanes →
          job.IsOutput (target + store_at c p q vs k + lane)
      outputs k under lane there = stored-word p one q part vs range k lane under there target

      pub input-is : (k lane : ℕ) → k < vectors_of p.work → lane < c.lanes →
          job.input (source + load_at c p q vs k + lane)
          ≡ slice_index x (load_place p.work p.gathers (values lane) (item_of p.work k lane))
      input-is k lane under there =
          ap (λ a. slice_index x (a - source)) (loaded-place p one q part vs range k lane under there source)
          ∙ ap (slice_index x) (past source (load_place p.work p.gathers (values lane) (item_of p.work k lane)))

      pub input-item : (k lane : ℕ) → k < vectors_of p.work → lane < c.lanes →
          job.input (source + load_at c p q vs k + lane) ≡ slice_index (items (values lane)) (item_of p.work k lane)
      input-item k lane under there =
          input-is k lane under there
          ∙ sym (at-list_below (work_size p.work) (λ j. slice_index x (load_place p.work p.gathers (values lane) j))
          (item_of p.work k lane) (item-is c p (nest-can p one) q part vs range k lane under there))

      pub input-below : (k lane : ℕ) → k < vectors_of p.work → lane < c.lanes →
          job.input (source + load_at c p q vs k + lane) < c.modulus
      input-below k lane under there =
          rw (input-is k lane under there)
          (small (load_place p.work p.gathers (values lane) (item_of p.work k lane))
          ((nest-can p one).inside.loads (values lane) (item_of p.work k lane)
          (lane-copy c p (nest-can p one) q part vs range k lane under there).in_range
          (item-is c p (nest-can p one) q part vs range k lane under there)))

      -- what is to stand at the place of a lane
      pub output-is : (k lane : ℕ) → k < vectors_of p.work → lane < c.lanes → (v : ℕ) →
          v ≡ worked (values lane) (item_of p.work k lane) →
          job.output (target + store_at c p q vs k + lane) ≡ finished_lane c p p.multiplier q vs k lane v
      output-is k lane under there v is =
          let us = values lane in
          let i = item_of p.work k lane in
          let low = item-is c p (nest-can p one) q part vs range k lane under there in
          let made = nests_on c.modulus c.size zs x in
          ap (λ a. slice_index made (a - target)) (stored-place p one q part vs range k lane under there target)
          ∙ ap (slice_index made) (past target (store_place p.work p.scatters us i))
          ∙ left us i (lane-copy c p (nest-can p one) q part vs range k lane under there).in_range low
          ∙ multiplied-finished c p p.multiplier us (items us) i low
          ∙ ap (finished c p p.multiplier us i) (sym is)
