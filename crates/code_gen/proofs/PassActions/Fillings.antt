-- The copies of a nest fill their places with what the pass makes of its array.
use Rattle.std.proofs.Common.{◌≡◌, ℕ, zero, suc, ◌+◌, ◌*◌, ◌-◌, ◌%◌, ◌<◌, ◌≤◌, arith, refl, sym, ap, ap₂, ◌∙◌, List, []}
use Rattle.std.proofs.Common.{◌∷◌, subst, mul_comm, Contains, slice_index, inl, inr, ◌⊎◌}
use Rattle.icode.specs.declared.action.Action.{Action}
use Rattle.icode.specs.declared.action.Action.TheVariants.{Tile}
use Rattle.icode.specs.Sequences.Nests.{AreInRange}
use Rattle.icode.proofs.SequenceLemmas.Fills.{Fills, fills-none, fills-append, fills-fewer, fills-nest}
use Rattle.kernel_gen.specs.KernelOps.{actions_by}
use Rattle.kernel_gen.specs.Kernel.{trees_kernel}
use Rattle.kernel_gen.proofs.Products.{trees-does}
use Rattle.operators.specs.Sum.{list_below, sum_below}
use Rattle.operators.proofs.Lists.{at-list_below, list_below-same}
use Rattle.operators.proofs.Places.{turn_at}
use Rattle.operators.proofs.Sums.{sum_below-same}
use Rattle.ring_mod.specs.Residue.{power_mod}
use Rattle.code_gen.specs.PassActions.Acts.{load_at, copy_acts, with_multiplier, nest_registers, pass_registers}
use Rattle.code_gen.specs.PassActions.Acts.{store_at, nest_acts, pass_acts}
use Rattle.code_gen.specs.PassActions.Laws.{AreApart, CanBegin, Leaves}
use Rattle.sigma_spl.specs.Shared.Running.{CanRun, IsStoredBy}
use Rattle.operators.specs.declared.target.Target.{Target}
use Rattle.sigma_spl.specs.Horner.{horner_sum}
use Rattle.sigma_spl.proofs.HornerRows.{horner_row}
use Rattle.sigma_spl.specs.Nest.{PlainNest, store_place, nests_on}
use Rattle.sigma_spl.specs.Shared.Machine.{values_of, loop_counts}
use Rattle.sigma_spl.specs.Work.{PlainWork, kernel, rows, horner, tile, copy, vectors_of, trees_of, PlainKernel}
use Rattle.tree_model.specs.Trees.{trees_size, trees_on}
use Rattle.icode.proofs.Lines.{Contains-head, Contains-tail, Contains-nil}
use Rattle.icode.specs.Machine.{Local}
use Rattle.sigma_spl.specs.Copies.{loops_of}
use Rattle.code_gen.proofs.PassActions.Copies.{modulus-some, nest-can, task_of, items, inputs, outputs, input-is}
use Rattle.code_gen.proofs.PassActions.Copies.{input-item, input-below, output-is, ready-at}
use Rattle.code_gen.proofs.PassActions.StraightCopies.{items-fill, value_of, kernel-computes, CopyWords, body-fills}
use Rattle.code_gen.proofs.PassActions.StraightCopies.{finish-few, turned, tile-computes, rows-fill, row_sum}
use Rattle.code_gen.proofs.PassActions.StraightCopies.{scaled_sum, entry_acts, scaled_acts, terms-turn, scaled-turn}
use Rattle.code_gen.proofs.PassActions.Finish.{Task, IsReady}
use Rattle.code_gen.proofs.PassActions.Copies.{IsOnLane, copy-on_lane, in_code, of_code}
use Rattle.operators.specs.Paths.Tensors as paths

-- the same loops round other work
abbrev pub working : PlainNest → PlainWork → PlainNest
working p w = record { counts = p.counts; work = w; gathers = p.gathers; multiplier = p.multiplier; scatters = p.scatters }

-- the registers of a nest are among those of its pass
pub registers-le : (c : Target) (zs : List PlainNest) (p : PlainNest) → Contains zs p →
    nest_registers c.modulus p p.work ≤ pass_registers c.modulus zs
registers-le c [] p one = absurd (omega (arith, one.1))
registers-le c (z ∷ zs) p (zero, low, e) = let same : nest_registers c.modulus z z.work ≡ nest_registers c.modulus p p.work = ap (λ (y : PlainNest). nest_registers c.modulus y y.work) e in omega arith
registers-le c (z ∷ zs) p (suc i, low, e) = let rest = registers-le c zs p (i, omega arith, e) in omega arith

-- an entry of a product by the matrix of powers, from these items
row-made : (m root n k : ℕ) (xs : List ℕ) (input : ℕ → ℕ) → k < n → ((l : ℕ) → l < n → input l ≡ slice_index xs l) →
    sum_below n (λ l. input l * power_mod m root (k * l)) % m
    ≡ slice_index (list_below n (λ r. sum_below n (λ l. power_mod m root (r * l) * slice_index xs l) % m)) k
row-made m root n k xs input below is =
    ap (λ y. y % m)
    (sum_below-same n _ (λ l. power_mod m root (k * l) * slice_index xs l) (λ l inside.
    ap (λ y. y * power_mod m root (k * l)) (is l inside) ∙ mul_comm (slice_index xs l) (power_mod m root (k * l))))
    ∙ sym (at-list_below n (λ r. sum_below n (λ l. power_mod m root (r * l) * slice_index xs l) % m) k below)

-- Horner's rule after a number of turns, each of which takes the item before the one that the turn before took
scaled-is : (m factor d : ℕ) (item : ℕ → ℕ) (xs : List ℕ) (t : ℕ) →
    ((i : ℕ) → i < t → item i ≡ slice_index xs (d - 1 - i)) →
    scaled_sum m factor item t ≡ horner_sum m factor d (slice_index xs) t
scaled-is m factor d item xs zero is = refl
scaled-is m factor d item xs (suc t) is =
    ap₂ (λ a b. ((a * factor) % m + b) % m) (scaled-is m factor d item xs t (λ i low. is i (omega arith)))
    (is t (omega arith))

module _ (c : Target) (zs : List PlainNest) (can : CanRun c zs) (source target q : ℕ) (x : List ℕ)
    (apart : AreApart c.size source target) (part : q < c.procs)
    (small : (i : ℕ) → i < c.size → slice_index x i < c.modulus) where
  abbrev pub regs : ℕ
  regs = pass_registers c.modulus zs

  abbrev pub whole : Task
  whole = task_of c zs can source target q x apart

  -- these actions fill the words of a copy
  abbrev pub CopyFills : PlainNest → List ℕ → List Action → Type 0
  CopyFills p vs acts =
      Fills c.modulus c.lanes (IsReady c.lanes regs whole) whole.IsOutput whole.output
      (CopyWords c p (vectors_of p.work) target q vs) acts

  -- so for all values of the loops
  abbrev pub CopiesFill : (p : PlainNest) → Contains zs p → Type 0
  CopiesFill p one =
      (vs : List ℕ) → AreInRange (nest-can c zs can p one).framed.loops vs →
      CopyFills p vs (copy_acts c p p.work source target q vs)

  kernel-fills : (p : PlainNest) (k : PlainKernel) (one : Contains zs (working p (kernel k))) →
      CopiesFill (working p (kernel k)) one
  kernel-fills p k one vs range =
      let z : PlainNest = working p (kernel k) in
      let n = trees_size (trees_of k) in
      let f = trees_on c.modulus (trees_of k) in
      let made = trees_kernel c.modulus (trees_of k) in
      let from : ℕ → ℕ = λ k. source + load_at c z q vs k in
      let few : with_multiplier p.multiplier made.next n ≤ regs = registers-le c zs z one in
      let work = (nest-can c zs can z one).work in
      body-fills c z p.multiplier regs target q whole n from (actions_by c.lanes made.code) (slice_index made.outs)
      made.next (value_of whole n from f) vs can.lanes few
      (kernel-computes c regs whole 1 n _ from made f (finish-few p.multiplier made.next n regs few)
      (trees-does c.modulus 1 (trees_of k) can.modulus work.trees)
      (input-below c zs can source target q x apart part small z one vs range))
      (inputs c zs can source target q x apart part small z one vs range)
      (outputs c zs can source target q x apart part small z one vs range)
      (λ k lane under there.
      output-is c zs can source target q x apart part small z one vs range k lane under there
      (value_of whole n from f k lane)
      (ap (λ (y : List ℕ). slice_index (f y) k)
      (list_below-same n _ _ (λ j inside.
      input-is c zs can source target q x apart part small z one vs range j lane inside there))))

  rows-filled : (p : PlainNest) (root n : ℕ) (one : Contains zs (working p (rows root n))) →
      CopiesFill (working p (rows root n)) one
  rows-filled p root n one vs range =
      let z : PlainNest = working p (rows root n) in
      let from : ℕ → ℕ = λ k. source + load_at c z q vs k in
      let entry : ℕ → ℕ → ℕ = λ k l. power_mod c.modulus root (k * l) in
      let few : with_multiplier p.multiplier 3 1 ≤ regs = registers-le c zs z one in
      let room : 3 ≤ regs = finish-few p.multiplier 3 1 regs few in
      rows-fill c z n regs target q whole (λ k. entry_acts c.lanes from (entry k))
      (λ k l lane. row_sum whole from (entry k) l lane % c.modulus) vs can.lanes room few
      (λ k row.
      terms-turn c.modulus c.lanes regs whole room from (entry k) n
      (inputs c zs can source target q x apart part small z one vs range))
      (outputs c zs can source target q x apart part small z one vs range)
      (λ k lane under there.
      output-is c zs can source target q x apart part small z one vs range k lane under there _
      (row-made c.modulus root n k _ (λ l. whole.input (from l + lane)) under (λ l inside.
      input-item c zs can source target q x apart part small z one vs range l lane inside there)))

  horner-filled : (p : PlainNest) (root n : ℕ) (one : Contains zs (working p (horner root n))) →
      CopiesFill (working p (horner root n)) one
  horner-filled p root n one vs range =
      let z : PlainNest = working p (horner root n) in
      let at : ℕ → ℕ = λ k. source + load_at c z q vs k in
      let from : ℕ → ℕ = λ t. at (n - 1 - t) in
      let few : with_multiplier p.multiplier 3 1 ≤ regs = registers-le c zs z one in
      let room : 3 ≤ regs = finish-few p.multiplier 3 1 regs few in
      rows-fill c z n regs target q whole (λ k. scaled_acts c.lanes from (power_mod c.modulus root k))
      (λ k l lane. scaled_sum c.modulus (power_mod c.modulus root k) (λ t. whole.input (from t + lane)) l) vs can.lanes
      room few
      (λ k row.
      scaled-turn c.modulus c.lanes regs whole room from (power_mod c.modulus root k) n (λ l under.
      inputs c zs can source target q x apart part small z one vs range (n - 1 - l) (omega arith)))
      (outputs c zs can source target q x apart part small z one vs range)
      (λ k lane under there.
      output-is c zs can source target q x apart part small z one vs range k lane under there _
      (scaled-is c.modulus (power_mod c.modulus root k) n (λ t. whole.input (from t + lane)) _ n (λ l inside.
      input-item c zs can source target q x apart part small z one vs range (n - 1 - l) lane (omega arith) there)
      ∙ horner_row c.modulus n root k _ (modulus-some c zs can) under))

  tile-filled : (p : PlainNest) (one : Contains zs (working p (tile c.lanes))) →
      CopiesFill (working p (tile c.lanes)) one
  tile-filled p one vs range =
      let z : PlainNest = working p (tile c.lanes) in
      let v = c.lanes in
      let from : ℕ → ℕ = λ k. source + load_at c z q vs k in
      let few : with_multiplier p.multiplier (v + v) v ≤ regs = registers-le c zs z one in
      let room : v + v ≤ regs = finish-few p.multiplier (v + v) v regs few in
      body-fills c z p.multiplier regs target q whole v from (Tile v 0 ∷ []) (λ k. v + k) (v + v)
      (turned c regs whole from can.lanes room) vs can.lanes few
      (tile-computes c regs whole from can.lanes room)
      (inputs c zs can source target q x apart part small z one vs range)
      (outputs c zs can source target q x apart part small z one vs range)
      (λ k lane under there.
      output-is c zs can source target q x apart part small z one vs range k lane under there _
      (input-item c zs can source target q x apart part small z one vs range lane k there under
      ∙ sym (turn_at v v _ (k * v + lane) k lane under there refl)))

  copy-filled : (p : PlainNest) (n : ℕ) (one : Contains zs (working p (copy n))) → CopiesFill (working p (copy n)) one
  copy-filled p n one vs range =
      let z : PlainNest = working p (copy n) in
      let few : with_multiplier p.multiplier 1 1 ≤ regs = registers-le c zs z one in
      items-fill c z n regs source target q whole vs can.lanes few
      (inputs c zs can source target q x apart part small z one vs range)
      (outputs c zs can source target q x apart part small z one vs range)
      (λ k lane under there.
      output-is c zs can source target q x apart part small z one vs range k lane under there _
      (input-item c zs can source target q x apart part small z one vs range k lane under there
      ∙ sym (at-list_below n (slice_index (items c zs can source target q x apart part small z one (values_of c z.work q lane vs))) k under)))

  copies-of : (p : PlainNest) (w : PlainWork) (one : Contains zs (working p w)) → CopiesFill (working p w) one
  copies-of p (kernel k) one = kernel-fills p k one
  copies-of p (rows root n) one = rows-filled p root n one
  copies-of p (horner root n) one = horner-filled p root n one
  copies-of p (tile v) one =
      let same : c.lanes ≡ v = sym (nest-can c zs can (working p (tile v)) one).work in
      subst (λ k. ((here : Contains zs (working p (tile k))) → CopiesFill (working p (tile k)) here)) same
      (tile-filled p) one
  copies-of p (copy n) one = copy-filled p n one

  pub copies-fill : (p : PlainNest) (one : Contains zs p) → CopiesFill p one
  copies-fill p one = copies-of p p.work one

-- ---- a pass leaves what it makes of its array

module _ (c : Target) (zs : List PlainNest) (can : CanRun c zs) (source target q : ℕ) (x : List ℕ)
    (apart : AreApart c.size source target) (part : q < c.procs)
    (small : (i : ℕ) → i < c.size → slice_index x i < c.modulus) where
  -- the words of all copies of the processor in a nest, and in nests
  abbrev NestWords : PlainNest → ℕ → Type 0
  NestWords p a = (vs : List ℕ) × AreInRange (loop_counts c p) vs × CopyWords c p (vectors_of p.work) target q vs a

  abbrev PassWords : List PlainNest → ℕ → Type 0
  PassWords ys a = (p : PlainNest) × Contains ys p × NestWords p a

  abbrev DoFill : (ℕ → Type 0) → List PlainNest → Type 0
  DoFill Filled ys = Fills c.modulus c.lanes (IsReady c.lanes (regs c zs can source target q x apart part small) (whole c zs can source target q x apart part small)) (whole c zs can source target q x apart part small).IsOutput (whole c zs can source target q x apart part small).output Filled (pass_acts c ys source target q)

  nest-fills : (p : PlainNest) → Contains zs p →
      Fills c.modulus c.lanes (IsReady c.lanes (regs c zs can source target q x apart part small)
      (whole c zs can source target q x apart part small)) (whole c zs can source target q x apart part small).IsOutput
      (whole c zs can source target q x apart part small).output (NestWords p) (nest_acts c p source target q)
  nest-fills p one =
      fills-nest c.modulus c.lanes (IsReady c.lanes (regs c zs can source target q x apart part small) (whole c zs can source target q x apart part small)) (whole c zs can source target q x apart part small).IsOutput (whole c zs can source target q x apart part small).output
      (loop_counts c p) (CopyWords c p (vectors_of p.work) target q) (copy_acts c p p.work source target q) []
      (λ vs range. copies-fill c zs can source target q x apart part small p one vs (of_code c p (nest-can c zs can p one).framed vs range))

  one_of : (z : PlainNest) (ys : List PlainNest) (p : PlainNest) → Contains (z ∷ ys) p → (z ≡ p) ⊎ Contains ys p
  one_of z ys p (zero, low, e) = inl e
  one_of z ys p (suc i, low, e) = inr (i, omega arith, e)

  pass-fills : (ys : List PlainNest) → ((p : PlainNest) → Contains ys p → Contains zs p) → DoFill (PassWords ys) ys
  pass-fills [] within = fills-fewer c.modulus c.lanes _ _ _ (λ _. ⊥) (PassWords []) [] (λ a h. Contains-nil h.0 h.1) (fills-none c.modulus c.lanes _ _ _)
  pass-fills (z ∷ ys) within =
      fills-fewer c.modulus c.lanes _ _ _ (λ a. NestWords z a ⊎ PassWords ys a) (PassWords (z ∷ ys)) _ into
      (fills-append c.modulus c.lanes _ _ _ (NestWords z) (PassWords ys) (nest_acts c z source target q) (pass_acts c ys source target q) (nest-fills z (within z (Contains-head z ys)))
      (pass-fills ys (λ p one. within p (Contains-tail z ys p one))))
    where
      into : (a : ℕ) → PassWords (z ∷ ys) a → NestWords z a ⊎ PassWords ys a
      into a h =
          elim (one_of z ys h.0 h.1) [
            | inl e ↦ inl (subst (λ (p : PlainNest). NestWords p a) (sym e) h.2)
            | inr rest ↦ inr (h.0, rest, h.2)
          ]

  -- the word of an item is one of them
  word-there : (w : ℕ) → IsStoredBy c zs q w → PassWords zs (target + w)
  word-there w is =
      let p : PlainNest = is.nest in
      let facts = nest-can c zs can p is.one in
      let h : IsOnLane c p.work facts.framed.loops q is.values is.item = copy-on_lane c p facts.framed q is.values is.item facts.work is.copy is.below in
      let range = subst (λ (us : List ℕ). paths.AreInRange (loops_of p.counts) us) h.copy_is is.copy.in_range in
      let beside = (facts.vectors q h.values h.lane h.number range h.there h.under).stores in
      let same : store_place p.work p.scatters is.values is.item ≡ store_at c p q h.values h.number + h.lane =
      ap (λ vs. store_place p.work p.scatters vs is.item) h.copy_is ∙ ap (store_place p.work p.scatters (values_of c p.work q h.lane h.values)) h.item ∙ beside in
      let there = is.there in (p, is.one, (h.values, in_code c p facts.framed h.values h.in_range, (h.number, h.under, (h.lane, h.there, omega (arith, same, there)))))

  pub pass-leaves : (s : Local) → CanBegin c zs source target q x s → Leaves c zs source target q x s
  pass-leaves s begin =
      let ready = ready-at c zs can source target q x apart s begin in
      let fills = pass-fills zs (λ p one. one) in
      record {
        stored = λ w is.
            let place : target + w - target ≡ w = omega arith in
            fills.done s ready (target + w) (word-there w is) ∙ ap (slice_index (nests_on c.modulus c.size zs x)) place;
        kept = λ a outside. fills.kept s ready a (λ is. outside is.0 is.1 is.2);
      }
