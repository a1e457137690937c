-- The program of merged passes is fresh.
use Rattle.std.proofs.Common.{◌≡◌, ℕ, suc, ◌+◌, ◌-◌, ◌<◌, ◌≤◌, ◌⊎◌, List, [], ◌∷◌, length, take, Some}
use Rattle.std.proofs.Common.{inl, inr, ⊎_elim, refl, sym, subst, arith, Contains}
use Rattle.std.specs.Prelude.{slice_get}
use Rattle.std.proofs.lemmas.Bool.{cases_lt}
use Rattle.icode.specs.Actions.{array_start}
use Rattle.icode.specs.Fresh.{IsFresh, IsKnown, HaveStored, HavePut, loaded_words, read_registers, put_registers}
use Rattle.icode.specs.Machine.{Code, IsCode, acts, padded, stored_words}
use Rattle.icode.specs.declared.action.Action.{Action}
use Rattle.icode.specs.declared.program.Array.{Array}
use Rattle.icode.specs.declared.program.Array.TheVariants.{Y}
use Rattle.icode.proofs.Open.{has_action}
use Rattle.code_gen.specs.PassCode.Program.{array_after, count_in}
use Rattle.operators.specs.declared.target.Target.{Target}
use Rattle.icode.proofs.FreshLists as lists
use Rattle.icode.proofs.FreshLists.{Nothing}
use Rattle.code_gen.proofs.WholePrograms.FreshParts.{ArePartsFresh, parts_fresh}
use Rattle.code_gen.proofs.WholePrograms.Phases.{final_array, IsOtherNext, other-after, RunsPhases, SharedFrom}
use Rattle.code_gen.proofs.WholePrograms.Processor.{AllFrom, at-phase, Pass, PhasesKnown}

module _ (c : Target) (words : ℕ) (enough : c.size ≤ words) (code : Code) (modulus_is : code.modulus ≡ c.modulus)
    (lanes_are : code.lanes ≡ c.lanes) (procs_are : code.procs ≡ c.procs) where
  -- the words that are known where a phase begins
  abbrev pub Known : ℕ → ℕ → Type 0
  Known f k = (k < c.size) ⊎ ((earlier : ℕ) × (q : ℕ) × (earlier < f) × HaveStored c.lanes (acts code earlier q) k)

  known-later : (f k : ℕ) → Known f k → Known (f + 1) k
  known-later f k (inl input) = inl input
  known-later f k (inr before) = inr (before.0, before.1, (let low = before.2 in omega (arith, low)), before.3)

  -- those of the array are
  abbrev AllKnownIn : ℕ → Array → Type 0
  AllKnownIn f source = (i : ℕ) → i < c.size → Known f (array_start words source + i)

  pub record IsPhaseFresh (f : ℕ) : Type 0 where
    pub loads : (q : ℕ) → q < c.procs →
        lists.ReadKnown (loaded_words c.lanes) (stored_words c.lanes) (Known f) (acts code f q)
    pub reads : (q : ℕ) → q < c.procs →
        lists.ReadKnown (read_registers c.lanes) (put_registers c.lanes) Nothing (acts code f q)

  abbrev Shared : List (List Pass) → ℕ → Array → Type 0
  Shared pss t source = SharedFrom c words enough code modulus_is lanes_are procs_are pss t source

  abbrev Runs : ℕ → List (List Pass) → ℕ → Array → Type 0
  Runs f pss t source = RunsPhases c words enough code modulus_is lanes_are procs_are f pss t source

  abbrev OtherNext : ℕ → ℕ → Array → Type 0
  OtherNext count t source = IsOtherNext c words enough code modulus_is lanes_are procs_are count t source

  abbrev final : List (List Pass) → ℕ → Array → Array
  final pss t source = final_array c words enough code modulus_is lanes_are procs_are pss t source

  no-passes : (after : ℕ) (ps : List Pass) (t : ℕ) (source : Array) → length ps ≡ 0 → array_after after ps t source ≡ source
  no-passes after [] t source e = refl
  no-passes after (p ∷ ps) t source e = absurd (omega (arith, e))

  pub all-fresh : (f : ℕ) (pss : List (List Pass)) (t : ℕ) (source : Array) → PhasesKnown c pss → Shared pss t source →
      OtherNext (count_in pss) t source → Runs f pss t source → AllKnownIn f source →
      AllFrom IsPhaseFresh f pss × AllKnownIn (f + length pss) (final pss t source)
  all-fresh f [] t source known shared other runs has =
      (tt, λ i below. subst (λ n. Known n (array_start words source + i)) (omega arith) (has i below))
  all-fresh f (ps ∷ more) t source known shared other runs has =
      let owner = shared.0.owner in
      let after = count_in more in
      let last : Array = array_after after ps t source in
      let parts : (q : ℕ) → q < c.procs → ArePartsFresh c words enough owner after (Known f) ps t source q =
      λ q low. parts_fresh c words enough owner after (Known f) ps t source q low known.0 shared.0.owns
      (λ some. other (omega (arith, some))) (λ i below may. has i below) in
      let next : AllKnownIn (f + 1) last =
      λ i below. ⊎_elim
      (λ (none : length ps < 1).
      subst (λ a. Known (f + 1) (array_start words a + i)) (sym (no-passes after ps t source (omega (arith, none)))) (known-later f (array_start words source + i) (has i below)))
      (λ (some : 1 ≤ length ps).
      let q = owner i in
      let low : q < c.procs = shared.0.is_owner.procs i below in
      let stored = (parts q low).stores (omega (arith, some)) i below refl in
      inr (f, q, omega arith, subst (λ actions. HaveStored c.lanes actions (array_start words last + i)) (sym (runs.0 q low)) stored))
      (cases_lt (length ps) 1) in
      let rest = all-fresh (f + 1) more (t + length ps) last known.1 shared.1
      (other-after c words enough code modulus_is lanes_are procs_are after ps t source other) runs.1 next in
      let long : f + 1 + length more ≡ f + suc (length more) = omega arith in (
        (
          record {
            loads = λ q low. subst (lists.ReadKnown (loaded_words c.lanes) (stored_words c.lanes) (Known f)) (sym (runs.0 q low)) (parts q low).loads;
            reads = λ q low. subst (lists.ReadKnown (read_registers c.lanes) (put_registers c.lanes) Nothing) (sym (runs.0 q low)) (parts q low).reads;
          },
          rest.0,
        ),
        λ i below. subst (λ n. Known n (array_start words (final more (t + length ps) last) + i)) long (rest.1 i below),
      )

-- the code of phases that are all fresh
module _ (c : Target) (words : ℕ) (enough : c.size ≤ words) (code : Code) (is : IsCode code)
    (modulus_is : code.modulus ≡ c.modulus) (lanes_are : code.lanes ≡ c.lanes) (procs_are : code.procs ≡ c.procs)
    (size_is : code.size ≡ c.size) (padded_is : padded code ≡ words) (pss : List (List Pass))
    (long : length code.lists ≡ length pss) (some : 0 < count_in pss) where
  abbrev Known' : ℕ → ℕ → Type 0
  Known' f k = Known c words enough code modulus_is lanes_are procs_are f k

  abbrev Fresh' : ℕ → Type 0
  Fresh' f = IsPhaseFresh c words enough code modulus_is lanes_are procs_are f

  same_lanes : (P : ℕ → Type 0) → P c.lanes → P code.lanes
  same_lanes P h = subst P (sym lanes_are) h

  in-phase : (fresh : AllFrom Fresh' 0 pss) (phase q n : ℕ) (a : Action) → slice_get (acts code phase q) n ≡ Some a →
      Fresh' phase × (q < c.procs)
  in-phase fresh phase q n a e =
      let there = has_action code is phase q n a e in
      (subst Fresh' (omega arith) (at-phase Fresh' 0 pss fresh phase (let low = there.1 in omega (arith, low, long))), (let low = there.0 in omega (arith, low, procs_are)))

  pub fresh-code : AllFrom Fresh' 0 pss →
      ((i : ℕ) → i < c.size → Known' (length pss) (array_start words Y + i)) → IsFresh code
  fresh-code fresh last =
      record {
        loads = λ phase q n a e k has.
            let here = in-phase fresh phase q n a e in
            let read : Contains (loaded_words c.lanes a) k = subst (λ l. Contains (loaded_words l a) k) lanes_are has in
            ⊎_elim
            (λ (known : Known' phase k). from_known phase q n k known)
            (λ (stored : lists.HavePut (loaded_words c.lanes) (stored_words c.lanes) (take n (acts code phase q)) k).
            inr (inr (same_lanes (λ l. HaveStored l (take n (acts code phase q)) k) stored)))
            (lists.known-at (loaded_words c.lanes) (stored_words c.lanes) (Known' phase) (acts code phase q) (here.0.loads q here.1) n a e k read);
        reads = λ phase q n a e r has.
            let here = in-phase fresh phase q n a e in
            let read : Contains (read_registers c.lanes a) r = subst (λ l. Contains (read_registers l a) r) lanes_are has in
            ⊎_elim
            (λ (none : Nothing r). absurd none)
            (λ (put : lists.HavePut (read_registers c.lanes) (put_registers c.lanes) (take n (acts code phase q)) r).
            same_lanes (λ l. HavePut l (take n (acts code phase q)) r) put)
            (lists.known-at (read_registers c.lanes) (put_registers c.lanes) Nothing (acts code phase q) (here.0.reads q here.1) n a e r read);
        result = λ k low.
            let below : k < c.size = omega (arith, low, size_is) in
            ⊎_elim
            (λ (input : array_start words Y + k < c.size). let le = enough in absurd (omega (arith, input, le)))
            (λ (stored : (earlier : ℕ) × (q : ℕ) × (earlier < length pss) × HaveStored c.lanes (acts code earlier q) (array_start words Y + k)). (
              stored.0,
              stored.1,
              subst (λ w. HaveStored code.lanes (acts code stored.0 stored.1) (w + k)) (sym padded_is)
                  (same_lanes (λ l. HaveStored l (acts code stored.0 stored.1) (words + k)) stored.3),
            ))
            (last k below);
      }
    where
      from_known : (phase q n k : ℕ) → Known' phase k → IsKnown code phase q n k
      from_known phase q n k (inl input) = inl (omega (arith, input, size_is))
      from_known phase q n k (inr before) =
          inr (inl (before.0, before.1, before.2, same_lanes (λ l. HaveStored l (acts code before.0 before.1) k) before.3))
