-- Actions that may come before or after rounds that touch no words of a block.
use Rattle.std.proofs.Common.{◌≡◌, ◌⊎◌, ℕ, ◌+◌, ◌*◌, ◌%◌, ◌<◌, ◌≤◌, List, ◌++◌, flat_map, inl, inr, arith}
use Rattle.std.proofs.Math.Nat.{mul-le-mul_right}
use Rattle.std.specs.List.{range_with_len}
use Rattle.icode.specs.declared.action.Action.{Action}
use Rattle.icode.specs.Machine.{whole_lines}
use Rattle.icode.specs.Plain.{PlainProgram}
use Rattle.nests.proofs.Acts.{IsRound, Loads, Stores, DoTheSame}
use Rattle.nests.proofs.Swaps.{IsSure, Commute, commute-append, commute-loop, same-sym, same-trans, same-append}
use Rattle.nests.proofs.Swaps.{same-loops, swapped, independent}

abbrev pub Touches : ℕ → List Action → ℕ → Type 0
Touches lanes fs k = Loads lanes fs k ⊎ Stores lanes fs k

module _ (p : PlainProgram) where
  -- the word is one of a number of words from a first one on, in its array
  abbrev pub Lies : ℕ → ℕ → ℕ → Type 0
  Lies low step k = (low ≤ k % whole_lines p.size p.line) × (k % whole_lines p.size p.line < low + step)

  -- the actions touch such words alone, and no such words
  abbrev pub IsInside : ℕ → ℕ → List Action → Type 0
  IsInside low step fs = (k : ℕ) → Touches p.lanes fs k → Lies low step k

  abbrev pub IsOutside : ℕ → ℕ → List Action → Type 0
  IsOutside low step fs = (k : ℕ) → Touches p.lanes fs k → Lies low step k → ⊥

  abbrev Sure : List Action → Type 0
  Sure = IsSure p.modulus p.lanes

  abbrev EitherFirst : List Action → List Action → Type 0
  EitherFirst = Commute p.modulus p.lanes

  -- they leave the same whatever stands in the registers, before or after rounds outside
  pub record IsWithin (low step : ℕ) (b : List Action) : Type 0 where
    pub sure : Sure b
    pub past : (r : List Action) → IsRound p.lanes r → IsOutside low step r → EitherFirst r b

  turned : (a b : List Action) → EitherFirst a b → EitherFirst b a
  turned a b h = same-sym p.modulus p.lanes (a ++ b) (b ++ a) h

  pub within-round : (low step : ℕ) (b : List Action) → IsRound p.lanes b → IsInside low step b → IsWithin low step b
  within-round low step b round inside =
      record {
        sure = independent p.modulus p.lanes b round;
        past = λ r other outside.
            swapped p.modulus p.lanes r b other round
            (record {
              into = λ k s l. outside k (inr s) (inside k (inl l));
              from = λ k l s. outside k (inl l) (inside k (inr s));
              words = λ k s t. outside k (inr s) (inside k (inr t));
            });
      }

  pub within-append : (low step : ℕ) (a b : List Action) → IsWithin low step a → IsWithin low step b →
      IsWithin low step (a ++ b)
  within-append low step a b one two =
      record {
        sure = same-append p.modulus p.lanes a a b b one.sure two.sure;
        past = λ r other outside.
            turned (a ++ b) r
            (commute-append p.modulus p.lanes a b r one.sure two.sure
            (turned r a (one.past r other outside)) (turned r b (two.past r other outside)));
      }

  pub within-loop : (low step n : ℕ) (f : ℕ → List Action) → ((i : ℕ) → i < n → IsWithin low step (f i)) →
      IsWithin low step (flat_map f (range_with_len 0 n))
  within-loop low step n f each =
      record {
        sure = same-loops p.modulus p.lanes n f f (λ i lt. (each i lt).sure);
        past = λ r other outside.
            turned (flat_map f (range_with_len 0 n)) r
            (commute-loop p.modulus p.lanes n f r (independent p.modulus p.lanes r other) (λ i lt. (each i lt).sure)
            (λ i lt. turned r (f i) ((each i lt).past r other outside)));
      }

  -- what does the same
  pub within-same : (low step : ℕ) (a b : List Action) → DoTheSame p.modulus p.lanes a b → IsWithin low step b →
      IsWithin low step a
  within-same low step a b same is =
      let back = same-sym p.modulus p.lanes a b same in
      record {
        sure = same-trans p.modulus p.lanes a b a same back;
        past = λ r other outside.
            let itself = independent p.modulus p.lanes r other in
            same-trans p.modulus p.lanes (r ++ a) (r ++ b) (a ++ r) (same-append p.modulus p.lanes r r a b itself same)
            (same-trans p.modulus p.lanes (r ++ b) (b ++ r) (a ++ r) (is.past r other outside)
            (same-append p.modulus p.lanes b a r r back itself));
      }

  -- words of different rounds of a block
  pub never-both : (base step i j k : ℕ) → i < j → Lies (base + i * step) step k → Lies (base + j * step) step k → ⊥
  never-both base step i j k less one other =
      let next : i + 1 ≤ j = omega (arith, less) in
      let rows : (i + 1) * step ≤ j * step = mul-le-mul_right step next in
      let out : (i + 1) * step ≡ i * step + step = omega arith in
      let a = one.1 in
      let b = other.0 in
      omega (arith, rows, out, a, b)
