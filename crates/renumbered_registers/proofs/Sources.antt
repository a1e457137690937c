-- What holds of a numbered operation, by the numbers of its sources.
use Rattle.std.proofs.Common.{◌≡◌, ℕ, Bool, true, false, Option, Some, None, refl, subst}
use Rattle.std.specs.Prelude.{option_map, if◌then◌else◌}
use Rattle.icode.specs.Plain.{PlainOp, Tile}
use Rattle.renumbered_registers.specs.Renumbered.{Numbering, of_two, tile_from, with_put, are_consecutive}
use Rattle.renumbered_registers.proofs.Given.{none-is, some-is}

module _ (z : Numbering) (Holds : PlainOp → Type 0) (new : PlainOp) where
  pub one-source : (f : ℕ → PlainOp) (o : Option ℕ) → ((n : ℕ) → o ≡ Some n → Holds (with_put z.next (f n))) →
      option_map (with_put z.next) (option_map f o) ≡ Some new → Holds new
  one-source f None each e = none-is new e
  one-source f (Some n) each e = subst Holds (some-is (with_put z.next (f n)) new e) (each n refl)

  pub two-sources : (f : ℕ → ℕ → PlainOp) (o k : Option ℕ) →
      ((a b : ℕ) → o ≡ Some a → k ≡ Some b → Holds (with_put z.next (f a b))) →
      option_map (with_put z.next) (of_two f o k) ≡ Some new → Holds new
  two-sources f None k each e = none-is new e
  two-sources f (Some a) None each e = none-is new e
  two-sources f (Some a) (Some b) each e =
      subst Holds (some-is (with_put z.next (f a b)) new e) (each a b refl refl)

  pub tile-source : (lanes r x : ℕ) (o : Option ℕ) →
      ((n : ℕ) → o ≡ Some n → are_consecutive lanes x n z ≡ true → Holds (Tile z.next n)) →
      option_map (with_put z.next) (tile_from lanes z r x o) ≡ Some new → Holds new
  tile-source lanes r x None each e = none-is new e
  tile-source lanes r x (Some n) each e = by_test (are_consecutive lanes x n z) refl e
    where
      by_test : (b : Bool) → are_consecutive lanes x n z ≡ b →
          option_map (with_put z.next) (if b then Some (Tile r n) else None) ≡ Some new → Holds new
      by_test false fails e = none-is new e
      by_test true follow e = subst Holds (some-is (Tile z.next n) new e) (each n refl follow)
