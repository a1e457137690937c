-- The parts of all phases in a row are one for each pass.
use Rattle.std.proofs.Common.{◌≡◌, ℕ, ◌+◌, List, [], ◌∷◌, ◌++◌, length, flat_map, refl, sym, ap, ap₂, ◌∙◌, append_assoc}
use Rattle.std.specs.List.{range_with_len}
use Rattle.code_gen.specs.PassCode.Contract.{ArePhaseParts, PartsInARow, in_a_row, concatenated}
use Rattle.icode.specs.Machine.{Code, acts}
use Rattle.icode.specs.declared.action.Action.{Action}
use Rattle.sigma_spl.specs.Nest.{PlainNest}

concatenated-append : (xs ys : List (List Action)) → concatenated (xs ++ ys) ≡ concatenated xs ++ concatenated ys
concatenated-append [] ys = refl
concatenated-append (x ∷ xs) ys = ap (λ z. x ++ z) (concatenated-append xs ys) ∙ sym (append_assoc x (concatenated xs) (concatenated ys))

concatenated-rows : (code : Code) (q f : ℕ) (phases : List (List (List PlainNest))) (parts : List (List (List Action))) →
    ArePhaseParts code q f phases parts →
    concatenated (in_a_row parts) ≡ flat_map (λ phase. acts code phase q) (range_with_len f (length phases))
concatenated-rows code q f [] [] h = refl
concatenated-rows code q f (passes ∷ phases) (first ∷ more) h =
    concatenated-append first (in_a_row more)
    ∙ ap₂ (λ (xs ys : List Action). xs ++ ys) h.1 (concatenated-rows code q (f + 1) phases more h.2)
concatenated-rows code q f _ _ h = absurd h

pub parts_in_a_row : PartsInARow
parts_in_a_row h g code q listed =
    record {
      parts = in_a_row listed.phases;
      whole = concatenated-rows code q 0 g.phases listed.phases listed.lists;
      each = listed.each;
    }
