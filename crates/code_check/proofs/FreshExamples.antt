-- The walk and the machine among leftovers at an example, computed.
use Rattle.std.proofs.Common.{◌≡◌, [], ◌∷◌, true, false, refl, drop}
use Rattle.icode.specs.Actions.{plain_code}
use Rattle.icode.specs.Examples.{quad}
use Rattle.icode.specs.Leftovers.{Leftovers, results_among}
use Rattle.icode.specs.Plain.{PlainProgram}
use Rattle.code_check.specs.Marks.{is_fresh}

-- other words and registers than those of the start
left : Leftovers
left =
    record {
      words = 90 ∷ 91 ∷ 92 ∷ 93 ∷ 94 ∷ 95 ∷ 96 ∷ 97 ∷ 98 ∷ 99 ∷ 100 ∷ 101 ∷ [];
      files = λ phase. (7 ∷ 7 ∷ phase ∷ 7 ∷ 7 ∷ 7 ∷ []) ∷ (8 ∷ 8 ∷ 8 ∷ 8 ∷ phase ∷ 8 ∷ []) ∷ [];
    }

quad_fresh : is_fresh quad ≡ true
quad_fresh = refl

quad_among : results_among (plain_code quad) left (1 ∷ 2 ∷ 3 ∷ 4 ∷ []) (1 ∷ 0 ∷ []) ≡ 10 ∷ 7 ∷ 15 ∷ 6 ∷ []
unfolding left
quad_among = refl

-- its second phase alone loads words that nobody has stored
half : PlainProgram
half = record quad { phases = drop 1 quad.phases }

half_not_fresh : is_fresh half ≡ false
unfolding half
half_not_fresh = refl

half_differs : results_among (plain_code half) left (1 ∷ 2 ∷ 3 ∷ 4 ∷ []) [] ≡ 3 ∷ 5 ∷ 9 ∷ 10 ∷ []
unfolding half left
half_differs = refl
