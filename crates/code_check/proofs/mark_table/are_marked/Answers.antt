use Rattle.std.proofs.Common.{◌≡◌, ℕ, suc, ◌+◌, ◌-◌, ◌<◌, ◌&&◌, List, Bool, true, ap, ◌∙◌, arith}
use Rattle.code_check.specs.Marks.{are_marked, is_marked}
use Rattle.code_check.proofs.mark_table.are_marked.Goals as goal

-- one mark is set, and the others are to be looked at
one_on : (marks : List Bool) (count from place : ℕ) → place < count → is_marked marks (from + place) ≡ true →
    are_marked (count - place) marks (from + place) ≡ are_marked (count - (place + 1)) marks (from + (place + 1))
one_on marks count from place lt e =
    let left : count - place ≡ suc (count - (place + 1)) = omega (arith, lt) in
    let next : from + place + 1 ≡ from + (place + 1) = omega arith in
    ap (λ n. are_marked n marks (from + place)) left
    ∙ (ap (λ b. b && are_marked (count - (place + 1)) marks (from + place + 1)) e
    ∙ ap (are_marked (count - (place + 1)) marks) next)

pub loop-place-preserved : goal.loop-place-preserved
loop-place-preserved c =
    c.loop-place.invariant ∙ one_on c.args.marks.now c.args.count c.args.from c.loop-place.place
    c.loop-place-test.true c.if-not-marks-from.false
