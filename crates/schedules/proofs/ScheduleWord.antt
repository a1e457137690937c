-- The reader of a schedule reads by its grammar.
use Rattle.std.proofs.Common.{◌≡◌, ℕ, zero, suc, ◌≤◌, ◌^◌, List, [], ◌∷◌, length, refl, sym, ap, subst, codes, arith}
use Rattle.std.proofs.Common.{Result, inl, inr}
use Rattle.schedules.specs.declared.schedule.Form.{Form}
use Rattle.schedules.specs.declared.schedule.Form.TheVariants as form
use Rattle.grammar.specs.Grammar.{more_numbers, Judges}
use Rattle.grammar.specs.Reading.{whole}
use Rattle.grammar.proofs.Numbers.{NoDigit}
use Rattle.grammar.proofs.Places.{IsReader, pure_reader, bind_reader}
use Rattle.grammar.proofs.Parts.{Anything, Nothing, Behind, behind_anything, behind_nothing, keeps_pure, leaves_at_end}
use Rattle.grammar.proofs.Parts.{then_no_digit, one_of_reader, number_reader, named_number_reader}
use Rattle.grammar.proofs.Lists.{numbers_reader}
use Rattle.grammar.proofs.Whole.{whole_judges}
use Rattle.schedules.specs.Schedule.{Plan, Sequential, Rounds, Named, Seeded, plan, schedule_word, IsPlan}
use Rattle.schedules.specs.ScheduleReading.{plan_at, schedule_at}

plan_reader : (f : Form) → IsReader Nothing (plan f) (plan_at f)
unfolding plan_at
plan_reader form.Seq = pure_reader Nothing Sequential
plan_reader form.Rr =
    bind_reader NoDigit Nothing _ _ _ _ (number_reader 1000001 (omega arith) (omega arith)) (λ count u l. pure_reader Nothing (Rounds count))
    (λ count. leaves_at_end NoDigit _ (keeps_pure NoDigit (Rounds count)) refl)
plan_reader form.List =
    bind_reader (Behind (codes ",")) Nothing _ _ _ _ (numbers_reader (codes ",") (2 ^ 32) 65535 refl (omega arith) (omega arith)) (λ turns u l. pure_reader Nothing (Named turns))
    (λ turns. leaves_at_end (Behind (codes ",")) _ (keeps_pure (Behind (codes ",")) (Named turns)) (behind_nothing (codes ",") refl))
plan_reader form.Seed =
    bind_reader NoDigit Nothing _ _ _ _ (number_reader (2 ^ 64) (omega arith) (omega arith)) (λ seed u l.
    bind_reader NoDigit Nothing _ _ _ _ (named_number_reader (codes ":") 1000001 (omega arith) (omega arith)) (λ count u l. pure_reader Nothing (Seeded seed count))
    (λ count. leaves_at_end NoDigit _ (keeps_pure NoDigit (Seeded seed count)) refl))
    (λ seed. then_no_digit Nothing (codes ":") 1000001 _ refl)

schedule_reader : IsReader Nothing schedule_word schedule_at
unfolding schedule_at
schedule_reader =
    bind_reader Anything Nothing _ _ _ _ (one_of_reader Anything (codes "seq", form.Seq) ((codes "rr:", form.Rr) ∷ (codes "turns:", form.List) ∷ (codes "seed:", form.Seed) ∷ []) refl) (λ f u l. plan_reader f) (λ f. behind_anything Nothing (plan f))

-- what the reader gives of a whole word is what the grammar says
pub word_judges : (word : List ℕ) (r : Result Plan ℕ) → whole schedule_at word ≡ r → Judges schedule_word word r
word_judges word r e = subst (Judges schedule_word word) e (whole_judges Nothing schedule_word schedule_at schedule_reader refl word)

pub few_more : (separator : List ℕ) (limit count : ℕ) (text others : List ℕ) →
    more_numbers separator limit count text others → length others ≤ count
unfolding more_numbers
few_more separator limit zero text others l = omega (arith, ap length l.1)
few_more separator limit (suc count) text others (inl l) = omega (arith, ap length l.1)
few_more separator limit (suc count) text others (inr l) =
    omega (arith, ap length l.ends.ends.1, few_more separator limit count l.ends.front l.ends.spelt l.ends.begins)

plan_fits : (f : Form) (text : List ℕ) (p : Plan) → plan f text p → IsPlan p
plan_fits form.Seq text p l = subst IsPlan (sym l.1) tt
plan_fits form.Rr text p l = subst IsPlan (sym l.ends.1) (let le : l.spelt ≤ 1000000 = omega (arith, l.begins.0) in le)
plan_fits form.List text p l =
    let turns = l.begins in
    let le : length l.spelt ≤ 65536 = omega (arith, ap length turns.ends.ends.1, few_more (codes ",") (2 ^ 32) 65535 turns.ends.front turns.ends.spelt turns.ends.begins) in
    subst IsPlan (sym l.ends.1) le
plan_fits form.Seed text p l = subst IsPlan (sym l.ends.ends.1) (let le : l.ends.spelt ≤ 1000000 = omega (arith, l.ends.begins.ends.0) in le)

pub is_plan : (word : List ℕ) (p : Plan) → schedule_word word p → IsPlan p
is_plan word p l = plan_fits l.spelt l.rest p l.ends
