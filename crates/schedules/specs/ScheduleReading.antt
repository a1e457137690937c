-- Reading a schedule.
use Rattle.std.specs.Prelude.{ℕ, ◌^◌, codes, Result}
use Rattle.schedules.specs.declared.schedule.Form.{Form}
use Rattle.schedules.specs.declared.schedule.Form.TheVariants as form
use Rattle.grammar.specs.Reading.{Place, ◌>>=◌, pure_at, one_of_at, number_at, named_number_at, numbers_at}
use Rattle.schedules.specs.Schedule.{Plan, forms}
use Rattle.schedules.specs.Schedule as plan

unfoldable pub plan_at : Form → Place ℕ → Result (Plan × Place ℕ) ℕ
plan_at form.Seq = pure_at plan.Sequential
plan_at form.Rr = do
  count ← number_at 1000001
  pure_at (plan.Rounds count)
plan_at form.List = do
  turns ← numbers_at (codes ",") (2 ^ 32) 65535
  pure_at (plan.Named turns)
plan_at form.Seed = do
  seed ← number_at (2 ^ 64)
  count ← named_number_at (codes ":") 1000001
  pure_at (plan.Seeded seed count)

unfoldable pub schedule_at : Place ℕ → Result (Plan × Place ℕ) ℕ
schedule_at = do
  form ← one_of_at forms
  plan_at form
