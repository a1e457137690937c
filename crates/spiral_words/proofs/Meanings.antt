-- Which commands a name means, and the name of each.
use Rattle.std.proofs.Common.{◌≡◌, ◌↔◌, ℕ, List, Bool, false, refl, subst, codes}
use Rattle.std.specs.Str.{bytes_eq}
use Rattle.std.proofs.lemmas.Bool.Decides.{not_from_Decides}
use Rattle.std.proofs.lemmas.Slice.Eq.{bytes_eq-Decides}
use Rattle.clap.specs.Words.{Row, Text}
use Rattle.schedules.specs.Schedule.{Plan, schedule_word}
use Rattle.spiral_words.specs.declared.app.OptionName.TheVariants as option
use Rattle.spiral_words.specs.declared.command.Command.{Command}
use Rattle.spiral_words.specs.declared.command.Command.TheVariants.{ByRequest, ByFormula, ByListing, ByList}
use Rattle.spiral_words.specs.declared.command.RequestCommand.TheVariants.{Writes, Runs, Traces, Judges}
use Rattle.spiral_words.specs.declared.command.Document.TheVariants as document
use Rattle.spiral_words.specs.declared.command.FormulaCommand.TheVariants.{Compile, Apply}
use Rattle.spiral_words.specs.declared.command.Order.{Order}
use Rattle.spiral_words.specs.CommandLine.{Names, Options, is_given, text_of}
use Rattle.spiral_words.specs.Asked.{AsksOrder, IsAsked, Means, modulus_word, name_for, seed_word}

named : (name : Text) (rows : List Row) (asked : Command) → Means name rows asked → name ≡ name_for asked
named name rows (ByRequest (Writes document.Plan)) h = h
named name rows (ByRequest (Writes document.Formula)) h = h
named name rows (ByRequest (Writes document.Code)) h = h
named name rows (ByRequest (Writes document.C)) h = h
named name rows (ByRequest (Writes document.Cert)) h = h
named name rows (ByRequest (Writes (document.Sample seed schedule))) h = h.0
named name rows (ByRequest (Runs order)) h = h.0
named name rows (ByRequest (Traces order)) h = h.0
named name rows (ByRequest Judges) h = h
named name rows (ByFormula modulus Compile) h = h.0
named name rows (ByFormula modulus (Apply schedule)) h = h.0
named name rows (ByListing schedule) h = h.0
named name rows (ByList schedule as_code) h = h.0

row_of : (words : List Text) (asked : Command) → IsAsked words asked
    → (options : Options) × Names words (name_for asked) options × Means (name_for asked) options asked
row_of words asked (name, options, found, means) =
    let is = named name options asked means in (
      options,
      subst (λ (n : Text). Names words n options) is found,
      subst (λ (n : Text). Means n options asked) is means,
    )

asked_by : (words : List Text) (asked : Command)
    → (options : Options) × Names words (name_for asked) options × Means (name_for asked) options asked →
    IsAsked words asked
asked_by words asked (options, found, means) = (name_for asked, options, found, means)

pub by_row : (words : List Text) (asked : Command) → IsAsked words asked
    ↔ ((options : Options) × Names words (name_for asked) options × Means (name_for asked) options asked)
by_row words asked = (row_of words asked, asked_by words asked)

other : (name : Text) (rows : List Row) (asked : Command) → bytes_eq name (name_for asked) ≡ false →
    Means name rows asked → ⊥
other name rows asked differs h = not_from_Decides (bytes_eq name (name_for asked)) (bytes_eq-Decides name (name_for asked)) differs (named name rows asked h)

pub plan_only : (rows : List Row) (b : Command) → Means (codes "plan") rows b → b ≡ ByRequest (Writes document.Plan)
plan_only rows (ByRequest (Writes document.Plan)) h = refl
plan_only rows (ByFormula modulus Compile) h = absurd (other (codes "plan") rows (ByFormula modulus Compile) refl h)
plan_only rows b h = absurd (other (codes "plan") rows b refl h)

pub formula_only : (rows : List Row) (b : Command) → Means (codes "formula") rows b →
    b ≡ ByRequest (Writes document.Formula)
formula_only rows (ByRequest (Writes document.Formula)) h = refl
formula_only rows (ByFormula modulus Compile) h = absurd (other (codes "formula") rows (ByFormula modulus Compile) refl h)
formula_only rows b h = absurd (other (codes "formula") rows b refl h)

pub code_only : (rows : List Row) (b : Command) → Means (codes "code") rows b → b ≡ ByRequest (Writes document.Code)
code_only rows (ByRequest (Writes document.Code)) h = refl
code_only rows (ByFormula modulus Compile) h = absurd (other (codes "code") rows (ByFormula modulus Compile) refl h)
code_only rows b h = absurd (other (codes "code") rows b refl h)

pub c_only : (rows : List Row) (b : Command) → Means (codes "c") rows b → b ≡ ByRequest (Writes document.C)
c_only rows (ByRequest (Writes document.C)) h = refl
c_only rows (ByFormula modulus Compile) h = absurd (other (codes "c") rows (ByFormula modulus Compile) refl h)
c_only rows b h = absurd (other (codes "c") rows b refl h)

pub cert_only : (rows : List Row) (b : Command) → Means (codes "cert") rows b → b ≡ ByRequest (Writes document.Cert)
cert_only rows (ByRequest (Writes document.Cert)) h = refl
cert_only rows (ByFormula modulus Compile) h = absurd (other (codes "cert") rows (ByFormula modulus Compile) refl h)
cert_only rows b h = absurd (other (codes "cert") rows b refl h)

pub sample_only : (rows : List Row) (b : Command) → Means (codes "sample") rows b →
    (seed : ℕ) × (schedule : Plan) × (b ≡ ByRequest (Writes (document.Sample seed schedule)))
    × seed_word (text_of option.Seed rows) seed × schedule_word (text_of option.Schedule rows) schedule
sample_only rows (ByRequest (Writes (document.Sample seed schedule))) h = (seed, schedule, refl, h.1, h.2)
sample_only rows (ByFormula modulus Compile) h = absurd (other (codes "sample") rows (ByFormula modulus Compile) refl h)
sample_only rows b h = absurd (other (codes "sample") rows b refl h)

pub run_only : (rows : List Row) (b : Command) → Means (codes "run") rows b →
    (order : Order) × (b ≡ ByRequest (Runs order)) × AsksOrder rows order
run_only rows (ByRequest (Runs order)) h = (order, refl, h.1)
run_only rows (ByRequest (Writes document.Plan)) h = absurd (other (codes "run") rows (ByRequest (Writes document.Plan)) refl h)
run_only rows (ByFormula modulus Compile) h = absurd (other (codes "run") rows (ByFormula modulus Compile) refl h)
run_only rows b h = absurd (other (codes "run") rows b refl h)

pub trace_only : (rows : List Row) (b : Command) → Means (codes "trace") rows b →
    (order : Order) × (b ≡ ByRequest (Traces order)) × AsksOrder rows order
trace_only rows (ByRequest (Traces order)) h = (order, refl, h.1)
trace_only rows (ByRequest (Writes document.Plan)) h = absurd (other (codes "trace") rows (ByRequest (Writes document.Plan)) refl h)
trace_only rows (ByFormula modulus Compile) h = absurd (other (codes "trace") rows (ByFormula modulus Compile) refl h)
trace_only rows b h = absurd (other (codes "trace") rows b refl h)

pub check_only : (rows : List Row) (b : Command) → Means (codes "check") rows b → b ≡ ByRequest Judges
check_only rows (ByRequest Judges) h = refl
check_only rows (ByRequest (Writes document.Plan)) h = absurd (other (codes "check") rows (ByRequest (Writes document.Plan)) refl h)
check_only rows (ByFormula modulus Compile) h = absurd (other (codes "check") rows (ByFormula modulus Compile) refl h)
check_only rows b h = absurd (other (codes "check") rows b refl h)

pub compile_only : (rows : List Row) (b : Command) → Means (codes "compile") rows b →
    (modulus : ℕ) × (b ≡ ByFormula modulus Compile) × modulus_word (text_of option.Modulus rows) modulus
compile_only rows (ByFormula modulus Compile) h = (modulus, refl, h.1)
compile_only rows (ByRequest (Writes document.Plan)) h = absurd (other (codes "compile") rows (ByRequest (Writes document.Plan)) refl h)
compile_only rows b h = absurd (other (codes "compile") rows b refl h)

pub apply_only : (rows : List Row) (b : Command) → Means (codes "apply") rows b →
    (modulus : ℕ) × (schedule : Plan) × (b ≡ ByFormula modulus (Apply schedule))
    × modulus_word (text_of option.Modulus rows) modulus × schedule_word (text_of option.Schedule rows) schedule
apply_only rows (ByFormula modulus (Apply schedule)) h = (modulus, schedule, refl, h.1, h.2)
apply_only rows (ByRequest (Writes document.Plan)) h = absurd (other (codes "apply") rows (ByRequest (Writes document.Plan)) refl h)
apply_only rows b h = absurd (other (codes "apply") rows b refl h)

pub exec_only : (rows : List Row) (b : Command) → Means (codes "exec") rows b →
    (schedule : Plan) × (b ≡ ByListing schedule) × schedule_word (text_of option.Schedule rows) schedule
exec_only rows (ByListing schedule) h = (schedule, refl, h.1)
exec_only rows (ByRequest (Writes document.Plan)) h = absurd (other (codes "exec") rows (ByRequest (Writes document.Plan)) refl h)
exec_only rows (ByFormula modulus Compile) h = absurd (other (codes "exec") rows (ByFormula modulus Compile) refl h)
exec_only rows b h = absurd (other (codes "exec") rows b refl h)

pub convolve_only : (rows : List Row) (b : Command) → Means (codes "convolve") rows b →
    (schedule : Plan) × (as_code : Bool) × (b ≡ ByList schedule as_code)
    × schedule_word (text_of option.Schedule rows) schedule × (as_code ≡ is_given option.Code rows)
convolve_only rows (ByList schedule as_code) h = (schedule, as_code, refl, h.1, h.2)
convolve_only rows (ByRequest (Writes document.Plan)) h = absurd (other (codes "convolve") rows (ByRequest (Writes document.Plan)) refl h)
convolve_only rows (ByFormula modulus Compile) h = absurd (other (codes "convolve") rows (ByFormula modulus Compile) refl h)
convolve_only rows b h = absurd (other (codes "convolve") rows b refl h)
