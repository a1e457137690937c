-- Names and options that mean nothing.
use Rattle.std.proofs.Common.{◌≡◌, List, [], ◌∷◌, Bool, true, false, codes, subst, inl, inr}
use Rattle.std.specs.List.{Any}
use Rattle.clap.specs.Words.{Row, Text}
use Rattle.spiral_words.specs.declared.app.OptionName.{OptionName}
use Rattle.spiral_words.specs.declared.app.OptionName.TheVariants.{Schedule, Seed, Modulus, Buffers, Code}
use Rattle.spiral_words.specs.declared.command.Order.{Order}
use Rattle.spiral_words.specs.declared.command.Order.TheVariants as order
use Rattle.spiral_words.specs.CommandLine.{commands, text_of}
use Rattle.spiral_words.specs.Asked.{SpellsOrder}
use Rattle.spiral_words.specs.Refused.{AsksNoOrder, HasOtherText, IsNoModulus, IsNoOrder, IsNoSchedule, IsNoSeed}
use Rattle.spiral_words.specs.Refused.{IsOther, MeansNothing}
use Rattle.spiral_words.proofs.Each.{Each, any_none, any_split, both}
use Rattle.spiral_words.proofs.Meanings.{sample_only, run_only, trace_only, compile_only, apply_only, exec_only}
use Rattle.spiral_words.proofs.Meanings.{convolve_only}

no_order : (buffers : Bool) (word : Text) (order : Order) → IsNoOrder buffers word → SpellsOrder buffers word order → ⊥
no_order false word (order.Turns schedule) none spells = none schedule spells
no_order false word (order.Buffered schedule) none spells = spells
no_order false word (order.Mixed events) none spells = spells
no_order true word (order.Turns schedule) none spells = spells
no_order true word (order.Buffered schedule) none spells = none.0 schedule spells
no_order true word (order.Mixed events) none spells = none.1 events spells

pub run_nothing : (rows : List Row) → AsksNoOrder rows → MeansNothing (codes "run") rows
run_nothing rows none asked means = let r = run_only rows asked means in no_order _ _ r.0 none r.2

pub trace_nothing : (rows : List Row) → AsksNoOrder rows → MeansNothing (codes "trace") rows
trace_nothing rows none asked means = let r = trace_only rows asked means in no_order _ _ r.0 none r.2

pub sample_no_seed : (rows : List Row) → IsNoSeed (text_of Seed rows) → MeansNothing (codes "sample") rows
sample_no_seed rows none asked means = let r = sample_only rows asked means in none r.0 r.3

pub sample_no_schedule : (rows : List Row) → IsNoSchedule (text_of Schedule rows) → MeansNothing (codes "sample") rows
sample_no_schedule rows none asked means = let r = sample_only rows asked means in none r.1 r.4

pub compile_nothing : (rows : List Row) → IsNoModulus (text_of Modulus rows) → MeansNothing (codes "compile") rows
compile_nothing rows none asked means = let r = compile_only rows asked means in none r.0 r.2

pub apply_no_modulus : (rows : List Row) → IsNoModulus (text_of Modulus rows) → MeansNothing (codes "apply") rows
apply_no_modulus rows none asked means = let r = apply_only rows asked means in none r.0 r.3

pub apply_no_schedule : (rows : List Row) → IsNoSchedule (text_of Schedule rows) → MeansNothing (codes "apply") rows
apply_no_schedule rows none asked means = let r = apply_only rows asked means in none r.1 r.4

pub exec_nothing : (rows : List Row) → IsNoSchedule (text_of Schedule rows) → MeansNothing (codes "exec") rows
exec_nothing rows none asked means = let r = exec_only rows asked means in none r.0 r.2

pub convolve_nothing : (rows : List Row) → IsNoSchedule (text_of Schedule rows) → MeansNothing (codes "convolve") rows
convolve_nothing rows none asked means = let r = convolve_only rows asked means in none r.0 r.3

-- ---- each command of the table

abbrev Stops : List Row → Text × List OptionName → Type 0
Stops rows row = Any (IsOther row.1 rows) row.1 → MeansNothing row.0 rows

bare : (rows : List Row) (name : Text) → Any (IsOther [] rows) [] → MeansNothing name rows
bare rows name h = absurd (any_none (IsOther [] rows) h)

one : (options : List OptionName) (rows : List Row) (a : OptionName) (P : Type 0) → (IsOther options rows a → P) →
    Any (IsOther options rows) (a ∷ []) → P
one options rows a P left h = elim (any_split (IsOther options rows) a [] h) [ inl here ↦ left here | inr none ↦ absurd (any_none (IsOther options rows) none) ]

two : (options : List OptionName) (rows : List Row) (a b : OptionName) (P : Type 0) → (IsOther options rows a → P) →
    (IsOther options rows b → P) → Any (IsOther options rows) (a ∷ b ∷ []) → P
two options rows a b P left right h = elim (any_split (IsOther options rows) a (b ∷ []) h) [ inl here ↦ left here | inr later ↦ one options rows b P right later ]

stops : (rows : List Row) → Each (Stops rows) commands
stops rows = (
  bare rows (codes "plan"),
  (
    bare rows (codes "formula"),
    (
      bare rows (codes "code"),
      (
        bare rows (codes "c"),
        (
          two (Schedule ∷ Buffers ∷ []) rows Schedule Buffers (MeansNothing (codes "run") rows) (run_nothing rows) (λ none. absurd none),
          (
            two (Schedule ∷ Buffers ∷ []) rows Schedule Buffers (MeansNothing (codes "trace") rows) (trace_nothing rows) (λ none. absurd none),
            (
              bare rows (codes "cert"),
              (
                bare rows (codes "check"),
                (
                  two (Seed ∷ Schedule ∷ []) rows Seed Schedule (MeansNothing (codes "sample") rows) (sample_no_seed rows) (sample_no_schedule rows),
                  (
                    one (Modulus ∷ []) rows Modulus (MeansNothing (codes "compile") rows) (compile_nothing rows),
                    (
                      two (Modulus ∷ Schedule ∷ []) rows Modulus Schedule (MeansNothing (codes "apply") rows) (apply_no_modulus rows) (apply_no_schedule rows),
                      (
                        one (Schedule ∷ []) rows Schedule (MeansNothing (codes "exec") rows) (exec_nothing rows),
                        (
                          two (Schedule ∷ Code ∷ []) rows Schedule Code (MeansNothing (codes "convolve") rows) (convolve_nothing rows) (λ none. absurd none),
                          tt,
                        ),
                      ),
                    ),
                  ),
                ),
              ),
            ),
          ),
        ),
      ),
    ),
  ),
)

pub other_means_nothing : (name : Text) (rows : List Row) → HasOtherText name rows → MeansNothing name rows
other_means_nothing name rows other =
    let found = both (Stops rows) (λ row. (row.0 ≡ name) × Any (IsOther row.1 rows) row.1) commands (stops rows) other in
    subst (λ n. MeansNothing n rows) found.4.1.0 (found.4.0 found.4.1.1)
