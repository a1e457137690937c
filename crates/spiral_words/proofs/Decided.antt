-- Words ask for a command, or are refused.
use Rattle.std.proofs.Common.{◌≡◌, ◌⊎◌, ◌↔◌, ℕ, ◌^◌, List, [], ◌∷◌, Bool, true, false, Some, Result, Ok, Err, refl, sym}
use Rattle.std.proofs.Common.{subst, ◌∙◌, codes, inl, inr, arith}
use Rattle.std.proofs.lemmas.Bool.{cases_lt}
use Rattle.std.specs.List.{Any}
use Rattle.clap.specs.Words.{Row, Text, fault_of}
use Rattle.clap.specs.Walk.{is_empty}
use Rattle.grammar.specs.Grammar.{Judges, number}
use Rattle.schedules.specs.Mix.{mix_word}
use Rattle.schedules.specs.Schedule.{schedule_word}
use Rattle.schedules.proofs.MixWord.{mix_judges}
use Rattle.schedules.proofs.ScheduleWord.{word_judges}
use Rattle.spiral_words.proofs.NumberWord.{seed_judges, small_judges, modulus_read, modulus_small}
use Rattle.spiral_words.specs.declared.app.OptionName.{OptionName}
use Rattle.spiral_words.specs.declared.app.OptionName.TheVariants as option
use Rattle.spiral_words.specs.declared.command.Command.{Command}
use Rattle.spiral_words.specs.declared.command.Command.TheVariants.{ByRequest, ByFormula, ByListing, ByList}
use Rattle.spiral_words.specs.declared.command.RequestCommand.TheVariants.{Writes, Runs, Traces}
use Rattle.spiral_words.specs.declared.command.RequestCommand.TheVariants as request
use Rattle.spiral_words.specs.declared.command.Document.TheVariants as document
use Rattle.spiral_words.specs.declared.command.FormulaCommand.TheVariants.{Compile, Apply}
use Rattle.spiral_words.specs.declared.command.Order.{Order}
use Rattle.spiral_words.specs.declared.command.Order.TheVariants as order
use Rattle.spiral_words.specs.CommandLine.{commands, is_given, spiral_app, text_of}
use Rattle.spiral_words.specs.Asked.{IsAsked, IsUsage, Means, SpellsOrder, modulus_word, seed_word}
use Rattle.spiral_words.specs.Refused.{HasOtherText, IsNoOrder, IsOther, IsRefused}
use Rattle.spiral_words.proofs.Each.{Each, any_here, any_later, both}
use Rattle.spiral_words.proofs.Nothing.{other_means_nothing}
use Rattle.spiral_words.proofs.Refused.{refused_nothing}
use Rattle.spiral_words.proofs.Usage.{IsKnown, takes_known}

-- the text spells a value, or none
abbrev IsSpelt : {A : Type 0} → (List ℕ → A → Type 0) → List ℕ → Type 0
IsSpelt {A} spells text = ((value : A) × spells text value) ⊎ ((value : A) → spells text value → ⊥)

spelt_or_not : {A : Type 0} (spells : List ℕ → A → Type 0) (text : List ℕ) (read : Result A ℕ) →
    Judges spells text read → IsSpelt spells text
spelt_or_not spells text (Ok value) judges = inl (value, judges.0)
spelt_or_not spells text (Err left) judges = inr judges.1.nothing

schedule_or_not : (word : List ℕ) → IsSpelt schedule_word word
schedule_or_not word = spelt_or_not schedule_word word _ (word_judges word _ refl)

seed_or_not : (word : List ℕ) → IsSpelt seed_word word
seed_or_not word = spelt_or_not seed_word word _ (seed_judges word _ refl)

modulus_by : (word : List ℕ) (read : Result ℕ ℕ) → Judges (number (2 ^ 62)) word read → IsSpelt modulus_word word
modulus_by word (Ok n) judges = elim (cases_lt n 2) [
  | inl few ↦ inr (modulus_small word n judges (λ enough. omega arith))
  | inr enough ↦ inl (n, modulus_read word n n judges refl enough)
]
modulus_by word (Err left) judges = inr (λ m spelt. judges.1.nothing m spelt.0)

modulus_or_not : (word : List ℕ) → IsSpelt modulus_word word
modulus_or_not word = modulus_by word _ (small_judges word _ refl)

order_or_not : (buffers : Bool) (word : List ℕ) → ((order : Order) × SpellsOrder buffers word order)
    ⊎ IsNoOrder buffers word
order_or_not false word = elim (schedule_or_not word) [ inl plan ↦ inl (order.Turns plan.0, plan.1) | inr none ↦ inr none ]
order_or_not true word = elim (schedule_or_not word) [
  | inl plan ↦ inl (order.Buffered plan.0, plan.1)
  | inr none ↦ elim (spelt_or_not mix_word word _ (mix_judges word _ refl)) [
    | inl events ↦ inl (order.Mixed events.0, events.1)
    | inr other ↦ inr (none, other)
  ]
]

-- a row's name and options mean a command, or an option's text is outside its grammar
abbrev Meant : List Row → Text × List OptionName → Type 0
Meant rows row = ((asked : Command) × Means row.0 rows asked) ⊎ Any (IsOther row.1 rows) row.1

ordered : (rows : List Row) (name : Text) (command : Order → Command)
    → ((order : Order) → SpellsOrder (is_given option.Buffers rows) (text_of option.Schedule rows) order →
    Means name rows (command order))
    → Meant rows (name, option.Schedule ∷ option.Buffers ∷ [])
ordered rows name command means = elim (order_or_not (is_given option.Buffers rows) (text_of option.Schedule rows)) [
  | inl o ↦ inl (command o.0, means o.0 o.1)
  | inr none ↦ inr (any_here (IsOther (option.Schedule ∷ option.Buffers ∷ []) rows) option.Schedule (option.Buffers ∷ []) none)
]

sampled : (rows : List Row) → Meant rows (codes "sample", option.Seed ∷ option.Schedule ∷ [])
sampled rows = elim (seed_or_not (text_of option.Seed rows)) [
  | inr none ↦ inr (any_here (IsOther (option.Seed ∷ option.Schedule ∷ []) rows) option.Seed (option.Schedule ∷ []) none)
  | inl s ↦ elim (schedule_or_not (text_of option.Schedule rows)) [
    | inl plan ↦ inl (ByRequest (Writes (document.Sample s.0 plan.0)), (refl, s.1, plan.1))
    | inr none ↦ inr (any_later (IsOther (option.Seed ∷ option.Schedule ∷ []) rows) option.Seed (option.Schedule ∷ [])
        (any_here (IsOther (option.Seed ∷ option.Schedule ∷ []) rows) option.Schedule [] none))
  ]
]

compiled : (rows : List Row) → Meant rows (codes "compile", option.Modulus ∷ [])
compiled rows = elim (modulus_or_not (text_of option.Modulus rows)) [
  | inl m ↦ inl (ByFormula m.0 Compile, (refl, m.1))
  | inr none ↦ inr (any_here (IsOther (option.Modulus ∷ []) rows) option.Modulus [] none)
]

applied : (rows : List Row) → Meant rows (codes "apply", option.Modulus ∷ option.Schedule ∷ [])
applied rows = elim (modulus_or_not (text_of option.Modulus rows)) [
  | inr none ↦ inr (any_here (IsOther (option.Modulus ∷ option.Schedule ∷ []) rows) option.Modulus (option.Schedule ∷ []) none)
  | inl m ↦ elim (schedule_or_not (text_of option.Schedule rows)) [
    | inl plan ↦ inl (ByFormula m.0 (Apply plan.0), (refl, m.1, plan.1))
    | inr none ↦ inr (any_later (IsOther (option.Modulus ∷ option.Schedule ∷ []) rows) option.Modulus (option.Schedule ∷ [])
        (any_here (IsOther (option.Modulus ∷ option.Schedule ∷ []) rows) option.Schedule [] none))
  ]
]

listed : (rows : List Row) → Meant rows (codes "exec", option.Schedule ∷ [])
listed rows = elim (schedule_or_not (text_of option.Schedule rows)) [
  | inl plan ↦ inl (ByListing plan.0, (refl, plan.1))
  | inr none ↦ inr (any_here (IsOther (option.Schedule ∷ []) rows) option.Schedule [] none)
]

convolved : (rows : List Row) → Meant rows (codes "convolve", option.Schedule ∷ option.Code ∷ [])
convolved rows = elim (schedule_or_not (text_of option.Schedule rows)) [
  | inl plan ↦ inl (ByList plan.0 (is_given option.Code rows), (refl, plan.1, refl))
  | inr none ↦ inr (any_here (IsOther (option.Schedule ∷ option.Code ∷ []) rows) option.Schedule (option.Code ∷ []) none)
]

meant : (rows : List Row) → Each (Meant rows) commands
meant rows = (
  inl (ByRequest (Writes document.Plan), refl),
  (
    inl (ByRequest (Writes document.Formula), refl),
    (
      inl (ByRequest (Writes document.Code), refl),
      (
        inl (ByRequest (Writes document.C), refl),
        (
          ordered rows (codes "run") (λ order. ByRequest (Runs order)) (λ order h. (refl, h)),
          (
            ordered rows (codes "trace") (λ order. ByRequest (Traces order)) (λ order h. (refl, h)),
            (
              inl (ByRequest (Writes document.Cert), refl),
              (
                inl (ByRequest request.Judges, refl),
                (
                  sampled rows,
                  (
                    compiled rows,
                    (
                      applied rows,
                      (
                        listed rows,
                        (
                          convolved rows,
                          tt,
                        ),
                      ),
                    ),
                  ),
                ),
              ),
            ),
          ),
        ),
      ),
    ),
  ),
)

meant_or_other : (name : Text) (rows : List Row) → IsKnown name →
    ((asked : Command) × Means name rows asked) ⊎ HasOtherText name rows
meant_or_other name rows known =
    let found = both (Meant rows) (λ row. row.0 ≡ name) commands (meant rows) known in
    elim found.4.0 [
      | inl asked ↦ inl (asked.0, subst (λ n. Means n rows asked.0) found.4.1 asked.1)
      | inr other ↦ inr (found.0, found.1, found.2, found.3, (found.4.1, other))
    ]

asked_or_refused : (words : List Text) → ((asked : Command) × IsAsked words asked) ⊎ IsRefused words
asked_or_refused words = at (is_empty (fault_of spiral_app words)) refl
  where
    at : (b : Bool) → is_empty (fault_of spiral_app words) ≡ b →
        ((asked : Command) × IsAsked words asked) ⊎ IsRefused words
    at false is = inr (inl is)
    at true is =
        let found = takes_known words is in
        elim (meant_or_other found.0 found.1 found.3) [
          | inl asked ↦ inl (asked.0, (found.0, found.1, found.2, asked.1))
          | inr other ↦ inr (inr (found.0, found.1, found.2, other))
        ]

pub some_same : {A : Type 0} (a b : A) → Some a ≡ Some b → a ≡ b
some_same a b e = cc

refused_usage : (words : List Text) → IsRefused words → IsUsage words
refused_usage words (inl fault) asked (name, rows, found, means) = absurd (let none = refused_nothing words fault in cc)
refused_usage words (inr (name, rows, found, other)) asked (n, r, is, means) =
    let same : (n, r) ≡ (name, rows) = some_same (n, r) (name, rows) (sym is ∙ found) in
    other_means_nothing name rows other asked (subst (λ (t : Text × List Row). Means t.0 t.1 asked) same means)

usage_refused : (words : List Text) → IsUsage words → IsRefused words
usage_refused words usage = elim (asked_or_refused words) [ inl asked ↦ absurd (usage asked.0 asked.1) | inr refused ↦ refused ]

pub usage_or_refusal : (words : List Text) → IsUsage words ↔ IsRefused words
usage_or_refusal words = (usage_refused words, refused_usage words)

pub asked_or_usage : (words : List Text) → ((asked : Command) × IsAsked words asked) ⊎ IsUsage words
asked_or_usage words = elim (asked_or_refused words) [ inl asked ↦ inl asked | inr refused ↦ inr (refused_usage words refused) ]
