-- What is right for `convolve`.
use Rattle.std.specs.Prelude.{◌≡◌, ℕ, Bool, true, false, List}
use Rattle.generate.specs.Emission.Whole.{conv_emission}
use Rattle.listing_text.specs.Listing.{listing_of}
use Rattle.matrix_meaning.specs.Convolution.{convolution}
use Rattle.schedules.specs.Schedule.{Plan as Turns}
use Rattle.schedules.specs.Turns.{named}
use Rattle.runs.specs.Stream.{lines}
use Rattle.commands.specs.Input.Outcomes.{Outcomes}
use Rattle.commands.specs.Equations.Convolutions.{conv_planned}
use Rattle.commands.specs.Equations.Front.{Answer, Work, line, answered, by_front}
use Rattle.commands.specs.Equations.Orders.{Planned}
use Rattle.commands.specs.Equations.Works.{a_first, the_first, by_first, mapped_by, mapping}

-- the first vector is h. A line for each later one, of its convolution with h
abbrev pub IsConvolveText : Planned → List (List ℕ) → List ℕ → Type 0
IsConvolveText plan =
    by_first (λ h later text. text ≡ lines (convolution plan.request.modulus plan.request.size h) later)

abbrev pub convolve_answer : Turns → Answer
convolve_answer schedule = answered (line 256) (conv_planned (named schedule))
    (λ (plan : Planned). mapped_by a_first plan.request.size plan.request.modulus (IsConvolveText plan))

abbrev pub convolve_work : Planned → Work
convolve_work plan = mapping a_first plan.request.size plan.request.modulus (IsConvolveText plan)

abbrev pub convolve_outcomes : Turns → Outcomes
convolve_outcomes schedule = by_front (line 256) (conv_planned (named schedule)) convolve_work

-- with `--code`: the listing of the program that convolves with h
abbrev pub IsConvolverText : Planned → List (List ℕ) → List ℕ → Type 0
IsConvolverText plan = by_first (λ h later text. text ≡ listing_of (conv_emission plan.request plan.tree h))

abbrev pub convolver_answer : Turns → Answer
convolver_answer schedule = answered (line 256) (conv_planned (named schedule))
    (λ (plan : Planned). mapped_by the_first plan.request.size plan.request.modulus (IsConvolverText plan))

abbrev pub convolver_work : Planned → Work
convolver_work plan = mapping the_first plan.request.size plan.request.modulus (IsConvolverText plan)

abbrev pub convolver_outcomes : Turns → Outcomes
convolver_outcomes schedule = by_front (line 256) (conv_planned (named schedule)) convolver_work

abbrev pub outcomes_by_list : Turns → Bool → Outcomes
outcomes_by_list schedule false = convolve_outcomes schedule
outcomes_by_list schedule true = convolver_outcomes schedule
