-- What the words of a command line ask for.
use Rattle.std.specs.Prelude.{◌≡◌, ◌⊎◌, ℕ, Bool, true, false, List, Option, Some, None, codes, option_map}
use Rattle.std.specs.Prelude.{◌||◌, if◌then◌else◌}
use Rattle.std.specs.Option.{option_map_or}
use Rattle.std.specs.Str.{bytes_eq}
use Rattle.clap.specs.Words.{Row, Text, fault_of, first_of, matches_of}
use Rattle.clap.specs.Walk.{is_empty}
use Rattle.word_code.specs.declared.laziness.WordSize.{WordSize}
use Rattle.word_code.specs.declared.laziness.WordSize.TheVariants.{Of16, Of32, Of52, Of64}
use Rattle.fast_text.specs.TextForm.{TextForm, with_arrays, named_function, named_header, named_product}
use Rattle.fast_text.specs.TextForm.{named_product_header}
use Rattle.fast_main.specs.Options.CommandLine.{fast_app}
use Rattle.fast_main.specs.Options.Names.{is_free_name}

-- ---- words of a size

abbrev pub size_named : Text → Option WordSize
size_named word =
    if bytes_eq word (codes "16") then Some Of16
    else (if bytes_eq word (codes "32") then Some Of32
    else (if bytes_eq word (codes "52") then Some Of52
    else (if bytes_eq word (codes "64") then Some Of64 else None)))

-- without the option no size is asked for
abbrev pub size_in : List Row → Option (Option WordSize)
size_in rows = option_map_or (λ word. option_map Some (size_named word)) (first_of (codes "words") rows) (Some None)

-- ---- lanes

abbrev pub lanes_named : Text → Option ℕ
lanes_named word =
    if bytes_eq word (codes "2") then Some 2
    else (if bytes_eq word (codes "4") then Some 4
    else (if bytes_eq word (codes "8") then Some 8
    else (if bytes_eq word (codes "16") then Some 16 else None)))

-- one, or one of these
abbrev pub IsLaneCount : ℕ → Type 0
IsLaneCount lanes = (lanes ≡ 1) ⊎ ((lanes ≡ 2) ⊎ (lanes ≡ 4) ⊎ (lanes ≡ 8) ⊎ (lanes ≡ 16))

-- without the option one
abbrev pub lanes_in : List Row → Option ℕ
lanes_in rows = option_map_or lanes_named (first_of (codes "lanes") rows) (Some 1)

-- ---- which text

-- the option without a value is given
abbrev pub is_given : Text → List Row → Bool
is_given name rows = option_map_or (λ word. bytes_eq word (codes "true")) (first_of name rows) false

-- a function of this name, or its header; or the product of its vectors, or the header of that
abbrev pub named_form : Bool → Bool → Text → TextForm
named_form false false name = named_function name
named_form true false name = named_header name
named_form false true name = named_product name
named_form true true name = named_product_header name

-- a name that is free is a function's; without one there are arrays, and neither a header nor a product
abbrev pub form_by : Bool → Bool → Option Text → Option TextForm
form_by wants_header wants_product (Some name) =
    if is_free_name name then Some (named_form wants_header wants_product name) else None
form_by wants_header wants_product None = if wants_header || wants_product then None else Some with_arrays

abbrev pub form_in : List Row → Option TextForm
form_in rows =
    form_by (is_given (codes "header") rows) (is_given (codes "times") rows) (first_of (codes "name") rows)

-- ---- all of it

-- words of which size, if of one, how many lanes, and which text
pub record Asked : Type 0 where
  pub size : Option WordSize
  pub lanes : ℕ
  pub form : TextForm

abbrev pub together : Option (Option WordSize) → Option ℕ → Option TextForm → Option Asked
together (Some size) (Some lanes) (Some form) = Some (record { size = size; lanes = lanes; form = form })
together _ _ _ = None

-- What the words ask for, the program's name first: what clap finds in them. They ask for nothing where clap refuses them.
abbrev pub asked : List Text → Option Asked
asked words =
    if is_empty (fault_of fast_app words) then (let rows = matches_of fast_app words in together (size_in rows) (lanes_in rows) (form_in rows)) else None
