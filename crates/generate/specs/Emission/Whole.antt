-- The program of a request and its tree by the rules of emission, and that of a convolution.
use Rattle.std.specs.Prelude.{ℕ, List, [], ◌∷◌, ◌++◌, if◌then◌else◌}
use Rattle.icode.specs.Plain.{PlainProgram}
use Rattle.matrix_meaning.specs.Parts.{forward_of, inverted}
use Rattle.matrix_meaning.specs.declared.Kind.{Kind}
use Rattle.matrix_meaning.specs.declared.Kind.TheVariants.{Idft}
use Rattle.matrix_meaning.specs.declared.Request.{Request}
use Rattle.ring_mod.specs.Inverse.{inverse_mod}
use Rattle.tree_model.specs.Breakdown.{Breakdown}
use Rattle.tree_model.specs.Cost.{is_plain}
use Rattle.generate.specs.Emission.Passes.{Factors, Pass, Site, entries, none, number, passes, site_by, values}
use Rattle.generate.specs.Emission.Places.{same}
use Rattle.generate.specs.Emission.Program.{program_in}
use Rattle.generate.specs.Emission.Root.{root_phases}
use Rattle.generate.specs.Factors.{factors_of}

-- the whole, whose words are multiplied by these factors at the end
abbrev pub whole_site : Factors → Site
whole_site factors = site_by [] same factors same

abbrev pub phases_of : Request → Factors → Breakdown → List (List Pass)
phases_of c factors t = if is_plain c then passes c (whole_site factors) t ∷ [] else root_phases c factors t

-- an inverse is divided by its size
abbrev pub closing_factors : Kind → Request → Factors
closing_factors Idft c = number (inverse_mod c.modulus c.size)
closing_factors kind c = none

abbrev pub emission : Request → Breakdown → PlainProgram
emission c t = program_in c (phases_of (forward_of c) (closing_factors c.kind c) t)

-- a convolution with h: the passes of the transform, of which the last one multiplies by the diagonal of h, and those
-- of the inverse
abbrev pub conv_emission : Request → Breakdown → List ℕ → PlainProgram
conv_emission c t h =
    let first = passes c (whole_site (entries (values (factors_of c h)) same)) t in
    program_in c ((first ++ passes (inverted c) (whole_site none) t) ∷ [])
