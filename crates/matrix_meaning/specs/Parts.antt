-- The requests that a request is made of: one for each dimension, or for an inverse the one with the inverse root.
use Rattle.std.specs.Prelude.{ℕ, ◌*◌, ◌==◌, if◌then◌else◌, List, [], ◌∷◌, map, Option, Some, None}
use Rattle.ring_mod.specs.Residue.{power_mod}
use Rattle.matrix_meaning.specs.declared.Dimension.{Dimension}
use Rattle.matrix_meaning.specs.declared.Dimensions.{Dimensions}
use Rattle.matrix_meaning.specs.declared.Dimensions.TheVariants.{One, Two, Three, Four}
use Rattle.matrix_meaning.specs.declared.Kind.{Kind}
use Rattle.matrix_meaning.specs.declared.Kind.TheVariants.{Dft, Wht, Idft}
use Rattle.matrix_meaning.specs.declared.Request.{Request}
use Rattle.matrix_meaning.specs.Dimensions.{dims_by}
use Rattle.matrix_meaning.specs.Kind.{inverse_root}

-- the request for one of the dimensions, on one processor and one lane
abbrev pub part_of : Request → Dimension → Request
part_of r d = record r { kind = Dft; size = d.size; root = d.root; dimensions = One; procs = 1; line = 1; lanes = 1 }

-- the request for dimensions of n words together, on one processor and one lane; 1 stands in place of a root
abbrev pub together : Request → ℕ → Dimensions → Request
together r n ds = record r { kind = Dft; size = n; root = 1; dimensions = ds; procs = 1; line = 1; lanes = 1 }

abbrev pub first_in : Request → Dimensions → Request
first_in r One = r
first_in r (Two a b) = part_of r a
first_in r (Three a b c) = part_of r a
first_in r (Four a b c d) = part_of r a

abbrev pub rest_in : Request → Dimensions → Request
rest_in r One = r
rest_in r (Two a b) = part_of r b
rest_in r (Three a b c) = together r (b.size * c.size) (Two b c)
rest_in r (Four a b c d) = together r (b.size * (c.size * d.size)) (Three b c d)

-- the request for the first of several dimensions
abbrev pub first_of : Request → Request
first_of r = first_in r r.dimensions

-- the request for the dimensions after the first
abbrev pub rest_of : Request → Request
rest_of r = rest_in r r.dimensions

abbrev pub parts_in : Request → Dimensions → List Request
parts_in r One = r ∷ []
parts_in r ds = map (part_of r) (dims_by r.size r.root ds)

-- the requests for the dimensions, one for each; of one size the request itself
abbrev pub parts_of : Request → List Request
parts_of r = parts_in r r.dimensions

-- the request for the Fourier transform by the inverse root
abbrev pub inverted : Request → Request
inverted r = record r { kind = Dft; root = inverse_root r.modulus r.size r.root }

abbrev pub forward_by : Kind → Request → Request
forward_by Idft r = inverted r
forward_by kind r = r

-- the request whose trees the request has
abbrev pub forward_of : Request → Request
forward_of r = forward_by r.kind r

-- the root to the power of the size
abbrev pub root_power : Request → ℕ
root_power r = power_mod r.modulus r.root r.size

-- the first of these powers that is not 1
abbrev pub first_bad : List Request → Option ℕ
first_bad [] = None
first_bad (p ∷ ps) = if root_power p == 1 then first_bad ps else Some (root_power p)

abbrev pub bad_power_by : Kind → Request → Option ℕ
bad_power_by Wht r = None
bad_power_by kind r = first_bad (parts_of r)

-- the first root that is no root of its size: its power
abbrev pub bad_power : Request → Option ℕ
bad_power r = bad_power_by r.kind r
