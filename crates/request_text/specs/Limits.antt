-- The first fault of a request.
use Rattle.std.specs.Prelude.{ℕ, zero, suc, ◌*◌, ◌-◌, ◌^◌, ◌%◌, ◌==◌, ◌&&◌, nat_le, nat_lt, List, [], ◌∷◌, Result, Ok, Err, if◌then◌else◌}
use Rattle.std.specs.Int.{is_power_of_two}
use Rattle.matrix_meaning.specs.declared.Dimension.{Dimension}
use Rattle.matrix_meaning.specs.declared.Kind.{Kind}
use Rattle.matrix_meaning.specs.declared.Kind.TheVariants.{Wht, Idft}
use Rattle.matrix_meaning.specs.declared.Request.{Request}
use Rattle.matrix_meaning.specs.Dimensions.{dims_of}
use Rattle.operators.specs.Sizes.{max_size}
use Rattle.request_text.specs.declared.fault.Field.{Field}
use Rattle.request_text.specs.declared.fault.Field.TheVariants.{Size, Mod, Root, Procs, Line, Lanes, Unroll, Budget, Weight}
use Rattle.request_text.specs.declared.fault.RequestFault.{RequestFault}
use Rattle.request_text.specs.declared.fault.RequestFault.TheVariants.{Range, Shape, LanesLine, NotUnit}

infixl 10 ◌>>◌
abbrev pub ◌>>◌ : {A B : Type 0} → Result A RequestFault → Result B RequestFault → Result B RequestFault
(Ok x) >> next = next
(Err fault) >> next = Err fault

-- The least and the greatest value of each field. Each of several sizes is from 2 on, and a root is below the modulus
abbrev pub limits : Field → ℕ × ℕ
limits Size = (1, max_size)
limits Mod = (2, 2 ^ 62 - 1)
limits Root = (0, 2 ^ 62 - 2)
limits Procs = (1, 16)
limits Line = (1, 64)
limits Lanes = (1, 16)
limits Unroll = (2, 64)
limits Budget = (1, 1000000000000)
limits Weight = (1, 1000)

-- the value of the field is from low to high
abbrev pub between : Field → ℕ → ℕ → ℕ → Result (Unit {0}) RequestFault
between field value low high = if nat_le low value && nat_le value high then Ok tt else Err (Range field value)

-- it is within the limits of the field
abbrev pub within : Field → ℕ → Result (Unit {0}) RequestFault
within field value = between field value (limits field).0 (limits field).1

abbrev pub below : Field → ℕ → ℕ → Result (Unit {0}) RequestFault
below field value limit = if nat_lt value limit then Ok tt else Err (Range field value)

-- each size is within the limits of one of several
abbrev pub sizes_within : List Dimension → Result (Unit {0}) RequestFault
sizes_within [] = Ok tt
sizes_within (d ∷ others) = between Size d.size 2 max_size >> sizes_within others

-- So is each product of a front of the sizes, times what is before them; the last of these products
abbrev pub products_within : ℕ → List Dimension → Result ℕ RequestFault
products_within before [] = Ok before
products_within before (d ∷ others) =
    between Size (before * d.size) 2 max_size >> products_within (before * d.size) others

-- the product of the sizes, which are within their limits: one size from 1 on, several from 2 on
abbrev pub sized : List Dimension → Result ℕ RequestFault
sized [] = Ok 1
sized (d ∷ []) = within Size d.size >> Ok d.size
sized (d ∷ e ∷ others) = sizes_within (d ∷ e ∷ others) >> products_within 1 (d ∷ e ∷ others)

-- each root is below the modulus
abbrev pub roots_below : ℕ → List Dimension → Result (Unit {0}) RequestFault
roots_below modulus [] = Ok tt
roots_below modulus (d ∷ others) = below Root d.root modulus >> roots_below modulus others

abbrev pub shaped : Kind → ℕ → Result (Unit {0}) RequestFault
shaped Wht size = if is_power_of_two size then Ok tt else Err (Shape size)
shaped kind size = Ok tt

abbrev pub divided : ℕ → ℕ → ℕ → Result (Unit {0}) RequestFault
divided procs line lanes =
    if nat_le procs 1 then Ok tt else (if line % lanes == 0 then Ok tt else Err (LanesLine lanes line))

-- the greatest of the numbers up to n that divide a and b
unfoldable pub common_factor_to : ℕ → ℕ → ℕ → ℕ
common_factor_to a b zero = 0
common_factor_to a b (suc n) = if a % suc n == 0 && b % suc n == 0 then suc n else common_factor_to a b n

-- the greatest number that divides a, which is not 0, and b
unfoldable pub common_factor : ℕ → ℕ → ℕ
common_factor a b = common_factor_to a b a

-- size and modulus share no factor
abbrev pub coprime : ℕ → ℕ → Result (Unit {0}) RequestFault
coprime size modulus = if common_factor size modulus == 1 then Ok tt else Err (NotUnit (common_factor size modulus))

-- an inverse divides by the size
abbrev pub divisible : Kind → ℕ → ℕ → Result (Unit {0}) RequestFault
divisible Idft size modulus = coprime size modulus
divisible kind size modulus = Ok tt

-- The first limit that the request misses, its sizes aside: the first field in order that is out of its limits, then
-- its shape, then its lanes and line, then the factor that size and modulus share
unfoldable pub limited : Request → Result (Unit {0}) RequestFault
limited r = do
  within Mod r.modulus
  roots_below r.modulus (dims_of r)
  within Procs r.procs
  within Line r.line
  within Lanes r.lanes
  within Unroll r.unroll
  within Budget r.budget
  within Weight r.weight
  shaped r.kind r.size
  divided r.procs r.line r.lanes
  divisible r.kind r.size r.modulus

-- the first limit that it misses: its sizes come before all others
abbrev pub tested : Request → Result (Unit {0}) RequestFault
tested r = sized (dims_of r) >> limited r

-- the request, or its first fault
abbrev pub judged : Request → Result Request RequestFault
judged r = tested r >> Ok r

-- the same of a convolution, which divides by its size too
abbrev pub judged_conv : Request → Result Request RequestFault
judged_conv r = tested r >> (coprime r.size r.modulus >> Ok r)
