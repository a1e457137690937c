-- What a text spells, and what is answered for it, is one. What has no fault is in range, by the table of limits.
use Rattle.std.specs.Prelude.{◌≡◌, ◌↔◌, ◌%◌, ◌<◌, ℕ, List, Result, Ok}
use Rattle.matrix_meaning.specs.Valid.{AreDimensions, HasShape, HasUnit, IsBetween, IsInRange}
use Rattle.matrix_meaning.specs.declared.Request.{Request}
use Rattle.request_text.specs.declared.fault.Field.{Field}
use Rattle.request_text.specs.declared.fault.Field.TheVariants.{Size, Mod, Root, Procs, Line, Lanes, Unroll, Budget}
use Rattle.request_text.specs.declared.fault.Field.TheVariants.{Weight}
use Rattle.request_text.specs.declared.fault.RequestFault.{RequestFault}
use Rattle.request_text.specs.Limits.{limits}

-- a text spells one request at most
abbrev pub SpellsOnce : (List ℕ → Request → Type 0) → Type 0
SpellsOnce spells = (text : List ℕ) (r s : Request) → spells text r → spells text s → r ≡ s

-- any two answers for a text agree
abbrev pub HasOneAnswer : (List ℕ → Result Request RequestFault → Type 0) → Type 0
HasOneAnswer answers = (text : List ℕ) (a b : Result Request RequestFault) → answers text a → answers text b → a ≡ b

-- each text has an answer
abbrev pub HasSomeAnswer : (List ℕ → Result Request RequestFault → Type 0) → Type 0
HasSomeAnswer answers = (text : List ℕ) → (answer : Result Request RequestFault) × answers text answer

-- of the requests that texts spell, those that fit have no fault, and no others
abbrev pub PassesBy : (List ℕ → Request → Type 0) → (Request → Result Request RequestFault) → (Request → Type 0) →
    Type 0
PassesBy spells judge Fits = (text : List ℕ) (r : Request) → spells text r → ((judge r ≡ Ok r) ↔ Fits r)

-- the value of a request's field
abbrev pub value_of : Request → Field → ℕ
value_of r Size = r.size
value_of r Mod = r.modulus
value_of r Root = r.root
value_of r Procs = r.procs
value_of r Line = r.line
value_of r Lanes = r.lanes
value_of r Unroll = r.unroll
value_of r Budget = r.budget
value_of r Weight = r.weight

-- each field is within its limits in the table, and the fields fit one another
pub record IsInLimits (r : Request) : Type 0 where
  pub fields : (field : Field) → IsBetween (limits field).0 (limits field).1 (value_of r field)
  pub root : r.root < r.modulus
  pub shape : HasShape r.kind r.size
  pub lanes_in_line : 1 < r.procs → r.line % r.lanes ≡ 0
  pub unit : HasUnit r.kind r.modulus r.size
  pub dimensions : AreDimensions r r.dimensions

-- a request is in range where it is within the limits of the table
abbrev pub RangeIsTable : Type 0
RangeIsTable = (r : Request) → (IsInRange r ↔ IsInLimits r)
