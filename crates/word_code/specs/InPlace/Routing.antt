-- Which arrays the statements of a phase use: from the last to the first, each stores into the array that the next
-- one loads from, and one whose rounds store to the places that they load from stays in its array.
use Rattle.std.specs.Prelude.{◌==◌, ◌&&◌, Bool, true, false, List, [], ◌∷◌, ◌++◌, Option, Some, None, if◌then◌else◌}
use Rattle.icode.specs.declared.program.Array.{Array}
use Rattle.icode.specs.declared.program.Array.TheVariants.{X, Y, A, B}
use Rattle.icode.specs.Plain.{PlainExpr, PlainOp, PlainStmt, PlainBody, Sum, Load, Store, Loop, Do, NoStmts, AndStmts}
use Rattle.nests.specs.Places.{same_parts}
use Rattle.word_code.specs.declared.in_place.places.Side.{Side}
use Rattle.word_code.specs.declared.in_place.places.Side.TheVariants.{Loads, Stores}
use Rattle.word_code.specs.declared.in_place.routes.Route.{Route}

-- ---- the places of a statement, in the order of its text

abbrev pub place_of : Side → PlainOp → List PlainExpr
place_of Loads (Load register array place) = place ∷ []
place_of Stores (Store array place register) = place ∷ []
place_of side op = []

abbrev mutual
  pub places_of : Side → PlainStmt → List PlainExpr
  places_of side (Loop count body) = places_in side body
  places_of side (Do op) = place_of side op

  pub places_in : Side → PlainBody → List PlainExpr
  places_in side NoStmts = []
  places_in side (AndStmts stmt rest) = places_of side stmt ++ places_in side rest

-- the same constant and the same linear parts
abbrev pub same_place : PlainExpr → PlainExpr → Bool
same_place (Sum constant parts) (Sum other others) = (constant == other) && same_parts parts others

abbrev pub same_places : List PlainExpr → List PlainExpr → Bool
same_places [] [] = true
same_places (place ∷ places) (other ∷ others) = same_place place other && same_places places others
same_places _ _ = false

-- the places that it stores to are those that it loads from
abbrev pub stays : PlainStmt → Bool
stays stmt = same_places (places_of Loads stmt) (places_of Stores stmt)

-- ---- the array of its first load

abbrev pub loaded_array : PlainOp → Option Array
loaded_array (Load register array place) = Some array
loaded_array op = None

abbrev pub first_of : Option Array → Option Array → Option Array
first_of None other = other
first_of (Some array) other = Some array

abbrev mutual
  pub first_array : PlainStmt → Option Array
  first_array (Loop count body) = first_array_in body
  first_array (Do op) = loaded_array op

  pub first_array_in : PlainBody → Option Array
  first_array_in NoStmts = None
  first_array_in (AndStmts stmt rest) = first_of (first_array stmt) (first_array_in rest)

-- ---- routes

-- the array, or another one if it is the target
abbrev pub beside : Array → Array → Array
beside A A = B
beside B B = A
beside Y Y = A
beside target array = array

-- what a statement with this target loads from, if it loads first from that array: the input stays where it is
abbrev pub source_for : Array → Bool → Option Array → Array
source_for target stay None = X
source_for target stay (Some X) = X
source_for target stay (Some array) = if stay then target else beside target array

-- the array, if it is not the input
abbrev pub not_input : Array → Array
not_input X = A
not_input array = array

-- the target of the statement before those that go these routes
abbrev pub target_before : List Route → Array
target_before [] = Y
target_before (route ∷ routes) = not_input route.source

abbrev pub route_to : Array → PlainStmt → Route
route_to target stmt = record { source = source_for target (stays stmt) (first_array stmt); target = target }

abbrev pub chosen : PlainBody → List Route
chosen NoStmts = []
chosen (AndStmts stmt rest) = route_to (target_before (chosen rest)) stmt ∷ chosen rest
