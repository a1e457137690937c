-- The text of a certificate.
use Rattle.std.proofs.Common.{ℕ, suc, List, [], ◌∷◌, sym, subst, arith}
use Rattle.matrix_meaning.specs.declared.Dimensions.{Dimensions}
use Rattle.matrix_meaning.specs.declared.Dimensions.TheVariants.{One}
use Rattle.matrix_meaning.specs.declared.Request.{Request}
use Rattle.matrix_meaning.specs.Parts.{first_of, forward_of, parts_of, rest_of}
use Rattle.matrix_meaning.specs.Valid.{IsInRange}
use Rattle.matrix_meaning.proofs.Parts.{first_in_range, parts_by_first}
use Rattle.serde_json.specs.Data.{Data, Items, no_items, item}
use Rattle.tree_model.specs.Chosen.{closing_cost}
use Rattle.plan_cert.specs.Table.{AreTables, IsLineOf, IsListOfTables, IsPlain, IsTableOf, IsTableText, IsWholeTable}
use Rattle.plan_cert.proofs.ByParts.{by_parts, one_part}
use Rattle.plan_cert.proofs.Written.{AreWritten, IsWritten, list_written, more_written, none_written, plain_of}
use Rattle.plan_cert.proofs.Written.{table_written}

value_written : (deep : ℕ) (c : Request) (d : Data) → IsInRange c → IsTableOf c d → IsWritten (suc (suc (suc deep))) d
value_written deep c d range (rows, table, is) =
    subst (IsWritten (suc (suc (suc deep)))) (sym is)
    (table_written deep (forward_of c) (closing_cost c) c.size c.weight rows (omega (arith, range.size.1))
    (omega (arith, range.weight.1)) table.chosen)

abbrev AllWritten : List Request → Type 0
AllWritten ps = (ds : Items) → AreTables ps ds → AreWritten 3 ds

none_left : AllWritten []
none_left no_items h = none_written 3
none_left (item d ds) h = absurd h

one_more : (p : Request) (ps : List Request) → IsInRange p → AllWritten ps → AllWritten (p ∷ ps)
one_more p ps range others no_items h = absurd h
one_more p ps range others (item d ds) h = more_written 3 d ds (value_written 0 p d range h.0) (others ds h.1)

values_written : (c : Request) → IsInRange c → AllWritten (parts_of c)
values_written =
    by_parts (λ c. AllWritten (parts_of c))
    (λ c range one. subst AllWritten (sym (one_part c one)) (one_more c [] range none_left))
    (λ c range several others. subst AllWritten (sym (parts_by_first c several))
    (one_more (first_of c) (parts_of (rest_of c)) (first_in_range c range several) others))

list_of : (c : Request) (d : Data) → IsInRange c → IsListOfTables c d → IsWritten 4 d
list_of c d range (ds, is, tables) = subst (IsWritten 4) (sym is) (list_written 3 ds (values_written c range ds tables))

pub whole_written : (c : Request) (ds : Dimensions) (d : Data) → IsInRange c → IsWholeTable c ds d → IsWritten 4 d
whole_written c One d range h = value_written 1 c d range h
whole_written c ds d range h = list_of c d range h

-- the line of the certificate is its text
pub certificate_written : (c : Request) (d : Data) (text : List ℕ) → IsInRange c → IsWholeTable c c.dimensions d
    → (IsPlain d → IsLineOf d text) → IsTableText c text
certificate_written c d text range table line =
    (d, table, line (plain_of 4 d (whole_written c c.dimensions d range table) (omega arith)))
