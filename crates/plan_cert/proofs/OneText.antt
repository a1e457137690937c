-- A request has one certificate.
use Rattle.std.proofs.Common.{◌≡◌, ◌++◌, List, [], ◌∷◌, refl, sym, ap, ap₂, ◌∙◌}
use Rattle.matrix_meaning.specs.declared.Dimensions.{Dimensions}
use Rattle.matrix_meaning.specs.declared.Dimensions.TheVariants.{One}
use Rattle.matrix_meaning.specs.declared.Request.{Request}
use Rattle.matrix_meaning.specs.Parts.{forward_of, parts_of}
use Rattle.serde_json.specs.Data.{Data, Items, array, no_items, item}
use Rattle.serde_json.specs.Written.{compact_text}
use Rattle.tree_model.specs.Chosen.{closing_cost}
use Rattle.plan_cert.specs.Laws.{CertificatesAreOne}
use Rattle.plan_cert.specs.Table.{table_data, AreTables, IsListOfTables, IsTableOf, IsWholeTable}
use Rattle.plan_cert.proofs.OneTable.{table_once}

value_once : (c : Request) (x y : Data) → IsTableOf c x → IsTableOf c y → x ≡ y
value_once c x y (rows, table, is) (others, other, e) =
    is ∙ ap (table_data c.size c.weight) (table_once (forward_of c) (closing_cost c) rows others table other) ∙ sym e

values_once : (ps : List Request) (xs ys : Items) → AreTables ps xs → AreTables ps ys → xs ≡ ys
values_once [] no_items no_items p q = refl
values_once [] (item x xs) ys p q = absurd p
values_once [] no_items (item y ys) p q = absurd q
values_once (c ∷ ps) no_items ys p q = absurd p
values_once (c ∷ ps) (item x xs) no_items p q = absurd q
values_once (c ∷ ps) (item x xs) (item y ys) (p, h) (q, k) = ap₂ item (value_once c x y p q) (values_once ps xs ys h k)

list_once : (c : Request) (x y : Data) → IsListOfTables c x → IsListOfTables c y → x ≡ y
list_once c x y (xs, is, tables) (ys, e, others) = is ∙ ap array (values_once (parts_of c) xs ys tables others) ∙ sym e

whole_once : (c : Request) (ds : Dimensions) (x y : Data) → IsWholeTable c ds x → IsWholeTable c ds y → x ≡ y
whole_once c One x y p q = value_once c x y p q
whole_once c ds x y p q = list_once c x y p q

pub one_certificate : CertificatesAreOne
one_certificate c text other (x, table, line) (y, same, written) =
    line.spelled ∙ ap (λ (d : Data). compact_text d ++ 10 ∷ []) (whole_once c c.dimensions x y table same)
    ∙ sym written.spelled
