use Rattle.std.proofs.Common.{◌≡◌, true, length, sym, ◌∙◌, subst}
use Rattle.std.specs.List.{list_all}
use Rattle.icode.specs.Plain.{plain_body}
use Rattle.nests.specs.Places.{stride}
use Rattle.nests.specs.Views.{plain_parts}
use Rattle.loop_lanes.specs.Columns.{Columns}
use Rattle.nests.specs.Rounds.{ops_in}
use Rattle.loop_lanes.specs.Rows.{is_by_lane}
use Rattle.loop_lanes.specs.Views.{columns_of, stored_reference, has_words}
use Rattle.loop_lanes.proofs.LoadsMade.{behind_told}
use Rattle.loop_lanes.proofs.loads.loaded.Goals as goal

pub column_ops-requires-clause-room : goal.column_ops-requires-clause-room
column_ops-requires-clause-room c =
    let group = c.args.group in
    let to = stored_reference c.args.target in
    let step = stride group.depth (plain_parts c.args.target.parts.now) in
    subst (λ (x : Columns). has_words group.lanes group.depth (length x.turned) step x.by ≡ true)
    (sym c.behind.ensures)
    (behind_told group.lanes group.depth to (ops_in (plain_body c.args.round.now)) (columns_of c.args.columns)
    (stored_reference c.in-Some.from) c.row_length-count.result c.requires.some
    (sym c.are_behind.ensures ∙ c.if-are_behind.true) c.requires.entries).0

pub column_ops-requires-clause-by_lane : goal.column_ops-requires-clause-by_lane
column_ops-requires-clause-by_lane c =
    let group = c.args.group in
    let to = stored_reference c.args.target in
    subst (λ (x : Columns). list_all (is_by_lane group.depth to) x.front ≡ true) (sym c.behind.ensures)
    (behind_told group.lanes group.depth to (ops_in (plain_body c.args.round.now)) (columns_of c.args.columns)
    (stored_reference c.in-Some.from) c.row_length-count.result c.requires.some
    (sym c.are_behind.ensures ∙ c.if-are_behind.true) c.requires.entries).1
