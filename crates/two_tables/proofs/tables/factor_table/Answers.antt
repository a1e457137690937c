use Rattle.std.proofs.Common.{ap, sym, ◌∙◌}
use Rattle.icode.specs.Program.{plain_program}
use Rattle.two_tables.specs.Factors.{cut_of, first_factor, second_factor}
use Rattle.two_tables.specs.Views.{plain_cut}
use Rattle.two_tables.proofs.Programs.{may_not, is_no_product, is_product, may_can, some_width, tested}
use Rattle.two_tables.proofs.tables.factor_table.Goals as goal

pub first_factor-requires : goal.first_factor-requires
first_factor-requires c =
    let some = some_width c.args.least c.args.table (plain_program c.args.program) (plain_cut c.cut_of-cut.result) (sym c.may_be_split.ensures ∙ c.if-not-may_be_split.false) in
    record { wide = some.0 }

pub second_factor-requires : goal.second_factor-requires
second_factor-requires c =
    let some = some_width c.args.least c.args.table (plain_program c.args.program) (plain_cut c.cut_of-cut.result) (sym c.may_be_split.ensures ∙ c.if-not-may_be_split.false) in
    record { wide = some.0; across = some.1 }

pub are_factors-requires : goal.are_factors-requires
are_factors-requires c =
    let some = some_width c.args.least c.args.table (plain_program c.args.program) (plain_cut c.cut_of-cut.result) (sym c.may_be_split.ensures ∙ c.if-not-may_be_split.false) in
    record { wide = some.0; across = some.1 }

pub in_factors-requires : goal.in_factors-requires
in_factors-requires c =
    let p = plain_program c.args.program in
    let cut = plain_cut c.cut_of-cut.result in
    let well =
    tested p c.args.table c.shape_of-shape.result.modulus cut c.deref.result.now c.deref-2.result.now c.table_at-entries.result.now c.are_factors.result
    c.shape_of-shape.ensures.modulus c.table_at-entries.ensures (c.deref.ensures.value ∙ c.in_ok-first.ensures) (c.deref-2.ensures.value ∙ c.in_ok-second.ensures) c.are_factors.ensures in
    record {
      table = c.requires.table;
      can = may_can c.args.least c.args.table p cut (sym c.may_be_split.ensures ∙ c.if-not-may_be_split.false) (sym well ∙ c.if-not-are_factors.false);
      first = c.in_ok-first.ensures ∙ ap (first_factor cut) c.table_at-entries.ensures;
      second = c.in_ok-second.ensures ∙ ap (second_factor cut) c.table_at-entries.ensures;
    }

pub returns-then-not-may_be_split : goal.returns-then-not-may_be_split
returns-then-not-may_be_split c =
    may_not c.args.least c.args.table (plain_program c.args.program) (plain_cut c.cut_of-cut.result) (c.cut_of-cut.ensures ∙ ap cut_of c.table_at-entries.ensures)
    (sym c.may_be_split.ensures ∙ c.if-not-may_be_split.true)

pub returns-then-not-are_factors : goal.returns-then-not-are_factors
returns-then-not-are_factors c =
    let p = plain_program c.args.program in
    let cut = plain_cut c.cut_of-cut.result in
    let well =
    tested p c.args.table c.shape_of-shape.result.modulus cut c.deref.result.now c.deref-2.result.now c.table_at-entries.result.now c.are_factors.result
    c.shape_of-shape.ensures.modulus c.table_at-entries.ensures (c.deref.ensures.value ∙ c.in_ok-first.ensures) (c.deref-2.ensures.value ∙ c.in_ok-second.ensures) c.are_factors.ensures in
    is_no_product c.args.least c.args.table p cut (c.cut_of-cut.ensures ∙ ap cut_of c.table_at-entries.ensures) (sym c.may_be_split.ensures ∙ c.if-not-may_be_split.false)
    (sym well ∙ c.if-not-are_factors.true)

pub returns : goal.returns
returns c =
    let p = plain_program c.args.program in
    let cut = plain_cut c.cut_of-cut.result in
    let well =
    tested p c.args.table c.shape_of-shape.result.modulus cut c.deref.result.now c.deref-2.result.now c.table_at-entries.result.now c.are_factors.result
    c.shape_of-shape.ensures.modulus c.table_at-entries.ensures (c.deref.ensures.value ∙ c.in_ok-first.ensures) (c.deref-2.ensures.value ∙ c.in_ok-second.ensures) c.are_factors.ensures in
    c.in_ok-made.ensures
    ∙ is_product c.args.least c.args.table p cut (c.cut_of-cut.ensures ∙ ap cut_of c.table_at-entries.ensures) (sym c.may_be_split.ensures ∙ c.if-not-may_be_split.false)
    (sym well ∙ c.if-not-are_factors.false)
