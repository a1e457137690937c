use Rattle.std.proofs.Common.{◌+◌, List, Vec, Global, map, sym, ap, ◌∙◌}
use Rattle.std.proofs.lemmas.List.{length-map}
use Rattle.icode.specs.Plain.{plain_body, plain_tables}
use Rattle.code_gen.specs.PassCode.Program.{written_array}
use Rattle.code_gen.specs.PassCode.Statements.{pass_body, tables_after}
use Rattle.sigma_spl.specs.Views.{plain_nest}
use Rattle.sigma_spl.specs.declared.nest.Nest.{Nest}
use Rattle.code_gen.specs.Views.{plain_host, plain_passes}
use Rattle.code_gen.proofs.Passes.{first_and_more, put_none}
use Rattle.code_gen.proofs.program.+put_passes.Goals as goal

pub returns-in-None-clause-body : goal.returns-in-None-clause-body
returns-in-None-clause-body t c =
    put_none (plain_host c.args.host.now) c.args.start.after c.args.start.number c.args.passes.now (plain_tables c.args.tables.now.items) c.args.start.source (plain_body c.args.out.now.items)
    c.in-None.ensures.cases

pub returns-in_ok-more-in-Some-clause-body : goal.returns-in_ok-more-in-Some-clause-body
returns-in_ok-more-in-Some-clause-body t c =
    let h = plain_host c.args.host.now in
    let nests = c.in-Some.nests.now.items in
    let rest = c.in-Some.rest.now in
    let tables = plain_tables c.args.tables.now.items in
    first_and_more h c.args.start.after (map plain_nest nests) (plain_passes rest) (plain_passes c.args.passes.now) c.args.start.number
    tables (plain_tables c.emit_pass.new.tables.items) c.args.start.source c.written_array-target.result
    c.args.out.now.items c.in_ok-first-in-Some.first.statements.items c.append.new.self.items (plain_body c.put_passes.new.out.items)
    (ap plain_passes c.in-Some.ensures.cases.0)
    (c.written_array-target.ensures ∙ ap (λ n. written_array c.args.start.number (c.args.start.after + n)) (sym (length-map rest (λ (zs : Vec Nest Global). map plain_nest zs.items))))
    (c.in_ok-first-in-Some.ensures.body ∙ ap (λ (xs : List Nest). pass_body h (map plain_nest xs) tables c.args.start.source c.written_array-target.result) c.deref.ensures.value)
    (c.in_ok-first-in-Some.ensures.tables ∙ ap (λ (xs : List Nest). tables_after h.modulus (map plain_nest xs) tables) c.deref.ensures.value)
    c.in_ok-append-in-Some.ensures.items c.in_ok-more-in-Some.ensures.body
