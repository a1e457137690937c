use Rattle.std.proofs.Common.{List, map, ap, ◌∙◌, option_map}
use Rattle.icode.specs.Plain.{plain_body, plain_expr}
use Rattle.code_gen.specs.PassCode.Statements.{place_at}
use Rattle.sigma_spl.specs.Views.{plain_multiplier}
use Rattle.perm_algebra.specs.Views.{plain_sum}
use Rattle.perm_algebra.specs.declared.Affine.{Affine}
use Rattle.code_gen.specs.Views.{plain_frame}
use Rattle.code_gen.proofs.StatementRules.{stored-product}
use Rattle.code_gen.proofs.outputs.put_output.Goals as goal

pub put_multiplied-requires : goal.put_multiplied-requires
put_multiplied-requires c = c.requires.multiplies (plain_multiplier c.in-Some.multiplier) (ap (option_map plain_multiplier) c.in-Some.is)

pub returns-in_ok-put_store-in-Some : goal.returns-in_ok-put_store-in-Some
returns-in_ok-put_store-in-Some c =
    let s = c.args.site in
    let f = plain_frame s.frame in
    let item = c.args.item in
    stored-product f (plain_body c.args.out.now.items) (plain_body c.put_multiplied.new.out.items) (plain_body c.put_store-in-Some.new.out.items) (option_map plain_multiplier c.args.nest.now.multiplier) (plain_multiplier c.in-Some.multiplier)
    (map plain_sum c.args.nest.now.scatters.items) (plain_expr c.in_ok-place.place) c.args.step s.open_loops s.table s.target item.number item.from item.free
    (ap (option_map plain_multiplier) c.in-Some.is)
    (c.in_ok-place.ensures ∙ ap (λ (xs : List Affine). place_at f s.open_loops (map plain_sum xs) item.number) c.deref.ensures.value)
    c.in_ok-put_multiplied-in-Some.ensures
    c.in_ok-put_store-in-Some.ensures
