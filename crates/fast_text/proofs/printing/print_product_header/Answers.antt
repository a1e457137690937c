use Rattle.std.proofs.Common.{◌≡◌, ◌++◌, ◌==◌, ℕ, List, ap, map, ◌∙◌}
use Rattle.word_code.specs.Views.{plain_word_program}
use Rattle.fast_text.specs.FunctionText.{capital, linkage_text, word_type_text}
use Rattle.fast_text.specs.ProductText.{product_guard_text, product_macros_text, product_asked_text, declared_product_text}
use Rattle.fast_text.specs.WordText.{word_header_text}
use Rattle.fast_text.proofs.Pieces.{four_parts}
use Rattle.fast_text.proofs.printing.print_product_header.Goals as goal

pub returns : goal.returns
returns c =
    let p = plain_word_program c.args.program.now in
    let name = c.args.name.now in
    let capitals = map capital name in
    let type = word_type_text p.width.half in
    let first = c.put_first.new.out.items in
    let guard = c.put_product_guard.new.out.items in
    let macros = c.put_product_macros.new.out.items in
    four_parts (word_header_text p) (product_guard_text capitals)
    (product_macros_text capitals p.frame.size p.frame.modulus)
    (linkage_text (product_asked_text capitals name ++ declared_product_text name type)) c.new-out.result.items first
    guard macros c.put_linked_product.new.out.items c.new-out.ensures.items c.in_ok-put_first.ensures
    (c.in_ok-put_product_guard.ensures
    ∙ ap (λ (x : List ℕ). first ++ product_guard_text x) (c.deref.ensures.value ∙ c.in_ok-capitals.ensures))
    (c.in_ok-put_product_macros.ensures
    ∙ ap (λ (x : List ℕ). guard ++ product_macros_text x p.frame.size p.frame.modulus)
    (c.deref-2.ensures.value ∙ c.in_ok-capitals.ensures))
    (c.in_ok-put_linked_product.ensures
    ∙ ap (λ (x : List ℕ). macros ++ linkage_text (product_asked_text x name ++ declared_product_text name type))
    (c.deref-3.ensures.value ∙ c.in_ok-capitals.ensures))
