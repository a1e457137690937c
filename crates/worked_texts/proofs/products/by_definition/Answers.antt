use Rattle.std.proofs.Common.{◌≤◌, ◌<◌, sym, ap, subst, ◌∙◌}
use Rattle.std.specs.Prelude.{All, length}
use Rattle.matrix_meaning.specs.Dimensions.{product_of}
use Rattle.worked_texts.proofs.Whole.{product_is_size, roots_and_sizes, roots_are_below, some_size}
use Rattle.worked_texts.proofs.products.by_definition.Goals as goal

pub times_plain-requires-clause-some : goal.times_plain-requires-clause-some
times_plain-requires-clause-some c =
    subst (λ ns. 1 ≤ length ns) (sym (c.deref.ensures.value ∙ c.in_ok-sizes.ensures)) (some_size c.args.r.now)

pub times_plain-requires-clause-pairs : goal.times_plain-requires-clause-pairs
times_plain-requires-clause-pairs c =
    ap length (c.deref-2.ensures.value ∙ c.in_ok-roots.ensures) ∙ roots_and_sizes c.args.r.now
    ∙ sym (ap length (c.deref.ensures.value ∙ c.in_ok-sizes.ensures))

pub times_plain-requires-clause-roots : goal.times_plain-requires-clause-roots
times_plain-requires-clause-roots c =
    subst (All (λ w. w < c.args.r.now.modulus)) (sym (c.deref-2.ensures.value ∙ c.in_ok-roots.ensures))
    (roots_are_below c.args.r.now c.requires.in_range)

pub times_plain-requires-clause-size : goal.times_plain-requires-clause-size
times_plain-requires-clause-size c =
    c.requires.vector.size ∙ sym (product_is_size c.args.r.now c.requires.in_range)
    ∙ sym (ap product_of (c.deref.ensures.value ∙ c.in_ok-sizes.ensures))
