use Rattle.std.proofs.Common.{◌<◌, arith, rules}
use Rattle.std.proofs.lemmas.List.Elements.{All-rest}
use Rattle.matrix_meaning.specs.Dimensions.{product_of}
use Rattle.matrix_meaning.proofs.Digits.{digit_below, first_positive, later_fits, later_positive, product_of-first}
use Rattle.matrix_meaning.proofs.plain.+entry_from.Goals as goal

pub entry_from-others-requires : goal.entry_from-others-requires
entry_from-others-requires t c =
    let n = c.in-Some.n.now in
    let later = c.in-Some.later.now in
    let whole = product_of c.args.sizes.now in
    let parts = product_of-first c.args.sizes.now n later c.in-Some.ensures.cases.0 in
    let some = later_positive whole n (product_of later) c.args.k parts c.requires.row in
    let fits =
    later_fits whole n (product_of later) parts
    (first_positive whole n (product_of later) c.args.k parts c.requires.row) in (
      search rules,
      (
        search rules,
        (
          search rules,
          (
            All-rest (λ w. w < c.args.modulus.now) c.in-Some-split_first.w.now c.in-Some-split_first.more.now
                c.args.roots.now c.in-Some-split_first.ensures.cases.0 c.requires.roots,
            (
              omega (arith, fits, c.requires.fits),
              (
                digit_below c.args.k c.product-s.result (product_of later) c.product-s.ensures some,
                digit_below c.args.l c.product-s.result (product_of later) c.product-s.ensures some,
              ),
            ),
          ),
        ),
      ),
    )
