-- How deep a term is.
use Rattle.std.specs.Prelude.{ℕ, ◌+◌}
use Rattle.sigma_spl.specs.Term.{PlainTerm, same, gath, scat, diag, nest, move, product, beside}

abbrev pub term_depth : PlainTerm → ℕ
term_depth same = 0
term_depth (gath f) = 0
term_depth (scat f) = 0
term_depth (diag path factors) = 0
term_depth (nest path w) = 0
term_depth (move path ks) = 0
term_depth (product a b) = 1 + (term_depth a + term_depth b)
term_depth (beside path k a l b) = 1 + (term_depth a + term_depth b)
