-- Good terms fit.
use Rattle.std.proofs.Common.{ℕ, arith, [], ◌∷◌, List}
use Rattle.index_fn.specs.Mapping.{Mapping}
use Rattle.sigma_spl.specs.Good.{IsMove, IsGoodTerm}
use Rattle.sigma_spl.specs.Sigma.{AllCanMerge}
use Rattle.sigma_spl.specs.Term.{PlainTerm, same, gath, scat, diag, nest, move, product, beside}
use Rattle.sigma_spl.specs.Words.{HasNumbers, AreWords}
use Rattle.sigma_spl.specs.Plain.Shape.{StaysInside, Fits, AllFit, GoodSigmasFit}

stays : (lanes n : ℕ) (f : Mapping) → IsMove lanes n f → HasNumbers n f → StaysInside n f
stays lanes n f h words = record { well_formed = h.there.formed; defined = words.there; below = h.permutes.there_below }

term_fits : (lanes n : ℕ) (t : PlainTerm) → IsGoodTerm lanes n t → AreWords n t → Fits n t
term_fits lanes n same h words = tt
term_fits lanes n (gath f) h words = stays lanes n f h words
term_fits lanes n (scat f) h words = stays lanes n f h.0 words.0
term_fits lanes n (diag path factors) h words = h
term_fits lanes n (nest path w) h words = (words, h.1)
term_fits lanes n (move path ks) h words = h
term_fits lanes n (product a b) h words = (term_fits lanes n a h.0 words.0, term_fits lanes n b h.1 words.1)
term_fits lanes n (beside path k a l b) h words = ((h.0, h.1, term_fits 0 k a h.3 words.0, term_fits 0 l b h.4 words.1), h.2)

all_fit : (lanes n : ℕ) (ts : List PlainTerm) → AllCanMerge lanes n ts → AllFit n ts
all_fit lanes n [] h = tt
all_fit lanes n (t ∷ ts) h = (term_fits lanes n t h.0.good h.0.words, all_fit lanes n ts h.1)

pub good_fit : GoodSigmasFit
good_fit g h = ((omega (arith, h.some), omega (arith, h.most)), all_fit g.lanes g.size g.phases h.phases)
