-- The mapping of an `Index`.
use Rattle.index_fn.specs.declared.Index.{Index}
use Rattle.index_fn.specs.declared.Index.TheVariants as index
use Rattle.index_fn.specs.Mapping.{Mapping, Same, Always, Line, Strided, ThomasIn, ThomasOut, ThomasBack, Listed, Paired, After}

abbrev pub mapping_of : Index → Mapping
mapping_of index.Identity = Same
mapping_of (index.Constant value) = Always value
mapping_of (index.Stride base step) = Line base step
mapping_of (index.StridePermutation r s) = Strided r s
mapping_of (index.ThomasIn r s) = ThomasIn r s
mapping_of (index.ThomasOut r s) = ThomasOut r s
mapping_of (index.ThomasBack r s e g) = ThomasBack r s e g
mapping_of (index.Explicit places) = Listed places.items
mapping_of (index.Tensor' p f c q g d) = Paired (mapping_of f) c (mapping_of g) d
mapping_of (index.Composed' p f q g) = After (mapping_of f) (mapping_of g)
