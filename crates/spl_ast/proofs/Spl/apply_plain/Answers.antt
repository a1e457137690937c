use Rattle.std.proofs.Common.{subst, List, ℕ, sym}
use Rattle.spl_ast.specs.Formula.{size_of}
use Rattle.spl_ast.specs.Meaning.{IsVector}
use Rattle.spl_ast.specs.Shape.{IsShaped}
use Rattle.spl_ast.proofs.Vectors.{apply_vector}
use Rattle.spl_ast.proofs.Spl.apply_plain.Goals as goal

pub returns-clause-vector : goal.returns-clause-vector
returns-clause-vector c =
    let P : List ℕ → Type 0 = λ y. IsVector c.args.m.now (size_of c.args.f.now) y in
    subst P (sym c.in_ok-y.ensures) (apply_vector c.args.m.now c.args.f.now c.args.x.now (subst IsShaped c.f.view_is c.f.invariant) c.requires.vector)
