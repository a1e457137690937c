-- Passes run.
use Rattle.code_gen.specs.PassActions.Laws.{PassesRun}
use Rattle.code_gen.proofs.PassActions.Every.{pass-fits}
use Rattle.code_gen.proofs.PassActions.Fillings.{pass-leaves}
use Rattle.code_gen.proofs.PassActions.Counting.{counted-are, pass-short}

pub passes_run : PassesRun
passes_run c zs can =
    record {
      leaves = λ source target q x s part apart begin. pass-leaves c zs can source target q x apart part begin.residues s begin;
      counts = λ weight source target q some part. counted-are weight c can.lanes can.modulus source target q some zs can.nests;
      fit = λ source target q part. pass-fits c zs can source target q part;
      short = λ source target q part. pass-short c zs can source target q;
    }
