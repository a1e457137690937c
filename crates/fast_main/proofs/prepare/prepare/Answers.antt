use Rattle.std.proofs.Common.{◌≡◌, ap, ◌∙◌}
use Rattle.icode.specs.Program.{plain_program}
use Rattle.fused_loops.specs.Fused.{fused, large_size}
use Rattle.fast_main.specs.Translation.{ending_on, in_blocks}
use Rattle.fast_main.proofs.Faithful.{blocks_fit, blocks_apart}
use Rattle.fast_main.proofs.prepare.prepare.Goals as goal

pub factor_tables-requires : goal.factor_tables-requires
factor_tables-requires c =
    let p = c.args.program in
    let is : plain_program c.in_ok-blocks.blocks ≡ in_blocks c.args.lanes (plain_program p) =
    c.in_ok-blocks.ensures ∙ ap (fused large_size) c.in_ok-laned.ensures in
    record {
      fits = blocks_fit c.args.lanes p c.in_ok-blocks.blocks c.requires.lanes is c.requires.fits c.requires.apart;
      apart = blocks_apart c.args.lanes p c.in_ok-blocks.blocks c.requires.lanes is c.requires.fits c.requires.apart;
    }
