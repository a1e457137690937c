use Rattle.std.proofs.Common.{ap, length, ◌∙◌}
use Rattle.std.proofs.lemmas.List.FromFn.{length-range_with_len}
use Rattle.word_code.proofs.in_place.homes.HomeTable.own.Goals as goal

pub returns-clause-table : goal.returns-clause-table
returns-clause-table c =
    record {
      homes = ap length c.in_ok-homes.ensures ∙ length-range_with_len 0 c.args.words;
      guests = ap length c.in_ok-guests.ensures ∙ length-range_with_len 0 c.args.words;
    }
