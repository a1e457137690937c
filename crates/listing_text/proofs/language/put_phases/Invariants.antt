use Rattle.std.proofs.Common.{◌≡◌, ◌++◌, drop}
use Rattle.std.specs.Prelude.{IsTrue}
use Rattle.std.specs.List.{list_all}
use Rattle.icode.specs.Plain.{plain_phases}
use Rattle.listing_text.specs.Wording.{phases_text}
use Rattle.listing_text.specs.Nests.{are_nests_within}
use Rattle.listing_text.proofs.language.put_phases.Given as goal

abbrev pub invariant-loop-number : goal.invariant-loop-number
invariant-loop-number g l =
    let w = g.L.Language.wording in
    record {
      text : l.out.items ++ phases_text w l.regs l.number (plain_phases (drop l.number l.phases)) ≡ l.fn.out.items
          ++ phases_text w l.regs 0 (plain_phases l.phases);
      nests : IsTrue (list_all (λ body. are_nests_within body 0) (plain_phases (drop l.number l.phases)));
    }
