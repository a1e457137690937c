use Rattle.std.proofs.Common.{rules, ◌≡◌, ◌∙◌, ◌≤◌, ◌^◌, ap, arith, length}
use Rattle.icode.specs.Program.{plain_program}
use Rattle.c_print.specs.CText.{c_text_of}
use Rattle.c_print.specs.CTexts.{HasShortTables}
use Rattle.c_print.proofs.ShortTables.{text_few, text_short}
use Rattle.c_print.proofs.printing.print_c.Goals as goal

pub returns-clause-read_back : goal.returns-clause-read_back
returns-clause-read_back c =
    let p = plain_program c.args.program.now in
    let bytes = c.as_slice-bytes.type_inv.0 in
    let is : c.in_ok-text.text.items ≡ c_text_of p = c.in_ok-text.ensures in
    let same = ap length (c.as_slice-bytes.ensures.value ∙ is) in
    let few : length p.tables ≤ 2 ^ 64 = text_few p (omega (arith, bytes, same)) in
    let short : HasShortTables p = text_short p (omega (arith, bytes, same)) in
    search rules
