use Rattle.std.proofs.Common.{◌<◌, ◌^◌, Ok, Err, refl}
use Rattle.spiral_words.proofs.NumberWord.{small_judges, modulus_read, modulus_small}
use Rattle.spiral_words.proofs.number.modulus_of.Goals as goal

pub returns-in-Some-clause-ok : goal.returns-in-Some-clause-ok
returns-in-Some-clause-ok c =
    let judged = small_judges c.args.word.now (Ok c.in-Ok.number) c.in-Ok.ensures in
    modulus_read c.args.word.now c.in-Ok.number c.in-Some.modulus judged c.in-Some.ensures.value (c.in-Some.ensures.some.0 refl).0

pub returns-in-None-clause-usage : goal.returns-in-None-clause-usage
returns-in-None-clause-usage c = λ _.
    let judged = small_judges c.args.word.now (Ok c.in-Ok.number) c.in-Ok.ensures in
    let small : c.in-Ok.number < 2 ^ 62 = judged.0.0 in
    modulus_small c.args.word.now c.in-Ok.number judged (λ enough. absurd (let some = c.in-None.ensures.some.1 (enough, small) in cc))

pub returns-in-Err-clause-usage : goal.returns-in-Err-clause-usage
returns-in-Err-clause-usage c = λ _ modulus spelt. (small_judges c.args.word.now (Err c.in-Err.field-0.left) c.in-Err.ensures).1.nothing modulus spelt.0
