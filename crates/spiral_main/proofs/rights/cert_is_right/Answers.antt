use Rattle.std.proofs.Common.{[], inr, refl, codes}
use Rattle.plan_cert.specs.Table.{IsTableText}
use Rattle.spiral_words.specs.declared.Command.TheVariants as command
use Rattle.spiral_words.specs.declared.Document.TheVariants as document
use Rattle.spiral_words.specs.declared.RequestCommand.TheVariants as request
use Rattle.spiral_main.proofs.RightFront.{written_is_right}
use Rattle.spiral_main.proofs.rights.cert_is_right.Goals as goal

pub returns : goal.returns
returns c = λ words options bytes plan text found right is.
    inr (
      command.ByRequest (request.Writes document.Cert),
      (codes "cert", options, found, refl),
      written_is_right [] bytes (λ p. IsTableText p.request) plan text right is,
    )
