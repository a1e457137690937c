-- What the definitions say of two dimensions of size 2.
use Rattle.std.proofs.Common.{◌≡◌, [], ◌∷◌, None, codes, map, refl}
use Rattle.std.specs.Fmt.{digits}
use Rattle.json.specs.Print.{escape_byte}
use Rattle.matrix_meaning.specs.declared.Dimensions.TheVariants.{Two}
use Rattle.matrix_meaning.specs.declared.Kind.TheVariants.{Dft}
use Rattle.matrix_meaning.specs.declared.Request.{Request}
use Rattle.matrix_meaning.specs.Parts.{parts_of}
use Rattle.serde_json.specs.Data.{Data, array, no_items, item}
use Rattle.serde_json.specs.Written.{compact_text}
use Rattle.plan_cert.specs.declared.certificate.Row.{Row}
use Rattle.plan_cert.specs.declared.verdict.Verdict.TheVariants.{Least}
use Rattle.plan_cert.specs.Table.{table_data}
use Rattle.plan_cert.specs.Verdict.{combined, size_of_all}

abbrev request : Request
request = record {
  kind = Dft;
  size = 4;
  modulus = 17;
  root = 1;
  dimensions = Two (record { size = 2; root = 16 }) (record { size = 2; root = 16 });
  procs = 1;
  line = 1;
  lanes = 1;
  unroll = 16;
  budget = 100;
  weight = 1;
}

abbrev row : Row
row = record { size = 2; cost = 2; rule = None; left = 0; right = 0 }

-- the certificate of each dimension
abbrev part : Data
part = table_data 2 1 (row ∷ [])

sizes : map (λ (p : Request). p.size) (parts_of request) ≡ 2 ∷ 2 ∷ []
sizes = refl

spelled : compact_text (array (item part (item part no_items)))
    ≡ codes "[{\"rows\":[[2,2,\"leaf\",0,0]],\"size\":2,\"version\":2,\"weight\":1},{\"rows\":[[2,2,\"leaf\",0,0]],\"size\":2,\"version\":2,\"weight\":1}]"
unfolding digits escape_byte
spelled = refl

-- each dimension costs 2 in each of two places, so both cost 8
judged : combined 2 2 (Least 2) (combined 2 (size_of_all []) (Least 2) (Least 0)) ≡ Least 8
judged = refl
