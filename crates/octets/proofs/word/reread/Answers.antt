use Rattle.std.proofs.Common.{ap, ◌∙◌, arith}
use Rattle.octets.specs.Digits.{number}
use Rattle.octets.specs.Rows.{byte}
use Rattle.octets.proofs.Decoded.{number_bytes_back}
use Rattle.octets.proofs.word.reread.Goals as goal

pub to_bytes-requires : goal.to_bytes-requires
to_bytes-requires g c = omega (arith, g.met.W.Word.narrow)

pub from_bytes-requires : goal.from_bytes-requires
from_bytes-requires g c = omega (arith, g.met.W.Word.narrow)

pub returns : goal.returns
returns g c =
    let b = c.to_bytes.ensures in
    g.met.W.Word.same _ _ (c.from_bytes.ensures ∙ ap (λ xs. number c.args.endian g.row.N (byte xs)) b.bytes ∙ number_bytes_back c.args.endian g.row.N (g.W.Word.value c.args.word) b.fits)
