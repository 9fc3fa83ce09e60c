use Rattle.std.proofs.Common.{◌-◌, ap, ◌∙◌}
use Rattle.octets.specs.Digits.{byte_of}
use Rattle.entries.specs.Types.{number_of}
use Rattle.heads.proofs.Entry.{tag_byte, kind_byte, count_byte, last_byte}
use Rattle.heads.proofs.contents.entry_byte.Goals as goal

pub returns-then-b-lt2 : goal.returns-then-b-lt2
returns-then-b-lt2 c = c.number_byte.ensures ∙ tag_byte c.args.endian c.args.tag c.args.content c.args.b c.if-b-lt2.true

pub returns-then-b-lt4 : goal.returns-then-b-lt4
returns-then-b-lt4 c =
    c.number_byte-then-b-lt4.ensures
    ∙ ap (λ k. byte_of c.args.endian 2 k (c.args.b - 2)) (c.number.ensures ∙ ap number_of c.kind.ensures)
    ∙ kind_byte c.args.endian c.args.tag c.args.content c.args.b c.if-b-lt2.false c.if-b-lt4.true

pub returns-then-b-lt8 : goal.returns-then-b-lt8
returns-then-b-lt8 c =
    c.number_byte-then-b-lt8.ensures
    ∙ ap (λ k. byte_of c.args.endian 4 k (c.args.b - 4)) c.count.ensures
    ∙ count_byte c.args.endian c.args.tag c.args.content c.args.b c.if-b-lt4.false c.if-b-lt8.true

pub returns-else-b-lt8 : goal.returns-else-b-lt8
returns-else-b-lt8 c =
    c.last_byte.ensures
    ∙ last_byte c.args.endian c.args.tag c.args.content c.args.b c.if-b-lt8.false
