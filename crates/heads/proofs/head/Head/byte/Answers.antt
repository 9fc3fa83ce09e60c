use Rattle.std.proofs.Common.{ap, ◌∙◌, arith}
use Rattle.octets.specs.Digits.{byte_of}
use Rattle.heads.proofs.Directory.{first_byte, middle_byte, link_byte, outer_byte}
use Rattle.heads.proofs.head.Head.byte.Goals as goal

pub returns-then-i-lt2 : goal.returns-then-i-lt2
returns-then-i-lt2 c =
    let q = c.args.self.draft.outline in
    c.number_byte.ensures
    ∙ ap (λ n. byte_of q.endian 2 n c.args.i) c.tags.ensures.length
    ∙ first_byte q c.args.self.place q.cut.kind c.args.i c.if-i-lt2.true

pub returns-then-i-end : goal.returns-then-i-end
returns-then-i-end c =
    let q = c.args.self.draft.outline in
    c.entries_byte.ensures
    ∙ middle_byte q c.args.self.place q.cut.kind c.args.i c.if-i-lt2.false (omega (arith, c.if-i-end.true, c.bits_at-end.ensures))

pub returns-then-i-end-2 : goal.returns-then-i-end-2
returns-then-i-end-2 c =
    let q = c.args.self.draft.outline in
    link_byte q c.args.self.place q.cut.kind c.args.i (omega (arith, c.if-i-end.false, c.bits_at-end.ensures)) (omega (arith, c.if-i-end-2.true, c.bits_at-end.ensures))

pub returns-else-i-end-2 : goal.returns-else-i-end-2
returns-else-i-end-2 c =
    let q = c.args.self.draft.outline in
    c.value_byte.ensures
    ∙ outer_byte q c.args.self.place q.cut.kind c.args.i (omega (arith, c.if-i-end-2.false, c.bits_at-end.ensures))
