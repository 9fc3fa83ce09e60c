use Rattle.std.proofs.Common.{◌/◌, ◌%◌, List, get_or, sym, refl, ap, ◌∙◌, ap₂}
use Rattle.octets.specs.Rows.{byte}
use Rattle.plans.proofs.Outlines.{some_segments}
use Rattle.heads.specs.declared.contents.Content.{Content}
use Rattle.heads.specs.declared.tags.Tag.{Tag}
use Rattle.heads.specs.declared.tags.Tag.TheVariants.{ImageWidth}
use Rattle.heads.specs.Contents.{entry_of}
use Rattle.heads.proofs.Entries.{entry_in, entries_byte}
use Rattle.heads.proofs.head.Head.entries_byte.Goals as goal

pub returns : goal.returns
returns c =
    let q = c.args.self.draft.outline in
    let j = c.args.j in
    c.entry_byte.ensures
    ∙ ap₂ (λ n (x : Content). byte (entry_of q.endian n x) (j % 12)) c.number.ensures c.content.ensures
    ∙ ap (λ (ts : List Tag). byte (entry_in q c.args.self.place (get_or ts (j / 12) ImageWidth)) (j % 12)) c.tags.ensures.tags
    ∙ sym (entries_byte q c.args.self.place (some_segments q c.args.self.draft.proper) q.cut.kind refl j c.requires)
