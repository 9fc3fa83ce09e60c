use Rattle.std.proofs.Common.{◌∙◌}
use Rattle.stored.proofs.Colours.{rgb_part}
use Rattle.stored.proofs.samples.read_rgb.Goals as goal

pub returns-clause-value : goal.returns-clause-value
returns-clause-value g c =
    c.rgb.ensures.value ∙ rgb_part (g.S.Store.seen c.args.store.now) c.args.place c.read_array.result c.read_array.ensures.bytes c.rgb.ensures.bytes
