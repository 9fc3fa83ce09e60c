use Rattle.netpbm.proofs.Files.{file_length}
use Rattle.netpbm.proofs.file.file_len.Goals as goal

pub returns : goal.returns
returns g c =
    file_length (g.G.Grid.picture c.args.grid.now) _ _ _ _ _ c.size-size.ensures.width c.size-size.ensures.height c.format_of-format.ensures
    c.head_len.ensures.len (c.row_len-row_len.ensures.len _ c.of.ensures)
