use Rattle.std.proofs.Common.{◌≡◌, ℕ, List, sym, ◌∙◌, rules}
use Rattle.netpbm.specs.Window.{window_buffer}
use Rattle.netpbm.proofs.Windows.{written}
use Rattle.netpbm.proofs.window.window.Goals as goal

-- what the cursor holds at last stands in the buffer that was lent
back : {xs ys zs : List ℕ} → ys ≡ zs → xs ≡ ys → xs ≡ zs
back q p = p ∙ q

pub returns-clause-buffer : goal.returns-clause-buffer
returns-clause-buffer g c =
    let p = g.G.Grid.picture c.args.grid.now in
    let left : c.put_file.new.out.buffer.now ≡ window_buffer p c.args.area c.args.buffer.now =
    (written p c.args.area c.args.buffer.now _ _ (sym c.if-not-fits.ensures) c.put_file.ensures.wrote.put).1 in
    back left (search (rules, c.put_file.ensures.wrote.same_buffer))
