-- What a call asks of a cursor and writes there. Assumes nothing.
use Rattle.std.specs.Prelude.{◌≡◌, ℕ, ◌+◌, ◌≤◌, List, length}
use Rattle.octets.specs.Writes.{Put}
use Rattle.pnm.specs.declared.cursor.Cursor.{Cursor}

-- bs has room from the cursor's place on
abbrev pub HasRoom : Cursor → List ℕ → Type 0
HasRoom c bs = c.place + length bs ≤ length c.buffer.now

-- bs was written at the cursor c, which then is d, over the same buffer
pub record Wrote (c : Cursor) (bs : List ℕ) (d : Cursor) : Type 0 where
  pub put : Put c.buffer.now c.place bs d.buffer.now d.place
  pub same_buffer : d.buffer.ghost_name ≡ c.buffer.ghost_name
