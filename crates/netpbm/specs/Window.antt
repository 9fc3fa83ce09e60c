-- What `window` answers, and what it leaves in its buffer. Assumes nothing.
use Rattle.std.specs.Prelude.{ℕ, cond, ◌&&◌, List, ◌++◌, length, drop, Ok, Err, Result, nat_le}
use Rattle.faults.specs.declared.fault.Fault.{Fault}
use Rattle.faults.specs.declared.fault.Check.TheVariants.{Outside, Small}
use Rattle.faults.specs.Faults.{bare}
use Rattle.raster.specs.Picture.{Picture}
use Rattle.raster.specs.Views.{rectangle, fits}
use Rattle.raster.specs.declared.grid.Area.{Area}
use Rattle.pnm.specs.Netpbm.{printed}

-- the file of an area of a picture
abbrev pub window_bytes : Picture → Area → List ℕ
window_bytes p a = printed (rectangle p a)

-- the answer at a buffer of so many bytes: Outside comes before Small
abbrev pub window_answer : Picture → Area → ℕ → Result ℕ Fault
window_answer p a room =
    cond (fits p a)
    (cond (nat_le (length (window_bytes p a)) room) (Ok (length (window_bytes p a))) (Err (bare Small)))
    (Err (bare Outside))

-- the buffer afterwards: the file and the bytes that stood beyond it, or all as it was
abbrev pub window_buffer : Picture → Area → List ℕ → List ℕ
window_buffer p a buffer =
    cond (fits p a && nat_le (length (window_bytes p a)) (length buffer))
    (window_bytes p a ++ drop (length (window_bytes p a)) buffer) buffer
