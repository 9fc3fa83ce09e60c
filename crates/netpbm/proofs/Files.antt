-- What a file is made of.
use Rattle.std.proofs.Common.{◌≡◌, ℕ, ◌+◌, ◌*◌, length, sym, ap, ◌∙◌, ap₂}
use Rattle.raster.specs.Picture.{Picture}
use Rattle.raster.specs.declared.grid.Kind.{Kind}
use Rattle.pnm.specs.Netpbm.{head, body, stride, printed}
use Rattle.pnm.specs.Cursors.{Wrote}
use Rattle.pnm.specs.declared.cursor.Cursor.{Cursor}
use Rattle.pnm.proofs.Cursors.{wrote_then}
use Rattle.pnm.proofs.Heads.{length_printed}

pub head_same : (p : Picture) (w h : ℕ) (k : Kind) → w ≡ p.width → h ≡ p.height → k ≡ p.kind → head w h k ≡ head p.width p.height p.kind
head_same p w h k ew eh ek = ap (λ (q : Kind). head w h q) ek ∙ ap₂ (λ (x y : ℕ). head x y p.kind) ew eh

pub file_length : (p : Picture) (w h : ℕ) (k : Kind) (n r : ℕ) → w ≡ p.width → h ≡ p.height → k ≡ p.kind →
    n ≡ length (head w h k) → r ≡ stride k w → n + r * h ≡ length (printed p)
file_length p w h k n r ew eh ek en er =
    let front : n ≡ length (head p.width p.height p.kind) = en ∙ ap length (head_same p w h k ew eh ek) in
    let row : r ≡ stride p.kind p.width = er ∙ ap₂ (λ (q : Kind) (x : ℕ). stride q x) ek ew in
    ap₂ (λ (x y : ℕ). x + y * h) front row
    ∙ ap (λ (y : ℕ). length (head p.width p.height p.kind) + stride p.kind p.width * y) eh
    ∙ sym (length_printed p)

-- a head and then a body
pub wrote_file : (p : Picture) {c d e : Cursor} → Wrote c (head p.width p.height p.kind) d → Wrote d (body p) e → Wrote c (printed p) e
unfolding printed
wrote_file p first second = wrote_then first second
