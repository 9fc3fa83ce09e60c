-- The lengths of a head and of a body.
use Rattle.std.proofs.Common.{◌≡◌, ℕ, ◌+◌, ◌*◌, ◌/◌, ◌%◌, Bool, true, false, cond, List, [], ◌∷◌, ◌++◌, length, sym, refl, ap, ◌∙◌, ap₂, arith, length-append}
use Rattle.std.proofs.lemmas.Bool.{cond-false}
use Rattle.std.proofs.lemmas.List.FromFn.{length-map-range_with_len}
use Rattle.raster.specs.Picture.{Picture}
use Rattle.pnm.specs.Netpbm.{head, numeral, depth, bilevel, colour, grey, largest, pixel_bytes, octet, octet_row, pixel_row, row_bytes, body, stride, printed}
use Rattle.pnm.specs.Layouts.{LaysOut}
use Rattle.pnm.specs.declared.layout.Layout.{Layout}
use Rattle.pnm.specs.declared.layout.Layout.TheVariants.{Bitmap, Greymap, Pixmap}
use Rattle.octets.proofs.Runs.{run_length}
use Rattle.raster.specs.declared.grid.Kind.{Kind}

pub length_head : (w h : ℕ) (k : Kind) →
    length (head w h k) ≡ 3 + (length (numeral w 32) + (length (numeral h 10) + length (depth k)))
length_head w h k =
    omega (arith, length-append (numeral w 32) (numeral h 10 ++ depth k), length-append (numeral h 10) (depth k))

-- all layouts but the bitmap have a line of the largest value
pub depth_some : (l : Layout) (k : Kind) (n : ℕ) → LaysOut l k → (l ≡ Bitmap → ⊥) → n ≡ largest k → numeral n 10 ≡ depth k
depth_some Bitmap k n h not e = absurd (not refl)
depth_some Greymap k n h not e = ap (λ m. numeral m 10) e ∙ sym (cond-false (bilevel k) [] _ h.0)
depth_some Pixmap k n h not e = ap (λ m. numeral m 10) e ∙ sym (cond-false (bilevel k) [] _ h.0)

pub length_pixel : (k : Kind) (v : ℕ) → length (pixel_bytes k v) ≡ cond (colour k) 3 1
length_pixel k v = pick (colour k)
  where
    pick : (b : Bool) → length (cond b (v / 65536 ∷ v / 256 % 256 ∷ v % 256 ∷ []) (grey k v ∷ [])) ≡ cond b 3 1
    pick true = refl
    pick false = refl

-- every row has the stride's length
pub length_row : (p : Picture) (y : ℕ) → length (row_bytes p y) ≡ stride p.kind p.width
length_row p y =
    ap_cond length (bilevel p.kind) (octet_row p y) (pixel_row p y)
    ∙ ap₂ (cond (bilevel p.kind)) (length-map-range_with_len (octet p y) 0 ((p.width + 7) / 8)) pixels
  where
    ap_cond : (f : List ℕ → ℕ) (b : Bool) (xs ys : List ℕ) → f (cond b xs ys) ≡ cond b (f xs) (f ys)
    ap_cond f true xs ys = refl
    ap_cond f false xs ys = refl

    times : (b : Bool) (n : ℕ) → cond b 3 1 * n ≡ cond b (3 * n) n
    times true n = refl
    times false n = omega arith

    pixels : length (pixel_row p y) ≡ cond (colour p.kind) (3 * p.width) p.width
    pixels =
        run_length (λ x. pixel_bytes p.kind (p.at x y)) (cond (colour p.kind) 3 1) (λ x. length_pixel p.kind (p.at x y)) p.width
        ∙ times (colour p.kind) p.width

pub length_printed : (p : Picture) → length (printed p) ≡ length (head p.width p.height p.kind) + stride p.kind p.width * p.height
unfolding printed
length_printed p =
    length-append (head p.width p.height p.kind) (body p)
    ∙ ap (λ n. length (head p.width p.height p.kind) + n) (run_length (row_bytes p) (stride p.kind p.width) (length_row p) p.height)

pub length_body : (p : Picture) → length (head p.width p.height p.kind) + length (body p) ≡ length (printed p)
unfolding printed
length_body p = sym (length-append (head p.width p.height p.kind) (body p))
