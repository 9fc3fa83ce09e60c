-- Writes at a cursor, one after the other.
use Rattle.std.proofs.Common.{◌≡◌, ℕ, ◌+◌, ◌<◌, ◌≤◌, List, [], ◌++◌, length, refl, ap, ◌∙◌, subst, arith}
use Rattle.octets.specs.Rows.{chain}
use Rattle.octets.proofs.Runs.{run_more, run_room}
use Rattle.octets.proofs.Puts.{put_none, put_then, put_length}
use Rattle.pnm.specs.Cursors.{HasRoom, Wrote}
use Rattle.pnm.specs.declared.cursor.Cursor.{Cursor}

pub wrote_none : (c : Cursor) → HasRoom c [] → Wrote c [] c
wrote_none c h = record { put = put_none c.buffer.now c.place (omega arith); same_buffer = refl }

pub wrote_then : {c : Cursor} {xs : List ℕ} {d : Cursor} {ys : List ℕ} {e : Cursor} → Wrote c xs d → Wrote d ys e → Wrote c (xs ++ ys) e
wrote_then p q = record { put = put_then p.put q.put; same_buffer = q.same_buffer ∙ p.same_buffer }

-- the same write under another name of its bytes
pub wrote_as : {c : Cursor} {xs ys : List ℕ} {d : Cursor} → xs ≡ ys → Wrote c xs d → Wrote c ys d
wrote_as {c} {xs} {ys} {d} e p = subst (λ (l : List ℕ). Wrote c l d) e p

pub wrote_length : {c : Cursor} {xs : List ℕ} {d : Cursor} → Wrote c xs d → length d.buffer.now ≡ length c.buffer.now
wrote_length p = put_length p.put

-- one part more of a chain of parts, and the room for it
module _ (f : ℕ → List ℕ) where
  pub wrote_more : (n : ℕ) {c : Cursor} {d : Cursor} {xs : List ℕ} {e : Cursor} →
      Wrote c (chain n f) d → xs ≡ f n → Wrote d xs e → Wrote c (chain (n + 1) f) e
  wrote_more n w same part = wrote_as (run_more f n) (wrote_then w (wrote_as same part))

  pub room_more : (m n : ℕ) {c : Cursor} {d : Cursor} (xs : List ℕ) →
      n < m → c.place + length (chain m f) ≤ length c.buffer.now → Wrote c (chain n f) d → xs ≡ f n → HasRoom d xs
  room_more m n xs less room w same = omega (arith, room, run_room f m n less, w.put.place, wrote_length w, ap length same)
