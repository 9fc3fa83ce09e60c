use Rattle.std.proofs.Common.{ℕ, ◌+◌, ◌-◌, ◌*◌, ◌/◌, ◌%◌, ◌<◌, ◌≤◌, leb, refl, ap, ◌∙◌, ⊎_elim, arith}
use Rattle.std.proofs.lemmas.Bool.{cond_both}
use Rattle.octets.specs.Digits.{byte_of}
use Rattle.plans.specs.Outlines.{segments_in, segment_size, bits_size, longs_size}
use Rattle.heads.specs.Values.{bits_at, offsets_at, counts_at, offset_of}
use Rattle.heads.proofs.Outer.{bits_byte, offset_byte, count_byte, ratio_byte, ratio_left}
use Rattle.heads.proofs.head.Head.value_byte.Goals as goal
use Rattle.heads.proofs.head.Head.value_byte.Goals.{else-i-counts-2-via-then-i-counts-2+else-i-counts-3, else-i-counts-2-via-else-i-counts-2}

longs_few : (n : ℕ) → n ≤ 1024 → longs_size n ≤ 4096
longs_few n l = cond_both (leb n 1) 0 (4 * n) (λ m. m ≤ 4096) (λ _. omega arith) (λ _. omega arith)

pub offset_of-requires : goal.offset_of-requires
offset_of-requires c = omega (arith, longs_few (segments_in c.args.self.draft.outline) c.args.self.draft.few, c.if-i-counts.true, c.counts_at-counts.ensures.value, c.offsets_at-offsets.ensures.value)

pub returns-then-i-bits : goal.returns-then-i-bits
returns-then-i-bits c =
    let q = c.args.self.draft.outline in
    c.number_byte.ensures
    ∙ ap (λ b. byte_of q.endian 2 q.kind.bits ((c.args.i - b) % 2)) c.bits_at-bits.ensures
    ∙ bits_byte q c.args.self.place c.args.i q.cut.kind refl c.requires.behind (omega (arith, c.if-i-bits.true, c.bits_at-bits.ensures, c.bits_size.ensures.value))

pub returns-then-i-counts : goal.returns-then-i-counts
returns-then-i-counts c =
    let q = c.args.self.draft.outline in
    c.number_byte-then-i-counts.ensures
    ∙ ap (λ v. byte_of q.endian 4 v ((c.args.i - c.offsets_at-offsets.result) % 4)) c.offset_of.ensures
    ∙ ap (λ a. byte_of q.endian 4 (offset_of q c.args.self.place ((c.args.i - a) / 4)) ((c.args.i - a) % 4)) c.offsets_at-offsets.ensures.value
    ∙ offset_byte q c.args.self.place c.args.i q.cut.kind refl
    (omega (arith, c.if-i-offsets.true, c.offsets_at-offsets.ensures.value))
    (omega (arith, c.if-i-counts.true, c.counts_at-counts.ensures.value))

pub returns-then-i-counts-3 : goal.returns-then-i-counts-3
returns-then-i-counts-3 c =
    let q = c.args.self.draft.outline in
    c.number_byte-then-i-counts-3.ensures
    ∙ ap (λ v. byte_of q.endian 4 v ((c.args.i - c.counts_at-counts.result) % 4)) c.count_of.ensures
    ∙ ap (λ a. byte_of q.endian 4 (segment_size q ((c.args.i - a) / 4)) ((c.args.i - a) % 4)) c.counts_at-counts.ensures.value
    ∙ count_byte q c.args.self.place c.args.i q.cut.kind refl
    (omega (arith, c.if-i-counts-2.true, c.counts_at-counts.ensures.value))
    (omega (arith, c.if-i-counts-3.true, c.counts_at-counts.ensures.value, c.longs_size.ensures.value))

pub returns-else-i-counts-2 : goal.returns-else-i-counts-2
returns-else-i-counts-2 c =
    let q = c.args.self.draft.outline in
    let i = c.args.i in
    let behind : bits_at q + bits_size q.kind ≤ i = omega (arith, c.if-i-bits.false, c.bits_at-bits.ensures, c.bits_size.ensures.value) in
    let no_offset : offsets_at q ≤ i → i < counts_at q → ⊥ = λ l m.
    ⊎_elim
    (λ w. omega (arith, w.1, c.counts_at-counts.ensures.value))
    (λ w. omega (arith, w, c.offsets_at-offsets.ensures.value))
    c.else-i-offsets.either in
    let no_count : counts_at q ≤ i → i < counts_at q + longs_size (segments_in q) → ⊥ = λ l m.
    elim c.else-i-counts-2.branch [
      | else-i-counts-2-via-then-i-counts-2+else-i-counts-3 w ↦ omega (arith, w.if-i-counts-3.false, w.longs_size.ensures.value, c.counts_at-counts.ensures.value)
      | else-i-counts-2-via-else-i-counts-2 w ↦ omega (arith, w.if-i-counts-2.false, c.counts_at-counts.ensures.value)
    ] in
    let here = ratio_left q i q.cut.kind refl behind c.requires.within no_offset no_count in
    c.number_byte-else-i-counts-2.ensures
    ∙ ap (λ a. byte_of q.endian 4 1 ((i - a) % 4)) c.ratios_at.ensures.value
    ∙ ratio_byte q c.args.self.place i q.cut.kind refl here.0 here.1
