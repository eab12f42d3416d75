-- The outcomes of the correction.
use Rattle.std.proofs.Common.{◌≡◌, ℕ, ◌-◌, List, [], ◌∷◌, ◌∙◌, ap, inl, inr, take, drop, set, replicate, length, length-take, length-drop, length-set, length-append, append-nil, arith}
use Rattle.nearest.specs.SlotEntry.{given, refused}
use Rattle.slot.proofs.Filling.{behind, gives_word, gives_zeros}
use Rattle.slot.proofs.give.Goals as goal

pub returns-then-received-ne203 : goal.returns-then-received-ne203
returns-then-received-ne203 c = refused (inl c.if-received-ne203.true)

pub returns-then-slot-ne189 : goal.returns-then-slot-ne189
returns-then-slot-ne189 c = refused (inr c.if-slot-ne189.true)

pub slice_bounds-copy_from_slice-end-then-first-le-MOST : goal.slice_bounds-copy_from_slice-end-then-first-le-MOST
slice_bounds-copy_from_slice-end-then-first-le-MOST c =
    let copied = c.copy_from_slice in
    let long : length c.correct-found.new.word ≡ 204 =
    omega (arith, c.correct-found.auto.word, length-append copied.new.self [], copied.ensures.len) in
    simp length-take (omega arith)

pub copy_from_slice-requires-then-first-le-MOST : goal.copy_from_slice-requires-then-first-le-MOST
copy_from_slice-requires-then-first-le-MOST c =
    let copied = c.copy_from_slice in
    let long : length c.correct-found.new.word ≡ 204 =
    omega (arith, c.correct-found.auto.word, length-append copied.new.self [], copied.ensures.len) in
    simp (length-take, length-drop, length-set) (omega arith)

pub returns-then-first-le-MOST : goal.returns-then-first-le-MOST
returns-then-first-le-MOST c =
    let lw = c.if-received-ne203.false in
    let ls = c.if-slot-ne189.false in
    let first = c.first_byte-first.result in
    let asked = append-nil c.copy_from_slice.new.self ∙ c.copy_from_slice.ensures.after in
    let right = rw asked at c.correct-found.ensures in
    given _ lw ls (gives_word _ _ lw _ _ c.correct-found.result right c.first_byte-first.ensures c.if-first-le-MOST.true
    (behind c.args.slot.now _ first (omega arith)
    ∙ ap (λ (t : List ℕ). first ∷ t) c.copy_from_slice-then-first-le-MOST.ensures.after))

pub returns-else-first-le-MOST : goal.returns-else-first-le-MOST
returns-else-first-le-MOST c =
    let lw = c.if-received-ne203.false in
    let ls = c.if-slot-ne189.false in
    let slot = c.args.slot.now in
    let first = c.first_byte-first.result in
    let asked = append-nil c.copy_from_slice.new.self ∙ c.copy_from_slice.ensures.after in
    let right = rw asked at c.correct-found.ensures in
    let room : length (take (length (set slot 0 first) - 1) (drop 1 (set slot 0 first))) ≡ 188 =
    simp (length-take, length-drop, length-set) (omega arith) in
    given _ lw ls (gives_zeros _ _ lw _ _ c.correct-found.result right c.first_byte-first.ensures c.if-first-le-MOST.false
    (behind slot _ first (omega arith)
    ∙ ap (λ (t : List ℕ). first ∷ t)
    (c.fill.ensures.after (λ y h. h) ∙ ap (λ (n : ℕ). replicate n 0) room)))
