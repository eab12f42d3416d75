-- Parts of the programs' areas.
--     blank_part                             a part of an area of zeros
--     read_larger, read_short, read_part     a frame's line, read into the front of an area, by the tests
--     read_frame_is                          whether a line is a frame, where the area has room for every frame
--     read_small, read_room, read_bytes      what stands in the area then
--     long_wrong                             a line that is longer than any frame's
use mathlib.Core.Path.{◌≡◌, refl, sym, ap, ap₂, ◌∙◌}
use mathlib.Core.Bool.{Bool, true, false, cond, ◌&&◌}
use mathlib.Core.List.{List, ◌++◌}
use Prim.Native.Nat.{ℕ, ◌+◌, ◌-◌, ◌*◌, ◌≤◌, ◌<◌}
use native.Mathlib.Omega.{arith}
use lib.Dec.{leb}
use lib.ListN.{length, take, drop, replicate, length-take, length-append, length-replicate}
use lib.ListN.{replicate-append-replicate, take-append-drop}
use lib.Seq.{take_at}
use borrow.Author.Tests.{eqb-true, le-leb, lt-leb}
use borrow.Rule.Slice.PartMut.{mid_of, post_of}
use Rattle.lists.proofs.Bools.{and_both, and_left, and_no}
use Rattle.settings.specs.declared.Settings.{Settings}
use Rattle.hexadecimal.specs.Bytes.{writes, bytes_in, read_into}
use Rattle.hexadecimal.proofs.Bytes.{length_bytes}
use Rattle.text_lines.specs.First.{small, right_frame, frame_read, frame_into}
use Rattle.text_lines.proofs.Cuts.{long_not_written}

pub blank_part : (room count : ℕ) → count ≤ room → take {A = ℕ} count (replicate room 0) ≡ replicate count 0
blank_part room count few =
    let sum : count + (room - count) ≡ room = omega arith in
    ap (λ (n : ℕ). take {A = ℕ} count (replicate n 0)) (sym sum)
    ∙ ap (λ (l : List ℕ). take count l) (sym (replicate-append-replicate count (room - count) 0))
    ∙ take_at (replicate count 0) (replicate (room - count) 0) count (length-replicate {A = ℕ} count 0)

half : (count : ℕ) (line : List ℕ) → writes count line ≡ true → length (bytes_in line) ≡ count
half count line fine =
    unfold writes in let e = eqb-true (length line) (2 * count) (and_left _ _ fine) in
    length_bytes line ∙ omega (arith, e)

module _ (settings : Settings) (count : ℕ) (line : List ℕ) where
  -- a line that is longer than a frame's is none
  pub long_wrong : (small settings ≡ true → 2 * count < length line) → right_frame settings count line ≡ false
  unfolding right_frame
  long_wrong long = go (small settings) long
    where
      go : (b : Bool) → (b ≡ true → 2 * count < length line) → (b && writes count line) ≡ false
      go true h = long_not_written count line (h refl)
      go false h = refl

  module _ (area : List ℕ) where
    pub read_larger : small settings ≡ false → (false ≡ frame_read settings count line area)
        × (area ≡ frame_into settings count line area)
    unfolding frame_read frame_into right_frame
    read_larger e = rw (e, and_no (leb count (length area))) (refl, refl)

    pub read_short : length area < count → (false ≡ frame_read settings count line area)
        × (area ≡ frame_into settings count line area)
    read_short h = unfold frame_read frame_into in rw (lt-leb count (length area) h) (refl, refl)

    pub read_part : small settings ≡ true → count ≤ length area → (read : Bool) (part : List ℕ)
        → read ≡ writes (length (mid_of 0 (count - 0) area)) line → part ≡ read_into line (mid_of 0 (count - 0) area)
        → (read ≡ frame_read settings count line area)
        × (part ++ post_of 0 (count - 0) area ≡ frame_into settings count line area)
    unfolding frame_read frame_into right_frame read_into
    read_part fine room read part is left =
        let long : length (take (count - 0) area) ≡ count = length-take (count - 0) area ∙ omega arith in
        let same = ap (λ (n : ℕ). writes n line) long in
        rw (fine, le-leb count (length area) room) (
          is ∙ same,
          go (writes count line) (left ∙ ap (λ (b : Bool). cond b (bytes_in line) (take (count - 0) area)) same),
        )
      where
        go : (b : Bool) → part ≡ cond b (bytes_in line) (take (count - 0) area)
            → part ++ drop (count - 0) area ≡ cond b (bytes_in line ++ drop count area) area
        go true e = let all : count - 0 ≡ count = omega arith in ap₂ (λ (l : List ℕ) (n : ℕ). l ++ drop n area) e all
        go false e = ap (λ (l : List ℕ). l ++ drop (count - 0) area) e ∙ take-append-drop (count - 0) area

-- where the area has room for a frame of each small layer
module _ (settings : Settings) (count size most : ℕ) (line area : List ℕ) (same : count ≡ size)
    (few : small settings ≡ true → size ≤ most) (long : length area ≡ most) where
  read_is : frame_read settings count line area ≡ right_frame settings size line
  unfolding frame_read right_frame
  read_is = rw same (go (small settings) (λ e. let less = few e in omega arith))
    where
      go : (b : Bool) → (b ≡ true → size ≤ length area)
          → (leb size (length area) && (b && writes size line)) ≡ (b && writes size line)
      go true h = rw (le-leb size (length area) (h refl)) refl
      go false h = and_no (leb size (length area))

  module _ (read : Bool) (area' : List ℕ)
      (is : (read ≡ frame_read settings count line area) × (area' ≡ frame_into settings count line area)) where
    pub read_frame_is : (right : Bool) → read ≡ right → right_frame settings size line ≡ right
    read_frame_is right e = sym read_is ∙ sym is.0 ∙ e

    module _ (right : read ≡ true) where
      both : (small settings ≡ true) × (writes size line ≡ true)
      both = unfold right_frame in and_both (small settings) (writes size line) (read_frame_is true right)

      pub read_small : small settings ≡ true
      read_small = both.0

      whole : area' ≡ bytes_in line ++ drop count area
      whole = unfold frame_into in is.1 ∙ rw (sym is.0 ∙ right) refl

      pub read_room : count ≤ length area'
      read_room =
          omega (arith, ap length whole, length-append (bytes_in line) (drop count area), half size line both.1, same)

      pub read_bytes : take (count - 0) area' ≡ bytes_in line
      read_bytes =
          let all : length (bytes_in line) ≡ count - 0 = half size line both.1 ∙ omega arith in
          ap (λ (l : List ℕ). take (count - 0) l) whole ∙ take_at (bytes_in line) (drop count area) (count - 0) all
