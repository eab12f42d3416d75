-- A line of the output, put together part by part.
--     put_line       two digits, the digits of bytes and a line feed, in front of what stays
use mathlib.Core.Path.{◌≡◌, sym, ap, ap₂, ◌∙◌}
use mathlib.Core.List.{List, [], ◌∷◌, ◌++◌, append_assoc}
use Prim.Native.Nat.{ℕ, ◌+◌, ◌-◌, ◌*◌, ◌≤◌, ◌<◌}
use native.Mathlib.Omega.{arith}
use lib.ListN.{length, drop, set, length-append, length-drop, length-take}
use lib.Seq.{take_at, drop_at, set_at, drop-drop}
use borrow.Rule.Slice.PartMut.{mid_of, put_mid, post_of}
use Rattle.hexadecimal.specs.Digits.{digits_of}
use Rattle.hexadecimal.specs.Bytes.{digits_of_bytes}
use Rattle.hexadecimal.proofs.Places.{length_digits}
use Rattle.hexadecimal.proofs.Bytes.{length_digits_of_bytes}
use Rattle.text_lines.specs.Answer.{answer_text}

-- a part is put behind what stands written
put_next : (done rest part : List ℕ) (at count : ℕ) → length done ≡ at
    → put_mid at count (done ++ rest) part ≡ done ++ (part ++ drop count rest)
put_next done rest part at count e =
    ap₂ (λ (x y : List ℕ). x ++ (part ++ drop count y)) (take_at done rest at e) (drop_at done rest at e)

-- the line feed goes into the first place behind what stands written
set_behind : (done rest : List ℕ) (at value : ℕ) → length done ≡ at → 0 < length rest
    → set (done ++ rest) at value ≡ done ++ (value ∷ drop 1 rest)
set_behind done [] at value e some = absurd (omega arith)
set_behind done (x ∷ rest) at value e some = set_at done x rest value at e

pub put_line : (out first second bytes : List ℕ) (number : ℕ) → 2 * length bytes + 3 ≤ length out
    → first ≡ digits_of (length (mid_of 0 2 out)) number
    → second ≡ digits_of_bytes (length (mid_of 2 (2 * length bytes + 2 - 2) (first ++ post_of 0 2 out))) bytes
    → set (put_mid 2 (2 * length bytes + 2 - 2) (first ++ post_of 0 2 out) second) (2 * length bytes + 2) 10
    ≡ answer_text number bytes ++ drop (2 * length bytes + 3) out
put_line out first second bytes number room is-first is-second =
    unfold answer_text in let n = 2 * length bytes in
    let even : n + 2 - 2 ≡ n = omega arith in
    let one : first ≡ digits_of 2 number = is-first
    ∙ ap (λ (k : ℕ). digits_of k number) (simp (length-take, length-drop) (omega arith)) in
    let two : length first ≡ 2 = ap length one ∙ length_digits 2 number in
    let whole : length (first ++ drop 2 out) ≡ length out =
    length-append first (drop 2 out) ∙ omega (arith, two, length-drop 2 out) in
    let three : second ≡ digits_of_bytes n bytes = is-second
    ∙ ap (λ (k : ℕ). digits_of_bytes k bytes) (simp (length-take, length-drop) (omega (arith, whole))) in
    let four : length second ≡ n = ap length three ∙ length_digits_of_bytes n bytes in
    let done : List ℕ = first ++ second in
    let rest : List ℕ = drop (n + 2 - 2) (drop 2 out) in
    let long : length done ≡ n + 2 = length-append first second ∙ omega (arith, two, four) in
    let left : 0 < length rest = omega (arith, length-drop (n + 2 - 2) (drop 2 out), length-drop 2 out) in
    let sum : 2 + (n + 2 - 2 + 1) ≡ n + 3 = omega arith in
    let behind : drop 1 rest ≡ drop (n + 3) out = drop-drop 1 (n + 2 - 2) (drop 2 out)
    ∙ drop-drop (n + 2 - 2 + 1) 2 out ∙ ap (λ (k : ℕ). drop k out) sum in
    ap (λ (l : List ℕ). set l (n + 2) 10)
    (put_next first (drop 2 out) second 2 (n + 2 - 2) two ∙ sym (append_assoc first second rest))
    ∙ set_behind done rest (n + 2) 10 long left
    ∙ ap₂ (λ (l r : List ℕ). l ++ (10 ∷ r)) (ap₂ (λ (x y : List ℕ). x ++ y) one three) behind
    ∙ append_assoc (digits_of 2 number) (digits_of_bytes n bytes) (10 ∷ drop (n + 3) out)
    ∙ ap (λ (l : List ℕ). digits_of 2 number ++ l)
    (sym (append_assoc (digits_of_bytes n bytes) (10 ∷ []) (drop (n + 3) out)))
    ∙ sym (append_assoc (digits_of 2 number) (digits_of_bytes n bytes ++ (10 ∷ [])) (drop (n + 3) out))
