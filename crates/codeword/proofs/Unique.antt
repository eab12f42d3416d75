-- What `parity` may do is one thing alone.
--     parity_unique          any two results that `ParityOf` allows are equal
--     parity_only            the codeword with the message's 188 bytes is the only one
use mathlib.Core.Path.{◌≡◌, refl, sym, ap, ◌∙◌, subst}
use mathlib.Core.Logic.{⊎_elim}
use mathlib.Core.List.{List, ◌++◌}
use Prim.Native.Nat.{ℕ, ◌-◌}
use native.Mathlib.Omega.{arith}
use lib.ListN.{length, take, drop, length-drop, take-append-drop}
use lib.Seq.{length-take-le}
use Rattle.nearest.specs.Codeword.{Codeword}
use Rattle.codeword.specs.Parity.{ParityOf, parity, refused}
use Rattle.codeword.proofs.Message.{codeword_parity}

-- Any two results that the parity of a message may have are equal: the area it is put into, and the answer's number.
pub parity_unique : (m p x y : List ℕ) (r s : ℕ) → ParityOf m p x r → ParityOf m p y s → (x ≡ y) × (r ≡ s)
parity_unique m p x y r s (parity a lm lp la k) (parity b lm' lp' lb k') =
    (codeword_parity m a la k ∙ sym (codeword_parity m b lb k'), refl)
parity_unique m p x y r s (parity a lm lp la k) (refused ne) = absurd (⊎_elim (λ n. n lm) (λ n. n lp) ne)
parity_unique m p x y r s (refused ne) (parity b lm lp lb k) = absurd (⊎_elim (λ n. n lm) (λ n. n lp) ne)
parity_unique m p x y r s (refused ne) (refused ne') = (refl, refl)

-- A codeword that begins with the message is the message with its parity.
pub parity_only : (m p x c : List ℕ) → length p ≡ 16 → ParityOf m p x 0 → Codeword c → take 188 c ≡ m → c ≡ m ++ x
parity_only m p x c lp h k e =
    let parts : c ≡ m ++ drop 188 c = sym (take-append-drop 188 c) ∙ ap (λ (t : List ℕ). t ++ drop 188 c) e in
    let lm : length m ≡ 188 = sym (ap length e) ∙ length-take-le 188 c (omega (arith, k.long)) in
    let ld : length (drop 188 c) ≡ 16 = length-drop 188 c ∙ ap (λ (n : ℕ). n - 188) k.long in
    let q : ParityOf m p (drop 188 c) 0 = parity (drop 188 c) lm lp ld (subst Codeword parts k) in
    parts ∙ ap (λ (t : List ℕ). m ++ t) (parity_unique m p (drop 188 c) x 0 0 q h).0
