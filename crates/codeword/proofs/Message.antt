-- A message with its parity is a codeword, and no other bytes behind it make one.
--     parity_codeword                     the message and its parity are a codeword
--     codeword_parity                     sixteen bytes that make a codeword behind a message are its parity
--     ends_parity                         `parity` is right where the lengths are
--     done_parity                         what `parity` puts into the area is the parity
--     packet_codeword                     each packet of a run with its parity is a codeword
--     parities_done, parities_refused     the number that `parities` answers
use mathlib.Core.Path.{◌≡◌, refl, sym, ap, ap₂, ◌∙◌, subst}
use mathlib.Core.Bool.{true, false}
use mathlib.Core.List.{List, [], ◌∷◌, ◌++◌}
use Prim.Native.Nat.{ℕ, ◌+◌, ◌*◌, ◌<◌}
use native.Mathlib.Omega.{arith}
use lib.ListN.{length, get_or, length-append}
use lib.Seq.{ext_get_or}
use Rattle.field.specs.Field.{◌⊕◌, ◌⊗◌, power, value, Bytes}
use Rattle.field.proofs.Sum.{eq-of-⊕}
use Rattle.rules.specs.Word.{parity_of, packet_at}
use Rattle.remainder.specs.Packets.{parities_fit, parities_of}
use Rattle.field.proofs.Values.{value_append, bytes_of, byte_at}
use Rattle.remainder.proofs.Unique.{parity_roots}
use Rattle.remainder.proofs.Division.{parity_right, parity_is, length_parity}
use Rattle.rules.proofs.Packets.{length_packet, packet_lt}
use Rattle.remainder.proofs.Packets.{length_parities, parities_at}
use Rattle.lists.proofs.Tabs.{tab_ext}
use Rattle.nearest.specs.Codeword.{Codeword}
use Rattle.codeword.specs.Parity.{ParityOf, parity}
use Rattle.codeword.specs.Run.{taking_parities}

bytes_append : (m p : List ℕ) → Bytes m → Bytes p → Bytes (m ++ p)
bytes_append [] p bm bp = bp
bytes_append (a ∷ m) p bm bp = (bm.0, bytes_append m p bm.1 bp)

bytes_behind : (m p : List ℕ) → Bytes (m ++ p) → Bytes p
bytes_behind [] p b = b
bytes_behind (a ∷ m) p b = bytes_behind m p b.1

-- A message of 188 bytes with its parity behind it is a codeword.
pub parity_codeword : (message : List ℕ) → length message ≡ 188 → Bytes message
    → Codeword (message ++ parity_of message)
parity_codeword message long bytes = record {
  long = length-append message (parity_of message) ∙ ap₂ (λ (a b : ℕ). a + b) long (length_parity message);
  bytes = bytes_append message (parity_of message) bytes (bytes_of (parity_of message) (parity_right message).bytes);
  roots = parity_roots message (parity_of message) (parity_right message);
}

-- Sixteen bytes that make a codeword behind a message are its parity.
pub codeword_parity : (m p : List ℕ) → length p ≡ 16 → Codeword (m ++ p) → p ≡ parity_of m
codeword_parity m p l k = parity_is m p (record {
  long = l;
  bytes = λ n. byte_at p n (bytes_behind m p k.bytes);
  agree = λ j h. sym (eq-of-⊕ (value m (power 2 j) ⊗ power (power 2 j) 16) (value p (power 2 j))
      (ap (λ (n : ℕ). value m (power 2 j) ⊗ power (power 2 j) n ⊕ value p (power 2 j)) (sym l)
      ∙ sym (value_append m p (power 2 j)) ∙ k.roots j h));
})

-- What `parity` puts into the area is the parity: one packet's of a run of one.
one_packet : (m out : List ℕ) → length m ≡ 188 → length out ≡ 16 → parities_of m out ≡ parity_of m
unfolding packet_at
one_packet m out lm lo =
    ext_get_or 0 (parities_of m out) (parity_of m) (length_parities m out 1 lm lo ∙ sym (length_parity m))
    (λ j lt. ap (λ (i : ℕ). get_or (parities_of m out) i 0) {x = j} {y = 16 * 0 + j} (omega arith)
    ∙ parities_at m out 1 lm lo 0 j (omega arith) (omega (arith, length_parities m out 1 lm lo))
    ∙ ap (λ (l : List ℕ). get_or (parity_of l) j 0) (sym (tab_ext 188 (λ i. get_or m (188 * 0 + i) 0) m lm
    (λ i h. ap (λ (n : ℕ). get_or m n 0) {x = i} {y = 188 * 0 + i} (omega arith)))))

-- So it makes a codeword behind the message.
pub ends_parity : (m p p' : List ℕ) → length m ≡ 188 → length p ≡ 16 → ((k : ℕ) → get_or m k 0 < 256)
    → p' ≡ parities_of m p → ParityOf m p p' 0
ends_parity m p p' lm lp bm e =
    subst (λ (x : List ℕ). ParityOf m p x 0) (sym (e ∙ one_packet m p lm lp))
    (parity (parity_of m) lm lp (length_parity m) (parity_codeword m lm (bytes_of m bm)))

-- Where the parity of a message is done, the area holds what the division leaves.
pub done_parity : (m p p' : List ℕ) → ParityOf m p p' 0 → p' ≡ parity_of m
done_parity m p p' (parity q lm lp lq k) = codeword_parity m q lq k

-- ---- a run of packets

-- Each packet of a run of bytes with its parity behind it is a codeword.
pub packet_codeword : (packets : List ℕ) (p : ℕ) → ((k : ℕ) → get_or packets k 0 < 256)
    → Codeword (packet_at packets p ++ parity_of (packet_at packets p))
packet_codeword packets p bytes =
    parity_codeword (packet_at packets p) (length_packet packets p)
    (bytes_of (packet_at packets p) (packet_lt packets p bytes))

pub parities_done : (packets out : List ℕ) → true ≡ parities_fit packets out → 0 ≡ taking_parities packets out
parities_done packets out e = unfold taking_parities in rw (← e) refl

pub parities_refused : (packets out : List ℕ) → false ≡ parities_fit packets out → 5 ≡ taking_parities packets out
parities_refused packets out e = unfold taking_parities in rw (← e) refl
