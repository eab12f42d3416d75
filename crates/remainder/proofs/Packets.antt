-- The parities of a run of packets, packet by packet.
--     packet_part                      the part of the run that a turn lends is its packet
--     parities_more                    one packet more
--     packets_not_whole, other_room    where the lengths do not fit
--     parities_all                     where they do
--     parities_fit_is, parities_at     the lengths of n packets and their parities fit; what is then put where
use mathlib.Core.Path.{◌≡◌, refl, sym, ap, ap₂, ◌∙◌}
use mathlib.Core.Bool.{true, false}
use mathlib.Core.List.{List}
use Prim.Native.Nat.{ℕ, ◌+◌, ◌*◌, ◌-◌, ◌/◌, ◌%◌, ◌<◌, ◌≤◌}
use native.Mathlib.Decide.{dec_lt}
use native.Mathlib.Omega.{arith}
use lib.ListN.{length, get_or, take, drop}
use borrow.Author.Tests.{eq-eqb, ne_eqb}
use Rattle.lists.proofs.Tabs.{length_tab, get_d_tab}
use Rattle.lists.proofs.Fill.{Fill, fill_all}
use Rattle.rules.specs.Word.{parity_of, packet_at}
use Rattle.remainder.specs.Packets.{parity_byte, parities_fit, parities_of}
use Rattle.remainder.specs.Steps.{Put}
use Rattle.rules.proofs.Packets.{packet_part}

-- byte k of the parity of packet p, by its place among all
byte_at : (packets : List ℕ) (p k : ℕ) → 16 * p ≤ k → k < 16 * p + 16
    → get_or (parity_of (packet_at packets p)) (k - 16 * p) 0 ≡ parity_byte packets k
byte_at packets p k low high =
    unfold parity_byte in let packet : p ≡ k / 16 = omega arith in
    let byte : k - 16 * p ≡ k % 16 = omega arith in
    ap₂ (λ (n j : ℕ). get_or (parity_of (packet_at packets n)) j 0) packet byte

pub parities_more : (n : ℕ) (packets before bytes after : List ℕ) (p : ℕ) → 188 * p + 188 ≤ length packets
    → Fill n (parity_byte packets) (16 * p) before
    → bytes ≡ parity_of (take (188 * p + 188 - 188 * p) (drop (188 * p) packets))
    → Put (16 * p) 16 (λ k. get_or bytes k 0) before after → Fill n (parity_byte packets) (16 * (p + 1)) after
parities_more n packets before bytes after p h done is put = record {
  len = put.len ∙ done.len;
  done = λ k lt. elim (dec_lt k (16 * p)) [
    | yes less ↦ put.before k less ∙ done.done k less
    | no more ↦
        ap (λ (i : ℕ). get_or after i 0) {x = k} {y = 16 * p + (k - 16 * p)} (omega arith)
        ∙ put.done (k - 16 * p) (omega arith)
        ∙ ap (λ (l : List ℕ). get_or l (k - 16 * p) 0) (is ∙ ap parity_of (packet_part packets p h))
        ∙ byte_at packets p k (omega arith) (omega arith)
  ];
}

module _ (packets out : List ℕ) where
  pub packets_not_whole : (length packets ≡ 188 * (length packets / 188) → ⊥)
      → (false ≡ parities_fit packets out) × (out ≡ parities_of packets out)
  unfolding parities_of parities_fit
  packets_not_whole ne =
      let no = ne_eqb (length packets) (188 * (length packets / 188)) ne in (rw no refl, rw no refl)

  module _ (whole : length packets ≡ 188 * (length packets / 188)) where
    pub other_room : (length out ≡ 16 * (length packets / 188) → ⊥)
        → (false ≡ parities_fit packets out) × (out ≡ parities_of packets out)
    unfolding parities_of parities_fit
    other_room ne =
        let yes = eq-eqb (length packets) (188 * (length packets / 188)) whole in
        let no = ne_eqb (length out) (16 * (length packets / 188)) ne in
        (rw (yes, no) refl, rw (yes, no) refl)

    pub parities_all : (p : ℕ) (new : List ℕ) → length out ≡ 16 * (length packets / 188) → length packets / 188 ≤ p
        → Fill (length out) (parity_byte packets) (16 * p) new
        → (true ≡ parities_fit packets out) × (new ≡ parities_of packets out)
    unfolding parities_of parities_fit
    parities_all p new room end filled =
        let yes = eq-eqb (length packets) (188 * (length packets / 188)) whole in
        let fits = eq-eqb (length out) (16 * (length packets / 188)) room in (
          rw (yes, fits) refl,
          rw (yes, fits) (fill_all (length out) (parity_byte packets) filled (omega arith)),
        )

  module _ (n : ℕ) (whole : length packets ≡ 188 * n) (room : length out ≡ 16 * n) where
    pub parities_fit_is : parities_fit packets out ≡ true
    parities_fit_is =
        unfold parities_fit in let count = length packets / 188 in
        rw (eq-eqb (length packets) (188 * count) (omega arith), eq-eqb (length out) (16 * count) (omega arith)) refl

    pub length_parities : length (parities_of packets out) ≡ 16 * n
    unfolding parities_of
    length_parities = rw parities_fit_is (length_tab (length out) (parity_byte packets) ∙ room)

    pub parities_at : (p j : ℕ) → p < n → j < 16
        → get_or (parities_of packets out) (16 * p + j) 0 ≡ get_or (parity_of (packet_at packets p)) j 0
    parities_at p j h lt =
        unfold parities_of in let place : 16 * p + j - 16 * p ≡ j = omega arith in
        rw parities_fit_is (get_d_tab (length out) (parity_byte packets) (16 * p + j) (omega arith)
        ∙ sym (byte_at packets p (16 * p + j) (omega arith) (omega arith))
        ∙ ap (λ (i : ℕ). get_or (parity_of (packet_at packets p)) i 0) place)
