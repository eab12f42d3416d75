-- The word sent, laid end to end: the packet but for its first byte, the parity, and 47.
--     put_behind    a part that is copied in, and the element behind it
--     laid_is       .. and what stands there then is the word sent
use mathlib.Core.Path.{◌≡◌, refl, sym, ap, ◌∙◌}
use mathlib.Core.List.{List, [], ◌∷◌, ◌++◌}
use Prim.Native.Nat.{ℕ, ◌+◌, ◌-◌, ◌<◌}
use native.Mathlib.Decide.{dec_lt}
use native.Mathlib.Omega.{arith}
use lib.ListN.{length, get_or, set, drop}
use lib.Dec.{ltb}
use borrow.Author.Tests.{lt-ltb, le-ltb}
use borrow.Rule.Slice.PartMut.{put_mid}
use Rattle.std.proofs.lemmas.List.{append_assoc, length-append, take_at, drop_at, set_at, length-drop}
use Rattle.std.proofs.lemmas.Grind.{get_or_after_one}
use Rattle.lists.specs.Tab.{tab}
use Rattle.lists.proofs.Tabs.{tab_ext}
use Rattle.lists.proofs.Join.{get_d_first, get_d_second}
use Rattle.codeword.specs.Sent.{word_sent_at}
use Rattle.codeword.proofs.Sent.{at_packet, at_parity, at_sync}

module _ (a b i x y : ℕ) (front part back : List ℕ) (front_long : length front ≡ a) (part_long : length part ≡ b)
    (one_left : drop b back ≡ y ∷ []) (i_is : i ≡ a + b) where
  pub put_behind : set (put_mid a b (front ++ back) part) i x ≡ front ++ (part ++ x ∷ [])
  put_behind =
      let long : length (front ++ part) ≡ i = omega (arith, length-append front part) in
      rw (take_at front back a front_long, drop_at front back a front_long, one_left)
      (ap (λ (l : List ℕ). set l i x) (sym (append_assoc front part (y ∷ [])))
      ∙ set_at (front ++ part) y [] x i long ∙ append_assoc front part (x ∷ []))

module _ (packet parity : List ℕ) (packet_long : length packet ≡ 188) (parity_long : length parity ≡ 16) where
  pub laid_is : drop 1 packet ++ (parity ++ 0x47 ∷ []) ≡ tab 204 (word_sent_at packet parity)
  laid_is = tab_ext 204 _ _ long (λ j lt. byte j lt (dec_lt j 187) (dec_lt j 203))
    where
      front_long : length (drop 1 packet) ≡ 187
      front_long = length-drop 1 packet ∙ ap (λ (n : ℕ). n - 1) packet_long

      long : length (drop 1 packet ++ (parity ++ 0x47 ∷ [])) ≡ 204
      long =
          omega (
            arith,
            length-append (drop 1 packet) (parity ++ 0x47 ∷ []),
            length-append parity (0x47 ∷ []),
            front_long,
            parity_long,
          )

      byte : (j : ℕ) → j < 204 → Dec (j < 187) → Dec (j < 203)
          → get_or (drop 1 packet ++ (parity ++ 0x47 ∷ [])) j 0 ≡ word_sent_at packet parity j
      byte j lt (yes h) k =
          get_d_first (drop 1 packet) _ j (omega (arith, front_long)) ∙ get_or_after_one packet j 0
          ∙ ap (λ (i : ℕ). get_or packet i 0) (omega arith) ∙ at_packet packet parity j h
      byte j lt (no h) (yes k) =
          let place : 187 + (j - 187) ≡ j = omega arith in
          get_d_second (drop 1 packet) _ j (omega (arith, front_long))
          ∙ get_d_first parity _ (j - length (drop 1 packet)) (omega (arith, front_long, parity_long))
          ∙ ap (λ (n : ℕ). get_or parity (j - n) 0) front_long
          ∙ at_parity packet parity (j - 187) (omega arith) ∙ ap (word_sent_at packet parity) place
      byte j lt (no h) (no k) =
          let last : j ≡ 203 = omega arith in
          let none : 203 - length (drop 1 packet) - length parity ≡ 0 = omega (arith, front_long, parity_long) in
          rw last
          (get_d_second (drop 1 packet) _ 203 (omega (arith, front_long))
          ∙ get_d_second parity _ (203 - length (drop 1 packet)) (omega (arith, front_long, parity_long))
          ∙ ap (λ (n : ℕ). get_or (0x47 ∷ []) n 0) none
          ∙ at_sync packet parity)
