-- What a call that isn't refused has been lent, and what it leaves once it has walked the word.
--     words_long               two words of 204 bytes
--     state_left, out_left     the state with the memory after the walk; the word behind the stream's first four bytes
use mathlib.Core.Path.{◌≡◌, refl, sym, ap, ◌∙◌}
use mathlib.Core.List.{List}
use Prim.Native.Nat.{ℕ, ◌+◌, ◌<◌}
use native.Mathlib.Omega.{arith}
use lib.Dec.{eqb}
use lib.ListN.{length, get_or, take, drop}
use Rattle.std.proofs.lemmas.List.{length-take-le, length-drop, get_or-take, get_or-drop}
use borrow.Author.Tests.{eq-eqb, eqb-true, le-ltb, lt-ltb}
use Rattle.lists.proofs.Bools.{and_both}
use Rattle.lists.specs.Tab.{tab}
use Rattle.lists.proofs.Tabs.{get_d_tab, length_tab, tab_ext}
use Rattle.settings.proofs.Refusals.{passed}
use Rattle.rules.specs.Dispersal.{dispersed}
use Rattle.rules.specs.Bytes.{waits_there, word_out, memory_after}
use Rattle.dispersing_interleaver.specs.Stream.{stream_after}
use Rattle.coding_state.specs.declared.State.{State}
use Rattle.coding_state.specs.State.{good_coding_state}
use Rattle.coding_answers.specs.SingleWords.{both_words, dispersing_interleaving}
use Rattle.coding_answers.specs.SingleWords.{dispersed_interleaved_into, state_dispersed_interleaved}

-- the word that comes out stands in the stream from byte 4 on
byte_out : (stream out : List ℕ) (j : ℕ) → j < 204 → get_or (stream_after stream out) (4 + j) 0 ≡ get_or out j 0
unfolding stream_after
byte_out stream out j less =
    get_d_tab 212 _ (4 + j) (omega arith)
    ∙ rw (le-ltb (4 + j) 4 (omega arith), lt-ltb (4 + j) 208 (omega arith))
    (ap (λ (k : ℕ). get_or out k 0) (omega arith))

length_out : (memory word : List ℕ) → length (word_out waits_there memory word) ≡ 204
length_out memory word = unfold word_out in length_tab 204 _

pub length_part : (stream : List ℕ) → length stream ≡ 212 → length (take 204 (drop 4 stream)) ≡ 204
length_part stream long =
    let behind : length (drop 4 stream) ≡ 208 = rw (length-drop 4 stream) (omega (arith, long)) in
    length-take-le 204 (drop 4 stream) (omega (arith, behind))

module _ (state : State) (place : ℕ) (word out : List ℕ) (done : dispersing_interleaving state place word out ≡ 0) where
  pub words_long : (length word ≡ 204) × (length out ≡ 204)
  words_long =
      unfold dispersing_interleaving in
      let fit = (passed 4 (both_words word out) _ (passed 6 (good_coding_state state) _ done).1).0 in
      let both = and_both (eqb (length word) 204) (eqb (length out) 204) fit in
      (eqb-true (length word) 204 both.0, eqb-true (length out) 204 both.1)

  module _ (goes_in : List ℕ) (is : goes_in ≡ dispersed place word) where
    abbrev comes_out : List ℕ
    comes_out = word_out waits_there state.memory goes_in

    pub state_left : (memory : List ℕ) → memory ≡ memory_after waits_there state.memory (λ b. get_or goes_in b 0) 1
        → record { settings = state.settings; memory = memory; register = state.register; lines = state.lines }
        ≡ state_dispersed_interleaved state place word out
    state_left memory moved =
        unfold state_dispersed_interleaved in
        rw (eq-eqb (dispersing_interleaving state place word out) 0 done, moved, is) refl

    pub out_left : (before stream : List ℕ) → length stream ≡ 212 → stream ≡ stream_after before comes_out
        → take 204 (drop 4 stream) ≡ dispersed_interleaved_into state place word out
    out_left before stream long walked =
        unfold dispersed_interleaved_into in
        rw (eq-eqb (dispersing_interleaving state place word out) 0 done, ← is)
        (tab_ext 204 _ _ (length_part stream long)
        (λ j less. get_or-take 204 (drop 4 stream) j 0 less ∙ get_or-drop 4 stream j 0
        ∙ ap (λ (l : List ℕ). get_or l (4 + j) 0) walked ∙ byte_out before comes_out j less)
        ∙ sym (tab_ext 204 _ comes_out (length_out state.memory goes_in) (λ j less. refl)))
