-- A word's message, and what it leaves.
--     message_is     the message that the engine leaves for the lent part of the pairs
--     finish_is      what `finish` gives, from its parts
use mathlib.Core.Path.{◌≡◌, refl, ap, ◌∙◌}
use mathlib.Core.Bool.{Bool, true}
use mathlib.Core.List.{List}
use Prim.Native.Nat.{ℕ, ◌+◌, ◌-◌, ◌<◌, ◌≤◌}
use native.Mathlib.Omega.{arith}
use lib.ListN.{length, get_or, take, drop, length-drop}
use lib.Seq.{length-take-le, get_or-take, get_or-drop}
use borrow.Author.Tests.{lt-ltb}
use Rattle.lists.proofs.Tabs.{length_tab, tab_ext, get_d_tab}
use Rattle.lists.proofs.AllBelows.{all_yes}
use Rattle.rules.specs.Bytes.{waits_back, word_out, memory_after}
use Rattle.best_message.specs.Entry.{is_pair, accepted, message_after, MessageFound}
use Rattle.rules.specs.Back.{message_bytes, register_of}
use Rattle.receiver.specs.declared.words.Run.{Run}
use Rattle.receiving_answers.specs.Words.{message_of}
use Rattle.receiver.specs.Steps.{PairsIn, word_of_pairs, finished_by}

module _ (pairs : List ℕ) (lead : ℕ) (long : length pairs ≡ 1680) (few : lead ≤ 48) (good : PairsIn pairs) where
  part_is : take (lead + 1632 - lead) (drop lead pairs) ≡ word_of_pairs pairs lead
  part_is =
      unfold word_of_pairs in let size : lead + 1632 - lead ≡ 1632 = omega arith in
      ap (λ (n : ℕ). take n (drop lead pairs)) size
      ∙ tab_ext 1632 (λ i. get_or pairs (lead + i) 0) (take 1632 (drop lead pairs))
      (length-take-le 1632 (drop lead pairs) (omega (arith, length-drop lead pairs, long)))
      (λ i lt. get_or-take 1632 (drop lead pairs) i 0 lt ∙ get_or-drop lead pairs i 0)

  word_long : length (word_of_pairs pairs lead) ≡ 1632
  word_long = unfold word_of_pairs in length_tab 1632 _

  word_pair : (i : ℕ) → i < 1632 → is_pair (word_of_pairs pairs lead) i ≡ true
  unfolding is_pair word_of_pairs
  word_pair i lt = rw (get_d_tab 1632 (λ i. get_or pairs (lead + i) 0) i lt) (lt-ltb _ 9 (good.few (lead + i)))

  word_accepted : (register : ℕ) → register < 64 → accepted (word_of_pairs pairs lead) register 104512 1632 ≡ true
  unfolding accepted
  word_accepted register h =
      rw (word_long, lt-ltb register 64 h, all_yes 1632 (is_pair (word_of_pairs pairs lead)) word_pair) refl

  pub message_is : (register : ℕ) (table table' message message' : List ℕ) (r : Bool) → register < 64
      → length table ≡ 104512 → length message ≡ 1632
      → MessageFound (take (lead + 1632 - lead) (drop lead pairs)) register table message table' message' r
      → message' ≡ message_of (word_of_pairs pairs lead) register
  unfolding message_after message_of
  message_is register table table' message message' r h room size done =
      done.message_left ∙ ap (λ (l : List ℕ). message_after l register table message) part_is
      ∙ rw (room, size, word_accepted register h) refl

pub finish_is : (run : Run) (pairs message bytes memory word : List ℕ) (register : ℕ)
    → message ≡ message_of pairs run.register → bytes ≡ message_bytes message → register ≡ register_of message
    → memory ≡ memory_after waits_back run.memory (λ b. get_or bytes b 0) 1
    → word ≡ word_out waits_back run.memory bytes
    → record { run = record { memory = memory; register = register }; word = word } ≡ finished_by run pairs
unfolding finished_by
finish_is run pairs message bytes memory word register m b r a w = rw (a, w, r, b, m) refl
