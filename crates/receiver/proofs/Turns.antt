-- The numbers of the n-th word of a call, as `take_frame` has them.
--     Sizes, sizes_of     of the frame
--     Turn, turn_of       of the word
--     words_are           how many words there are
use mathlib.Core.Path.{◌≡◌, ap, ◌∙◌}
use mathlib.Core.Bool.{true}
use Prim.Native.Nat.{ℕ, ◌+◌, ◌-◌, ◌%◌, ◌<◌, ◌≤◌}
use native.Mathlib.Nat.{mod-lt, mod-eq_of_lt}
use native.Mathlib.Omega.{arith}
use lib.Dec.{ltb}
use borrow.Author.Tests.{ltb-true}
use Rattle.settings.specs.Sizes.{P}
use Rattle.settings.proofs.Frame.{frame_of_is}
use Rattle.receiving_state.specs.declared.State.{State}
use Rattle.receiving_answers.specs.Words.{word_number}
use Rattle.receiving_answers.specs.Receiving.{words_of, sent_place}
use Rattle.receiver.proofs.Runs.{Good}

pub record Sizes (packets taken : ℕ) : Type 0 where
  pub least : 12 ≤ packets
  pub most : packets ≤ 3276
  pub taken_few : taken ≤ 1

-- the word's number in its frame, and the place of the sent word that it finishes
abbrev pub number_at : ℕ → ℕ → ℕ → ℕ
number_at packets taken n = (n + packets - taken) % packets

pub record Turn (state : State) (packets n : ℕ) : Type 0 where
  pub less : number_at packets state.taken n < packets
  pub inside : number_at packets state.taken n < P state.settings
  pub is : number_at packets state.taken n ≡ word_number state n
  pub last : ltb n state.taken ≡ true → number_at packets state.taken n ≡ P state.settings - 1
  pub place : (number_at packets state.taken n + packets - 11) % packets ≡ sent_place state n

module _ (state : State) (good : Good state) (packets : ℕ) (e : packets ≡ P state.settings) where
  pub sizes_of : Sizes packets state.taken
  sizes_of =
      let frame = frame_of_is state.settings good.start in
      let few = good.taken in
      record {
        least = omega (arith, e, frame.packets_least);
        most = omega (arith, e, frame.packets_most);
        taken_few = omega (arith, few);
      }

  pub words_are : packets - 1 + state.taken ≡ words_of state
  words_are = unfold words_of in ap (λ (n : ℕ). n - 1 + state.taken) e

  pub turn_of : (n : ℕ) → Turn state packets n
  turn_of n =
      unfold word_number sent_place in let sizes = sizes_of in
      let least = sizes.least in
      let few = sizes.taken_few in
      let less : number_at packets state.taken n < packets = mod-lt (n + packets - state.taken) (omega arith) in
      record {
        less = less;
        inside = omega (arith, less, e);
        is = ap (λ (m : ℕ). number_at m state.taken n) e;
        last = λ early.
            let before = ltb-true n state.taken early in
            let first : n + packets - state.taken ≡ packets - 1 = omega arith in
            let short : packets - 1 < packets = omega arith in
            ap (λ (m : ℕ). m % packets) first ∙ mod-eq_of_lt short ∙ ap (λ (m : ℕ). m - 1) e;
        place = ap (λ (m : ℕ). (number_at m state.taken n + m - 11) % m) e;
      }
