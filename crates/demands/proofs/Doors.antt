-- The round trip at the doors for C: what is coded through one door, in a used layer of any good record, and received
-- through the other, in a layer of a started record, comes back, byte for byte.
--     coding_goes_on      the coding door's calls are done, and its carriers and states are the run's
--     doors_come_back     so the receiving door's calls are done, and give the packets
use mathlib.Core.Path.{◌≡◌, refl, sym, ap, ◌∙◌, subst}
use mathlib.Core.Bool.{Bool, true, false}
use mathlib.Core.List.{List}
use Prim.Native.Nat.{ℕ, zero, suc}
use native.Mathlib.Omega.{arith}
use borrow.Author.Tests.{eq-eqb}
use Rattle.settings.specs.declared.Settings.{Settings}
use Rattle.std.specs.Prelude.{Ok}
use Rattle.settings.proofs.LegalSettings.{legal_settings}
use Rattle.layers.specs.Record.{Three, unused, layer_named, good_record}
use Rattle.layers.specs.Start.{no_layer, layer_of}
use Rattle.layers.specs.Areas.{record_in}
use Rattle.layers.proofs.Areas.{in_sized}
use Rattle.layers.proofs.Good.{used_good}
use Rattle.layers.proofs.RecordBytes.{sized_named}
use Rattle.layers.proofs.StartAreas.{started_in}
use Rattle.layers.proofs.Starts.{no_segments, started_good, started_used, started_fresh}
use Rattle.coding_state.specs.declared.State.{State}
use Rattle.coding_state.proofs.Good.{good_legal}
use Rattle.coding_answers.specs.Coding.{coding}
use Rattle.coding_answers.specs.Layers.{coding_kind}
use Rattle.coding_answers.specs.Entries.{code, coding_call, coding_lent}
use Rattle.coding_answers.proofs.Layers.{coding_lawful, entries_lawful}
use Rattle.receiving_state.specs.declared.State.{State as Receiving}
use Rattle.receiving_answers.specs.Entry.{Received}
use Rattle.receiving_state.specs.State.{fresh_receiving_state}
use Rattle.receiving_answers.specs.Receiving.{receiving, count_received, state_received, receiving_state_behind}
use Rattle.receiving_answers.specs.Entry.{Back}
use Rattle.receiving_answers.specs.Layers.{receiving_kind, handed, goes_back}
use Rattle.receiving_answers.specs.Entries.{back, receiving_call, receiving_lent}
use Rattle.receiving_answers.proofs.Layers.{receiving_lawful, entries_lawful as back_lawful}
use Rattle.demands.specs.Frames.{coder_at, carriers_at, receiver_at, Packets, Sending}
use Rattle.demands.specs.Doors.{CodingCalls, ReceivingCalls, CameThrough}
use Rattle.demands.proofs.InTurn.{LayerIs, InTurn, call_in_turn}
use Rattle.demands.proofs.Whole.{code_done, code_leaves, run_accepted}
use Rattle.demands.proofs.Joins.{joining_comes_back}

module _ (name there : ℕ) (packets room area carriers : ℕ → List ℕ) (number : ℕ → ℕ)
    (good : good_record coding_kind (record_in coding_kind (area 0)) ≡ true)
    (used : unused coding_kind (layer_named coding_kind (record_in coding_kind (area 0)) name) ≡ false) where
  abbrev start : State
  start = layer_named coding_kind (record_in coding_kind (area 0)) name

  abbrev settings : Settings
  settings = start.settings

  sending : Sending start
  sending = record {
    good = (used_good coding_lawful (record_in coding_kind (area 0)) good name used).good;
    lines_long =
        (sized_named coding_lawful (record_in coding_kind (area 0)) (in_sized coding_lawful (area 0)) name).lines_long;
  }

  module _ (calls : CodingCalls settings name packets room area carriers number) (given : Packets settings packets)
    where
      done : (f : ℕ) → coding (coder_at start packets f) (packets f) (room f) ≡ 0
      done f = code_done start sending packets given f (room f) (calls.packets_long f) (calls.room_long f)

      -- call f, where the layer is the run's state before it
      coded_in_turn : (f : ℕ) → LayerIs coding_kind name (area f) (coder_at start packets f)
          → InTurn coding_kind (coding_call (code (packets f) (room f))) name (coder_at start packets f) (number f)
          (area (suc f)) (carriers f)
      coded_in_turn f here =
          call_in_turn coding_call coding_lent entries_lawful name (calls.between f) (calls.elsewhere f)
          (code (packets f) (room f)) (area f) (coder_at start packets f) here (number f) (area (suc f)) (carriers f)
          (calls.call f)

      goes_on : (f : ℕ) → LayerIs coding_kind name (area f) (coder_at start packets f)
      unfolding coder_at
      goes_on zero = record { good = good; used = used; state_is = refl }
      goes_on (suc f) =
          let next = code_leaves start sending packets given f (room f) (calls.packets_long f) (calls.room_long f) in
          subst (LayerIs coding_kind name (area (suc f))) next.1 (coded_in_turn f (goes_on f)).next

      pub coding_goes_on : (f : ℕ) → (number f ≡ 0) × (carriers f ≡ carriers_at start packets f)
          × (layer_named coding_kind (record_in coding_kind (area f)) name ≡ coder_at start packets f)
      coding_goes_on f =
          let turn = coded_in_turn f (goes_on f) in
          let next = code_leaves start sending packets given f (room f) (calls.packets_long f) (calls.room_long f) in
          (turn.number_is ∙ done f, turn.left_is ∙ next.0, (goes_on f).state_is)

      -- ---- going back

      module _ (slots held filled : ℕ → List ℕ) (answer count : ℕ → ℕ)
          (calls_back : ReceivingCalls settings there carriers slots held filled answer count) where
        accepted : (f : ℕ) → receiving (receiver_at start packets f) (carriers_at start packets f) (slots f) ≡ 0
        accepted f = run_accepted start sending packets f (slots f) (calls_back.slots_long f)

        -- what a call leaves is the run's next state
        after : (f : ℕ) → state_received (receiver_at start packets f) (carriers_at start packets f) (slots f)
            ≡ receiving_state_behind (receiver_at start packets f) (carriers_at start packets f)
        after f =
            unfold state_received in
            rw (eq-eqb (receiving (receiver_at start packets f) (carriers_at start packets f) (slots f)) 0 (accepted f))
            refl

        -- the layer is a used one, since legal settings have a segment
        layer_used : (none : Bool) → no_layer (layer_of calls_back.layers there) ≡ none → none ≡ false
        layer_used false is = refl
        layer_used true is =
            let no = no_segments (layer_of calls_back.layers there) is in
            let same = ap (λ (s : Settings). s.segments) calls_back.settings_are in
            let some = (legal_settings settings (good_legal start sending.good)).some in
            absurd (omega arith)

        first : LayerIs receiving_kind there (held 0) (fresh_receiving_state settings)
        first =
            let layers = calls_back.layers in
            let starts = calls_back.starts in
            let is-used = layer_used _ refl in
            let begun = ap (record_in receiving_kind) calls_back.begun
            ∙ started_in receiving_lawful layers calls_back.before calls_back.before_long in
            record {
              good = ap (good_record receiving_kind) begun ∙ started_good receiving_lawful layers starts;
              used = ap (λ (r : Three Receiving). unused receiving_kind (layer_named receiving_kind r there)) begun
                  ∙ started_used receiving_lawful layers starts there is-used;
              state_is = ap (λ (r : Three Receiving). layer_named receiving_kind r there) begun
                  ∙ started_fresh receiving_lawful layers starts there is-used
                  ∙ ap fresh_receiving_state calls_back.settings_are;
            }

        -- call f, where the layer is the run's state before it
        received_in_turn : (f : ℕ) → LayerIs receiving_kind there (held f) (receiver_at start packets f)
            → InTurn receiving_kind (goes_back (carriers_at start packets f) (slots f)) there (receiver_at start
            packets f)
            (answer f) (held (suc f)) (handed (filled f) (count f))
        received_in_turn f here =
            subst (λ (c : List ℕ). InTurn receiving_kind (goes_back c (slots f)) there (receiver_at start packets f)
            (answer f) (held (suc f)) (handed (filled f) (count f))) (coding_goes_on f).1
            (call_in_turn receiving_call receiving_lent back_lawful there (calls_back.between f)
            (calls_back.elsewhere f) (back (carriers f) (slots f)) (held f) (receiver_at start packets f) here
            (answer f) (held (suc f))
            (handed (filled f) (count f)) (calls_back.call f))

        receiver_goes_on : (f : ℕ) → LayerIs receiving_kind there (held f) (receiver_at start packets f)
        unfolding receiver_at
        receiver_goes_on zero = first
        receiver_goes_on (suc f) =
            subst (LayerIs receiving_kind there (held (suc f))) (after f)
            (received_in_turn f (receiver_goes_on f)).next

        -- the call of the door is one of the entry
        abbrev received : ℕ → Received
        received f =
            record {
              answer = Ok tt;
              given = count_received (receiver_at start packets f) (carriers_at start packets f) (slots f);
              state = state_received (receiver_at start packets f) (carriers_at start packets f) (slots f);
            }

        entry : (f : ℕ)
            → Back (receiver_at start packets f) (carriers_at start packets f) (slots f) (received f) (filled f)
        entry f =
            record {
              answer_is = sym (accepted f);
              given_is = refl;
              state_is = refl;
              slots_are = (received_in_turn f (receiver_goes_on f)).left_is.slots_are;
              slots_stay = λ refused. absurd (refused (accepted f));
            }

        -- Whatever the coding state held, whatever was lent, and whatever was done in other layers: every packet comes
        -- back, of the first at most one byte corrected.
        pub doors_come_back : (f : ℕ) → CameThrough settings packets f (number f) (answer f) (count f) (filled f)
        doors_come_back f =
            let turn = received_in_turn f (receiver_goes_on f) in
            let came = joining_comes_back start sending packets given f (slots f) (calls_back.slots_long f)
            (received f) (filled f) (entry f) in
            record {
              coding_done = (coding_goes_on f).0;
              done = turn.number_is ∙ accepted f;
              given_is = turn.left_is.given_is ∙ came.given_is;
              slots_are = came.slots_are;
            }
