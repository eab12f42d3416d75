-- What is asked of the states in a record, and of a call over one of them, for the laws of records to hold. Coding
-- states and receiving states keep it, and so does each entry over them.
--     LawfulKind     of states: a good one isn't all zero, a fresh one is good, and bytes go there and back
--     none_set       an unused layer is unused
--     Lawful         of a call: refused, it leaves all; it keeps a state good, its settings, and its arrays' lengths;
--                    it has one result
use mathlib.Core.Path.{◌≡◌}
use mathlib.Core.Bool.{true, false}
use mathlib.Core.List.{List}
use Prim.Native.Nat.{ℕ}
use lib.ListN.{length, replicate}
use Rattle.lists.proofs.BitEntries.{zeros_fine}
use Rattle.settings.specs.declared.Settings.{Settings}
use Rattle.settings.specs.Legal.{starting}
use Rattle.layers.specs.Record.{Kind, unused, unused_layer}
use Rattle.layers.specs.Calls.{Call}

pub record LawfulKind (kind : Kind) : Type 1 where
  -- a state as the code has it: its arrays have their lengths
  pub Sized : kind.State → Type 0
  -- a good state
  pub good_used : (s : kind.State) → kind.good s ≡ true → unused kind s ≡ false
  -- a fresh one
  pub fresh_good : (settings : Settings) → starting settings ≡ 0 → kind.good (kind.fresh settings) ≡ true
  pub fresh_settings : (settings : Settings) → kind.settings (kind.fresh settings) ≡ settings
  pub fresh_sized : (settings : Settings) → Sized (kind.fresh settings)
  -- states as bytes
  pub of_sized : (area : List ℕ) → Sized (kind.state_of area)
  pub bytes_long : (s : kind.State) → Sized s → length (kind.bytes s) ≡ kind.size
  pub state_back : (s : kind.State) → Sized s → kind.state_of (kind.bytes s) ≡ s
  pub bytes_back : (area : List ℕ) → length area ≡ kind.size → kind.bytes (kind.state_of area) ≡ area
  pub zero_bytes : kind.bytes (unused_layer kind) ≡ replicate kind.size 0

pub none_set : {kind : Kind} → LawfulKind kind → unused kind (unused_layer kind) ≡ true
unfolding unused
none_set {kind} laws = rw laws.zero_bytes (zeros_fine _ kind.size)

pub record Lawful {kind : Kind} (laws : LawfulKind kind) {Lent : Type 0} (call : Call kind.State Lent) (lent : Lent)
    : Type 0 where
  -- refused
  pub refused_state : (s : kind.State) → (call.number s ≡ 0 → ⊥) → call.after s ≡ s
  pub refused_lent : (s : kind.State) → (call.number s ≡ 0 → ⊥) → (left : Lent) → call.Leaves s left → left ≡ lent
  -- whatever it answers
  pub keeps_good : (s : kind.State) → kind.good s ≡ true → kind.good (call.after s) ≡ true
  pub keeps_settings : (s : kind.State) → kind.settings (call.after s) ≡ kind.settings s
  pub keeps_sized : (s : kind.State) → laws.Sized s → laws.Sized (call.after s)
  pub one_result : (s : kind.State) (one two : Lent) → call.Leaves s one → call.Leaves s two → one ≡ two
