-- `received_bits::legal_count` meets its contract.
use Prim.Native.Nat.{◌≤◌}
use native.Mathlib.Omega.{arith}
use borrow.Author.Rules.{rules}
use Rattle.received_bits.proofs.LastWord.{Counted, counted, packets_few}
use Rattle.received_bits.proofs.legal_count.Statement.{statement}
use Rattle.received_bits.proofs.legal_count.Tie as tie

few : (c : tie.After-packets-packets) → (12 ≤ c.packets-packets.result) × (c.packets-packets.result ≤ 3276)
few c = packets_few _ c.requires _ c.packets-packets.ensures

all : (c : tie.After-carriers) → Counted c.args.settings
    c.kept_below-last.result c.carriers.result
all c =
    counted _ c.requires _ _ _ c.packets-packets.ensures c.kept_below-last.ensures
    c.carriers.ensures

pub legal_count_spec : {M : Type 1} → statement M
legal_count_spec =
    tie.close (tie.spec (λ c κs. search rules) (λ c. let n = (few c).0 in omega (arith, n))
    (λ c. let n = (few c).1 in omega (arith, n)) (λ c. let n = (few c).1 in omega (arith, n))
    (λ c κs. search rules) (λ c. search rules) (λ c κs. search rules)
    (λ c. let most = (all c).fits in omega (arith, most)) (λ c. (all c).first) (λ c. search rules)
    (λ c. (all c).second) (λ c. ((all c).is, (all c).few)))
