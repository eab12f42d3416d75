use Rattle.std.proofs.Common.{◌≡◌, ◌+◌, ◌-◌, ℕ, List, length, get_or, take, drop, arith}
use Rattle.std.proofs.lemmas.List.{places}
use Rattle.lists.specs.Tab.{tab}
use Rattle.lists.proofs.Tabs.{tab_ext}
use Rattle.receiving_answers.specs.Receiving.{last_carriers}
use Rattle.receiver.proofs.frame.last_carriers.Goals as goal

copied : (carriers : List ℕ) (from n m : ℕ) → from + n ≡ length carriers → m ≡ n
    → take m (drop from carriers) ≡ tab n (λ k. get_or carriers (from + k) 0)
copied carriers from n m room e = tab_ext n _ _ (grind (arith, places)) (λ k lt. grind (arith, places))

pub returns : goal.returns
returns c =
    let read = c.copy_from_slice.ensures.after in
    unfold last_carriers in
    rw read (copied c.args.carriers.now (length c.args.carriers.now - 120) 120 _ (omega arith) (omega arith))
