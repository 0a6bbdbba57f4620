use Rattle.std.proofs.Common.{◌≡◌, ◌≤◌, length, take}
use Rattle.std.specs.List.{filter}
use Rattle.wire.specs.Choice.{same_side}
use Rattle.wire.proofs.store.choice.count_in.Given as goal

abbrev pub invariant-loop-record : goal.invariant-loop-record
invariant-loop-record l = (l.count ≡ length (filter (λ r. same_side l.side r.side) (take l.record-index l.records))) × (l.count ≤ l.record-index)
