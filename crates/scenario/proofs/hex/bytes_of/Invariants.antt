use Rattle.std.proofs.Common.{◌≡◌, length, vec_items}
use Rattle.scenario.specs.Hex.{before, paired}
use Rattle.scenario.proofs.hex.bytes_of.Given as goal

abbrev pub invariant-loop-rest : goal.invariant-loop-rest
invariant-loop-rest l = before (vec_items l.bytes) (paired l.rest) ≡ paired l.digits

abbrev pub decreases-loop-rest : goal.decreases-loop-rest
decreases-loop-rest l = length l.rest
