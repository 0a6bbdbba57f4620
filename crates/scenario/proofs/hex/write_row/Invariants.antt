use Rattle.std.proofs.Common.{◌≡◌, map, length, take}
use Rattle.scenario.specs.Hex.{pair_of}
use Rattle.scenario.proofs.hex.write_row.Given as goal

abbrev pub invariant-loop-i : goal.invariant-loop-i
invariant-loop-i g l = (length l.row ≡ 32) × (take l.i l.row ≡ map pair_of (take l.i l.bytes))
