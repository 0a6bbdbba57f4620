use Rattle.ring.proofs.Bringing.{Lifted}
use Rattle.ring.proofs.ring.Ring.bring_forward.Given as goal

abbrev pub invariant-loop-at : goal.invariant-loop-at
invariant-loop-at g l = Lifted l.self l.initial.slots l.slots l.distance l.at
