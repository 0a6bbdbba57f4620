use Rattle.wire.proofs.Ordered.{in_order}
use Rattle.wire.proofs.straight.StraightWire.waiting.Goals as goal

pub returns-clause-order : goal.returns-clause-order
returns-clause-order c = in_order c.args.side c.args.self.now
