use Rattle.std.proofs.Common.{arith}
use Rattle.frame.proofs.Meaning.{means}
use Rattle.frame.proofs.reader.read.Goals as goal

pub returns-clause-meaning : goal.returns-clause-meaning
returns-clause-meaning c = means c.args.bytes.now (λ i. omega (arith, c.type_inv.bytes i)) _ c.parse.ensures
