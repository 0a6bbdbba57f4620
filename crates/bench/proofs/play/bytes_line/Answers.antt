use Rattle.std.proofs.Common.{arith}
use Rattle.std.proofs.lemmas.Grind.{common_steps}
use Rattle.scenario.proofs.Typing.{read_typed}
use Rattle.bench.proofs.play.bytes_line.Goals as goal

pub returns-clause-typed : goal.returns-clause-typed
returns-clause-typed c = grind (arith, common_steps, read_typed)
