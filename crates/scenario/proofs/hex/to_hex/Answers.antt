use Rattle.std.proofs.Common.{arith}
use Rattle.std.proofs.lemmas.Grind.{common_steps}
use Rattle.scenario.proofs.Hexing.{unhexed_hexed}
use Rattle.scenario.proofs.Typing.{read_typed}
use Rattle.scenario.proofs.hex.to_hex.Goals as goal

pub returns-clause-reads_back : goal.returns-clause-reads_back
returns-clause-reads_back c = grind (arith, common_steps, unhexed_hexed)

pub returns-clause-typed : goal.returns-clause-typed
returns-clause-typed c = grind (arith, common_steps, read_typed)
