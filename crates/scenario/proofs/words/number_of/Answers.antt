use Rattle.std.proofs.Common.{arith}
use Rattle.std.proofs.lemmas.Grind.{common_steps}
use Rattle.scenario.proofs.Numbering.{number_read}
use Rattle.scenario.proofs.words.number_of.Goals as goal

pub returns : goal.returns
returns c = grind (arith, common_steps, number_read)
