use Rattle.capture.proofs.Captured.{opened_captured}
use Rattle.capture.proofs.headers.file_header.Goals as goal

pub returns-clause-opens : goal.returns-clause-opens
returns-clause-opens c = opened_captured
