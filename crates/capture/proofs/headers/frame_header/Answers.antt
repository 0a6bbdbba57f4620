use Rattle.std.proofs.Common.{ℕ, List, sym, subst}
use Rattle.capture.specs.Opened.{Continues}
use Rattle.capture.proofs.Captured.{captured_append}
use Rattle.capture.proofs.headers.frame_header.Goals as goal

pub returns-clause-continues : goal.returns-clause-continues
returns-clause-continues c =
    let a = c.args in
    let P : List ℕ → Type 0 = λ header. Continues a.number a.from a.length header in
    subst P (sym c.packet_header.ensures) (captured_append a.number a.from a.length)
