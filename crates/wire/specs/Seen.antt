-- A frame as a look at a wire tells it.
use Rattle.medium.specs.Waiting.{Waiting}
use Rattle.wire.specs.declared.waiting.WaitingFrame.{WaitingFrame}

abbrev pub seen : WaitingFrame → Waiting
seen f = record { side = f.side; bytes = f.bytes.now; age = f.age }
