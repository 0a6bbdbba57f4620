-- The frame in a slot.
use Rattle.std.specs.Prelude.{ℕ, List, take}
use Rattle.wire.specs.declared.slot.Slot.{Slot}

abbrev pub content : Slot → List ℕ
content s = take s.filled s.bytes
