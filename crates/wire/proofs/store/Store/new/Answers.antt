use Rattle.std.proofs.Common.{refl, ap, arith}
use Rattle.ring.specs.Span.{Span, rung}
use Rattle.wire.specs.Records.{falling}
use Rattle.wire.proofs.Naming.{numbered_slotted, numbered_single}
use Rattle.wire.proofs.store.Store.new.Goals as goal

pub invariant_of-result : goal.invariant_of-result
invariant_of-result c =
    let made = c.numbered.ensures in
    let rs = c.numbered.result in
    record {
      places = made.length;
      wide = refl;
      slotted = numbered_slotted rs made.length made.slots;
      single = numbered_single rs made.slots;
      low = omega arith;
      young = ap (λ (s : Span). falling 0 2048 (rung rs s)) c.new.ensures;
    }
