use Rattle.std.proofs.Common.{List}
use Rattle.ring.specs.Items.{span_of}
use Rattle.wire.specs.declared.record.Record.{Record}
use Rattle.wire.proofs.Removing as removing
use Rattle.wire.proofs.store.Store.remove.Goals as goal

pub invariant_of-self : goal.invariant_of-self
invariant_of-self c =
    let s = c.args.self.now in
    let e = c.bring_forward.ensures in
    let ts : List Record = c.bring_forward.new.slots in
    let b = c.bring_forward.result in
    let i = c.args.distance in
    let apart = removing.apart s ts b i e.answer e.items e.places in
    let left = removing.left_released s ts b i e.answer e.items e.places c.if-bring_forward.true (span_of c.release.new.self) c.release.ensures.after in
    record {
      places = apart.places;
      wide = s.wide;
      slotted = apart.slotted;
      single = apart.single;
      low = s.low;
      young = removing.young s ts b i e.answer e.items e.places _ left;
    }

pub invariant_of-self-else-bring_forward : goal.invariant_of-self-else-bring_forward
invariant_of-self-else-bring_forward c =
    let s = c.args.self.now in
    let e = c.bring_forward.ensures in
    let ts : List Record = c.bring_forward.new.slots in
    let b = c.bring_forward.result in
    let i = c.args.distance in
    let apart = removing.apart s ts b i e.answer e.items e.places in
    let left = removing.left_same s ts b i e.answer e.items e.places c.if-bring_forward.false in
    record {
      places = apart.places;
      wide = s.wide;
      slotted = apart.slotted;
      single = apart.single;
      low = s.low;
      young = removing.young s ts b i e.answer e.items e.places _ left;
    }

pub returns-then-bring_forward : goal.returns-then-bring_forward
returns-then-bring_forward c =
    let s = c.args.self.now in
    let e = c.bring_forward.ensures in
    let ts : List Record = c.bring_forward.new.slots in
    let b = c.bring_forward.result in
    let i = c.args.distance in
    removing.waiting_left s ts b i e.answer e.items e.places _ (removing.left_released s ts b i e.answer e.items e.places c.if-bring_forward.true (span_of c.release.new.self) c.release.ensures.after)

pub returns-else-bring_forward : goal.returns-else-bring_forward
returns-else-bring_forward c =
    let s = c.args.self.now in
    let e = c.bring_forward.ensures in
    let ts : List Record = c.bring_forward.new.slots in
    let b = c.bring_forward.result in
    let i = c.args.distance in
    removing.waiting_left s ts b i e.answer e.items e.places _ (removing.left_same s ts b i e.answer e.items e.places c.if-bring_forward.false)
