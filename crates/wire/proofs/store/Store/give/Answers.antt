use Rattle.std.proofs.Common.{◌≡◌, get_or, sym, ap, ◌∙◌, arith}
use Rattle.wire.specs.Content.{content}
use Rattle.wire.specs.declared.slot.Slot.{Slot}
use Rattle.wire.proofs.Reading.{slot_within, frame_some, laid_given}
use Rattle.wire.proofs.store.Store.give.Goals as goal

pub listed : goal.listed
listed c =
    let s = c.args.self.now in
    let w = s.wide in
    let l = slot_within s c.args.distance c.in_ok-record.record.now c.in_ok-record.ensures in
    omega arith

pub bounds-self-record : goal.bounds-self-record
bounds-self-record c = slot_within c.args.self.now c.args.distance c.in_ok-record.record.now c.in_ok-record.ensures

pub returns-clause-frame : goal.returns-clause-frame
returns-clause-frame c =
    let slots = c.args.self.now.slots in
    let at = c.in_ok-record.record.now.slot in
    let t : Slot = get_or slots at c.index-self-record.result in
    let is : t ≡ get_or slots at t = ap (get_or slots at) c.index-self-record.is in
    laid_given (content t) c.args.place.now c.give.new.place c.give.result c.give.ensures.length c.give.ensures.place
    ∙ sym (frame_some c.args.self.now c.args.distance c.in_ok-record.record.now t c.in_ok-record.ensures is)
