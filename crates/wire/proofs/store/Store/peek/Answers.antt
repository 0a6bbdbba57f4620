use Rattle.std.proofs.Common.{◌≡◌, ℕ, List, [], map, get_or, Some, sym, ap, ◌∙◌, arith}
use Rattle.wire.specs.Content.{content}
use Rattle.wire.specs.declared.slot.Slot.{Slot}
use Rattle.wire.proofs.Reading.{slot_within, held_at, bytes_at}
use Rattle.wire.proofs.store.Store.peek.Goals as goal

pub listed : goal.listed
listed c =
    let s = c.args.self.now in
    let w = s.wide in
    let l = slot_within s c.args.distance c.in_ok-record.record.now c.in_ok-record.ensures in
    omega arith

pub bounds-self-record : goal.bounds-self-record
bounds-self-record c = slot_within c.args.self.now c.args.distance c.in_ok-record.record.now c.in_ok-record.ensures

pub returns : goal.returns
returns c =
    let slots = c.args.self.now.slots in
    let r = c.in_ok-record.record.now in
    let t : Slot = get_or slots r.slot c.index-self-record.result in
    let is : t ≡ get_or slots r.slot t = ap (get_or slots r.slot) c.index-self-record.is in
    let bytes = c.frame-bytes.ensures ∙ sym (bytes_at c.args.self.now c.args.distance r t c.in_ok-record.ensures is) in
    ap (λ (bs : List ℕ). Some (record { side = r.side; bytes = bs; age = c.age.result })) bytes
    ∙ ap (λ (a : ℕ). Some (record { side = r.side; bytes = get_or (map content slots) r.slot []; age = a })) c.age.ensures
    ∙ sym (held_at c.args.self.now c.args.distance (Some r) c.in_ok-record.ensures)
