use Rattle.std.proofs.Common.{◌≡◌, ◌+◌, ◌%◌, ◌<◌, true, List, map, sym, refl, ap, ◌∙◌, subst, arith}
use Rattle.ring.specs.Span.{Span, rung}
use Rattle.ring.specs.Items.{span_of, items}
use Rattle.ring.proofs.Spans.{rung_released}
use Rattle.wire.specs.Content.{content}
use Rattle.wire.specs.declared.record.Record.{Record}
use Rattle.wire.specs.declared.store.Store.{Store}
use Rattle.wire.proofs.Ageing.{Passed, passed_stay, passed_goes}
use Rattle.wire.proofs.store.Store.pass.Goals as goal

-- The oldest frame is gone: what the ring then holds are the others.
goes : (s : Store) (low : s.puts < 65536) (after : Span) → after ≡ Rattle.ring.specs.Span.shorter (span_of s.ring) → true ≡ Rattle.wire.specs.Records.last_put s.puts (items s.ring s.records) → Passed s.puts ((s.puts + 1) % 65536) low refl (map content s.slots) (items s.ring s.records) (rung s.records after)
goes s low after e last =
    let released = rung_released s.records (span_of s.ring) s.places s.ring.start s.ring.few in
    subst (λ (l : List Record). Passed s.puts ((s.puts + 1) % 65536) low refl (map content s.slots) (items s.ring s.records) l) (sym (ap (rung s.records) e ∙ released))
    (passed_goes s.puts ((s.puts + 1) % 65536) low refl (map content s.slots) (items s.ring s.records) s.young (sym last))

pub invariant_of-self : goal.invariant_of-self
invariant_of-self c =
    let s = c.args.self.now in
    let p = goes s s.low (span_of c.release.new.self) c.release.ensures.after c.if-expired.ensures in
    record { places = s.places; wide = s.wide; slotted = s.slotted; single = s.single; low = omega arith; young = p.young }

pub invariant_of-self-else-expired : goal.invariant_of-self-else-expired
invariant_of-self-else-expired c =
    let s = c.args.self.now in
    let p = passed_stay s.puts ((s.puts + 1) % 65536) s.low refl (map content s.slots) (items s.ring s.records) s.young (sym c.if-expired.ensures) in
    record { places = s.places; wide = s.wide; slotted = s.slotted; single = s.single; low = omega arith; young = p.young }

pub returns-then-expired : goal.returns-then-expired
returns-then-expired c =
    let s = c.args.self.now in
    let p = goes s s.low (span_of c.release.new.self) c.release.ensures.after c.if-expired.ensures in
    record { older = p.is; aged = p.aged }

pub returns-else-expired : goal.returns-else-expired
returns-else-expired c =
    let s = c.args.self.now in
    let p = passed_stay s.puts ((s.puts + 1) % 65536) s.low refl (map content s.slots) (items s.ring s.records) s.young (sym c.if-expired.ensures) in
    record { older = p.is; aged = p.aged }
