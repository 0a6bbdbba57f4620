use Rattle.std.proofs.Common.{◌≡◌, length, Some, sym, ap, ◌∙◌, arith}
use Rattle.std.specs.List.{slice_get}
use Rattle.ring.specs.Span.{Span, taken_at}
use Rattle.ring.specs.Items.{span_of, items}
use Rattle.ring.proofs.Spans.{rung_set, nth_set_other}
use Rattle.ring.proofs.ring.Ring.set.Goals as goal

pub returns-clause-items : goal.returns-clause-items
returns-clause-items g c =
    let r = c.args.self.now in
    let s : Span = span_of r in
    let xs = c.args.slots.now in
    let i = c.args.distance in
    let long : length xs ≡ 64 = omega arith in
    let taken : Some c.in-Some.at ≡ taken_at s i = sym c.in-Some.is ∙ c.place.ensures in
    rung_set xs s long r.start r.few i c.in-Some.at c.args.x taken

pub returns-clause-others : goal.returns-clause-others
returns-clause-others g c = λ k ne. ap (λ l. slice_get l k) (returns-clause-items g c) ∙ nth_set_other (items c.args.self.now c.args.slots.now) c.args.distance k c.args.x ne
