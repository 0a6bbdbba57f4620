use Rattle.std.proofs.Common.{◌≡◌, length, drop, Some, sym, ap, ◌∙◌, arith}
use Rattle.ring.specs.Span.{Span, spot, taken_at, rung}
use Rattle.ring.specs.Items.{span_of}
use Rattle.ring.proofs.Spans.{below_some, rung_shorter}
use Rattle.ring.proofs.ring.Ring.pop.Goals as goal

pub returns-clause-items : goal.returns-clause-items
returns-clause-items g c =
    let r = c.args.self.now in
    let s : Span = span_of r in
    let xs = c.args.slots.now in
    let long : length xs ≡ 64 = omega arith in
    let taken : Some c.in_ok-at.at ≡ taken_at s 0 = sym c.in_ok-at.was ∙ c.release.ensures.place in
    ap (rung xs) c.release.ensures.after
    ∙ sym (ap (drop 1) (rung_shorter xs s long r.start r.few c.index-slots-at.result (below_some 0 s.count (spot s 0) c.in_ok-at.at taken).0))
