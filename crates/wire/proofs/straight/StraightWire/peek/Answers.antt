use Rattle.std.proofs.Common.{rules, ◌≡◌, List, sym, ap, ◌∙◌}
use Rattle.std.proofs.lemmas.Option.{slice_get-map}
use Rattle.std.specs.List.{slice_get}
use Rattle.std.specs.Option.{option_map}
use Rattle.medium.specs.Waiting.{Waiting}
use Rattle.wire.specs.Frames.{held}
use Rattle.wire.specs.Seen.{seen}
use Rattle.wire.specs.Sided.{at}
use Rattle.wire.specs.Straight.{to}
use Rattle.wire.specs.declared.store.Store.{Store}
use Rattle.wire.proofs.Straightness.{queue_is}
use Rattle.wire.proofs.straight.StraightWire.peek.Goals as goal

pub returns : goal.returns
returns c =
    let w = c.args.self.now in
    let s = c.args.side in
    let i = c.args.distance in
    let addressed : option_map seen c.map.result ≡ option_map (to s) (option_map seen c.peek-frame.result) = search rules in
    addressed
    ∙ ap (option_map (to s)) (c.peek-frame.ensures ∙ ap (λ (t : Store). slice_get (held t) i) c.get.ensures)
    ∙ sym (slice_get-map (to s) (held (at s w.queues)) i)
    ∙ ap (λ (ws : List Waiting). slice_get ws i) (sym (queue_is w s))
