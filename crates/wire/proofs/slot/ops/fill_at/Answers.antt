use Rattle.std.proofs.Common.{map, set, ap, ◌∙◌}
use Rattle.std.proofs.lemmas.List.{map-set}
use Rattle.wire.specs.Content.{content}
use Rattle.wire.proofs.slot.ops.fill_at.Goals as goal

pub returns : goal.returns
returns c =
    let xs = c.args.slots.now in
    map-set content xs c.args.at c.fill.new.self ∙ ap (set (map content xs) c.args.at) c.fill.ensures
