use Rattle.std.proofs.Common.{rules, ◌≡◌, get_or, length, ◌∙◌, arith}
use Rattle.std.proofs.lemmas.List.{get_or-map}
use Rattle.medium.specs.declared.side.Side.TheVariants.{Left}
use Rattle.wire.specs.declared.record.Record.{Record}
use Rattle.wire.proofs.Naming.{slot_of}
use Rattle.wire.proofs.record.numbered.Goals as goal

pub returns-clause-slots : goal.returns-clause-slots
returns-clause-slots c i within =
    let rs = c.from_fn.result in
    let none : Record = record { slot = 0; stamp = 0; side = Left } in
    let long : length rs ≡ 64 = c.from_fn.ensures.items.long in
    let made = c.from_fn.ensures.items.at i none within in
    let named : (get_or rs i none).slot ≡ i = search rules in
    get_or-map slot_of rs i none 0 (omega arith) ∙ named
