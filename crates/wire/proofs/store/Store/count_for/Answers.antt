use Rattle.std.proofs.Common.{◌≡◌, ◌+◌, List, ◌++◌, length, sym, ap, ◌∙◌, length-append, arith}
use Rattle.std.specs.List.{filter}
use Rattle.std.proofs.lemmas.Grind.{common_steps}
use Rattle.std.proofs.lemmas.List.Elements.{filter-append}
use Rattle.std.proofs.lemmas.List.Sums.{length-filter, count_by-le-length}
use Rattle.wire.specs.Choice.{same_side}
use Rattle.wire.specs.declared.record.Record.{Record}
use Rattle.wire.proofs.Choosing.{held_records, length_for_side}
use Rattle.wire.proofs.store.Store.count_for.Goals as goal

pub overflow_add-result : goal.overflow_add-result
overflow_add-result c = grind (arith, common_steps, length-filter, count_by-le-length)

pub returns : goal.returns
returns c =
    let s = c.args.self.now in
    let side = c.args.side in
    let parts = c.as_slices.result in
    let both = ap length (filter-append (λ (r : Record). same_side side r.side) parts.0.now parts.1.now) ∙ length-append (filter (λ (r : Record). same_side side r.side) parts.0.now) (filter (λ (r : Record). same_side side r.side) parts.1.now) in
    let counted : c.count_in.result + c.count_in-2.result ≡ length (filter (λ (r : Record). same_side side r.side) (parts.0.now ++ parts.1.now)) = omega (arith, both) in
    counted
    ∙ ap (λ (rs : List Record). length (filter (λ r. same_side side r.side) rs)) (c.as_slices.ensures.items ∙ held_records s)
    ∙ sym (length_for_side side s)
