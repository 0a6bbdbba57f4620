use Rattle.std.proofs.Common.{rules, ◌≡◌, ℕ, List, ◌++◌, Option, ap, ◌∙◌}
use borrow.Author.Tests.{tests}
use Rattle.std.specs.List.{slice_get}
use Rattle.std.specs.Option.{option_map, option_map_or}
use Rattle.std.proofs.lemmas.Iterator.{YieldsList-from_slice}
use Rattle.std.proofs.lemmas.Iterator.Consumers.{YieldsList-from_filter, YieldsList-from_enumerate, YieldsList-from_chain, nth_from_yields_List}
use Rattle.wire.specs.Choice.{same_side}
use Rattle.wire.specs.declared.record.Record.{Record}
use Rattle.wire.proofs.Choosing.{numbered, place, held_records, place_held}
use Rattle.wire.proofs.store.Store.find.Goals as goal

pub returns : goal.returns
returns c =
    let s = c.args.self.now in
    let side = c.args.side in
    let k = c.args.k in
    let none = c.count.result in
    let parts = c.as_slices.result in
    let all = YieldsList-from_enumerate (YieldsList-from_chain (YieldsList-from_slice parts.0.now cc) (YieldsList-from_slice parts.1.now cc) (cc) (cc)) (cc) in
    let found : option_map (λ p. (p.0, p.1.now)) c.nth.result ≡ slice_get (numbered side 0 (parts.0.now ++ parts.1.now)) k =
    nth_from_yields_List _ _ k c.nth.ensures.ran (YieldsList-from_filter _ (λ (q : ℕ × Record). same_side side q.1.side) all c.filter-places.ensures.closure (λ x r q k. search (rules, tests))) in
    let answered : c.map_or.result ≡ option_map_or (λ (q : ℕ × Record). q.0) (option_map (λ p. (p.0, p.1.now)) c.nth.result) none = search rules in
    answered
    ∙ ap (λ (o : Option (ℕ × Record)). option_map_or (λ (q : ℕ × Record). q.0) o none) found
    ∙ ap (λ (rs : List Record). place side 0 rs k none) (c.as_slices.ensures.items ∙ held_records s)
    ∙ place_held side s k none c.count.ensures
