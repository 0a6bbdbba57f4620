-- How many frames are in a store.
use Rattle.std.proofs.Common.{◌≤◌, length, map, arith}
use Rattle.std.proofs.lemmas.List.{length-map}
use Rattle.ring.specs.Items.{span_of, items}
use Rattle.ring.proofs.Spans.{length_rung}
use Rattle.wire.specs.Content.{content}
use Rattle.wire.specs.Frames.{held}
use Rattle.wire.specs.Records.{waiting_as}
use Rattle.wire.specs.declared.store.Store.{Store}

-- A store has 64 slots.
pub held_few : (s : Store) → length (held s) ≤ 64
held_few s =
    let n = length-map (items s.ring s.records) (waiting_as s.puts (map content s.slots)) in
    let c = length_rung s.records (span_of s.ring) s.places s.ring.start s.ring.few in
    let f = s.ring.few in
    omega arith
