use Rattle.std.proofs.Common.{ℕ, List, ◌++◌, sym, ap, ◌∙◌, append_assoc, rules}
use Rattle.std.specs.List.{flat_map}
use Rattle.std.proofs.Output.{has_written_append}
use Rattle.std.proofs.lemmas.Grind.{flat_map-append}
use Rattle.std.specs.Slice.Iter.{chunks_rest}
use Rattle.scenario.specs.Hex.{pair_of}
use Rattle.scenario.proofs.hex.HexDisplay.fmt.Goals as goal

pub loop-bytes-preserved : goal.loop-bytes-preserved
loop-bytes-preserved g c =
    let steps = c.in-Some.ensures.steps in
    let bytes = c.in-Some.bytes.now in (
      search rules,
      tt,
      steps.0 ∙ c.loop-bytes.invariant.2,
      λ plain.
          let so_far = c.loop-bytes.invariant.3 plain in (
            so_far.0 ++ flat_map pair_of bytes,
            has_written_append _ _ _ _ _ _ so_far.1 (search rules),
            append_assoc so_far.0 _ _
                ∙ ap (λ (t : List ℕ). so_far.0 ++ t)
                (sym (flat_map-append pair_of bytes (chunks_rest c.next.new.self)) ∙ ap (flat_map pair_of) (sym steps.1.0))
                ∙ so_far.2,
          ),
    )
