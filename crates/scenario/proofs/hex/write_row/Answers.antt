use Rattle.std.proofs.Common.{◌≡◌, ◌∙◌, length, arith}
use Rattle.std.specs.List.{flat_map}
use Rattle.std.proofs.Output.{has_written_of_eq}
use Rattle.std.proofs.lemmas.Str.{IsUtf8-from_ascii}
use Rattle.scenario.specs.Hex.{pair_of}
use Rattle.scenario.proofs.Hexing.{pairs_ascii, row_is}
use Rattle.scenario.proofs.hex.write_row.Goals as goal

pub unreachable-requires : goal.unreachable-requires
unreachable-requires g c =
    let bytes = c.args.bytes.now in
    let all : c.loop-i.i ≡ length bytes = omega arith in
    let digits = c.as_flattened.ensures.value ∙ row_is c.loop-i.row bytes c.loop-i.i all c.loop-i.invariant.1 in
    c.in_default.ensures.cases.0 (rw digits (IsUtf8-from_ascii (flat_map pair_of bytes) (pairs_ascii bytes (λ i. let b = c.type_inv.bytes i in omega (arith, b)))))

pub returns : goal.returns
returns g c = λ plain ok.
    let bytes = c.args.bytes.now in
    let all : c.loop-i.i ≡ length bytes = omega arith in
    let digits = c.as_flattened.ensures.value ∙ row_is c.loop-i.row bytes c.loop-i.i all c.loop-i.invariant.1 in
    has_written_of_eq _ _ _ _ _ (c.in-Ok.ensures.cases.0 ∙ digits) (c.write_str.ensures.writes plain ok)
