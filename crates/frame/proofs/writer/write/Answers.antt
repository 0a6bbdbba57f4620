use Rattle.std.proofs.Common.{rules, ◌≡◌, true, drop, ap, ◌∙◌}
use Rattle.frame.specs.Fields.{Fields, fields}
use Rattle.frame.specs.Layout.{size}
use Rattle.frame.specs.Ranges.{in_range}
use Rattle.frame.specs.Reader.{frame_of}
use Rattle.frame.proofs.ReadBack.{reads_back}
use Rattle.frame.proofs.writer.write.Goals as goal

pub returns-clause-reads_back : goal.returns-clause-reads_back
returns-clause-reads_back c =
    let f : Fields = fields c.args.frame in
    let fits : in_range f ≡ true = search rules in
    ap frame_of c.write_fit.ensures.place ∙ reads_back f (drop (size f) c.args.place.now) fits
