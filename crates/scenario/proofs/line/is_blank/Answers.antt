use Rattle.std.proofs.Common.{◌&&◌, eqb, refl, ◌∙◌, rules, tests}
use Rattle.std.specs.List.{list_all}
use Rattle.std.proofs.lemmas.Iterator.Search.{all_from_yields_List}
use Rattle.std.proofs.lemmas.Iterator.Adapters.{YieldsList-from_bytes}
use Rattle.std.proofs.lemmas.List.Recursion.{same_from_clauses}
use Rattle.scenario.specs.Lines.{is_blank}
use Rattle.scenario.proofs.line.is_blank.Goals as goal

pub returns : goal.returns
returns c =
    all_from_yields_List (λ b. eqb b 32) _ _ c.all.result c.all.ensures.ran (YieldsList-from_bytes c.args.line.now c.bytes.ensures.rest) (λ x b q k. search (rules, tests))
    ∙ same_from_clauses (list_all (λ b. eqb b 32)) is_blank (λ b all. eqb b 32 && all) refl (λ _ _. refl) (λ _ _. refl) c.args.line.now
