use Rattle.std.proofs.Common.{rules, ◌≡◌, None, Some, refl, sym, ◌∙◌}
use Rattle.source_tokens.specs.Scans.{scan}
use Rattle.syntax_judge.specs.Faults.{IsSource, SyntaxFault}
use Rattle.cloud_parse.specs.Parse.{IsReadable}
use Rattle.cloud_parse.proofs.source.parse.Goals as goal

pub returns-in-Some : goal.returns-in-Some
returns-in-Some c =
    let readable : IsReadable c.args.text.now = record { bytes = search rules; brackets = search rules } in
    let fault : SyntaxFault c.args.text.now c.in-Some.at = search rules in
    record {
      readable = readable;
      none = λ p h.
          let source : IsSource c.args.text.now = (c.some_tree.ensures.source c.args.text.now).1 (h.whole, (p, h.spelled)) in
          absurd (search rules);
      place = (c.in-Some.at, fault, search rules);
    }
