use Rattle.std.proofs.Common.{rules, ◌≡◌, slice_index, length, ap, sym, ◌∙◌}
use Rattle.source_tokens.specs.Terminals.{words_from, written_so}
use Rattle.source_tokens.proofs.Begun.{found_from, nothing_written}
use Rattle.source_tokens.proofs.words.reserved.Goals as goal

pub returns-in-Some : goal.returns-in-Some
returns-in-Some c =
    let first : c.in-Some.first.now ≡ slice_index c.args.word.now 0 = search rules in
    c.written_so.ensures ∙ ap (λ terminals. written_so terminals c.args.word.now) (c.words_from.ensures ∙ ap words_from first) ∙ found_from c.args.word.now

pub returns-in-None : goal.returns-in-None
returns-in-None c =
    let empty : length c.args.word.now ≡ 0 = search rules in
    sym (nothing_written c.args.word.now empty)
