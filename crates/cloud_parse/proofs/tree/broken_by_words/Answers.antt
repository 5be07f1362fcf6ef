use Rattle.std.proofs.Common.{rules, ◌≡◌, List, sym, subst, true}
use Rattle.std.specs.Prelude.{IsTrue}
use Rattle.std.specs.List.{AllByRecursion}
use Rattle.source_tokens.specs.Scans.{tokens_of}
use Rattle.source_tree.specs.Limits.{IsNumber, IsShort}
use Rattle.source_tree.specs.Words.{numbers_of, texts_of}
use Rattle.cloud_parse.proofs.tree.broken_by_words.Goals as goal

pub returns-then-not-are_numbers_small : goal.returns-then-not-are_numbers_small
returns-then-not-are_numbers_small c = λ p h. (
  tt,
  λ k.
      let yes : IsTrue c.are_numbers_small.result = c.are_numbers_small.ensures.1 (subst (AllByRecursion IsNumber) (c.spelled_words.ensures.numbers p (tokens_of c.args.tokens.now) h) k) in
      absurd (search rules),
)

pub returns-then-not-are_texts_short : goal.returns-then-not-are_texts_short
returns-then-not-are_texts_short c = λ p h. (
  let small : AllByRecursion IsNumber (numbers_of (tokens_of c.args.tokens.now)) = c.are_numbers_small.ensures.0 (search rules) in
      subst (AllByRecursion IsNumber) (sym (c.spelled_words.ensures.numbers p (tokens_of c.args.tokens.now) h)) small,
  λ k.
      let yes : IsTrue c.are_texts_short.result = c.are_texts_short.ensures.1 (subst (AllByRecursion IsShort) (c.spelled_words.ensures.texts p (tokens_of c.args.tokens.now) h) k) in
      absurd (search rules),
)

pub returns : goal.returns
returns c = λ p h.
    let small : AllByRecursion IsNumber (numbers_of (tokens_of c.args.tokens.now)) = c.are_numbers_small.ensures.0 (search rules) in
    let short : AllByRecursion IsShort (texts_of (tokens_of c.args.tokens.now)) = c.are_texts_short.ensures.0 (search rules) in (
      subst (AllByRecursion IsNumber) (sym (c.spelled_words.ensures.numbers p (tokens_of c.args.tokens.now) h)) small,
      subst (AllByRecursion IsShort) (sym (c.spelled_words.ensures.texts p (tokens_of c.args.tokens.now) h)) short,
    )
