use Rattle.std.proofs.Common.{rules, ◌≡◌, ◌≤◌, length, None, Some}
use Rattle.source_tokens.specs.Lexemes.{lexeme_at}
use Rattle.source_tokens.proofs.Splits.{no_more, at_end, goes_on, rest_of}
use Rattle.source_tokens.proofs.scanner.scan.Goals as goal

pub returns-in_default : goal.returns-in_default
returns-in_default c =
    let some : 1 ≤ length c.loop-rest.rest.now = search rules in
    let none : lexeme_at c.loop-rest.rest.now ≡ None = search rules in
    no_more c.args.text.now c.loop-rest.rest.now c.loop-rest.tokens c.loop-rest.line some none c.loop-rest.invariant

pub loop-rest-preserved : goal.loop-rest-preserved
loop-rest-preserved c =
    let some : 1 ≤ length c.loop-rest.rest.now = search rules in
    let is : lexeme_at c.loop-rest.rest.now ≡ Some c.in-Some.field-0 = search rules in
    goes_on c.args.text.now c.loop-rest.rest.now _ c.loop-rest.tokens _ c.loop-rest.line _ c.in-Some.field-0 some is (search rules) (search rules) (c.in_ok-push_token.ensures) (rest_of c.in-Some.field-0.length c.loop-rest.rest.now) (search rules) c.loop-rest.invariant

pub returns : goal.returns
returns c =
    let done : length c.loop-rest.rest.now ≡ 0 = search rules in
    at_end c.args.text.now c.loop-rest.rest.now c.loop-rest.tokens c.loop-rest.line done c.loop-rest.invariant
