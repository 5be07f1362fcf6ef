-- The words of a tree are fit.
use Rattle.std.proofs.Common.{◌≡◌, sym, subst}
use Rattle.std.specs.Prelude.{List, [], ◌∷◌}
use Rattle.std.specs.List.{AllByRecursion}
use Rattle.source_tokens.specs.Scans.{IsToken}
use Rattle.source_tokens.specs.declared.token.Token.{Token}
use Rattle.source_tokens.specs.declared.token.Token.TheVariants.{Name, Number, Text, Fixed}
use Rattle.source_tree.specs.Limits.{IsTree, IsNumber, IsShort}
use Rattle.source_tree.specs.Programs.{SpellsProgram}
use Rattle.source_tree.specs.Words.{program_words, words_of, numbers_of, texts_of}
use Rattle.source_tree.specs.declared.program.Program.{Program}
use Rattle.kind_rules.specs.Words.{IsFitWord}

words_are_tokens : (u : List Token) → AllByRecursion IsToken u → AllByRecursion IsToken (words_of u)
words_are_tokens [] h = tt
words_are_tokens (Name x ∷ u) h = (h.0, words_are_tokens u h.1)
words_are_tokens (Number n ∷ u) h = (h.0, words_are_tokens u h.1)
words_are_tokens (Text bytes ∷ u) h = (h.0, words_are_tokens u h.1)
words_are_tokens (Fixed t ∷ u) h = words_are_tokens u h.1

within_limits : (u : List Token) → AllByRecursion IsToken u → AllByRecursion IsNumber (numbers_of u) → AllByRecursion IsShort (texts_of u) → AllByRecursion IsFitWord u
within_limits [] h n t = tt
within_limits (Name x ∷ u) h n t = (h.0, within_limits u h.1 n t)
within_limits (Number m ∷ u) h n t = (n.0, within_limits u h.1 n.1 t)
within_limits (Text bytes ∷ u) h n t = ((t.0, h.0), within_limits u h.1 n t.1)
within_limits (Fixed w ∷ u) h n t = (tt, within_limits u h.1 n t)

pub fit_words : ((p : Program) (tokens : List Token) → SpellsProgram p tokens → program_words p ≡ words_of tokens) → (p : Program) → IsTree p → AllByRecursion IsFitWord (program_words p)
fit_words spelled p h = within_limits (program_words p) (subst (AllByRecursion IsToken) (sym (spelled p h.spelled.0 h.spelled.1)) (words_are_tokens h.spelled.0 h.spelled.2)) h.within.numbers h.within.texts
