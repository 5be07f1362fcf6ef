-- A text has one answer.
use Rattle.std.proofs.Common.{◌≡◌, ℕ, zero, suc, ◌<◌, ◌≤◌, List, refl, ap, sym, ◌∙◌, subst, arith, Option, Some, None}
use Rattle.std.specs.Prelude.{Result, Ok, Err, ◌↔◌, ◌≢◌, ◌⊎◌, length, nat_lt}
use mathlib.Core.Logic.{inl, inr}
use Rattle.std.specs.List.{AllByRecursion}
use Rattle.source_tokens.specs.Positions.{position_of}
use Rattle.source_tokens.specs.Scans.{scan, tokens_of}
use Rattle.source_tokens.specs.declared.position.Position.{Position}
use Rattle.source_tokens.specs.declared.token.Token.{Token}
use Rattle.source_tree.specs.Limits.{IsWithin}
use Rattle.source_tree.specs.Programs.{SpellsProgram}
use Rattle.source_tree.specs.declared.program.Program.{Program}
use Rattle.syntax_judge.specs.Faults.{SyntaxFault}
use Rattle.source_reader.specs.Lines.{item_lines}
use Rattle.cloud_parse.specs.Parse.{IsTreeOf, IsReadable, Keeps, KeepsBefore, BreaksFirst, TellsLimit, TellsSyntax, ParseAnswers, most_source_bytes, most_brackets}
use Rattle.cloud_parse.specs.declared.parsed.Parsed.{Parsed}
use Rattle.cloud_parse.specs.declared.fault.ParseFault.{ParseFault}
use Rattle.cloud_parse.specs.declared.fault.ParseFault.TheVariants as fault
use Rattle.cloud_parse.specs.declared.fault.Which.{Which}
use Rattle.cloud_parse.specs.declared.fault.Which.TheVariants as w

abbrev rank : Which → ℕ
rank w.Bytes = 0
rank w.Brackets = 1
rank w.Number = 2
rank w.Text = 3
rank w.Height = 4
rank w.Names = 5
rank w.Clients = 6
rank w.Steps = 7

-- a program that keeps the limits before one keeps each earlier one
earlier : (v u : Which) (p : Program) → rank u < rank v → KeepsBefore v p → Keeps u p
earlier w.Bytes w.Bytes p lt h = absurd (omega arith)
earlier w.Bytes w.Brackets p lt h = absurd (omega arith)
earlier w.Bytes w.Number p lt h = absurd (omega arith)
earlier w.Bytes w.Text p lt h = absurd (omega arith)
earlier w.Bytes w.Height p lt h = absurd (omega arith)
earlier w.Bytes w.Names p lt h = absurd (omega arith)
earlier w.Bytes w.Clients p lt h = absurd (omega arith)
earlier w.Bytes w.Steps p lt h = absurd (omega arith)
earlier w.Brackets w.Bytes p lt h = tt
earlier w.Brackets w.Brackets p lt h = absurd (omega arith)
earlier w.Brackets w.Number p lt h = absurd (omega arith)
earlier w.Brackets w.Text p lt h = absurd (omega arith)
earlier w.Brackets w.Height p lt h = absurd (omega arith)
earlier w.Brackets w.Names p lt h = absurd (omega arith)
earlier w.Brackets w.Clients p lt h = absurd (omega arith)
earlier w.Brackets w.Steps p lt h = absurd (omega arith)
earlier w.Number w.Bytes p lt h = tt
earlier w.Number w.Brackets p lt h = tt
earlier w.Number w.Number p lt h = absurd (omega arith)
earlier w.Number w.Text p lt h = absurd (omega arith)
earlier w.Number w.Height p lt h = absurd (omega arith)
earlier w.Number w.Names p lt h = absurd (omega arith)
earlier w.Number w.Clients p lt h = absurd (omega arith)
earlier w.Number w.Steps p lt h = absurd (omega arith)
earlier w.Text w.Bytes p lt h = tt
earlier w.Text w.Brackets p lt h = tt
earlier w.Text w.Number p lt h = h
earlier w.Text w.Text p lt h = absurd (omega arith)
earlier w.Text w.Height p lt h = absurd (omega arith)
earlier w.Text w.Names p lt h = absurd (omega arith)
earlier w.Text w.Clients p lt h = absurd (omega arith)
earlier w.Text w.Steps p lt h = absurd (omega arith)
earlier w.Height w.Bytes p lt h = tt
earlier w.Height w.Brackets p lt h = tt
earlier w.Height w.Number p lt h = h.0
earlier w.Height w.Text p lt h = h.1
earlier w.Height w.Height p lt h = absurd (omega arith)
earlier w.Height w.Names p lt h = absurd (omega arith)
earlier w.Height w.Clients p lt h = absurd (omega arith)
earlier w.Height w.Steps p lt h = absurd (omega arith)
earlier w.Names w.Bytes p lt h = tt
earlier w.Names w.Brackets p lt h = tt
earlier w.Names w.Number p lt h = h.0
earlier w.Names w.Text p lt h = h.1
earlier w.Names w.Height p lt h = h.2
earlier w.Names w.Names p lt h = absurd (omega arith)
earlier w.Names w.Clients p lt h = absurd (omega arith)
earlier w.Names w.Steps p lt h = absurd (omega arith)
earlier w.Clients w.Bytes p lt h = tt
earlier w.Clients w.Brackets p lt h = tt
earlier w.Clients w.Number p lt h = h.0
earlier w.Clients w.Text p lt h = h.1
earlier w.Clients w.Height p lt h = h.2
earlier w.Clients w.Names p lt h = h.3
earlier w.Clients w.Clients p lt h = absurd (omega arith)
earlier w.Clients w.Steps p lt h = absurd (omega arith)
earlier w.Steps w.Bytes p lt h = tt
earlier w.Steps w.Brackets p lt h = tt
earlier w.Steps w.Number p lt h = h.0
earlier w.Steps w.Text p lt h = h.1
earlier w.Steps w.Height p lt h = h.2
earlier w.Steps w.Names p lt h = h.3
earlier w.Steps w.Clients p lt h = h.4
earlier w.Steps w.Steps p lt h = absurd (omega arith)

ranked : (v u : Which) → rank v ≡ rank u → v ≡ u
ranked w.Bytes w.Bytes e = refl
ranked w.Bytes w.Brackets e = absurd (omega arith)
ranked w.Bytes w.Number e = absurd (omega arith)
ranked w.Bytes w.Text e = absurd (omega arith)
ranked w.Bytes w.Height e = absurd (omega arith)
ranked w.Bytes w.Names e = absurd (omega arith)
ranked w.Bytes w.Clients e = absurd (omega arith)
ranked w.Bytes w.Steps e = absurd (omega arith)
ranked w.Brackets w.Bytes e = absurd (omega arith)
ranked w.Brackets w.Brackets e = refl
ranked w.Brackets w.Number e = absurd (omega arith)
ranked w.Brackets w.Text e = absurd (omega arith)
ranked w.Brackets w.Height e = absurd (omega arith)
ranked w.Brackets w.Names e = absurd (omega arith)
ranked w.Brackets w.Clients e = absurd (omega arith)
ranked w.Brackets w.Steps e = absurd (omega arith)
ranked w.Number w.Bytes e = absurd (omega arith)
ranked w.Number w.Brackets e = absurd (omega arith)
ranked w.Number w.Number e = refl
ranked w.Number w.Text e = absurd (omega arith)
ranked w.Number w.Height e = absurd (omega arith)
ranked w.Number w.Names e = absurd (omega arith)
ranked w.Number w.Clients e = absurd (omega arith)
ranked w.Number w.Steps e = absurd (omega arith)
ranked w.Text w.Bytes e = absurd (omega arith)
ranked w.Text w.Brackets e = absurd (omega arith)
ranked w.Text w.Number e = absurd (omega arith)
ranked w.Text w.Text e = refl
ranked w.Text w.Height e = absurd (omega arith)
ranked w.Text w.Names e = absurd (omega arith)
ranked w.Text w.Clients e = absurd (omega arith)
ranked w.Text w.Steps e = absurd (omega arith)
ranked w.Height w.Bytes e = absurd (omega arith)
ranked w.Height w.Brackets e = absurd (omega arith)
ranked w.Height w.Number e = absurd (omega arith)
ranked w.Height w.Text e = absurd (omega arith)
ranked w.Height w.Height e = refl
ranked w.Height w.Names e = absurd (omega arith)
ranked w.Height w.Clients e = absurd (omega arith)
ranked w.Height w.Steps e = absurd (omega arith)
ranked w.Names w.Bytes e = absurd (omega arith)
ranked w.Names w.Brackets e = absurd (omega arith)
ranked w.Names w.Number e = absurd (omega arith)
ranked w.Names w.Text e = absurd (omega arith)
ranked w.Names w.Height e = absurd (omega arith)
ranked w.Names w.Names e = refl
ranked w.Names w.Clients e = absurd (omega arith)
ranked w.Names w.Steps e = absurd (omega arith)
ranked w.Clients w.Bytes e = absurd (omega arith)
ranked w.Clients w.Brackets e = absurd (omega arith)
ranked w.Clients w.Number e = absurd (omega arith)
ranked w.Clients w.Text e = absurd (omega arith)
ranked w.Clients w.Height e = absurd (omega arith)
ranked w.Clients w.Names e = absurd (omega arith)
ranked w.Clients w.Clients e = refl
ranked w.Clients w.Steps e = absurd (omega arith)
ranked w.Steps w.Bytes e = absurd (omega arith)
ranked w.Steps w.Brackets e = absurd (omega arith)
ranked w.Steps w.Number e = absurd (omega arith)
ranked w.Steps w.Text e = absurd (omega arith)
ranked w.Steps w.Height e = absurd (omega arith)
ranked w.Steps w.Names e = absurd (omega arith)
ranked w.Steps w.Clients e = absurd (omega arith)
ranked w.Steps w.Steps e = refl

stepped : (a b : ℕ) → (a < b) ⊎ (a ≡ b) ⊎ (b < a) → (suc a < suc b) ⊎ (suc a ≡ suc b) ⊎ (suc b < suc a)
stepped a b (inl h) = inl (omega arith)
stepped a b (inr (inl h)) = inr (inl (ap suc h))
stepped a b (inr (inr h)) = inr (inr (omega arith))

trichotomy : (a b : ℕ) → (a < b) ⊎ (a ≡ b) ⊎ (b < a)
trichotomy zero zero = inr (inl refl)
trichotomy zero (suc b) = inl (omega arith)
trichotomy (suc a) zero = inr (inr (omega arith))
trichotomy (suc a) (suc b) = stepped a b (trichotomy a b)

broken_once : (v u : Which) (p : Program) → KeepsBefore v p → ¬ Keeps v p → KeepsBefore u p → ¬ Keeps u p → (rank v < rank u) ⊎ (rank v ≡ rank u) ⊎ (rank u < rank v) → v ≡ u
broken_once v u p before_v broken_v before_u broken_u (inl h) = absurd (broken_v (earlier u v p h before_u))
broken_once v u p before_v broken_v before_u broken_u (inr (inl h)) = ranked v u h
broken_once v u p before_v broken_v before_u broken_u (inr (inr h)) = absurd (broken_u (earlier v u p h before_v))

-- what the laws say: tokens spell one tree, and a text has one fault
pub record Single : Type 0 where
  pub trees : (p q : Program) (tokens : List Token) → SpellsProgram p tokens → SpellsProgram q tokens → p ≡ q
  pub place : List ℕ → Option ℕ
  pub fault : (text : List ℕ) (at : ℕ) → SyntaxFault text at ↔ (place text ≡ Some at)

one_tree_of : Single → (text : List ℕ) (p q : Program) → IsTreeOf text p → IsTreeOf text q → p ≡ q
one_tree_of laws text p q h k = laws.trees p q (tokens_of (scan text).tokens) h.spelled k.spelled

breaks_once : Single → (text : List ℕ) (v u : Which) → BreaksFirst v text → BreaksFirst u text → v ≡ u
breaks_once laws text v u h k =
    let same : k.program ≡ h.program = one_tree_of laws text k.program h.program k.tree h.tree in
    broken_once v u h.program h.before h.broken (subst (KeepsBefore u) same k.before) (subst (λ p. ¬ Keeps u p) same k.broken) (trichotomy (rank v) (rank u))

limits_once : Single → (text : List ℕ) (v u : Which) → TellsLimit v text → TellsLimit u text → v ≡ u
limits_once laws text w.Bytes w.Bytes h k = refl
limits_once laws text w.Bytes w.Brackets h k = absurd (omega (arith, h, k.0))
limits_once laws text w.Bytes w.Number h k = absurd (omega (arith, h, k.readable.bytes))
limits_once laws text w.Bytes w.Text h k = absurd (omega (arith, h, k.readable.bytes))
limits_once laws text w.Bytes w.Height h k = absurd (omega (arith, h, k.readable.bytes))
limits_once laws text w.Bytes w.Names h k = absurd (omega (arith, h, k.readable.bytes))
limits_once laws text w.Bytes w.Clients h k = absurd (omega (arith, h, k.readable.bytes))
limits_once laws text w.Bytes w.Steps h k = absurd (omega (arith, h, k.readable.bytes))
limits_once laws text w.Brackets w.Bytes h k = absurd (omega (arith, h.0, k))
limits_once laws text w.Brackets w.Brackets h k = refl
limits_once laws text w.Brackets w.Number h k = absurd (omega (arith, h.1, k.readable.brackets))
limits_once laws text w.Brackets w.Text h k = absurd (omega (arith, h.1, k.readable.brackets))
limits_once laws text w.Brackets w.Height h k = absurd (omega (arith, h.1, k.readable.brackets))
limits_once laws text w.Brackets w.Names h k = absurd (omega (arith, h.1, k.readable.brackets))
limits_once laws text w.Brackets w.Clients h k = absurd (omega (arith, h.1, k.readable.brackets))
limits_once laws text w.Brackets w.Steps h k = absurd (omega (arith, h.1, k.readable.brackets))
limits_once laws text w.Number w.Bytes h k = absurd (omega (arith, k, h.readable.bytes))
limits_once laws text w.Number w.Brackets h k = absurd (omega (arith, k.1, h.readable.brackets))
limits_once laws text w.Number w.Number h k = breaks_once laws text w.Number w.Number h k
limits_once laws text w.Number w.Text h k = breaks_once laws text w.Number w.Text h k
limits_once laws text w.Number w.Height h k = breaks_once laws text w.Number w.Height h k
limits_once laws text w.Number w.Names h k = breaks_once laws text w.Number w.Names h k
limits_once laws text w.Number w.Clients h k = breaks_once laws text w.Number w.Clients h k
limits_once laws text w.Number w.Steps h k = breaks_once laws text w.Number w.Steps h k
limits_once laws text w.Text w.Bytes h k = absurd (omega (arith, k, h.readable.bytes))
limits_once laws text w.Text w.Brackets h k = absurd (omega (arith, k.1, h.readable.brackets))
limits_once laws text w.Text w.Number h k = breaks_once laws text w.Text w.Number h k
limits_once laws text w.Text w.Text h k = breaks_once laws text w.Text w.Text h k
limits_once laws text w.Text w.Height h k = breaks_once laws text w.Text w.Height h k
limits_once laws text w.Text w.Names h k = breaks_once laws text w.Text w.Names h k
limits_once laws text w.Text w.Clients h k = breaks_once laws text w.Text w.Clients h k
limits_once laws text w.Text w.Steps h k = breaks_once laws text w.Text w.Steps h k
limits_once laws text w.Height w.Bytes h k = absurd (omega (arith, k, h.readable.bytes))
limits_once laws text w.Height w.Brackets h k = absurd (omega (arith, k.1, h.readable.brackets))
limits_once laws text w.Height w.Number h k = breaks_once laws text w.Height w.Number h k
limits_once laws text w.Height w.Text h k = breaks_once laws text w.Height w.Text h k
limits_once laws text w.Height w.Height h k = breaks_once laws text w.Height w.Height h k
limits_once laws text w.Height w.Names h k = breaks_once laws text w.Height w.Names h k
limits_once laws text w.Height w.Clients h k = breaks_once laws text w.Height w.Clients h k
limits_once laws text w.Height w.Steps h k = breaks_once laws text w.Height w.Steps h k
limits_once laws text w.Names w.Bytes h k = absurd (omega (arith, k, h.readable.bytes))
limits_once laws text w.Names w.Brackets h k = absurd (omega (arith, k.1, h.readable.brackets))
limits_once laws text w.Names w.Number h k = breaks_once laws text w.Names w.Number h k
limits_once laws text w.Names w.Text h k = breaks_once laws text w.Names w.Text h k
limits_once laws text w.Names w.Height h k = breaks_once laws text w.Names w.Height h k
limits_once laws text w.Names w.Names h k = breaks_once laws text w.Names w.Names h k
limits_once laws text w.Names w.Clients h k = breaks_once laws text w.Names w.Clients h k
limits_once laws text w.Names w.Steps h k = breaks_once laws text w.Names w.Steps h k
limits_once laws text w.Clients w.Bytes h k = absurd (omega (arith, k, h.readable.bytes))
limits_once laws text w.Clients w.Brackets h k = absurd (omega (arith, k.1, h.readable.brackets))
limits_once laws text w.Clients w.Number h k = breaks_once laws text w.Clients w.Number h k
limits_once laws text w.Clients w.Text h k = breaks_once laws text w.Clients w.Text h k
limits_once laws text w.Clients w.Height h k = breaks_once laws text w.Clients w.Height h k
limits_once laws text w.Clients w.Names h k = breaks_once laws text w.Clients w.Names h k
limits_once laws text w.Clients w.Clients h k = breaks_once laws text w.Clients w.Clients h k
limits_once laws text w.Clients w.Steps h k = breaks_once laws text w.Clients w.Steps h k
limits_once laws text w.Steps w.Bytes h k = absurd (omega (arith, k, h.readable.bytes))
limits_once laws text w.Steps w.Brackets h k = absurd (omega (arith, k.1, h.readable.brackets))
limits_once laws text w.Steps w.Number h k = breaks_once laws text w.Steps w.Number h k
limits_once laws text w.Steps w.Text h k = breaks_once laws text w.Steps w.Text h k
limits_once laws text w.Steps w.Height h k = breaks_once laws text w.Steps w.Height h k
limits_once laws text w.Steps w.Names h k = breaks_once laws text w.Steps w.Names h k
limits_once laws text w.Steps w.Clients h k = breaks_once laws text w.Steps w.Clients h k
limits_once laws text w.Steps w.Steps h k = breaks_once laws text w.Steps w.Steps h k

-- a tree within the limits breaks none
within_keeps : (v : Which) (p : Program) → IsWithin p → Keeps v p
within_keeps w.Bytes p h = tt
within_keeps w.Brackets p h = tt
within_keeps w.Number p h = h.numbers
within_keeps w.Text p h = h.texts
within_keeps w.Height p h = h.height
within_keeps w.Names p h = h.names
within_keeps w.Clients p h = h.clients
within_keeps w.Steps p h = h.steps

no_limit : Single → (text : List ℕ) (v : Which) (p : Program) → IsReadable text → IsTreeOf text p → IsWithin p → TellsLimit v text → ⊥
no_limit laws text w.Bytes p readable tree within h = absurd (omega (arith, h, readable.bytes))
no_limit laws text w.Brackets p readable tree within h = absurd (omega (arith, h.1, readable.brackets))
no_limit laws text w.Number p readable tree within h = h.broken (within_keeps w.Number h.program (subst IsWithin (one_tree_of laws text p h.program tree h.tree) within))
no_limit laws text w.Text p readable tree within h = h.broken (within_keeps w.Text h.program (subst IsWithin (one_tree_of laws text p h.program tree h.tree) within))
no_limit laws text w.Height p readable tree within h = h.broken (within_keeps w.Height h.program (subst IsWithin (one_tree_of laws text p h.program tree h.tree) within))
no_limit laws text w.Names p readable tree within h = h.broken (within_keeps w.Names h.program (subst IsWithin (one_tree_of laws text p h.program tree h.tree) within))
no_limit laws text w.Clients p readable tree within h = h.broken (within_keeps w.Clients h.program (subst IsWithin (one_tree_of laws text p h.program tree h.tree) within))
no_limit laws text w.Steps p readable tree within h = h.broken (within_keeps w.Steps h.program (subst IsWithin (one_tree_of laws text p h.program tree h.tree) within))

no_syntax : (text : List ℕ) (v : Which) (position : Position) → TellsSyntax text position → TellsLimit v text → ⊥
no_syntax text w.Bytes position s h = absurd (omega (arith, h, s.readable.bytes))
no_syntax text w.Brackets position s h = absurd (omega (arith, h.1, s.readable.brackets))
no_syntax text w.Number position s h = s.none h.program h.tree
no_syntax text w.Text position s h = s.none h.program h.tree
no_syntax text w.Height position s h = s.none h.program h.tree
no_syntax text w.Names position s h = s.none h.program h.tree
no_syntax text w.Clients position s h = s.none h.program h.tree
no_syntax text w.Steps position s h = s.none h.program h.tree

one_position : Single → (text : List ℕ) (a b : Position) → TellsSyntax text a → TellsSyntax text b → a ≡ b
one_position laws text a b h k =
    let places : Some h.place.0 ≡ Some k.place.0 = sym ((laws.fault text h.place.0).0 h.place.1) ∙ (laws.fault text k.place.0).0 k.place.1 in
    let same : h.place.0 ≡ k.place.0 = cc places in
    h.place.2 ∙ ap (position_of text) same ∙ sym k.place.2

one_parsed : Single → (text : List ℕ) (a b : Parsed) → IsTreeOf text a.tree → IsTreeOf text b.tree → a.lines ≡ item_lines (scan text).tokens → b.lines ≡ item_lines (scan text).tokens → a ≡ b
one_parsed laws text a b h k la lb =
    ap (λ t. record { tree = t; lines = a.lines }) (one_tree_of laws text a.tree b.tree h k) ∙ ap (λ l. record { tree = b.tree; lines = l }) (la ∙ sym lb)

-- two answers other than want of memory are one
pub one_answer : Single → (text : List ℕ) (a b : Result Parsed ParseFault) → ParseAnswers text a → ParseAnswers text b → a ≢ Err fault.Memory → b ≢ Err fault.Memory → a ≡ b
one_answer laws text (Ok a) (Ok b) h k na nb = ap Ok (one_parsed laws text a b h.1 k.1 h.3 k.3)
one_answer laws text (Ok a) (Err (fault.Limit v)) h k na nb = absurd (no_limit laws text v a.tree h.0 h.1 h.2 k)
one_answer laws text (Ok a) (Err (fault.Syntax line column)) h k na nb = absurd (k.none a.tree h.1)
one_answer laws text (Ok a) (Err fault.Memory) h k na nb = absurd (nb refl)
one_answer laws text (Err (fault.Limit v)) (Ok b) h k na nb = absurd (no_limit laws text v b.tree k.0 k.1 k.2 h)
one_answer laws text (Err (fault.Limit v)) (Err (fault.Limit u)) h k na nb = ap (λ x. Err (fault.Limit x)) (limits_once laws text v u h k)
one_answer laws text (Err (fault.Limit v)) (Err (fault.Syntax line column)) h k na nb = absurd (no_syntax text v _ k h)
one_answer laws text (Err (fault.Limit v)) (Err fault.Memory) h k na nb = absurd (nb refl)
one_answer laws text (Err (fault.Syntax line column)) (Ok b) h k na nb = absurd (h.none b.tree k.1)
one_answer laws text (Err (fault.Syntax line column)) (Err (fault.Limit u)) h k na nb = absurd (no_syntax text u _ h k)
one_answer laws text (Err (fault.Syntax line column)) (Err (fault.Syntax l c)) h k na nb =
    ap (λ (x : Position). Err (fault.Syntax x.line x.column)) (one_position laws text (record { line = line; column = column }) (record { line = l; column = c }) h k)
one_answer laws text (Err (fault.Syntax line column)) (Err fault.Memory) h k na nb = absurd (nb refl)
one_answer laws text (Err fault.Memory) b h k na nb = absurd (na refl)
