-- Worked examples of kinds, of well-kinded bodies, of programs and of the most events.
use Rattle.std.proofs.Common.{◌≡◌, refl, ap, sym, ◌∙◌, subst, lit<, lit≤}
use Rattle.std.proofs.lemmas.List.Elements.{All-nil, All-cons}
use Rattle.std.specs.Prelude.{ℕ, ⊤, true, List, [], ◌∷◌, ◌++◌, Option, Some, None, slice_get, IsTrue, pos, codes}
use Rattle.cloud_base.specs.Values.{IsPrintable}
use Rattle.cloud_base.specs.declared.schema.CellType.TheVariants as cell
use Rattle.cloud_base.specs.declared.schema.KeyType.TheVariants as type
use Rattle.cloud_base.specs.declared.schema.Owner.TheVariants as owner
use Rattle.cloud_base.specs.declared.schema.Property.{Property}
use Rattle.cloud_base.specs.declared.schema.Schema.{Schema}
use Rattle.typed_program.specs.declared.expression.Expression.{Expression, roll-Expression, out-Expression, out-roll-Expression}
use Rattle.typed_program.specs.declared.expression.Expression.TheOpen.{Expression-F}
use Rattle.typed_program.specs.declared.expression.Expression.TheVariants as e
use Rattle.typed_program.specs.declared.expression.Kind.{Kind}
use Rattle.typed_program.specs.declared.expression.Kind.TheVariants.{Int, Text, Truth, Id}
use Rattle.typed_program.specs.declared.expression.Operator.TheVariants as op
use Rattle.typed_program.specs.declared.statement.Operation.TheVariants as operation
use Rattle.typed_program.specs.declared.statement.Statement.{Statement, roll-Statement, out-Statement, out-roll-Statement}
use Rattle.typed_program.specs.declared.statement.Statement.TheOpen.{Statement-F}
use Rattle.typed_program.specs.declared.statement.Statement.TheVariants as s
use Rattle.typed_program.specs.Kinds as kinds
use Rattle.typed_program.specs.Kinds.{HasKind, HaveKinds, IsStatement, IsBlock, IsBody, kind_of, takes, result_kind}
use Rattle.typed_program.proofs.KindLaws.{kind_is}

abbrev pub global : List ℕ → Property
global name = record { name = name; owner = owner.Global; cell = cell.Int; keys = [] }

-- `global g : CInt; array A[k: string] { p: CString } entity E { n: CInt }`
abbrev pub shop : Schema
shop = record {
  properties = global (codes "g")
      ∷ record { name = codes "p"; owner = owner.Array (codes "A"); cell = cell.Text; keys = type.Text ∷ [] }
      ∷ record { name = codes "n"; owner = owner.Entity 0; cell = cell.Int; keys = type.Id 0 ∷ [] }
      ∷ [];
  entities = record { name = codes "E"; keys = [] } ∷ [];
}

-- `var x = new E; x.n.add(g); foreach y in all E { delete y; } foreach k in entries A.p { print k; }
-- while alive x { yield; } var z = 7; z = 8; A["a"].p.set("b");`
abbrev pub body : List Statement
body = s.Create 1 0 0 []
    ∷ s.Update 2 2 (e.Slot 0 (Id 0) ∷ []) operation.Add (e.Get 0 [])
    ∷ s.ForAll 3 1 0 (s.Delete 4 1 0 ∷ [])
    ∷ s.ForEntries 5 1 1 (s.Print 6 (e.Slot 1 Text) ∷ [])
    ∷ s.While 7 (e.Alive 0 0) (s.Yield 8 ∷ [])
    ∷ s.Store 9 1 (e.Int (pos 7))
    ∷ s.Store 10 1 (e.Int (pos 8))
    ∷ s.Update 11 1 (e.Text (97 ∷ []) ∷ []) operation.Set (e.Text (98 ∷ []))
    ∷ []

abbrev one : List Kind
one = Id 0 ∷ []

abbrev two : List Kind
two = Id 0 ∷ Int ∷ []

letter : (n : ℕ) → IsPrintable n → HasKind shop two (e.Text (n ∷ [])) Text
letter n is = kinds.text (n ∷ []) (lit≤ tt, All-cons IsPrintable n [] is (All-nil IsPrintable))

no_keys : (seen : List Kind) → HaveKinds shop seen [] []
no_keys seen = kinds.no_more

one_key : (seen : List Kind) (a : Expression) (kind : Kind) → HasKind shop seen a kind → HaveKinds shop seen (a ∷ []) (kind ∷ [])
one_key seen a kind h = kinds.one_more a kind [] [] h kinds.no_more

alone : (seen after : List Kind) (statement : Statement) → IsStatement shop seen statement after → IsBlock shop seen (statement ∷ [])
alone seen after statement h = kinds.next seen after statement [] h (kinds.end after)

pub example_body : IsBody shop body
example_body =
    kinds.next [] one _ _ (kinds.create [] 1 0 0 (record { name = codes "E"; keys = [] }) [] (lit< tt) refl (lit< tt) refl kinds.no_more)
    (kinds.next one one _ _ (kinds.update one 2 2 (record { name = codes "n"; owner = owner.Entity 0; cell = cell.Int; keys = type.Id 0 ∷ [] }) (e.Slot 0 (Id 0) ∷ []) operation.Add (e.Get 0 []) Int (lit< tt) refl
    (one_key one (e.Slot 0 (Id 0)) (Id 0) (kinds.slot 0 (Id 0) refl)) refl (kinds.get 0 (global (codes "g")) [] refl kinds.no_more))
    (kinds.next one one _ _ (kinds.for_all one 3 1 0 (record { name = codes "E"; keys = [] }) (s.Delete 4 1 0 ∷ []) (lit< tt) refl (lit< tt) refl
    (alone (Id 0 ∷ Id 0 ∷ []) (Id 0 ∷ Id 0 ∷ []) (s.Delete 4 1 0) (kinds.delete (Id 0 ∷ Id 0 ∷ []) 4 1 0 (lit< tt) refl)))
    (kinds.next one one _ _ (kinds.for_entries one 5 1 1 (record { name = codes "p"; owner = owner.Array (codes "A"); cell = cell.Text; keys = type.Text ∷ [] }) (s.Print 6 (e.Slot 1 Text) ∷ []) (lit< tt) refl (lit≤ tt) refl
    (alone (Id 0 ∷ Text ∷ []) (Id 0 ∷ Text ∷ []) (s.Print 6 (e.Slot 1 Text)) (kinds.print (Id 0 ∷ Text ∷ []) 6 (e.Slot 1 Text) Text (lit< tt) (kinds.slot 1 Text refl))))
    (kinds.next one one _ _ (kinds.while one 7 (e.Alive 0 0) (s.Yield 8 ∷ []) (lit< tt) (kinds.alive 0 0 refl) (alone one one (s.Yield 8) (kinds.yield one 8 (lit< tt))))
    (kinds.next one two _ _ (kinds.declare one 9 1 (e.Int (pos 7)) Int (lit< tt) refl (lit< tt) (kinds.int (pos 7) (record { sfits = lit< tt })))
    (kinds.next two two _ _ (kinds.assign two 10 1 (e.Int (pos 8)) Int (lit< tt) refl (kinds.int (pos 8) (record { sfits = lit< tt })))
    (kinds.next two two _ _ (kinds.update two 11 1 (record { name = codes "p"; owner = owner.Array (codes "A"); cell = cell.Text; keys = type.Text ∷ [] }) (e.Text (97 ∷ []) ∷ []) operation.Set (e.Text (98 ∷ [])) Text (lit< tt) refl
    (one_key two (e.Text (97 ∷ [])) Text (letter 97 (lit≤ tt, lit< tt))) refl (letter 98 (lit≤ tt, lit< tt)))
    (kinds.end two))))))))

-- what the rule of a variable or of an operator asks for
abbrev Asks : List Kind → Expression-F Expression → Type 0
Asks seen (Expression-F.Slot n kind) = slice_get seen n ≡ Some kind
Asks seen (Expression-F.Binary operator a b) = (kind : Kind) × IsTrue (takes operator kind) × HasKind shop seen a kind × HasKind shop seen b kind
Asks seen other = ⊤

opened : (seen : List Kind) (a : Expression) (x : Expression-F Expression) → roll-Expression x ≡ a → Asks seen x → Asks seen (out-Expression a)
opened seen a x rolls h = subst (Asks seen) (sym (ap out-Expression (sym rolls) ∙ out-roll-Expression x)) h

asked : (seen : List Kind) (a : Expression) (kind : Kind) → HasKind shop seen a kind → Asks seen (out-Expression a)
asked seen a kind (kinds.int n fits) = opened seen (e.Int n) (Expression-F.Int n) (e.rolls-Int n) tt
asked seen a kind (kinds.text bytes fits) = opened seen (e.Text bytes) (Expression-F.Text bytes) (e.rolls-Text bytes) tt
asked seen a kind (kinds.truth b) = opened seen (e.Truth b) (Expression-F.Truth b) (e.rolls-Truth b) tt
asked seen a kind (kinds.slot n k there) = opened seen (e.Slot n k) (Expression-F.Slot n k) (e.rolls-Slot n k) there
asked seen a kind (kinds.get number property keys there hs) = opened seen (e.Get number keys) (Expression-F.Get number keys) (e.rolls-Get number keys) tt
asked seen a kind (kinds.alive n entity there) = opened seen (e.Alive n entity) (Expression-F.Alive n entity) (e.rolls-Alive n entity) tt
asked seen a kind (kinds.minus b h) = opened seen (e.Minus b) (Expression-F.Minus b) (e.rolls-Minus b) tt
asked seen a kind (kinds.not b h) = opened seen (e.Not b) (Expression-F.Not b) (e.rolls-Not b) tt
asked seen a kind (kinds.binary operator k x y t hx hy) = opened seen (e.Binary operator x y) (Expression-F.Binary operator x y) (e.rolls-Binary operator x y) (k, t, hx, hy)
asked seen a kind (kinds.and x y hx hy) = opened seen (e.And x y) (Expression-F.And x y) (e.rolls-And x y) tt
asked seen a kind (kinds.or x y hx hy) = opened seen (e.Or x y) (Expression-F.Or x y) (e.rolls-Or x y) tt

asks_of : (seen : List Kind) (a : Expression) (x : Expression-F Expression) → roll-Expression x ≡ a → (kind : Kind) → HasKind shop seen a kind → Asks seen x
asks_of seen a x rolls kind h = subst (Asks seen) (ap out-Expression (sym rolls) ∙ out-roll-Expression x) (asked seen a kind h)

abbrev IsInt : Kind → Type 0
IsInt Int = ⊤
IsInt Text = ⊥
IsInt Truth = ⊥
IsInt (Id entity) = ⊥

abbrev HasSlot : Option Kind → Type 0
HasSlot None = ⊥
HasSlot (Some kind) = ⊤

kind_int : kind_of shop (e.Int (pos 1)) ≡ Int
kind_int = sym (kind_is shop [] (e.Int (pos 1)) Int (kinds.int (pos 1) (record { sfits = lit< tt })))

kind_truth : kind_of shop (e.Truth true) ≡ Truth
kind_truth = sym (kind_is shop [] (e.Truth true) Truth (kinds.truth true))

-- a variable that isn't visible has no kind, nor have two operands of two kinds
pub example_no_variable : (kind : Kind) → ¬ HasKind shop one (e.Slot 1 Int) kind
example_no_variable kind h = subst HasSlot (sym (asks_of one (e.Slot 1 Int) (Expression-F.Slot 1 Int) (e.rolls-Slot 1 Int) kind h)) tt

pub example_two_kinds : (kind : Kind) → ¬ HasKind shop [] (e.Binary op.Equal (e.Int (pos 1)) (e.Truth true)) kind
example_two_kinds kind h =
    let both : Asks [] (Expression-F.Binary op.Equal (e.Int (pos 1)) (e.Truth true)) = asks_of [] (e.Binary op.Equal (e.Int (pos 1)) (e.Truth true)) (Expression-F.Binary op.Equal (e.Int (pos 1)) (e.Truth true)) (e.rolls-Binary op.Equal (e.Int (pos 1)) (e.Truth true)) kind h in
    subst IsInt (sym kind_int ∙ sym (kind_is shop [] (e.Int (pos 1)) both.0 both.2) ∙ kind_is shop [] (e.Truth true) both.0 both.3 ∙ kind_truth) tt

-- a variable of a block isn't visible behind it
abbrev Leaves : List Kind → List Kind → Statement-F Statement → Type 0
Leaves seen after (Statement-F.If line a first second) = after ≡ seen
Leaves seen after (Statement-F.Print line a) = (kind : Kind) × HasKind shop seen a kind
Leaves seen after other = ⊤

opened_statement : (seen after : List Kind) (statement : Statement) (x : Statement-F Statement) → roll-Statement x ≡ statement → Leaves seen after x → Leaves seen after (out-Statement statement)
opened_statement seen after statement x rolls h = subst (Leaves seen after) (sym (ap out-Statement (sym rolls) ∙ out-roll-Statement x)) h

left : (seen after : List Kind) (statement : Statement) → IsStatement shop seen statement after → Leaves seen after (out-Statement statement)
left seen after statement (kinds.declare vs line n a kind l at few h) = opened_statement vs (vs ++ kind ∷ []) (s.Store line n a) (Statement-F.Store line n a) (s.rolls-Store line n a) tt
left seen after statement (kinds.assign vs line n a kind l there h) = opened_statement vs vs (s.Store line n a) (Statement-F.Store line n a) (s.rolls-Store line n a) tt
left seen after statement (kinds.create vs line n number entity keys l at few there hs) = opened_statement vs (vs ++ Id number ∷ []) (s.Create line n number keys) (Statement-F.Create line n number keys) (s.rolls-Create line n number keys) tt
left seen after statement (kinds.update vs line number property keys operator a kind l there hs t h) = opened_statement vs vs (s.Update line number keys operator a) (Statement-F.Update line number keys operator a) (s.rolls-Update line number keys operator a) tt
left seen after statement (kinds.delete vs line n entity l there) = opened_statement vs vs (s.Delete line n entity) (Statement-F.Delete line n entity) (s.rolls-Delete line n entity) tt
left seen after statement (kinds.if_only vs line a first l h b) = opened_statement vs vs (s.If line a first None) (Statement-F.If line a first None) (s.rolls-If line a first None) refl
left seen after statement (kinds.if_else vs line a first second l h b d) = opened_statement vs vs (s.If line a first (Some second)) (Statement-F.If line a first (Some second)) (s.rolls-If line a first (Some second)) refl
left seen after statement (kinds.while vs line a block l h b) = opened_statement vs vs (s.While line a block) (Statement-F.While line a block) (s.rolls-While line a block) tt
left seen after statement (kinds.for_all vs line n number entity block l at few there b) = opened_statement vs vs (s.ForAll line n number block) (Statement-F.ForAll line n number block) (s.rolls-ForAll line n number block) tt
left seen after statement (kinds.for_entries vs line n number property block l at few there b) = opened_statement vs vs (s.ForEntries line n number block) (Statement-F.ForEntries line n number block) (s.rolls-ForEntries line n number block) tt
left seen after statement (kinds.print vs line a kind l h) = opened_statement vs vs (s.Print line a) (Statement-F.Print line a) (s.rolls-Print line a) (kind, h)
left seen after statement (kinds.yield vs line l) = opened_statement vs vs (s.Yield line) (Statement-F.Yield line) (s.rolls-Yield line) tt
left seen after statement (kinds.flush vs line l) = opened_statement vs vs (s.Flush line) (Statement-F.Flush line) (s.rolls-Flush line) tt

leaves_of : (seen after : List Kind) (statement : Statement) (x : Statement-F Statement) → roll-Statement x ≡ statement → IsStatement shop seen statement after → Leaves seen after x
leaves_of seen after statement x rolls h = subst (Leaves seen after) (ap out-Statement (sym rolls) ∙ out-roll-Statement x) (left seen after statement h)

-- `if true { var x = 1; } print x;`
abbrev declares : List Statement
declares = s.Store 1 0 (e.Int (pos 1)) ∷ []

abbrev later : Statement
later = s.Print 2 (e.Slot 0 Int)

not_there : (seen : List Kind) → slice_get seen 0 ≡ None → (kind : Kind) → ¬ HasKind shop seen (e.Slot 0 Int) kind
not_there seen none kind h = subst HasSlot (sym (asks_of seen (e.Slot 0 Int) (Expression-F.Slot 0 Int) (e.rolls-Slot 0 Int) kind h) ∙ none) tt

pub example_no_block_variable : ¬ IsBody shop (s.If 1 (e.Truth true) declares None ∷ later ∷ [])
example_no_block_variable (kinds.next seen after first rest h (kinds.next between last second others k hs)) =
    let same : between ≡ [] = leaves_of [] between (s.If 1 (e.Truth true) declares None) (Statement-F.If 1 (e.Truth true) declares None) (s.rolls-If 1 (e.Truth true) declares None) h in
    let shown : Leaves between last (Statement-F.Print 2 (e.Slot 0 Int)) = leaves_of between last later (Statement-F.Print 2 (e.Slot 0 Int)) (s.rolls-Print 2 (e.Slot 0 Int)) k in
    not_there between (ap (λ l. slice_get l 0) same) shown.0 shown.1
