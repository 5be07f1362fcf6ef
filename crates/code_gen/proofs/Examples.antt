-- Worked examples of compiled bodies.
use Rattle.std.proofs.Common.{◌≡◌}
use Rattle.std.specs.Prelude.{ℕ, pos, List, [], ◌∷◌, None, Some, codes}
use Rattle.std.specs.Fmt.{digits}
use Rattle.cloud_base.specs.declared.schema.CellType.TheVariants as cell
use Rattle.cloud_base.specs.declared.schema.KeyType.TheVariants as type
use Rattle.cloud_base.specs.declared.schema.Owner.TheVariants as owner
use Rattle.cloud_base.specs.declared.schema.Schema.{Schema}
use Rattle.typed_program.specs.declared.expression.Expression.{Expression}
use Rattle.typed_program.specs.declared.expression.Expression.TheVariants as e
use Rattle.typed_program.specs.declared.expression.Kind.TheVariants as kind
use Rattle.typed_program.specs.declared.expression.Operator.TheVariants as op
use Rattle.typed_program.specs.declared.statement.Operation.TheVariants as operation
use Rattle.typed_program.specs.declared.statement.Statement.{Statement}
use Rattle.typed_program.specs.declared.statement.Statement.TheVariants as s
use Rattle.plain_vm.specs.Listing.{listing}
use Rattle.code_gen.specs.Compile.{code_of}
use Rattle.code_gen.proofs.Codes.{equations}

abbrev number : ℕ → Expression
number n = e.Int (pos n)

abbrev variable : ℕ → Expression
variable n = e.Slot n kind.Int

-- a global of integers
abbrev one_global : Schema
one_global = record { properties = record { name = 103 ∷ []; owner = owner.Global; cell = cell.Int; keys = [] } ∷ []; entities = [] }

abbrev global : Expression
global = e.Get 0 []

-- `var i = 5000; while i < 10001 { i = i + 5000; } print i;`
abbrev counts : List Statement
counts = s.Store 4 0 (number 5000) ∷ s.While 4 (e.Binary op.Less (variable 0) (number 10001)) (s.Store 4 0 (e.Binary op.Add (variable 0) (number 5000)) ∷ []) ∷ s.Print 4 (variable 0) ∷ []

pub example_while : listing (code_of one_global counts) ≡ codes "0 begin\n1 push 5000\n2 store 0\n3 begin\n4 load 0\n5 push 10001\n6 lt\n7 jumpf 14\n8 begin\n9 load 0\n10 push 5000\n11 add\n12 store 0\n13 jump 3\n14 begin\n15 load 0\n16 say\n17 end\n"
unfolding digits
example_while = simp equations

-- `if g > 6 and (g == 7 or 1 / 0 == 1) { print "r"; } yield;`
abbrev decides : List Statement
decides = s.If 7 (e.And (e.Binary op.Greater global (number 6)) (e.Or (e.Binary op.Equal global (number 7)) (e.Binary op.Equal (e.Binary op.Divide (number 1) (number 0)) (number 1)))) (s.Print 7 (e.Text (114 ∷ [])) ∷ []) None
    ∷ s.Yield 8 ∷ []

pub example_and_or : listing (code_of one_global decides) ≡ codes "0 begin\n1 get 0 0\n2 push 6\n3 gt\n4 jumpf 17\n5 get 0 0\n6 push 7\n7 eq\n8 jumpf 11\n9 push true\n10 jump 16\n11 push 1\n12 push 0\n13 div 7\n14 push 1\n15 eq\n16 jump 18\n17 push false\n18 jumpf 22\n19 begin\n20 push \"r\"\n21 say\n22 begin\n23 yield\n24 end\n"
unfolding digits
example_and_or = simp equations

-- `var x = 1; if x == 1 { var y = 2; x = x + y; } else { var y = 3; x = y; } flush;`
abbrev branches : List Statement
branches = s.Store 3 0 (number 1) ∷ s.If 4 (e.Binary op.Equal (variable 0) (number 1)) (s.Store 4 1 (number 2) ∷ s.Store 4 0 (e.Binary op.Add (variable 0) (variable 1)) ∷ []) (Some (s.Store 4 1 (number 3) ∷ s.Store 4 0 (variable 1) ∷ []))
    ∷ s.Flush 5 ∷ []

pub example_if_else : listing (code_of one_global branches) ≡ codes "0 begin\n1 push 1\n2 store 0\n3 begin\n4 load 0\n5 push 1\n6 eq\n7 jumpf 17\n8 begin\n9 push 2\n10 store 1\n11 begin\n12 load 0\n13 load 1\n14 add\n15 store 0\n16 jump 23\n17 begin\n18 push 3\n19 store 1\n20 begin\n21 load 1\n22 store 0\n23 begin\n24 flush\n25 end\n"
unfolding digits
example_if_else = simp equations

-- a text of each seat, by row and place
abbrev seats : Schema
seats = record { properties = record { name = 119 ∷ []; owner = owner.Array (83 ∷ []); cell = cell.Text; keys = type.Int ∷ type.Int ∷ [] } ∷ []; entities = [] }

-- `flush; flush; print Seat[1, 2].who; foreach r, p in entries Seat.who { print r * 10 + p; }`
abbrev lists : List Statement
lists = s.Flush 5 ∷ s.Flush 5 ∷ s.Print 5 (e.Get 0 (number 1 ∷ number 2 ∷ [])) ∷ s.ForEntries 5 0 0 (s.Print 5 (e.Binary op.Add (e.Binary op.Multiply (variable 0) (number 10)) (variable 1)) ∷ []) ∷ []

pub example_entries : listing (code_of seats lists) ≡ codes "0 begin\n1 flush\n2 begin\n3 flush\n4 begin\n5 push 1\n6 push 2\n7 get 0 2\n8 say\n9 begin\n10 entries 0\n11 next 22 2\n12 store 1\n13 store 0\n14 begin\n15 load 0\n16 push 10\n17 mul\n18 load 1\n19 add\n20 say\n21 jump 11\n22 end\n"
unfolding digits
example_entries = simp equations

-- `var e = new E[7]; g.add(2); foreach x in all E { if alive x { delete x; } }`
abbrev clears : List Statement
clears = s.Create 2 0 0 (number 7 ∷ []) ∷ s.Update 3 0 [] operation.Add (number 2) ∷ s.ForAll 4 1 0 (s.If 4 (e.Alive 1 0) (s.Delete 4 1 0 ∷ []) None ∷ []) ∷ []

pub example_all : listing (code_of one_global clears) ≡ codes "0 begin\n1 push 7\n2 new 0 1\n3 store 0\n4 begin\n5 push 2\n6 put.add 0 0\n7 begin\n8 all 0\n9 next 19 1\n10 store 1\n11 begin\n12 load 1\n13 alive\n14 jumpf 18\n15 begin\n16 load 1\n17 delete\n18 jump 9\n19 end\n"
unfolding digits
example_all = simp equations
