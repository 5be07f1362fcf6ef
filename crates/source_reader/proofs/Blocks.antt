-- Tokens that spell a statement, a block or a body are read as it.
use Rattle.std.proofs.Common.{◌≡◌, refl, sym, ◌∙◌, ap, subst, arith}
use Rattle.std.proofs.lemmas.List.{append_assoc, append-nil}
use Rattle.std.specs.Prelude.{ℕ, zero, suc, ◌+◌, ◌-◌, ◌<◌, ◌≤◌, max, List, [], ◌∷◌, ◌++◌, length, map, Option, Some, None}
use Rattle.source_tokens.specs.declared.terminal.Terminal.TheVariants as t
use Rattle.source_tokens.specs.declared.token.Token.{Token}
use Rattle.source_tokens.specs.declared.token.Token.TheVariants.{Name, Fixed}
use Rattle.source_tree.specs.declared.expression.Level.TheVariants as l
use Rattle.source_tree.specs.declared.expression.Place.{Place}
use Rattle.source_tree.specs.declared.expression.Place.TheVariants as place
use Rattle.source_tree.specs.declared.expression.Expression.{Expression}
use Rattle.source_tree.specs.declared.expression.Expression.TheVariants as e
use Rattle.source_tree.specs.declared.statement.Operation.{Operation}
use Rattle.source_tree.specs.declared.statement.Statement.{Statement}
use Rattle.source_tree.specs.declared.statement.Statement.TheVariants as s
use Rattle.source_tree.specs.Heights.{height, highest, statement_height, body_height}
use Rattle.source_tree.specs.Forms.{height_place_name, height_place_field, height_place_entry, height_update, height_if, height_if_else, height_while, height_for_all, height_for_entries}
use Rattle.source_tree.specs.Expressions.{Spells, SpellsPlace, place_name, place_field, place_entry}
use Rattle.source_tree.specs.Statements.{SpellsChange, SpellsStatement, SpellsBlock, SpellsBody, SpellsElse, SpellsEach, define, create, assign, update, delete, if_else, while, for_all, for_entries, print, yield, flush, block, no_statements, more_statements, no_else, else_block, last_name, more_names}
use Rattle.source_reader.specs.Reading.{ReadsHigh, ◌>>=◌, within, behind, name_at}
use Rattle.source_reader.specs.Bodies.{change_by, dotted_by, entered_by, named_by, else_by, if_by, while_by, all_at, for_all_by, names_by, entries_at, for_entries_by, foreach_by, statement_by, body_by, block_at}
use Rattle.source_reader.proofs.Heights.{within_yes, within_no}
use Rattle.source_reader.proofs.Parts.{behind_shorter, cased}
use Rattle.source_reader.proofs.Stops.{Stops, brace_stops}
use Rattle.source_reader.proofs.Turns.{block_inner}
use Rattle.source_reader.proofs.Expressions.{deeper, entry_read, again, keys_again}
use Rattle.source_reader.proofs.Bodies.{inner_at, lifted, StatementAgain, change_again, change_no_name, define_again, create_again, assign_again, delete_again, print_again, yield_again, flush_again, begins, no_else_body}

-- ---- updates

abbrev Updated : ℕ → ℕ → Place Expression → Operation → Expression → List Token → List Token → Type 0
Updated depth high p op a tokens rest = statement_by (inner_at depth) (block_at depth) high tokens ≡ within high (s.Update p op a) (max (height (e.Place p)) (height a) + 1) rest

update_again : (p : Place Expression) (op : Operation) (a : Expression) (u v : List Token) → SpellsPlace p u → SpellsChange op a v → (depth high : ℕ) (rest : List Token)
    → length (u ++ (Fixed t.Dot ∷ (v ++ rest))) ≤ depth → Updated depth high p op a (u ++ (Fixed t.Dot ∷ (v ++ rest))) rest
unfolding statement_by named_by dotted_by entered_by name_at behind
update_again p op a u v (place_name x) h depth high rest fits = rw (height_place_name x)
    (ap (λ o. elim o [
      | Some p ↦ behind t.Dot p.1 >>= λ ts. change_by (inner_at depth) high (place.Field x p.0) 2 ts
      | None ↦ change_by (inner_at depth) high (place.Name x) 1 (v ++ rest)
    ]) (change_no_name op a v h rest)
    ∙ change_again op a v h depth high (place.Name x) 1 rest (let q : length (Name x ∷ Fixed t.Dot ∷ (v ++ rest)) ≤ depth = fits in omega arith))
update_again p op a u v (place_field x q) h depth high rest fits = rw (height_place_field x q)
    (change_again op a v h depth high (place.Field x q) 2 rest (let q : length (Name x ∷ Fixed t.Dot ∷ Name q ∷ Fixed t.Dot ∷ (v ++ rest)) ≤ depth = fits in omega arith))
update_again p op a u v (place_entry x keys q w h) i depth high rest fits =
    let same : (w ++ Fixed t.Dot ∷ Name q ∷ []) ++ (Fixed t.Dot ∷ (v ++ rest)) ≡ w ++ (Fixed t.Dot ∷ Name q ∷ Fixed t.Dot ∷ (v ++ rest))
    = append_assoc w (Fixed t.Dot ∷ Name q ∷ []) (Fixed t.Dot ∷ (v ++ rest)) in
    let deep : length (w ++ (Fixed t.Dot ∷ Name q ∷ Fixed t.Dot ∷ (v ++ rest))) < depth = subst (λ ts. length ts < depth) same
    (let k : length (Name x ∷ Fixed t.OpenBracket ∷ ((w ++ Fixed t.Dot ∷ Name q ∷ []) ++ (Fixed t.Dot ∷ (v ++ rest)))) ≤ depth = fits in omega arith) in
    let some : length (Fixed t.Dot ∷ Name q ∷ Fixed t.Dot ∷ (v ++ rest)) ≤ length (w ++ (Fixed t.Dot ∷ Name q ∷ Fixed t.Dot ∷ (v ++ rest))) = behind_shorter w (Fixed t.Dot ∷ Name q ∷ Fixed t.Dot ∷ (v ++ rest)) in
    rw (height_place_entry x keys q)
    (ap (entered_by (inner_at depth) high x) same
    ∙ ap (λ o. o >>= λ p. behind t.Dot p.2 >>= λ ts. change_by (inner_at depth) high p.0 p.1 ts) (entry_read x keys q w (keys_again keys w h) depth (high - 1) (Fixed t.Dot ∷ (v ++ rest)) deep)
    ∙ cased high (high - 1) (place.Entry x keys q) (highest (map height keys) + 1) (Fixed t.Dot ∷ (v ++ rest)) (λ p. behind t.Dot p.2 >>= λ ts. change_by (inner_at depth) high p.0 p.1 ts)
    (within high (s.Update (place.Entry x keys q) op a) (max (highest (map height keys) + 1) (height a) + 1) rest)
    (λ low. change_again op a v i depth high (place.Entry x keys q) (highest (map height keys) + 1) rest (omega arith))
    (λ above. sym (within_no high (s.Update (place.Entry x keys q) op a) (max (highest (map height keys) + 1) (height a) + 1) rest (omega arith))))

update_whole : (p : Place Expression) (op : Operation) (a : Expression) (u v : List Token) → SpellsPlace p u → SpellsChange op a v → StatementAgain (s.Update p op a) (u ++ Fixed t.Dot ∷ v)
update_whole p op a u v h i depth high rest fits none =
    let same : (u ++ Fixed t.Dot ∷ v) ++ rest ≡ u ++ (Fixed t.Dot ∷ (v ++ rest)) = append_assoc u (Fixed t.Dot ∷ v) rest in
    rw (same, height_update p op a) (update_again p op a u v h i depth high rest (subst (λ ts. length ts ≤ depth) same fits))

-- ---- blocks

abbrev pub BlockAgain : List Statement → List Token → Type 0
BlockAgain body u = (depth high : ℕ) (rest : List Token) → length (u ++ rest) ≤ depth → block_at depth high (u ++ rest) ≡ within high body (body_height body) rest

abbrev BodyAgain : List Statement → List Token → Type 0
BodyAgain body u = (depth high k : ℕ) (before : List Statement) (h : ℕ) (rest : List Token) → length (u ++ rest) ≤ depth → length (u ++ rest) ≤ k → h ≤ high
    → body_by k (statement_by (inner_at depth) (block_at depth)) high before h (u ++ rest) ≡ within high (before ++ body) (max h (body_height body)) rest

block_stops : (body : List Statement) (u : List Token) → SpellsBlock body u → (rest : List Token) → Stops l.Choice (u ++ rest)
block_stops body u (block _ v h) rest = brace_stops (v ++ rest)

block_whole : (body : List Statement) (u : List Token) → BodyAgain body u → BlockAgain body (Fixed t.OpenBrace ∷ u)
unfolding behind
block_whole body u again depth high rest fits =
    let q : length (Fixed t.OpenBrace ∷ (u ++ rest)) ≤ depth = fits in
    let heights : max 0 (body_height body) ≡ body_height body = omega arith in
    block_inner depth high (Fixed t.OpenBrace ∷ (u ++ rest)) (u ++ rest) (omega arith) refl
    ∙ again (depth - 1) high (length (u ++ rest)) [] 0 rest (omega arith) (omega arith) (omega arith)
    ∙ ap (λ n. within high body n rest) heights

abbrev BodyStep : ℕ → (ℕ → List Token → ReadsHigh Statement) → ℕ → List Statement → ℕ → (Statement × ℕ × List Token) → ReadsHigh (List Statement)
BodyStep k statement high body h next = body_by k statement high (body ++ next.0 ∷ []) (max h next.1) next.2

abbrev BodyGoes : ℕ → (ℕ → List Token → ReadsHigh Statement) → ℕ → List Statement → ℕ → List Token → Option (List Token) → ReadsHigh (List Statement)
BodyGoes k statement high body h tokens None = statement high tokens >>= BodyStep k statement high body h
BodyGoes k statement high body h tokens (Some rest) = Some (body, h, rest)

body_read : (k : ℕ) (statement : ℕ → List Token → ReadsHigh Statement) (high : ℕ) (body : List Statement) (h : ℕ) (tokens : List Token) → 0 < k
    → body_by k statement high body h tokens ≡ BodyGoes (k - 1) statement high body h tokens (behind t.CloseBrace tokens)
unfolding body_by
body_read zero statement high body h tokens more = absurd (omega arith)
body_read (suc k) statement high body h tokens more =
    let count : suc k - 1 ≡ k = omega arith in
    rw count (elim (behind t.CloseBrace tokens) as (λ o. (elim o [ Some rest ↦ Some (body, h, rest) | None ↦ statement high tokens >>= λ next. body_by k statement high (body ++ next.0 ∷ []) (max h next.1) next.2 ])
    ≡ BodyGoes k statement high body h tokens o) [ None ↦ refl | Some rest ↦ refl ])

no_more : BodyAgain [] (Fixed t.CloseBrace ∷ [])
unfolding behind
no_more depth high k before h rest fits long low =
    let q : length (Fixed t.CloseBrace ∷ rest) ≤ k = long in
    let heights : max h 0 ≡ h = omega arith in
    rw (append-nil before, heights)
    (body_read k (statement_by (inner_at depth) (block_at depth)) high before h (Fixed t.CloseBrace ∷ rest) (omega arith) ∙ sym (within_yes high before h rest low))

-- a statement has a token
longer_front : (x : Token) (u rest : List Token) → length rest < length ((x ∷ u) ++ rest)
longer_front x u rest = let q : length rest ≤ length (u ++ rest) = behind_shorter u rest in omega arith

longer_dot : (u v rest : List Token) → length rest < length ((u ++ Fixed t.Dot ∷ v) ++ rest)
longer_dot u v rest =
    let same : (u ++ Fixed t.Dot ∷ v) ++ rest ≡ u ++ (Fixed t.Dot ∷ (v ++ rest)) = append_assoc u (Fixed t.Dot ∷ v) rest in
    let q : length (Fixed t.Dot ∷ (v ++ rest)) ≤ length (u ++ (Fixed t.Dot ∷ (v ++ rest))) = behind_shorter u (Fixed t.Dot ∷ (v ++ rest)) in
    let r : length rest ≤ length (v ++ rest) = behind_shorter v rest in
    rw same (omega arith)

statement_longer : (x : Statement) (u : List Token) → SpellsStatement x u → (rest : List Token) → length rest < length (u ++ rest)
statement_longer x u (define y a v h) rest = longer_front (Fixed t.Var) (Name y ∷ Fixed t.Assign ∷ (v ++ Fixed t.Semicolon ∷ [])) rest
statement_longer x u (create y n keys v h) rest = longer_front (Fixed t.Var) (Name y ∷ Fixed t.Assign ∷ Fixed t.New ∷ Name n ∷ (v ++ Fixed t.Semicolon ∷ [])) rest
statement_longer x u (assign y a v h) rest = longer_front (Name y) (Fixed t.Assign ∷ (v ++ Fixed t.Semicolon ∷ [])) rest
statement_longer x u (update p op a v w h i) rest = longer_dot v w rest
statement_longer x u (delete y) rest = longer_front (Fixed t.Delete) (Name y ∷ Fixed t.Semicolon ∷ []) rest
statement_longer x u (if_else a first second v w z h i j) rest = longer_front (Fixed t.If) (v ++ (w ++ z)) rest
statement_longer x u (while a body v w h i) rest = longer_front (Fixed t.While) (v ++ w) rest
statement_longer x u (for_all y n body v h) rest = longer_front (Fixed t.Foreach) (Name y ∷ Fixed t.In ∷ Fixed t.All ∷ Name n ∷ v) rest
statement_longer x u (for_entries ys n p body v h) rest = longer_front (Fixed t.Foreach) v rest
statement_longer x u (print a v h) rest = longer_front (Fixed t.Print) (v ++ Fixed t.Semicolon ∷ []) rest
statement_longer x u yield rest = longer_front (Fixed t.Yield) (Fixed t.Semicolon ∷ []) rest
statement_longer x u flush rest = longer_front (Fixed t.Flush) (Fixed t.Semicolon ∷ []) rest

one_more : (first : Statement) (others : List Statement) (u v : List Token) → SpellsStatement first u → SpellsBody others v → StatementAgain first u → BodyAgain others v → BodyAgain (first ∷ others) (u ++ v)
one_more first others u v spelled more again rest_again depth high k before h rest fits long low =
    let same : (u ++ v) ++ rest ≡ u ++ (v ++ rest) = append_assoc u v rest in
    let fits : length (u ++ (v ++ rest)) ≤ depth = subst (λ ts. length ts ≤ depth) same fits in
    let long : length (u ++ (v ++ rest)) ≤ k = subst (λ ts. length ts ≤ k) same long in
    let statement : ℕ → List Token → ReadsHigh Statement = statement_by (inner_at depth) (block_at depth) in
    let heights : max (max h (statement_height first)) (body_height others) ≡ max h (body_height (first ∷ others)) = omega arith in
    let lists : (before ++ first ∷ []) ++ others ≡ before ++ (first ∷ others) = append_assoc before (first ∷ []) others in
    let starts : length (v ++ rest) < length (u ++ (v ++ rest)) = statement_longer first u spelled (v ++ rest) in
    ap (body_by k statement high before h) same
    ∙ body_read k statement high before h (u ++ (v ++ rest)) (omega arith)
    ∙ ap (BodyGoes (k - 1) statement high before h (u ++ (v ++ rest))) (begins first u spelled (v ++ rest)).0
    ∙ ap (λ o. o >>= BodyStep (k - 1) statement high before h) (again depth high (v ++ rest) fits (no_else_body others v more rest))
    ∙ cased high high first (statement_height first) (v ++ rest) (BodyStep (k - 1) statement high before h) (within high (before ++ (first ∷ others)) (max h (body_height (first ∷ others))) rest)
    (λ small. rest_again depth high (k - 1) (before ++ first ∷ []) (max h (statement_height first)) rest (omega arith) (omega arith) (omega arith)
    ∙ ap (λ all. within high all (max (max h (statement_height first)) (body_height others)) rest) lists ∙ ap (λ n. within high (before ++ (first ∷ others)) n rest) heights)
    (λ above. sym (within_no high (before ++ (first ∷ others)) (max h (body_height (first ∷ others))) rest (omega arith)))

-- ---- statements with blocks

abbrev second_height : Option (List Statement) → ℕ
second_height None = 0
second_height (Some body) = body_height body

abbrev ElseAgain : Option (List Statement) → List Token → Type 0
ElseAgain second u = (depth high : ℕ) (rest : List Token) → length (u ++ rest) ≤ depth → behind t.Else rest ≡ None → else_by (block_at depth) high (u ++ rest) ≡ within (high - 1) second (second_height second) rest

no_second : ElseAgain None []
unfolding else_by
no_second depth high rest fits none = ap (λ o. elim o [ Some ts ↦ block_at depth (high - 1) ts >>= λ b. Some (Some b.0, b.1, b.2) | None ↦ Some (None, 0, rest) ]) none
    ∙ sym (within_yes (high - 1) None 0 rest (omega arith))

some_second : (body : List Statement) (u : List Token) → BlockAgain body u → ElseAgain (Some body) (Fixed t.Else ∷ u)
unfolding else_by behind
some_second body u again depth high rest fits none =
    ap (λ o. o >>= λ b. Some (Some b.0, b.1, b.2)) (again depth (high - 1) rest (let q : length (Fixed t.Else ∷ (u ++ rest)) ≤ depth = fits in omega arith))
    ∙ cased (high - 1) (high - 1) body (body_height body) rest (λ b. Some (Some b.0, b.1, b.2)) (within (high - 1) (Some body) (body_height body) rest)
    (λ low. sym (within_yes (high - 1) (Some body) (body_height body) rest low)) (λ above. sym (within_no (high - 1) (Some body) (body_height body) rest above))

if_height : (a : Expression) (first : List Statement) (second : Option (List Statement)) → statement_height (s.If a first second) ≡ max (height a) (max (body_height first) (second_height second)) + 1
if_height a first None = height_if a first
if_height a first (Some body) = height_if_else a first body

if_again : (a : Expression) (first : List Statement) (second : Option (List Statement)) (u v w : List Token) → Spells l.Choice a u → SpellsBlock first v → BlockAgain first v → ElseAgain second w
    → StatementAgain (s.If a first second) (Fixed t.If ∷ (u ++ (v ++ w)))
unfolding statement_by if_by
if_again a first second u v w h i first_again second_again depth high rest fits none =
    let same : (u ++ (v ++ w)) ++ rest ≡ u ++ (v ++ (w ++ rest)) = append_assoc u (v ++ w) rest ∙ ap (λ ts. u ++ ts) (append_assoc v w rest) in
    let deep : length (u ++ (v ++ (w ++ rest))) < depth = subst (λ ts. length ts < depth) same (let q : length (Fixed t.If ∷ ((u ++ (v ++ w)) ++ rest)) ≤ depth = fits in omega arith) in
    let one : length (v ++ (w ++ rest)) ≤ length (u ++ (v ++ (w ++ rest))) = behind_shorter u (v ++ (w ++ rest)) in
    let two : length (w ++ rest) ≤ length (v ++ (w ++ rest)) = behind_shorter v (w ++ rest) in
    let last : (Option (List Statement) × ℕ × List Token) → ReadsHigh Statement = λ z. within high (s.If a first z.0) (max (height a) (max (body_height first) z.1) + 1) z.2 in
    let whole : ReadsHigh Statement = within high (s.If a first second) (max (height a) (max (body_height first) (second_height second)) + 1) rest in
    rw (if_height a first second)
    (ap (if_by (inner_at depth) (block_at depth) high) same
    ∙ ap (λ o. o >>= λ a. block_at depth (high - 1) a.2 >>= λ first. else_by (block_at depth) high first.2 >>= λ second. within high (s.If a.0 first.0 second.0) (max a.1 (max first.1 second.1) + 1) second.2)
    (deeper l.Choice a u (again l.Choice a u h) depth (high - 1) (v ++ (w ++ rest)) deep (block_stops first v i (w ++ rest)))
    ∙ cased high (high - 1) a (height a) (v ++ (w ++ rest))
    (λ a. block_at depth (high - 1) a.2 >>= λ first. else_by (block_at depth) high first.2 >>= λ second. within high (s.If a.0 first.0 second.0) (max a.1 (max first.1 second.1) + 1) second.2)
    (within high (s.If a first second) (max (height a) (max (body_height first) (second_height second)) + 1) rest)
    (λ low. ap (λ o. o >>= λ first. else_by (block_at depth) high first.2 >>= λ second. within high (s.If a first.0 second.0) (max (height a) (max first.1 second.1) + 1) second.2)
    (first_again depth (high - 1) (w ++ rest) (omega arith))
    ∙ cased high (high - 1) first (body_height first) (w ++ rest)
    (λ first. else_by (block_at depth) high first.2 >>= λ second. within high (s.If a first.0 second.0) (max (height a) (max first.1 second.1) + 1) second.2)
    (within high (s.If a first second) (max (height a) (max (body_height first) (second_height second)) + 1) rest)
    (λ low. ap (λ o. o >>= λ second. within high (s.If a first second.0) (max (height a) (max (body_height first) second.1) + 1) second.2) (second_again depth high rest (omega arith) none)
    ∙ cased high (high - 1) second (second_height second) rest (λ second. within high (s.If a first second.0) (max (height a) (max (body_height first) second.1) + 1) second.2)
    (within high (s.If a first second) (max (height a) (max (body_height first) (second_height second)) + 1) rest)
    (λ low. refl)
    (λ above. sym (within_no high (s.If a first second) (max (height a) (max (body_height first) (second_height second)) + 1) rest (omega arith))))
    (λ above. sym (within_no high (s.If a first second) (max (height a) (max (body_height first) (second_height second)) + 1) rest (omega arith))))
    (λ above. sym (within_no high (s.If a first second) (max (height a) (max (body_height first) (second_height second)) + 1) rest (omega arith))))

while_again : (a : Expression) (body : List Statement) (u v : List Token) → Spells l.Choice a u → SpellsBlock body v → BlockAgain body v → StatementAgain (s.While a body) (Fixed t.While ∷ (u ++ v))
unfolding statement_by while_by
while_again a body u v h i body_again depth high rest fits none =
    let same : (u ++ v) ++ rest ≡ u ++ (v ++ rest) = append_assoc u v rest in
    let deep : length (u ++ (v ++ rest)) < depth = subst (λ ts. length ts < depth) same (let q : length (Fixed t.While ∷ ((u ++ v) ++ rest)) ≤ depth = fits in omega arith) in
    let one : length (v ++ rest) ≤ length (u ++ (v ++ rest)) = behind_shorter u (v ++ rest) in
    rw (height_while a body)
    (ap (while_by (inner_at depth) (block_at depth) high) same
    ∙ ap (λ o. o >>= λ a. block_at depth (high - 1) a.2 >>= λ body. within high (s.While a.0 body.0) (max a.1 body.1 + 1) body.2)
    (deeper l.Choice a u (again l.Choice a u h) depth (high - 1) (v ++ rest) deep (block_stops body v i rest))
    ∙ cased high (high - 1) a (height a) (v ++ rest) (λ a. block_at depth (high - 1) a.2 >>= λ body. within high (s.While a.0 body.0) (max a.1 body.1 + 1) body.2)
    (within high (s.While a body) (max (height a) (body_height body) + 1) rest)
    (λ low. ap (λ o. o >>= λ body. within high (s.While a body.0) (max (height a) body.1 + 1) body.2) (body_again depth (high - 1) rest (omega arith))
    ∙ cased high (high - 1) body (body_height body) rest (λ body. within high (s.While a body.0) (max (height a) body.1 + 1) body.2) (within high (s.While a body) (max (height a) (body_height body) + 1) rest)
    (λ low. refl) (λ above. sym (within_no high (s.While a body) (max (height a) (body_height body) + 1) rest (omega arith))))
    (λ above. sym (within_no high (s.While a body) (max (height a) (body_height body) + 1) rest (omega arith))))

for_all_again : (x n : List ℕ) (body : List Statement) (u : List Token) → BlockAgain body u → StatementAgain (s.ForAll x n body) (Fixed t.Foreach ∷ Name x ∷ Fixed t.In ∷ Fixed t.All ∷ Name n ∷ u)
unfolding statement_by foreach_by all_at for_all_by name_at behind
for_all_again x n body u body_again depth high rest fits none = rw (height_for_all x n body)
    (ap (λ o. o >>= λ body. within high (s.ForAll x n body.0) (body.1 + 1) body.2)
    (body_again depth (high - 1) rest (let q : length (Fixed t.Foreach ∷ Name x ∷ Fixed t.In ∷ Fixed t.All ∷ Name n ∷ (u ++ rest)) ≤ depth = fits in omega arith))
    ∙ lifted (s.ForAll x n) high body (body_height body) rest)

-- what stands behind the names
abbrev Listed : ℕ → ℕ → (List (List ℕ) × List Token) → ReadsHigh Statement
Listed depth high xs = entries_at xs.1 >>= λ p. block_at depth (high - 1) p.2 >>= λ body. within high (s.ForEntries xs.0 p.0 p.1 body.0) (body.1 + 1) body.2

abbrev EachAgain : List (List ℕ) → List ℕ → List ℕ → List Statement → List Token → Type 0
EachAgain xs n p body u = (depth high k : ℕ) (before : List (List ℕ)) (rest : List Token) → length (u ++ rest) ≤ depth → length (u ++ rest) ≤ k
    → (names_by k before (u ++ rest) >>= Listed depth high) ≡ within high (s.ForEntries (before ++ xs) n p body) (body_height body + 1) rest

last_named : (x n p : List ℕ) (body : List Statement) (u : List Token) → BlockAgain body u → EachAgain (x ∷ []) n p body (Name x ∷ Fixed t.In ∷ Fixed t.Entries ∷ Name n ∷ Fixed t.Dot ∷ Name p ∷ u)
unfolding names_by entries_at name_at behind
last_named x n p body u body_again depth high zero before rest fits long = absurd (let q : length (Name x ∷ Fixed t.In ∷ Fixed t.Entries ∷ Name n ∷ Fixed t.Dot ∷ Name p ∷ (u ++ rest)) ≤ 0 = long in omega arith)
last_named x n p body u body_again depth high (suc k) before rest fits long =
    ap (λ o. o >>= λ body. within high (s.ForEntries (before ++ x ∷ []) n p body.0) (body.1 + 1) body.2)
    (body_again depth (high - 1) rest (let q : length (Name x ∷ Fixed t.In ∷ Fixed t.Entries ∷ Name n ∷ Fixed t.Dot ∷ Name p ∷ (u ++ rest)) ≤ depth = fits in omega arith))
    ∙ lifted (s.ForEntries (before ++ x ∷ []) n p) high body (body_height body) rest

more_named : (x : List ℕ) (xs : List (List ℕ)) (n p : List ℕ) (body : List Statement) (u : List Token) → EachAgain xs n p body u → EachAgain (x ∷ xs) n p body (Name x ∷ Fixed t.Comma ∷ u)
unfolding names_by name_at behind
more_named x xs n p body u others depth high zero before rest fits long = absurd (let q : length (Name x ∷ Fixed t.Comma ∷ (u ++ rest)) ≤ 0 = long in omega arith)
more_named x xs n p body u others depth high (suc k) before rest fits long =
    others depth high k (before ++ x ∷ []) rest (let q : length (Name x ∷ Fixed t.Comma ∷ (u ++ rest)) ≤ depth = fits in omega arith) (let q : length (Name x ∷ Fixed t.Comma ∷ (u ++ rest)) ≤ suc k = long in omega arith)
    ∙ ap (λ all. within high (s.ForEntries all n p body) (body_height body + 1) rest) (append_assoc before (x ∷ []) xs)

no_all : (xs : List (List ℕ)) (n p : List ℕ) (body : List Statement) (u : List Token) → SpellsEach xs n p body u → (rest : List Token) → all_at (u ++ rest) ≡ None
unfolding all_at name_at behind
no_all xs n p body u (last_name x _ _ _ v h) rest = refl
no_all xs n p body u (more_names x _ _ _ _ v h) rest = refl

for_entries_again : (xs : List (List ℕ)) (n p : List ℕ) (body : List Statement) (u : List Token) → SpellsEach xs n p body u → EachAgain xs n p body u → StatementAgain (s.ForEntries xs n p body) (Fixed t.Foreach ∷ u)
unfolding statement_by foreach_by for_entries_by
for_entries_again xs n p body u spelled each depth high rest fits none = rw (height_for_entries xs n p body)
    (ap (λ o. elim o [ Some x ↦ for_all_by (block_at depth) high x.0 x.1 | None ↦ for_entries_by (block_at depth) high (u ++ rest) ]) (no_all xs n p body u spelled rest)
    ∙ each depth high (length (u ++ rest)) [] rest (let q : length (Fixed t.Foreach ∷ (u ++ rest)) ≤ depth = fits in omega arith) (omega arith))

-- ---- all together

mutual
  pub statement_again : (x : Statement) (u : List Token) → SpellsStatement x u → StatementAgain x u
  statement_again x u (define y a v h) = define_again y a v h
  statement_again x u (create y n keys v h) = create_again y n keys v h
  statement_again x u (assign y a v h) = assign_again y a v h
  statement_again x u (update p op a v w h i) = update_whole p op a v w h i
  statement_again x u (delete y) = delete_again y
  statement_again x u (if_else a first second v w z h i j) = if_again a first second v w z h i (block_again first w i) (else_again second z j)
  statement_again x u (while a body v w h i) = while_again a body v w h i (block_again body w i)
  statement_again x u (for_all y n body v h) = for_all_again y n body v (block_again body v h)
  statement_again x u (for_entries ys n p body v h) = for_entries_again ys n p body v h (each_again ys n p body v h)
  statement_again x u (print a v h) = print_again a v h
  statement_again x u yield = yield_again
  statement_again x u flush = flush_again

  pub block_again : (body : List Statement) (u : List Token) → SpellsBlock body u → BlockAgain body u
  block_again body u (block _ v h) = block_whole body v (body_again body v h)

  body_again : (body : List Statement) (u : List Token) → SpellsBody body u → BodyAgain body u
  body_again body u no_statements = no_more
  body_again body u (more_statements first others v w h i) = one_more first others v w h i (statement_again first v h) (body_again others w i)

  else_again : (second : Option (List Statement)) (u : List Token) → SpellsElse second u → ElseAgain second u
  else_again second u no_else = no_second
  else_again second u (else_block body v h) = some_second body v (block_again body v h)

  each_again : (xs : List (List ℕ)) (n p : List ℕ) (body : List Statement) (u : List Token) → SpellsEach xs n p body u → EachAgain xs n p body u
  each_again xs n p body u (last_name x _ _ _ v h) = last_named x n p body v (block_again body v h)
  each_again xs n p body u (more_names x ys _ _ _ v h) = more_named x ys n p body v (each_again ys n p body v h)
