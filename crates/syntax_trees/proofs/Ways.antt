-- Each way of each part gives what the part means.
use Rattle.std.proofs.Common.{◌≡◌, ℕ, true, false, List, [], ◌∷◌, ◌++◌, map, Some, None, refl, sym, subst, ◌∙◌, append_assoc, append-nil}
use Rattle.cloud_base.specs.declared.schedule.Fate.TheVariants as f
use Rattle.cloud_base.specs.declared.schema.CellType.TheVariants as c
use Rattle.source_tokens.specs.declared.terminal.Terminal.{Terminal}
use Rattle.source_tokens.specs.declared.terminal.Terminal.TheVariants as t
use Rattle.source_tokens.specs.declared.token.Token.{Token}
use Rattle.source_tokens.specs.declared.token.Token.TheVariants.{Name, Fixed}
use Rattle.source_tree.specs.Expressions as sx
use Rattle.source_tree.specs.Expressions.{Spells, SpellsPlace, SpellsKeys}
use Rattle.source_tree.specs.Programs as sw
use Rattle.source_tree.specs.Programs.{SpellsKeyList, SpellsProperties, SpellsDeclaration, SpellsProgram}
use Rattle.source_tree.specs.Statements as sy
use Rattle.source_tree.specs.Statements.{SpellsChange, SpellsStatement}
use Rattle.source_tree.specs.declared.expression.Expression.{Expression}
use Rattle.source_tree.specs.declared.expression.Expression.TheVariants as e
use Rattle.source_tree.specs.declared.expression.Level.{Level}
use Rattle.source_tree.specs.declared.expression.Level.TheVariants as l
use Rattle.source_tree.specs.declared.expression.Operator.TheVariants as o
use Rattle.source_tree.specs.declared.expression.Place.TheVariants as place
use Rattle.source_tree.specs.declared.program.Declaration.TheVariants as d
use Rattle.source_tree.specs.declared.program.Item.TheVariants as i
use Rattle.source_tree.specs.declared.program.KeyType.TheVariants as kt
use Rattle.source_tree.specs.declared.statement.Operation.{Operation}
use Rattle.source_tree.specs.declared.statement.Operation.TheVariants as op
use Rattle.source_tree.specs.declared.statement.Statement.TheVariants as st
use Rattle.syntax_judge.specs.Grammar.{productions}
use Rattle.syntax_judge.specs.Programs.{Derives, kind_of}
use Rattle.syntax_judge.specs.declared.symbol.Part.{Part}
use Rattle.syntax_judge.specs.declared.symbol.Part.TheVariants as p
use Rattle.syntax_trees.proofs.Means.{Some_tree, Some_expression, Some_statement, Some_each, Goes_on, Means, AllGive}
use Rattle.syntax_trees.proofs.Read.{read}
use Rattle.syntax_judge.specs.declared.symbol.Symbol.TheVariants.{Open}

-- one more step of a chain that leans to the left
longer : (level above : Level) (next : Expression) (w u v : List Token) → Spells level next (w ++ u) → Goes_on level above v → Some_expression above (w ++ (u ++ v))
longer level above next w u v h go = let r = go next (w ++ u) h in (r.0, subst (λ x. Spells above r.0 x) (append_assoc w u v) r.1)

ended : (level : Level) → Goes_on level level []
ended level a u h = (a, subst (λ x. Spells level a x) (sym (append-nil u)) h)

at_operator : (level above : Level) (u v w : List Token) (x : Terminal) → u ≡ Fixed x ∷ [] → Some_expression above (w ++ (Fixed x ∷ v)) → Some_expression above (w ++ (u ++ v))
at_operator level above u v w x h r = subst (λ u. Some_expression above (w ++ (u ++ v))) (sym h) r

entry_place : (u v : List Token) (n f : List ℕ) → Some_tree SpellsKeys (u ++ v) → Some_tree SpellsPlace (Name n ∷ Fixed t.OpenBracket ∷ (u ++ (v ++ Fixed t.Dot ∷ Name f ∷ [])))
entry_place u v n f (keys, h) = (
  place.Entry n keys f,
  subst (λ x. SpellsPlace (place.Entry n keys f) (Name n ∷ Fixed t.OpenBracket ∷ x)) (append_assoc u v (Fixed t.Dot ∷ Name f ∷ [])) (sx.place_entry n keys f (u ++ v) h),
)

array_declaration : (n : List ℕ) (u v w : List Token) → Some_tree SpellsKeyList (u ++ v) → Some_tree SpellsProperties w → Some_tree SpellsDeclaration (Fixed t.Array ∷ Name n ∷ Fixed t.OpenBracket ∷ (u ++ (v ++ w)))
array_declaration n u v w (keys, h) (xs, i) = (
  d.Array n keys xs,
  subst (λ x. SpellsDeclaration (d.Array n keys xs) (Fixed t.Array ∷ Name n ∷ Fixed t.OpenBracket ∷ x)) (append_assoc u v w) (sw.array n keys xs (u ++ v) w h i),
)

entry_update : (n f : List ℕ) (u v w : List Token) → Some_tree SpellsKeys (u ++ v) → (op : Operation) × (a : Expression) × SpellsChange op a w
    → Some_statement (Name n ∷ Fixed t.OpenBracket ∷ (u ++ (v ++ Fixed t.Dot ∷ Name f ∷ Fixed t.Dot ∷ w)))
entry_update n f u v w (keys, h) (op, a, i) = (
  st.Update (place.Entry n keys f) op a,
  subst (λ z. SpellsStatement (st.Update (place.Entry n keys f) op a) (Name n ∷ Fixed t.OpenBracket ∷ z))
      (append_assoc (u ++ v) (Fixed t.Dot ∷ Name f ∷ []) (Fixed t.Dot ∷ w) ∙ append_assoc u v (Fixed t.Dot ∷ Name f ∷ Fixed t.Dot ∷ w))
      (sy.update (place.Entry n keys f) op a (Name n ∷ Fixed t.OpenBracket ∷ ((u ++ v) ++ Fixed t.Dot ∷ Name f ∷ [])) w (sx.place_entry n keys f (u ++ v) h) i),
)

for_each : (v : List Token) → Some_each v → Some_statement (Fixed t.Foreach ∷ v)
for_each v (xs, n, f, body, h) = (st.ForEntries xs n f body, sy.for_entries xs n f body v h)

all_give : (q : Part) → AllGive q (productions q)
all_give p.Expression = (λ u a v go. go a.0 u (sx.choice_conjunction a.0 u a.1), tt)
all_give p.OrTail = (ended l.Choice, (λ u b v go a w h. longer l.Choice l.Choice (e.Binary o.Or a b.0) w (Fixed t.Or ∷ u) v (sx.choice_or a b.0 w u h b.1) go, tt))
all_give p.Conjunction = (λ u a v go. go a.0 u (sx.conjunction_negation a.0 u a.1), tt)
all_give p.AndTail = (ended l.Conjunction, (λ u b v go a w h. longer l.Conjunction l.Conjunction (e.Binary o.And a b.0) w (Fixed t.And ∷ u) v (sx.conjunction_and a b.0 w u h b.1) go, tt))
all_give p.Negation = (λ u a. (a.0, sx.negation_comparison a.0 u a.1), (λ u a. (e.Not a.0, sx.negation_not a.0 u a.1), tt))
all_give p.Comparison = (λ u a v go. go a.0 u a.1, tt)
all_give p.ComparisonTail = (
  λ a u h. (a, subst (λ x. Spells l.Comparison a x) (sym (append-nil u)) (sx.comparison_sum a u h)),
  (λ u (x, op, is, one) v b a w h. at_operator l.Sum l.Comparison u v w x one (e.Binary op a b.0, sx.comparison_two x op a b.0 w v is h b.1), tt),
)
all_give p.Comparator = ((t.Equal, o.Equal, sx.equal, refl), ((t.NotEqual, o.NotEqual, sx.not_equal, refl), ((t.Less, o.Less, sx.less, refl), ((t.LessOrEqual, o.LessOrEqual, sx.less_or_equal, refl), ((t.Greater, o.Greater, sx.greater, refl), ((t.GreaterOrEqual, o.GreaterOrEqual, sx.greater_or_equal, refl), tt))))))
all_give p.Sum = (λ u a v go. go a.0 u (sx.sum_term a.0 u a.1), tt)
all_give p.SumTail = (
  ended l.Sum,
  (λ u (x, op, is, one) v b z go a w h. at_operator l.Sum l.Sum u (v ++ z) w x one (longer l.Sum l.Sum (e.Binary op a b.0) w (Fixed x ∷ v) z (sx.sum_two x op a b.0 w v is h b.1) go), tt),
)
all_give p.SumOperator = ((t.Plus, o.Plus, sx.plus, refl), ((t.Minus, o.Minus, sx.minus, refl), ((t.Concat, o.Concat, sx.concat, refl), tt)))
all_give p.Term = (λ u a v go. go a.0 u (sx.term_factor a.0 u a.1), tt)
all_give p.TermTail = (
  ended l.Term,
  (λ u (x, op, is, one) v b z go a w h. at_operator l.Term l.Term u (v ++ z) w x one (longer l.Term l.Term (e.Binary op a b.0) w (Fixed x ∷ v) z (sx.term_two x op a b.0 w v is h b.1) go), tt),
)
all_give p.TermOperator = ((t.Times, o.Times, sx.times, refl), ((t.Divide, o.Divide, sx.divide, refl), ((t.Remainder, o.Remainder, sx.remainder, refl), tt)))
all_give p.Factor = (
  λ n. (e.Number n, sx.factor_number n),
  (
    λ n. (e.Text n, sx.factor_text n),
    (
      (e.Truth true, sx.factor_true),
      (
        (e.Truth false, sx.factor_false),
        (
          λ n. (e.Alive n, sx.factor_alive n),
          (
            λ n v tail. let q = tail n in (e.Place q.0, sx.factor_place q.0 (Name n ∷ v) q.1),
            (
              λ u a. (a.0, sx.factor_brackets a.0 u a.1),
              (λ u a. (e.Minus a.0, sx.factor_minus a.0 u a.1), tt),
            ),
          ),
        ),
      ),
    ),
  ),
)
all_give p.PlaceTail = (
  λ n. (place.Name n, sx.place_name n),
  (
    λ f n. (place.Field n f, sx.place_field n f),
    (λ u a v keys f n. entry_place u v n f (keys a.0 u a.1), tt),
  ),
)
all_give p.ExpressionTail = (
  λ a u h. (a ∷ [], sx.last_key a u h),
  (λ u b v keys a w h. let es = keys b.0 u b.1 in (a ∷ es.0, sx.more_keys a es.0 w (u ++ v) h es.1), tt),
)
all_give p.Program = (λ u ds v x z xs. (record { declarations = ds.0; clients = x.0 ∷ xs.0; schedule = xs.1 }, sw.program ds.0 x.0 xs.0 xs.1 u v z ds.1 x.1 xs.2), tt)
all_give p.DeclarationTail = (([], sw.no_declarations), (λ u x v xs. (x.0 ∷ xs.0, sw.more_declarations x.0 xs.0 u v x.1 xs.1), tt))
all_give p.Declaration = (
  λ n u of. (d.Global (record { name = n; cell = of.0 }), sw.global (record { name = n; cell = of.0 }) (Name n ∷ Fixed t.Colon ∷ u) (sw.property n of.0 u of.1)),
  (
    λ n u x v tail z xs. array_declaration n u v z (tail x.0 u x.1) xs,
    (λ n u keys z xs. (d.Entity n keys.0 xs.0, sw.entity n keys.0 xs.0 u z keys.1 xs.1), tt),
  ),
)
all_give p.EntityKeys = (([], sw.no_keys), (λ u x v tail. let keys = tail x.0 u x.1 in (keys.0, sw.some_keys keys.0 (u ++ v) keys.1), tt))
all_give p.Key = (λ n u of. (record { name = n; of = of.0 }, sw.key n of.0 u of.1), tt)
all_give p.KeyType = ((kt.Int, sw.key_int), ((kt.Text, sw.key_text), (λ n. (kt.Entity n, sw.key_entity n), tt)))
all_give p.KeyTail = (λ x u h. (x ∷ [], sw.last_key x u h), (λ u x v tail z y h. let keys = tail x.0 u x.1 in (z ∷ keys.0, sw.more_keys z keys.0 y (u ++ v) h keys.1), tt))
all_give p.Properties = (λ u xs. (xs.0, sw.properties xs.0 u xs.1), tt)
all_give p.PropertiesInside = (([], sw.no_properties), (λ u x v tail. tail x.0 u x.1, tt))
all_give p.PropertyTail = (λ x u h. (x ∷ [], sw.last_property x u h), (λ v xs x u h. (x ∷ xs.0, sw.more_properties x xs.0 u v h xs.1), tt))
all_give p.Property = (λ n u of. (record { name = n; cell = of.0 }, sw.property n of.0 u of.1), tt)
all_give p.CellType = ((c.Int, sw.cell_int), ((c.Text, sw.cell_text), tt))
all_give p.Client = (λ n u body. (record { name = n; body = body.0 }, sw.client n body.0 u body.1), tt)
all_give p.ClientTail = (
  ([], None, sw.no_clients),
  (
    λ u x v xs. (x.0 ∷ xs.0, xs.1, sw.more_clients x.0 xs.0 xs.1 u v x.1 xs.2),
    (λ u xs. ([], Some xs.0, sw.schedule xs.0 u xs.1), tt),
  ),
)
all_give p.Block = (λ u body. (body.0, sy.block body.0 u body.1), tt)
all_give p.StatementTail = (([], sy.no_statements), (λ u x v xs. (x.0 ∷ xs.0, sy.more_statements x.0 xs.0 u v x.1 xs.1), tt))
all_give p.Statement = (
  (st.Yield, sy.yield),
  (
    (st.Flush, sy.flush),
    (
      λ u a. (st.Print a.0, sy.print a.0 u a.1),
      (
        λ n. (st.Delete n, sy.delete n),
        (
          λ n u init. init n,
          (
            λ n u after. after n,
            (
              λ u a v first z second. (st.If a.0 first.0 second.0, sy.if_else a.0 first.0 second.0 u v z a.1 first.1 second.1),
              (
                λ u a v body. (st.While a.0 body.0, sy.while a.0 body.0 u v a.1 body.1),
                (λ n u tail. tail n, tt),
              ),
            ),
          ),
        ),
      ),
    ),
  ),
)
all_give p.Initializer = (λ u a x. (st.Define x a.0, sy.define x a.0 u a.1), (λ n u keys x. (st.Create x n keys.0, sy.create x n keys.0 u keys.1), tt))
all_give p.NewKeys = (([], sy.no_new_keys), (λ u a v tail. let keys = tail a.0 u a.1 in (keys.0, sy.new_keys keys.0 (u ++ v) keys.1), tt))
all_give p.AfterName = (
  λ u a x. (st.Assign x a.0, sy.assign x a.0 u a.1),
  (
    λ u after x. after x,
    (λ u a v tail f z ch x. entry_update x f u v z (tail a.0 u a.1) ch, tt),
  ),
)
all_give p.AfterDot = (
  λ u ch n. (st.Update (place.Name n) ch.0 ch.1, sy.update (place.Name n) ch.0 ch.1 (Name n ∷ []) u (sx.place_name n) ch.2),
  (λ f u ch n. (st.Update (place.Field n f) ch.0 ch.1, sy.update (place.Field n f) ch.0 ch.1 (Name n ∷ Fixed t.Dot ∷ Name f ∷ []) u (sx.place_field n f) ch.2), tt),
)
all_give p.Change = (λ u op v a. (op.0, a.0, sy.change op.0 a.0 u v op.1 a.1), tt)
all_give p.Operation = ((op.Add, sy.add), ((op.Set, sy.set), ((op.SetIfEmpty, sy.set_if_empty), tt)))
all_give p.ForeachTail = (
  λ u rest x. rest x,
  (λ n u tail x. let r = tail n in for_each (Name x ∷ Fixed t.Comma ∷ Name n ∷ u) (x ∷ r.0, r.1, r.2, r.3, sy.more_names x r.0 r.1 r.2 r.3 (Name n ∷ u) r.4), tt),
)
all_give p.ForeachIn = (
  λ n u body x. (st.ForAll x n body.0, sy.for_all x n body.0 u body.1),
  (λ u each x. for_each (Name x ∷ Fixed t.In ∷ u) (each x), tt),
)
all_give p.NameTail = (
  λ u each x. each x,
  (λ n u tail x. let r = tail n in (x ∷ r.0, r.1, r.2, r.3, sy.more_names x r.0 r.1 r.2 r.3 (Name n ∷ u) r.4), tt),
)
all_give p.Entries = (λ n f u body x. (x ∷ [], n, f, body.0, sy.last_name x n f body.0 u body.1), tt)
all_give p.Else = ((None, sy.no_else), (λ u body. (Some body.0, sy.else_block body.0 u body.1), tt))
all_give p.ItemTail = (([], sw.no_items), (λ u x v xs. (x.0 ∷ xs.0, sw.more_items x.0 xs.0 u v x.1 xs.1), tt))
all_give p.Item = (λ n m. (i.Steps n m, sw.steps n m), (λ n u fate. (i.Serve n fate.0, sw.serve n fate.0 u fate.1), tt))
all_give p.Fate = ((f.Pass, sw.pass), ((f.LosePush, sw.lose_push), ((f.LoseReply, sw.lose_reply), ((f.Twice, sw.twice), ((f.Hold, sw.hold), tt)))))

-- tokens that are a program's to the grammar spell one
pub program_read : (ts : List Token) → Derives (Open p.Program ∷ []) (map kind_of ts) → Some_tree SpellsProgram ts
program_read ts d = read all_give (Open p.Program ∷ []) (map kind_of ts) d ts refl (Means p.Program) (λ u m. subst (Means p.Program) (sym (append-nil u)) m)
