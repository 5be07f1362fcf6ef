-- Up to which slot the loops of each statement store.
use Rattle.std.proofs.Common.{◌≡◌, ap, sym, ◌∙◌, subst, arith}
use Rattle.std.specs.Prelude.{ℕ, ◌+◌, ◌≤◌, max, List, [], ◌∷◌, ◌++◌, length, map, Option, None, Some}
use Rattle.cloud_base.specs.Shaped.{property_at}
use Rattle.cloud_base.specs.declared.schema.Schema.{Schema}
use Rattle.typed_program.specs.Kinds.{IsStatement, IsBlock, key_kind, most_slots}
use Rattle.typed_program.specs.Kinds as kinds
use Rattle.typed_program.specs.declared.expression.Expression.{Expression}
use Rattle.typed_program.specs.declared.expression.Kind.{Kind}
use Rattle.typed_program.specs.declared.expression.Kind.TheVariants.{Id}
use Rattle.typed_program.specs.declared.statement.Operation.{Operation}
use Rattle.typed_program.specs.declared.statement.Statement.{Statement}
use Rattle.typed_program.specs.declared.statement.Statement.TheVariants as s
use Rattle.typed_program.specs.declared.statement.Statement.TheOpen.{Statement-F}
use Rattle.typed_program.specs.declared.statement.Statement.TheFolds.{fold-roll-Statement}
use Rattle.code_gen.specs.Compile.{key_count}
use Rattle.code_gen.specs.Reach.{reach, reach_step, block_reach}

pub reach_if_only : (schema : Schema) (line : ℕ) (a : Expression) (first : List Statement) → reach schema (s.If line a first None) ≡ max (block_reach schema first) 0
reach_if_only schema line a first = ap (reach schema) (sym (s.rolls-If line a first None)) ∙ fold-roll-Statement ℕ (reach_step schema) (Statement-F.If line a first None)

pub reach_if_else : (schema : Schema) (line : ℕ) (a : Expression) (first second : List Statement) → reach schema (s.If line a first (Some second)) ≡ max (block_reach schema first) (block_reach schema second)
reach_if_else schema line a first second = ap (reach schema) (sym (s.rolls-If line a first (Some second))) ∙ fold-roll-Statement ℕ (reach_step schema) (Statement-F.If line a first (Some second))

pub reach_while : (schema : Schema) (line : ℕ) (a : Expression) (block : List Statement) → reach schema (s.While line a block) ≡ block_reach schema block
reach_while schema line a block = ap (reach schema) (sym (s.rolls-While line a block)) ∙ fold-roll-Statement ℕ (reach_step schema) (Statement-F.While line a block)

pub reach_for_all : (schema : Schema) (line n entity : ℕ) (block : List Statement) → reach schema (s.ForAll line n entity block) ≡ max (n + 1) (block_reach schema block)
reach_for_all schema line n entity block = ap (reach schema) (sym (s.rolls-ForAll line n entity block)) ∙ fold-roll-Statement ℕ (reach_step schema) (Statement-F.ForAll line n entity block)

pub reach_for_entries : (schema : Schema) (line n property : ℕ) (block : List Statement) → reach schema (s.ForEntries line n property block) ≡ max (n + key_count (property_at schema property)) (block_reach schema block)
reach_for_entries schema line n property block = ap (reach schema) (sym (s.rolls-ForEntries line n property block)) ∙ fold-roll-Statement ℕ (reach_step schema) (Statement-F.ForEntries line n property block)

pub ruleset reaches = (reach_if_only, reach_if_else, reach_while, reach_for_all, reach_for_entries)

reach_store : (schema : Schema) (line n : ℕ) (a : Expression) → reach schema (s.Store line n a) ≡ 0
reach_store schema line n a = ap (reach schema) (sym (s.rolls-Store line n a)) ∙ fold-roll-Statement ℕ (reach_step schema) (Statement-F.Store line n a)

reach_create : (schema : Schema) (line n entity : ℕ) (keys : List Expression) → reach schema (s.Create line n entity keys) ≡ 0
reach_create schema line n entity keys = ap (reach schema) (sym (s.rolls-Create line n entity keys)) ∙ fold-roll-Statement ℕ (reach_step schema) (Statement-F.Create line n entity keys)

reach_update : (schema : Schema) (line property : ℕ) (keys : List Expression) (operation : Operation) (a : Expression) → reach schema (s.Update line property keys operation a) ≡ 0
reach_update schema line property keys operation a = ap (reach schema) (sym (s.rolls-Update line property keys operation a)) ∙ fold-roll-Statement ℕ (reach_step schema) (Statement-F.Update line property keys operation a)

reach_delete : (schema : Schema) (line n entity : ℕ) → reach schema (s.Delete line n entity) ≡ 0
reach_delete schema line n entity = ap (reach schema) (sym (s.rolls-Delete line n entity)) ∙ fold-roll-Statement ℕ (reach_step schema) (Statement-F.Delete line n entity)

reach_print : (schema : Schema) (line : ℕ) (a : Expression) → reach schema (s.Print line a) ≡ 0
reach_print schema line a = ap (reach schema) (sym (s.rolls-Print line a)) ∙ fold-roll-Statement ℕ (reach_step schema) (Statement-F.Print line a)

reach_yield : (schema : Schema) (line : ℕ) → reach schema (s.Yield line) ≡ 0
reach_yield schema line = ap (reach schema) (sym (s.rolls-Yield line)) ∙ fold-roll-Statement ℕ (reach_step schema) (Statement-F.Yield line)

reach_flush : (schema : Schema) (line : ℕ) → reach schema (s.Flush line) ≡ 0
reach_flush schema line = ap (reach schema) (sym (s.rolls-Flush line)) ∙ fold-roll-Statement ℕ (reach_step schema) (Statement-F.Flush line)

mutual
  statement_within : (schema : Schema) (seen : List Kind) (statement : Statement) (after : List Kind) → IsStatement schema seen statement after → reach schema statement ≤ most_slots
  statement_within schema seen statement after (kinds.declare vs line n a kind l at below h) = omega (arith, reach_store schema line n a)
  statement_within schema seen statement after (kinds.assign vs line n a kind l there h) = omega (arith, reach_store schema line n a)
  statement_within schema seen statement after (kinds.create vs line n number entity keys l at below there hs) = omega (arith, reach_create schema line n number keys)
  statement_within schema seen statement after (kinds.update vs line number property keys operator a kind l there hs t h) = omega (arith, reach_update schema line number keys operator a)
  statement_within schema seen statement after (kinds.delete vs line n entity l there) = omega (arith, reach_delete schema line n entity)
  statement_within schema seen statement after (kinds.if_only vs line a first l h b) = omega (arith, reach_if_only schema line a first, block_within schema vs first b)
  statement_within schema seen statement after (kinds.if_else vs line a first second l h b d) = omega (arith, reach_if_else schema line a first second, block_within schema vs first b, block_within schema vs second d)
  statement_within schema seen statement after (kinds.while vs line a block l h b) = omega (arith, reach_while schema line a block, block_within schema vs block b)
  statement_within schema seen statement after (kinds.for_all vs line n number entity block l at below there b) =
      omega (arith, reach_for_all schema line n number block, below, block_within schema (vs ++ Id number ∷ []) block b)
  statement_within schema seen statement after (kinds.for_entries vs line n number property block l at below there b) =
      let count : key_count (property_at schema number) ≡ length property.keys = ap key_count there in
      omega (arith, reach_for_entries schema line n number block, count, below, block_within schema (vs ++ map key_kind property.keys) block b)
  statement_within schema seen statement after (kinds.print vs line a kind l h) = omega (arith, reach_print schema line a)
  statement_within schema seen statement after (kinds.yield vs line l) = omega (arith, reach_yield schema line)
  statement_within schema seen statement after (kinds.flush vs line l) = omega (arith, reach_flush schema line)

  -- in a well-kinded block no loop stores behind the last slot
  pub block_within : (schema : Schema) (seen : List Kind) (block : List Statement) → IsBlock schema seen block → block_reach schema block ≤ most_slots
  block_within schema seen block (kinds.end vs) = omega arith
  block_within schema seen block (kinds.next vs after statement rest h hs) = omega (arith, statement_within schema vs statement after h, block_within schema after rest hs)

-- what is so of a statement is so of its blocks
pub first_within : (schema : Schema) (line : ℕ) (st : Statement) (a : Expression) (first block : List Statement) (second : Option (List Statement)) → reach schema st ≤ most_slots → st ≡ s.If line a first second → block ≡ first
    → block_reach schema block ≤ most_slots
first_within schema line st a first block None h is same =
    let whole : reach schema (s.If line a first None) ≤ most_slots = subst (λ x. reach schema x ≤ most_slots) is h in
    subst (λ b. block_reach schema b ≤ most_slots) (sym same) (omega (arith, whole, reach_if_only schema line a first))
first_within schema line st a first block (Some second) h is same =
    let whole : reach schema (s.If line a first (Some second)) ≤ most_slots = subst (λ x. reach schema x ≤ most_slots) is h in
    subst (λ b. block_reach schema b ≤ most_slots) (sym same) (omega (arith, whole, reach_if_else schema line a first second))

pub second_within : (schema : Schema) (line : ℕ) (st : Statement) (a : Expression) (first second block : List Statement) (both : Option (List Statement)) → reach schema st ≤ most_slots → st ≡ s.If line a first both → both ≡ Some second → block ≡ second
    → block_reach schema block ≤ most_slots
second_within schema line st a first second block both h is some same =
    let whole : reach schema (s.If line a first (Some second)) ≤ most_slots = subst (λ x. reach schema x ≤ most_slots) (is ∙ ap (λ o. s.If line a first o) some) h in
    subst (λ b. block_reach schema b ≤ most_slots) (sym same) (omega (arith, whole, reach_if_else schema line a first second))

pub while_within : (schema : Schema) (line : ℕ) (st : Statement) (a : Expression) (body block : List Statement) → reach schema st ≤ most_slots → st ≡ s.While line a body → block ≡ body → block_reach schema block ≤ most_slots
while_within schema line st a body block h is same =
    let whole : reach schema (s.While line a body) ≤ most_slots = subst (λ x. reach schema x ≤ most_slots) is h in
    subst (λ b. block_reach schema b ≤ most_slots) (sym same) (omega (arith, whole, reach_while schema line a body))

pub for_all_within : (schema : Schema) (line n entity : ℕ) (st : Statement) (body block : List Statement) → reach schema st ≤ most_slots → st ≡ s.ForAll line n entity body → block ≡ body
    → (n + 1 ≤ most_slots) × (block_reach schema block ≤ most_slots)
for_all_within schema line n entity st body block h is same =
    let whole : reach schema (s.ForAll line n entity body) ≤ most_slots = subst (λ x. reach schema x ≤ most_slots) is h in
    (omega (arith, whole, reach_for_all schema line n entity body), subst (λ b. block_reach schema b ≤ most_slots) (sym same) (omega (arith, whole, reach_for_all schema line n entity body)))

pub for_entries_within : (schema : Schema) (line n property : ℕ) (st : Statement) (body block : List Statement) → reach schema st ≤ most_slots → st ≡ s.ForEntries line n property body → block ≡ body
    → (n + key_count (property_at schema property) ≤ most_slots) × (block_reach schema block ≤ most_slots)
for_entries_within schema line n property st body block h is same =
    let whole : reach schema (s.ForEntries line n property body) ≤ most_slots = subst (λ x. reach schema x ≤ most_slots) is h in
    (omega (arith, whole, reach_for_entries schema line n property body), subst (λ b. block_reach schema b ≤ most_slots) (sym same) (omega (arith, whole, reach_for_entries schema line n property body)))
