-- The lowest rule that fails in what a statement does.
use Rattle.std.specs.Prelude.{ℕ, ◌==◌, List, [], length, Option, Some, None}
use Rattle.cloud_base.specs.PlainCell.{value_kind}
use Rattle.cloud_base.specs.Shaped.{entity_at, cell_type}
use Rattle.cloud_base.specs.declared.schema.KeyType.{KeyType}
use Rattle.cloud_base.specs.declared.schema.Schema.{Schema}
use Rattle.source_tree.specs.declared.statement.Operation.{Operation}
use Rattle.typed_program.specs.Kinds.{cell_kind}
use Rattle.typed_program.specs.declared.expression.Kind.TheVariants.{Truth}
use Rattle.kind_rules.specs.Answers.{lowest_rule}
use Rattle.kind_rules.specs.Expressions.{unless, same_kind, kind_at}
use Rattle.kind_rules.specs.Names.{Variable}
use Rattle.kind_rules.specs.Statements.{keys_of_entity, has_operation, argument_kind}
use Rattle.kind_bodies.specs.declared.found.Found.{Found}
use Rattle.kind_bodies.specs.Found.{lower, or_unless}

-- the types of the keys that are due where an entity is found
abbrev pub created_types : Schema → Option ℕ → List KeyType
created_types schema None = []
created_types schema (Some number) = keys_of_entity (entity_at schema number)

-- of an entity that is created with so many keys, of which the lowest rule that fails is given
abbrev pub creation_rule : Schema → Option ℕ → ℕ → Option ℕ → Option ℕ
creation_rule schema None count keys = lower (Some 2) keys
creation_rule schema (Some number) count keys = lower (lowest_rule (unless (count == length (created_types schema (Some number))) 4)) keys

abbrev pub assignment_rule : List Variable → Option ℕ → Found → Option ℕ
assignment_rule visible None a = lower (Some 2) a.rule
assignment_rule visible (Some slot) a = or_unless a.rule (same_kind (kind_at visible slot) a.kind) 8

-- of an operation on a cell and its argument
abbrev pub operation_rule : Schema → Option ℕ → Operation → Found → Option ℕ
operation_rule schema None op a = a.rule
operation_rule schema (Some number) op a =
    lower (lowest_rule (unless (has_operation op (value_kind (cell_type schema number))) 6)) (or_unless a.rule (same_kind (argument_kind op (cell_kind (cell_type schema number))) a.kind) 7)

-- of a condition
abbrev pub condition_rule : Found → Option ℕ
condition_rule a = or_unless a.rule (same_kind Truth a.kind) 9
