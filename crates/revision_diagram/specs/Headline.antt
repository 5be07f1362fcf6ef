-- What a diagram of a run of some clients must be.
use Rattle.std.specs.Prelude.{◌≡◌, refl, ℕ, ◌==◌, ◌||◌, ◌&&◌, Bool, true, false, if◌then◌else◌, nat_lt, List, [], ◌∷◌, length, slice_get, Some, None, IsTrue, pos, codes}
use Rattle.std.specs.Int.{int_wrap}
use Rattle.std.proofs.Common.{ap}
use Rattle.std.proofs.lemmas.Bool.{true≢false, false≢true}
use Rattle.cloud_base.specs.Answer.{answer}
use Rattle.cloud_base.specs.Dead.{is_dead}
use Rattle.cloud_base.specs.Events.{Outcome, ended}
use Rattle.cloud_base.specs.PlainCell.{plain_value, plain_int, is_default}
use Rattle.cloud_base.specs.declared.end.End.{End}
use Rattle.cloud_base.specs.declared.end.End.TheVariants.{Done}
use Rattle.cloud_base.specs.declared.schema.CellType.TheVariants.{Int as IntCell}
use Rattle.cloud_base.specs.declared.schema.Owner.TheVariants.{Global}
use Rattle.cloud_base.specs.declared.schema.Schema.{Schema}
use Rattle.cloud_base.specs.declared.update.Answer.{Answer}
use Rattle.cloud_base.specs.declared.update.Answer.TheVariants.{Int}
use Rattle.cloud_base.specs.declared.update.CellChange.TheVariants.{Add}
use Rattle.cloud_base.specs.declared.update.Event.{Event}
use Rattle.cloud_base.specs.declared.update.Event.TheVariants.{Do as DoEvent}
use Rattle.cloud_base.specs.declared.update.Query.{Query}
use Rattle.cloud_base.specs.declared.update.Query.TheVariants.{Get}
use Rattle.cloud_base.specs.declared.update.Update.{Update}
use Rattle.cloud_base.specs.declared.update.Update.TheVariants.{Cell}
use Rattle.revision_diagram.specs.declared.step.Step.{Step}
use Rattle.revision_diagram.specs.declared.step.Step.TheVariants.{Fork, Join, Do, Ask, Say, Mark}
use Rattle.revision_diagram.specs.Diagram.{owner}
use Rattle.revision_diagram.specs.Lawful.{Lawful}
use Rattle.revision_diagram.specs.Right.{AnsweredRight}
use Rattle.revision_diagram.specs.Once.{Once}
use Rattle.revision_diagram.specs.Story.{ProgramLaw, LineLaw}
use Rattle.revision_diagram.specs.Meeting.{Tree, below_server, Meeting}

-- is node m a relay of the tree, or one of so many clients?
abbrev pub is_node : Tree → ℕ → ℕ → Bool
is_node tree clients m = tree.is_relay m || (tree.is_client m && nat_lt m clients)

-- each revision is of the server or of one of the nodes
abbrev pub AllOwned : Tree → ℕ → List Step → Type 0
AllOwned tree clients steps = (r m : ℕ) → owner steps r ≡ Some m → IsTrue (is_node tree clients m)

-- if the step forks, then for one of the nodes
abbrev pub is_for_node : Tree → ℕ → Step → Bool
is_for_node tree clients (Fork r m) = is_node tree clients m
is_for_node tree clients (Join r s) = true
is_for_node tree clients (Do r u) = true
is_for_node tree clients (Ask r q a) = true
is_for_node tree clients (Say r v) = true
is_for_node tree clients (Mark r flush) = true

-- The steps are one lawful revision diagram of these clients, in which each runs its program up to its end,
-- and each of its steps comes after the one before it; each query answers as the plain data type does over
-- the updates on its path; each update stands once on each path that reaches it, after all that its client
-- had seen; and clients meet the server, or the node above them, only at their yields and flushes. A trace
-- tells what a client does for the answers that it gets, and there is one for each client, with its end.
pub record Headline (schema : Schema) (tree : Tree) (traces : List (List Answer → List Event × Outcome)) (ends : List End) (steps : List Step) : Type 0 where
  pub lawful : Lawful steps
  pub right : AnsweredRight (answer schema) steps
  pub once : Once steps
  pub meeting : Meeting tree steps
  pub count : length ends ≡ length traces
  pub program : (c : ℕ) (trace : List Answer → List Event × Outcome) (end : End) → slice_get traces c ≡ Some trace → slice_get ends c ≡ Some end → ProgramLaw trace (ended end) steps c
  pub line : (c : ℕ) → LineLaw steps c
  pub owners : AllOwned tree (length traces) steps

module _ where
  abbrev counter : Schema
  counter = record { properties = record { name = codes "g"; owner = Global; cell = IntCell; keys = [] } ∷ []; entities = [] }

  abbrev add_two : Update
  add_two = Cell 0 [] (Add (pos 2))

  abbrev get : Query
  get = Get 0 []

  abbrev Trace : Type 0
  Trace = List Answer → List Event × Outcome

  -- a program that does nothing, and one that adds 2
  abbrev idle : Trace
  idle answers = ([], ended Done)

  abbrev adds : Trace
  adds answers = (DoEvent add_two ∷ [], ended Done)

  -- whatever programs ran and however they ended, these are not the steps of their run
  abbrev Refused : List Step → Type 0
  Refused steps = (traces : List Trace) (ends : List End) → Headline counter below_server traces ends steps → ⊥

  -- a revision joined into itself isn't lawful
  pub example_into_itself : Refused (Fork 0 0 ∷ Mark 1 false ∷ Join 1 1 ∷ [])
  example_into_itself traces ends h = false≢true h.lawful.1.1.0

  -- an answer of 0 where 2 was added isn't right
  pub example_wrong_answer : Refused (Fork 0 0 ∷ Do 1 add_two ∷ Ask 1 get (Int (pos 0)) ∷ [])
  unfolding answer is_dead plain_value plain_int int_wrap
  example_wrong_answer traces ends h = true≢false (ap is_default h.right.1.1.0)

  -- revision 2 has the add from revision 1 already, and gets it a second time
  pub example_added_again : Refused (Fork 0 0 ∷ Do 1 add_two ∷ Mark 1 false ∷ Fork 1 0 ∷ Join 2 1 ∷ [])
  example_added_again traces ends h = false≢true (ap (λ (times : ℕ). times == 1) ((h.once.1.1.1.1.1 2 refl).0 1))

  -- a client goes on at a revision that hasn't what it did before; client 1 is held to it as client 0 is
  pub example_side_by_side : Refused (Fork 0 1 ∷ Fork 0 1 ∷ Do 1 add_two ∷ Do 2 add_two ∷ [])
  example_side_by_side traces ends h = false≢true (h.line 1).1.1.1.0

  -- the client's revision meets the server without a mark
  pub example_no_mark : Refused (Fork 0 0 ∷ Do 1 add_two ∷ Join 0 1 ∷ [])
  example_no_mark traces ends h = false≢true h.meeting.at_marks.1.1.0

  -- a program that adds once doesn't add twice, and no second client runs another's program
  pub example_twice : Headline counter below_server (adds ∷ []) (Done ∷ []) (Fork 0 0 ∷ Do 1 add_two ∷ Do 1 add_two ∷ []) → ⊥
  example_twice h = true≢false (ap (λ (t : List Event × Outcome). length t.0 == 1) (h.program 0 adds Done refl refl))

  pub example_second_program : Headline counter below_server (adds ∷ idle ∷ []) (Done ∷ Done ∷ []) (Fork 0 0 ∷ Fork 0 1 ∷ Do 2 add_two ∷ []) → ⊥
  example_second_program h = true≢false (ap (λ (t : List Event × Outcome). length t.0 == 0) (h.program 1 idle Done refl refl))

  -- no revision is of a client that has no program
  pub example_no_client : Headline counter below_server (idle ∷ []) (Done ∷ []) (Fork 0 5 ∷ Say 1 (Int (pos 3)) ∷ []) → ⊥
  example_no_client h = false≢true (h.owners 1 5 refl)

  -- nor has a program two ends
  pub example_two_ends : Headline counter below_server (idle ∷ []) (Done ∷ Done ∷ []) [] → ⊥
  example_two_ends h = false≢true (ap (λ (n : ℕ). n == 1) h.count)

  -- two clients and a relay above them, with number 8
  abbrev with_relay : Tree
  with_relay = record { is_client = λ m. nat_lt m 8; is_relay = λ m. m == 8; parent = λ m. if m == 8 then None else Some 8 }

  pub example_nodes : (is_node with_relay 2 1 ≡ true) × (is_node with_relay 2 2 ≡ false) × (is_node with_relay 2 8 ≡ true) × (is_node with_relay 2 9 ≡ false)
  example_nodes = (refl, refl, refl, refl)
