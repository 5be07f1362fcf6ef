-- What a client can do, a step at a time: it goes on with a value, or its run comes out.
use Rattle.std.specs.Prelude.{ℕ, zero, suc, ◌+◌, ◌-◌, List, [], ◌∷◌, ◌++◌, length, pos, slice_index_or, slice_set}
use Rattle.cloud_base.specs.Values.{Id}
use Rattle.cloud_base.specs.Events.{Outcome, ended, asks}
use Rattle.cloud_base.specs.declared.end.End.{End}
use Rattle.cloud_base.specs.declared.end.End.TheVariants.{Spent}
use Rattle.cloud_base.specs.declared.update.Answer.{Answer}
use Rattle.cloud_base.specs.declared.update.Answer.TheVariants as answer
use Rattle.cloud_base.specs.declared.update.Event.{Event}
use Rattle.cloud_base.specs.declared.update.Event.TheVariants as event
use Rattle.cloud_base.specs.declared.update.Query.{Query}

-- a client, the turns and the answers that are left, the values of the slots, the serial of the next
-- creation, and what was done so far
pub record World : Type 0 where
  pub client : ℕ
  pub turns : ℕ
  pub answers : List Answer
  pub slots : List Answer
  pub serial : ℕ
  pub events : List Event

-- it goes on with a value, or its run came out with these events
pub data Run (A : Type 0) : Type 0 where
  goes : A → World → Run A
  ends : Outcome → List Event → Run A

abbrev pub Does : Type 0 → Type 0
Does A = World → Run A

abbrev pub then_by : {A B : Type 0} → Run A → (A → Does B) → Run B
then_by (goes a w) next = next a w
then_by (ends outcome events) next = ends outcome events

-- the one, and then, with its value, the other
infixl 10 ◌>>=◌
abbrev pub ◌>>=◌ : {A B : Type 0} → Does A → (A → Does B) → Does B
m >>= next = λ w. then_by (m w) next

abbrev pub done : {A : Type 0} → A → Does A
done a w = goes a w

abbrev pub stop : {A : Type 0} → End → Does A
stop end w = ends (ended end) w.events

abbrev pub tell : Event → Does (Unit {0})
tell e w = goes tt (record w { events = w.events ++ e ∷ [] })

-- how many items an answer lists
abbrev pub listed : Answer → ℕ
listed (answer.Ids ids) = length ids
listed (answer.Tuples tuples) = length tuples
listed value = 0

-- a query takes the next answer. It costs one turn, and one more for each item listed, down to 0
abbrev pub ask_next : Query → List Answer → Does Answer
ask_next query [] w = ends (asks query) w.events
ask_next query (a ∷ rest) w = goes a (record w { turns = w.turns - (1 + listed a); answers = rest; events = w.events ++ event.Ask query a ∷ [] })

abbrev pub ask : Query → Does Answer
ask query w = ask_next query w.answers w

abbrev pub begin_with : ℕ → Does (Unit {0})
begin_with zero w = ends (ended Spent) w.events
begin_with (suc turns) w = goes tt (record w { turns = turns })

-- a statement begins
abbrev pub begin : Does (Unit {0})
begin w = begin_with w.turns w

-- the value of a slot
abbrev pub load : ℕ → Does Answer
load n w = goes (slice_index_or w.slots n (answer.Int (pos 0))) w

abbrev pub store : ℕ → Answer → Does (Unit {0})
store n value w = goes tt (record w { slots = slice_set w.slots n value })

-- the id of the next creation
abbrev pub next_id : Does Id
next_id w = goes (record { client = w.client; serial = w.serial }) (record w { serial = suc w.serial })

-- each in order, and all of their values
abbrev pub each : {A : Type 0} → List (Does A) → Does (List A)
each [] = done []
each (m ∷ ms) = m >>= λ a. each ms >>= λ rest. done (a ∷ rest)

-- each in order
abbrev pub all : List (Does (Unit {0})) → Does (Unit {0})
all [] = done tt
all (m ∷ ms) = m >>= λ u. all ms
