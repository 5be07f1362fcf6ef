-- The rule of a chronicle's table, and what its steps do to the views: make, append, split, join and load, and no other.
use Rattle.std.specs.Prelude.{◌≡◌, ℕ, ◌^◌, ◌<◌, Bool, true, false, ◌||◌, if◌then◌else◌, List, [], ◌∷◌, ◌++◌, length, refl}
use mathlib.Core.List.{IsPrefix}
use mathlib.Core.Option.{some}
use lib.ListN.{get_elem?}
use Rattle.atomic_table.specs.Table.{Me}
use Rattle.atomic_table.specs.Seated.{TableId}
use Rattle.front_table.specs.declared.view.View.{View}
use Rattle.front_table.specs.TokenView.{longer}

module _ {E : Type 0} where
  -- the seat k has this view, which isn't spent
  abbrev pub Lives : List (View E) → ℕ → View E → Type 0
  Lives views k v = (get_elem? views k ≡ some v) × (v.is_spent ≡ false)

  -- What the rule says of a live view at the seat k, where the writer has the seat and the list given: it is the writer's at that seat alone,
  -- and has that list there. Its list is a prefix of the writer's, and each of its old lists is a prefix of its own
  pub record Fits (seat : ℕ) (list : List E) (k : ℕ) (v : View E) : Type 0 where
    pub writer : v.is_writer ≡ true → (k ≡ seat) × (v.list ≡ list)
    pub front : IsPrefix v.list list
    pub before : IsPrefix v.before v.list
    pub joined : IsPrefix v.joined v.list

  -- The rule, which holds between any two steps: exactly one live view is the writer's, word 0 is the length of its list, and each live view fits it
  pub record IsKept (words : List ℕ) (views : List (View E)) : Type 0 where
    pub seat : ℕ
    pub writer : View E
    pub lives : Lives views seat writer
    pub writes : writer.is_writer ≡ true
    pub word : words ≡ length writer.list ∷ []
    pub room : length writer.list < 2 ^ 64
    pub each : (k : ℕ) (v : View E) → Lives views k v → Fits seat writer.list k v

  -- what a load that finds this number tells of the caller's view
  pub record Tells (found : ℕ) (v : View E) : Type 0 where
    pub writer : v.is_writer ≡ true → found ≡ length v.list
    pub before : IsPrefix v.before v.list
    pub joined : IsPrefix v.joined v.list

  -- between calls: the table has one word, a token's seat is one of it and holds no slot, and its view is live, and the writer's or not
  abbrev pub IsSeated : Bool → TableId → TableId → Me (Unit {0}) (View E) → Type 0
  IsSeated is_writer table seat me =
      (table.words ≡ 1) × (seat ≡ table) × (me.1 ≡ []) × (me.0.is_writer ≡ is_writer) × (me.0.is_spent ≡ false)

  -- a live view
  abbrev pub view : Bool → List E → List E → List E → View E
  view is_writer list before joined = record { is_writer = is_writer; is_spent = false; list = list; before = before; joined = joined }

  -- make: the writer of nothing yet
  abbrev pub newcomer : View E
  newcomer = view true [] [] []

  -- append: the list gets the entries
  abbrev pub appended : View E → List E → View E
  appended v entries = view v.is_writer (v.list ++ entries) v.before v.joined

  -- split: a new view with the list, that is no writer's and has no old lists
  abbrev pub front_of : View E → View E
  front_of v = view false v.list [] []

  -- join: the writer's list where one of the two is the writer, else the longer; both as old lists
  abbrev pub list_of : View E → View E → List E
  list_of v w = if v.is_writer then v.list else (if w.is_writer then w.list else longer v.list w.list)

  abbrev pub both_of : View E → View E → View E
  both_of v w = view (v.is_writer || w.is_writer) (list_of v w) v.list w.list

  -- what a view that was joined into another is left as
  abbrev pub spent : View E
  spent = record { is_writer = false; is_spent = true; list = []; before = []; joined = [] }

pub example_append : appended {E = ℕ} (view true (5 ∷ []) [] []) (6 ∷ []) ≡ view true (5 ∷ 6 ∷ []) [] []
example_append = refl

pub example_split : front_of {E = ℕ} (view true (5 ∷ 6 ∷ []) (5 ∷ []) []) ≡ view false (5 ∷ 6 ∷ []) [] []
example_split = refl

pub example_join_of_fronts : both_of {E = ℕ} (view false (5 ∷ []) [] []) (view false (5 ∷ 6 ∷ []) [] []) ≡ view false (5 ∷ 6 ∷ []) (5 ∷ []) (5 ∷ 6 ∷ [])
example_join_of_fronts = refl

pub example_join_into_the_writer : both_of {E = ℕ} (view true (5 ∷ 6 ∷ []) [] []) (view false (5 ∷ []) [] []) ≡ view true (5 ∷ 6 ∷ []) (5 ∷ 6 ∷ []) (5 ∷ [])
example_join_into_the_writer = refl
