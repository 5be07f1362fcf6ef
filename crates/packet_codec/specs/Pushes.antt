-- What a push is, and what its type keeps.
use Rattle.std.specs.Prelude.{◌≡◌, refl, ℕ, List, [], ◌∷◌, ◌++◌, length, replicate, All, Some}
use Rattle.std.specs.Int.{int_wrap}
use Rattle.std.specs.List.Sorted.{IsStrictlySortedBy}
use Rattle.std.proofs.Common.{lit≤}
use Rattle.std.proofs.lemmas.List.Elements.{All-nil}
use Rattle.atomic_table.specs.Seated.{TableId}
use Rattle.cloud_base.specs.Answer.{answer}
use Rattle.cloud_base.specs.Dead.{is_dead}
use Rattle.cloud_base.specs.Values.{Id}
use Rattle.cloud_base.specs.Shaped.{CreatedOnce, Fit, IsShaped}
use Rattle.cloud_base.specs.declared.batch.Batch.{Batch}
use Rattle.cloud_base.specs.declared.schema.CellType.TheVariants as cell
use Rattle.cloud_base.specs.declared.schema.Schema.{Schema}
use Rattle.cloud_base.proofs.SortedLemmas.{none_in}
use Rattle.batch_history.specs.Batches.{updates_in, flat, of_client}
use Rattle.batch_history.specs.Right.{IsThatOf, RightBehind}
use Rattle.batch_joins.specs.Joins.{all_updates, FitsAlone, Follows, RightOwn}
use Rattle.fj_core.specs.declared.effect.Effect.{Effect}
use Rattle.change_lists.specs.Effects.{effect_of, IsEffect}
use Rattle.change_lists.specs.Lists.{ChangeLists}
use Rattle.front_table.specs.TokenView.{TokenView}
use Rattle.packet_bytes.specs.Spelling.{spelling}
use Rattle.packet_bytes.specs.declared.wire.Wire.TheVariants.{Push}
use Rattle.packet_codec.specs.Served.{IsWithin, example_nothing, opening, example_opening}

-- A push: the schema of its sender, its bytes, what its client did, a front of the batches that the
-- server had joined, as far as its client has seen them, and its client's batches up to this one.
pub record Pushed : Type 0 where
  pub schema : Schema
  pub wire : List ℕ
  pub batch : Batch
  pub past : TokenView Batch
  pub own : TokenView Batch

-- a batch that its client may push: by a front `past` of the record and by its client's batches up
-- to this one, `own`
pub record MayPush (schema : Schema) (past own : List Batch) (b : Batch) : Type 0 where
  -- it follows what its client had seen, and is the last of its client's
  pub follows : Follows past own b
  -- each of its client's batches is answered right
  pub right : RightOwn (IsThatOf (answer schema)) past own
  -- the updates of both lists are of the schema, and those of the record fit together
  pub past_fits : Fit schema (all_updates past)
  pub own_shaped : All (IsShaped schema) (all_updates own)
  -- neither list holds more than a client may do
  pub past_within : IsWithin past
  pub own_within : IsWithin own

-- a client's next batch, where `past` is all that the client has seen of the record
pub record IsNext (schema : Schema) (past : List Batch) (b : Batch) : Type 0 where
  pub base : b.base ≡ length past
  -- it fits behind its client's batches, with which it creates no id twice
  pub alone : FitsAlone (of_client b.client past) b
  pub once : CreatedOnce (all_updates (of_client b.client past) ++ updates_in b)
  -- it is answered right, and its updates are of the schema
  pub right : RightBehind (IsThatOf (answer schema)) past b
  pub shaped : All (IsShaped schema) (updates_in b)
  -- with it its client hasn't done more than a client may
  pub within : IsWithin (of_client b.client past ++ b ∷ [])

-- the bytes of a push: what its batch did after the first batches of the record, up to its base
pub record IsPushWire (schema : Schema) (past : List Batch) (b : Batch)
    (wire : List ℕ) : Type 0 where
  pub change : ChangeLists
  pub effect : IsEffect schema (flat past b.base) (updates_in b) change
  pub spelled : wire ≡ spelling (Push b.client b.round b.base change)

pub record IsPush (push : Pushed) : Type 0 where
  pub may : MayPush push.schema push.past.list push.own.list push.batch
  pub bytes : IsPushWire push.schema push.past.list push.batch push.wire

module _ where
  -- no property and no entity
  abbrev pub nothing : Schema
  nothing = record { properties = []; entities = [] }

  -- no change
  abbrev pub unchanged : ChangeLists
  unchanged = record { created = []; dead = []; cells = [] }

  nothing_done : {e : Effect} → effect_of cell.Int [] ≡ Some e → ⊥
  unfolding int_wrap
  nothing_done h = cc

  -- a log of nothing after a log of nothing does nothing
  pub example_unchanged : IsEffect nothing [] [] unchanged
  unfolding IsStrictlySortedBy is_dead
  example_unchanged = record {
    created = record { ascends = tt; only = λ c m. absurd (none_in c m); every = λ c h. cc };
    dead = record { ascends = tt; only = λ id m. absurd (none_in id m); every = λ id h. cc };
    cells = record {
      ascends = tt;
      only = λ it m. absurd (none_in it m);
      every = λ it h. absurd (nothing_done h.1);
    };
  }

  -- the push of a client that yields and did nothing before, over chronicles of these tables. Its
  -- bytes tell client 1, round 1, base 0 and three empty lists
  abbrev pub first_push : TableId → TableId → Pushed
  first_push server client = record {
    schema = nothing;
    wire = 67 ∷ 84 ∷ 1 ∷ 1 ∷ 1 ∷ (0 ∷ 0 ∷ 0 ∷ 0 ∷ 0 ∷ 0 ∷ 0 ∷ 1 ∷ []) ++ replicate 20 0;
    batch = opening;
    past = record { chronicle = server; list = [] };
    own = record { chronicle = client; list = opening ∷ [] };
  }

  pub example_push : (server client : TableId) → IsPush (first_push server client)
  example_push server client = record {
    may = record {
      follows = record {
        base = lit≤ tt;
        last = refl;
        each = (alone, tt);
        once = tt;
      };
      right = (record { before = tt; rest = tt }, tt);
      past_fits = (example_nothing nothing).fits;
      own_shaped = All-nil (IsShaped nothing);
      past_within = (example_nothing nothing).within;
      own_within = (example_opening nothing).within;
    };
    bytes = record { change = unchanged; effect = example_unchanged; spelled = refl };
  }
    where
      alone : FitsAlone [] opening
      alone = record {
        round = refl;
        opens = λ e. refl;
        first = λ e. (refl, λ k. cc);
        before = tt;
        rest = tt;
        mine = All-nil (λ (id : Id). id.client ≡ 1);
      }

  -- no push has no bytes, or leaves its own batch out
  pub example_no_bytes : (s c : TableId) → ¬ IsPush record (first_push s c) { wire = [] }
  example_no_bytes s c = λ h. let wire = h.bytes.spelled in cc

  pub example_left_out : (s c : TableId) →
      ¬ IsPush record (first_push s c) { own = record { chronicle = c; list = [] } }
  example_left_out s c = λ h. let own = h.may.follows.last in cc
