-- What a reply is, and what its type keeps.
use Rattle.std.specs.Prelude.{◌≡◌, refl, ℕ, ◌≤◌, Bool, true, false, cond}
use Rattle.std.specs.Prelude.{List, [], ◌∷◌, ◌++◌, length, replicate}
use Rattle.std.specs.Int.{int_wrap}
use Rattle.std.specs.List.Sorted.{IsStrictlySortedBy}
use Rattle.std.proofs.Common.{lit≤, ap, sym, ◌∙◌, arith}
use Rattle.std.proofs.lemmas.Bool.{false≢true}
use Rattle.atomic_table.specs.Seated.{TableId}
use Rattle.cloud_base.specs.Answer.{answer}
use Rattle.cloud_base.specs.Dead.{is_dead, has_dead}
use Rattle.cloud_base.specs.PlainCell.{plain_value, plain_int, default_of, is_default}
use Rattle.cloud_base.specs.declared.batch.Batch.{Batch}
use Rattle.cloud_base.specs.declared.schema.CellType.TheVariants as cell
use Rattle.cloud_base.specs.declared.schema.Schema.{Schema}
use Rattle.cloud_base.specs.declared.update.Answer.{Answer}
use Rattle.cloud_base.proofs.SortedLemmas.{none_in}
use Rattle.batch_history.specs.Batches.{of_client}
use Rattle.batch_joins.specs.Joins.{all_updates}
use Rattle.change_lists.specs.Images.{IsHeld, IsImage}
use Rattle.change_lists.specs.Lists.{ImageLists}
use Rattle.change_lists.specs.declared.value.CellValue.{CellValue}
use Rattle.front_table.specs.TokenView.{TokenView}
use Rattle.packet_bytes.specs.Spelling.{spelling}
use Rattle.packet_bytes.specs.declared.wire.Wire.TheVariants.{Reply}
use Rattle.packet_codec.specs.Pushes.{nothing}
use Rattle.packet_codec.specs.Served.{IsServed, opening, example_opening}

-- A reply: the schema of its sender, its bytes, the client and its round that are answered, the
-- batches that the server has joined, and its client's among them.
pub record Replied : Type 0 where
  pub schema : Schema
  pub wire : List ℕ
  pub client : ℕ
  pub round : ℕ
  pub past : TokenView Batch
  pub own : TokenView Batch

-- what a server may answer a client's round with: the whole record `past`, and the client's batches
-- in it, `own`
pub record MayReply (schema : Schema) (past own : List Batch) (client round : ℕ) : Type 0 where
  pub served : IsServed schema past
  -- it has just these batches of the client
  pub mine : of_client client past ≡ own
  -- of which the round is the last one, and the first is there
  pub last : round ≡ length own
  pub begun : 1 ≤ round

-- the bytes of a reply: what the record comes to
pub record IsReplyWire (schema : Schema) (past : List Batch) (client round : ℕ)
    (wire : List ℕ) : Type 0 where
  pub image : ImageLists
  pub comes_to : IsImage schema (all_updates past) image
  pub spelled : wire ≡ spelling (Reply client round (length past) image)

pub record IsReply (reply : Replied) : Type 0 where
  pub may : MayReply reply.schema reply.past.list reply.own.list reply.client reply.round
  pub bytes : IsReplyWire reply.schema reply.past.list reply.client reply.round reply.wire

module _ where
  -- neither ids nor cells
  abbrev pub blank : ImageLists
  blank = record { created = []; dead = []; cells = [] }

  nothing_held : (it : CellValue) → IsHeld nothing [] it → ⊥
  unfolding answer plain_value plain_int int_wrap
  nothing_held it h =
      let zero : Bool → Answer = λ b. cond b (default_of cell.Int) (plain_value cell.Int []) in
      let P : Bool → Type 0 = λ b. is_default (zero b) ≡ true in
      let dead = has_dead [] it.keys in
      let default : P dead = elim dead as P [ true ↦ refl | false ↦ refl ] in
      let same = ap is_default h.0 in
      let filled = h.1 in
      false≢true (sym filled ∙ sym same ∙ default)

  -- a log of nothing comes to nothing
  pub example_blank : IsImage nothing [] blank
  unfolding IsStrictlySortedBy is_dead
  example_blank = record {
    created = record {
      ascends = tt;
      only = λ c m. absurd (none_in c m);
      every = λ c h. let made = h.0 in cc;
    };
    dead = record { ascends = tt; only = λ id m. absurd (none_in id m); every = λ id h. cc };
    cells = record {
      ascends = tt;
      only = λ it m. absurd (none_in it m);
      every = λ it h. absurd (nothing_held it h);
    };
  }

  abbrev pub number_one : List ℕ
  number_one = 0 ∷ 0 ∷ 0 ∷ 0 ∷ 0 ∷ 0 ∷ 0 ∷ 1 ∷ []

  -- the reply to a client that yielded and did nothing before, over chronicles of these tables. Its
  -- bytes tell client 1, round 1, base 1 and three empty lists
  abbrev pub first_reply : TableId → TableId → Replied
  first_reply server client = record {
    schema = nothing;
    wire = 67 ∷ 84 ∷ 1 ∷ 2 ∷ 1 ∷ number_one ++ number_one ++ replicate 12 0;
    client = 1;
    round = 1;
    past = record { chronicle = server; list = opening ∷ [] };
    own = record { chronicle = client; list = opening ∷ [] };
  }

  pub example_reply : (server client : TableId) → IsReply (first_reply server client)
  example_reply server client = record {
    may = record { served = example_opening nothing; mine = refl; last = refl; begun = lit≤ tt };
    bytes = record { image = blank; comes_to = example_blank; spelled = refl };
  }

  -- a reply is to the last round that its record has of the client, and to no client without one
  pub example_later : (s c : TableId) → ¬ IsReply record (first_reply s c) { round = 2 }
  example_later s c = λ h. let round : 2 ≡ 1 = h.may.last in absurd (omega arith)

  pub example_other : (s c : TableId) → ¬ IsReply record (first_reply s c) { client = 0 }
  example_other s c = λ h. let mine : [] ≡ opening ∷ [] = h.may.mine in cc
