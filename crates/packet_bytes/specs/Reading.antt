-- The fields of a packet, in the order in which they are read. Each is judged when its last byte
-- is there.
use Rattle.std.specs.Prelude.{◌≡◌, ⊤, refl, ℕ, zero, suc, ◌+◌, ℤ, pos, negsuc, Bool, true, false, not, ◌&&◌, ◌||◌, ◌==◌, nat_lt, nat_le, if◌then◌else◌, List, [], ◌∷◌, length, Option, Some, None, Result, Ok, Err}
use Rattle.std.specs.Option.{option_map, option_and_then}
use Rattle.std.specs.Int.{w16, w32, w64, cast_signed}
use Rattle.std.specs.Ordering.{is_lt}
use Rattle.std.specs.declared.cmp.Ordering.{Ordering}
use Rattle.cloud_base.specs.Values.{Id}
use Rattle.cloud_base.specs.Order.{id_order}
use Rattle.cloud_base.specs.Shaped.{property_at, entity_at, cell_type}
use Rattle.cloud_base.specs.declared.key.Key.{Key}
use Rattle.cloud_base.specs.declared.key.Key.TheVariants as key
use Rattle.cloud_base.specs.declared.schema.CellType.{CellType}
use Rattle.cloud_base.specs.declared.schema.CellType.TheVariants as cell
use Rattle.cloud_base.specs.declared.schema.KeyType.{KeyType}
use Rattle.cloud_base.specs.declared.schema.KeyType.TheVariants as type
use Rattle.cloud_base.specs.declared.schema.Schema.{Schema}
use Rattle.fj_core.specs.declared.effect.Effect.{Effect}
use Rattle.fj_core.specs.declared.effect.Effect.TheVariants.{Add, SetInt, SetText, IfEmpty}
use Rattle.fj_array.specs.declared.cell.Cell.{Cell}
use Rattle.fj_array.specs.declared.effect.CellEffect.{CellEffect}
use Rattle.fj_array.specs.Cells.{cell_order}
use Rattle.fj_array.specs.Effects.{cell_of}
use Rattle.fj_entity.specs.declared.created.Created.{Created}
use Rattle.change_lists.specs.Lists.{ChangeLists, ImageLists, place_of}
use Rattle.change_lists.specs.declared.value.Content.{Content}
use Rattle.change_lists.specs.declared.value.Content.TheVariants as content
use Rattle.change_lists.specs.declared.value.CellValue.{CellValue}
use Rattle.packet_bytes.specs.declared.fault.WireFault.{WireFault}
use Rattle.packet_bytes.specs.declared.fault.WireFault.TheVariants.{BadTag, OutOfOrder, NotCanonical, Trailing, Unknown}
use Rattle.packet_bytes.specs.declared.fault.ReadFault.{ReadFault}
use Rattle.packet_bytes.specs.declared.fault.ReadFault.TheVariants as fault
use Rattle.packet_bytes.specs.declared.header.Header.{Header}
use Rattle.packet_bytes.specs.declared.header.Kind.{Kind}
use Rattle.packet_bytes.specs.declared.header.Kind.TheVariants as kind
use Rattle.packet_bytes.specs.declared.wire.Wire.{Wire}
use Rattle.packet_bytes.specs.declared.wire.Wire.TheVariants.{Push, Reply}
use Rattle.packet_bytes.specs.Left.{Left, Field, Read, Reader, ◌>>=◌, give, check, known, byte_at, number_at}

-- ---- numbers and texts

-- an integer in two's complement
unfoldable pub int_at : Reader ℤ
int_at = do
  n ← number_at w64
  give (cast_signed w64 n.value)

abbrev pub is_zero : ℤ → Bool
is_zero (pos n) = n == 0
is_zero (negsuc n) = false

-- an integer other than 0
unfoldable pub filled_int_at : Reader ℤ
filled_int_at = do
  n ← int_at
  filled ← check (not (is_zero n.value)) (NotCanonical n.at)
  give n.value

abbrev pub is_printable : ℕ → Bool
is_printable b = nat_le 32 b && nat_lt b 127

-- a printable byte, which is a field of its own
unfoldable pub printable_at : Reader ℕ
printable_at = do
  byte ← byte_at
  printable ← check (is_printable byte.value) (NotCanonical byte.at)
  give byte.value

-- so many printable bytes
unfoldable pub printables_at : ℕ → Reader (List ℕ)
printables_at zero = give []
printables_at (suc n) = do
  byte ← printable_at
  bytes ← printables_at n
  give (byte.value ∷ bytes.value)

-- a length of at most 128, and a text of so many bytes, which are at least some
unfoldable pub text_at : ℕ → Reader (List ℕ)
text_at least = do
  size ← byte_at
  right ← check (nat_le least size.value && nat_le size.value 128) (NotCanonical size.at)
  printables_at size.value

-- ---- ids and keys

unfoldable pub client_at : Reader ℕ
client_at = do
  client ← byte_at
  below ← check (nat_lt client.value 8) (NotCanonical client.at)
  give client.value

unfoldable pub id_at : Reader Id
id_at = do
  client ← client_at
  serial ← number_at w32
  give (record { client = client.value; serial = serial.value })

abbrev pub key_tag : KeyType → ℕ
key_tag type.Int = 0
key_tag type.Text = 1
key_tag (type.Id entity) = 2

unfoldable pub key_content_at : KeyType → Reader Key
key_content_at type.Int = do
  n ← int_at
  give (key.Int n.value)
key_content_at type.Text = do
  text ← text_at 0
  give (key.Text text.value)
key_content_at (type.Id entity) = do
  id ← id_at
  give (key.Ref id.value)

-- a key of a type: its tag and its content
unfoldable pub key_at : KeyType → Reader Key
key_at type = do
  tag ← byte_at
  right ← check (nat_lt tag.value 3) (BadTag tag.at)
  own ← check (tag.value == key_tag type) (Unknown tag.at)
  key_content_at type

-- one key of each type
unfoldable pub keys_at : List KeyType → Reader (List Key)
keys_at [] = give []
keys_at (type ∷ types) = do
  key ← key_at type
  keys ← keys_at types
  give (key.value ∷ keys.value)

-- the types of keys, where they are no more than the keys of a cell or an entity may be
abbrev pub few : List KeyType → Option (List KeyType)
few types = if nat_le (length types) 3 then Some types else None

abbrev pub entity_types : Schema → ℕ → Option (List KeyType)
entity_types schema number = option_and_then (λ e. few e.keys) (entity_at schema number)

abbrev pub property_types : Schema → ℕ → Option (List KeyType)
property_types schema number = option_and_then (λ p. few p.keys) (property_at schema number)

-- ---- elements

-- whether a name is above the one before it
abbrev pub is_above : {N : Type 0} → (N → N → Ordering) → Option N → N → Bool
is_above order None name = true
is_above order (Some previous) name = is_lt (order previous name)

-- an id among dead ids
unfoldable pub dead_at : Option Id → Reader Id
dead_at previous = do
  id ← id_at
  above ← check (is_above id_order previous id.value) (OutOfOrder id.at)
  give id.value

-- an id, and behind it what it was created with
unfoldable pub created_at : Schema → Option Created → Reader Created
created_at schema previous = do
  id ← dead_at (option_map (λ c. c.id) previous)
  entity ← number_at w16
  types ← known (entity_types schema entity.value) (Unknown entity.at)
  keys ← keys_at types.value
  give (record { id = id.value; entity = entity.value; keys = keys.value })

-- a cell, which is complete with its last key
unfoldable pub cell_at : Schema → Option Cell → Reader Cell
cell_at schema previous = do
  property ← number_at w16
  types ← known (property_types schema property.value) (Unknown property.at)
  keys ← keys_at types.value
  above ← check (is_above cell_order previous (record { property = property.value; keys = keys.value })) (OutOfOrder property.at)
  give (record { property = property.value; keys = keys.value })

-- whether the tag of an effect belongs to cells of a type
abbrev pub is_own : CellType → ℕ → Bool
is_own cell.Int tag = nat_lt tag 2
is_own cell.Text tag = nat_le 2 tag

unfoldable pub done_at : ℕ → Reader Effect
done_at zero = do
  n ← filled_int_at
  give (Add n.value)
done_at (suc zero) = do
  n ← int_at
  give (SetInt n.value)
done_at (suc (suc zero)) = do
  text ← text_at 0
  give (SetText text.value)
done_at (suc (suc (suc tag))) = do
  text ← text_at 1
  give (IfEmpty text.value)

-- an effect on a cell of a type: its tag and its content
unfoldable pub effect_at : CellType → Reader Effect
effect_at type = do
  tag ← byte_at
  right ← check (nat_lt tag.value 4) (BadTag tag.at)
  own ← check (is_own type tag.value) (Unknown tag.at)
  done_at tag.value

-- what a cell of a type holds, other than its default
unfoldable pub content_at : CellType → Reader Content
content_at cell.Int = do
  n ← filled_int_at
  give (content.Int n.value)
content_at cell.Text = do
  text ← text_at 1
  give (content.Text text.value)

unfoldable pub cell_effect_at : Schema → Option CellEffect → Reader CellEffect
cell_effect_at schema previous = do
  cell ← cell_at schema (option_map cell_of previous)
  effect ← effect_at (cell_type schema cell.value.property)
  give (record { property = cell.value.property; keys = cell.value.keys; effect = effect.value })

unfoldable pub cell_value_at : Schema → Option CellValue → Reader CellValue
cell_value_at schema previous = do
  cell ← cell_at schema (option_map place_of previous)
  value ← content_at (cell_type schema cell.value.property)
  give (record { property = cell.value.property; keys = cell.value.keys; value = value.value })

-- ---- lists

-- so many elements, each above the one before it
unfoldable pub elements_at : {A : Type 0} → (Option A → Reader A) → ℕ → Option A → Reader (List A)
elements_at one zero previous = give []
elements_at one (suc n) previous = do
  first ← one previous
  others ← elements_at one n (Some first.value)
  give (first.value ∷ others.value)

-- a count, and so many elements
unfoldable pub list_at : {A : Type 0} → (Option A → Reader A) → Reader (List A)
list_at one = do
  count ← number_at w32
  elements_at one count.value None

-- ---- the packet

-- a byte that is always the same
unfoldable pub exactly_at : ℕ → Reader (Unit {0})
exactly_at b = do
  byte ← byte_at
  same ← check (byte.value == b) (BadTag byte.at)
  give tt

-- 1 for a push, 2 for a reply
unfoldable pub kind_at : Reader Kind
kind_at = do
  tag ← byte_at
  right ← check (tag.value == 1 || tag.value == 2) (BadTag tag.at)
  give (if tag.value == 1 then kind.Push else kind.Reply)

unfoldable pub round_at : Reader ℕ
round_at = do
  round ← number_at w64
  begun ← check (not (round.value == 0)) (NotCanonical round.at)
  give round.value

-- the letters C and T, the version, the kind, and then the numbers
unfoldable pub header_at : Reader Header
header_at = do
  first ← exactly_at 67
  second ← exactly_at 84
  version ← exactly_at 1
  kind ← kind_at
  client ← client_at
  round ← round_at
  base ← number_at w64
  give (record { kind = kind.value; client = client.value; round = round.value; base = base.value })

unfoldable pub change_at : Schema → Reader ChangeLists
change_at schema = do
  created ← list_at (created_at schema)
  dead ← list_at dead_at
  cells ← list_at (cell_effect_at schema)
  give (record { created = created.value; dead = dead.value; cells = cells.value })

unfoldable pub image_at : Schema → Reader ImageLists
image_at schema = do
  created ← list_at (created_at schema)
  dead ← list_at dead_at
  cells ← list_at (cell_value_at schema)
  give (record { created = created.value; dead = dead.value; cells = cells.value })

unfoldable pub body_at : Schema → Kind → ℕ → ℕ → ℕ → Reader Wire
body_at schema kind.Push client round base = do
  change ← change_at schema
  give (Push client round base change.value)
body_at schema kind.Reply client round base = do
  image ← image_at schema
  give (Reply client round base image.value)

unfoldable pub wire_at : Schema → Reader Wire
wire_at schema = do
  header ← header_at
  body_at schema header.value.kind header.value.client header.value.round header.value.base

-- nothing may be left
abbrev pub whole : {A : Type 0} → Read A → Result A WireFault
whole (Ok x) = if length (x.1).bytes == 0 then Ok x.0 else Err (Trailing (x.1).at)
whole (Err fault) = Err fault

-- The packet of these bytes for a schema, or the first fault
unfoldable pub packet_of : Schema → List ℕ → Result Wire WireFault
packet_of schema bytes = whole (wire_at schema (record { at = 0; bytes = bytes }))

-- what a call answered is the packet or the first fault, unless memory was wanting
abbrev pub Reads : Result Wire ReadFault → Result Wire WireFault → Type 0
Reads (Ok wire) read = read ≡ Ok wire
Reads (Err (fault.Wire f)) read = read ≡ Err f
Reads (Err fault.Memory) read = ⊤
