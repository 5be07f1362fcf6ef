-- The one spelling of a packet, and what is a packet for a schema.
use Rattle.std.specs.Prelude.{◌≡◌, ◌≢◌, ⊤, refl, ℕ, ◌<◌, ◌≤◌, ◌^◌, ℤ, pos, negsuc, List, [], ◌∷◌, ◌++◌, length, All, FitsSigned}
use Rattle.std.specs.List.{flat_map}
use Rattle.std.specs.List.Sorted.{IsStrictlySortedBy}
use Rattle.std.specs.Int.{w16, w32, w64, to_be_bytes, cast_unsigned}
use Rattle.std.specs.declared.cmp.Ordering.{Ordering}
use Rattle.cloud_base.specs.Values.{Id, IsText}
use Rattle.cloud_base.specs.Order.{id_order}
use Rattle.cloud_base.specs.Shaped.{IsId, IsCell, IsShaped, cell_type}
use Rattle.cloud_base.specs.declared.key.Key.{Key}
use Rattle.cloud_base.specs.declared.key.Key.TheVariants.{Int, Text, Ref}
use Rattle.cloud_base.specs.declared.schema.CellType.{CellType}
use Rattle.cloud_base.specs.declared.schema.CellType.TheVariants as cell
use Rattle.cloud_base.specs.declared.schema.Schema.{Schema}
use Rattle.cloud_base.specs.declared.update.Update.TheVariants.{Create}
use Rattle.fj_core.specs.declared.effect.Effect.{Effect}
use Rattle.fj_core.specs.declared.effect.Effect.TheVariants.{Add, SetInt, SetText, IfEmpty}
use Rattle.fj_array.specs.declared.cell.Cell.{Cell}
use Rattle.fj_array.specs.declared.effect.CellEffect.{CellEffect}
use Rattle.fj_array.specs.Effects.{cell_of, effect_order}
use Rattle.fj_entity.specs.declared.created.Created.{Created}
use Rattle.fj_entity.specs.Rosters.{created_order}
use Rattle.change_lists.specs.Lists.{ChangeLists, ImageLists, IsEffective, IsFilled, place_of, value_order}
use Rattle.change_lists.specs.declared.value.Content.{Content}
use Rattle.change_lists.specs.declared.value.Content.TheVariants as content
use Rattle.change_lists.specs.declared.value.CellValue.{CellValue}
use Rattle.packet_bytes.specs.declared.header.Kind.{Kind}
use Rattle.packet_bytes.specs.declared.header.Kind.TheVariants as kind
use Rattle.packet_bytes.specs.declared.wire.Wire.{Wire}
use Rattle.packet_bytes.specs.declared.wire.Wire.TheVariants.{Push, Reply}

-- ---- the spelling: numbers have their highest byte first, integers are two's complement

abbrev pub int_bytes : ℤ → List ℕ
int_bytes n = to_be_bytes w64 (cast_unsigned w64 n)

-- a length, and so many bytes
abbrev pub text_bytes : List ℕ → List ℕ
text_bytes text = length text ∷ text

abbrev pub id_bytes : Id → List ℕ
id_bytes id = id.client ∷ to_be_bytes w32 id.serial

-- a tag and the content
abbrev pub key_bytes : Key → List ℕ
key_bytes (Int n) = 0 ∷ int_bytes n
key_bytes (Text text) = 1 ∷ text_bytes text
key_bytes (Ref id) = 2 ∷ id_bytes id

abbrev pub created_bytes : Created → List ℕ
created_bytes c = id_bytes c.id ++ (to_be_bytes w16 c.entity ++ flat_map key_bytes c.keys)

abbrev pub cell_bytes : Cell → List ℕ
cell_bytes cell = to_be_bytes w16 cell.property ++ flat_map key_bytes cell.keys

abbrev pub effect_bytes : Effect → List ℕ
effect_bytes (Add n) = 0 ∷ int_bytes n
effect_bytes (SetInt n) = 1 ∷ int_bytes n
effect_bytes (SetText text) = 2 ∷ text_bytes text
effect_bytes (IfEmpty text) = 3 ∷ text_bytes text

abbrev pub content_bytes : Content → List ℕ
content_bytes (content.Int n) = int_bytes n
content_bytes (content.Text text) = text_bytes text

abbrev pub cell_effect_bytes : CellEffect → List ℕ
cell_effect_bytes it = cell_bytes (cell_of it) ++ effect_bytes it.effect

abbrev pub cell_value_bytes : CellValue → List ℕ
cell_value_bytes it = cell_bytes (place_of it) ++ content_bytes it.value

-- a count of four bytes, and the elements
abbrev pub list_bytes : {A : Type 0} → (A → List ℕ) → List A → List ℕ
list_bytes one list = to_be_bytes w32 (length list) ++ flat_map one list

abbrev pub change_bytes : ChangeLists → List ℕ
change_bytes change =
    list_bytes created_bytes change.created
    ++ (list_bytes id_bytes change.dead ++ list_bytes cell_effect_bytes change.cells)

abbrev pub image_bytes : ImageLists → List ℕ
image_bytes image =
    list_bytes created_bytes image.created
    ++ (list_bytes id_bytes image.dead ++ list_bytes cell_value_bytes image.cells)

abbrev pub kind_tag : Kind → ℕ
kind_tag kind.Push = 1
kind_tag kind.Reply = 2

-- the letters C and T, version 1, the kind, and then the numbers
abbrev pub header_bytes : Kind → ℕ → ℕ → ℕ → List ℕ
header_bytes kind client round base =
    67 ∷ 84 ∷ 1 ∷ kind_tag kind ∷ client ∷ (to_be_bytes w64 round ++ to_be_bytes w64 base)

abbrev pub spelling : Wire → List ℕ
spelling (Push client round base change) = header_bytes kind.Push client round base ++ change_bytes change
spelling (Reply client round base image) = header_bytes kind.Reply client round base ++ image_bytes image

-- ---- what is a packet for a schema

-- an effect on a cell of a type
abbrev pub IsEffectOn : CellType → Effect → Type 0
IsEffectOn cell.Int (Add n) = FitsSigned w64 n
IsEffectOn cell.Int (SetInt n) = FitsSigned w64 n
IsEffectOn cell.Text (SetText text) = IsText text
IsEffectOn cell.Text (IfEmpty text) = IsText text
IsEffectOn _ _ = ⊥

-- what a cell of a type may hold
abbrev pub IsContentOf : CellType → Content → Type 0
IsContentOf cell.Int (content.Int n) = FitsSigned w64 n
IsContentOf cell.Text (content.Text text) = IsText text
IsContentOf _ _ = ⊥

abbrev pub IsCreatedOf : Schema → Created → Type 0
IsCreatedOf schema c = IsShaped schema (Create c.id c.entity c.keys)

-- a cell of the schema, and an effect on it that does something
abbrev pub IsEffectOf : Schema → CellEffect → Type 0
IsEffectOf schema it =
    IsCell schema it.property it.keys
    × (IsEffectOn (cell_type schema it.property) it.effect × IsEffective it.effect)

-- a cell of the schema, and what it holds other than its default
abbrev pub IsValueOf : Schema → CellValue → Type 0
IsValueOf schema it =
    IsCell schema it.property it.keys
    × (IsContentOf (cell_type schema it.property) it.value × IsFilled it.value)

-- a list that ascends without repeats, whose count has four bytes
pub record IsListOf {A : Type 0} (order : A → A → Ordering) (P : A → Type 0) (list : List A) : Type 0 where
  pub few : length list < 2 ^ 32
  pub ascends : IsStrictlySortedBy order list
  pub each : All P list

pub record IsChangeOf (schema : Schema) (change : ChangeLists) : Type 0 where
  pub created : IsListOf created_order (IsCreatedOf schema) change.created
  pub dead : IsListOf id_order IsId change.dead
  pub cells : IsListOf effect_order (IsEffectOf schema) change.cells

pub record IsImageOf (schema : Schema) (image : ImageLists) : Type 0 where
  pub created : IsListOf created_order (IsCreatedOf schema) image.created
  pub dead : IsListOf id_order IsId image.dead
  pub cells : IsListOf value_order (IsValueOf schema) image.cells

-- the client, the round and the base of a packet
pub record IsHeader (client round base : ℕ) : Type 0 where
  pub client_below : client < 8
  pub round_begun : 1 ≤ round
  pub round_below : round < 2 ^ 64
  pub base_below : base < 2 ^ 64

abbrev pub IsPacketOf : Schema → Wire → Type 0
IsPacketOf schema (Push client round base change) = IsHeader client round base × IsChangeOf schema change
IsPacketOf schema (Reply client round base image) = IsHeader client round base × IsImageOf schema image

-- the push of an empty change, from the first client's first round
pub example_empty_push : spelling (Push 0 1 0 (record { created = []; dead = []; cells = [] })) ≡ 67 ∷ 84 ∷ 1 ∷ 1 ∷ 0 ∷ 0 ∷ 0 ∷ 0 ∷ 0 ∷ 0 ∷ 0 ∷ 0 ∷ 1 ∷ 0 ∷ 0 ∷ 0 ∷ 0 ∷ 0 ∷ 0 ∷ 0 ∷ 0 ∷ 0 ∷ 0 ∷ 0 ∷ 0 ∷ 0 ∷ 0 ∷ 0 ∷ 0 ∷ 0 ∷ 0 ∷ 0 ∷ 0 ∷ []
example_empty_push = refl

-- an add of -5 to the cell of property 1 that is kept by the text ab
pub example_effect : cell_effect_bytes (record { property = 1; keys = Text (97 ∷ 98 ∷ []) ∷ []; effect = Add (negsuc 4) }) ≡ 0 ∷ 1 ∷ 1 ∷ 2 ∷ 97 ∷ 98 ∷ 0 ∷ 255 ∷ 255 ∷ 255 ∷ 255 ∷ 255 ∷ 255 ∷ 255 ∷ 251 ∷ []
example_effect = refl
