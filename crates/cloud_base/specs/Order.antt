-- The order of ids, keys and lists of keys.
use Rattle.std.specs.Prelude.{◌≡◌, refl, ℕ, List, [], ◌∷◌, Bool, pos, negsuc}
use Rattle.std.specs.declared.cmp.Ordering.{Ordering}
use Rattle.std.specs.declared.cmp.Ordering.TheVariants.{Less, Equal, Greater}
use Rattle.std.specs.Ordering.{nat_cmp, int_cmp, ordering_then, is_eq}
use Rattle.std.specs.Cmp.Lexicographic.{slice_cmp}
use Rattle.cloud_base.specs.Values.{Id}
use Rattle.cloud_base.specs.declared.key.Key.{Key}
use Rattle.cloud_base.specs.declared.key.Key.TheVariants.{Int, Text, Ref}

-- ids by client, and then by serial
abbrev pub id_order : Id → Id → Ordering
id_order a b = ordering_then (nat_cmp a.client b.client) (nat_cmp a.serial b.serial)

-- texts by the first differing byte; a text that the other begins with comes first
abbrev pub text_order : List ℕ → List ℕ → Ordering
text_order = slice_cmp nat_cmp

-- integers by value, texts by bytes, ids by client and serial; integers come before texts, and texts before ids
abbrev pub key_order : Key → Key → Ordering
key_order (Int a) (Int b) = int_cmp a b
key_order (Int a) (Text t) = Less
key_order (Int a) (Ref v) = Less
key_order (Text s) (Int b) = Greater
key_order (Text s) (Text t) = text_order s t
key_order (Text s) (Ref v) = Less
key_order (Ref u) (Int b) = Greater
key_order (Ref u) (Text t) = Greater
key_order (Ref u) (Ref v) = id_order u v

-- lists of keys by the first differing key
abbrev pub keys_order : List Key → List Key → Ordering
keys_order = slice_cmp key_order

-- neither comes before the other
abbrev pub same_id : Id → Id → Bool
same_id a b = is_eq (id_order a b)

abbrev pub same_keys : List Key → List Key → Bool
same_keys a b = is_eq (keys_order a b)

module _ where
  -- the first client's later id, and the second client's first one
  pub example_ids : id_order (record { client = 0; serial = 7 }) (record { client = 1; serial = 0 }) ≡ Less
  example_ids = refl

  pub example_keys : (keys_order (Int (negsuc 0) ∷ []) (Int (pos 0) ∷ []) ≡ Less) × (keys_order (Int (pos 9) ∷ []) (Text [] ∷ []) ≡ Less) × (keys_order (Text (97 ∷ []) ∷ []) (Text (97 ∷ 97 ∷ []) ∷ []) ≡ Less) × (keys_order (Int (pos 1) ∷ Int (pos 0) ∷ []) (Int (pos 1) ∷ []) ≡ Greater) × (keys_order (Int (pos 1) ∷ []) (Int (pos 1) ∷ []) ≡ Equal)
  example_keys = (refl, refl, refl, refl, refl)
