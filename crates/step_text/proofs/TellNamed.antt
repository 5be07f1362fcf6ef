-- The texts of properties' cells, by the names of their owners, tell names and keys.
use Rattle.std.proofs.Common.{◌≡◌, ℕ, false, List, [], ◌∷◌, ◌++◌, drop, codes, Option, Some, None, refl, sym, ap, ◌∙◌, append_assoc}
use Rattle.std.specs.Prelude.{All, nat_eq}
use Rattle.cloud_base.specs.Values.{is_name_byte, IsName}
use Rattle.cloud_base.specs.declared.key.Key.{Key}
use Rattle.step_text.specs.Values.{keys_text}
use Rattle.step_text.specs.Cells.{keyed_text, created_text}
use Rattle.step_text.proofs.TellValues.{IsWritten, differ, word_first, words_tell}
use Rattle.step_text.proofs.TellPlaces.{name_is_word, name_some, bracket, keyed_tell, IsNamed, IsKeyed, named_cell, named_property}

-- a name, and a byte that stops it
pub names_tell : (a b : List ℕ) (c d : ℕ) (r s : List ℕ) → IsName a → IsName b → is_name_byte c ≡ false → is_name_byte d ≡ false → a ++ c ∷ r ≡ b ++ d ∷ s → (a ≡ b) × (c ∷ r ≡ d ∷ s)
names_tell a b c d r s is also stops too h = words_tell a b (c ∷ r) (d ∷ s) (name_is_word a is) (name_is_word b also) stops too h

cell_behind : (owner : List ℕ) (keys : List Key) (name r : List ℕ) → named_cell (Some owner) keys name ++ r ≡ keyed_text owner keys ++ 46 ∷ (name ++ r)
cell_behind owner keys name r = simp append_assoc

cell_bracket : (owner : List ℕ) (keys : List Key) (name r : List ℕ) → named_cell (Some owner) keys name ++ r ≡ owner ++ 91 ∷ (keys_text keys ++ (93 ∷ 46 ∷ (name ++ r)))
cell_bracket owner keys name r = cell_behind owner keys name r ∙ bracket owner keys (46 ∷ (name ++ r))

-- a name that a byte other than a bracket stops is none with keys behind it
name_no_cell : (a owner : List ℕ) (keys : List Key) (name : List ℕ) (c : ℕ) (r s : List ℕ) → IsName a → IsName owner → is_name_byte c ≡ false → nat_eq c 91 ≡ false → a ++ c ∷ r ≡ named_cell (Some owner) keys name ++ s → ⊥
name_no_cell a owner keys name c r s is also stops apart h =
    differ 0 (c ∷ r) (91 ∷ (keys_text keys ++ (93 ∷ 46 ∷ (name ++ s)))) (names_tell a owner c 91 r (keys_text keys ++ (93 ∷ 46 ∷ (name ++ s))) is also stops refl (h ∙ cell_bracket owner keys name s)).1 apart

pub named_cells_tell : (o w : Option (List ℕ)) (k l : List Key) (p q : List ℕ) (c : ℕ) (r s : List ℕ) → IsNamed o → IsNamed w → IsKeyed o k → IsKeyed w l → All IsWritten k → All IsWritten l → IsName p → IsName q → is_name_byte c ≡ false → nat_eq c 91 ≡ false
    → named_cell o k p ++ c ∷ r ≡ named_cell w l q ++ c ∷ s → (named_property o p ≡ named_property w q) × (k ≡ l) × (r ≡ s)
named_cells_tell None None k l p q c r s named also keyed too written other is is_too stops apart h =
    let both = names_tell p q c c r s is is_too stops stops h in
    (both.0, keyed ∙ sym too, ap (drop 1) both.1)
named_cells_tell None (Some b) k l p q c r s named also keyed too written other is is_too stops apart h = absurd (name_no_cell p b l q c r (c ∷ s) is also stops apart h)
named_cells_tell (Some a) None k l p q c r s named also keyed too written other is is_too stops apart h = absurd (name_no_cell q a k p c s (c ∷ r) is_too named stops apart (sym h))
named_cells_tell (Some a) (Some b) k l p q c r s named also keyed too written other is is_too stops apart h =
    let owners = keyed_tell a b k l (46 ∷ (p ++ c ∷ r)) (46 ∷ (q ++ c ∷ s)) named also written other (sym (cell_behind a k p (c ∷ r)) ∙ h ∙ cell_behind b l q (c ∷ s)) in
    let both = names_tell p q c c r s is is_too stops stops (ap (drop 1) owners.2) in
    (ap (λ (o : List ℕ). o ++ codes "." ++ p) owners.0 ∙ ap (λ (n : List ℕ). b ++ codes "." ++ n) both.0, owners.1, ap (drop 1) both.1)

-- of a cell's first word only a global's has a space behind it
pub named_cell_word : (o : Option (List ℕ)) (k : List Key) (p : List ℕ) (c : ℕ) (r word s : List ℕ) → IsNamed o → IsName p → IsName word → is_name_byte c ≡ false → named_cell o k p ++ c ∷ r ≡ word ++ 32 ∷ s → c ∷ r ≡ 32 ∷ s
named_cell_word None k p c r word s named is also stops h = (names_tell p word c 32 r s is also stops refl h).1
named_cell_word (Some a) k p c r word s named is also stops h = absurd (name_no_cell word a k p 32 s (c ∷ r) also named refl refl (sym h))

property_behind : (owner name r : List ℕ) → named_property (Some owner) name ++ r ≡ owner ++ 46 ∷ (name ++ r)
property_behind owner name r = simp append_assoc

-- properties up to a space
pub named_properties_tell : (o w : Option (List ℕ)) (p q r s : List ℕ) → IsNamed o → IsNamed w → IsName p → IsName q → named_property o p ++ 32 ∷ r ≡ named_property w q ++ 32 ∷ s → (named_property o p ≡ named_property w q) × (r ≡ s)
named_properties_tell None None p q r s named also is is_too h =
    let both = names_tell p q 32 32 r s is is_too refl refl h in
    (both.0, ap (drop 1) both.1)
named_properties_tell None (Some b) p q r s named also is is_too h = absurd (differ 0 (32 ∷ r) (46 ∷ (q ++ 32 ∷ s)) (names_tell p b 32 46 r (q ++ 32 ∷ s) is also refl refl (h ∙ property_behind b q (32 ∷ s))).1 refl)
named_properties_tell (Some a) None p q r s named also is is_too h = absurd (differ 0 (46 ∷ (p ++ 32 ∷ r)) (32 ∷ s) (names_tell a q 46 32 (p ++ 32 ∷ r) s named is_too refl refl (sym (property_behind a p (32 ∷ r)) ∙ h)).1 refl)
named_properties_tell (Some a) (Some b) p q r s named also is is_too h =
    let owners = names_tell a b 46 46 (p ++ 32 ∷ r) (q ++ 32 ∷ s) named also refl refl (sym (property_behind a p (32 ∷ r)) ∙ h ∙ property_behind b q (32 ∷ s)) in
    let both = names_tell p q 32 32 r s is is_too refl refl (ap (drop 1) owners.1) in
    (ap (λ (o : List ℕ). o ++ codes "." ++ p) owners.0 ∙ ap (λ (n : List ℕ). b ++ codes "." ++ n) both.0, ap (drop 1) both.1)

-- a property begins with a letter
pub named_property_first : (o : Option (List ℕ)) (p : List ℕ) (c : ℕ) (r s : List ℕ) → IsNamed o → IsName p → is_name_byte c ≡ false → named_property o p ++ r ≡ c ∷ s → ⊥
named_property_first None p c r s named is stops h = word_first c p r s stops (name_is_word p is) (name_some p is) h
named_property_first (Some a) p c r s named is stops h = word_first c a (46 ∷ (p ++ r)) s stops (name_is_word a named) (name_some a named) (sym (property_behind a p r) ∙ h)

-- an entity and keys up to a space
pub created_tell : (a b : List ℕ) (k l : List Key) (r s : List ℕ) → IsName a → IsName b → All IsWritten k → All IsWritten l → created_text a k ++ 32 ∷ r ≡ created_text b l ++ 32 ∷ s → (a ≡ b) × (k ≡ l) × (r ≡ s)
created_tell a b [] [] r s is also written other h =
    let both = names_tell a b 32 32 r s is also refl refl h in
    (both.0, refl, ap (drop 1) both.1)
created_tell a b [] (y ∷ l) r s is also written other h = absurd (differ 0 (32 ∷ r) (91 ∷ (keys_text (y ∷ l) ++ (93 ∷ 32 ∷ s))) (names_tell a b 32 91 r (keys_text (y ∷ l) ++ (93 ∷ 32 ∷ s)) is also refl refl (h ∙ bracket b (y ∷ l) (32 ∷ s))).1 refl)
created_tell a b (x ∷ k) [] r s is also written other h = absurd (differ 0 (91 ∷ (keys_text (x ∷ k) ++ (93 ∷ 32 ∷ r))) (32 ∷ s) (names_tell a b 91 32 (keys_text (x ∷ k) ++ (93 ∷ 32 ∷ r)) s is also refl refl (sym (bracket a (x ∷ k) (32 ∷ r)) ∙ h)).1 refl)
created_tell a b (x ∷ k) (y ∷ l) r s is also written other h =
    let both = keyed_tell a b (x ∷ k) (y ∷ l) (32 ∷ r) (32 ∷ s) is also written other h in
    (both.0, both.1, ap (drop 1) both.2)
