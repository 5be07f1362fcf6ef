-- Whole packets: what is read is spelled so, what is spelled so is read, and what faults say.
use Rattle.std.proofs.Common.{◌≡◌, refl, sym, ◌∙◌, ap, subst, ℕ, zero, suc, ◌+◌, ◌^◌, ◌<◌, ◌≤◌, Bool, true, false, cond, List, [], ◌∷◌, ◌++◌, length, get_or, Result, Ok, Err, inl, inr, append_assoc, length-append, arith}
use Rattle.std.specs.Prelude.{◌⊎◌, ◌≢◌, ⊤, ◌==◌, ◌||◌, not, nat_lt, Option, Some, None, All, IfOk}
use Rattle.std.specs.List.{flat_map, AllByRecursion}
use Rattle.std.specs.Int.{w64, to_be_bytes}
use Rattle.std.specs.Cmp.{IsTotalOrder}
use Rattle.std.proofs.lemmas.Bool.{eqb-true}
use Rattle.std.proofs.lemmas.Bool.Decides.{nat_tests}
use Rattle.std.proofs.lemmas.List.{append-nil}
use Rattle.std.proofs.lemmas.List.Elements.{All-from_recursion, recursion_from_All}
use Rattle.cloud_base.specs.Values.{Id}
use Rattle.cloud_base.specs.Order.{id_order}
use Rattle.cloud_base.specs.Shaped.{IsId}
use Rattle.cloud_base.specs.declared.schema.Schema.{Schema}
use Rattle.cloud_base.proofs.OrderLemmas.{id_order_total}
use Rattle.fj_array.specs.declared.effect.CellEffect.{CellEffect}
use Rattle.fj_array.specs.Effects.{effect_order}
use Rattle.fj_entity.specs.declared.created.Created.{Created}
use Rattle.fj_entity.specs.Rosters.{created_order}
use Rattle.change_lists.specs.Lists.{ChangeLists, ImageLists, IsChangeLists, IsImageLists, IsEffective, IsFilled, value_order}
use Rattle.change_lists.specs.declared.value.CellValue.{CellValue}
use Rattle.packet_bytes.specs.declared.fault.WireFault.{WireFault}
use Rattle.packet_bytes.specs.declared.fault.WireFault.TheVariants.{Short, BadTag, NotCanonical, Trailing}
use Rattle.packet_bytes.specs.declared.fault.ReadFault.{ReadFault}
use Rattle.packet_bytes.specs.declared.fault.ReadFault.TheVariants as fault
use Rattle.packet_bytes.specs.declared.header.Header.{Header}
use Rattle.packet_bytes.specs.declared.header.Kind.{Kind}
use Rattle.packet_bytes.specs.declared.header.Kind.TheVariants as kind
use Rattle.packet_bytes.specs.declared.wire.Wire.{Wire}
use Rattle.packet_bytes.specs.declared.wire.Wire.TheVariants.{Push, Reply}
use Rattle.packet_bytes.specs.Left.{Left, Field, Read, Reader, end_of, ◌>>=◌, give, check, byte_at, number_at, IsBytes}
use Rattle.packet_bytes.specs.Reading.{dead_at, created_at, cell_effect_at, cell_value_at, list_at, client_at, exactly_at, kind_at, round_at, header_at, change_at, image_at, body_at, wire_at, whole, packet_of, Reads}
use Rattle.packet_bytes.specs.Spelling.{id_bytes, created_bytes, cell_effect_bytes, cell_value_bytes, list_bytes, change_bytes, image_bytes, kind_tag, header_bytes, spelling, IsCreatedOf, IsEffectOf, IsValueOf, IsListOf, IsChangeOf, IsImageOf, IsHeader, IsPacketOf}
use Rattle.packet_bytes.proofs.Spells.{Spells, Takes, longer, longer_ok, ok_is, spells_seq, spells_then, spells_give, spells_same, spells_made, spells_check, spells_checked}
use Rattle.packet_bytes.proofs.Fields.{byte_spells, number_spells, wide64, client_spells}
use Rattle.packet_bytes.proofs.Elements.{IsAbove, dead_spells, created_spells, cell_effect_spells, cell_value_spells, list_spells}

-- ---- the header

same_test : (a b : ℕ) → a ≡ b → (a == b) ≡ true
same_test a b e = grind (arith, nat_tests, e)

exactly_spells : (b : ℕ) → b < 256 → Spells (exactly_at b) (λ u. ⊤) (λ u. b ∷ [])
unfolding exactly_at
exactly_spells b small =
    spells_seq byte_at (λ byte. check (byte.value == b) (BadTag byte.at) >>= λ same. give tt) (λ n. n < 256) (λ n. n ∷ []) (λ n u. n ≡ b) (λ n u. []) (λ u. ⊤) (λ u. b ∷ []) byte_spells
    (λ at n lt. spells_check (n == b) (BadTag at) (give tt) (λ u. n ≡ b) (λ u. []) (λ t. spells_give tt (λ u. n ≡ b) (eqb-true n b t) (λ u e. refl)) (λ u e. same_test n b e))
    (λ u f. (b, small, refl, refl))
    (λ n u lt e. (tt, ap (λ m. m ∷ []) (sym e)))

kind_of : ℕ → Kind
kind_of n = cond (n == 1) kind.Push kind.Reply

kind_again : (k : Kind) → kind_of (kind_tag k) ≡ k
unfolding kind_of
kind_again kind.Push = refl
kind_again kind.Reply = refl

kind_fits : (k : Kind) → (kind_tag k < 256) × (((kind_tag k == 1) || (kind_tag k == 2)) ≡ true)
kind_fits kind.Push = (omega arith, refl)
kind_fits kind.Reply = (omega arith, refl)

tag_is : (n : ℕ) → ((n == 1) || (n == 2)) ≡ true → n ≡ kind_tag (kind_of n)
unfolding kind_of
tag_is n t =
    let P : Bool → Type 0 = λ b. (n == 1) ≡ b → (b || (n == 2)) ≡ true → n ≡ kind_tag (cond b kind.Push kind.Reply) in
    let at : P (n == 1) = elim (n == 1) as P [ true ↦ λ e u. eqb-true n 1 e | false ↦ λ e u. eqb-true n 2 u ] in
    at refl t

kind_spells : Spells kind_at (λ k. ⊤) (λ k. kind_tag k ∷ [])
unfolding kind_at kind_of
kind_spells =
    spells_seq byte_at (λ tag. check ((tag.value == 1) || (tag.value == 2)) (BadTag tag.at) >>= λ right. give (kind_of tag.value)) (λ n. n < 256) (λ n. n ∷ []) (λ n k. n ≡ kind_tag k) (λ n k. []) (λ k. ⊤) (λ k. kind_tag k ∷ []) byte_spells
    (λ at n lt. spells_check ((n == 1) || (n == 2)) (BadTag at) (give (kind_of n)) (λ k. n ≡ kind_tag k) (λ k. [])
    (λ t. spells_give (kind_of n) (λ k. n ≡ kind_tag k) (tag_is n t) (λ k e. sym (kind_again k) ∙ ap kind_of (sym e)))
    (λ k e. ap (λ m. (m == 1) || (m == 2)) e ∙ (kind_fits k).1))
    (λ k f. (kind_tag k, (kind_fits k).0, refl, refl))
    (λ n k lt e. (tt, ap (λ m. m ∷ []) (sym e)))

not_zero : (n : ℕ) → not (n == 0) ≡ true → 1 ≤ n
not_zero n t = grind (arith, nat_tests, t)

begun : (n : ℕ) → 1 ≤ n → not (n == 0) ≡ true
begun zero h = absurd (omega arith)
begun (suc n) h = let e : (suc n == 0) ≡ false = grind (arith, nat_tests) in ap not e

round_spells : Spells round_at (λ n. (1 ≤ n) × (n < 2 ^ 64)) (to_be_bytes w64)
unfolding round_at
round_spells = spells_same round_at (λ n. (n < 2 ^ 64) × (not (n == 0) ≡ true)) (to_be_bytes w64) (λ n. (1 ≤ n) × (n < 2 ^ 64)) (to_be_bytes w64)
    (spells_checked (number_at w64) (λ n. not (n == 0)) NotCanonical (λ n. n < 2 ^ 64) (to_be_bytes w64) (number_spells w64 (2 ^ 64) wide64))
    (λ n h. (not_zero n h.1, h.0)) (λ n h. (h.1, begun n h.0)) (λ n h. refl)

-- the header of a client, a round and a base
abbrev pub Heads : Header → Type 0
Heads h = IsHeader h.client h.round h.base

abbrev pub head_bytes : Header → List ℕ
head_bytes h = header_bytes h.kind h.client h.round h.base

pub header_spells : Spells header_at Heads head_bytes
unfolding header_at
header_spells =
    spells_then (exactly_at 67) (λ first. exactly_at 84 >>= λ second. exactly_at 1 >>= λ version. kind_at >>= λ kind. client_at >>= λ client. round_at >>= λ round. number_at w64 >>= λ base. give (record { kind = kind.value; client = client.value; round = round.value; base = base.value })) (λ (h : Header). tt) (λ u. ⊤) (λ u. 67 ∷ []) Heads (λ h. 84 ∷ 1 ∷ kind_tag h.kind ∷ h.client ∷ (to_be_bytes w64 h.round ++ to_be_bytes w64 h.base)) (exactly_spells 67 (omega arith))
    (λ h f. tt)
    (λ at u t. spells_then (exactly_at 84) (λ second. exactly_at 1 >>= λ version. kind_at >>= λ kind. client_at >>= λ client. round_at >>= λ round. number_at w64 >>= λ base. give (record { kind = kind.value; client = client.value; round = round.value; base = base.value })) (λ (h : Header). tt) (λ u. ⊤) (λ u. 84 ∷ []) (λ h. Heads h × (tt ≡ u)) (λ h. 1 ∷ kind_tag h.kind ∷ h.client ∷ (to_be_bytes w64 h.round ++ to_be_bytes w64 h.base)) (exactly_spells 84 (omega arith))
    (λ h f. tt)
    (λ at' u' t'. spells_then (exactly_at 1) (λ version. kind_at >>= λ kind. client_at >>= λ client. round_at >>= λ round. number_at w64 >>= λ base. give (record { kind = kind.value; client = client.value; round = round.value; base = base.value })) (λ (h : Header). tt) (λ u. ⊤) (λ u. 1 ∷ []) (λ h. (Heads h × (tt ≡ u)) × (tt ≡ u')) (λ h. kind_tag h.kind ∷ h.client ∷ (to_be_bytes w64 h.round ++ to_be_bytes w64 h.base)) (exactly_spells 1 (omega arith))
    (λ h f. tt)
    (λ at'' u'' t''. numbers_spell (λ h. ((Heads h × (tt ≡ u)) × (tt ≡ u')) × (tt ≡ u'')) (λ h f. f.0.0.0) (λ h f. (((f, refl), refl), refl)))))
  where
    numbers_spell : (Is : Header → Type 0) → ((h : Header) → Is h → Heads h) → ((h : Header) → Heads h → Is h) → Spells (kind_at >>= λ kind. client_at >>= λ client. round_at >>= λ round. number_at w64 >>= λ base. give (record { kind = kind.value; client = client.value; round = round.value; base = base.value })) Is (λ h. kind_tag h.kind ∷ h.client ∷ (to_be_bytes w64 h.round ++ to_be_bytes w64 h.base))
    numbers_spell Is out into =
        spells_then kind_at (λ kind. client_at >>= λ client. round_at >>= λ round. number_at w64 >>= λ base. give (record { kind = kind.value; client = client.value; round = round.value; base = base.value })) (λ (h : Header). h.kind) (λ k. ⊤) (λ k. kind_tag k ∷ []) Is (λ h. h.client ∷ (to_be_bytes w64 h.round ++ to_be_bytes w64 h.base)) kind_spells
        (λ h f. tt)
        (λ at k t. spells_then client_at (λ client. round_at >>= λ round. number_at w64 >>= λ base. give (record { kind = k; client = client.value; round = round.value; base = base.value })) (λ (h : Header). h.client) (λ c. c < 8) (λ c. c ∷ []) (λ h. Is h × (h.kind ≡ k)) (λ h. to_be_bytes w64 h.round ++ to_be_bytes w64 h.base) client_spells
        (λ h f. (out h f.0).client_below)
        (λ at' c lt. spells_then round_at (λ round. number_at w64 >>= λ base. give (record { kind = k; client = c; round = round.value; base = base.value })) (λ (h : Header). h.round) (λ n. (1 ≤ n) × (n < 2 ^ 64)) (to_be_bytes w64) (λ h. (Is h × (h.kind ≡ k)) × (h.client ≡ c)) (λ h. to_be_bytes w64 h.base) round_spells
        (λ h f. ((out h f.0.0).round_begun, (out h f.0.0).round_below))
        (λ at'' n fits. spells_made (number_at w64) (λ base. record { kind = k; client = c; round = n; base = base }) (λ (h : Header). h.base) (λ m. m < 2 ^ 64) (to_be_bytes w64) (λ h. ((Is h × (h.kind ≡ k)) × (h.client ≡ c)) × (h.round ≡ n)) (number_spells w64 (2 ^ 64) wide64)
        (λ m small.
        let made : Header = record { kind = k; client = c; round = n; base = m } in
        ((((into made (record { client_below = lt; round_begun = fits.0; round_below = fits.1; base_below = small }), refl), refl), refl), refl))
        (λ h f. ((out h f.0.0.0).base_below, λ i. record { kind = sym f.0.0.1 i; client = sym f.0.1 i; round = sym f.1 i; base = h.base })))))

-- ---- changes and images

module _ (effects : IsTotalOrder effect_order) (values : IsTotalOrder value_order) (created : IsTotalOrder created_order) where
  pub created_list : (schema : Schema) → Spells (list_at (created_at schema)) (IsListOf created_order (IsCreatedOf schema)) (list_bytes created_bytes)
  created_list schema = list_spells created_order (created_at schema) (IsCreatedOf schema) created_bytes (created_spells schema) created

  pub dead_list : Spells (list_at dead_at) (IsListOf id_order IsId) (list_bytes id_bytes)
  dead_list = list_spells id_order dead_at IsId id_bytes dead_spells id_order_total

  pub effect_list : (schema : Schema) → Spells (list_at (cell_effect_at schema)) (IsListOf effect_order (IsEffectOf schema)) (list_bytes cell_effect_bytes)
  effect_list schema = list_spells effect_order (cell_effect_at schema) (IsEffectOf schema) cell_effect_bytes (cell_effect_spells schema) effects

  pub value_list : (schema : Schema) → Spells (list_at (cell_value_at schema)) (IsListOf value_order (IsValueOf schema)) (list_bytes cell_value_bytes)
  value_list schema = list_spells value_order (cell_value_at schema) (IsValueOf schema) cell_value_bytes (cell_value_spells schema) values

  change_spells : (schema : Schema) → Spells (change_at schema) (IsChangeOf schema) change_bytes
  unfolding change_at
  change_spells schema =
      spells_then (list_at (created_at schema)) (λ created. list_at dead_at >>= λ dead. list_at (cell_effect_at schema) >>= λ cells. give (record { created = created.value; dead = dead.value; cells = cells.value })) (λ (c : ChangeLists). c.created) (IsListOf created_order (IsCreatedOf schema)) (list_bytes created_bytes) (IsChangeOf schema) (λ c. list_bytes id_bytes c.dead ++ list_bytes cell_effect_bytes c.cells) (created_list schema)
      (λ c f. f.created)
      (λ at made f. spells_then (list_at dead_at) (λ dead. list_at (cell_effect_at schema) >>= λ cells. give (record { created = made; dead = dead.value; cells = cells.value })) (λ (c : ChangeLists). c.dead) (IsListOf id_order IsId) (list_bytes id_bytes) (λ c. IsChangeOf schema c × (c.created ≡ made)) (λ c. list_bytes cell_effect_bytes c.cells) dead_list
      (λ c g. g.0.dead)
      (λ at' dead g. spells_made (list_at (cell_effect_at schema)) (λ cells. record { created = made; dead = dead; cells = cells }) (λ (c : ChangeLists). c.cells) (IsListOf effect_order (IsEffectOf schema)) (list_bytes cell_effect_bytes) (λ c. (IsChangeOf schema c × (c.created ≡ made)) × (c.dead ≡ dead)) (effect_list schema)
      (λ cells h. (((record { created = f; dead = g; cells = h }, refl), refl), refl))
      (λ c h. (h.0.0.cells, λ i. record { created = sym h.0.1 i; dead = sym h.1 i; cells = c.cells }))))

  image_spells : (schema : Schema) → Spells (image_at schema) (IsImageOf schema) image_bytes
  unfolding image_at
  image_spells schema =
      spells_then (list_at (created_at schema)) (λ created. list_at dead_at >>= λ dead. list_at (cell_value_at schema) >>= λ cells. give (record { created = created.value; dead = dead.value; cells = cells.value })) (λ (c : ImageLists). c.created) (IsListOf created_order (IsCreatedOf schema)) (list_bytes created_bytes) (IsImageOf schema) (λ c. list_bytes id_bytes c.dead ++ list_bytes cell_value_bytes c.cells) (created_list schema)
      (λ c f. f.created)
      (λ at made f. spells_then (list_at dead_at) (λ dead. list_at (cell_value_at schema) >>= λ cells. give (record { created = made; dead = dead.value; cells = cells.value })) (λ (c : ImageLists). c.dead) (IsListOf id_order IsId) (list_bytes id_bytes) (λ c. IsImageOf schema c × (c.created ≡ made)) (λ c. list_bytes cell_value_bytes c.cells) dead_list
      (λ c g. g.0.dead)
      (λ at' dead g. spells_made (list_at (cell_value_at schema)) (λ cells. record { created = made; dead = dead; cells = cells }) (λ (c : ImageLists). c.cells) (IsListOf value_order (IsValueOf schema)) (list_bytes cell_value_bytes) (λ c. (IsImageOf schema c × (c.created ≡ made)) × (c.dead ≡ dead)) (value_list schema)
      (λ cells h. (((record { created = f; dead = g; cells = h }, refl), refl), refl))
      (λ c h. (h.0.0.cells, λ i. record { created = sym h.0.1 i; dead = sym h.1 i; cells = c.cells }))))

  each_of : {A : Type 0} (P Q : A → Type 0) (xs : List A) → ((x : A) → P x → Q x) → AllByRecursion P xs → AllByRecursion Q xs
  each_of P Q [] f h = tt
  each_of P Q (x ∷ xs) f h = (f x h.0, each_of P Q xs f h.1)

  weaker : {A : Type 0} (P Q : A → Type 0) (xs : List A) → ((x : A) → P x → Q x) → All P xs → All Q xs
  weaker P Q xs f h = All-from_recursion Q xs (each_of P Q xs f (recursion_from_All P xs h))

  -- lists that were read are those of a change
  pub read_change : (schema : Schema) (first second third rest : Left) (made : List Created) (dead : List Id) (cells : List CellEffect) → IsBytes first.bytes
      → list_at (created_at schema) first ≡ Ok (made, second) → list_at dead_at second ≡ Ok (dead, third) → list_at (cell_effect_at schema) third ≡ Ok (cells, rest)
      → IsChangeLists (record { created = made; dead = dead; cells = cells })
  read_change schema first second third rest made dead cells fits e f g =
      let a = (created_list schema).takes first made second fits e in
      let b = dead_list.takes second dead third a.1.fits f in
      let c = (effect_list schema).takes third cells rest b.1.fits g in
      record { created = a.0.ascends; dead = b.0.ascends; cells = c.0.ascends; effects = weaker (IsEffectOf schema) (λ it. IsEffective it.effect) cells (λ it h. h.1.1) c.0.each }

  pub read_image : (schema : Schema) (first second third rest : Left) (made : List Created) (dead : List Id) (cells : List CellValue) → IsBytes first.bytes
      → list_at (created_at schema) first ≡ Ok (made, second) → list_at dead_at second ≡ Ok (dead, third) → list_at (cell_value_at schema) third ≡ Ok (cells, rest)
      → IsImageLists (record { created = made; dead = dead; cells = cells })
  read_image schema first second third rest made dead cells fits e f g =
      let a = (created_list schema).takes first made second fits e in
      let b = dead_list.takes second dead third a.1.fits f in
      let c = (value_list schema).takes third cells rest b.1.fits g in
      record { created = a.0.ascends; dead = b.0.ascends; cells = c.0.ascends; values = weaker (IsValueOf schema) (λ it. IsFilled it.value) cells (λ it h. h.1.1) c.0.each }

  -- ---- packets

  abbrev no_change : ChangeLists
  no_change = record { created = []; dead = []; cells = [] }

  abbrev no_image : ImageLists
  no_image = record { created = []; dead = []; cells = [] }

  change_in : Wire → ChangeLists
  change_in (Push client round base change) = change
  change_in (Reply client round base image) = no_change

  image_in : Wire → ImageLists
  image_in (Push client round base change) = no_image
  image_in (Reply client round base image) = image

  -- the header of a packet, and what follows
  abbrev header_in : Wire → Header
  header_in (Push client round base change) = record { kind = kind.Push; client = client; round = round; base = base }
  header_in (Reply client round base image) = record { kind = kind.Reply; client = client; round = round; base = base }

  abbrev body_bytes : Wire → List ℕ
  body_bytes (Push client round base change) = change_bytes change
  body_bytes (Reply client round base image) = image_bytes image

  abbrev IsBody : Schema → Wire → Type 0
  IsBody schema (Push client round base change) = IsChangeOf schema change
  IsBody schema (Reply client round base image) = IsImageOf schema image

  abbrev Follows : Schema → Header → Wire → Type 0
  Follows schema h w = (header_in w ≡ h) × IsBody schema w

  apart : {k : Kind} {P : Type 0} → k ≡ kind.Push → k ≡ kind.Reply → P
  apart e f = cc

  push_of : (schema : Schema) (c r b : ℕ) (w : Wire) → Follows schema (record { kind = kind.Push; client = c; round = r; base = b }) w → IsChangeOf schema (change_in w) × (Push c r b (change_in w) ≡ w)
  unfolding change_in
  push_of schema c r b (Push client round base change) f = (f.1, λ i. Push (sym (ap (λ (h : Header). h.client) f.0) i) (sym (ap (λ (h : Header). h.round) f.0) i) (sym (ap (λ (h : Header). h.base) f.0) i) change)
  push_of schema c r b (Reply client round base image) f = let e : kind.Reply ≡ kind.Push = ap (λ (h : Header). h.kind) f.0 in cc

  reply_of : (schema : Schema) (c r b : ℕ) (w : Wire) → Follows schema (record { kind = kind.Reply; client = c; round = r; base = b }) w → IsImageOf schema (image_in w) × (Reply c r b (image_in w) ≡ w)
  unfolding image_in
  reply_of schema c r b (Reply client round base image) f = (f.1, λ i. Reply (sym (ap (λ (h : Header). h.client) f.0) i) (sym (ap (λ (h : Header). h.round) f.0) i) (sym (ap (λ (h : Header). h.base) f.0) i) image)
  reply_of schema c r b (Push client round base change) f = let e : kind.Push ≡ kind.Reply = ap (λ (h : Header). h.kind) f.0 in cc

  body_spells : (schema : Schema) (k : Kind) (c r b : ℕ) → Spells (body_at schema k c r b) (Follows schema (record { kind = k; client = c; round = r; base = b })) body_bytes
  unfolding body_at change_in image_in
  body_spells schema kind.Push c r b =
      let Is : Wire → Type 0 = Follows schema (record { kind = kind.Push; client = c; round = r; base = b }) in
      spells_same (body_at schema kind.Push c r b) Is (λ w. change_bytes (change_in w)) Is body_bytes
      (spells_made (change_at schema) (λ change. Push c r b change) change_in (IsChangeOf schema) change_bytes Is (change_spells schema) (λ change f. ((refl, f), refl)) (push_of schema c r b))
      (λ w h. h) (λ w h. h) (λ w h. ap body_bytes (push_of schema c r b w h).1)
  body_spells schema kind.Reply c r b =
      let Is : Wire → Type 0 = Follows schema (record { kind = kind.Reply; client = c; round = r; base = b }) in
      spells_same (body_at schema kind.Reply c r b) Is (λ w. image_bytes (image_in w)) Is body_bytes
      (spells_made (image_at schema) (λ image. Reply c r b image) image_in (IsImageOf schema) image_bytes Is (image_spells schema) (λ image f. ((refl, f), refl)) (reply_of schema c r b))
      (λ w h. h) (λ w h. h) (λ w h. ap body_bytes (reply_of schema c r b w h).1)

  spelled_by_parts : (w : Wire) → spelling w ≡ head_bytes (header_in w) ++ body_bytes w
  spelled_by_parts (Push client round base change) = refl
  spelled_by_parts (Reply client round base image) = refl

  is_by_parts : (schema : Schema) (w : Wire) → (IsPacketOf schema w → Heads (header_in w) × IsBody schema w) × (Heads (header_in w) × IsBody schema w → IsPacketOf schema w)
  is_by_parts schema (Push client round base change) = (λ h. h, λ h. h)
  is_by_parts schema (Reply client round base image) = (λ h. h, λ h. h)

  pub wire_spells : (schema : Schema) → Spells (wire_at schema) (IsPacketOf schema) spelling
  unfolding wire_at
  wire_spells schema =
      spells_seq header_at (λ header. body_at schema header.value.kind header.value.client header.value.round header.value.base) Heads head_bytes (Follows schema) (λ h w. body_bytes w) (IsPacketOf schema) spelling header_spells
      (λ at h f. body_spells schema h.kind h.client h.round h.base)
      (λ w f. let g = (is_by_parts schema w).0 f in (header_in w, g.0, (refl, g.1), spelled_by_parts w))
      (λ h w f g. ((is_by_parts schema w).1 (subst Heads (sym g.0) f, g.1), spelled_by_parts w ∙ ap (λ x. head_bytes x ++ body_bytes w) g.0))

  -- ---- all of the bytes

  abbrev okay : Wire → Left → Read Wire
  okay w left = Ok (w, left)

  abbrev bad : WireFault → Read Wire
  bad f = Err f

  whole_ok : (r : Read Wire) (w : Wire) → whole r ≡ Ok w → (rest : Left) × (r ≡ Ok (w, rest)) × (rest.bytes ≡ [])
  whole_ok (Err f) w e = cc
  whole_ok (Ok x) w e = let k = kept (length (x.1).bytes == 0) e in (x.1, ap (λ v. okay v x.1) k.1, nothing (x.1).bytes k.0)
    where
      nothing : (bytes : List ℕ) → (length bytes == 0) ≡ true → bytes ≡ []
      nothing [] t = refl
      nothing (b ∷ bytes) t = absurd (grind (arith, nat_tests, t))

      kept : (b : Bool) → cond b (Ok x.0) (Err (Trailing (x.1).at)) ≡ Ok w → (b ≡ true) × (x.0 ≡ w)
      kept true h = (refl, cc)
      kept false h = cc

  start : List ℕ → Left
  start bytes = record { at = 0; bytes = bytes }

  pub packet_takes : (schema : Schema) (bytes : List ℕ) (w : Wire) → IsBytes bytes → packet_of schema bytes ≡ Ok w → IsPacketOf schema w × (bytes ≡ spelling w)
  unfolding packet_of
  packet_takes schema bytes w fits e =
      let h = whole_ok (wire_at schema (record { at = 0; bytes = bytes })) w e in
      let t = (wire_spells schema).takes (record { at = 0; bytes = bytes }) w h.0 fits h.1 in
      (t.0, t.1.parts ∙ ap (λ r. spelling w ++ r) h.2 ∙ append-nil (spelling w))

  pub packet_again : (schema : Schema) (w : Wire) → IsPacketOf schema w → packet_of schema (spelling w) ≡ Ok w
  unfolding packet_of
  packet_again schema w f =
      ap (λ b. whole (wire_at schema (record { at = 0; bytes = b }))) (sym (append-nil (spelling w)))
      ∙ ap whole ((wire_spells schema).again w 0 [] f)

  -- a spelling that begins another is that other
  pub one_packet : (schema : Schema) (w v : Wire) (more : List ℕ) → IsPacketOf schema w → IsPacketOf schema v → spelling w ++ more ≡ spelling v → (w ≡ v) × (more ≡ [])
  one_packet schema w v more f g e =
      let first = (wire_spells schema).again w 0 more f in
      let second = (wire_spells schema).again v 0 [] g in
      let same = sym first ∙ ap (λ b. wire_at schema (record { at = 0; bytes = b })) (e ∙ sym (append-nil (spelling v))) ∙ second in
      let pair = ok_is (w, record { at = 0 + length (spelling w); bytes = more }) (v, record { at = 0 + length (spelling v); bytes = [] }) same in
      (ap (λ (p : Wire × Left). p.0) pair, ap (λ (p : Wire × Left). (p.1).bytes) pair)

  -- ---- faults

  whole_err : (r : Read Wire) (f : WireFault) → whole r ≡ Err f → (r ≡ Err f) ⊎ ((w : Wire) × (rest : Left) × (r ≡ Ok (w, rest)) × (rest.bytes ≢ []) × (f ≡ Trailing rest.at))
  whole_err (Err g) f e = let inner : g ≡ f = cc in inl (ap bad inner)
  whole_err (Ok x) f e = inr (x.0, x.1, refl, filled (x.1).bytes (kept (length (x.1).bytes == 0) e).0, (kept (length (x.1).bytes == 0) e).1)
    where
      filled : (bytes : List ℕ) → (length bytes == 0) ≡ false → bytes ≢ []
      filled [] t = cc
      filled (b ∷ bytes) t = λ z. cc

      kept : (b : Bool) → cond b (Ok x.0) (Err (Trailing (x.1).at)) ≡ Err f → (b ≡ false) × (f ≡ Trailing (x.1).at)
      kept true h = cc
      kept false h = (refl, cc)

  still_trailing : (w : Wire) (rest : Left) (more : List ℕ) → rest.bytes ≢ [] → whole (Ok (w, longer rest more)) ≡ Err (Trailing rest.at)
  still_trailing w rest more h = left_over rest.bytes h
    where
      left_over : (bytes : List ℕ) → bytes ≢ [] → whole (Ok (w, record { at = rest.at; bytes = bytes ++ more })) ≡ Err (Trailing rest.at)
      left_over [] h = absurd (h refl)
      left_over (b ∷ bytes) h = let t : (suc (length (bytes ++ more)) == 0) ≡ false = grind (arith, nat_tests) in ap (λ (c : Bool). cond c (Ok w) (Err (Trailing rest.at))) t

  -- a fault is that the bytes end, or stays whatever follows
  pub fault_found : (schema : Schema) (bytes : List ℕ) (f : WireFault) → IsBytes bytes → packet_of schema bytes ≡ Err f → (f ≡ Short (length bytes)) ⊎ ((more : List ℕ) → packet_of schema (bytes ++ more) ≡ Err f)
  unfolding packet_of
  fault_found schema bytes f fits e =
      let law = wire_spells schema in
      let left : Left = record { at = 0; bytes = bytes } in
      elim (whole_err (wire_at schema left) f e) [
        | inl h ↦ elim (law.faults left f fits h) [
          | inl short ↦ let n : 0 + length bytes ≡ length bytes = omega arith in inl (short ∙ ap Short n)
          | inr stays ↦ inr (λ more. ap whole (stays more))
        ]
        | inr h ↦ inr (λ more. ap whole (longer_ok (wire_at schema) (IsPacketOf schema) spelling law left h.0 h.1 fits h.2 more) ∙ still_trailing h.0 h.1 more h.3 ∙ ap Err (sym h.4))
      ]

  front_fits : (front more : List ℕ) → IsBytes (front ++ more) → IsBytes front
  front_fits [] more h i = omega arith
  front_fits (b ∷ front) more h zero = h 0
  front_fits (b ∷ front) more h (suc i) = front_fits front more (λ k. h (suc k)) i

  -- the front of a packet's spelling ends too soon
  pub front_short : (schema : Schema) (w : Wire) (front more : List ℕ) → IsPacketOf schema w → IsBytes front → front ++ more ≡ spelling w → more ≢ [] → packet_of schema front ≡ Err (Short (length front))
  front_short schema w front more f fits e some = by_read (packet_of schema front) refl
    where
      by_read : (r : Result Wire WireFault) → packet_of schema front ≡ r → packet_of schema front ≡ Err (Short (length front))
      by_read (Ok v) h =
          let t = packet_takes schema front v fits h in
          absurd (some (one_packet schema v w more t.0 f (ap (λ x. x ++ more) (sym t.1) ∙ e)).1)
      by_read (Err g) h = elim (fault_found schema front g fits h) [
        | inl short ↦ h ∙ ap Err short
        | inr stays ↦ let wrong : Ok w ≡ Err g = sym (packet_again schema w f) ∙ ap (packet_of schema) (sym e) ∙ stays more in cc
      ]

  -- ---- what a call answered

  pub is_found : (schema : Schema) (bytes : List ℕ) (r : Result Wire ReadFault) → IsBytes bytes → Reads r (packet_of schema bytes) → IfOk r (λ w. IsPacketOf schema w × (bytes ≡ spelling w))
  is_found schema bytes (Ok w) fits given = packet_takes schema bytes w fits given
  is_found schema bytes (Err e) fits given = tt
