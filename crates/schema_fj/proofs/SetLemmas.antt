-- An id that was put into a set and is taken out again.
use Rattle.std.proofs.Common.{◌≡◌, refl, sym, ◌∙◌, ap, false, cond, List, [], ◌∷◌}
use Rattle.std.specs.List.{list_any}
use Rattle.std.specs.Ordering.{is_eq, match_ordering}
use Rattle.std.specs.BTreeMap.{is_at}
use Rattle.std.specs.BTreeSet.{insert_key}
use Rattle.std.specs.Set.{remove_key}
use Rattle.std.specs.declared.cmp.Ordering.{Ordering}
use Rattle.std.specs.declared.cmp.Ordering.TheVariants.{Less, Equal, Greater}
use Rattle.std.proofs.lemmas.Bool.{false≢true, or_parts}
use Rattle.cloud_base.specs.Values.{Id}
use Rattle.cloud_base.specs.Order.{id_order, same_id}
use Rattle.cloud_base.proofs.OrderLemmas.{same_id_itself}

pub taken_back : (ids : List Id) (id : Id) → list_any (same_id id) ids ≡ false → remove_key (is_at (id_order id)) (insert_key id_order ids id) ≡ ids
taken_back [] id out = ap (λ b. cond b [] (id ∷ [])) (same_id_itself id)
taken_back (x ∷ ids) id out =
    let parts = or_parts (same_id id x) (list_any (same_id id) ids) out in
    at (id_order id x) refl parts.0 (taken_back ids id parts.1)
  where
    at : (r : Ordering) → id_order id x ≡ r → same_id id x ≡ false → remove_key (is_at (id_order id)) (insert_key id_order ids id) ≡ ids
        → remove_key (is_at (id_order id)) (match_ordering r (id ∷ x ∷ ids) (x ∷ ids) (x ∷ insert_key id_order ids id)) ≡ x ∷ ids
    at Less e f rest = ap (λ b. cond b (x ∷ ids) (id ∷ remove_key (is_at (id_order id)) (x ∷ ids))) (same_id_itself id)
    at Equal e f rest = absurd (false≢true (sym f ∙ ap is_eq e))
    at Greater e f rest = ap (λ b. cond b (insert_key id_order ids id) (x ∷ remove_key (is_at (id_order id)) (insert_key id_order ids id))) f ∙ ap (λ l. x ∷ l) rest
