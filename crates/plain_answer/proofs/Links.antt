-- A chain one link longer, and the ids among keys.
use Rattle.std.proofs.Common.{◌≡◌, sym, ◌∙◌, ap, ℕ, zero, suc, ◌<◌, ◌≤◌, ◌-◌, ◌+◌, Bool, true, false, ◌||◌, List, ◌∷◌, length, drop, get_or, arith}
use Rattle.std.specs.List.{list_any}
use Rattle.std.proofs.lemmas.List.{drop_more, drop_all}
use Rattle.cloud_base.specs.Values.{Id}
use Rattle.cloud_base.specs.Log.{is_deleted, parents, ids_of}
use Rattle.cloud_base.specs.Dead.{dead_within}
use Rattle.cloud_base.specs.declared.key.Key.{Key}
use Rattle.cloud_base.specs.declared.key.Key.TheVariants.{Ref}
use Rattle.cloud_base.specs.declared.update.Update.{Update}

pub one_deeper : (log : List Update) (n : ℕ) (id : Id) → 0 < n → is_deleted id log ≡ false → dead_within n log id ≡ list_any (dead_within (n - 1) log) (parents log id)
one_deeper log zero id h e = absurd (omega arith)
one_deeper log (suc n) id h e =
    let back : n ≡ suc n - 1 = omega arith in
    ap (λ b. b || list_any (dead_within n log) (parents log id)) e ∙ ap (λ m. list_any (dead_within m log) (parents log id)) back

pub found : (p : Id → Bool) (keys : List Key) (i : ℕ) (key : Key) (next : Id) → i < length keys → key ≡ get_or keys i key → key ≡ Ref next → p next ≡ true → list_any p (ids_of (drop i keys)) ≡ true
found p keys i key next h e r t =
    let rest = drop (i + 1) keys in
    let at : drop i keys ≡ Ref next ∷ rest = drop_more keys i key h ∙ ap (λ k. k ∷ rest) (sym e ∙ r) in
    ap (λ ks. list_any p (ids_of ks)) at ∙ ap (λ b. b || list_any p (ids_of rest)) t

pub none_left : (p : Id → Bool) (keys : List Key) (i : ℕ) → length keys ≤ i → list_any p (ids_of (drop i keys)) ≡ false
none_left p keys i h = ap (λ ks. list_any p (ids_of ks)) (drop_all i keys h)
