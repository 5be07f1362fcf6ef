-- One change, and what it adds to a set of key lists.
use Rattle.std.proofs.Common.{◌≡◌, ◌∙◌, ap, ℕ, true, Bool, List, [], ◌∷◌, filter, ◌==◌, if◌then◌else◌, rules}
use Rattle.std.specs.List.{fold}
use Rattle.cloud_base.specs.Log.{touched}
use Rattle.cloud_base.specs.declared.key.Key.{Key}
use Rattle.cloud_base.specs.declared.update.CellChange.{CellChange}
use Rattle.cloud_base.specs.declared.update.Update.{Update}
use Rattle.cloud_base.specs.declared.update.Update.TheVariants.{Cell}

pub fold_kept : {S : Type 0} (f : S → List Key → S) (s : S) (kept : List Key → Bool) (property changed : ℕ) (keys : List Key) (change : CellChange) (update : Update)
    → update ≡ Cell changed keys change → changed ≡ property → kept keys ≡ true → fold f s (filter kept (touched property (update ∷ []))) ≡ f s keys
fold_kept f s kept property changed keys change update is at holds =
    let same : (changed == property) ≡ true = search rules in
    ap (λ u. fold f s (filter kept (touched property (u ∷ [])))) is
    ∙ ap (λ b. fold f s (filter kept (if b then keys ∷ [] else []))) same
    ∙ ap (λ b. fold f s (if b then keys ∷ [] else [])) holds
