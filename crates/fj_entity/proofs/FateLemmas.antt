-- What is kept of ids says which are dead and which are alive.
use Rattle.std.proofs.Common.{◌≡◌, refl, sym, ◌∙◌, ap, Bool, true, false, ◌||◌, cond, List, [], ◌∷◌, Option, Some, None}
use Rattle.std.specs.Prelude.{is_some, not, ◌&&◌}
use Rattle.std.specs.Option.{option_map}
use Rattle.std.proofs.lemmas.Bool.{false≢true}
use Rattle.cloud_base.specs.Values.{Id}
use Rattle.cloud_base.specs.Log.{Creation, creation}
use Rattle.cloud_base.specs.Dead.{is_dead, has_dead, is_alive}
use Rattle.cloud_base.specs.declared.key.Key.{Key}
use Rattle.cloud_base.specs.declared.key.Key.TheVariants.{Int, Text, Ref}
use Rattle.cloud_base.specs.declared.update.Update.{Update}
use Rattle.fj_entity.specs.Fates.{Fate, Living, Dead, living, fate_in, fate_at, is_gone, is_living, has_gone}
use Rattle.fj_entity.specs.Rosters.{RosterStands}

gone_in : (log : List Update) (id : Id) → is_gone (fate_in log id) ≡ is_dead log id
gone_in log id = at (is_dead log id) (creation id log)
  where
    at : (b : Bool) (o : Option Creation) → is_gone (cond b (Some Dead) (option_map living o)) ≡ b
    at true o = refl
    at false None = refl
    at false (Some c) = refl

living_in : (log : List Update) (id : Id) → is_living (fate_in log id) ≡ is_alive log id
living_in log id = at (is_dead log id) (creation id log)
  where
    at : (b : Bool) (o : Option Creation) → is_living (cond b (Some Dead) (option_map living o)) ≡ (is_some o && not b)
    at true None = refl
    at true (Some c) = refl
    at false None = refl
    at false (Some c) = refl

pub gone_means : (fates : List (Id × Fate)) (log : List Update) (id : Id) → RosterStands fates log → is_gone (fate_at fates id) ≡ is_dead log id
gone_means fates log id h = ap is_gone (h.kept id) ∙ gone_in log id

pub living_means : (fates : List (Id × Fate)) (log : List Update) (id : Id) → RosterStands fates log → is_living (fate_at fates id) ≡ is_alive log id
living_means fates log id h = ap is_living (h.kept id) ∙ living_in log id

-- what is kept and doesn't live is gone
pub gone_kept : (o : Option Fate) → is_some o ≡ true → not (is_living o) ≡ is_gone o
gone_kept None h = absurd (false≢true h)
gone_kept (Some Dead) h = refl
gone_kept (Some (Living e ks)) h = refl

pub gone_none : (o : Option Fate) → is_some o ≡ false → false ≡ is_gone o
gone_none None h = refl
gone_none (Some f) h = absurd (false≢true (sym h))

-- an id that is kept and wasn't created is dead
pub kept_dead : (fates : List (Id × Fate)) (log : List Update) (id : Id) → RosterStands fates log → creation id log ≡ None → is_some (fate_at fates id) ≡ true → is_dead log id ≡ true
kept_dead fates log id h fresh kept = at (is_dead log id) (sym (ap is_some (h.kept id ∙ ap (λ o. cond (is_dead log id) (Some Dead) (option_map living o)) fresh)) ∙ kept)
  where
    at : (b : Bool) → is_some (cond b (Some Dead) None) ≡ true → b ≡ true
    at true k = refl
    at false k = k

-- where nothing is kept the id isn't dead
pub none_alive : (fates : List (Id × Fate)) (log : List Update) (id : Id) → RosterStands fates log → fate_at fates id ≡ None → is_dead log id ≡ false
none_alive fates log id h none = sym (gone_means fates log id h) ∙ ap is_gone none

pub none_kept : (o : Option Fate) → is_some o ≡ false → o ≡ None
none_kept None h = refl
none_kept (Some f) h = absurd (false≢true (sym h))

pub has_gone_means : (fates : List (Id × Fate)) (log : List Update) (keys : List Key) → RosterStands fates log → has_gone fates keys ≡ has_dead log keys
has_gone_means fates log [] h = refl
has_gone_means fates log (Int n ∷ keys) h = has_gone_means fates log keys h
has_gone_means fates log (Text t ∷ keys) h = has_gone_means fates log keys h
has_gone_means fates log (Ref id ∷ keys) h = let a = gone_means fates log id h in let b = has_gone_means fates log keys h in λ i. a i || b i

nothing_dead : (id : Id) → is_dead [] id ≡ false
unfolding is_dead
nothing_dead id = refl

pub nothing_stands : RosterStands [] []
nothing_stands = record { kept = λ id. sym (ap (λ b. cond b (Some Dead) (option_map living (creation id []))) (nothing_dead id)) }
