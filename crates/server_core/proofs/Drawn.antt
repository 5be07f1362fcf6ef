-- Fates that are drawn one after another, and clients that are served in order.
use Rattle.std.proofs.Common.{◌≡◌, ℕ, zero, suc, ◌+◌, List, [], ◌∷◌, ◌++◌, length, refl, ap, sym, subst, ◌∙◌, arith, add-one}
use Rattle.std.specs.Prelude.{Option, Some, None, true, false}
use Rattle.std.proofs.lemmas.List.{length-append}
use Rattle.cloud_base.specs.declared.schedule.Fate.{Fate}
use Rattle.slot_hub.specs.Boxes.{Seen}
use Rattle.packet_codec.specs.Pushes.{Pushed}
use Rattle.packet_codec.specs.Replies.{Replied}
use Rattle.server_core.specs.Weathers.{next_fates, Draws, DrawsAll}
use Rattle.server_core.specs.Stations.{Stationed, ServesFirst, ServesWith, ServesOne}

-- the last of the first fates
next_last : (f : ℕ → Fate) (n : ℕ) → next_fates f (suc n) ≡ next_fates f n ++ f n ∷ []
next_last f zero = refl
next_last f (suc n) = ap (λ (l : List Fate). f 0 ∷ l) (next_last (λ k. f (suc k)) n)

draws_none : (f : Option (ℕ → Fate)) → DrawsAll [] f f
draws_none None = refl
draws_none (Some f) = record { first = refl; others = λ k. ap f (omega arith) }

draws_more : (fates : List Fate) (fate : Fate) (a b d : Option (ℕ → Fate)) → DrawsAll fates a b → Draws fate b d → DrawsAll (fates ++ fate ∷ []) a d
draws_more fates fate None None d p q = q
draws_more fates fate None (Some b) d p q = absurd (cc (p))
draws_more fates fate (Some a) None d p q = absurd p
draws_more fates fate (Some a) (Some b) None p q = absurd q
draws_more fates fate (Some a) (Some b) (Some d) p q =
    let n = length fates in
    let longer : length (fates ++ fate ∷ []) ≡ suc n = length-append fates (fate ∷ []) ∙ add-one n in
    let here : a n ≡ fate = ap a (omega arith) ∙ sym (p.others 0) ∙ q.first in
    record {
      first = ap (next_fates a) longer ∙ next_last a n ∙ ap (λ (l : List Fate). l ++ a n ∷ []) p.first ∙ ap (λ (x : Fate). fates ++ x ∷ []) here;
      others = λ k. q.others k ∙ p.others (suc k) ∙ ap a (omega arith);
    }

module _ {S W : Type 0} (fates_of : W → Option (ℕ → Fate)) where
  pub serves_none : (station : Stationed W) (seen : Seen S Pushed Replied) → ServesWith fates_of 0 0 station station seen seen
  serves_none station seen = record {
    fates = [];
    serves = (refl, refl, refl);
    count_is = refl;
    drawn = draws_none (fates_of station.weather);
  }

  pub serves_taken : (n count : ℕ) (old mid new : Stationed W) (before between after : Seen S Pushed Replied) → ServesWith fates_of n count old mid before between → ServesOne fates_of true n mid new between after → ServesWith fates_of (n + 1) (count + 1) old new before after
  serves_taken n count old mid new before between after so one =
      let fates = so.fates ++ one.0 ∷ [] in
      record {
        fates = fates;
        serves = subst (λ (k : ℕ). ServesFirst k fates old.holding new.holding before after) (sym (add-one n))
            (true, so.fates, mid.holding, between, so.serves, (one.0, one.1, refl, one.2));
        count_is = let same = so.count_is in let longer = length-append so.fates (one.0 ∷ []) in omega arith;
        drawn = draws_more so.fates one.0 (fates_of old.weather) (fates_of mid.weather) (fates_of new.weather) so.drawn one.3;
      }

  pub serves_untaken : (n count : ℕ) (old mid new : Stationed W) (before between after : Seen S Pushed Replied) → ServesWith fates_of n count old mid before between → ServesOne fates_of false n mid new between after → ServesWith fates_of (n + 1) count old new before after
  serves_untaken n count old mid new before between after so one = record {
    fates = so.fates;
    serves = subst (λ (k : ℕ). ServesFirst k so.fates old.holding new.holding before after) (sym (add-one n))
        (false, so.fates, mid.holding, between, so.serves, (refl, one.0));
    count_is = so.count_is;
    drawn = subst (λ (f : Option (ℕ → Fate)). DrawsAll so.fates (fates_of old.weather) f) (ap fates_of (sym one.1)) so.drawn;
  }
