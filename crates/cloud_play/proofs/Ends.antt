-- How the clients of a program ended.
use Rattle.std.proofs.Common.{◌≡◌, refl, sym, ap, ◌∙◌}
use Rattle.std.specs.Prelude.{ℕ, ◌&&◌, Bool, List, [], ◌∷◌, length, map, Some, is_some, slice_get}
use Rattle.std.specs.List.{list_all}
use Rattle.typed_program.specs.declared.program.Parts.{Parts}
use Rattle.slot_hub.specs.Boxes.{Seen}
use Rattle.packet_codec.specs.Pushes.{Pushed}
use Rattle.packet_codec.specs.Replies.{Replied}
use Rattle.server_core.specs.Stations.{Holding}
use Rattle.client_runner.specs.Steps.{Ran}
use Rattle.played_record.specs.Clients.{Client}
use Rattle.played_record.specs.Plays.{all_ended, ends_of}
use Rattle.played_record.specs.Worlds.{World}
use Rattle.cloud_play.specs.Playings.{Plays}
use Rattle.cloud_play.proofs.Numbered.{by_number}

all_mapped : {A B : Type 0} (test : B → Bool) (f : A → B) (xs : List A) → list_all (λ x. test (f x)) xs ≡ list_all test (map f xs)
all_mapped test f [] = refl
all_mapped test f (x ∷ xs) = ap (λ (b : Bool). test (f x) && b) (all_mapped test f xs)

module _ {S : Type 0} (p : Parts) (runs : List Ran) (holding : Holding) (hub : Seen S Pushed Replied) (w : World) (h : Plays p runs holding hub w) where
  pub as_many_bodies : length runs ≡ length p.bodies
  as_many_bodies = h.count ∙ sym h.program.as_many_bodies

  -- how a client ended
  pub end_at : (c : ℕ) (run : Ran) → slice_get runs c ≡ Some run → (w.client c).end ≡ run.ended
  end_at c run is = ap (λ (x : Client). x.end) (h.at.clients c run is).part

  pub ends_at : map (λ (r : Ran). r.ended) runs ≡ ends_of (length p.bodies) w
  ends_at = by_number (λ (r : Ran). r.ended) (λ (c : ℕ). (w.client c).end) runs (length p.bodies) as_many_bodies end_at

  -- whether all have
  pub all_ended_at : list_all (λ (r : Ran). is_some r.ended) runs ≡ all_ended (length p.bodies) w
  all_ended_at = all_mapped is_some (λ (r : Ran). r.ended) runs ∙ ap (list_all is_some) ends_at
