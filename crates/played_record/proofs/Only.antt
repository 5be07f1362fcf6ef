-- What steps and serves leave as it is.
use Rattle.std.proofs.Common.{◌≡◌, refl, ap, sym, ◌∙◌, ℕ, Bool, Option, Some, None}
use Rattle.std.specs.Prelude.{◌≢◌, if◌then◌else◌}
use Rattle.std.proofs.lemmas.Bool.{eq-eqb, ne_eqb}
use Rattle.cloud_base.specs.declared.schedule.Fate.{Fate}
use Rattle.cloud_base.specs.declared.schedule.Fate.TheVariants as fate
use Rattle.played_record.specs.Clients.{Client, Reply}
use Rattle.played_record.specs.Worlds.{World, with_client, joined, reply_to, put_in, passes, fares, releases, copy_of, emptied, handled, served_out, served}
use Rattle.played_record.specs.Laws.{BoxesAlone, OnlyServes}

pub client-here : (c : ℕ) (x : Client) (w : World) → (with_client c x w).client c ≡ x
client-here c x w = ap (λ (t : Bool). if t then x else w.client c) (eq-eqb c c refl)

pub client-else : (c k : ℕ) (x : Client) (w : World) → k ≢ c → (with_client c x w).client k ≡ w.client k
client-else c k x w other = ap (λ (t : Bool). if t then x else w.client k) (ne_eqb k c other)

boxes_then : (x y z : Client) → BoxesAlone x y → BoxesAlone y z → BoxesAlone x z
boxes_then x y z first second = second ∙ ap (λ (u : Client). record u { out = z.out; inbox = z.inbox; held = z.held }) first

serves_then : (c : ℕ) (w v u : World) → OnlyServes c w v → OnlyServes c v u → OnlyServes c w u
serves_then c w v u first second = record {
  boxes = boxes_then (w.client c) (v.client c) (u.client c) first.boxes second.boxes;
  others = λ k other. second.others k other ∙ first.others k other;
}

-- no client changes
none : (c : ℕ) (w v : World) → v.client ≡ w.client → OnlyServes c w v
none c w v same = record {
  boxes = let here : v.client c ≡ w.client c = ap (λ (f : ℕ → Client). f c) same in
      here ∙ ap (λ (x : Client). record (w.client c) { out = x.out; inbox = x.inbox; held = x.held }) (sym here);
  others = λ k other. ap (λ (f : ℕ → Client). f k) same;
}

-- or only boxes of client c
changed : (c : ℕ) (x : Client) (w : World) → BoxesAlone (w.client c) x → OnlyServes c w (with_client c x w)
changed c x w alone = record {
  boxes = let here = client-here c x w in
      here ∙ alone ∙ ap (λ (y : Client). record (w.client c) { out = y.out; inbox = y.inbox; held = y.held }) (sym here);
  others = λ k other. client-else c k x w other;
}

put_in_only : (c : ℕ) (reply : Option Reply) (w : World) → OnlyServes c w (put_in c reply w)
put_in_only c None w = none c w w refl
put_in_only c (Some reply) w = changed c (record (w.client c) { inbox = Some reply }) w refl

passes_only : (c round : ℕ) (w : World) → OnlyServes c w (passes c round w)
passes_only c round w = serves_then c w (joined c round w) (passes c round w)
    (none c w (joined c round w) refl) (put_in_only c (reply_to c round w) (joined c round w))

fares_only : (fate : Fate) (c round : ℕ) (w : World) → OnlyServes c w (fares fate c round w)
fares_only fate.Pass c round w = passes_only c round w
fares_only fate.LosePush c round w = none c w w refl
fares_only fate.LoseReply c round w = none c w (joined c round w) refl
fares_only fate.Twice c round w =
    serves_then c w (passes c round w) (passes c round (passes c round w)) (passes_only c round w) (passes_only c round (passes c round w))
fares_only fate.Hold c round w = passes_only c round w

releases_only : (c : ℕ) (held : Option ℕ) (w : World) → OnlyServes c w (releases c held w)
releases_only c None w = none c w w refl
releases_only c (Some round) w = passes_only c round w

served_out_only : (c : ℕ) (fate : Fate) (out : Option ℕ) (w : World) → OnlyServes c w (served_out c fate out w)
served_out_only c fate None w = none c w w refl
served_out_only c fate (Some round) w =
    let empty = emptied c w in
    let fared = fares fate c round empty in
    let released = releases c (w.client c).held fared in
    serves_then c w empty (handled c fate round w)
    (changed c (record (w.client c) { out = None }) w refl)
    (serves_then c empty fared (handled c fate round w) (fares_only fate c round empty)
    (serves_then c fared released (handled c fate round w) (releases_only c (w.client c).held fared)
    (changed c (record (released.client c) { held = copy_of fate round }) released refl)))

pub served_only : (c : ℕ) (fate : Fate) (w : World) → OnlyServes c w (served c fate w)
served_only c fate w = served_out_only c fate (w.client c).out w
