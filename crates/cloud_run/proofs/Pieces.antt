-- Laws of what a source hands out and a sink takes.
use Rattle.std.proofs.Common.{◌≡◌, ℕ, ◌+◌, ◌-◌, ◌≤◌, List, ◌++◌, length, take, drop, sym, ap, ◌∙◌, append_assoc, arith, length-drop}
use Rattle.std.proofs.Math.Seq.{take-add, drop-append-add, drop-append_seam}
use Rattle.std.proofs.lemmas.List.{take_all}
use Rattle.std.specs.Prelude.{Option, Some, None, Ok}
use Rattle.cloud_base.specs.Streams.{Takes}
use Rattle.cloud_run.specs.Flows.{HandedOut, Parts, Got}

-- one more piece of the text
pub got_more : (E : Type 0) (held before after : Option (List ℕ)) (n at : ℕ) (text piece : List ℕ)
    → Got held before (take at text) → piece ≡ drop at text → Takes {E = E} before after (Ok n) piece → Got held after (take (at + n) text)
got_more E None None after n at text piece g is t = t
got_more E None (Some b) after n at text piece g is t = absurd (cc g)
got_more E (Some h) None after n at text piece g is t = absurd (cc g)
got_more E (Some h) (Some b) after n at text piece g is t =
    let said : Some b ≡ Some (h ++ take at text) = g in
    let here : b ≡ h ++ take at text = cc said in
    let more : take (at + n) text ≡ take at text ++ take n piece = take-add at n text ∙ ap (λ l. take at text ++ take n l) (sym is) in
    t ∙ ap Some (ap (λ l. l ++ take n piece) here ∙ append_assoc h (take at text) (take n piece) ∙ ap (λ l. h ++ l) (sym more))

-- the rest of a text, as a slice has it
pub rest_of : (at : ℕ) (text : List ℕ) → take (length text - at) (drop at text) ≡ drop at text
rest_of at text = take_all _ _ (omega (arith, length-drop at text))

-- one more piece was handed out, after what was taken
pub handed_more : (first left after : Option (List ℕ)) (taken : List ℕ) (more most : ℕ)
    → length taken + more ≤ most → Parts first left taken → HandedOut more left after → HandedOut most first after
handed_more None None after taken more most fits p h = h
handed_more None (Some rest) after taken more most fits p h = absurd (cc p)
handed_more (Some bytes) None after taken more most fits p h = absurd p
handed_more (Some bytes) (Some rest) after taken more most fits p h =
    (length taken + h.0, omega (arith, fits, h.1), h.2 ∙ ap Some (sym (drop-append-add taken rest h.0) ∙ ap (drop (length taken + h.0)) (sym p)))

-- what was taken was handed out
pub handed_parts : (first left : Option (List ℕ)) (taken : List ℕ) (most : ℕ)
    → length taken ≤ most → Parts first left taken → HandedOut most first left
handed_parts None left taken most fits p = p
handed_parts (Some bytes) None taken most fits p = absurd p
handed_parts (Some bytes) (Some rest) taken most fits p =
    (length taken, fits, ap Some (sym (drop-append_seam taken rest) ∙ ap (drop (length taken)) (sym p)))
