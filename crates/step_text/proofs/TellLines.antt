-- The lines of a report tell its steps and ends.
use Rattle.std.proofs.Common.{◌≡◌, ◌∙◌, refl, sym, ap, subst, arith, ℕ, suc, ◌<◌, ◌^◌, Bool, true, false, List, [], ◌∷◌, ◌++◌, drop, codes, length, get_or}
use Rattle.std.specs.Prelude.{All, nat_eq, decimal}
use Rattle.std.proofs.lemmas.Bool.{false≢true}
use Rattle.std.proofs.lemmas.List.{append_assoc, append_cancel_left}
use Rattle.std.proofs.lemmas.List.Elements.{All-head, All-tail}
use Rattle.cloud_base.specs.Shaped.{IsShaped, IsShapedQuery, IsShapedAnswer, IsSaid}
use Rattle.cloud_base.specs.declared.end.End.{End}
use Rattle.cloud_base.specs.declared.end.End.TheVariants as end
use Rattle.cloud_base.specs.declared.schema.Schema.{Schema}
use Rattle.cloud_base.specs.declared.update.Answer.{Answer}
use Rattle.cloud_base.specs.declared.update.Query.{Query}
use Rattle.cloud_base.specs.declared.update.Update.{Update}
use Rattle.revision_diagram.specs.declared.step.Step.{Step}
use Rattle.revision_diagram.specs.declared.step.Step.TheVariants.{Fork, Join, Do, Ask, Say, Mark}
use Rattle.step_text.specs.Values.{answer_text}
use Rattle.step_text.specs.Cells.{update_text, query_text}
use Rattle.step_text.specs.Text.{client_name, mark_text, step_line, next_after, steps_text, end_text, end_line, ends_text, report_text}
use Rattle.step_text.specs.Legible.{Legible, IsStep, IsEnd}
use Rattle.step_text.proofs.TellValues.{differ, words_tell, decimals_tell}
use Rattle.step_text.proofs.TellPlaces.{name_is_word}
use Rattle.step_text.proofs.TellAnswers.{answers_tell, said_tell}
use Rattle.step_text.proofs.TellCells.{updates_tell, queries_tell}

-- four parts and a rest, and six
four : (a b c d r : List ℕ) → a ++ b ++ c ++ d ++ r ≡ a ++ (b ++ (c ++ (d ++ r)))
four a b c d r = append_assoc (a ++ b ++ c) d r ∙ append_assoc (a ++ b) c (d ++ r) ∙ append_assoc a b (c ++ (d ++ r))

six : (a b c d e f r : List ℕ) → a ++ b ++ c ++ d ++ e ++ f ++ r ≡ a ++ (b ++ (c ++ (d ++ (e ++ (f ++ r)))))
six a b c d e f r = four (a ++ b ++ c) d e f r ∙ append_assoc (a ++ b) c (d ++ (e ++ (f ++ r))) ∙ append_assoc a b (c ++ (d ++ (e ++ (f ++ r))))

wide : {n : ℕ} → n < 2 ^ 32 → n < 2 ^ 64
wide h = omega arith

fork_tells : (schema : Schema) (names : List (List ℕ)) (next u v c d : ℕ) (r s : List ℕ) → Legible schema names → u < 2 ^ 32 → c < length names → v < 2 ^ 32 → d < length names
    → decimal u ++ codes " " ++ decimal next ++ codes " " ++ client_name names c ++ codes "\n" ++ r ≡ decimal v ++ codes " " ++ decimal next ++ codes " " ++ client_name names d ++ codes "\n" ++ s
    → (Fork u c ≡ Fork v d) × (r ≡ s)
fork_tells schema names next u v c d r s legible lu lc lv ld same =
    let flat = sym (six (decimal u) (codes " ") (decimal next) (codes " ") (client_name names c) (codes "\n") r) ∙ same ∙ six (decimal v) (codes " ") (decimal next) (codes " ") (client_name names d) (codes "\n") s in
    let first = decimals_tell u v (codes " " ++ (decimal next ++ (codes " " ++ (client_name names c ++ (codes "\n" ++ r))))) (codes " " ++ (decimal next ++ (codes " " ++ (client_name names d ++ (codes "\n" ++ s))))) (wide lu) (wide lv) refl refl flat in
    let named = append_cancel_left (decimal next) (codes " " ++ (client_name names c ++ (codes "\n" ++ r))) (codes " " ++ (client_name names d ++ (codes "\n" ++ s))) (ap (drop 1) first.1) in
    let second = words_tell (client_name names c) (client_name names d) (codes "\n" ++ r) (codes "\n" ++ s) (name_is_word (client_name names c) (legible.clients c [] lc)) (name_is_word (client_name names d) (legible.clients d [] ld)) refl refl (ap (drop 1) named) in
    let client = legible.clients_differ c d lc ld second.0 in
    (cc (first.0, client), ap (drop 1) second.1)

join_tells : (u v w x : ℕ) (r s : List ℕ) → u < 2 ^ 32 → v < 2 ^ 32 → w < 2 ^ 32 → x < 2 ^ 32
    → decimal u ++ codes " " ++ decimal v ++ codes "\n" ++ r ≡ decimal w ++ codes " " ++ decimal x ++ codes "\n" ++ s → (Join u v ≡ Join w x) × (r ≡ s)
join_tells u v w x r s lu lv lw lx same =
    let flat = sym (four (decimal u) (codes " ") (decimal v) (codes "\n") r) ∙ same ∙ four (decimal w) (codes " ") (decimal x) (codes "\n") s in
    let first = decimals_tell u w (codes " " ++ (decimal v ++ (codes "\n" ++ r))) (codes " " ++ (decimal x ++ (codes "\n" ++ s))) (wide lu) (wide lw) refl refl flat in
    let second = decimals_tell v x (codes "\n" ++ r) (codes "\n" ++ s) (wide lv) (wide lx) refl refl (ap (drop 1) first.1) in
    (cc (first.0, second.0), ap (drop 1) second.1)

do_tells : (schema : Schema) (names : List (List ℕ)) (u v : ℕ) (a b : Update) (r s : List ℕ) → Legible schema names → u < 2 ^ 32 → IsShaped schema a → v < 2 ^ 32 → IsShaped schema b
    → decimal u ++ codes " " ++ update_text schema a ++ codes "\n" ++ r ≡ decimal v ++ codes " " ++ update_text schema b ++ codes "\n" ++ s → (Do u a ≡ Do v b) × (r ≡ s)
do_tells schema names u v a b r s legible lu fa lv fb same =
    let flat = sym (four (decimal u) (codes " ") (update_text schema a) (codes "\n") r) ∙ same ∙ four (decimal v) (codes " ") (update_text schema b) (codes "\n") s in
    let first = decimals_tell u v (codes " " ++ (update_text schema a ++ (codes "\n" ++ r))) (codes " " ++ (update_text schema b ++ (codes "\n" ++ s))) (wide lu) (wide lv) refl refl flat in
    let second = updates_tell schema names a b r s legible fa fb (append_assoc (update_text schema a) (codes "\n") r ∙ ap (drop 1) first.1 ∙ sym (append_assoc (update_text schema b) (codes "\n") s)) in
    (cc (first.0, second.0), second.1)

ask_tells : (schema : Schema) (names : List (List ℕ)) (u v : ℕ) (p q : Query) (a b : Answer) (r s : List ℕ) → Legible schema names
    → u < 2 ^ 32 → IsShapedQuery schema p → IsShapedAnswer schema p a → v < 2 ^ 32 → IsShapedQuery schema q → IsShapedAnswer schema q b
    → decimal u ++ codes " " ++ query_text schema p ++ codes " = " ++ answer_text a ++ codes "\n" ++ r ≡ decimal v ++ codes " " ++ query_text schema q ++ codes " = " ++ answer_text b ++ codes "\n" ++ s
    → (Ask u p a ≡ Ask v q b) × (r ≡ s)
ask_tells schema names u v p q a b r s legible lu fp fa lv fq fb same =
    let flat = sym (six (decimal u) (codes " ") (query_text schema p) (codes " = ") (answer_text a) (codes "\n") r) ∙ same ∙ six (decimal v) (codes " ") (query_text schema q) (codes " = ") (answer_text b) (codes "\n") s in
    let first = decimals_tell u v (codes " " ++ (query_text schema p ++ (codes " = " ++ (answer_text a ++ (codes "\n" ++ r))))) (codes " " ++ (query_text schema q ++ (codes " = " ++ (answer_text b ++ (codes "\n" ++ s))))) (wide lu) (wide lv) refl refl flat in
    let second = queries_tell schema names p q (answer_text a ++ (codes "\n" ++ r)) (answer_text b ++ (codes "\n" ++ s)) legible fp fq (append_assoc (query_text schema p) (codes " = ") (answer_text a ++ (codes "\n" ++ r)) ∙ ap (drop 1) first.1 ∙ sym (append_assoc (query_text schema q) (codes " = ") (answer_text b ++ (codes "\n" ++ s)))) in
    let third = answers_tell schema p a b (codes "\n" ++ r) (codes "\n" ++ s) fa (subst (λ query. IsShapedAnswer schema query b) (sym second.0) fb) refl refl second.1 in
    (cc (first.0, second.0, third.0), ap (drop 1) third.1)

say_tells : (u v : ℕ) (a b : Answer) (r s : List ℕ) → u < 2 ^ 32 → IsSaid a → v < 2 ^ 32 → IsSaid b
    → decimal u ++ codes " " ++ answer_text a ++ codes "\n" ++ r ≡ decimal v ++ codes " " ++ answer_text b ++ codes "\n" ++ s → (Say u a ≡ Say v b) × (r ≡ s)
say_tells u v a b r s lu fa lv fb same =
    let flat = sym (four (decimal u) (codes " ") (answer_text a) (codes "\n") r) ∙ same ∙ four (decimal v) (codes " ") (answer_text b) (codes "\n") s in
    let first = decimals_tell u v (codes " " ++ (answer_text a ++ (codes "\n" ++ r))) (codes " " ++ (answer_text b ++ (codes "\n" ++ s))) (wide lu) (wide lv) refl refl flat in
    let second = said_tell a b (codes "\n" ++ r) (codes "\n" ++ s) fa fb refl refl (ap (drop 1) first.1) in
    (cc (first.0, second.0), ap (drop 1) second.1)

marks_tell : (f g : Bool) (r s : List ℕ) → mark_text f ++ r ≡ mark_text g ++ s → (f ≡ g) × (r ≡ s)
marks_tell true true r s same = (refl, ap (drop 5) same)
marks_tell false false r s same = (refl, ap (drop 5) same)
marks_tell true false r s same = absurd (differ 0 _ _ same refl)
marks_tell false true r s same = absurd (differ 0 _ _ same refl)

mark_tells : (u v : ℕ) (f g : Bool) (r s : List ℕ) → u < 2 ^ 32 → v < 2 ^ 32
    → decimal u ++ codes " " ++ mark_text f ++ codes "\n" ++ r ≡ decimal v ++ codes " " ++ mark_text g ++ codes "\n" ++ s → (Mark u f ≡ Mark v g) × (r ≡ s)
mark_tells u v f g r s lu lv same =
    let flat = sym (four (decimal u) (codes " ") (mark_text f) (codes "\n") r) ∙ same ∙ four (decimal v) (codes " ") (mark_text g) (codes "\n") s in
    let first = decimals_tell u v (codes " " ++ (mark_text f ++ (codes "\n" ++ r))) (codes " " ++ (mark_text g ++ (codes "\n" ++ s))) (wide lu) (wide lv) refl refl flat in
    let second = marks_tell f g (codes "\n" ++ r) (codes "\n" ++ s) (ap (drop 1) first.1) in
    (cc (first.0, second.0), ap (drop 1) second.1)

pub lines_tell : (schema : Schema) (names : List (List ℕ)) (next : ℕ) (a b : Step) (r s : List ℕ) → Legible schema names → IsStep schema names a → IsStep schema names b → step_line schema names next a ++ r ≡ step_line schema names next b ++ s → (a ≡ b) × (r ≡ s)
lines_tell schema names next (Fork u c) (Fork w e) r s legible fa fb same = fork_tells schema names next u w c e r s legible fa.0 fa.1 fb.0 fb.1 (ap (drop 5) same)
lines_tell schema names next (Fork u c) (Join w x) r s legible fa fb same = absurd (differ 0 _ _ same refl)
lines_tell schema names next (Fork u c) (Do w b) r s legible fa fb same = absurd (differ 0 _ _ same refl)
lines_tell schema names next (Fork u c) (Ask w q b) r s legible fa fb same = absurd (differ 0 _ _ same refl)
lines_tell schema names next (Fork u c) (Say w b) r s legible fa fb same = absurd (differ 0 _ _ same refl)
lines_tell schema names next (Fork u c) (Mark w g) r s legible fa fb same = absurd (differ 0 _ _ same refl)
lines_tell schema names next (Join u v) (Fork w e) r s legible fa fb same = absurd (differ 0 _ _ same refl)
lines_tell schema names next (Join u v) (Join w x) r s legible fa fb same = join_tells u v w x r s fa.0 fa.1 fb.0 fb.1 (ap (drop 5) same)
lines_tell schema names next (Join u v) (Do w b) r s legible fa fb same = absurd (differ 0 _ _ same refl)
lines_tell schema names next (Join u v) (Ask w q b) r s legible fa fb same = absurd (differ 0 _ _ same refl)
lines_tell schema names next (Join u v) (Say w b) r s legible fa fb same = absurd (differ 0 _ _ same refl)
lines_tell schema names next (Join u v) (Mark w g) r s legible fa fb same = absurd (differ 0 _ _ same refl)
lines_tell schema names next (Do u a) (Fork w e) r s legible fa fb same = absurd (differ 0 _ _ same refl)
lines_tell schema names next (Do u a) (Join w x) r s legible fa fb same = absurd (differ 0 _ _ same refl)
lines_tell schema names next (Do u a) (Do w b) r s legible fa fb same = do_tells schema names u w a b r s legible fa.0 fa.1 fb.0 fb.1 (ap (drop 3) same)
lines_tell schema names next (Do u a) (Ask w q b) r s legible fa fb same = absurd (differ 0 _ _ same refl)
lines_tell schema names next (Do u a) (Say w b) r s legible fa fb same = absurd (differ 0 _ _ same refl)
lines_tell schema names next (Do u a) (Mark w g) r s legible fa fb same = absurd (differ 0 _ _ same refl)
lines_tell schema names next (Ask u p a) (Fork w e) r s legible fa fb same = absurd (differ 0 _ _ same refl)
lines_tell schema names next (Ask u p a) (Join w x) r s legible fa fb same = absurd (differ 0 _ _ same refl)
lines_tell schema names next (Ask u p a) (Do w b) r s legible fa fb same = absurd (differ 0 _ _ same refl)
lines_tell schema names next (Ask u p a) (Ask w q b) r s legible fa fb same = ask_tells schema names u w p q a b r s legible fa.0 fa.1 fa.2 fb.0 fb.1 fb.2 (ap (drop 4) same)
lines_tell schema names next (Ask u p a) (Say w b) r s legible fa fb same = absurd (differ 0 _ _ same refl)
lines_tell schema names next (Ask u p a) (Mark w g) r s legible fa fb same = absurd (differ 0 _ _ same refl)
lines_tell schema names next (Say u a) (Fork w e) r s legible fa fb same = absurd (differ 0 _ _ same refl)
lines_tell schema names next (Say u a) (Join w x) r s legible fa fb same = absurd (differ 0 _ _ same refl)
lines_tell schema names next (Say u a) (Do w b) r s legible fa fb same = absurd (differ 0 _ _ same refl)
lines_tell schema names next (Say u a) (Ask w q b) r s legible fa fb same = absurd (differ 0 _ _ same refl)
lines_tell schema names next (Say u a) (Say w b) r s legible fa fb same = say_tells u w a b r s fa.0 fa.1 fb.0 fb.1 (ap (drop 4) same)
lines_tell schema names next (Say u a) (Mark w g) r s legible fa fb same = absurd (differ 0 _ _ same refl)
lines_tell schema names next (Mark u f) (Fork w e) r s legible fa fb same = absurd (differ 0 _ _ same refl)
lines_tell schema names next (Mark u f) (Join w x) r s legible fa fb same = absurd (differ 0 _ _ same refl)
lines_tell schema names next (Mark u f) (Do w b) r s legible fa fb same = absurd (differ 0 _ _ same refl)
lines_tell schema names next (Mark u f) (Ask w q b) r s legible fa fb same = absurd (differ 0 _ _ same refl)
lines_tell schema names next (Mark u f) (Say w b) r s legible fa fb same = absurd (differ 0 _ _ same refl)
lines_tell schema names next (Mark u f) (Mark w g) r s legible fa fb same = mark_tells u w f g r s fa fb (ap (drop 5) same)

-- the texts of two ends differ in their first byte, or both tell a line
end_texts_tell : (a b : End) (r s : List ℕ) → IsEnd a → IsEnd b → end_text a ++ (codes "\n" ++ r) ≡ end_text b ++ (codes "\n" ++ s) → (a ≡ b) × (r ≡ s)
end_texts_tell end.Done end.Done r s fa fb same = (refl, ap (drop 5) same)
end_texts_tell end.Done end.Spent r s fa fb same = absurd (differ 0 _ _ same refl)
end_texts_tell end.Done (end.Trap n) r s fa fb same = absurd (differ 0 _ _ same refl)
end_texts_tell end.Spent end.Done r s fa fb same = absurd (differ 0 _ _ same refl)
end_texts_tell end.Spent end.Spent r s fa fb same = (refl, ap (drop 6) same)
end_texts_tell end.Spent (end.Trap n) r s fa fb same = absurd (differ 0 _ _ same refl)
end_texts_tell (end.Trap m) end.Done r s fa fb same = absurd (differ 0 _ _ same refl)
end_texts_tell (end.Trap m) end.Spent r s fa fb same = absurd (differ 0 _ _ same refl)
end_texts_tell (end.Trap m) (end.Trap n) r s fa fb same = let tell = decimals_tell m n (codes "\n" ++ r) (codes "\n" ++ s) (wide fa) (wide fb) refl refl (ap (drop 5) same) in (cc tell.0, ap (drop 1) tell.1)

end_line_tells : (name : List ℕ) (a b : End) (r s : List ℕ) → IsEnd a → IsEnd b → end_line name a ++ r ≡ end_line name b ++ s → (a ≡ b) × (r ≡ s)
end_line_tells name a b r s fa fb same =
    let flat = sym (four name (codes " ") (end_text a) (codes "\n") r) ∙ ap (drop 4) same ∙ four name (codes " ") (end_text b) (codes "\n") s in
    end_texts_tell a b r s fa fb (ap (drop 1) (append_cancel_left name (codes " " ++ (end_text a ++ (codes "\n" ++ r))) (codes " " ++ (end_text b ++ (codes "\n" ++ s))) flat))

pub ends_tell : (names : List (List ℕ)) (client : ℕ) (a b : List End) → All IsEnd a → All IsEnd b → ends_text names client a ≡ ends_text names client b → a ≡ b
ends_tell names client [] [] fa fb same = refl
ends_tell names client [] (y ∷ ys) fa fb same = absurd (differ 0 _ _ (sym same) refl)
ends_tell names client (x ∷ xs) [] fa fb same = absurd (differ 0 _ _ same refl)
ends_tell names client (x ∷ xs) (y ∷ ys) fa fb same =
    let tell = end_line_tells (client_name names client) x y (ends_text names (suc client) xs) (ends_text names (suc client) ys) (All-head IsEnd x xs fa) (All-head IsEnd y ys fb) same in
    let more = ends_tell names (suc client) xs ys (All-tail IsEnd x xs fa) (All-tail IsEnd y ys fb) tell.1 in
    cc (tell.0, more)

-- no line of a step begins as a line of an end does
no_end : (names : List (List ℕ)) (client : ℕ) (ends : List End) (l : List ℕ) → l ≡ ends_text names client ends → nat_eq (get_or l 0 101) 101 ≡ false → ⊥
no_end names client [] l h apart = false≢true (sym apart ∙ ap (λ (m : List ℕ). nat_eq (get_or m 0 101) 101) h)
no_end names client (x ∷ xs) l h apart = false≢true (sym apart ∙ ap (λ (m : List ℕ). nat_eq (get_or m 0 101) 101) h)

no_step : (schema : Schema) (names : List (List ℕ)) (next client : ℕ) (step : Step) (r : List ℕ) (ends : List End) → step_line schema names next step ++ r ≡ ends_text names client ends → ⊥
no_step schema names next client (Fork u c) r ends same = no_end names client ends _ same refl
no_step schema names next client (Join u v) r ends same = no_end names client ends _ same refl
no_step schema names next client (Do u a) r ends same = no_end names client ends _ same refl
no_step schema names next client (Ask u p a) r ends same = no_end names client ends _ same refl
no_step schema names next client (Say u a) r ends same = no_end names client ends _ same refl
no_step schema names next client (Mark u f) r ends same = no_end names client ends _ same refl

steps_tell : (schema : Schema) (names : List (List ℕ)) (next : ℕ) (steps other : List Step) (ends later : List End) → Legible schema names → All (IsStep schema names) steps → All (IsStep schema names) other
    → steps_text schema names next steps ++ ends_text names 0 ends ≡ steps_text schema names next other ++ ends_text names 0 later → (steps ≡ other) × (ends_text names 0 ends ≡ ends_text names 0 later)
steps_tell schema names next [] [] ends later legible fa fb same = (refl, same)
steps_tell schema names next [] (y ∷ ys) ends later legible fa fb same =
    absurd (no_step schema names next 0 y (steps_text schema names (next_after next y) ys ++ ends_text names 0 later) ends (sym (append_assoc (step_line schema names next y) (steps_text schema names (next_after next y) ys) (ends_text names 0 later)) ∙ sym same))
steps_tell schema names next (x ∷ xs) [] ends later legible fa fb same =
    absurd (no_step schema names next 0 x (steps_text schema names (next_after next x) xs ++ ends_text names 0 ends) later (sym (append_assoc (step_line schema names next x) (steps_text schema names (next_after next x) xs) (ends_text names 0 ends)) ∙ same))
steps_tell schema names next (x ∷ xs) (y ∷ ys) ends later legible fa fb same =
    let more = λ (step : Step). λ (steps : List Step). λ (last : List End). steps_text schema names (next_after next step) steps ++ ends_text names 0 last in
    let tell = lines_tell schema names next x y (more x xs ends) (more y ys later) legible (All-head (IsStep schema names) x xs fa) (All-head (IsStep schema names) y ys fb)
    (sym (append_assoc (step_line schema names next x) (steps_text schema names (next_after next x) xs) (ends_text names 0 ends)) ∙ same ∙ append_assoc (step_line schema names next y) (steps_text schema names (next_after next y) ys) (ends_text names 0 later)) in
    let rest = steps_tell schema names (next_after next x) xs ys ends later legible (All-tail (IsStep schema names) x xs fa) (All-tail (IsStep schema names) y ys fb) (tell.1 ∙ ap (λ step. more step ys later) (sym tell.0)) in
    (cc (tell.0, rest.0), rest.1)

pub reports_tell : (schema : Schema) (names : List (List ℕ)) (steps other : List Step) (ends later : List End) → Legible schema names → All (IsStep schema names) steps → All (IsStep schema names) other → All IsEnd ends → All IsEnd later → report_text schema names steps ends ≡ report_text schema names other later → (steps ≡ other) × (ends ≡ later)
reports_tell schema names steps other ends later legible fa fb ga gb same =
    let tell = steps_tell schema names 1 steps other ends later legible fa fb same in
    (tell.0, ends_tell names 0 ends later ga gb tell.1)
