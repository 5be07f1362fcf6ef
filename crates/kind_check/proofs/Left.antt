-- What is left of clients and of a schedule behind the first ones.
use Rattle.std.proofs.Common.{◌≡◌, ℕ, ◌+◌, ◌<◌, ◌≤◌, suc, List, [], ◌∷◌, ◌++◌, Some, None, length, take, drop, map, sum, get_or, sym, ap, subst, ◌∙◌, arith, add-one, append_assoc, drop-cons}
use Rattle.std.proofs.lemmas.List.{take_more, map-append}
use Rattle.std.proofs.lemmas.List.Sums.{sum-map, get_or-le-sum_by}
use Rattle.std.specs.List.{AllByRecursion, flat_map}
use Rattle.source_tree.specs.Limits.{steps_in, most_steps}
use Rattle.source_tree.specs.declared.program.Client.{Client}
use Rattle.source_tree.specs.declared.program.Item.{Item}
use Rattle.typed_program.specs.declared.statement.Statement.{Statement}
use Rattle.cloud_base.specs.declared.schedule.ScheduleItem.{ScheduleItem}
use Rattle.kind_bodies.specs.declared.fault.KindFault.{KindFault}
use Rattle.kind_rules.specs.Answers.{first_fault}
use Rattle.kind_rules.specs.Names.{Scope}
use Rattle.kind_rules.specs.Programs.{Bodies, client_names, client_item, next_body, settle_clients, at_lines, turn_rules, typed_item}
use Rattle.kind_rules.specs.Statements.{Walked, first_line, next_lines, settle_block}
use Rattle.kind_check.specs.Faults.{TellsFault}
use Rattle.kind_check.proofs.Faulty.{skip, tells_more, tells_same}

one_less : {A : Type 0} (xs : List A) (i : ℕ) (x : A) → i < length xs → x ≡ get_or xs i x → drop i xs ≡ x ∷ drop (i + 1) xs
one_less xs i x lt e = drop-cons xs i x lt ∙ (rw (add-one) (ap (λ y. y ∷ drop (suc i) xs) (sym e)))

one_more : {A : Type 0} (xs : List A) (i : ℕ) (x : A) → i < length xs → x ≡ get_or xs i x → take (i + 1) xs ≡ take i xs ++ x ∷ []
one_more xs i x lt e = take_more xs i x lt ∙ ap (λ y. take i xs ++ y ∷ []) (sym e)

-- what comes of the clients from a place on
abbrev pub left : Scope → List Client → ℕ → List ℕ → Bodies
left scope cs place rest = settle_clients scope (client_names (take place cs)) (drop place cs) rest

-- what comes of a client's body
abbrev pub body_of : Scope → Client → List ℕ → Walked
body_of scope c rest = settle_block scope c.body [] (next_lines rest)

left_by : (scope : Scope) (cs : List Client) (place : ℕ) (rest : List ℕ) (c : Client) → place < length cs → c ≡ get_or cs place c → left scope cs place rest ≡ next_body (client_item (client_names (take place cs)) c rest) (body_of scope c rest) (left scope cs (place + 1) (body_of scope c rest).lines)
left_by scope cs place rest c lt e =
    ap (λ ds. settle_clients scope (client_names (take place cs)) ds rest) (one_less cs place c lt e)
    ∙ ap (λ names. next_body (client_item (client_names (take place cs)) c rest) (body_of scope c rest) (settle_clients scope names (drop (place + 1) cs) (body_of scope c rest).lines))
    (sym (ap client_names (one_more cs place c lt e) ∙ map-append (λ (x : Client). x.name) (take place cs) (c ∷ [])))

-- of the whole that comes of clients, some bodies stand, and this is left
pub record IsLeft (whole : Bodies) (bodies : List (List Statement)) (b : Bodies) : Type 0 where
  pub faults : first_fault whole.items ≡ first_fault b.items
  pub typed : whole.typed ≡ bodies ++ b.typed
  pub lines : whole.lines ≡ b.lines

pub left_next : (whole : Bodies) (scope : Scope) (cs : List Client) (place : ℕ) (bodies : List (List Statement)) (rest : List ℕ) (c : Client) → place < length cs → c ≡ get_or cs place c → IsLeft whole bodies (left scope cs place rest) → first_fault (client_item (client_names (take place cs)) c rest ∷ (body_of scope c rest).items) ≡ None → IsLeft whole (bodies ++ (body_of scope c rest).typed ∷ []) (left scope cs (place + 1) (body_of scope c rest).lines)
left_next whole scope cs place bodies rest c lt e l none =
    let by = left_by scope cs place rest c lt e in
    record {
      faults = l.faults ∙ ap (λ (b : Bodies). first_fault b.items) by ∙ skip (client_item (client_names (take place cs)) c rest ∷ (body_of scope c rest).items) (left scope cs (place + 1) (body_of scope c rest).lines).items none;
      typed = l.typed ∙ ap (λ (b : Bodies). bodies ++ b.typed) by ∙ sym (append_assoc bodies ((body_of scope c rest).typed ∷ []) (left scope cs (place + 1) (body_of scope c rest).lines).typed);
      lines = l.lines ∙ ap (λ (b : Bodies). b.lines) by;
    }

pub left_fault : (whole : Bodies) (scope : Scope) (cs : List Client) (place : ℕ) (bodies : List (List Statement)) (rest : List ℕ) (c : Client) (fault : KindFault) → place < length cs → c ≡ get_or cs place c → IsLeft whole bodies (left scope cs place rest) → TellsFault (client_item (client_names (take place cs)) c rest ∷ (body_of scope c rest).items) fault → TellsFault whole.items fault
left_fault whole scope cs place bodies rest c fault lt e l tells =
    let by = left_by scope cs place rest c lt e in
    let item = client_item (client_names (take place cs)) c rest ∷ (body_of scope c rest).items in
    let behind = (left scope cs (place + 1) (body_of scope c rest).lines).items in
    tells_same (item ++ behind) whole.items fault (l.faults ∙ ap (λ (b : Bodies). first_fault b.items) by) (tells_more item behind fault tells)

-- what holds of all that the next one gives, and of all that those behind it give
pub next_all : {A : Type 0} (P : A → Type 0) {B : Type 0} (f : B → List A) (xs : List B) (i : ℕ) (x : B) → i < length xs → x ≡ get_or xs i x → AllByRecursion P (flat_map f (drop i xs)) → AllByRecursion P (f x ++ flat_map f (drop (i + 1) xs))
next_all P f xs i x lt e all = subst (λ ds. AllByRecursion P (flat_map f ds)) (one_less xs i x lt e) all

pub all_first : {A : Type 0} (P : A → Type 0) (xs ys : List A) → AllByRecursion P (xs ++ ys) → AllByRecursion P xs
all_first P [] ys all = tt
all_first P (x ∷ xs) ys all = (all.0, all_first P xs ys all.1)

pub all_second : {A : Type 0} (P : A → Type 0) (xs ys : List A) → AllByRecursion P (xs ++ ys) → AllByRecursion P ys
all_second P [] ys all = all
all_second P (x ∷ xs) ys all = all_second P xs ys all.1

-- of a schedule, some items stand, and this is left
pub record AreLeft (names : List (List ℕ)) (whole : List Item) (lines : List ℕ) (schedule : List ScheduleItem) (items : List Item) (rest : List ℕ) : Type 0 where
  pub faults : first_fault (at_lines lines (map (turn_rules names) whole)) ≡ first_fault (at_lines rest (map (turn_rules names) items))
  pub typed : map (typed_item names) whole ≡ schedule ++ map (typed_item names) items

pub are_next : (names : List (List ℕ)) (whole : List Item) (lines : List ℕ) (schedule : List ScheduleItem) (i : ℕ) (rest : List ℕ) (one : Item) → i < length whole → one ≡ get_or whole i one → AreLeft names whole lines schedule (drop i whole) rest → turn_rules names one ≡ [] → AreLeft names whole lines (schedule ++ typed_item names one ∷ []) (drop (i + 1) whole) (next_lines rest)
are_next names whole lines schedule i rest one lt e l none =
    let by = one_less whole i one lt e in
    record {
      faults = l.faults
          ∙ ap (λ items. first_fault (at_lines rest (map (turn_rules names) items))) by
          ∙ ap (λ rules. first_fault (record { line = first_line rest; rules = rules } ∷ at_lines (next_lines rest) (map (turn_rules names) (drop (i + 1) whole)))) none;
      typed = l.typed ∙ ap (λ items. schedule ++ map (typed_item names) items) by ∙ sym (append_assoc schedule (typed_item names one ∷ []) (map (typed_item names) (drop (i + 1) whole)));
    }

pub are_fault : (names : List (List ℕ)) (whole : List Item) (lines : List ℕ) (schedule : List ScheduleItem) (i : ℕ) (rest : List ℕ) (one : Item) → i < length whole → one ≡ get_or whole i one → AreLeft names whole lines schedule (drop i whole) rest → turn_rules names one ≡ 11 ∷ [] → first_fault (at_lines lines (map (turn_rules names) whole)) ≡ Some (record { rule = 11; line = first_line rest })
are_fault names whole lines schedule i rest one lt e l some =
    l.faults
    ∙ ap (λ items. first_fault (at_lines rest (map (turn_rules names) items))) (one_less whole i one lt e)
    ∙ ap (λ rules. first_fault (record { line = first_line rest; rules = rules } ∷ at_lines (next_lines rest) (map (turn_rules names) (drop (i + 1) whole)))) some

pub few_steps : (whole : List Item) (i : ℕ) (one : Item) → i < length whole → one ≡ get_or whole i one → sum (map steps_in whole) ≤ most_steps → steps_in one ≤ most_steps
few_steps whole i one lt e few =
    omega (arith, few, sum-map steps_in whole, get_or-le-sum_by steps_in whole i one lt, ap steps_in e)
