-- Worked diagrams: a grocery list, which is right, and small wrong ones.
use Rattle.std.specs.Prelude.{◌≡◌, ℕ, zero, suc, ◌+◌, ◌<◌, Bool, true, false, cond, ◌&&◌, not, ◌==◌, List, [], ◌∷◌, ◌++◌, length, map, slice_get, Option, Some, None, IsTrue, pos, refl}
use Rattle.std.proofs.Common.{lit<, arith, subst}
use Rattle.std.proofs.lemmas.Bool.{false≢true, or_right}
use Rattle.std.proofs.lemmas.Bool.Decides.{nat_tests}
use Rattle.std.specs.List.{filter}
use Rattle.cloud_base.specs.declared.update.Update.{Update}
use Rattle.cloud_base.specs.declared.update.Update.TheVariants.{Cell}
use Rattle.cloud_base.specs.declared.update.CellChange.TheVariants.{Add}
use Rattle.cloud_base.specs.declared.update.Query.{Query}
use Rattle.cloud_base.specs.declared.update.Query.TheVariants.{Get, All, Entries, Alive}
use Rattle.cloud_base.specs.declared.update.Answer.{Answer}
use Rattle.cloud_base.specs.declared.update.Answer.TheVariants.{Int, Text, Truth, Tuples}
use Rattle.cloud_base.specs.declared.update.Event.{Event}
use Rattle.cloud_base.specs.declared.update.Event.TheVariants.{Do as DoEvent, Ask as AskEvent, Say as SayEvent, Flush}
use Rattle.cloud_base.specs.Events.{Outcome, ended}
use Rattle.cloud_base.specs.declared.schema.CellType.TheVariants.{Int as IntCell}
use Rattle.cloud_base.specs.declared.schema.Owner.TheVariants.{Global}
use Rattle.cloud_base.specs.declared.schema.Schema.{Schema}
use Rattle.cloud_base.specs.declared.end.End.{End}
use Rattle.cloud_base.specs.declared.end.End.TheVariants.{Done}
use Rattle.cloud_base.specs.declared.key.Key.{Key}
use Rattle.cloud_base.specs.declared.key.Key.TheVariants.{Text as TextKey}
use Rattle.revision_diagram.specs.declared.step.Step.{Step}
use Rattle.revision_diagram.specs.declared.step.Step.TheVariants.{Fork, Join, Do, Ask, Say, Mark}
use Rattle.revision_diagram.specs.Diagram.{path, fork_length, acts_on, is_of}
use Rattle.revision_diagram.specs.Lawful.{is_lawful, Lawful}
use Rattle.revision_diagram.specs.Right.{log, AnsweredRight}
use Rattle.revision_diagram.specs.Once.{Once, AfterSeen, joins_apart}
use Rattle.revision_diagram.specs.Story.{story, is_in_line, LineLaw, ProgramLaw}
use Rattle.revision_diagram.specs.Meeting.{Meeting, Placed, AtMarks, Flushed, FlushLaw, client_at, newest, forks_down, sees_after, is_placed, is_at_mark, below_server}
use Rattle.revision_diagram.specs.Headline.{Headline, AllOwned}
use Rattle.revision_diagram.proofs.Owners.{AllOwned-more}
use Rattle.revision_diagram.proofs.Decide.{each_step_passes, once_passes, AnsweredRight_passes}

-- A grocery list: Grocery["milk"].quantity and Grocery["eggs"].quantity are cells of property 0.
abbrev pub milk : List ℕ
milk = 109 ∷ 105 ∷ 108 ∷ 107 ∷ []

abbrev pub eggs : List ℕ
eggs = 101 ∷ 103 ∷ 103 ∷ 115 ∷ []

abbrev pub add : ℕ → List ℕ → ℕ → Step
add r text n = Do r (Cell 0 (TextKey text ∷ []) (Add (pos n)))

abbrev pub get : ℕ → List ℕ → ℕ → Step
get r text n = Ask r (Get 0 (TextKey text ∷ [])) (Int (pos n))

abbrev pub say_text : ℕ → List ℕ → Step
say_text r text = Say r (Text text)

abbrev pub say_number : ℕ → ℕ → Step
say_number r n = Say r (Int (pos n))

abbrev pub entries : ℕ → List (List ℕ) → Step
entries r texts = Ask r (Entries 0) (Tuples (map (λ text. TextKey text ∷ []) texts))

abbrev pub yield : ℕ → Step
yield r = Mark r false

abbrev pub flush : ℕ → Step
flush r = Mark r true

-- ann adds milk, bob adds milk and eggs, and cy looks.
abbrev pub grocery_list : List Step
grocery_list =
    Fork 0 0 ∷ Fork 0 1 ∷ Fork 0 2 ∷ yield 3 ∷ Fork 3 2 ∷ Join 0 3 ∷ Fork 0 2
    ∷ add 1 milk 2 ∷ flush 1 ∷ Fork 1 0 ∷ Join 0 1 ∷ Fork 0 0
    ∷ flush 4 ∷ Join 5 4 ∷ Fork 5 2 ∷ Join 0 5 ∷ Fork 0 2
    ∷ add 2 milk 1 ∷ add 2 eggs 12 ∷ flush 2 ∷ Fork 2 1 ∷ Join 0 2 ∷ Fork 0 1
    ∷ Join 7 6 ∷ get 7 milk 2 ∷ say_number 7 2
    ∷ Join 11 10 ∷ entries 11 (eggs ∷ milk ∷ []) ∷ say_text 11 eggs ∷ say_text 11 milk
    ∷ Join 9 8 ∷ entries 9 (milk ∷ []) ∷ get 9 milk 2 ∷ say_number 9 2 ∷ []

pub grocery_paths : map (path grocery_list) (0 ∷ 7 ∷ 9 ∷ 11 ∷ []) ≡ (7 ∷ 17 ∷ 18 ∷ []) ∷ (7 ∷ []) ∷ (7 ∷ []) ∷ (7 ∷ 17 ∷ 18 ∷ []) ∷ []
grocery_paths = refl

abbrev pub same_text : List ℕ → List ℕ → Bool
same_text [] [] = true
same_text [] (y ∷ ys) = false
same_text (x ∷ xs) [] = false
same_text (x ∷ xs) (y ∷ ys) = (x == y) && same_text xs ys

abbrev pub is_at : List ℕ → List Key → Bool
is_at text (TextKey key ∷ []) = same_text text key
is_at text _ = false

abbrev pub added_by : List ℕ → Update → ℕ
added_by text (Cell property keys (Add (pos n))) = cond (is_at text keys) n 0
added_by text _ = 0

abbrev pub added : List Update → List ℕ → ℕ
added [] text = 0
added (u ∷ log) text = added log text + added_by text u

abbrev pub quantity : List Update → List Key → ℕ
quantity log (TextKey text ∷ []) = added log text
quantity log _ = 0

-- what a list with eggs and milk answers where all its updates add
abbrev pub grocery_answers : List Update → Query → Answer
grocery_answers log (Get property keys) = Int (pos (quantity log keys))
grocery_answers log (Entries property) = Tuples (map (λ text. TextKey text ∷ []) (filter (λ text. not (added log text == 0)) (eggs ∷ milk ∷ [])))
grocery_answers log (All entity) = Truth false
grocery_answers log (Alive id) = Truth false

pub grocery_is_lawful : Lawful grocery_list
grocery_is_lawful = each_step_passes is_lawful grocery_list refl

pub grocery_is_right : AnsweredRight grocery_answers grocery_list
grocery_is_right = AnsweredRight_passes grocery_answers grocery_list refl

pub grocery_is_once : Once grocery_list
grocery_is_once = once_passes grocery_list refl

pub grocery_stories : map (story grocery_list) (0 ∷ 1 ∷ 2 ∷ []) ≡ (7 ∷ 8 ∷ 24 ∷ 25 ∷ []) ∷ (17 ∷ 18 ∷ 19 ∷ 27 ∷ 28 ∷ 29 ∷ []) ∷ (3 ∷ 12 ∷ 31 ∷ 32 ∷ 33 ∷ []) ∷ []
grocery_stories = refl

pub grocery_is_in_line : (LineLaw grocery_list 0) × (LineLaw grocery_list 1) × (LineLaw grocery_list 2)
grocery_is_in_line = (
  each_step_passes (λ front s. is_in_line 0 front (acts_on s)) grocery_list refl,
  each_step_passes (λ front s. is_in_line 1 front (acts_on s)) grocery_list refl,
  each_step_passes (λ front s. is_in_line 2 front (acts_on s)) grocery_list refl,
)

pub grocery_meets : Meeting below_server grocery_list
grocery_meets = record {
  placed = each_step_passes (is_placed below_server) grocery_list refl;
  at_marks = each_step_passes (is_at_mark below_server) grocery_list refl;
  flushed = (
    record { join = 10; fork = 11; joined = refl; forked = refl; later = lit< tt; seen = refl },
    (
      record { join = 15; fork = 16; joined = refl; forked = refl; later = lit< tt; seen = refl },
      (
        record { join = 21; fork = 22; joined = refl; forked = refl; later = lit< tt; seen = refl },
        tt,
      ),
    ),
  );
}

-- ann's program: add milk, flush, print the milk
abbrev pub ann_trace : List Answer → List Event × Option End
ann_trace [] = (DoEvent (Cell 0 (TextKey milk ∷ []) (Add (pos 2))) ∷ Flush ∷ [], None)
ann_trace (a ∷ answers) = (DoEvent (Cell 0 (TextKey milk ∷ []) (Add (pos 2))) ∷ Flush ∷ AskEvent (Get 0 (TextKey milk ∷ [])) a ∷ SayEvent a ∷ [], Some Done)

pub ann_runs_her_program : ProgramLaw ann_trace (Some Done) grocery_list 0
ann_runs_her_program = refl

-- Wrong ones: each is refused by the definition that it breaks.

pub joins_server : ¬ (Lawful (Fork 0 0 ∷ Join 1 0 ∷ []))
joins_server h = let no = h.1.0 in cc

pub joins_itself : ¬ (Lawful (Fork 0 0 ∷ Join 1 1 ∷ []))
joins_itself h = let no = h.1.0 in cc

-- revision 2 has not seen the fork of 3
pub joins_unseen_fork : ¬ (Lawful (Fork 0 0 ∷ Fork 0 1 ∷ Fork 1 0 ∷ Join 2 3 ∷ []))
joins_unseen_fork h = let no = h.1.1.1.0 in cc

pub joins_twice : ¬ (Lawful (Fork 0 0 ∷ Join 0 1 ∷ Join 0 1 ∷ []))
joins_twice h = let no = h.1.1.0 in cc

pub acts_when_joined : ¬ (Lawful (Fork 0 0 ∷ Join 0 1 ∷ yield 1 ∷ []))
acts_when_joined h = let no = h.1.1.0 in cc

pub forks_nobody : ¬ (Lawful (Fork 1 0 ∷ []))
forks_nobody h = let no = h.0 in cc

-- A lawful join of a revision into its own fork, which has its update already.
abbrev pub doubled : List Step
doubled = Fork 0 0 ∷ add 1 milk 2 ∷ Fork 1 0 ∷ Join 2 1 ∷ []

pub doubled_is_lawful : Lawful doubled
doubled_is_lawful = each_step_passes is_lawful doubled refl

pub doubled_path : path doubled 2 ≡ 1 ∷ 1 ∷ []
doubled_path = refl

pub doubles : ¬ (Once doubled)
doubles h = let no = (h.1.1.1.1 2 refl).0 1 in cc

-- a join into the server, which lacks the update, is apart; this one isn't
pub is_apart : (joins_apart (Fork 0 0 ∷ add 1 milk 2 ∷ []) (Join 0 1) ≡ true) × (joins_apart (Fork 0 0 ∷ add 1 milk 2 ∷ Fork 1 0 ∷ []) (Join 2 1) ≡ false)
is_apart = (refl, refl)

-- eggs were added by who had seen the milk, and stand before it
abbrev pub out_of_order : List Step
out_of_order = Fork 0 0 ∷ add 1 milk 2 ∷ Fork 1 0 ∷ add 2 eggs 12 ∷ Join 0 2 ∷ Join 0 1 ∷ []

pub out_of_order_path : path out_of_order 0 ≡ 3 ∷ 1 ∷ []
out_of_order_path = refl

pub comes_before_seen : ¬ (AfterSeen out_of_order 0)
comes_before_seen h = cc

-- the answer is the server's, which has not seen the milk
pub answers_other_path : ¬ (AnsweredRight grocery_answers (Fork 0 0 ∷ add 1 milk 2 ∷ get 1 milk 0 ∷ []))
answers_other_path h = let no = h.1.1.0 in cc

-- a client goes on at a revision that has not seen what it did
pub forgets_its_past : ¬ (LineLaw (Fork 0 0 ∷ Fork 0 0 ∷ add 1 milk 2 ∷ add 2 milk 2 ∷ []) 0)
forgets_its_past h = let no = h.1.1.1.0 in cc

pub joins_before_mark : ¬ (AtMarks below_server (Fork 0 0 ∷ add 1 milk 2 ∷ Join 0 1 ∷ yield 1 ∷ []))
joins_before_mark h = let no = h.1.1.0 in cc

pub joins_other_client : ¬ (Placed below_server (Fork 0 0 ∷ Fork 0 1 ∷ Join 1 2 ∷ []))
joins_other_client h = let no = h.1.1.0 in cc

pub goes_on_in_flush : ¬ (FlushLaw below_server (Fork 0 0 ∷ flush 1 ∷ get 1 milk 0 ∷ []))
goes_on_in_flush h = let at = h.0.later in let seen = h.0.seen in grind (arith, nat_tests, h.0.later, h.0.seen)

-- a flush whose reply is pulled: it is met at the end
abbrev pub flushed_once : List Step
flushed_once = Fork 0 0 ∷ add 1 milk 2 ∷ flush 1 ∷ Fork 1 0 ∷ Join 0 1 ∷ Fork 0 0 ∷ Join 3 2 ∷ []

pub met_at_end : Flushed below_server flushed_once 2 0
met_at_end = record { join = 4; fork = 5; joined = refl; forked = refl; later = lit< tt; seen = refl }

-- and so it is where the client goes on at the revision that has the reply
pub met_further_on : Flushed below_server (flushed_once ++ get 3 milk 2 ∷ flush 3 ∷ []) 2 0
met_further_on = record { join = 4; fork = 5; joined = refl; forked = refl; later = lit< tt; seen = refl }

-- the last revision of a client, and who did what
pub newest_revisions : (newest flushed_once 0 ≡ Some 3) × (newest grocery_list 1 ≡ Some 11) × (newest grocery_list 3 ≡ None)
newest_revisions = (refl, refl, refl)

pub who_did_what : (client_at grocery_list 17 ≡ Some 1) × (client_at grocery_list 12 ≡ Some 2) × (client_at grocery_list 10 ≡ None)
who_did_what = (refl, refl, refl)

-- revision 3 had no place at its fork, and has one now
pub path_is_longer : (fork_length flushed_once 3 ≡ 1) × (path flushed_once 3 ≡ 1 ∷ []) × (length (log grocery_list 0) ≡ 3)
path_is_longer = (refl, refl, refl)

-- the client goes on at revision 2, which has not seen the reply
abbrev pub goes_on_behind : List Step
goes_on_behind = Fork 0 0 ∷ flush 1 ∷ Fork 1 0 ∷ Join 0 1 ∷ Fork 0 0 ∷ get 2 milk 0 ∷ []

no_reply : (join fork : ℕ) → IsTrue (forks_down below_server goes_on_behind 0 fork) → IsTrue (sees_after goes_on_behind 0 1 fork) → join < fork → ⊥
no_reply join zero forked seen later = omega arith
no_reply join (suc zero) forked seen later = false≢true forked
no_reply join (suc (suc zero)) forked seen later = false≢true forked
no_reply join (suc (suc (suc fork))) forked seen later = grind (arith, nat_tests, seen)

pub misses_the_reply : ¬ (FlushLaw below_server goes_on_behind)
misses_the_reply h = no_reply h.0.join h.0.fork h.0.forked h.0.seen h.0.later

-- Two clients, of which the first adds 2 and the second does nothing.
abbrev pub counter : Schema
counter = record { properties = record { name = 103 ∷ []; owner = Global; cell = IntCell; keys = [] } ∷ []; entities = [] }

abbrev pub add_two : Update
add_two = Cell 0 [] (Add (pos 2))

abbrev pub adds : List Answer → List Event × Outcome
adds answers = (DoEvent add_two ∷ [], ended Done)

abbrev pub idle : List Answer → List Event × Outcome
idle answers = ([], ended Done)

abbrev pub two_clients : List Step
two_clients = Fork 0 0 ∷ Fork 0 1 ∷ Do 1 add_two ∷ []

two_programs : (c : ℕ) (trace : List Answer → List Event × Outcome) (end : End) → slice_get (adds ∷ idle ∷ []) c ≡ Some trace → slice_get (Done ∷ Done ∷ []) c ≡ Some end → ProgramLaw trace (ended end) two_clients c
two_programs zero trace end t e =
    let is : adds ≡ trace = cc in
    let ends : Done ≡ end = cc in
    subst (λ (x : End). ProgramLaw trace (ended x) two_clients 0) ends (subst (λ (p : List Answer → List Event × Outcome). ProgramLaw p (ended Done) two_clients 0) is refl)
two_programs (suc zero) trace end t e =
    let is : idle ≡ trace = cc in
    let ends : Done ≡ end = cc in
    subst (λ (x : End). ProgramLaw trace (ended x) two_clients 1) ends (subst (λ (p : List Answer → List Event × Outcome). ProgramLaw p (ended Done) two_clients 1) is refl)
two_programs (suc (suc c)) trace end t e = let no : None ≡ Some trace = t in cc

two_owners : AllOwned below_server 2 two_clients
two_owners =
    (AllOwned-more below_server 2 (Fork 0 0 ∷ Fork 0 1 ∷ []) (Do 1 add_two)).1 (
      (AllOwned-more below_server 2 (Fork 0 0 ∷ []) (Fork 0 1)).1 (
        (AllOwned-more below_server 2 [] (Fork 0 0)).1 (λ r m e. let no : None ≡ Some m = e in absurd (cc no), refl),
        refl,
      ),
      refl,
    )

pub two_clients_run : Headline counter below_server (adds ∷ idle ∷ []) (Done ∷ Done ∷ []) two_clients
two_clients_run = record {
  lawful = each_step_passes is_lawful two_clients refl;
  right = (tt, (tt, (tt, tt)));
  once = once_passes two_clients refl;
  meeting = record {
    placed = each_step_passes (is_placed below_server) two_clients refl;
    at_marks = each_step_passes (is_at_mark below_server) two_clients refl;
    flushed = tt;
  };
  count = refl;
  program = two_programs;
  line = λ c. (refl, (refl, (or_right (not (is_of c (Some 0))) true refl, tt)));
  owners = two_owners;
}
