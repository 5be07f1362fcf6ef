-- The words of the commands.
use Rattle.std.proofs.Common.{◌≡◌, ℕ, List, [], ◌∷◌, Bool, true, false, refl, ap}
use Rattle.std.specs.Prelude.{Option, Some, None, ◌↔◌, if◌then◌else◌, codes}
use Rattle.std.specs.Str.{bytes_eq}
use Rattle.std.proofs.lemmas.Slice.Eq.{bytes_eq-Decides}
use Rattle.cloud_run.specs.declared.command.Command.{Command}
use Rattle.cloud_run.specs.declared.command.Command.TheVariants.{Check, Code, Play}
use Rattle.cloud_run.specs.Commands.{command_of}

abbrev command_if : Bool → Bool → Bool → Option Command
command_if check code play = if check then Some Check else if code then Some Code else if play then Some Play else None

is_check : (check code play : Bool) → command_if check code play ≡ Some Check → check ≡ true
is_check true code play e = refl
is_check false true play e = cc
is_check false false true e = cc
is_check false false false e = cc

is_code : (check code play : Bool) → command_if check code play ≡ Some Code → code ≡ true
is_code true code play e = cc
is_code false true play e = refl
is_code false false true e = cc
is_code false false false e = cc

is_play : (check code play : Bool) → command_if check code play ≡ Some Play → play ≡ true
is_play true code play e = cc
is_play false true play e = cc
is_play false false true e = refl
is_play false false false e = cc

abbrev is_word : List ℕ → List ℕ → Bool
is_word word name = bytes_eq word name

pub check_words : (words : List (List ℕ)) → (command_of words ≡ Some Check) ↔ (words ≡ codes "check" ∷ [])
check_words [] = (λ e. cc, λ e. cc)
check_words (word ∷ []) =
    let same = bytes_eq-Decides word (codes "check") in
    (λ e. ap (λ w. w ∷ []) (same.0 (is_check (is_word word (codes "check")) (is_word word (codes "code")) (is_word word (codes "play")) e)), λ e. ap command_of e)
check_words (word ∷ next ∷ words) = (λ e. cc, λ e. cc)

pub code_words : (words : List (List ℕ)) → (command_of words ≡ Some Code) ↔ (words ≡ codes "code" ∷ [])
code_words [] = (λ e. cc, λ e. cc)
code_words (word ∷ []) =
    let same = bytes_eq-Decides word (codes "code") in
    (λ e. ap (λ w. w ∷ []) (same.0 (is_code (is_word word (codes "check")) (is_word word (codes "code")) (is_word word (codes "play")) e)), λ e. ap command_of e)
code_words (word ∷ next ∷ words) = (λ e. cc, λ e. cc)

pub play_words : (words : List (List ℕ)) → (command_of words ≡ Some Play) ↔ (words ≡ codes "play" ∷ [])
play_words [] = (λ e. cc, λ e. cc)
play_words (word ∷ []) =
    let same = bytes_eq-Decides word (codes "play") in
    (λ e. ap (λ w. w ∷ []) (same.0 (is_play (is_word word (codes "check")) (is_word word (codes "code")) (is_word word (codes "play")) e)), λ e. ap command_of e)
play_words (word ∷ next ∷ words) = (λ e. cc, λ e. cc)

pub ruleset command_words = (check_words, code_words, play_words)
