-- The longest front of a list that passes a test, and what a lexeme takes of a text.
use Rattle.std.proofs.Common.{◌≡◌, ℕ, ◌≤◌, Bool, true, false, ◌&&◌, ◌||◌, cond, List, [], ◌∷◌, ◌++◌, length, take, drop, slice_index, nat_eq, refl, ap, sym, ◌∙◌, arith, lit≤, length-append, Some}
use Rattle.std.specs.Prelude.{take_while, find, codes, not, ◌==◌}
use Rattle.std.specs.List.{starts_with}
use Rattle.std.proofs.lemmas.List.Folds.{length-prefix_len}
use Rattle.std.proofs.lemmas.List.Sums.{prefix_len-le-length, take_while-cons}
use Rattle.std.proofs.lemmas.Slice.Eq.{starts_is}
use Rattle.std.proofs.lemmas.Bool.Decides.{Decides-eqb}
use Rattle.cloud_base.specs.Values.{is_letter, is_digit, is_name_byte, is_name, all_name_bytes, IsName}
use Rattle.source_tokens.specs.Terminals.{terminal_text, symbols}
use Rattle.source_tokens.specs.Lexemes.{word_at, digits_at, symbol_at, comment_length}
use Rattle.source_tokens.specs.declared.terminal.Terminal.{Terminal}
use Rattle.source_tokens.specs.declared.terminal.Terminal.TheVariants as variants

-- the front that was counted
pub taken : {X : Type 0} (p : X → Bool) (xs : List X) → take (length (take_while p xs)) xs ≡ take_while p xs
taken p xs = ap (λ n. take n xs) (length-prefix_len p xs)

pub front_le : {X : Type 0} (p : X → Bool) (xs : List X) → length (take_while p xs) ≤ length xs
front_le p xs = omega (arith, length-prefix_len p xs, prefix_len-le-length p xs)

pub front_by : {X : Type 0} (p : X → Bool) (x : X) (xs : List X) → p x ≡ true → take_while p (x ∷ xs) ≡ x ∷ take_while p xs
front_by p x xs e = take_while-cons p x xs ∙ ap (λ b. cond b (x ∷ take_while p xs) []) e

pub front_none : {X : Type 0} (p : X → Bool) (x : X) (xs : List X) → p x ≡ false → take_while p (x ∷ xs) ≡ []
front_none p x xs e = take_while-cons p x xs ∙ ap (λ b. cond b (x ∷ take_while p xs) []) e

all_by : (b : ℕ) (bytes : List ℕ) (t : Bool) → is_name_byte b ≡ t → all_name_bytes (take_while is_name_byte bytes) ≡ true → all_name_bytes (take_while is_name_byte (b ∷ bytes)) ≡ true
all_by b bytes true e h = ap all_name_bytes (front_by is_name_byte b bytes e) ∙ ap (λ t. t && all_name_bytes (take_while is_name_byte bytes)) e ∙ h
all_by b bytes false e h = ap all_name_bytes (front_none is_name_byte b bytes e)

all_front : (bytes : List ℕ) → all_name_bytes (take_while is_name_byte bytes) ≡ true
all_front [] = refl
all_front (b ∷ bytes) = all_by b bytes _ refl (all_front bytes)

-- a word that begins with a letter is a name
pub word_is_name : (text : List ℕ) → is_letter (slice_index text 0) ≡ true → IsName (word_at text)
word_is_name [] h = absurd (cc h)
word_is_name (b ∷ bytes) h =
    ap is_name (front_by is_name_byte b bytes (ap (λ t. t || is_digit b) h)) ∙ ap (λ t. t && all_name_bytes (take_while is_name_byte bytes)) h ∙ all_front bytes

name_long : (word : List ℕ) → is_name word ≡ true → 1 ≤ length word
name_long [] h = absurd (cc h)
name_long (b ∷ bytes) h = omega arith

-- a word takes a byte at least, and no more than there are
pub word_fits : (text : List ℕ) → is_letter (slice_index text 0) ≡ true → (1 ≤ length (word_at text)) × (length (word_at text) ≤ length text)
word_fits text h = (name_long _ (word_is_name text h), front_le is_name_byte text)

pub digits_fit : (text : List ℕ) → is_digit (slice_index text 0) ≡ true → (1 ≤ length (digits_at text)) × (length (digits_at text) ≤ length text)
digits_fit [] h = absurd (cc h)
digits_fit (b ∷ bytes) h = (omega (arith, ap length (front_by is_digit b bytes h)), front_le is_digit (b ∷ bytes))

terminal_long : (t : Terminal) → 1 ≤ length (terminal_text t)
terminal_long variants.Add = lit≤ tt
terminal_long variants.Alive = lit≤ tt
terminal_long variants.All = lit≤ tt
terminal_long variants.And = lit≤ tt
terminal_long variants.Array = lit≤ tt
terminal_long variants.CInt = lit≤ tt
terminal_long variants.CString = lit≤ tt
terminal_long variants.Client = lit≤ tt
terminal_long variants.Delete = lit≤ tt
terminal_long variants.Else = lit≤ tt
terminal_long variants.Entity = lit≤ tt
terminal_long variants.Entries = lit≤ tt
terminal_long variants.False = lit≤ tt
terminal_long variants.Flush = lit≤ tt
terminal_long variants.Foreach = lit≤ tt
terminal_long variants.Global = lit≤ tt
terminal_long variants.Hold = lit≤ tt
terminal_long variants.If = lit≤ tt
terminal_long variants.In = lit≤ tt
terminal_long variants.Int = lit≤ tt
terminal_long variants.LosePush = lit≤ tt
terminal_long variants.LoseReply = lit≤ tt
terminal_long variants.New = lit≤ tt
terminal_long variants.Not = lit≤ tt
terminal_long variants.Or = lit≤ tt
terminal_long variants.Pass = lit≤ tt
terminal_long variants.Print = lit≤ tt
terminal_long variants.Schedule = lit≤ tt
terminal_long variants.Schema = lit≤ tt
terminal_long variants.Serve = lit≤ tt
terminal_long variants.Set = lit≤ tt
terminal_long variants.SetIfEmpty = lit≤ tt
terminal_long variants.String = lit≤ tt
terminal_long variants.True = lit≤ tt
terminal_long variants.Twice = lit≤ tt
terminal_long variants.Var = lit≤ tt
terminal_long variants.While = lit≤ tt
terminal_long variants.Yield = lit≤ tt
terminal_long variants.OpenBrace = lit≤ tt
terminal_long variants.CloseBrace = lit≤ tt
terminal_long variants.OpenBracket = lit≤ tt
terminal_long variants.CloseBracket = lit≤ tt
terminal_long variants.OpenParen = lit≤ tt
terminal_long variants.CloseParen = lit≤ tt
terminal_long variants.Colon = lit≤ tt
terminal_long variants.Semicolon = lit≤ tt
terminal_long variants.Comma = lit≤ tt
terminal_long variants.Dot = lit≤ tt
terminal_long variants.Assign = lit≤ tt
terminal_long variants.Equal = lit≤ tt
terminal_long variants.NotEqual = lit≤ tt
terminal_long variants.Less = lit≤ tt
terminal_long variants.LessOrEqual = lit≤ tt
terminal_long variants.Greater = lit≤ tt
terminal_long variants.GreaterOrEqual = lit≤ tt
terminal_long variants.Plus = lit≤ tt
terminal_long variants.Concat = lit≤ tt
terminal_long variants.Minus = lit≤ tt
terminal_long variants.Times = lit≤ tt
terminal_long variants.Divide = lit≤ tt
terminal_long variants.Remainder = lit≤ tt

find_by : {X : Type 0} (p : X → Bool) (x : X) (xs : List X) (y : X) (b : Bool) → p x ≡ b → (find p xs ≡ Some y → p y ≡ true) → cond b (Some x) (find p xs) ≡ Some y → p y ≡ true
find_by p x xs y true e more h = let same : x ≡ y = cc h in ap p (sym same) ∙ e
find_by p x xs y false e more h = more h

-- what is found passes the test
pub find_passes : {X : Type 0} (p : X → Bool) (xs : List X) (y : X) → find p xs ≡ Some y → p y ≡ true
find_passes p [] y h = absurd (cc h)
find_passes p (x ∷ xs) y h = find_by p x xs y _ refl (find_passes p xs y) h

-- a symbol takes a byte at least, and no more than there are
pub symbol_fits : (text : List ℕ) (t : Terminal) → symbol_at text ≡ Some t → (1 ≤ length (terminal_text t)) × (length (terminal_text t) ≤ length text)
symbol_fits text t h =
    let begins = (starts_is Decides-eqb text (terminal_text t) true (sym (find_passes (λ (t : Terminal). starts_with nat_eq text (terminal_text t)) symbols t h))).0 refl in
    (terminal_long t, omega (arith, ap length begins, length-append (terminal_text t) (drop (length (terminal_text t)) text)))

comment_long : (bytes : List ℕ) → bytes ≡ codes "//" ++ drop 2 bytes → 1 ≤ comment_length bytes
comment_long [] h = absurd (cc h)
comment_long (b ∷ bytes) h =
    let first : b ≡ 47 = cc h in
    omega (arith, ap length (front_by (λ b. not (b == 10)) b bytes (ap (λ b. not (b == 10)) first)))

-- a comment takes a byte at least, and no more than there are
pub comments : (text : List ℕ) → starts_with nat_eq text (codes "//") ≡ true → (1 ≤ comment_length text) × (comment_length text ≤ length text)
comments text h = (comment_long text ((starts_is Decides-eqb text (codes "//") true (sym h)).0 refl), front_le (λ b. not (b == 10)) text)
