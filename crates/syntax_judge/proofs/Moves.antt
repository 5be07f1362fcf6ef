-- Moves of the stack as the code makes them.
use Rattle.std.proofs.Common.{◌≡◌, ℕ, zero, suc, ◌+◌, ◌-◌, ◌<◌, Bool, true, false, List, [], ◌∷◌, ◌++◌, length, take, drop, get_or, reverse, Option, Some, None, refl, ap, sym, ◌∙◌, true≢false, append_assoc, append-nil, add-one, drop-cons, length-append, arith, map, ◌==◌}
use Rattle.std.specs.Prelude.{option_and_then}
use Rattle.std.specs.List.{list_any}
use Rattle.std.proofs.Math.Seq.{take-append_seam}
use Rattle.std.proofs.lemmas.List.{reverse-append, reverse-reverse, take_rest}
use Rattle.syntax_judge.specs.declared.kind.Kind.{Kind}
use Rattle.syntax_judge.specs.declared.symbol.Symbol.{Symbol}
use Rattle.syntax_judge.specs.declared.symbol.Part.{Part}
use Rattle.syntax_judge.specs.declared.symbol.Symbol.TheVariants as s
use Rattle.syntax_judge.proofs.Ends.{advance_all}
use Rattle.syntax_judge.specs.Grammar.{productions}
use Rattle.syntax_judge.specs.Tables.{Table, is_same_kind, token_left, is_nullable, advance_by, first_way, table_at, table, advance, is_empty, outcome}
use Rattle.syntax_judge.specs.declared.symbol.Symbol.TheVariants.{Open}

-- ---- one symbol of several

found_by : (o : Option (List Symbol)) (n : Bool) (below rest new : List Symbol) (later : Option (List Symbol)) → (true, new) ≡ outcome (below ++ reverse rest) o
    → (true, new) ≡ outcome below (elim o [ Some left ↦ Some (left ++ rest) | None ↦ elim n [ true ↦ later | false ↦ None ] ])
found_by (Some left) n below rest new later h =
    h ∙ ap (λ u. (true, u)) (append_assoc below (reverse rest) (reverse left) ∙ ap (λ u. below ++ u) (sym (reverse-append left rest)))
found_by None n below rest new later h = absurd (true≢false (ap (λ p. p.0) h))

pub way_found : (table : Table) (k : Kind) (x : Symbol) (below rest new : List Symbol) → (true, new) ≡ outcome (below ++ reverse rest) (table x k) → (true, new) ≡ outcome below (advance_by table (x ∷ rest) k)
way_found table k x below rest new h = found_by (table x k) (is_nullable x) below rest new (advance_by table rest k) h

abbrev empty_or : Bool → Option (List Symbol) → Option (List Symbol)
empty_or true later = later
empty_or false later = None

lost_by : (o : Option (List Symbol)) (n m : Bool) (st rest new : List Symbol) (later : Option (List Symbol)) → (false, new) ≡ outcome st o → m ≡ n
    → elim o [ Some left ↦ Some (left ++ rest) | None ↦ elim n [ true ↦ later | false ↦ None ] ] ≡ empty_or m later
lost_by (Some left) n m st rest new later h e = absurd (true≢false (sym (ap (λ p. p.0) h)))
lost_by None true m st rest new later h e = ap (λ b. empty_or b later) (sym e)
lost_by None false m st rest new later h e = ap (λ b. empty_or b later) (sym e)

-- the symbol can't begin with the token: it stands for nothing, or the token doesn't come
pub way_lost : (table : Table) (k : Kind) (x : Symbol) (m : Bool) (st rest new : List Symbol) → (false, new) ≡ outcome st (table x k) → m ≡ is_nullable x → advance_by table (x ∷ rest) k ≡ empty_or m (advance_by table rest k)
way_lost table k x m st rest new h n = lost_by (table x k) (is_nullable x) m st rest new (advance_by table rest k) h n

pub lost_kept : (o : Option (List Symbol)) (st new : List Symbol) → (false, new) ≡ outcome st o → new ≡ st
lost_kept (Some left) st new h = absurd (true≢false (sym (ap (λ p. p.0) h)))
lost_kept None st new h = ap (λ p. p.1) h

-- ---- the top of the stack

top_by : (o : Option (List Symbol)) (n : Bool) (below new : List Symbol) (later : Option (List Symbol)) → (true, new) ≡ outcome below o
    → elim o [ Some left ↦ Some (left ++ reverse below) | None ↦ elim n [ true ↦ later | false ↦ None ] ] ≡ Some (reverse new)
top_by (Some left) n below new later h =
    ap Some (ap (λ u. u ++ reverse below) (sym (reverse-reverse left)) ∙ sym (reverse-append below (reverse left)) ∙ ap reverse (sym (ap (λ p. p.1) h)))
top_by None n below new later h = absurd (true≢false (ap (λ p. p.0) h))

pub top_found : (table : Table) (k : Kind) (x : Symbol) (below new : List Symbol) → (true, new) ≡ outcome below (table x k) → advance_by table (x ∷ reverse below) k ≡ Some (reverse new)
top_found table k x below new h = top_by (table x k) (is_nullable x) below new (advance_by table (reverse below) k) h

-- what the code knows of a symbol that it took from the top and tried
pub record Popped (k : Kind) (x : Symbol) (start below new : List Symbol) (found : Bool) : Type 0 where
  pub left : advance (x ∷ reverse below) k ≡ advance (reverse start) k
  pub tried : (found, new) ≡ outcome below (table x k)

pub popped : (k : Kind) (x : Symbol) (start st below new : List Symbol) (found known : Bool) → advance (reverse st) k ≡ advance (reverse start) k → st ≡ below ++ x ∷ []
    → (found, new) ≡ outcome below (table x k) → found ≡ known → Popped k x start below new known
popped k x start st below new found known left top took_it known_it = record {
  left = ap (λ u. advance u k) (sym (reverse-append below (x ∷ []))) ∙ ap (λ u. advance (reverse u) k) (sym top) ∙ left;
  tried = ap (λ b. (b, new)) (sym known_it) ∙ took_it;
}

pub popped_found : (k : Kind) (x : Symbol) (start below new : List Symbol) → Popped k x start below new true → advance (reverse start) k ≡ Some (reverse new)
popped_found k x start below new t = sym t.left ∙ top_found table k x below new t.tried

pub popped_over : (k : Kind) (x : Symbol) (start below new : List Symbol) → Popped k x start below new false → true ≡ is_nullable x → advance (reverse new) k ≡ advance (reverse start) k
popped_over k x start below new t n =
    ap (λ u. advance (reverse u) k) (lost_kept (table x k) below new t.tried) ∙ sym (way_lost table k x true below (reverse below) new t.tried n) ∙ t.left

pub popped_smaller : (k : Kind) (x : Symbol) (start st below new : List Symbol) → Popped k x start below new false → st ≡ below ++ x ∷ [] → length new < length st
popped_smaller k x start st below new t top =
    let same : length new ≡ length below = ap length (lost_kept (table x k) below new t.tried) in
    let more : length st ≡ length below + 1 = ap length top ∙ length-append below (x ∷ []) in
    omega arith

pub popped_stuck : (k : Kind) (x : Symbol) (start below new : List Symbol) → Popped k x start below new false → false ≡ is_nullable x → advance (reverse start) k ≡ None
popped_stuck k x start below new t n = sym t.left ∙ way_lost table k x false below (reverse below) new t.tried n

-- ---- one token more

some_of : (o : Option (List Symbol)) → option_and_then (λ after. Some after) o ≡ o
some_of (Some after) = refl
some_of None = refl

more_by : (us : List Kind) (k : Kind) (o : Option (List Symbol)) → ((next : List Symbol) → advance_all next (us ++ k ∷ []) ≡ option_and_then (λ after. advance after k) (advance_all next us))
    → option_and_then (λ next. advance_all next (us ++ k ∷ [])) o ≡ option_and_then (λ after. advance after k) (option_and_then (λ next. advance_all next us) o)
more_by us k (Some next) below = below next
more_by us k None below = refl

pub all_more : (us : List Kind) (st : List Symbol) (k : Kind) → advance_all st (us ++ k ∷ []) ≡ option_and_then (λ after. advance after k) (advance_all st us)
all_more [] st k = some_of (advance st k)
all_more (j ∷ us) st k = more_by us k (advance st j) (λ next. all_more us next k)

-- ---- the table of a part

pub table_none : (depth : ℕ) (x : Symbol) (q : Part) (k : Kind) (st : List Symbol) → depth ≡ 0 → x ≡ s.Open q → (false, st) ≡ outcome st (table_at depth x k)
unfolding table_at
table_none depth x q k st e f = ap (λ x. outcome st (table_at 0 x k)) (sym f) ∙ ap (λ n. outcome st (table_at n x k)) (sym e)

pub table_part : (depth : ℕ) (x : Symbol) (q : Part) (k : Kind) (ways : List (List Symbol)) → (depth ≡ 0 → ⊥) → x ≡ s.Open q → ways ≡ productions q → first_way (table_at (depth - 1)) ways k ≡ table_at depth x k
unfolding table_at
table_part zero x q k ways deep e f = absurd (deep refl)
table_part (suc n) x q k ways deep e f =
    ap (λ ways. first_way (table_at (suc n - 1)) ways k) f ∙ ap (λ m. first_way (table_at m) (productions q) k) (omega arith) ∙ ap (λ x. table_at (suc n) x k) (sym e)

-- ---- at a place of a way

place : (way : List Symbol) (i : ℕ) (d : Symbol) → i < length way → drop i way ≡ get_or way i d ∷ drop (i + 1) way
place way i d h = drop-cons way i d h ∙ ap (λ n. get_or way i d ∷ drop n way) (sym (add-one i))

-- what the code knows at a place: the stack as it was, with the rest of the way pushed, and after the try of the symbol
pub record Tried (table : Table) (k : Kind) (way : List Symbol) (i : ℕ) (x : Symbol) (old new : List Symbol) (found : Bool) : Type 0 where
  pub here : drop i way ≡ x ∷ drop (i + 1) way
  pub left : advance_by table (drop i way) k ≡ advance_by table way k
  pub tried : (found, new) ≡ outcome (old ++ reverse (drop (i + 1) way)) (table x k)

pub tried : (table : Table) (k : Kind) (way : List Symbol) (i : ℕ) (d : Symbol) (old now pushed new : List Symbol) (found known : Bool) → i < length way → now ≡ old
    → pushed ≡ now ++ reverse (take (length way - (i + 1)) (drop (i + 1) way)) → advance_by table (drop i way) k ≡ advance_by table way k
    → (found, new) ≡ outcome pushed (table (get_or way i d) k) → found ≡ known → Tried table k way i (get_or way i d) old new known
tried table k way i d old now pushed new found known below kept push left took_it known_it = record {
  here = place way i d below;
  left = left;
  tried = ap (λ b. (b, new)) (sym known_it) ∙ took_it
      ∙ ap (λ st. outcome st (table (get_or way i d) k)) (push ∙ ap (λ u. now ++ reverse u) (take_rest way (i + 1)) ∙ ap (λ u. u ++ reverse (drop (i + 1) way)) kept);
}

pub tried_found : (table : Table) (k : Kind) (way : List Symbol) (i : ℕ) (x : Symbol) (old new : List Symbol) → Tried table k way i x old new true → (true, new) ≡ outcome old (advance_by table way k)
tried_found table k way i x old new t =
    way_found table k x old (drop (i + 1) way) new t.tried ∙ ap (outcome old) (ap (λ u. advance_by table u k) (sym t.here) ∙ t.left)

pub tried_kept : (table : Table) (k : Kind) (way : List Symbol) (i : ℕ) (x : Symbol) (old new cut : List Symbol) (n : ℕ) → Tried table k way i x old new false → n ≡ length old → cut ≡ take n new → cut ≡ old
tried_kept table k way i x old new cut n t e h =
    h ∙ ap (λ m. take m new) e ∙ ap (take (length old)) (lost_kept (table x k) (old ++ reverse (drop (i + 1) way)) new t.tried) ∙ take-append_seam old (reverse (drop (i + 1) way))

pub tried_over : (table : Table) (k : Kind) (way : List Symbol) (i : ℕ) (x : Symbol) (old new : List Symbol) → Tried table k way i x old new false → true ≡ is_nullable x → advance_by table (drop (i + 1) way) k ≡ advance_by table way k
tried_over table k way i x old new t n =
    sym (way_lost table k x true (old ++ reverse (drop (i + 1) way)) (drop (i + 1) way) new t.tried n) ∙ ap (λ u. advance_by table u k) (sym t.here) ∙ t.left

pub tried_stuck : (table : Table) (k : Kind) (way : List Symbol) (i : ℕ) (x : Symbol) (old new cut : List Symbol) → Tried table k way i x old new false → false ≡ is_nullable x → cut ≡ old → (false, cut) ≡ outcome old (advance_by table way k)
tried_stuck table k way i x old new cut t n kept =
    ap (λ u. (false, u)) kept
    ∙ ap (outcome old) (sym (way_lost table k x false (old ++ reverse (drop (i + 1) way)) (drop (i + 1) way) new t.tried n) ∙ ap (λ u. advance_by table u k) (sym t.here) ∙ t.left)

-- ---- a token

token_took_by : (b : Bool) (st : List Symbol) → (b, st) ≡ outcome st (token_left b)
token_took_by true st = ap (λ u. (true, u)) (sym (append-nil st))
token_took_by false st = refl

pub token_took : (depth : ℕ) (x : Symbol) (wanted k : Kind) (st : List Symbol) (b : Bool) → x ≡ s.Token wanted → b ≡ is_same_kind wanted k → (b, st) ≡ outcome st (table_at depth x k)
unfolding table_at
token_took depth x wanted k st b e h =
    token_took_by b st ∙ ap (λ b. outcome st (token_left b)) h ∙ ap (λ x. outcome st (table_at depth x k)) (sym e)

-- ---- a way that isn't empty

more_ways_by : (way : List Symbol) (ways : List (List Symbol)) (b : Bool) → false ≡ (length way == 0) → list_any is_empty (way ∷ ways) ≡ b → list_any is_empty ways ≡ b
more_ways_by [] ways b e h = absurd (true≢false (sym e))
more_ways_by (x ∷ way) ways b e h = h

-- the ways are seen through references
pub more_ways : {A : Type 0} (see : A → List Symbol) (xs : List A) (i : ℕ) (d : A) (b : Bool) → i < length xs → false ≡ (length (see (get_or xs i d)) == 0) → list_any is_empty (map see (drop i xs)) ≡ b → list_any is_empty (map see (drop (i + 1) xs)) ≡ b
more_ways see xs i d b below e h =
    more_ways_by (see (get_or xs i d)) (map see (drop (i + 1) xs)) b e
    (ap (λ ys. list_any is_empty (map see ys)) (sym (drop-cons xs i d below ∙ ap (λ n. get_or xs i d ∷ drop n xs) (sym (add-one i)))) ∙ h)
