-- Laws of entries in order.
use Rattle.std.proofs.Common.{◌≡◌, Bool, true, false, cond, List, [], ◌∷◌, refl, sym, ◌∙◌, ap, subst}
use Rattle.std.specs.Prelude.{Option, Some, None}
use Rattle.std.specs.Option.{option_map}
use Rattle.std.specs.List.{AllByRecursion, filter}
use Rattle.std.specs.List.Sorted.{IsStrictlySortedBy}
use Rattle.std.specs.Map.{keys_of, lookup_entry}
use Rattle.std.specs.BTreeMap.{is_at}
use Rattle.std.specs.Ordering.{is_eq, match_ordering, ordering_reverse}
use Rattle.std.specs.Cmp.{IsTotalOrder, eq_by_cmp_equiv}
use Rattle.std.specs.declared.cmp.Ordering.{Ordering}
use Rattle.std.specs.declared.cmp.Ordering.TheVariants.{Less, Equal, Greater}
use Rattle.std.proofs.lemmas.Cmp.{tied_itself}
use Rattle.std.proofs.lemmas.Map.Keys.{sorted_head, sorted_tail}
use Rattle.shared_map.specs.Entries.{with_entry, value_at}

pub by_cases : {P : Type 0} (b : Bool) → (b ≡ true → P) → (b ≡ false → P) → P
by_cases true f g = f refl
by_cases false f g = g refl

pub by_order : {P : Type 0} (r : Ordering) → (r ≡ Less → P) → (r ≡ Equal → P) → (r ≡ Greater → P) → P
by_order Less f g h = f refl
by_order Equal f g h = g refl
by_order Greater f g h = h refl

pub is_eq_equal : (r : Ordering) → is_eq r ≡ true → r ≡ Equal
is_eq_equal Less e = let no : false ≡ true = e in cc
is_eq_equal Equal e = refl
is_eq_equal Greater e = let no : false ≡ true = e in cc

module _ {K : Type 0} {cmp : K → K → Ordering} (o : IsTotalOrder cmp) where
  pub is_self : (key : K) → is_at (cmp key) key ≡ true
  is_self key = ap is_eq (tied_itself o key)

  pub less_back : (a b : K) → cmp a b ≡ Less → cmp b a ≡ Greater
  less_back a b h = o.antisymm b a ∙ ap ordering_reverse h

  pub greater_back : (a b : K) → cmp a b ≡ Greater → cmp b a ≡ Less
  greater_back a b h = o.antisymm b a ∙ ap ordering_reverse h

  -- keys that are equal are at one place
  pub same_at : (a b q : K) → cmp a b ≡ Equal → is_at (cmp q) a ≡ is_at (cmp q) b
  same_at a b q h = (eq_by_cmp_equiv o).symm q a ∙ ap is_eq (o.congr a b q h) ∙ (eq_by_cmp_equiv o).symm b q

  -- keys that aren't are at two
  pub not_at : (a b q : K) → is_eq (cmp a b) ≡ false → is_at (cmp q) a ≡ true → is_at (cmp q) b ≡ false
  not_at a b q h is = ap is_eq (o.congr q a b (is_eq_equal (cmp q a) is)) ∙ h

-- a test that tells equal keys alike
abbrev pub IsFair : {K : Type 0} → (K → K → Ordering) → (K → Bool) → Type 0
IsFair {K} cmp test = (a b : K) → cmp a b ≡ Equal → test a ≡ test b

pub none_ascends : {K : Type 0} (cmp : K → K → Ordering) → IsStrictlySortedBy cmp []
unfolding IsStrictlySortedBy
none_ascends cmp = tt

module _ {K V : Type 0} (cmp : K → K → Ordering) where
  -- the entry at a key
  abbrev pub found : List (K × V) → K → Option (K × V)
  found entries key = lookup_entry (is_at (cmp key)) entries

  abbrev pub Ascends : List (K × V) → Type 0
  Ascends entries = IsStrictlySortedBy cmp (keys_of entries)

  -- a key is below those of the entries
  abbrev pub Below : K → List (K × V) → Type 0
  Below key entries = AllByRecursion (λ k. cmp key k ≡ Less) (keys_of entries)

  pub ascends_cons : (e : K × V) (entries : List (K × V)) → Below e.0 entries → Ascends entries → Ascends (e ∷ entries)
  unfolding IsStrictlySortedBy
  ascends_cons e entries below rest = (below, rest)

  pub head_below : (e : K × V) (entries : List (K × V)) → Ascends (e ∷ entries) → Below e.0 entries
  head_below e entries h = sorted_head cmp e.0 (keys_of entries) h

  pub tail_ascends : (e : K × V) (entries : List (K × V)) → Ascends (e ∷ entries) → Ascends entries
  tail_ascends e entries h = sorted_tail cmp e.0 (keys_of entries) h

  value_is_cond : (b : Bool) (e : K × V) (o : Option V) (p : Option (K × V)) → o ≡ option_map (λ x. x.1) p → cond b (Some e.1) o ≡ option_map (λ x. x.1) (cond b (Some e) p)
  value_is_cond true e o p h = refl
  value_is_cond false e o p h = h

  -- a value is that of the entry
  pub value_is : (entries : List (K × V)) (key : K) → value_at cmp entries key ≡ option_map (λ e. e.1) (found entries key)
  value_is [] key = refl
  value_is (e ∷ entries) key = value_is_cond (is_at (cmp key) e.0) e (value_at cmp entries key) (found entries key) (value_is entries key)

module _ {K V : Type 0} {cmp : K → K → Ordering} (o : IsTotalOrder cmp) where
  pub less_less : (a b : K) (entries : List (K × V)) → cmp a b ≡ Less → Below cmp b entries → Below cmp a entries
  less_less a b [] h below = tt
  less_less a b (e ∷ entries) h below = (o.trans a b e.0 h below.0, less_less a b entries h below.1)

  pub equal_less : (a b : K) (entries : List (K × V)) → cmp a b ≡ Equal → Below cmp b entries → Below cmp a entries
  equal_less a b [] h below = tt
  equal_less a b (e ∷ entries) h below = (o.congr a b e.0 h ∙ below.0, equal_less a b entries h below.1)

  -- what is below all is none of them
  pub none_below : (key : K) (entries : List (K × V)) → Below cmp key entries → found cmp entries key ≡ None
  none_below key [] below = refl
  none_below key (e ∷ entries) below = ap (λ r. cond (is_eq r) (Some e) (found cmp entries key)) below.0 ∙ none_below key entries below.1

  equal_conds : (b c : Bool) (e f : K × V) (p : Option (K × V)) → b ≡ c → cond b (Some e) p ≡ cond b (Some e) (cond c (Some f) p)
  equal_conds true c e f p h = refl
  equal_conds false true e f p h = let no : false ≡ true = h in cc
  equal_conds false false e f p h = refl

  swap_conds : (b c : Bool) (e f : K × V) (p : Option (K × V)) → (b ≡ true → c ≡ false) → cond c (Some f) (cond b (Some e) p) ≡ cond b (Some e) (cond c (Some f) p)
  swap_conds true true e f p h = let no : true ≡ false = h refl in cc
  swap_conds true false e f p h = refl
  swap_conds false true e f p h = refl
  swap_conds false false e f p h = refl

  -- ---- one entry more
  abbrev placed : Ordering → K × V → K × V → List (K × V) → List (K × V) → List (K × V)
  placed r entry e entries more = match_ordering r (entry ∷ e ∷ entries) (entry ∷ entries) (e ∷ more)

  found_placed : (r : Ordering) (entry e : K × V) (entries more : List (K × V)) (q : K) → cmp entry.0 e.0 ≡ r
      → found cmp more q ≡ cond (is_at (cmp q) entry.0) (Some entry) (found cmp entries q)
      → found cmp (placed r entry e entries more) q ≡ cond (is_at (cmp q) entry.0) (Some entry) (found cmp (e ∷ entries) q)
  found_placed Less entry e entries more q is h = refl
  found_placed Equal entry e entries more q is h = equal_conds (is_at (cmp q) entry.0) (is_at (cmp q) e.0) entry e (found cmp entries q) (same_at o entry.0 e.0 q is)
  found_placed Greater entry e entries more q is h =
      ap (λ p. cond (is_at (cmp q) e.0) (Some e) p) h
      ∙ swap_conds (is_at (cmp q) entry.0) (is_at (cmp q) e.0) entry e (found cmp entries q) (not_at o entry.0 e.0 q (ap is_eq is))

  pub found_with : (entries : List (K × V)) (entry : K × V) (q : K) → found cmp (with_entry cmp entries entry) q ≡ cond (is_at (cmp q) entry.0) (Some entry) (found cmp entries q)
  found_with [] entry q = refl
  found_with (e ∷ entries) entry q = found_placed (cmp entry.0 e.0) entry e entries (with_entry cmp entries entry) q refl (found_with entries entry q)

  below_placed : (r : Ordering) (key : K) (entry e : K × V) (entries more : List (K × V)) → cmp key entry.0 ≡ Less → Below cmp key (e ∷ entries) → Below cmp key more
      → Below cmp key (placed r entry e entries more)
  below_placed Less key entry e entries more first rest h = (first, rest)
  below_placed Equal key entry e entries more first rest h = (first, rest.1)
  below_placed Greater key entry e entries more first rest h = (rest.0, h)

  pub below_with : (key : K) (entries : List (K × V)) (entry : K × V) → cmp key entry.0 ≡ Less → Below cmp key entries → Below cmp key (with_entry cmp entries entry)
  below_with key [] entry first rest = (first, tt)
  below_with key (e ∷ entries) entry first rest = below_placed (cmp entry.0 e.0) key entry e entries (with_entry cmp entries entry) first rest (below_with key entries entry first rest.1)

  ascends_placed : (r : Ordering) (entry e : K × V) (entries more : List (K × V)) → cmp entry.0 e.0 ≡ r → Ascends cmp (e ∷ entries) → Ascends cmp more
      → (cmp e.0 entry.0 ≡ Less → Below cmp e.0 more) → Ascends cmp (placed r entry e entries more)
  ascends_placed Less entry e entries more is up h below =
      ascends_cons cmp entry (e ∷ entries) (is, less_less entry.0 e.0 entries is (head_below cmp e entries up)) up
  ascends_placed Equal entry e entries more is up h below =
      ascends_cons cmp entry entries (equal_less entry.0 e.0 entries is (head_below cmp e entries up)) (tail_ascends cmp e entries up)
  ascends_placed Greater entry e entries more is up h below = ascends_cons cmp e more (below (greater_back o entry.0 e.0 is)) h

  pub ascends_with : (entries : List (K × V)) (entry : K × V) → Ascends cmp entries → Ascends cmp (with_entry cmp entries entry)
  ascends_with [] entry up = ascends_cons cmp entry [] tt (none_ascends cmp)
  ascends_with (e ∷ entries) entry up =
      ascends_placed (cmp entry.0 e.0) entry e entries (with_entry cmp entries entry) refl up (ascends_with entries entry (tail_ascends cmp e entries up))
      (λ less. below_with e.0 entries entry less (head_below cmp e entries up))

  -- an entry below all comes first
  pub with_first : (entries : List (K × V)) (entry : K × V) → Below cmp entry.0 entries → with_entry cmp entries entry ≡ entry ∷ entries
  with_first [] entry below = refl
  with_first (e ∷ entries) entry below = ap (λ r. placed r entry e entries (with_entry cmp entries entry)) below.0

  -- one with an equal key is replaced
  pub with_equal : (entries : List (K × V)) (entry e : K × V) → cmp entry.0 e.0 ≡ Equal → with_entry cmp (e ∷ entries) entry ≡ entry ∷ entries
  with_equal entries entry e is = ap (λ r. placed r entry e entries (with_entry cmp entries entry)) is

  -- one below it stays first
  pub with_later : (entries : List (K × V)) (entry e : K × V) → cmp e.0 entry.0 ≡ Less → with_entry cmp (e ∷ entries) entry ≡ e ∷ with_entry cmp entries entry
  with_later entries entry e is = ap (λ r. placed r entry e entries (with_entry cmp entries entry)) (less_back o e.0 entry.0 is)

  -- ---- entries in which each key finds the same are the same
  some_some : (e f : K × V) → Some e ≡ Some f → e ≡ f
  some_some e f h = cc

  none_some : {P : Type 0} (e : K × V) → None ≡ Some e → P
  none_some e h = cc

  found_head : (e : K × V) (entries : List (K × V)) → found cmp (e ∷ entries) e.0 ≡ Some e
  found_head e entries = ap (λ b. cond b (Some e) (found cmp entries e.0)) (is_self o e.0)

  found_tail : (b : Bool) (e f : K × V) (p q : Option (K × V)) → cond b (Some e) p ≡ cond b (Some f) q → (b ≡ true → p ≡ None) → (b ≡ true → q ≡ None) → p ≡ q
  found_tail true e f p q h g k = g refl ∙ sym (k refl)
  found_tail false e f p q h g k = h

  at_below : (q : K) (e : K × V) (entries : List (K × V)) → is_at (cmp q) e.0 ≡ true → Below cmp e.0 entries → found cmp entries q ≡ None
  at_below q e entries is below = none_below q entries (equal_less q e.0 entries (is_eq_equal (cmp q e.0) is) below)

  pub same_entries : (xs ys : List (K × V)) → Ascends cmp xs → Ascends cmp ys → ((q : K) → found cmp xs q ≡ found cmp ys q) → xs ≡ ys
  same_entries [] [] up vp h = refl
  same_entries [] (f ∷ ys) up vp h = none_some f (h f.0 ∙ found_head f ys)
  same_entries (e ∷ xs) [] up vp h = none_some e (sym (h e.0) ∙ found_head e xs)
  same_entries (e ∷ xs) (f ∷ ys) up vp h =
      by_order (cmp e.0 f.0)
      (λ is. none_some e (sym (none_below e.0 (f ∷ ys) (is, less_less e.0 f.0 ys is (head_below cmp f ys vp))) ∙ sym (h e.0) ∙ found_head e xs))
      (λ is.
      let same : e ≡ f = some_some e f (sym (found_head e xs) ∙ h e.0 ∙ ap (λ b. cond b (Some f) (found cmp ys e.0)) (ap is_eq is)) in
      let rest : xs ≡ ys = same_entries xs ys (tail_ascends cmp e xs up) (tail_ascends cmp f ys vp)
      (λ q. found_tail (is_at (cmp q) f.0) e f (found cmp xs q) (found cmp ys q)
      (subst (λ (x : K × V). cond (is_at (cmp q) x.0) (Some e) (found cmp xs q) ≡ found cmp (f ∷ ys) q) same (h q))
      (λ at. subst (λ (x : K × V). is_at (cmp q) x.0 ≡ true → found cmp xs q ≡ None) same (λ on. at_below q e xs on (head_below cmp e xs up)) at)
      (λ at. at_below q f ys at (head_below cmp f ys vp))) in
      ap (λ (x : K × V). x ∷ xs) same ∙ ap (λ (l : List (K × V)). f ∷ l) rest)
      (λ is. let less = greater_back o e.0 f.0 is in
      none_some f (sym (none_below f.0 (e ∷ xs) (less, less_less f.0 e.0 xs less (head_below cmp e xs up))) ∙ h f.0 ∙ found_head f ys))

  -- ---- entries of which some are left out
  below_cond : (keep : Bool) (key : K) (e : K × V) (entries more : List (K × V)) → cmp key e.0 ≡ Less → Below cmp key more → Below cmp key (cond keep (e ∷ more) more)
  below_cond true key e entries more h below = (h, below)
  below_cond false key e entries more h below = below

  pub below_filter : (key : K) (test : K → Bool) (entries : List (K × V)) → Below cmp key entries → Below cmp key (filter (λ e. test e.0) entries)
  below_filter key test [] below = tt
  below_filter key test (e ∷ entries) below = below_cond (test e.0) key e entries (filter (λ e. test e.0) entries) below.0 (below_filter key test entries below.1)

  ascends_cond : (keep : Bool) (e : K × V) (more : List (K × V)) → Below cmp e.0 more → Ascends cmp more → Ascends cmp (cond keep (e ∷ more) more)
  ascends_cond true e more below up = ascends_cons cmp e more below up
  ascends_cond false e more below up = up

  pub ascends_filter : (test : K → Bool) (entries : List (K × V)) → Ascends cmp entries → Ascends cmp (filter (λ e. test e.0) entries)
  ascends_filter test [] up = up
  ascends_filter test (e ∷ entries) up =
      ascends_cond (test e.0) e (filter (λ e. test e.0) entries) (below_filter e.0 test entries (head_below cmp e entries up)) (ascends_filter test entries (tail_ascends cmp e entries up))

  found_cond : (keep keep' b : Bool) (e : K × V) (entries more : List (K × V)) (q : K) (p : Option (K × V)) → (b ≡ true → keep ≡ keep') → is_at (cmp q) e.0 ≡ b
      → found cmp more q ≡ cond keep' p None → found cmp (cond keep (e ∷ more) more) q ≡ cond keep' (cond b (Some e) p) None
  found_cond true true true e entries more q p alike at h = ap (λ b. cond b (Some e) (found cmp more q)) at
  found_cond true false true e entries more q p alike at h = let no : true ≡ false = alike refl in cc
  found_cond false true true e entries more q p alike at h = let no : false ≡ true = alike refl in cc
  found_cond false false true e entries more q p alike at h = h
  found_cond true true false e entries more q p alike at h = ap (λ b. cond b (Some e) (found cmp more q)) at ∙ h
  found_cond true false false e entries more q p alike at h = ap (λ b. cond b (Some e) (found cmp more q)) at ∙ h
  found_cond false true false e entries more q p alike at h = h
  found_cond false false false e entries more q p alike at h = h

  none_kept : (keep : Bool) → ◌≡◌ {A = Option (K × V)} None (cond keep None None)
  none_kept true = refl
  none_kept false = refl

  pub found_filter : (test : K → Bool) → IsFair cmp test → (entries : List (K × V)) (q : K) → found cmp (filter (λ e. test e.0) entries) q ≡ cond (test q) (found cmp entries q) None
  found_filter test fair [] q = none_kept (test q)
  found_filter test fair (e ∷ entries) q =
      found_cond (test e.0) (test q) (is_at (cmp q) e.0) e entries (filter (λ e. test e.0) entries) q (found cmp entries q)
      (λ at. sym (fair q e.0 (is_eq_equal (cmp q e.0) at))) refl (found_filter test fair entries q)
