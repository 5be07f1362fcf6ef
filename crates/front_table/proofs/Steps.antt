-- Each step keeps the rule of a chronicle.
use Rattle.std.proofs.Common.{◌≡◌, ◌≢◌, ℕ, zero, suc, ◌+◌, ◌^◌, ◌%◌, ◌<◌, ◌⊎◌, Bool, true, false, ◌||◌, List, [], ◌∷◌, ◌++◌, length, set, sym, refl, ap, ◌∙◌, subst, inl, inr, ⊎_elim, arith, append-nil, append_assoc, length-append, slice_index, ◌≤◌, nat_lt, if◌then◌else◌}
use Rattle.std.proofs.lemmas.Bool.Decides.{nat_tests}
use mathlib.Core.Option.{some, some-injective, some-ne-none}
use mathlib.Core.List.{IsPrefix}
use lib.ListN.{get_elem?}
use Rattle.atomic_table.specs.Table.{keeps, Allows, Splits, Joins}
use Rattle.atomic_table.proofs.Lists.{at_set, at_snoc, at_longer, set_else, set_again}
use Rattle.front_table.specs.declared.view.View.{View}
use Rattle.front_table.specs.TokenView.{longer}
use Rattle.front_table.specs.Chronicle.{Lives, Fits, IsKept, Tells, view, newcomer, appended, front_of, both_of, spent}

same_words : (words : List ℕ) (n : ℕ) → words ≡ n ∷ [] → set words 0 (slice_index words 0) ≡ words
same_words words n e = subst (λ (ws : List ℕ). set ws 0 (slice_index ws 0) ≡ ws) (sym e) refl

module _ {A : Type 0} where
  -- an element that was there is replaced
  set_at : (l : List A) (i : ℕ) (a b : A) → get_elem? l i ≡ some a → get_elem? (set l i b) i ≡ some b
  set_at [] i a b e = absurd (some-ne-none a (sym e))
  set_at (x ∷ xs) zero a b e = refl
  set_at (x ∷ xs) (suc i) a b e = set_at xs i a b e

  -- a list begins itself
  begins_itself : (xs : List A) → IsPrefix xs xs
  begins_itself xs = ([], append-nil xs)

  -- what begins a list begins every longer one
  begins_more : (xs ys es : List A) → IsPrefix xs ys → IsPrefix xs (ys ++ es)
  begins_more xs ys es h = (h.0 ++ es, sym (append_assoc xs h.0 es) ∙ ap (λ l. l ++ es) h.1)

  nothing_begins : (xs : List A) → IsPrefix [] xs
  nothing_begins xs = (xs, refl)

  -- of two beginnings of one list the shorter begins the longer
  prefix_within : (xs ys log : List A) → IsPrefix xs log → IsPrefix ys log → length xs ≤ length ys → IsPrefix xs ys
  prefix_within [] ys log p q le = nothing_begins ys
  prefix_within (x ∷ xs) [] log p q le = absurd (omega arith)
  prefix_within (x ∷ xs) (y ∷ ys) [] p q le = absurd (cc p.1)
  prefix_within (x ∷ xs) (y ∷ ys) (z ∷ log) p q le =
      let px : xs ++ p.0 ≡ log = cc p.1 in
      let qy : ys ++ q.0 ≡ log = cc q.1 in
      let same : x ≡ y = cc (p.1, q.1) in
      let rest = prefix_within xs ys log (p.0, px) (q.0, qy) (omega arith) in
      (rest.0, ap (λ h. h ∷ (xs ++ rest.0)) same ∙ ap (λ l. y ∷ l) rest.1)

  -- a list between two beginnings of a list and that list
  record Between (xs ys log l : List A) : Type 0 where
    pub first : IsPrefix xs l
    pub second : IsPrefix ys l
    pub front : IsPrefix l log

  longer_by : (xs ys log : List A) → IsPrefix xs log → IsPrefix ys log → (b : Bool) → nat_lt (length xs) (length ys) ≡ b → Between xs ys log (if b then ys else xs)
  longer_by xs ys log p q true t = record { first = prefix_within xs ys log p q (grind (arith, nat_tests, t)); second = begins_itself ys; front = q }
  longer_by xs ys log p q false t = record { first = begins_itself xs; second = prefix_within ys xs log q p (grind (arith, nat_tests, t)); front = p }

  -- the longer of two beginnings
  longer_between : (xs ys log : List A) → IsPrefix xs log → IsPrefix ys log → Between xs ys log (longer xs ys)
  longer_between xs ys log p q = longer_by xs ys log p q _ refl

module _ {E : Type 0} where
  alone : (k : ℕ) (v : View E) → Lives (newcomer ∷ []) k v → Fits 0 [] k v
  alone zero v h = subst (λ (w : View E). Fits 0 [] zero w) (some-injective _ v h.0) (record { writer = λ _. (refl, refl); front = begins_itself []; before = begins_itself []; joined = begins_itself [] })
  alone (suc k) v h = absurd (some-ne-none v (sym h.0))

  -- make
  pub starts : IsKept {E = E} (0 ∷ []) (newcomer ∷ [])
  starts = record { seat = 0; writer = newcomer; lives = (refl, refl); writes = refl; word = refl; room = omega arith; each = alone }

  -- a further view after the writer appended
  fits_more : (seat id k : ℕ) (list es : List E) (v : View E) → id ≡ seat → k ≢ id → Fits seat list k v → Fits id (list ++ es) k v
  fits_more seat id k list es v here ne h = record {
    writer = λ w. absurd (ne ((h.writer w).0 ∙ sym here));
    front = begins_more _ _ es h.front;
    before = h.before;
    joined = h.joined;
  }

  -- the writer's own view
  fits_own : (seat id : ℕ) (list es : List E) (v : View E) → Fits seat list id v → Fits id (v.list ++ es) id (appended v es)
  fits_own seat id list es v h = record {
    writer = λ _. (refl, refl);
    front = begins_itself _;
    before = begins_more _ _ es h.before;
    joined = begins_more _ _ es h.joined;
  }

  counted : (words : List ℕ) (list es : List E) → words ≡ length list ∷ [] → length es ≡ 1 → length list + 1 < 2 ^ 64 → set words 0 ((slice_index words 0 + 1) % 2 ^ 64) ≡ length (list ++ es) ∷ []
  counted words list es word one room =
      let n : (length list + 1) % 2 ^ 64 ≡ length (list ++ es) = omega (arith, length-append list es) in
      subst (λ (ws : List ℕ). set ws 0 ((slice_index ws 0 + 1) % 2 ^ 64) ≡ length (list ++ es) ∷ []) (sym word) (ap (λ (m : ℕ). m ∷ []) n)

  -- append
  after_append : (words : List ℕ) (views : List (View E)) (id : ℕ) (v : View E) (es : List E)
      → IsKept words views → Lives views id v → v.is_writer ≡ true → length es ≡ 1 → length v.list + 1 < 2 ^ 64
      → IsKept (set words 0 ((slice_index words 0 + 1) % 2 ^ 64)) (set views id (appended v es))
  after_append words views id v es h lives writes one room =
      let own = h.each id v lives in
      let mine = own.writer writes in
      record {
        seat = id;
        writer = appended v es;
        lives = (set_at views id v (appended v es) lives.0, refl);
        writes = writes;
        word = counted words v.list es (h.word ∙ ap (λ (l : List E). length l ∷ []) (sym mine.1)) one room;
        room = omega (arith, length-append v.list es);
        each = λ k w stays. ⊎_elim
            (λ t. subst (λ (u : View E). Fits id (v.list ++ es) k u) t.1 (subst (λ (j : ℕ). Fits id (v.list ++ es) j (appended v es)) (sym t.0) (fits_own h.seat id h.writer.list es v own)))
            (λ t. subst (λ (l : List E). Fits id (l ++ es) k w) (sym mine.1) (fits_more h.seat id k h.writer.list es w mine.0 t.0 (h.each k w (t.1, stays.1))))
            (at_set views id k (appended v es) w stays.0);
      }

  pub appends : (slots id : ℕ) (v : View E) (held : List (ℕ × Unit {0})) (es : List E)
      → length es ≡ 1 → v.is_writer ≡ true → v.is_spent ≡ false → length v.list + 1 < 2 ^ 64
      → Allows {S = Unit {0}} (λ s. IsKept s.words s.views) slots id (v, held) 0 (λ n. (n + 1) % 2 ^ 64) (λ found after. after ≡ (appended v es, held))
  appends slots id v held es one writes lives room s h homes at fits = (appended v es, keeps, tt, after_append s.words s.views id v es h (at, lives) writes one room, refl)

  -- load
  pub looks : (slots id : ℕ) (v : View E) (held : List (ℕ × Unit {0})) → v.is_spent ≡ false
      → Allows {S = Unit {0}} (λ s. IsKept s.words s.views) slots id (v, held) 0 (λ n. n) (λ found after. (after ≡ (v, held)) × Tells found v)
  looks slots id v held lives s h homes at fits =
      let mine = h.each id v (at, lives) in (
        v,
        keeps,
        tt,
        subst (λ (ws : List ℕ). IsKept ws (set s.views id v)) (sym (same_words s.words _ h.word)) (subst (λ (vs : List (View E)). IsKept s.words vs) (sym (set_again s.views id v at)) h),
        (
          refl,
          record {
            writer = λ w. ap (λ (ws : List ℕ). slice_index ws 0) h.word ∙ sym (ap length (mine.writer w).1);
            before = mine.before;
            joined = mine.joined;
          },
        ),
      )

  -- split
  after_split : (words : List ℕ) (views : List (View E)) (id : ℕ) (v : View E) → IsKept words views → Lives views id v → IsKept words (views ++ front_of v ∷ [])
  after_split words views id v h lives = record {
    seat = h.seat;
    writer = h.writer;
    lives = (at_longer views _ h.seat h.writer h.lives.0, h.lives.1);
    writes = h.writes;
    word = h.word;
    room = h.room;
    each = λ k w stays. ⊎_elim
        (λ t. h.each k w (t, stays.1))
        (λ t. subst (λ (x : View E). Fits h.seat h.writer.list k x) t (record { writer = λ e. absurd (cc e); front = (h.each id v lives).front; before = nothing_begins _; joined = nothing_begins _ }))
        (at_snoc views (front_of v) w k stays.0);
  }

  pub copies : (id : ℕ) (v : View E) → v.is_spent ≡ false → Splits {S = Unit {0}} (λ s. IsKept s.words s.views) id v v (front_of v)
  copies id v lives s h at = subst (λ (vs : List (View E)). IsKept s.words (vs ++ front_of v ∷ [])) (sym (set_again s.views id v at)) (after_split s.words s.views id v h (at, lives))

  -- the views after a join: of the seat that takes the other in, and of each further one
  module _ (views : List (View E)) (id other : ℕ) (v both : View E) (ne : ¬ (other ≡ id)) where
    abbrev joined_views : List (View E)
    joined_views = set (set views id both) other spent

    both_there : get_elem? views id ≡ some v → get_elem? joined_views id ≡ some both
    both_there at = set_else (set views id both) other id spent (λ e. ne (sym e)) ∙ set_at views id v both at

    further_there : (k : ℕ) (u : View E) → k ≢ id → k ≢ other → get_elem? views k ≡ some u → get_elem? joined_views k ≡ some u
    further_there k u a b at = set_else (set views id both) other k spent b ∙ set_else views id k both a ∙ at

    -- a live view is the one that took the other in, or was there
    which : (k : ℕ) (u : View E) → Lives joined_views k u → ((k ≡ id) × (both ≡ u)) ⊎ ((k ≢ id) × (k ≢ other) × Lives views k u)
    which k u h = ⊎_elim
        (λ t. absurd (cc (ap (λ (x : View E). x.is_spent) t.1, h.1)))
        (λ t. ⊎_elim (λ r. inl r) (λ r. inr (r.0, t.0, (r.1, h.1))) (at_set views id k both u t.1))
        (at_set (set views id both) other k spent u h.0)

    -- where one of the two is the writer
    takes_over : (words : List ℕ) (h : IsKept words views) → get_elem? views id ≡ some v → both.is_spent ≡ false → both.is_writer ≡ true → both.list ≡ h.writer.list
        → IsPrefix both.before both.list → IsPrefix both.joined both.list → (h.seat ≡ id) ⊎ (h.seat ≡ other) → IsKept words joined_views
    takes_over words h at lives writes list before joined was = record {
      seat = id;
      writer = both;
      lives = (both_there at, lives);
      writes = writes;
      word = h.word ∙ ap (λ (l : List E). length l ∷ []) (sym list);
      room = subst (λ (l : List E). length l < 2 ^ 64) (sym list) h.room;
      each = λ k u stays. ⊎_elim
          (λ t. subst (λ (x : View E). Fits id both.list k x) t.1 (record { writer = λ _. (t.0, refl); front = begins_itself both.list; before = before; joined = joined }))
          (λ t.
          let f = h.each k u t.2 in
          record {
            writer = λ w. ⊎_elim (λ e. absurd (t.0 ((f.writer w).0 ∙ e))) (λ e. absurd (t.1 ((f.writer w).0 ∙ e))) was;
            front = subst (λ (l : List E). IsPrefix u.list l) (sym list) f.front;
            before = f.before;
            joined = f.joined;
          })
          (which k u stays);
    }

    -- where neither is
    stays_away : (words : List ℕ) (h : IsKept words views) → both.is_writer ≡ false → IsPrefix both.list h.writer.list
        → IsPrefix both.before both.list → IsPrefix both.joined both.list → h.seat ≢ id → h.seat ≢ other → IsKept words joined_views
    stays_away words h reads front before joined a b = record {
      seat = h.seat;
      writer = h.writer;
      lives = (further_there h.seat h.writer a b h.lives.0, h.lives.1);
      writes = h.writes;
      word = h.word;
      room = h.room;
      each = λ k u stays. ⊎_elim
          (λ t. subst (λ (x : View E). Fits h.seat h.writer.list k x) t.1 (record { writer = λ w. absurd (cc (w, reads)); front = front; before = before; joined = joined }))
          (λ t. h.each k u t.2)
          (which k u stays);
    }

  -- a seat whose view isn't the writer's
  not_the_seat : (words : List ℕ) (views : List (View E)) (h : IsKept words views) (id : ℕ) (v : View E) → get_elem? views id ≡ some v → v.is_writer ≡ false → h.seat ≢ id
  not_the_seat words views h id v at reads e =
      let same : h.writer ≡ v = some-injective h.writer v (sym h.lives.0 ∙ ap (λ (k : ℕ). get_elem? views k) e ∙ at) in
      absurd (cc (sym h.writes ∙ ap (λ (x : View E). x.is_writer) same, reads))

  -- join
  after_join : (words : List ℕ) (views : List (View E)) (h : IsKept words views) (id other : ℕ) (v w : View E)
      → ¬ (other ≡ id) → Lives views id v → Lives views other w → (b c : Bool) → v.is_writer ≡ b → w.is_writer ≡ c
      → IsKept words (set (set views id (view (b || c) (if b then v.list else (if c then w.list else longer v.list w.list)) v.list w.list)) other spent)
  after_join words views h id other v w ne at at' true c is is' =
      let f = h.each id v at in
      let g = h.each other w at' in
      let mine = f.writer is in
      takes_over views id other v (view true v.list v.list w.list) ne words h at.0 refl refl mine.1 (begins_itself v.list) (subst (λ (l : List E). IsPrefix w.list l) (sym mine.1) g.front) (inl (sym mine.0))
  after_join words views h id other v w ne at at' false true is is' =
      let f = h.each id v at in
      let g = h.each other w at' in
      let mine = g.writer is' in
      takes_over views id other v (view true w.list v.list w.list) ne words h at.0 refl refl mine.1 (subst (λ (l : List E). IsPrefix v.list l) (sym mine.1) f.front) (begins_itself w.list) (inr (sym mine.0))
  after_join words views h id other v w ne at at' false false is is' =
      let l = longer_between v.list w.list h.writer.list (h.each id v at).front (h.each other w at').front in
      stays_away views id other v (view false (longer v.list w.list) v.list w.list) ne words h refl l.front l.first l.second (not_the_seat words views h id v at.0 is) (not_the_seat words views h other w at'.0 is')

  pub meets : (id other : ℕ) (v w : View E) → v.is_spent ≡ false → w.is_spent ≡ false
      → Joins {S = Unit {0}} (λ s. IsKept s.words s.views) id v other w (both_of v w) spent
  meets id other v w lives lives' s h at ne at' = after_join s.words s.views h id other v w ne (at, lives) (sym (set_else s.views id other (both_of v w) ne) ∙ at', lives') v.is_writer w.is_writer refl refl
