-- What a reader and a spelling have to do with each other, and how that is kept when readers are put together.
use Rattle.std.proofs.Common.{◌≡◌, refl, sym, ◌∙◌, ap, subst, ℕ, zero, suc, ◌+◌, ◌<◌, ◌≤◌, Bool, true, false, List, [], ◌∷◌, ◌++◌, length, Result, Ok, Err, inl, inr, append_assoc, length-append, arith}
use Rattle.std.specs.Prelude.{◌⊎◌, ◌≢◌, Option, Some, None}
use Rattle.std.specs.List.{flat_map}
use Rattle.std.proofs.lemmas.List.{append-nil}
use Rattle.std.proofs.lemmas.List.Concat.{flat_map-cons}
use Rattle.packet_bytes.specs.declared.fault.WireFault.{WireFault}
use Rattle.packet_bytes.specs.declared.fault.WireFault.TheVariants.{Short}
use Rattle.packet_bytes.specs.Left.{Left, Field, Read, Reader, end_of, then_read, ◌>>=◌, give, check, known, IsBytes}

-- what is left, with more bytes behind it
abbrev pub longer : Left → List ℕ → Left
longer left more = record { at = left.at; bytes = left.bytes ++ more }

-- the bytes begin with a text, and what is left is behind it
pub record Takes (left : Left) (text : List ℕ) (rest : Left) : Type 0 where
  pub parts : left.bytes ≡ text ++ rest.bytes
  pub place : rest.at ≡ left.at + length text
  pub fits : IsBytes rest.bytes

-- What is read is spelled so, and what is spelled so is read, whatever follows. A fault is that the bytes end, or stays
-- whatever follows
pub record Spells {A : Type 0} (reader : Reader A) (Fits : A → Type 0) (spell : A → List ℕ) : Type 0 where
  pub takes : (left : Left) (x : A) (rest : Left) → IsBytes left.bytes → reader left ≡ Ok (x, rest) → Fits x × Takes left (spell x) rest
  pub again : (x : A) (at : ℕ) (more : List ℕ) → Fits x → reader (record { at = at; bytes = spell x ++ more }) ≡ Ok (x, record { at = at + length (spell x); bytes = more })
  pub faults : (left : Left) (fault : WireFault) → IsBytes left.bytes → reader left ≡ Err fault → (fault ≡ Short (end_of left)) ⊎ ((more : List ℕ) → reader (longer left more) ≡ Err fault)

-- ---- tools

abbrev done : {A : Type 0} → A × Left → Read A
done p = Ok p

pub ok_is : {A : Type 0} (p q : A × Left) → done p ≡ done q → p ≡ q
ok_is p q e = cc

pub same_ok : {A : Type 0} (x y : A) (left rest : Left) → give x left ≡ give y rest → (x ≡ y) × (left ≡ rest)
same_ok {A} x y left rest e =
    let inner : (x, left) ≡ (y, rest) = ok_is (x, left) (y, rest) e in
    (ap (λ (p : A × Left). p.0) inner, ap (λ (p : A × Left). p.1) inner)

pub bind_ok : {A B : Type 0} (at : ℕ) (r : Read A) (next : Field A → Reader B) (y : B × Left) → then_read at r next ≡ Ok y → (a : A × Left) × (r ≡ Ok a) × (next (record { at = at; value = a.0 }) a.1 ≡ Ok y)
bind_ok at (Ok a) next y e = (a, refl, e)
bind_ok at (Err fault) next y e = cc

pub bind_err : {A B : Type 0} (at : ℕ) (r : Read A) (next : Field A → Reader B) (fault : WireFault) → then_read at r next ≡ Err fault → (r ≡ Err fault) ⊎ ((a : A × Left) × (r ≡ Ok a) × (next (record { at = at; value = a.0 }) a.1 ≡ Err fault))
bind_err at (Ok a) next fault e = inr (a, refl, e)
bind_err {A} at (Err other) next fault e = let inner : other ≡ fault = cc in inl (ap (λ (f : WireFault). Err f) inner)

pub Takes-then : (a b c : Left) (x y : List ℕ) → Takes a x b → Takes b y c → Takes a (x ++ y) c
Takes-then a b c x y p q = record {
  parts = p.parts ∙ ap (λ (t : List ℕ). x ++ t) q.parts ∙ sym (append_assoc x y c.bytes);
  place = omega (arith, p.place, q.place, length-append x y);
  fits = q.fits;
}

same_end : (left rest : Left) (text : List ℕ) → Takes left text rest → end_of rest ≡ end_of left
same_end left rest text t = omega (arith, t.place, ap length t.parts, length-append text rest.bytes)

pub longer_ok : {A : Type 0} (reader : Reader A) (Fits : A → Type 0) (spell : A → List ℕ) → Spells reader Fits spell → (left : Left) (x : A) (rest : Left) → IsBytes left.bytes → reader left ≡ Ok (x, rest) → (more : List ℕ) → reader (longer left more) ≡ Ok (x, longer rest more)
longer_ok reader Fits spell law left x rest bytes e more =
    let t = law.takes left x rest bytes e in
    let regrouped : left.bytes ++ more ≡ spell x ++ (rest.bytes ++ more) = ap (λ (b : List ℕ). b ++ more) t.1.parts ∙ append_assoc (spell x) rest.bytes more in
    ap (λ (b : List ℕ). reader (record { at = left.at; bytes = b })) regrouped
    ∙ law.again x left.at (rest.bytes ++ more) t.0
    ∙ ap (λ (k : ℕ). Ok (x, record { at = k; bytes = rest.bytes ++ more })) (sym t.1.place)

-- ---- one reader and then the next

module _ {A B : Type 0} (p : Reader A) (next : Field A → Reader B) (FitsA : A → Type 0) (spellA : A → List ℕ) (FitsC : A → B → Type 0) (spellC : A → B → List ℕ) (FitsB : B → Type 0) (spell : B → List ℕ) where
  pub spells_seq : Spells p FitsA spellA → ((at : ℕ) (x : A) → FitsA x → Spells (next (record { at = at; value = x })) (FitsC x) (spellC x))
      → ((y : B) → FitsB y → (x : A) × FitsA x × FitsC x y × (spell y ≡ spellA x ++ spellC x y))
      → ((x : A) (y : B) → FitsA x → FitsC x y → FitsB y × (spell y ≡ spellA x ++ spellC x y))
      → Spells (p >>= next) FitsB spell
  spells_seq law rest_law from to = record {
    takes = λ left y rest bytes e.
        let a = bind_ok left.at (p left) next (y, rest) e in
        let first = law.takes left a.0.0 a.0.1 bytes a.1 in
        let second = (rest_law left.at a.0.0 first.0).takes a.0.1 y rest first.1.fits a.2 in
        let whole = to a.0.0 y first.0 second.0 in
        (whole.0, subst (λ (t : List ℕ). Takes left t rest) (sym whole.1) (Takes-then left a.0.1 rest (spellA a.0.0) (spellC a.0.0 y) first.1 second.1));
    again = λ y at more fits.
        let h = from y fits in
        let x = h.0 in
        let regrouped : spell y ++ more ≡ spellA x ++ (spellC x y ++ more) = ap (λ (t : List ℕ). t ++ more) h.3 ∙ append_assoc (spellA x) (spellC x y) more in
        let first = law.again x at (spellC x y ++ more) h.1 in
        let second = (rest_law at x h.1).again y (at + length (spellA x)) more h.2 in
        let place : at + length (spellA x) + length (spellC x y) ≡ at + length (spell y) = omega (arith, ap length h.3, length-append (spellA x) (spellC x y)) in
        ap (λ (b : List ℕ). (p >>= next) (record { at = at; bytes = b })) regrouped
        ∙ ap (λ (r : Read A). then_read at r next) first
        ∙ second
        ∙ ap (λ (k : ℕ). Ok (y, record { at = k; bytes = more })) place;
    faults = λ left fault bytes e. elim (bind_err left.at (p left) next fault e) [
      | inl h ↦ elim (law.faults left fault bytes h) [
        | inl short ↦ inl short
        | inr stays ↦ inr (λ more. ap (λ (r : Read A). then_read left.at r next) (stays more))
      ]
      | inr a ↦
          let first = law.takes left a.0.0 a.0.1 bytes a.1 in
          elim ((rest_law left.at a.0.0 first.0).faults a.0.1 fault first.1.fits a.2) [
            | inl short ↦ inl (short ∙ ap Short (same_end left a.0.1 (spellA a.0.0) first.1))
            | inr stays ↦ inr (λ more. ap (λ (r : Read A). then_read left.at r next) (longer_ok p FitsA spellA law left a.0.0 a.0.1 bytes a.1 more) ∙ stays more)
          ]
    ];
  }

-- where the first value is a part of the whole
pub spells_then : {A B : Type 0} (p : Reader A) (next : Field A → Reader B) (part : B → A) (FitsA : A → Type 0) (spellA : A → List ℕ) (FitsB : B → Type 0) (spellB : B → List ℕ) → Spells p FitsA spellA
    → ((y : B) → FitsB y → FitsA (part y))
    → ((at : ℕ) (x : A) → FitsA x → Spells (next (record { at = at; value = x })) (λ y. FitsB y × (part y ≡ x)) spellB)
    → Spells (p >>= next) FitsB (λ y. spellA (part y) ++ spellB y)
spells_then p next part FitsA spellA FitsB spellB law fits rest_law =
    spells_seq p next FitsA spellA (λ x y. FitsB y × (part y ≡ x)) (λ x y. spellB y) FitsB (λ y. spellA (part y) ++ spellB y) law rest_law
    (λ y f. (part y, fits y f, (f, refl), refl))
    (λ x y f g. (g.0, ap (λ z. spellA z ++ spellB y) g.1))

-- no byte
pub spells_give : {A : Type 0} (x : A) (Fits : A → Type 0) → Fits x → ((y : A) → Fits y → y ≡ x) → Spells (give x) Fits (λ y. [])
spells_give x Fits fits only = record {
  takes = λ left y rest bytes e.
      let h = same_ok x y left rest e in
      (subst Fits h.0 fits, record { parts = ap (λ (l : Left). l.bytes) h.1; place = ap (λ (l : Left). l.at) (sym h.1) ∙ omega arith; fits = subst (λ (l : Left). IsBytes l.bytes) h.1 bytes });
  again = λ y at more f. let e : at ≡ at + 0 = omega arith in λ i. Ok (sym (only y f) i, record { at = e i; bytes = more });
  faults = λ left fault bytes e. cc;
}

-- the same under another spelling of what fits
pub spells_same : {A : Type 0} (reader : Reader A) (Fits : A → Type 0) (spell : A → List ℕ) (Fits' : A → Type 0) (spell' : A → List ℕ) → Spells reader Fits spell → ((x : A) → Fits x → Fits' x) → ((x : A) → Fits' x → Fits x) → ((x : A) → Fits' x → spell x ≡ spell' x) → Spells reader Fits' spell'
spells_same reader Fits spell Fits' spell' law to from same = record {
  takes = λ left x rest bytes e.
      let t = law.takes left x rest bytes e in
      (to x t.0, subst (λ (s : List ℕ). Takes left s rest) (same x (to x t.0)) t.1);
  again = λ x at more f.
      subst (λ (s : List ℕ). reader (record { at = at; bytes = s ++ more }) ≡ Ok (x, record { at = at + length s; bytes = more })) (same x f) (law.again x at more (from x f));
  faults = law.faults;
}

-- a value that is made of one that was read
pub spells_made : {A B : Type 0} (p : Reader A) (make : A → B) (part : B → A) (FitsA : A → Type 0) (spellA : A → List ℕ) (FitsB : B → Type 0) → Spells p FitsA spellA → ((x : A) → FitsA x → FitsB (make x) × (part (make x) ≡ x)) → ((y : B) → FitsB y → FitsA (part y) × (make (part y) ≡ y)) → Spells (p >>= λ x. give (make x.value)) FitsB (λ y. spellA (part y))
spells_made {A} {B} p make part FitsA spellA FitsB law to from =
    spells_seq p (λ x. give (make x.value)) FitsA spellA (λ x y. y ≡ make x) (λ x y. []) FitsB (λ y. spellA (part y)) law
    (λ at x f. spells_give (make x) (λ y. y ≡ make x) refl (λ y e. e))
    (λ y f. let h = from y f in (part y, h.0, sym h.1, sym (append-nil (spellA (part y)))))
    (λ x y f e. let h = to x f in (subst FitsB (sym e) h.0, ap (λ z. spellA (part z)) e ∙ ap spellA h.1 ∙ sym (append-nil (spellA x))))

-- a test, of which nothing is read
pub spells_check : {B : Type 0} (b : Bool) (fault : WireFault) (rest : Reader B) (Fits : B → Type 0) (spell : B → List ℕ) → (b ≡ true → Spells rest Fits spell) → ((y : B) → Fits y → b ≡ true) → Spells (check b fault >>= λ passed. rest) Fits spell
spells_check true fault rest Fits spell law all = law refl
spells_check false fault rest Fits spell law all = record {
  takes = λ left x rest bytes e. cc;
  again = λ x at more f. let wrong : false ≡ true = all x f in cc;
  faults = λ left other bytes e. inr (λ more. e);
}

pub spells_known : {A B : Type 0} (o : Option A) (fault : WireFault) (next : Field A → Reader B) (Fits : B → Type 0) (spell : B → List ℕ) → ((at : ℕ) (x : A) → o ≡ Some x → Spells (next (record { at = at; value = x })) Fits spell) → ((y : B) → Fits y → o ≢ None) → Spells (known o fault >>= next) Fits spell
spells_known (Some x) fault next Fits spell law all = record {
  takes = λ left y rest bytes e. (law left.at x refl).takes left y rest bytes e;
  again = λ y at more f. (law at x refl).again y at more f;
  faults = λ left other bytes e. (law left.at x refl).faults left other bytes e;
}
spells_known None fault next Fits spell law all = record {
  takes = λ left x rest bytes e. cc;
  again = λ x at more f. absurd (all x f refl);
  faults = λ left other bytes e. inr (λ more. e);
}

-- a value that was read and is tested
pub spells_checked : {A : Type 0} (p : Reader A) (test : A → Bool) (fault : ℕ → WireFault) (Fits : A → Type 0) (spell : A → List ℕ) → Spells p Fits spell → Spells (p >>= λ x. check (test x.value) (fault x.at) >>= λ passed. give x.value) (λ x. Fits x × (test x ≡ true)) spell
spells_checked p test fault Fits spell law =
    spells_seq p (λ x. check (test x.value) (fault x.at) >>= λ passed. give x.value) Fits spell (λ x y. (y ≡ x) × (test x ≡ true)) (λ x y. []) (λ x. Fits x × (test x ≡ true)) spell law
    (λ at x f. spells_check (test x) (fault at) (give x) (λ y. (y ≡ x) × (test x ≡ true)) (λ y. []) (λ t. spells_give x (λ y. (y ≡ x) × (test x ≡ true)) (refl, t) (λ y h. h.0)) (λ y h. h.1))
    (λ y f. (y, f.0, (refl, f.1), sym (append-nil (spell y))))
    (λ x y f h. (subst (λ z. Fits z × (test z ≡ true)) (sym h.0) (f, h.1), ap spell h.0 ∙ sym (append-nil (spell x))))

abbrev pub tail : {A : Type 0} → List A → List A
tail [] = []
tail (x ∷ xs) = xs

-- one value, and the list of the others
pub spells_cons : {A : Type 0} (p : Reader A) (others : Field A → Reader (List A)) (Fits : A → Type 0) (spell : A → List ℕ) (FitsC : A → List A → Type 0) (FitsB : List A → Type 0)
    → Spells p Fits spell → ((at : ℕ) (x : A) → Fits x → Spells (others (record { at = at; value = x })) (FitsC x) (flat_map spell))
    → ((ys : List A) → FitsB ys → (x : A) × (xs : List A) × (ys ≡ x ∷ xs) × Fits x × FitsC x xs)
    → ((x : A) (xs : List A) → Fits x → FitsC x xs → FitsB (x ∷ xs))
    → Spells (p >>= λ x. others x >>= λ xs. give (x.value ∷ xs.value)) FitsB (flat_map spell)
spells_cons {A} p others Fits spell FitsC FitsB law rest_law from to =
    spells_seq p (λ x. others x >>= λ xs. give (x.value ∷ xs.value)) Fits spell (λ x ys. (ys ≡ x ∷ tail ys) × FitsC x (tail ys)) (λ x ys. flat_map spell (tail ys)) FitsB (flat_map spell) law
    (λ at x f. spells_made (others (record { at = at; value = x })) (λ xs. x ∷ xs) tail (FitsC x) (flat_map spell) (λ ys. (ys ≡ x ∷ tail ys) × FitsC x (tail ys)) (rest_law at x f) (λ xs h. ((refl, h), refl)) (λ ys h. (h.1, sym h.0)))
    (λ ys f.
    let h = from ys f in
    let rest : tail ys ≡ h.1 = ap tail h.2 in
    (h.0, h.3, (h.2 ∙ ap (λ xs. h.0 ∷ xs) (sym rest), subst (FitsC h.0) (sym rest) h.4), ap (flat_map spell) h.2 ∙ flat_map-cons spell h.0 h.1 ∙ ap (λ xs. spell h.0 ++ flat_map spell xs) (sym rest)))
    (λ x ys f h. (subst FitsB (sym h.0) (to x (tail ys) f h.1), ap (flat_map spell) h.0 ∙ flat_map-cons spell x (tail ys)))
