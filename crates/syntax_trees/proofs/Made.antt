-- Each way of a part, as a function from derivations of its parts to one of the part.
use Rattle.std.proofs.Common.{inl, inr, List, [], ◌∷◌, ◌++◌, refl, subst, sym, append_assoc, append-nil}
use Rattle.syntax_judge.specs.Grammar.{productions}
use Rattle.syntax_judge.specs.Programs.{IsOneOf, Derives, nothing, takes, becomes}
use Rattle.syntax_judge.specs.declared.kind.Kind.{Kind}
use Rattle.syntax_judge.specs.declared.symbol.Part.{Part}
use Rattle.syntax_judge.specs.declared.symbol.Symbol.{Symbol}
use Rattle.syntax_judge.specs.declared.symbol.Symbol.TheVariants as s
use Rattle.syntax_judge.specs.declared.symbol.Symbol.TheVariants.{Open}

derives_both : (a b : List Symbol) (us ts : List Kind) → Derives a us → Derives b ts → Derives (a ++ b) (us ++ ts)
derives_both a b us ts nothing e = e
derives_both a b us ts (takes k st rest d) e = takes k (st ++ b) (rest ++ ts) (derives_both st b rest ts d e)
derives_both a b us ts (becomes q way st rest i d) e =
    becomes q way (st ++ b) (rest ++ ts) i (subst (λ u. Derives u (rest ++ ts)) (append_assoc way st b) (derives_both (way ++ st) b rest ts d e))

abbrev pub Needs : List Symbol → (List Kind → Type 0) → Type 0
Needs [] P = P []
Needs (s.Token k ∷ st) P = Needs st (λ v. P (k ∷ v))
Needs (s.Open q ∷ []) P = (u : List Kind) → Derives (Open q ∷ []) u → P u
Needs (s.Open q ∷ x ∷ st) P = (u : List Kind) → Derives (Open q ∷ []) u → Needs (x ∷ st) (λ v. P (u ++ v))

abbrev pub AllMade : Part → List (List Symbol) → Type 0
AllMade q [] = Unit {0}
AllMade q (way ∷ ways) = Needs way (Derives (Open q ∷ [])) × AllMade q ways

needs : (way : List Symbol) (P : List Kind → Type 0) → ((ts : List Kind) → Derives way ts → P ts) → Needs way P
needs [] P f = f [] nothing
needs (s.Token k ∷ st) P f = needs st (λ v. P (k ∷ v)) (λ ts d. f (k ∷ ts) (takes k st ts d))
needs (s.Open q ∷ []) P f = λ u d. f u d
needs (s.Open q ∷ x ∷ st) P f = λ u d. needs (x ∷ st) (λ v. P (u ++ v)) (λ ts e. f (u ++ ts) (derives_both (Open q ∷ []) (x ∷ st) u ts d e))

all_made : (q : Part) (ways : List (List Symbol)) → ((way : List Symbol) → IsOneOf way ways → IsOneOf way (productions q)) → AllMade q ways
all_made q [] within = tt
all_made q (way ∷ ways) within = (
  needs way (Derives (Open q ∷ [])) (λ ts d. becomes q way [] ts (within way (inl refl)) (subst (λ st. Derives st ts) (sym (append-nil way)) d)),
  all_made q ways (λ w i. within w (inr i)),
)

-- the first way is made q .0, the second made q .1.0, the third made q .1.1.0
pub made : (q : Part) → AllMade q (productions q)
made q = all_made q (productions q) (λ w i. i)
