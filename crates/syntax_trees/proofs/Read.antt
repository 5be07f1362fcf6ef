-- Tokens that a stack stands for have a meaning.
use Rattle.std.proofs.Common.{◌≡◌, inl, inr, List, [], ◌∷◌, ◌++◌, map, sym, subst, append_assoc, append-nil}
use Rattle.source_tokens.specs.declared.token.Token.{Token}
use Rattle.source_tokens.specs.declared.token.Token.TheVariants.{Name, Number, Text, Fixed}
use Rattle.syntax_judge.specs.Grammar.{productions}
use Rattle.syntax_judge.specs.Programs.{IsOneOf, Derives, nothing, takes, becomes, kind_of}
use Rattle.syntax_judge.specs.declared.kind.Kind.{Kind}
use Rattle.syntax_judge.specs.declared.kind.Kind.TheVariants as k
use Rattle.syntax_judge.specs.declared.symbol.Part.{Part}
use Rattle.syntax_judge.specs.declared.symbol.Symbol.{Symbol}
use Rattle.syntax_judge.specs.declared.symbol.Symbol.TheVariants as s
use Rattle.syntax_trees.proofs.Means.{Means, Takes, Gives, AllGive}
use Rattle.syntax_judge.specs.declared.symbol.Symbol.TheVariants.{Open}

-- ---- ways

takes_by : (way : List Symbol) (P : List Token → Type 0) → Gives way P → Takes way P
takes_by [] P g = g
takes_by (s.Token k.Name ∷ st) P g = λ n. takes_by st (λ v. P (Name n ∷ v)) (g n)
takes_by (s.Token k.Number ∷ st) P g = λ n. takes_by st (λ v. P (Number n ∷ v)) (g n)
takes_by (s.Token k.Text ∷ st) P g = λ n. takes_by st (λ v. P (Text n ∷ v)) (g n)
takes_by (s.Token (k.Fixed w) ∷ st) P g = takes_by st (λ v. P (Fixed w ∷ v)) g
takes_by (s.Open q ∷ []) P g = λ u m. subst P (sym (append-nil u)) (g u m)
takes_by (s.Open q ∷ x ∷ st) P g = λ u m. takes_by (x ∷ st) (λ v. P (u ++ v)) (g u m)

weaker : (st : List Symbol) (P Q : List Token → Type 0) → ((v : List Token) → P v → Q v) → Takes st P → Takes st Q
weaker [] P Q f h = f [] h
weaker (s.Token k.Name ∷ st) P Q f h = λ n. weaker st (λ v. P (Name n ∷ v)) (λ v. Q (Name n ∷ v)) (λ v. f (Name n ∷ v)) (h n)
weaker (s.Token k.Number ∷ st) P Q f h = λ n. weaker st (λ v. P (Number n ∷ v)) (λ v. Q (Number n ∷ v)) (λ v. f (Number n ∷ v)) (h n)
weaker (s.Token k.Text ∷ st) P Q f h = λ n. weaker st (λ v. P (Text n ∷ v)) (λ v. Q (Text n ∷ v)) (λ v. f (Text n ∷ v)) (h n)
weaker (s.Token (k.Fixed w) ∷ st) P Q f h = weaker st (λ v. P (Fixed w ∷ v)) (λ v. Q (Fixed w ∷ v)) (λ v. f (Fixed w ∷ v)) h
weaker (s.Open q ∷ st) P Q f h = λ u m. weaker st (λ v. P (u ++ v)) (λ v. Q (u ++ v)) (λ v. f (u ++ v)) (h u m)

joined : (way st : List Symbol) (Q P : List Token → Type 0) → Takes way Q → ((u : List Token) → Q u → Takes st (λ v. P (u ++ v))) → Takes (way ++ st) P
joined [] st Q P h f = f [] h
joined (s.Token k.Name ∷ way) st Q P h f = λ n. joined way st (λ v. Q (Name n ∷ v)) (λ v. P (Name n ∷ v)) (h n) (λ u. f (Name n ∷ u))
joined (s.Token k.Number ∷ way) st Q P h f = λ n. joined way st (λ v. Q (Number n ∷ v)) (λ v. P (Number n ∷ v)) (h n) (λ u. f (Number n ∷ u))
joined (s.Token k.Text ∷ way) st Q P h f = λ n. joined way st (λ v. Q (Text n ∷ v)) (λ v. P (Text n ∷ v)) (h n) (λ u. f (Text n ∷ u))
joined (s.Token (k.Fixed w) ∷ way) st Q P h f = joined way st (λ v. Q (Fixed w ∷ v)) (λ v. P (Fixed w ∷ v)) h (λ u. f (Fixed w ∷ u))
joined (s.Open q ∷ way) st Q P h f = λ u m. joined way st (λ v. Q (u ++ v)) (λ v. P (u ++ v)) (h u m)
    (λ w g. weaker st (λ v. P ((u ++ w) ++ v)) (λ v. P (u ++ (w ++ v))) (λ v. subst P (append_assoc u w v)) (f (u ++ w) g))

pick : (q : Part) (ways : List (List Symbol)) (way : List Symbol) → AllGive q ways → IsOneOf way ways → Gives way (Means q)
pick q [] way gs i = absurd i
pick q (x ∷ ways) way (g, gs) (inl e) = subst (λ way. Gives way (Means q)) e g
pick q (x ∷ ways) way (g, gs) (inr i) = pick q ways way gs i

-- ---- a derivation gives what the stack takes

head_takes : (x : Token) (rest : List Symbol) (P : List Token → Type 0) → Takes (s.Token (kind_of x) ∷ rest) P → Takes rest (λ v. P (x ∷ v))
head_takes (Name n) rest P h = h n
head_takes (Number n) rest P h = h n
head_takes (Text n) rest P h = h n
head_takes (Fixed w) rest P h = h

read_none : (ts : List Token) → map kind_of ts ≡ [] → (P : List Token → Type 0) → P [] → P ts
read_none [] e P h = h
read_none (x ∷ ts) e P h = cc

read_one : (ts : List Token) (k : Kind) (rest : List Symbol) (ks : List Kind) → map kind_of ts ≡ k ∷ ks → ((ts : List Token) → map kind_of ts ≡ ks → (P : List Token → Type 0) → Takes rest P → P ts)
    → (P : List Token → Type 0) → Takes (s.Token k ∷ rest) P → P ts
read_one [] k rest ks e below P h = cc
read_one (x ∷ ts) k rest ks e below P h =
    let same : kind_of x ≡ k = cc in let others : map kind_of ts ≡ ks = cc in
    below ts others (λ v. P (x ∷ v)) (head_takes x rest P (subst (λ k. Takes (s.Token k ∷ rest) P) (sym same) h))

pub read : (gives : (q : Part) → AllGive q (productions q)) (st : List Symbol) (ks : List Kind) → Derives st ks → (ts : List Token) → map kind_of ts ≡ ks → (P : List Token → Type 0) → Takes st P → P ts
read gives st ks nothing ts e P h = read_none ts e P h
read gives st ks (takes k rest more d) ts e P h = read_one ts k rest more e (read gives rest more d) P h
read gives st ks (becomes q way rest more i d) ts e P h = read gives (way ++ rest) more d ts e P (joined way rest (Means q) P (takes_by way (Means q) (pick q (productions q) way (gives q) i)) h)
