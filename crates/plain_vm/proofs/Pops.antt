-- What is popped is what was pushed.
use Rattle.std.proofs.Common.{◌≡◌, refl, ap, ◌∙◌, arith}
use Rattle.std.proofs.lemmas.List.{append-nil}
use Rattle.std.specs.Prelude.{ℕ, suc, ◌+◌, List, [], ◌∷◌, ◌++◌, length}
use Rattle.cloud_base.specs.declared.update.Answer.{Answer}
use Rattle.typed_program.specs.declared.expression.Kind.{Kind}
use Rattle.typed_program.proofs.Slots.{AreOf}
use Rattle.plain_vm.specs.Exec.{Next, pops, push_all}

pops_more : (values popped below : List Answer) (m : ℕ) (next : List Answer → List Answer → Next) → pops (length values + m) popped (push_all values below) next ≡ pops m (values ++ popped) below next
pops_more [] popped below m next =
    let e : 0 + m ≡ m = omega arith in
    ap (λ n. pops n popped below next) e
pops_more (v ∷ values) popped below m next =
    let e : suc (length values) + m ≡ length values + suc m = omega arith in
    ap (λ n. pops n popped (push_all values (v ∷ below)) next) e ∙ pops_more values popped (v ∷ below) (suc m) next

pub pops_all : (values below : List Answer) (next : List Answer → List Answer → Next) → pops (length values) [] (push_all values below) next ≡ next values below
pops_all values below next =
    let e : length values ≡ length values + 0 = omega arith in
    ap (λ n. pops n [] (push_all values below) next) e ∙ pops_more values [] below 0 next ∙ ap (λ l. next l below) (append-nil values)

-- a stack of the kinds that were pushed has the values that were pushed
pub record Pushed (kinds rest : List Kind) (stack : List Answer) : Type 0 where
  pub values : List Answer
  pub below : List Answer
  pub is : stack ≡ push_all values below
  pub these : AreOf kinds values
  pub others : AreOf rest below

on_top : (kind : Kind) (kinds rest : List Kind) (stack values below : List Answer) → stack ≡ push_all values below → AreOf kinds values → AreOf (kind ∷ rest) below → Pushed (kind ∷ kinds) rest stack
on_top kind kinds rest stack values [] e these others = absurd others
on_top kind kinds rest stack values (v ∷ below) e these others = record { values = v ∷ values; below = below; is = e; these = (others.0, these); others = others.1 }

pub pushed : (kinds rest : List Kind) (stack : List Answer) → AreOf (push_all kinds rest) stack → Pushed kinds rest stack
pushed [] rest stack h = record { values = []; below = stack; is = refl; these = tt; others = h }
pushed (kind ∷ kinds) rest stack h = let p = pushed kinds (kind ∷ rest) stack h in on_top kind kinds rest stack p.values p.below p.is p.these p.others

pub as_many_of : (kinds : List Kind) (values : List Answer) → AreOf kinds values → length values ≡ length kinds
as_many_of [] [] h = refl
as_many_of [] (v ∷ values) h = absurd h
as_many_of (kind ∷ kinds) [] h = absurd h
as_many_of (kind ∷ kinds) (v ∷ values) h = ap suc (as_many_of kinds values h.1)

pub push_are : (kinds rest : List Kind) (values below : List Answer) → AreOf kinds values → AreOf rest below → AreOf (push_all kinds rest) (push_all values below)
push_are [] rest [] below h b = b
push_are [] rest (v ∷ values) below h b = absurd h
push_are (kind ∷ kinds) rest [] below h b = absurd h
push_are (kind ∷ kinds) rest (v ∷ values) below h b = push_are kinds (kind ∷ rest) values (v ∷ below) h.1 (h.0, b)
