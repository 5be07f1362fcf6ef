-- Keys that are popped and pushed.
use Rattle.std.proofs.Common.{◌≡◌, refl, sym, ap, ◌∙◌, subst, arith}
use Rattle.std.proofs.lemmas.List.{map-append, length-append}
use Rattle.std.specs.Prelude.{ℕ, suc, ◌-◌, ◌<◌, List, [], ◌∷◌, ◌++◌, length}
use Rattle.cloud_base.specs.Values.{Id}
use Rattle.cloud_base.specs.declared.key.Key.{Key}
use Rattle.cloud_base.specs.declared.update.Answer.{Answer}
use Rattle.cloud_base.specs.declared.update.Answer.TheVariants as answer
use Rattle.cloud_base.specs.declared.update.CellChange.{CellChange}
use Rattle.cloud_base.specs.declared.update.Event.TheVariants as event
use Rattle.cloud_base.specs.declared.update.Query.TheVariants as query
use Rattle.cloud_base.specs.declared.update.Update.TheVariants as update
use Rattle.typed_program.specs.declared.statement.Operation.{Operation}
use Rattle.typed_program.specs.Does.{World}
use Rattle.typed_program.specs.Trace.{key_of, change_of}
use Rattle.plain_vm.proofs.Pops.{pops_all}
use Rattle.plain_vm.specs.declared.instruction.Instruction.{Instruction}
use Rattle.plain_vm.specs.Exec.{Next, act, pops, push_all}
use Rattle.code_machine.specs.Steps.{Asks, Tells, Popped, later}

push_last : (values : List Answer) (v : Answer) (below : List Answer) → push_all (values ++ v ∷ []) below ≡ v ∷ push_all values below
push_last [] v below = refl
push_last (x ∷ values) v below = push_last values v (x ∷ below)

-- one value popped before others is the last of the keys
pub popped_first : (count : ℕ) (old between new : List Answer) (v : Answer) (keys all : List Key) → 0 < count → old ≡ v ∷ between → Popped (count - 1) between new keys → all ≡ keys ++ key_of v ∷ [] → Popped count old new all
popped_first count old between new v keys all h e p k = record {
  values = p.values ++ v ∷ [];
  many = omega (arith, length-append p.values (v ∷ []), p.many);
  were = e ∙ ap (λ s. v ∷ s) p.were ∙ sym (push_last p.values v new);
  are = k ∙ ap (λ ks. ks ++ key_of v ∷ []) p.are ∙ sym (map-append key_of p.values (v ∷ []));
}

-- what comes behind the pops gets the values
pops_are : (count : ℕ) (old new : List Answer) (keys : List Key) (p : Popped count old new keys) (next : List Answer → List Answer → Next) → pops count [] old next ≡ next p.values new
pops_are count old new keys p next = ap (λ n. pops n [] old next) (sym p.many) ∙ ap (λ s. pops (length p.values) [] s next) p.were ∙ pops_all p.values new next

pub got : (property count at place : ℕ) (old new listings : List Answer) (keys : List Key) (w : World) → place ≡ suc at → Popped count old new keys
    → Asks (λ answers events. act (Instruction.Get property count) at old listings (later w answers events)) (record { place = place; stack = new; listings = listings }) w (query.Get property keys)
got property count at place old new listings keys w e p =
    subst (λ n. Asks (λ answers events. act (Instruction.Get property count) at old listings (later w answers events)) (record { place = n; stack = new; listings = listings }) w (query.Get property keys)) (sym e)
    (subst (λ ks. Asks (λ answers events. act (Instruction.Get property count) at old listings (later w answers events)) (record { place = suc at; stack = new; listings = listings }) w (query.Get property ks)) (sym p.are)
    (record {
      waits = λ events. ap (λ (m : Next). m (later w [] events)) (pops_are count old new keys p _);
      resumes = λ a answers events. ap (λ (m : Next). m (later w (a ∷ answers) events)) (pops_are count old new keys p _);
    }))

pub put : (operation : Operation) (property count at place : ℕ) (v : Answer) (change : CellChange) (stack old new listings : List Answer) (keys : List Key) (w : World) → place ≡ suc at → stack ≡ v ∷ old → Popped count old new keys → change ≡ change_of operation v
    → Tells (λ answers events. act (Instruction.Put operation property count) at stack listings (later w answers events)) (record { place = place; stack = new; listings = listings }) w (event.Do (update.Cell property keys change))
put operation property count at place v change stack old new listings keys w e s p k answers events = rw (e, s, p.are, k) (ap (λ (m : Next). m (later w answers events)) (pops_are count old new keys p _))

pub id_is : (id : Id) (client serial : ℕ) → id.client ≡ client → id.serial ≡ serial → id ≡ record { client = client; serial = serial }
id_is id client serial e k = λ i. record { client = e i; serial = k i }

pub created : (entity count at place serial : ℕ) (old new after listings : List Answer) (keys : List Key) (id : Id) (w : World) → place ≡ suc at → Popped count old new keys
    → id ≡ record { client = w.client; serial = w.serial } → serial ≡ suc w.serial → after ≡ answer.Id id ∷ new
    → Tells (λ answers events. act (Instruction.New entity count) at old listings (later w answers events)) (record { place = place; stack = after; listings = listings }) (record w { serial = serial }) (event.Do (update.Create id entity keys))
created entity count at place serial old new after listings keys id w e p i next a answers events = rw (a, e, p.are, i, next) (ap (λ (m : Next). m (later w answers events)) (pops_are count old new keys p _))
