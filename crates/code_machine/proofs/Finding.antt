-- A state at a place of a valid code finds what the instruction there needs.
use Rattle.std.proofs.Common.{◌≡◌, refl, ap, ◌∙◌, arith}
use Rattle.std.proofs.lemmas.List.{length-map}
use Rattle.std.specs.Prelude.{ℕ, suc, ◌+◌, ◌<◌, ◌≤◌, ◌^◌, List, [], ◌∷◌, length, map, Some, slice_get}
use Rattle.cloud_base.specs.Shaped.{IsSchema, AreKeyTypes}
use Rattle.cloud_base.specs.declared.schema.Entity.{Entity}
use Rattle.cloud_base.specs.declared.schema.Property.{Property}
use Rattle.cloud_base.specs.declared.schema.Schema.{Schema}
use Rattle.cloud_base.specs.declared.update.Answer.{Answer}
use Rattle.typed_program.specs.declared.expression.Kind.{Kind}
use Rattle.typed_program.specs.Does.{World}
use Rattle.typed_program.specs.Kinds.{key_kind}
use Rattle.typed_program.proofs.Shaped.{all_at}
use Rattle.plain_vm.proofs.Pops.{as_many_of}
use Rattle.plain_vm.proofs.Well.{fine_at}
use Rattle.plain_vm.specs.Code.{CodeOf}
use Rattle.plain_vm.specs.declared.instruction.Instruction.{Instruction}
use Rattle.plain_vm.specs.Exec.{Standing, push_all}
use Rattle.plain_vm.specs.Fits.{AreListings, Fits}
use Rattle.plain_vm.specs.Valid.{Shape, IsFine}
use Rattle.code_machine.specs.Finds.{Finds, FindsAt}
use Rattle.code_machine.specs.Runs.{Sits}

length_push_all : (kinds rest : List Kind) → length (push_all kinds rest) ≡ length kinds + length rest
length_push_all [] rest = omega arith
length_push_all (k ∷ kinds) rest = omega (arith, length_push_all kinds (k ∷ rest))

-- as many values as kinds
as_many : (schema : Schema) (shape : Shape) (stack listings : List Answer) (w : World) (kinds : List Kind) → Fits schema shape stack listings w → shape.stack ≡ kinds → length stack ≡ length kinds
as_many schema shape stack listings w kinds f e = as_many_of shape.stack stack f.stacked ∙ ap length e

listed : (kinds : List (List Kind)) (listings : List Answer) → AreListings kinds listings → length listings ≡ length kinds
listed [] [] h = refl
listed [] (l ∷ listings) h = absurd h
listed (k ∷ kinds) [] h = absurd h
listed (k ∷ kinds) (l ∷ listings) h = ap suc (listed kinds listings h.1)

module _ (schema : Schema) (shapes : List Shape) (sane : IsSchema schema) where
  few_keys : (number : ℕ) (property : Property) → slice_get schema.properties number ≡ Some property → length property.keys ≤ 3
  few_keys number property there = (all_at (λ (p : Property). AreKeyTypes schema p.keys) schema.properties number property sane.property_keys there).0

  few_parents : (number : ℕ) (entity : Entity) → slice_get schema.entities number ≡ Some entity → length entity.keys ≤ 3
  few_parents number entity there = (all_at (λ (x : Entity). AreKeyTypes schema x.keys) schema.entities number entity sane.entity_keys there).0

  found : (i : Instruction) (place : ℕ) (s : Shape) (stack listings : List Answer) (w : World) → IsFine schema shapes place i s → Fits schema s stack listings w → w.serial < 2 ^ 32 → Finds i stack listings w
  found Instruction.Begin place s st ls w fine f few = tt
  found (Instruction.Push literal) place s st ls w fine f few = tt
  found (Instruction.Load n) place s st ls w fine f few = omega (arith, fine.0, f.many)
  found (Instruction.Store n) place s st ls w fine f few = (omega (arith, fine.0, f.many), omega (arith, as_many schema s st ls w (fine.1 ∷ fine.2) f fine.3))
  found Instruction.Negate place s st ls w fine f few = omega (arith, as_many schema s st ls w (_ ∷ fine.0) f fine.1)
  found Instruction.Not place s st ls w fine f few = omega (arith, as_many schema s st ls w (_ ∷ fine.0) f fine.1)
  found (Instruction.Binary binary) place s st ls w fine f few = omega (arith, as_many schema s st ls w (fine.1 ∷ fine.1 ∷ fine.2) f fine.3)
  found (Instruction.Jump to) place s st ls w fine f few = tt
  found (Instruction.JumpIfFalse to) place s st ls w fine f few = omega (arith, as_many schema s st ls w (_ ∷ fine.0) f fine.1)
  found (Instruction.Get number n) place s st ls w fine f few =
      let many = as_many schema s st ls w (push_all (map key_kind (fine.0).keys) fine.1) f fine.4 in
      let keys = length_push_all (map key_kind (fine.0).keys) fine.1 in
      let same = length-map (fine.0).keys key_kind in
      let little = few_keys number fine.0 fine.2 in
      (omega (arith, fine.3, little), omega (arith, fine.3, many, keys, same))
  found Instruction.Alive place s st ls w fine f few = omega (arith, as_many schema s st ls w (_ ∷ fine.1) f fine.2)
  found (Instruction.All number) place s st ls w fine f few = tt
  found (Instruction.Entries number) place s st ls w fine f few = tt
  found (Instruction.Next to n) place s st ls w fine f few = omega (arith, listed s.listings ls f.listed, ap length fine.2)
  found (Instruction.Put operation number n) place s st ls w fine f few =
      let many = as_many schema s st ls w (fine.1 ∷ push_all (map key_kind (fine.0).keys) fine.2) f fine.5 in
      let keys = length_push_all (map key_kind (fine.0).keys) fine.2 in
      let same = length-map (fine.0).keys key_kind in
      let little = few_keys number fine.0 fine.3 in
      (omega (arith, fine.4, little), omega (arith, fine.4, many, keys, same))
  found (Instruction.New number n) place s st ls w fine f few =
      let many = as_many schema s st ls w (push_all (map key_kind (fine.0).keys) fine.1) f fine.4 in
      let keys = length_push_all (map key_kind (fine.0).keys) fine.1 in
      let same = length-map (fine.0).keys key_kind in
      let little = few_parents number fine.0 fine.2 in
      (omega (arith, fine.3, little), omega (arith, fine.3, many, keys, same), f.client_below, few)
  found Instruction.Delete place s st ls w fine f few = omega (arith, as_many schema s st ls w (_ ∷ fine.1) f fine.2)
  found Instruction.Say place s st ls w fine f few = omega (arith, as_many schema s st ls w (fine.0 ∷ fine.1) f fine.2)
  found Instruction.Yield place s st ls w fine f few = tt
  found Instruction.Flush place s st ls w fine f few = tt
  found Instruction.End place s st ls w fine f few = tt

pub finds_at : (c : CodeOf) (s : Standing) (w : World) → Sits c s w → w.serial < 2 ^ 32 → FindsAt c.instructions s w
finds_at c s w sits few =
    let at = fine_at c.schema c.instructions sits.shapes s.place sits.shape sits.valid sits.there in
    record { instruction = at.instruction; is = at.is; finds = found c.schema sits.shapes sits.sane at.instruction s.place sits.shape s.stack s.listings w at.fine sits.fits few }
