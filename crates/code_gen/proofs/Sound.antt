-- Parts of a code that find what they need, and leave what is needed behind them.
use Rattle.std.proofs.Common.{◌≡◌, refl, sym, ap, ◌∙◌, subst, arith}
use Rattle.std.proofs.lemmas.List.{length-append}
use Rattle.std.specs.Prelude.{ℕ, suc, ◌+◌, List, [], ◌∷◌, ◌++◌, length, None}
use mathlib.Core.Logic.{inl}
use Rattle.cloud_base.specs.declared.schema.Schema.{Schema}
use Rattle.typed_program.specs.declared.expression.Kind.{Kind}
use Rattle.typed_program.specs.declared.expression.Kind.TheVariants.{Truth}
use Rattle.plain_vm.specs.declared.instruction.Instruction.{Instruction}
use Rattle.plain_vm.specs.declared.instruction.Instruction.TheVariants as i
use Rattle.plain_vm.specs.Valid.{Shape, Serves, Leads, IsFine, AreFine, LandsWell, jump_of}
use Rattle.code_gen.proofs.Parts.{Has, has_front, has_back, has_moved}
use Rattle.code_gen.proofs.Slots.{Slots, Know}

abbrev pub shape_of : List Kind → Slots → List (List Kind) → Shape
shape_of stack slots listings = record { stack = stack; slots = slots; listings = listings }

pub serves_same : (shape : Shape) → Serves shape shape
serves_same shape = record { stack = refl; slots = λ n kind e. e; listings = refl }

pub serves_known : (stack : List Kind) (slots wanted : Slots) (listings : List (List Kind)) → Know slots wanted → Serves (shape_of stack slots listings) (shape_of stack wanted listings)
serves_known stack slots wanted listings know = record { stack = refl; slots = know; listings = refl }

pub leads_served : (all : List Shape) (to : ℕ) (shape other : Shape) → Serves shape other → Leads all to other → Leads all to shape
leads_served all to shape other s l = (
  l.0,
  l.1,
  record {
    stack = s.stack ∙ l.2.stack;
    slots = λ n kind e. s.slots n kind (l.2.slots n kind e);
    listings = s.listings ∙ l.2.listings;
  },
)

pub leads_moved : (all : List Shape) (place to : ℕ) (shape : Shape) → place ≡ to → Leads all place shape → Leads all to shape
leads_moved all place to shape e l = subst (λ p. Leads all p shape) e l

-- a part at a place has shapes, which begin with one that is served by the one before, and with which it is
-- fine where the place behind it serves the one after
pub record Sound (schema : Schema) (place : ℕ) (part : List Instruction) (before after : Shape) : Type 0 where
  pub shapes : List Shape
  pub as_many : length shapes ≡ length part
  pub leads : (all : List Shape) → Has all place shapes → Leads all (place + length part) after → Leads all place before
  pub fine : (code : List Instruction) (all : List Shape) → Has code place part → Has all place shapes → Leads all (place + length part) after → AreFine schema code all place part shapes

pub fine_moved : (schema : Schema) (code : List Instruction) (all : List Shape) (place to : ℕ) (part : List Instruction) (shapes : List Shape) → place ≡ to → AreFine schema code all place part shapes → AreFine schema code all to part shapes
fine_moved schema code all place to part shapes e f = subst (λ p. AreFine schema code all p part shapes) e f

pub fine_append : (schema : Schema) (code : List Instruction) (all : List Shape) (place : ℕ) (front back : List Instruction) (shapes others : List Shape)
    → AreFine schema code all place front shapes → AreFine schema code all (place + length front) back others → AreFine schema code all place (front ++ back) (shapes ++ others)
fine_append schema code all place [] back [] others f g = fine_moved schema code all (place + 0) place back others (omega arith) g
fine_append schema code all place [] back (s ∷ shapes) others f g = absurd f
fine_append schema code all place (x ∷ front) back [] others f g = absurd f
fine_append schema code all place (x ∷ front) back (s ∷ shapes) others f g =
    (f.0, f.1, fine_append schema code all (suc place) front back shapes others f.2 (fine_moved schema code all (place + suc (length front)) (suc place + length front) back others (omega arith) g))

pub sound_same : {schema : Schema} {place : ℕ} {before after : Shape} (part other : List Instruction) → part ≡ other → Sound schema place other before after → Sound schema place part before after
sound_same {schema = schema} {place = place} {before = before} {after = after} part other e s = subst (λ p. Sound schema place p before after) (sym e) s

pub sound_moved : {schema : Schema} {part : List Instruction} {before after : Shape} (place to : ℕ) → place ≡ to → Sound schema place part before after → Sound schema to part before after
sound_moved {schema = schema} {part = part} {before = before} {after = after} place to e s = subst (λ p. Sound schema p part before after) e s

-- where more is known before, or less is wanted after
pub sound_served : {schema : Schema} {place : ℕ} {part : List Instruction} (before after first last : Shape) → Serves before first → Serves last after → Sound schema place part first last → Sound schema place part before after
sound_served {place = place} {part = part} before after first last front back s = record {
  shapes = s.shapes;
  as_many = s.as_many;
  leads = λ all has on. leads_served all place before first front (s.leads all has (leads_served all (place + length part) last after back on));
  fine = λ code all here has on. s.fine code all here has (leads_served all (place + length part) last after back on);
}

pub sound_nothing : {schema : Schema} {place : ℕ} (shape : Shape) → Sound schema place [] shape shape
sound_nothing {place = place} shape = record { shapes = []; as_many = refl; leads = λ all has on. leads_moved all (place + 0) place shape (omega arith) on; fine = λ code all here has on. tt }

-- an instruction that jumps nowhere
pub sound_one : {schema : Schema} {place : ℕ} (instruction : Instruction) (before after : Shape) → jump_of instruction ≡ None
    → ((all : List Shape) → Leads all (suc place) after → IsFine schema all place instruction before) → Sound schema place (instruction ∷ []) before after
sound_one {place = place} instruction before after stays fine = record {
  shapes = before ∷ [];
  as_many = refl;
  leads = λ all has on. (before, has.0, serves_same before);
  fine = λ code all here has on. (fine all (leads_moved all (place + 1) (suc place) after (omega arith) on), subst (λ o. LandsWell code place o) (sym stays) tt, tt);
}

-- one part and then another
pub sound_then : {schema : Schema} {place : ℕ} (front back : List Instruction) (before mid after : Shape) → Sound schema place front before mid → Sound schema (place + length front) back mid after
    → Sound schema place (front ++ back) before after
sound_then {schema = schema} {place = place} front back before mid after s t = record {
  shapes = s.shapes ++ t.shapes;
  as_many = length-append s.shapes t.shapes ∙ ap (λ n. n + length t.shapes) s.as_many ∙ ap (λ n. length front + n) t.as_many ∙ sym (length-append front back);
  leads = λ all has on. s.leads all (has_front all place s.shapes t.shapes has) (mid_leads all has on);
  fine = λ code all here has on. fine_append schema code all place front back s.shapes t.shapes (s.fine code all (has_front code place front back here) (has_front all place s.shapes t.shapes has) (mid_leads all has on))
      (t.fine code all (has_back code place front back here) (behind all has) (last_leads all on));
}
  where
    behind : (all : List Shape) → Has all place (s.shapes ++ t.shapes) → Has all (place + length front) t.shapes
    behind all has = has_moved all (place + length s.shapes) (place + length front) t.shapes (ap (λ n. place + n) s.as_many) (has_back all place s.shapes t.shapes has)

    last_leads : (all : List Shape) → Leads all (place + length (front ++ back)) after → Leads all (place + length front + length back) after
    last_leads all on = leads_moved all (place + length (front ++ back)) (place + length front + length back) after (omega (arith, length-append front back)) on

    mid_leads : (all : List Shape) → Has all place (s.shapes ++ t.shapes) → Leads all (place + length (front ++ back)) after → Leads all (place + length front) mid
    mid_leads all has on = t.leads all (behind all has) (last_leads all on)

-- jumpf F, B, jump X, F: R, X:
pub sound_either : {schema : Schema} {place : ℕ} (first second : List Instruction) (stack : List Kind) (slots : Slots) (listings : List (List Kind)) (after : Shape) (to behind : ℕ)
    → to ≡ place + (length first + 2) → behind ≡ place + (length first + (length second + 2))
    → Sound schema (place + 1) first (shape_of stack slots listings) after → Sound schema to second (shape_of stack slots listings) after
    → Sound schema place (i.JumpIfFalse to ∷ (first ++ i.Jump behind ∷ second)) (shape_of (Truth ∷ stack) slots listings) after
sound_either {schema = schema} {place = place} first second stack slots listings after to behind e f s t = record {
  shapes = tested ∷ rest;
  as_many = ap suc (length-append s.shapes (after ∷ t.shapes) ∙ ap (λ n. n + suc (length t.shapes)) s.as_many ∙ ap (λ n. length first + suc n) t.as_many ∙ sym (length-append first (i.Jump behind ∷ second)));
  leads = λ all has on. (tested, has.0, serves_same tested);
  fine = λ code all here has on. (
    (stack, refl, first_leads all has, second_leads all has on),
    inl (omega (arith, e)),
    fine_append schema code all (suc place) first (i.Jump behind ∷ second) s.shapes (after ∷ t.shapes)
        (fine_moved schema code all (place + 1) (suc place) first s.shapes (omega arith)
        (s.fine code all (has_moved code (suc place) (place + 1) first (omega arith) (has_front code (suc place) first (i.Jump behind ∷ second) here.1)) (first_has all has) (jump_leads all has))) (
          end_leads all on,
          inl (omega (arith, f)),
          fine_moved schema code all to (suc (suc place + length first)) second t.shapes (omega (arith, e))
              (t.fine code all (has_moved code (suc (suc place + length first)) to second (omega (arith, e)) (has_back code (suc place) first (i.Jump behind ∷ second) here.1).1) (second_has all has) (second_end all on)),
        ),
  );
}
  where
    tested : Shape
    tested = shape_of (Truth ∷ stack) slots listings

    rest : List Shape
    rest = s.shapes ++ after ∷ t.shapes

    total : length (i.JumpIfFalse to ∷ (first ++ i.Jump behind ∷ second)) ≡ length first + (length second + 2)
    total = omega (arith, length-append first (i.Jump behind ∷ second))

    first_has : (all : List Shape) → Has all place (tested ∷ rest) → Has all (place + 1) s.shapes
    first_has all has = has_moved all (suc place) (place + 1) s.shapes (omega arith) (has_front all (suc place) s.shapes (after ∷ t.shapes) has.1)

    jump_has : (all : List Shape) → Has all place (tested ∷ rest) → Has all (suc place + length first) (after ∷ t.shapes)
    jump_has all has = has_moved all (suc place + length s.shapes) (suc place + length first) (after ∷ t.shapes) (ap (λ n. suc place + n) s.as_many) (has_back all (suc place) s.shapes (after ∷ t.shapes) has.1)

    second_has : (all : List Shape) → Has all place (tested ∷ rest) → Has all to t.shapes
    second_has all has = has_moved all (suc (suc place + length first)) to t.shapes (omega (arith, e)) (jump_has all has).1

    jump_leads : (all : List Shape) → Has all place (tested ∷ rest) → Leads all (place + 1 + length first) after
    jump_leads all has = leads_moved all (suc place + length first) (place + 1 + length first) after (omega arith) (after, (jump_has all has).0, serves_same after)

    first_leads : (all : List Shape) → Has all place (tested ∷ rest) → Leads all (suc place) (shape_of stack slots listings)
    first_leads all has = leads_moved all (place + 1) (suc place) (shape_of stack slots listings) (omega arith) (s.leads all (first_has all has) (jump_leads all has))

    end_leads : (all : List Shape) → Leads all (place + length (i.JumpIfFalse to ∷ (first ++ i.Jump behind ∷ second))) after → Leads all behind after
    end_leads all on = leads_moved all _ behind after (omega (arith, total, f)) on

    second_end : (all : List Shape) → Leads all (place + length (i.JumpIfFalse to ∷ (first ++ i.Jump behind ∷ second))) after → Leads all (to + length second) after
    second_end all on = leads_moved all _ (to + length second) after (omega (arith, total, e)) on

    second_leads : (all : List Shape) → Has all place (tested ∷ rest) → Leads all (place + length (i.JumpIfFalse to ∷ (first ++ i.Jump behind ∷ second))) after → Leads all to (shape_of stack slots listings)
    second_leads all has on = t.leads all (second_has all has) (second_end all on)

-- jumpf X, S, X:
pub sound_only : {schema : Schema} {place : ℕ} (first : List Instruction) (stack : List Kind) (slots : Slots) (listings : List (List Kind)) (to : ℕ) → to ≡ place + (length first + 1)
    → Sound schema (place + 1) first (shape_of stack slots listings) (shape_of stack slots listings)
    → Sound schema place (i.JumpIfFalse to ∷ first) (shape_of (Truth ∷ stack) slots listings) (shape_of stack slots listings)
sound_only {schema = schema} {place = place} first stack slots listings to e s = record {
  shapes = shape_of (Truth ∷ stack) slots listings ∷ s.shapes;
  as_many = ap suc s.as_many;
  leads = λ all has on. (shape_of (Truth ∷ stack) slots listings, has.0, serves_same (shape_of (Truth ∷ stack) slots listings));
  fine = λ code all here has on.
      let plain : Shape = shape_of stack slots listings in
      let first_has : Has all (place + 1) s.shapes = has_moved all (suc place) (place + 1) s.shapes (omega arith) has.1 in
      let first_end : Leads all (place + 1 + length first) plain = leads_moved all (place + suc (length first)) (place + 1 + length first) plain (omega arith) on in (
        (stack, refl, leads_moved all (place + 1) (suc place) plain (omega arith) (s.leads all first_has first_end), leads_moved all (place + suc (length first)) to plain (omega (arith, e)) on),
        inl (omega (arith, e)),
        fine_moved schema code all (place + 1) (suc place) first s.shapes (omega arith) (s.fine code all (has_moved code (suc place) (place + 1) first (omega arith) here.1) first_has first_end),
      );
}
