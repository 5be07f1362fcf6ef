-- Loops that find what they need.
use Rattle.std.proofs.Common.{◌≡◌, refl, sym, ap, ◌∙◌, subst, arith}
use Rattle.std.proofs.lemmas.List.{length-append, append_assoc}
use Rattle.std.specs.Prelude.{ℕ, suc, ◌+◌, ◌≤◌, List, [], ◌∷◌, ◌++◌, length, Some, slice_get}
use mathlib.Core.Logic.{inl, inr}
use Rattle.cloud_base.specs.declared.schema.Schema.{Schema}
use Rattle.typed_program.specs.declared.expression.Kind.{Kind}
use Rattle.typed_program.specs.declared.expression.Kind.TheVariants.{Truth}
use Rattle.plain_vm.specs.Exec.{push_all}
use Rattle.plain_vm.specs.declared.instruction.Instruction.{Instruction}
use Rattle.plain_vm.specs.declared.instruction.Instruction.TheVariants as i
use Rattle.plain_vm.specs.Valid.{Shape, Leads, IsHead, LandsWell}
use Rattle.code_gen.specs.Compile.{while_code, loop_code, stores}
use Rattle.code_gen.proofs.Listings.{stores_last, length_stores}
use Rattle.code_gen.proofs.Parts.{Has, has_front, has_back, has_moved}
use Rattle.code_gen.proofs.Slots.{Slots, Know, with_slots, know_declared, know_fewer}
use Rattle.code_gen.proofs.Sound.{Sound, shape_of, serves_same, serves_known, leads_served, leads_moved, fine_moved, fine_append, sound_same, sound_moved, sound_served, sound_nothing, sound_one, sound_then}

-- a jump to a head lands well
lands_at_head : (code : List Instruction) (place to : ℕ) (head : Instruction) → slice_get code to ≡ Some head → IsHead (Some head) → LandsWell code place (Some to)
lands_at_head code place to head there is = inr (subst IsHead (sym there) is)

-- B: begin, [a], jumpf X, S, jump B, X:
pub sound_while : {schema : Schema} {place : ℕ} (first second : List Instruction) (stack : List Kind) (slots : Slots) (listings : List (List Kind))
    → Sound schema (place + 1) first (shape_of stack slots listings) (shape_of (Truth ∷ stack) slots listings)
    → Sound schema (place + (length first + 2)) second (shape_of stack slots listings) (shape_of stack slots listings)
    → Sound schema place (while_code place first second) (shape_of stack slots listings) (shape_of stack slots listings)
sound_while {schema = schema} {place = place} first second stack slots listings s t = record {
  shapes = plain ∷ (s.shapes ++ behind);
  as_many = ap suc (length-append s.shapes behind ∙ ap (λ n. n + length behind) s.as_many ∙ ap (λ n. length first + suc n) (length-append t.shapes (plain ∷ []) ∙ ap (λ n. n + 1) t.as_many ∙ sym (length-append second (i.Jump place ∷ [])))
      ∙ sym (length-append first tail));
  leads = λ all has on. head_leads all has;
  fine = λ code all here has on. (
    leads_moved all (place + 1) (suc place) plain (omega arith) (s.leads all (first_has all has) (test_leads all has)),
    tt,
    fine_append schema code all (suc place) first tail s.shapes behind
        (fine_moved schema code all (place + 1) (suc place) first s.shapes (omega arith)
        (s.fine code all (has_moved code (suc place) (place + 1) first (omega arith) (has_front code (suc place) first tail here.1)) (first_has all has) (test_leads all has))) (
          (stack, refl, leads_moved all (place + (length first + 2)) (suc (suc place + length first)) plain (omega arith) (t.leads all (body_has all has) (body_leads all has)), leads_moved all _ exit plain (omega (arith, total)) on),
          inl (omega arith),
          fine_append schema code all (suc (suc place + length first)) second (i.Jump place ∷ []) t.shapes (plain ∷ [])
              (fine_moved schema code all (place + (length first + 2)) (suc (suc place + length first)) second t.shapes (omega arith)
              (t.fine code all (has_moved code (suc (suc place + length first)) (place + (length first + 2)) second (omega arith) (has_front code (suc (suc place + length first)) second (i.Jump place ∷ []) (has_back code (suc place) first tail here.1).1))
              (body_has all has) (body_leads all has)))
              (head_leads all has, lands_at_head code _ place i.Begin here.0 tt, tt),
        ),
  );
}
  where
    plain : Shape
    plain = shape_of stack slots listings

    tested : Shape
    tested = shape_of (Truth ∷ stack) slots listings

    exit : ℕ
    exit = place + (length first + (length second + 3))

    tail : List Instruction
    tail = i.JumpIfFalse exit ∷ (second ++ i.Jump place ∷ [])

    behind : List Shape
    behind = tested ∷ (t.shapes ++ plain ∷ [])

    total : length (while_code place first second) ≡ length first + (length second + 3)
    total = omega (arith, length-append first tail, length-append second (i.Jump place ∷ []))

    head_leads : (all : List Shape) → Has all place (plain ∷ (s.shapes ++ behind)) → Leads all place plain
    head_leads all has = (plain, has.0, serves_same plain)

    first_has : (all : List Shape) → Has all place (plain ∷ (s.shapes ++ behind)) → Has all (place + 1) s.shapes
    first_has all has = has_moved all (suc place) (place + 1) s.shapes (omega arith) (has_front all (suc place) s.shapes behind has.1)

    test_has : (all : List Shape) → Has all place (plain ∷ (s.shapes ++ behind)) → Has all (suc place + length first) behind
    test_has all has = has_moved all (suc place + length s.shapes) (suc place + length first) behind (ap (λ n. suc place + n) s.as_many) (has_back all (suc place) s.shapes behind has.1)

    test_leads : (all : List Shape) → Has all place (plain ∷ (s.shapes ++ behind)) → Leads all (place + 1 + length first) tested
    test_leads all has = leads_moved all (suc place + length first) (place + 1 + length first) tested (omega arith) (tested, (test_has all has).0, serves_same tested)

    body_has : (all : List Shape) → Has all place (plain ∷ (s.shapes ++ behind)) → Has all (place + (length first + 2)) t.shapes
    body_has all has = has_moved all (suc (suc place + length first)) (place + (length first + 2)) t.shapes (omega arith) (has_front all (suc (suc place + length first)) t.shapes (plain ∷ []) (test_has all has).1)

    jump_has : (all : List Shape) → Has all place (plain ∷ (s.shapes ++ behind)) → Has all (suc (suc place + length first) + length second) (plain ∷ [])
    jump_has all has = has_moved all (suc (suc place + length first) + length t.shapes) (suc (suc place + length first) + length second) (plain ∷ []) (ap (λ n. suc (suc place + length first) + n) t.as_many)
        (has_back all (suc (suc place + length first)) t.shapes (plain ∷ []) (test_has all has).1)

    body_leads : (all : List Shape) → Has all place (plain ∷ (s.shapes ++ behind)) → Leads all (place + (length first + 2) + length second) plain
    body_leads all has = leads_moved all (suc (suc place + length first) + length second) (place + (length first + 2) + length second) plain (omega arith) (plain, (jump_has all has).0, serves_same plain)

-- B: next X K, the rest, jump B, X:
sound_items : {schema : Schema} {place : ℕ} (kinds : List Kind) (count to : ℕ) (body : List Instruction) (stack : List Kind) (slots known : Slots) (listings : List (List Kind)) → count ≡ length kinds → to ≡ place + (length body + 2)
    → Know known slots → Sound schema (place + 1) body (shape_of (push_all kinds stack) slots (kinds ∷ listings)) (shape_of stack known (kinds ∷ listings))
    → Sound schema place (i.Next to count ∷ (body ++ i.Jump place ∷ [])) (shape_of stack slots (kinds ∷ listings)) (shape_of stack slots listings)
sound_items {schema = schema} {place = place} kinds count to body stack slots known listings many e knows s = record {
  shapes = head ∷ (s.shapes ++ last ∷ []);
  as_many = ap suc (length-append s.shapes (last ∷ []) ∙ ap (λ n. n + 1) s.as_many ∙ sym (length-append body (i.Jump place ∷ [])));
  leads = λ all has on. (head, has.0, serves_same head);
  fine = λ code all here has on. (
    (kinds, listings, refl, many, leads_moved all _ to (shape_of stack slots listings) (omega (arith, e, length-append body (i.Jump place ∷ []))) on, leads_moved all (place + 1) (suc place) _ (omega arith) (s.leads all (body_has all has) (body_leads all has))),
    inl (omega (arith, e)),
    fine_append schema code all (suc place) body (i.Jump place ∷ []) s.shapes (last ∷ [])
        (fine_moved schema code all (place + 1) (suc place) body s.shapes (omega arith)
        (s.fine code all (has_moved code (suc place) (place + 1) body (omega arith) (has_front code (suc place) body (i.Jump place ∷ []) here.1)) (body_has all has) (body_leads all has)))
        (leads_served all place last head (serves_known stack known slots (kinds ∷ listings) knows) (head, has.0, serves_same head), lands_at_head code _ place (i.Next to count) here.0 tt, tt),
  );
}
  where
    head : Shape
    head = shape_of stack slots (kinds ∷ listings)

    last : Shape
    last = shape_of stack known (kinds ∷ listings)

    body_has : (all : List Shape) → Has all place (head ∷ (s.shapes ++ last ∷ [])) → Has all (place + 1) s.shapes
    body_has all has = has_moved all (suc place) (place + 1) s.shapes (omega arith) (has_front all (suc place) s.shapes (last ∷ []) has.1)

    jump_has : (all : List Shape) → Has all place (head ∷ (s.shapes ++ last ∷ [])) → Has all (suc place + length body) (last ∷ [])
    jump_has all has = has_moved all (suc place + length s.shapes) (suc place + length body) (last ∷ []) (ap (λ n. suc place + n) s.as_many) (has_back all (suc place) s.shapes (last ∷ []) has.1)

    body_leads : (all : List Shape) → Has all place (head ∷ (s.shapes ++ last ∷ [])) → Leads all (place + 1 + length body) last
    body_leads all has = leads_moved all (suc place + length body) (place + 1 + length body) last (omega arith) (last, (jump_has all has).0, serves_same last)

-- the parts of an item are stored
sound_stores : {schema : Schema} (kinds : List Kind) (n place : ℕ) (stack : List Kind) (slots : Slots) (listings : List (List Kind)) → n + length kinds ≤ 64
    → Sound schema place (stores n (length kinds)) (shape_of (push_all kinds stack) slots listings) (shape_of stack (with_slots slots n kinds) listings)
sound_stores [] n place stack slots listings few = sound_nothing (shape_of stack slots listings)
sound_stores (kind ∷ kinds) n place stack slots listings few =
    let mid : Shape = shape_of (kind ∷ stack) (with_slots slots (suc n) kinds) listings in
    let after : Shape = shape_of stack (with_slots slots n (kind ∷ kinds)) listings in
    sound_same (stores n (suc (length kinds))) (stores (suc n) (length kinds) ++ i.Store n ∷ []) (stores_last n (length kinds))
    (sound_then (stores (suc n) (length kinds)) (i.Store n ∷ []) _ mid after (sound_stores kinds (suc n) place (kind ∷ stack) slots listings (omega (arith, few)))
    (sound_one (i.Store n) mid after refl (λ all on. (omega (arith, few), kind, stack, refl, on))))

-- a loop whose items have parts of these kinds, in the next slots
pub sound_loop : {schema : Schema} {place : ℕ} (seen kinds : List Kind) (n count : ℕ) (part : List Instruction) (stack : List Kind) (listings : List (List Kind)) → n ≡ length seen → n + length kinds ≤ 64 → count ≡ length kinds
    → Sound schema (place + (count + 1)) part (shape_of stack (slice_get (seen ++ kinds)) (kinds ∷ listings)) (shape_of stack (slice_get (seen ++ kinds)) (kinds ∷ listings))
    → Sound schema place (loop_code place n count part) (shape_of stack (slice_get seen) (kinds ∷ listings)) (shape_of stack (slice_get seen) listings)
sound_loop {place = place} seen kinds n count part stack listings at few many s =
    let inner : Shape = shape_of stack (slice_get (seen ++ kinds)) (kinds ∷ listings) in
    let opened : Shape = shape_of (push_all kinds stack) (slice_get seen) (kinds ∷ listings) in
    let stored : Shape = shape_of stack (with_slots (slice_get seen) n kinds) (kinds ∷ listings) in
    let to : ℕ = place + (count + (length part + 2)) in
    sound_same (loop_code place n count part) (i.Next to count ∷ ((stores n count ++ part) ++ i.Jump place ∷ [])) (ap (λ l. i.Next to count ∷ l) (sym (append_assoc (stores n count) part (i.Jump place ∷ []))))
    (sound_items kinds count to (stores n count ++ part) stack (slice_get seen) (slice_get (seen ++ kinds)) listings many (omega (arith, length-append (stores n count) part, length_stores n count)) (know_fewer seen kinds)
    (sound_then (stores n count) part opened stored inner
    (sound_same (stores n count) (stores n (length kinds)) (ap (λ c. stores n c) many) (sound_stores kinds n (place + 1) stack (slice_get seen) (kinds ∷ listings) few))
    (sound_moved (place + (count + 1)) (place + 1 + length (stores n count)) (omega (arith, length_stores n count))
    (sound_served stored inner inner inner (serves_known stack (with_slots (slice_get seen) n kinds) (slice_get (seen ++ kinds)) (kinds ∷ listings) (know_declared seen kinds n at)) (serves_same inner) s))))
