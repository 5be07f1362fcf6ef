-- What the checker answers at its exits.
use Rattle.std.proofs.Common.{◌≡◌, ℕ, List, [], Option, Result, Err, subst, sym, ◌∙◌, ap}
use Rattle.std.specs.Prelude.{MatchResult}
use Rattle.std.specs.Borrow.{Bor}
use Rattle.std.specs.Result.{IsErrAnd}
use Rattle.std.proofs.lemmas.Result.{err_from_is_err_and, MatchResult-weaker}
use Rattle.typed_program.specs.declared.statement.Statement.{Statement}
use Rattle.kind_rules.specs.Answers.{Fault}
use Rattle.source_tree.specs.declared.statement.Statement.{Statement as Written}
use Rattle.kind_rules.specs.Names.{Scope, Variable}
use Rattle.kind_rules.specs.Statements.{Walked, settle_block}
use Rattle.kind_bodies.specs.declared.fault.KindFault.{KindFault}
use Rattle.kind_bodies.specs.declared.fault.KindFault.TheVariants as fault
use Rattle.kind_bodies.specs.Settles.{Tells, SettlesBlock, SettlesBody, settled_block}

pub tells_memory : (due : Option Fault) → Tells due fault.Memory
unfolding Tells
tells_memory due = tt

pub no_memory : {T : Type 0} (due : Option Fault) (P : T → Type 0) (result : Result T KindFault) → IsErrAnd result (λ e. e ≡ fault.Memory) → MatchResult result P (λ fault. Tells due fault)
no_memory due P result is =
    let p = err_from_is_err_and result is in
    subst (λ r. MatchResult r P (λ fault. Tells due fault)) (sym (p.1 ∙ ap Err p.2)) (tells_memory due)

pub no_memory_later : {T : Type 0} (due : Option Fault → Option Fault) (P : T → Type 0) (result : Result T KindFault) → IsErrAnd result (λ e. e ≡ fault.Memory)
    → MatchResult result P (λ fault. (later : Option Fault) → Tells (due later) fault)
no_memory_later due P result is =
    let p = err_from_is_err_and result is in
    subst (λ r. MatchResult r P (λ fault. (later : Option Fault) → Tells (due later) fault)) (sym (p.1 ∙ ap Err p.2)) (λ later. tells_memory (due later))

-- a fault that is passed on
pub passes_on : {T : Type 0} (due : Option Fault) (P : T → Type 0) (result : Result T KindFault) (told : KindFault) → IsErrAnd result (λ e. e ≡ told) → Tells due told → MatchResult result P (λ fault. Tells due fault)
passes_on due P result told is h =
    let p = err_from_is_err_and result is in
    subst (λ r. MatchResult r P (λ fault. Tells due fault)) (sym (p.1 ∙ ap Err p.2)) h

-- what is said of a block at the start is said of a body
pub body_settled : (scope : Scope) (body slice : List Written) (visible new : List Variable) (lines : List ℕ) (result : Result (List Statement × Bor (List ℕ)) KindFault) → slice ≡ body → visible ≡ []
    → SettlesBlock (settled_block scope slice visible lines) new result → SettlesBody (settle_block scope body [] lines) result
unfolding settled_block Tells
body_settled scope body slice visible new lines result same none h =
    let due = settle_block scope body [] lines in
    let is : settled_block scope slice visible lines ≡ due = ap (λ b. settle_block scope b visible lines) same ∙ ap (λ (v : List Variable). settle_block scope body v lines) none in
    let moved : SettlesBlock due new result = subst (λ (w : Walked). SettlesBlock w new result) is h in
    MatchResult-weaker result moved (λ found p. (p.0, p.1, p.2)) (λ fault p. p)
