use Rattle.std.proofs.Common.{rules, ◌≤◌, ◌<◌, ◌+◌, length, slice_index, refl, sym, subst}
use Rattle.source_tokens.proofs.Literals.{ReadsOn, reads_plain, reads_backslash, reads_close, reads_bad, reads_out}
use Rattle.source_tokens.proofs.lexeme.literal_behind.Goals.{in-Plain+in_ok-push-in-Plain, in-Backslash}
use Rattle.source_tokens.proofs.lexeme.literal_behind.Goals as goal

pub returns-in-Close-clause-literal : goal.returns-in-Close-clause-literal
returns-in-Close-clause-literal c =
    let some : c.loop-at.at < length c.args.text.now = search rules in
    reads_close c.args.text.now c.loop-at.at c.loop-at.escaped c.loop-at.bytes (slice_index c.args.text.now c.loop-at.at) c.loop-at.invariant some refl (search rules)

pub returns-in-Bad-clause-literal : goal.returns-in-Bad-clause-literal
returns-in-Bad-clause-literal c =
    let some : c.loop-at.at < length c.args.text.now = search rules in
    reads_bad c.args.text.now c.loop-at.at c.loop-at.escaped c.loop-at.bytes (slice_index c.args.text.now c.loop-at.at) c.loop-at.invariant some refl (search rules)

pub loop-at-preserved : goal.loop-at-preserved
loop-at-preserved c =
    let some : c.loop-at.at < length c.args.text.now = search rules in
    elim c.match-judged.branch [
      | in-Plain+in_ok-push-in-Plain w ↦
          subst (λ e. ReadsOn c.args.text.now (c.loop-at.at + 1) e c.match-judged.bytes) (sym w.escaped-is)
          (reads_plain c.args.text.now c.loop-at.at c.loop-at.escaped c.loop-at.bytes c.match-judged.bytes (slice_index c.args.text.now c.loop-at.at) c.loop-at.invariant some refl (search rules) (search rules))
      | in-Backslash w ↦
          subst (λ b. ReadsOn c.args.text.now (c.loop-at.at + 1) c.match-judged.escaped b) (sym w.bytes-is)
          (subst (λ e. ReadsOn c.args.text.now (c.loop-at.at + 1) e c.loop-at.bytes) (sym w.escaped-is)
          (reads_backslash c.args.text.now c.loop-at.at c.loop-at.escaped c.loop-at.bytes (slice_index c.args.text.now c.loop-at.at) c.loop-at.invariant some refl (search rules)))
    ]

pub returns-clause-literal : goal.returns-clause-literal
returns-clause-literal c =
    let all : length c.args.text.now ≤ c.loop-at.at = search rules in
    reads_out c.args.text.now c.loop-at.at c.loop-at.escaped c.loop-at.bytes c.loop-at.invariant all
