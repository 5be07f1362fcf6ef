use Rattle.std.proofs.Common.{rules, ap, length, subst, sym, ◌<◌, ◌+◌, ◌^◌}
use Rattle.front_table.proofs.Steps.{appends}
use Rattle.front_table.proofs.token.Writer.append_named.Goals as goal

pub fetch_add-requires : goal.fetch_add-requires
fetch_add-requires g c = (
  search rules,
  search rules,
  appends _ _ _ _ g.N.Named.entries (ap length c.requires.one) (search rules) (search rules) (subst (λ v. length v.list + 1 < 2 ^ 64) (sym c.self.view_is) c.requires.room),
)
