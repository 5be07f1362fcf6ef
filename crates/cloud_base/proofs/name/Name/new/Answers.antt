use Rattle.std.proofs.lemmas.Str.{IsUtf8-from_ascii}
use Rattle.cloud_base.proofs.Names.{name_ascii}
use Rattle.cloud_base.proofs.name.Name.new.Goals as goal

pub unreachable-requires : goal.unreachable-requires
unreachable-requires c = c.in_default.ensures.cases.0 (IsUtf8-from_ascii _ (name_ascii _ c.requires))
