use Rattle.server_core.proofs.Storms.{begun}
use Rattle.server_core.proofs.weather.Storm.new.Goals as goal

pub returns : goal.returns
returns c = begun c.args.seed
