use Rattle.server_core.proofs.Storms.{drawn}
use Rattle.server_core.proofs.weather.StormWeather.fate.Goals as goal

pub returns : goal.returns
returns c = rw (c.by_bits.ensures, c.following-self.ensures) (drawn _ _ c.if-self-eq0.false)
