use Rattle.std.proofs.Common.{refl, rules}
use Rattle.std.proofs.lemmas.Slice.{overwrites}
use Rattle.pack.proofs.sector_at.SectorAt.put_data.Goals as goal

pub returns-clause-within : goal.returns-clause-within
returns-clause-within c w = (refl, search (rules, overwrites))
