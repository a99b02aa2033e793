use Rattle.std.proofs.Common.{arith}
use Rattle.std.proofs.lemmas.List.{get_or_past}
use Rattle.std.proofs.lemmas.Option.{gets}
use Rattle.storage.proofs.keyed.Keyed.open.Goals as goal

pub returns : goal.returns
returns c = grind (arith, gets, get_or_past)
