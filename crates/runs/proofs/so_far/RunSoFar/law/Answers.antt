use Rattle.card.specs.Carrying.{world_around}
use Rattle.runs.proofs.SoFar.{law_so_far}
use Rattle.runs.proofs.so_far.RunSoFar.law.Goals as goal

pub returns-clause-law : goal.returns-clause-law
returns-clause-law g c = law_so_far c.args.self.now.card (world_around g.D.Drive.meaning g.S.Storage.meaning c.args.self.now.around)
