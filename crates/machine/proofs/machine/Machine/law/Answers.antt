use Rattle.std.proofs.Math.Logic.{∥∥₁_map}
use Rattle.runs.proofs.SoFar.{has_law}
use Rattle.machine.specs.Makes.{run_world}
use Rattle.machine.proofs.machine.Machine.law.Goals as goal

pub returns-clause-law : goal.returns-clause-law
returns-clause-law c =
    let here = c.args.self.now.run in
    ∥∥₁_map c.args.self.now.made (has_law here.card (run_world here) c.law.ensures.law)
