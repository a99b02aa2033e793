use Rattle.std.proofs.Math.Logic.{∥∥₁_map}
use Rattle.runs.proofs.SoFar.{made_more}
use Rattle.machine.specs.Makes.{run_world}
use Rattle.machine.proofs.machine.Machine.carry_out.Goals as goal

pub invariant_of-self : goal.invariant_of-self
invariant_of-self c = record {
  made =
      let before = c.args.self.now.run in
      let after = c.carry_out.new.self in
      ∥∥₁_map c.args.self.now.made
      (made_more before.card after.card (run_world before) (run_world after) c.args.asked c.carry_out.result c.carry_out.ensures.goes);
}
