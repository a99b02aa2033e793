use Rattle.std.proofs.Common.{sym, subst}
use Rattle.runs.specs.SoFar.{Made}
use Rattle.runs.proofs.SoFar.{made_new}
use Rattle.machine.specs.Makes.{LayeredRun, run_world}
use Rattle.machine.proofs.machine.Machine.begin.Goals as goal

pub invariant_of-result : goal.invariant_of-result
invariant_of-result c = record {
  made =
      subst (λ (r : LayeredRun). ∥ Made r.card (run_world r) ∥₁) (sym c.start.ensures) ∣ made_new _ ∣₁;
}
