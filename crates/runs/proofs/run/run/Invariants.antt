use Rattle.card.specs.Calls.{new_card}
use Rattle.runs.proofs.Keeping.{Underway}
use Rattle.runs.proofs.run.run.Given as goal

abbrev pub invariant-loop-entry : goal.invariant-loop-entry
invariant-loop-entry g l = Underway g.D.Drive.meaning g.S.Storage.meaning g.D.Drive.loan g.S.Storage.loan new_card l.initial.entries l.entries l.initial.around l.around l.entry-index l.card
