use Rattle.drive.specs.Search.{MissingBelow}
use Rattle.drive.proofs.search.search.Given as goal

abbrev pub invariant-loop-place : goal.invariant-loop-place
invariant-loop-place g l = MissingBelow l.place (g.D.Drive.meaning l.drive) l.track l.argument l.passed_spoiled
