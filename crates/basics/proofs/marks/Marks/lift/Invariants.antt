use Rattle.std.proofs.Common.{not}
use Rattle.std.proofs.lemmas.List.Filters.{FiltersInPlace}
use Rattle.basics.proofs.marks.Marks.lift.Given as goal

abbrev pub invariant-loop-i : goal.invariant-loop-i
invariant-loop-i g l = FiltersInPlace (λ y. not (g.T.Mark.alike y l.x)) l.initial.self.entries l.self.entries l.count l.i
