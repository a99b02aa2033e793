use Rattle.std.proofs.Common.{not, sym, refl, ap, ◌∙◌, arith}
use Rattle.std.proofs.lemmas.List.Filters.{FiltersInPlace-more_no}
use Rattle.basics.specs.Table.{held}
use Rattle.basics.proofs.Held.{keeping_moved, without_none}
use Rattle.basics.proofs.marks.Marks.lift.Goals as goal
use Rattle.basics.proofs.marks.Marks.lift.Goals.{then-not-is, else-not-is}

pub loop-i-preserved : goal.loop-i-preserved
loop-i-preserved g c =
    let read = c.index-self-i.is in
    let x = c.args.x.now in
    let test = ap not (sym c.is.ensures) in
    elim c.if-not-is.branch [
      | then-not-is w ↦
          rw (w.self-is, w.count-is)
          (keeping_moved _ _ _ _ _ c.index-self-i.result c.loop-i.invariant (omega arith) (test ∙ ap not w.if-not-is.true))
      | else-not-is w ↦
          rw (w.self-is, w.count-is)
          (FiltersInPlace-more_no c.loop-i.invariant (omega arith) (ap (λ y. not (g.T.Mark.alike y x)) read ∙ test ∙ ap not w.if-not-is.false) read)
    ]

pub returns-then-not-has : goal.returns-then-not-has
returns-then-not-has g c =
    let none = sym c.if-not-has.ensures in
    record {
      after = sym (without_none g.T.Mark.alike c.args.x.now (held c.args.self.now) none);
      unmarked = λ _. refl;
    }
