use Rattle.std.proofs.Common.{sym, ◌∙◌, rules}
use Rattle.drive.proofs.SearchLaw.{found_answer, missing_answer, passes_spoiled, passes_other}
use Rattle.drive.proofs.search.search.Goals as goal
use Rattle.drive.proofs.search.search.Goals.{then-not-is_good, else-not-is_good+else-same_as}

pub returns-then-same_as-clause-answer : goal.returns-then-same_as-clause-answer
returns-then-same_as-clause-answer g c = found_answer _ _ _ _ (search rules)

pub returns-clause-answer : goal.returns-clause-answer
returns-clause-answer g c = missing_answer _ _ _ _ (search rules)

pub loop-place-preserved : goal.loop-place-preserved
loop-place-preserved g c =
    let passed = c.loop-place.invariant in
    let here = c.id-field.ensures in
    elim c.if-not-is_good.branch [
      | then-not-is_good w ↦
          rw w.passed_spoiled-is
          (passes_spoiled _ _ _ c.loop-place.place _ passed _ here (sym w.if-not-is_good.true ∙ c.is_good.ensures))
      | else-not-is_good+else-same_as w ↦
          rw w.passed_spoiled-is
          (passes_other _ _ _ c.loop-place.place _ passed _ here
          (sym w.if-not-is_good.false ∙ c.is_good.ensures) (sym w.if-same_as.false ∙ w.same_as.ensures))
    ]
