use Rattle.std.proofs.Common.{nat_eq, get_or, sym, ap, ◌∙◌, ◌||◌}
use Rattle.std.proofs.lemmas.List.{take_all}
use Rattle.std.proofs.lemmas.List.Folds.{list_any_more}
use Rattle.basics.specs.Marks.{has}
use Rattle.basics.proofs.mark.U32Mark.is_among.Goals as goal

pub loop-mark-preserved : goal.loop-mark-preserved
loop-mark-preserved c =
    let x = c.args.self.now in
    let marks = c.args.marks.now in
    ap (λ b. b || nat_eq (get_or marks c.loop-mark.mark-index 0) x) c.loop-mark.invariant
    ∙ sym (list_any_more (λ y. nat_eq y x) marks c.loop-mark.mark-index 0 c.loop-mark-test.true)

pub returns : goal.returns
returns c = c.loop-mark.invariant ∙ ap (has nat_eq c.args.self.now) (take_all _ c.args.marks.now c.loop-mark-test.false)
