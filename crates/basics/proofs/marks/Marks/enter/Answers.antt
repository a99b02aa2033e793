use Rattle.std.proofs.Common.{◌<◌, length, ◌∙◌, arith, length-take}
use Rattle.std.proofs.lemmas.List.{take_more_set}
use Rattle.std.proofs.lemmas.Bool.{false≢true}
use Rattle.basics.specs.Table.{held}
use Rattle.basics.proofs.Held.{entering_new, entered_new}
use Rattle.basics.proofs.marks.Marks.enter.Goals as goal

pub returns : goal.returns
returns g c =
    let m = c.args.self.now in
    let free : length (held m) < g.row.N = omega (arith, length-take m.used m.entries) in
    let new = c.if-has.ensures in
    let a = g.T.Mark.alike in
    record {
      answer = entering_new a g.row.N c.args.x (held m) new free;
      after = take_more_set m.entries m.used c.args.x (omega arith) ∙ entered_new a g.row.N c.args.x (held m) new free;
      again = λ e. absurd (false≢true (new ∙ e));
      refused = λ e. absurd (false≢true e);
    }
