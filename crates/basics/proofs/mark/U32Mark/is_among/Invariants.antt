use Rattle.std.proofs.Common.{◌≡◌, take, nat_eq}
use Rattle.basics.specs.Marks.{has}
use Rattle.basics.proofs.mark.U32Mark.is_among.Given as goal

abbrev pub invariant-loop-mark : goal.invariant-loop-mark
invariant-loop-mark l = l.found ≡ has nat_eq l.self (take l.mark-index l.marks)
