use Rattle.std.proofs.Common.{lit≤}
use Rattle.script.proofs.Reading.{narrowed}
use Rattle.script.proofs.numbers.ByteFromWord.from_word.Goals as goal

pub returns : goal.returns
returns c = narrowed 16 0xFF _ _ c.try_from.result c.map_err.result _ c.in_ok-number.ensures c.try_from.ensures c.map_err.ensures.cases (lit≤ tt)
