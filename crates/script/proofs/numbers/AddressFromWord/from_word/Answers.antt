use Rattle.std.proofs.Common.{◌≡◌, leb, sym, ◌∙◌, rules, tests, lit≤}
use Rattle.script.proofs.Reading.{ranged}
use Rattle.script.proofs.numbers.AddressFromWord.from_word.Goals as goal

pub returns : goal.returns
returns c =
    let f = c.filter.ensures in
    let test : f.0 ≡ leb c.in_ok-number.field-0 0xFFFFF = search (rules, tests) in
    sym c.ok_or.ensures.ok_part ∙ f.2 ∙ ranged 16 0xFFFFF _ _ f.0 c.in_ok-number.ensures (lit≤ tt) test
