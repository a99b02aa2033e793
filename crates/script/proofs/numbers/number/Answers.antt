use Rattle.std.proofs.Common.{◌∙◌, sym, arith, lit<}
use borrow.Author.Tests.{both_ways}
use Rattle.std.proofs.lemmas.Str.Pattern.{starts_char}
use Rattle.script.proofs.Reading.{number_plus, reads_plain, kept}
use Rattle.script.proofs.numbers.number.Goals as goal

pub returns-then-starts_with : goal.returns-then-starts_with
returns-then-starts_with c =
    sym (number_plus c.args.radix 0xFFFFFFFF c.args.word.now (omega arith) ((starts_char 43 c.args.word.now _ c.starts_with.ensures.cases (lit< tt) (lit< tt)).0 c.if-starts_with.true))

pub returns : goal.returns
returns c =
    kept c.from_str_radix.result c.map_err.result _ c.map_err.ensures.cases
    ∙ reads_plain c.args.radix c.args.word.now c.from_str_radix.result (λ e. both_ways _ c.if-starts_with.false ((starts_char 43 c.args.word.now _ c.starts_with.ensures.cases (lit< tt) (lit< tt)).1 e)) c.from_str_radix.ensures.value
