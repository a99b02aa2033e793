use Rattle.std.proofs.Common.{Some, None, ap, ◌∙◌, lit<}
use Rattle.std.specs.Option.{option_map}
use Rattle.std.specs.Result.{result_ok}
use borrow.Author.Tests.{both_ways}
use Rattle.std.proofs.lemmas.Result.{err_from_is_err_and}
use Rattle.std.proofs.lemmas.Str.Pattern.{starts_char}
use Rattle.script.specs.Readings.{placeless_line}
use Rattle.script.proofs.Naming.{line_none, line_comment, line_verb}
use Rattle.script.proofs.read.read_line.Goals as goal

pub returns-in_default : goal.returns-in_default
returns-in_default c = line_none _ c.in_default.ensures.words

pub returns-then-starts_with : goal.returns-then-starts_with
returns-then-starts_with c =
    line_comment _ c.in-Some.word.now _ c.in-Some.ensures.words ((starts_char 35 c.in-Some.word.now _ c.starts_with.ensures.cases (lit< tt) (lit< tt)).0 c.if-starts_with.true)

pub returns : goal.returns
returns c =
    c.read_after.ensures
    ∙ line_verb _ c.in-Some.word.now _ (Some c.in_ok-from_word.field-0) c.in-Some.ensures.words (λ e. both_ways _ c.if-starts_with.false ((starts_char 35 c.in-Some.word.now _ c.starts_with.ensures.cases (lit< tt) (lit< tt)).1 e)) c.in_ok-from_word.ensures

pub returns-in_err-from_word : goal.returns-in_err-from_word
returns-in_err-from_word c =
    let p = err_from_is_err_and c.from_residual.result c.from_residual.ensures.1 in
    ap (λ r. option_map placeless_line (result_ok r)) p.1
    ∙ line_verb _ c.in-Some.word.now _ None c.in-Some.ensures.words (λ e. both_ways _ c.if-starts_with.false ((starts_char 35 c.in-Some.word.now _ c.starts_with.ensures.cases (lit< tt) (lit< tt)).1 e)) c.in_err-from_word.ensures
