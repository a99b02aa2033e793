use Rattle.std.proofs.Common.{◌∷◌, arith, lit<, refl, sym, ap, ◌∙◌, false-eqb, true-eqb}
use Rattle.std.proofs.lemmas.Str.Pattern.{split_parts}
use Rattle.script.specs.Words.{words}
use Rattle.script.proofs.Cutting.{trimmed, first_word, words_empty}
use Rattle.script.proofs.words.next_word.Goals as goal

pub returns-then-is_empty-clause-words : goal.returns-then-is_empty-clause-words
returns-then-is_empty-clause-words c =
    let t = trimmed c.args.text.now c.trim_start_matches-text.result.now c.trim_start_matches-text.ensures.matches in
    sym t.0 ∙ words_empty c.trim_start_matches-text.result.now (omega (arith, true-eqb _ _ c.if-is_empty.ensures))

pub returns-clause-words : goal.returns-clause-words
returns-clause-words c =
    let t = trimmed c.args.text.now c.trim_start_matches-text.result.now c.trim_start_matches-text.ensures.matches in
    sym t.0
    ∙ first_word c.trim_start_matches-text.result.now c.split_once.result (c.trim_start_matches-text.result, _) t.1 (omega (arith, false-eqb _ _ c.if-is_empty.ensures)) (split_parts 32 c.trim_start_matches-text.result.now c.split_once.result c.split_once.ensures.cases (lit< tt)) refl refl
    ∙ ap (λ p. p.0.now ∷ words p.1.now) (sym c.unwrap_or.ensures)
