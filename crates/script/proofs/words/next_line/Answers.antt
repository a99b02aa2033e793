use Rattle.std.proofs.Common.{ℕ, List, [], ◌∷◌, Some, None, sym, ap, ◌∙◌, lit<}
use Rattle.std.proofs.lemmas.Str.Pattern.{split_parts}
use Rattle.script.specs.Words.{lines}
use Rattle.script.proofs.Cutting.{lines_free, lines_cut}
use Rattle.script.proofs.words.next_line.Goals as goal

pub returns-in-None : goal.returns-in-None
returns-in-None c =
    lines_free c.args.text.now (split_parts 10 c.args.text.now None c.in-None.ensures.cases (lit< tt))
    ∙ ap (λ (l : List ℕ). l ∷ []) (sym c.without_return.ensures)

pub returns-in-Some : goal.returns-in-Some
returns-in-Some c =
    let p = split_parts 10 c.args.text.now (Some (c.in-Some.line, c.in-Some.rest)) c.in-Some.ensures.cases (lit< tt) in
    ap lines p.0 ∙ lines_cut c.in-Some.line.now c.in-Some.rest.now p.1
    ∙ ap (λ (l : List ℕ). l ∷ lines c.in-Some.rest.now) (sym c.without_return-in-Some.ensures)
