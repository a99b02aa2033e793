use Rattle.std.proofs.Common.{rules, tests, sym, ◌∙◌}
use Rattle.std.specs.Str.{bytes_eq}
use Rattle.std.proofs.lemmas.Iterator.{YieldsList-from_slice}
use Rattle.std.proofs.lemmas.Iterator.Search.{find_from_yields_List}
use Rattle.script.specs.Verbs.{verb_text, verbs, verb_of}
use Rattle.script.proofs.verb.VerbFromWord.from_word.Goals as goal

pub returns : goal.returns
unfolding verb_of verbs
returns c =
    sym c.ok_or.ensures.ok_part ∙ c.copied.ensures
    ∙ find_from_yields_List (λ v. bytes_eq c.args.word.now (verb_text v)) _ _ c.find-verb.result c.find-verb.ensures.ran (YieldsList-from_slice verbs c.iter.ensures.rest) (λ x b q k. search (rules, tests))
