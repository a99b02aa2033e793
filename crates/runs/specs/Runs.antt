-- A run: any list of the six calls over one card. The law is of runs over a new card.
--   Ran   what a run comes to: the card, and the answers in order
--   run   the rules of a list of calls, one after the other
--   calls_of, answers_of   the calls of a list of entries, and the answers beside them
use Rattle.std.specs.Prelude.{List, [], ◌∷◌, map}
use Rattle.card.specs.Acts.{Act, done, then}
use Rattle.card.specs.Rules.{call}
use Rattle.answers.specs.declared.answer.Answer.{Answer}
use Rattle.card.specs.declared.call.Call.{Call}
use Rattle.runs.specs.declared.entry.Entry.{Entry}
use Rattle.card.specs.declared.registers.Card.{Card}

pub record Ran : Type 0 where
  pub card : Card
  pub answers : List Answer

unfoldable pub run : Card → List Call → Act Ran
run c [] = done record { card = c; answers = [] }
run c (x ∷ xs) = then (call c x) (λ t. then (run t.card xs) (λ r. done record { card = r.card; answers = t.answer ∷ r.answers }))

abbrev pub calls_of : List Entry → List Call
calls_of entries = map (λ e. e.call) entries

abbrev pub answers_of : List Entry → List Answer
answers_of entries = map (λ e. e.answer) entries
