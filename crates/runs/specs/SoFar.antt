-- A run under way.
--   CameTo     what some calls made of a start, by the rules: the answers, a card and a world
--   GoesOn     whatever calls from whatever start came to a card and a world, with one call more they come to the next
--   LawSoFar   whatever calls from whatever start came to a card and a world, the law holds of them
--   Made       a card and a world are what some calls made of some start
--   HasLaw     they are, and the law holds of that start and those calls
use Rattle.std.specs.Prelude.{◌≡◌, List, [], ◌∷◌, ◌++◌}
use Rattle.card.specs.Acts.{World, ends, ended}
use Rattle.card.specs.Calls.{new_card}
use Rattle.runs.specs.Laws.{AuditedLaw}
use Rattle.runs.specs.Runs.{run}
use Rattle.answers.specs.declared.answer.Answer.{Answer}
use Rattle.card.specs.declared.call.Call.{Call}
use Rattle.card.specs.declared.registers.Card.{Card}

abbrev pub CameTo : World → List Call → List Answer → Card → World → Type 0
CameTo start calls answers c w = ends (run new_card calls) start ≡ ended record { card = c; answers = answers } w

abbrev pub GoesOn : Card → World → Call → Answer → Card → World → Type 0
GoesOn c w x a c' w' = (start : World) (calls : List Call) (answers : List Answer) → CameTo start calls answers c w → CameTo start (calls ++ x ∷ []) (answers ++ a ∷ []) c' w'

abbrev pub LawSoFar : Card → World → Type 0
LawSoFar c w = (start : World) (calls : List Call) (answers : List Answer) → CameTo start calls answers c w → AuditedLaw start w calls answers

pub record Made (c : Card) (w : World) : Type 0 where
  pub start : World
  pub calls : List Call
  pub answers : List Answer
  pub came : CameTo start calls answers c w

pub record HasLaw (c : Card) (w : World) : Type 0 where
  pub made : Made c w
  pub law : AuditedLaw made.start w made.calls made.answers
