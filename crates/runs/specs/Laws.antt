-- The law over whole runs.
--   LastSent     each place holds what was last sent to it; one to which nothing was sent holds what it held
--   Alike        how two rules' runs from two starts come out alike: the same result, and the same at each place to which either sent anything
--   AlikeWhere   so they do wherever the second start replies as the first to all that is looked at from the first
--   SameRun      of a run from a start and one from another: the same answers, and the same at each place to which either sent anything
--   RunLaw       of a run of calls from a start, with its end and its answers: nothing changes that was neither stored by the processor nor named
--                by an executed block; a start that agrees on all that is looked at comes out alike, whatever else it holds; each place holds what
--                was last sent to it
--   RunAudit     of a run of calls from a card and a start: at each moment the rules look at nothing but what they may, and execute and send exactly what
--                the law's words say; and the run looks at, executes and sends what its moments do, in order
--   AuditedLaw   the law of a run of a new card, with its audit
--   EitherSent   either of two runs of the same calls sent something to a place
--   BothAlike    two runs over two drives and two storages: where the second start agrees on all that the first run looks at, they come out alike
use Rattle.std.specs.Prelude.{◌≡◌, true, ◌⊎◌, List, ◌∷◌, ◌++◌}
use Rattle.card.specs.Acts.{World, Sent, Act, ends, looked, sent, executed}
use Rattle.card.specs.Calls.{new_card}
use Rattle.runs.specs.Moments.{moments, AllOf, of_all, looks_at, executes_at, sends_at, Audited}
use Rattle.runs.specs.Named.{Untouched}
use Rattle.runs.specs.Places.{Place, content_of, holds, goes_to, some_to, none_to, Agree}
use Rattle.runs.specs.Runs.{run}
use Rattle.answers.specs.declared.answer.Answer.{Answer}
use Rattle.card.specs.declared.call.Call.{Call}
use Rattle.card.specs.declared.registers.Card.{Card}

pub record LastSent (w end : World) (all : List Sent) : Type 0 where
  pub last : (pl : Place) (before after : List Sent) (s : Sent) → all ≡ before ++ (s ∷ after) → goes_to pl s ≡ true → none_to pl after ≡ true → holds end pl ≡ content_of s
  pub kept : (pl : Place) → none_to pl all ≡ true → holds end pl ≡ holds w pl

pub record Alike {A : Type 0} (a : Act A) (w u : World) : Type 0 where
  pub same : (ends a u).result ≡ (ends a w).result
  pub places : (pl : Place) → (some_to pl (sent a w) ≡ true) ⊎ (some_to pl (sent a u) ≡ true) → holds (ends a u).world pl ≡ holds (ends a w).world pl

abbrev pub AlikeWhere : {A : Type 0} → Act A → World → Type 0
AlikeWhere a w = (u : World) → Agree (looked a w) w u → Alike a w u

-- another start may be over another make of drive and storage, and another device address
pub record SameRun (w end u : World) (calls : List Call) (answers : List Answer) : Type 0 where
  pub answered : (ends (run new_card calls) u).result.answers ≡ answers
  pub places : (pl : Place) → (some_to pl (sent (run new_card calls) w) ≡ true) ⊎ (some_to pl (sent (run new_card calls) u) ≡ true) → holds (ends (run new_card calls) u).world pl ≡ holds end pl

pub record RunLaw (w end : World) (calls : List Call) (answers : List Answer) : Type 0 where
  pub unchanged : Untouched w end calls (executed (run new_card calls) w)
  pub alike : (u : World) → Agree (looked (run new_card calls) w) w u → SameRun w end u calls answers
  pub lasting : LastSent w end (sent (run new_card calls) w)

pub record RunAudit (c : Card) (w : World) (calls : List Call) : Type 0 where
  pub each : AllOf Audited (moments c w calls)
  pub looks : looked (run c calls) w ≡ of_all looks_at (moments c w calls)
  pub executes : executed (run c calls) w ≡ of_all executes_at (moments c w calls)
  pub sends : sent (run c calls) w ≡ of_all sends_at (moments c w calls)

pub record AuditedLaw (w end : World) (calls : List Call) (answers : List Answer) : Type 0 where
  pub law : RunLaw w end calls answers
  pub audit : RunAudit new_card w calls

abbrev pub EitherSent : World → World → List Call → Place → Type 0
EitherSent w u calls pl = (some_to pl (sent (run new_card calls) w) ≡ true) ⊎ (some_to pl (sent (run new_card calls) u) ≡ true)

pub record BothAlike (w end u other : World) (calls : List Call) (answers others : List Answer) : Type 0 where
  pub answered : others ≡ answers
  pub places : (pl : Place) → EitherSent w u calls pl → holds other pl ≡ holds end pl
