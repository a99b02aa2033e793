-- A run goes on by one call more. Assumes nothing.
use Rattle.std.proofs.Common.{◌≡◌, List, [], ◌∷◌, ◌++◌, sym, refl, ap, ◌∙◌}
use Rattle.card.specs.Acts.{World, Ended, ends, ended}
use Rattle.card.specs.Calls.{Turn, turn, new_card}
use Rattle.card.specs.Rules.{call}
use Rattle.runs.specs.Runs.{Ran, run}
use Rattle.runs.specs.SoFar.{GoesOn, LawSoFar, Made, HasLaw}
use Rattle.answers.specs.declared.answer.Answer.{Answer}
use Rattle.card.specs.declared.call.Call.{Call}
use Rattle.card.specs.declared.registers.Card.{Card}
use Rattle.runs.proofs.Running.{answered, run_more}
use Rattle.runs.proofs.Untouched.{audited_law}

-- calls after others, by what those came to
abbrev after : List Call → Ended Ran → Ended Ran
after ys e = answered e.result.answers (ends (run e.result.card ys) e.world)

run-append : (xs ys : List Call) (c : Card) (w : World) → ends (run c (xs ++ ys)) w ≡ after ys (ends (run c xs) w)
unfolding run
run-append [] ys c w = refl
run-append (x ∷ xs) ys c w =
    let e : Ended Turn = ends (call c x) w in
    let a : Answer = e.result.answer in
    run_more c e.result.card x a (xs ++ ys) w e.world refl
    ∙ ap (answered (a ∷ [])) (run-append xs ys e.result.card e.world)
    ∙ sym (ap (after ys) (run_more c e.result.card x a xs w e.world refl))

pub goes_on : (c c' : Card) (w w' : World) (x : Call) (a : Answer) → ends (call c x) w ≡ ended (turn c' a) w' → GoesOn c w x a c' w'
unfolding run
goes_on c c' w w' x a came start calls answers so_far =
    run-append calls (x ∷ []) new_card start ∙ ap (after (x ∷ [])) so_far ∙ ap (answered answers) (run_more c c' x a [] w w' came)

pub law_so_far : (c : Card) (w : World) → LawSoFar c w
law_so_far c w start calls answers came = audited_law calls start w c answers came

-- a run that begins, goes on, and has the law
pub made_new : (w : World) → Made new_card w
unfolding run
made_new w = record { start = w; calls = []; answers = []; came = refl }

pub made_more : (c c' : Card) (w w' : World) (x : Call) (a : Answer) → GoesOn c w x a c' w' → Made c w → Made c' w'
made_more c c' w w' x a goes m = record {
  start = m.start;
  calls = m.calls ++ x ∷ [];
  answers = m.answers ++ a ∷ [];
  came = goes m.start m.calls m.answers m.came;
}

pub has_law : (c : Card) (w : World) → LawSoFar c w → Made c w → HasLaw c w
has_law c w law m = record { made = m; law = law m.start m.calls m.answers m.came }
