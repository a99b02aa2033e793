use Rattle.std.proofs.Common.{subst, rules}
use Rattle.card.specs.Acts.{World}
use Rattle.card.specs.Carrying.{world_around}
use Rattle.runs.specs.Laws.{BothAlike}
use Rattle.runs.specs.Runs.{calls_of, answers_of}
use Rattle.runs.proofs.Untouched.{both_alike}
use Rattle.runs.proofs.both.run_both.Goals as goal

pub returns-clause-alike : goal.returns-clause-alike
returns-clause-alike g c same agree =
    let here = world_around g.D.Drive.meaning g.S.Storage.meaning in
    let there = world_around g.E.Drive.meaning g.T.Storage.meaning in
    let first = c.run-card in
    let second = c.run-other_card in
    let stays = second.ensures.carries.device in
    subst (λ (w : World). BothAlike (here c.args.around.now) (here first.new.around) (there c.args.other.now) w (calls_of c.args.entries.now) (answers_of first.new.entries) (answers_of second.new.entries))
    (search (rules, stays))
    (both_alike (calls_of c.args.entries.now) (calls_of c.args.others.now)
    (here c.args.around.now) (here first.new.around) (there c.args.other.now) (there second.new.around)
    first.result second.result (answers_of first.new.entries) (answers_of second.new.entries)
    first.ensures.carries.came second.ensures.carries.came same agree)
