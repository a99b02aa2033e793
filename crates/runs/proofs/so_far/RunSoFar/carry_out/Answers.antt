use Rattle.std.proofs.Common.{subst, rules}
use Rattle.card.specs.Acts.{World}
use Rattle.card.specs.Carrying.{world_around}
use Rattle.runs.specs.SoFar.{GoesOn}
use Rattle.runs.proofs.SoFar.{goes_on}
use Rattle.runs.proofs.so_far.RunSoFar.carry_out.Goals as goal

pub returns-clause-goes : goal.returns-clause-goes
returns-clause-goes g c =
    let at = world_around g.D.Drive.meaning g.S.Storage.meaning in
    let done = c.carry_out-answer in
    let stays = done.ensures.device in
    subst (λ (w : World). GoesOn c.args.self.now.card (at c.args.self.now.around) c.args.asked done.result done.new.self w)
    (search (rules, stays))
    (goes_on c.args.self.now.card done.new.self (at c.args.self.now.around) (at done.new.around) c.args.asked done.result done.ensures.came)
