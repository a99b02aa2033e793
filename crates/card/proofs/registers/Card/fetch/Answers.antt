use Rattle.std.proofs.Common.{◌%◌, false, sym, ap, ◌∙◌}
use Rattle.std.proofs.lemmas.Bool.{eq-eqb}
use Rattle.card.specs.Acts.{ends, ended}
use Rattle.card.specs.Calls.{Turn}
use Rattle.card.specs.Carrying.{world_around}
use Rattle.card.specs.Steps.{checked, failed_turn}
use Rattle.card.specs.Words.{fetch_words, well, stopped_at}
use Rattle.answers.specs.declared.answer.Exception.TheVariants.{Storage}
use Rattle.card.specs.declared.registers.Card.{Card}
use Rattle.card.proofs.Stepping.{fetch_is, stopped_is}
use Rattle.card.proofs.registers.Card.fetch.Goals as goal

pub returns-in-Ok : goal.returns-in-Ok
returns-in-Ok g c =
    let a = c.args.address in
    let here = c.args.around.now in
    let w = world_around g.D.Drive.meaning g.S.Storage.meaning here in
    let words = c.fetch_words-fetched.new.words in
    let r = c.fetch_words-fetched.new.residual in
    fetch_is c.args.purpose c.args.self.now a c.from.result w record { words = words; moved = well r } (eq-eqb (a % 2) 0 c.if-address-ne0.false) c.from.ensures
    (c.in-Ok.ensures here.device (g.D.Drive.meaning here.drive))
    ∙ ap (λ (k : Card). ends (checked c.args.purpose k record { address = a; words = words }) w) (sym c.keep_residual.ensures)
    ∙ c.check.ensures

pub returns-in-Err : goal.returns-in-Err
returns-in-Err g c =
    let a = c.args.address in
    let here = c.args.around.now in
    let w = world_around g.D.Drive.meaning g.S.Storage.meaning here in
    let r = c.fetch_words-fetched.new.residual in
    let s = c.in-Err.stopped in
    let card = c.args.self.now in
    let e = ends (fetch_words 8 c.from.result 0 card.residual) w in
    fetch_is c.args.purpose card a c.from.result w record { words = e.result.words; moved = stopped_at r s.fault s.address } (eq-eqb (a % 2) 0 c.if-address-ne0.false) c.from.ensures
    (stopped_is e (stopped_at r s.fault s.address) w (c.in-Err.ensures here.device (g.D.Drive.meaning here.drive)))
    ∙ ap (λ (t : Turn). ended t w)
    (ap (λ k. failed_turn here.device false k a (Storage s.fault s.address)) (sym c.keep_residual.ensures)
    ∙ sym (c.fail-in-Err.ensures ∙ ap (failed_turn here.device false c.keep_residual.new.self a) c.from-in-Err.ensures))
