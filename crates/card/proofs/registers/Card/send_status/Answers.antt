use Rattle.std.proofs.Common.{◌/◌, ℕ, false, map, min, take, w16, sym, refl, ap, ◌∙◌}
use Rattle.std.specs.Int.{from_be_bytes}
use Rattle.card.specs.Acts.{ended, world}
use Rattle.card.specs.Calls.{Turn}
use Rattle.card.specs.Words.{well, stopped_at}
use Rattle.card.specs.Steps.{failed_turn}
use Rattle.card.proofs.Stepping.{finished_is, four_words, status_carries}
use Rattle.card.proofs.registers.Card.send_status.Goals as goal

pub returns-in-Ok : goal.returns-in-Ok
returns-in-Ok g c =
    let here = c.args.around.now in
    let disk = g.D.Drive.meaning here.drive in
    let stored = c.store_words-stored in
    status_carries g.D.Drive.meaning g.S.Storage.meaning g.D.Drive.loan g.S.Storage.loan here _ _ c.args.self.now c.args.block (well stored.new.residual)
    (map (from_be_bytes w16) (take c.min-count.result c.status_words-words.result)) c.from-2.result c.key.result
    (four_words c.args.self.now c.args.block c.status_words-words.result c.min-count.result c.status_words-words.ensures
    (c.min-count.ensures ∙ ap (λ (n : ℕ). min n 4) (c.from.ensures ∙ ap (λ (n : ℕ). n / 2) c.count.ensures)))
    (c.from-2.ensures ∙ c.data_address.ensures) c.key.ensures
    record { came = c.in-Ok.ensures.moved here.device disk; device = refl; drive_lent = refl; storage_lent = stored.ensures.lent; drive = λ _. refl; storage = stored.ensures.kept here.device disk }
    (finished_is c.args.self.now c.args.block here.device disk (g.S.Storage.meaning stored.new.storage) _ c.finish.ensures)

pub returns-in-Err : goal.returns-in-Err
returns-in-Err g c =
    let here = c.args.around.now in
    let disk = g.D.Drive.meaning here.drive in
    let stored = c.store_words-stored in
    let s = c.in-Err.stopped in
    status_carries g.D.Drive.meaning g.S.Storage.meaning g.D.Drive.loan g.S.Storage.loan here _ _ c.args.self.now c.args.block (stopped_at stored.new.residual s.fault s.address)
    (map (from_be_bytes w16) (take c.min-count.result c.status_words-words.result)) c.from-2.result c.key.result
    (four_words c.args.self.now c.args.block c.status_words-words.result c.min-count.result c.status_words-words.ensures
    (c.min-count.ensures ∙ ap (λ (n : ℕ). min n 4) (c.from.ensures ∙ ap (λ (n : ℕ). n / 2) c.count.ensures)))
    (c.from-2.ensures ∙ c.data_address.ensures) c.key.ensures
    record { came = c.in-Err.ensures.moved here.device disk; device = refl; drive_lent = refl; storage_lent = stored.ensures.lent; drive = λ _. refl; storage = stored.ensures.kept here.device disk }
    (ap (λ (t : Turn). ended t (world here.device disk (g.S.Storage.meaning stored.new.storage)))
    (sym (c.fail.ensures ∙ ap (failed_turn here.device false c.args.self.now c.args.block.address) c.from-in-Err.ensures)))
