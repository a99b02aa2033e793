use Rattle.std.proofs.Common.{false, map, take, w16, sym, refl, ap, ◌∙◌, subst}
use Rattle.std.specs.Int.{from_be_bytes}
use Rattle.drive.specs.Disk.{is_good}
use Rattle.drive.specs.declared.geometry.Track.{Track}
use Rattle.card.specs.Acts.{ended, world}
use Rattle.card.specs.Blocks.{sector_now}
use Rattle.card.specs.Calls.{Turn, turn, with_residual}
use Rattle.card.specs.Carrying.{Carries}
use Rattle.card.specs.Steps.{failed_turn, write_ends, read_sector}
use Rattle.card.specs.Words.{well, stopped_at}
use Rattle.card.proofs.Stepping.{sector_words, read_carries}
use Rattle.card.proofs.registers.Card.read_sector.Goals as goal

pub returns-in-Ok-stored : goal.returns-in-Ok-stored
returns-in-Ok-stored g c =
    let here = c.args.around.now in
    let disk = g.D.Drive.meaning here.drive in
    let b = c.args.progress.block in
    let n = c.args.progress.done in
    let stored = c.store_words-stored in
    let after = record here { storage = stored.new.storage } in
    let field = (disk.sector c.track-track.result c.args.place).datum in
    let good = ap is_good (sym c.data_condition.ensures) ∙ sym c.if-not-is_good.ensures in
    let long = (g.met.D.Drive.lawful here.drive).long c.track-track.result c.args.place in
    subst (λ (t : Track). Carries g.D.Drive.meaning g.S.Storage.meaning g.D.Drive.loan g.S.Storage.loan (read_sector c.args.self.now b n t c.args.place) here (turn c.end_sector.new.self c.end_sector.result) after) c.track-track.ensures
    (read_carries g.D.Drive.meaning g.S.Storage.meaning g.D.Drive.loan g.S.Storage.loan here after _ c.args.self.now b n c.track-track.result c.args.place (well stored.new.residual)
    (map (from_be_bytes w16) (take c.words_left.result c.as_chunks.result.0.now)) c.address.result c.key.result
    good (sector_words b n c.words_left.result c.in-Ok.bytes.now field.bytes c.as_chunks.result.0.now c.words_left.ensures.value long c.in-Ok.ensures.given c.as_chunks.ensures.front)
    c.address.ensures.value c.key.ensures
    record { came = c.in-Ok-stored.ensures.moved here.device disk; device = refl; drive_lent = refl; storage_lent = stored.ensures.lent; drive = λ _. refl; storage = stored.ensures.kept here.device disk }
    (c.end_sector.ensures disk (g.S.Storage.meaning stored.new.storage)))

pub returns-in-Err : goal.returns-in-Err
returns-in-Err g c =
    let here = c.args.around.now in
    let disk = g.D.Drive.meaning here.drive in
    let b = c.args.progress.block in
    let n = c.args.progress.done in
    let stored = c.store_words-stored in
    let s = c.in-Err.stopped in
    let after = record here { storage = stored.new.storage } in
    let field = (disk.sector c.track-track.result c.args.place).datum in
    let good = ap is_good (sym c.data_condition.ensures) ∙ sym c.if-not-is_good.ensures in
    let long = (g.met.D.Drive.lawful here.drive).long c.track-track.result c.args.place in
    let card = with_residual stored.new.residual c.args.self.now in
    subst (λ (t : Track). Carries g.D.Drive.meaning g.S.Storage.meaning g.D.Drive.loan g.S.Storage.loan (read_sector c.args.self.now b n t c.args.place) here (turn c.fail_sector-in-Err.new.self c.fail_sector-in-Err.result) after) c.track-track.ensures
    (read_carries g.D.Drive.meaning g.S.Storage.meaning g.D.Drive.loan g.S.Storage.loan here after _ c.args.self.now b n c.track-track.result c.args.place (stopped_at stored.new.residual s.fault s.address)
    (map (from_be_bytes w16) (take c.words_left.result c.as_chunks.result.0.now)) c.address.result c.key.result
    good (sector_words b n c.words_left.result c.in-Ok.bytes.now field.bytes c.as_chunks.result.0.now c.words_left.ensures.value long c.in-Ok.ensures.given c.as_chunks.ensures.front)
    c.address.ensures.value c.key.ensures
    record { came = c.in-Err.ensures.moved here.device disk; device = refl; drive_lent = refl; storage_lent = stored.ensures.lent; drive = λ _. refl; storage = stored.ensures.kept here.device disk }
    (ap (λ (t : Turn). ended t (world here.device disk (g.S.Storage.meaning stored.new.storage)))
    (sym (c.fail_sector-in-Err.ensures ∙ ap (failed_turn here.device false (write_ends b (sector_now b n) card) b.address) c.from.ensures))))
