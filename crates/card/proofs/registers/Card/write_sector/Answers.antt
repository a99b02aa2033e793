use Rattle.std.proofs.Common.{◌≡◌, length, replicate, take, false, true, sym, refl, ap, ◌∙◌, subst}
use Rattle.std.proofs.lemmas.List.{length-take-le}
use Rattle.std.proofs.lemmas.Bool.{cond-true, false≢true}
use Rattle.drive.specs.Disk.{Disk, is_good, replaced}
use Rattle.drive.specs.declared.geometry.Track.{Track}
use Rattle.card.specs.Acts.{ends, ended, world}
use Rattle.card.specs.Blocks.{sector_now}
use Rattle.card.specs.Calls.{Turn, turn, with_residual}
use Rattle.card.specs.Carrying.{world_around, Carries}
use Rattle.card.specs.Steps.{failed_turn, write_ends, sector_done, write_data_sector}
use Rattle.card.specs.Words.{Fetched, fetch_words, well, stopped_at}
use Rattle.card.proofs.SectorBytes.{filled_is}
use Rattle.card.proofs.Parts.{carries_looks}
use Rattle.card.proofs.Stepping.{stopped_is, write_carries}
use Rattle.card.proofs.registers.Card.write_sector.Goals as goal

pub returns-in-Ok : goal.returns-in-Ok
returns-in-Ok g c =
    let here = c.args.around.now in
    let disk = g.D.Drive.meaning here.drive in
    let memory = g.S.Storage.meaning here.storage in
    let b = c.args.progress.block in
    let n = c.args.progress.done in
    let self = c.args.self.now in
    let words = c.fetch_words-fetched.new.words in
    let r = c.fetch_words-fetched.new.residual in
    let f : Fetched = record { words = words; moved = well r } in
    let count = c.words_left.result in
    let all : length (take count (replicate 128 0)) ≡ count = length-take-le count (replicate 128 0) c.words_left.ensures.bound in
    let bytes = c.sector_bytes-bytes.ensures ∙ filled_is words count (c.fetch_words-fetched.auto.words ∙ all) c.words_left.ensures.bound in
    let wrote = ap (replaced disk c.track-track.result c.args.place) (sym bytes) ∙ sym (c.write.ensures.after ∙ cond-true _ _ disk good) in
    let after = record here { drive = c.write.new.self } in
    subst (λ (t : Track). Carries g.D.Drive.meaning g.S.Storage.meaning g.D.Drive.loan g.S.Storage.loan (write_data_sector self b n t c.args.place) here (turn c.end_sector.new.self c.end_sector.result) after) c.track-track.ensures
    (write_carries g.D.Drive.meaning g.S.Storage.meaning g.D.Drive.loan g.S.Storage.loan here after _ self b n c.track-track.result c.args.place (length (take count (replicate 128 0))) c.address.result c.key.result f
    (all ∙ c.words_left.ensures.value) c.address.ensures.value c.key.ensures (c.in-Ok.ensures here.device disk)
    record {
      came = ap (λ (d : Disk). ends (sector_done (with_residual r self) b n) (world here.device d memory)) wrote ∙ c.end_sector.ensures (g.D.Drive.meaning c.write.new.self) memory;
      device = refl;
      drive_lent = c.write.ensures.loan;
      storage_lent = refl;
      drive = λ spared. absurd (false≢true spared);
      storage = λ _. refl;
    })
  where
    good : is_good ((g.D.Drive.meaning c.args.around.now.drive).sector c.track-track.result c.args.place).id.condition ≡ true
    good = ap (λ (t : Track). is_good ((g.D.Drive.meaning c.args.around.now.drive).sector t c.args.place).id.condition) c.track-track.ensures ∙ c.requires

pub returns-in-Err : goal.returns-in-Err
returns-in-Err g c =
    let here = c.args.around.now in
    let w = world_around g.D.Drive.meaning g.S.Storage.meaning here in
    let b = c.args.progress.block in
    let n = c.args.progress.done in
    let s = c.in-Err.stopped in
    let r = c.fetch_words-fetched.new.residual in
    let self = c.args.self.now in
    let e = ends (fetch_words (length (take c.words_left.result (replicate 128 0))) c.address.result c.key.result self.residual) w in
    let f : Fetched = record { words = e.result.words; moved = stopped_at r s.fault s.address } in
    subst (λ (t : Track). Carries g.D.Drive.meaning g.S.Storage.meaning g.D.Drive.loan g.S.Storage.loan (write_data_sector self b n t c.args.place) here (turn c.fail_sector.new.self c.fail_sector.result) here) c.track-track.ensures
    (write_carries g.D.Drive.meaning g.S.Storage.meaning g.D.Drive.loan g.S.Storage.loan here here _ self b n c.track-track.result c.args.place (length (take c.words_left.result (replicate 128 0))) c.address.result c.key.result f
    (length-take-le c.words_left.result (replicate 128 0) c.words_left.ensures.bound ∙ c.words_left.ensures.value) c.address.ensures.value c.key.ensures (stopped_is e (stopped_at r s.fault s.address) w (c.in-Err.ensures here.device (g.D.Drive.meaning here.drive)))
    (carries_looks g.D.Drive.meaning g.S.Storage.meaning g.D.Drive.loan g.S.Storage.loan _ here _ (ap (λ (t : Turn). ended t w)
    (sym (c.fail_sector.ensures ∙ ap (failed_turn here.device false (write_ends b (sector_now b n) (with_residual r self)) b.address) c.from.ensures)))))
