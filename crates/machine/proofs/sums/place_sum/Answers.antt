use Rattle.std.proofs.Common.{◌≡◌, ◌%◌, length, refl, ap, ◌∙◌, arith}
use Rattle.drive.specs.Disk.{is_good}
use Rattle.drive.proofs.Defective.{good_from}
use Rattle.machine.specs.Sums.{weighed, front}
use Rattle.machine.proofs.Weighing.{turn, high_byte, low_byte, front_from, place_good, place_bad, bad_from}
use Rattle.machine.proofs.sums.place_sum.Goals as goal
use Rattle.machine.proofs.sums.place_sum.Goals.{in-Ok, in-Err}

pub weigh-behind-requires : goal.weigh-behind-requires
weigh-behind-requires g c =
    let long : length c.in-Ok.bytes.now ≡ 256 = ap length c.in-Ok.ensures.given ∙ (g.met.D.Drive.lawful c.args.drive.now).long c.args.track c.args.place in
    omega arith

pub returns : goal.returns
returns g c =
    let s = (g.D.Drive.meaning c.args.drive.now).sector c.args.track c.args.place in
    let f = c.id-field.result in
    let listed = front_from s f c.data_condition.result c.from.result c.from-2.result _ _
    c.id-field.ensures c.data_condition.ensures c.from.ensures c.from-2.ensures
    (high_byte f.id.cylinder c.to_be_bytes.result (omega arith) c.to_be_bytes.ensures)
    (low_byte f.id.cylinder c.to_be_bytes.result c.to_be_bytes.ensures) in
    let first : c.weigh.result ≡ weighed 1 (front s) % turn = c.weigh.ensures ∙ ap (λ xs. weighed 1 xs % turn) listed in
    elim c.match-read.branch [
      | in-Ok w ↦ place_good (front s) s.datum.bytes (is_good s.id.condition) c.weigh.result c.match-read.behind refl first
          (good_from _ _ w.in-Ok.ensures.accepted)
          (w.behind-is ∙ w.weigh-behind.ensures ∙ ap (λ xs. weighed 9 xs % turn) w.in-Ok.ensures.given)
      | in-Err w ↦ place_bad (front s) s.datum.bytes (is_good s.id.condition) c.weigh.result c.match-read.behind refl first
          (bad_from _ _ w.in-Err.ensures) w.behind-is
    ]
