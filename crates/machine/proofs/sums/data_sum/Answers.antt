use Rattle.std.proofs.Common.{◌≡◌, length, ap, ◌∙◌, arith}
use Rattle.machine.proofs.sums.data_sum.Goals as goal

pub weigh-requires : goal.weigh-requires
weigh-requires g c =
    let long : length c.in-Ok.bytes.now ≡ 256 = ap length c.in-Ok.ensures.given ∙ (g.met.D.Drive.lawful c.args.drive.now).long c.args.track c.args.place in
    omega arith
