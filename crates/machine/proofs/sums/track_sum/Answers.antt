use Rattle.std.proofs.Common.{◌≡◌, ℕ, ◌+◌, ◌*◌, ◌%◌, refl, ap, ◌∙◌, arith}
use Rattle.machine.specs.Sums.{weighed, place_bytes, summed, track_sum}
use Rattle.machine.proofs.Weighing.{turn, summed_more, term}
use Rattle.machine.proofs.sums.track_sum.Goals as goal

pub loop-place-init : goal.loop-place-init
unfolding summed
loop-place-init g c = refl

pub loop-place-preserved : goal.loop-place-preserved
loop-place-preserved g c =
    let d = g.D.Drive.meaning c.args.drive.now in
    let f : ℕ → ℕ = λ p. weighed 1 (place_bytes d c.args.track p) * (c.args.before + p + 1) in
    let p = c.loop-place.place in
    summed_more f p c.loop-place.sum (c.place_sum.result * (c.args.before + p + 1) % turn) c.loop-place.invariant
    (term c.place_sum.result (weighed 1 (place_bytes d c.args.track p)) (c.args.before + p + 1) c.place_sum.ensures)

pub returns : goal.returns
unfolding track_sum
returns g c =
    let d = g.D.Drive.meaning c.args.drive.now in
    let f : ℕ → ℕ = λ p. weighed 1 (place_bytes d c.args.track p) * (c.args.before + p + 1) in
    let e : c.loop-place.place ≡ 60 = omega arith in
    c.loop-place.invariant ∙ ap (λ (n : ℕ). summed f n % turn) e
