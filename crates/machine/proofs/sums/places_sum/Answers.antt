use Rattle.std.proofs.Common.{◌≡◌, ℕ, ◌*◌, ◌%◌, refl, ap, ◌∙◌, ap₂, arith}
use native.Mathlib.Nat.{mod-mod}
use Rattle.drive.specs.declared.geometry.Track.{Track}
use Rattle.machine.specs.Sums.{summed, track_sum, places_sum}
use Rattle.machine.specs.Tracks.{track_at}
use Rattle.machine.proofs.Weighing.{turn, summed_more}
use Rattle.machine.proofs.sums.places_sum.Goals as goal

pub loop-number-init : goal.loop-number-init
unfolding summed
loop-number-init g c = (c.heads-heads.ensures, refl)

pub loop-number-preserved : goal.loop-number-preserved
loop-number-preserved g c =
    let d = g.D.Drive.meaning c.args.drive.now in
    let f : ℕ → ℕ = λ n. track_sum d (track_at c.heads-heads.result n) (n * 60) in
    let n = c.loop-number.number in (
      c.loop-number.invariant.0,
      summed_more f n c.loop-number.sum c.track_sum-sum.result c.loop-number.invariant.1
          (ap (λ (m : ℕ). m % turn) (c.track_sum-sum.ensures ∙ ap (λ (t : Track). track_sum d t (n * 60) % turn) c.track_at.ensures) ∙ mod-mod (f n) turn),
    )

pub returns : goal.returns
unfolding places_sum
returns g c =
    let d = g.D.Drive.meaning c.args.drive.now in
    let e : c.loop-number.number ≡ 303 * d.heads = omega (arith, c.loop-number.invariant.0) in
    c.loop-number.invariant.1 ∙ ap₂ (λ (h n : ℕ). summed (λ m. track_sum d (track_at h m) (m * 60)) n % turn) c.loop-number.invariant.0 e
