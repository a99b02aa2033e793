use Rattle.std.proofs.Common.{◌&&◌, sym, ◌∙◌, ap₂}
use Rattle.std.proofs.lemmas.Bool.{cond-false}
use Rattle.pack.specs.Plain.{zero_clear, conditions_clear}
use Rattle.pack.proofs.Below.{every_none, every_step, every_more, every_fails}
use Rattle.pack.proofs.plain_pack.open.check_places.Goals as goal

pub loop-place-init : goal.loop-place-init
loop-place-init c = (every_none (zero_clear c.args.bytes.now), sym (every_none (conditions_clear c.args.bytes.now)))

pub returns-then-not-zero_clear : goal.returns-then-not-zero_clear
returns-then-not-zero_clear c =
    let bad = every_fails (zero_clear c.args.bytes.now) c.args.places c.loop-place.place c.loop-place-test.true (sym c.if-not-zero_clear.ensures) in
    cond-false _ _ _ bad

pub loop-place-preserved : goal.loop-place-preserved
loop-place-preserved c =
    let b = c.args.bytes.now in
    let n = c.loop-place.place in (
      every_more (zero_clear b) n c.loop-place.invariant.0 (sym c.if-not-zero_clear.ensures),
      ap₂ (λ x y. x && y) c.loop-place.invariant.1 c.conditions_clear-conditions.ensures ∙ sym (every_step (conditions_clear b) n),
    )
