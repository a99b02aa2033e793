use Rattle.std.proofs.Common.{◌≡◌, true}
use Rattle.pack.specs.Layout.{every_below}
use Rattle.pack.specs.Plain.{zero_clear, conditions_clear}
use Rattle.pack.proofs.plain_pack.open.check_places.Given as goal

abbrev pub invariant-loop-place : goal.invariant-loop-place
invariant-loop-place l = (every_below (zero_clear l.bytes) l.place ≡ true) × (l.conditions ≡ every_below (conditions_clear l.bytes) l.place)
