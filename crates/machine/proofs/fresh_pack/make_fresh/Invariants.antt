use Rattle.std.proofs.Common.{◌≡◌, vec_items}
use Rattle.pack.specs.Plain.{plain_disk}
use Rattle.machine.specs.Freshness.{fresh_up_to}
use Rattle.machine.proofs.fresh_pack.make_fresh.Given as goal

abbrev pub invariant-loop-number : goal.invariant-loop-number
invariant-loop-number l = (l.heads ≡ l.initial.pack.heads) × (plain_disk l.pack.heads (vec_items l.pack.bytes) ≡ fresh_up_to (plain_disk l.initial.pack.heads (vec_items l.initial.pack.bytes)) l.number)
