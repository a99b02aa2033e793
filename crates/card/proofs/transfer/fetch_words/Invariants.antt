use Rattle.std.proofs.Common.{ℕ, length}
use Rattle.drive.specs.Disk.{Disk}
use Rattle.card.specs.Acts.{world}
use Rattle.card.proofs.Transfers.{Fetching}
use Rattle.card.proofs.transfer.fetch_words.Given as goal

abbrev pub invariant-loop-i : goal.invariant-loop-i
invariant-loop-i g l = (v : ℕ) (d : Disk) → Fetching (world v d (g.S.Storage.meaning l.storage)) (length l.initial.words) l.address l.key l.initial.residual l.words l.i l.residual
