use Rattle.std.proofs.Common.{◌≡◌, ℕ, true, map, w16}
use Rattle.std.specs.Int.{from_be_bytes}
use Rattle.drive.specs.Disk.{Disk}
use Rattle.card.specs.Acts.{spares_storage, sent, world}
use Rattle.card.specs.Words.{store_words}
use Rattle.card.proofs.Transfers.{Storing}
use Rattle.card.proofs.transfer.store_words.Given as goal

abbrev pub invariant-loop-i : goal.invariant-loop-i
invariant-loop-i g l = record {
  moved : (v : ℕ) (d : Disk) → Storing (map (from_be_bytes w16) l.words) l.address l.key l.initial.residual (world v d (g.S.Storage.meaning l.initial.storage)) (world v d (g.S.Storage.meaning l.storage)) l.i l.residual;
  kept : (v : ℕ) (d : Disk) → spares_storage (sent (store_words (map (from_be_bytes w16) l.words) l.address l.key l.initial.residual) (world v d (g.S.Storage.meaning l.initial.storage))) ≡ true → (l.i ≡ 0) × (l.storage ≡ l.initial.storage);
  lent : g.S.Storage.loan l.storage ≡ g.S.Storage.loan l.initial.storage;
}
