-- What a rule comes to over what the card is attached to.
--   world_around   surroundings as a world, by what their drive and their storage mean
--   Looks          a rule that leaves the surroundings alone comes to a result
--   Carries        a rule comes to a result and to these surroundings. The device address stays, and so does a drive or a storage to which nothing
--                  is sent, as a value and not in meaning alone
use Rattle.std.specs.Prelude.{◌≡◌, true, Option}
use Rattle.std.specs.Borrow.{GName}
use Rattle.storage.specs.Memory.{Memory}
use Rattle.drive.specs.Disk.{Disk}
use Rattle.card.specs.Acts.{World, Act, spares_storage, spares_drive, ends, sent, ended, world}
use Rattle.card.specs.declared.surroundings.Surroundings.{Surroundings}

abbrev pub world_around : {D S : Type 0} → (D → Disk) → (S → Memory) → Surroundings D S → World
world_around disk memory s = world s.device (disk s.drive) (memory s.storage)

abbrev pub Looks : {D S A : Type 0} → (D → Disk) → (S → Memory) → Act A → Surroundings D S → A → Type 0
Looks disk memory rule at x = ends rule (world_around disk memory at) ≡ ended x (world_around disk memory at)

pub record Carries {D S A : Type 0} (disk : D → Disk) (memory : S → Memory) (drive_loan : D → Option GName) (storage_loan : S → Option GName) (rule : Act A) (before : Surroundings D S) (x : A) (after : Surroundings D S) : Type 0 where
  pub came : ends rule (world_around disk memory before) ≡ ended x (world_around disk memory after)
  pub device : after.device ≡ before.device
  pub drive : spares_drive (sent rule (world_around disk memory before)) ≡ true → after.drive ≡ before.drive
  pub storage : spares_storage (sent rule (world_around disk memory before)) ≡ true → after.storage ≡ before.storage
  -- of a drive or a storage that is lent, the loan stays
  pub drive_lent : drive_loan after.drive ≡ drive_loan before.drive
  pub storage_lent : storage_loan after.storage ≡ storage_loan before.storage
