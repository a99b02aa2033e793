-- How a rule comes out by what its parts come to. Assumes nothing.
use Rattle.std.specs.Borrow.{GName}
use Rattle.std.specs.Prelude.{Option}
use Rattle.std.proofs.Common.{◌≡◌, Bool, true, cond, List, ◌++◌, sym, refl, ap, ◌∙◌, subst}
use Rattle.std.proofs.lemmas.Bool.{cond-true}
use Rattle.storage.specs.Memory.{Memory}
use Rattle.drive.specs.Disk.{Disk}
use Rattle.card.specs.Acts.{Query, Reply, Sent, spares_storage, spares_drive, Act, ask, answer, Ended, ends, sent, then}
use Rattle.card.specs.Carrying.{world_around, Looks, Carries}
use Rattle.card.specs.declared.surroundings.Surroundings.{Surroundings}
use Rattle.card.proofs.Spares.{sent-then, storage_front, storage_back, drive_front, drive_back}
use Rattle.card.proofs.Transfers.{ends-then}

module _ {D S B : Type 0} (disk : D → Disk) (memory : S → Memory) (drive_loan : D → Option GName) (storage_loan : S → Option GName) (before after : Surroundings D S) (x : B) where
  -- a rule that asks, or that goes by a test
  pub carries_ask : (q : Query) (k : Reply q → Act B) → Carries disk memory drive_loan storage_loan (k (answer q (world_around disk memory before))) before x after → Carries disk memory drive_loan storage_loan (ask q k) before x after
  carries_ask q k h = record { came = h.came; device = h.device; drive_lent = h.drive_lent; storage_lent = h.storage_lent; drive = h.drive; storage = h.storage }

  pub carries_cond : (b : Bool) (r s : Act B) → b ≡ true → Carries disk memory drive_loan storage_loan r before x after → Carries disk memory drive_loan storage_loan (cond b r s) before x after
  carries_cond b r s e h = subst (λ (rule : Act B). Carries disk memory drive_loan storage_loan rule before x after) (sym (cond-true b r s e)) h

  -- one rule after another, where the second leaves the surroundings alone, or the first
  module _ {A : Type 0} (a : Act A) (f : A → Act B) (m : A) where
    pub carries_first : Carries disk memory drive_loan storage_loan a before m after → Looks disk memory (f m) after x → Carries disk memory drive_loan storage_loan (then a f) before x after
    carries_first h rest =
        let w = world_around disk memory before in
        let part : (P : List Sent → Bool) → P (sent (then a f) w) ≡ true → P (sent a w ++ sent (f (ends a w).result) (ends a w).world) ≡ true = λ P e. ap P (sym (sent-then a f w)) ∙ e in
        record {
          came = ends-then a f w ∙ ap (λ (e : Ended A). ends (f e.result) e.world) h.came ∙ rest;
          device = h.device;
          drive_lent = h.drive_lent;
          storage_lent = h.storage_lent;
          drive = λ spared. h.drive (drive_front (sent a w) _ (part spares_drive spared));
          storage = λ spared. h.storage (storage_front (sent a w) _ (part spares_storage spared));
        }

    pub carries_second : Looks disk memory a before m → Carries disk memory drive_loan storage_loan (f m) before x after → Carries disk memory drive_loan storage_loan (then a f) before x after
    carries_second looks h =
        let w = world_around disk memory before in
        let all = sent-then a f w ∙ ap (λ (e : Ended A). sent a w ++ sent (f e.result) e.world) looks in
        record {
          came = ends-then a f w ∙ ap (λ (e : Ended A). ends (f e.result) e.world) looks ∙ h.came;
          device = h.device;
          drive_lent = h.drive_lent;
          storage_lent = h.storage_lent;
          drive = λ spared. h.drive (drive_back (sent a w) _ (ap spares_drive (sym all) ∙ spared));
          storage = λ spared. h.storage (storage_back (sent a w) _ (ap spares_storage (sym all) ∙ spared));
        }

-- a rule that leaves the surroundings alone carries them so
pub carries_looks : {D S A : Type 0} (disk : D → Disk) (memory : S → Memory) (drive_loan : D → Option GName) (storage_loan : S → Option GName) (rule : Act A) (at : Surroundings D S) (x : A) → Looks disk memory rule at x → Carries disk memory drive_loan storage_loan rule at x at
carries_looks disk memory drive_loan storage_loan rule at x came = record { came = came; device = refl; drive_lent = refl; storage_lent = refl; drive = λ _. refl; storage = λ _. refl }
