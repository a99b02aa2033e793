-- Calls that send nothing to the drive, or to the storage, leave it as it was. Assumes nothing.
use Rattle.std.specs.Borrow.{GName}
use Rattle.std.specs.Prelude.{Option}
use Rattle.std.proofs.Common.{◌≡◌, ℕ, ◌+◌, ◌<◌, ◌≤◌, Bool, true, List, ◌∷◌, ◌++◌, length, get_or, drop, set, sym, refl, ap, ◌∙◌, arith}
use Rattle.std.proofs.lemmas.List.{drop_more, drop-set-lt}
use Rattle.answers.specs.declared.answer.Answer.{Answer}
use Rattle.storage.specs.Memory.{Memory}
use Rattle.drive.specs.Disk.{Disk}
use Rattle.card.specs.Acts.{World, Sent, spares_storage, spares_drive, Ended, ends, ended, sent}
use Rattle.card.specs.Calls.{Turn, turn}
use Rattle.card.specs.Carrying.{world_around, Carries}
use Rattle.card.specs.Rules.{call}
use Rattle.card.specs.declared.call.Call.{Call}
use Rattle.card.specs.declared.registers.Card.{Card}
use Rattle.card.specs.declared.surroundings.Surroundings.{Surroundings}
use Rattle.card.proofs.Spares.{storage_front, storage_back, drive_front, drive_back}
use Rattle.runs.specs.Runs.{run, calls_of, answers_of}
use Rattle.runs.specs.declared.entry.Entry.{Entry}
use Rattle.runs.proofs.Auditing.{run_sends}
use Rattle.runs.proofs.Running.{Running, running_none, running_read, running_all}

-- of a test that a list of things sent passes exactly if its parts do
module _ (spares : List Sent → Bool) (front : (xs ys : List Sent) → spares (xs ++ ys) ≡ true → spares xs ≡ true) (back : (xs ys : List Sent) → spares (xs ++ ys) ≡ true → spares ys ≡ true) where
  spares_next : (c c' : Card) (x : Call) (a : Answer) (xs : List Call) (w w' : World) → ends (call c x) w ≡ ended (turn c' a) w' → spares (sent (run c (x ∷ xs)) w) ≡ true
      → (spares (sent (call c x) w) ≡ true) × (spares (sent (run c' xs) w') ≡ true)
  spares_next c c' x a xs w w' came spared =
      let all = ap spares (sym (run_sends c w x xs)) ∙ spared in (
        front (sent (call c x) w) _ all,
        sym (ap (λ (e : Ended Turn). spares (sent (run e.result.card xs) e.world)) came) ∙ back (sent (call c x) w) _ all,
      )

-- if the run from the start spares it, what was held is still there, and the calls to come spare it too
abbrev pub Keeping : {X : Type 0} → (List Sent → Bool) → Card → List Entry → List Entry → World → World → ℕ → Card → X → X → Type 0
Keeping spares start first now w w' i c before here =
    spares (sent (run start (calls_of first)) w) ≡ true → (here ≡ before) × (spares (sent (run c (calls_of (drop i now))) w') ≡ true)

pub keeping_more : {X : Type 0} (spares : List Sent → Bool) (front : (xs ys : List Sent) → spares (xs ++ ys) ≡ true → spares xs ≡ true) (back : (xs ys : List Sent) → spares (xs ++ ys) ≡ true → spares ys ≡ true)
    (start : Card) (first now : List Entry) (w w' w'' : World) (i : ℕ) (c c' : Card) (before here later : X) → Keeping spares start first now w w' i c before here → (z : Entry) (a : Answer) → i < length now
    → ends (call c (get_or now i z).call) w' ≡ ended (turn c' a) w'' → (spares (sent (call c (get_or now i z).call) w') ≡ true → later ≡ here)
    → Keeping spares start first (set now i record { call = (get_or now i z).call; answer = a }) w w'' (i + 1) c' before later
keeping_more spares front back start first now w w' w'' i c c' before here later keeping z a within came kept spared =
    let old = keeping spared in
    let e = get_or now i z in
    let rest = drop (i + 1) now in
    let next : calls_of (drop i now) ≡ e.call ∷ calls_of rest = ap calls_of (drop_more now i z within) in
    let parts = spares_next spares front back c c' e.call a (calls_of rest) w' w'' came (sym (ap (λ (l : List Call). spares (sent (run c l) w')) next) ∙ old.1) in
    let same : drop (i + 1) (set now i record { call = e.call; answer = a }) ≡ rest = drop-set-lt (i + 1) now i record { call = e.call; answer = a } (omega arith) in
    (kept parts.0 ∙ old.0, ap (λ (l : List Entry). spares (sent (run c' (calls_of l)) w'')) same ∙ parts.1)

-- the first i calls of the entries were carried out: c is the card that they left, and here what it is attached to
pub record Underway {D S : Type 0} (disk : D → Disk) (memory : S → Memory) (drive_loan : D → Option GName) (storage_loan : S → Option GName) (start : Card) (first now : List Entry) (before here : Surroundings D S) (i : ℕ) (c : Card) : Type 0 where
  pub running : Running start first now (world_around disk memory before) (world_around disk memory here) i c
  pub device : here.device ≡ before.device
  pub drive_lent : drive_loan here.drive ≡ drive_loan before.drive
  pub storage_lent : storage_loan here.storage ≡ storage_loan before.storage
  pub drive : Keeping spares_drive start first now (world_around disk memory before) (world_around disk memory here) i c before.drive here.drive
  pub storage : Keeping spares_storage start first now (world_around disk memory before) (world_around disk memory here) i c before.storage here.storage

module _ {D S : Type 0} (disk : D → Disk) (memory : S → Memory) (drive_loan : D → Option GName) (storage_loan : S → Option GName) (start : Card) (first : List Entry) (before : Surroundings D S) where
  pub underway_none : Underway disk memory drive_loan storage_loan start first first before before 0 start
  underway_none = record {
    running = running_none start first first (world_around disk memory before) refl;
    device = refl;
    drive_lent = refl;
    storage_lent = refl;
    drive = λ spared. (refl, spared);
    storage = λ spared. (refl, spared);
  }

  module _ (now : List Entry) (here : Surroundings D S) (i : ℕ) (c : Card) (u : Underway disk memory drive_loan storage_loan start first now before here i c) where
    pub underway_more : (later : Surroundings D S) (c' : Card) (z : Entry) (a : Answer) → i < length now → Carries disk memory drive_loan storage_loan (call c (get_or now i z).call) here (turn c' a) later
        → Underway disk memory drive_loan storage_loan start first (set now i record { call = (get_or now i z).call; answer = a }) before later (i + 1) c'
    underway_more later c' z a within next =
        let w = world_around disk memory before in
        let w' = world_around disk memory here in
        let w'' = world_around disk memory later in
        record {
          running = running_read start first now w w' w'' i c c' u.running z a within next.came;
          device = next.device ∙ u.device;
          drive_lent = next.drive_lent ∙ u.drive_lent;
          storage_lent = next.storage_lent ∙ u.storage_lent;
          drive = keeping_more spares_drive drive_front drive_back start first now w w' w'' i c c' before.drive here.drive later.drive u.drive z a within next.came next.drive;
          storage = keeping_more spares_storage storage_front storage_back start first now w w' w'' i c c' before.storage here.storage later.storage u.storage z a within next.came next.storage;
        }

    pub underway_all : length now ≤ i → Carries disk memory drive_loan storage_loan (run start (calls_of first)) before record { card = c; answers = answers_of now } here
    underway_all past = record {
      came = running_all start first now (world_around disk memory before) (world_around disk memory here) i c u.running past;
      device = u.device;
      drive_lent = u.drive_lent;
      storage_lent = u.storage_lent;
      drive = λ spared. (u.drive spared).0;
      storage = λ spared. (u.storage spared).0;
    }
