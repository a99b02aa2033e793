-- A layer that adds a verdict to a storage below. Assumes nothing. Not all of it is cited here.
use Rattle.std.specs.Prelude.{◌≡◌, ℕ, Ok, Err, ◌≢◌, refl}
use Rattle.std.proofs.Common.{ap}
use Rattle.basics.specs.declared.fault.Fault.TheVariants.{StorageDataCheck, InvalidAddress}
use Rattle.storage.specs.Memory.{Verdict, Memory, Lawful, with_word, where_allowed, stored}
use Rattle.storage.specs.Makes.{and_then, guarded}

-- where the layer allows it, the verdict is the one below
pub then_ok : (v u : Verdict) (x : Unit {0}) → Ok x ≡ u → v ≡ and_then v u
then_ok (Ok _) u x ok = ok
then_ok (Err f) u x ok = refl

-- a fault below comes through
pub fault_first : (v u : Verdict) → v ≡ Err InvalidAddress → and_then v u ≡ Err InvalidAddress
fault_first v u bad = ap (λ w. and_then w u) bad

only_below : (v u : Verdict) → (u ≢ Err StorageDataCheck) → (v ≢ Err StorageDataCheck) → and_then v u ≢ Err StorageDataCheck
only_below (Ok _) u p q e = p e
only_below (Err f) u p q e = q e

module _ (reading storing : ℕ → ℕ → Verdict) (m : Memory) where
  pub lawful-guarded : ((a k : ℕ) → storing a k ≢ Err StorageDataCheck) → Lawful m → Lawful (guarded reading storing m)
  lawful-guarded clean l = record {
    even = l.even;
    low = l.low;
    high = l.high;
    nothing = l.nothing;
    no_read = λ a k none. fault_first (m.reads a k) (reading a k) (l.no_read a k none);
    no_store = λ a k none. fault_first (m.stores a k) (storing a k) (l.no_store a k none);
    no_parity = λ a k. only_below (m.stores a k) (storing a k) (clean a k) (l.no_parity a k);
  }

  -- what the layer allows is stored below, and nowhere else
  pub stored_below : (a k w : ℕ) (x : Unit {0}) → Ok x ≡ storing a k → guarded reading storing (stored m a k w) ≡ stored (guarded reading storing m) a k w
  stored_below a k w x ok = go (m.stores a k) (storing a k) ok where
    go : (v u : Verdict) → Ok x ≡ u → guarded reading storing (where_allowed v (with_word m a w) m)
        ≡ where_allowed (and_then v u) (with_word (guarded reading storing m) a w) (guarded reading storing m)
    go (Ok _) u e = ap (λ t. where_allowed t (with_word (guarded reading storing m) a w) (guarded reading storing m)) e
    go (Err f) u e = refl
