-- What a storage means.
--   Verdict           an access is allowed, or it meets a fault
--   Memory            the size, the word at each even address, and the verdict of each address and key, for reading and for storing
--   is_word           whether a word stands at an address: it is even and below the size
--   Lawful            what every make of storage owes
--   allowed, where_allowed   what is at hand, or what comes after, where a verdict allows it
--   with_word         a storage with one word set
--   loaded            what a read of a word answers
--   copying, copied   what a word copied to another address answers and leaves
--   stored            the storage after a store of a word: that word alone is set, and only where the store is allowed
use Rattle.std.specs.Prelude.{◌≡◌, ℕ, ◌%◌, ◌≤◌, Bool, false, cond, ◌&&◌, Ok, Err, Result, ◌==◌, ◌≢◌, nat_lt}
use Rattle.basics.specs.declared.fault.Fault.{Fault}
use Rattle.basics.specs.declared.fault.Fault.TheVariants.{StorageDataCheck, InvalidAddress}

abbrev pub Verdict : Type 0
Verdict = Result (Unit {0}) Fault

-- a key is 0 to 7
pub record Memory : Type 0 where
  pub size : ℕ
  pub words : ℕ → ℕ
  pub reads : ℕ → ℕ → Verdict
  pub stores : ℕ → ℕ → Verdict

abbrev pub is_word : ℕ → ℕ → Bool
is_word size a = a % 2 == 0 && nat_lt a size

pub record Lawful (m : Memory) : Type 0 where
  pub even : m.size % 2 ≡ 0
  pub low : 2 ≤ m.size
  pub high : m.size ≤ 65536
  -- where no word stands, there is nothing, and every access is invalid
  pub nothing : (a : ℕ) → is_word m.size a ≡ false → m.words a ≡ 0
  pub no_read : (a k : ℕ) → is_word m.size a ≡ false → m.reads a k ≡ Err InvalidAddress
  pub no_store : (a k : ℕ) → is_word m.size a ≡ false → m.stores a k ≡ Err InvalidAddress
  -- only a read can meet bad parity
  pub no_parity : (a k : ℕ) → m.stores a k ≢ Err StorageDataCheck

-- what is at hand, where the verdict allows it
abbrev pub allowed : Verdict → ℕ → Result ℕ Fault
allowed (Ok _) w = Ok w
allowed (Err f) w = Err f

abbrev pub loaded : Memory → ℕ → ℕ → Result ℕ Fault
loaded m a k = allowed (m.reads a k) (m.words a)

abbrev pub with_word : Memory → ℕ → ℕ → Memory
with_word m a w = record {
  size = m.size;
  words = λ b. cond (b == a) w (m.words b);
  reads = m.reads;
  stores = m.stores;
}

abbrev pub where_allowed : Verdict → Memory → Memory → Memory
where_allowed (Ok _) after before = after
where_allowed (Err f) after before = before

abbrev pub stored : Memory → ℕ → ℕ → ℕ → Memory
stored m a k w = where_allowed (m.stores a k) (with_word m a w) m

-- a word copied from one address to another: first its read is tried, then its store
abbrev pub copying : Memory → ℕ → ℕ → ℕ → Verdict
copying m from to k = elim (loaded m from k) [ Ok w ↦ m.stores to k | Err f ↦ Err f ]

abbrev pub copied : Memory → ℕ → ℕ → ℕ → Memory
copied m from to k = elim (loaded m from k) [ Ok w ↦ stored m to k w | Err f ↦ m ]
