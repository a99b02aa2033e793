-- What each make of storage means, and when it can be made.
--   lawful_size     the sizes that a storage can have: even, 2 to 65,536
--   word_at         the word at an address of a list of bytes, high byte first; zero where none stands
--   inside          a verdict where a word stands, and invalid elsewhere
--   plain_memory    plain storage: every word may be read and stored with every key
--   and_then        the first verdict, and the second where the first allows the access
--   guarded         a storage below, with a second verdict on what it allows
--   key_verdict     what the key of an address's block says to a key
--   keyed_memory    storage in blocks with a key each: the block's key and key 0 open it
--   parity_memory   a storage below, where reading a marked word is a storage data check
--   Parity          the parity layer over a storage
--   word_mark       what entering or lifting a parity mark answers: a mark goes on a word
use Rattle.std.specs.Prelude.{ℕ, ◌+◌, ◌*◌, ◌/◌, ◌%◌, Bool, cond, ◌&&◌, ◌||◌, List, length, Ok, Err, Result, ◌==◌, nat_eq, nat_le, slice_index}
use Rattle.basics.specs.Marks.{has, where_there}
use Rattle.basics.specs.declared.fault.Fault.TheVariants.{StorageDataCheck, InvalidAddress, ProtectCheck}
use Rattle.basics.specs.declared.layer.Layer.{Layer}
use Rattle.basics.specs.declared.refusal.Refusal.{Refusal}
use Rattle.storage.specs.declared.parity.Words.{Words}
use Rattle.storage.specs.Memory.{Verdict, Memory, is_word}

abbrev pub lawful_size : ℕ → Bool
lawful_size n = n % 2 == 0 && nat_le 2 n && nat_le n 65536

abbrev pub word_at : List ℕ → ℕ → ℕ
word_at bytes a = cond (is_word (length bytes) a) (slice_index bytes a * 256 + slice_index bytes (a + 1)) 0

abbrev pub inside : ℕ → ℕ → Verdict → Verdict
inside size a v = cond (is_word size a) v (Err InvalidAddress)

abbrev pub plain_memory : List ℕ → Memory
plain_memory bytes = record {
  size = length bytes;
  words = word_at bytes;
  reads = λ a k. inside (length bytes) a (Ok tt);
  stores = λ a k. inside (length bytes) a (Ok tt);
}

-- the first verdict, and the second where the first allows the access
abbrev pub and_then : Verdict → Verdict → Verdict
and_then (Ok _) v = v
and_then (Err f) v = Err f

abbrev pub guarded : (ℕ → ℕ → Verdict) → (ℕ → ℕ → Verdict) → Memory → Memory
guarded reading storing m = record {
  size = m.size;
  words = m.words;
  reads = λ a k. and_then (m.reads a k) (reading a k);
  stores = λ a k. and_then (m.stores a k) (storing a k);
}

-- a block's key counts by its low three bits
abbrev pub key_verdict : List ℕ → ℕ → ℕ → Verdict
key_verdict keys a k = cond (k == 0 || k == slice_index keys (a / 2048) % 8) (Ok tt) (Err ProtectCheck)

abbrev pub keyed_memory : List ℕ → Memory → Memory
keyed_memory keys m = guarded (key_verdict keys) (key_verdict keys) m

abbrev pub parity_memory : List ℕ → Memory → Memory
parity_memory marks m = guarded (λ a k. cond (has nat_eq a marks) (Err StorageDataCheck) (Ok tt)) (λ a k. Ok tt) m

abbrev pub Parity : Type 0 → Type 0
Parity S = Layer S ℕ Words 16

abbrev pub word_mark : Memory → ℕ → Result (Unit {0}) Refusal → Result (Unit {0}) Refusal
word_mark m a answer = where_there (is_word m.size a) answer
