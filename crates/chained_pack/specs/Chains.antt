-- The chains of a pack: which records lie on which chain, and which record has a place.
--   Directory      the count of the records in use (1 to count), the first index of each chain, and each record's next index, track and place
--   chain_from     the records of a chain in order, from an index on, so many at most; zero ends it
--   chain_of       the records of a chain: without a loop it has no more than are in use
--   end_from       the index that a chain comes to after so many records, zero past its end
--   each_of        whether each of a list passes a test
--   every_record   whether each record in use passes a test
--   chain_clear    a chain comes to its end, its indexes are of records in use, and its records are of its own tracks: track mod 64
--   on_chain       whether a record lies on a chain
--   chains_clear   every chain is clear, and every record in use lies on the chain of its track: none is left over
--   is_at, alike   whether a record has a track and place; whether two records have the same
--   places_once    no place is recorded twice
--   record_of      the record in use that has a track and place, if there is one
--   found_on       the first such record on the chain of the track
--   is_first       whether a record is the first of its track and place on its chain
use Rattle.std.specs.Prelude.{ℕ, zero, suc, ◌+◌, ◌%◌, Bool, true, false, cond, not, ◌&&◌, List, [], ◌∷◌, Some, None, Option, ◌==◌, nat_eq, nat_le}
use Rattle.drive.specs.Search.{some_of}
use Rattle.pack.specs.Layout.{every_below}

pub record Directory : Type 0 where
  pub count : ℕ
  pub first : ℕ → ℕ
  pub next : ℕ → ℕ
  pub track : ℕ → ℕ
  pub place : ℕ → ℕ

unfoldable pub chain_from : (ℕ → ℕ) → ℕ → ℕ → List ℕ
chain_from next zero i = []
chain_from next (suc most) i = cond (i == 0) [] (i ∷ chain_from next most (next i))

abbrev pub chain_of : Directory → ℕ → List ℕ
chain_of d k = chain_from d.next d.count (d.first k)

unfoldable pub end_from : (ℕ → ℕ) → ℕ → ℕ → ℕ
end_from next zero i = i
end_from next (suc most) i = cond (i == 0) 0 (end_from next most (next i))

unfoldable pub each_of : (ℕ → Bool) → List ℕ → Bool
each_of test [] = true
each_of test (i ∷ is) = test i && each_of test is

abbrev pub every_record : Directory → (ℕ → Bool) → Bool
every_record d test = every_below (λ j. test (j + 1)) d.count

-- a record that may lie on chain k: of its tracks, and followed by a record in use or by none
abbrev pub belongs : Directory → ℕ → ℕ → Bool
belongs d k i = d.track i % 64 == k && nat_le (d.next i) d.count

abbrev pub chain_clear : Directory → ℕ → Bool
chain_clear d k =
    nat_le (d.first k) d.count && each_of (belongs d k) (chain_of d k) && end_from d.next d.count (d.first k) == 0

abbrev pub on_chain : Directory → ℕ → ℕ → Bool
on_chain d k i = some_of (nat_eq i) (chain_of d k)

abbrev pub chains_clear : Directory → Bool
chains_clear d = every_below (chain_clear d) 64 && every_record d (λ i. on_chain d (d.track i % 64) i)

abbrev pub is_at : Directory → ℕ → ℕ → ℕ → Bool
is_at d t p i = d.track i == t && d.place i == p

abbrev pub alike : Directory → ℕ → ℕ → Bool
alike d i j = is_at d (d.track i) (d.place i) j

-- no record in use has the track and place of one before it
abbrev pub places_once : Directory → Bool
places_once d = every_below (λ i. every_below (λ j. not (alike d (i + 1) (j + 1))) i) d.count

-- the last of the records 1 to n that passes a test
unfoldable pub record_below : (ℕ → Bool) → ℕ → Option ℕ
record_below test zero = None
record_below test (suc n) = cond (test (n + 1)) (Some (n + 1)) (record_below test n)

abbrev pub record_of : Directory → ℕ → ℕ → Option ℕ
record_of d t p = record_below (is_at d t p) d.count

unfoldable pub first_pass : (ℕ → Bool) → List ℕ → Option ℕ
first_pass test [] = None
first_pass test (i ∷ is) = cond (test i) (Some i) (first_pass test is)

abbrev pub found_on : Directory → ℕ → ℕ → Option ℕ
found_on d t p = first_pass (is_at d t p) (chain_of d (t % 64))

abbrev pub is_index : ℕ → Option ℕ → Bool
is_index i (Some j) = j == i
is_index i None = false

abbrev pub is_first : Directory → ℕ → Bool
is_first d i = is_index i (found_on d (d.track i) (d.place i))
