-- Places, and what is sent to them.
--   Place        where something can be sent: a storage word, or the data of a sector
--   Content      what a place holds: a word, or data with their condition
--   place_of, content_of   where something sent goes, and what it puts there: a short sector is padded with zeros, and good
--   same_place   a test on places
--   holds        what a world holds at a place
--   goes_to, none_to, some_to   whether something sent, none or some of a list goes to a place
--   Agree        whether two worlds reply alike to a list of queries
use Rattle.std.specs.Prelude.{◌≡◌, ℕ, Bool, false, not, ◌&&◌, List, [], ◌∷◌, ◌==◌}
use Rattle.drive.specs.Disk.{DataField, same_track}
use Rattle.drive.specs.Search.{some_of}
use Rattle.drive.specs.declared.geometry.Track.{Track}
use Rattle.drive.specs.declared.sector.Condition.TheVariants.{Good}
use Rattle.card.specs.Acts.{World, Query, Sent, to_word, to_sector, answer, bytes_of, padded}

pub data Place : Type 0 where
  word_place : ℕ → Place
  data_place : Track → ℕ → Place

pub data Content : Type 0 where
  a_word : ℕ → Content
  a_field : DataField → Content

abbrev pub place_of : Sent → Place
place_of (to_word a x) = word_place a
place_of (to_sector t p ws) = data_place t p

abbrev pub content_of : Sent → Content
content_of (to_word a x) = a_word x
content_of (to_sector t p ws) = a_field record { bytes = padded (bytes_of ws); condition = Good }

abbrev pub same_place : Place → Place → Bool
same_place (word_place a) (word_place b) = a == b
same_place (word_place a) (data_place u q) = false
same_place (data_place t p) (word_place b) = false
same_place (data_place t p) (data_place u q) = same_track t u && p == q

abbrev pub holds : World → Place → Content
holds w (word_place a) = a_word (w.memory.words a)
holds w (data_place t p) = a_field (w.disk.sector t p).datum

abbrev pub goes_to : Place → Sent → Bool
goes_to pl s = same_place pl (place_of s)

abbrev pub some_to : Place → List Sent → Bool
some_to pl ss = some_of (goes_to pl) ss

abbrev pub none_to : Place → List Sent → Bool
none_to pl ss = not (some_to pl ss)

abbrev pub Agree : List Query → World → World → Type 0
Agree [] w u = Unit {0}
Agree (q ∷ qs) w u = (answer q w ≡ answer q u) × Agree qs w u
