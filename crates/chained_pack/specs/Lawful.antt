-- What makes bytes a chained pack, and what is wrong with those that are none.
--   room            how many records of 268 bytes there is room for behind the header
--   length_clear    the length is that of a header and at most 65,535 whole records, no fewer than are in use
--   header_clear    the text 4962, two or three heads, the zero
--   records_clear   of each record in use: its track and place are on the drive, and both conditions are 0 or 1
--   chained_fault   why bytes are no chained pack, if they are none: each rule is kept by the whole pack before the next is looked at
--   is_lawful       bytes that are a chained pack: there is no fault
use Rattle.std.specs.Prelude.{ℕ, ◌+◌, ◌-◌, ◌*◌, ◌/◌, Bool, cond, not, ◌&&◌, ◌||◌, List, length, is_some, Some, None, Option, ◌==◌, nat_le, nat_lt, slice_index}
use Rattle.basics.specs.declared.refusal.Refusal.{Refusal}
use Rattle.basics.specs.declared.refusal.Refusal.TheVariants.{Length, Header, Record, Chain, Double}
use Rattle.chained_pack.specs.Chains.{every_record, chains_clear, places_once}
use Rattle.chained_pack.specs.Format.{heads_of, head_of, directory}

abbrev pub room : List ℕ → ℕ
room bytes = (length bytes - 136) / 268

abbrev pub length_clear : List ℕ → Bool
length_clear bytes =
    (length bytes == 136 + room bytes * 268) && nat_le (room bytes) 65535 && nat_le (directory bytes).count (room bytes)

abbrev pub text_clear : List ℕ → Bool
text_clear bytes =
    (slice_index bytes 0 == 0x34) && slice_index bytes 1 == 0x39 && slice_index bytes 2 == 0x36 && slice_index bytes 3 == 0x32

abbrev pub header_clear : List ℕ → Bool
header_clear bytes =
    text_clear bytes && (heads_of bytes == 2 || heads_of bytes == 3) && slice_index bytes 5 == 0

abbrev pub record_clear : List ℕ → ℕ → Bool
record_clear bytes i =
    nat_lt (head_of bytes i).track (303 * heads_of bytes) && nat_lt (head_of bytes i).place 60
    && nat_le (head_of bytes i).id_condition 1 && nat_le (head_of bytes i).data_condition 1

abbrev pub records_clear : List ℕ → Bool
records_clear bytes = every_record (directory bytes) (record_clear bytes)

abbrev pub chained_fault : List ℕ → Option Refusal
chained_fault bytes =
    cond (length_clear bytes)
    (cond (header_clear bytes)
    (cond (records_clear bytes)
    (cond (chains_clear (directory bytes))
    (cond (places_once (directory bytes)) None (Some Double))
    (Some Chain))
    (Some Record))
    (Some Header))
    (Some Length)

abbrev pub is_lawful : List ℕ → Bool
is_lawful bytes = not (is_some (chained_fault bytes))
