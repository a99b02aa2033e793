-- A fresh track: good IDs with flag zero in the order of sixty, and good zero data.
--   order          the sectors of a fresh track by place
--   order_rule     the rule of that order: 00, 30, 01, 31 and so on to 29, 59
--   fresh_record   the bytes of a place of a fresh track
--   fresh_track    the bytes of the whole track
--   fresh_sector   what stands at a place of a fresh track
--   refreshed      a drive with one track made fresh
use Rattle.std.specs.Prelude.{ℕ, ◌+◌, ◌/◌, ◌%◌, cond, ◌&&◌, List, [], ◌∷◌, ◌++◌, replicate, ◌==◌, nat_lt}
use Rattle.std.specs.List.{flat_map}
use Rattle.drive.specs.Disk.{Sector, Disk, same_track}
use Rattle.drive.specs.declared.geometry.Track.{Track}
use Rattle.drive.specs.declared.sector.Condition.TheVariants.{Good}

unfoldable pub order : List ℕ
order =
    0 ∷ 30 ∷ 1 ∷ 31 ∷ 2 ∷ 32 ∷ 3 ∷ 33 ∷ 4 ∷ 34 ∷ 5 ∷ 35 ∷ 6 ∷ 36 ∷ 7 ∷ 37 ∷ 8 ∷ 38 ∷ 9 ∷ 39 ∷
    10 ∷ 40 ∷ 11 ∷ 41 ∷ 12 ∷ 42 ∷ 13 ∷ 43 ∷ 14 ∷ 44 ∷ 15 ∷ 45 ∷ 16 ∷ 46 ∷ 17 ∷ 47 ∷ 18 ∷ 48 ∷ 19 ∷ 49 ∷
    20 ∷ 50 ∷ 21 ∷ 51 ∷ 22 ∷ 52 ∷ 23 ∷ 53 ∷ 24 ∷ 54 ∷ 25 ∷ 55 ∷ 26 ∷ 56 ∷ 27 ∷ 57 ∷ 28 ∷ 58 ∷ 29 ∷ 59 ∷ []

abbrev pub order_rule : ℕ → ℕ
order_rule p = cond (p % 2 == 0) (p / 2) (30 + p / 2)

unfoldable pub zero_data : List ℕ
zero_data = replicate 256 0

-- both conditions good, the ID, a zero
abbrev pub fresh_head : Track → ℕ → List ℕ
fresh_head t s = 0 ∷ 0 ∷ 0 ∷ t.cylinder / 256 ∷ t.cylinder % 256 ∷ t.head ∷ s ∷ 0 ∷ []

unfoldable pub fresh_record : Track → ℕ → List ℕ
fresh_record t s = fresh_head t s ++ zero_data

unfoldable pub fresh_track : Track → List ℕ
fresh_track t = flat_map (fresh_record t) order

abbrev pub fresh_sector : Track → ℕ → Sector
fresh_sector t p = record {
  id = record {
    id = record { flag = 0; cylinder = t.cylinder; head = t.head; sector = order_rule p };
    condition = Good;
  };
  datum = record { bytes = zero_data; condition = Good };
}

abbrev pub refreshed : Disk → Track → Disk
refreshed d t = record {
  heads = d.heads;
  sector = λ u p. cond (same_track u t && nat_lt p 60) (fresh_sector t p) (d.sector u p);
}
