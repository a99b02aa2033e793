-- The defect layer: a drive below, with marks that each spoil the ID or the data of a place.
--   same_field, same_defect   tests on fields and defects
--   defect_of      the defect of a field of a place
--   spoils         whether a list of marks spoils a field of a place
--   spoiled_if     a condition under a mark, or under none
--   with_defects   a sector whose fields are spoiled or not
--   defect_disk    what the layer means: a mark changes a condition and no byte
--   DefectLayer    the layer over a drive
--   place_mark     what entering or lifting a mark answers: a mark goes on a place of the drive
use Rattle.std.specs.Prelude.{ℕ, Bool, true, false, cond, ◌&&◌, List, Result, ◌==◌}
use Rattle.basics.specs.Marks.{has, where_there}
use Rattle.basics.specs.declared.layer.Layer.{Layer}
use Rattle.basics.specs.declared.refusal.Refusal.{Refusal}
use Rattle.drive.specs.Disk.{Sector, Disk, on_drive, same_track}
use Rattle.drive.specs.declared.defect.Defect.{Defect}
use Rattle.drive.specs.declared.defect.Field.{Field}
use Rattle.drive.specs.declared.defect_layer.Places.{Places}
use Rattle.drive.specs.declared.defect.Field.TheVariants.{Id, Data}
use Rattle.drive.specs.declared.geometry.Track.{Track}
use Rattle.drive.specs.declared.sector.Condition.{Condition}
use Rattle.drive.specs.declared.sector.Condition.TheVariants.{Spoiled}

abbrev pub same_field : Field → Field → Bool
same_field Id Id = true
same_field Id Data = false
same_field Data Id = false
same_field Data Data = true

abbrev pub same_defect : Defect → Defect → Bool
same_defect x y = same_field x.field y.field && same_track x.track y.track && x.place == y.place

abbrev pub defect_of : Field → Track → ℕ → Defect
defect_of f t p = record { field = f; track = t; place = p }

abbrev pub spoils : List Defect → Field → Track → ℕ → Bool
spoils marks f t p = has same_defect (defect_of f t p) marks

abbrev pub spoiled_if : Bool → Condition → Condition
spoiled_if b c = cond b Spoiled c

abbrev pub with_defects : Bool → Bool → Sector → Sector
with_defects i d s = record {
  id = record { id = s.id.id; condition = spoiled_if i s.id.condition };
  datum = record { bytes = s.datum.bytes; condition = spoiled_if d s.datum.condition };
}

abbrev pub defect_disk : List Defect → Disk → Disk
defect_disk marks d = record {
  heads = d.heads;
  sector = λ t p. with_defects (spoils marks Id t p) (spoils marks Data t p) (d.sector t p);
}

abbrev pub DefectLayer : Type 0 → Type 0
DefectLayer D = Layer D Defect Places 32

abbrev pub place_mark : Disk → Defect → Result (Unit {0}) Refusal → Result (Unit {0}) Refusal
place_mark d x answer = where_there (on_drive d.heads x.track x.place) answer
