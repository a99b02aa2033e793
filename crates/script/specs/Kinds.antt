-- The fixed words that stand second in a line.
--   picked         what a table of words has for a word
--   storage_kind   behind `storage`
--   pack_kind      behind `pack`
--   look_kind      behind `show`
--   field_kind     behind `defect` and `undefect`
use Rattle.std.specs.Prelude.{ℕ, cond, List, [], ◌∷◌, Some, None, codes, Option}
use Rattle.std.specs.Str.{bytes_eq}
use Rattle.drive.specs.declared.defect.Field.{Field}
use Rattle.drive.specs.declared.defect.Field.TheVariants.{Id, Data}
use Rattle.script.specs.declared.kinds.StorageKind.{StorageKind}
use Rattle.script.specs.declared.kinds.StorageKind.TheVariants.{Plain, Keyed, File}
use Rattle.script.specs.declared.kinds.PackKind.{PackKind}
use Rattle.script.specs.declared.kinds.PackKind.TheVariants.{Plain as PlainPack, Chained, Fresh}
use Rattle.script.specs.declared.kinds.LookKind.{LookKind}
use Rattle.script.specs.declared.kinds.LookKind.TheVariants.{Card, Status, Words, Track, Places}

unfoldable pub picked : {K : Type 0} → List (List ℕ × K) → List ℕ → Option K
picked [] w = None
picked (t ∷ ts) w = cond (bytes_eq w t.0) (Some t.1) (picked ts w)

unfoldable pub storage_kind : List ℕ → Option StorageKind
storage_kind w = picked ((codes "plain", Plain) ∷ (codes "keyed", Keyed) ∷ (codes "file", File) ∷ []) w

unfoldable pub pack_kind : List ℕ → Option PackKind
pack_kind w = picked ((codes "plain", PlainPack) ∷ (codes "chained", Chained) ∷ (codes "fresh", Fresh) ∷ []) w

unfoldable pub look_kind : List ℕ → Option LookKind
look_kind w = picked ((codes "card", Card) ∷ (codes "status", Status) ∷ (codes "words", Words) ∷ (codes "track", Track) ∷ (codes "places", Places) ∷ []) w

unfoldable pub field_kind : List ℕ → Option Field
field_kind w = picked ((codes "id", Id) ∷ (codes "data", Data) ∷ []) w
