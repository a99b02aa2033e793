-- The marks that a table holds.
--   held   the entries that are used, the oldest first
use Rattle.std.specs.Prelude.{ℕ, List, take}
use Rattle.basics.specs.declared.marks.Marks.{Marks}

abbrev pub held : {T : Type 0} {N : ℕ} → Marks T N → List T
held m = take m.used m.entries
