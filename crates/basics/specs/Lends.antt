-- What a layer ends as, where a part of it was lent for writing.
--   with_below, with_marks     a layer with something else below it, or with another table of marks
--   lends_below, lends_marks   the layer ends with what was left there, and the other part stays
use Rattle.std.specs.Prelude.{ℕ}
use Rattle.std.specs.Borrow.{Lends, Fml, RattleType, MutBor}
use Rattle.basics.specs.declared.layer.Layer.{Layer}
use Rattle.basics.specs.declared.marks.Marks.{Marks}
use Rattle.basics.specs.contracts.layer.Layer.{the_row}
use Rattle.basics.specs.contracts.marks.Marks.{the_row as marks_row}

module _ {B M E : Type 0} {N : ℕ} (l : Layer B M E N) where
  abbrev pub with_below : B → Layer B M E N
  with_below b = record l { below = b }

  abbrev pub with_marks : Marks M N → Layer B M E N
  with_marks m = record l { marks = m }

module _ (B M E N : RattleType) (s : MutBor (the_row B M E N).Denot) where
  abbrev pub lends_below : MutBor B.Denot → Fml
  lends_below r = Lends (the_row B M E N) B s r (with_below s.now)

  abbrev pub lends_marks : MutBor (marks_row M N).Denot → Fml
  lends_marks r = Lends (the_row B M E N) (marks_row M N) s r (with_marks s.now)
