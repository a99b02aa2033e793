-- What is printed is read back.
--   Whole            a call whose words have 16 bits and whose key has 8, as all calls in a program
--   Sayable          calls that lines can say
--   ReadBack         a call that a line can say, printed as its line, is read as that call
--   call_script      calls printed a line each
--   ScriptReadBack   calls that lines can say, printed a line each: the lines are read as these calls, and after the last there is nothing
use Rattle.std.specs.Prelude.{◌≡◌, ℕ, ◌<◌, true, List, [], ◌∷◌, ◌++◌, map, Some}
use Rattle.card.specs.declared.call.Call.{Call}
use Rattle.card.specs.declared.call.Call.TheVariants.{Command, Halt, Store, Readiness, Service, Step}
use Rattle.script.specs.declared.line.Line.TheVariants.{Blank, Call as Calls}
use Rattle.script.specs.Printings.{sayable, call_line}
use Rattle.script.specs.Readings.{line_of}
use Rattle.script.specs.Words.{words, lines}

abbrev pub Whole : Call → Type 0
Whole (Command a b p) = (a < 0x10000) × (b < 0x10000)
Whole Halt = Unit {0}
Whole (Store a k w) = (k < 0x100) × (w < 0x10000)
Whole (Readiness r) = Unit {0}
Whole Service = Unit {0}
Whole Step = Unit {0}

abbrev pub ReadBack : Type 0
ReadBack = (c : Call) → Whole c → sayable c ≡ true → line_of (words (call_line c)) ≡ Some (Calls c)

unfoldable pub call_script : List Call → List ℕ
call_script [] = []
call_script (c ∷ cs) = call_line c ++ (10 ∷ call_script cs)

abbrev pub Sayable : List Call → Type 0
Sayable [] = Unit {0}
Sayable (c ∷ cs) = (Whole c × (sayable c ≡ true)) × Sayable cs

abbrev pub ScriptReadBack : Type 0
ScriptReadBack = (cs : List Call) → Sayable cs → map (λ l. line_of (words l)) (lines (call_script cs)) ≡ map (λ c. Some (Calls c)) cs ++ (Some Blank ∷ [])
