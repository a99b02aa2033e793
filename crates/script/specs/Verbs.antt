-- The first words of lines.
--   call_text, set_up_text, verb_text   the word of a verb
--   verbs        all verbs
--   verb_of      the verb that a word is, if any
use Rattle.std.specs.Prelude.{ℕ, List, [], ◌∷◌, codes, Option}
use Rattle.std.specs.List.{find}
use Rattle.std.specs.Str.{bytes_eq}
use Rattle.script.specs.declared.verb.CallVerb.{CallVerb}
use Rattle.script.specs.declared.verb.CallVerb.TheVariants.{Command, Step, Service, Ready, Unready, Halt, Store}
use Rattle.script.specs.declared.verb.SetUpVerb.{SetUpVerb}
use Rattle.script.specs.declared.verb.SetUpVerb.TheVariants.{Storage, Pack, Device, Parity, Unparity, Defect, Undefect, Fresh}
use Rattle.script.specs.declared.verb.Verb.{Verb}
use Rattle.script.specs.declared.verb.Verb.TheVariants.{Calls, SetsUp, Saves, Shows}

abbrev pub call_text : CallVerb → List ℕ
call_text Command = codes "command"
call_text Step = codes "step"
call_text Service = codes "service"
call_text Ready = codes "ready"
call_text Unready = codes "unready"
call_text Halt = codes "halt"
call_text Store = codes "store"

abbrev pub set_up_text : SetUpVerb → List ℕ
set_up_text Storage = codes "storage"
set_up_text Pack = codes "pack"
set_up_text Device = codes "device"
set_up_text Parity = codes "parity"
set_up_text Unparity = codes "unparity"
set_up_text Defect = codes "defect"
set_up_text Undefect = codes "undefect"
set_up_text Fresh = codes "fresh"

abbrev pub verb_text : Verb → List ℕ
verb_text (Calls v) = call_text v
verb_text (SetsUp v) = set_up_text v
verb_text Saves = codes "save"
verb_text Shows = codes "show"

unfoldable pub verbs : List Verb
verbs = Calls Command ∷ Calls Step ∷ Calls Service ∷ Calls Ready ∷ Calls Unready ∷ Calls Halt ∷ Calls Store
    ∷ SetsUp Storage ∷ SetsUp Pack ∷ SetsUp Device ∷ SetsUp Parity ∷ SetsUp Unparity ∷ SetsUp Defect ∷ SetsUp Undefect ∷ SetsUp Fresh
    ∷ Saves ∷ Shows ∷ []

unfoldable pub verb_of : List ℕ → Option Verb
verb_of w = find (λ v. bytes_eq w (verb_text v)) verbs
