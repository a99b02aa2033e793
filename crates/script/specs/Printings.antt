-- Calls and answers as lines.
--   spaced         words with one space between each two
--   sayable        whether a line can say a call: all but a store past address FFFFF
--   call_verb      the verb of a call
--   call_words     the words of a call behind its verb
--   call_line      a call as its line
--   detail         what an exception tells last: the word that failed, the sector, or nothing
--   ended_text     an exception with the address of its control block
--   refused_text   a refusal by its number and its word
--   answer_text    an answer, without the verb in front
--   answer_line    the answer of a call as its line
use Rattle.std.specs.Prelude.{ℕ, Bool, true, cond, List, [], ◌∷◌, ◌++◌, codes, decimal, nat_lt}
use Rattle.basics.specs.Numbers.{fault_number, fault_word}
use Rattle.answers.specs.Exceptions.{command_number, command_word, command_code, exception_number, exception_word, layer_of, layer_word, answer_number, answer_word}
use Rattle.answers.specs.declared.answer.Answer.{Answer}
use Rattle.answers.specs.declared.answer.Answer.TheVariants.{Accepted, CommandRefused, Done, StoreRefused, Interrupt, NothingWaits, Stepped, Ended, Idle}
use Rattle.answers.specs.declared.answer.Exception.{Exception}
use Rattle.answers.specs.declared.answer.Exception.TheVariants.{SpecificationCheck, Storage, NoRecordFound, FileDataCheck, EndOfTrack, SeekCheck, NotReady}
use Rattle.card.specs.declared.call.Call.{Call}
use Rattle.card.specs.declared.call.Call.TheVariants.{Command, Halt, Store, Readiness, Service, Step}
use Rattle.script.specs.declared.verb.CallVerb.{CallVerb}
use Rattle.script.specs.declared.verb.CallVerb.TheVariants.{Command as CommandVerb, Step as StepVerb, Service as ServiceVerb, Ready as ReadyVerb, Unready as UnreadyVerb, Halt as HaltVerb, Store as StoreVerb}
use Rattle.script.specs.Figures.{hex, hex_address}
use Rattle.script.specs.Verbs.{call_text}

abbrev pub spaced : List ℕ → List (List ℕ) → List ℕ
spaced w [] = w
spaced w (v ∷ vs) = w ++ (32 ∷ spaced v vs)

abbrev pub sayable : Call → Bool
sayable (Command a b p) = true
sayable Halt = true
sayable (Store a k w) = nat_lt a 0x100000
sayable (Readiness r) = true
sayable Service = true
sayable Step = true

abbrev pub call_verb : Call → CallVerb
call_verb (Command a b p) = CommandVerb
call_verb Halt = HaltVerb
call_verb (Store a k w) = StoreVerb
call_verb (Readiness r) = cond r ReadyVerb UnreadyVerb
call_verb Service = ServiceVerb
call_verb Step = StepVerb

abbrev pub call_words : Call → List (List ℕ)
call_words (Command a b p) = hex 4 a ∷ hex 4 b ∷ cond p [] (codes "bad" ∷ [])
call_words Halt = []
call_words (Store a k w) = hex_address a ∷ hex 2 k ∷ hex 4 w ∷ []
call_words (Readiness r) = []
call_words Service = []
call_words Step = []

abbrev pub call_line : Call → List ℕ
call_line c = spaced (call_text (call_verb c)) (call_words c)

abbrev pub detail : Exception → List ℕ
detail SpecificationCheck = []
detail (Storage f a) = codes " word " ++ hex_address a
detail (NoRecordFound s) = codes " sector " ++ decimal s
detail (FileDataCheck s) = codes " sector " ++ decimal s
detail (EndOfTrack s) = codes " sector " ++ decimal s
detail SeekCheck = []
detail NotReady = []

abbrev pub ended_text : Exception → ℕ → List ℕ
ended_text e b = decimal (exception_number e) ++ (codes " " ++ (exception_word e ++ (codes " layer " ++ (layer_word (layer_of e) ++ (codes " dcb " ++ (hex 4 b ++ detail e))))))

abbrev pub refused_text : ℕ → List ℕ → List ℕ
refused_text n w = codes "refused " ++ (decimal n ++ (codes " " ++ w))

abbrev pub answer_text : Answer → List ℕ
answer_text (Accepted w) = codes "code 7 word " ++ hex 4 w
answer_text (CommandRefused r) = codes "refused " ++ (decimal (command_number r) ++ (codes " " ++ (command_word r ++ (codes " code " ++ decimal (command_code r)))))
answer_text Done = codes "ok"
answer_text (StoreRefused f) = refused_text (fault_number f) (fault_word f)
answer_text (Interrupt w) = codes "code " ++ (decimal w.code ++ (codes " id " ++ hex 4 w.id_word))
answer_text NothingWaits = refused_text (answer_number NothingWaits) (answer_word NothingWaits)
answer_text Stepped = codes "0"
answer_text (Ended e b) = ended_text e b
answer_text Idle = refused_text (answer_number Idle) (answer_word Idle)

abbrev pub answer_line : Call → Answer → List ℕ
answer_line c a = call_text (call_verb c) ++ (codes ": " ++ answer_text a)
