-- What is said to a person of a line that can't be read.
--   reason_text   the text of a reason
use Rattle.std.specs.Prelude.{ℕ, List, codes}
use Rattle.script.specs.declared.reason.Reason.{Reason}
use Rattle.script.specs.declared.reason.Reason.TheVariants.{UnknownWord, WordMissing, WordTooMany, NoNumber, NoField, TooManyWords}

abbrev pub reason_text : Reason → List ℕ
reason_text UnknownWord = codes "unknown word"
reason_text WordMissing = codes "a word is missing"
reason_text WordTooMany = codes "a word too many"
reason_text NoNumber = codes "not a number in range"
reason_text NoField = codes "a mark is on id or data"
reason_text TooManyWords = codes "at most 65536 words are shown"
