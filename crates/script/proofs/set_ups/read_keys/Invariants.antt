use Rattle.std.proofs.Common.{◌≡◌, ◌+◌, ◌≤◌, length}
use denote.Text.{Utf8}
use denote.Shadow.{shadow}
use Rattle.script.specs.Readings.{keys_of}
use Rattle.script.specs.Words.{words}
use Rattle.script.proofs.Keying.{keys_from}
use Rattle.script.proofs.set_ups.read_keys.Given as goal

abbrev pub invariant-loop-word : goal.invariant-loop-word
invariant-loop-word l = shadow (Utf8 l.rest) × (keys_from l.count l.keys (words l.rest) ≡ keys_of (words l.text))
    × (length l.keys ≡ 32) × (l.count + length l.rest ≤ length l.text)

abbrev pub decreases-loop-word : goal.decreases-loop-word
decreases-loop-word l = length l.rest
