-- The rule of each of the six calls.
--   call   what a call answers and leaves, by the rules
use Rattle.card.specs.Acts.{Act}
use Rattle.card.specs.Calls.{Turn, command, halt, store, readiness, service}
use Rattle.card.specs.Steps.{step}
use Rattle.card.specs.declared.call.Call.{Call}
use Rattle.card.specs.declared.call.Call.TheVariants.{Command, Halt, Store, Readiness, Service, Step}
use Rattle.card.specs.declared.registers.Card.{Card}

abbrev pub call : Card → Call → Act Turn
call c (Command first second parity) = command c first second parity
call c Halt = halt c
call c (Store a k x) = store c a k x
call c (Readiness r) = readiness c r
call c Service = service c
call c Step = step c
