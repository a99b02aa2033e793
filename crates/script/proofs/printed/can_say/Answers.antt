use Rattle.std.proofs.Common.{◌≡◌, ℕ, true, refl, rules}
use Rattle.card.specs.declared.call.Call.{Call}
use Rattle.card.specs.declared.call.Call.TheVariants.{Command, Halt, Store, Readiness, Service, Step}
use Rattle.script.specs.Printings.{sayable}
use Rattle.script.proofs.Back.{read_back, script_read_back}
use Rattle.script.proofs.printed.can_say.Goals as goal

other_than_store : (c : Call) → ((a k w : ℕ) → c ≡ Store a k w → ⊥) → true ≡ sayable c
other_than_store (Store a k w) h = absurd (h a k w refl)
other_than_store (Command a b p) h = refl
other_than_store Halt h = refl
other_than_store (Readiness r) h = refl
other_than_store Service h = refl
other_than_store Step h = refl

pub returns-in-Store : goal.returns-in-Store
returns-in-Store c = record { answer = search rules; read_back = read_back; script_read_back = script_read_back }

pub returns-in_default : goal.returns-in_default
returns-in_default c = record { answer = other_than_store c.args.call c.in_default.not-Store; read_back = read_back; script_read_back = script_read_back }
