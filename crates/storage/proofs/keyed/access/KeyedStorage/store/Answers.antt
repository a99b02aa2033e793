use Rattle.std.proofs.Common.{◌≡◌, ◌%◌, Ok, Err, refl, ap, ◌∙◌}
use Rattle.storage.specs.Memory.{Verdict, Memory, with_word, where_allowed}
use Rattle.storage.specs.Makes.{plain_memory, and_then, keyed_memory}
use Rattle.storage.proofs.keyed.access.KeyedStorage.store.Goals as goal

-- what a layer allows is stored below, and nowhere else
stored_below : (g : Memory → Memory) (v u : Verdict) (x : Unit {0}) (after before : Memory) → Ok x ≡ u → g (where_allowed v after before) ≡ where_allowed (and_then v u) (g after) (g before)
stored_below g (Ok _) u x after before ok = ap (λ t. where_allowed t (g after) (g before)) ok
stored_below g (Err f) u x after before ok = refl

pub returns-clause-after : goal.returns-clause-after
returns-clause-after c =
    let keys = c.args.self.now.keys.items in
    let m = plain_memory c.args.self.now.plain.bytes.items in
    ap (keyed_memory keys) c.store.ensures.after
    ∙ stored_below (keyed_memory keys) (m.stores c.args.address (c.args.key % 8)) _ _ (with_word m c.args.address c.args.word) m c.in_ok-open.ensures
