use Rattle.std.proofs.Common.{◌≡◌, [], ◌∷◌, ◌-◌, length, ap, sym, ◌∙◌, arith}
use Rattle.chained_pack.specs.Format.{directory, records_from}
use Rattle.chained_pack.specs.declared.layout.RecordHead.{RecordHead}
use Rattle.chained_pack.proofs.Lookups.{next_in_use}
use Rattle.chained_pack.proofs.Passes.{records_none, records_past, records_more}
use Rattle.chained_pack.proofs.records.RecordsIterator.next.Goals.{then-self-eq0-via-then-self-eq0, then-self-eq0-via-else-self-eq0+then-self-eq0-2}
use Rattle.chained_pack.proofs.records.RecordsIterator.next.Goals as goal

pub returns-then-self-eq0-clause-steps : goal.returns-then-self-eq0-clause-steps
returns-then-self-eq0-clause-steps c =
    let s = c.args.self.now in
    let end = elim c.then-self-eq0.branch as (λ _. records_from s.chains.image.bytes.now s.most s.index ≡ []) [
      | then-self-eq0-via-then-self-eq0 w ↦ records_none s.chains.image.bytes.now s.most s.index w.if-self-eq0.true
      | then-self-eq0-via-else-self-eq0+then-self-eq0-2 w ↦ records_past s.chains.image.bytes.now s.most s.index w.if-self-eq0-2.true
    ] in
    (end, end)

pub invariant_of-self : goal.invariant_of-self
invariant_of-self c =
    let s = c.args.self.now in
    record {
      within = omega (arith, next_in_use (directory s.chains.image.bytes.now) s.chains.clear s.index (omega arith) s.within, ap (λ (h : RecordHead). h.next) c.head-front.ensures);
    }

pub returns-clause-steps : goal.returns-clause-steps
returns-clause-steps c =
    let s = c.args.self.now in
    records_more s.chains.image.bytes.now s.most s.index (omega arith) c.if-self-eq0.false
    ∙ ap (λ (h : RecordHead). (s.index, h) ∷ records_from s.chains.image.bytes.now (s.most - 1) h.next) (sym c.head-front.ensures)

pub returns-clause-goes : goal.returns-clause-goes
returns-clause-goes c =
    let s = c.args.self.now in
    let h = c.head-front.result in
    let steps =
    records_more s.chains.image.bytes.now s.most s.index (omega arith) c.if-self-eq0.false
    ∙ ap (λ (h : RecordHead). (s.index, h) ∷ records_from s.chains.image.bytes.now (s.most - 1) h.next) (sym c.head-front.ensures) in
    record { on = λ _. (tt, tt, omega (arith, ap length steps)); keeps = tt; rests = λ _. tt }
