use Rattle.std.proofs.Common.{sym, subst, arith}
use Rattle.card.specs.Calls.{new_card}
use Rattle.card.specs.Carrying.{world_around}
use Rattle.card.specs.declared.registers.Card.{Card}
use Rattle.runs.specs.Runs.{calls_of, answers_of}
use Rattle.runs.proofs.Auditing.{run_audit}
use Rattle.runs.proofs.Keeping.{Underway, underway_none, underway_more, underway_all}
use Rattle.runs.proofs.Untouched.{run_law}
use Rattle.runs.proofs.run.run.Goals as goal

pub loop-entry-init : goal.loop-entry-init
loop-entry-init g c =
    let es = c.args.entries.now in
    let here = c.args.around.now in
    subst (λ (k : Card). Underway g.D.Drive.meaning g.S.Storage.meaning g.D.Drive.loan g.S.Storage.loan new_card es es here here 0 k) (sym c.new-card.ensures)
    (underway_none g.D.Drive.meaning g.S.Storage.meaning g.D.Drive.loan g.S.Storage.loan new_card es here)

pub loop-entry-preserved : goal.loop-entry-preserved
loop-entry-preserved g c =
    underway_more g.D.Drive.meaning g.S.Storage.meaning g.D.Drive.loan g.S.Storage.loan new_card c.args.entries.now c.args.around.now c.loop-entry.entries c.loop-entry.around c.loop-entry.entry-index c.loop-entry.card
    c.loop-entry.invariant c.carry_out-entry.new.around c.carry_out-entry.new.self _ c.carry_out-entry.result (omega arith) c.carry_out-entry.ensures

pub returns : goal.returns
returns g c =
    let calls = calls_of c.args.entries.now in
    let w = world_around g.D.Drive.meaning g.S.Storage.meaning c.args.around.now in
    let end = world_around g.D.Drive.meaning g.S.Storage.meaning c.loop-entry.around in
    let all = underway_all g.D.Drive.meaning g.S.Storage.meaning g.D.Drive.loan g.S.Storage.loan new_card c.args.entries.now c.args.around.now c.loop-entry.entries c.loop-entry.around c.loop-entry.entry-index c.loop-entry.card
    c.loop-entry.invariant (omega arith) in
    record {
      calls = c.loop-entry.invariant.running.calls;
      carries = all;
      law = run_law calls w end c.loop-entry.card (answers_of c.loop-entry.entries) all.came;
      audit = run_audit new_card w calls;
    }
