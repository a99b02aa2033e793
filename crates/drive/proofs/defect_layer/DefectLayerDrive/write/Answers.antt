use Rattle.std.proofs.Common.{◌≡◌, true, sym, ap, ◌∙◌, ap₂, rules}
use Rattle.std.proofs.lemmas.Bool.{cond-true}
use Rattle.basics.specs.Marks.{without}
use Rattle.basics.specs.Table.{held}
use Rattle.drive.specs.Disk.{is_good, replaced}
use Rattle.drive.specs.Defects.{defect_disk, same_defect, defect_of}
use Rattle.drive.specs.declared.defect.Field.TheVariants.{Data}
use Rattle.drive.proofs.Defective.{write_through, good_from}
use Rattle.drive.proofs.defect_layer.DefectLayerDrive.write.Goals as goal

pub returns-clause-after : goal.returns-clause-after
returns-clause-after g c =
    let d = g.D.Drive.meaning c.below_mut.result.now in
    let t = c.args.track in
    let p = c.args.place in
    let marks = held c.args.self.now.marks in
    let below = c.in_ok-write.ensures in
    let good = good_from _ _ below.answer in
    let shown : is_good ((defect_disk marks d).sector t p).id.condition ≡ true = search (rules, good) in
    let left = c.lift.ensures.after ∙ ap (λ m. without same_defect (defect_of Data t p) (held m)) c.marks_mut.ensures.value in
    rw (sym c.below_mut.ensures.value)
    (ap₂ defect_disk left (below.after ∙ cond-true _ (replaced d t p c.args.bytes.now) d good)
    ∙ write_through c.args.bytes.now marks d t p ∙ sym (cond-true _ _ _ shown))
