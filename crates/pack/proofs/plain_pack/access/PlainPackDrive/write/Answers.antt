use Rattle.std.specs.Vec.{with_items}
use Rattle.std.proofs.Common.{◌+◌, length, sym, ap, ap₂, ◌∙◌, arith, is_err, slice_set}
use Rattle.std.proofs.Math.Seq.{paste}
use Rattle.std.proofs.lemmas.Bool.{false≢true}
use Rattle.std.proofs.lemmas.List.{with_items_is}
use Rattle.pack.specs.Layout.{IsWithin, data_put_in}
use Rattle.pack.specs.Plain.{plain_disk}
use Rattle.pack.proofs.PlainDisk.{plain_lawful, plain_put}
use Rattle.pack.proofs.plain_pack.access.PlainPackDrive.write.Goals as goal

pub invariant_of-self-clause-drive : goal.invariant_of-self-clause-drive
invariant_of-self-clause-drive c =
    let pack = c.args.self.now in
    let v = with_items pack.bytes c.put_data.new.pack in
    plain_lawful pack.heads v.items pack.low pack.high (sym v.ok.0 ∙ pack.long)

pub returns : goal.returns
returns c =
    let pack = c.args.self.now in
    let at = c.in_ok-at.at in
    let new = c.args.bytes.now in
    let len = pack.bytes.ok.0 in
    let stands = c.in_ok-at.ensures.0 in
    let accepted = c.in_ok-at.ensures.1 in
    let within : IsWithin at (length c.as_mut_slice.result.now) = rw c.as_mut_slice.ensures.value stands.within in
    let done = c.put_data.ensures.within within in
    let items = with_items_is pack.bytes c.put_data.new.pack (omega arith) ∙ done.1 ∙ ap (λ l. data_put_in l at new) c.as_mut_slice.ensures.value in
    record {
      answer = done.0 ∙ accepted;
      after = ap (plain_disk pack.heads) items
          ∙ plain_put pack.heads pack.bytes.items new pack.low pack.high (sym len ∙ pack.long) (omega arith) c.args.track c.args.place at stands accepted;
      refused = λ e. absurd (false≢true (sym (ap is_err done.0) ∙ e));
      kept = λ _. items ∙ ap₂ (λ i j. paste (slice_set pack.bytes.items (i + 1) 0) j new 256) stands.front stands.body;
    }
