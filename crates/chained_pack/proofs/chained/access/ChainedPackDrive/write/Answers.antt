use Rattle.std.specs.Vec.{with_items}
use Rattle.std.proofs.Common.{length, sym, ap, ◌∙◌, arith, is_err}
use Rattle.std.proofs.lemmas.List.{with_items_is}
use Rattle.std.proofs.lemmas.Bool.{false≢true}
use Rattle.pack.specs.Layout.{IsWithin, data_put_in}
use Rattle.chained_pack.specs.Format.{chained_disk}
use Rattle.chained_pack.specs.Lawful.{is_lawful}
use Rattle.chained_pack.proofs.ChainedDisk.{chained_lawful, bytes_put, lawful_put, disk_put}
use Rattle.chained_pack.proofs.chained.access.ChainedPackDrive.write.Goals as goal

pub invariant_of-self : goal.invariant_of-self
invariant_of-self c =
    let pack = c.args.self.now in
    let at = c.in_ok-at.at in
    let new = c.args.bytes.now in
    let len = pack.bytes.ok.0 in
    let stands = c.in_ok-at.ensures.0 in
    let within : IsWithin at (length c.as_mut_slice.result.now) = rw c.as_mut_slice.ensures.value stands.within in
    let items =
    with_items_is pack.bytes c.put_data.new.pack (omega arith) ∙ (c.put_data.ensures.within within).1 ∙ ap (λ l. data_put_in l at new) c.as_mut_slice.ensures.value in
    let lawful =
    ap is_lawful items
    ∙ lawful_put pack.bytes.items new pack.lawful (omega arith) c.args.track c.args.place at stands c.in_ok-at.ensures.1 in
    record { lawful = lawful; drive = chained_lawful (with_items pack.bytes c.put_data.new.pack).items lawful }

pub returns : goal.returns
returns c =
    let pack = c.args.self.now in
    let b = pack.bytes.items in
    let at = c.in_ok-at.at in
    let new = c.args.bytes.now in
    let len = pack.bytes.ok.0 in
    let stands = c.in_ok-at.ensures.0 in
    let accepted = c.in_ok-at.ensures.1 in
    let within : IsWithin at (length c.as_mut_slice.result.now) = rw c.as_mut_slice.ensures.value stands.within in
    let done = c.put_data.ensures.within within in
    let items = with_items_is pack.bytes c.put_data.new.pack (omega arith) ∙ done.1 ∙ ap (λ l. data_put_in l at new) c.as_mut_slice.ensures.value in
    record {
      answer = done.0 ∙ accepted;
      after = ap chained_disk items ∙ disk_put b new pack.lawful (omega arith) c.args.track c.args.place at stands accepted;
      refused = λ e. absurd (false≢true (sym (ap is_err done.0) ∙ e));
      bytes = items ∙ bytes_put b new pack.lawful (omega arith) c.args.track c.args.place at stands accepted;
    }
