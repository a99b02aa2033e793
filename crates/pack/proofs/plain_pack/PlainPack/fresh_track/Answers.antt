use Rattle.std.specs.Vec.{with_items}
use Rattle.std.proofs.Common.{sym, ap, ◌∙◌, arith}
use lib.Seq.{paste}
use Rattle.std.proofs.lemmas.List.{with_items_is}
use Rattle.std.proofs.lemmas.Bool.{cond-true, false≢true}
use Rattle.pack.specs.Fresh.{fresh_track}
use Rattle.pack.specs.Plain.{plain_disk}
use Rattle.pack.proofs.PlainDisk.{plain_lawful}
use Rattle.pack.proofs.FreshTrack.{plain_refreshed}
use Rattle.pack.proofs.plain_pack.PlainPack.fresh_track.Goals as goal

pub invariant_of-self-clause-drive : goal.invariant_of-self-clause-drive
invariant_of-self-clause-drive c =
    let pack = c.args.self.now in
    let v = with_items pack.bytes c.put_fresh_track.new.pack in
    plain_lawful pack.heads v.items pack.low pack.high (sym v.ok.0 ∙ pack.long)

pub returns : goal.returns
returns c =
    let pack = c.args.self.now in
    let at = rw c.in_ok-at.ensures.ok_part at c.start.ensures in
    let len = pack.bytes.ok.0 in
    let new = fresh_track c.args.track in
    let items = with_items_is pack.bytes c.put_fresh_track.new.pack (omega arith) ∙ c.put_fresh_track.ensures
    ∙ ap (λ b. paste b c.in_ok-at.at new 15840) c.as_mut_slice.ensures.value
    ∙ ap (λ i. paste pack.bytes.items i new 15840) at.1 in
    record {
      answer = sym (cond-true _ _ _ at.0);
      bytes = items ∙ sym (cond-true _ _ _ at.0);
      after = ap (plain_disk pack.heads) items
          ∙ plain_refreshed pack.heads pack.bytes.items pack.low pack.high (sym len ∙ pack.long) c.args.track at.0
          ∙ sym (cond-true _ _ _ at.0);
      refused = λ e. absurd (false≢true e);
    }
