use Rattle.std.proofs.Common.{◌+◌, ◌*◌, [], get_or, ap, ◌∙◌, arith}
use lib.Seq.{paste}
use Rattle.std.proofs.lemmas.List.Edits.{paste_none}
use Rattle.pack.specs.Fresh.{order, fresh_record}
use Rattle.pack.proofs.FreshTrack.{place_more, all_places}
use Rattle.pack.proofs.plain_pack.fresh.put_fresh_track.Goals as goal

pub loop-place-init : goal.loop-place-init
loop-place-init c = paste_none c.args.pack.now c.args.at []

pub loop-place-preserved : goal.loop-place-preserved
unfolding order
loop-place-preserved c =
    let i = c.loop-place.place in
    let t = c.args.track in
    c.put_fresh.ensures
    ∙ ap (λ l. paste l (c.args.at + i * 264) (fresh_record t (get_or order i 0)) 264) c.loop-place.invariant
    ∙ place_more c.args.pack.now c.args.at t i c.loop-place-test.true (omega arith)

pub returns : goal.returns
unfolding order
returns c = c.loop-place.invariant ∙ all_places c.args.pack.now c.args.at c.args.track c.loop-place.place (omega arith)
