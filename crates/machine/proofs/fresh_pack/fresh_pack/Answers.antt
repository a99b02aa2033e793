use Rattle.std.proofs.Common.{ℕ, ◌*◌, Some, vec_items, sym, ap, ◌∙◌, subst}
use Rattle.drive.specs.Disk.{Disk}
use Rattle.pack.specs.Plain.{plain_disk}
use Rattle.machine.specs.Freshness.{AllFresh}
use Rattle.machine.proofs.AllTracks.{fresh_heads, all_fresh}
use Rattle.machine.proofs.fresh_pack.fresh_pack.Goals as goal

pub returns : goal.returns
returns c =
    let p = c.in_ok-pack.pack in
    let d = plain_disk p.heads (vec_items p.bytes) in
    let opened = c.in_ok-pack.ensures in
    let made = c.make_fresh.ensures in
    let heads = ap (λ (x : Disk). x.heads) made ∙ fresh_heads d (303 * p.heads) in
    (opened.0, opened.2 ∙ ap (λ (n : ℕ). Some n) (sym heads), subst AllFresh (sym made) (all_fresh d))
