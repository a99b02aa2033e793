use Rattle.std.proofs.Common.{◌≡◌, ◌*◌, take}
use lib.Seq.{paste}
use Rattle.std.specs.List.{flat_map}
use Rattle.pack.specs.Fresh.{order, fresh_record}
use Rattle.pack.proofs.plain_pack.fresh.put_fresh_track.Given as goal

abbrev pub invariant-loop-place : goal.invariant-loop-place
invariant-loop-place l = l.pack ≡ paste l.initial.pack l.at (flat_map (fresh_record l.track) (take l.place order)) (l.place * 264)
